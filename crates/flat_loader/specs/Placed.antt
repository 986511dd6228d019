-- A program's bytes where its block stands in memory.
use Rattle.std.specs.Prelude.{ℕ, ◌+◌, List, ◌∷◌, map, replicate}
use Rattle.byte_words.specs.Patches.{Patch}
use Rattle.phys_mem.specs.Memory.{place}
use Rattle.bflt_format.specs.Values.{Values}
use Rattle.bflt_format.specs.Spelling.{words_text, header_words}
use Rattle.bflt_format.specs.Image.{link}
use Rattle.flat_loader.specs.Original.{flat_original, header_len, block_len}

-- the same bytes, n places further
abbrev pub moved : ℕ → Patch → Patch
moved n p = record { at = n + p.at; bytes = p.bytes }

-- the links of a body that stands in memory from address b on
abbrev pub links : List ℕ → ℕ → List ℕ → List Patch
links body b records = map (λ r. moved (place b) (link body b r)) records

-- what loading writes below the stack, one over the other: zeros in the whole block, the header, the body, the links
abbrev pub image_patches : Values → ℕ → List Patch
image_patches f block =
    record { at = place block; bytes = replicate (block_len (flat_original f)) 0 }
    ∷ record { at = place block; bytes = words_text (header_words f) }
    ∷ record { at = place block + header_len; bytes = f.body }
    ∷ links f.body (block + header_len) f.records

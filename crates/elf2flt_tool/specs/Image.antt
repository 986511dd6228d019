-- The image of an ELF file at a base: its sections' bytes, with every kept relocation computed anew there.
-- RISC-V ELF psABI, "Relocations": a static relocation of all sections by one distance.
use Rattle.std.specs.Prelude.{◌≡◌, ℕ, ◌+◌, ◌≤◌, not, List, [], ◌∷◌, length, map, filter, Option, if◌then◌else◌}
use Rattle.std.specs.List.{range_with_len}
use Rattle.byteorder.specs.Endian.{little_number}
use Rattle.byte_words.specs.Patches.{Patch, patched, painted, bytes_below, from_base, little_word}
use Rattle.bflt_format.specs.Flat.{behind_header}
use Rattle.elf32_reader.specs.Header.{count_of}
use Rattle.elf32_reader.specs.Sections.{section, content}
use Rattle.flat_layout.specs.declared.layout.Layout.{Layout}
use Rattle.flat_layout.specs.Numbering.{has_bytes}
use Rattle.flat_layout.specs.Layout.{layout, off, size_of}
use Rattle.psabi_relocs.specs.Shape.{put}
use Rattle.psabi_relocs.specs.Field.{Field}
use Rattle.elf2flt_tool.specs.Relocs.{fields_of}

-- a section's bytes at their numbers; a section without stored bytes has none
unfoldable pub section_patch : List ℕ → ℕ → Patch
section_patch e i = record {
  at = off (layout e) (section e i).addr;
  bytes = if has_bytes (section e i) then content e (section e i) else [];
}

-- the linked bytes by number, zeros where no section stands
unfoldable pub bare : List ℕ → ℕ → ℕ
bare e = painted (map (section_patch e) (range_with_len 0 (count_of e))) (λ n. 0)

-- room for a header, and behind it the linked bytes of text and data
pub record IsLinkedFile (e file : List ℕ) : Type 0 where
  pub header : 64 ≤ length file
  pub image : behind_header file ≡ bytes_below ((layout e).text + (layout e).data_len) (bare e)

-- the little-endian word of a picture at number n
unfoldable pub word_of : (ℕ → ℕ) → ℕ → ℕ
word_of m n = little_number 4 (m n ∷ m (n + 1) ∷ m (n + 2) ∷ m (n + 3) ∷ [])

-- a picture with a field's value in its bits
unfoldable pub written : Layout → Field → (ℕ → ℕ) → ℕ → ℕ
written l f m = patched (little_word (off l f.place) (put f.shape (word_of m (off l f.place)) f.value)) m

abbrev pub overwritten : Layout → List Field → (ℕ → ℕ) → ℕ → ℕ
overwritten l [] m = m
overwritten l (f ∷ fs) m = overwritten l fs (written l f m)

-- a pointer's word
unfoldable pub word_patch : Layout → Field → Patch
word_patch l f = little_word (off l f.place) f.value

abbrev pub pointers : List Field → List Field
pointers fs = filter (λ f. f.recorded) fs

-- the fields overwritten with their values, the pointers and slots that move last
unfoldable pub relocated : Layout → List Field → (ℕ → ℕ) → ℕ → ℕ
relocated l fs m = painted (map (word_patch l) (pointers fs)) (overwritten l (filter (λ f. not f.recorded) fs) m)

-- the whole distance from V0 to the base, modulo 2^32, is off(b)
unfoldable pub image : List ℕ → ℕ → ℕ → Option ℕ
image e b = from_base b (size_of (layout e)) (relocated (layout e) (fields_of e (off (layout e) b)) (bare e))

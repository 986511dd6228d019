-- The linked file in the ELF file's own place: which bytes move where. For private functions only.
use Rattle.std.specs.Prelude.{◌≡◌, ℕ, ◌+◌, ◌-◌, ◌≤◌, List, [], ◌∷◌, ◌++◌, length, map, take, drop, replicate}
use Rattle.byte_words.specs.Patches.{Patch, painted, bytes_below}
use Rattle.elf32_reader.specs.Sections.{section}
use Rattle.bflt_format.specs.Flat.{behind_header}
use Rattle.flat_layout.specs.Layout.{layout, off}
use Rattle.elf2flt_tool.specs.declared.slide.Slide.{Slide}
use Rattle.elf2flt_tool.specs.Image.{bare}

-- where a section's bytes stand in the ELF file, and behind a header of 64 bytes
unfoldable pub section_slide : List ℕ → ℕ → Slide
section_slide e i = record { from = (section e i).offset; to = 64 + off (layout e) (section e i).addr; len = (section e i).size }

-- the bytes that a slide brings, at their number in the image
unfoldable pub slid_patch : List ℕ → Slide → Patch
slid_patch e s = record { at = s.to - 64; bytes = take s.len (drop s.from e) }

-- from the offset `end` on each moves down or stays, behind those before it, inside a file of `size` bytes
abbrev pub GoDown : ℕ → ℕ → List Slide → Type 0
GoDown size end [] = Unit {0}
GoDown size end (s ∷ ss) = (end ≤ s.to) × (s.to ≤ s.from) × (s.from + s.len ≤ size) × GoDown size (s.to + s.len) ss

-- where they end
abbrev pub end_of : ℕ → List Slide → ℕ
end_of end [] = end
end_of end (s ∷ ss) = end_of (s.to + s.len) ss

-- the file e behind these slides, of which the last ends at `end`: in front of that stand their bytes and zeros between them, and from there on it is as it was
pub record IsSlid (e file : List ℕ) (end : ℕ) (ss : List Slide) : Type 0 where
  pub len : length file ≡ length e
  pub rest : drop end file ≡ drop end e
  pub header : 64 ≤ end
  pub fits : end ≤ length e
  pub image : (len : ℕ) → end ≤ len → behind_header (take end file) ++ replicate (len - end) 0 ≡ bytes_below (len - 64) (painted (map (slid_patch e) ss) (λ n. 0))

-- the slides that make a file its linked file
pub record AreSlides (e : List ℕ) (ss : List Slide) : Type 0 where
  pub header : 64 ≤ length e
  pub down : GoDown (length e) 64 ss
  pub fits : end_of 64 ss ≤ 64 + (layout e).text + (layout e).data_len
  pub image : bytes_below ((layout e).text + (layout e).data_len) (painted (map (slid_patch e) ss) (λ n. 0)) ≡ bytes_below ((layout e).text + (layout e).data_len) (bare e)

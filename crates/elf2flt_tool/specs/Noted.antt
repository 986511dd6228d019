-- How far the walks for all faults have come. For private functions only.
use Rattle.std.specs.Prelude.{◌≡◌, ℕ, Bool, List, [], ◌∷◌, ◌++◌, map, flat_map, filter, if◌then◌else◌}
use Rattle.std.specs.List.{range_with_len}
use Rattle.flat_layout.specs.declared.layout.Layout.{Layout}
use Rattle.flat_layout.specs.Layout.{layout}
use Rattle.psabi_relocs.specs.declared.spans.Span.{Span}
use Rattle.elf2flt_tool.specs.declared.cover.Cover.{Cover}
use Rattle.elf2flt_tool.specs.declared.entry_word.EntryWord.{EntryWord}
use Rattle.elf2flt_tool.specs.declared.noted.Noted.{Noted}
use Rattle.elf2flt_tool.specs.Cover.{IsCover, is_met, recorded_of}
use Rattle.elf2flt_tool.specs.Faults.{Entry, entry_at, entries_in, reloc_faults, sound_spans, at_entry, outside_of, layout_faults, stored_len}

-- one section, if it passes
abbrev pub if_passes : (ℕ → Bool) → ℕ → List ℕ
if_passes p i = if p i then i ∷ [] else []

-- the entries of the sections before section i, and the first j entries of that
abbrev pub entries_before : List ℕ → ℕ → ℕ → List Entry
entries_before e i j = flat_map (entries_in e) (range_with_len 0 i) ++ map (entry_at i) (range_with_len 0 j)

-- what is noted of the entries xs: their faults behind those of the layout, the words that point outside, and which bytes belong to
-- the sound ones
pub record IsNoted (e : List ℕ) (xs : List Entry) (n : Noted) : Type 0 where
  pub faults : n.faults.items ≡ layout_faults e ++ flat_map (reloc_faults e) xs
  pub outside : n.outside.items ≡ flat_map (outside_of e) xs
  pub cover : IsCover (layout e) (stored_len e) (flat_map (sound_spans e) xs) n.cover

-- the word of an entry with the bytes ss, if it meets another, as what is covered tells
abbrev pub met_in : Layout → Cover → Entry → List Span → List EntryWord
met_in l c x ss = map (λ r. at_entry x r.place) (filter (is_met c) (recorded_of l ss))

abbrev pub met_by : List ℕ → Cover → Entry → List EntryWord
met_by e c x = met_in (layout e) c x (sound_spans e x)

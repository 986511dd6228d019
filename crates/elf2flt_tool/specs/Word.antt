-- The words that a flat file records: the pointers and GOT slots whose symbols move, by numbers of the image. Where they may
-- point, and what they may not meet, is this project's own rule.
use Rattle.std.specs.Prelude.{ℕ, ◌+◌, ◌<◌, ◌≤◌, slice_index, Bool, not, ◌&&◌, ◌||◌, nat_lt, ◌==◌, min, max, List, [], ◌∷◌, ◌++◌, map, flat_map, filter, take, drop, length, Option, Some, None}
use Rattle.std.specs.List.{list_any, range_with_len, slice_index_or}
use Rattle.byte_words.specs.Numbers.{low_first, number_at}
use Rattle.flat_layout.specs.declared.layout.Layout.{Layout}
use Rattle.flat_layout.specs.Layout.{layout, off, size_of}
use Rattle.psabi_relocs.specs.Field.{Field}
use Rattle.psabi_relocs.specs.declared.spans.Span.{Span}
use Rattle.elf2flt_tool.specs.declared.word.Word.{Word}
use Rattle.elf2flt_tool.specs.Relocs.{fields_of, spans_of}
use Rattle.elf2flt_tool.specs.Image.{pointers}

-- the number of a recorded word's place, and the number of the place that it points to
unfoldable pub numbered : Layout → Field → Word
numbered l f = record { place = off l f.place; target = off l f.value }

-- of each entry that records one, in the order of the entries
unfoldable pub words : List ℕ → List Word
words e = map (numbered (layout e)) (pointers (fields_of e 0))

abbrev pub places : List Word → List ℕ
places ws = map (λ w. w.place) ws

-- one of the words begins at number n
abbrev pub begins_at : List Word → ℕ → Bool
begins_at ws n = list_any (λ w. w.place == n) ws

-- the numbers of text and data at which a recorded word begins, ascending
unfoldable pub records : List ℕ → List ℕ
records e = filter (begins_at (words e)) (range_with_len 0 ((layout e).text + (layout e).data_len))

-- the word at number p of the image's linked bytes, which already holds the address that it points to
abbrev pub word_at : Layout → List ℕ → ℕ → Word
word_at l image p = record { place = p; target = off l (number_at low_first 4 image p) }

-- places whose words have no byte in common, ascending
abbrev pub AreApart : List ℕ → Type 0
AreApart ps = (j k : ℕ) → j < k → k < length ps → slice_index ps j + 4 ≤ slice_index ps k

abbrev pub lower : ℕ → Option ℕ → ℕ
lower n None = n
lower n (Some m) = min n m

-- the least number of a list
abbrev pub lowest : List ℕ → Option ℕ
lowest [] = None
lowest (n ∷ ns) = Some (lower n (lowest ns))

-- it points to no byte of the image, nor to its end
abbrev pub points_outside : ℕ → Word → Bool
points_outside size w = w.target == 0 || nat_lt size w.target

-- the least number of a record whose word points outside
unfoldable pub target_outside : List ℕ → Option ℕ
target_outside e = lowest (places (filter (points_outside (size_of (layout e))) (words e)))

-- the word at number p and the span have a common byte, and the span isn't a recorded word at the same place
abbrev pub meets : Layout → ℕ → Span → Bool
meets l p s =
    not (s.recorded && off l s.place == p) && nat_lt (max p (off l s.place)) (min (p + 4) (off l s.place + s.len))

-- the spans of all entries but entry k
abbrev pub others : ℕ → List (List Span) → List Span
others k es = flat_map (λ ss. ss) (take k es ++ drop (k + 1) es)

-- the numbers of an entry's recorded words
abbrev pub recorded_places : Layout → List Span → List ℕ
recorded_places l ss = map (λ s. off l s.place) (filter (λ s. s.recorded) ss)

-- the numbers of entry k's recorded words that meet the span of another entry
abbrev pub met_words : Layout → List (List Span) → ℕ → List ℕ
met_words l es k = filter (λ p. list_any (meets l p) (others k es)) (recorded_places l (slice_index_or es k []))

-- the least number of a record that meets the bytes of another relocation
unfoldable pub word_overlap : List ℕ → Option ℕ
word_overlap e = lowest (flat_map (met_words (layout e) (spans_of e)) (range_with_len 0 (length (spans_of e))))

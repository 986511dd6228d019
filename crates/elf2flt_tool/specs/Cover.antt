-- What the test for overlaps keeps of the spans of relocations, by numbers of the image.
use Rattle.std.specs.Prelude.{◌≡◌, ℕ, ◌+◌, ◌-◌, ◌<◌, ◌≤◌, Bool, true, not, ◌&&◌, ◌||◌, nat_lt, nat_le, ◌==◌, min, List, [], ◌∷◌, map, filter, count_by, slice_index, length, Option, Some, None, if◌then◌else◌}
use Rattle.std.specs.Option.{option_to_list}
use Rattle.std.specs.List.{list_any, range_with_len}
use Rattle.flat_layout.specs.declared.layout.Layout.{Layout}
use Rattle.flat_layout.specs.Layout.{off}
use Rattle.psabi_relocs.specs.declared.spans.Span.{Span}
use Rattle.psabi_relocs.specs.declared.spans.Spans.{Spans}
use Rattle.elf2flt_tool.specs.declared.cover.Cover.{Cover}
use Rattle.elf2flt_tool.specs.declared.overlap.Recorded.{Recorded}
use Rattle.elf2flt_tool.specs.Word.{lowest}

-- the bytes of one relocation
abbrev pub listed : Spans → List Span
listed s = s.own ∷ option_to_list s.slot

-- a recorded span is a word
abbrev pub IsWord : Span → Type 0
IsWord s = s.recorded ≡ true → s.len ≡ 4

-- the span's bytes are among the first n of the image
abbrev pub IsInside : Layout → ℕ → Span → Type 0
IsInside l n s = 0 < s.len → off l s.place + s.len ≤ n

-- the span isn't recorded, and byte b is one of its bytes
abbrev pub covers : Layout → ℕ → Span → Bool
covers l b s = not s.recorded && nat_le (off l s.place) b && nat_lt b (off l s.place + s.len)

-- the span is a recorded word that begins at byte q
abbrev pub begins : Layout → ℕ → Span → Bool
begins l q s = s.recorded && off l s.place == q

-- no counts are kept of other bytes than text and data
pub record HasRoom (c : Cover) : Type 0 where
  pub still : length c.still.items ≤ c.len
  pub words : length c.words.items ≤ c.len

-- of each of the image's first n bytes: how many of the spans cover it, and how many recorded words begin there, each up to two
pub record IsCover (l : Layout) (n : ℕ) (ss : List Span) (c : Cover) : Type 0 where
  pub still : (b : ℕ) → slice_index c.still.items b ≡ min 2 (count_by (covers l b) ss)
  pub words : (q : ℕ) → slice_index c.words.items q ≡ min 2 (count_by (begins l q) ss)
  pub len : c.len ≡ n
  pub room : HasRoom c

-- how often an entry's own instruction covers byte b
abbrev pub own_cover : Option ℕ → ℕ → ℕ
own_cover None b = 0
own_cover (Some i) b = if nat_le i b && nat_lt b (i + 4) then 1 else 0

-- another entry covers byte b
abbrev pub is_shared : List ℕ → Recorded → ℕ → Bool
is_shared still r b = nat_lt (own_cover r.instruction b) (slice_index still b)

-- a recorded word begins d bytes behind number p, or before it
abbrev pub begins_near : List ℕ → ℕ → ℕ → Bool
begins_near words p d = nat_lt 0 (slice_index words (p + d)) || nat_le d p && nat_lt 0 (slice_index words (p - d))

-- the recorded word has a byte in common with another entry
unfoldable pub is_met : Cover → Recorded → Bool
is_met c r =
    list_any (λ b. is_shared c.still.items r (r.place + b)) (range_with_len 0 4)
    || list_any (begins_near c.words.items r.place) (range_with_len 1 3)

-- a word at number q has a byte in common with another entry, if it is no slot
unfoldable pub is_plain_met : Cover → ℕ → Bool
is_plain_met c q = is_met c (record { place = q; instruction = None })

-- the numbers at which some recorded word was counted, ascending
abbrev pub counted : List ℕ → List ℕ
counted words = filter (λ q. nat_lt 0 (slice_index words q)) (range_with_len 0 (length words))

-- the recorded words of an entry; the word of a second span is a slot, and the first span its instruction
abbrev pub recorded_of : Layout → List Span → List Recorded
recorded_of l [] = []
recorded_of l (own ∷ []) = if own.recorded then record { place = off l own.place; instruction = None } ∷ [] else []
recorded_of l (own ∷ slot ∷ rest) =
    if slot.recorded then record { place = off l slot.place; instruction = Some (off l own.place) } ∷ [] else []

-- the least number of one of the words rs that has a byte in common with another entry
abbrev pub lowest_met : Cover → List Recorded → Option ℕ
lowest_met c rs = lowest (map (λ r. r.place) (filter (is_met c) rs))

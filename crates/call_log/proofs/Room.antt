-- The limits of the log, by its two counts.
use Rattle.std.proofs.Common.{◌≡◌, ℕ, ◌+◌, ◌-◌, ◌^◌, ◌<◌, ◌≤◌, min, true, false, List, [], ◌∷◌, ◌++◌, map, reverse, refl, sym, ap, ◌∙◌, arith}
use Rattle.std.specs.Prelude.{nat_le, nat_lt, ◌&&◌, sum}
use Rattle.std.proofs.lemmas.Bool.Decides.{nat_tests}
use Rattle.std.proofs.lemmas.List.{map-append, reverse-append}
use Rattle.std.proofs.lemmas.List.Sums.{sum_by-cons}
use Rattle.call_log.specs.Notes.{Note, call_note, load_note, end_note, stray_note, most_calls, most_bytes, weight_of, calls_in, bytes_in, has_room}
use Rattle.call_log.specs.Log.{may_keep}

pub none_below : (c : ℕ) → most_calls ≤ c → nat_lt c most_calls ≡ false
none_below c h = grind (arith, nat_tests)

-- more bytes than a count holds have no room either
pub many_bytes : (notes : List Note) (b : ℕ) → has_room notes (min b (2 ^ 64 - 1)) ≡ has_room notes b
unfolding has_room
many_bytes notes b = grind (arith, nat_tests)

module _ (notes : List Note) (c m : ℕ) (calls : c ≡ sum (map calls_in notes)) (bytes : m ≡ sum (map bytes_in notes)) (calls_fit : c ≤ most_calls) (bytes_fit : m ≤ most_bytes) where
  by_counts : (b : ℕ) → has_room notes b ≡ (nat_le (c + 1) most_calls && nat_le (m + b) most_bytes)
  unfolding has_room
  by_counts b = rw (sym calls, sym bytes) refl

  pub room_left : (b : ℕ) → c < most_calls → nat_le b (most_bytes - m) ≡ has_room notes b
  room_left b below = let h = by_counts b in grind (arith, nat_tests)

  pub no_room : (b : ℕ) → most_calls ≤ c → false ≡ has_room notes b
  no_room b full = let h = by_counts b in grind (arith, nat_tests)

  has_fits : (b : ℕ) → has_room notes b ≡ true → (c + 1 ≤ most_calls) × (m + b ≤ most_bytes)
  has_fits b h = let k = by_counts b in (grind (arith, nat_tests), grind (arith, nat_tests))

  -- what is kept passes no limit
  pub kept_fits : (note : Note) → may_keep notes note ≡ true → (c + calls_in note ≤ most_calls) × (m + bytes_in note ≤ most_bytes)
  kept_fits (call_note entry) h = has_fits (weight_of entry.sent entry.got) h
  kept_fits (load_note entry) h = (omega (arith, calls_fit), omega (arith, bytes_fit))
  kept_fits (end_note pid how) h = (omega (arith, calls_fit), omega (arith, bytes_fit))
  kept_fits (stray_note pid seen) h = (omega (arith, calls_fit), omega (arith, bytes_fit))

-- the notes with one more
pub notes_more : {A : Type 0} (f : A → Note) (xs : List A) (x : A) → reverse (map f (xs ++ x ∷ [])) ≡ f x ∷ reverse (map f xs)
notes_more f xs x = rw (map-append f xs (x ∷ []), reverse-append (map f xs) (f x ∷ [])) refl

pub count_more : (count : Note → ℕ) (notes later : List Note) (note : Note) (c k : ℕ) → c ≡ sum (map count notes) → k ≡ count note → later ≡ note ∷ notes → c + k ≡ sum (map count later)
count_more count notes later note c k so_far one is = let e = ap (λ (ns : List Note). sum (map count ns)) is ∙ sum_by-cons (λ n. n) (count note) (map count notes) in omega (arith, so_far, one, e)

-- a count that was cut, of a number that is far below the cut
pub not_cut : (m b k : ℕ) → m + b ≤ most_bytes → k ≡ min b (2 ^ 64 - 1) → k ≡ b
not_cut m b k fits is = omega (arith, fits, is)

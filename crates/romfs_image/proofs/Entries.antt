-- Entries one by one, and the files that hard links name.
use Rattle.std.proofs.Common.{inl, inr, ◌≡◌, ℕ, zero, suc, ◌+◌, ◌<◌, ◌≤◌, Bool, true, false, List, [], ◌∷◌, ◌++◌, length, take, get_or, refl, ap, ◌∙◌, arith, add-one}
use Rattle.std.specs.List.{list_any}
use Rattle.std.proofs.lemmas.Bool.{eq-eqb, cases_Bool, both_ways, or_from}
use Rattle.std.proofs.lemmas.List.Folds.{list_any_at, list_any-append}
use Rattle.romfs_image.specs.declared.level.Entry as code
use Rattle.romfs_image.specs.Walk.{Entry}
use Rattle.romfs_image.specs.Reading.{is_file_at, is_dangling, FilesFit}
use Rattle.romfs_image.specs.Code.{kind_number, entry_value, found}

-- one more entry
pub found_more : (xs : List code.Entry) (i : ℕ) (d : code.Entry) → i < length xs → found (take (i + 1) xs) ≡ found (take i xs) ++ entry_value (get_or xs i d) ∷ []
found_more xs i d lt = rw add-one (from xs i d lt)
  where
    from : (xs : List code.Entry) (i : ℕ) (d : code.Entry) → i < length xs → found (take (suc i) xs) ≡ found (take i xs) ++ entry_value (get_or xs i d) ∷ []
    from [] i d lt = absurd (omega arith)
    from (y ∷ ys) zero d lt = refl
    from (y ∷ ys) (suc i) d lt = ap (λ es. entry_value y ∷ es) (from ys i d (omega arith))

entry_at : (xs : List code.Entry) (i : ℕ) (d : code.Entry) (e : Entry) → i < length xs → get_or (found xs) i e ≡ entry_value (get_or xs i d)
entry_at [] i d e lt = absurd (omega arith)
entry_at (y ∷ ys) zero d e lt = refl
entry_at (y ∷ ys) (suc i) d e lt = entry_at ys i d e (omega arith)

length-found : (xs : List code.Entry) → length (found xs) ≡ length xs
length-found [] = refl
length-found (x ∷ xs) = ap suc (length-found xs)

-- one that passes is enough
pub any_entry : (p : Entry → Bool) (xs : List code.Entry) (i : ℕ) (d : code.Entry) → i < length xs → p (entry_value (get_or xs i d)) ≡ true → list_any p (found xs) ≡ true
any_entry p xs i d lt passes = list_any_at p (found xs) i (entry_value d) (omega (arith, length-found xs)) (ap p (entry_at xs i d (entry_value d) lt) ∙ passes)

pub none_more : (p : Entry → Bool) (xs : List code.Entry) (i : ℕ) (d : code.Entry) → i < length xs → list_any p (found (take i xs)) ≡ false → p (entry_value (get_or xs i d)) ≡ false
    → list_any p (found (take (i + 1) xs)) ≡ false
none_more p xs i d lt none other =
    ap (list_any p) (found_more xs i d lt) ∙ list_any-append p (found (take i xs)) (entry_value (get_or xs i d) ∷ []) ∙ or_from _ _ none (or_from _ _ other refl)

-- a hard link that doesn't dangle names words in the image
pub link_fits : (y : List ℕ) (xs : List code.Entry) (i : ℕ) (d : code.Entry) → FilesFit y (found xs) → list_any (is_dangling (found xs)) (found xs) ≡ false → i < length xs
    → kind_number (get_or xs i d).header.kind ≡ 0 → (get_or xs i d).header.info + 16 ≤ length y
unfolding is_dangling
link_fits y xs i d fit none lt kind =
    let h = (get_or xs i d).header in
    elim (cases_Bool (list_any (is_file_at h.info) (found xs))) [
      | inl there ↦ fit h.info there
      | inr absent ↦
          let dangles : is_dangling (found xs) (entry_value (get_or xs i d)) ≡ true = rw (eq-eqb (kind_number h.kind) 0 kind, absent) refl in
          absurd (both_ways (list_any (is_dangling (found xs)) (found xs)) none (any_entry (is_dangling (found xs)) xs i d lt dangles))
    ]

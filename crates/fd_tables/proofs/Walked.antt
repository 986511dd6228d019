-- Walks along the descriptors of a table, one after another.
use Rattle.std.proofs.Common.{◌≡◌, ℕ, zero, suc, ◌+◌, ◌<◌, ◌≤◌, Bool, List, [], ◌∷◌, ◌++◌, length, get_or, take, Option, Some, None, refl, ap, ◌∙◌, arith, add-one}
use Rattle.std.specs.List.{range_with_len}
use Rattle.std.proofs.lemmas.List.{take_more}
use Rattle.fd_tables.specs.declared.open_file.Descriptor.{Descriptor}
use Rattle.fd_tables.specs.Files.{most_descriptors, OpenFiles}
use Rattle.fd_tables.specs.Changes.{Storage, all_closed, all_descriptors, all_shared}

closed_append : (test : Descriptor → Bool) (t : ℕ) (xs : List ℕ) (s : Storage) (ys : List ℕ) → all_closed test s t (xs ++ ys) ≡ all_closed test (all_closed test s t xs) t ys
closed_append test t [] s ys = refl
closed_append test t (x ∷ xs) s ys = closed_append test t xs _ ys

range_more : (n a : ℕ) → range_with_len a (suc n) ≡ range_with_len a n ++ (a + n) ∷ []
range_more zero a = ap (λ k. k ∷ []) (omega arith)
range_more (suc n) a = ap (λ ys. a ∷ ys) (range_more n (a + 1) ∙ ap (λ k. range_with_len (a + 1) n ++ k ∷ []) (omega arith))

range_next : (n : ℕ) → range_with_len 0 (n + 1) ≡ range_with_len 0 n ++ n ∷ []
range_next n = rw add-one (range_more n 0 ∙ ap (λ k. range_with_len 0 n ++ k ∷ []) (omega arith))

pub closed_more : (test : Descriptor → Bool) (s : Storage) (t n : ℕ) → all_closed test s t (range_with_len 0 (n + 1)) ≡ all_closed test (all_closed test s t (range_with_len 0 n)) t (n ∷ [])
closed_more test s t n = ap (λ xs. all_closed test s t xs) (range_next n) ∙ closed_append test t (range_with_len 0 n) s (n ∷ [])

pub all_of : (n : ℕ) → most_descriptors ≤ n → n ≤ most_descriptors → range_with_len 0 n ≡ all_descriptors
unfolding all_descriptors
all_of n low high = let e : n ≡ most_descriptors = omega arith in ap (λ k. range_with_len 0 k) e

shared_append : (xs : List (Option Descriptor)) (fs : OpenFiles) (ys : List (Option Descriptor)) → all_shared fs (xs ++ ys) ≡ all_shared (all_shared fs xs) ys
shared_append [] fs ys = refl
shared_append (Some d ∷ xs) fs ys = shared_append xs _ ys
shared_append (None ∷ xs) fs ys = shared_append xs fs ys

pub shared_more : (fs : OpenFiles) (xs : List (Option Descriptor)) (i : ℕ) → i < length xs → all_shared fs (take (i + 1) xs) ≡ all_shared (all_shared fs (take i xs)) (get_or xs i None ∷ [])
shared_more fs xs i inside = ap (λ ys. all_shared fs ys) (take_more xs i None inside) ∙ shared_append (take i xs) fs (get_or xs i None ∷ [])

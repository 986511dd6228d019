-- No more files are open than there are descriptors, so that few tables leave numbers for more.
use Rattle.std.proofs.Common.{◌≡◌, ℕ, zero, suc, ◌+◌, ◌*◌, ◌<◌, ◌≤◌, ◌^◌, Bool, true, false, cond, List, [], ◌∷◌, length, Option, Some, None, IfSome, refl, sym, ap, ◌∙◌, arith}
use Rattle.std.specs.Prelude.{◌==◌, is_some, sum_by, count_by}
use Rattle.std.proofs.lemmas.Bool.Decides.{nat_tests}
use Rattle.std.proofs.lemmas.List.Sums.{sum_by-cons}
use Rattle.fd_tables.specs.declared.open_file.OpenFile.{OpenFile}
use Rattle.fd_tables.specs.declared.open_file.Handle.{Handle}
use Rattle.fd_tables.specs.declared.open_file.Handle.TheVariants.{Input, Output, Open}
use Rattle.fd_tables.specs.declared.open_file.Descriptor.{Descriptor}
use Rattle.fd_tables.specs.Files.{Table, at_number, free_number}
use Rattle.fd_tables.specs.Changes.{Storage}
use Rattle.fd_tables.specs.Counts.{leads_to, stands_for, shares_in, shares_of, uses_in, Counted}
use Rattle.fd_tables.proofs.Sharing.{one, IsWhole}
use Rattle.machine_world.proofs.FreeNumbers.{free_most}

-- ---- sums over the first numbers

abbrev sum_to : (ℕ → ℕ) → ℕ → ℕ
sum_to f zero = 0
sum_to f (suc n) = f 0 + sum_to (λ k. f (suc k)) n

sum_none : (f : ℕ → ℕ) (n : ℕ) → ((k : ℕ) → f k ≡ 0) → sum_to f n ≡ 0
sum_none f zero none = refl
sum_none f (suc n) none = omega (arith, none 0, sum_none (λ k. f (suc k)) n (λ k. none (suc k)))

sum_both : (f g h : ℕ → ℕ) (n : ℕ) → ((k : ℕ) → h k ≡ f k + g k) → sum_to h n ≡ sum_to f n + sum_to g n
sum_both f g h zero each = refl
sum_both f g h (suc n) each = omega (arith, each 0, sum_both (λ k. f (suc k)) (λ k. g (suc k)) (λ k. h (suc k)) n (λ k. each (suc k)))

-- a test that one number passes at most
sum_one_by : (p : ℕ → Bool) (n : ℕ) (b : Bool) → p 0 ≡ b → ((i j : ℕ) → p i ≡ true → p j ≡ true → i ≡ j) → sum_to (λ k. one (p (suc k))) n ≤ 1 → sum_to (λ k. one (p k)) (suc n) ≤ 1
sum_one_by p n false is alone few = omega (arith, ap one is, few)
sum_one_by p n true is alone few =
    omega (arith, ap one is, sum_none (λ k. one (p (suc k))) n (λ k. none k (p (suc k)) refl))
  where
    none : (k : ℕ) (b : Bool) → p (suc k) ≡ b → one b ≡ 0
    none k false now = refl
    none k true now = let same : 0 ≡ suc k = alone 0 (suc k) is now in absurd (omega (arith, same))

sum_one : (p : ℕ → Bool) (n : ℕ) → ((i j : ℕ) → p i ≡ true → p j ≡ true → i ≡ j) → sum_to (λ k. one (p k)) n ≤ 1
sum_one p zero alone = omega arith
sum_one p (suc n) alone =
    sum_one_by p n (p 0) refl alone (sum_one (λ k. p (suc k)) n (λ i j first second. let same : suc i ≡ suc j = alone (suc i) (suc j) first second in omega (arith, same)))

-- ---- descriptors stand for one open file at most

same_file : (k i : ℕ) → (k == i) ≡ true → k ≡ i
same_file k i is = grind (arith, nat_tests, is)

by_handle : (h : Handle) (i j : ℕ) → leads_to i h ≡ true → leads_to j h ≡ true → i ≡ j
by_handle (Open k) i j first second = sym (same_file k i first) ∙ same_file k j second
by_handle Input i j first second = let no : ⊥ = cc in absurd no
by_handle Output i j first second = let no : ⊥ = cc in absurd no

stands_once : (o : Option Descriptor) (i j : ℕ) → stands_for i o ≡ true → stands_for j o ≡ true → i ≡ j
stands_once None i j first second = let no : ⊥ = cc in absurd no
stands_once (Some d) i j first second = by_handle d.handle i j first second

in_table : (n : ℕ) (table : Table) → sum_to (λ k. count_by (stands_for k) table) n ≤ length table
in_table n [] = omega (arith, sum_none (λ k. count_by (stands_for k) []) n (λ k. refl))
in_table n (o ∷ table) =
    omega (
      arith,
      sum_both (λ k. one (stands_for k o)) (λ k. count_by (stands_for k) table) (λ k. count_by (stands_for k) (o ∷ table)) n (λ k. sum_by-cons (λ x. cond (stands_for k x) 1 0) o table),
      sum_one (λ k. stands_for k o) n (stands_once o),
      in_table n table,
    )

in_one : (n : ℕ) (o : Option Table) → IsWhole o → sum_to (λ k. shares_in k o) n ≤ 32
in_one n None whole = omega (arith, sum_none (λ k. shares_in k None) n (λ k. refl))
in_one n (Some table) whole = omega (arith, in_table n table, whole)

in_all : (n : ℕ) (tables : List (Option Table)) → ((t : ℕ) → IsWhole (at_number tables t)) → sum_to (λ k. sum_by (shares_in k) tables) n ≤ length tables * 32
in_all n [] whole = omega (arith, sum_none (λ k. sum_by (shares_in k) []) n (λ k. refl))
in_all n (o ∷ tables) whole =
    omega (
      arith,
      sum_both (λ k. shares_in k o) (λ k. sum_by (shares_in k) tables) (λ k. sum_by (shares_in k) (o ∷ tables)) n (λ k. sum_by-cons (shares_in k) o tables),
      in_one n o (whole 0),
      in_all n tables (λ t. whole (suc t)),
    )

-- ---- each open file has one

opens_by : (xs : List (Option OpenFile)) (g : ℕ → ℕ) → ((k : ℕ) → one (is_some (at_number xs k)) ≤ g k) → count_by is_some xs ≤ sum_to g (length xs)
opens_by [] g each = omega arith
opens_by (x ∷ xs) g each = omega (arith, sum_by-cons (λ o. cond (is_some o) 1 0) x xs, each 0, opens_by xs (λ k. g (suc k)) (λ k. each (suc k)))

used_by : (o : Option OpenFile) → IfSome o (λ f. 1 ≤ f.uses) → one (is_some o) ≤ uses_in o
used_by None used = omega arith
used_by (Some f) used = used

open_below : (s : Storage) → Counted s → count_by is_some s.files.files ≤ length s.files.tables * 32
open_below s c =
    omega (
      arith,
      opens_by s.files.files (shares_of s.files) (λ k. let used = used_by (at_number s.files.files k) (c.used k) in omega (arith, used, c.uses k)),
      in_all (length s.files.files) s.files.tables c.whole,
    )

pub free_below : (s : Storage) → Counted s → length s.files.tables < 2 ^ 27 → free_number s.files.files < 2 ^ 32
free_below s c few = omega (arith, free_most s.files.files, open_below s c)

-- so there are numbers for the two ends of a pipe
pub two_below : (s : Storage) → Counted s → length s.files.tables < 2 ^ 27 → count_by is_some s.files.files + 2 ≤ 2 ^ 32
two_below s c few = omega (arith, open_below s c)

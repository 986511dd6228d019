-- A new table and a copy, and the counts stay exact.
use Rattle.std.proofs.Common.{◌≡◌, ℕ, ◌+◌, ◌<◌, ◌≤◌, ◌^◌, Bool, true, false, cond, List, [], ◌∷◌, length, Option, Some, None, refl, ap, subst, arith}
use Rattle.std.specs.Prelude.{sum_by, count_by}
use Rattle.std.proofs.lemmas.List.Sums.{sum_by-cons}
use Rattle.fd_tables.specs.declared.open_file.Descriptor.{Descriptor}
use Rattle.fd_tables.specs.Files.{Table, most_descriptors, free_number, with_next, table_at}
use Rattle.fd_tables.specs.Changes.{Storage, storage, shared, first_table, with_table, all_shared, copied_table, with_copy}
use Rattle.fd_tables.specs.Counts.{leads_to, stands_for, shares_in, shares_of, Counted}
use Rattle.fd_tables.proofs.TablesThere.{tables-shared}
use Rattle.fd_tables.proofs.Sharing.{one, IsWhole, few_shares, shares-next, table_counts}
use Rattle.fd_tables.proofs.Uses.{uses_at, uses-shared}
use Rattle.fd_tables.proofs.Sound.{Sound, sound, sound-shared, sound-next_table}
use Rattle.fd_tables.proofs.Counting.{counted}

-- ---- a new table

pub counted-with_table : (s : Storage) → Counted s → free_number s.files.tables < 2 ^ 32 → Counted (storage s.nodes (with_table s.files))
unfolding with_table
counted-with_table s c room =
    counted _ (sound-next_table s first_table refl room (sound s c)) (λ n.
    let none : count_by (stands_for n) first_table ≡ 0 = refl in
    omega (arith, c.uses n, shares-next s.files first_table n, none))

-- ---- a copy: its descriptors share, one after the other

first_of_many : (b : Bool) (count uses : ℕ) → (1 ≤ one b + count → 1 ≤ uses) → one b ≤ uses
first_of_many true count uses there = there (omega arith)
first_of_many false count uses there = omega arith

sharing : (ds : List (Option Descriptor)) (s : Storage) → Sound s → ((n : ℕ) → shares_of s.files n < 2 ^ 39) →
    ((n : ℕ) → uses_at s.files n + count_by (stands_for n) ds ≡ shares_of s.files n) → ((n : ℕ) → 1 ≤ count_by (stands_for n) ds → 1 ≤ uses_at s.files n) →
    Counted (storage s.nodes (all_shared s.files ds))
sharing [] s b few owed there = counted s b (λ n. let e : uses_at s.files n + 0 ≡ shares_of s.files n = owed n in omega (arith, e))
sharing (None ∷ ds) s b few owed there =
    sharing ds s b few (λ n. omega (arith, owed n, sum_by-cons (λ o. cond (stands_for n o) 1 0) None ds)) (λ n some. there n (omega (arith, sum_by-cons (λ o. cond (stands_for n o) 1 0) None ds)))
sharing (Some d ∷ ds) s b few owed there =
    let count : (n : ℕ) → count_by (stands_for n) (Some d ∷ ds) ≡ one (leads_to n d.handle) + count_by (stands_for n) ds =
    λ n. sum_by-cons (λ o. cond (stands_for n o) 1 0) (Some d) ds in
    let same : (n : ℕ) → shares_of (shared s.files d.handle) n ≡ shares_of s.files n = λ n. ap (sum_by (shares_in n)) (tables-shared s.files d.handle) in
    let open_file : (n : ℕ) → one (leads_to n d.handle) ≤ uses_at s.files n =
    λ n. first_of_many (leads_to n d.handle) (count_by (stands_for n) ds) (uses_at s.files n) (λ some. there n (omega (arith, count n))) in
    let more : (n : ℕ) → uses_at (shared s.files d.handle) n ≡ uses_at s.files n + one (leads_to n d.handle) =
    λ n. uses-shared s.files d.handle n (open_file n) (omega (arith, owed n, few n)) in
    sharing ds (storage s.nodes (shared s.files d.handle)) (sound-shared s d.handle b) (λ n. omega (arith, same n, few n))
    (λ n. omega (arith, same n, more n, count n, owed n))
    (λ n some. omega (arith, more n, there n (omega (arith, count n))))

copying : (s : Storage) (t : ℕ) (o : Option Table) → table_at s.files t ≡ o → Counted s → free_number s.files.tables < 2 ^ 32 → Counted (storage s.nodes (copied_table s.files o))
copying s t None is c room = c
copying s t (Some table) is c room =
    let whole : length table ≡ most_descriptors = subst IsWhole is (c.whole t) in
    let now : Storage = storage s.nodes (record s.files { tables = with_next table s.files.tables }) in
    let b : Sound now = sound-next_table s table whole room (sound s c) in
    let copied : (n : ℕ) → count_by (stands_for n) table ≤ shares_of s.files n = λ n. subst (λ o. shares_in n o ≤ shares_of s.files n) is (table_counts s.files t n) in
    sharing table now b (λ n. omega (arith, few_shares now.files n b.whole b.few_tables)) (λ n. omega (arith, c.uses n, shares-next s.files table n))
    (λ n some. omega (arith, c.uses n, copied n))

pub counted-with_copy : (s : Storage) (t : ℕ) → Counted s → free_number s.files.tables < 2 ^ 32 → Counted (storage s.nodes (with_copy s.files t))
unfolding with_copy
counted-with_copy s t c room = copying s t (table_at s.files t) refl c room

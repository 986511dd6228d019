-- How many descriptors share an open file, after a descriptor or a table comes or goes.
use Rattle.std.proofs.Common.{◌≡◌, ℕ, zero, suc, ◌+◌, ◌*◌, ◌≤◌, ◌^◌, Bool, cond, List, [], ◌∷◌, length, Option, Some, None, IfSome, refl, arith}
use Rattle.std.specs.Prelude.{slice_set, sum_by, count_by}
use Rattle.std.proofs.lemmas.List.Sums.{sum_by-cons, count_by-le-length}
use Rattle.fd_tables.specs.declared.open_file.Descriptor.{Descriptor}
use Rattle.fd_tables.specs.Files.{Table, most_descriptors, OpenFiles, at_number, with_next, table_at, descriptor_in, descriptor}
use Rattle.fd_tables.specs.Changes.{with_item, with_descriptor}
use Rattle.fd_tables.specs.Counts.{stands_for, shares_in, shares_of}
use Rattle.fd_tables.proofs.AtNumbers.{made}
use Rattle.fd_tables.proofs.Items.{sum-item, sum-place, sum-next}

abbrev pub one : Bool → ℕ
one b = cond b 1 0

-- how many places there are at a number
abbrev pub places_in : Option Table → ℕ
places_in None = 0
places_in (Some table) = length table

abbrev pub IsWhole : Option Table → Type 0
IsWhole o = IfSome o (λ table. length table ≡ most_descriptors)

places : (o : Option Table) (n fd : ℕ) (d : Option Descriptor) → (places_in o ≤ fd → d ≡ None) →
    shares_in n (made (λ table. Some (slice_set table fd d)) o) + one (stands_for n (descriptor_in o fd)) ≡ shares_in n o + one (stands_for n d)
places None n fd d past = let e : d ≡ None = past (omega arith) in rw e refl
places (Some table) n fd d past = sum-place (λ o. cond (stands_for n o) 1 0) table fd d past

-- a descriptor comes where its place is, or goes
pub shares-place : (fs : OpenFiles) (t fd : ℕ) (d : Option Descriptor) (n : ℕ) → (places_in (table_at fs t) ≤ fd → d ≡ None) →
    shares_of (with_descriptor fs t fd d) n + one (stands_for n (descriptor fs t fd)) ≡ shares_of fs n + one (stands_for n d)
shares-place fs t fd d n past = omega (arith, sum-item (shares_in n) (λ table. Some (slice_set table fd d)) fs.tables t, places (table_at fs t) n fd d past)

-- a table comes or goes
pub shares-next : (fs : OpenFiles) (table : Table) (n : ℕ) → sum_by (shares_in n) (with_next table fs.tables) ≡ shares_of fs n + count_by (stands_for n) table
shares-next fs table n = sum-next (shares_in n) refl table fs.tables

gone : (o : Option Table) (n : ℕ) → shares_in n (made (λ (table : Table). None) o) ≡ 0
gone None n = refl
gone (Some table) n = refl

pub shares-gone : (fs : OpenFiles) (t n : ℕ) → sum_by (shares_in n) (with_item (λ table. None) fs.tables t) + shares_in n (table_at fs t) ≡ shares_of fs n
shares-gone fs t n = omega (arith, sum-item (shares_in n) (λ table. None) fs.tables t, gone (table_at fs t) n)

-- a table has no more descriptors than places, so that no count comes near its type's end
few_in : (o : Option Table) (n : ℕ) → IsWhole o → shares_in n o ≤ most_descriptors
few_in None n whole = omega arith
few_in (Some table) n whole = omega (arith, whole, count_by-le-length (stands_for n) table)

few : (n : ℕ) (tables : List (Option Table)) → ((t : ℕ) → IsWhole (at_number tables t)) → sum_by (shares_in n) tables ≤ length tables * 32
few n [] whole = omega arith
few n (o ∷ tables) whole = omega (arith, sum_by-cons (shares_in n) o tables, few_in o n (whole 0), few n tables (λ t. whole (suc t)))

pub few_shares : (fs : OpenFiles) (n : ℕ) → ((t : ℕ) → IsWhole (table_at fs t)) → length fs.tables ≤ 2 ^ 32 → shares_of fs n ≤ 2 ^ 37
few_shares fs n whole short = omega (arith, few n fs.tables whole)

-- a descriptor that is there is one of those that are counted
in_table : (table : Table) (fd n : ℕ) → one (stands_for n (at_number table fd)) ≤ count_by (stands_for n) table
in_table [] fd n = omega arith
in_table (d ∷ table) zero n = omega (arith, sum_by-cons (λ o. cond (stands_for n o) 1 0) d table)
in_table (d ∷ table) (suc fd) n = omega (arith, sum_by-cons (λ o. cond (stands_for n o) 1 0) d table, in_table table fd n)

in_tables : (tables : List (Option Table)) (t n : ℕ) → shares_in n (at_number tables t) ≤ sum_by (shares_in n) tables
in_tables [] t n = omega arith
in_tables (o ∷ tables) zero n = omega (arith, sum_by-cons (shares_in n) o tables)
in_tables (o ∷ tables) (suc t) n = omega (arith, sum_by-cons (shares_in n) o tables, in_tables tables t n)

pub table_counts : (fs : OpenFiles) (t n : ℕ) → shares_in n (table_at fs t) ≤ shares_of fs n
table_counts fs t n = in_tables fs.tables t n

in_place : (o : Option Table) (fd n : ℕ) → one (stands_for n (descriptor_in o fd)) ≤ shares_in n o
in_place None fd n = omega arith
in_place (Some table) fd n = in_table table fd n

pub descriptor_counts : (fs : OpenFiles) (t fd n : ℕ) → one (stands_for n (descriptor fs t fd)) ≤ shares_of fs n
descriptor_counts fs t fd n = omega (arith, in_place (table_at fs t) fd n, table_counts fs t n)

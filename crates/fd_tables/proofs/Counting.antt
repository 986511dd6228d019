-- Descriptors open, are duplicated and close, and the counts stay exact.
use Rattle.std.proofs.Common.{◌≡◌, ℕ, ◌+◌, ◌<◌, ◌≤◌, ◌^◌, Bool, true, false, List, Option, Some, None, refl, sym, ap, ◌∙◌, subst, ◌⊎◌, inl, inr, arith}
use Rattle.std.specs.Prelude.{is_some, slice_set, sum_by}
use Rattle.std.proofs.lemmas.Bool.{cases_eq}
use Rattle.mem_files.specs.Inodes.{inode_at}
use Rattle.mem_files.specs.Changes.{held}
use Rattle.fd_tables.specs.declared.view.Way.{Way}
use Rattle.fd_tables.specs.declared.open_file.OpenFile.{OpenFile}
use Rattle.fd_tables.specs.declared.open_file.Handle.TheVariants.{Open}
use Rattle.fd_tables.specs.declared.open_file.Descriptor.{Descriptor}
use Rattle.fd_tables.specs.Files.{Table, most_descriptors, OpenFiles, at_number, free_number, table_at, descriptor_in, descriptor, free_in, lowest_free}
use Rattle.fd_tables.specs.Changes.{Storage, storage, with_descriptor, with_open_file, new_file, shared, dropped, closed, closed_descriptor, opened, copied_descriptor, with_cloexec, duplicated, replaced}
use Rattle.fd_tables.specs.Counts.{leads_to, stands_for, shares_in, shares_of, uses_in, Counted}
use Rattle.fd_tables.proofs.AtNumbers.{made, item_at, emptied_place, empty_stays}
use Rattle.fd_tables.proofs.NextNumbers.{first_there, next_there, next_other, free_nothing}
use Rattle.fd_tables.proofs.TablesThere.{tables-shared, tables-dropped}
use Rattle.fd_tables.proofs.Sharing.{one, places_in, IsWhole, shares-place, few_shares, descriptor_counts}
use Rattle.fd_tables.proofs.Uses.{uses_at, itself, another, uses-shared, uses-dropped}
use Rattle.fd_tables.proofs.EndCounts.{view_read, view_write}
use Rattle.fd_tables.proofs.Sound.{Sound, sound, sound-place, sound-shared, sound-dropped, sound-opened}

pub counted : (s : Storage) → Sound s → ((n : ℕ) → uses_at s.files n ≡ shares_of s.files n) → Counted s
counted s b uses = record {
  uses = uses;
  used = b.used;
  holds = b.holds;
  remains = b.remains;
  whole = b.whole;
  read_ends = λ id. b.ends.ends id false ∙ sym (ap one (view_read s.files id));
  write_ends = λ id. b.ends.ends id true ∙ sym (ap one (view_write s.files id));
  open_pipes = b.ends.open_pipes;
  pipe_numbers = b.ends.numbers;
  few_files = b.few_files;
  few_tables = b.few_tables;
}

-- no open file counts near its type's end
pub few_uses : (s : Storage) (n : ℕ) → Counted s → uses_at s.files n < 2 ^ 40
few_uses s n c = omega (arith, c.uses n, few_shares s.files n c.whole c.few_tables)

-- ---- closing

closing : (s : Storage) (t fd : ℕ) (o : Option Descriptor) → descriptor s.files t fd ≡ o → Counted s → Counted (closed_descriptor s t fd o)
closing s t fd None is c = c
closing s t fd (Some d) is c =
    let now : Storage = storage s.nodes (with_descriptor s.files t fd None) in
    counted (dropped now d.handle) (sound-dropped now d.handle (sound-place s t fd None (sound s c)))
    (λ n.
    let fewer : shares_of now.files n + one (leads_to n d.handle) ≡ shares_of s.files n =
    omega (arith, shares-place s.files t fd None n (λ past. refl), ap (λ o. one (stands_for n o)) is) in
    let same : shares_of (dropped now d.handle).files n ≡ shares_of now.files n = ap (sum_by (shares_in n)) (tables-dropped now d.handle) in
    omega (arith, c.uses n, fewer, same, uses-dropped now d.handle n (omega (arith, c.uses n, fewer))))

pub counted-closed : (s : Storage) (t fd : ℕ) → Counted s → Counted (closed s t fd)
unfolding closed
counted-closed s t fd c = closing s t fd (descriptor s.files t fd) refl c

-- what closes isn't open, and what isn't open stays so
in_emptied : (o : Option Table) (fd : ℕ) → descriptor_in (made (λ table. Some (slice_set table fd None)) o) fd ≡ None
in_emptied None fd = refl
in_emptied (Some table) fd = emptied_place table fd

in_others : (o : Option Table) (fd k : ℕ) → descriptor_in o k ≡ None → descriptor_in (made (λ table. Some (slice_set table fd None)) o) k ≡ None
in_others None fd k empty = refl
in_others (Some table) fd k empty = empty_stays table fd k empty

after : (s : Storage) (t fd k : ℕ) (d : Descriptor) →
    descriptor (closed_descriptor s t fd (Some d)).files t k ≡ descriptor_in (made (λ table. Some (slice_set table fd None)) (table_at s.files t)) k
after s t fd k d =
    ap (λ (ts : List (Option Table)). descriptor_in (at_number ts t) k) (tables-dropped (storage s.nodes (with_descriptor s.files t fd None)) d.handle)
    ∙ ap (λ o. descriptor_in o k) (item_at (λ table. Some (slice_set table fd None)) s.files.tables t)

closes : (s : Storage) (t fd : ℕ) (o : Option Descriptor) → descriptor s.files t fd ≡ o → descriptor (closed_descriptor s t fd o).files t fd ≡ None
closes s t fd None is = is
closes s t fd (Some d) is = after s t fd fd d ∙ in_emptied (table_at s.files t) fd

pub closed_there : (s : Storage) (t fd : ℕ) → descriptor (closed s t fd).files t fd ≡ None
unfolding closed
closed_there s t fd = closes s t fd (descriptor s.files t fd) refl

stays : (s : Storage) (t fd k : ℕ) (o : Option Descriptor) → descriptor s.files t k ≡ None → descriptor (closed_descriptor s t fd o).files t k ≡ None
stays s t fd k None empty = empty
stays s t fd k (Some d) empty = after s t fd k d ∙ in_others (table_at s.files t) fd k empty

pub closed_stays : (s : Storage) (t fd k : ℕ) → descriptor s.files t k ≡ None → descriptor (closed s t fd).files t k ≡ None
unfolding closed
closed_stays s t fd k empty = stays s t fd k (descriptor s.files t fd) empty

-- ---- duplicating

-- where a descriptor is open the table has its places
has_place : (o : Option Table) (old new : ℕ) (d : Descriptor) → IsWhole o → descriptor_in o old ≡ Some d → new < most_descriptors → new < places_in o
has_place None old new d whole is low = let no : ⊥ = cc in absurd no
has_place (Some table) old new d whole is low = omega (arith, whole)

duplicating : (s : Storage) (t old new : ℕ) (cloexec : Bool) (o : Option Descriptor) → descriptor s.files t old ≡ o → new < most_descriptors → descriptor s.files t new ≡ None → Counted s →
    Counted (storage s.nodes (copied_descriptor s.files t new (with_cloexec cloexec o)))
duplicating s t old new cloexec None is low free c = c
duplicating s t old new cloexec (Some d) is low free c =
    let copy : Descriptor = record d { cloexec = cloexec } in
    let now : Storage = storage s.nodes (with_descriptor s.files t new (Some copy)) in
    let place : new < places_in (table_at s.files t) = has_place (table_at s.files t) old new d (c.whole t) is low in
    counted (storage s.nodes (shared now.files d.handle)) (sound-shared now d.handle (sound-place s t new (Some copy) (sound s c)))
    (λ n.
    let there : one (leads_to n d.handle) ≤ shares_of s.files n =
    omega (arith, descriptor_counts s.files t old n, ap (λ o. one (stands_for n o)) is) in
    let more : shares_of now.files n ≡ shares_of s.files n + one (leads_to n d.handle) =
    omega (arith, shares-place s.files t new (Some copy) n (λ past. absurd (omega arith)), ap (λ o. one (stands_for n o)) free) in
    let same : shares_of (shared now.files d.handle) n ≡ shares_of now.files n = ap (sum_by (shares_in n)) (tables-shared now.files d.handle) in
    omega (arith, c.uses n, more, same, uses-shared now.files d.handle n (omega (arith, c.uses n, there)) (few_uses s n c)))

pub counted-duplicated : (s : Storage) (t old new : ℕ) (cloexec : Bool) → Counted s → new < most_descriptors → descriptor s.files t new ≡ None → Counted (storage s.nodes (duplicated s.files t old new cloexec))
unfolding duplicated
counted-duplicated s t old new cloexec c low free = duplicating s t old new cloexec (descriptor s.files t old) refl low free c

pub counted-replaced : (s : Storage) (t old new : ℕ) (cloexec : Bool) → Counted s → new < most_descriptors → Counted (replaced s t old new cloexec)
unfolding replaced
counted-replaced s t old new cloexec c low = counted-duplicated (closed s t new) t old new cloexec (counted-closed s t new c) low (closed_there s t new)

-- ---- opening

free_there : (o : Option Table) (fd : ℕ) → free_in o ≡ Some fd → (fd < places_in o) × (descriptor_in o fd ≡ None)
free_there None fd is = let no : ⊥ = cc in absurd no
free_there (Some table) fd is = first_there table fd is

pub uses-opened : (fs : OpenFiles) (f : OpenFile) (n : ℕ) → f.uses ≡ 1 → uses_at (with_open_file fs f) n ≡ uses_at fs n + one (leads_to n (Open (free_number fs.files)))
uses-opened fs f n once = by (cases_eq n (free_number fs.files))
  where
    by : (n ≡ free_number fs.files) ⊎ (n ≡ free_number fs.files → ⊥) → uses_at (with_open_file fs f) n ≡ uses_at fs n + one (leads_to n (Open (free_number fs.files)))
    by (inl e) =
        let new : uses_at (with_open_file fs f) (free_number fs.files) ≡ f.uses = ap uses_in (next_there f fs.files) in
        let old : uses_at fs (free_number fs.files) ≡ 0 = ap uses_in (free_nothing fs.files) in
        subst (λ (j : ℕ). uses_at (with_open_file fs f) j ≡ uses_at fs j + one (leads_to j (Open (free_number fs.files)))) (sym e) (omega (arith, new, old, itself (free_number fs.files), once))
    by (inr other) =
        omega (arith, ap uses_in (next_other f fs.files n other), another n (free_number fs.files) other)

pub counted-opened : (s : Storage) (t fd node : ℕ) (way : Way) → Counted s → lowest_free s.files t ≡ Some fd → is_some (inode_at s.nodes node) ≡ true → free_number s.files.files < 2 ^ 32 → Counted (opened s t fd node way)
unfolding opened lowest_free
counted-opened s t fd node way c lowest there room =
    let place : (fd < places_in (table_at s.files t)) × (descriptor s.files t fd ≡ None) = free_there (table_at s.files t) fd lowest in
    let d : Descriptor = record { handle = Open (free_number s.files.files); cloexec = way.cloexec } in
    let now : Storage = storage (held s.nodes node) (with_open_file s.files (new_file node way)) in
    counted (storage now.nodes (with_descriptor now.files t fd (Some d))) (sound-place now t fd (Some d) (sound-opened s (new_file node way) node refl (omega arith) there room (sound s c)))
    (λ n.
    let more : shares_of (with_descriptor now.files t fd (Some d)) n ≡ shares_of s.files n + one (leads_to n d.handle) =
    omega (arith, shares-place now.files t fd (Some d) n (λ past. absurd (omega (arith, place.0))), ap (λ o. one (stands_for n o)) place.1) in
    omega (arith, c.uses n, more, uses-opened s.files (new_file node way) n refl))

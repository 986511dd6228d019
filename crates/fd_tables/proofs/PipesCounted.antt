-- Pipes come, and their bytes come and go, and the counts stay exact.
use Rattle.std.proofs.Common.{◌≡◌, ◌≢◌, ℕ, ◌+◌, ◌<◌, ◌≤◌, ◌^◌, Bool, true, false, cond, List, [], ◌++◌, length, drop, Option, Some, None, refl, ap, ◌∙◌, arith}
use Rattle.std.specs.Prelude.{◌==◌, is_some, count_by, slice_set}
use Rattle.std.proofs.lemmas.List.{length-set}
use Rattle.fd_tables.specs.declared.pipe_view.Ends.{Ends}
use Rattle.fd_tables.specs.declared.open_file.Handle.TheVariants.{Open}
use Rattle.fd_tables.specs.declared.open_file.Descriptor.{Descriptor}
use Rattle.fd_tables.specs.Files.{Table, Pipe, OpenFiles, free_number, table_at, descriptor_in, descriptor, two_free_in, two_free}
use Rattle.fd_tables.specs.Pipes.{pipe_at, with_changed, with_pipe, pipe_taken, pipe_put, none_changed}
use Rattle.fd_tables.specs.Changes.{Storage, storage, with_descriptor, with_open_file, pipe_end, piped}
use Rattle.fd_tables.specs.Counts.{leads_to, stands_for, shares_of, Counted}
use Rattle.fd_tables.proofs.AtNumbers.{made, item_at}
use Rattle.fd_tables.proofs.NextNumbers.{set_other}
use Rattle.fd_tables.proofs.Sharing.{one, places_in, shares-place}
use Rattle.fd_tables.proofs.TwoFree.{TwoFree, two_free_there}
use Rattle.fd_tables.proofs.Sound.{sound, sound-place, sound-piped, sound-bytes}
use Rattle.fd_tables.proofs.Counting.{counted, uses-opened}

-- ---- a pipe more

-- what is free in a table
record BothFree (o : Option Table) (ends : Ends) : Type 0 where
  read_place : ends.read < places_in o
  read_free : descriptor_in o ends.read ≡ None
  write_place : ends.write < places_in o
  write_free : descriptor_in o ends.write ≡ None
  apart : ends.write ≢ ends.read

both_free : (o : Option Table) (ends : Ends) → two_free_in o ≡ Some ends → BothFree o ends
both_free None ends is = let no : ⊥ = cc in absurd no
both_free (Some table) ends is =
    let two : TwoFree table ends = two_free_there table ends is in
    record { read_place = two.read_inside; read_free = two.read_free; write_place = two.write_inside; write_free = two.write_free; apart = λ e. absurd (omega (arith, two.rise)) }

same_place : (o : Option Table) (fd : ℕ) (d : Option Descriptor) → places_in (made (λ table. Some (slice_set table fd d)) o) ≡ places_in o
same_place None fd d = refl
same_place (Some table) fd d = length-set table fd d

other_place : (o : Option Table) (fd k : ℕ) (d : Option Descriptor) → k ≢ fd → descriptor_in (made (λ table. Some (slice_set table fd d)) o) k ≡ descriptor_in o k
other_place None fd k d other = refl
other_place (Some table) fd k d other = set_other d table fd k other

-- another descriptor of the table is as before
pub descriptor_beside : (fs : OpenFiles) (t fd k : ℕ) (d : Option Descriptor) → k ≢ fd → descriptor (with_descriptor fs t fd d) t k ≡ descriptor fs t k
descriptor_beside fs t fd k d other = ap (λ o. descriptor_in o k) (item_at (λ table. Some (slice_set table fd d)) fs.tables t) ∙ other_place (table_at fs t) fd k d other

pub places_beside : (fs : OpenFiles) (t fd : ℕ) (d : Option Descriptor) → places_in (table_at (with_descriptor fs t fd d) t) ≡ places_in (table_at fs t)
places_beside fs t fd d = ap (λ (o : Option Table). places_in o) (item_at (λ table. Some (slice_set table fd d)) fs.tables t) ∙ same_place (table_at fs t) fd d

piping : (s : Storage) (t : ℕ) (ends : Ends) (cloexec : Bool) → Counted s → BothFree (table_at s.files t) ends → count_by is_some s.files.files + 2 ≤ 2 ^ 32 →
    Counted (storage s.nodes (piped s.files t ends cloexec))
unfolding piped
piping s t ends cloexec c free few =
    let id : ℕ = s.files.next_pipe in
    let first : OpenFiles = with_open_file (with_pipe s.files) (pipe_end id false) in
    let both : OpenFiles = with_open_file first (pipe_end id true) in
    let d : Descriptor = record { handle = Open (free_number s.files.files); cloexec = cloexec } in
    let e : Descriptor = record { handle = Open (free_number first.files); cloexec = cloexec } in
    let half : OpenFiles = with_descriptor both t ends.read (Some d) in
    counted (storage s.nodes (with_descriptor half t ends.write (Some e)))
    (sound-place (storage s.nodes half) t ends.write (Some e) (sound-place (storage s.nodes both) t ends.read (Some d) (sound-piped s few (sound s c))))
    (λ n.
    let read_more : shares_of half n ≡ shares_of s.files n + one (leads_to n d.handle) =
    omega (arith, shares-place both t ends.read (Some d) n (λ past. absurd (omega (arith, free.read_place))), ap (λ o. one (stands_for n o)) free.read_free) in
    let write_more : shares_of (with_descriptor half t ends.write (Some e)) n ≡ shares_of half n + one (leads_to n e.handle) =
    omega (
      arith,
      shares-place half t ends.write (Some e) n (λ past. absurd (omega (arith, free.write_place, places_beside both t ends.read (Some d)))),
      ap (λ o. one (stands_for n o)) (descriptor_beside both t ends.read ends.write (Some d) free.apart ∙ free.write_free),
    ) in
    omega (arith, c.uses n, read_more, write_more, uses-opened (with_pipe s.files) (pipe_end id false) n refl, uses-opened first (pipe_end id true) n refl))

pub counted-piped : (s : Storage) (t : ℕ) (ends : Ends) (cloexec : Bool) → Counted s → two_free s.files t ≡ Some ends → count_by is_some s.files.files + 2 ≤ 2 ^ 32 →
    Counted (storage s.nodes (piped s.files t ends cloexec))
unfolding two_free
counted-piped s t ends cloexec c two few = piping s t ends cloexec c (both_free (table_at s.files t) ends two) few

-- ---- bytes

with_bytes : (s : Storage) (id : ℕ) (f : List ℕ → List ℕ) (o : Option Pipe) → pipe_at s.files id ≡ o → Counted s →
    Counted (storage s.nodes (with_changed (λ p. Some (record p { bytes = f p.bytes })) s.files id o))
with_bytes s id f None is c = c
with_bytes s id f (Some p) is c = counted _ (sound-bytes s id p (f p.bytes) is (sound s c)) c.uses

unless_none : (s : Storage) (b : Bool) (fs : OpenFiles) → Counted s → Counted (storage s.nodes fs) → Counted (storage s.nodes (cond b s.files fs))
unless_none s true fs c after = c
unless_none s false fs c after = after

pub counted-pipe_taken : (s : Storage) (id n : ℕ) → Counted s → Counted (storage s.nodes (pipe_taken s.files id n))
unfolding pipe_taken
counted-pipe_taken s id n c = unless_none s (n == 0) _ c (with_bytes s id (λ bytes. drop n bytes) (pipe_at s.files id) refl c)

pub counted-pipe_put : (s : Storage) (id : ℕ) (bytes : List ℕ) → Counted s → Counted (storage s.nodes (pipe_put s.files id bytes))
unfolding pipe_put
counted-pipe_put s id bytes c = unless_none s (length bytes == 0) _ c (with_bytes s id (λ held. held ++ bytes) (pipe_at s.files id) refl c)

-- ---- marks

pub counted-marks : (s : Storage) (numbers : List ℕ) → Counted s → Counted (storage s.nodes (record s.files { changed = numbers }))
counted-marks s numbers c =
    let b = sound s c in
    counted (storage s.nodes (record s.files { changed = numbers })) (record { used = b.used; holds = b.holds; remains = b.remains; whole = b.whole; ends = b.ends; few_files = b.few_files; few_tables = b.few_tables }) c.uses

pub counted-none_changed : (s : Storage) → Counted s → Counted (storage s.nodes (none_changed s.files))
counted-none_changed s c = counted-marks s [] c

pub pipes_keep_counts : (s : Storage) (id n : ℕ) (bytes : List ℕ) → Counted s →
    Counted (storage s.nodes (pipe_taken s.files id n)) × Counted (storage s.nodes (pipe_put s.files id bytes)) × Counted (storage s.nodes (none_changed s.files))
pipes_keep_counts s id n bytes c = (counted-pipe_taken s id n c, counted-pipe_put s id bytes c, counted-none_changed s c)

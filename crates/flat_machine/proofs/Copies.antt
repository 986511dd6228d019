-- The own bytes of a process, and those of all of memory.
use Rattle.std.proofs.Common.{◌≡◌, ℕ, ◌*◌, Bool, false, List, [], length, Option, Some, None, Result, Ok, Err, refl, sym, ap, ◌∙◌}
use Rattle.std.specs.Prelude.{slice_get, is_some, option_map}
use Rattle.byte_words.specs.ByteMap.{Bytes}
use Rattle.mmap_rules.specs.declared.page_owner.PageOwner.{PageOwner}
use Rattle.mmap_rules.specs.Held.{Held}
use Rattle.region_watch.specs.Private.{only, physical}
use Rattle.region_watch.proofs.Accesses.{all_pages}
use Rattle.region_watch.specs.Private.{own_bytes as own_bytes_in}
use Rattle.call_log.specs.Sent.{Span, read_span}
use Rattle.vfork_exec.specs.declared.entry.Entry.{Entry}
use Rattle.vfork_exec.specs.Procs.{process, value_at}
use Rattle.kept_parts.specs.declared.task.Task.{Task}
use Rattle.kept_parts.specs.Kept.{Kept}
use Rattle.region_watch.specs.declared.mode.Mode.{Mode}
use Rattle.region_watch.specs.declared.mode.Mode.TheVariants.{Halt, GoOn}
use Rattle.kept_parts.specs.Reach.{Reaches, readable}
use Rattle.kept_parts.specs.Regular.{Regular, HasSpace}
use Rattle.call_bytes.specs.Reading.{appended}
use Rattle.kept_parts.specs.InMemory.{physical_of}
use Rattle.kept_parts.specs.Stands.{About, private_bytes, process_of, world_of}
use Rattle.kept_parts.proofs.Common.FoundInWorld.{find_space, find_process}
use Rattle.kept_parts.proofs.Common.WholeMemory.{reached_bytes, reached_pages}
use Rattle.flat_machine.specs.OwnBytes.{read_or_none, bytes_in, bytes_of, own_bytes, bytes_for, memory_bytes}
use Rattle.flat_machine.proofs.Advanced.{entered, has_space}

none_found : (o : Option (Entry Task)) → is_some o ≡ false → o ≡ None
none_found None h = refl
none_found (Some e) h = absurd cc

-- bytes that were added to none
read_all : (r : Result (List ℕ) Span) (old new : List ℕ) → old ≡ [] → appended old r ≡ Ok new → read_or_none r ≡ Some new
read_all (Ok bytes) old new empty h = let same : bytes ≡ new = (let e = rw empty at h in cc) in ap Some same
read_all (Err span) old new empty h = absurd cc

module _ (a : About) (k : Kept) (pid addr len : ℕ) where
  -- no process of this number
  pub none_lives : (lives : Bool) → lives ≡ is_some (process k.procs pid) → lives ≡ false → None ≡ own_bytes (world_of a k) pid addr len
  unfolding own_bytes world_of
  none_lives lives is dead =
      let none = none_found (process k.procs pid) (sym is ∙ dead) in
      sym (ap (bytes_of (world_of a k) addr len) (find_process pid k.procs.entries ∙ ap (option_map process_of) none))

  -- what it has at an address
  own_is : (task : Task) (h : Held) → value_at k.procs pid ≡ Some task → slice_get k.spaces task.space ≡ Some (Some h)
      → own_bytes (world_of a k) pid addr len ≡ read_or_none (read_span (private_bytes k.mem h) (record { addr = addr; len = len }))
  unfolding own_bytes world_of
  own_is task h is home =
      let e = entered k.procs pid task is in
      let there : slice_get k.spaces e.entry.value.space ≡ Some (Some h) = ap (λ (t : Task). slice_get k.spaces t.space) e.value ∙ home in
      ap (bytes_of (world_of a k) addr len) (find_process pid k.procs.entries ∙ ap (option_map process_of) e.there)
      ∙ ap (bytes_in addr len) (find_space k.mem k.spaces e.entry.value.space h there)

  own_read : (task : Task) (h : Held) (old new : List ℕ) → value_at k.procs pid ≡ Some task → slice_get k.spaces task.space ≡ Some (Some h) → old ≡ []
      → appended old (read_span (private_bytes k.mem h) (record { addr = addr; len = len })) ≡ Ok new → Some new ≡ own_bytes (world_of a k) pid addr len
  own_read task h old new is home empty found =
      sym (own_is task h is home ∙ read_all (read_span (private_bytes k.mem h) (record { addr = addr; len = len })) old new empty found)

  own_strays : (task : Task) (h : Held) (span : Span) → value_at k.procs pid ≡ Some task → slice_get k.spaces task.space ≡ Some (Some h)
      → read_span (private_bytes k.mem h) (record { addr = addr; len = len }) ≡ Err span → None ≡ own_bytes (world_of a k) pid addr len
  own_strays task h span is home found = sym (own_is task h is home ∙ ap read_or_none found)

  -- ---- of all of memory

  module _ (headers : List (List ℕ)) where
    pub none_lives_in : (lives : Bool) → lives ≡ is_some (process k.procs pid) → lives ≡ false → None ≡ memory_bytes (physical_of headers a k) pid addr len
    unfolding memory_bytes physical_of world_of
    none_lives_in lives is dead =
        let none = none_found (process k.procs pid) (sym is ∙ dead) in
        sym (ap (bytes_for (physical_of headers a k) addr len) (find_process pid k.procs.entries ∙ ap (option_map process_of) none))

    memory_is : (task : Task) → value_at k.procs pid ≡ Some task → memory_bytes (physical_of headers a k) pid addr len ≡ read_or_none (read_span (physical k.mem) (record { addr = addr; len = len }))
    unfolding memory_bytes physical_of world_of
    memory_is task is =
        let e = entered k.procs pid task is in
        ap (bytes_for (physical_of headers a k) addr len) (find_process pid k.procs.entries ∙ ap (option_map process_of) e.there)

-- ---- within reach

module _ (reach : Mode) (k : Kept) (pid addr len : ℕ) (table : List PageOwner) (task : Task) (regular : Regular k)
    (is : value_at k.procs pid ≡ Some task) (each : (h : Held) → slice_get k.spaces task.space ≡ Some (Some h) → Reaches reach (length k.regions) h table) where
  live : HasSpace k.spaces task.space
  live = has_space k pid task regular is

  reaches : Reaches reach (length k.regions) live.held table
  reaches = each live.held live.there

  -- the table has an entry for each page of memory
  pub copied_paged : length k.mem ≡ 4096 * length table
  copied_paged = reached_pages reach k live.held table regular reaches

  own_seen : reach ≡ Halt → own_bytes_in table k.mem ≡ private_bytes k.mem live.held
  unfolding private_bytes
  own_seen own =
      reached_bytes reach (length k.regions) live.held table k.mem reaches ∙ ap (λ (r : Mode). only (readable r (length k.regions) live.held) (physical k.mem)) own

  whole_seen : reach ≡ GoOn → own_bytes_in table k.mem ≡ physical k.mem
  whole_seen all =
      reached_bytes reach (length k.regions) live.held table k.mem reaches ∙ ap (λ (r : Mode). only (readable r (length k.regions) live.held) (physical k.mem)) all
      ∙ all_pages (length k.regions) k.mem regular.memory

  abbrev span : Span
  span = record { addr = addr; len = len }

  pub copied_own : (old new : List ℕ) → old ≡ [] → appended old (read_span (own_bytes_in table k.mem) span) ≡ Ok new → reach ≡ Halt → (a : About) → Some new ≡ own_bytes (world_of a k) pid addr len
  copied_own old new empty found own a =
      own_read a k pid addr len task live.held old new is live.there empty (ap (λ (m : Bytes). appended old (read_span m span)) (sym (own_seen own)) ∙ found)

  pub copied_whole : (old new : List ℕ) → old ≡ [] → appended old (read_span (own_bytes_in table k.mem) span) ≡ Ok new → reach ≡ GoOn → (headers : List (List ℕ)) (a : About)
      → Some new ≡ memory_bytes (physical_of headers a k) pid addr len
  copied_whole old new empty found all headers a =
      sym (memory_is a k pid addr len headers task is
      ∙ read_all (read_span (physical k.mem) span) old new empty (ap (λ (m : Bytes). appended old (read_span m span)) (sym (whole_seen all)) ∙ found))

  pub strays_own : (seen : Span) → read_span (own_bytes_in table k.mem) span ≡ Err seen → reach ≡ Halt → (a : About) → None ≡ own_bytes (world_of a k) pid addr len
  strays_own seen found own a = own_strays a k pid addr len task live.held seen is live.there (ap (λ (m : Bytes). read_span m span) (sym (own_seen own)) ∙ found)

  pub strays_whole : (seen : Span) → read_span (own_bytes_in table k.mem) span ≡ Err seen → reach ≡ GoOn → (headers : List (List ℕ)) (a : About)
      → None ≡ memory_bytes (physical_of headers a k) pid addr len
  strays_whole seen found all headers a =
      sym (memory_is a k pid addr len headers task is ∙ ap read_or_none (ap (λ (m : Bytes). read_span m span) (sym (whole_seen all)) ∙ found))

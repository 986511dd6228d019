-- What a call that gives bytes leaves of the one memory, and the end of one that writes outside it.
use Rattle.std.proofs.Common.{◌≡◌, ℕ, ◌+◌, ◌*◌, ◌^◌, ◌<◌, ◌≤◌, Bool, true, false, ◌&&◌, List, [], ◌∷◌, length, map, Option, Some, None, refl, sym, ap, subst, ◌∙◌, arith}
use Rattle.std.specs.Prelude.{◌==◌, if◌then◌else◌, option_map, slice_get, Result, Ok, Err}
use Rattle.std.specs.declared.alloc.AllocError.{AllocError}
use Rattle.std.proofs.lemmas.Bool.Decides.{nat_tests}
use Rattle.byte_words.specs.ByteMap.{Bytes}
use Rattle.byte_words.specs.declared.access.Access.{Access}
use Rattle.call_log.specs.declared.note.Got.{Got}
use Rattle.call_log.specs.Values.{got_value}
use Rattle.call_log.specs.Notes.{GotRange, Note, call_note, weight_of}
use Rattle.call_log.specs.Sent.{Span}
use Rattle.fd_tables.specs.Files.{OpenFiles}
use Rattle.mmap_rules.specs.declared.mapping.Mapping.{Mapping}
use Rattle.mmap_rules.specs.Space.{in_range, own_in, writable_in}
use Rattle.mmap_rules.specs.Held.{Held}
use Rattle.region_watch.specs.Private.{only, physical}
use Rattle.vfork_exec.specs.declared.entry.Entry.{Entry}
use Rattle.vfork_exec.specs.Procs.{Lives}
use Rattle.machine_world.specs.World.{LiveSpace, World}
use Rattle.machine_world.specs.Asks.{Ask, Reply, replies}
use Rattle.machine_world.specs.Event.{Trace, Outcome, went, full, with_space, entry_of, item_of, replied, put_got, maps_file, replied_world, room_for, served, answered, trapped, at_process}
use Rattle.file_calls.specs.declared.call.Call.{Call}
use Rattle.file_calls.specs.declared.outcome.Outcome.{Outcome as Output}
use Rattle.file_calls.specs.Calls.{after as after_files, got_of}
use Rattle.memory_world.specs.Physical.{After, after, no_room, nobody, or_below, over, showing, bytes_in, is_free_at, laid_behind, carried, outside, killed, put_in, answered_in, has_stray}
use Rattle.memory_world.proofs.InMemory.{trapped_begins}
use Rattle.kept_parts.specs.declared.task.Task.{Task}
use Rattle.region_watch.specs.declared.mode.Mode.{Mode}
use Rattle.region_watch.specs.declared.mode.Mode.TheVariants.{Halt, GoOn}
use Rattle.kept_parts.specs.declared.served.Served.{Served}
use Rattle.kept_parts.specs.declared.served.Served.TheVariants.{Replied, Ended, Stray, LogFull}
use Rattle.kept_parts.specs.Kept.{Kept}
use Rattle.kept_parts.specs.Regular.{Regular}
use Rattle.kept_parts.specs.Copies.{CopiesHold}
use Rattle.kept_parts.specs.Stands.{About, later, private_bytes, private_of, live_spaces, process_of, world_of}
use Rattle.call_bytes.specs.Puts.{stray_range, access_at}
use Rattle.kept_parts.specs.Reach.{writable}
use Rattle.region_watch.specs.Private.{in_pages}
use Rattle.kept_parts.specs.InMemory.{physical_of, GoesIn, ServesIn, DiedIn, InReach}
use Rattle.kept_parts.specs.Serves.{Answered, Serves, Died}
use Rattle.kept_parts.specs.Recorded.{call_recorded, room_beside}
use Rattle.kept_parts.specs.Calls.{LivesIn, IsCall, ask_in, output_reply, noted_entry, noted_call, after_reply, GaveIn}
use Rattle.call_bytes.proofs.Places.{any_at}
use Rattle.kept_parts.proofs.Common.SpacesApart.{is_used}
use Rattle.call_bytes.proofs.Puts.{put_all, put_strays, none_strays, stray_wider, writable_own, part_frozen}
use Rattle.kept_parts.proofs.Copies.SameBytes.{copies_frozen}
use Rattle.kept_parts.proofs.Common.StaysRegular.{set_kept}
use Rattle.kept_parts.proofs.Common.NextWorlds.{moved_world}
use Rattle.kept_parts.proofs.Common.Recorded.{maps_none, room_plain, room_never}
use Rattle.kept_parts.proofs.Replies.Replied.{room_is}
use Rattle.kept_parts.proofs.Common.ShownBytes.{shown_as}
use Rattle.kept_parts.proofs.Common.FreeBytes.{bytes_none}
use Rattle.kept_parts.proofs.Replies.PlainMemory.{plain_died}
use Rattle.kept_parts.proofs.Replies.Outcomes.{acts_is, output_strays}

-- ---- what an event brings

-- whatever bytes a world's spaces have, they show those of memory
pub showing_new : (a : About) (k : Kept) (m : List ℕ) → showing (physical k.mem) (world_of a (record k { mem = m })) ≡ world_of a k
unfolding world_of
showing_new a k m = ap (λ (ss : List LiveSpace). record (world_of a k) { spaces = ss }) (shown_as m k.mem k.spaces)

free_below : (free : Bool) (x y : Option ℕ) → (free ≡ true → x ≡ None) → or_below (if free then x else None) y ≡ y
free_below true x y none = ap (λ (o : Option ℕ). or_below o y) (none refl)
free_below false x y none = refl

module _ (k : Kept) (regular : Regular k) where
  -- the spaces that there are bring nothing where no mapping holds the page
  pub brings_none : (a : About) (memory : Bytes) → over (only (is_free_at (world_of a k)) (bytes_in (world_of a k).spaces)) memory ≡ memory
  unfolding only
  brings_none a memory = λ q at.
      free_below (is_free_at (world_of a k) at) (bytes_in (world_of a k).spaces at) (memory at) (bytes_none k regular at a) q

  -- ---- bytes laid into the one memory, where the spaces are the same

  module _ (headers : List (List ℕ)) (a : About) (new : Kept) (same : new.spaces ≡ k.spaces) where
    now_spaces : (world_of (later 1 a) (record new { mem = k.mem })).spaces ≡ (world_of a k).spaces
    unfolding world_of
    now_spaces = ap (live_spaces k.mem) same

    laid_given : (now : World) (t : Trace) → t.begins ≡ None → now ≡ world_of (later 1 a) (record new { mem = k.mem }) →
        laid_behind (physical_of headers a k) (physical new.mem) now t ≡ physical new.mem
    unfolding laid_behind physical_of
    laid_given now t nothing is =
        rw nothing
        (ap (λ (ss : List LiveSpace). over (only (is_free_at (world_of a k)) (bytes_in ss)) (physical new.mem)) (ap (λ (w : World). w.spaces) is ∙ now_spaces)
        ∙ brings_none a (physical new.mem))

    pub carried_given : (now : World) (t : Trace) → t.begins ≡ None → now ≡ world_of (later 1 a) (record new { mem = k.mem }) →
        carried (physical_of headers a k) (physical new.mem) (went now t) ≡ after (physical_of headers (later 1 a) new) t.over
    unfolding physical_of
    carried_given now t nothing is =
        ap (λ (m : Bytes). after (record { world = showing m now; memory = m; headers = headers }) t.over) (laid_given now t nothing is)
        ∙ ap (λ (w : World). after (record { world = w; memory = physical new.mem; headers = headers }) t.over)
        (ap (showing (physical new.mem)) is ∙ showing_new (later 1 a) new k.mem)

-- ---- a call that gives bytes

module _ (headers : List (List ℕ)) (a : About) (k : Kept) (e : Entry Task) (h : Held) (call : Call) (runs : LivesIn k call.pid e h) (is : IsCall e call) (o : Output) where
  abbrev ask : Ask
  ask = ask_in a k e h call

  abbrev gives : Reply
  gives = output_reply ask o

  abbrev files_then : OpenFiles
  files_then = after_files o.then e.value.table k.files

  entry_is : noted_entry call o.value (got_of o) ≡ entry_of ask o.value (got_of o)
  entry_is = λ i. record { pid = is.pid i; call = is.number i; args = is.args i; sent = call.sent.items; reply = o.value; got = got_of o }

  given_room : (call.number == 222) ≡ false → (b : Bool) → room_beside k (weight_of call.sent.items (got_of o)) ≡ b → room_for (world_of a k) ask gives ≡ b
  given_room plain b room = room_plain a k e h call gives b (ap maps_file (sym entry_is) ∙ maps_none call o.value (got_of o) plain) room

  -- by the bytes that can be written
  put_is : (found : Result Bytes Span) → put_got (physical k.mem) (in_pages (length k.regions)) (got_of o) ≡ found →
      answered_in (physical_of headers a k) ask (replies gives) ≡ put_in (physical_of headers a k) ask gives found
  unfolding physical_of world_of
  put_is found = ap (put_in (physical_of headers a k) ask gives)

  abbrev trace : Trace
  trace = record { space = e.value.space; events = 1; items = item_of (entry_of ask o.value (got_of o)) (private_bytes k.mem h) ∷ []; begins = None; over = false }

  abbrev now : World
  now = replied_world (record (world_of a k) { rest = gives.rest }) ask gives (private_bytes k.mem h)

  served_is : room_for (world_of a k) ask gives ≡ true → served (world_of a k) ask gives (private_bytes k.mem h) ≡ went now trace
  unfolding served
  served_is room = rw room refl

  served_full : room_for (world_of a k) ask gives ≡ false → served (world_of a k) ask gives (private_bytes k.mem h) ≡ full
  unfolding served
  served_full room = rw room refl

  now_is : now ≡ world_of (later 1 a) (after_reply k e h call gives k.mem)
  unfolding world_of
  now_is =
      (λ i. record (with_space (record (world_of a k) { rest = gives.rest }) (process_of e) (replied e.value.regs o.value) (private_of k.mem h)) {
        notes = call_note (sym entry_is i) ∷ k.notes;
        events = a.events + 1;
        recording = call_recorded k.recording e.value.space (sym entry_is i) (private_bytes k.mem h);
      })
      ∙ ap (λ (w : World). record w { recording = call_recorded k.recording e.value.space (noted_entry call o.value (got_of o)) (private_bytes k.mem h) }) (sym (moved_world k call.pid e h runs (replied e.value.regs o.value) h k.mem (λ j x other there. refl) k.regions refl k.starts a 1 (noted_call call o.value (got_of o) ∷ k.notes) k.tree files_then k.console))

  -- it has its bytes
  pub given_serves_in : Regular k → (new : Kept) → GaveIn a k e h call o new → (call.number == 222) ≡ false → room_beside k (weight_of call.sent.items (got_of o)) ≡ true → Lives new.procs call.pid →
      GoesIn headers a (answered_in (physical_of headers a k) ask (replies gives)) k new call.pid Replied
  unfolding physical_of
  given_serves_in regular new gave plain room lives =
      subst (λ (x : After). GoesIn headers a x k new call.pid Replied) (sym goes) (refl, (refl, lives))
    where
      same_spaces : new.spaces ≡ k.spaces
      same_spaces = ap (λ (x : Kept). x.spaces) gave.after ∙ set_kept k.spaces e.value.space (Some h) runs.home

      carried_is : carried (physical_of headers a k) (physical new.mem) (served (world_of a k) ask gives (private_bytes k.mem h)) ≡ after (physical_of headers (later 1 a) new) false
      carried_is =
          ap (carried (physical_of headers a k) (physical new.mem)) (served_is (given_room plain true room))
          ∙ carried_given k regular headers a new same_spaces now trace refl (now_is ∙ ap (λ (x : Kept). world_of (later 1 a) (record x { mem = k.mem })) (sym gave.after))

      goes : answered_in (physical_of headers a k) ask (replies gives) ≡ after (physical_of headers (later 1 a) new) false
      goes = put_is (Ok (physical new.mem)) gave.put ∙ carried_is

  -- the log has no room
  pub given_full_in : stray_range (in_pages (length k.regions)) (got_of o) ≡ None → room_beside k (weight_of call.sent.items (got_of o)) ≡ false →
      GoesIn headers a (answered_in (physical_of headers a k) ask (replies gives)) k k call.pid LogFull
  unfolding physical_of
  given_full_in fits room =
      let all = put_all (physical k.mem) (in_pages (length k.regions)) (got_of o) fits in
      subst (λ (x : After). GoesIn headers a x k k call.pid LogFull) (sym (put_is (Ok all.0) all.1 ∙ filled all.0)) (refl, refl, tt)
    where
      filled : (m : Bytes) → put_in (physical_of headers a k) ask gives (Ok m) ≡ no_room (physical_of headers a k)
      filled m = ap (carried (physical_of headers a k) m) (served_full (room_never a k e h call gives room))

  -- a range lies outside memory
  pub given_strays_in : (access : Access) → Some access ≡ option_map (access_at e.value.regs.pc) (stray_range (in_pages (length k.regions)) (got_of o)) →
      killed (physical_of headers a k) (process_of e) outside ≡ answered_in (physical_of headers a k) ask (replies gives)
  given_strays_in access found = by_span (stray_range (in_pages (length k.regions)) (got_of o)) refl found
    where
      by_span : (span : Option Span) → stray_range (in_pages (length k.regions)) (got_of o) ≡ span → Some access ≡ option_map (access_at e.value.regs.pc) span →
          killed (physical_of headers a k) (process_of e) outside ≡ answered_in (physical_of headers a k) ask (replies gives)
      by_span None there is = absurd cc
      by_span (Some span) there is = sym (put_is (Err span) (put_strays (physical k.mem) (in_pages (length k.regions)) (got_of o) span there))

-- or it strays, and nothing is done
pub strays_serve : (a : About) (k : Kept) (e : Entry Task) (h : Held) (call : Call) → LivesIn k call.pid e h → IsCall e call → (o : Output) (access : Access) →
    Some access ≡ option_map (access_at e.value.regs.pc) (stray_range (writable_in h.maps) (got_of o)) → (new : Kept) (result : Result Served AllocError) →
    result ≡ Ok (Stray access) → new ≡ k → Serves a (answered (world_of a k) (ask_in a k e h call) (replies (output_reply (ask_in a k e h call) o))) k new call.pid result
strays_serve a k e h call runs is o access found new result strayed same =
    subst (λ (r : Result Served AllocError). Serves a (answered (world_of a k) (ask_in a k e h call) (replies (output_reply (ask_in a k e h call) o))) k new call.pid r) (sym strayed)
    (subst (λ (x : Kept). Answered a (answered (world_of a k) (ask_in a k e h call) (replies (output_reply (ask_in a k e h call) o))) k x call.pid (Stray access)) (sym same) (output_strays a k e h call runs is o access found))

-- ---- an end

dies_goes : (headers : List (List ℕ)) (a : About) (x : After) (old new : Kept) (pid : ℕ) → DiedIn headers a x new pid → GoesIn headers a x old new pid Ended
dies_goes headers a (after p over) old new pid died = (died.0, (died.1, died.2))
dies_goes headers a (no_room p) old new pid died = absurd died
dies_goes headers a nobody old new pid died = absurd died

-- of a process that lives
pub killed_by : (headers : List (List ℕ)) (a : About) (k new : Kept) → new.mem ≡ k.mem → (pid : ℕ) (e : Entry Task) (h : Held) → LivesIn k pid e h → (signal : ℕ) →
    Died a (at_process (world_of a k) pid (λ p s. trapped (world_of a k) p signal)) new pid → GoesIn headers a (killed (physical_of headers a k) (process_of e) signal) k new pid Ended
unfolding physical_of
killed_by headers a k new stays pid e h runs signal died =
    dies_goes headers a (killed (physical_of headers a k) (process_of e) signal) k new pid
    (plain_died headers a k new stays pid (trapped (world_of a k) (process_of e) signal)
    (subst (λ (o : Outcome). Died a o new pid) (acts_is a k pid e h runs (λ p s. trapped (world_of a k) p signal)) died)
    (trapped_begins (world_of a k) (process_of e) signal))

-- ---- within reach

module _ (headers : List (List ℕ)) (a : About) (o : After) (old new : Kept) (pid : ℕ) where
  pub is_unchanged : (mode : Mode) (error : AllocError) → InReach mode headers a o old new pid (Err error) → new ≡ old
  is_unchanged Halt error same = same
  is_unchanged GoOn error same = same

  -- what comes of an access beyond reach
  pub beyond : (mode : Mode) (access : Access) (result : Result Served AllocError) → (mode ≡ Halt → (result ≡ Ok (Stray access)) × (new ≡ old)) →
      (mode ≡ GoOn → ServesIn headers a o old new pid result) → InReach mode headers a o old new pid result
  beyond Halt access result strayed dies = subst (InReach Halt headers a o old new pid) (sym (strayed refl).0) tt
  beyond GoOn access (Ok s) strayed dies = dies refl
  beyond GoOn access (Err error) strayed dies = dies refl

-- ---- what a process may write lies in memory

both : (x y : Bool) → (x && y) ≡ true → (x ≡ true) × (y ≡ true)
both true y is = (refl, is)
both false y is = absurd (let e : false ≡ true = is in cc)

module _ (k : Kept) (regular : Regular k) (i : ℕ) (h : Held) (there : slice_get k.spaces i ≡ Some (Some h)) where
  writable_inside : (at : ℕ) → writable_in h.maps at ≡ true → in_pages (length k.regions) at ≡ true
  unfolding writable_in
  writable_inside at may =
      let m = any_at (λ (x : Mapping). x.range.writes && in_range x.range at) h.maps may in
      let inside = (both m.item.range.writes (in_range m.item.range at) m.passes).1 in
      let names = regular.names i m.place h m.item there m.there in
      let live = is_used k regular i m.place h m.item names.region there m.there names.there in
      let last = regular.regions.inside m.item.first names.region names.there live in
      let first = regular.regions.begins m.item.first names.region names.there live in
      let low : m.item.range.from ≤ at = grind (arith, nat_tests, inside) in
      let high : at < m.item.range.from + m.item.range.size = grind (arith, nat_tests, inside) in
      let above : 2 ^ 31 ≤ at = omega (arith, names.from, low) in
      let below : at < 2 ^ 31 + 4096 * length k.regions = omega (arith, names.to, names.run, first, last, high) in
      grind (arith, nat_tests, above, below)

  -- ranges of it too
  own_inside : (gots : List GotRange) → stray_range (writable_in h.maps) gots ≡ None → stray_range (in_pages (length k.regions)) gots ≡ None
  own_inside = stray_wider (writable_in h.maps) (in_pages (length k.regions)) writable_inside

  -- and of either reach
  pub reach_inside : (mode : Mode) (gots : List GotRange) → stray_range (writable mode (length k.regions) h) gots ≡ None → stray_range (in_pages (length k.regions)) gots ≡ None
  reach_inside Halt gots fits = own_inside gots fits
  reach_inside GoOn gots fits = fits

  -- ---- copies hold their file where a stray access was noted, or what was given is the caller's own

  copies_if : (mem : List ℕ) → CopiesHold k.regions k.mem k.tree k.notes → (has_stray k.notes ≡ false → CopiesHold k.regions mem k.tree k.notes) → CopiesHold k.regions mem k.tree k.notes
  copies_if mem copies holds = record {
    hold = λ unstrayed. (holds unstrayed).hold unstrayed;
    known = copies.known;
    changes = copies.changes;
    uses = copies.uses;
  }

  pub copies_given : CopiesHold k.regions k.mem k.tree k.notes → (mem : List ℕ) → length mem ≡ length k.mem → (gots : List GotRange) →
      put_got (physical k.mem) (in_pages (length k.regions)) gots ≡ Ok (physical mem) → (has_stray k.notes ≡ false → stray_range (writable_in h.maps) gots ≡ None) →
      CopiesHold k.regions mem k.tree k.notes
  copies_given copies mem len gots puts fits = copies_if mem copies (λ unstrayed.
      copies_frozen k regular copies i h there mem len
      (part_frozen (own_in h.maps) (writable_in h.maps) (in_pages (length k.regions)) (writable_own h.maps) (physical mem) gots (physical k.mem) (fits unstrayed) puts))

-- ---- what the code looked for

module _ (o : Output) (xs : List Got) (seen : xs ≡ o.got.items) where
  -- the first range beyond reach
  module _ (mode : Mode) (k : Kept) (pid : ℕ) (found : Option Access)
      (looks : (e : Entry Task) → (h : Held) → LivesIn k pid e h → found ≡ option_map (access_at e.value.regs.pc) (stray_range (writable mode (length k.regions) h) (map got_value xs)))
      (e : Entry Task) (h : Held) (runs : LivesIn k pid e h) where
    pub found_by : found ≡ option_map (access_at e.value.regs.pc) (stray_range (writable mode (length k.regions) h) (got_of o))
    found_by = looks e h runs ∙ ap (λ (ys : List Got). option_map (access_at e.value.regs.pc) (stray_range (writable mode (length k.regions) h) (map got_value ys))) seen

    pub none_beyond : found ≡ None → stray_range (writable mode (length k.regions) h) (got_of o) ≡ None
    none_beyond none = none_strays e.value.regs.pc _ _ found_by none

  -- whether the log has room
  pub room_by : (inside k : Kept) → inside ≡ k → (bytes : List ℕ) (found b : Bool) → found ≡ room_beside inside (weight_of bytes (map got_value xs)) → found ≡ b →
      room_beside k (weight_of bytes (got_of o)) ≡ b
  room_by inside k same bytes found b asked is =
      room_is inside k same (weight_of bytes (got_of o)) found b (asked ∙ ap (λ (ys : List Got). room_beside inside (weight_of bytes (map got_value ys))) seen) is

-- where all of memory is in reach a stray access was noted, else what is in reach is the caller's own
pub fits_unstrayed : (mode : Mode) (notes : List Note) (pages : ℕ) (h : Held) (gots : List GotRange) → (mode ≡ GoOn → has_stray notes ≡ true) →
    stray_range (writable mode pages h) gots ≡ None → has_stray notes ≡ false → stray_range (writable_in h.maps) gots ≡ None
fits_unstrayed Halt notes pages h gots strayed fits unstrayed = fits
fits_unstrayed GoOn notes pages h gots strayed fits unstrayed = absurd (let e = sym unstrayed ∙ strayed refl in cc)

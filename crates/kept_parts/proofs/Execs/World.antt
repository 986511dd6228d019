-- The parts with a program in the place of another one stand for the world in which it is.
use Rattle.std.proofs.Common.{◌≡◌, ℕ, Bool, true, false, List, [], ◌∷◌, ◌++◌, map, length, Option, Some, None, refl, sym, ap, subst, ◌∙◌, arith, add-zero, length-set, length-append}
use Rattle.std.specs.Prelude.{if◌then◌else◌, IsSome, slice_get, slice_set}
use Rattle.std.proofs.lemmas.Option.{slice_get_within}
use Rattle.page_runs.specs.declared.place.Kind.{Kind}
use Rattle.mmap_rules.specs.Held.{Held, page_address}
use Rattle.bflt_format.specs.Values.{Values}
use Rattle.call_log.specs.declared.errno.Errno.TheVariants.{E2big, Enomem}
use Rattle.call_log.specs.Notes.{Note, load_note, call_note, weight_of}
use Rattle.call_log.specs.Strings.{ProgramStrings}
use Rattle.flat_loader.specs.Original.{flat_original, block_pages}
use Rattle.flat_loader.specs.Begin.{Loading, begin_space, begin_regs}
use Rattle.flat_loader.specs.Loads.{block_page, block_region, held_begin, page_loading}
use Rattle.vfork_exec.specs.declared.entry.Entry.{Entry}
use Rattle.vfork_exec.specs.Keyed.{without}
use Rattle.vfork_exec.specs.Procs.{Lives}
use Rattle.vfork_exec.specs.Procs.{borrows as entry_borrows}
use Rattle.vfork_exec.proofs.Keyed.{eqb_other, without_head}
use Rattle.file_calls.specs.declared.call.Call.{Call}
use Rattle.machine_world.specs.World.{LiveSpace, Recording, World, id_of}
use Rattle.machine_world.specs.Families.{borrows, spaces_left}
use Rattle.machine_world.specs.Found.{Found}
use Rattle.machine_world.specs.Asks.{Ask, refuses}
use Rattle.machine_world.specs.Recordings.{launch_of, launched, room_in}
use Rattle.machine_world.specs.Event.{Outcome, went, counted_in, noted, number_of, args_of, entry_of, plain_item, answered, with_exec, load_of, executed, exec_at, exec_fitting}
use Rattle.kept_parts.specs.declared.task.Task.{Task}
use Rattle.kept_parts.specs.declared.served.Served.TheVariants.{Replied}
use Rattle.kept_parts.specs.Kept.{Kept}
use Rattle.kept_parts.specs.Regular.{Regular}
use Rattle.kept_parts.specs.Stands.{About, later, live_spaces, process_of, world_of}
use Rattle.kept_parts.specs.Serves.{Answered}
use Rattle.kept_parts.specs.Gone.{space_left}
use Rattle.kept_parts.specs.Recorded.{event_recorded, program_recorded, room_beside}
use Rattle.kept_parts.specs.Calls.{LivesIn, IsCall, ask_in, noted_call}
use Rattle.call_bytes.proofs.Places.{get_before}
use Rattle.kept_parts.proofs.Common.FoundInWorld
use Rattle.kept_parts.proofs.Common.ProcessList.{borrows_is}
use Rattle.kept_parts.proofs.Ends.RegularWithout.{length_released}
use Rattle.kept_parts.proofs.Starts.Loaded.{taken_is, Placed, spaces_begin}
use Rattle.kept_parts.proofs.Execs.Regular.{switched, own_switched, procs_are}

-- ---- the run that is taken, while the old space is held

module _ (a : About) (k : Kept) (regular : Regular k) (kind : Kind) (same : a.kind ≡ kind) where
  module _ (ask : Ask) (f : Found) (s : ProgramStrings) (fits : Bool) where
    pub too_big : fits ≡ false → exec_fitting (world_of a k) ask f s fits ≡ answered (world_of a k) ask (refuses ask E2big)
    too_big big = ap (exec_fitting (world_of a k) ask f s) big

    pub exec_is_at : (o : Option ℕ) → fits ≡ true → block_page kind k.regions (block_pages f.original) ≡ o → exec_fitting (world_of a k) ask f s fits ≡ exec_at (world_of a k) ask f s o
    exec_is_at o fit is = ap (exec_fitting (world_of a k) ask f s) fit ∙ ap (exec_at (world_of a k) ask f s) (taken_is a k regular kind same (block_pages f.original) ∙ is)

    pub no_run : fits ≡ true → block_page kind k.regions (block_pages f.original) ≡ None → exec_fitting (world_of a k) ask f s fits ≡ answered (world_of a k) ask (refuses ask Enomem)
    no_run fit none = exec_is_at None fit none

pub executed_when : (w : World) (ask : Ask) (index : ℕ) (l : Loading) → room_in w (weight_of ask.sent []) ≡ true →
    executed w ask index l
    ≡ went (noted (load_of ask.process index l) (noted (call_note (entry_of ask 0 [])) (counted_in ask.process.space (with_exec w ask.process l))))
    (record {
      space = ask.process.space;
      events = 1;
      items = plain_item (entry_of ask 0 []) ∷ [];
      begins = Some (record { loading = l; pid = ask.process.pid });
      over = false;
    })
unfolding executed
executed_when w ask index l room = rw room refl

-- ---- the world

same_notes : (p q n m index base pages : ℕ) (xs ys sent : List ℕ) (notes : List Note) → p ≡ q → n ≡ m → xs ≡ ys →
    load_note (record { pid = p; program = index; base = base; pages = pages }) ∷ call_note (record { pid = p; call = n; args = xs; sent = sent; reply = 0; got = [] }) ∷ notes
    ≡ load_note (record { pid = q; program = index; base = base; pages = pages }) ∷ call_note (record { pid = q; call = m; args = ys; sent = sent; reply = 0; got = [] }) ∷ notes
same_notes p q n m index base pages xs ys sent notes e f g = cc

some_lives : (o : Option (Entry Task)) (x : Entry Task) → o ≡ Some x → IsSome o
some_lives (Some y) x is = refl
some_lives None x is = absurd cc

-- what the code notes
abbrev pub notes_behind : Kept → Call → Values → (page index : ℕ) → List Note
notes_behind k call f page index =
    load_note (record { pid = call.pid; program = index; base = page_address page; pages = block_pages (flat_original f) }) ∷ noted_call call 0 [] ∷ k.notes

-- and records: an event in the old space, and the program in the new one
abbrev pub recorded_behind : Kept → Call → ℕ → Loading → Recording
recorded_behind k call space l = program_recorded (event_recorded k.recording space) (length k.spaces) (launch_of call.pid l)

-- the parts before the old space goes
abbrev pub running : Kept → Call → Task → Values → (args env : List (List ℕ)) → (page index : ℕ) → List ℕ → Kept
running k call t f args env page index mem = record (switched k call.pid t (block_region page (block_pages (flat_original f))) (held_begin (length k.regions) (page_loading f page args env))
    (begin_regs (page_loading f page args env)) mem (notes_behind k call f page index)) {
      recording = recorded_behind k call t.space (page_loading f page args env);
    }

module _ (k : Kept) (regular : Regular k) (e : Entry Task) (h : Held) (call : Call) (runs : LivesIn k call.pid e h) (f : Values) (args env : List (List ℕ)) (page index : ℕ) (mem : List ℕ) where
  abbrev now : Kept
  now = running k call e.value f args env page index mem

  abbrev loading : Loading
  loading = page_loading f page args env

  abbrev begun : LiveSpace
  begun = record { id = length k.spaces; space = begin_space loading }

  -- the old space still stands at its number
  pub old_home : slice_get (k.spaces ++ Some (held_begin (length k.regions) (page_loading f page args env)) ∷ []) e.value.space ≡ Some (Some h)
  old_home = get_before k.spaces (Some (held_begin (length k.regions) loading)) e.value.space (Some h) runs.home

  pub lives_behind : (lent : Bool) → Lives (space_left (running k call e.value f args env page index mem) lent e.value.space h).procs call.pid
  lives_behind true = some_lives _ _ (own_switched k regular call.pid e runs.lives (begin_regs loading))
  lives_behind false = some_lives _ _ (own_switched k regular call.pid e runs.lives (begin_regs loading))

  module _ (a : About) (is : IsCall e call) (loaded : Placed k regular f args env page mem) where
    abbrev ask : Ask
    ask = ask_in a k e h call

    abbrev then_world : List LiveSpace → World
    then_world spaces = record (noted (load_of (process_of e) index loading) (noted (call_note (entry_of ask 0 [])) (counted_in e.value.space (with_exec (world_of a k) (process_of e) loading)))) { spaces = spaces }

    notes_are : notes_behind k call f page index ≡ load_of (process_of e) index loading ∷ call_note (entry_of ask 0 []) ∷ k.notes
    notes_are =
        same_notes call.pid e.pid call.number (number_of e.value.regs) index (page_address page) (block_pages (flat_original f)) call.args (args_of e.value.regs) call.sent.items k.notes
        is.pid is.number is.args

    recorded_is : recorded_behind k call e.value.space loading ≡ event_recorded (launched (length k.spaces) e.pid loading k.recording) e.value.space
    recorded_is = ap (λ (pid : ℕ). program_recorded (event_recorded k.recording e.value.space) (length k.spaces) (launch_of pid loading)) is.pid

    -- without the old space
    spaces_gone : live_spaces mem (slice_set now.spaces e.value.space None) ≡ begun ∷ without id_of e.value.space (live_spaces k.mem k.spaces)
    spaces_gone =
        let within = slice_get_within k.spaces e.value.space (Some h) runs.home in
        sym (FoundInWorld.without_space mem now.spaces e.value.space h old_home)
        ∙ ap (without id_of e.value.space) (spaces_begin k regular f args env page mem loaded)
        ∙ without_head id_of e.value.space begun (live_spaces k.mem k.spaces) false (eqb_other (length k.spaces) e.value.space (omega (arith, within)))

    left_world : (lent : Bool) → world_of (later 1 a) (space_left now lent e.value.space h)
        ≡ then_world (begun ∷ (if lent then live_spaces k.mem k.spaces else without id_of e.value.space (live_spaces k.mem k.spaces)))
    unfolding world_of
    left_world true = λ i. record (then_world (spaces_begin k regular f args env page mem loaded i)) {
      procs = procs_are a k regular call.pid e runs.lives loading i;
      loads = length-append k.spaces (Some (held_begin (length k.regions) loading) ∷ []) i;
      rest = record (then_world []).rest { pages = length-set k.regions page (block_region page (block_pages (flat_original f))) i };
      notes = notes_are i;
      recording = recorded_is i;
    }
    left_world false = λ i. record (then_world (spaces_gone i)) {
      procs = procs_are a k regular call.pid e runs.lives loading i;
      loads = (length-set now.spaces e.value.space None ∙ length-append k.spaces (Some (held_begin (length k.regions) loading) ∷ [])) i;
      rest = record (then_world []).rest { pages = (length_released now.regions h.maps ∙ length-set k.regions page (block_region page (block_pages (flat_original f)))) i };
      notes = notes_are i;
      recording = recorded_is i;
    }

    lent_world : (lent : Bool) → borrows (process_of e) (map process_of k.procs.entries) ≡ lent →
        then_world (begun ∷ (if lent then live_spaces k.mem k.spaces else without id_of e.value.space (live_spaces k.mem k.spaces)))
        ≡ noted (load_of (process_of e) index loading) (noted (call_note (entry_of ask 0 [])) (counted_in e.value.space (with_exec (world_of a k) (process_of e) loading)))
    unfolding world_of spaces_left
    lent_world lent lends =
        ap (λ (b : Bool). then_world (begun ∷ (if b then live_spaces k.mem k.spaces else without id_of e.value.space (live_spaces k.mem k.spaces)))) (sym lends)

    pub world_behind : (lent : Bool) → entry_borrows k.procs e.pid ≡ lent → world_of (later 1 a) (space_left (running k call e.value f args env page index mem) lent e.value.space h)
        ≡ noted (load_of (process_of e) index (page_loading f page args env))
        (noted (call_note (entry_of (ask_in a k e h call) 0 [])) (counted_in e.value.space (with_exec (world_of a k) (process_of e) (page_loading f page args env))))
    world_behind lent lends = left_world lent ∙ lent_world lent (borrows_is k.procs e ∙ lends)

    pub room_there : room_beside k (length call.sent.items) ≡ true → room_in (world_of a k) (weight_of call.sent.items []) ≡ true
    unfolding world_of
    room_there room = ap (room_beside k) (add-zero (length call.sent.items)) ∙ room

    pub exec_serves : (kind : Kind) → a.kind ≡ kind → (fits lent : Bool) → fits ≡ true → block_page kind k.regions (block_pages (flat_original f)) ≡ Some page →
        room_beside k (length call.sent.items) ≡ true → entry_borrows k.procs e.pid ≡ lent →
        Answered a (exec_fitting (world_of a k) (ask_in a k e h call) (record { index = index; original = flat_original f }) (record { args = args; env = env }) fits)
        k (space_left (running k call e.value f args env page index mem) lent e.value.space h) call.pid Replied
    exec_serves kind same fits lent fit placed room lends =
        let new : Kept = space_left now lent e.value.space h in
        let goes = exec_is_at a k regular kind same ask (record { index = index; original = flat_original f }) (record { args = args; env = env }) fits (Some page) fit placed
        ∙ executed_when (world_of a k) ask index loading (room_there room) in
        subst (λ (o : Outcome). Answered a o k new call.pid Replied) (sym goes) (sym (world_behind lent lends), (refl, refl, lives_behind lent))

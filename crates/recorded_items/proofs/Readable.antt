-- Every event keeps it that each program was loaded as it should be, and each call noted so.
use Rattle.std.proofs.Common.{◌≡◌, ℕ, suc, zero, ◌≤◌, Bool, true, false, not, List, [], ◌∷◌, ◌++◌, Option, Some, None, Result, Ok, Err, refl, subst, arith}
use Rattle.std.specs.Prelude.{◌==◌, if◌then◌else◌}
use Rattle.std.specs.List.{AllByRecursion}
use Rattle.byte_words.specs.ByteMap.{Bytes}
use Rattle.rv32im_step.specs.Meaning.{Meaning, next, call, trap, refused, meaning}
use Rattle.call_log.specs.declared.errno.Errno.{Errno}
use Rattle.byte_words.specs.declared.access.Access.{Access}
use Rattle.call_log.specs.Errno.{refusal}
use Rattle.call_log.specs.Notes.{GotRange, stray_note, weight_of}
use Rattle.call_log.specs.Strings.{ProgramStrings, program_strings}
use Rattle.call_log.specs.Sent.{Span, has_zero, sent}
use Rattle.mmap_rules.specs.Space.{Space, writable_in}
use Rattle.vfork_exec.specs.declared.family.Who.{Who}
use Rattle.vfork_exec.specs.declared.family.State.{State}
use Rattle.vfork_exec.specs.declared.family.State.TheVariants.{Waiting}
use Rattle.vfork_exec.specs.declared.family.Ended.{Ended}
use Rattle.vfork_exec.specs.declared.family.Waited.{Waited}
use Rattle.vfork_exec.specs.declared.family.Waited.TheVariants.{Child, NoneYet, Waits}
use Rattle.vfork_exec.specs.Keyed.{find}
use Rattle.vfork_exec.specs.Families.{without_first}
use Rattle.flat_loader.specs.Original.{block_pages}
use Rattle.flat_loader.specs.Frame.{frame_fits}
use Rattle.flat_loader.specs.Begin.{Loading}
use Rattle.flat_loader.specs.Alone.{most_pages}
use Rattle.machine_world.specs.World.{Process, LiveSpace, World, pid_of, id_of}
use Rattle.machine_world.specs.Families.{MayRun, is_full}
use Rattle.machine_world.specs.Found.{Found, address_of, taken}
use Rattle.machine_world.specs.Free.{free}
use Rattle.machine_world.specs.Asks.{Ask, Reply, Row, replies, waits, arg, gives, refuses}
use Rattle.machine_world.specs.PathCalls.{path_of}
use Rattle.machine_world.specs.FamilyCalls.{who_of, waitid_fault, child_info, no_info, info_at, vfork_flags, runs}
use Rattle.machine_world.specs.Rows.{row}
use Rattle.machine_world.specs.Recordings.{room_in}
use Rattle.machine_world.specs.Event.{Begins, Trace, Outcome, went, full, number_of, args_of, put_got, noted, ended, stepped, trapped, ask_of, entry_of, room_for, served, put, waited, answered, exited, is_exit, reaped, told_in, waitid_behind, waitid, forked, cloned, executed, exec_at, exec_program, exec_strings, exec, classed, asked, answer, effect, in_space, by_process, at_process, event}
use Rattle.machine_world.proofs.ByEvents.{Went, by_settled}
use Rattle.alone_laws.specs.Stays.{Stay, change_at, longer, begun_stay, collect}
use Rattle.alone_laws.specs.Sound.{IsSound}
use Rattle.alone_laws.proofs.SoundBegins.{pages_free}
use Rattle.recorded_items.specs.Spelled.{IsLoaded, IsAnswered, IsNoted, HasLoaded, AreReadable}
use Rattle.recorded_items.proofs.SomeOutput.{AreSome, GivesSome, some_row, some_info, some_none}
use Rattle.recorded_items.proofs.ClearStrings.{ClearProgram, clear_program}

-- ---- what an event leaves

abbrev BeginsLoaded : Option Begins → Type 0
BeginsLoaded None = Unit {0}
BeginsLoaded (Some b) = IsLoaded b.loading

abbrev Leaves : World → Trace → Type 0
Leaves now t = AllByRecursion IsNoted now.notes × BeginsLoaded t.begins

by_test : (b : Bool) (x y : Outcome) → (b ≡ true → Went Leaves x) → (b ≡ false → Went Leaves y) → Went Leaves (if b then x else y)
by_test true x y hx hy = hx refl
by_test false x y hx hy = hy refl

-- a program that is placed in a free run of memory
pub is_loaded : (w : World) (f : Found) (args env : List (List ℕ)) (page : ℕ) → w.rest.pages ≤ most_pages → taken w (block_pages f.original) (free w) ≡ Some page
    → ClearProgram (Some (record { args = args; env = env })) → frame_fits f.original args env ≡ true
    → IsLoaded (record { original = f.original; block = address_of page; args = args; env = env })
is_loaded w f args env page most chosen clear fits =
    let inside = (pages_free w page (record { original = f.original; block = address_of page; args = args; env = env }) chosen).inside in
    record { page = page; block = refl; inside = omega (arith, inside, most); args = clear.0; env = clear.1; fits = fits }

module _ (w : World) (notes : AllByRecursion IsNoted w.notes) (most : w.rest.pages ≤ most_pages) (p : Process) (s : Space) where
  module _ (bytes : List ℕ) where
    abbrev a : Ask
    a = ask_of w p s bytes

    is_answered : (value : ℕ) (got : List GotRange) → AreSome got → IsAnswered (entry_of a value got)
    is_answered value got some = record { args = refl; got = some }

    by_put : (others : List Ended) (r : Reply) → AreSome r.got → (o : Result Bytes Span) → Went Leaves (put (record w { ended = others }) a r o)
    unfolding served
    by_put others r some (Ok m) = by_test (room_for (record w { ended = others }) a r) (went _ _) full (λ room. ((is_answered r.value r.got some, notes), tt)) (λ none. tt)
    by_put others r some (Err span) = tt

    by_waited : (state : State) → Went Leaves (waited w p state)
    unfolding waited
    by_waited state = (notes, tt)

    by_answered : (r : Row) → GivesSome r → Went Leaves (answered w a r)
    by_answered (replies r) some = by_put w.ended r some (put_got r.space.bytes (writable_in r.space.maps) r.got)
    by_answered (waits state) some = by_waited state

    by_gives : (others : List Ended) (value : ℕ) (got : List GotRange) → AreSome got → Went Leaves (answered (record w { ended = others }) a (gives a value got w.rest))
    by_gives others value got some =
        by_put others (record { value = value; got = got; rest = w.rest; space = s; over = false }) some (put_got s.bytes (writable_in s.maps) got)

    by_refuses : (e : Errno) → Went Leaves (answered w a (refuses a e))
    by_refuses e = by_gives w.ended (refusal e) [] tt

    by_exited : Went Leaves (exited w a)
    unfolding exited ended
    by_exited = by_test (room_in w (weight_of bytes [])) (went _ _) full (λ room. ((tt, (is_answered 0 [] tt, notes)), tt)) (λ none. tt)

    by_reaped : (who : Who) (o : Result Waited Errno) → Went Leaves (reaped w a who o)
    by_reaped who (Ok (Child child how)) = by_gives (without_first p.pid who w.ended) 0 (info_at (arg a 2) (child_info child how)) (some_info (arg a 2) child how)
    by_reaped who (Ok NoneYet) = by_gives w.ended 0 (info_at (arg a 2) no_info) (some_none (arg a 2))
    by_reaped who (Ok Waits) = by_waited (Waiting who)
    by_reaped who (Err e) = by_refuses e

    by_fault : (o : Option Errno) → Went Leaves (waitid_behind w a o)
    by_fault (Some e) = by_refuses e
    by_fault None = by_reaped (who_of a) (told_in w a)

    by_waitid : Went Leaves (waitid w a)
    unfolding waitid
    by_waitid = by_fault (waitid_fault a)

    by_forked : Went Leaves (forked w a)
    unfolding forked
    by_forked = by_test (room_in w (weight_of bytes [])) (went _ _) full (λ room. ((is_answered w.next_pid [] tt, notes), tt)) (λ none. tt)

    by_cloned : Went Leaves (cloned w a)
    unfolding cloned
    by_cloned =
        by_test (not (arg a 0 == vfork_flags)) (answered w a (refuses a _)) _ (λ other. by_refuses _)
        (λ flags. by_test (is_full w) (answered w a (refuses a _)) (forked w a) (λ many. by_refuses _) (λ few. by_forked))

    by_executed : (index : ℕ) (l : Loading) → IsLoaded l → Went Leaves (executed w a index l)
    unfolding executed
    by_executed index l is = by_test (room_in w (weight_of bytes [])) (went _ _) full (λ room. ((tt, (is_answered 0 [] tt, notes)), is)) (λ none. tt)

    by_page : (f : Found) (strings : ProgramStrings) → ClearProgram (Some strings) → frame_fits f.original strings.args strings.env ≡ true
        → (page : Option ℕ) → taken w (block_pages f.original) (free w) ≡ page → Went Leaves (exec_at w a f strings page)
    by_page f strings clear fits None chosen = by_refuses _
    by_page f strings clear fits (Some page) chosen =
        by_executed f.index (record { original = f.original; block = address_of page; args = strings.args; env = strings.env })
        (is_loaded w f strings.args strings.env page most chosen clear fits)

    by_program : (strings : ProgramStrings) → ClearProgram (Some strings) → (o : Result Found Errno) → Went Leaves (exec_program w a strings o)
    by_program strings clear (Err e) = by_refuses e
    by_program strings clear (Ok f) =
        by_test (frame_fits f.original strings.args strings.env) (exec_at w a f strings (taken w (block_pages f.original) (free w))) (answered w a (refuses a _))
        (λ fits. by_page f strings clear fits (taken w (block_pages f.original) (free w)) refl) (λ big. by_refuses _)

    by_strings : (o : Option ProgramStrings) → ClearProgram o → Went Leaves (exec_strings w a o)
    by_strings (Some strings) clear = by_program strings clear (runs w.rest (path_of a))
    by_strings None clear = by_refuses _

    by_exec : Went Leaves (exec w a)
    unfolding exec
    by_exec =
        by_test (has_zero bytes) (exec_strings w a (program_strings bytes (arg a 1) (arg a 2))) (answered w a (refuses a _))
        (λ ends. by_strings (program_strings bytes (arg a 1) (arg a 2)) (clear_program bytes (arg a 1) (arg a 2))) (λ none. by_refuses _)

    by_classed : Went Leaves (classed w a)
    by_classed =
        by_test (is_exit a.number) (exited w a) _ (λ is. by_exited)
        (λ no. by_test (a.number == 95) (waitid w a) _ (λ is. by_waitid)
        (λ no. by_test (a.number == 220) (cloned w a) _ (λ is. by_cloned)
        (λ no. by_test (a.number == 221) (exec w a) (answered w a (row a)) (λ is. by_exec) (λ no. by_answered (row a) (some_row a)))))

  by_asked : (o : Result (List ℕ) Span) → Went Leaves (asked w p s o)
  by_asked (Ok bytes) = by_classed bytes
  by_asked (Err span) = tt

  by_effect : (m : Meaning) → Went Leaves (effect w p s m)
  unfolding stepped trapped ended answer
  by_effect (next regs bytes) = (notes, tt)
  by_effect (trap signal) = by_settled Leaves (λ now t kept. kept) (trapped w p signal) ((tt, notes), tt)
  by_effect (refused access) = tt
  by_effect call = by_settled Leaves (λ now t kept. kept) (answer w p s) (by_asked (sent (number_of p.regs) (args_of p.regs) s.bytes))

module _ (w : World) (notes : AllByRecursion IsNoted w.notes) (most : w.rest.pages ≤ most_pages) where
  by_space : (p : Process) (o : Option LiveSpace) → Went Leaves (in_space (λ q s. effect w q s (meaning q.regs s.bytes (writable_in s.maps))) p o)
  by_space p None = tt
  by_space p (Some s) = by_effect w notes most p s.space (meaning p.regs s.space.bytes (writable_in s.space.maps))

  by_found : (o : Option Process) → Went Leaves (by_process w.spaces (λ q s. effect w q s (meaning q.regs s.bytes (writable_in s.maps))) o)
  by_found None = tt
  by_found (Some p) = by_space p (find id_of p.space w.spaces)

  by_event : (pid : ℕ) → Went Leaves (event w pid)
  unfolding event at_process
  by_event pid = by_found (find pid_of pid w.procs)

-- ---- stays

pub all_append : {A : Type 0} (P : A → Type 0) (xs ys : List A) → AllByRecursion P xs → AllByRecursion P ys → AllByRecursion P (xs ++ ys)
all_append P [] ys all more = more
all_append P (x ∷ xs) ys all more = (all.0, all_append P xs ys all.1 more)

all_longer : (i : ℕ) (t : Trace) (ys : List Stay) → AllByRecursion HasLoaded ys → AllByRecursion HasLoaded (change_at i (longer t) ys)
unfolding change_at
all_longer i t [] all = tt
all_longer zero t (y ∷ ys) all = (all.0, all.1)
all_longer (suc i) t (y ∷ ys) all = (all.0, all_longer i t ys all.1)

all_begun : (o : Option Begins) → BeginsLoaded o → AllByRecursion HasLoaded (begun_stay o)
all_begun None is = tt
all_begun (Some b) is = (is, tt)

pub readable_event : (ys : List Stay) (w : World) (pid : ℕ) (now : World) (t : Trace) → IsSound w → MayRun w pid → AreReadable ys w → event w pid ≡ went now t → AreReadable (collect ys t) now
readable_event ys w pid now t sound may are is =
    let left : Leaves now t = subst (Went Leaves) is (by_event w are.notes sound.most pid) in
    record {
      loads = all_append HasLoaded (change_at t.space (longer t) ys) (begun_stay t.begins) (all_longer t.space t ys are.loads) (all_begun t.begins left.1);
      notes = left.0;
    }

-- a stray access is noted
pub readable_stray : (ys : List Stay) (w : World) (pid : ℕ) (seen : Access) → AreReadable ys w → AreReadable ys (noted (stray_note pid seen) w)
readable_stray ys w pid seen are = record { loads = are.loads; notes = (tt, are.notes) }

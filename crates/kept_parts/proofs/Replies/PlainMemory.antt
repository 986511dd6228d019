-- A call that writes nothing: what comes of them in the world of private spaces comes of them in the one memory.
use Rattle.std.proofs.Common.{◌≡◌, ℕ, Bool, true, false, List, [], map, None, Result, Ok, Err, refl, sym, ap, subst, ◌∙◌}
use Rattle.std.specs.Prelude.{if◌then◌else◌}
use Rattle.std.specs.declared.alloc.AllocError.{AllocError}
use Rattle.region_watch.specs.Private.{physical}
use Rattle.call_log.specs.Notes.{GotRange, weight_of}
use Rattle.byte_words.specs.ByteMap.{Bytes}
use Rattle.flat_loader.specs.Alone.{put_got}
use Rattle.mmap_rules.specs.Space.{writable_in}
use Rattle.vfork_exec.specs.declared.family.State.{State}
use Rattle.machine_world.specs.World.{Process, World}
use Rattle.machine_world.specs.Asks.{Ask, Reply, Row, replies, waits, refuses}
use Rattle.machine_world.specs.Recordings.{room_in}
use Rattle.machine_world.specs.Event.{Trace, Outcome, went, strays, full, idle, room_for, served, put, waited, answered, exited, forked, cloned}
use Rattle.machine_world.specs.Families.{is_full}
use Rattle.memory_world.specs.Physical.{Physical, shown_space, behind, in_memory, carried, put_in, answered_in}
use Rattle.memory_world.proofs.InMemory.{BeginsNothing, plain_behind}
use Rattle.kept_parts.specs.declared.served.Served.{Served}
use Rattle.kept_parts.specs.declared.served.Served.TheVariants as result
use Rattle.kept_parts.specs.Kept.{Kept}
use Rattle.kept_parts.specs.Stands.{About, later, world_of}
use Rattle.kept_parts.specs.Serves.{Went, Answered, Serves, Died}
use Rattle.kept_parts.specs.InMemory.{physical_of, Over, GoesIn, ServesIn, DiedIn}
use Rattle.kept_parts.proofs.Replies.QuietRows.{IsMute}
use Rattle.kept_parts.proofs.Common.ShownBytes.{shows}

-- ---- what doesn't stray

abbrev pub NeverStrays : Outcome → Type 0
NeverStrays (went now t) = Unit {0}
NeverStrays (strays access) = ⊥
NeverStrays full = Unit {0}
NeverStrays idle = Unit {0}

never_if : (test : Bool) (x y : Outcome) → NeverStrays x → NeverStrays y → NeverStrays (if test then x else y)
never_if true x y first second = first
never_if false x y first second = second

served_never : (w : World) (a : Ask) (r : Reply) (bytes : Bytes) → NeverStrays (served w a r bytes)
unfolding served
served_never w a r bytes = never_if (room_for w a r) (went _ _) full tt tt

pub waited_never : (w : World) (p : Process) (state : State) → NeverStrays (waited w p state)
unfolding waited
waited_never w p state = tt

-- a row that gives no bytes
pub answered_never : (w : World) (a : Ask) (row : Row) → IsMute row → NeverStrays (answered w a row)
answered_never w a (replies r) mute =
    subst (λ (got : List GotRange). NeverStrays (put w a r (put_got r.space.bytes (writable_in r.space.maps) got))) (sym mute) (served_never w a r r.space.bytes)
answered_never w a (waits state) mute = waited_never w a.process state

pub exited_never : (w : World) (a : Ask) → NeverStrays (exited w a)
unfolding exited
exited_never w a = never_if (room_in w (weight_of a.sent [])) (went _ _) full tt tt

forked_never : (w : World) (a : Ask) → NeverStrays (forked w a)
unfolding forked
forked_never w a = never_if (room_in w (weight_of a.sent [])) (went _ _) full tt tt

pub cloned_never : (w : World) (a : Ask) → NeverStrays (cloned w a)
unfolding cloned
cloned_never w a =
    never_if _ (answered w a (refuses a _)) _ (answered_never w a (refuses a _) refl)
    (never_if (is_full w) (answered w a (refuses a _)) (forked w a) (answered_never w a (refuses a _) refl) (forked_never w a))

-- ---- it is carried out as there

-- a row that gives no bytes, in the one memory
pub mute_carried : (p : Physical) (a : Ask) (row : Row) → IsMute row → answered_in p a row ≡ carried p p.memory (answered p.world a row)
mute_carried p a (replies r) mute =
    ap (λ (got : List GotRange). put_in p a r (put_got p.memory (in_memory p.world) got)) mute
    ∙ ap (λ (got : List GotRange). carried p p.memory (put p.world a r (put_got r.space.bytes (writable_in r.space.maps) got))) (sym mute)
mute_carried p a (waits state) mute = refl

went_over : (t : Trace) (new : Kept) (pid : ℕ) (s : Served) → Went t new pid s → Over t.over new pid s
went_over t new pid result.Replied was = (was.0, was.2)
went_over t new pid result.TurnEnds was = (was.0, was.2)
went_over t new pid result.Waits was = (was.0, was.2)
went_over t new pid result.Ended was = (was.0, was.2)
went_over t new pid (result.Stray access) was = was
went_over t new pid result.LogFull was = was

module _ (headers : List (List ℕ)) (a : About) (old new : Kept) (same : new.mem ≡ old.mem) where
  abbrev before : Physical
  before = physical_of headers a old

  plain_now : (now : World) (t : Trace) → t.begins ≡ None → now ≡ world_of (later 1 a) new → behind before (physical old.mem) now t ≡ physical_of headers (later 1 a) new
  unfolding physical_of
  plain_now now t nothing is =
      let shown = subst (λ (m : List ℕ). map (shown_space (physical m)) (world_of (later 1 a) new).spaces ≡ (world_of (later 1 a) new).spaces) same (shows (later 1 a) new) in
      plain_behind before now t nothing (subst (λ (w : World). map (shown_space (physical old.mem)) w.spaces ≡ w.spaces) (sym is) shown)
      ∙ (λ i. record { world = is i; memory = physical (sym same i); headers = headers })

  module _ (pid : ℕ) where
    pub plain_goes : (o : Outcome) (s : Served) → Answered a o old new pid s → BeginsNothing o → NeverStrays o → GoesIn headers a (carried before (physical old.mem) o) old new pid s
    plain_goes (went now t) s was nothing never = (plain_now now t nothing was.0, went_over t new pid s was.1)
    plain_goes (strays access) s was nothing never = absurd never
    plain_goes full result.LogFull was nothing never = (refl, was, tt)
    plain_goes full result.Replied was nothing never = absurd was
    plain_goes full result.TurnEnds was nothing never = absurd was
    plain_goes full result.Waits was nothing never = absurd was
    plain_goes full result.Ended was nothing never = absurd was
    plain_goes full (result.Stray access) was nothing never = absurd was
    plain_goes idle s was nothing never = absurd was

    pub plain_in : (o : Outcome) (r : Result Served AllocError) → Serves a o old new pid r → BeginsNothing o → NeverStrays o → ServesIn headers a (carried before (physical old.mem) o) old new pid r
    plain_in o (Ok s) serves nothing never = plain_goes o s serves nothing never
    plain_in o (Err error) serves nothing never = serves

    pub plain_died : (o : Outcome) → Died a o new pid → BeginsNothing o → DiedIn headers a (carried before (physical old.mem) o) new pid
    plain_died (went now t) was nothing = (plain_now now t nothing was.0, was.1, was.2)
    plain_died (strays access) was nothing = absurd was
    plain_died full was nothing = absurd was
    plain_died idle was nothing = absurd was

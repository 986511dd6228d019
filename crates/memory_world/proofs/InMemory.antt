-- What spaces show that have what memory has, and the events by which no program begins.
use Rattle.std.proofs.Common.{◌≡◌, ℕ, Bool, true, false, List, [], ◌∷◌, map, Option, Some, None, Result, Ok, Err, refl, sym, ap, ◌∙◌}
use Rattle.std.specs.Prelude.{◌==◌, not, if◌then◌else◌}
use Rattle.byte_words.specs.ByteMap.{Bytes}
use Rattle.mmap_rules.specs.Space.{own_in, writable_in}
use Rattle.region_watch.specs.Private.{only}
use Rattle.call_log.specs.declared.errno.Errno.{Errno}
use Rattle.call_log.specs.Notes.{weight_of}
use Rattle.call_log.specs.Sent.{Span}
use Rattle.vfork_exec.specs.declared.family.Who.{Who}
use Rattle.vfork_exec.specs.declared.family.State.{State}
use Rattle.vfork_exec.specs.declared.family.State.TheVariants.{Waiting}
use Rattle.vfork_exec.specs.declared.family.Waited.{Waited}
use Rattle.vfork_exec.specs.declared.family.Waited.TheVariants.{Child, NoneYet, Waits}
use Rattle.vfork_exec.specs.Families.{without_first}
use Rattle.flat_loader.specs.Alone.{put_got}
use Rattle.machine_world.specs.World.{Process, LiveSpace, World}
use Rattle.machine_world.specs.Families.{is_full}
use Rattle.machine_world.specs.Asks.{Ask, Reply, Row, replies, waits, arg, gives, refuses}
use Rattle.machine_world.specs.FamilyCalls.{who_of, waitid_fault, child_info, no_info, info_at, vfork_flags}
use Rattle.machine_world.specs.Rows.{row}
use Rattle.machine_world.specs.Recordings.{room_in}
use Rattle.machine_world.specs.Event.{Trace, Outcome, went, strays, full, idle, trapped, room_for, served, put, waited, answered, exited, is_exit, reaped, told_in, waitid_behind, waitid, forked, cloned, exec, classed}
use Rattle.memory_world.specs.Physical.{Physical, or_below, over, shown_space, showing, bytes_in, is_free_at, laid_behind, behind}

-- ---- an event by which no program begins

abbrev pub BeginsNothing : Outcome → Type 0
BeginsNothing (went now t) = t.begins ≡ None
BeginsNothing (strays access) = Unit {0}
BeginsNothing full = Unit {0}
BeginsNothing idle = Unit {0}

nothing_if : (test : Bool) (x y : Outcome) → BeginsNothing x → BeginsNothing y → BeginsNothing (if test then x else y)
nothing_if true x y first second = first
nothing_if false x y first second = second

pub served_begins : (w : World) (a : Ask) (r : Reply) (bytes : Bytes) → BeginsNothing (served w a r bytes)
unfolding served
served_begins w a r bytes = nothing_if (room_for w a r) (went _ _) full refl tt

put_begins : (w : World) (a : Ask) (r : Reply) (o : Result Bytes Span) → BeginsNothing (put w a r o)
put_begins w a r (Ok bytes) = served_begins w a r bytes
put_begins w a r (Err span) = tt

pub waited_begins : (w : World) (p : Process) (state : State) → BeginsNothing (waited w p state)
unfolding waited
waited_begins w p state = refl

pub answered_begins : (w : World) (a : Ask) (r : Row) → BeginsNothing (answered w a r)
answered_begins w a (replies r) = put_begins w a r (put_got r.space.bytes (writable_in r.space.maps) r.got)
answered_begins w a (waits state) = waited_begins w a.process state

pub exited_begins : (w : World) (a : Ask) → BeginsNothing (exited w a)
unfolding exited
exited_begins w a = nothing_if (room_in w (weight_of a.sent [])) (went _ _) full refl tt

pub trapped_begins : (w : World) (p : Process) (signal : ℕ) → BeginsNothing (trapped w p signal)
unfolding trapped
trapped_begins w p signal = refl

forked_begins : (w : World) (a : Ask) → BeginsNothing (forked w a)
unfolding forked
forked_begins w a = nothing_if (room_in w (weight_of a.sent [])) (went _ _) full refl tt

pub cloned_begins : (w : World) (a : Ask) → BeginsNothing (cloned w a)
unfolding cloned
cloned_begins w a =
    nothing_if (not (arg a 0 == vfork_flags)) (answered w a (refuses a _)) _ (answered_begins w a (refuses a _))
    (nothing_if (is_full w) (answered w a (refuses a _)) (forked w a) (answered_begins w a (refuses a _)) (forked_begins w a))

reaped_begins : (w : World) (a : Ask) (who : Who) (o : Result Waited Errno) → BeginsNothing (reaped w a who o)
reaped_begins w a who (Ok (Child pid how)) =
    answered_begins (record w { ended = without_first a.process.pid who w.ended }) a (gives a 0 (info_at (arg a 2) (child_info pid how)) a.rest)
reaped_begins w a who (Ok NoneYet) = answered_begins w a (gives a 0 (info_at (arg a 2) no_info) a.rest)
reaped_begins w a who (Ok Waits) = waited_begins w a.process (Waiting who)
reaped_begins w a who (Err errno) = answered_begins w a (refuses a errno)

waitid_behind_begins : (w : World) (a : Ask) (fault : Option Errno) → BeginsNothing (waitid_behind w a fault)
waitid_behind_begins w a (Some errno) = answered_begins w a (refuses a errno)
waitid_behind_begins w a None = reaped_begins w a (who_of a) (told_in w a)

pub waitid_begins : (w : World) (a : Ask) → BeginsNothing (waitid w a)
unfolding waitid
waitid_begins w a = waitid_behind_begins w a (waitid_fault a)

-- no call but execve begins a program
pub classed_begins : (w : World) (a : Ask) → (a.number == 221) ≡ false → BeginsNothing (classed w a)
classed_begins w a other =
    nothing_if (is_exit a.number) (exited w a) _ (exited_begins w a)
    (nothing_if (a.number == 95) (waitid w a) _ (waitid_begins w a)
    (nothing_if (a.number == 220) (cloned w a) _ (cloned_begins w a)
    (last (a.number == 221) other)))
  where
    last : (test : Bool) → test ≡ false → BeginsNothing (if test then exec w a else answered w a (row a))
    last true is = absurd (cc)
    last false is = answered_begins w a (row a)

-- ---- bytes laid over those that they are

same_below : (x : Option ℕ) → or_below x x ≡ x
same_below (Some b) = refl
same_below None = refl

if_below : (test : Bool) (x y : Option ℕ) → or_below x y ≡ y → or_below (if test then x else None) y ≡ y
if_below true x y is = is
if_below false x y is = refl

both_below : (x y z : Option ℕ) → or_below x z ≡ z → or_below y z ≡ z → or_below (or_below x y) z ≡ z
both_below (Some b) y z first second = first
both_below None y z first second = second

-- a space that shows what memory has
pub space_shows : (m : Bytes) (s : LiveSpace) → shown_space m s ≡ s → s.space.bytes ≡ only (own_in s.space.maps) m
space_shows m s is = ap (λ (l : LiveSpace). l.space.bytes) (sym is)

-- and those of a list
pub head_shown : (m : Bytes) (s : LiveSpace) (ss : List LiveSpace) → map (shown_space m) (s ∷ ss) ≡ s ∷ ss → shown_space m s ≡ s
head_shown m s ss is = cc

pub tail_shown : (m : Bytes) (s : LiveSpace) (ss : List LiveSpace) → map (shown_space m) (s ∷ ss) ≡ s ∷ ss → map (shown_space m) ss ≡ ss
tail_shown m s ss is = cc

bytes_below : (m : Bytes) (spaces : List LiveSpace) → map (shown_space m) spaces ≡ spaces → (a : ℕ) → or_below (bytes_in spaces a) (m a) ≡ m a
unfolding only
bytes_below m [] shown a = refl
bytes_below m (s ∷ ss) shown a =
    let here : s.space.bytes a ≡ (if own_in s.space.maps a then m a else None) = ap (λ (f : Bytes). f a) (space_shows m s (head_shown m s ss shown)) in
    both_below (s.space.bytes a) (bytes_in ss a) (m a)
    (rw here (if_below (own_in s.space.maps a) (m a) (m a) (same_below (m a)))) (bytes_below m ss (tail_shown m s ss shown) a)

-- what spaces have that show memory, laid over it, leaves it
pub over_shown : (test : ℕ → Bool) (m : Bytes) (spaces : List LiveSpace) → map (shown_space m) spaces ≡ spaces → over (only test (bytes_in spaces)) m ≡ m
unfolding only
over_shown test m spaces shown = λ q a. if_below (test a) (bytes_in spaces a) (m a) (bytes_below m spaces shown a) q

-- ---- what a world shows

pub map_twice : (m n : Bytes) (spaces : List LiveSpace) → map (shown_space m) (map (shown_space n) spaces) ≡ map (shown_space m) spaces
map_twice m n [] = refl
map_twice m n (s ∷ ss) = ap (λ rest. shown_space m s ∷ rest) (map_twice m n ss)

pub showing_twice : (m n : Bytes) (w : World) → showing m (showing n w) ≡ showing m w
showing_twice m n w = ap (λ spaces. record w { spaces = spaces }) (map_twice m n w.spaces)

-- a world that shows memory
pub shown_showing : (m : Bytes) (w : World) → map (shown_space m) (showing m w).spaces ≡ (showing m w).spaces
shown_showing m w = map_twice m m w.spaces

pub showing_shown : (m : Bytes) (w : World) → map (shown_space m) w.spaces ≡ w.spaces → showing m w ≡ w
showing_shown m w shown = ap (λ spaces. record w { spaces = spaces }) shown

-- ---- an event by which no program begins, and which brings nothing that isn't in memory, leaves memory

pub plain_laid : (p : Physical) (now : World) (t : Trace) → t.begins ≡ None → map (shown_space p.memory) now.spaces ≡ now.spaces → laid_behind p p.memory now t ≡ p.memory
unfolding laid_behind
plain_laid p now t nothing shown = rw nothing (over_shown (is_free_at p.world) p.memory now.spaces shown)

pub plain_behind : (p : Physical) (now : World) (t : Trace) → t.begins ≡ None → map (shown_space p.memory) now.spaces ≡ now.spaces
    → behind p p.memory now t ≡ record p { world = now }
plain_behind p now t nothing shown =
    ap (λ (m : Bytes). record p { world = showing m now; memory = m }) (plain_laid p now t nothing shown)
    ∙ ap (λ (w : World). record p { world = w }) (showing_shown p.memory now shown)

-- Who falls has a core, and the bytes of segments are few.
use Rattle.std.proofs.Common.{◌≡◌, ◌≢◌, ℕ, zero, suc, ◌+◌, ◌*◌, ◌≤◌, Bool, true, false, cond, List, [], ◌∷◌, ◌++◌, map, length, length-append, Option, Some, None, unwrap_or, is_some, refl, sym, ap, ◌∙◌, arith}
use Rattle.std.specs.List.{AllByRecursion}
use Rattle.std.proofs.lemmas.List.Elements.{All-from_recursion}
use Rattle.byte_words.specs.ByteMap.{Bytes}
use Rattle.call_log.specs.Sent.{cons_byte, bytes_from}
use Rattle.mmap_rules.specs.Space.{Space, memory_base, page_size, own_in, writable_in}
use Rattle.rv32im_step.specs.Meaning.{meaning}
use Rattle.quantum_sched.specs.declared.Quantum.{Quantum}
use Rattle.quantum_sched.specs.Picked.{picked}
use Rattle.vfork_exec.specs.Keyed.{find}
use Rattle.machine_world.specs.World.{World, Process, LiveSpace, pid_of, id_of}
use Rattle.machine_world.specs.Families.{ready_pids}
use Rattle.machine_world.specs.Event.{Outcome, went, strays, full, idle, effect, in_space, by_process, at_process, event}
use Rattle.machine_world.specs.Turns.{End, turn}
use Rattle.core_file.specs.Text.{bytes_of}
use Rattle.core_world.specs.Segments.{Interval, kind, intervals, segment_of, segments}
use Rattle.core_world.specs.Cores.{core_at, core_for, core_in}
use Rattle.core_world.specs.Falls.{Fall, trap_in, trap_of, trap_at, by_trap, by_event, turn_falls, behind_turn, quantum_falls, falls}
use Rattle.core_world.specs.Laws.{FallsHaveCores, SegmentsFit}
use Rattle.core_world.proofs.Intervals.{total, few_in_all}

-- ---- falls

abbrev HasCore : Fall → Type 0
HasCore f = is_some (core_in f.world f.pid f.signal) ≡ true

abbrev HaveCores : List Fall → Type 0
HaveCores fs = AllByRecursion HasCore fs

both_have : (fs gs : List Fall) → HaveCores fs → HaveCores gs → HaveCores (fs ++ gs)
both_have [] gs x y = y
both_have (f ∷ fs) gs x y = (x.0, both_have fs gs x.1 y)

trapped_core : (w : World) (signal : ℕ) (o : Option Process) → trap_of w o ≡ Some signal → is_some (core_for w signal o) ≡ true
trapped_core w signal None is = absurd cc
trapped_core w signal (Some p) is = in_its_space (find id_of p.space w.spaces) is
  where
    in_its_space : (s : Option LiveSpace) → trap_in p s ≡ Some signal → is_some (core_at w signal p s) ≡ true
    in_its_space None is = absurd cc
    in_its_space (Some s) is = refl

by_trap_have : (w : World) (pid : ℕ) (o : Option ℕ) → trap_at w pid ≡ o → HaveCores (by_trap w pid o)
unfolding trap_at core_in
by_trap_have w pid None is = tt
by_trap_have w pid (Some signal) is = (trapped_core w signal (find pid_of pid w.procs) is, tt)

module _ (w now : World) (signal : ℕ) (procs : now.procs ≡ w.procs) (spaces : now.spaces ≡ w.spaces) (act : Process → (s : Space) → Outcome) where
  acted_core : (o : Option Process) (out : Outcome) → by_process w.spaces act o ≡ out → out ≢ idle → is_some (core_for now signal o) ≡ true
  acted_core None out is busy = absurd (busy (sym is))
  acted_core (Some p) out is busy = in_its_space (find id_of p.space now.spaces) (ap (λ (ss : List LiveSpace). in_space act p (find id_of p.space ss)) spaces ∙ is)
    where
      in_its_space : (s : Option LiveSpace) → in_space act p s ≡ out → is_some (core_at now signal p s) ≡ true
      in_its_space None is = absurd (busy (sym is))
      in_its_space (Some s) is = refl

by_event_have : (more : World → List Fall) → ((v : World) → HaveCores (more v)) → (w : World) (pid : ℕ) (o : Outcome) → event w pid ≡ o → HaveCores (by_event more w pid o)
unfolding event at_process core_in
by_event_have more rest w pid (went now t) is = both_have (by_trap w pid (trap_at w pid)) (cond t.over [] (more now)) (by_trap_have w pid (trap_at w pid) refl) (behind t.over)
  where
    behind : (over : Bool) → HaveCores (cond over [] (more now))
    behind true = tt
    behind false = rest now
by_event_have more rest w pid (strays a) is =
    (acted_core w (record w { notes = w.notes }) 11 refl refl (λ p s. effect w p s (meaning p.regs s.bytes (writable_in s.maps))) (find pid_of pid w.procs) (strays a) is (λ e. cc), tt)
by_event_have more rest w pid full is = tt
by_event_have more rest w pid idle is = tt

turn_have : (n pid : ℕ) (w : World) → HaveCores (turn_falls n pid w)
unfolding turn_falls
turn_have zero pid w = tt
turn_have (suc n) pid w = by_event_have (turn_falls n pid) (turn_have n pid) w pid (event w pid) refl

behind_have : (more : World → List Fall) → ((v : World) → HaveCores (more v)) → (w : World) (end : Option End) → HaveCores (behind_turn more w end)
behind_have more rest w (Some end) = tt
behind_have more rest w None = rest w

quantum_have : (more : World → List Fall) → ((v : World) → HaveCores (more v)) → (w : World) (count : ℕ) (o : Option ℕ) → HaveCores (quantum_falls more w count o)
quantum_have more rest w count None = tt
quantum_have more rest w count (Some pid) =
    both_have (turn_falls count pid w) (behind_turn more (turn count pid w).world (turn count pid w).end) (turn_have count pid w)
    (behind_have more rest (turn count pid w).world (turn count pid w).end)

all_have : (quanta : List Quantum) (w : World) → HaveCores (falls quanta w)
unfolding falls
all_have [] w = tt
all_have (q ∷ qs) w = quantum_have (falls qs) (all_have qs) w q.count (picked q.pick (ready_pids w.procs))

pub falls_have_cores : FallsHaveCores
falls_have_cores quanta w = All-from_recursion HasCore (falls quanta w) (all_have quanta w)

-- ---- bytes

read_len : (m : Bytes) (a len : ℕ) (bytes : List ℕ) → bytes_from m a len ≡ Some bytes → length bytes ≡ len
read_len m a zero bytes is = let same : [] ≡ bytes = cc in ap (length {A = ℕ}) (sym same)
read_len m a (suc len) bytes is = one_more (m a) (bytes_from m (a + 1) len) (read_len m (a + 1) len) is
  where
    one_more : (low : Option ℕ) (more : Option (List ℕ)) → ((bs : List ℕ) → more ≡ Some bs → length bs ≡ len) → cons_byte low more ≡ Some bytes → length bytes ≡ suc len
    one_more (Some b) (Some bs) long e = let same : b ∷ bs ≡ bytes = cc in ap (length {A = ℕ}) (sym same) ∙ ap suc (long bs refl)
    one_more (Some b) None long e = absurd cc
    one_more None more long e = absurd cc

segment_len : (m : Bytes) (i : Interval) → length (segment_of m i).bytes ≤ i.len
segment_len m i = read (bytes_from m i.addr i.len) (read_len m i.addr i.len)
  where
    read : (o : Option (List ℕ)) → ((bs : List ℕ) → o ≡ Some bs → length bs ≡ i.len) → length (unwrap_or o []) ≤ i.len
    read None long = omega arith
    read (Some bs) long = omega (arith, long bs refl)

-- no more bytes than addresses
pub bytes_few : (m : Bytes) (is : List Interval) → length (bytes_of (map (segment_of m) is)) ≤ total is
bytes_few m [] = omega arith
bytes_few m (i ∷ is) = omega (arith, segment_len m i, bytes_few m is, length-append (segment_of m i).bytes (bytes_of (map (segment_of m) is)))

pub segments_fit : SegmentsFit
unfolding segments
segments_fit pages s =
    let own : ℕ → Option Bool = kind (own_in s.maps) (writable_in s.maps) in
    omega (arith, bytes_few s.bytes (intervals own memory_base (page_size * pages)), few_in_all own (page_size * pages) memory_base)

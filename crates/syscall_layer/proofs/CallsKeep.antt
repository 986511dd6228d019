-- A call notes no stray access, and none that was noted goes; and it leaves no pipe marked.
use Rattle.std.proofs.Common.{◌≡◌, ℕ, Bool, true, false, List, [], Option, Some, None, Result, Ok, Err, refl, sym, ap, subst, ◌∙◌}
use Rattle.std.specs.Prelude.{OnErr, ⊤}
use Rattle.std.specs.declared.alloc.AllocError.{AllocError}
use Rattle.bflt_format.specs.Values.{Values}
use Rattle.syscall_layer.specs.Parts.{RunParts}
use Rattle.byte_words.specs.declared.access.Access.{Access}
use Rattle.rv32im_step.specs.Meaning.{call, trap}
use Rattle.mmap_rules.specs.Space.{Space}
use Rattle.vfork_exec.specs.Keyed.{find}
use Rattle.machine_world.specs.World.{Process, LiveSpace, Rest, World, pid_of, id_of}
use Rattle.machine_world.specs.Asks.{Ask, Row, replies, waits}
use Rattle.machine_world.specs.Rows.{row}
use Rattle.machine_world.specs.Event.{Outcome, went, strays, full, idle, ended, ask_of, answer, settled, trapped, in_space, by_process, at_process, called, died}
use Rattle.machine_world.proofs.EachChange.{Answers}
use Rattle.machine_world.proofs.ByEvents.{Answered as CallHas, Happened, Keeps, by_effect}
use Rattle.memory_world.specs.Physical.{Physical, After, after, no_room, nobody, has_stray, settled_in, answer_in, called_in}
use Rattle.memory_world.specs.Physical as physical
use Rattle.memory_world.specs.After.{AfterHas}
use Rattle.memory_world.proofs.ByEventsIn.{Steady, by_effect_in}
use Rattle.kept_parts.specs.declared.served.Served.{Served}
use Rattle.kept_parts.specs.declared.served.Served.TheVariants as served
use Rattle.region_watch.specs.declared.mode.Mode.{Mode}
use Rattle.region_watch.specs.declared.mode.Mode.TheVariants.{Halt, GoOn}
use Rattle.syscall_layer.specs.Answers.{KeepsMarks}
use Rattle.kept_parts.specs.Kept.{Kept}
use Rattle.kept_parts.specs.Stands.{About, world_of}
use Rattle.kept_parts.specs.Serves.{Answered, Serves, Died, Dies}
use Rattle.kept_parts.specs.InMemory.{physical_of, GoesIn, InReach}

-- whether a stray access was noted
abbrev Same : Bool → World → Type 0
Same strayed w = has_stray w.notes ≡ strayed

-- of what a call does beside that nothing is asked
abbrev Anything : Rest → Type 0
Anything rest = Unit {0}

any_row : (r : Row) → Answers Anything r
any_row (replies reply) = tt
any_row (waits state) = tt

module _ (strayed : Bool) (w : World) (h : Same strayed w) where
  call_keeps : (a : Ask) → CallHas (λ now t. Same strayed now) Anything w a
  unfolding ended
  call_keeps a = record {
    reply = λ ended r m same room. h;
    wait = λ state. h;
    exit = λ room. h;
    fork = λ few room. h;
    load = λ f s page is fits room. h;
  }

  pub act_keeps : (p : Process) (s : Space) → Happened (λ now t. Same strayed now) Anything w p s
  unfolding ended
  act_keeps p s = record {
    step = λ regs bytes. h;
    trap = λ signal. h;
    calls = λ bytes. call_keeps (ask_of w p s bytes);
  }

  -- ---- in the world of private spaces

  in_home : (p : Process) (o : Option LiveSpace) → Keeps (Same strayed) (in_space (λ q s. settled (answer w q s)) p o)
  in_home p None = tt
  in_home p (Some s) =
      by_effect (λ now t. Same strayed now) Anything (λ now t kept. kept) w tt p s.space (act_keeps p s.space) (λ bytes. any_row (row (ask_of w p s.space bytes))) call

  in_world : (o : Option Process) → Keeps (Same strayed) (by_process w.spaces (λ q s. settled (answer w q s)) o)
  in_world None = tt
  in_world (Some p) = in_home p (find id_of p.space w.spaces)

  pub called_keeps : (pid : ℕ) → Keeps (Same strayed) (called w pid)
  unfolding called at_process
  called_keeps pid = in_world (find pid_of pid w.procs)

  -- a signal
  died_home : (signal : ℕ) (p : Process) (o : Option LiveSpace) → Keeps (Same strayed) (in_space (λ q s. settled (trapped w q signal)) p o)
  died_home signal p None = tt
  died_home signal p (Some s) =
      by_effect (λ now t. Same strayed now) Anything (λ now t kept. kept) w tt p s.space (act_keeps p s.space) (λ bytes. any_row (row (ask_of w p s.space bytes))) (trap signal)

  died_world : (signal : ℕ) (o : Option Process) → Keeps (Same strayed) (by_process w.spaces (λ q s. settled (trapped w q signal)) o)
  died_world signal None = tt
  died_world signal (Some p) = died_home signal p (find id_of p.space w.spaces)

  died_keeps : (pid signal : ℕ) → Keeps (Same strayed) (died w pid signal)
  unfolding died at_process
  died_keeps pid signal = died_world signal (find pid_of pid w.procs)

-- ---- over one memory, once a stray access was noted

steady : Steady (Same true) (λ w. Anything)
steady = record {
  wakes = λ now h. h;
  shows = λ memory now h. h;
  strays = λ pid seen now h. refl;
  reaps = λ ended now h. h;
  acts = λ w q s h. act_keeps true w h q s;
  rests = λ w h. tt;
  rows = λ w q s bytes h. any_row (row (ask_of w q s bytes));
}

module _ (p : Physical) (h : Same true p.world) where
  in_home_of : (q : Process) (o : Option LiveSpace) → AfterHas (Same true) (physical.in_space_in (λ r s. settled_in (answer_in p r s)) q o)
  in_home_of q None = tt
  in_home_of q (Some s) = by_effect_in (Same true) (λ w. Anything) steady p q s.space call h

  in_memory_of : (o : Option Process) → AfterHas (Same true) (physical.by_process_in p.world.spaces (λ r s. settled_in (answer_in p r s)) o)
  in_memory_of None = tt
  in_memory_of (Some q) = in_home_of q (find id_of q.space p.world.spaces)

  called_in_keeps : (pid : ℕ) → AfterHas (Same true) (called_in p pid)
  unfolding called_in physical.at_process_in
  called_in_keeps pid = in_memory_of (find pid_of pid p.world.procs)

-- ---- marks of pipes

abbrev Unmarked : World → Type 0
Unmarked w = w.rest.files.changed ≡ []

-- where it goes
abbrev Goes : (World → Type 0) → After → Type 0
Goes P (after now over) = P now.world
Goes P (no_room now) = Unit {0}
Goes P nobody = Unit {0}

settled_unmarked : (o : Outcome) → Keeps Unmarked (settled o)
unfolding settled
settled_unmarked (went now t) = refl
settled_unmarked (strays access) = tt
settled_unmarked full = tt
settled_unmarked idle = tt

settled_in_unmarked : (a : After) → Goes Unmarked (settled_in a)
settled_in_unmarked (after now over) = refl
settled_in_unmarked (no_room now) = tt
settled_in_unmarked nobody = tt

module _ (w : World) where
  home_unmarked : (p : Process) (o : Option LiveSpace) → Keeps Unmarked (in_space (λ q s. settled (answer w q s)) p o)
  home_unmarked p None = tt
  home_unmarked p (Some s) = settled_unmarked (answer w p s.space)

  world_unmarked : (o : Option Process) → Keeps Unmarked (by_process w.spaces (λ q s. settled (answer w q s)) o)
  world_unmarked None = tt
  world_unmarked (Some p) = home_unmarked p (find id_of p.space w.spaces)

  called_unmarked : (pid : ℕ) → Keeps Unmarked (called w pid)
  unfolding called at_process
  called_unmarked pid = world_unmarked (find pid_of pid w.procs)

module _ (p : Physical) where
  home_in_unmarked : (q : Process) (o : Option LiveSpace) → Goes Unmarked (physical.in_space_in (λ r s. settled_in (answer_in p r s)) q o)
  home_in_unmarked q None = tt
  home_in_unmarked q (Some s) = settled_in_unmarked (answer_in p q s.space)

  memory_unmarked : (o : Option Process) → Goes Unmarked (physical.by_process_in p.world.spaces (λ r s. settled_in (answer_in p r s)) o)
  memory_unmarked None = tt
  memory_unmarked (Some q) = home_in_unmarked q (find id_of q.space p.world.spaces)

  called_in_unmarked : (pid : ℕ) → Goes Unmarked (called_in p pid)
  unfolding called_in physical.at_process_in
  called_in_unmarked pid = memory_unmarked (find pid_of pid p.world.procs)

-- ---- of the parts

pub remains_same : (old new : Kept) → new ≡ old → KeepsMarks old new
remains_same old new same = record { notes = ap (λ (k : Kept). has_stray k.notes) same; marks = λ none. ap (λ (k : Kept). k.files.changed) same ∙ none }

module _ (headers : List (List ℕ)) (a : About) (old new : Kept) (pid : ℕ) where
  abbrev HasSame : World → Type 0
  HasSame = Same (has_stray old.notes)

  by_world : (b : About) (now : World) → now ≡ world_of b new → HasSame now → Unmarked now → KeepsMarks old new
  unfolding world_of
  by_world b now is h none = record { notes = subst HasSame is h; marks = λ was. subst Unmarked is none }

  by_memory : (b : About) (now : Physical) → now ≡ physical_of headers b new → HasSame now.world → Unmarked now.world → KeepsMarks old new
  unfolding physical_of world_of
  by_memory b now is h none =
      record { notes = subst (λ (p : Physical). HasSame p.world) is h; marks = λ was. subst (λ (p : Physical). Unmarked p.world) is none }

  answered_remains : (o : Outcome) → Keeps HasSame o → Keeps Unmarked o → (s : Served) → Answered a o old new pid s → KeepsMarks old new
  answered_remains (went now t) kept none s x = by_world _ now x.0 kept none
  answered_remains (strays access) kept none (served.Stray seen) x = remains_same old new x.1
  answered_remains (strays access) kept none served.Replied x = absurd x
  answered_remains (strays access) kept none served.TurnEnds x = absurd x
  answered_remains (strays access) kept none served.Waits x = absurd x
  answered_remains (strays access) kept none served.Ended x = absurd x
  answered_remains (strays access) kept none served.LogFull x = absurd x
  answered_remains full kept none served.LogFull x = remains_same old new x
  answered_remains full kept none served.Replied x = absurd x
  answered_remains full kept none served.TurnEnds x = absurd x
  answered_remains full kept none served.Waits x = absurd x
  answered_remains full kept none served.Ended x = absurd x
  answered_remains full kept none (served.Stray access) x = absurd x
  answered_remains idle kept none s x = absurd x

  goes_remains : (o : After) → AfterHas HasSame o → Goes Unmarked o → (s : Served) → GoesIn headers a o old new pid s → KeepsMarks old new
  goes_remains (after p over) kept none s x = by_memory _ p x.0 kept none
  goes_remains (no_room p) kept none s x = remains_same old new x.1
  goes_remains nobody kept none s x = absurd x

  reach_remains : (mode : Mode) (o : After) → AfterHas HasSame o → Goes Unmarked o → (s : Served) → ((access : Access) → s ≡ served.Stray access → new ≡ old) → InReach mode headers a o old new pid (Ok s) → KeepsMarks old new
  reach_remains GoOn o kept none s same x = goes_remains o kept none s x
  reach_remains Halt o kept none (served.Stray access) same x = remains_same old new (same access refl)
  reach_remains Halt o kept none served.Replied same x = goes_remains o kept none served.Replied x
  reach_remains Halt o kept none served.TurnEnds same x = goes_remains o kept none served.TurnEnds x
  reach_remains Halt o kept none served.Waits same x = goes_remains o kept none served.Waits x
  reach_remains Halt o kept none served.Ended same x = goes_remains o kept none served.Ended x
  reach_remains Halt o kept none served.LogFull same x = goes_remains o kept none served.LogFull x

  of_world : HasSame (world_of a old)
  unfolding world_of
  of_world = refl

  of_memory : has_stray old.notes ≡ true → Same true (physical_of headers a old).world
  unfolding physical_of world_of
  of_memory noted = noted

  -- within reach, which is all of memory only behind a noted stray access
  pub call_remains : (mode : Mode) → (mode ≡ GoOn → has_stray old.notes ≡ true) → (r : Result Served AllocError)
      → (mode ≡ Halt → has_stray old.notes ≡ false → Serves a (called (world_of a old) pid) old new pid r)
      → InReach mode headers a (called_in (physical_of headers a old) pid) old new pid r → ((access : Access) → r ≡ Ok (served.Stray access) → new ≡ old) → KeepsMarks old new
  call_remains Halt strayed (Err error) serves x same = remains_same old new x
  call_remains GoOn strayed (Err error) serves x same = remains_same old new x
  call_remains mode strayed (Ok s) serves x same = by_notes (has_stray old.notes) refl
    where
      own : (r : Mode) → mode ≡ r → has_stray old.notes ≡ false → mode ≡ Halt
      own Halt is quiet = is
      own GoOn is quiet = absurd (let e : true ≡ false = sym (strayed is) ∙ quiet in cc)

      by_notes : (b : Bool) → has_stray old.notes ≡ b → KeepsMarks old new
      by_notes false is = answered_remains (called (world_of a old) pid) (called_keeps (has_stray old.notes) (world_of a old) of_world pid) (called_unmarked (world_of a old) pid) s (serves (own mode refl is) is)
      by_notes true is =
          let kept = called_in_keeps (physical_of headers a old) (of_memory is) pid in
          reach_remains mode (called_in (physical_of headers a old) pid) (subst (λ (b : Bool). AfterHas (Same b) (called_in (physical_of headers a old) pid)) (sym is) kept) (called_in_unmarked (physical_of headers a old) pid) s
          (λ access is_stray. same access (ap Ok is_stray)) x

  -- an end by a signal
  died_remains : (o : Outcome) → Keeps HasSame o → Died a o new pid → HasSame (world_of a new)
  unfolding world_of
  died_remains (went now t) kept x = subst HasSame x.0 kept
  died_remains (strays access) kept x = absurd x
  died_remains full kept x = absurd x
  died_remains idle kept x = absurd x

  pub signal_remains : (signal : ℕ) → Died a (died (world_of a old) pid signal) new pid → has_stray new.notes ≡ has_stray old.notes
  unfolding world_of
  signal_remains signal x = died_remains (died (world_of a old) pid signal) (died_keeps (has_stray old.notes) (world_of a old) of_world pid signal) x

pub signal_same : (a : About) (old new : Kept) (pid signal : ℕ) (r : Result ⊤ AllocError) → Dies a (died (world_of a old) pid signal) old new pid r
    → has_stray new.notes ≡ has_stray old.notes
signal_same a old new pid signal (Ok done) x = signal_remains [] a old new pid signal x
signal_same a old new pid signal (Err error) x = ap (λ (k : Kept). has_stray k.notes) x

abbrev pub parts_with : List Values → Mode → Bool → Kept → RunParts
parts_with programs mode noted k = record { kept = k; programs = programs; mode = mode; noted = noted }

pub signal_unchanged : (a : About) (old new : Kept) (pid signal : ℕ) (r : Result ⊤ AllocError) → Dies a (died (world_of a old) pid signal) old new pid r
    → (programs : List Values) (mode : Mode) (noted : Bool)
    → OnErr r (parts_with programs mode noted new ≡ parts_with programs mode noted old)
signal_unchanged a old new pid signal (Ok done) x programs mode noted = tt
signal_unchanged a old new pid signal (Err error) x programs mode noted = ap (parts_with programs mode noted) x

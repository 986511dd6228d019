-- The parts once those go on that wait on a pipe which changed: they are regular, and stand for the world in which those go on.
use Rattle.std.proofs.Common.{◌≡◌, ℕ, List, [], ◌∷◌, map, Option, Some, None, refl, sym, ap, subst, ◌∙◌, arith}
use Rattle.std.specs.Prelude.{true, false, is_some, option_map}
use Rattle.std.proofs.lemmas.List.{length-map}
use Rattle.fd_tables.specs.Files.{OpenFiles}
use Rattle.fd_tables.specs.Pipes.{none_changed}
use Rattle.fd_tables.specs.Calls.{Unmarks}
use Rattle.vfork_exec.specs.declared.entry.Entry.{Entry}
use Rattle.vfork_exec.specs.Families.{roused}
use Rattle.vfork_exec.specs.Procs.{Listed, process, Lives, with_state, with_wake, pid_of as entry_pid}
use Rattle.vfork_exec.proofs.Keyed.{falls_map}
use Rattle.vfork_exec.proofs.Values.{process_wake, lives_wake}
use Rattle.vfork_exec.specs.Keyed.{find}
use Rattle.machine_world.specs.World.{Process, LiveSpace, World, pid_of, id_of}
use Rattle.machine_world.specs.Families.{roused_by, all_roused, AreChains}
use Rattle.machine_world.specs.Event.{Trace, Outcome, went, strays, full, idle, awake, settled, died, trapped, at_process, by_process, in_space}
use Rattle.machine_world.proofs.Chains.{chains_roused}
use Rattle.kept_parts.specs.declared.task.Task.{Task}
use Rattle.kept_parts.specs.declared.served.Served.{Served}
use Rattle.kept_parts.specs.declared.served.Served.TheVariants as result
use Rattle.kept_parts.specs.Kept.{Kept}
use Rattle.kept_parts.specs.Regular.{Regular, IsRegular, HasSpace}
use Rattle.kept_parts.specs.Stands.{About, later, process_of, world_of}
use Rattle.kept_parts.specs.Awake.{with_wakes, awake_in}
use Rattle.kept_parts.specs.Serves.{Went, went_by, Answered, Died}
use Rattle.kept_parts.proofs.Common.ProcessList.{map_both}

-- ---- the list of processes

module _ (pipe : ℕ) (procs : Listed Task) where
  wake_is : map process_of (with_wake procs pipe).entries ≡ map (roused_by pipe) (map process_of procs.entries)
  wake_is = map_both (λ (e : Entry Task). with_state e (roused pipe e.state)) process_of (roused_by pipe) (λ e. refl) procs.entries

  -- who is found was there, with the same kept of it
  was_there : (pid : ℕ) (e : Entry Task) → process (with_wake procs pipe) pid ≡ Some e → (o : Entry Task) × (process procs pid ≡ Some o) × (e.value ≡ o.value)
  was_there pid e there = by_found (process procs pid) refl
    where
      by_found : (o : Option (Entry Task)) → process procs pid ≡ o → (x : Entry Task) × (process procs pid ≡ Some x) × (e.value ≡ x.value)
      by_found (Some x) is =
          let now : Some (with_state x (roused pipe x.state)) ≡ Some e = sym (process_wake procs pipe pid ∙ ap (option_map (λ (y : Entry Task). with_state y (roused pipe y.state))) is) ∙ there in
          let same : with_state x (roused pipe x.state) ≡ e = cc in
          (x, is, sym (ap (λ (y : Entry Task). y.value) same))
      by_found None is =
          let none : ◌≡◌ {A = Option (Entry Task)} None (Some e) = sym (process_wake procs pipe pid ∙ ap (option_map (λ (y : Entry Task). with_state y (roused pipe y.state))) is) ∙ there in
          absurd cc

wakes_are : (pipes : List ℕ) (procs : Listed Task) → map process_of (with_wakes pipes procs).entries ≡ all_roused pipes (map process_of procs.entries)
unfolding with_wakes all_roused
wakes_are [] procs = refl
wakes_are (pipe ∷ pipes) procs = wakes_are pipes (with_wake procs pipe) ∙ ap (all_roused pipes) (wake_is pipe procs)

wakes_ended : (pipes : List ℕ) (procs : Listed Task) → (with_wakes pipes procs).ended ≡ procs.ended
unfolding with_wakes
wakes_ended [] procs = refl
wakes_ended (pipe ∷ pipes) procs = wakes_ended pipes (with_wake procs pipe)

wakes_next : (pipes : List ℕ) (procs : Listed Task) → (with_wakes pipes procs).next_pid ≡ procs.next_pid
unfolding with_wakes
wakes_next [] procs = refl
wakes_next (pipe ∷ pipes) procs = wakes_next pipes (with_wake procs pipe)

-- who lives lives on, and nobody else
wakes_live : (pipes : List ℕ) (procs : Listed Task) (pid : ℕ) → is_some (process (with_wakes pipes procs) pid) ≡ is_some (process procs pid)
unfolding with_wakes
wakes_live [] procs pid = refl
wakes_live (pipe ∷ pipes) procs pid = wakes_live pipes (with_wake procs pipe) pid ∙ lives_wake procs pipe pid

none_found : {A : Type 0} (o : Option A) → is_some o ≡ false → o ≡ None
none_found (Some x) is = absurd cc
none_found None is = refl

wakes_gone : (pipes : List ℕ) (procs : Listed Task) (pid : ℕ) → process procs pid ≡ None → process (with_wakes pipes procs) pid ≡ None
wakes_gone pipes procs pid gone = none_found (process (with_wakes pipes procs) pid) (wakes_live pipes procs pid ∙ ap is_some gone)

-- ---- the parts

-- no pipe is marked: nothing is left to do
pub awake_last : (k : Kept) (now : OpenFiles) → Unmarks k.files now None → record k { files = now } ≡ awake_in k
unfolding with_wakes
awake_last k now none =
    let marks : k.files.changed ≡ [] = none.0 in
    let procs : with_wakes k.files.changed k.procs ≡ k.procs = ap (λ ids. with_wakes ids k.procs) marks in
    (λ i. record k { files = none.1 i }) ∙ (λ i. record k { procs = sym procs i; files = record k.files { changed = marks i } })

-- the first of those that are marked
pub awake_next : (k : Kept) (pipe : ℕ) (now : OpenFiles) → Unmarks k.files now (Some pipe) → awake_in (record k { procs = with_wake k.procs pipe; files = now }) ≡ awake_in k
unfolding with_wakes
awake_next k pipe now unmarks =
    (λ i. record k { procs = with_wakes now.changed (with_wake k.procs pipe); files = none_changed (unmarks.1 i) })
    ∙ (λ i. record k { procs = with_wakes (sym unmarks.0 i) k.procs; files = none_changed k.files })

pub awake_world : (a : About) (k : Kept) → world_of a (awake_in k) ≡ awake (world_of a k)
unfolding world_of
awake_world a k =
    λ i. record (world_of a (awake_in k)) {
      procs = wakes_are k.files.changed k.procs i;
      ended = wakes_ended k.files.changed k.procs i;
      next_pid = wakes_next k.files.changed k.procs i;
    }

-- ---- what stays regular

-- what is open doesn't matter
regular_files : (k : Kept) (files : OpenFiles) → Regular k → Regular (record k { files = files })
regular_files k files regular = record {
  memory = regular.memory;
  some = regular.some;
  most = regular.most;
  regions = regular.regions;
  uses = regular.uses;
  one_use = regular.one_use;
  names = regular.names;
  pages = regular.pages;
  runs = regular.runs;
  chains = regular.chains;
  falls = regular.falls;
  few = regular.few;
  pids = regular.pids;
  loads = regular.loads;
}

chains_wake : (pipe : ℕ) (procs : Listed Task) → AreChains (map process_of procs.entries) → AreChains (map process_of (with_wake procs pipe).entries)
unfolding all_roused
chains_wake pipe procs chains = subst AreChains (sym (wake_is pipe procs)) (chains_roused (pipe ∷ []) (map process_of procs.entries) chains)

regular_wake : (k : Kept) (pipe : ℕ) → Regular k → Regular (record k { procs = with_wake k.procs pipe })
regular_wake k pipe regular = record {
  memory = regular.memory;
  some = regular.some;
  most = regular.most;
  regions = regular.regions;
  uses = regular.uses;
  one_use = regular.one_use;
  names = regular.names;
  pages = regular.pages;
  runs = λ pid e there. let o = was_there pipe k.procs pid e there in subst (HasSpace k.spaces) (ap (λ (t : Task). t.space) (sym o.2)) (regular.runs pid o.0 o.1);
  chains = chains_wake pipe k.procs regular.chains;
  falls = falls_map entry_pid entry_pid 0 (λ (e : Entry Task). with_state e (roused pipe e.state)) (λ _. refl) k.procs.next_pid k.procs.entries regular.falls;
  few = omega (arith, regular.few, length-map k.procs.entries (λ (e : Entry Task). with_state e (roused pipe e.state)));
  pids = regular.pids;
  loads = regular.loads;
}

regular_wakes : (pipes : List ℕ) (k : Kept) → Regular k → Regular (record k { procs = with_wakes pipes k.procs })
unfolding with_wakes
regular_wakes [] k regular = regular
regular_wakes (pipe ∷ pipes) k regular = regular_wakes pipes (record k { procs = with_wake k.procs pipe }) (regular_wake k pipe regular)

pub regular_awake : (k : Kept) → IsRegular k → IsRegular (awake_in k)
regular_awake k regular = (regular_files (record k { procs = with_wakes k.files.changed k.procs }) (none_changed k.files) (regular_wakes k.files.changed k regular.0), regular.1)

-- ---- what comes of a call

module _ (a : About) (pid : ℕ) (mid new : Kept) (kept : new ≡ awake_in mid) where
  pub world_now : world_of (later 1 a) new ≡ awake (world_of (later 1 a) mid)
  world_now = ap (world_of (later 1 a)) kept ∙ awake_world (later 1 a) mid

  pub lives_now : Lives mid.procs pid → Lives new.procs pid
  lives_now lives = subst (λ (k : Kept). Lives k.procs pid) (sym kept) (wakes_live mid.files.changed mid.procs pid ∙ lives)

  pub gone_now : process mid.procs pid ≡ None → process new.procs pid ≡ None
  gone_now gone = subst (λ (k : Kept). process k.procs pid ≡ None) (sym kept) (wakes_gone mid.files.changed mid.procs pid gone)

  went_now : (t : Trace) (s : Served) → Went t mid pid s → Went t new pid s
  went_now t result.Replied was = (was.0, was.1, lives_now was.2)
  went_now t result.TurnEnds was = (was.0, was.1, lives_now was.2)
  went_now t result.Waits was = (was.0, was.1, lives_now was.2)
  went_now t result.Ended was = (was.0, was.1, gone_now was.2)
  went_now t (result.Stray access) was = was
  went_now t result.LogFull was = was

  -- it was an event: those go on that wait
  pub settled_answers : (o : Outcome) (old : Kept) (s : Served) → went_by s ≡ true → Answered a o old mid pid s → Answered a (settled o) old new pid s
  unfolding settled
  settled_answers (went now t) old s goes was = (ap awake was.0 ∙ sym world_now, went_now t s was.1)
  settled_answers (strays access) old result.Replied goes was = was
  settled_answers (strays access) old result.TurnEnds goes was = was
  settled_answers (strays access) old result.Waits goes was = was
  settled_answers (strays access) old result.Ended goes was = was
  settled_answers (strays access) old (result.Stray seen) goes was = absurd cc
  settled_answers (strays access) old result.LogFull goes was = was
  settled_answers full old result.Replied goes was = was
  settled_answers full old result.TurnEnds goes was = was
  settled_answers full old result.Waits goes was = was
  settled_answers full old result.Ended goes was = was
  settled_answers full old (result.Stray seen) goes was = was
  settled_answers full old result.LogFull goes was = absurd cc
  settled_answers idle old s goes was = was

  -- a process died
  pub settled_dies : (o : Outcome) → Died a o mid pid → Died a (settled o) new pid
  unfolding settled
  settled_dies (went now t) was = (ap awake was.0 ∙ sym world_now, was.1, gone_now was.2)
  settled_dies (strays access) was = was
  settled_dies full was = was
  settled_dies idle was = was

-- a process dies, and then those go on
pub died_settled : (w : World) (pid signal : ℕ) → died w pid signal ≡ settled (at_process w pid (λ p s. trapped w p signal))
unfolding died at_process settled
died_settled w pid signal = by_found (find pid_of pid w.procs)
  where
    in_either : (p : Process) (o : Option LiveSpace) → in_space (λ q s. settled (trapped w q signal)) p o ≡ settled (in_space (λ q s. trapped w q signal) p o)
    in_either p (Some s) = refl
    in_either p None = refl

    by_found : (o : Option Process) → by_process w.spaces (λ q s. settled (trapped w q signal)) o ≡ settled (by_process w.spaces (λ q s. trapped w q signal) o)
    by_found (Some p) = in_either p (find id_of p.space w.spaces)
    by_found None = refl

-- it was no event
pub unsettled_answers : (a : About) (o : Outcome) (old new : Kept) (pid : ℕ) (s : Served) → went_by s ≡ false → Answered a o old new pid s → Answered a (settled o) old new pid s
unfolding settled
unsettled_answers a (went now t) old new pid result.Replied goes was = absurd cc
unsettled_answers a (went now t) old new pid result.TurnEnds goes was = absurd cc
unsettled_answers a (went now t) old new pid result.Waits goes was = absurd cc
unsettled_answers a (went now t) old new pid result.Ended goes was = absurd cc
unsettled_answers a (went now t) old new pid (result.Stray access) goes was = absurd was.1
unsettled_answers a (went now t) old new pid result.LogFull goes was = absurd was.1
unsettled_answers a (strays access) old new pid s goes was = was
unsettled_answers a full old new pid s goes was = was
unsettled_answers a idle old new pid s goes was = was

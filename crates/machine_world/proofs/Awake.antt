-- Who goes on behind a call or a trap, and what that leaves.
use Rattle.std.proofs.Common.{◌≡◌, ℕ, ◌+◌, Bool, true, false, cond, List, [], ◌∷◌, map, length, Option, Some, None, refl, sym, ap, subst, ◌∙◌, arith}
use Rattle.std.specs.Prelude.{◌==◌, ◌||◌, nat_le, option_map}
use Rattle.std.specs.List.{list_any}
use Rattle.std.proofs.lemmas.Bool.Decides.{nat_tests}
use Rattle.std.proofs.lemmas.List.{length-map}
use Rattle.vfork_exec.specs.declared.family.Who.{Who}
use Rattle.vfork_exec.specs.declared.family.State.{State}
use Rattle.vfork_exec.specs.declared.family.State.TheVariants.{Ready, Waiting, OnPipe, Lent}
use Rattle.vfork_exec.specs.Keyed.{find, Falls}
use Rattle.vfork_exec.specs.Families.{is_child, is_lent_to, is_ready, roused}
use Rattle.vfork_exec.proofs.Keyed.{find_map, falls_map}
use Rattle.byte_words.specs.declared.access.Access.{Access}
use Rattle.vfork_exec.specs.Procs.{most_entries}
use Rattle.machine_world.specs.World.{Process, World, pid_of}
use Rattle.machine_world.specs.Families.{MayRun, state_at, is_full, borrows, has_child, roused_by, all_roused, is_lent}
use Rattle.machine_world.specs.Asks.{with_files}
use Rattle.machine_world.specs.Event.{Trace, Outcome, went, strays, full, idle, awake, settled}

-- ---- a state, once these pipes have changed

unfoldable pub roused_all : (pipes : List ℕ) → State → State
roused_all [] state = state
roused_all (pipe ∷ pipes) state = roused_all pipes (roused pipe state)

-- a process, once they have
abbrev pub woke : (pipes : List ℕ) → Process → Process
woke pipes q = record q { state = roused_all pipes q.state }

pub roused_ready : (pipe : ℕ) → roused pipe Ready ≡ Ready
unfolding roused
roused_ready pipe = refl

pub roused_waiting : (pipe : ℕ) (who : Who) → roused pipe (Waiting who) ≡ Waiting who
unfolding roused
roused_waiting pipe who = refl

pub roused_lent : (pipe child : ℕ) → roused pipe (Lent child) ≡ Lent child
unfolding roused
roused_lent pipe child = refl

pub all_ready : (pipes : List ℕ) → roused_all pipes Ready ≡ Ready
unfolding roused_all
all_ready [] = refl
all_ready (pipe ∷ pipes) = ap (roused_all pipes) (roused_ready pipe) ∙ all_ready pipes

pub all_waiting : (pipes : List ℕ) (who : Who) → roused_all pipes (Waiting who) ≡ Waiting who
unfolding roused_all
all_waiting [] who = refl
all_waiting (pipe ∷ pipes) who = ap (roused_all pipes) (roused_waiting pipe who) ∙ all_waiting pipes who

pub all_lent : (pipes : List ℕ) (child : ℕ) → roused_all pipes (Lent child) ≡ Lent child
unfolding roused_all
all_lent [] child = refl
all_lent (pipe ∷ pipes) child = ap (roused_all pipes) (roused_lent pipe child) ∙ all_lent pipes child

roused_is_lent : (pipe : ℕ) (s : State) → is_lent (roused pipe s) ≡ is_lent s
unfolding roused
roused_is_lent pipe Ready = refl
roused_is_lent pipe (Waiting who) = refl
roused_is_lent pipe (OnPipe id) = either (id == pipe)
  where
    either : (b : Bool) → is_lent (cond b Ready (OnPipe id)) ≡ false
    either true = refl
    either false = refl
roused_is_lent pipe (Lent child) = refl

pub all_is_lent : (pipes : List ℕ) (s : State) → is_lent (roused_all pipes s) ≡ is_lent s
unfolding roused_all
all_is_lent [] s = refl
all_is_lent (pipe ∷ pipes) s = all_is_lent pipes (roused pipe s) ∙ roused_is_lent pipe s

pub all_is_ready : (pipes : List ℕ) (s : State) → is_ready s ≡ true → is_ready (roused_all pipes s) ≡ true
all_is_ready pipes Ready is = ap is_ready (all_ready pipes)
all_is_ready pipes (Waiting who) is = absurd cc
all_is_ready pipes (OnPipe id) is = absurd cc
all_is_ready pipes (Lent child) is = absurd cc

other_way : (m n : ℕ) (b : Bool) → (n == m) ≡ b → (m == n) ≡ b
other_way m n true is = grind (arith, nat_tests)
other_way m n false is = grind (arith, nat_tests)

lent_to_one : (pipe child : ℕ) (s : State) → is_lent_to child (roused pipe s) ≡ is_lent_to child s
unfolding roused
lent_to_one pipe child Ready = refl
lent_to_one pipe child (Waiting who) = refl
lent_to_one pipe child (OnPipe id) = either (id == pipe)
  where
    either : (b : Bool) → is_lent_to child (cond b Ready (OnPipe id)) ≡ false
    either true = refl
    either false = refl
lent_to_one pipe child (Lent pid) = refl

all_is_lent_to : (pipes : List ℕ) (child : ℕ) (s : State) → is_lent_to child (roused_all pipes s) ≡ is_lent_to child s
unfolding roused_all
all_is_lent_to [] child s = refl
all_is_lent_to (pipe ∷ pipes) child s = all_is_lent_to pipes child (roused pipe s) ∙ lent_to_one pipe child s

-- who waits on a pipe goes on if that is among them, and only then
on_pipe_by : (pipes : List ℕ) (pipe id : ℕ) (b : Bool) → (id == pipe) ≡ b → roused_all pipes (OnPipe id) ≡ cond (list_any (λ x. x == id) pipes) Ready (OnPipe id)
    → roused_all pipes (roused pipe (OnPipe id)) ≡ cond (list_any (λ x. x == id) (pipe ∷ pipes)) Ready (OnPipe id)
unfolding roused
on_pipe_by pipes pipe id true is later = let other : (pipe == id) ≡ true = other_way pipe id true is in rw (is, other) (all_ready pipes)
on_pipe_by pipes pipe id false is later = let other : (pipe == id) ≡ false = other_way pipe id false is in rw (is, other) later

pub all_on_pipe : (pipes : List ℕ) (id : ℕ) → roused_all pipes (OnPipe id) ≡ cond (list_any (λ x. x == id) pipes) Ready (OnPipe id)
unfolding roused_all
all_on_pipe [] id = refl
all_on_pipe (pipe ∷ pipes) id = on_pipe_by pipes pipe id (id == pipe) refl (all_on_pipe pipes id)

-- a process that stands still, or may run, is as it was
pub woke_same : (pipes : List ℕ) (q : Process) → roused_all pipes q.state ≡ q.state → woke pipes q ≡ q
woke_same pipes q same = λ j. record q { state = same j }

-- ---- all processes

module _ {A B C : Type 0} where
  map_twice : (g : B → C) (f : A → B) (xs : List A) → map g (map f xs) ≡ map (λ x. g (f x)) xs
  map_twice g f [] = refl
  map_twice g f (x ∷ xs) = ap (λ ys. g (f x) ∷ ys) (map_twice g f xs)

map_none : (f : Process → Process) → ((q : Process) → f q ≡ q) → (procs : List Process) → map f procs ≡ procs
map_none f same [] = refl
map_none f same (q ∷ qs) = λ j. same q j ∷ map_none f same qs j

pub all_roused_is : (pipes : List ℕ) (procs : List Process) → all_roused pipes procs ≡ map (woke pipes) procs
unfolding all_roused roused_all
all_roused_is [] procs = sym (map_none (woke []) (λ q. refl) procs)
all_roused_is (pipe ∷ pipes) procs =
    all_roused_is pipes (map (roused_by pipe) procs) ∙ map_twice (woke pipes) (roused_by pipe) procs

pub all_roused_none : (procs : List Process) → all_roused [] procs ≡ procs
unfolding all_roused
all_roused_none procs = refl

pub all_roused_next : (pipe : ℕ) (pipes : List ℕ) (procs : List Process) → all_roused (pipe ∷ pipes) procs ≡ all_roused pipes (map (roused_by pipe) procs)
unfolding all_roused
all_roused_next pipe pipes procs = refl

any_woke : (pipes : List ℕ) (test : Process → Bool) → ((q : Process) → test (woke pipes q) ≡ test q) → (procs : List Process) → list_any test (map (woke pipes) procs) ≡ list_any test procs
any_woke pipes test same [] = refl
any_woke pipes test same (q ∷ qs) = λ j. same q j || any_woke pipes test same qs j

found_woke : (pipes : List ℕ) (q : Process) (o : Option Process) → option_map (woke pipes) o ≡ Some q → (p : Process) × (o ≡ Some p) × (q ≡ woke pipes p)
found_woke pipes q (Some p) found = (p, refl, (let same : woke pipes p ≡ q = cc in sym same))
found_woke pipes q None found = let no : ⊥ = cc in absurd no

module _ (pipes : List ℕ) (procs : List Process) where
  pub find_roused : (pid : ℕ) → find pid_of pid (all_roused pipes procs) ≡ option_map (woke pipes) (find pid_of pid procs)
  find_roused pid = ap (find pid_of pid) (all_roused_is pipes procs) ∙ find_map pid_of pid_of pid (woke pipes) (λ q. refl) procs

  -- who lives lives still, and no other does
  pub lives_roused : (pid : ℕ) (p : Process) → find pid_of pid procs ≡ Some p → find pid_of pid (all_roused pipes procs) ≡ Some (woke pipes p)
  lives_roused pid p lives = find_roused pid ∙ ap (option_map (woke pipes)) lives

  pub was_there : (pid : ℕ) (q : Process) → find pid_of pid (all_roused pipes procs) ≡ Some q → (p : Process) × (find pid_of pid procs ≡ Some p) × (q ≡ woke pipes p)
  was_there pid q lives = found_woke pipes q (find pid_of pid procs) (sym (find_roused pid) ∙ lives)

  pub borrows_roused : (p : Process) → borrows p (all_roused pipes procs) ≡ borrows p procs
  unfolding borrows
  borrows_roused p =
      ap (list_any (λ q. is_lent_to p.pid q.state)) (all_roused_is pipes procs)
      ∙ any_woke pipes (λ q. is_lent_to p.pid q.state) (λ q. all_is_lent_to pipes p.pid q.state) procs

  pub has_child_roused : (pid : ℕ) (who : Who) → has_child pid who (all_roused pipes procs) ≡ has_child pid who procs
  unfolding has_child
  has_child_roused pid who =
      ap (list_any (λ q. is_child pid who q.pid q.parent)) (all_roused_is pipes procs) ∙ any_woke pipes (λ q. is_child pid who q.pid q.parent) (λ q. refl) procs

  pub length_roused : length (all_roused pipes procs) ≡ length procs
  length_roused = ap length (all_roused_is pipes procs) ∙ length-map procs (woke pipes)

  pub falls_roused : (b : ℕ) → Falls pid_of b procs → Falls pid_of b (all_roused pipes procs)
  falls_roused b falls = subst (Falls pid_of b) (sym (all_roused_is pipes procs)) (falls_map pid_of pid_of 0 (woke pipes) (λ q. refl) b procs falls)

  pub map_roused : {A : Type 0} (f : Process → A) → ((q : Process) → f (woke pipes q) ≡ f q) → map f (all_roused pipes procs) ≡ map f procs
  map_roused f same = ap (map f) (all_roused_is pipes procs) ∙ map_twice f (woke pipes) procs ∙ each procs
    where
      each : (qs : List Process) → map (λ q. f (woke pipes q)) qs ≡ map f qs
      each [] = refl
      each (q ∷ qs) = λ j. same q j ∷ each qs j

  -- who may run may run still
  pub ready_roused : (pid : ℕ) → option_map (λ (q : Process). q.state) (find pid_of pid procs) ≡ Some Ready
      → option_map (λ (q : Process). q.state) (find pid_of pid (all_roused pipes procs)) ≡ Some Ready
  ready_roused pid may = ap (option_map (λ (q : Process). q.state)) (find_roused pid) ∙ still (find pid_of pid procs) may
    where
      still : (o : Option Process) → option_map (λ (q : Process). q.state) o ≡ Some Ready → option_map (λ (q : Process). q.state) (option_map (woke pipes) o) ≡ Some Ready
      still (Some q) is = let same : q.state ≡ Ready = cc in ap (λ s. Some (roused_all pipes s)) same ∙ ap Some (all_ready pipes)
      still None is = absurd cc

-- ---- an outcome, settled

pub may_run_awake : (w : World) (pid : ℕ) → MayRun w pid → MayRun (awake w) pid
may_run_awake w pid may = ready_roused w.rest.files.changed w.procs pid may

states_woke : (pipes : List ℕ) (o : Option Process) → option_map (λ (q : Process). q.state) (option_map (woke pipes) o) ≡ option_map (roused_all pipes) (option_map (λ (q : Process). q.state) o)
states_woke pipes (Some q) = refl
states_woke pipes None = refl

pub state_awake : (w : World) (pid : ℕ) → state_at (awake w) pid ≡ option_map (roused_all w.rest.files.changed) (state_at w pid)
state_awake w pid =
    ap (option_map (λ (q : Process). q.state)) (find_roused w.rest.files.changed w.procs pid) ∙ states_woke w.rest.files.changed (find pid_of pid w.procs)

pub is_full_awake : (w : World) → is_full (awake w) ≡ is_full w
unfolding is_full
is_full_awake w = ap (λ n. nat_le most_entries (n + length w.ended)) (length_roused w.rest.files.changed w.procs)

-- where no pipe is marked, all stays
pub not_awake : (w : World) → w.rest.files.changed ≡ [] → awake w ≡ w
unfolding all_roused
not_awake w none =
    let procs : all_roused w.rest.files.changed w.procs ≡ w.procs = ap (λ ids. all_roused ids w.procs) none in
    let marks : [] ≡ w.rest.files.changed = sym none in
    λ j. record w { procs = procs j; rest = with_files w.rest (record w.rest.files { changed = marks j }) }

pub settled_is : (o : Outcome) (now : World) (t : Trace) → o ≡ went now t → settled o ≡ went (awake now) t
unfolding settled
settled_is o now t is = ap settled is

pub settled_if : (b : Bool) (x y : Outcome) → settled (cond b x y) ≡ cond b (settled x) (settled y)
settled_if true x y = refl
settled_if false x y = refl

-- what is settled came of an event that was carried out
pub settled_of : (o : Outcome) (now : World) (t : Trace) → settled o ≡ went now t → (v : World) × (o ≡ went v t) × (now ≡ awake v)
unfolding settled
settled_of (went v u) now t is = (v, (let same : u ≡ t = cc in ap (went v) same), (let same : awake v ≡ now = cc in sym same))
settled_of (strays access) now t is = absurd cc
settled_of full now t is = absurd cc
settled_of idle now t is = absurd cc

pub settled_strays : (o : Outcome) (access : Access) → settled o ≡ strays access → o ≡ strays access
unfolding settled
settled_strays (went v u) access is = absurd cc
settled_strays (strays a) access is = is
settled_strays full access is = absurd cc
settled_strays idle access is = absurd cc

pub settled_full : (o : Outcome) → settled o ≡ full → o ≡ full
unfolding settled
settled_full (went v u) is = absurd cc
settled_full (strays a) is = absurd cc
settled_full full is = refl
settled_full idle is = absurd cc

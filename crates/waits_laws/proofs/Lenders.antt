-- Who stands still does so for its vfork child, behind every event: the child lives, runs in its space, and has it as its parent.
use Rattle.std.proofs.Common.{◌≡◌, ◌≢◌, ℕ, ◌<◌, Bool, true, false, cond, List, [], ◌∷◌, Option, Some, None, ◌⊎◌, inl, inr, refl, sym, ap, subst, ◌∙◌, arith}
use Rattle.std.specs.Prelude.{◌==◌, option_map}
use Rattle.std.proofs.lemmas.Bool.{cases_eq, cases_Bool}
use Rattle.mmap_rules.specs.Space.{Space}
use Rattle.flat_loader.specs.Begin.{Loading}
use Rattle.vfork_exec.specs.declared.family.State.{State}
use Rattle.vfork_exec.specs.declared.family.State.TheVariants.{Ready, Waiting, OnPipe, Lent}
use Rattle.vfork_exec.specs.Keyed.{find, change, Falls}
use Rattle.vfork_exec.specs.Families.{is_child, parent_behind, resumed, state_behind}
use Rattle.vfork_exec.proofs.Keyed.{eqb_is, eqb_same, eqb_other, find_head, find_later, find_key, find_below, find_changed, find_beside_change, falls_filter}
use Rattle.machine_world.specs.World.{Process, World, pid_of}
use Rattle.machine_world.specs.Families.{MayRun, let_go, left_by, all_left_by, all_roused, sharing, is_lent, AreLenders, IsChain, AreChains}
use Rattle.machine_world.specs.Asks.{Ask, Row, replies, waits}
use Rattle.machine_world.specs.Rows.{row}
use Rattle.machine_world.specs.Event.{Trace, went, ended, replied, ask_of, child_of, with_child, with_exec, event}
use Rattle.machine_world.proofs.Awake.{roused_all, woke, all_lent, all_is_lent, lives_roused, was_there}
use Rattle.machine_world.proofs.EachChange.{Answers}
use Rattle.machine_world.proofs.ByEvents.{Went, Answered, Happened, loading_of, by_event}
use Rattle.machine_world.proofs.Chains.{sharing_head, find_sharing, head_ready, find_left, find_left_own, find_forked, find_forked_child, find_forked_own, find_exec, find_exec_own}
use Rattle.waits_laws.specs.Waits.{HasVforkChild}

-- ---- by its chain each that stands still does so for one that is newer and runs in its space

-- q, whose pid is k, stands still for it
record NewerFor (procs : List Process) (q : Process) (k child : ℕ) : Type 0 where
  process : Process
  lives : find pid_of child procs ≡ Some process
  space : process.space ≡ q.space
  newer : k < child

abbrev Newer : List Process → Type 0
Newer procs = (k child : ℕ) (q : Process) → find pid_of k procs ≡ Some q → q.state ≡ Lent child → NewerFor procs q k child

module _ (k child : ℕ) (q : Process) (stands : q.state ≡ Lent child) where
  lenders_next : (x : Process) (qs : List Process) → AreLenders x.pid qs → Falls pid_of x.pid qs → find pid_of k qs ≡ Some q
      → (c : Process) × (find pid_of child (x ∷ qs) ≡ Some c) × (k < child)
  unfolding find
  lenders_next x [] lends falls is = absurd cc
  lenders_next x (y ∷ ys) lends falls is = elim (cases_Bool (y.pid == k)) [
    | inl here ↦
        let same : y ≡ q = let e = sym (find_head pid_of k y ys true here) ∙ is in cc in
        let state : Lent x.pid ≡ Lent child = sym lends.0 ∙ ap (λ (z : Process). z.state) same ∙ stands in
        let at : x.pid ≡ child = cc in
        let key = eqb_is y.pid k here in
        (x, find_head pid_of child x (y ∷ ys) true (eqb_same x.pid child at), omega (arith, falls.0, key, at))
    | inr later ↦
        let more = lenders_next y ys lends.1 falls.1 (sym (find_head pid_of k y ys false later) ∙ is) in
        let below : child < x.pid = find_below pid_of child x.pid (y ∷ ys) more.0 falls more.1 in
        (more.0, find_later pid_of child x (y ∷ ys) (omega (arith, below)) ∙ more.1, more.2)
  ]

  chain_next : (b : ℕ) (xs : List Process) → IsChain xs → Falls pid_of b xs → find pid_of k xs ≡ Some q → (c : Process) × (find pid_of child xs ≡ Some c) × (k < child)
  unfolding find
  chain_next b [] chain falls is = absurd cc
  chain_next b (x ∷ xs) chain falls is = elim (cases_Bool (x.pid == k)) [
    | inl here ↦
        let same : x ≡ q = let e = sym (find_head pid_of k x xs true here) ∙ is in cc in
        let lent : is_lent x.state ≡ true = ap (λ (z : Process). is_lent z.state) same ∙ ap is_lent stands in
        let none : is_lent x.state ≡ false = chain.0 in
        absurd cc
    | inr later ↦ lenders_next x xs chain.1 falls.1 (sym (find_head pid_of k x xs false later) ∙ is)
  ]

-- who is found in a space runs in it
find_shared : (i k b : ℕ) (c : Process) (procs : List Process) → Falls pid_of b procs → find pid_of k (sharing i procs) ≡ Some c → (find pid_of k procs ≡ Some c) × (c.space ≡ i)
unfolding find sharing
find_shared i k b c [] falls is = absurd cc
find_shared i k b c (x ∷ xs) falls is = elim (cases_Bool (x.space == i)) [
  | inl inside ↦
      let among : find pid_of k (x ∷ sharing i xs) ≡ Some c = sym (ap (find pid_of k) (sharing_head i x xs true inside)) ∙ is in
      elim (cases_Bool (x.pid == k)) [
        | inl here ↦
            let same : x ≡ c = let e = sym (find_head pid_of k x (sharing i xs) true here) ∙ among in cc in
            (find_head pid_of k x xs true here ∙ ap Some same, sym (ap (λ (z : Process). z.space) same) ∙ eqb_is x.space i inside)
        | inr later ↦
            let more = find_shared i k x.pid c xs falls.1 (sym (find_head pid_of k x (sharing i xs) false later) ∙ among) in
            (find_head pid_of k x xs false later ∙ more.0, more.1)
      ]
  | inr outside ↦
      let more = find_shared i k x.pid c xs falls.1 (sym (ap (find pid_of k) (sharing_head i x xs false outside)) ∙ is) in
      let below : k < x.pid = find_below pid_of k x.pid xs c falls.1 more.0 in
      (find_later pid_of k x xs (omega (arith, below)) ∙ more.0, more.1)
]

falls_sharing : (i b : ℕ) (procs : List Process) → Falls pid_of b procs → Falls pid_of b (sharing i procs)
unfolding sharing
falls_sharing i b procs falls = falls_filter pid_of (λ (q : Process). q.space == i) b procs falls

newer_by : (b : ℕ) (procs : List Process) → AreChains procs → Falls pid_of b procs → Newer procs
newer_by b procs chains falls k child q is stands =
    let next = chain_next k child q stands b (sharing q.space procs) (chains q.space) (falls_sharing q.space b procs falls) (find_sharing k q procs is) in
    let there = find_shared q.space child b next.0 procs falls next.1 in
    record { process = next.0; lives = there.0; space = there.1; newer = next.2 }

-- ---- and for its child

abbrev Parents : List Process → Type 0
Parents procs = (k child : ℕ) (q c : Process) → find pid_of k procs ≡ Some q → q.state ≡ Lent child → find pid_of child procs ≡ Some c → c.parent ≡ k

-- what a map of processes finds was there before
mapped_from : (g : Process → Process) (o : Option Process) (q : Process) → option_map g o ≡ Some q → (x : Process) × (o ≡ Some x) × (g x ≡ q)
mapped_from g None q is = absurd cc
mapped_from g (Some x) q is = (x, refl, (let same : g x ≡ q = cc in same))

ready_isnt : (x : State) (child : ℕ) → x ≡ Ready → x ≡ Lent child → ⊥
ready_isnt x child ready lent = cc

-- ---- who stands still behind a change did so before

lent_if : (b : Bool) (x : State) (child : ℕ) → cond b Ready x ≡ Lent child → x ≡ Lent child
lent_if true x child is = absurd cc
lent_if false x child is = is

lent_resumed : (pid child : ℕ) (x : State) → resumed pid x ≡ Lent child → x ≡ Lent child
unfolding resumed
lent_resumed pid child Ready is = is
lent_resumed pid child (Waiting who) is = is
lent_resumed pid child (OnPipe id) is = is
lent_resumed pid child (Lent c) is = lent_if (c == pid) (Lent c) child is

lent_behind : (own pid parent child : ℕ) (x : State) → state_behind own pid parent x ≡ Lent child → x ≡ Lent child
unfolding state_behind
lent_behind own pid parent child Ready is = lent_resumed pid child Ready is
lent_behind own pid parent child (Waiting who) is = lent_if (is_child own who pid parent) (Waiting who) child (lent_resumed pid child _ is)
lent_behind own pid parent child (OnPipe id) is = lent_resumed pid child (OnPipe id) is
lent_behind own pid parent child (Lent c) is = lent_resumed pid child (Lent c) is

lent_woke : (pipes : List ℕ) (child : ℕ) (x : State) → roused_all pipes x ≡ Lent child → x ≡ Lent child
lent_woke pipes child x is = by x is (sym (all_is_lent pipes x) ∙ ap is_lent is)
  where
    by : (x : State) → roused_all pipes x ≡ Lent child → is_lent x ≡ true → x ≡ Lent child
    by Ready is lent = absurd cc
    by (Waiting who) is lent = absurd cc
    by (OnPipe id) is lent = absurd cc
    by (Lent c) is lent = sym (all_lent pipes c) ∙ is

-- ---- each kind of event

module _ (w : World) (chains : AreChains w.procs) (falls : Falls pid_of w.next_pid w.procs) (old : Parents w.procs) (p : Process) (lives : find pid_of p.pid w.procs ≡ Some p) (ready : p.state ≡ Ready) where
  at_own : (k : ℕ) → k ≡ p.pid → find pid_of k w.procs ≡ Some p
  at_own k e = ap (λ (n : ℕ). find pid_of n w.procs) e ∙ lives

  -- the process changes, and doesn't stand still then
  module _ (f : Process → Process) (pids : (q : Process) → (f q).pid ≡ q.pid) (parent : (f p).parent ≡ p.parent) (goes : (child : ℕ) → (f p).state ≡ Lent child → ⊥) where
    abbrev changed : List Process
    changed = change pid_of p.pid f w.procs

    own_changed : (k : ℕ) (q : Process) → k ≡ p.pid → find pid_of k changed ≡ Some q → f p ≡ q
    own_changed k q e is =
        let own : find pid_of k changed ≡ Some (f p) = ap (λ (n : ℕ). find pid_of n changed) e ∙ find_changed pid_of p.pid f pids w.procs ∙ ap (option_map f) lives in
        let both = sym own ∙ is in
        cc

    other_changed : (k : ℕ) (q : Process) → k ≢ p.pid → find pid_of k changed ≡ Some q → find pid_of k w.procs ≡ Some q
    other_changed k q beside is = sym (find_beside_change pid_of p.pid k beside f pids w.procs) ∙ is

    parents_changed : Parents changed
    parents_changed k child q c is stands there = by (cases_eq k p.pid) (cases_eq child p.pid)
      where
        by : (k ≡ p.pid) ⊎ (k ≡ p.pid → ⊥) → (child ≡ p.pid) ⊎ (child ≡ p.pid → ⊥) → c.parent ≡ k
        by (inl e) other = absurd (goes child (ap (λ (z : Process). z.state) (own_changed k q e is) ∙ stands))
        by (inr beside) (inl e) =
            sym (ap (λ (z : Process). z.parent) (own_changed child c e there)) ∙ parent ∙ old k child q p (other_changed k q beside is) stands (at_own child e)
        by (inr beside) (inr away) = old k child q c (other_changed k q beside is) stands (other_changed child c away there)

  -- it waits, and not for a child in its space: that would be newer, and it is the newest there
  module _ (st : State) where
    abbrev to : Process → Process
    to q = record q { state = st }

    none_newer : (child : ℕ) (c : Process) → p.pid < child → find pid_of child w.procs ≡ Some c → c.space ≡ p.space → ⊥
    none_newer child c newer was at =
        let head = head_ready w.procs p.pid p chains lives ready in
        let all : Falls pid_of w.next_pid (p ∷ head.0) = subst (Falls pid_of w.next_pid) head.1 (falls_sharing p.space w.next_pid w.procs falls) in
        let among : find pid_of child (p ∷ head.0) ≡ Some c =
        ap (find pid_of child) (sym (ap (λ (n : ℕ). sharing n w.procs) at ∙ head.1)) ∙ find_sharing child c w.procs was in
        let behind : find pid_of child head.0 ≡ Some c = sym (find_later pid_of child p head.0 (omega (arith, newer))) ∙ among in
        let below : child < p.pid = find_below pid_of child p.pid head.0 c all.1 behind in
        absurd (omega (arith, newer, below))

    isnt_lent : Newer (change pid_of p.pid to w.procs) → (child : ℕ) → st ≡ Lent child → ⊥
    isnt_lent newer child is =
        let next = newer p.pid child (to p) (find_changed pid_of p.pid to (λ q. refl) w.procs ∙ ap (option_map to) lives) is in
        let away : child ≢ p.pid = (let more : p.pid < child = next.newer in omega (arith, more)) in
        none_newer child next.process next.newer (sym (find_beside_change pid_of p.pid child away to (λ q. refl) w.procs) ∙ next.lives) next.space

    parents_waiting : Newer (change pid_of p.pid to w.procs) → Parents (change pid_of p.pid to w.procs)
    parents_waiting newer = parents_changed to (λ q. refl) refl (isnt_lent newer)

  -- it is gone
  parents_left : Parents (all_left_by p w.procs)
  parents_left k child q c is stands there = by (cases_eq k p.pid) (cases_eq child p.pid)
    where
      gone : (k : ℕ) (q : Process) → k ≡ p.pid → find pid_of k (all_left_by p w.procs) ≡ Some q → ⊥
      gone k q e is = let none : None ≡ Some q = sym (find_left_own w.procs p) ∙ ap (λ (n : ℕ). find pid_of n (all_left_by p w.procs)) (sym e) ∙ is in cc

      by : (k ≡ p.pid) ⊎ (k ≡ p.pid → ⊥) → (child ≡ p.pid) ⊎ (child ≡ p.pid → ⊥) → c.parent ≡ k
      by (inl e) other = absurd (gone k q e is)
      by (inr beside) (inl e) = absurd (gone child c e there)
      by (inr beside) (inr away) =
          let x = mapped_from (left_by p) (find pid_of k w.procs) q (sym (find_left w.procs p k beside) ∙ is) in
          let y = mapped_from (left_by p) (find pid_of child w.procs) c (sym (find_left w.procs p child away) ∙ there) in
          let before : x.0.state ≡ Lent child = lent_behind x.0.pid p.pid p.parent child x.0.state (ap (λ (z : Process). z.state) x.2 ∙ stands) in
          let parent : y.0.parent ≡ k = old k child x.0 y.0 x.1 before y.1 in
          let stays : parent_behind p.pid y.0.parent ≡ y.0.parent = ap (λ (b : Bool). cond b 0 y.0.parent) (eqb_other y.0.parent p.pid (λ e. beside (sym parent ∙ e))) in
          sym (ap (λ (z : Process). z.parent) y.2) ∙ stays ∙ parent

  -- it has a new program
  module _ (l : Loading) where
    abbrev loaded : List Process
    loaded = (with_exec w p l).procs

    parents_loaded : Parents loaded
    parents_loaded k child q c is stands there = by (cases_eq k p.pid) (cases_eq child p.pid)
      where
        before : (beside : k ≢ p.pid) → (x : Process) × (find pid_of k w.procs ≡ Some x) × (x.state ≡ Lent child)
        before beside =
            let x = mapped_from (let_go p.pid) (find pid_of k w.procs) q (sym (find_exec w p l k beside) ∙ is) in
            (x.0, x.1, lent_resumed p.pid child x.0.state (ap (λ (z : Process). z.state) x.2 ∙ stands))

        by : (k ≡ p.pid) ⊎ (k ≡ p.pid → ⊥) → (child ≡ p.pid) ⊎ (child ≡ p.pid → ⊥) → c.parent ≡ k
        by (inl e) other =
            let own = sym (find_exec_own w p l lives) ∙ ap (λ (n : ℕ). find pid_of n loaded) (sym e) ∙ is in
            let at : resumed p.pid p.state ≡ q.state = cc in
            absurd (ready_isnt p.state child ready (lent_resumed p.pid child p.state (at ∙ stands)))
        by (inr beside) (inl e) =
            let x = before beside in
            let own = sym (find_exec_own w p l lives) ∙ ap (λ (n : ℕ). find pid_of n loaded) (sym e) ∙ there in
            let at : p.parent ≡ c.parent = cc in
            sym at ∙ old k child x.0 p x.1 x.2 (at_own child e)
        by (inr beside) (inr away) =
            let x = before beside in
            let y = mapped_from (let_go p.pid) (find pid_of child w.procs) c (sym (find_exec w p l child away) ∙ there) in
            sym (ap (λ (z : Process). z.parent) y.2) ∙ old k child x.0 y.0 x.1 x.2 y.1

-- it has a child
module _ (w : World) (chains : AreChains w.procs) (falls : Falls pid_of w.next_pid w.procs) (old : Parents w.procs) (a : Ask) (lives : find pid_of a.process.pid w.procs ≡ Some a.process) where
  abbrev forked : List Process
  forked = (with_child w a).procs

  abbrev own : ℕ
  own = a.process.pid

  low : (k : ℕ) (q : Process) → find pid_of k w.procs ≡ Some q → k ≢ w.next_pid
  low k q is = let below : k < w.next_pid = find_below pid_of k w.next_pid w.procs q falls is in omega (arith, below)

  parents_forked : Parents forked
  parents_forked k child q c is stands there = by (cases_eq k w.next_pid) (cases_eq k own) (cases_eq child own)
    where
      own_forked : (n : ℕ) (x : Process) → n ≡ own → find pid_of n forked ≡ Some x → (Lent w.next_pid ≡ x.state) × (a.process.parent ≡ x.parent)
      own_forked n x e is =
          let both = sym (find_forked_own w a (low own a.process lives) lives) ∙ ap (λ (m : ℕ). find pid_of m forked) (sym e) ∙ is in
          ((let state : Lent w.next_pid ≡ x.state = cc in state), (let parent : a.process.parent ≡ x.parent = cc in parent))

      new_forked : (n : ℕ) (x : Process) → n ≡ w.next_pid → find pid_of n forked ≡ Some x → child_of w a ≡ x
      new_forked n x e is =
          let both = sym (find_forked_child w a) ∙ ap (λ (m : ℕ). find pid_of m forked) (sym e) ∙ is in
          cc

      by : (k ≡ w.next_pid) ⊎ (k ≡ w.next_pid → ⊥) → (k ≡ own) ⊎ (k ≡ own → ⊥) → (child ≡ own) ⊎ (child ≡ own → ⊥) → c.parent ≡ k
      by (inl e) two three = absurd (ready_isnt q.state child (sym (ap (λ (z : Process). z.state) (new_forked k q e is))) stands)
      by (inr past) (inl e) three =
          let state : Lent w.next_pid ≡ Lent child = (own_forked k q e is).0 ∙ stands in
          let next : child ≡ w.next_pid = (let same : w.next_pid ≡ child = cc in sym same) in
          sym (ap (λ (z : Process). z.parent) (new_forked child c next there)) ∙ sym e
      by (inr past) (inr beside) three =
          let was : find pid_of k w.procs ≡ Some q = sym (find_forked w a k past beside) ∙ is in
          let next = newer_by w.next_pid w.procs chains falls k child q was stands in
          let far : child ≢ w.next_pid = low child next.process next.lives in
          of was far three
        where
          of : find pid_of k w.procs ≡ Some q → child ≢ w.next_pid → (child ≡ own) ⊎ (child ≡ own → ⊥) → c.parent ≡ k
          of was far (inl e) = sym (own_forked child c e there).1 ∙ old k child q a.process was stands (ap (λ (n : ℕ). find pid_of n w.procs) e ∙ lives)
          of was far (inr away) = old k child q c was stands (sym (find_forked w a child far away) ∙ there)

-- ---- where those go on who wait on pipes

parents_awake : (pipes : List ℕ) (procs : List Process) → (Newer procs → Parents procs) → Newer (all_roused pipes procs) → Parents (all_roused pipes procs)
parents_awake pipes procs holds newer k child q c is stands there =
    let x = was_there pipes procs k q is in
    let y = was_there pipes procs child c there in
    let before : x.0.state ≡ Lent child = lent_woke pipes child x.0.state (sym (ap (λ (z : Process). z.state) x.2) ∙ stands) in
    ap (λ (z : Process). z.parent) y.2 ∙ holds newer_before k child x.0 y.0 x.1 before y.1
  where
    newer_before : Newer procs
    newer_before n to q is stands =
        let next = newer n to (woke pipes q) (lives_roused pipes procs n q is) (ap (roused_all pipes) stands ∙ all_lent pipes to) in
        let z = was_there pipes procs to next.process next.lives in
        record { process = z.0; lives = z.1; space = sym (ap (λ (x : Process). x.space) z.2) ∙ next.space; newer = next.newer }

-- ---- an event

any_row : (r : Row) → Answers (λ rest. Unit {0}) r
any_row (replies r) = tt
any_row (waits state) = tt

abbrev ParentsStay : World → Trace → Type 0
ParentsStay now t = Newer now.procs → Parents now.procs

module _ (w : World) (chains : AreChains w.procs) (falls : Falls pid_of w.next_pid w.procs) (old : Parents w.procs) (p : Process) (s : Space)
    (lives : find pid_of p.pid w.procs ≡ Some p) (ready : p.state ≡ Ready) where
  kept_call : (bytes : List ℕ) → Answered ParentsStay (λ rest. Unit {0}) w (ask_of w p s bytes)
  unfolding ended
  kept_call bytes = record {
    reply = λ ended r m holds room newer.
        parents_changed w chains falls old p lives ready (λ q. record q { regs = replied p.regs r.value }) (λ q. refl) refl (λ child. ready_isnt p.state child ready);
    wait = λ state newer. parents_waiting w chains falls old p lives ready state newer;
    exit = λ room newer. parents_left w chains falls old p lives ready;
    fork = λ few room newer. parents_forked w chains falls old (ask_of w p s bytes) lives;
    load = λ f strings page is fits room newer. parents_loaded w chains falls old p lives ready (loading_of f strings page);
  }

  kept_event : Happened ParentsStay (λ rest. Unit {0}) w p s
  unfolding ended
  kept_event = record {
    step = λ regs bytes newer. parents_changed w chains falls old p lives ready (λ q. record q { regs = regs }) (λ q. refl) refl (λ child. ready_isnt p.state child ready);
    trap = λ signal newer. parents_left w chains falls old p lives ready;
    calls = kept_call;
  }

abbrev pub AreLent : World → Type 0
AreLent w = (pid child : ℕ) (p : Process) → find pid_of pid w.procs ≡ Some p → p.state ≡ Lent child → HasVforkChild w p child

parents_of : (w : World) → AreLent w → Parents w.procs
parents_of w lent k child q c is stands there =
    let has = lent k child q is stands in
    let same : has.process ≡ c = let e = sym has.lives ∙ there in cc in
    sym (ap (λ (z : Process). z.parent) same) ∙ has.parent ∙ find_key pid_of k w.procs q is

lent_by : (w : World) → Newer w.procs → Parents w.procs → AreLent w
lent_by w newer parents k child q is stands =
    let next = newer k child q is stands in
    record {
      process = next.process;
      lives = next.lives;
      parent = parents k child q next.process is stands next.lives ∙ sym (find_key pid_of k w.procs q is);
      space = next.space;
    }

pub events_keep_lenders : (w : World) (pid : ℕ) (now : World) (t : Trace) → AreChains w.procs → Falls pid_of w.next_pid w.procs → AreLent w → MayRun w pid
    → event w pid ≡ went now t → AreChains now.procs → Falls pid_of now.next_pid now.procs → AreLent now
events_keep_lenders w pid now t chains falls lent may is later_chains later_falls =
    let newer : Newer now.procs = newer_by now.next_pid now.procs later_chains later_falls in
    let goes : Went ParentsStay (event w pid) =
    by_event ParentsStay (λ rest. Unit {0}) (λ v u holds. parents_awake v.rest.files.changed v.procs holds) w tt pid
    (λ p s there has.
    let key : p.pid ≡ pid = find_key pid_of pid w.procs p there in
    let ready : p.state ≡ Ready = (let e = sym (ap (option_map (λ (q : Process). q.state)) there) ∙ may in cc) in
    kept_event w chains falls (parents_of w lent) p s.space (ap (λ (n : ℕ). find pid_of n w.procs) key ∙ there) ready)
    (λ p s bytes. any_row (row (ask_of w p s bytes))) in
    lent_by now newer (subst (Went ParentsStay) is goes newer)

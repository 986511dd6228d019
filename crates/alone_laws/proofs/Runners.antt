-- The processes of a space, after processes change, move, come or go.
use Rattle.std.proofs.Common.{◌≡◌, ◌≢◌, ℕ, Bool, true, false, cond, inl, inr, List, [], ◌∷◌, ◌++◌, map, Some, refl, sym, ap, ◌∙◌, arith, not}
use Rattle.std.specs.Prelude.{◌==◌, filter}
use Rattle.std.proofs.lemmas.Bool.{cases_Bool}
use Rattle.vfork_exec.specs.Keyed.{find, change, without, Falls}
use Rattle.vfork_exec.proofs.Keyed.{find_head, none_below, change_map}
use Rattle.flat_loader.specs.Alone.{Runner}
use Rattle.machine_world.specs.World.{Process, pid_of}
use Rattle.machine_world.specs.Families.{sharing, let_go, left_by, all_left_by}
use Rattle.alone_laws.specs.Stays.{runners, runner_of}
use Rattle.alone_laws.proofs.Lists.{eqb_other, eqb_same, eqb_is, eqb_isnt}

pub runners_head : (i : ℕ) (p : Process) (ps : List Process) (b : Bool) → (p.space == i) ≡ b → runners i (p ∷ ps) ≡ cond b (runner_of p ∷ runners i ps) (runners i ps)
unfolding runners
runners_head i p ps b is = ap (λ (t : Bool). cond t (runner_of p ∷ runners i ps) (runners i ps)) is

change_head : (f : Process → Process) (k : ℕ) (x : Process) (xs : List Process) (b : Bool) → (x.pid == k) ≡ b
    → change pid_of k f (x ∷ xs) ≡ cond b (f x ∷ xs) (x ∷ change pid_of k f xs)
unfolding change
change_head f k x xs b is = ap (λ (t : Bool). cond t (f x ∷ xs) (x ∷ change pid_of k f xs)) is

without_head : (k : ℕ) (x : Process) (xs : List Process) (b : Bool) → (x.pid == k) ≡ b
    → without pid_of k (x ∷ xs) ≡ cond (not b) (x ∷ without pid_of k xs) (without pid_of k xs)
unfolding without
without_head k x xs b is = ap (λ (t : Bool). cond (not t) (x ∷ filter (λ y. not (pid_of y == k)) xs) (filter (λ y. not (pid_of y == k)) xs)) is

-- ---- as they share the space

pub sharing_head : (i : ℕ) (p : Process) (ps : List Process) (b : Bool) → (p.space == i) ≡ b → sharing i (p ∷ ps) ≡ cond b (p ∷ sharing i ps) (sharing i ps)
unfolding sharing
sharing_head i p ps b is = ap (λ (t : Bool). cond t (p ∷ filter (λ q. q.space == i) ps) (filter (λ q. q.space == i) ps)) is

pub runners_sharing : (i : ℕ) (ps : List Process) → runners i ps ≡ map runner_of (sharing i ps)
unfolding runners sharing
runners_sharing i [] = refl
runners_sharing i (p ∷ ps) = elim (cases_Bool (p.space == i)) [
  | inl is ↦ runners_head i p ps true is ∙ ap (λ rs. runner_of p ∷ rs) (runners_sharing i ps) ∙ sym (ap (map runner_of) (sharing_head i p ps true is))
  | inr is ↦ runners_head i p ps false is ∙ runners_sharing i ps ∙ sym (ap (map runner_of) (sharing_head i p ps false is))
]

-- ---- a list in two parts, and one that changes throughout

pub runners_append : (i : ℕ) (ps qs : List Process) → runners i (ps ++ qs) ≡ runners i ps ++ runners i qs
unfolding runners
runners_append i [] qs = refl
runners_append i (p ∷ ps) qs = elim (cases_Bool (p.space == i)) [
  | inl is ↦ runners_head i p (ps ++ qs) true is ∙ ap (λ rs. runner_of p ∷ rs) (runners_append i ps qs) ∙ sym (ap (λ rs. rs ++ runners i qs) (runners_head i p ps true is))
  | inr is ↦ runners_head i p (ps ++ qs) false is ∙ runners_append i ps qs ∙ sym (ap (λ rs. rs ++ runners i qs) (runners_head i p ps false is))
]

-- registers and spaces stay
pub runners_map : (g : Process → Process) → ((q : Process) → runner_of (g q) ≡ runner_of q) → ((q : Process) → (g q).space ≡ q.space) → (i : ℕ) (ps : List Process)
    → runners i (map g ps) ≡ runners i ps
unfolding runners
runners_map g same stays i [] = refl
runners_map g same stays i (q ∷ qs) =
    let more = runners_map g same stays i qs in
    runners_head i (g q) (map g qs) (q.space == i) (ap (λ n. n == i) (stays q))
    ∙ (λ j. cond (q.space == i) (same q j ∷ more j) (more j)) ∙ sym (runners_head i q qs (q.space == i) refl)

-- also those of one process
pub runners_same : (k : ℕ) (f : Process → Process) → ((q : Process) → runner_of (f q) ≡ runner_of q) → ((q : Process) → (f q).space ≡ q.space) → (i : ℕ) (ps : List Process)
    → runners i (change pid_of k f ps) ≡ runners i ps
unfolding change
runners_same k f same stays i [] = refl
runners_same k f same stays i (q ∷ qs) = elim (cases_Bool (q.pid == k)) [
  | inl is ↦
      ap (runners i) (change_head f k q qs true is) ∙ runners_head i (f q) qs (q.space == i) (ap (λ n. n == i) (stays q))
      ∙ (λ j. cond (q.space == i) (same q j ∷ runners i qs) (runners i qs)) ∙ sym (runners_head i q qs (q.space == i) refl)
  | inr is ↦
      ap (runners i) (change_head f k q qs false is) ∙ runners_head i q (change pid_of k f qs) (q.space == i) refl
      ∙ ap (λ (rs : List Runner). cond (q.space == i) (runner_of q ∷ rs) rs) (runners_same k f same stays i qs) ∙ sym (runners_head i q qs (q.space == i) refl)
]

-- ---- each is among the processes of its space

some_run : (i : ℕ) (q : Process) (ps : List Process) (k : ℕ) → find pid_of k ps ≡ Some q → q.space ≡ i → runners i ps ≢ []
unfolding find runners
some_run i q [] k found at none = absurd cc
some_run i q (p ∷ ps) k found at none = elim (cases_Bool (p.space == i)) [
  | inl inside ↦ (let e = sym (runners_head i p ps true inside) ∙ none in absurd cc)
  | inr outside ↦ elim (cases_Bool (p.pid == k)) [
    | inl is ↦ (
        let same : p ≡ q = let e = sym (find_head pid_of k p ps true is) ∙ found in cc in
        absurd (eqb_isnt p.space i outside (ap (λ (x : Process). x.space) same ∙ at)))
    | inr is ↦ some_run i q ps k (sym (find_head pid_of k p ps false is) ∙ found) at (sym (runners_head i p ps false outside) ∙ none)
  ]
]

-- where one is alone, it is that one
pub in_runners : (i : ℕ) (q : Process) (r : Runner) (ps : List Process) (k : ℕ) → find pid_of k ps ≡ Some q → q.space ≡ i → runners i ps ≡ r ∷ [] → q.pid ≡ r.pid
unfolding find runners
in_runners i q r [] k found at only = absurd cc
in_runners i q r (p ∷ ps) k found at only = elim (cases_Bool (p.pid == k)) [
  | inl is ↦ (
      let same : p ≡ q = let e = sym (find_head pid_of k p ps true is) ∙ found in cc in
      let inside : (p.space == i) ≡ true = eqb_same p.space i (ap (λ (x : Process). x.space) same ∙ at) in
      let one : runner_of p ≡ r = let e = sym (runners_head i p ps true inside) ∙ only in cc in
      ap (λ (x : Process). x.pid) (sym same) ∙ ap (λ (x : Runner). x.pid) one)
  | inr is ↦ (
      let later : find pid_of k ps ≡ Some q = sym (find_head pid_of k p ps false is) ∙ found in
      elim (cases_Bool (p.space == i)) [
        | inl inside ↦ (let none : runners i ps ≡ [] = let e = sym (runners_head i p ps true inside) ∙ only in cc in absurd (some_run i q ps k later at none))
        | inr outside ↦ in_runners i q r ps k later at (sym (runners_head i p ps false outside) ∙ only)
      ])
]

-- ---- one process among the others

pub record Parted (p : Process) (ps : List Process) : Type 0 where
  pub front : List Process
  pub back : List Process
  pub is : ps ≡ front ++ (p ∷ back)
  pub changed : (f : Process → Process) → change pid_of p.pid f ps ≡ front ++ (f p ∷ back)
  pub gone : without pid_of p.pid ps ≡ front ++ back
  pub away : (i : ℕ) (rs : List Runner) → runners i front ≢ runner_of p ∷ rs

pub parted : (b : ℕ) (p : Process) (ps : List Process) → Falls pid_of b ps → find pid_of p.pid ps ≡ Some p → Parted p ps
unfolding find runners
parted b p [] falls lives = absurd cc
parted b p (q ∷ qs) falls lives = elim (cases_Bool (q.pid == p.pid)) [
  | inl is ↦ (
      let same : q ≡ p = let e = sym (find_head pid_of p.pid q qs true is) ∙ lives in cc in
      let at : q.pid ≡ p.pid = eqb_is q.pid p.pid is in
      record {
        front = [];
        back = qs;
        is = ap (λ (x : Process). x ∷ qs) same;
        changed = λ f. change_head f p.pid q qs true is ∙ ap (λ (x : Process). f x ∷ qs) same;
        gone = without_head p.pid q qs true is ∙ none_below pid_of p.pid q.pid qs falls.1 (omega (arith, at));
        away = λ i rs e. absurd cc;
      })
  | inr is ↦ (
      let r : Parted p qs = parted q.pid p qs falls.1 (sym (find_head pid_of p.pid q qs false is) ∙ lives) in
      record {
        front = q ∷ r.front;
        back = r.back;
        is = ap (λ (xs : List Process). q ∷ xs) r.is;
        changed = λ f. change_head f p.pid q qs false is ∙ ap (λ (xs : List Process). q ∷ xs) (r.changed f);
        gone = without_head p.pid q qs false is ∙ ap (λ (xs : List Process). q ∷ xs) r.gone;
        away = λ i rs e. elim (cases_Bool (q.space == i)) [
          | inl here ↦ (
              let first : runner_of q ≡ runner_of p = let all = sym (runners_head i q r.front true here) ∙ e in cc in
              eqb_isnt q.pid p.pid is (ap (λ (x : Runner). x.pid) first))
          | inr there ↦ r.away i rs (sym (runners_head i q r.front false there) ∙ e)
        ];
      })
]

module _ (b : ℕ) (p : Process) (ps : List Process) (falls : Falls pid_of b ps) (lives : find pid_of p.pid ps ≡ Some p) where
  abbrev it : Parted p ps
  it = parted b p ps falls lives

  all_here : (i : ℕ) → p.space ≡ i → runners i ps ≡ runners i it.front ++ (runner_of p ∷ runners i it.back)
  all_here i at = ap (runners i) it.is ∙ runners_append i it.front (p ∷ it.back) ∙ ap (λ rs. runners i it.front ++ rs) (runners_head i p it.back true (eqb_same p.space i at))

  all_beside : (i : ℕ) → p.space ≢ i → runners i ps ≡ runners i it.front ++ runners i it.back
  all_beside i other = ap (runners i) it.is ∙ runners_append i it.front (p ∷ it.back) ∙ ap (λ rs. runners i it.front ++ rs) (runners_head i p it.back false (eqb_other p.space i other))

  module _ (f : Process → Process) where
    changed_here : (i : ℕ) → (f p).space ≡ i → runners i (change pid_of p.pid f ps) ≡ runners i it.front ++ (runner_of (f p) ∷ runners i it.back)
    changed_here i at =
        ap (runners i) (it.changed f) ∙ runners_append i it.front (f p ∷ it.back) ∙ ap (λ rs. runners i it.front ++ rs) (runners_head i (f p) it.back true (eqb_same (f p).space i at))

    changed_beside : (i : ℕ) → (f p).space ≢ i → runners i (change pid_of p.pid f ps) ≡ runners i it.front ++ runners i it.back
    changed_beside i other =
        ap (runners i) (it.changed f) ∙ runners_append i it.front (f p ∷ it.back) ∙ ap (λ rs. runners i it.front ++ rs) (runners_head i (f p) it.back false (eqb_other (f p).space i other))

  gone_all : (i : ℕ) → runners i (without pid_of p.pid ps) ≡ runners i it.front ++ runners i it.back
  gone_all i = ap (runners i) it.gone ∙ runners_append i it.front it.back

  -- ---- of another space

  pub runners_beside_change : (f : Process → Process) (i : ℕ) → p.space ≢ i → (f p).space ≢ i → runners i (change pid_of p.pid f ps) ≡ runners i ps
  runners_beside_change f i was is = changed_beside f i is ∙ sym (all_beside i was)

  pub runners_beside_without : (i : ℕ) → p.space ≢ i → runners i (without pid_of p.pid ps) ≡ runners i ps
  runners_beside_without i other = gone_all i ∙ sym (all_beside i other)

  -- ---- of its own, where it stands first

  module _ (rs : List Runner) (first : runners p.space ps ≡ runner_of p ∷ rs) where
    none_before : (l : List Runner) → runners p.space it.front ≡ l → l ≡ []
    none_before [] is = refl
    none_before (r ∷ l) is =
        let all : (r ∷ l) ++ (runner_of p ∷ runners p.space it.back) ≡ runner_of p ∷ rs = ap (λ (k : List Runner). k ++ (runner_of p ∷ runners p.space it.back)) (sym is) ∙ sym (all_here p.space refl) ∙ first in
        let same : r ≡ runner_of p = cc in
        absurd (it.away p.space l (is ∙ ap (λ x. x ∷ l) same))

    alone : runners p.space it.front ≡ []
    alone = none_before (runners p.space it.front) refl

    others : runners p.space it.back ≡ rs
    others =
        let all : runner_of p ∷ runners p.space it.back ≡ runner_of p ∷ rs = ap (λ (k : List Runner). k ++ (runner_of p ∷ runners p.space it.back)) (sym alone) ∙ sym (all_here p.space refl) ∙ first in
        cc

    pub runners_change : (f : Process → Process) → (f p).space ≡ p.space → runners p.space (change pid_of p.pid f ps) ≡ runner_of (f p) ∷ rs
    runners_change f stays = changed_here f p.space stays ∙ (λ j. alone j ++ (runner_of (f p) ∷ others j))

    pub runners_moved : (f : Process → Process) → (f p).space ≢ p.space → runners p.space (change pid_of p.pid f ps) ≡ rs
    runners_moved f goes = changed_beside f p.space goes ∙ (λ j. alone j ++ others j)

    pub runners_without : runners p.space (without pid_of p.pid ps) ≡ rs
    runners_without = gone_all p.space ∙ (λ j. alone j ++ others j)

  -- it moves to a space in which no process is
  pub runners_new : (f : Process → Process) (i : ℕ) → (f p).space ≡ i → p.space ≢ i → runners i ps ≡ [] → runners i (change pid_of p.pid f ps) ≡ runner_of (f p) ∷ []
  runners_new f i at was none = changed_here f i at ∙ with_it (runners i it.front) (runners i it.back) (sym (all_beside i was) ∙ none)
    where
      with_it : (xs ys : List Runner) → xs ++ ys ≡ [] → xs ++ (runner_of (f p) ∷ ys) ≡ runner_of (f p) ∷ []
      with_it [] ys e = ap (λ zs. runner_of (f p) ∷ zs) e
      with_it (x ∷ xs) ys e = absurd cc

-- ---- the end of a process, and an execve

pub runners_left : (gone : Process) (i : ℕ) (ps : List Process) → runners i (all_left_by gone ps) ≡ runners i (without pid_of gone.pid ps)
unfolding all_left_by
runners_left gone i ps = runners_map (left_by gone) (λ q. refl) (λ q. refl) i (without pid_of gone.pid ps)

pub runners_exec : (pid : ℕ) (f : Process → Process) → ((q : Process) → let_go pid (f q) ≡ f (let_go pid q)) → (i : ℕ) (ps : List Process)
    → runners i (change pid_of pid f (map (let_go pid) ps)) ≡ runners i (change pid_of pid f ps)
runners_exec pid f same i ps =
    ap (runners i) (sym (change_map pid_of pid_of pid (let_go pid) (λ q. refl) f f same ps))
    ∙ runners_map (let_go pid) (λ q. refl) (λ q. refl) i (change pid_of pid f ps)

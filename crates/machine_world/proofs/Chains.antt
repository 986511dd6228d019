-- The processes of each space: the newest may run, and each other one stands still for the one before it.
use Rattle.std.proofs.Common.{◌≡◌, ◌≢◌, ℕ, ◌+◌, ◌<◌, Bool, true, false, cond, inl, inr, List, [], ◌∷◌, map, not, Some, None, refl, sym, ap, subst, ◌∙◌, arith}
use Rattle.std.specs.Prelude.{◌==◌, ◌||◌, filter, option_map}
use Rattle.std.specs.List.{list_any}
use Rattle.std.proofs.lemmas.Bool.{cases_Bool}
use Rattle.std.proofs.lemmas.Bool.Decides.{nat_tests}
use Rattle.vfork_exec.specs.declared.family.Who.{Who}
use Rattle.vfork_exec.specs.declared.family.State.{State}
use Rattle.vfork_exec.specs.declared.family.State.TheVariants.{Ready, Waiting, OnPipe, Lent}
use Rattle.vfork_exec.specs.Keyed.{find, change, without, Falls}
use Rattle.vfork_exec.specs.Families.{is_child, is_lent_to, resumed, woken, state_behind}
use Rattle.vfork_exec.proofs.Keyed.{eqb_other, eqb_same, find_head, none_below, falls_without, falls_change, find_changed, find_gone, find_beside_change, find_beside_without, find_map}
use Rattle.flat_loader.specs.Alone.{Runner, child_regs}
use Rattle.flat_loader.specs.Begin.{Loading, begin_regs}
use Rattle.machine_world.specs.World.{Process, World, pid_of}
use Rattle.machine_world.specs.Families.{borrows, let_go, left_by, all_left_by, all_roused, sharing, is_lent, AreLenders, IsChain, AreChains}
use Rattle.machine_world.specs.Asks.{Ask, arg}
use Rattle.machine_world.specs.Event.{replied, child_of, with_child, with_exec}
use Rattle.machine_world.proofs.States.{find_has}
use Rattle.machine_world.proofs.Awake.{roused_all, woke, all_lent, all_is_lent, all_roused_is}

eqb_is : (n k : ℕ) → (n == k) ≡ true → n ≡ k
eqb_is n k h = grind (arith, nat_tests)

eqb_isnt : (n k : ℕ) → (n == k) ≡ false → n ≢ k
eqb_isnt n k h = grind (arith, nat_tests)

-- ---- the words at a list's head

pub sharing_head : (i : ℕ) (p : Process) (ps : List Process) (b : Bool) → (p.space == i) ≡ b → sharing i (p ∷ ps) ≡ cond b (p ∷ sharing i ps) (sharing i ps)
unfolding sharing
sharing_head i p ps b is = ap (λ (t : Bool). cond t (p ∷ filter (λ q. q.space == i) ps) (filter (λ q. q.space == i) ps)) is

change_head : (f : Process → Process) (k : ℕ) (x : Process) (xs : List Process) (b : Bool) → (x.pid == k) ≡ b
    → change pid_of k f (x ∷ xs) ≡ cond b (f x ∷ xs) (x ∷ change pid_of k f xs)
unfolding change
change_head f k x xs b is = ap (λ (t : Bool). cond t (f x ∷ xs) (x ∷ change pid_of k f xs)) is

without_head : (k : ℕ) (x : Process) (xs : List Process) (b : Bool) → (x.pid == k) ≡ b
    → without pid_of k (x ∷ xs) ≡ cond (not b) (x ∷ without pid_of k xs) (without pid_of k xs)
unfolding without
without_head k x xs b is = ap (λ (t : Bool). cond (not t) (x ∷ filter (λ y. not (pid_of y == k)) xs) (filter (λ y. not (pid_of y == k)) xs)) is

alike : (i : ℕ) (p : Process) (ps qs : List Process) → sharing i ps ≡ sharing i qs → sharing i (p ∷ ps) ≡ sharing i (p ∷ qs)
alike i p ps qs same =
    sharing_head i p ps (p.space == i) refl ∙ ap (λ (l : List Process). cond (p.space == i) (p ∷ l) l) same ∙ sym (sharing_head i p qs (p.space == i) refl)

falls_map : (g : Process → Process) → ((q : Process) → (g q).pid ≡ q.pid) → (b : ℕ) (ps : List Process) → Falls pid_of b ps → Falls pid_of b (map g ps)
falls_map g same b [] falls = tt
falls_map g same b (p ∷ ps) falls = subst (λ n. (n < b) × Falls pid_of n (map g ps)) (sym (same p)) (falls.0, falls_map g same p.pid ps falls.1)

-- ---- the processes of a space

pub sharing_map : (i : ℕ) (g : Process → Process) → ((q : Process) → (g q).space ≡ q.space) → (ps : List Process) → sharing i (map g ps) ≡ map g (sharing i ps)
unfolding sharing
sharing_map i g same [] = refl
sharing_map i g same (p ∷ ps) = elim (cases_Bool (p.space == i)) [
  | inl is ↦
      sharing_head i (g p) (map g ps) true (ap (λ n. n == i) (same p) ∙ is) ∙ ap (λ qs. g p ∷ qs) (sharing_map i g same ps)
      ∙ sym (ap (map g) (sharing_head i p ps true is))
  | inr is ↦
      sharing_head i (g p) (map g ps) false (ap (λ n. n == i) (same p) ∙ is) ∙ sharing_map i g same ps
      ∙ sym (ap (map g) (sharing_head i p ps false is))
]

not_shared : (i pid : ℕ) (ps : List Process) → find pid_of pid ps ≡ None → find pid_of pid (sharing i ps) ≡ None
unfolding sharing
not_shared i pid [] none = none
not_shared i pid (q ∷ qs) none = elim (cases_Bool (q.pid == pid)) [
  | inl is ↦ let e = sym (find_head pid_of pid q qs true is) ∙ none in absurd cc
  | inr is ↦
      let later : find pid_of pid (sharing i qs) ≡ None = not_shared i pid qs (sym (find_head pid_of pid q qs false is) ∙ none) in
      elim (cases_Bool (q.space == i)) [
        | inl inside ↦ ap (find pid_of pid) (sharing_head i q qs true inside) ∙ find_head pid_of pid q (sharing i qs) false is ∙ later
        | inr outside ↦ ap (find pid_of pid) (sharing_head i q qs false outside) ∙ later
      ]
]

module _ (pid : ℕ) (p : Process) where
  found_head : (q : Process) (qs : List Process) → find pid_of pid (q ∷ qs) ≡ Some p → (q.pid == pid) ≡ true → q ≡ p
  found_head q qs lives is = let e = sym (find_head pid_of pid q qs true is) ∙ lives in cc

  found_behind : (q : Process) (qs : List Process) → find pid_of pid (q ∷ qs) ≡ Some p → (q.pid == pid) ≡ false → find pid_of pid qs ≡ Some p
  found_behind q qs lives is = sym (find_head pid_of pid q qs false is) ∙ lives

  -- a process is one of its space
  pub find_sharing : (ps : List Process) → find pid_of pid ps ≡ Some p → find pid_of pid (sharing p.space ps) ≡ Some p
  unfolding find
  find_sharing [] lives = absurd cc
  find_sharing (q ∷ qs) lives = elim (cases_Bool (q.pid == pid)) [
    | inl is ↦
        let same : q ≡ p = found_head q qs lives is in
        let inside : (q.space == p.space) ≡ true = eqb_same q.space p.space (ap (λ (x : Process). x.space) same) in
        ap (find pid_of pid) (sharing_head p.space q qs true inside) ∙ find_head pid_of pid q (sharing p.space qs) true is ∙ ap Some same
    | inr is ↦
        let later : find pid_of pid (sharing p.space qs) ≡ Some p = find_sharing qs (found_behind q qs lives is) in
        elim (cases_Bool (q.space == p.space)) [
          | inl inside ↦ ap (find pid_of pid) (sharing_head p.space q qs true inside) ∙ find_head pid_of pid q (sharing p.space qs) false is ∙ later
          | inr outside ↦ ap (find pid_of pid) (sharing_head p.space q qs false outside) ∙ later
        ]
  ]

  -- ---- another space, as the process changes or goes

  outside_of : (i : ℕ) (q : Process) (qs : List Process) → p.space ≢ i → find pid_of pid (q ∷ qs) ≡ Some p → (q.pid == pid) ≡ true → (q.space == i) ≡ false
  outside_of i q qs other lives is = eqb_other q.space i (λ e. other (sym (ap (λ (x : Process). x.space) (found_head q qs lives is)) ∙ e))

  pub sharing_beside_change : (i : ℕ) (f : Process → Process) → p.space ≢ i → (f p).space ≢ i → (ps : List Process) → find pid_of pid ps ≡ Some p
      → sharing i (change pid_of pid f ps) ≡ sharing i ps
  unfolding find change
  sharing_beside_change i f other away [] lives = absurd cc
  sharing_beside_change i f other away (q ∷ qs) lives = elim (cases_Bool (q.pid == pid)) [
    | inl is ↦
        let same : q ≡ p = found_head q qs lives is in
        let gone : ((f q).space == i) ≡ false = eqb_other (f q).space i (λ e. away (sym (ap (λ (x : Process). (f x).space) same) ∙ e)) in
        ap (sharing i) (change_head f pid q qs true is) ∙ sharing_head i (f q) qs false gone
        ∙ sym (sharing_head i q qs false (outside_of i q qs other lives is))
    | inr is ↦
        ap (sharing i) (change_head f pid q qs false is)
        ∙ alike i q (change pid_of pid f qs) qs (sharing_beside_change i f other away qs (found_behind q qs lives is))
  ]

  pub sharing_beside_without : (i : ℕ) → p.space ≢ i → (b : ℕ) (ps : List Process) → Falls pid_of b ps → find pid_of pid ps ≡ Some p
      → sharing i (without pid_of pid ps) ≡ sharing i ps
  unfolding find without
  sharing_beside_without i other b [] falls lives = absurd cc
  sharing_beside_without i other b (q ∷ qs) falls lives = elim (cases_Bool (q.pid == pid)) [
    | inl is ↦
        let at : q.pid ≡ pid = eqb_is q.pid pid is in
        ap (sharing i) (without_head pid q qs true is) ∙ ap (sharing i) (none_below pid_of pid q.pid qs falls.1 (omega (arith, at)))
        ∙ sym (sharing_head i q qs false (outside_of i q qs other lives is))
    | inr is ↦
        ap (sharing i) (without_head pid q qs false is)
        ∙ alike i q (without pid_of pid qs) qs (sharing_beside_without i other q.pid qs falls.1 (found_behind q qs lives is))
  ]

  -- a space in which no process was, and into which it goes
  pub sharing_into : (i : ℕ) (f : Process → Process) → p.space ≢ i → (f p).space ≡ i → (ps : List Process) → find pid_of pid ps ≡ Some p → sharing i ps ≡ []
      → sharing i (change pid_of pid f ps) ≡ f p ∷ []
  unfolding find change
  sharing_into i f other goes [] lives empty = absurd cc
  sharing_into i f other goes (q ∷ qs) lives empty = elim (cases_Bool (q.pid == pid)) [
    | inl is ↦
        let same : q ≡ p = found_head q qs lives is in
        let inside : ((f q).space == i) ≡ true = eqb_same (f q).space i (ap (λ (x : Process). (f x).space) same ∙ goes) in
        let none : sharing i qs ≡ [] = sym (sharing_head i q qs false (outside_of i q qs other lives is)) ∙ empty in
        ap (sharing i) (change_head f pid q qs true is) ∙ sharing_head i (f q) qs true inside ∙ (λ j. f (same j) ∷ none j)
    | inr is ↦ elim (cases_Bool (q.space == i)) [
      | inl inside ↦ let e = sym (sharing_head i q qs true inside) ∙ empty in absurd cc
      | inr outside ↦
          ap (sharing i) (change_head f pid q qs false is) ∙ sharing_head i q (change pid_of pid f qs) false outside
          ∙ sharing_into i f other goes qs (found_behind q qs lives is) (sym (sharing_head i q qs false outside) ∙ empty)
    ]
  ]

  -- ---- its own space, of which it is the newest

  module _ (key : p.pid ≡ pid) where
    not_newest : (q : Process) (qs rs : List Process) → (q.pid == pid) ≡ false → (q.space == p.space) ≡ true → sharing p.space (q ∷ qs) ≡ p ∷ rs → ⊥
    not_newest q qs rs is inside first =
        let all : q ∷ sharing p.space qs ≡ p ∷ rs = sym (sharing_head p.space q qs true inside) ∙ first in
        let same : q ≡ p = cc in
        eqb_isnt q.pid pid is (ap (λ (x : Process). x.pid) same ∙ key)

    pub sharing_own_change : (f : Process → Process) (b : Bool) → ((f p).space == p.space) ≡ b → (ps qs : List Process) → find pid_of pid ps ≡ Some p
        → sharing p.space ps ≡ p ∷ qs → sharing p.space (change pid_of pid f ps) ≡ cond b (f p ∷ qs) qs
    unfolding find change
    sharing_own_change f b stays [] rs lives first = absurd cc
    sharing_own_change f b stays (q ∷ qs) rs lives first = elim (cases_Bool (q.pid == pid)) [
      | inl is ↦
          let same : q ≡ p = found_head q qs lives is in
          let inside : (q.space == p.space) ≡ true = eqb_same q.space p.space (ap (λ (x : Process). x.space) same) in
          let all : q ∷ sharing p.space qs ≡ p ∷ rs = sym (sharing_head p.space q qs true inside) ∙ first in
          let rest : sharing p.space qs ≡ rs = cc in
          ap (sharing p.space) (change_head f pid q qs true is) ∙ sharing_head p.space (f q) qs b (ap (λ (x : Process). (f x).space == p.space) same ∙ stays)
          ∙ (λ j. cond b (f (same j) ∷ rest j) (rest j))
      | inr is ↦ elim (cases_Bool (q.space == p.space)) [
        | inl inside ↦ absurd (not_newest q qs rs is inside first)
        | inr outside ↦
            ap (sharing p.space) (change_head f pid q qs false is) ∙ sharing_head p.space q (change pid_of pid f qs) false outside
            ∙ sharing_own_change f b stays qs rs (found_behind q qs lives is) (sym (sharing_head p.space q qs false outside) ∙ first)
      ]
    ]

    pub sharing_own_without : (b : ℕ) (ps qs : List Process) → Falls pid_of b ps → find pid_of pid ps ≡ Some p → sharing p.space ps ≡ p ∷ qs
        → sharing p.space (without pid_of pid ps) ≡ qs
    unfolding find without
    sharing_own_without b [] rs falls lives first = absurd cc
    sharing_own_without b (q ∷ qs) rs falls lives first = elim (cases_Bool (q.pid == pid)) [
      | inl is ↦
          let same : q ≡ p = found_head q qs lives is in
          let inside : (q.space == p.space) ≡ true = eqb_same q.space p.space (ap (λ (x : Process). x.space) same) in
          let at : q.pid ≡ pid = eqb_is q.pid pid is in
          let all : q ∷ sharing p.space qs ≡ p ∷ rs = sym (sharing_head p.space q qs true inside) ∙ first in
          let rest : sharing p.space qs ≡ rs = cc in
          ap (sharing p.space) (without_head pid q qs true is) ∙ ap (sharing p.space) (none_below pid_of pid q.pid qs falls.1 (omega (arith, at))) ∙ rest
      | inr is ↦ elim (cases_Bool (q.space == p.space)) [
        | inl inside ↦ absurd (not_newest q qs rs is inside first)
        | inr outside ↦
            ap (sharing p.space) (without_head pid q qs false is) ∙ sharing_head p.space q (without pid_of pid qs) false outside
            ∙ sharing_own_without q.pid qs rs falls.1 (found_behind q qs lives is) (sym (sharing_head p.space q qs false outside) ∙ first)
      ]
    ]

  -- ---- who may run is the newest

  lenders_lent : (c : ℕ) (qs : List Process) → AreLenders c qs → find pid_of pid qs ≡ Some p → p.state ≡ Ready → ⊥
  unfolding find
  lenders_lent c [] h lives ready = cc
  lenders_lent c (q ∷ qs) h lives ready = elim (cases_Bool (q.pid == pid)) [
    | inl is ↦ let lent : p.state ≡ Lent c = sym (ap (λ (x : Process). x.state) (found_head q qs lives is)) ∙ h.0 in cc
    | inr is ↦ lenders_lent q.pid qs h.1 (found_behind q qs lives is) ready
  ]

  newest : (xs : List Process) → IsChain xs → find pid_of pid xs ≡ Some p → p.state ≡ Ready → (qs : List Process) × (xs ≡ p ∷ qs) × AreLenders p.pid qs
  unfolding find
  newest [] h lives ready = absurd cc
  newest (q ∷ qs) h lives ready = elim (cases_Bool (q.pid == pid)) [
    | inl is ↦ let same : q ≡ p = found_head q qs lives is in (qs, ap (λ z. z ∷ qs) same, subst (λ (z : Process). AreLenders z.pid qs) same h.1)
    | inr is ↦ absurd (lenders_lent q.pid qs h.1 (found_behind q qs lives is) ready)
  ]

pub head_ready : (procs : List Process) (pid : ℕ) (p : Process) → AreChains procs → find pid_of pid procs ≡ Some p → p.state ≡ Ready
    → (qs : List Process) × (sharing p.space procs ≡ p ∷ qs) × AreLenders p.pid qs
head_ready procs pid p chains lives ready = newest pid p (sharing p.space procs) (chains p.space) (find_sharing pid p procs lives) ready

-- ---- who borrows from nobody is alone

shared_lender : (i child : ℕ) (ps : List Process) → list_any (λ q. is_lent_to child q.state) (sharing i ps) ≡ true → list_any (λ q. is_lent_to child q.state) ps ≡ true
unfolding sharing
shared_lender i child [] h = h
shared_lender i child (q ∷ qs) h = elim (cases_Bool (is_lent_to child q.state)) [
  | inl is ↦ ap (λ (t : Bool). t || list_any (λ x. is_lent_to child x.state) qs) is
  | inr is ↦
      let later = shared_lender i child qs in
      ap (λ (t : Bool). t || list_any (λ x. is_lent_to child x.state) qs) is ∙ elim (cases_Bool (q.space == i)) [
        | inl inside ↦
            later (sym (ap (λ (t : Bool). t || list_any (λ x. is_lent_to child x.state) (sharing i qs)) is)
            ∙ sym (ap (list_any (λ x. is_lent_to child x.state)) (sharing_head i q qs true inside)) ∙ h)
        | inr outside ↦ later (sym (ap (list_any (λ x. is_lent_to child x.state)) (sharing_head i q qs false outside)) ∙ h)
      ]
]

lent_to : (child : ℕ) (s : State) → s ≡ Lent child → is_lent_to child s ≡ true
lent_to child s is = ap (is_lent_to child) is ∙ eqb_same child child refl

alone_by : (p : Process) (procs qs : List Process) → sharing p.space procs ≡ p ∷ qs → AreLenders p.pid qs → borrows p procs ≡ false → qs ≡ []
unfolding borrows
alone_by p procs [] first h none = refl
alone_by p procs (q ∷ qs) first h none =
    let lends : list_any (λ x. is_lent_to p.pid x.state) (q ∷ qs) ≡ true =
    ap (λ (t : Bool). t || list_any (λ x. is_lent_to p.pid x.state) qs) (lent_to p.pid q.state h.0) in
    let among : list_any (λ x. is_lent_to p.pid x.state) (p ∷ q ∷ qs) ≡ true = or_true (is_lent_to p.pid p.state) _ lends in
    let all = shared_lender p.space p.pid procs (ap (list_any (λ x. is_lent_to p.pid x.state)) first ∙ among) in
    absurd cc
  where
    or_true : (a b : Bool) → b ≡ true → (a || b) ≡ true
    or_true true b is = refl
    or_true false b is = is

pub owner_alone : (procs : List Process) (pid : ℕ) (p : Process) → AreChains procs → find pid_of pid procs ≡ Some p → p.state ≡ Ready → borrows p procs ≡ false
    → sharing p.space procs ≡ p ∷ []
owner_alone procs pid p chains lives ready none =
    let head = head_ready procs pid p chains lives ready in
    head.1 ∙ ap (λ qs. p ∷ qs) (alone_by p procs head.0 head.1 head.2 none)

-- ---- a chain by its pids and states

record Standing : Type 0 where
  pid : ℕ
  state : State

abbrev standing : Process → Standing
standing q = record { pid = q.pid; state = q.state }

lenders_alike : (c d : ℕ) (xs ys : List Process) → c ≡ d → map standing xs ≡ map standing ys → AreLenders c xs → AreLenders d ys
lenders_alike c d [] [] at same h = tt
lenders_alike c d [] (y ∷ ys) at same h = absurd cc
lenders_alike c d (x ∷ xs) [] at same h = absurd cc
lenders_alike c d (x ∷ xs) (y ∷ ys) at same h =
    let head : standing x ≡ standing y = cc in
    let tail : map standing xs ≡ map standing ys = cc in
    (sym (ap (λ (s : Standing). s.state) head) ∙ h.0 ∙ ap Lent at, lenders_alike x.pid y.pid xs ys (ap (λ (s : Standing). s.pid) head) tail h.1)

chain_alike : (xs ys : List Process) → map standing xs ≡ map standing ys → IsChain xs → IsChain ys
chain_alike [] [] same h = tt
chain_alike [] (y ∷ ys) same h = absurd cc
chain_alike (x ∷ xs) [] same h = absurd cc
chain_alike (x ∷ xs) (y ∷ ys) same h =
    let head : standing x ≡ standing y = cc in
    let tail : map standing xs ≡ map standing ys = cc in
    (ap (λ (s : Standing). is_lent s.state) (sym head) ∙ h.0, lenders_alike x.pid y.pid xs ys (ap (λ (s : Standing). s.pid) head) tail h.1)

module _ (f : Process → Process) (pids : (q : Process) → (f q).pid ≡ q.pid) (spaces : (q : Process) → (f q).space ≡ q.space) (states : (q : Process) → (f q).state ≡ q.state) where
  standing_same : (q : Process) → standing (f q) ≡ standing q
  standing_same q = λ j. record { pid = pids q j; state = states q j }

  sharing_same : (i pid : ℕ) (ps : List Process) → map standing (sharing i (change pid_of pid f ps)) ≡ map standing (sharing i ps)
  unfolding change
  sharing_same i pid [] = refl
  sharing_same i pid (q ∷ qs) = elim (cases_Bool (q.pid == pid)) [
    | inl is ↦
        ap (λ xs. map standing (sharing i xs)) (change_head f pid q qs true is)
        ∙ ap (map standing) (sharing_head i (f q) qs (q.space == i) (ap (λ n. n == i) (spaces q)))
        ∙ stood (q.space == i) (f q) q (sharing i qs) (sharing i qs) (standing_same q) refl
        ∙ sym (ap (map standing) (sharing_head i q qs (q.space == i) refl))
    | inr is ↦
        ap (λ xs. map standing (sharing i xs)) (change_head f pid q qs false is)
        ∙ ap (map standing) (sharing_head i q (change pid_of pid f qs) (q.space == i) refl)
        ∙ stood (q.space == i) q q (sharing i (change pid_of pid f qs)) (sharing i qs) refl (sharing_same i pid qs)
        ∙ sym (ap (map standing) (sharing_head i q qs (q.space == i) refl))
  ]
    where
      stood : (b : Bool) (x y : Process) (xs ys : List Process) → standing x ≡ standing y → map standing xs ≡ map standing ys
          → map standing (cond b (x ∷ xs) xs) ≡ map standing (cond b (y ∷ ys) ys)
      stood true x y xs ys head tail = λ j. head j ∷ tail j
      stood false x y xs ys head tail = tail

  -- what a change leaves of the pid, the space and the state
  pub chains_same : (procs : List Process) (pid : ℕ) → AreChains procs → AreChains (change pid_of pid f procs)
  chains_same procs pid chains i =
      chain_alike (sharing i procs) (sharing i (change pid_of pid f procs)) (sym (sharing_same i pid procs)) (chains i)

-- ---- the processes of a space with their registers

abbrev pub runner : Process → Runner
runner q = record { pid = q.pid; regs = q.regs }

runners_map : (g : Process → Process) → ((q : Process) → runner (g q) ≡ runner q) → (qs : List Process) → map runner (map g qs) ≡ map runner qs
runners_map g same [] = refl
runners_map g same (q ∷ qs) = λ j. same q j ∷ runners_map g same qs j

-- ---- the newest waits

pub chains_stopped : (procs : List Process) (pid : ℕ) (p : Process) (state : State) → is_lent state ≡ false → AreChains procs → find pid_of pid procs ≡ Some p → p.state ≡ Ready
    → AreChains (change pid_of pid (λ q. record q { state = state }) procs)
chains_stopped procs pid p state own chains lives ready i =
    let f : Process → Process = λ q. record q { state = state } in
    let head = head_ready procs pid p chains lives ready in
    elim (cases_Bool (p.space == i)) [
      | inl here ↦
          let at : p.space ≡ i = eqb_is p.space i here in
          let now = sharing_own_change pid p (find_has pid_of pid procs p lives) f true (eqb_same p.space p.space refl) procs head.0 lives head.1 in
          subst (λ n. IsChain (sharing n (change pid_of pid f procs))) at (subst IsChain (sym now) (own, head.2))
      | inr other ↦
          let away : p.space ≢ i = eqb_isnt p.space i other in
          subst IsChain (sym (sharing_beside_change pid p i f away away procs lives)) (chains i)
    ]

-- for its children, or on a pipe
pub chains_waiting : (procs : List Process) (pid : ℕ) (p : Process) (who : Who) → AreChains procs → find pid_of pid procs ≡ Some p → p.state ≡ Ready
    → AreChains (change pid_of pid (λ q. record q { state = Waiting who }) procs)
chains_waiting procs pid p who = chains_stopped procs pid p (Waiting who) refl

pub chains_on_pipe : (procs : List Process) (pid : ℕ) (p : Process) (pipe : ℕ) → AreChains procs → find pid_of pid procs ≡ Some p → p.state ≡ Ready
    → AreChains (change pid_of pid (λ q. record q { state = OnPipe pipe }) procs)
chains_on_pipe procs pid p pipe = chains_stopped procs pid p (OnPipe pipe) refl

-- ---- pipes changed: who waits on them goes on

module _ (pipes : List ℕ) where
  lenders_roused : (c : ℕ) (xs : List Process) → AreLenders c xs → AreLenders c (map (woke pipes) xs)
  lenders_roused c [] h = tt
  lenders_roused c (x ∷ xs) h = (ap (roused_all pipes) h.0 ∙ all_lent pipes c, lenders_roused x.pid xs h.1)

  chain_roused : (xs : List Process) → IsChain xs → IsChain (map (woke pipes) xs)
  chain_roused [] h = tt
  chain_roused (x ∷ xs) h = (all_is_lent pipes x.state ∙ h.0, lenders_roused x.pid xs h.1)

  module _ (procs : List Process) where
    pub sharing_roused : (i : ℕ) → sharing i (all_roused pipes procs) ≡ map (woke pipes) (sharing i procs)
    sharing_roused i = ap (sharing i) (all_roused_is pipes procs) ∙ sharing_map i (woke pipes) (λ q. refl) procs

    pub runners_roused : (i : ℕ) → map runner (sharing i (all_roused pipes procs)) ≡ map runner (sharing i procs)
    runners_roused i = ap (map runner) (sharing_roused i) ∙ runners_map (woke pipes) (λ q. refl) (sharing i procs)

    pub chains_roused : AreChains procs → AreChains (all_roused pipes procs)
    chains_roused chains i = subst IsChain (sym (sharing_roused i)) (chain_roused (sharing i procs) (chains i))

-- ---- a child more

module _ (w : World) (a : Ask) where
  abbrev pub parent_now : Process → Process
  parent_now q = record q { regs = replied a.process.regs w.next_pid; state = Lent w.next_pid }

  -- the child stands before its parent, which has its reply
  pub sharing_forked : (qs : List Process) → find pid_of a.process.pid w.procs ≡ Some a.process → sharing a.process.space w.procs ≡ a.process ∷ qs
      → sharing a.process.space (with_child w a).procs ≡ child_of w a ∷ parent_now a.process ∷ qs
  sharing_forked qs lives first =
      let i : ℕ = a.process.space in
      let pid : ℕ = a.process.pid in
      sharing_head i (child_of w a) (change pid_of pid parent_now w.procs) true (eqb_same i i refl)
      ∙ ap (λ (xs : List Process). child_of w a ∷ xs) (sharing_own_change pid a.process refl parent_now true (eqb_same i i refl) w.procs qs lives first)

  pub sharing_beside_forked : (i : ℕ) → i ≢ a.process.space → find pid_of a.process.pid w.procs ≡ Some a.process → sharing i (with_child w a).procs ≡ sharing i w.procs
  sharing_beside_forked i other lives =
      let away : a.process.space ≢ i = λ e. other (sym e) in
      sharing_head i (child_of w a) (change pid_of a.process.pid parent_now w.procs) false (eqb_other a.process.space i away)
      ∙ sharing_beside_change a.process.pid a.process i parent_now away away w.procs lives

  pub runners_forked : (qs : List Process) → find pid_of a.process.pid w.procs ≡ Some a.process → sharing a.process.space w.procs ≡ a.process ∷ qs
      → map runner (sharing a.process.space (with_child w a).procs)
      ≡ record { pid = w.next_pid; regs = child_regs a.process.regs (arg a 1) } ∷ record { pid = a.process.pid; regs = replied a.process.regs w.next_pid } ∷ map runner qs
  runners_forked qs lives first = ap (map runner) (sharing_forked qs lives first)

  pub find_forked : (other : ℕ) → other ≢ w.next_pid → other ≢ a.process.pid → find pid_of other (with_child w a).procs ≡ find pid_of other w.procs
  find_forked other new ne =
      find_head pid_of other (child_of w a) (change pid_of a.process.pid parent_now w.procs) false (eqb_other w.next_pid other (λ e. new (sym e)))
      ∙ find_beside_change pid_of a.process.pid other ne parent_now (λ q. refl) w.procs

  pub find_forked_child : find pid_of w.next_pid (with_child w a).procs ≡ Some (child_of w a)
  find_forked_child = find_head pid_of w.next_pid (child_of w a) (change pid_of a.process.pid parent_now w.procs) true (eqb_same w.next_pid w.next_pid refl)

  pub find_forked_own : a.process.pid ≢ w.next_pid → find pid_of a.process.pid w.procs ≡ Some a.process
      → find pid_of a.process.pid (with_child w a).procs ≡ Some (parent_now a.process)
  find_forked_own new lives =
      find_head pid_of a.process.pid (child_of w a) (change pid_of a.process.pid parent_now w.procs) false (eqb_other w.next_pid a.process.pid (λ e. new (sym e)))
      ∙ find_changed pid_of a.process.pid parent_now (λ q. refl) w.procs ∙ ap (option_map parent_now) lives

  pub chains_forked : AreChains w.procs → Falls pid_of w.next_pid w.procs → find pid_of a.process.pid w.procs ≡ Some a.process → a.process.state ≡ Ready → AreChains (with_child w a).procs
  chains_forked chains falls lives ready i =
      let head = head_ready w.procs a.process.pid a.process chains lives ready in
      elim (cases_Bool (a.process.space == i)) [
        | inl here ↦
            subst (λ n. IsChain (sharing n (with_child w a).procs)) (eqb_is a.process.space i here)
            (subst IsChain (sym (sharing_forked head.0 lives head.1)) (refl, (refl, head.2)))
        | inr other ↦
            let away : i ≢ a.process.space = λ e. eqb_isnt a.process.space i other (sym e) in
            subst IsChain (sym (sharing_beside_forked i away lives)) (chains i)
      ]

  pub falls_forked : Falls pid_of w.next_pid w.procs → Falls pid_of (w.next_pid + 1) (with_child w a).procs
  falls_forked falls = (omega arith, falls_change pid_of a.process.pid parent_now (λ q. refl) w.next_pid w.procs falls)

-- ---- who stands still for a process goes on

record LetsGo (pid : ℕ) (g : Process → Process) : Type 0 where
  pids : (q : Process) → (g q).pid ≡ q.pid
  spaces : (q : Process) → (g q).space ≡ q.space
  others : (q : Process) → is_lent q.state ≡ false → is_lent (g q).state ≡ false
  lenders : (q : Process) → q.state ≡ Lent pid → is_lent (g q).state ≡ false
  still : (q : Process) (c : ℕ) → c ≢ pid → q.state ≡ Lent c → (g q).state ≡ Lent c

resumed_other : (pid : ℕ) (s : State) → is_lent s ≡ false → is_lent (resumed pid s) ≡ false
unfolding resumed
resumed_other pid Ready h = refl
resumed_other pid (Waiting who) h = refl
resumed_other pid (OnPipe pipe) h = refl
resumed_other pid (Lent c) h = absurd cc

resumed_lender : (pid : ℕ) → resumed pid (Lent pid) ≡ Ready
unfolding resumed
resumed_lender pid = ap (λ (t : Bool). cond t Ready (Lent pid)) (eqb_same pid pid refl)

resumed_still : (pid c : ℕ) → c ≢ pid → resumed pid (Lent c) ≡ Lent c
unfolding resumed
resumed_still pid c other = ap (λ (t : Bool). cond t Ready (Lent c)) (eqb_other c pid other)

woken_other : (own pid parent : ℕ) (s : State) → is_lent s ≡ false → is_lent (woken own pid parent s) ≡ false
woken_other own pid parent Ready h = refl
woken_other own pid parent (Waiting who) h = either (is_child own who pid parent)
  where
    either : (b : Bool) → is_lent (cond b Ready (Waiting who)) ≡ false
    either true = refl
    either false = refl
woken_other own pid parent (OnPipe pipe) h = refl
woken_other own pid parent (Lent c) h = absurd cc

lets_go : (pid : ℕ) → LetsGo pid (let_go pid)
lets_go pid = record {
  pids = λ q. refl;
  spaces = λ q. refl;
  others = λ q h. resumed_other pid q.state h;
  lenders = λ q is. ap (λ (s : State). is_lent (resumed pid s)) is ∙ ap is_lent (resumed_lender pid);
  still = λ q c other is. ap (resumed pid) is ∙ resumed_still pid c other;
}

leaves : (gone : Process) → LetsGo gone.pid (left_by gone)
unfolding state_behind
leaves gone = record {
  pids = λ q. refl;
  spaces = λ q. refl;
  others = λ q h. resumed_other gone.pid (woken q.pid gone.pid gone.parent q.state) (woken_other q.pid gone.pid gone.parent q.state h);
  lenders = λ q is. ap (λ (s : State). is_lent (resumed gone.pid (woken q.pid gone.pid gone.parent s))) is ∙ ap is_lent (resumed_lender gone.pid);
  still = λ q c other is. ap (λ (s : State). resumed gone.pid (woken q.pid gone.pid gone.parent s)) is ∙ resumed_still gone.pid c other;
}

not_here : (pid : ℕ) (x : Process) (xs : List Process) → find pid_of pid (x ∷ xs) ≡ None → (x.pid ≢ pid) × (find pid_of pid xs ≡ None)
not_here pid x xs none = elim (cases_Bool (x.pid == pid)) [
  | inl is ↦ let e = sym (find_head pid_of pid x xs true is) ∙ none in absurd cc
  | inr is ↦ (eqb_isnt x.pid pid is, sym (find_head pid_of pid x xs false is) ∙ none)
]

module _ (pid : ℕ) (g : Process → Process) (lets : LetsGo pid g) where
  lenders_still : (c d : ℕ) (xs : List Process) → c ≢ pid → d ≡ c → AreLenders c xs → find pid_of pid xs ≡ None → AreLenders d (map g xs)
  lenders_still c d [] other same h none = tt
  lenders_still c d (x ∷ xs) other same h none =
      let stands = not_here pid x xs none in
      (lets.still x c other h.0 ∙ ap Lent (sym same), lenders_still x.pid (g x).pid xs stands.0 (lets.pids x) h.1 stands.1)

  -- a chain without the process stays as it is
  chain_still : (xs : List Process) → IsChain xs → find pid_of pid xs ≡ None → IsChain (map g xs)
  chain_still [] h none = tt
  chain_still (x ∷ xs) h none =
      let stands = not_here pid x xs none in
      (lets.others x h.0, lenders_still x.pid (g x).pid xs stands.0 (lets.pids x) h.1 stands.1)

  -- the newest of those that stood still for it may go on
  chain_released : (xs : List Process) → AreLenders pid xs → find pid_of pid xs ≡ None → IsChain (map g xs)
  chain_released [] h none = tt
  chain_released (x ∷ xs) h none =
      let stands = not_here pid x xs none in
      (lets.lenders x h.0, lenders_still x.pid (g x).pid xs stands.0 (lets.pids x) h.1 stands.1)

-- ---- a process ends

module _ (procs : List Process) (p : Process) where
  pub find_left : (other : ℕ) → other ≢ p.pid → find pid_of other (all_left_by p procs) ≡ option_map (left_by p) (find pid_of other procs)
  unfolding all_left_by
  find_left other ne =
      find_map pid_of pid_of other (left_by p) (λ q. refl) (without pid_of p.pid procs)
      ∙ ap (option_map (left_by p)) (find_beside_without pid_of p.pid other ne procs)

  pub find_left_own : find pid_of p.pid (all_left_by p procs) ≡ None
  unfolding all_left_by
  find_left_own = find_map pid_of pid_of p.pid (left_by p) (λ q. refl) (without pid_of p.pid procs) ∙ ap (option_map (left_by p)) (find_gone pid_of p.pid procs)

  pub falls_left : (b : ℕ) → Falls pid_of b procs → Falls pid_of b (all_left_by p procs)
  unfolding all_left_by
  falls_left b falls = falls_map (left_by p) (λ q. refl) b (without pid_of p.pid procs) (falls_without pid_of p.pid b procs falls)

  sharing_left : (i : ℕ) → sharing i (all_left_by p procs) ≡ map (left_by p) (sharing i (without pid_of p.pid procs))
  unfolding all_left_by
  sharing_left i = sharing_map i (left_by p) (λ q. refl) (without pid_of p.pid procs)

  pub sharing_beside_left : (i b : ℕ) → i ≢ p.space → Falls pid_of b procs → find pid_of p.pid procs ≡ Some p
      → sharing i (all_left_by p procs) ≡ map (left_by p) (sharing i procs)
  sharing_beside_left i b other falls lives = sharing_left i ∙ ap (map (left_by p)) (sharing_beside_without p.pid p i (λ e. other (sym e)) b procs falls lives)

  pub sharing_own_left : (b : ℕ) (qs : List Process) → Falls pid_of b procs → find pid_of p.pid procs ≡ Some p → sharing p.space procs ≡ p ∷ qs
      → sharing p.space (all_left_by p procs) ≡ map (left_by p) qs
  sharing_own_left b qs falls lives first = sharing_left p.space ∙ ap (map (left_by p)) (sharing_own_without p.pid p refl b procs qs falls lives first)

  pub runners_beside_left : (i b : ℕ) → i ≢ p.space → Falls pid_of b procs → find pid_of p.pid procs ≡ Some p
      → map runner (sharing i (all_left_by p procs)) ≡ map runner (sharing i procs)
  runners_beside_left i b other falls lives = ap (map runner) (sharing_beside_left i b other falls lives) ∙ runners_map (left_by p) (λ q. refl) (sharing i procs)

  pub runners_own_left : (b : ℕ) (qs : List Process) → Falls pid_of b procs → find pid_of p.pid procs ≡ Some p → sharing p.space procs ≡ p ∷ qs
      → map runner (sharing p.space (all_left_by p procs)) ≡ map runner qs
  runners_own_left b qs falls lives first = ap (map runner) (sharing_own_left b qs falls lives first) ∙ runners_map (left_by p) (λ q. refl) qs

  -- whom it was the newest of, and all others, are without it
  others_own : (b : ℕ) (qs : List Process) → Falls pid_of b procs → find pid_of p.pid procs ≡ Some p → sharing p.space procs ≡ p ∷ qs → find pid_of p.pid qs ≡ None
  others_own b qs falls lives first =
      ap (find pid_of p.pid) (sym (sharing_own_without p.pid p refl b procs qs falls lives first))
      ∙ not_shared p.space p.pid (without pid_of p.pid procs) (find_gone pid_of p.pid procs)

  others_beside : (i b : ℕ) → p.space ≢ i → Falls pid_of b procs → find pid_of p.pid procs ≡ Some p → find pid_of p.pid (sharing i procs) ≡ None
  others_beside i b other falls lives =
      ap (find pid_of p.pid) (sym (sharing_beside_without p.pid p i other b procs falls lives))
      ∙ not_shared i p.pid (without pid_of p.pid procs) (find_gone pid_of p.pid procs)

  pub chains_left : (b : ℕ) → AreChains procs → Falls pid_of b procs → find pid_of p.pid procs ≡ Some p → p.state ≡ Ready → AreChains (all_left_by p procs)
  chains_left b chains falls lives ready i =
      let head = head_ready procs p.pid p chains lives ready in
      elim (cases_Bool (p.space == i)) [
        | inl here ↦
            subst (λ n. IsChain (sharing n (all_left_by p procs))) (eqb_is p.space i here)
            (subst IsChain (sym (sharing_own_left b head.0 falls lives head.1))
            (chain_released p.pid (left_by p) (leaves p) head.0 head.2 (others_own b head.0 falls lives head.1)))
        | inr other ↦
            let away : p.space ≢ i = eqb_isnt p.space i other in
            subst IsChain (sym (sharing_beside_left i b (λ e. away (sym e)) falls lives))
            (chain_still p.pid (left_by p) (leaves p) (sharing i procs) (chains i) (others_beside i b away falls lives))
      ]

-- ---- a process has a space of its own from now on

pub find_let_go : (pid other : ℕ) (procs : List Process) → find pid_of other (map (let_go pid) procs) ≡ option_map (let_go pid) (find pid_of other procs)
find_let_go pid other procs = find_map pid_of pid_of other (let_go pid) (λ q. refl) procs

module _ (w : World) (p : Process) (l : Loading) where
  abbrev pub begun : Process → Process
  begun q = record q { regs = begin_regs l; space = w.loads }

  abbrev freed : List Process
  freed = map (let_go p.pid) w.procs

  pub find_exec : (other : ℕ) → other ≢ p.pid → find pid_of other (with_exec w p l).procs ≡ option_map (let_go p.pid) (find pid_of other w.procs)
  find_exec other ne = find_beside_change pid_of p.pid other ne begun (λ q. refl) freed ∙ find_let_go p.pid other w.procs

  freed_lives : find pid_of p.pid w.procs ≡ Some p → find pid_of p.pid freed ≡ Some (let_go p.pid p)
  freed_lives lives = find_let_go p.pid p.pid w.procs ∙ ap (option_map (let_go p.pid)) lives

  pub find_exec_own : find pid_of p.pid w.procs ≡ Some p → find pid_of p.pid (with_exec w p l).procs ≡ Some (begun (let_go p.pid p))
  find_exec_own lives = find_changed pid_of p.pid begun (λ q. refl) freed ∙ ap (option_map begun) (freed_lives lives)

  pub falls_exec : (b : ℕ) → Falls pid_of b w.procs → Falls pid_of b (with_exec w p l).procs
  falls_exec b falls = falls_change pid_of p.pid begun (λ q. refl) b freed (falls_map (let_go p.pid) (λ q. refl) b w.procs falls)

  shared_freed : (i : ℕ) → sharing i freed ≡ map (let_go p.pid) (sharing i w.procs)
  shared_freed i = sharing_map i (let_go p.pid) (λ q. refl) w.procs

  moves : find pid_of p.pid w.procs ≡ Some p → sharing w.loads w.procs ≡ [] → p.space ≢ w.loads
  unfolding find
  moves lives empty e =
      let there : find pid_of p.pid [] ≡ Some p =
      ap (find pid_of p.pid) (sym (ap (λ n. sharing n w.procs) e ∙ empty)) ∙ find_sharing p.pid p w.procs lives in
      cc

  pub sharing_beside_exec : (i : ℕ) → i ≢ p.space → i ≢ w.loads → find pid_of p.pid w.procs ≡ Some p → sharing i (with_exec w p l).procs ≡ map (let_go p.pid) (sharing i w.procs)
  sharing_beside_exec i other away lives =
      sharing_beside_change p.pid (let_go p.pid p) i begun (λ e. other (sym e)) (λ e. away (sym e)) freed (freed_lives lives) ∙ shared_freed i

  pub sharing_own_exec : (qs : List Process) → find pid_of p.pid w.procs ≡ Some p → sharing w.loads w.procs ≡ [] → sharing p.space w.procs ≡ p ∷ qs
      → sharing p.space (with_exec w p l).procs ≡ map (let_go p.pid) qs
  sharing_own_exec qs lives empty first =
      let gone : (w.loads == p.space) ≡ false = eqb_other w.loads p.space (λ e. moves lives empty (sym e)) in
      sharing_own_change p.pid (let_go p.pid p) refl begun false gone freed (map (let_go p.pid) qs) (freed_lives lives) (shared_freed p.space ∙ ap (map (let_go p.pid)) first)

  pub sharing_new_exec : find pid_of p.pid w.procs ≡ Some p → sharing w.loads w.procs ≡ [] → sharing w.loads (with_exec w p l).procs ≡ begun (let_go p.pid p) ∷ []
  sharing_new_exec lives empty =
      sharing_into p.pid (let_go p.pid p) w.loads begun (moves lives empty) refl freed (freed_lives lives) (shared_freed w.loads ∙ ap (map (let_go p.pid)) empty)

  pub runners_beside_exec : (i : ℕ) → i ≢ p.space → i ≢ w.loads → find pid_of p.pid w.procs ≡ Some p
      → map runner (sharing i (with_exec w p l).procs) ≡ map runner (sharing i w.procs)
  runners_beside_exec i other away lives =
      ap (map runner) (sharing_beside_exec i other away lives) ∙ runners_map (let_go p.pid) (λ q. refl) (sharing i w.procs)

  pub runners_own_exec : (qs : List Process) → find pid_of p.pid w.procs ≡ Some p → sharing w.loads w.procs ≡ [] → sharing p.space w.procs ≡ p ∷ qs
      → map runner (sharing p.space (with_exec w p l).procs) ≡ map runner qs
  runners_own_exec qs lives empty first = ap (map runner) (sharing_own_exec qs lives empty first) ∙ runners_map (let_go p.pid) (λ q. refl) qs

  pub runners_new_exec : find pid_of p.pid w.procs ≡ Some p → sharing w.loads w.procs ≡ []
      → map runner (sharing w.loads (with_exec w p l).procs) ≡ record { pid = p.pid; regs = begin_regs l } ∷ []
  runners_new_exec lives empty = ap (map runner) (sharing_new_exec lives empty)

  pub chains_exec : AreChains w.procs → Falls pid_of w.next_pid w.procs → find pid_of p.pid w.procs ≡ Some p → p.state ≡ Ready → sharing w.loads w.procs ≡ []
      → AreChains (with_exec w p l).procs
  chains_exec chains falls lives ready empty i =
      let head = head_ready w.procs p.pid p chains lives ready in
      let b : ℕ = w.next_pid in
      elim (cases_Bool (p.space == i)) [
        | inl here ↦
            subst (λ n. IsChain (sharing n (with_exec w p l).procs)) (eqb_is p.space i here)
            (subst IsChain (sym (sharing_own_exec head.0 lives empty head.1))
            (chain_released p.pid (let_go p.pid) (lets_go p.pid) head.0 head.2 (others_own w.procs p b head.0 falls lives head.1)))
        | inr other ↦
            let away : p.space ≢ i = eqb_isnt p.space i other in
            elim (cases_Bool (w.loads == i)) [
              | inl new ↦
                  subst (λ n. IsChain (sharing n (with_exec w p l).procs)) (eqb_is w.loads i new)
                  (subst IsChain (sym (sharing_new_exec lives empty)) (resumed_other p.pid p.state (ap is_lent ready), tt))
              | inr old ↦
                  let new : w.loads ≢ i = eqb_isnt w.loads i old in
                  subst IsChain (sym (sharing_beside_exec i (λ e. away (sym e)) (λ e. new (sym e)) lives))
                  (chain_still p.pid (let_go p.pid) (lets_go p.pid) (sharing i w.procs) (chains i) (others_beside w.procs p i b away falls lives))
            ]
      ]

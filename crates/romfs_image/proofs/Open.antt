-- The folders in which the walk still is, and where it goes on in each.
use Rattle.std.proofs.Common.{◌≡◌, ℕ, ◌+◌, ◌<◌, ◌≤◌, Bool, true, false, ◌&&◌, ◌==◌, List, [], ◌∷◌, ◌++◌, length, refl, sym, ap, ◌∙◌, subst, arith, inl, inr}
use Rattle.std.specs.Prelude.{nat_lt, if◌then◌else◌}
use Rattle.std.proofs.lemmas.Bool.{cases_Bool, eqb-true, eq-eqb, ne_eqb, and_parts}
use Rattle.std.proofs.lemmas.List.{length_push}
use Rattle.romfs_image.specs.declared.level.Level.{Level}
use Rattle.romfs_image.specs.declared.node.RomKind.{RomKind}
use Rattle.romfs_image.specs.declared.node.RomKind.TheVariants.{Dir, File}
use Rattle.romfs_image.specs.Walk.{pending}
use Rattle.romfs_image.specs.Nodes.{RomValue}
use Rattle.romfs_image.specs.Text.{node_len, first_in}
use Rattle.romfs_image.specs.Given.{is_name, is_plain, is_new, from_folder, folders_behind, are_in_order}

-- where the walk goes on in each of these folders, before nodes of which the first stands at a position
abbrev pub levels_in : List ℕ → ℕ → List RomValue → List Level
levels_in [] at ns = []
levels_in (o ∷ outer) at ns = pending (first_in o at ns) o (levels_in outer at ns)

-- the folders around this one
abbrev pub outside : ℕ → List ℕ → List ℕ
outside folder [] = []
outside folder (o ∷ outer) = if o == folder then outer else outside folder outer

-- numbers that fall from below a bound
abbrev pub Falls : ℕ → List ℕ → Type 0
Falls bound [] = Unit {0}
Falls bound (o ∷ outer) = (o < bound) × Falls o outer

-- the condition on the first node and on those behind it
pub record InOrder (within : List ℕ) (earlier : List RomValue) (n : RomValue) (ns : List RomValue) : Type 0 where
  pub there : nat_lt 0 (length (from_folder n.parent within)) ≡ true
  pub named : is_name n.name ≡ true
  pub plain : is_plain n.kind n ≡ true
  pub new : is_new earlier n ≡ true
  pub rest : are_in_order (folders_behind n.kind (length earlier + 1) (from_folder n.parent within)) (earlier ++ n ∷ []) ns ≡ true

pub in_order : (within : List ℕ) (earlier : List RomValue) (n : RomValue) (ns : List RomValue) → are_in_order within earlier (n ∷ ns) ≡ true → InOrder within earlier n ns
in_order within earlier n ns order =
    let there = nat_lt 0 (length (from_folder n.parent within)) in
    let rest = are_in_order (folders_behind n.kind (length earlier + 1) (from_folder n.parent within)) (earlier ++ n ∷ []) ns in
    let first = and_parts (there && is_name n.name && is_plain n.kind n && is_new earlier n) rest order in
    let second = and_parts (there && is_name n.name && is_plain n.kind n) (is_new earlier n) first.0 in
    let third = and_parts (there && is_name n.name) (is_plain n.kind n) second.0 in
    let fourth = and_parts there (is_name n.name) third.0 in
    record { there = fourth.0; named = fourth.1; plain = third.1; new = second.1; rest = first.1 }

-- ---- falling numbers

pub falls_below : (a b : ℕ) (l : List ℕ) → Falls a l → a ≤ b → Falls b l
falls_below a b [] falls le = tt
falls_below a b (o ∷ outer) falls le = (omega (arith, falls.0), falls.1)

-- a number at or above the bound isn't among them
absent : (b x : ℕ) (l : List ℕ) → Falls b l → b ≤ x → from_folder x l ≡ []
absent b x [] falls le = refl
absent b x (o ∷ outer) falls le =
    rw (ne_eqb o x (λ e. absurd (omega (arith, e, falls.0)))) (absent o x outer falls.1 (omega (arith, falls.0)))

pub falls_from : (b folder : ℕ) (l : List ℕ) → Falls b l → Falls b (from_folder folder l)
falls_from b folder [] falls = tt
falls_from b folder (o ∷ outer) falls = elim (cases_Bool (o == folder)) [
  | inl here ↦ rw here falls
  | inr later ↦ rw later (falls_below o b (from_folder folder outer) (falls_from o folder outer falls.1) (omega (arith, falls.0)))
]

-- with a folder that is entered
pub falls_behind : (kind : RomKind) (number : ℕ) (l : List ℕ) → Falls number l → Falls (number + 1) (folders_behind kind number l)
falls_behind Dir number l falls = (omega arith, falls)
falls_behind File number l falls = falls_below number (number + 1) l falls (omega arith)

-- ---- the folder of a node

pub opened : (folder : ℕ) (l : List ℕ) → nat_lt 0 (length (from_folder folder l)) ≡ true → from_folder folder l ≡ folder ∷ outside folder l
opened folder [] there = absurd cc
opened folder (o ∷ outer) there = by (opened folder outer) (o == folder) refl
  where
    by : (nat_lt 0 (length (from_folder folder outer)) ≡ true → from_folder folder outer ≡ folder ∷ outside folder outer) → (b : Bool) → (o == folder) ≡ b
        → from_folder folder (o ∷ outer) ≡ folder ∷ outside folder (o ∷ outer)
    by later true is = rw is (ap (λ k. k ∷ outer) (eqb-true o folder is))
    by later false is = rw is (later (sym (ap (λ b. nat_lt 0 (length (if b then o ∷ outer else from_folder folder outer))) is) ∙ there))

absent_from : (x folder : ℕ) (l : List ℕ) → from_folder x l ≡ [] → from_folder x (from_folder folder l) ≡ []
absent_from x folder [] none = refl
absent_from x folder (o ∷ outer) none = by (absent_from x folder outer) (o == x) refl (o == folder) refl
  where
    by : (from_folder x outer ≡ [] → from_folder x (from_folder folder outer) ≡ []) → (a : Bool) → (o == x) ≡ a → (b : Bool) → (o == folder) ≡ b → from_folder x (from_folder folder (o ∷ outer)) ≡ []
    by later true is b at = absurd (let whole : o ∷ outer ≡ [] = sym (ap (λ a. if a then o ∷ outer else from_folder x outer) is) ∙ none in cc)
    by later false is true at = rw at none
    by later false is false at = rw at (later (sym (ap (λ a. if a then o ∷ outer else from_folder x outer) is) ∙ none))

absent_behind : (x : ℕ) (kind : RomKind) (number : ℕ) (l : List ℕ) → x < number → from_folder x l ≡ [] → from_folder x (folders_behind kind number l) ≡ []
absent_behind x Dir number l lt none = rw (ne_eqb number x (λ e. absurd (omega (arith, e)))) none
absent_behind x File number l lt none = none

-- a folder that was left has no node more
left : (x : ℕ) (within : List ℕ) (earlier ns : List RomValue) (at : ℕ) → are_in_order within earlier ns ≡ true → from_folder x within ≡ [] → x ≤ length earlier → first_in x at ns ≡ 0
left x within earlier [] at order none old = refl
left x within earlier (n ∷ ns) at order none old = by (λ v e a. left x v e ns a) (n.parent == x) refl
  where
    by : ((v : List ℕ) (e : List RomValue) (a : ℕ) → are_in_order v e ns ≡ true → from_folder x v ≡ [] → x ≤ length e → first_in x a ns ≡ 0) → (b : Bool) → (n.parent == x) ≡ b → first_in x at (n ∷ ns) ≡ 0
    by later true is =
        let o = in_order within earlier n ns order in
        let nothing : from_folder n.parent within ≡ [] = ap (λ k. from_folder k within) (eqb-true n.parent x is) ∙ none in
        let no : nat_lt 0 (length (from_folder n.parent within)) ≡ false = ap (λ (l : List ℕ). nat_lt 0 (length l)) nothing in
        absurd (let there = o.there in cc)
    by later false is =
        let o = in_order within earlier n ns order in
        rw is (later (folders_behind n.kind (length earlier + 1) (from_folder n.parent within)) (earlier ++ n ∷ []) (at + node_len n) o.rest
        (absent_behind x n.kind (length earlier + 1) (from_folder n.parent within) (omega (arith, old)) (absent_from x n.parent within none)) (omega (arith, old, length_push earlier n)))

-- ---- the stack at a node

-- folders that were left are gone from the stack by themselves
gone : (within : List ℕ) (b : ℕ) (earlier : List RomValue) (n : RomValue) (ns : List RomValue) (at : ℕ) → Falls b within → b ≤ length earlier + 1
    → are_in_order (folders_behind n.kind (length earlier + 1) (from_folder n.parent within)) (earlier ++ n ∷ []) ns ≡ true → levels_in within at (n ∷ ns) ≡ levels_in (from_folder n.parent within) at (n ∷ ns)
gone [] b earlier n ns at falls le rest = refl
gone (o ∷ outer) b earlier n ns at falls le rest = by (gone outer o earlier n ns at falls.1) (o == n.parent) refl
  where
    by : (o ≤ length earlier + 1 → are_in_order (folders_behind n.kind (length earlier + 1) (from_folder n.parent outer)) (earlier ++ n ∷ []) ns ≡ true
        → levels_in outer at (n ∷ ns) ≡ levels_in (from_folder n.parent outer) at (n ∷ ns)) → (t : Bool) → (o == n.parent) ≡ t → levels_in (o ∷ outer) at (n ∷ ns) ≡ levels_in (from_folder n.parent (o ∷ outer)) at (n ∷ ns)
    by later true is = rw is refl
    by later false is =
        let shorter : from_folder n.parent (o ∷ outer) ≡ from_folder n.parent outer = ap (λ t. if t then o ∷ outer else from_folder n.parent outer) is in
        let behind = subst (λ (l : List ℕ). are_in_order (folders_behind n.kind (length earlier + 1) l) (earlier ++ n ∷ []) ns ≡ true) shorter rest in
        let other : (n.parent == o) ≡ false = ne_eqb n.parent o (λ e. absurd (let same = eq-eqb o n.parent (sym e) in cc)) in
        let none : first_in o (at + node_len n) ns ≡ 0 =
        left o (folders_behind n.kind (length earlier + 1) (from_folder n.parent outer)) (earlier ++ n ∷ []) ns (at + node_len n) behind
        (absent_behind o n.kind (length earlier + 1) (from_folder n.parent outer) (omega (arith, falls.0, le)) (absent_from o n.parent outer (absent o o outer falls.1 (omega arith))))
        (omega (arith, falls.0, le, length_push earlier n)) in
        let first : first_in o at (n ∷ ns) ≡ 0 = ap (λ t. if t then at else first_in o (at + node_len n) ns) other ∙ none in
        ap (λ k. pending k o (levels_in outer at (n ∷ ns))) first
        ∙ later (omega (arith, falls.0, le)) behind
        ∙ ap (λ (l : List ℕ). levels_in l at (n ∷ ns)) (sym shorter)

-- folders around the node's go on where they did
same_outside : (outer : List ℕ) (b : ℕ) (n : RomValue) (ns : List RomValue) (at : ℕ) → Falls b outer → b ≤ n.parent → levels_in outer at (n ∷ ns) ≡ levels_in outer (at + node_len n) ns
same_outside [] b n ns at falls le = refl
same_outside (o ∷ outer) b n ns at falls le =
    let other : (n.parent == o) ≡ false = ne_eqb n.parent o (λ e. absurd (omega (arith, e, falls.0, le))) in
    let first : first_in o at (n ∷ ns) ≡ first_in o (at + node_len n) ns = ap (λ t. if t then at else first_in o (at + node_len n) ns) other in
    (λ i. pending (first i) o (same_outside outer o n ns at falls.1 (omega (arith, falls.0, le)) i))

-- the next level is the node's
pub stack_at : (within : List ℕ) (earlier : List RomValue) (n : RomValue) (ns : List RomValue) (at : ℕ) → Falls (length earlier + 1) within → 0 < at → InOrder within earlier n ns
    → levels_in within at (n ∷ ns) ≡ record { at = at; folder = n.parent } ∷ levels_in (outside n.parent within) (at + node_len n) ns
stack_at within earlier n ns at falls some order =
    let p = n.parent in
    let open_ = opened p within order.there in
    let around = subst (Falls (length earlier + 1)) open_ (falls_from (length earlier + 1) p within falls) in
    let here : first_in p at (n ∷ ns) ≡ at = ap (λ t. if t then at else first_in p (at + node_len n) ns) (eq-eqb p p refl) in
    gone within (length earlier + 1) earlier n ns at falls (omega arith) order.rest
    ∙ ap (λ (l : List ℕ). levels_in l at (n ∷ ns)) open_
    ∙ ap (λ k. pending k p (levels_in (outside p within) at (n ∷ ns))) here
    ∙ ap (λ t. if t then levels_in (outside p within) at (n ∷ ns) else record { at = at; folder = p } ∷ levels_in (outside p within) at (n ∷ ns)) (ne_eqb at 0 (λ e. absurd (omega (arith, e, some))))
    ∙ ap (λ (ls : List Level). record { at = at; folder = p } ∷ ls) (same_outside (outside p within) p n ns at around.1 (omega arith))

-- and behind the node its folder goes on
pub stack_behind : (within : List ℕ) (folder at : ℕ) (ns : List RomValue) → nat_lt 0 (length (from_folder folder within)) ≡ true
    → levels_in (from_folder folder within) at ns ≡ pending (first_in folder at ns) folder (levels_in (outside folder within) at ns)
stack_behind within folder at ns there = ap (λ (l : List ℕ). levels_in l at ns) (opened folder within there)

-- at the end there is none
pub stack_none : (within : List ℕ) (at : ℕ) → levels_in within at [] ≡ []
stack_none [] at = refl
stack_none (o ∷ outer) at = stack_none outer at

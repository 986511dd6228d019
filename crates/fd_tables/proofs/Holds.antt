-- What a node counts, after one open file more or fewer holds it.
use Rattle.std.proofs.Common.{◌≡◌, ◌≢◌, ℕ, ◌+◌, ◌-◌, ◌<◌, ◌≤◌, ◌^◌, Bool, true, false, cond, Option, Some, None, refl, sym, ap, ◌∙◌, subst, ◌⊎◌, inl, inr, eq-eqb, arith}
use Rattle.std.specs.Prelude.{◌==◌, ◌||◌, nat_lt, is_some, slice_get}
use Rattle.std.proofs.lemmas.Bool.{cases_eq, ne_eqb, ltb-false}
use Rattle.mem_files.specs.Inodes.{Inode, Inodes, inode_at, raised}
use Rattle.mem_files.specs.Changes.{with_change, kept, held, let_go}
use Rattle.fd_tables.specs.Files.{at_number}
use Rattle.fd_tables.specs.Changes.{with_item}
use Rattle.fd_tables.specs.Counts.{holds_in}
use Rattle.fd_tables.proofs.AtNumbers.{made, item_at, item_other}
use Rattle.fd_tables.proofs.Sharing.{one}

abbrev pub holds_at : Inodes → ℕ → ℕ
holds_at ns id = holds_in (inode_at ns id)

-- ---- nodes stand at their numbers, and change there, as open files do

by_place : (ns : Inodes) (id : ℕ) (o : Option (Option Inode)) → slice_get ns id ≡ o → inode_at ns id ≡ at_number ns id
by_place ns id (Some n) e = rw e refl
by_place ns id None e = rw e refl

pub inode_number : (ns : Inodes) (id : ℕ) → inode_at ns id ≡ at_number ns id
inode_number ns id = by_place ns id _ refl

change_by_place : (f : Inode → Option Inode) (ns : Inodes) (id : ℕ) (o : Option (Option Inode)) → slice_get ns id ≡ o → with_change f ns id ≡ with_item f ns id
change_by_place f ns id (Some (Some n)) e = rw e refl
change_by_place f ns id (Some None) e = rw e refl
change_by_place f ns id None e = rw e refl

pub change_item : (f : Inode → Option Inode) (ns : Inodes) (id : ℕ) → with_change f ns id ≡ with_item f ns id
change_item f ns id = change_by_place f ns id _ refl

pub change_at : (f : Inode → Option Inode) (ns : Inodes) (id : ℕ) → inode_at (with_change f ns id) id ≡ made f (inode_at ns id)
change_at f ns id =
    inode_number (with_change f ns id) id ∙ ap (λ (ms : Inodes). at_number ms id) (change_item f ns id) ∙ item_at f ns id ∙ ap (made f) (sym (inode_number ns id))

pub change_other : (f : Inode → Option Inode) (ns : Inodes) (id k : ℕ) → k ≢ id → inode_at (with_change f ns id) k ≡ inode_at ns k
change_other f ns id k other =
    inode_number (with_change f ns id) k ∙ ap (λ (ms : Inodes). at_number ms k) (change_item f ns id) ∙ item_other f ns id k other ∙ sym (inode_number ns k)

itself : (n : ℕ) → one (n == n) ≡ 1
itself n = ap (λ b. cond b 1 0) (eq-eqb n n refl)

another : (k n : ℕ) → n ≢ k → one (k == n) ≡ 0
another k n other = ap (λ b. cond b 1 0) (ne_eqb k n (λ e. other (sym e)))

-- ---- one more

one_more : (o : Option Inode) → is_some o ≡ true → holds_in o < 2 ^ 40 → holds_in (made (λ n. Some (record n { holds = raised n.holds })) o) ≡ holds_in o + 1
one_more None there few = let no : ⊥ = cc in absurd no
one_more (Some n) there few = omega arith

pub holds-held : (ns : Inodes) (id k : ℕ) → is_some (inode_at ns id) ≡ true → holds_at ns id < 2 ^ 40 → holds_at (held ns id) k ≡ holds_at ns k + one (id == k)
unfolding held
holds-held ns id k there few = by (cases_eq k id)
  where
    by : (k ≡ id) ⊎ (k ≡ id → ⊥) → holds_at (with_change (λ n. Some (record n { holds = raised n.holds })) ns id) k ≡ holds_at ns k + one (id == k)
    by (inl e) =
        subst (λ (j : ℕ). holds_at (with_change (λ n. Some (record n { holds = raised n.holds })) ns id) j ≡ holds_at ns j + one (id == j)) (sym e)
        (ap holds_in (change_at (λ n. Some (record n { holds = raised n.holds })) ns id) ∙ one_more (inode_at ns id) there few ∙ ap (λ m. holds_at ns id + m) (sym (itself id)))
    by (inr other) = omega (arith, ap holds_in (change_other (λ n. Some (record n { holds = raised n.holds })) ns id k other), another id k other)

-- ---- one fewer, with which the node may go

by_kept : (n : Inode) (b : Bool) → (n.linked || nat_lt 0 n.holds) ≡ b → holds_in (kept n) ≡ n.holds
by_kept n true e = rw e refl
by_kept n false e =
    let few : n.holds ≤ 0 = by (nat_lt 0 n.holds) refl in
    rw e (omega (arith, few))
  where
    by : (b : Bool) → nat_lt 0 n.holds ≡ b → n.holds ≤ 0
    by false f = ltb-false 0 n.holds f
    by true f = let no : ⊥ = grind (arith, e, f) in absurd no

pub holds-kept : (n : Inode) → holds_in (kept n) ≡ n.holds
holds-kept n = by_kept n _ refl

one_fewer : (o : Option Inode) → 1 ≤ holds_in o → holds_in (made (λ n. kept (record n { holds = n.holds - 1 })) o) + 1 ≡ holds_in o
one_fewer None there = absurd (omega arith)
one_fewer (Some n) there = omega (arith, holds-kept (record n { holds = n.holds - 1 }))

pub holds-let_go : (ns : Inodes) (id k : ℕ) → one (id == k) ≤ holds_at ns k → holds_at (let_go ns id) k + one (id == k) ≡ holds_at ns k
unfolding let_go
holds-let_go ns id k there = by (cases_eq k id)
  where
    by : (k ≡ id) ⊎ (k ≡ id → ⊥) → holds_at (with_change (λ n. kept (record n { holds = n.holds - 1 })) ns id) k + one (id == k) ≡ holds_at ns k
    by (inl e) =
        subst (λ (j : ℕ). holds_at (with_change (λ n. kept (record n { holds = n.holds - 1 })) ns id) j + one (id == j) ≡ holds_at ns j) (sym e)
        (let at : one (id == id) ≤ holds_at ns id = subst (λ (j : ℕ). one (id == j) ≤ holds_at ns j) e there in
        omega (arith, itself id, ap holds_in (change_at (λ n. kept (record n { holds = n.holds - 1 })) ns id), one_fewer (inode_at ns id) (omega (arith, itself id))))
    by (inr other) = omega (arith, ap holds_in (change_other (λ n. kept (record n { holds = n.holds - 1 })) ns id k other), another id k other)

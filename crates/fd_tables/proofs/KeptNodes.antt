-- Which nodes are kept, after one open file more or fewer holds one: those that a folder names or an open file holds.
use Rattle.std.proofs.Common.{◌≡◌, ℕ, ◌-◌, ◌≤◌, Bool, true, false, Option, Some, None, IfSome, refl, sym, ap, ◌∙◌, subst, ◌⊎◌, inl, inr, arith}
use Rattle.std.specs.Prelude.{◌||◌, nat_lt}
use Rattle.std.proofs.lemmas.Bool.{cases_eq, lt-ltb, ltb-true}
use Rattle.mem_files.specs.Inodes.{Inode, Inodes, inode_at, raised}
use Rattle.mem_files.specs.Changes.{with_change, kept, held, let_go}
use Rattle.fd_tables.proofs.AtNumbers.{made}
use Rattle.fd_tables.proofs.Holds.{change_at, change_other}

abbrev pub IsKept : Option Inode → Type 0
IsKept o = IfSome o (λ n. kept n ≡ Some n)

kept_since : (n : Inode) (b : Bool) → (n.linked || nat_lt 0 n.holds) ≡ b → kept n ≡ Some n → b ≡ true
kept_since n true e is = refl
kept_since n false e is = let gone = rw e at is in let no : ⊥ = cc in absurd no

pub kept_by : (n : Inode) → (n.linked || nat_lt 0 n.holds) ≡ true → kept n ≡ Some n
kept_by n e = rw e refl

-- with the same name and the same count it is kept, too
pub kept_alike : (n m : Inode) → m.linked ≡ n.linked → m.holds ≡ n.holds → kept n ≡ Some n → kept m ≡ Some m
kept_alike n m linked holds is = kept_by m (ap (λ (b : Bool). b || nat_lt 0 m.holds) linked ∙ ap (λ (k : ℕ). n.linked || nat_lt 0 k) holds ∙ kept_since n _ refl is)

kept_kept_by : (n : Inode) (b : Bool) → (n.linked || nat_lt 0 n.holds) ≡ b → IsKept (kept n)
kept_kept_by n true e = let is : kept n ≡ Some n = kept_by n e in subst IsKept (sym is) is
kept_kept_by n false e = let is : kept n ≡ None = rw e refl in subst IsKept (sym is) tt

pub kept_kept : (n : Inode) → IsKept (kept n)
kept_kept n = kept_kept_by n _ refl

pub change_kept : (f : Inode → Option Inode) → ((n : Inode) → kept n ≡ Some n → IsKept (f n)) → (ns : Inodes) (id : ℕ) → ((k : ℕ) → IsKept (inode_at ns k)) → (k : ℕ) → IsKept (inode_at (with_change f ns id) k)
change_kept f keeps ns id each k = by (cases_eq k id)
  where
    here : (o : Option Inode) → IsKept o → IsKept (made f o)
    here None is = tt
    here (Some n) is = keeps n is

    by : (k ≡ id) ⊎ (k ≡ id → ⊥) → IsKept (inode_at (with_change f ns id) k)
    by (inl e) = subst (λ (j : ℕ). IsKept (inode_at (with_change f ns id) j)) (sym e) (subst IsKept (sym (change_at f ns id)) (here (inode_at ns id) (each id)))
    by (inr other) = subst IsKept (sym (change_other f ns id k other)) (each k)

or_second : (x y : Bool) → y ≡ true → (x || y) ≡ true
or_second true y is = refl
or_second false y is = is

pub kept-held : (ns : Inodes) (id : ℕ) → ((k : ℕ) → IsKept (inode_at ns k)) → (k : ℕ) → IsKept (inode_at (held ns id) k)
unfolding held
kept-held ns id each =
    change_kept (λ n. Some (record n { holds = raised n.holds })) (λ n is. kept_by (record n { holds = raised n.holds }) (or_second n.linked (nat_lt 0 (raised n.holds)) (lt-ltb 0 (raised n.holds) (omega arith)))) ns id each

pub kept-let_go : (ns : Inodes) (id : ℕ) → ((k : ℕ) → IsKept (inode_at ns k)) → (k : ℕ) → IsKept (inode_at (let_go ns id) k)
unfolding let_go
kept-let_go ns id each = change_kept (λ n. kept (record n { holds = n.holds - 1 })) (λ n is. kept_kept (record n { holds = n.holds - 1 })) ns id each

-- one that no folder names is held
pub held_unnamed : (n : Inode) → n.linked ≡ false → kept n ≡ Some n → 1 ≤ n.holds
held_unnamed n unnamed is = ltb-true 0 n.holds (sym (ap (λ (b : Bool). b || nat_lt 0 n.holds) unnamed) ∙ kept_since n _ refl is)

-- The set of the calls that fail, as the set of a tree's keys.
use Rattle.std.proofs.Common.{◌≡◌, ℕ, Bool, true, false, cond, ◌||◌, refl, sym, ◌∙◌, ap}
use Rattle.std.specs.Ordering.{nat_cmp, eq_by_cmp}
use Rattle.std.specs.Cmp.{nat_cmp_total, eq_by_cmp_equiv}
use Rattle.std.specs.BTreeSet as tree
use Rattle.std.specs.FinSet.{from_list, contains, insert, contains-from_list, contains-insert, same_set, nat_cmp-IsAntisymmetric}

pub contains-keys : (s : tree.BTreeSet ℕ) (call : ℕ) → contains (from_list {R = nat_cmp} s.keys) call ≡ tree.contains_by (nat_cmp call) s
contains-keys s call = contains-from_list nat_cmp_total s.keys call

cond_true-or : (a b : Bool) → cond a true b ≡ (a || b)
cond_true-or true b = refl
cond_true-or false b = refl

pub keys-insert : (s n : tree.BTreeSet ℕ) (call : ℕ) → tree.Updates nat_cmp s n call true → from_list {R = nat_cmp} n.keys ≡ insert (from_list s.keys) call
keys-insert s n call updates =
    same_set nat_cmp_total nat_cmp-IsAntisymmetric _ _ (λ q.
    contains-keys n q ∙ updates.0 q ∙ cond_true-or (eq_by_cmp nat_cmp call q) (tree.contains nat_cmp s q)
    ∙ ap (λ b. b || tree.contains nat_cmp s q) ((eq_by_cmp_equiv nat_cmp_total).symm call q)
    ∙ ap (λ b. eq_by_cmp nat_cmp q call || b) (sym (contains-keys s q))
    ∙ sym (contains-insert nat_cmp_total (from_list s.keys) call q))

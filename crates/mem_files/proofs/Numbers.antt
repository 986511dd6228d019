-- What stands at a number after a change, and how many entries lead to it.
use Rattle.std.proofs.Common.{◌≡◌, ◌≢◌, ℕ, zero, suc, ◌+◌, ◌<◌, ◌≤◌, Bool, true, false, [], ◌∷◌, ◌++◌, length, Option, Some, None, slice_get, refl, sym, ap, ◌∙◌, subst, ◌⊎◌, inl, inr, arith}
use Rattle.std.specs.Prelude.{nat_lt, sum_by}
use Rattle.std.proofs.lemmas.Bool.{cases_eq, ltb-true, ltb-false}
use Rattle.std.proofs.lemmas.List.Sums.{sum_by-cons}
use Rattle.mem_files.specs.Inodes.{Inode, Inodes, inode_at}
use Rattle.mem_files.specs.Changes.{with_change}

-- what f makes of a node, and nothing of nothing
abbrev pub made : (Inode → Option Inode) → Option Inode → Option Inode
made f (Some n) = f n
made f None = None

behind_head : (f : Inode → Option Inode) (m : Option Inode) (ns : Inodes) (id : ℕ) (o : Option (Option Inode)) → slice_get ns id ≡ o → with_change f (m ∷ ns) (suc id) ≡ m ∷ with_change f ns id
behind_head f m ns id (Some (Some n)) e = rw e refl
behind_head f m ns id (Some None) e = rw e refl
behind_head f m ns id None e = rw e refl

module _ (f : Inode → Option Inode) where
  pub change_at : (ns : Inodes) (id : ℕ) → inode_at (with_change f ns id) id ≡ made f (inode_at ns id)
  change_at [] id = refl
  change_at (Some n ∷ ns) zero = refl
  change_at (None ∷ ns) zero = refl
  change_at (m ∷ ns) (suc id) = ap (λ (ms : Inodes). inode_at ms (suc id)) (behind_head f m ns id _ refl) ∙ change_at ns id

  pub change_other : (ns : Inodes) (id k : ℕ) → k ≢ id → inode_at (with_change f ns id) k ≡ inode_at ns k
  change_other [] id k other = refl
  change_other (m ∷ ns) zero zero other = absurd (other refl)
  change_other (Some n ∷ ns) zero (suc k) other = refl
  change_other (None ∷ ns) zero (suc k) other = refl
  change_other (m ∷ ns) (suc id) zero other = ap (λ (ms : Inodes). inode_at ms zero) (behind_head f m ns id _ refl)
  change_other (m ∷ ns) (suc id) (suc k) other = ap (λ (ms : Inodes). inode_at ms (suc k)) (behind_head f m ns id _ refl) ∙ change_other ns id k (λ e. other (ap suc e))

  -- what holds between the new and the old node holds at each number
  pub change_each : (P : Option Inode → Option Inode → Type 0) (ns : Inodes) (id : ℕ) → P (made f (inode_at ns id)) (inode_at ns id) → ((o : Option Inode) → P o o) → (k : ℕ) → P (inode_at (with_change f ns id) k) (inode_at ns k)
  change_each P ns id here same k = by (cases_eq k id)
    where
      by : (k ≡ id) ⊎ (k ≡ id → ⊥) → P (inode_at (with_change f ns id) k) (inode_at ns k)
      by (inl e) = subst (λ (j : ℕ). P (inode_at (with_change f ns id) j) (inode_at ns j)) (sym e) (subst (λ (o : Option Inode). P o (inode_at ns id)) (sym (change_at ns id)) here)
      by (inr other) = subst (λ (o : Option Inode). P o (inode_at ns k)) (sym (change_other ns id k other)) (same (inode_at ns k))

  pub length-change : (ns : Inodes) (id : ℕ) → length (with_change f ns id) ≡ length ns
  length-change [] id = refl
  length-change (Some n ∷ ns) zero = refl
  length-change (None ∷ ns) zero = refl
  length-change (m ∷ ns) (suc id) = ap length (behind_head f m ns id _ refl) ∙ ap suc (length-change ns id)

  -- a sum gains what the new node weighs, and loses what the old one weighed
  pub sum-change : (w : Option Inode → ℕ) (ns : Inodes) (id : ℕ) → sum_by w (with_change f ns id) + w (inode_at ns id) ≡ sum_by w ns + w (made f (inode_at ns id))
  sum-change w [] id = refl
  sum-change w (Some n ∷ ns) zero = omega (arith, sum_by-cons w (f n) ns, sum_by-cons w (Some n) ns)
  sum-change w (None ∷ ns) zero = refl
  sum-change w (m ∷ ns) (suc id) = omega (arith, ap (sum_by w) (behind_head f m ns id _ refl), sum_by-cons w m (with_change f ns id), sum_by-cons w m ns, sum-change w ns id)

-- each weight is a part of the sum
pub sum-part : (w : Option Inode → ℕ) → w None ≡ 0 → (ns : Inodes) (id : ℕ) → w (inode_at ns id) ≤ sum_by w ns
sum-part w none [] id = omega (arith, none)
sum-part w none (m ∷ ns) zero = omega (arith, sum_by-cons w m ns)
sum-part w none (m ∷ ns) (suc id) = omega (arith, sum_by-cons w m ns, sum-part w none ns id)

-- ---- a node behind the last one

pub past_last : (ns : Inodes) → inode_at ns (length ns) ≡ None
past_last [] = refl
past_last (m ∷ ns) = past_last ns

past_end : (ns : Inodes) (k : ℕ) → length ns ≤ k → inode_at ns k ≡ None
past_end [] k past = refl
past_end (m ∷ ns) zero past = absurd (omega arith)
past_end (m ∷ ns) (suc k) past = past_end ns k (omega arith)

inside_by : (ns : Inodes) (k : ℕ) (b : Bool) → nat_lt k (length ns) ≡ b → inode_at ns k ≢ None → k < length ns
inside_by ns k true is some = ltb-true k (length ns) is
inside_by ns k false is some = absurd (some (past_end ns k (ltb-false k (length ns) is)))

-- a node that is there stands before the end
pub inside : (ns : Inodes) (k : ℕ) → inode_at ns k ≢ None → k < length ns
inside ns k some = inside_by ns k (nat_lt k (length ns)) refl some

pub behind_there : (n : Inode) (ns : Inodes) → inode_at (ns ++ Some n ∷ []) (length ns) ≡ Some n
behind_there n [] = refl
behind_there n (m ∷ ns) = behind_there n ns

pub behind_other : (n : Inode) (ns : Inodes) (k : ℕ) → k ≢ length ns → inode_at (ns ++ Some n ∷ []) k ≡ inode_at ns k
behind_other n [] zero other = absurd (other refl)
behind_other n [] (suc k) other = refl
behind_other n (m ∷ ns) zero other = refl
behind_other n (m ∷ ns) (suc k) other = behind_other n ns k (λ e. other (ap suc e))

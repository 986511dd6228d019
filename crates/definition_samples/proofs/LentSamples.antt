-- A process that stands still for its vfork child, and one whose child isn't there or isn't its own.
use Rattle.std.proofs.Common.{◌≡◌, ℕ, ◌+◌, Bool, true, false, [], ◌∷◌, Some, None, ◌⊎◌, inl, inr, refl, ap, sym, subst, ◌∙◌, arith}
use Rattle.std.specs.Prelude.{◌==◌, if◌then◌else◌, IsSome}
use Rattle.std.proofs.lemmas.Bool.Decides.{nat_tests}
use Rattle.std.proofs.lemmas.Option.{none-some, same_Some}
use Rattle.fd_tables.specs.Files.{table_at}
use Rattle.vfork_exec.specs.declared.family.State.{State}
use Rattle.vfork_exec.specs.declared.family.State.TheVariants.{Ready, Waiting, OnPipe, Lent}
use Rattle.vfork_exec.specs.Keyed.{find}
use Rattle.machine_world.specs.World.{Process, pid_of}
use Rattle.machine_world.specs.Families.{sharing, IsChain, AreChains}
use Rattle.waits_laws.specs.Waits.{WaitsAgain, IfWaits, HasVforkChild, WaitsWell}
use Rattle.definition_samples.proofs.VforkSamples.{lent, process, regs}

abbrev child : Process
child = process 2 1 1 (regs 0x8000_0090 0 220) Ready

abbrev parent : Process
parent = process 1 0 0 (regs 0x8000_0090 2 220) (Lent 2)

-- one of both is found
found : (pid : ℕ) (p : Process) → find pid_of pid lent.procs ≡ Some p → ((child ≡ p) × (2 ≡ pid)) ⊎ ((parent ≡ p) × (1 ≡ pid))
unfolding find
found pid p is = by (2 == pid) (1 == pid) refl refl is
  where
    by : (b c : Bool) → (2 == pid) ≡ b → (1 == pid) ≡ c → (if b then Some child else if c then Some parent else None) ≡ Some p →
        ((child ≡ p) × (2 ≡ pid)) ⊎ ((parent ≡ p) × (1 ≡ pid))
    by true c two one same = inl (same_Some child p same, grind (arith, nat_tests, two))
    by false true two one same = inr (same_Some parent p same, grind (arith, nat_tests, one))
    by false false two one same = absurd cc

-- what holds of both holds of what is found
each : (P : Process → Type 0) → P child → P parent → (pid : ℕ) (p : Process) → find pid_of pid lent.procs ≡ Some p → P p
each P of_child of_parent pid p is = elim (found pid p is) [
  | inl two ↦ subst P two.0 of_child
  | inr one ↦ subst P one.0 of_parent
]

-- pid and number of the table go together
own-table : (pid : ℕ) (p : Process) → find pid_of pid lent.procs ≡ Some p → p.table + 1 ≡ pid
own-table pid p is = elim (found pid p is) [
  | inl two ↦ ap (λ (q : Process). q.table + 1) (sym two.0) ∙ two.1
  | inr one ↦ ap (λ (q : Process). q.table + 1) (sym one.0) ∙ one.1
]

chains : AreChains lent.procs
unfolding sharing
chains i = by (0 == i)
  where
    by : (b : Bool) → IsChain (if b then child ∷ (if b then parent ∷ [] else []) else if b then parent ∷ [] else [])
    by true = (refl, (refl, tt))
    by false = tt

-- the parent's child is the one that lives
has-child : HasVforkChild lent parent 2
unfolding find
has-child = record { process = child; lives = refl; parent = refl; space = refl }

-- what stands still for a child
unfoldable child_in : State → ℕ
child_in Ready = 0
child_in (Waiting who) = 0
child_in (OnPipe pipe) = 0
child_in (Lent pid) = pid

lenders : (pid other : ℕ) (p : Process) → find pid_of pid lent.procs ≡ Some p → p.state ≡ Lent other → HasVforkChild lent p other
unfolding child_in
lenders pid other p is state = each (λ (q : Process). q.state ≡ Lent other → HasVforkChild lent q other)
    (λ not. absurd (ready not))
    (λ same. subst (λ (n : ℕ). HasVforkChild lent parent n) (ap (λ (s : State). child_in s) same) has-child) pid p is state
  where
    ready : Ready ≡ Lent other → ⊥
    ready not = cc

waits-well : WaitsWell lent
waits-well = record {
  has_table = each (λ (q : Process). IsSome (table_at lent.rest.files q.table)) refl refl;
  own_table = λ i j p q first second same. sym (own-table i p first) ∙ ap (λ (t : ℕ). t + 1) same ∙ own-table j q second;
  chains = chains;
  lenders = lenders;
  waits = each (λ (q : Process). IfWaits q.state (WaitsAgain lent q)) tt tt;
}

-- ---- wrong children

-- who is gone
refuted-gone : HasVforkChild (record lent { procs = parent ∷ [] }) parent 2 → ⊥
unfolding find
refuted-gone c = none-some c.process c.lives

-- whose parent is another one
refuted-parent : HasVforkChild (record lent { procs = record child { parent = 5 } ∷ parent ∷ [] }) parent 2 → ⊥
unfolding find
refuted-parent c = let five : 5 ≡ 1 = ap (λ (q : Process). q.parent) (same_Some (record child { parent = 5 }) c.process c.lives) ∙ c.parent in omega (arith, five)

-- who runs in another space
refuted-space : HasVforkChild (record lent { procs = record child { space = 3 } ∷ parent ∷ [] }) parent 2 → ⊥
unfolding find
refuted-space c = let three : 3 ≡ 0 = ap (λ (q : Process). q.space) (same_Some (record child { space = 3 }) c.process c.lives) ∙ c.space in omega (arith, three)

-- two processes with one table
refuted-table : WaitsWell (record lent { procs = record child { table = 0 } ∷ parent ∷ [] }) → ⊥
unfolding find
refuted-table w = let two : 2 ≡ 1 = w.own_table 2 1 (record child { table = 0 }) parent refl refl refl in omega (arith, two)

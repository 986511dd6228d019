-- What a watch lets pass within reach, as what a table owns.
use Rattle.std.proofs.Common.{◌≡◌, ℕ, Bool, true, false, not, List, refl, sym, ap, subst, ◌∙◌}
use Rattle.std.proofs.lemmas.List.{length-replicate}
use Rattle.rv32im_step.specs.declared.regs.Regs.{Regs}
use Rattle.rv32im_step.specs.declared.stop.Stop.{Stop}
use Rattle.mmap_rules.specs.declared.page_owner.PageOwner.{PageOwner}
use Rattle.mmap_rules.specs.Held.{Held}
use Rattle.mmap_rules.specs.Owners.{owns}
use Rattle.region_watch.specs.declared.mode.Mode.{Mode}
use Rattle.region_watch.specs.Private.{only, physical, own_bytes, frozen, in_pages, passes, passed_bytes, kept_bytes}
use Rattle.region_watch.specs.Instructions.{ran, instructions, all_asked}
use Rattle.region_watch.specs.declared.mode.Mode.TheVariants.{Halt, GoOn}
use Rattle.kept_parts.specs.Reach.{Reaches, whole_page, whole_table}
use Rattle.kept_parts.proofs.Common.WholeMemory.{owns_whole}

-- a table of just the bytes within reach, which a watch of this mode over another table lets pass
pub record AsTable (reach : Mode) (pages : ℕ) (h : Held) (mode : Mode) (seen : List PageOwner) : Type 0 where
  pub table : List PageOwner
  pub reaches : Reaches reach pages h table
  pub owned : (write : Bool) → passes mode seen write ≡ owns table write

within_table : (reach : Mode) (pages : ℕ) (h : Held) (seen : List PageOwner) → Reaches Halt pages h seen → AsTable reach pages h reach seen
within_table Halt pages h seen reaches = record { table = seen; reaches = reaches; owned = λ write. refl }
within_table GoOn pages h seen reaches = record {
  table = whole_table pages;
  reaches = record { reads = owns_whole pages false; writes = owns_whole pages true; long = length-replicate pages whole_page };
  owned = λ write. ap in_pages reaches.long ∙ sym (owns_whole pages write);
}

-- that of the process's own bytes, or of all of memory
pub as_table : (reach : Mode) (pages : ℕ) (h : Held) (mode : Mode) (seen : List PageOwner) → mode ≡ reach → Reaches Halt pages h seen → AsTable reach pages h mode seen
as_table reach pages h mode seen is reaches = subst (λ (m : Mode). AsTable reach pages h m seen) (sym is) (within_table reach pages h seen reaches)

-- ---- what instructions leave

module _ (reach : Mode) (pages : ℕ) (h : Held) (mode : Mode) (seen : List PageOwner) (t : AsTable reach pages h mode seen) (was now : List ℕ) where
  pub owned_ran : (count : ℕ) (old regs : Regs) (done : ℕ) (stop : Stop)
      → ran regs (passed_bytes mode seen now) done stop ≡ instructions count (passes mode seen true) old (passed_bytes mode seen was)
      → ran regs (own_bytes t.table now) done stop ≡ instructions count (owns t.table true) old (own_bytes t.table was)
  owned_ran count old regs done stop leaves =
      subst (λ (w : ℕ → Bool). ran regs (own_bytes t.table now) done stop ≡ instructions count w old (own_bytes t.table was)) (t.owned true)
      (subst (λ (r : ℕ → Bool). ran regs (only r (physical now)) done stop ≡ instructions count (passes mode seen true) old (only r (physical was))) (t.owned false) leaves)

  pub owned_frozen : kept_bytes mode seen now ≡ kept_bytes mode seen was → frozen t.table now ≡ frozen t.table was
  owned_frozen kept = subst (λ (w : ℕ → Bool). only (λ a. not (w a)) (physical now) ≡ only (λ a. not (w a)) (physical was)) (t.owned true) kept

  -- and ask
  pub owned_asked : (count : ℕ) (old : Regs) → all_asked count (passes mode seen true) old (passed_bytes mode seen was) ≡ all_asked count (owns t.table true) old (own_bytes t.table was)
  owned_asked count old =
      ap (λ (w : ℕ → Bool). all_asked count w old (passed_bytes mode seen was)) (t.owned true)
      ∙ ap (λ (r : ℕ → Bool). all_asked count (owns t.table true) old (only r (physical was))) (t.owned false)

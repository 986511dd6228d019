-- What a watch has seen, and what instructions leave under one.
use Rattle.std.specs.Prelude.{◌≡◌, ℕ, true, List, length, Option, None}
use Rattle.byte_words.specs.declared.access.Access.{Access}
use Rattle.rv32im_step.specs.declared.regs.Regs.{Regs}
use Rattle.mmap_rules.specs.declared.page_owner.PageOwner.{PageOwner}
use Rattle.region_watch.specs.declared.instructions.Progress.{Progress}
use Rattle.region_watch.specs.declared.mode.Mode.{Mode}
use Rattle.region_watch.specs.declared.mode.Mode.TheVariants.{Halt}
use Rattle.region_watch.specs.declared.watch.Watch.{Watch}
use Rattle.region_watch.specs.Private.{passes, passed_bytes, kept_bytes}
use Rattle.region_watch.specs.Instructions.{instructions, ran, all_asked}
use Rattle.region_watch.specs.Strays.{stray_after_all, stray_after_stop}

-- the first stray access
abbrev pub first_stray : Watch → Option Access
first_stray w = w.first

-- one over these bytes, with this table and in this mode, that has seen no access
pub record IsNewWatch (bytes : List ℕ) (table : List PageOwner) (watched : Mode) (w : Watch) : Type 0 where
  pub mem : w.mem.now ≡ bytes
  pub owners : w.owners.now ≡ table
  pub mode : w.mode ≡ watched
  pub first : first_stray w ≡ None

-- ---- up to `count` instructions under a watch

-- the watch has the same table and mode, and stands over the same memory
pub record KeepsWatch (old new : Watch) : Type 0 where
  pub owners : new.owners.now ≡ old.owners.now
  pub mode : new.mode ≡ old.mode
  pub same_reference : new.mem.ghost_name ≡ old.mem.ghost_name

-- what they leave: the registers, the bytes that pass and how far they came are those of `instructions`, all other bytes and the size of
-- memory stay, and the first access that strays is known, which is the one at which a watch halts
pub record StepsLeave (count : ℕ) (regs : Regs) (old : Watch) (progress : Progress) (after : Regs) (new : Watch) : Type 0 where
  pub leaves : ran after (passed_bytes old.mode old.owners.now new.mem.now) progress.done progress.stop
      ≡ instructions count (passes old.mode old.owners.now true) regs (passed_bytes old.mode old.owners.now old.mem.now)
  pub frozen : kept_bytes old.mode old.owners.now new.mem.now ≡ kept_bytes old.mode old.owners.now old.mem.now
  pub size : length new.mem.now ≡ length old.mem.now
  pub first : first_stray new ≡ stray_after_all old.owners.now (first_stray old) (all_asked count (passes old.mode old.owners.now true) regs (passed_bytes old.mode old.owners.now old.mem.now))
  pub halts : old.mode ≡ Halt → first_stray new ≡ stray_after_stop (first_stray old) progress.stop

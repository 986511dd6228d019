-- The walk ends by itself: any two numbers of steps that suffice give the same.
use Rattle.std.proofs.Common.{◌≡◌, ℕ, zero, suc, ◌+◌, ◌<◌, ◌≤◌, Bool, true, false, List, [], ◌∷◌, length, Option, refl, sym, ◌∙◌, arith}
use Rattle.std.specs.Prelude.{None, Some}
use Rattle.std.proofs.lemmas.Bool.{leb-false}
use Rattle.byte_words.specs.Search.{first}
use Rattle.romfs_image.specs.declared.fault.RomFault.{RomFault}
use Rattle.romfs_image.specs.declared.level.Level.{Level}
use Rattle.romfs_image.specs.Header.{name_end, header_at}
use Rattle.romfs_image.specs.Fault.{header_rows, header_fault}
use Rattle.romfs_image.specs.Walk.{Entry, levels_behind, entries_behind, or_else, fault_at, walk, walked}
use Rattle.romfs_image.specs.Laws.{StepsSuffice}
use Rattle.romfs_image.proofs.Walks.{words_fit, walk_taken, walk_stopped}

AreClear : List (Bool × RomFault) → Type 0
AreClear [] = Unit {0}
AreClear (row ∷ rows) = (row.0 ≡ false) × AreClear rows

rows_clear : (rows : List (Bool × RomFault)) → first rows ≡ None → AreClear rows
unfolding AreClear
rows_clear [] none = tt
rows_clear ((true, f) ∷ rows) none = absurd cc
rows_clear ((false, f) ∷ rows) none = (refl, rows_clear rows none)

-- a header without a fault stands behind the one before it
rises : (y : List ℕ) (before at : ℕ) → header_fault y before at ≡ None → before < at
unfolding header_fault AreClear
rises y before at none =
    let rows : AreClear (header_rows y before at) = rows_clear (header_rows y before at) none in
    leb-false at before rows.1.1.1.0

or_else_none : (a b : Option RomFault) → or_else a b ≡ None → a ≡ None
or_else_none None b none = refl
or_else_none (Some f) b none = absurd cc

pub same_steps : (n k : ℕ) (y : List ℕ) (before : ℕ) (levels : List Level) (entries : List Entry) → before < length y → length y ≤ before + n → length y ≤ before + k
    → walk n y before levels entries ≡ walk k y before levels entries
same_steps n k y before [] entries inside enough also = refl
same_steps zero k y before (level ∷ levels) entries inside enough also = absurd (omega arith)
same_steps (suc n) zero y before (level ∷ levels) entries inside enough also = absurd (omega arith)
same_steps (suc n) (suc k) y before (level ∷ levels) entries inside enough also =
    by (same_steps n k y level.at (levels_behind (header_at y level.at) level.folder (length entries + 1) levels) (entries_behind (header_at y level.at) level entries)) (fault_at y before level entries) refl
  where
    by : (level.at < length y → length y ≤ level.at + n → length y ≤ level.at + k
        → walk n y level.at (levels_behind (header_at y level.at) level.folder (length entries + 1) levels) (entries_behind (header_at y level.at) level entries)
        ≡ walk k y level.at (levels_behind (header_at y level.at) level.folder (length entries + 1) levels) (entries_behind (header_at y level.at) level entries)) → (fault : Option RomFault) → fault_at y before level entries ≡ fault
        → walk (suc n) y before (level ∷ levels) entries ≡ walk (suc k) y before (level ∷ levels) entries
    by later (Some f) is = walk_stopped n y before level levels entries f is ∙ sym (walk_stopped k y before level levels entries f is)
    by later None is =
        let sound : header_fault y before level.at ≡ None = or_else_none _ _ is in
        let behind = rises y before level.at sound in
        let fits = words_fit y before level.at sound in
        walk_taken n y before level levels entries is ∙ later (omega arith) (omega arith) (omega arith) ∙ sym (walk_taken k y before level levels entries is)

pub steps_suffice : StepsSuffice
unfolding walked
steps_suffice = λ y steps some enough. same_steps steps (length y) y 0 (record { at = name_end y 0; folder = 0 } ∷ []) [] some (omega arith) (omega arith)

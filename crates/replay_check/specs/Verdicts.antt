-- How far a program goes by itself as items tell (Mozilla's rr and other record and replay debuggers: a run is its program, its
-- begin, and what the system gave it).
use Rattle.std.specs.Prelude.{ℕ, zero, suc, ◌+◌, ◌-◌, List, [], ◌∷◌, length, Option, Some, None}
use Rattle.flat_loader.specs.Begin.{Loading}
use Rattle.flat_loader.specs.Alone.{Solo, Item, Left, solo_step, solo_begin, alone}
use Rattle.replay_check.specs.declared.verdict.Verdict.{Verdict}
use Rattle.replay_check.specs.declared.verdict.Verdict.TheVariants.{Yes, No}

-- items that are left over refute a run
abbrev pub at_end : (used done : ℕ) → List Item → Verdict
at_end used done [] = Yes
at_end used done (i ∷ items) = No (used + 1) done

abbrev pub verdict_behind : ((used done : ℕ) → Solo → List Item → Verdict) → (used done left : ℕ) → Left → Verdict
verdict_behind more used done left None = No (used + 1) done
verdict_behind more used done left (Some (s, items)) = more (used + (left - length items)) (done + 1) s items

-- n events, behind so many items and events
unfoldable pub verdict_from : (n used done : ℕ) → Solo → List Item → Verdict
verdict_from zero used done s items = at_end used done items
verdict_from (suc n) used done s items = verdict_behind (verdict_from n) used done (length items) (solo_step s items)

-- of a program that is loaded so, and whose owner has this pid
unfoldable pub verdict : Loading → (pid : ℕ) → List Item → (events : ℕ) → Verdict
verdict l pid items events = verdict_from events 0 0 (solo_begin l pid) items

-- ---- laws

abbrev pub Judges : Verdict → Option Solo → Type 0
Judges Yes (Some s) = Unit {0}
Judges Yes None = ⊥
Judges (No item events) (Some s) = ⊥
Judges (No item events) None = Unit {0}

-- it is yes exactly where the run by itself isn't refuted
abbrev pub VerdictsJudge : Type 0
VerdictsJudge = (l : Loading) (pid : ℕ) (items : List Item) (events : ℕ) → Judges (verdict l pid items events) (alone l pid items events)

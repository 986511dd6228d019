-- A verdict is yes exactly where the run alone isn't refuted.
use Rattle.std.proofs.Common.{ℕ, zero, suc, ◌+◌, ◌-◌, List, [], ◌∷◌, length, Some, None}
use Rattle.flat_loader.specs.Alone.{Solo, Item, Left, solo_step, solo_run, then_left, none_left, solo_begin, alone}
use Rattle.flat_loader.specs.Begin.{Loading}
use Rattle.replay_check.specs.Verdicts.{at_end, verdict_behind, verdict_from, verdict, Judges}

ends : (used done : ℕ) (s : Solo) (items : List Item) → Judges (at_end used done items) (none_left (Some (s, items)))
ends used done s [] = tt
ends used done s (i ∷ items) = tt

pub judged : (n used done : ℕ) (s : Solo) (items : List Item) → Judges (verdict_from n used done s items) (none_left (solo_run n s items))
unfolding verdict_from solo_run
judged zero used done s items = ends used done s items
judged (suc n) used done s items = behind (λ u d now left. judged n u d now left) (solo_step s items)
  where
    behind : ((u d : ℕ) (now : Solo) (left : List Item) → Judges (verdict_from n u d now left) (none_left (solo_run n now left)))
        → (l : Left) → Judges (verdict_behind (verdict_from n) used done (length items) l) (none_left (then_left (solo_run n) l))
    behind more None = tt
    behind more (Some (now, left)) = more (used + (length items - length left)) (done + 1) now left

pub all_judged : (l : Loading) (pid : ℕ) (items : List Item) (events : ℕ) → Judges (verdict l pid items events) (alone l pid items events)
unfolding verdict alone
all_judged l pid items events = judged events 0 0 (solo_begin l pid) items

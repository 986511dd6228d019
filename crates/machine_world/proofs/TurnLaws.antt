-- Turns, event by event.
use Rattle.std.proofs.Common.{◌≡◌, ℕ, zero, suc, ◌+◌, ◌-◌, ◌<◌, true, false, List, [], ◌∷◌, ◌++◌, Some, None, refl, sym, ap, ◌∙◌, arith, append_assoc}
use Rattle.byte_words.specs.declared.access.Access.{Access}
use Rattle.call_log.specs.Notes.{stray_note}
use Rattle.machine_world.specs.World.{World}
use Rattle.machine_world.specs.Event.{Trace, Outcome, went, strays, full, noted, event}
use Rattle.machine_world.specs.Turns.{stray_at, log_full, Walk, remains_at, turned, turn, walked}
use Rattle.machine_world.specs.Courses.{Leads}

pub walked_more : (xs ys : List Trace) (walk : Walk) → walked (xs ++ ys) walk ≡ walked xs (walked ys walk)
walked_more xs ys walk = rw append_assoc refl

pub leads_none : (pid : ℕ) (w : World) → Leads pid w 0 w
leads_none pid w = record { traces = []; on = λ left. let sum : 0 + left ≡ left = omega arith in ap (λ n. turn n pid w) sum }

pub leads_on : (pid : ℕ) (old mid new : World) (i j : ℕ) → Leads pid old i mid → Leads pid mid j new → Leads pid old (i + j) new
leads_on pid old mid new i j x y = record {
  traces = x.traces ++ y.traces;
  on = λ left.
      let sum : i + j + left ≡ i + (j + left) = omega arith in
      ap (λ n. turn n pid old) sum ∙ x.on (j + left) ∙ ap (walked x.traces) (y.on left) ∙ sym (walked_more x.traces y.traces (turn left pid new));
}

-- ---- the next event

module _ (pid : ℕ) (w : World) where
  pub turn_next : (n : ℕ) (o : Outcome) → event w pid ≡ o → turn (suc n) pid w ≡ turned (turn n pid) w pid o
  unfolding turn
  turn_next n o is = ap (turned (turn n pid) w pid) is

  pub leads_event : (now : World) (t : Trace) → event w pid ≡ went now t → t.over ≡ false → Leads pid w 1 now
  leads_event now t is over = record {
    traces = t ∷ [];
    on = λ left.
        let sum : 1 + left ≡ suc left = omega arith in
        ap (λ n. turn n pid w) sum ∙ turn_next left (went now t) is ∙ (rw over refl);
  }

  pub turn_over : (now : World) (t : Trace) → event w pid ≡ went now t → t.over ≡ true → (n : ℕ) → 0 < n → turn n pid w ≡ record { world = now; traces = t ∷ []; end = None }
  turn_over now t is over zero some = absurd (omega arith)
  turn_over now t is over (suc n) some = turn_next n (went now t) is ∙ (rw over refl)

  pub turn_strays : (access : Access) → event w pid ≡ strays access → (n : ℕ) → 0 < n →
      turn n pid w ≡ remains_at (noted (stray_note pid access) w) (Some (stray_at pid access))
  turn_strays access is zero some = absurd (omega arith)
  turn_strays access is (suc n) some = turn_next n (strays access) is

  pub turn_full : event w pid ≡ full → (n : ℕ) → 0 < n → turn n pid w ≡ remains_at w (Some log_full)
  turn_full is zero some = absurd (omega arith)
  turn_full is (suc n) some = turn_next n full is

-- ---- a whole turn

module _ (pid : ℕ) (old new : World) (done : ℕ) (leads : Leads pid old done new) where
  -- all events were carried out
  pub turn_used : turn done pid old ≡ record { world = new; traces = leads.traces ++ []; end = None }
  unfolding turn
  turn_used = let sum : done ≡ done + 0 = omega arith in ap (λ n. turn n pid old) sum ∙ leads.on 0

  -- or the turn goes on as it does in the new world
  pub turn_from : (count : ℕ) (walk : Walk) → done < count → ((n : ℕ) → 0 < n → turn n pid new ≡ walk) → turn count pid old ≡ walked leads.traces walk
  turn_from count walk less is =
      let sum : count ≡ done + (count - done) = omega arith in
      ap (λ n. turn n pid old) sum ∙ leads.on (count - done) ∙ ap (walked leads.traces) (is (count - done) (omega arith))

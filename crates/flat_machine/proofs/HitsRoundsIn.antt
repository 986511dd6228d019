-- The hits of runs by quanta, in the one memory.
use Rattle.std.proofs.Common.{◌≡◌, ℕ, ◌+◌, ◌-◌, ◌<◌, List, [], ◌∷◌, ◌++◌, length, Option, Some, None, Result, Ok, Err, refl, sym, ap, subst, ◌∙◌, append_assoc, append-nil, take, drop, get_or}
use Rattle.std.specs.Result.{IsErr}
use Rattle.std.specs.declared.alloc.AllocError.{AllocError}
use Rattle.quantum_sched.specs.declared.Quantum.{Quantum}
use Rattle.quantum_sched.specs.Picked.{picked}
use Rattle.machine_world.specs.Families.{ready_pids}
use Rattle.machine_world.specs.Turns.{End, log_full}
use Rattle.memory_world.specs.Physical.{Physical, turn_in, remains_at_in}
use Rattle.memory_world.specs.Physical.{WalkIn}
use Rattle.memory_world.specs.Courses.{ComesIn}
use Rattle.memory_world.proofs.TurnsIn.{comes_in_none, comes_in_on}
use Rattle.watch_points.specs.declared.hits.Hit.{Hit}
use Rattle.watch_points.specs.declared.point.PointKind.{PointKind}
use Rattle.watch_points.specs.declared.span.Span.{Span}
use Rattle.watch_points.specs.Points.{Found, with_hits}
use Rattle.watch_points.proofs.HitLists.{with_hits-nil, with_hits-append}
use Rattle.flat_machine.specs.declared.run.End.{End as Told}
use Rattle.flat_machine.specs.declared.run.End.TheVariants as told
use Rattle.flat_machine.specs.State.{State, one_memory}
use Rattle.flat_machine.specs.Runs.{repeated}
use Rattle.flat_machine.specs.LeavesIn.{TurnLeavesIn}
use Rattle.flat_machine.specs.Hits.{turn_hits_in, behind_turn_in, quantum_hits_in, hits_in_memory}
use Rattle.flat_machine.specs.HitsLeft.{TurnHits, HitsCome, gone_through_in, HitsStopIn, HitsLeaveIn, HitsFollowIn}
use Rattle.flat_machine.proofs.Rounds.{next_is, all_are, repeated_more, split}
use Rattle.flat_machine.proofs.HitsRounds.{come_on}

module _ (kind : PointKind) (spans : List Span) where
  abbrev H : List Quantum → Physical → List Hit
  H = hits_in_memory kind spans

  abbrev T : ℕ → ℕ → Physical → List Hit
  T = turn_hits_in kind spans

  pub no_quanta_in : (p : Physical) → H [] p ≡ []
  unfolding hits_in_memory
  no_quanta_in p = refl

  -- ---- one quantum

  module _ (q : Quantum) (p : Physical) where
    hits_at : (qs : List Quantum) (o : Option ℕ) → picked q.pick (ready_pids p.world.procs) ≡ o → H (q ∷ qs) p ≡ quantum_hits_in kind spans (H qs) p q.count o
    unfolding hits_in_memory
    hits_at qs o is = ap (quantum_hits_in kind spans (hits_in_memory kind spans qs) p q.count) is

    pub none_hit_in : (found : Found) → picked q.pick (ready_pids p.world.procs) ≡ None → (back : List Quantum) → found ≡ with_hits found (H ((q ∷ []) ++ back) p)
    none_hit_in found none back = sym (with_hits-nil found) ∙ ap (with_hits found) (sym (hits_at back None none))

    module _ (pid : ℕ) (chosen : picked q.pick (ready_pids p.world.procs) ≡ Some pid) where
      goes_hits : (qs : List Quantum) (new : Physical) → turn_in q.count pid p ≡ remains_at_in new None → H (q ∷ qs) p ≡ T pid q.count p ++ H qs new
      goes_hits qs new is = hits_at qs (Some pid) chosen ∙ ap (λ (v : WalkIn). T pid q.count p ++ behind_turn_in (H qs) v.now v.end) is

      ends_hits : (qs : List Quantum) (new : Physical) (e : End) → turn_in q.count pid p ≡ remains_at_in new (Some e) → H (q ∷ qs) p ≡ T pid q.count p
      ends_hits qs new e is = hits_at qs (Some pid) chosen ∙ ap (λ (v : WalkIn). T pid q.count p ++ behind_turn_in (H qs) v.now v.end) is ∙ append-nil (T pid q.count p)

  module _ (q : Quantum) (p : Physical) (pid : ℕ) (chosen : picked q.pick (ready_pids p.world.procs) ≡ Some pid) (before found : Found) (done : ℕ) (new : Physical) where
    pub turn_hits_leave_in : (r : Result (Option Told) AllocError) → TurnLeavesIn pid q.count p done new r → TurnHits (T pid) before found q.count p done r
        → HitsLeaveIn kind spans before found (q ∷ []) p new r
    turn_hits_leave_in (Ok None) x y = λ back.
        ap (λ (f : Found). with_hits f (H back new)) y ∙ sym (with_hits-append before (T pid q.count p) (H back new)) ∙ ap (with_hits before) (sym (goes_hits q p pid chosen back new x))
    turn_hits_leave_in (Ok (Some told.LogFull)) x y = λ back. y ∙ ap (with_hits before) (sym (ends_hits q p pid chosen back new log_full x))
    turn_hits_leave_in (Ok (Some (told.Stray access))) x y = absurd x
    turn_hits_leave_in (Ok (Some told.AllEnded)) x y = absurd x
    turn_hits_leave_in (Ok (Some told.Stuck)) x y = absurd x
    turn_hits_leave_in (Ok (Some told.OutOfQuanta)) x y = absurd x
    turn_hits_leave_in (Err error) x y =
        let part : Quantum = record q { count = done } in
        record {
          stops = record {
            front = [];
            quantum = q;
            back = [];
            are = refl;
            before = p;
            reached = comes_in_none p;
            pid = pid;
            chosen = chosen;
            done = done;
            stops = x;
          };
          follow = y ∙ ap (with_hits before)
              (sym (goes_hits part p pid chosen [] new x.walked ∙ ap (λ (xs : List Hit). T pid done p ++ xs) (no_quanta_in new) ∙ append-nil (T pid done p)));
        }

  -- ---- one after the other

  pub stop_front_in : (before mid found : Found) (front more : List Quantum) (old at new : Physical) → ComesIn front old at → HitsCome H before mid front old at → HitsStopIn kind spans mid found more at new
      → HitsStopIn kind spans before found (front ++ more) old new
  stop_front_in before mid found front more old at new comes x y =
      let s = y.stops in
      record {
        stops = record {
          front = front ++ s.front;
          quantum = s.quantum;
          back = s.back;
          are = ap (λ qs. front ++ qs) s.are ∙ sym (append_assoc front s.front (s.quantum ∷ s.back));
          before = s.before;
          reached = comes_in_on front s.front old at s.before comes s.reached;
          pid = s.pid;
          chosen = s.chosen;
          done = s.done;
          stops = s.stops;
        };
        follow = y.follow ∙ x (gone_through_in s) ∙ ap (λ (qs : List Quantum). with_hits before (H qs old)) (sym (append_assoc front s.front (record s.quantum { count = s.done } ∷ [])));
      }

  pub stop_back_in : (before found : Found) (front more : List Quantum) (old new : Physical) → HitsStopIn kind spans before found front old new → HitsStopIn kind spans before found (front ++ more) old new
  stop_back_in before found front more old new y =
      let s = y.stops in
      record {
        stops = record {
          front = s.front;
          quantum = s.quantum;
          back = s.back ++ more;
          are = ap (λ qs. qs ++ more) s.are ∙ append_assoc s.front (s.quantum ∷ s.back) more;
          before = s.before;
          reached = s.reached;
          pid = s.pid;
          chosen = s.chosen;
          done = s.done;
          stops = s.stops;
        };
        follow = y.follow;
      }

  -- ---- the quantum of number i

  module _ (qs : List Quantum) (i : ℕ) (d : Quantum) (less : i < length qs) (before mid found : Found) (old at new : Physical) (x : HitsCome H before mid (take i qs) old at) where
    pub hits_round_on_in : HitsLeaveIn kind spans mid found (get_or qs i d ∷ []) at new (Ok None) → HitsCome H before found (take (i + 1) qs) old new
    hits_round_on_in y = subst (λ rs. HitsCome H before found rs old new) (sym (next_is qs i d less)) (come_on H before mid found (take i qs) (get_or qs i d ∷ []) old at new x y)

    pub hits_round_ends_in : (end : Told) → HitsLeaveIn kind spans mid found (get_or qs i d ∷ []) at new (Ok (Some end)) → HitsLeaveIn kind spans before found qs old new (Ok (Some end))
    hits_round_ends_in end y = λ back.
        let is : qs ++ back ≡ take i qs ++ ((get_or qs i d ∷ []) ++ (drop (i + 1) qs ++ back)) =
        ap (λ (rs : List Quantum). rs ++ back) (all_are qs i d less) ∙ append_assoc (take i qs ++ (get_or qs i d ∷ [])) (drop (i + 1) qs) back
        ∙ append_assoc (take i qs) (get_or qs i d ∷ []) (drop (i + 1) qs ++ back) in
        y (drop (i + 1) qs ++ back) ∙ x ((get_or qs i d ∷ []) ++ (drop (i + 1) qs ++ back)) ∙ ap (λ (rs : List Quantum). with_hits before (H rs old)) (sym is)

    pub hits_round_fails_in : (r : Result (Option Told) AllocError) → IsErr r → ComesIn (take i qs) old at → HitsStopIn kind spans mid found (get_or qs i d ∷ []) at new
        → HitsLeaveIn kind spans before found qs old new r
    hits_round_fails_in (Ok end) is comes y = absurd cc
    hits_round_fails_in (Err error) is comes y =
        subst (λ rs. HitsStopIn kind spans before found rs old new) (sym (all_are qs i d less))
        (stop_back_in before found (take i qs ++ (get_or qs i d ∷ [])) (drop (i + 1) qs) old new
        (stop_front_in before mid found (take i qs) (get_or qs i d ∷ []) old at new comes x y))

  -- ---- the quanta so many times

  module _ (qs : List Quantum) (i count : ℕ) (less : i < count) (before mid found : Found) (old at new : Physical) (x : HitsCome H before mid (repeated i qs) old at) where
    pub hits_time_on_in : HitsLeaveIn kind spans mid found qs at new (Ok None) → HitsCome H before found (repeated (i + 1) qs) old new
    hits_time_on_in y = subst (λ rs. HitsCome H before found rs old new) (sym (repeated_more i qs)) (come_on H before mid found (repeated i qs) qs old at new x y)

    pub hits_time_ends_in : (end : Told) → HitsLeaveIn kind spans mid found qs at new (Ok (Some end)) → found ≡ with_hits before (H (repeated count qs) old)
    hits_time_ends_in end y =
        let rest = repeated (count - (i + 1)) qs in
        y rest ∙ x (qs ++ rest) ∙ ap (λ (rs : List Quantum). with_hits before (H rs old)) (sym (split qs i count less ∙ append_assoc (repeated i qs) qs rest))

    pub hits_time_fails_in : ComesIn (repeated i qs) old at → HitsStopIn kind spans mid found qs at new → HitsStopIn kind spans before found (repeated count qs) old new
    hits_time_fails_in comes y =
        subst (λ rs. HitsStopIn kind spans before found rs old new) (sym (split qs i count less))
        (stop_back_in before found (repeated i qs ++ qs) (repeated (count - (i + 1)) qs) old new (stop_front_in before mid found (repeated i qs) qs old at new comes x y))

  pub hits_fail_in : (before found : Found) (qs : List Quantum) (old new : State) (r : Result Told AllocError) → IsErr r → HitsStopIn kind spans before found qs (one_memory old) (one_memory new)
      → HitsFollowIn kind spans before found qs old new r
  hits_fail_in before found qs old new (Ok end) is y = absurd cc
  hits_fail_in before found qs old new (Err error) is y = y

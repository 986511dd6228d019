-- The hits of runs by quanta.
use Rattle.std.proofs.Common.{◌≡◌, ℕ, ◌+◌, ◌-◌, ◌<◌, List, [], ◌∷◌, ◌++◌, length, Option, Some, None, Result, Ok, Err, refl, sym, ap, subst, ◌∙◌, append_assoc, append-nil, take, drop, get_or}
use Rattle.std.specs.Result.{IsErr}
use Rattle.std.specs.declared.alloc.AllocError.{AllocError}
use Rattle.quantum_sched.specs.declared.Quantum.{Quantum}
use Rattle.quantum_sched.specs.Picked.{picked}
use Rattle.machine_world.specs.World.{World}
use Rattle.machine_world.specs.Families.{ready_pids}
use Rattle.machine_world.specs.Turns.{End, turn}
use Rattle.machine_world.specs.Courses.{Comes}
use Rattle.machine_world.proofs.RunLaws.{comes_none, comes_on}
use Rattle.watch_points.specs.declared.hits.Hit.{Hit}
use Rattle.watch_points.specs.declared.point.PointKind.{PointKind}
use Rattle.watch_points.specs.declared.span.Span.{Span}
use Rattle.watch_points.specs.Points.{Found, with_hits}
use Rattle.watch_points.proofs.HitLists.{with_hits-nil, with_hits-append}
use Rattle.flat_machine.specs.declared.run.End.{End as Told}
use Rattle.flat_machine.specs.State.{State, world}
use Rattle.flat_machine.specs.Runs.{repeated, gone_through}
use Rattle.flat_machine.specs.Leaves.{TurnLeaves}
use Rattle.flat_machine.specs.Hits.{turn_hits, behind_turn, quantum_hits, hits}
use Rattle.flat_machine.specs.HitsLeft.{TurnHits, HitsCome, HitsStop, HitsLeave, HitsFollow}
use Rattle.flat_machine.proofs.Rounds.{ends_is, next_is, all_are, repeated_more, split}

-- ---- what was found, and what is left

module _ {W : Type 0} (H : List Quantum → W → List Hit) where
  pub come_none : (found : Found) (w : W) → HitsCome H found found [] w w
  come_none found w back = refl

  pub come_on : (before mid found : Found) (front more : List Quantum) (old at new : W) → HitsCome H before mid front old at → HitsCome H mid found more at new → HitsCome H before found (front ++ more) old new
  come_on before mid found front more old at new x y back = y back ∙ x (more ++ back) ∙ ap (λ (qs : List Quantum). with_hits before (H qs old)) (sym (append_assoc front more back))

  pub come_all : (before found : Found) (qs : List Quantum) (old new : W) → H [] new ≡ [] → HitsCome H before found qs old new → found ≡ with_hits before (H qs old)
  come_all before found qs old new none x =
      sym (with_hits-nil found) ∙ ap (with_hits found) (sym none) ∙ x [] ∙ ap (λ (rs : List Quantum). with_hits before (H rs old)) (append-nil qs)

module _ (kind : PointKind) (spans : List Span) where
  abbrev H : List Quantum → World → List Hit
  H = hits kind spans

  pub no_quanta : (w : World) → H [] w ≡ []
  unfolding hits
  no_quanta w = refl

  -- ---- one quantum

  module _ (q : Quantum) (w : World) where
    hits_at : (qs : List Quantum) (o : Option ℕ) → picked q.pick (ready_pids w.procs) ≡ o → H (q ∷ qs) w ≡ quantum_hits kind spans (H qs) w q.count o
    unfolding hits
    hits_at qs o is = ap (quantum_hits kind spans (hits kind spans qs) w q.count) is

    pub none_hit : (found : Found) → picked q.pick (ready_pids w.procs) ≡ None → (back : List Quantum) → found ≡ with_hits found (H ((q ∷ []) ++ back) w)
    none_hit found none back = sym (with_hits-nil found) ∙ ap (with_hits found) (sym (hits_at back None none))

    module _ (pid : ℕ) (chosen : picked q.pick (ready_pids w.procs) ≡ Some pid) where
      goes_hits : (qs : List Quantum) (new : World) → (turn q.count pid w).world ≡ new → (turn q.count pid w).end ≡ None → H (q ∷ qs) w ≡ turn_hits kind spans pid q.count w ++ H qs new
      goes_hits qs new world end =
          hits_at qs (Some pid) chosen
          ∙ ap (λ (e : Option End). turn_hits kind spans pid q.count w ++ behind_turn (H qs) (turn q.count pid w).world e) end
          ∙ ap (λ (v : World). turn_hits kind spans pid q.count w ++ H qs v) world

      ends_hits : (qs : List Quantum) (e : End) → (turn q.count pid w).end ≡ Some e → H (q ∷ qs) w ≡ turn_hits kind spans pid q.count w
      ends_hits qs e end =
          hits_at qs (Some pid) chosen
          ∙ ap (λ (o : Option End). turn_hits kind spans pid q.count w ++ behind_turn (H qs) (turn q.count pid w).world o) end
          ∙ append-nil (turn_hits kind spans pid q.count w)

  module _ (q : Quantum) (w : World) (pid : ℕ) (chosen : picked q.pick (ready_pids w.procs) ≡ Some pid) (before found : Found) (done : ℕ) (new : World) where
    pub turn_hits_leave : (r : Result (Option Told) AllocError) → TurnLeaves pid q.count w done new r → TurnHits (turn_hits kind spans pid) before found q.count w done r
        → HitsLeave kind spans before found (q ∷ []) w new r
    turn_hits_leave (Ok None) x y = λ back.
        ap (λ (f : Found). with_hits f (H back new)) y ∙ sym (with_hits-append before (turn_hits kind spans pid q.count w) (H back new))
        ∙ ap (with_hits before) (sym (goes_hits q w pid chosen back new x.0 x.1))
    turn_hits_leave (Ok (Some end)) x y = λ back.
        let e = ends_is (turn q.count pid w).end end x.1 in
        y ∙ ap (with_hits before) (sym (ends_hits q w pid chosen back e.0 e.1))
    turn_hits_leave (Err error) x y =
        let part : Quantum = record q { count = done } in
        record {
          stops = record {
            front = [];
            quantum = q;
            back = [];
            are = refl;
            before = w;
            reached = comes_none w;
            pid = pid;
            chosen = chosen;
            done = done;
            less = x.less;
            walked = x.walked;
            goes_on = x.goes_on;
            still = x.still;
          };
          follow = y ∙ ap (with_hits before)
              (sym (goes_hits part w pid chosen [] new x.walked x.goes_on ∙ ap (λ (xs : List Hit). turn_hits kind spans pid done w ++ xs) (no_quanta new) ∙ append-nil (turn_hits kind spans pid done w)));
        }

  -- ---- one after the other

  pub stop_front : (before mid found : Found) (front more : List Quantum) (old at new : World) → Comes front old at → HitsCome H before mid front old at → HitsStop kind spans mid found more at new
      → HitsStop kind spans before found (front ++ more) old new
  stop_front before mid found front more old at new comes x y =
      let s = y.stops in
      record {
        stops = record {
          front = front ++ s.front;
          quantum = s.quantum;
          back = s.back;
          are = ap (λ qs. front ++ qs) s.are ∙ sym (append_assoc front s.front (s.quantum ∷ s.back));
          before = s.before;
          reached = comes_on front s.front old at s.before comes s.reached;
          pid = s.pid;
          chosen = s.chosen;
          done = s.done;
          less = s.less;
          walked = s.walked;
          goes_on = s.goes_on;
          still = s.still;
        };
        follow = y.follow ∙ x (gone_through s) ∙ ap (λ (qs : List Quantum). with_hits before (H qs old)) (sym (append_assoc front s.front (record s.quantum { count = s.done } ∷ [])));
      }

  pub stop_back : (before found : Found) (front more : List Quantum) (old new : World) → HitsStop kind spans before found front old new → HitsStop kind spans before found (front ++ more) old new
  stop_back before found front more old new y =
      let s = y.stops in
      record {
        stops = record {
          front = s.front;
          quantum = s.quantum;
          back = s.back ++ more;
          are = ap (λ qs. qs ++ more) s.are ∙ append_assoc s.front (s.quantum ∷ s.back) more;
          before = s.before;
          reached = s.reached;
          pid = s.pid;
          chosen = s.chosen;
          done = s.done;
          less = s.less;
          walked = s.walked;
          goes_on = s.goes_on;
          still = s.still;
        };
        follow = y.follow;
      }

  -- ---- the quantum of number i

  module _ (qs : List Quantum) (i : ℕ) (d : Quantum) (less : i < length qs) (before mid found : Found) (old at new : World) (x : HitsCome H before mid (take i qs) old at) where
    pub hits_round_on : HitsLeave kind spans mid found (get_or qs i d ∷ []) at new (Ok None) → HitsCome H before found (take (i + 1) qs) old new
    hits_round_on y = subst (λ rs. HitsCome H before found rs old new) (sym (next_is qs i d less)) (come_on H before mid found (take i qs) (get_or qs i d ∷ []) old at new x y)

    pub hits_round_ends : (end : Told) → HitsLeave kind spans mid found (get_or qs i d ∷ []) at new (Ok (Some end)) → HitsLeave kind spans before found qs old new (Ok (Some end))
    hits_round_ends end y = λ back.
        let is : qs ++ back ≡ take i qs ++ ((get_or qs i d ∷ []) ++ (drop (i + 1) qs ++ back)) =
        ap (λ (rs : List Quantum). rs ++ back) (all_are qs i d less) ∙ append_assoc (take i qs ++ (get_or qs i d ∷ [])) (drop (i + 1) qs) back
        ∙ append_assoc (take i qs) (get_or qs i d ∷ []) (drop (i + 1) qs ++ back) in
        y (drop (i + 1) qs ++ back) ∙ x ((get_or qs i d ∷ []) ++ (drop (i + 1) qs ++ back)) ∙ ap (λ (rs : List Quantum). with_hits before (H rs old)) (sym is)

    pub hits_round_fails : (r : Result (Option Told) AllocError) → IsErr r → Comes (take i qs) old at → HitsStop kind spans mid found (get_or qs i d ∷ []) at new → HitsLeave kind spans before found qs old new r
    hits_round_fails (Ok end) is comes y = absurd cc
    hits_round_fails (Err error) is comes y =
        subst (λ rs. HitsStop kind spans before found rs old new) (sym (all_are qs i d less))
        (stop_back before found (take i qs ++ (get_or qs i d ∷ [])) (drop (i + 1) qs) old new
        (stop_front before mid found (take i qs) (get_or qs i d ∷ []) old at new comes x y))

  -- ---- the quanta so many times

  module _ (qs : List Quantum) (i count : ℕ) (less : i < count) (before mid found : Found) (old at new : World) (x : HitsCome H before mid (repeated i qs) old at) where
    pub hits_time_on : HitsLeave kind spans mid found qs at new (Ok None) → HitsCome H before found (repeated (i + 1) qs) old new
    hits_time_on y = subst (λ rs. HitsCome H before found rs old new) (sym (repeated_more i qs)) (come_on H before mid found (repeated i qs) qs old at new x y)

    pub hits_time_ends : (end : Told) → HitsLeave kind spans mid found qs at new (Ok (Some end)) → found ≡ with_hits before (H (repeated count qs) old)
    hits_time_ends end y =
        let rest = repeated (count - (i + 1)) qs in
        y rest ∙ x (qs ++ rest) ∙ ap (λ (rs : List Quantum). with_hits before (H rs old)) (sym (split qs i count less ∙ append_assoc (repeated i qs) qs rest))

    pub hits_time_fails : Comes (repeated i qs) old at → HitsStop kind spans mid found qs at new → HitsStop kind spans before found (repeated count qs) old new
    hits_time_fails comes y =
        subst (λ rs. HitsStop kind spans before found rs old new) (sym (split qs i count less))
        (stop_back before found (repeated i qs ++ qs) (repeated (count - (i + 1)) qs) old new (stop_front before mid found (repeated i qs) qs old at new comes x y))

  pub hits_fail : (before found : Found) (qs : List Quantum) (old new : State) (r : Result Told AllocError) → IsErr r → HitsStop kind spans before found qs (world old) (world new)
      → HitsFollow kind spans before found qs old new r
  hits_fail before found qs old new (Ok end) is y = absurd cc
  hits_fail before found qs old new (Err error) is y = y

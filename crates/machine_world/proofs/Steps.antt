-- Instructions of one process, one after the other, are as many events.
use Rattle.std.proofs.Common.{◌≡◌, ℕ, zero, suc, ◌+◌, false, [], Some, None, refl, sym, ap, subst, ◌∙◌, arith}
use Rattle.byte_words.specs.ByteMap.{Bytes}
use Rattle.rv32im_step.specs.declared.regs.Regs.{Regs}
use Rattle.rv32im_step.specs.declared.stop.Stop.{Stop}
use Rattle.rv32im_step.specs.declared.stop.Stop.TheVariants.{Next, Call, Trap, Refused}
use Rattle.rv32im_step.specs.Meaning.{Meaning, next, call, trap, refused, meaning}
use Rattle.mmap_rules.specs.Space.{Space, writable_in}
use Rattle.region_watch.specs.Instructions.{Ran, ran, goes_on, instructions}
use Rattle.vfork_exec.specs.Keyed.{find}
use Rattle.machine_world.specs.World.{World, Process, LiveSpace, pid_of, id_of}
use Rattle.machine_world.specs.Event.{effect, stepped}
use Rattle.machine_world.specs.Courses.{Leads, Halts, moved}
use Rattle.machine_world.proofs.States.{with_regs, with_own, lives_moved, has_moved, not_moved, moved_twice, event_is}
use Rattle.machine_world.proofs.TurnLaws.{leads_none, leads_on, leads_event}

-- the turn goes on behind what was carried out, and what was not is told
abbrev pub RanOn : ℕ → World → Process → LiveSpace → ℕ → Ran → Type 0
RanOn pid w p s most r =
    let now : World = moved w p r.regs (record s.space { bytes = r.bytes }) r.done in
    Leads pid w r.done now × Halts now pid most r.done r.stop

-- one more
halts_more : (w : World) (pid most done : ℕ) (stop : Stop) → Halts w pid most done stop → Halts w pid (suc most) (done + 1) stop
halts_more w pid most done Next h = let e : done ≡ most = h in omega arith
halts_more w pid most done Call h = let less = h.0 in (omega arith, h.1)
halts_more w pid most done (Trap signal) h = let less = h.0 in (omega arith, h.1)
halts_more w pid most done (Refused access) h = let less = h.0 in (omega arith, h.1)

module _ (pid : ℕ) where
  -- none was carried out
  none : (w : World) (p : Process) (s : LiveSpace) → find pid_of pid w.procs ≡ Some p → find id_of p.space w.spaces ≡ Some s → (most : ℕ) (stop : Stop)
      → Halts w pid most 0 stop → RanOn pid w p s most (ran p.regs s.space.bytes 0 stop)
  none w p s lives has most stop halts =
      let P : World → Type 0 = λ now. Leads pid w 0 now × Halts now pid most 0 stop in
      subst P (sym (not_moved w pid p s lives has)) (leads_none pid w, halts)

  one : (w : World) (p : Process) (s : LiveSpace) → find pid_of pid w.procs ≡ Some p → find id_of p.space w.spaces ≡ Some s → (after : Regs) (now : Bytes)
      → meaning p.regs s.space.bytes (writable_in s.space.maps) ≡ next after now → Leads pid w 1 (moved w p after (record s.space { bytes = now }) 1)
  unfolding stepped
  one w p s lives has after now is =
      leads_event pid w (moved w p after (record s.space { bytes = now }) 1) (record { space = p.space; events = 1; items = []; begins = None; over = false })
      (event_is w pid p s lives has ∙ ap (effect w p s.space) is) refl

  pub run_on : (n : ℕ) (w : World) (p : Process) (s : LiveSpace) → find pid_of pid w.procs ≡ Some p → find id_of p.space w.spaces ≡ Some s
      → RanOn pid w p s n (instructions n (writable_in s.space.maps) p.regs s.space.bytes)
  unfolding instructions
  run_on zero w p s lives has = none w p s lives has 0 Next refl
  run_on (suc n) w p s lives has =
      first (meaning p.regs s.space.bytes (writable_in s.space.maps)) refl (λ v q l. run_on n v q l)
    where
      first : (m : Meaning) → meaning p.regs s.space.bytes (writable_in s.space.maps) ≡ m
          → ((v : World) (q : Process) (l : LiveSpace) → find pid_of pid v.procs ≡ Some q → find id_of q.space v.spaces ≡ Some l
          → RanOn pid v q l n (instructions n (writable_in l.space.maps) q.regs l.space.bytes))
          → RanOn pid w p s (suc n) (goes_on p.regs s.space.bytes (λ after now. instructions n (writable_in s.space.maps) after now) m)
      first (next after now) is more =
          let r : Ran = instructions n (writable_in s.space.maps) after now in
          let own : Space = record s.space { bytes = now } in
          let last : Space = record s.space { bytes = r.bytes } in
          let mid : World = moved w p after own 1 in
          let there = more mid (with_regs p after) (with_own s own)
          (lives_moved w pid p s lives has after own 1) (has_moved w pid p s lives has after own 1) in
          let same : moved mid (with_regs p after) r.regs last r.done ≡ moved w p r.regs last (1 + r.done) =
          moved_twice w p after r.regs own last 1 r.done in
          let sum : 1 + r.done ≡ r.done + 1 = omega arith in
          let P : World → Type 0 = λ v. Leads pid w (1 + r.done) v × Halts v pid (suc n) (r.done + 1) r.stop in
          let Q : ℕ → Type 0 = λ k. Leads pid w k (moved w p r.regs last k) × Halts (moved w p r.regs last k) pid (suc n) (r.done + 1) r.stop in
          subst Q sum (subst P same (
            leads_on pid w mid (moved mid (with_regs p after) r.regs last r.done) 1 r.done (one w p s lives has after now is) there.0,
            halts_more (moved mid (with_regs p after) r.regs last r.done) pid n r.done r.stop there.1,
          ))
      first call is more = none w p s lives has (suc n) Call (omega arith, record { process = p; space = s; lives = lives; has = has; means = is })
      first (trap signal) is more = none w p s lives has (suc n) (Trap signal) (omega arith, record { process = p; space = s; lives = lives; has = has; means = is })
      first (refused access) is more = none w p s lives has (suc n) (Refused access) (omega arith, record { process = p; space = s; lives = lives; has = has; means = is })

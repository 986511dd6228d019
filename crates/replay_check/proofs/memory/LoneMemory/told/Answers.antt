use Rattle.std.proofs.Common.{◌≡◌, ◌∙◌, Bool, refl, ap, sym}
use Rattle.std.specs.Prelude.{Result, Ok}
use Rattle.std.specs.declared.alloc.AllocError.{AllocError}
use Rattle.call_log.specs.Values.{entry_value}
use Rattle.flat_loader.specs.Alone.{is_call}
use Rattle.replay_check.specs.Ranges.{own_memory}
use Rattle.replay_check.specs.Solos.{runner_value}
use Rattle.replay_check.proofs.Telling.{told_put, told_other, told_stray}
use Rattle.replay_check.proofs.memory.LoneMemory.told.Goals as goal
use Rattle.replay_check.proofs.memory.LoneMemory.told.Goals.{then-is_call, else-is_call}

-- an answer is that of its `Ok`
ok_same : {x y : Bool} → ◌≡◌ {A = Result Bool AllocError} (Ok x) (Ok y) → x ≡ y
ok_same is = cc

pub returns-after-is_call-clause-kept : goal.returns-after-is_call-clause-kept
returns-after-is_call-clause-kept c =
    elim c.if-is_call.branch [
      | then-is_call w ↦ rw (w.self-is, w.result-is) (λ is. w.put.ensures.kept (ok_same is))
      | else-is_call w ↦ rw (w.self-is, w.result-is) (λ is. refl)
    ]

pub returns-after-is_call-clause-gives : goal.returns-after-is_call-clause-gives
returns-after-is_call-clause-gives c =
    let top = runner_value c.args.top.now in
    let m = own_memory c.args.self.now in
    let e = entry_value c.args.entry.now in
    let bytes = c.in-Ok.sent.items in
    let tells = ap (λ bs. is_call top bs e) (sym c.deref.ensures.value) ∙ sym c.is_call.ensures in
    elim c.if-is_call.branch [
      | then-is_call w ↦ rw (w.self-is, w.result-is)
          (told_put top m e _ c.args_of-args.result refl c.args_of-args.ensures bytes w.put.result (own_memory w.put.new.self) c.in-Ok.ensures (tells ∙ w.if-is_call.true)
          (rw w.deref-then-is_call.ensures.value at w.put.ensures.gives))
      | else-is_call w ↦ rw (w.self-is, w.result-is, w.if-is_call.false) (told_other top m e _ c.args_of-args.result refl c.args_of-args.ensures bytes m c.in-Ok.ensures (tells ∙ w.if-is_call.false))
    ]

pub returns-in-Err-Stray-clause-gives : goal.returns-in-Err-Stray-clause-gives
returns-in-Err-Stray-clause-gives c =
    let m = own_memory c.args.self.now in
    told_stray (runner_value c.args.top.now) m (entry_value c.args.entry.now) _ c.args_of-args.result refl c.args_of-args.ensures (record { addr = c.in-Err-Stray.field-0-0; len = c.in-Err-Stray.field-0-1 }) _
    (rw c.in-Err-Stray.field-0-is at c.in-Err-Stray.ensures)

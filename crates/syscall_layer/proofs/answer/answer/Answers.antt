-- Each class of calls, in the world of private spaces and in the one memory.
use Rattle.std.proofs.Common.{◌≡◌, true, refl, sym, ap, subst, ◌∙◌}
use Rattle.std.specs.Prelude.{Ok}
use Rattle.machine_world.specs.Asks.{Ask, replies}
use Rattle.machine_world.specs.Rows.{row}
use Rattle.machine_world.specs.Event.{is_exit}
use Rattle.file_calls.specs.Calls.{WaitsOn, is_change, is_output}
use Rattle.kept_parts.specs.Kept.{Kept}
use Rattle.kept_parts.specs.Stands.{About}
use Rattle.kept_parts.specs.Calls.{Caller, asked_by, reply_of}
use Rattle.kept_parts.specs.InMemory.{headers_of}
use Rattle.kept_parts.proofs.Replies.QuietRows.{mute_row, quiet_mute}
use Rattle.syscall_layer.specs.declared.classes.Class.TheVariants.{Exit, Change, Output, Waitid, Munmap, Clone, Execve, Mmap2, Effect}
use Rattle.syscall_layer.specs.Classes.{IsEffect}
use Rattle.syscall_layer.proofs.ByClass.{of_class, change_goes, output_goes, wait_goes}
use Rattle.syscall_layer.proofs.MapRows.{quiet_munmap, quiet_mmap2}
use Rattle.kept_parts.proofs.Replies.Outcomes.{IsRow, made_by, files_in, change_row, output_row, number_row, plain_row, exit_classed, row_classed, wait_classed, effect_classed, waitid_classed, clone_classed, exec_classed}
use Rattle.kept_parts.proofs.Replies.InMemory.{exit_reach, wait_reach, mute_reach, row_reach, carried_reach, effect_reach, waitid_reach, clone_reach, exec_reach}
use Rattle.syscall_layer.proofs.answer.answer.Given.{Over}
use Rattle.syscall_layer.proofs.answer.answer.Goals as goal

-- ---- what the class of each says of its number

module _ (g : Over) (c : goal.After-answer_change g) where
  change : is_change c.args.call.number ≡ true
  change = of_class c.args.call.number c.class_of.result Change c.class_of.ensures c.in-Change.is

  is_change_row : IsRow c.args.call.number
  is_change_row = change_row c.args.call.number (change_goes c.args.call.number change) change

module _ (g : Over) (c : goal.After-answer_output g) where
  is_output_row : IsRow c.args.call.number
  is_output_row =
      let output : is_output c.args.call.number ≡ true = of_class c.args.call.number c.class_of.result Output c.class_of.ensures c.in-Output.is in
      output_row c.args.call.number (output_goes c.args.call.number output) output

module _ (g : Over) (c : goal.After-answer_exit g) where
  exits : is_exit c.args.call.number ≡ true
  exits = of_class c.args.call.number c.class_of.result Exit c.class_of.ensures c.in-Exit.is

module _ (g : Over) (c : goal.After-answer_waitid g) where
  is_waitid : c.args.call.number ≡ 95
  is_waitid = of_class c.args.call.number c.class_of.result Waitid c.class_of.ensures c.in-Waitid.is

module _ (g : Over) (c : goal.After-answer_clone g) where
  is_clone : c.args.call.number ≡ 220
  is_clone = of_class c.args.call.number c.class_of.result Clone c.class_of.ensures c.in-Clone.is

module _ (g : Over) (c : goal.After-answer_exec g) where
  is_execve : c.args.call.number ≡ 221
  is_execve = of_class c.args.call.number c.class_of.result Execve c.class_of.ensures c.in-Execve.is

module _ (g : Over) (c : goal.After-answer_unmap g) where
  is_munmap : c.args.call.number ≡ 215
  is_munmap = of_class c.args.call.number c.class_of.result Munmap c.class_of.ensures c.in-Munmap.is

  is_munmap_row : IsRow c.args.call.number
  is_munmap_row = number_row c.args.call.number (ap is_exit is_munmap) 215 is_munmap refl refl refl

module _ (g : Over) (c : goal.After-answer_map g) where
  is_mmap2 : c.args.call.number ≡ 222
  is_mmap2 = of_class c.args.call.number c.class_of.result Mmap2 c.class_of.ensures c.in-Mmap2.is

  is_mmap2_row : IsRow c.args.call.number
  is_mmap2_row = number_row c.args.call.number (ap is_exit is_mmap2) 222 is_mmap2 refl refl refl

-- ---- in the world of private spaces

pub returns-in-Exit-clause-answers : goal.returns-in-Exit-clause-answers
returns-in-Exit-clause-answers g c = record {
  serves = λ own a kind flats holding caller.
      exit_classed a c.args.parts.now caller.entry caller.held c.args.call caller.runs caller.stands c.answer_exit.new.parts c.answer_exit.result (exits g c) (c.answer_exit.ensures.serves a caller);
  memory = λ a kind flats caller.
      exit_reach (headers_of c.args.programs.now) a c.args.parts.now caller.entry caller.held c.args.call caller.stands c.args.mode c.answer_exit.new.parts c.answer_exit.result
      (exits g c) c.answer_exit.ensures.memory (c.answer_exit.ensures.serves a caller);
  holds = λ own. c.answer_exit.ensures.holds;
}

pub returns-in-Some-clause-answers : goal.returns-in-Some-clause-answers
returns-in-Some-clause-answers g c = record {
  serves = λ own a kind flats holding caller.
      let k = c.args.parts.now in
      let call = c.args.call in
      let files = files_in a k caller.entry caller.held call (ap (λ (x : Kept). x.files) (sym c.parts.view_is)) in
      let waits = subst (WaitsOn (row (asked_by a caller))) c.in-Some.is (c.wait_of.ensures (asked_by a caller) (made_by a k caller.entry caller.held call caller.runs caller.stands) files) in
      wait_classed a k caller.entry caller.held call caller.runs caller.stands c.answer_wait.new.parts (Ok c.answer_wait.result) c.in-Some.pipe (ap is_exit caller.stands.number ∙ wait_goes (asked_by a caller) c.in-Some.pipe waits) waits (c.answer_wait.ensures.waits a caller);
  memory = λ a kind flats caller.
      let k = c.args.parts.now in
      let call = c.args.call in
      let files = files_in a k caller.entry caller.held call (ap (λ (x : Kept). x.files) (sym c.parts.view_is)) in
      let waits = subst (WaitsOn (row (asked_by a caller))) c.in-Some.is (c.wait_of.ensures (asked_by a caller) (made_by a k caller.entry caller.held call caller.runs caller.stands) files) in
      wait_reach (headers_of c.args.programs.now) a k caller.entry caller.held call caller.stands c.args.mode c.answer_wait.new.parts c.answer_wait.result c.in-Some.pipe
      (ap is_exit caller.stands.number ∙ wait_goes (asked_by a caller) c.in-Some.pipe waits) waits c.answer_wait.ensures.memory (c.answer_wait.ensures.waits a caller);
  holds = λ own. c.answer_wait.ensures.holds;
}

pub returns-in-Change-clause-answers : goal.returns-in-Change-clause-answers
returns-in-Change-clause-answers g c = record {
  serves = λ own a kind flats holding caller.
      row_classed a c.args.parts.now caller.entry caller.held c.args.call caller.runs caller.stands c.answer_change.new.parts c.answer_change.result
      (is_change_row g c) (c.answer_change.ensures.serves a caller);
  memory = λ a kind flats caller.
      let k = c.args.parts.now in
      let call = c.args.call in
      mute_reach (headers_of c.args.programs.now) a k caller.entry caller.held call caller.stands c.args.mode c.answer_change.new.parts c.answer_change.result
      (is_change_row g c) (mute_row (asked_by a caller) (ap is_change (sym caller.stands.number) ∙ change g c))
      c.answer_change.ensures.memory (c.answer_change.ensures.serves a caller);
  holds = λ own. c.answer_change.ensures.holds;
}

pub returns-in-Output-clause-answers : goal.returns-in-Output-clause-answers
returns-in-Output-clause-answers g c = record {
  serves = λ own a kind flats holding caller.
      row_classed a c.args.parts.now caller.entry caller.held c.args.call caller.runs caller.stands c.answer_output.new.parts c.answer_output.result
      (is_output_row g c) (c.answer_output.ensures.serves own a caller);
  memory = λ a kind flats caller.
      row_reach (headers_of c.args.programs.now) a c.args.parts.now caller.entry caller.held c.args.call caller.stands c.args.mode c.answer_output.new.parts c.answer_output.result
      (is_output_row g c)
      (c.answer_output.ensures.memory (headers_of c.args.programs.now) a caller);
  holds = c.answer_output.ensures.holds;
}

pub returns-in-Waitid-clause-answers : goal.returns-in-Waitid-clause-answers
returns-in-Waitid-clause-answers g c = record {
  serves = λ own a kind flats holding caller.
      waitid_classed a c.args.parts.now caller.entry caller.held c.args.call caller.runs caller.stands c.answer_waitid.new.parts c.answer_waitid.result (is_waitid g c) (c.answer_waitid.ensures.serves own a caller);
  memory = λ a kind flats caller.
      waitid_reach (headers_of c.args.programs.now) a c.args.parts.now caller.entry caller.held c.args.call caller.stands c.args.mode c.answer_waitid.new.parts c.answer_waitid.result (is_waitid g c)
      (c.answer_waitid.ensures.memory (headers_of c.args.programs.now) a caller);
  holds = c.answer_waitid.ensures.holds;
}

pub returns-in-Munmap-clause-answers : goal.returns-in-Munmap-clause-answers
returns-in-Munmap-clause-answers g c = record {
  serves = λ own a kind flats holding caller.
      row_classed a c.args.parts.now caller.entry caller.held c.args.call caller.runs caller.stands c.answer_unmap.new.parts c.answer_unmap.result
      (is_munmap_row g c) (c.answer_unmap.ensures.serves a caller);
  memory = λ a kind flats caller.
      let k = c.args.parts.now in
      let call = c.args.call in
      let ask : Ask = asked_by a caller in
      mute_reach (headers_of c.args.programs.now) a k caller.entry caller.held call caller.stands c.args.mode c.answer_unmap.new.parts c.answer_unmap.result
      (is_munmap_row g c)
      (quiet_mute (row ask) (quiet_munmap call ask (made_by a k caller.entry caller.held call caller.runs caller.stands) (is_munmap g c)))
      c.answer_unmap.ensures.memory (c.answer_unmap.ensures.serves a caller);
  holds = λ own. c.answer_unmap.ensures.holds;
}

pub returns-in-Clone-clause-answers : goal.returns-in-Clone-clause-answers
returns-in-Clone-clause-answers g c = record {
  serves = λ own a kind flats holding caller.
      clone_classed a c.args.parts.now caller.entry caller.held c.args.call caller.runs caller.stands c.answer_clone.new.parts c.answer_clone.result (is_clone g c) (c.answer_clone.ensures.serves a caller);
  memory = λ a kind flats caller.
      clone_reach (headers_of c.args.programs.now) a c.args.parts.now caller.entry caller.held c.args.call caller.stands c.args.mode c.answer_clone.new.parts c.answer_clone.result (is_clone g c)
      c.answer_clone.ensures.memory (c.answer_clone.ensures.serves a caller);
  holds = λ own. c.answer_clone.ensures.holds;
}

pub returns-in-Execve-clause-answers : goal.returns-in-Execve-clause-answers
returns-in-Execve-clause-answers g c = record {
  serves = λ own a kind flats holding caller.
      exec_classed a c.args.parts.now caller.entry caller.held c.args.call caller.runs caller.stands c.answer_exec.new.parts c.answer_exec.result (is_execve g c) (c.answer_exec.ensures.serves a kind flats caller);
  memory = λ a kind flats caller.
      exec_reach (headers_of c.args.programs.now) a c.args.parts.now caller.entry caller.held c.args.call caller.stands c.args.mode c.answer_exec.new.parts c.answer_exec.result (is_execve g c)
      (c.answer_exec.ensures.memory a kind flats caller);
  holds = λ own. c.answer_exec.ensures.holds;
}

pub returns-in-Mmap2-clause-answers : goal.returns-in-Mmap2-clause-answers
returns-in-Mmap2-clause-answers g c = record {
  serves = λ own a kind flats holding caller.
      row_classed a c.args.parts.now caller.entry caller.held c.args.call caller.runs caller.stands c.answer_map.new.parts c.answer_map.result
      (is_mmap2_row g c) (c.answer_map.ensures.serves a kind holding caller);
  memory = λ a kind flats caller.
      let k = c.args.parts.now in
      let call = c.args.call in
      let ask : Ask = asked_by a caller in
      carried_reach (headers_of c.args.programs.now) a k caller.entry caller.held call caller.stands c.args.mode c.answer_map.new.parts c.answer_map.result
      (is_mmap2_row g c)
      (quiet_mute (row ask) (quiet_mmap2 call ask (made_by a k caller.entry caller.held call caller.runs caller.stands) (is_mmap2 g c)))
      (c.answer_map.ensures.memory (headers_of c.args.programs.now) a kind caller);
  holds = λ own. c.answer_map.ensures.holds;
}

-- ---- a call that touches neither files nor memory

module _ (g : Over) (c : goal.After-answer_effect g) where
  plain : IsRow c.args.call.number
  plain =
      let of : IsEffect c.args.call.number = of_class c.args.call.number c.class_of.result Effect c.class_of.ensures c.in-Effect.is in
      plain_row c.args.call.number of.exit of.waitid of.clone of.execve

  rows : (a : About) (caller : Caller c.args.parts.now c.args.call) → row (asked_by a caller) ≡ replies (reply_of (asked_by a caller) c.effect_of-effect.result)
  rows a caller =
      let k = c.args.parts.now in
      let call = c.args.call in
      c.effect_of-effect.ensures (asked_by a caller) (made_by a k caller.entry caller.held call caller.runs caller.stands)
      (files_in a k caller.entry caller.held call (ap (λ (x : Kept). x.files) (sym c.parts.view_is)))

pub returns-in-Effect-clause-answers : goal.returns-in-Effect-clause-answers
returns-in-Effect-clause-answers g c = record {
  serves = λ own a kind flats holding caller.
      effect_classed a c.args.parts.now caller.entry caller.held c.args.call caller.runs caller.stands c.answer_effect.new.parts c.answer_effect.result c.effect_of-effect.result (plain g c) (rows g c a caller) (c.answer_effect.ensures.serves a caller);
  memory = λ a kind flats caller.
      effect_reach (headers_of c.args.programs.now) a c.args.parts.now caller.entry caller.held c.args.call caller.stands c.args.mode c.answer_effect.new.parts c.answer_effect.result c.effect_of-effect.result
      (plain g c) (rows g c a caller) c.answer_effect.ensures.memory (c.answer_effect.ensures.serves a caller);
  holds = λ own. c.answer_effect.ensures.holds;
}

-- ---- in the one memory

-- ---- what each answer leaves

pub returns-in-Exit-clause-leaves : goal.returns-in-Exit-clause-leaves
returns-in-Exit-clause-leaves g c = c.answer_exit.ensures.leaves

pub returns-in-Some-clause-leaves : goal.returns-in-Some-clause-leaves
returns-in-Some-clause-leaves g c = c.answer_wait.ensures.leaves

pub returns-in-Change-clause-leaves : goal.returns-in-Change-clause-leaves
returns-in-Change-clause-leaves g c = c.answer_change.ensures.leaves

pub returns-in-Output-clause-leaves : goal.returns-in-Output-clause-leaves
returns-in-Output-clause-leaves g c = c.answer_output.ensures.leaves

pub returns-in-Waitid-clause-leaves : goal.returns-in-Waitid-clause-leaves
returns-in-Waitid-clause-leaves g c = c.answer_waitid.ensures.leaves

pub returns-in-Munmap-clause-leaves : goal.returns-in-Munmap-clause-leaves
returns-in-Munmap-clause-leaves g c = c.answer_unmap.ensures.leaves

pub returns-in-Clone-clause-leaves : goal.returns-in-Clone-clause-leaves
returns-in-Clone-clause-leaves g c = c.answer_clone.ensures.leaves

pub returns-in-Execve-clause-leaves : goal.returns-in-Execve-clause-leaves
returns-in-Execve-clause-leaves g c = c.answer_exec.ensures.leaves

pub returns-in-Mmap2-clause-leaves : goal.returns-in-Mmap2-clause-leaves
returns-in-Mmap2-clause-leaves g c = c.answer_map.ensures.leaves c.requires.ready

pub returns-in-Effect-clause-leaves : goal.returns-in-Effect-clause-leaves
returns-in-Effect-clause-leaves g c = c.answer_effect.ensures.leaves c.requires.ready

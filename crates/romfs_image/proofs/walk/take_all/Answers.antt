use Rattle.std.proofs.Common.{length, sym, ap, ◌∙◌, subst, inl, inr, arith}
use Rattle.std.specs.Prelude.{reverse}
use Rattle.std.proofs.lemmas.List.{length-map}
use Rattle.std.proofs.lemmas.Grind.{common_steps}
use Rattle.std.proofs.lemmas.Result.{err_from_is_err_and}
use Rattle.romfs_image.specs.Walk.{pending}
use Rattle.romfs_image.specs.Reading.{FilesFit}
use Rattle.romfs_image.specs.Code.{entry_value, found, header_value, HasNames}
use Rattle.romfs_image.proofs.Walks.{words_fit, walk_begins, files_none, no_fault, first_fault, second_fault, fit_behind, stopped, taken_on}
use Rattle.romfs_image.proofs.walk.take_all.Goals as goal

pub overflow_cast-name_end : goal.overflow_cast-name_end
overflow_cast-name_end c = omega (arith, c.name_end.ensures.value, c.requires.volume, c.requires.long)

pub loop-init : goal.loop-init
loop-init c =
    let y = c.args.image.now in
    record {
      rest = walk_begins y c.name_end.result _ _ c.name_end.ensures.value (omega (arith, c.name_end.ensures.past)) (c.in_ok-go_on.ensures ∙ ap (λ ls. pending c.name_end.result 0 (reverse ls)) c.requires.nothing.levels) (ap found c.requires.nothing.entries);
      few = omega (arith, ap length c.requires.nothing.entries);
      names = subst (HasNames c.args.names.now) (sym (ap found c.requires.nothing.entries)) c.requires.nothing.names;
      fit = files_none y _ (ap found c.requires.nothing.entries);
    }

pub returns-in_err-header-clause-fault : goal.returns-in_err-header-clause-fault
returns-in_err-header-clause-fault c =
    let p = err_from_is_err_and c.from_residual-in_err-header.result c.from_residual-in_err-header.ensures.1 in
    let y = c.args.image.now in
    let entries = found c.loop.entries.items in
    rw (p.1, p.2) (inr (stopped y c.loop.counter c.loop.before c.loop.levels.items c.pop.new.self.items c.in-Some.level entries _ c.loop-test.true c.in-Some.ensures.items c.loop.invariant.rest
    (first_fault y c.loop.before c.in-Some.level entries _ c.in_err-header.ensures)))

pub returns-in_err-add-clause-fault : goal.returns-in_err-add-clause-fault
returns-in_err-add-clause-fault c =
    let p = err_from_is_err_and c.from_residual-in_err-add.result c.from_residual-in_err-add.ensures.1 in
    let y = c.args.image.now in
    let entries = found c.loop.entries.items in
    let sound = c.in_ok-header.ensures in
    rw (p.1, p.2) (elim c.in_err-add.ensures.err [
      | inl memory ↦ inl memory
      | inr old ↦ inr (stopped y c.loop.counter c.loop.before c.loop.levels.items c.pop.new.self.items c.in-Some.level entries _ c.loop-test.true c.in-Some.ensures.items c.loop.invariant.rest
          (second_fault y c.loop.before c.in-Some.level entries (header_value c.in_ok-header.header) _ sound.1 sound.0 old))
    ])

pub loop-preserved : goal.loop-preserved
loop-preserved c =
    let y = c.args.image.now in
    let level = c.in-Some.level in
    let entries = found c.loop.entries.items in
    let h = header_value c.in_ok-header.header in
    let sound = c.in_ok-header.ensures in
    let good = no_fault y c.loop.before level entries h sound.1 sound.0 c.in_ok-add.ensures.ok in
    record {
      rest = taken_on y c.loop.counter c.loop.before c.loop.levels.items c.pop.new.self.items level entries h _ _ _ c.loop-test.true c.in-Some.ensures.items c.loop.invariant.rest sound.1 good
          (grind (arith, common_steps, c.len.ensures, length-map c.loop.entries.items entry_value)) c.in_ok-go_behind.ensures c.in_ok-add.ensures.added;
      few = omega (arith, c.loop.invariant.few, c.in_ok-add.ensures.len);
      names = c.in_ok-add.ensures.names;
      fit = subst (FilesFit y) (sym c.in_ok-add.ensures.added) (fit_behind y h level entries (words_fit y c.loop.before level.at sound.0) c.loop.invariant.fit);
    }

use Rattle.std.proofs.Common.{◌<◌, [], ◌∷◌, length, arith, subst}
use Rattle.std.proofs.lemmas.List.Elements.{All-more}
use Rattle.elf_maker.specs.Fits.{FitsPart}
use Rattle.elf_maker.specs.Spelling.{Adds, part_item}
use Rattle.elf_maker.proofs.Laid.{parts_more, parts_room}
use Rattle.elf_maker.proofs.making.push_parts.Goals as goal

pub push-requires : goal.push-requires
push-requires c =
    let room = parts_room c.args.writer.now c.loop-part.writer c.args.parts.now c.loop-part.part-index c.loop-part.invariant.added in
    omega (arith, room)

pub loop-part-preserved : goal.loop-part-preserved
loop-part-preserved c =
    let i = c.loop-part.part-index in
    let p = c.part-item.result in
    let below : i < length c.args.parts.now = c.loop-part-test.true in
    let pushed : Adds c.loop-part.writer c.push.new.self (part_item p ∷ []) = rw (← c.part_section.ensures.header, ← c.deref.ensures.value) c.in_ok-push.ensures in
    let fits : FitsPart p = c.part_section.ensures.fits in
    record {
      added = parts_more c.args.writer.now c.loop-part.writer c.push.new.self c.args.parts.now i p below c.part-item.is c.loop-part.invariant.added pushed;
      fits = All-more FitsPart c.args.parts.now i p below c.loop-part.invariant.fits (subst FitsPart c.part-item.is fits);
    }

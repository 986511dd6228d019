use Rattle.std.proofs.Common.{◌∙◌, sym, ap, subst}
use Rattle.std.specs.Prelude.{IfOk, Err, nat_lt, ◌||◌}
use Rattle.flat_loader.specs.Original.{Original}
use Rattle.flat_loader.specs.Alone.{alone}
use Rattle.originals.specs.Originals.{elf_original}
use Rattle.items_text.specs.Values.{items_value}
use Rattle.replay_check.specs.Verdicts.{Judges}
use Rattle.replay_check.specs.Loops.{items_alone}
use Rattle.replay_check.specs.Replays.{original_value, loading_of, replayed, Replays}
use Rattle.replay_check.proofs.NewRanges.{not_is, is_not}
use Rattle.replay_check.proofs.Placing.{placed_judges, no_stack, elf_placed, elf_program_is, refused_replays, flat_placed, flat_program_is}
use Rattle.replay_check.proofs.program.replay.Goals as goal

pub returns-in-Err : goal.returns-in-Err
returns-in-Err c =
    let i = items_value c.args.items.now in
    let w = replayed (original_value c.args.original.now) i in
    record {
      replays = subst (λ e. Replays w (Err e)) (sym c.refused.ensures) (refused_replays c.args.original.now i c.in-Elf.bytes c.in-Elf.is c.in-Err.refusal c.in-Err.ensures.file);
      judges = tt;
    }

pub returns-then-not-is_stack-clause-replays : goal.returns-then-not-is_stack-clause-replays
returns-then-not-is_stack-clause-replays c =
    let i = items_value c.args.items.now in
    no_stack c.args.original.now i c.in-Elf.bytes c.in-Elf.is c.in-Ok.ensures.file.0 (is_not (nat_lt i.stack 16 || nat_lt 1048576 i.stack) _ c.if-not-is_stack.true c.is_stack.ensures)

pub returns-else-not-is_stack-clause-replays : goal.returns-else-not-is_stack-clause-replays
returns-else-not-is_stack-clause-replays c =
    let i = items_value c.args.items.now in
    let within = not_is (nat_lt i.stack 16 || nat_lt 1048576 i.stack) _ c.if-not-is_stack.false c.is_stack.ensures in
    let program = c.in-Ok.ensures.original ∙ ap (elf_original c.in-Elf.bytes.now) (c.some_stack.ensures.same within) in
    subst (λ w. Replays w c.replay_flat.result) (sym (elf_placed c.args.original.now i c.in-Elf.bytes c.in-Elf.is c.in-Ok.ensures.file.0 within _ program)) c.replay_flat.ensures

pub returns-else-not-is_stack-clause-judges : goal.returns-else-not-is_stack-clause-judges
returns-else-not-is_stack-clause-judges c =
    let i = items_value c.args.items.now in
    let within = not_is (nat_lt i.stack 16 || nat_lt 1048576 i.stack) _ c.if-not-is_stack.false c.is_stack.ensures in
    let program = c.in-Ok.ensures.original ∙ ap (elf_original c.in-Elf.bytes.now) (c.some_stack.ensures.same within) in
    subst (λ (p : Original). IfOk c.replay_flat.result (λ v. Judges v (alone (loading_of p i) i.pid (items_alone i.list) i.events))) (elf_program_is c.args.original.now i c.in-Elf.bytes c.in-Elf.is _ program)
    (placed_judges _ i c.replay_flat.result c.replay_flat.ensures)

pub returns-in-Flat-clause-replays : goal.returns-in-Flat-clause-replays
returns-in-Flat-clause-replays c =
    let i = items_value c.args.items.now in
    subst (λ w. Replays w c.replay_flat-in-Flat.result) (flat_placed c.args.original.now i c.in-Flat.flat c.in-Flat.is) c.replay_flat-in-Flat.ensures

pub returns-in-Flat-clause-judges : goal.returns-in-Flat-clause-judges
returns-in-Flat-clause-judges c =
    let i = items_value c.args.items.now in
    subst (λ (p : Original). IfOk c.replay_flat-in-Flat.result (λ v. Judges v (alone (loading_of p i) i.pid (items_alone i.list) i.events))) (flat_program_is c.args.original.now i c.in-Flat.flat c.in-Flat.is)
    (placed_judges _ i c.replay_flat-in-Flat.result c.replay_flat-in-Flat.ensures)

-- Within what the parts reach.
use Rattle.std.proofs.Common.{rules, sym, subst, ◌∙◌}
use Rattle.region_watch.specs.declared.mode.Mode.{Mode}
use Rattle.watch_points.specs.Watchers.{watched_by}
use Rattle.flat_machine.specs.Steps.{MemorySteps}
use Rattle.flat_machine.proofs.TurnsIn.{own_of}
use Rattle.flat_machine.proofs.turn.instructions.Goals as goal

pub returns-clause-keeps : goal.returns-clause-keeps
returns-clause-keeps g c =
    let v = c.parts.view_is in
    let advanced = c.advance.ensures.keeps in
    record {
      keeps = record { programs = search rules; mode = search rules; noted = search rules };
      ready = advanced.ready;
      within = advanced.within;
      notes = search rules;
      still = λ none. let same = advanced.still none in search rules;
    }

pub returns-clause-own : goal.returns-clause-own
returns-clause-own g c quiet = rw (← c.parts.view_is) (c.advance.ensures.own (own_of c.watch_mode-within.result (sym c.watch_mode-within.ensures.strayed ∙ quiet)))

pub returns-clause-memory : goal.returns-clause-memory
returns-clause-memory g c =
    let v = c.parts.view_is in
    let is = rw (← v) at c.watch_mode-within.ensures.mode in
    rw (← v) (subst (λ (r : Mode). MemorySteps (watched_by c.args.watcher.now) c.args.pid c.args.count r c.parts.inside.kept c.args.hits.now c.advance.result c.advance.new.parts c.advance.new.hits) is c.advance.ensures.memory)

-- One instruction over all of memory, or the event at which the process stands.
use Rattle.std.proofs.Common.{◌≡◌, ◌≢◌, ℕ, List, true, sym, ap, subst, ◌∙◌, rules, arith}
use Rattle.std.specs.Prelude.{OnErr}
use Rattle.std.proofs.lemmas.Bool.{false≢true}
use Rattle.bflt_format.specs.Values.{Values}
use Rattle.rv32im_step.specs.declared.stop.Stop.TheVariants.{Next}
use Rattle.memory_world.specs.Physical.{has_stray}
use Rattle.memory_world.specs.Courses.{LeadsIn}
use Rattle.page_runs.specs.Choosers.{kind_of}
use Rattle.region_watch.specs.declared.mode.Mode.TheVariants.{Halt, GoOn}
use Rattle.kept_parts.specs.Flats.{AreFlats}
use Rattle.kept_parts.specs.InMemory.{headers_of, physical_of}
use Rattle.kept_parts.specs.Kept.{Kept}
use Rattle.kept_parts.specs.Reach.{reach_of}
use Rattle.kept_parts.specs.Stands.{About, later}
use Rattle.syscall_layer.specs.Parts.{RunParts}
use Rattle.watch_points.specs.Points.{Found, kind_of_point}
use Rattle.flat_machine.specs.Hits.{turn_hits_in}
use Rattle.flat_machine.specs.HitsLeft.{HitsLead, EventHits}
use Rattle.flat_machine.specs.LeavesIn.{CarriedWithin, EventIn}
use Rattle.flat_machine.specs.State.{is_whole}
use Rattle.flat_machine.proofs.TurnsIn.{reach_noted, all_within, less_within, standing}
use Rattle.flat_machine.proofs.EventsOn.{carried_noted, event_whole, hits_whole, none_hit_by, firm_whole}
use Rattle.flat_machine.proofs.turn.whole_event.Goals as goal

pub returns-then-eq-clause-event : goal.returns-then-eq-clause-event
returns-then-eq-clause-event g c = record {
  memory = λ a so are.
      let is : c.instructions-progress.result.stop ≡ Next = search rules in
      let one = all_within (reach_of c.instructions-progress.new.parts.noted) (physical_of (headers_of c.args.parts.now.programs) (later c.instructions-progress.result.done a) c.instructions-progress.new.parts.kept) c.args.pid 1 c.instructions-progress.result.done c.instructions-progress.result.stop is (c.instructions-progress.ensures.memory.halts (headers_of c.args.parts.now.programs) a) in
      (subst (λ (n : ℕ). LeadsIn c.args.pid (physical_of (headers_of c.args.parts.now.programs) a c.args.parts.now.kept) n (physical_of (headers_of c.args.parts.now.programs) (later n a) c.instructions-progress.new.parts.kept)) one (c.instructions-progress.ensures.memory.leads (headers_of c.args.parts.now.programs) a), c.instructions-progress.ensures.keeps.ready);
  hits = λ a so are.
      let is : c.instructions-progress.result.stop ≡ Next = search rules in
      let one = all_within (reach_of c.instructions-progress.new.parts.noted) (physical_of (headers_of c.args.parts.now.programs) (later c.instructions-progress.result.done a) c.instructions-progress.new.parts.kept) c.args.pid 1 c.instructions-progress.result.done c.instructions-progress.result.stop is (c.instructions-progress.ensures.memory.halts (headers_of c.args.parts.now.programs) a) in
      subst (λ (n : ℕ). HitsLead (turn_hits_in (kind_of_point c.args.watcher.now.point.now) c.args.watcher.now.spans.now c.args.pid) c.args.hits.now c.instructions-progress.new.hits (physical_of (headers_of c.args.parts.now.programs) a c.args.parts.now.kept) n (physical_of (headers_of c.args.parts.now.programs) (later n a) c.instructions-progress.new.parts.kept)) one (c.instructions-progress.ensures.memory.hits (headers_of c.args.parts.now.programs) a);
}

pub event_within-requires-clause-stands : goal.event_within-requires-clause-stands
event_within-requires-clause-stands g c =
    let other : c.instructions-progress.result.stop ≢ Next = search rules in
    record {
      may = record {
        ready = c.instructions-progress.ensures.keeps.ready;
        halting = λ halt. absurd (let both : Halt ≡ GoOn = sym halt ∙ c.instructions-progress.ensures.keeps.keeps.mode ∙ c.requires.behind.goes_on in cc);
      };
      noted = c.instructions-progress.ensures.keeps.keeps.noted;
      own = λ quiet. absurd (false≢true (sym quiet ∙ ap has_stray c.instructions-progress.ensures.keeps.notes ∙ c.requires.behind.strayed));
      memory = standing (reach_of c.instructions-progress.new.parts.noted) c.instructions-progress.new.parts.kept c.args.pid 1 c.instructions-progress.result.done c.instructions-progress.result.stop other c.instructions-progress.ensures.memory.halts;
    }

pub returns-clause-event : goal.returns-clause-event
returns-clause-event g c = record {
  memory = λ a so are.
      let other : c.instructions-progress.result.stop ≢ Next = search rules in
      let less = less_within (reach_of c.instructions-progress.new.parts.noted) c.instructions-progress.new.parts.kept c.args.pid 1 c.instructions-progress.result.done c.instructions-progress.result.stop other c.instructions-progress.ensures.memory.halts in
      let same = c.instructions-progress.ensures.keeps.still (omega (arith, less)) in
      let within = subst (λ (ps : List Values). (a : About) → a.kind ≡ kind_of c.args.chooser.now → AreFlats a.programs ps → CarriedWithin (headers_of ps) a c.instructions-progress.new.parts.kept c.event_within.new.parts.kept c.args.pid c.event_within.result) (c.instructions-progress.ensures.keeps.keeps.programs) ((c.event_within.ensures.goes_on (c.instructions-progress.ensures.keeps.keeps.mode ∙ c.requires.behind.goes_on)).memory) in
      let carried = carried_noted (headers_of c.args.parts.now.programs) a c.instructions-progress.new.parts.kept c.event_within.new.parts.kept c.args.pid (ap has_stray c.instructions-progress.ensures.keeps.notes ∙ c.requires.behind.strayed) c.event_within.result (within a so are) in
      subst (λ (k : Kept). EventIn (headers_of c.args.parts.now.programs) a k c.event_within.new.parts.kept c.args.pid c.event_within.result) (ap (λ (p : RunParts). p.kept) same) (event_whole (headers_of c.args.parts.now.programs) a c.instructions-progress.new.parts.kept c.event_within.new.parts.kept c.args.pid c.event_within.result carried);
  hits = λ a so are.
      let other : c.instructions-progress.result.stop ≢ Next = search rules in
      let less = less_within (reach_of c.instructions-progress.new.parts.noted) c.instructions-progress.new.parts.kept c.args.pid 1 c.instructions-progress.result.done c.instructions-progress.result.stop other c.instructions-progress.ensures.memory.halts in
      let none : c.instructions-progress.result.done ≡ 0 = omega (arith, less) in
      let same = c.instructions-progress.ensures.keeps.still none in
      let lead = subst (λ (n : ℕ). HitsLead (turn_hits_in (kind_of_point c.args.watcher.now.point.now) c.args.watcher.now.spans.now c.args.pid) c.args.hits.now c.instructions-progress.new.hits (physical_of (headers_of c.args.parts.now.programs) a c.args.parts.now.kept) n (physical_of (headers_of c.args.parts.now.programs) (later n a) c.instructions-progress.new.parts.kept)) none (c.instructions-progress.ensures.memory.hits (headers_of c.args.parts.now.programs) a) in
      let kept = none_hit_by (kind_of_point c.args.watcher.now.point.now) c.args.watcher.now.spans.now c.args.pid c.args.hits.now c.instructions-progress.new.hits (physical_of (headers_of c.args.parts.now.programs) a c.args.parts.now.kept) (physical_of (headers_of c.args.parts.now.programs) (later 0 a) c.instructions-progress.new.parts.kept) lead in
      let within = subst (λ (ps : List Values). (a : About) → a.kind ≡ kind_of c.args.chooser.now → AreFlats a.programs ps → CarriedWithin (headers_of ps) a c.instructions-progress.new.parts.kept c.event_within.new.parts.kept c.args.pid c.event_within.result) (c.instructions-progress.ensures.keeps.keeps.programs) ((c.event_within.ensures.goes_on (c.instructions-progress.ensures.keeps.keeps.mode ∙ c.requires.behind.goes_on)).memory) in
      let carried = carried_noted (headers_of c.args.parts.now.programs) a c.instructions-progress.new.parts.kept c.event_within.new.parts.kept c.args.pid (ap has_stray c.instructions-progress.ensures.keeps.notes ∙ c.requires.behind.strayed) c.event_within.result (within a so are) in
      let whole : is_whole (reach_of c.instructions-progress.new.parts.noted) ≡ true = reach_noted c.instructions-progress.new.parts.noted ∙ c.instructions-progress.ensures.keeps.keeps.noted ∙ ap has_stray c.instructions-progress.ensures.keeps.notes ∙ c.requires.behind.strayed in
      let here = hits_whole (kind_of_point c.args.watcher.now.point.now) c.args.watcher.now.spans.now c.args.pid (headers_of c.args.parts.now.programs) a c.instructions-progress.new.parts.kept c.event_within.new.parts.kept c.instructions-progress.result.stop
      (firm_whole (reach_of c.instructions-progress.new.parts.noted) (physical_of (headers_of c.args.parts.now.programs) a c.instructions-progress.new.parts.kept) c.args.pid c.instructions-progress.result.stop whole (standing (reach_of c.instructions-progress.new.parts.noted) c.instructions-progress.new.parts.kept c.args.pid 1 c.instructions-progress.result.done c.instructions-progress.result.stop other c.instructions-progress.ensures.memory.halts (headers_of c.args.parts.now.programs) a))
      c.instructions-progress.new.hits c.event_within.result carried in
      let from_old = subst (λ (k : Kept). EventHits (turn_hits_in (kind_of_point c.args.watcher.now.point.now) c.args.watcher.now.spans.now c.args.pid) c.instructions-progress.new.hits c.instructions-progress.new.hits (physical_of (headers_of c.args.parts.now.programs) a k) (physical_of (headers_of c.args.parts.now.programs) (later 1 a) c.event_within.new.parts.kept) c.event_within.result) (ap (λ (p : RunParts). p.kept) same) here in
      subst (λ (f : Found). EventHits (turn_hits_in (kind_of_point c.args.watcher.now.point.now) c.args.watcher.now.spans.now c.args.pid) f c.instructions-progress.new.hits (physical_of (headers_of c.args.parts.now.programs) a c.args.parts.now.kept) (physical_of (headers_of c.args.parts.now.programs) (later 1 a) c.event_within.new.parts.kept) c.event_within.result) kept from_old;
}

pub returns-clause-keeps : goal.returns-clause-keeps
returns-clause-keeps g c =
    let other : c.instructions-progress.result.stop ≢ Next = search rules in
    let less = less_within (reach_of c.instructions-progress.new.parts.noted) c.instructions-progress.new.parts.kept c.args.pid 1 c.instructions-progress.result.done c.instructions-progress.result.stop other c.instructions-progress.ensures.memory.halts in
    let same = c.instructions-progress.ensures.keeps.still (omega (arith, less)) in
    let kept = c.event_within.ensures.keeps.keeps in
    let before = c.instructions-progress.ensures.keeps.keeps in
    record {
      keeps = record { programs = kept.programs ∙ before.programs; mode = kept.mode ∙ before.mode; noted = kept.noted };
      unchanged = subst (λ (p : RunParts). OnErr c.event_within.result (c.event_within.new.parts ≡ p)) same c.event_within.ensures.keeps.unchanged;
    }

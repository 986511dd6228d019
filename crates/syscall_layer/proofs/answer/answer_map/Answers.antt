-- What an mmap2 asks for, or its refusal.
use Rattle.std.proofs.Common.{◌≡◌, refl, sym, ap, subst, ◌∙◌}
use Rattle.std.specs.Prelude.{Result}
use Rattle.call_log.specs.declared.errno.Errno.{Errno}
use Rattle.call_log.specs.Errno.{refusal}
use Rattle.region_watch.specs.Private.{physical}
use Rattle.mmap_rules.specs.declared.want.Want.{Want}
use Rattle.mmap_rules.specs.Copies.{IsKnown}
use Rattle.machine_world.specs.Asks.{Row, answers, with_ok}
use Rattle.machine_world.specs.MapCalls.{mapped}
use Rattle.machine_world.specs.Event.{answered}
use Rattle.machine_world.specs.Rows.{row}
use Rattle.memory_world.specs.Physical.{carried}
use Rattle.memory_world.proofs.InMemory.{answered_begins}
use Rattle.kept_parts.specs.Kept.{Kept}
use Rattle.kept_parts.specs.Stands.{About, world_of}
use Rattle.kept_parts.specs.Serves.{Serves}
use Rattle.kept_parts.specs.InMemory.{physical_of, ServesIn}
use Rattle.kept_parts.specs.Calls.{Caller, asked_by}
use Rattle.syscall_layer.proofs.MapRows.{row_mmap2, asked_want}
use Rattle.kept_parts.proofs.Replies.Outcomes.{made_by, tree_in, files_in}
use Rattle.kept_parts.proofs.Replies.PlainMemory.{answered_never, plain_in}
use Rattle.syscall_layer.proofs.answer.answer_map.Given.{Over}
use Rattle.syscall_layer.proofs.answer.answer_map.Goals.{After-want_of}
use Rattle.syscall_layer.proofs.answer.answer_map.Goals as goal

-- the row by what is asked for
rows_are : (g : Over) (c : After-want_of g) (a : About) (caller : Caller c.args.parts.now c.args.call) →
    row (asked_by a caller) ≡ with_ok (asked_by a caller) c.want_of.result (mapped (asked_by a caller))
rows_are g c a caller =
    let k = c.args.parts.now in
    let call = c.args.call in
    let tree = tree_in a k caller.entry caller.held call (ap (λ (x : Kept). x.tree) (sym c.parts.view_is)) in
    let files = files_in a k caller.entry caller.held call (ap (λ (x : Kept). x.files) (sym c.parts.view_is)) in
    row_mmap2 call (asked_by a caller) (made_by a k caller.entry caller.held call caller.runs caller.stands) _ _ c.want_of.result tree files c.want_of.ensures.wanted c.requires.mmap2

pub returns-in-Ok-clause-serves : goal.returns-in-Ok-clause-serves
returns-in-Ok-clause-serves g c = λ a kind holding caller.
    let k = c.args.parts.now in
    let call = c.args.call in
    let ask = asked_by a caller in
    let rows = rows_are g (goal.at.returns-in-Ok-clause-serves g c).After-want_of a caller ∙ ap (λ (found : Result Want Errno). with_ok ask found (mapped ask)) c.in-Ok.is in
    subst (λ (r : Row). Serves a (answered (world_of a k) ask r) k c.answer_want.new.parts call.pid c.answer_want.result) (sym rows) (c.answer_want.ensures.serves a kind holding caller)

pub returns-in-Ok-clause-memory : goal.returns-in-Ok-clause-memory
returns-in-Ok-clause-memory g c = λ headers a kind caller.
    let k = c.args.parts.now in
    let call = c.args.call in
    let ask = asked_by a caller in
    let rows = rows_are g (goal.at.returns-in-Ok-clause-memory g c).After-want_of a caller ∙ ap (λ (found : Result Want Errno). with_ok ask found (mapped ask)) c.in-Ok.is in
    subst (λ (r : Row). ServesIn headers a (carried (physical_of headers a k) (physical k.mem) (answered (world_of a k) ask r)) k c.answer_want.new.parts call.pid c.answer_want.result)
    (sym rows) (c.answer_want.ensures.memory headers a kind caller)

pub returns-in-Err-clause-serves : goal.returns-in-Err-clause-serves
returns-in-Err-clause-serves g c = λ a kind holding caller.
    let k = c.args.parts.now in
    let call = c.args.call in
    let ask = asked_by a caller in
    let rows = rows_are g (goal.at.returns-in-Err-clause-serves g c).After-want_of a caller ∙ ap (λ (found : Result Want Errno). with_ok ask found (mapped ask)) c.in-Err.is in
    subst (λ (r : Row). Serves a (answered (world_of a k) ask r) k c.refuse.new.parts call.pid c.refuse.result) (sym rows) (c.refuse.ensures.serves a caller)

pub returns-in-Err-clause-memory : goal.returns-in-Err-clause-memory
returns-in-Err-clause-memory g c = λ headers a kind caller.
    let k = c.args.parts.now in
    let call = c.args.call in
    let ask = asked_by a caller in
    let new = c.refuse.new.parts in
    let result = c.refuse.result in
    let rows = rows_are g (goal.at.returns-in-Err-clause-memory g c).After-want_of a caller ∙ ap (λ (found : Result Want Errno). with_ok ask found (mapped ask)) c.in-Err.is in
    subst (λ (r : Row). ServesIn headers a (carried (physical_of headers a k) (physical k.mem) (answered (world_of a k) ask r)) k new call.pid result) (sym rows)
    (plain_in headers a k new c.refuse.ensures.memory call.pid (answered (world_of a k) ask (answers ask (refusal c.in-Err.errno))) result (c.refuse.ensures.serves a caller)
    (answered_begins (world_of a k) ask (answers ask (refusal c.in-Err.errno))) (answered_never (world_of a k) ask (answers ask (refusal c.in-Err.errno)) refl))

pub returns-in-Ok-clause-leaves : goal.returns-in-Ok-clause-leaves
returns-in-Ok-clause-leaves g c = λ ready. c.answer_want.ensures.leaves

pub returns-in-Err-clause-leaves : goal.returns-in-Err-clause-leaves
returns-in-Err-clause-leaves g c = c.refuse.ensures.leaves

pub answer_want-requires-clause-wanted : goal.answer_want-requires-clause-wanted
answer_want-requires-clause-wanted g c = record {
  known = subst (λ (k : Kept). IsKnown k.tree c.in-Ok.want) c.parts.view_is c.in-Ok.ensures.known;
  pages = c.in-Ok.ensures.pages;
  asked = asked_want c.args.call c.requires.mmap2 _ c.in-Ok.want (sym c.in-Ok.is ∙ c.want_of.ensures.wanted);
}

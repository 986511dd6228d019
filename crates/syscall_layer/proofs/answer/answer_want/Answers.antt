-- What is mapped, or a log without room.
use Rattle.std.proofs.Common.{refl, sym, ◌∙◌}
use Rattle.std.proofs.lemmas.Result.{err_from_is_err_and}
use Rattle.machine_world.specs.MapCalls.{mapped}
use Rattle.machine_world.specs.Event.{answered}
use Rattle.memory_world.proofs.InMemory.{answered_begins}
use Rattle.kept_parts.specs.declared.served.Served.TheVariants.{LogFull}
use Rattle.kept_parts.specs.Stands.{world_of}
use Rattle.kept_parts.specs.Calls.{asked_by}
use Rattle.kept_parts.proofs.Replies.QuietRows.{quiet_mute}
use Rattle.syscall_layer.proofs.MapRows.{quiet_mapped}
use Rattle.kept_parts.proofs.Mappings.Memory.{changed_goes}
use Rattle.kept_parts.proofs.Replies.Outcomes.{change_serves, brings_full}
use Rattle.kept_parts.proofs.Replies.PlainMemory.{answered_never, plain_goes}
use Rattle.syscall_layer.proofs.answer.answer_want.Goals as goal

pub returns-then-not-has_room_to_map-clause-serves : goal.returns-then-not-has_room_to_map-clause-serves
returns-then-not-has_room_to_map-clause-serves g c = λ a kind holding caller.
    let k = c.args.parts.now in
    let call = c.args.call in
    brings_full a k caller.entry caller.held call caller.runs caller.stands _ (quiet_mapped (asked_by a caller) c.args.want)
    (λ r rows. sym (c.has_room_to_map.ensures.room a caller r rows) ∙ c.if-not-has_room_to_map.true)

pub returns-then-not-has_room_to_map-clause-memory : goal.returns-then-not-has_room_to_map-clause-memory
returns-then-not-has_room_to_map-clause-memory g c = λ headers a kind caller.
    let k = c.args.parts.now in
    let call = c.args.call in
    let ask = asked_by a caller in
    let rows = mapped ask c.args.want in
    let quiet = quiet_mapped ask c.args.want in
    plain_goes headers a k k refl call.pid (answered (world_of a k) ask rows) LogFull
    (brings_full a k caller.entry caller.held call caller.runs caller.stands rows quiet
    (λ r same. sym (c.has_room_to_map.ensures.room a caller r same) ∙ c.if-not-has_room_to_map.true))
    (answered_begins (world_of a k) ask rows) (answered_never (world_of a k) ask rows (quiet_mute rows quiet))

pub map-requires-clause-room : goal.map-requires-clause-room
map-requires-clause-room g c = c.has_room_to_map.ensures.alone c.if-not-has_room_to_map.false

pub map-requires-clause-brings : goal.map-requires-clause-brings
map-requires-clause-brings g c = λ a kind caller r rows. sym (c.has_room_to_map.ensures.room a caller r rows) ∙ c.if-not-has_room_to_map.false

pub returns-in_err-map-clause-serves : goal.returns-in_err-map-clause-serves
returns-in_err-map-clause-serves g c = λ a kind holding caller.
    let p = err_from_is_err_and c.from_residual.result c.from_residual.ensures.1 in
    rw p.1 (c.in_err-map.ensures.leaves.changes a kind holding caller)

pub returns-in_err-map-clause-memory : goal.returns-in_err-map-clause-memory
returns-in_err-map-clause-memory g c = λ headers a kind caller.
    let p = err_from_is_err_and c.from_residual.result c.from_residual.ensures.1 in
    rw p.1 (c.in_err-map.ensures.leaves.memory headers a kind caller)

pub returns-clause-serves : goal.returns-clause-serves
returns-clause-serves g c = λ a kind holding caller.
    let k = c.args.parts.now in
    let call = c.args.call in
    change_serves a k caller.entry caller.held call caller.runs caller.stands _ c.map.new.self (c.in_ok-map.ensures.leaves.changes a kind holding caller)
    (λ r rows. sym (c.has_room_to_map.ensures.room a caller r rows) ∙ c.if-not-has_room_to_map.false)

pub returns-clause-memory : goal.returns-clause-memory
returns-clause-memory g c = λ headers a kind caller.
    changed_goes headers a _ c.args.parts.now c.map.new.self c.args.call.pid (c.in_ok-map.ensures.leaves.memory headers a kind caller) c.in_ok-map.ensures.lives

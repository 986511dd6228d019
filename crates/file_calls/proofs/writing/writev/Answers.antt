-- The row of writev, whose data stands behind its pieces.
use Rattle.std.proofs.Common.{◌≡◌, ◌∙◌, ◌*◌, None, ap, subst, drop, sym}
use Rattle.machine_world.specs.Asks.{Row, arg}
use Rattle.machine_world.specs.Transfers.{write_row}
use Rattle.file_calls.specs.Calls.{WaitsOn}
use Rattle.file_calls.proofs.Faults.{kept_all, over_all}
use Rattle.file_calls.proofs.Writes.{writev_many, writev_few}
use Rattle.file_calls.proofs.writing.writev.Goals as goal

pub returns-then-not-may_move-clause-answers : goal.returns-then-not-may_move-clause-answers
returns-then-not-may_move-clause-answers c = λ a made rest says. (writev_many a (rw made.args (c.may_move.ensures.many c.if-not-may_move.true)), kept_all a.rest _ _ _ rest.tree rest.files rest.console)

pub returns-clause-answers : goal.returns-clause-answers
returns-clause-answers c = λ a made rest says.
    let behind : drop (8 * arg a 2) a.sent ≡ c.behind_pieces.result.now = rw (made.args, made.sent, ← c.deref.ensures.value) (sym c.behind_pieces.ensures) in
    let is = writev_few a (rw made.args (c.may_move.ensures.few c.if-not-may_move.false)) ∙ ap (write_row a) behind in
    over_all a _ _ is _ _ _ _ (c.write.ensures.answers a made rest (subst (λ (r : Row). WaitsOn r None) is says))

-- Too many pieces are refused, and else they are what the call read.
use Rattle.std.proofs.Common.{◌∙◌, map, sym, ap}
use Rattle.std.specs.Prelude.{slice_index}
use Rattle.machine_world.specs.Transfers.{read_into}
use Rattle.file_calls.specs.Outcomes.{span_of}
use Rattle.file_calls.proofs.Asked.{gives_refused}
use Rattle.file_calls.proofs.Transferred.{readv_many, readv_row_is, pieces_of, waits_same}
use Rattle.call_log.specs.declared.errno.Errno.TheVariants.{Einval}
use Rattle.file_calls.proofs.reading.readv.Goals as goal

pub returns-then-not-may_move-clause-gives :
    goal.returns-then-not-may_move-clause-gives
returns-then-not-may_move-clause-gives c = λ a made same_tree same says.
    readv_many _ a made (c.may_move.ensures.many c.if-not-may_move.true)
    ∙ gives_refused a c.refusal.result Einval c.refusal.ensures.value c.refusal.ensures.got c.refusal.ensures.then

pub returns-clause-gives : goal.returns-clause-gives
returns-clause-gives c =
    let spans = ap (map span_of) c.deref-2.ensures.value ∙ c.in_ok-pieces.ensures ∙ ap (λ bytes. pieces_of bytes (slice_index c.args.call.now.args 2)) c.deref.ensures.value in
    waits_same _ _ _ _ _ _ (λ a made. readv_row_is _ a made (c.may_move.ensures.few c.if-not-may_move.false) ∙ sym (ap (read_into a) spans)) c.read_into.ensures.gives

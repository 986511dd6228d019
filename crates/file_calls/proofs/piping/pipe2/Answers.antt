-- A refusal, or the eight bytes of both descriptors.
use Rattle.std.proofs.Common.{◌==◌, ◌∙◌, sym, refl, ap}
use Rattle.std.specs.Prelude.{slice_index}
use Rattle.call_log.specs.declared.errno.Errno.TheVariants.{Einval, Emfile}
use Rattle.machine_world.specs.Asks.{arg}
use Rattle.file_calls.specs.declared.outcome.Then.TheVariants.{MakePipe}
use Rattle.file_calls.proofs.Asked.{arg_is, written_one, gives_made, gives_refused}
use Rattle.file_calls.proofs.Piped.{pipe2_flags, pipe2_full, pipe2_opens}
use Rattle.file_calls.proofs.piping.pipe2.Goals as goal

pub returns-then-not-is_none_or-clause-gives : goal.returns-then-not-is_none_or-clause-gives
returns-then-not-is_none_or-clause-gives c = λ tree a made same_tree same.
    pipe2_flags a (rw made.args (sym c.if-not-is_none_or.ensures))
    ∙ gives_refused a c.refusal.result Einval c.refusal.ensures.value c.refusal.ensures.got c.refusal.ensures.then

pub returns-in_default-clause-gives : goal.returns-in_default-clause-gives
returns-in_default-clause-gives c = λ tree a made same_tree same.
    pipe2_full a (rw made.args (sym c.if-not-is_none_or.ensures)) (rw (same, made.table) (sym c.two_free.ensures ∙ c.in_default.is))
    ∙ gives_refused a c.refusal-in_default.result Emfile c.refusal-in_default.ensures.value c.refusal-in_default.ensures.got c.refusal-in_default.ensures.then

pub returns-clause-gives : goal.returns-clause-gives
returns-clause-gives c = λ tree a made same_tree same.
    let got = written_one _ _ _ _ _ c.in_ok-push.ensures.items c.new-got.ensures.items (sym (arg_is _ a made 0)) c.in_ok-ends_bytes.ensures in
    pipe2_opens a (rw made.args (sym c.if-not-is_none_or.ensures)) c.in-Some.ends (rw (same, made.table) (sym c.two_free.ensures ∙ c.in-Some.is))
    ∙ gives_made a (record { value = 0; got = c.push.new.self; then = MakePipe c.in-Some.ends (slice_index c.args.call.now.args 1 == 524288) }) 0 _
    (MakePipe c.in-Some.ends (arg a 1 == 524288)) refl got (ap (λ flags. MakePipe c.in-Some.ends (flags == 524288)) (sym (arg_is _ a made 1)))

-- A refusal, or the position's eight bytes.
use Rattle.std.proofs.Common.{◌∙◌, sym, refl, ap}
use Rattle.std.specs.Prelude.{slice_index}
use Rattle.byte_words.proofs.LowestFirst.{little_bytes_are}
use Rattle.file_calls.specs.declared.outcome.Then.TheVariants.{Move}
use Rattle.file_calls.proofs.Asked.{arg_is, written_one, gives_made, gives_refused}
use Rattle.file_calls.proofs.seeking.llseek.Goals as goal

pub returns-in-Err-clause-gives : goal.returns-in-Err-clause-gives
returns-in-Err-clause-gives c = λ a made same_tree same.
    c.in-Err.ensures a made same_tree same
    ∙ gives_refused a c.refusal.result c.in-Err.errno c.refusal.ensures.value c.refusal.ensures.got c.refusal.ensures.then

pub returns-clause-gives : goal.returns-clause-gives
returns-clause-gives c = λ a made same_tree same.
    let bytes = c.in_ok-from_slice.ensures.items ∙ c.to_le_bytes.ensures ∙ sym (little_bytes_are 8 c.in-Ok.at) in
    let got = written_one _ _ _ _ _ c.in_ok-push.ensures.items c.new-got.ensures.items (sym (arg_is _ a made 3)) bytes in
    c.in-Ok.ensures a made same_tree same
    ∙ gives_made a (record { value = 0; got = c.push.new.self; then = Move (slice_index c.args.call.now.args 0) c.in-Ok.at }) 0 _ (Move _ c.in-Ok.at) refl got (ap (λ fd. Move fd c.in-Ok.at) (sym (arg_is _ a made 0)))

-- Both lists, one behind the other.
use Rattle.std.proofs.Common.{sym, ap, ◌∙◌}
use Rattle.call_log.specs.Strings.{Strings, strings_of}
use Rattle.flat_loader.specs.Frame.{texts}
use Rattle.call_bytes.specs.StringsOf.{list_value}
use Rattle.call_bytes.proofs.StringLists.{no_args, no_env, both}
use Rattle.call_bytes.proofs.strings.program_strings.Goals as goal

pub returns-in_default : goal.returns-in_default
returns-in_default c =
    no_args c.args.sent.now c.args.args c.args.env (ap (strings_of c.args.args) (sym c.behind_path.ensures) ∙ sym c.in_ok-args.ensures ∙ ap list_value c.in_default.is)

pub returns-in_default-2 : goal.returns-in_default-2
returns-in_default-2 c =
    let args : Strings = record { strings = texts c.in-Some.args.strings.items; behind = c.in-Some.args.behind.now } in
    no_env c.args.sent.now c.args.args c.args.env args (ap (strings_of c.args.args) (sym c.behind_path.ensures) ∙ sym c.in_ok-args.ensures ∙ ap list_value c.in-Some.is)
    (sym c.in_ok-env.ensures ∙ ap list_value c.in_default-2.is)

pub returns : goal.returns
returns c =
    let args : Strings = record { strings = texts c.in-Some.args.strings.items; behind = c.in-Some.args.behind.now } in
    let env : Strings = record { strings = texts c.in-Some-2.env.strings.items; behind = c.in-Some-2.env.behind.now } in
    both c.args.sent.now c.args.args c.args.env args (ap (strings_of c.args.args) (sym c.behind_path.ensures) ∙ sym c.in_ok-args.ensures ∙ ap list_value c.in-Some.is)
    env (sym c.in_ok-env.ensures ∙ ap list_value c.in-Some-2.is)

-- A refusal, or what is listed.
use Rattle.std.proofs.Common.{◌∙◌, ap, sym, refl}
use Rattle.call_log.specs.declared.errno.Errno.TheVariants.{Enotdir}
use Rattle.machine_world.specs.Asks.{refuses}
use Rattle.file_calls.proofs.Asked.{closed, is_open, gives_refused}
use Rattle.file_calls.proofs.Listed.{dents_closed, dents_other, dents_file, dents_given, have_no_ends}
use Rattle.file_calls.proofs.listing.getdents64.Goals as goal

pub returns-in-Err-clause-gives : goal.returns-in-Err-clause-gives
returns-in-Err-clause-gives c = λ a made same_tree same.
    let gone = closed _ _ _ c.view.ensures c.in-Err.is in
    dents_closed _ a made _ same gone.0 ∙ ap (refuses a) (sym gone.1)
    ∙ gives_refused a c.refusal.result c.in-Err.errno c.refusal.ensures.value c.refusal.ensures.got c.refusal.ensures.then

pub returns-in_default-clause-gives : goal.returns-in_default-clause-gives
returns-in_default-clause-gives c = λ a made same_tree same.
    dents_other _ a made _ same c.in-Ok.view (is_open _ _ _ c.view.ensures c.in-Ok.is) _ refl c.in_default.not-Node
    ∙ gives_refused a c.refusal-in_default.result Enotdir c.refusal-in_default.ensures.value c.refusal-in_default.ensures.got c.refusal-in_default.ensures.then

pub returns-in-Dir-clause-gives : goal.returns-in-Dir-clause-gives
returns-in-Dir-clause-gives c =
    dents_given c.args.call.now c.args.tree.now c.args.files.now.open_files c.list.result c.in-Ok.view (is_open _ _ _ c.view.ensures c.in-Ok.is) c.in-Node.node c.in-Node.is
    (sym c.in-Dir.ensures) c.list.ensures.gives

pub returns-in-Dir-clause-ends : goal.returns-in-Dir-clause-ends
returns-in-Dir-clause-ends c = have_no_ends c.args.files.now.open_files c.args.call.now.table c.list.result c.list.ensures.then

pub returns-in-File-clause-gives : goal.returns-in-File-clause-gives
returns-in-File-clause-gives c = λ a made same_tree same.
    dents_file _ a made _ same c.in-Ok.view (is_open _ _ _ c.view.ensures c.in-Ok.is) c.in-Node.node c.in-Node.is _ same_tree (sym c.in-File.ensures)
    ∙ gives_refused a c.refusal-in-File.result Enotdir c.refusal-in-File.ensures.value c.refusal-in-File.ensures.got c.refusal-in-File.ensures.then

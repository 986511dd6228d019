-- Each law by its proof over plain values.
use Rattle.suite_top.proofs.HostLaws.{names_are_a_prefix, nothing_is_asked, others_change_no_file, stores_are_whole}
use Rattle.suite_top.proofs.laws.host_law.Goals as goal

pub returns : goal.returns
returns c = record { names = names_are_a_prefix; untouched = nothing_is_asked; others = others_change_no_file; whole = stores_are_whole }

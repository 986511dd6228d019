-- Each law by its proof over plain values.
use Rattle.command_laws.proofs.ItemsLaws.{texts_are_of_stays, items_are_stored}
use Rattle.command_laws.proofs.KeptBoots.{keeping_ends_early_alike}
use Rattle.command_laws.proofs.run_laws.items_law.Goals as goal

pub returns : goal.returns
returns c = record { texts = texts_are_of_stays; files = items_are_stored; early = keeping_ends_early_alike }

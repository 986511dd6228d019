-- What reading gives is spelled so, what is spelled so is given, and where it stops there is a fault.
use Rattle.std.proofs.Common.{◌≡◌, ℕ, List, Result, Ok, Err, ap, ◌∙◌, subst}
use Rattle.std.specs.Prelude.{IfOk}
use Rattle.items_text.specs.declared.fault.ItemsFault.{ItemsFault}
use Rattle.items_text.specs.declared.items.Items.{Items}
use Rattle.items_text.specs.Items.{AreSpelled}
use Rattle.items_text.specs.Values.{items_value}
use Rattle.items_text.specs.Lines.{text_of}
use Rattle.items_text.specs.Reading.{items_of, Gives}
use Rattle.items_text.proofs.Whole.{items_again, items_found}
use Rattle.items_text.proofs.Faulty.{fault_found}
use Rattle.items_text.proofs.reading.items_read.Goals as goal

spelled : (text : List ℕ) (r : Result Items ItemsFault) → Gives r (items_of text) → IfOk r (λ items. AreSpelled (items_value items) × (text ≡ text_of (items_value items)))
spelled text (Ok items) gives = let read = items_found text (items_value items) gives in (read.1, read.2)
spelled text (Err fault) gives = tt

pub returns-clause-read : goal.returns-clause-read
returns-clause-read c = spelled c.args.bytes.now c.read_lines.result c.read_lines.ensures

pub returns-clause-only : goal.returns-clause-only
returns-clause-only c = λ i held is same. subst (Gives c.read_lines.result) (ap items_of same ∙ items_again i held is) c.read_lines.ensures

pub returns-clause-fault : goal.returns-clause-fault
returns-clause-fault c = λ line is. fault_found c.args.bytes.now line (subst (λ r. Gives r (items_of c.args.bytes.now)) is c.read_lines.ensures)

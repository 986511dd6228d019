-- What holds of lines and faults.
use Rattle.std.specs.Prelude.{◌≡◌, ℕ, List, ◌++◌, codes}
use Rattle.call_log.specs.Lines.{call_line, sent_text}
use Rattle.items_text.specs.Items.{ItemValue}
use Rattle.items_text.specs.Lines.{item_line}
use Rattle.items_text.specs.Faults.{IsFault}

-- an item's line is the line of its call in a run's report, with what was brought before its newline
abbrev pub LinesAreReported : Type 0
LinesAreReported = (i : ItemValue) → (front : List ℕ) × (call_line i.entry ≡ front ++ codes "\n") × (item_line i ≡ front ++ (codes " brought " ++ (sent_text i.brought ++ codes "\n")))

-- a text has one fault at the most
abbrev pub OneFault : Type 0
OneFault = (text : List ℕ) (m n : ℕ) → IsFault m text → IsFault n text → m ≡ n

-- Laws of the format, each the contract of a public function.
use Rattle.std.specs.Prelude.{◌≡◌, ℕ, List, None}
use Rattle.byte_words.specs.Numbers.{IsBytes}
use Rattle.bflt_format.specs.Values.{Values}
use Rattle.bflt_format.specs.Header.{flat_values}
use Rattle.bflt_format.specs.Fault.{flat_fault}
use Rattle.bflt_format.specs.Spelling.{spell, Spells}

-- the text of values says these values again, and has no fault
pub record ComesBack (f : Values) : Type 0 where
  pub values : flat_values (spell f) ≡ f
  pub no_fault : flat_fault (spell f) ≡ None

-- what bytes without a fault say comes back from its text
abbrev pub TextsComeBack : Type 0
TextsComeBack = (y : List ℕ) → IsBytes y → flat_fault y ≡ None → ComesBack (flat_values y)

-- the plain conditions are just what comes back
abbrev pub SpellsComeBack : Type 0
SpellsComeBack = (f : Values) → Spells f → ComesBack f

abbrev pub ComeBackSpells : Type 0
ComeBackSpells = (f : Values) → ComesBack f → Spells f

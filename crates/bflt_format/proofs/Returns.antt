-- The laws of the format.
use Rattle.bflt_format.specs.Laws.{TextsComeBack, SpellsComeBack, ComeBackSpells}
use Rattle.bflt_format.specs.Header.{flat_values}
use Rattle.bflt_format.proofs.Spelled.{values_back, no_fault, spells_bytes, spells_given}

pub spells_come_back : SpellsComeBack
spells_come_back = λ f s. record { values = values_back f s; no_fault = no_fault f s }

pub come_back_spells : ComeBackSpells
come_back_spells = λ f b. spells_given f b.no_fault b.values

pub texts_come_back : TextsComeBack
texts_come_back = λ y bytes none. spells_come_back (flat_values y) (spells_bytes y bytes none)

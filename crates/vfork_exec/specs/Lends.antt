-- What the list ends as, where what is kept of a process was lent.
use Rattle.std.specs.Prelude.{ℕ}
use Rattle.std.specs.Borrow.{Lends, Fml, RattleType, MutBor}
use Rattle.vfork_exec.specs.Procs.{Listed, with_value_at}
use Rattle.vfork_exec.specs.contracts.procs.Procs.{the_row}

-- the process has what was last written through r
abbrev pub lends_value : (P : RattleType) → MutBor (Listed P.Denot) → ℕ → MutBor P.Denot → Fml
lends_value P s pid r = Lends (the_row P) P s r (with_value_at s.now pid)

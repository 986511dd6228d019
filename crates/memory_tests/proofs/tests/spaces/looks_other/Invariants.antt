use Rattle.memory_tests.proofs.tests.spaces.looks_other.Given as goal

-- a ledger of its own
abbrev pub ghosts-looked : goal.ghosts-looked
ghosts-looked a = record { name = a.blank.name; parts = a.blank.parts }

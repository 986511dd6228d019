use Rattle.mmap_rules.proofs.owners.Owners.own.Given as goal

-- a ledger of its own
abbrev pub ghosts-own_by : goal.ghosts-own_by
ghosts-own_by a = record { name = a.blank.name; parts = a.blank.parts }

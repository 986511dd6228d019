use Rattle.core_parts.proofs.walk.own_intervals.Given as goal

-- a counter of its own
abbrev pub ghosts-intervals_by : goal.ghosts-intervals_by
ghosts-intervals_by a = record { name = a.blank.name; parts = a.blank.parts }

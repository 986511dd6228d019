use Rattle.std.proofs.Common.{◌≡◌, ◌-◌, ◌<◌, ◌≤◌, take, drop}
use Rattle.byte_words.specs.Patches.{laid}
use Rattle.elf2flt_tool.proofs.sliding.move_down.Given as goal

-- the bytes that were moved so far, laid over the file as it was
abbrev pub invariant-loop-done : goal.invariant-loop-done
invariant-loop-done l =
    (l.file ≡ laid l.fn.file l.to (take l.done (drop l.from l.fn.file)))
    × (l.done ≤ l.len)
    × (l.to < l.from)

abbrev pub decreases-loop-done : goal.decreases-loop-done
decreases-loop-done l = l.len - l.done

-- The last entries wait already.
use Rattle.std.proofs.Common.{◌≡◌, ◌-◌, ◌++◌, drop}
use Rattle.mem_files.specs.Inodes.{entries_of}
use Rattle.rom_tree.specs.Nodes.{waiting_in}
use Rattle.rom_tree.specs.Code.{waiting_list}
use Rattle.rom_tree.proofs.nodes.push_entries.Given as goal

abbrev pub invariant-loop-behind : goal.invariant-loop-behind
invariant-loop-behind l = waiting_list l.waiting.items ≡ waiting_in l.number (drop (l.count - l.behind) (entries_of l.tree l.folder)) ++ waiting_list l.fn.waiting.items

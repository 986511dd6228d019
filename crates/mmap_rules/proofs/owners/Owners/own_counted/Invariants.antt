use Rattle.std.proofs.Common.{◌≡◌, ◌+◌, ◌*◌, ◌-◌, ◌^◌, ◌≤◌, length}
use Rattle.mmap_rules.specs.Space.{all_pass}
use Rattle.mmap_rules.specs.Owners.{owns_at, touched}
use Rattle.mmap_rules.proofs.owners.Owners.own_counted.Given as goal

-- what is left gives what all gives, and each look takes a page from the pages that are left
abbrev pub invariant-loop-left : goal.invariant-loop-left
invariant-loop-left g l = record {
  same : all_pass (owns_at l.self l.write) l.at l.left ≡ all_pass (owns_at l.fn.self l.write) (l.fn.addr - 2 ^ 31) l.fn.len;
  inside : l.at + l.left ≤ 4096 * length l.self;
  cost : l.steps + touched l.at l.left ≤ l.fn.steps + touched l.fn.addr l.fn.len;
}

abbrev pub decreases-loop-left : goal.decreases-loop-left
decreases-loop-left g l = l.left

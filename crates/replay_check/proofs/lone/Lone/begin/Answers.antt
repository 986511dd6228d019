use Rattle.std.proofs.Common.{◌+◌, ◌-◌, ℕ, true, false, [], ◌∷◌, ◌++◌, map, sym, ap, subst, ◌∙◌, arith}
use Rattle.std.specs.Prelude.{reverse}
use Rattle.mmap_rules.specs.declared.mapping.Range.{Range}
use Rattle.mmap_rules.specs.Owners.{IsShaped, free_page}
use Rattle.flat_loader.specs.Original.{flat_original}
use Rattle.flat_loader.specs.Frame.{texts}
use Rattle.replay_check.specs.Ranges.{own_memory}
use Rattle.replay_check.specs.Solos.{runner_value}
use Rattle.replay_check.proofs.Begins.{block_some, range_shaped, lone_begins, solo_begins, len_of, free_uses}
use Rattle.replay_check.proofs.lone.Lone.begin.Goals as goal

pub load_at-regs-requires-clause-within : goal.load_at-regs-requires-clause-within
load_at-regs-requires-clause-within c =
    let len = len_of c.in_ok-mem.mem 67108864 0 c.in_ok-mem.ensures in
    let inside = c.requires.inside in
    (c.requires.above, omega (arith, inside, len))

pub overflow_sub-range : goal.overflow_sub-range
overflow_sub-range c =
    let some = block_some (flat_original c.args.flat.now) in
    let value = c.block_len.ensures.value in
    omega (arith, some, value)

pub add-requires-clause-shaped : goal.add-requires-clause-shaped
add-requires-clause-shaped c =
    let len = len_of c.in_ok-owners.owners 16384 free_page c.in_ok-owners.ensures in
    let shaped = range_shaped c.args.flat.now c.args.base (texts c.args.args.now) (texts c.args.env.now) c.requires.page c.requires.above c.requires.inside in
    subst (λ (n : ℕ). IsShaped n (record { from = c.args.base + 64; size = c.block_len.result - 64; writes = true; anonymous = false })) (sym len)
    (subst (λ (k : ℕ). IsShaped 16384 (record { from = c.args.base + 64; size = k - 64; writes = true; anonymous = false })) (sym c.block_len.ensures.value) shaped)

pub add-requires-clause-uses : goal.add-requires-clause-uses
add-requires-clause-uses c = free_uses c.in_ok-owners.owners 16384 c.in_ok-owners.ensures

pub invariant_of-memory : goal.invariant_of-memory
invariant_of-memory c =
    let r : Range = record { from = c.args.base + 64; size = c.block_len.result - 64; writes = true; anonymous = false } in
    lone_begins c.args.flat.now c.args.base (texts c.args.args.now) (texts c.args.env.now) c.requires.page c.requires.above c.requires.inside c.in_ok-owners.owners c.add.new.self c.load_at-regs.new.mem
    c.push.new.self.items r c.in_ok-owners.ensures c.add.ensures.len c.add.ensures.each (c.load_at-regs.ensures.stands.len ∙ len_of c.in_ok-mem.mem 67108864 0 c.in_ok-mem.ensures)
    (λ i. record { from = c.args.base + 64; size = c.block_len.ensures.value i - 64; writes = true; anonymous = false }) (c.in_ok-push.ensures.items ∙ ap (λ xs. xs ++ r ∷ []) c.new-ranges.ensures.items)

pub returns : goal.returns
returns c =
    let r : Range = record { from = c.args.base + 64; size = c.block_len.result - 64; writes = true; anonymous = false } in
    let items = c.in_ok-push-2.ensures.items ∙ ap (λ xs. xs ++ record { pid = c.args.pid; regs = c.load_at-regs.result } ∷ []) c.new-stack.ensures.items in
    (λ i. record { stack = reverse (map runner_value (items i)); memory = own_memory (record { ranges = c.push.new.self.items; mem = c.load_at-regs.new.mem }) })
    ∙ solo_begins c.args.flat.now c.args.base (texts c.args.args.now) (texts c.args.env.now) c.requires.page c.requires.above c.requires.inside c.load_at-regs.new.mem c.push.new.self.items r c.args.pid
    c.load_at-regs.result c.load_at-regs.ensures.stands.own c.load_at-regs.ensures.regs
    (λ i. record { from = c.args.base + 64; size = c.block_len.ensures.value i - 64; writes = true; anonymous = false }) (c.in_ok-push.ensures.items ∙ ap (λ xs. xs ++ r ∷ []) c.new-ranges.ensures.items)

-- Each range is written in its turn.
use Rattle.std.proofs.Common.{◌≡◌, ℕ, ◌+◌, ◌-◌, ◌*◌, ◌^◌, map, drop, List, length, sym, ap, subst, ◌∙◌, arith}
use Rattle.std.proofs.lemmas.List.{drop_all}
use Rattle.byte_words.specs.Patches.{laid}
use Rattle.call_log.specs.Values.{got_value}
use Rattle.call_bytes.proofs.Puts.{parts_at, range_at, Putting, putting_begins, putting_ends, range_within, putting_on, put_own}
use Rattle.call_bytes.proofs.output.put.Goals as goal

pub loop-range-init : goal.loop-range-init
loop-range-init c = λ pages paged.
    let inside = c.requires.inside in
    let same : inside.0 ≡ pages = omega (arith, paged, inside.1) in
    subst (λ (n : ℕ). Putting n c.args.mem.now c.args.mem.now (map got_value c.args.got.now) (map got_value c.args.got.now)) same
    (putting_begins inside.0 c.args.mem.now (map got_value c.args.got.now) inside.2)

pub copy_in-requires : goal.copy_in-requires
copy_in-requires c =
    let g = c.range-item.result in
    let inside = c.requires.inside in
    let some = (range_at c.args.got.now c.loop-range.range-index g c.requires.ranges c.loop-range-test.true c.range-item.is).0 in
    let w = range_within inside.0 c.args.mem.now c.loop-range.mem _ _ _ _ inside.1 (c.loop-range.invariant inside.0 inside.1)
    (parts_at c.args.got.now c.loop-range.range-index g c.loop-range-test.true c.range-item.is) some in
    (w.0, omega (arith, w.1, ap (length {A = ℕ}) c.deref.ensures.value))

pub loop-range-preserved : goal.loop-range-preserved
loop-range-preserved c = λ pages paged.
    let g = c.range-item.result in
    let some = (range_at c.args.got.now c.loop-range.range-index g c.requires.ranges c.loop-range-test.true c.range-item.is).0 in
    let written = c.copy_in.ensures ∙ ap (laid c.loop-range.mem (g.addr - 2 ^ 31)) c.deref.ensures.value in
    subst (λ (mem : List ℕ). Putting pages c.args.mem.now mem (map got_value c.args.got.now) (map got_value (drop (c.loop-range.range-index + 1) c.args.got.now))) (sym written)
    (putting_on pages c.args.mem.now c.loop-range.mem _ _ _ _ paged (c.loop-range.invariant pages paged)
    (parts_at c.args.got.now c.loop-range.range-index g c.loop-range-test.true c.range-item.is) some)

pub returns : goal.returns
returns c =
    let inside = c.requires.inside in
    let left = ap (map got_value) (drop_all c.loop-range.range-index c.args.got.now c.loop-range-test.false) in
    let all : (pages : ℕ) → length c.args.mem.now ≡ 4096 * pages → _ = λ pages paged. putting_ends pages c.args.mem.now c.loop-range.mem _ _ (c.loop-range.invariant pages paged) left in
    record {
      all = all;
      own = λ table paged fits. put_own table c.args.mem.now c.loop-range.mem _ fits (all (length table) paged) (c.loop-range.invariant inside.0 inside.1).len;
      len = (c.loop-range.invariant inside.0 inside.1).len;
    }

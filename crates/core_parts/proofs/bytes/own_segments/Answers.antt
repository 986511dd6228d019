-- The intervals of the table, and their bytes.
use Rattle.std.proofs.Common.{◌≡◌, ℕ, ◌*◌, List, map, reverse, length, sym, ap, subst, ◌∙◌, arith}
use Rattle.std.specs.Prelude.{slice_get}
use Rattle.mmap_rules.specs.Space.{memory_base}
use Rattle.region_watch.specs.Private.{own_bytes}
use Rattle.core_file.specs.Code.{segment_values}
use Rattle.core_world.specs.Segments.{intervals, segment_of}
use Rattle.core_world.proofs.Intervals.{Each}
use Rattle.core_parts.specs.declared.interval.Interval as code_interval
use Rattle.core_parts.specs.Tables.{kind_in, segment_in, IsInside}
use Rattle.core_parts.specs.Code.{interval_value, lowest_first, copy_value}
use Rattle.core_parts.proofs.Copies.{all_segments, all_inside}
use Rattle.core_parts.proofs.Lists.{if_ok, turned_map, lowest_each}
use Rattle.core_parts.proofs.bytes.own_segments.Goals as goal

pub all_copied-requires : goal.all_copied-requires
all_copied-requires c k i there =
    let table = c.args.owners.now in
    let paged : c.pages.result ≡ length table = omega (arith, c.pages.ensures.whole, c.requires) in
    let all : lowest_first c.in_ok-intervals.intervals.items ≡ intervals (kind_in table) memory_base (4096 * length table) =
    c.in_ok-intervals.ensures.all ∙ ap (λ (n : ℕ). intervals (kind_in table) memory_base (4096 * n)) paged in
    lowest_each (IsInside c.args.mem.now) c.in_ok-intervals.intervals.items
    (subst (Each (IsInside c.args.mem.now)) (sym all) (all_inside table c.args.mem.now c.requires)) k i
    (ap (λ (is : List code_interval.Interval). slice_get is k) (sym c.deref.ensures.value) ∙ there)

pub returns-clause-all : goal.returns-clause-all
returns-clause-all c =
    let table = c.args.owners.now in
    let mem = c.args.mem.now in
    let paged : c.pages.result ≡ length table = omega (arith, c.pages.ensures.whole, c.requires) in
    let all : lowest_first c.in_ok-intervals.intervals.items ≡ intervals (kind_in table) memory_base (4096 * length table) =
    c.in_ok-intervals.ensures.all ∙ ap (λ (n : ℕ). intervals (kind_in table) memory_base (4096 * n)) paged in
    let copies : reverse (map copy_value c.in_ok-copies.copies.items) ≡ map (segment_of (own_bytes table mem)) (intervals (kind_in table) memory_base (4096 * length table)) =
    ap reverse (c.in_ok-copies.ensures ∙ ap (map (λ (i : code_interval.Interval). segment_in mem (interval_value i))) c.deref.ensures.value)
    ∙ turned_map (segment_in mem) interval_value c.in_ok-intervals.intervals.items
    ∙ ap (map (segment_in mem)) all
    ∙ all_segments table mem c.requires (omega (arith, paged, c.pages.ensures.most)) in
    if_ok (λ segments. segment_values segments.items ≡ reverse (map copy_value c.in_ok-copies.copies.items))
    (λ segments. segment_values segments.items ≡ map (segment_of (own_bytes table mem)) (intervals (kind_in table) memory_base (4096 * length table)))
    (λ segments is. is ∙ copies) c.turned.result c.turned.ensures

-- A range that is own lies in memory.
use Rattle.std.proofs.Common.{◌≡◌, ℕ, ◌+◌, ◌-◌, ◌^◌, false, ◌++◌, Ok, List, length, take, drop, refl, sym, ap, ◌∙◌, arith, append-nil}
use Rattle.std.specs.Prelude.{Result}
use Rattle.region_watch.specs.Private.{own_bytes}
use Rattle.region_watch.proofs.Accesses.{own_within}
use Rattle.call_log.specs.Sent.{Span}
use Rattle.call_bytes.proofs.ReadRanges.{read_own, read_stray, read_nothing}
use Rattle.call_bytes.proofs.reading.read_range.Goals as goal

pub returns-then-len-eq0-clause-bytes : goal.returns-then-len-eq0-clause-bytes
returns-then-len-eq0-clause-bytes c = rw (c.if-len-eq0.true, read_nothing (own_bytes c.args.owners.now c.args.mem.now) c.args.addr (omega arith), append-nil) refl

pub returns-then-not-own-clause-bytes : goal.returns-then-not-own-clause-bytes
returns-then-not-own-clause-bytes c = read_stray c.args.owners.now c.args.mem.now c.args.addr c.args.len (sym c.own.ensures ∙ c.if-not-own.true)

pub overflow_sub-from : goal.overflow_sub-from
overflow_sub-from c = (own_within c.args.owners.now false c.args.addr c.args.len (omega arith) (sym c.own.ensures ∙ c.if-not-own.false)).0

pub slice_bounds-extend_from_slice-end : goal.slice_bounds-extend_from_slice-end
slice_bounds-extend_from_slice-end c =
    let within = own_within c.args.owners.now false c.args.addr c.args.len (omega arith) (sym c.own.ensures ∙ c.if-not-own.false) in
    omega (arith, within.0, within.1, c.requires.memory, ap (length {A = ℕ}) c.as_slice.ensures)

pub returns-clause-bytes : goal.returns-clause-bytes
returns-clause-bytes c =
    let read = read_own c.args.owners.now c.args.mem.now c.args.addr c.args.len c.requires.memory (omega arith) (sym c.own.ensures ∙ c.if-not-own.false) in
    let at : ℕ = c.args.addr - 2 ^ 31 in
    let len : ℕ = c.args.len in
    let old : List ℕ = c.args.into.now.items in
    let size : at + len - at ≡ len = omega arith in
    let bytes : c.extend_from_slice.new.self.items ≡ old ++ take len (drop at c.args.mem.now) =
    c.in_ok-extend_from_slice.ensures.items
    ∙ ap (λ (n : ℕ). old ++ take n (drop at c.as_slice.result.now)) size
    ∙ ap (λ (ms : List ℕ). old ++ take len (drop at ms)) c.as_slice.ensures in
    let done : List ℕ → Result (List ℕ) Span = λ x. Ok x in
    rw read (ap done (sym bytes))

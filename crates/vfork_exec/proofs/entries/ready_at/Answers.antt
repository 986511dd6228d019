-- The one that is sought is the last before the rest.
use Rattle.std.proofs.Common.{◌≡◌, ◌+◌, ◌-◌, Some, drop, length, sym, ap, ◌∙◌, arith}
use Rattle.std.specs.Prelude.{filter, slice_get}
use Rattle.vfork_exec.specs.declared.entry.Entry.{Entry}
use Rattle.vfork_exec.specs.Families.{is_ready}
use Rattle.vfork_exec.specs.Procs.{pid_of}
use Rattle.vfork_exec.proofs.Loops.{from_end, sought}
use Rattle.vfork_exec.proofs.entries.ready_at.Goals as goal

pub returns-then-before-eq0 : goal.returns-then-before-eq0
returns-then-before-eq0 g c =
    let test = λ (e : Entry g.row.P.Denot). is_ready e.state in
    let entries = c.args.entries.now in
    let entry = c.index-entries-end.result in
    let next : c.loop-end.end - 1 + 1 ≡ c.loop-end.end = omega (arith, c.loop-end-test.true) in
    let many : c.args.number ≡ length (filter test (drop c.loop-end.end entries)) = omega (arith, c.loop-end.invariant.counted, c.if-before-eq0.true) in
    let first : slice_get (filter test entries) (length (filter test entries) - 1 - c.args.number) ≡ Some entry =
    (sought test entries (c.loop-end.end - 1) c.args.number entry (omega (arith, c.loop-end.invariant.within, c.loop-end-test.true)) c.index-entries-end.is
    (sym c.is_ready.ensures ∙ c.if-is_ready.true) (many ∙ ap (λ n. length (filter test (drop n entries))) (sym next))).1 in
    from_end pid_of (filter test entries) c.args.number entry c.requires first

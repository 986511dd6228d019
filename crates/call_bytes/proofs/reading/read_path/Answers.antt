-- A byte that strays ends all, and so does a zero.
use Rattle.std.proofs.Common.{rules, ℕ, ◌+◌, ◌%◌, ◌^◌, arith}
use Rattle.std.specs.declared.alloc.Global.{Global}
use Rattle.std.proofs.lemmas.Result.{err_from_is_err_and}
use Rattle.call_log.specs.Sent.{read_span, path_from}
use Rattle.region_watch.specs.Private.{own_bytes}
use Rattle.call_bytes.proofs.ReadPath.{path_begins, path_on, path_ends, path_full, path_strays, unread_byte}
use Rattle.call_bytes.proofs.reading.read_path.Goals as goal

pub loop-i-init : goal.loop-i-init
loop-i-init c = path_begins 4096 (own_bytes c.args.owners.now c.args.mem.now) c.args.at c.new-path.result.items c.new-path.ensures.items

pub returns-in_err-byte : goal.returns-in_err-byte
returns-in_err-byte c =
    let p = err_from_is_err_and c.from_residual.result c.from_residual.ensures.1 in
    let m = own_bytes c.args.owners.now c.args.mem.now in
    let at : ℕ = c.args.at in
    rw (p.1, p.2) (unread_byte Global (read_span m (record { addr = (at + c.loop-i.i) % 2 ^ 32; len = 1 })) (path_from 4096 m at) _
    (λ stray. path_strays 4096 m at c.loop-i.i c.loop-i.path.items stray c.loop-i-test.true c.loop-i.invariant) c.in_err-byte.ensures)

pub returns-then-byte-eq0 : goal.returns-then-byte-eq0
returns-then-byte-eq0 c =
    let m = own_bytes c.args.owners.now c.args.mem.now in
    path_ends 4096 m c.args.at c.loop-i.i c.in_ok-byte.byte c.loop-i.path.items c.push.new.self.items c.loop-i-test.true c.loop-i.invariant
    c.in_ok-byte.ensures c.if-byte-eq0.true (search rules)

pub loop-i-preserved : goal.loop-i-preserved
loop-i-preserved c =
    let m = own_bytes c.args.owners.now c.args.mem.now in
    path_on 4096 m c.args.at c.loop-i.i c.in_ok-byte.byte c.loop-i.path.items c.push.new.self.items c.loop-i-test.true c.loop-i.invariant
    c.in_ok-byte.ensures c.if-byte-eq0.false (search rules)

pub returns : goal.returns
returns c = path_full 4096 (own_bytes c.args.owners.now c.args.mem.now) c.args.at c.loop-i.i c.loop-i.path.items (omega arith) c.loop-i.invariant

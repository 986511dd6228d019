-- A byte that strays ends all; so does the one that passes the most bytes, and so does the zero.
use Rattle.std.proofs.Common.{ℕ, ◌+◌, List, arith}
use Rattle.std.proofs.lemmas.Result.{err_from_is_err_and}
use Rattle.call_log.specs.Sent.{read_span, string_from}
use Rattle.region_watch.specs.Private.{own_bytes}
use Rattle.call_bytes.proofs.ReadStrings.{byte_span, byte_in, string_full, string_strays, string_passes, string_ends, string_on, unread_number}
use Rattle.call_bytes.proofs.reading.add_string.Goals as goal

pub returns-in_err-byte : goal.returns-in_err-byte
returns-in_err-byte c =
    let p = err_from_is_err_and c.from_residual.result c.from_residual.ensures.1 in
    let m = own_bytes c.args.owners.now c.args.mem.now in
    let at : ℕ = c.args.at in
    let old : List ℕ = c.args.into.now.items in
    let s = c.loop-i in
    let added : List ℕ = c.add_byte.new.into.items in
    rw (p.1, p.2) (unread_number old added (string_from 1048577 m at c.args.left) byte_in (read_span m (byte_span (at + s.i))) s.into.items added _
    (string_strays m at c.args.left old s.i s.left s.into.items s.invariant (omega (arith, c.loop-i-test.true))) c.in_err-byte.ensures)

pub returns-then-left-eq0 : goal.returns-then-left-eq0
returns-then-left-eq0 c =
    let m = own_bytes c.args.owners.now c.args.mem.now in
    let s = c.loop-i in
    string_passes m c.args.at c.args.left c.args.into.now.items s.i s.left s.into.items s.invariant (omega (arith, c.loop-i-test.true)) c.add_byte.new.into.items c.in_ok-byte.byte c.in_ok-byte.ensures
    c.if-left-eq0.true

pub returns-then-byte-eq0 : goal.returns-then-byte-eq0
returns-then-byte-eq0 c =
    let m = own_bytes c.args.owners.now c.args.mem.now in
    let s = c.loop-i in
    string_ends m c.args.at c.args.left c.args.into.now.items s.i s.left s.into.items s.invariant (omega (arith, c.loop-i-test.true)) c.add_byte.new.into.items c.in_ok-byte.byte c.in_ok-byte.ensures
    c.if-left-eq0.false c.if-byte-eq0.true

pub loop-i-preserved : goal.loop-i-preserved
loop-i-preserved c =
    let m = own_bytes c.args.owners.now c.args.mem.now in
    let s = c.loop-i in
    string_on m c.args.at c.args.left c.args.into.now.items s.i s.left s.into.items s.invariant (omega (arith, c.loop-i-test.true)) c.add_byte.new.into.items c.in_ok-byte.byte c.in_ok-byte.ensures
    c.if-left-eq0.false c.if-byte-eq0.false

pub returns : goal.returns
returns c =
    let s = c.loop-i in
    string_full (own_bytes c.args.owners.now c.args.mem.now) c.args.at c.args.left c.args.into.now.items s.i s.left s.into.items s.invariant (omega arith)

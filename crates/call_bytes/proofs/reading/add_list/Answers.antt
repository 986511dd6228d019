-- A pointer that strays ends all; so does a string that isn't read whole, and so does the pointer that is zero.
use Rattle.std.proofs.Common.{ℕ, ◌+◌, ◌-◌, ◌*◌, List, arith}
use Rattle.std.proofs.lemmas.Result.{err_from_is_err_and}
use Rattle.call_log.specs.Sent.{read_span, string_from, list_sent}
use Rattle.region_watch.specs.Private.{own_bytes}
use Rattle.call_bytes.proofs.ReadStrings.{word_span, word_in, list_nowhere, list_begins, list_full, list_strays, list_passes, list_ends, string_in_strays, string_in_passes, list_on, unread_number, unread_string}
use Rattle.call_bytes.proofs.reading.add_list.Goals as goal

pub returns-then-at-eq0 : goal.returns-then-at-eq0
returns-then-at-eq0 c = list_nowhere (own_bytes c.args.owners.now c.args.mem.now) c.args.at c.args.left c.args.into.now.items c.if-at-eq0.true

pub loop-i-init : goal.loop-i-init
loop-i-init c = list_begins (own_bytes c.args.owners.now c.args.mem.now) c.args.at c.args.left c.args.into.now.items c.if-at-eq0.false

pub returns-in_err-pointer : goal.returns-in_err-pointer
returns-in_err-pointer c =
    let p = err_from_is_err_and c.from_residual.result c.from_residual.ensures.1 in
    let m = own_bytes c.args.owners.now c.args.mem.now in
    let at : ℕ = c.args.at in
    let old : List ℕ = c.args.into.now.items in
    let s = c.loop-i in
    let added : List ℕ = c.add_word.new.into.items in
    rw (p.1, p.2) (unread_number old added (list_sent m at c.args.left) word_in (read_span m (word_span (at + 4 * s.i))) s.into.items added _
    (list_strays m at c.args.left old s.i s.left s.into.items s.invariant (omega (arith, c.loop-i-test.true))) c.in_err-pointer.ensures)

pub returns-then-pointer-eq0 : goal.returns-then-pointer-eq0
returns-then-pointer-eq0 c =
    let m = own_bytes c.args.owners.now c.args.mem.now in
    let s = c.loop-i in
    list_ends m c.args.at c.args.left c.args.into.now.items s.i s.left s.into.items s.invariant (omega (arith, c.loop-i-test.true)) c.add_word.new.into.items c.in_ok-pointer.pointer c.in_ok-pointer.ensures
    c.if-pointer-eq0.true

pub returns-then-left-lt4 : goal.returns-then-left-lt4
returns-then-left-lt4 c =
    let m = own_bytes c.args.owners.now c.args.mem.now in
    let s = c.loop-i in
    list_passes m c.args.at c.args.left c.args.into.now.items s.i s.left s.into.items s.invariant (omega (arith, c.loop-i-test.true)) c.add_word.new.into.items c.in_ok-pointer.pointer c.in_ok-pointer.ensures
    c.if-pointer-eq0.false c.if-left-lt4.true

pub returns-in_err-less : goal.returns-in_err-less
returns-in_err-less c =
    let p = err_from_is_err_and c.from_residual-in_err-less.result c.from_residual-in_err-less.ensures.1 in
    let m = own_bytes c.args.owners.now c.args.mem.now in
    let at : ℕ = c.args.at in
    let old : List ℕ = c.args.into.now.items in
    let s = c.loop-i in
    let added : List ℕ = c.add_word.new.into.items in
    let all : List ℕ = c.add_string.new.into.items in
    rw (p.1, p.2) (unread_string old all (list_sent m at c.args.left) (string_from 1048577 m c.in_ok-pointer.pointer (s.left - 4)) added all _
    (string_in_strays m at c.args.left old s.i s.left s.into.items s.invariant (omega (arith, c.loop-i-test.true)) added c.in_ok-pointer.pointer c.in_ok-pointer.ensures
    c.if-pointer-eq0.false (omega (arith, c.if-left-lt4.false))) c.in_err-less.ensures)

pub returns-in_default : goal.returns-in_default
returns-in_default c =
    let m = own_bytes c.args.owners.now c.args.mem.now in
    let s = c.loop-i in
    let added : List ℕ = c.add_word.new.into.items in
    let all : List ℕ = c.add_string.new.into.items in
    let read = rw c.in_default.is at c.in_ok-less.ensures in
    string_in_passes m c.args.at c.args.left c.args.into.now.items s.i s.left s.into.items s.invariant (omega (arith, c.loop-i-test.true)) added c.in_ok-pointer.pointer c.in_ok-pointer.ensures
    c.if-pointer-eq0.false (omega (arith, c.if-left-lt4.false)) all read

pub loop-i-preserved : goal.loop-i-preserved
loop-i-preserved c =
    let m = own_bytes c.args.owners.now c.args.mem.now in
    let s = c.loop-i in
    let added : List ℕ = c.add_word.new.into.items in
    let all : List ℕ = c.add_string.new.into.items in
    let read = rw c.in-Some.is at c.in_ok-less.ensures in
    list_on m c.args.at c.args.left c.args.into.now.items s.i s.left s.into.items s.invariant (omega (arith, c.loop-i-test.true)) added c.in_ok-pointer.pointer c.in_ok-pointer.ensures
    c.if-pointer-eq0.false (omega (arith, c.if-left-lt4.false)) all c.in-Some.less read

pub returns : goal.returns
returns c =
    let s = c.loop-i in
    list_full (own_bytes c.args.owners.now c.args.mem.now) c.args.at c.args.left c.args.into.now.items s.i s.left s.into.items s.invariant (omega arith)

-- The path, the arguments and the environment, as far as each is read.
use Rattle.std.proofs.Common.{ℕ, List, sym, ap, ◌∙◌}
use Rattle.std.specs.declared.alloc.Global.{Global}
use Rattle.std.proofs.lemmas.Result.{err_from_is_err_and}
use Rattle.call_log.specs.Sent.{path_sent, list_sent, exec_sent, has_zero}
use Rattle.region_watch.specs.Private.{own_bytes}
use Rattle.call_bytes.proofs.ReadStrings.{path_strays, path_too_long, args_stray, args_pass, env_strays, env_read, unread_path, unread_list}
use Rattle.call_bytes.proofs.reading.read_exec.Goals as goal

pub returns-in_err-bytes : goal.returns-in_err-bytes
returns-in_err-bytes c =
    let p = err_from_is_err_and c.from_residual.result c.from_residual.ensures.1 in
    let m = own_bytes c.args.owners.now c.args.mem.now in
    rw (p.1, p.2) (unread_path Global (exec_sent m c.args.path c.args.args c.args.env) (path_sent m c.args.path) _ (path_strays m c.args.path c.args.args c.args.env) c.in_err-bytes.ensures)

pub returns-then-not-has_zero : goal.returns-then-not-has_zero
returns-then-not-has_zero c =
    let m = own_bytes c.args.owners.now c.args.mem.now in
    path_too_long m c.args.path c.args.args c.args.env c.in_ok-bytes.bytes.items c.in_ok-bytes.ensures
    (ap has_zero (sym c.deref.ensures.value) ∙ sym c.has_zero.ensures ∙ c.if-not-has_zero.true)

pub returns-in_err-left : goal.returns-in_err-left
returns-in_err-left c =
    let p = err_from_is_err_and c.from_residual-in_err-left.result c.from_residual-in_err-left.ensures.1 in
    let m = own_bytes c.args.owners.now c.args.mem.now in
    let path : List ℕ = c.in_ok-bytes.bytes.items in
    let whole = ap has_zero (sym c.deref.ensures.value) ∙ sym c.has_zero.ensures ∙ c.if-not-has_zero.false in
    rw (p.1, p.2) (unread_list Global (exec_sent m c.args.path c.args.args c.args.env) (list_sent m c.args.args 1048576) path c.add_list.new.into.items _
    (args_stray m c.args.path c.args.args c.args.env path c.in_ok-bytes.ensures whole) c.in_err-left.ensures)

pub returns-in_default : goal.returns-in_default
returns-in_default c =
    let m = own_bytes c.args.owners.now c.args.mem.now in
    let whole = ap has_zero (sym c.deref.ensures.value) ∙ sym c.has_zero.ensures ∙ c.if-not-has_zero.false in
    let read = rw c.in_default.is at c.in_ok-left.ensures in
    args_pass m c.args.path c.args.args c.args.env c.in_ok-bytes.bytes.items c.in_ok-bytes.ensures whole c.add_list.new.into.items read

pub returns-in_err-add_list : goal.returns-in_err-add_list
returns-in_err-add_list c =
    let p = err_from_is_err_and c.from_residual-in_err-add_list.result c.from_residual-in_err-add_list.ensures.1 in
    let m = own_bytes c.args.owners.now c.args.mem.now in
    let path : List ℕ = c.in_ok-bytes.bytes.items in
    let args : List ℕ = c.add_list.new.into.items in
    let whole = ap has_zero (sym c.deref.ensures.value) ∙ sym c.has_zero.ensures ∙ c.if-not-has_zero.false in
    let read = rw c.in-Some.is at c.in_ok-left.ensures in
    rw (p.1, p.2) (unread_list Global (exec_sent m c.args.path c.args.args c.args.env) (list_sent m c.args.env c.in-Some.left) args c.add_list-2.new.into.items _
    (env_strays m c.args.path c.args.args c.args.env path c.in_ok-bytes.ensures whole c.in-Some.left args read) c.in_err-add_list.ensures)

pub returns : goal.returns
returns c =
    let m = own_bytes c.args.owners.now c.args.mem.now in
    let whole = ap has_zero (sym c.deref.ensures.value) ∙ sym c.has_zero.ensures ∙ c.if-not-has_zero.false in
    let read = rw c.in-Some.is at c.in_ok-left.ensures in
    env_read m c.args.path c.args.args c.args.env c.in_ok-bytes.bytes.items c.in_ok-bytes.ensures whole c.in-Some.left c.add_list.new.into.items read
    c.add_list-2.new.into.items c.in_ok-add_list.field-0 c.in_ok-add_list.ensures

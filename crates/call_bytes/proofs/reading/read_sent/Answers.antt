-- What the call of each number reads.
use Rattle.std.proofs.Common.{◌≢◌, List, Ok, sym, ap, subst, ◌∙◌, arith}
use Rattle.std.specs.Prelude.{ℕ, Result}
use Rattle.call_log.specs.Sent.{Span}
use Rattle.region_watch.specs.Private.{own_bytes}
use Rattle.call_bytes.specs.Reading.{Reads}
use Rattle.call_bytes.proofs.ReadPath.{sent_write, sent_writev, sent_readv, sent_exec, sent_path, sent_nothing}
use Rattle.call_bytes.proofs.reading.read_sent.Goals as goal

pub returns-in-64 : goal.returns-in-64
returns-in-64 c =
    subst (λ (x : Result (List ℕ) Span). Reads x c.read_write.result) (sym (sent_write c.args.number c.args.args.now (own_bytes c.args.owners.now c.args.mem.now) c.in-64.is)) c.read_write.ensures

pub returns-in-66 : goal.returns-in-66
returns-in-66 c =
    subst (λ (x : Result (List ℕ) Span). Reads x c.read_writev.result) (sym (sent_writev c.args.number c.args.args.now (own_bytes c.args.owners.now c.args.mem.now) c.in-66.is)) c.read_writev.ensures

pub returns-in-65 : goal.returns-in-65
returns-in-65 c =
    subst (λ (x : Result (List ℕ) Span). Reads x c.read_readv.result) (sym (sent_readv c.args.number c.args.args.now (own_bytes c.args.owners.now c.args.mem.now) c.in-65.is)) c.read_readv.ensures

pub returns-in-221 : goal.returns-in-221
returns-in-221 c =
    subst (λ (x : Result (List ℕ) Span). Reads x c.read_exec.result) (sym (sent_exec c.args.number c.args.args.now (own_bytes c.args.owners.now c.args.mem.now) c.in-221.is)) c.read_exec.ensures

pub returns-in_default : goal.returns-in_default
returns-in_default c =
    let n = c.args.number in
    let n64 : n ≢ 64 = omega arith in
    let n66 : n ≢ 66 = omega arith in
    let n65 : n ≢ 65 = omega arith in
    subst (λ (x : Result (List ℕ) Span). Reads x c.read_path.result)
    (sym (sent_path n c.args.args.now (own_bytes c.args.owners.now c.args.mem.now) n64 n66 n65 (sym c.has_path.ensures ∙ c.if-has_path.true))) c.read_path.ensures

pub returns-in_default-2 : goal.returns-in_default-2
returns-in_default-2 c =
    let n = c.args.number in
    let n64 : n ≢ 64 = omega arith in
    let n66 : n ≢ 66 = omega arith in
    let n65 : n ≢ 65 = omega arith in
    let n221 : n ≢ 221 = omega arith in
    let done : List ℕ → Result (List ℕ) Span = λ x. Ok x in
    sent_nothing n c.args.args.now (own_bytes c.args.owners.now c.args.mem.now) n64 n66 n65 (sym c.has_path.ensures ∙ c.if-has_path.false) n221 ∙ ap done (sym c.new.ensures.items)

-- A pointer and its string more, or the end.
use Rattle.std.proofs.Common.{◌≡◌, ◌++◌, ◌∷◌, [], ℕ, List, drop, sym, ap, subst, ◌∙◌}
use Rattle.std.specs.Prelude.{Option, Some}
use Rattle.call_log.specs.Sent.{has_zero}
use Rattle.call_log.specs.Strings.{Strings, before_zero, behind_zero}
use Rattle.flat_loader.specs.Frame.{texts}
use Rattle.call_bytes.proofs.StringLists.{ListSoFar, list_short, list_ends, list_cut, list_on, texts_push}
use Rattle.call_bytes.proofs.strings.strings_in.Goals as goal

pub returns-then-pointer-eq0 : goal.returns-then-pointer-eq0
returns-then-pointer-eq0 c =
    let front : List (List ℕ) = texts c.loop-rest.strings.items in
    let found : List ℕ → Option Strings = λ x. Some (record { strings = front; behind = x }) in
    ap found c.split_at.ensures.back
    ∙ list_ends c.args.bytes.now c.loop-rest.rest.now front c.loop-rest.invariant c.loop-rest-test.true (sym c.word-pointer.ensures ∙ c.if-pointer-eq0.true)

pub returns-in_default : goal.returns-in_default
returns-in_default c =
    list_cut c.args.bytes.now c.loop-rest.rest.now (texts c.loop-rest.strings.items) c.loop-rest.invariant c.loop-rest-test.true (λ zero. c.if-pointer-eq0.false (c.word-pointer.ensures ∙ zero))
    (ap has_zero (sym c.split_at.ensures.back) ∙ c.in_default.ensures)

pub loop-rest-preserved : goal.loop-rest-preserved
loop-rest-preserved c =
    let bytes : List ℕ = c.args.bytes.now in
    let rest : List ℕ = c.loop-rest.rest.now in
    let front : List (List ℕ) = texts c.loop-rest.strings.items in
    let back : c.split_at.result.1.now ≡ drop 4 rest = c.split_at.ensures.back in
    let string : before_zero (drop 4 rest) ≡ c.in_ok-from_slice.field-0.items = sym (c.in_ok-from_slice.ensures.items ∙ c.in-Some.ensures.1 ∙ ap before_zero back) in
    let all : front ++ before_zero (drop 4 rest) ∷ [] ≡ texts c.push.new.self.items =
    ap (λ (x : List ℕ). front ++ x ∷ []) string ∙ sym (texts_push c.loop-rest.strings.items c.in_ok-from_slice.field-0) ∙ ap texts (sym c.in_ok-push.ensures.items) in
    let more : behind_zero (drop 4 rest) ≡ c.in-Some.more.now = sym (c.in-Some.ensures.2 ∙ ap behind_zero back) in
    subst (λ (x : List ℕ). ListSoFar bytes x (texts c.push.new.self.items)) more
    (subst (λ (x : List (List ℕ)). ListSoFar bytes (behind_zero (drop 4 rest)) x) all
    (list_on bytes rest front c.loop-rest.invariant c.loop-rest-test.true (λ zero. c.if-pointer-eq0.false (c.word-pointer.ensures ∙ zero)) (ap has_zero (sym back) ∙ c.in-Some.ensures.0)))

pub returns : goal.returns
returns c = list_short c.args.bytes.now c.loop-rest.rest.now (texts c.loop-rest.strings.items) c.loop-rest.invariant c.loop-rest-test.false

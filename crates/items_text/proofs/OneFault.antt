-- A line is followed by what stands behind it, whichever line it is; so a text has one fault.
use Rattle.std.proofs.Common.{◌≡◌, ℕ, zero, suc, inl, inr, List, [], ◌∷◌, ◌++◌, Option, Some, None, refl, sym, ap, ◌∙◌, subst, arith}
use Rattle.std.specs.Prelude.{codes, decimal}
use Rattle.std.specs.List.{flat_map}
use Rattle.std.proofs.lemmas.Option.{same_Some}
use Rattle.call_log.specs.Lines.{joined, word_digits, arg_text, sent_text, got_text}
use Rattle.items_text.specs.declared.heads.SpaceHead.{SpaceHead}
use Rattle.items_text.specs.Items.{ItemValue}
use Rattle.items_text.specs.Lines.{call_head, env_line, item_line, end_line}
use Rattle.items_text.specs.Faults.{Place, heading, args, envs, calls, over, CallOrEnd, EnvOrLater, ArgOrLater, Follows, Begins, NoLine}
use Rattle.items_text.specs.Laws.{LinesAreReported, OneFault}
use Rattle.items_text.specs.Pieces.{Front, behind}
use Rattle.items_text.specs.Reading.{space_at, string_at, item_at}
use Rattle.items_text.proofs.CallLines.{item_again}
use Rattle.items_text.proofs.Cuts.{behind_again}
use Rattle.items_text.proofs.Fronts.{space_again}
use Rattle.items_text.proofs.Strings.{joined_onto, string_again}

-- ---- reading one line

abbrev Step : Type 0
Step = Option (Place × List ℕ)

abbrev or_call : Front ItemValue → Step
or_call None = None
or_call (Some r) = Some (calls, r.1)

abbrev or_end : List ℕ → Option (List ℕ) → Step
or_end text None = or_call (item_at text)
or_end text (Some rest) = Some (over, rest)

abbrev call_step : List ℕ → Step
call_step text = or_end text (behind end_line text)

abbrev or_string : Place → Step → Front (List ℕ) → Step
or_string place later None = later
or_string place later (Some r) = Some (place, r.1)

abbrev env_step : List ℕ → Step
env_step text = or_string envs (call_step text) (string_at (codes "env ") text)

abbrev arg_step : List ℕ → Step
arg_step text = or_string args (env_step text) (string_at (codes "arg ") text)

abbrev or_space : Front SpaceHead → Step
or_space None = None
or_space (Some r) = Some (args, r.1)

abbrev step : Place → List ℕ → Step
step heading text = or_space (space_at text)
step args text = arg_step text
step envs text = env_step text
step calls text = call_step text
step over text = None

item_no_end : (i : ItemValue) (rest : List ℕ) → behind end_line (item_line i ++ rest) ≡ None
unfolding behind
item_no_end i rest = refl

item_no_env : (i : ItemValue) (rest : List ℕ) → string_at (codes "env ") (item_line i ++ rest) ≡ None
unfolding string_at behind
item_no_env i rest = refl

item_no_arg : (i : ItemValue) (rest : List ℕ) → string_at (codes "arg ") (item_line i ++ rest) ≡ None
unfolding string_at behind
item_no_arg i rest = refl

end_no_env : (rest : List ℕ) → string_at (codes "env ") (end_line ++ rest) ≡ None
unfolding string_at behind
end_no_env rest = refl

end_no_arg : (rest : List ℕ) → string_at (codes "arg ") (end_line ++ rest) ≡ None
unfolding string_at behind
end_no_arg rest = refl

env_no_arg : (bytes rest : List ℕ) → string_at (codes "arg ") (env_line bytes ++ rest) ≡ None
unfolding string_at behind
env_no_arg bytes rest = refl

call_steps : (line more : List ℕ) (next : Place) → CallOrEnd line next → call_step (line ++ more) ≡ Some (next, more)
call_steps line more next (inl (at, (i, held, item, spelled))) =
    ap (λ t. call_step (t ++ more)) spelled ∙ ap (or_end (item_line i ++ more)) (item_no_end i more) ∙ ap or_call (item_again i more (held, item)) ∙ ap (λ p. Some (p, more)) (sym at)
call_steps line more next (inr (at, spelled)) =
    ap (λ t. call_step (t ++ more)) spelled ∙ ap (or_end (end_line ++ more)) (behind_again end_line more) ∙ ap (λ p. Some (p, more)) (sym at)

no_env_here : (line more : List ℕ) (next : Place) → CallOrEnd line next → string_at (codes "env ") (line ++ more) ≡ None
no_env_here line more next (inl (at, (i, held, item, spelled))) = ap (λ t. string_at (codes "env ") (t ++ more)) spelled ∙ item_no_env i more
no_env_here line more next (inr (at, spelled)) = ap (λ t. string_at (codes "env ") (t ++ more)) spelled ∙ end_no_env more

env_steps : (line more : List ℕ) (next : Place) → EnvOrLater line next → env_step (line ++ more) ≡ Some (next, more)
env_steps line more next (inl (at, (bytes, held, string, spelled))) =
    ap (λ t. env_step (t ++ more)) spelled ∙ ap (or_string envs (call_step (env_line bytes ++ more))) (string_again (codes "env ") bytes more (held, string)) ∙ ap (λ p. Some (p, more)) (sym at)
env_steps line more next (inr later) = ap (or_string envs (call_step (line ++ more))) (no_env_here line more next later) ∙ call_steps line more next later

no_arg_here : (line more : List ℕ) (next : Place) → EnvOrLater line next → string_at (codes "arg ") (line ++ more) ≡ None
no_arg_here line more next (inl (at, (bytes, held, string, spelled))) = ap (λ t. string_at (codes "arg ") (t ++ more)) spelled ∙ env_no_arg bytes more
no_arg_here line more next (inr (inl (at, (i, held, item, spelled)))) = ap (λ t. string_at (codes "arg ") (t ++ more)) spelled ∙ item_no_arg i more
no_arg_here line more next (inr (inr (at, spelled))) = ap (λ t. string_at (codes "arg ") (t ++ more)) spelled ∙ end_no_arg more

arg_steps : (line more : List ℕ) (next : Place) → ArgOrLater line next → arg_step (line ++ more) ≡ Some (next, more)
arg_steps line more next (inl (at, (bytes, held, string, spelled))) =
    ap (λ t. arg_step (t ++ more)) spelled ∙ ap (or_string args (env_step (joined (codes "arg " ∷ sent_text bytes ∷ codes "\n" ∷ []) ++ more))) (string_again (codes "arg ") bytes more (held, string)) ∙ ap (λ p. Some (p, more)) (sym at)
arg_steps line more next (inr later) = ap (or_string args (env_step (line ++ more))) (no_arg_here line more next later) ∙ env_steps line more next later

steps : (place : Place) (line more : List ℕ) (next : Place) → Follows place line next → step place (line ++ more) ≡ Some (next, more)
steps heading line more next (at, (stack, base, pid, events, stack_fits, is_base, pid_fits, events_fit, spelled)) =
    let h : SpaceHead = record { stack = stack; base = base; pid = pid; events = events } in
    ap (λ t. or_space (space_at (t ++ more))) spelled
    ∙ ap or_space (space_again h more (record { stack = stack_fits; base = omega (arith, is_base.to); pid = pid_fits; events = events_fit }) is_base)
    ∙ ap (λ p. Some (p, more)) (sym at)
steps args line more next is = arg_steps line more next is
steps envs line more next is = env_steps line more next is
steps calls line more next is = call_steps line more next is
steps over line more next is = absurd is

-- ---- one fault

same_count : (m n : ℕ) (place : Place) (text r s : List ℕ) (p q : Place) → Begins m place text r p → NoLine p r → Begins n place text s q → NoLine q s → m ≡ n
same_count zero zero place text r s p q a no_a b no_b = refl
same_count zero (suc n) place text r s p q (same, at) no_a (line, more, next, follows, is, later) no_b =
    absurd (no_a line more next (subst (λ x. Follows x line next) at follows) (sym same ∙ is))
same_count (suc m) zero place text r s p q (line, more, next, follows, is, later) no_a (same, at) no_b =
    absurd (no_b line more next (subst (λ x. Follows x line next) at follows) (sym same ∙ is))
same_count (suc m) (suc n) place text r s p q (line, more, next, follows, is, later) no_a (line2, more2, next2, follows2, is2, later2) no_b =
    let both : ◌≡◌ {A = Place × List ℕ} (next, more) (next2, more2) =
    same_Some (next, more) (next2, more2) (sym (steps place line more next follows) ∙ ap (step place) (sym is ∙ is2) ∙ steps place line2 more2 next2 follows2) in
    let moved : Begins m next2 more2 r p = subst (λ (x : Place × List ℕ). Begins m x.0 x.1 r p) both later in
    ap suc (same_count m n next2 more2 r s p q moved no_a later2 no_b)

pub one_fault : OneFault
one_fault text m n a b =
    let same = same_count a.before b.before heading text a.rest b.rest a.place b.place a.begins a.none b.begins b.none in
    omega (arith, a.behind, b.behind, same)

-- ---- the report's line

pub lines_reported : LinesAreReported
lines_reported i =
    let e = i.entry in
    let head : List ℕ = call_head e.pid e.call e.args e.reply in
    let front : List ℕ = joined (head ∷ sent_text e.sent ∷ codes " got" ∷ got_text e.got ∷ []) in
    let numbers : List (List ℕ) = codes "call " ∷ decimal e.pid ∷ codes " " ∷ decimal e.call ∷ flat_map arg_text e.args ∷ codes " = " ∷ word_digits e.reply ∷ codes " sent " ∷ [] in
    let behind_numbers : List ℕ = sent_text e.sent ++ (codes " got" ++ (got_text e.got ++ codes "\n")) in
    (front, sym (joined_onto (head ∷ sent_text e.sent ∷ codes " got" ∷ got_text e.got ∷ []) (codes "\n") ∙ joined_onto numbers behind_numbers), sym (joined_onto (head ∷ sent_text e.sent ∷ codes " got" ∷ got_text e.got ∷ []) (codes " brought " ++ (sent_text i.brought ++ codes "\n"))))

-- The line that reading stops at is the first that isn't as it has to be.
use Rattle.std.proofs.Common.{◌≡◌, ℕ, suc, ◌+◌, inl, inr, List, [], ◌∷◌, ◌++◌, length, Option, Some, None, Err, refl, sym, ap, ◌∙◌, subst, append_assoc, arith}
use Rattle.std.specs.Prelude.{codes}
use Rattle.std.specs.List.{AllByRecursion, flat_map}
use Rattle.items_text.specs.declared.heads.SpaceHead.{SpaceHead}
use Rattle.items_text.specs.Items.{ItemValue}
use Rattle.items_text.specs.Lines.{arg_line, env_line, item_line, end_line}
use Rattle.items_text.specs.Faults.{Place, heading, args, envs, calls, over, CallOrEnd, EnvOrLater, ArgOrLater, Follows, Begins, NoLine, IsFault}
use Rattle.items_text.specs.Pieces.{Front, behind}
use Rattle.items_text.specs.Reading.{space_text, space_at, string_at, item_at, closed, items_behind, items_of}
use Rattle.items_text.proofs.Cuts.{behind_found, behind_again}
use Rattle.items_text.proofs.CallLines.{IsHeldItem, item_again}
use Rattle.items_text.proofs.Fronts.{SpaceFound, space_again, space_found}
use Rattle.items_text.proofs.Strings.{IsHeldString, string_again}
use Rattle.items_text.proofs.Whole.{items_from, args_in, env_in, list_in, parts_of}

-- ---- no line stands here, where none is read

some_none : {A : Type 0} (o : Option A) (x : A) → o ≡ None → o ≡ Some x → ⊥
some_none o x none some = let both : None ≡ Some x = sym none ∙ some in cc

no_space : (text : List ℕ) → space_at text ≡ None → NoLine heading text
no_space text none line more next (at, (stack, base, pid, events, stack_fits, is_base, pid_fits, events_fit, spelled)) is =
    let h : SpaceHead = record { stack = stack; base = base; pid = pid; events = events } in
    let read = space_again h more (record { stack = stack_fits; base = omega (arith, is_base.to); pid = pid_fits; events = events_fit }) is_base in
    some_none (space_at text) (h, more) none (ap space_at (is ∙ ap (λ t. t ++ more) spelled) ∙ read)

no_call : (text : List ℕ) → item_at text ≡ None → behind end_line text ≡ None → (line more : List ℕ) (next : Place) → CallOrEnd line next → text ≡ line ++ more → ⊥
no_call text no_item no_end line more next (inl (at, (i, held, item, spelled))) is = some_none (item_at text) (i, more) no_item (ap item_at (is ∙ ap (λ t. t ++ more) spelled) ∙ item_again i more (held, item))
no_call text no_item no_end line more next (inr (at, spelled)) is = some_none (behind end_line text) more no_end (ap (behind end_line) (is ∙ ap (λ t. t ++ more) spelled) ∙ behind_again end_line more)

no_env : (text : List ℕ) → string_at (codes "env ") text ≡ None → item_at text ≡ None → behind end_line text ≡ None → (line more : List ℕ) (next : Place) → EnvOrLater line next → text ≡ line ++ more → ⊥
no_env text none no_item no_end line more next (inl (at, (bytes, held, string, spelled))) is = some_none (string_at (codes "env ") text) (bytes, more) none (ap (string_at (codes "env ")) (is ∙ ap (λ t. t ++ more) spelled) ∙ string_again (codes "env ") bytes more (held, string))
no_env text none no_item no_end line more next (inr later) is = no_call text no_item no_end line more next later is

no_arg : (text : List ℕ) → string_at (codes "arg ") text ≡ None → string_at (codes "env ") text ≡ None → item_at text ≡ None → behind end_line text ≡ None → (line more : List ℕ) (next : Place) → ArgOrLater line next → text ≡ line ++ more → ⊥
no_arg text none no_env_here no_item no_end line more next (inl (at, (bytes, held, string, spelled))) is = some_none (string_at (codes "arg ") text) (bytes, more) none (ap (string_at (codes "arg ")) (is ∙ ap (λ t. t ++ more) spelled) ∙ string_again (codes "arg ") bytes more (held, string))
no_arg text none no_env_here no_item no_end line more next (inr later) is = no_env text no_env_here no_item no_end line more next later is

-- ---- where the lines that were read lead

abbrev behind_env : List (List ℕ) → Place
behind_env [] = args
behind_env (x ∷ xs) = envs

abbrev behind_list : List ItemValue → Place → Place
behind_list [] place = place
behind_list (x ∷ xs) place = calls

-- a call may stand here
abbrev MayCall : Place → Type 0
MayCall place = (line : List ℕ) (next : Place) → CallOrEnd line next → Follows place line next

call_behind_env : (env : List (List ℕ)) → MayCall (behind_env env)
call_behind_env [] line next is = inr (inr is)
call_behind_env (x ∷ xs) line next is = inr is

call_behind_list : (list : List ItemValue) (place : Place) → MayCall place → MayCall (behind_list list place)
call_behind_list [] place may = may
call_behind_list (x ∷ xs) place may = λ line next is. is

-- so many, and one for each
abbrev counted : {X : Type 0} → List X → ℕ → ℕ
counted [] n = n
counted (x ∷ xs) n = suc (counted xs n)

counted_is : {X : Type 0} (xs : List X) (n : ℕ) → counted xs n ≡ length xs + n
counted_is [] n = omega arith
counted_is (x ∷ xs) n = omega (arith, counted_is xs n)

one_more : (n : ℕ) (place next last : Place) (line text more rest : List ℕ) → Follows place line next → text ≡ line ++ more → Begins n next more rest last → Begins (suc n) place text rest last
one_more n place next last line text more rest follows is begins = (line, more, next, follows, is, begins)

begins_calls : (list : List ItemValue) (n : ℕ) (place last : Place) (text rest end : List ℕ) → AllByRecursion IsHeldItem list → MayCall place → text ≡ flat_map item_line list ++ rest → Begins n (behind_list list place) rest end last → Begins (counted list n) place text end last
begins_calls [] n place last text rest end all may is begins = subst (λ t. Begins n place t end last) (sym is) begins
begins_calls (i ∷ []) n place last text rest end all may is begins =
    one_more n place calls last (item_line i) text rest end (may (item_line i) calls (inl (refl, (i, all.0.0, all.0.1, refl)))) (is ∙ append_assoc (item_line i) [] rest) begins
begins_calls (i ∷ j ∷ list) n place last text rest end all may is begins =
    one_more (counted (j ∷ list) n) place calls last (item_line i) text (flat_map item_line (j ∷ list) ++ rest) end (may (item_line i) calls (inl (refl, (i, all.0.0, all.0.1, refl)))) (is ∙ append_assoc (item_line i) (flat_map item_line (j ∷ list)) rest)
    (begins_calls (j ∷ list) n calls last (flat_map item_line (j ∷ list) ++ rest) rest end all.1 (λ line next is. is) refl begins)

begins_envs : (env : List (List ℕ)) (n : ℕ) (last : Place) (text rest end : List ℕ) → AllByRecursion IsHeldString env → text ≡ flat_map env_line env ++ rest → Begins n envs rest end last → Begins (counted env n) envs text end last
begins_envs [] n last text rest end all is begins = subst (λ t. Begins n envs t end last) (sym is) begins
begins_envs (x ∷ env) n last text rest end all is begins =
    one_more (counted env n) envs envs last (env_line x) text (flat_map env_line env ++ rest) end (inl (refl, (x, all.0.0, all.0.1, refl))) (is ∙ append_assoc (env_line x) (flat_map env_line env) rest)
    (begins_envs env n last (flat_map env_line env ++ rest) rest end all.1 refl begins)

begins_env : (env : List (List ℕ)) (n : ℕ) (last : Place) (text rest end : List ℕ) → AllByRecursion IsHeldString env → text ≡ flat_map env_line env ++ rest → Begins n (behind_env env) rest end last → Begins (counted env n) args text end last
begins_env [] n last text rest end all is begins = subst (λ t. Begins n args t end last) (sym is) begins
begins_env (x ∷ env) n last text rest end all is begins =
    one_more (counted env n) args envs last (env_line x) text (flat_map env_line env ++ rest) end (inr (inl (refl, (x, all.0.0, all.0.1, refl)))) (is ∙ append_assoc (env_line x) (flat_map env_line env) rest)
    (begins_envs env n last (flat_map env_line env ++ rest) rest end all.1 refl begins)

begins_args : (strings : List (List ℕ)) (n : ℕ) (last : Place) (text rest end : List ℕ) → AllByRecursion IsHeldString strings → text ≡ flat_map arg_line strings ++ rest → Begins n args rest end last → Begins (counted strings n) args text end last
begins_args [] n last text rest end all is begins = subst (λ t. Begins n args t end last) (sym is) begins
begins_args (x ∷ strings) n last text rest end all is begins =
    one_more (counted strings n) args args last (arg_line x) text (flat_map arg_line strings ++ rest) end (inl (refl, (x, all.0.0, all.0.1, refl))) (is ∙ append_assoc (arg_line x) (flat_map arg_line strings) rest)
    (begins_args strings n last (flat_map arg_line strings ++ rest) rest end all.1 refl begins)

abbrev last_place : List ℕ → Place
last_place rest = behind_list (list_in rest).0 (behind_env (env_in rest).0)

-- the lines up to the last call, and n more
begins_all : (text : List ℕ) (h : SpaceHead) (rest end : List ℕ) (n : ℕ) (last : Place) → SpaceFound text h rest → Begins n (last_place rest) (list_in rest).1 end last
    → Begins (suc (counted (args_in rest).0 (counted (env_in rest).0 (counted (list_in rest).0 n)))) heading text end last
begins_all text h rest end n last found begins =
    let p = parts_of rest in
    let list = begins_calls (list_in rest).0 n (behind_env (env_in rest).0) last (env_in rest).1 (list_in rest).1 end p.list_are (call_behind_env (env_in rest).0) p.list_text begins in
    let env = begins_env (env_in rest).0 (counted (list_in rest).0 n) last (args_in rest).1 (env_in rest).1 end p.env_are p.env_text list in
    let strings = begins_args (args_in rest).0 (counted (env_in rest).0 (counted (list_in rest).0 n)) last rest (args_in rest).1 end p.args_are p.args_text env in
    one_more (counted (args_in rest).0 (counted (env_in rest).0 (counted (list_in rest).0 n))) heading args last (space_text h) text rest end
    (refl, (h.stack, h.base, h.pid, h.events, found.held.stack, found.base, found.held.pid, found.held.events, refl)) found.spelled strings

all_counted : (strings env : List (List ℕ)) (list : List ItemValue) (n : ℕ) → counted strings (counted env (counted list n)) ≡ length strings + (length env + (length list + n))
all_counted strings env list n = let a = counted_is strings (counted env (counted list n)) in let b = counted_is env (counted list n) in let c = counted_is list n in omega (arith, a, b, c)

-- ---- where no line follows

nothing_follows : (env : List (List ℕ)) (list : List ItemValue) (text : List ℕ) → (env ≡ [] → list ≡ [] → string_at (codes "arg ") text ≡ None) → (list ≡ [] → string_at (codes "env ") text ≡ None) → item_at text ≡ None → behind end_line text ≡ None → NoLine (behind_list list (behind_env env)) text
nothing_follows [] [] text none_arg none_env no_item no_end line more next follows is = no_arg text (none_arg refl refl) (none_env refl) no_item no_end line more next follows is
nothing_follows (x ∷ env) [] text none_arg none_env no_item no_end line more next follows is = no_env text (none_env refl) no_item no_end line more next follows is
nothing_follows env (i ∷ list) text none_arg none_env no_item no_end line more next follows is = no_call text no_item no_end line more next follows is

not_over : (env : List (List ℕ)) (list : List ItemValue) → behind_list list (behind_env env) ≡ over → ⊥
not_over [] [] e = cc
not_over (x ∷ env) [] e = cc
not_over env (i ∷ list) e = cc

over_behind : (env : List (List ℕ)) (list : List ItemValue) → Follows (behind_list list (behind_env env)) end_line over
over_behind env list = call_behind_list list (behind_env env) (call_behind_env env) end_line over (inr (refl, refl))

fault_at : (text : List ℕ) (h : SpaceHead) (rest : List ℕ) → SpaceFound text h rest → (end : Option (List ℕ)) → behind end_line (list_in rest).1 ≡ end → (line : ℕ)
    → closed (1 + length (args_in rest).0 + length (env_in rest).0 + length (list_in rest).0) (items_from h (args_in rest).0 (env_in rest).0 (list_in rest).0) end ≡ Err line → IsFault line text
fault_at text h rest found None is line e =
    let p = parts_of rest in
    let number : 1 + length (args_in rest).0 + length (env_in rest).0 + length (list_in rest).0 + 1 ≡ line = cc in
    let lines = all_counted (args_in rest).0 (env_in rest).0 (list_in rest).0 0 in
    record {
      before = suc (counted (args_in rest).0 (counted (env_in rest).0 (counted (list_in rest).0 0)));
      rest = (list_in rest).1;
      place = last_place rest;
      behind = omega (arith, number, lines);
      begins = begins_all text h rest (list_in rest).1 0 (last_place rest) found (refl, refl);
      none = nothing_follows (env_in rest).0 (list_in rest).0 (list_in rest).1
          (λ no_env no_list. ap (string_at (codes "arg ")) (sym (p.env_text ∙ ap (λ xs. flat_map env_line xs ++ (env_in rest).1) no_env ∙ p.list_text ∙ ap (λ xs. flat_map item_line xs ++ (list_in rest).1) no_list)) ∙ p.no_arg)
          (λ no_list. ap (string_at (codes "env ")) (sym (p.list_text ∙ ap (λ xs. flat_map item_line xs ++ (list_in rest).1) no_list)) ∙ p.no_env)
          p.no_item is;
      more = λ e. absurd (not_over (env_in rest).0 (list_in rest).0 e);
    }
fault_at text h rest found (Some []) is line e = absurd cc
fault_at text h rest found (Some (b ∷ bs)) is line e =
    let number : 1 + length (args_in rest).0 + length (env_in rest).0 + length (list_in rest).0 + 2 ≡ line = cc in
    let end : Begins 1 (last_place rest) (list_in rest).1 (b ∷ bs) over =
    one_more 0 (last_place rest) over over end_line (list_in rest).1 (b ∷ bs) (b ∷ bs) (over_behind (env_in rest).0 (list_in rest).0) (behind_found end_line (list_in rest).1 (b ∷ bs) is) (refl, refl) in
    let lines = all_counted (args_in rest).0 (env_in rest).0 (list_in rest).0 1 in
    record {
      before = suc (counted (args_in rest).0 (counted (env_in rest).0 (counted (list_in rest).0 1)));
      rest = b ∷ bs;
      place = over;
      behind = omega (arith, number, lines);
      begins = begins_all text h rest (b ∷ bs) 1 over found end;
      none = λ line more next follows is. follows;
      more = λ e. λ (none : b ∷ bs ≡ []). cc;
    }

by_space : (text : List ℕ) (o : Front SpaceHead) → space_at text ≡ o → (line : ℕ) → items_behind o ≡ Err line → IsFault line text
by_space text None is line e =
    let number : 1 ≡ line = cc in
    record { before = 0; rest = text; place = heading; behind = omega (arith, number); begins = (refl, refl); none = no_space text is; more = λ (e : heading ≡ over). absurd cc }
by_space text (Some (h, rest)) is line e = fault_at text h rest (space_found text h rest is) (behind end_line (list_in rest).1) refl line e

pub fault_found : (text : List ℕ) (line : ℕ) → items_of text ≡ Err line → IsFault line text
unfolding items_of
fault_found text line e = by_space text (space_at text) refl line e

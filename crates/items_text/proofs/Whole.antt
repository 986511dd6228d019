-- The whole text, spelled and read.
use Rattle.std.proofs.Common.{◌≡◌, ℕ, ◌+◌, ◌<◌, List, [], ◌∷◌, ◌++◌, length, Option, Some, None, Result, Ok, Err, refl, sym, ap, ◌∙◌, subst, append_assoc, arith}
use Rattle.std.specs.Prelude.{codes}
use Rattle.std.specs.List.{AllByRecursion, flat_map}
use Rattle.std.proofs.lemmas.List.{length-append}
use Rattle.items_text.specs.declared.heads.SpaceHead.{SpaceHead}
use Rattle.items_text.specs.Items.{ItemValue, ItemsValue, IsString, IsItem, AreSpelled, AreBytes, HoldsItem, AreHeld}
use Rattle.items_text.specs.Lines.{arg_line, env_line, item_line, end_line, text_of}
use Rattle.items_text.specs.Pieces.{Front, behind, cut_at, many}
use Rattle.items_text.specs.Reading.{space_text, space_at, string_at, call_numbers, head_at, item_at, closed, items_behind, items_of}
use Rattle.items_text.proofs.Cuts.{behind_found, behind_again}
use Rattle.items_text.proofs.CallLines.{IsHeldItem, item_again, item_found, item_less}
use Rattle.items_text.proofs.Fronts.{SpaceFound, space_again, space_found}
use Rattle.items_text.proofs.Many.{many_found, many_again}
use Rattle.items_text.proofs.Strings.{IsHeldString, string_line, string_again, string_found, string_less}

abbrev arg_at : List ℕ → Front (List ℕ)
arg_at text = string_at (codes "arg ") text

abbrev env_at : List ℕ → Front (List ℕ)
env_at text = string_at (codes "env ") text

-- ---- no kind of line begins as another

pub env_no_arg : (bytes rest : List ℕ) → string_at (codes "arg ") (env_line bytes ++ rest) ≡ None
unfolding string_at behind
env_no_arg bytes rest = refl

item_no_arg : (i : ItemValue) (rest : List ℕ) → string_at (codes "arg ") (item_line i ++ rest) ≡ None
unfolding string_at behind
item_no_arg i rest = refl

item_no_env : (i : ItemValue) (rest : List ℕ) → string_at (codes "env ") (item_line i ++ rest) ≡ None
unfolding string_at behind
item_no_env i rest = refl

end_no_arg : string_at (codes "arg ") (end_line ++ []) ≡ None
unfolding string_at behind
end_no_arg = refl

end_no_env : string_at (codes "env ") (end_line ++ []) ≡ None
unfolding string_at behind
end_no_env = refl

end_no_item : item_at (end_line ++ []) ≡ None
unfolding item_at head_at call_numbers cut_at
end_no_item = refl

calls_no_env : (list : List ItemValue) → string_at (codes "env ") (flat_map item_line list ++ (end_line ++ [])) ≡ None
calls_no_env [] = end_no_env
calls_no_env (i ∷ list) = ap (string_at (codes "env ")) (append_assoc (item_line i) (flat_map item_line list) (end_line ++ [])) ∙ item_no_env i (flat_map item_line list ++ (end_line ++ []))

calls_no_arg : (list : List ItemValue) → string_at (codes "arg ") (flat_map item_line list ++ (end_line ++ [])) ≡ None
calls_no_arg [] = end_no_arg
calls_no_arg (i ∷ list) = ap (string_at (codes "arg ")) (append_assoc (item_line i) (flat_map item_line list) (end_line ++ [])) ∙ item_no_arg i (flat_map item_line list ++ (end_line ++ []))

envs_no_arg : (env : List (List ℕ)) (rest : List ℕ) → string_at (codes "arg ") rest ≡ None → string_at (codes "arg ") (flat_map env_line env ++ rest) ≡ None
envs_no_arg [] rest none = none
envs_no_arg (bytes ∷ env) rest none = ap (string_at (codes "arg ")) (append_assoc (env_line bytes) (flat_map env_line env) rest) ∙ env_no_arg bytes (flat_map env_line env ++ rest)

-- ---- the stages of reading

abbrev pub items_from : SpaceHead → List (List ℕ) → List (List ℕ) → List ItemValue → ItemsValue
items_from h args env list = record { stack = h.stack; base = h.base; pid = h.pid; events = h.events; args = args; env = env; list = list }

abbrev pub with_list : SpaceHead → (args env : List (List ℕ)) → List ItemValue × List ℕ → Result ItemsValue ℕ
with_list h args env list = closed (1 + length args + length env + length list.0) (items_from h args env list.0) (behind end_line list.1)

abbrev pub with_env : SpaceHead → List (List ℕ) → List (List ℕ) × List ℕ → Result ItemsValue ℕ
with_env h args env = with_list h args env.0 (many item_at env.1)

abbrev pub with_args : SpaceHead → List (List ℕ) × List ℕ → Result ItemsValue ℕ
with_args h args = with_env h args.0 (many (string_at (codes "env ")) args.1)

-- ---- spelled, and then read

strings_of : (xs : List (List ℕ)) → AllByRecursion AreBytes xs → AllByRecursion IsString xs → AllByRecursion IsHeldString xs
strings_of [] held is = tt
strings_of (x ∷ xs) held is = ((held.0, is.0), strings_of xs held.1 is.1)

calls_of : (xs : List ItemValue) → AllByRecursion HoldsItem xs → AllByRecursion IsItem xs → AllByRecursion IsHeldItem xs
calls_of [] held is = tt
calls_of (x ∷ xs) held is = ((held.0, is.0), calls_of xs held.1 is.1)

pub items_again : (i : ItemsValue) → AreHeld i → AreSpelled i → items_of (text_of i) ≡ Ok i
unfolding items_of text_of
items_again i held spelled =
    let h : SpaceHead = record { stack = i.stack; base = i.base; pid = i.pid; events = i.events } in
    let t3 : List ℕ = end_line ++ [] in
    let t2 : List ℕ = flat_map item_line i.list ++ t3 in
    let t1 : List ℕ = flat_map env_line i.env ++ t2 in
    let t0 : List ℕ = flat_map arg_line i.args ++ t1 in
    let space = space_again h t0 (record { stack = held.stack; base = held.base; pid = held.pid; events = held.events }) spelled.base in
    let args = many_again (string_at (codes "arg ")) (string_less (codes "arg ")) IsHeldString (string_line (codes "arg ")) (λ x rest is. string_again (codes "arg ") x rest is) i.args t1 (strings_of i.args held.args spelled.args) (envs_no_arg i.env t2 (calls_no_arg i.list)) in
    let env = many_again (string_at (codes "env ")) (string_less (codes "env ")) IsHeldString (string_line (codes "env ")) (λ x rest is. string_again (codes "env ") x rest is) i.env t2 (strings_of i.env held.env spelled.env) (calls_no_env i.list) in
    let list = many_again item_at item_less IsHeldItem item_line item_again i.list t3 (calls_of i.list held.list spelled.list) end_no_item in
    ap items_behind space
    ∙ ap (with_args h) args
    ∙ ap (with_env h i.args) env
    ∙ ap (with_list h i.args i.env) list
    ∙ ap (closed (1 + length i.args + length i.env + length i.list) i) (behind_again end_line [])

-- ---- read, and then spelled

bytes_in : (xs : List (List ℕ)) → AllByRecursion IsHeldString xs → AllByRecursion AreBytes xs
bytes_in [] all = tt
bytes_in (x ∷ xs) all = (all.0.0, bytes_in xs all.1)

strings_in : (xs : List (List ℕ)) → AllByRecursion IsHeldString xs → AllByRecursion IsString xs
strings_in [] all = tt
strings_in (x ∷ xs) all = (all.0.1, strings_in xs all.1)

held_in : (xs : List ItemValue) → AllByRecursion IsHeldItem xs → AllByRecursion HoldsItem xs
held_in [] all = tt
held_in (x ∷ xs) all = (all.0.0, held_in xs all.1)

items_in : (xs : List ItemValue) → AllByRecursion IsHeldItem xs → AllByRecursion IsItem xs
items_in [] all = tt
items_in (x ∷ xs) all = (all.0.1, items_in xs all.1)

-- what stands behind the first line
pub record Parts (text : List ℕ) (args env : List (List ℕ) × List ℕ) (list : List ItemValue × List ℕ) : Type 0 where
  pub args_are : AllByRecursion IsHeldString args.0
  pub args_text : text ≡ flat_map arg_line args.0 ++ args.1
  pub no_arg : string_at (codes "arg ") args.1 ≡ None
  pub env_are : AllByRecursion IsHeldString env.0
  pub env_text : args.1 ≡ flat_map env_line env.0 ++ env.1
  pub no_env : string_at (codes "env ") env.1 ≡ None
  pub list_are : AllByRecursion IsHeldItem list.0
  pub list_text : env.1 ≡ flat_map item_line list.0 ++ list.1
  pub no_item : item_at list.1 ≡ None

abbrev pub args_in : List ℕ → List (List ℕ) × List ℕ
args_in text = many (string_at (codes "arg ")) text

abbrev pub env_in : List ℕ → List (List ℕ) × List ℕ
env_in text = many (string_at (codes "env ")) (args_in text).1

abbrev pub list_in : List ℕ → List ItemValue × List ℕ
list_in text = many item_at (env_in text).1

pub parts_of : (text : List ℕ) → Parts text (args_in text) (env_in text) (list_in text)
parts_of text =
    let args = many_found (string_at (codes "arg ")) (string_less (codes "arg ")) IsHeldString (string_line (codes "arg ")) (λ t rest x is. string_found (codes "arg ") t rest x is) text in
    let env = many_found (string_at (codes "env ")) (string_less (codes "env ")) IsHeldString (string_line (codes "env ")) (λ t rest x is. string_found (codes "env ") t rest x is) (args_in text).1 in
    let list = many_found item_at item_less IsHeldItem item_line item_found (env_in text).1 in
    record {
      args_are = args.0;
      args_text = args.1;
      no_arg = args.2;
      env_are = env.0;
      env_text = env.1;
      no_env = env.2;
      list_are = list.0;
      list_text = list.1;
      no_item = list.2;
    }

abbrev pub AreRead : List ℕ → ItemsValue → Type 0
AreRead text i = AreHeld i × AreSpelled i × (text ≡ text_of i)

read_whole : (text : List ℕ) (h : SpaceHead) (rest : List ℕ) → SpaceFound text h rest → behind end_line (list_in rest).1 ≡ Some [] → AreRead text (items_from h (args_in rest).0 (env_in rest).0 (list_in rest).0)
unfolding text_of
read_whole text h rest found end =
    let p = parts_of rest in
    let e : (list_in rest).1 ≡ end_line ++ [] = behind_found end_line (list_in rest).1 [] end in (
      record { stack = found.held.stack; base = found.held.base; pid = found.held.pid; events = found.held.events; args = bytes_in (args_in rest).0 p.args_are; env = bytes_in (env_in rest).0 p.env_are; list = held_in (list_in rest).0 p.list_are },
      record { base = found.base; args = strings_in (args_in rest).0 p.args_are; env = strings_in (env_in rest).0 p.env_are; list = items_in (list_in rest).0 p.list_are },
      found.spelled
          ∙ ap (λ t. space_text h ++ t) (p.args_text
          ∙ ap (λ t. flat_map arg_line (args_in rest).0 ++ t) (p.env_text
          ∙ ap (λ t. flat_map env_line (env_in rest).0 ++ t) (p.list_text
          ∙ ap (λ t. flat_map item_line (list_in rest).0 ++ t) e))),
    )

by_end : (text : List ℕ) (h : SpaceHead) (rest : List ℕ) → SpaceFound text h rest → (lines : ℕ) (o : Option (List ℕ)) → behind end_line (list_in rest).1 ≡ o → (i : ItemsValue) → closed lines (items_from h (args_in rest).0 (env_in rest).0 (list_in rest).0) o ≡ Ok i → AreRead text i
by_end text h rest found lines None is i e = absurd cc
by_end text h rest found lines (Some []) is i e =
    let same : items_from h (args_in rest).0 (env_in rest).0 (list_in rest).0 ≡ i = cc in
    subst (AreRead text) same (read_whole text h rest found is)
by_end text h rest found lines (Some (b ∷ bs)) is i e = absurd cc

by_space : (text : List ℕ) (o : Front SpaceHead) → space_at text ≡ o → (i : ItemsValue) → items_behind o ≡ Ok i → AreRead text i
by_space text None is i e = absurd cc
by_space text (Some (h, rest)) is i e = by_end text h rest (space_found text h rest is) (1 + length (args_in rest).0 + length (env_in rest).0 + length (list_in rest).0) (behind end_line (list_in rest).1) refl i e

pub items_found : (text : List ℕ) (i : ItemsValue) → items_of text ≡ Ok i → AreRead text i
unfolding items_of
items_found text i e = by_space text (space_at text) refl i e

-- the code's parts give what reading gives
pub reading_is : (text : List ℕ) (h : SpaceHead) (rest : List ℕ) (args env : List (List ℕ)) (r1 r2 r3 : List ℕ) (list : List ItemValue) (end : Option (List ℕ)) → space_at text ≡ Some (h, rest)
    → (args, r1) ≡ many (string_at (codes "arg ")) rest → (env, r2) ≡ many (string_at (codes "env ")) r1 → (list, r3) ≡ many item_at r2 → behind end_line r3 ≡ end
    → items_of text ≡ closed (1 + length args + length env + length list) (items_from h args env list) end
unfolding items_of
reading_is text h rest args env r1 r2 r3 list end space is_args is_env is_list is_end =
    ap items_behind space
    ∙ ap (with_args h) (sym is_args)
    ∙ ap (with_env h args) (sym is_env)
    ∙ ap (with_list h args env) (sym is_list)
    ∙ ap (closed (1 + length args + length env + length list) (items_from h args env list)) is_end

pub reading_none : (text : List ℕ) → space_at text ≡ None → items_of text ≡ Err 1
unfolding items_of
reading_none text none = ap items_behind none

pub space_less : (text : List ℕ) (h : SpaceHead) (rest : List ℕ) → space_at text ≡ Some (h, rest) → length rest < length text
space_less text h rest is =
    let found = space_found text h rest is in
    let long : length text ≡ length (space_text h) + length rest = ap length found.spelled ∙ length-append (space_text h) rest in
    omega (arith, long)

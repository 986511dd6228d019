-- The pieces of a text, cut one after the other.
use Rattle.std.proofs.Common.{◌≡◌, ◌≢◌, ℕ, ◌+◌, ◌-◌, ◌<◌, ◌≤◌, Bool, true, false, cond, List, [], ◌∷◌, ◌++◌, ◌⊎◌, inl, inr, length, get_or, take, drop, refl, sym, ap, ◌∙◌, arith, append_assoc, add-one, length-drop, drop-cons}
use Rattle.std.specs.Prelude.{◌==◌}
use Rattle.std.proofs.lemmas.Bool.Decides.{nat_tests}
use Rattle.std.proofs.lemmas.List.{drop_all, take_all, take_more, get_or-drop}
use Rattle.manifest_text.specs.Pieces.{Text, in_front, pieces}

-- a text in front of the first piece
abbrev pub glue : Text → List Text → List Text
glue [] ps = ps
glue (b ∷ text) ps = in_front b (glue text ps)

glue_front : (text : Text) (b : ℕ) (ps : List Text) → glue text (in_front b ps) ≡ glue (text ++ b ∷ []) ps
glue_front [] b ps = refl
glue_front (a ∷ text) b ps = ap (in_front a) (glue_front text b ps)

glue_cut : (text : Text) (ps : List Text) → glue text ([] ∷ ps) ≡ text ∷ ps
glue_cut [] ps = refl
glue_cut (a ∷ text) ps = ap (in_front a) (glue_cut text ps)

decide : (b : Bool) → (b ≡ true) ⊎ (b ≡ false)
decide true = inl refl
decide false = inr refl

eqb_same : (n k : ℕ) → n ≡ k → (n == k) ≡ true
eqb_same n k h = grind (arith, nat_tests)

eqb_other : (n k : ℕ) → n ≢ k → (n == k) ≡ false
eqb_other n k h = grind (arith, nat_tests)

head : (at b : ℕ) (bs : Text) (t : Bool) → (b == at) ≡ t → pieces at (b ∷ bs) ≡ cond t ([] ∷ pieces at bs) (in_front b (pieces at bs))
unfolding pieces
head at b bs t is = ap (λ (x : Bool). cond x ([] ∷ pieces at bs) (in_front b (pieces at bs))) is

module _ (at : ℕ) (text : Text) (start i : ℕ) (from : start ≤ i) (below : i < length text) where
  opened : drop i text ≡ get_or text i 0 ∷ drop (i + 1) text
  opened = drop-cons text i 0 below ∙ ap (λ n. get_or text i 0 ∷ drop n text) (sym (add-one i))

  longer : take (i + 1 - start) (drop start text) ≡ take (i - start) (drop start text) ++ get_or text i 0 ∷ []
  longer =
      let one : i + 1 - start ≡ (i - start) + 1 = omega (arith, from) in
      let within : i - start < length (drop start text) = omega (arith, from, below, length-drop start text) in
      let place : start + (i - start) ≡ i = omega (arith, from) in
      ap (λ n. take n (drop start text)) one
      ∙ take_more (drop start text) (i - start) 0 within
      ∙ ap (λ b. take (i - start) (drop start text) ++ b ∷ []) (get_or-drop start text (i - start) 0 ∙ ap (λ n. get_or text n 0) place)

  pub cut_one : get_or text i 0 ≡ at → glue (take (i - start) (drop start text)) (pieces at (drop i text)) ≡ take (i - start) (drop start text) ∷ glue (take (i + 1 - (i + 1)) (drop (i + 1) text)) (pieces at (drop (i + 1) text))
  cut_one same =
      let none : i + 1 - (i + 1) ≡ 0 = omega arith in
      ap (glue (take (i - start) (drop start text))) (ap (pieces at) opened ∙ head at (get_or text i 0) (drop (i + 1) text) true (eqb_same (get_or text i 0) at same))
      ∙ glue_cut (take (i - start) (drop start text)) (pieces at (drop (i + 1) text))
      ∙ sym (ap (λ n. take (i - start) (drop start text) ∷ glue (take n (drop (i + 1) text)) (pieces at (drop (i + 1) text))) none)

  pub keep_one : get_or text i 0 ≢ at → glue (take (i - start) (drop start text)) (pieces at (drop i text)) ≡ glue (take (i + 1 - start) (drop start text)) (pieces at (drop (i + 1) text))
  keep_one other =
      ap (glue (take (i - start) (drop start text))) (ap (pieces at) opened ∙ head at (get_or text i 0) (drop (i + 1) text) false (eqb_other (get_or text i 0) at other))
      ∙ glue_front (take (i - start) (drop start text)) (get_or text i 0) (pieces at (drop (i + 1) text))
      ∙ sym (ap (λ t. glue t (pieces at (drop (i + 1) text))) longer)

  pub cut_step : (outs : List Text) → outs ++ glue (take (i - start) (drop start text)) (pieces at (drop i text)) ≡ pieces at text → get_or text i 0 ≡ at
      → (outs ++ take (i - start) (drop start text) ∷ []) ++ glue (take (i + 1 - (i + 1)) (drop (i + 1) text)) (pieces at (drop (i + 1) text)) ≡ pieces at text
  cut_step outs so_far same =
      append_assoc outs (take (i - start) (drop start text) ∷ []) (glue (take (i + 1 - (i + 1)) (drop (i + 1) text)) (pieces at (drop (i + 1) text)))
      ∙ ap (λ ps. outs ++ ps) (sym (cut_one same))
      ∙ so_far

  pub keep_step : (outs : List Text) → outs ++ glue (take (i - start) (drop start text)) (pieces at (drop i text)) ≡ pieces at text → get_or text i 0 ≢ at
      → outs ++ glue (take (i + 1 - start) (drop start text)) (pieces at (drop (i + 1) text)) ≡ pieces at text
  keep_step outs so_far other = ap (λ ps. outs ++ ps) (sym (keep_one other)) ∙ so_far

module _ (at : ℕ) (text : Text) (start i : ℕ) (from : start ≤ i) (within : i ≤ length text) (past : length text ≤ i) where
  pub last_one : glue (take (i - start) (drop start text)) (pieces at (drop i text)) ≡ take (length text - start) (drop start text) ∷ []
  unfolding pieces
  last_one =
      let rest : drop i text ≡ [] = drop_all i text past in
      let all : take (i - start) (drop start text) ≡ drop start text = take_all (i - start) (drop start text) (omega (arith, from, past, length-drop start text)) in
      let whole : take (length text - start) (drop start text) ≡ drop start text = take_all (length text - start) (drop start text) (omega (arith, length-drop start text)) in
      ap (λ t. glue t (pieces at (drop i text))) all
      ∙ ap (λ t. glue (drop start text) (pieces at t)) rest
      ∙ glue_cut (drop start text) []
      ∙ sym (ap (λ t. t ∷ []) whole)

  pub last_step : (outs : List Text) → outs ++ glue (take (i - start) (drop start text)) (pieces at (drop i text)) ≡ pieces at text → outs ++ take (length text - start) (drop start text) ∷ [] ≡ pieces at text
  last_step outs so_far = ap (λ ps. outs ++ ps) (sym last_one) ∙ so_far

-- there is one piece more, at the most, than bytes
front_length : (b : ℕ) (ps : List Text) → length (in_front b ps) ≤ length ps + 1
front_length b [] = omega arith
front_length b (p ∷ ps) = omega arith

pub pieces_length : (at : ℕ) (text : Text) → length (pieces at text) ≤ length text + 1
unfolding pieces
pieces_length at [] = omega arith
pieces_length at (b ∷ bs) = elim (decide (b == at)) [
  | inl is ↦ rw (head at b bs true is) (omega (arith, pieces_length at bs))
  | inr is ↦ rw (head at b bs false is) (omega (arith, pieces_length at bs, front_length b (pieces at bs)))
]

-- Laws of processes that stand still for each other and wait for each other.
use Rattle.std.proofs.Common.{◌≡◌, ℕ, ◌+◌, ◌<◌, Bool, true, false, cond, List, [], ◌∷◌, ◌++◌, length, get_or, take, drop, Some, None, inl, inr, refl, sym, ap, ◌∙◌, add-one, take-suc, append_assoc}
use Rattle.std.specs.Prelude.{filter}
use Rattle.vfork_exec.specs.declared.family.Who.{Who}
use Rattle.vfork_exec.specs.declared.family.Ended.{Ended}
use Rattle.vfork_exec.specs.Families.{is_child, first_ended, without_first}
use Rattle.vfork_exec.proofs.Keyed.{decide}
use Rattle.vfork_exec.proofs.Loops.{rest_by, filter_head}

module _ (own : ℕ) (who : Who) where
  pub first_ended_head : (e : Ended) (es : List Ended) (b : Bool) → is_child own who e.pid e.parent ≡ b → first_ended own who (e ∷ es) ≡ cond b (Some e) (first_ended own who es)
  unfolding first_ended
  first_ended_head e es b is = ap (λ t. cond t (Some e) (first_ended own who es)) is

  pub without_first_head : (e : Ended) (es : List Ended) (b : Bool) → is_child own who e.pid e.parent ≡ b → without_first own who (e ∷ es) ≡ cond b es (e ∷ without_first own who es)
  unfolding without_first
  without_first_head e es b is = ap (λ t. cond t es (e ∷ without_first own who es)) is

  -- by the item at a place
  pub first_ended_at : (es : List Ended) (i : ℕ) (d : Ended) (b : Bool) → i < length es → is_child own who (get_or es i d).pid (get_or es i d).parent ≡ b
      → first_ended own who (drop i es) ≡ cond b (Some (get_or es i d)) (first_ended own who (drop (i + 1) es))
  first_ended_at es i d b less is = ap (first_ended own who) (rest_by es i d less) ∙ first_ended_head (get_or es i d) (drop (i + 1) es) b is

  pub without_first_at : (es : List Ended) (i : ℕ) (d : Ended) (b : Bool) → i < length es → is_child own who (get_or es i d).pid (get_or es i d).parent ≡ b
      → without_first own who (drop i es) ≡ cond b (drop (i + 1) es) (get_or es i d ∷ without_first own who (drop (i + 1) es))
  without_first_at es i d b less is = ap (without_first own who) (rest_by es i d less) ∙ without_first_head (get_or es i d) (drop (i + 1) es) b is

  -- an item further
  pub without_first_later : (es : List Ended) (i : ℕ) (d : Ended) → i < length es → is_child own who (get_or es i d).pid (get_or es i d).parent ≡ false
      → take (i + 1) es ++ without_first own who (drop (i + 1) es) ≡ take i es ++ without_first own who (drop i es)
  without_first_later es i d less is =
      ap (λ zs. zs ++ without_first own who (drop (i + 1) es)) (rw (add-one) (take-suc es i d less))
      ∙ append_assoc (take i es) (get_or es i d ∷ []) (without_first own who (drop (i + 1) es))
      ∙ ap (λ zs. take i es ++ zs) (sym (without_first_at es i d false less is))

  -- ---- where none has ended

  pub none_filtered : (p : Ended → Bool) (es : List Ended) → first_ended own who es ≡ None → first_ended own who (filter p es) ≡ None
  unfolding first_ended
  none_filtered p [] h = refl
  none_filtered p (e ∷ es) h = elim (decide (is_child own who e.pid e.parent)) [
    | inl is ↦ let no : Some e ≡ None = sym (first_ended_head e es true is) ∙ h in absurd cc
    | inr is ↦
        let rest = none_filtered p es (sym (first_ended_head e es false is) ∙ h) in
        elim (decide (p e)) [
          | inl passes ↦ rw (filter_head p e es true passes) (first_ended_head e (filter p es) false is ∙ rest)
          | inr passes ↦ rw (filter_head p e es false passes) rest
        ]
  ]

  pub none_appended : (es fs : List Ended) → first_ended own who es ≡ None → first_ended own who fs ≡ None → first_ended own who (es ++ fs) ≡ None
  none_appended [] fs h last = last
  none_appended (e ∷ es) fs h last = elim (decide (is_child own who e.pid e.parent)) [
    | inl is ↦ let no : Some e ≡ None = sym (first_ended_head e es true is) ∙ h in absurd cc
    | inr is ↦ first_ended_head e (es ++ fs) false is ∙ none_appended es fs (sym (first_ended_head e es false is) ∙ h) last
  ]

  -- without another one that goes at once or is the last
  pub none_last : (e : Ended) (gone : Bool) → is_child own who e.pid e.parent ≡ false → first_ended own who (cond gone [] (e ∷ [])) ≡ None
  unfolding first_ended
  none_last e true is = refl
  none_last e false is = first_ended_head e [] false is

-- one that goes is missed by none who sees none
pub none_without : (own : ℕ) (who : Who) (other : ℕ) (meant : Who) (es : List Ended) → first_ended own who es ≡ None → first_ended own who (without_first other meant es) ≡ None
unfolding without_first
none_without own who other meant [] h = h
none_without own who other meant (e ∷ es) h = elim (decide (is_child own who e.pid e.parent)) [
  | inl is ↦ let no : Some e ≡ None = sym (first_ended_head own who e es true is) ∙ h in absurd cc
  | inr is ↦
      let rest = sym (first_ended_head own who e es false is) ∙ h in
      elim (decide (is_child other meant e.pid e.parent)) [
        | inl goes ↦ rw (without_first_head other meant e es true goes) rest
        | inr goes ↦ rw (without_first_head other meant e es false goes) (first_ended_head own who e (without_first other meant es) false is ∙ none_without own who other meant es rest)
      ]
]

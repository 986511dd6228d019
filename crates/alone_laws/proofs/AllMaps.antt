-- The mappings of all live spaces, when one space changes or goes.
use Rattle.std.proofs.Common.{◌≡◌, ℕ, Bool, true, false, not, cond, inl, inr, List, [], ◌∷◌, ◌++◌, append_assoc, Some, sym, ap, ◌∙◌, arith}
use Rattle.std.specs.Prelude.{◌==◌, filter}
use Rattle.std.proofs.lemmas.Bool.{cases_Bool, eqb-true}
use Rattle.std.proofs.lemmas.Option.{none-some, same_Some}
use Rattle.mmap_rules.specs.declared.mapping.Mapping.{Mapping}
use Rattle.vfork_exec.specs.Keyed.{Falls, find, change, without}
use Rattle.vfork_exec.proofs.Keyed.{find_head, none_below}
use Rattle.machine_world.specs.World.{LiveSpace, id_of}
use Rattle.machine_world.specs.MapCalls.{all_maps}

module _ (i : ℕ) where
  change_head : (f : LiveSpace → LiveSpace) (s : LiveSpace) (ss : List LiveSpace) (b : Bool) → (s.id == i) ≡ b → change id_of i f (s ∷ ss) ≡ cond b (f s ∷ ss) (s ∷ change id_of i f ss)
  unfolding change
  change_head f s ss b is = ap (λ (t : Bool). cond t (f s ∷ ss) (s ∷ change id_of i f ss)) is

  without_head : (s : LiveSpace) (ss : List LiveSpace) (b : Bool) → (s.id == i) ≡ b → without id_of i (s ∷ ss) ≡ cond (not b) (s ∷ without id_of i ss) (without id_of i ss)
  unfolding without
  without_head s ss b is = ap (λ (t : Bool). cond (not t) (s ∷ filter (λ y. not (y.id == i)) ss) (filter (λ y. not (y.id == i)) ss)) is

-- those before the space's own ones, and those behind
pub record Around (i : ℕ) (s : LiveSpace) (ss : List LiveSpace) : Type 0 where
  pub front : List Mapping
  pub back : List Mapping
  pub is : all_maps ss ≡ front ++ (s.space.maps ++ back)
  pub changed : (f : LiveSpace → LiveSpace) → all_maps (change id_of i f ss) ≡ front ++ ((f s).space.maps ++ back)
  pub gone : all_maps (without id_of i ss) ≡ front ++ back

pub around : (i b : ℕ) (s : LiveSpace) (ss : List LiveSpace) → Falls id_of b ss → find id_of i ss ≡ Some s → Around i s ss
unfolding find
around i b s [] falls is = absurd (none-some s is)
around i b s (x ∷ ss) falls is = elim (cases_Bool (x.id == i)) [
  | inl here ↦ (
      let same : x ≡ s = same_Some x s (sym (find_head id_of i x ss true here) ∙ is) in
      let number : x.id ≡ i = eqb-true x.id i here in
      record {
        front = [];
        back = all_maps ss;
        is = ap (λ (y : LiveSpace). y.space.maps ++ all_maps ss) same;
        changed = λ f. ap all_maps (change_head i f x ss true here) ∙ ap (λ (y : LiveSpace). (f y).space.maps ++ all_maps ss) same;
        gone = ap all_maps (without_head i x ss true here ∙ none_below id_of i x.id ss falls.1 (omega (arith, number)));
      })
  | inr other ↦ (
      let r : Around i s ss = around i x.id s ss falls.1 (sym (find_head id_of i x ss false other) ∙ is) in
      record {
        front = x.space.maps ++ r.front;
        back = r.back;
        is = ap (λ (ms : List Mapping). x.space.maps ++ ms) r.is ∙ sym (append_assoc x.space.maps r.front (s.space.maps ++ r.back));
        changed = λ f.
            ap all_maps (change_head i f x ss false other) ∙ ap (λ (ms : List Mapping). x.space.maps ++ ms) (r.changed f)
            ∙ sym (append_assoc x.space.maps r.front ((f s).space.maps ++ r.back));
        gone = ap all_maps (without_head i x ss false other) ∙ ap (λ (ms : List Mapping). x.space.maps ++ ms) r.gone ∙ sym (append_assoc x.space.maps r.front r.back);
      })
]

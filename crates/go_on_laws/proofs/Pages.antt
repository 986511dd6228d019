-- Which bytes are in pages that are held, and which of them a space may write.
use Rattle.std.proofs.Common.{◌≡◌, ◌≢◌, ℕ, ◌+◌, ◌-◌, ◌*◌, ◌/◌, ◌^◌, ◌≤◌, ◌<◌, Bool, true, false, inl, inr, List, [], ◌∷◌, Some, refl, sym, ap, ◌∙◌, arith}
use Rattle.std.specs.Prelude.{◌==◌, not, ◌&&◌, nat_le, slice_get}
use Rattle.std.proofs.lemmas.Bool.{cases_Bool, and_parts, false≢true, false_from_ne_true, both_ways}
use Rattle.std.proofs.lemmas.Bool.Decides.{nat_tests}
use Rattle.std.proofs.lemmas.Option.{none-some, same_Some}
use Rattle.nommu_regions.specs.Regions.{is_copy}
use Rattle.mmap_rules.specs.declared.mapping.Mapping.{Mapping}
use Rattle.mmap_rules.specs.Space.{in_range, own_in, writable_in, has_page}
use Rattle.mmap_rules.specs.Held.{IsMapping}
use Rattle.mmap_rules.specs.Mappings.{page_at}
use Rattle.mmap_rules.proofs.Lists.{Found, found_any, any_found}
use Rattle.vfork_exec.specs.Keyed.{find}
use Rattle.vfork_exec.proofs.Keyed.{find_head, eqb_is, eqb_other}
use Rattle.machine_world.specs.World.{LiveSpace, World, id_of}
use Rattle.machine_world.specs.Free.{is_held}
use Rattle.machine_world.specs.MapCalls.{all_maps}
use Rattle.alone_laws.specs.Sound.{Apart, AreApart, IsSound}
use Rattle.alone_laws.proofs.Apart.{apart_back, apart_across, apart_rest}
use Rattle.alone_laws.proofs.SharedPages.{In, in_all, same_run, not_held}
use Rattle.memory_world.specs.Physical.{in_memory, is_free_at}
use Rattle.memory_world.specs.Wider.{IsWithin}
use Rattle.go_on_laws.specs.Alike.{in_pages}

-- ---- a mapping

-- its own bytes are in its pages
pub own_page : (pages : ℕ) (m : Mapping) (a : ℕ) → IsMapping pages m → in_range m.range a ≡ true → in_pages m a ≡ true
own_page pages m a is inside = let from = is.from in let to = is.to in grind (arith, nat_tests)

pub page_had : (m : Mapping) (a : ℕ) → in_pages m a ≡ true → has_page (page_at a) m ≡ true
page_had m a inside =
    let low : 2 ^ 31 + 4096 * m.first ≤ a = grind (arith, nat_tests) in
    let high : a < 2 ^ 31 + 4096 * (m.first + m.pages) = grind (arith, nat_tests) in
    let above : m.first ≤ (a - 2 ^ 31) / 4096 = omega arith in
    let below : (a - 2 ^ 31) / 4096 < m.first + m.pages = omega arith in
    grind (arith, nat_tests)

-- and those are in memory
pub page_inside : (w : World) (m : Mapping) (a : ℕ) → m.first + m.pages ≤ w.rest.pages → in_pages m a ≡ true → in_memory w a ≡ true
page_inside w m a within inside = grind (arith, nat_tests)

-- ---- a list of mappings

pub own_found : (maps : List Mapping) (a : ℕ) → own_in maps a ≡ true → Found Mapping (λ m. in_range m.range a) maps
unfolding own_in
own_found maps a is = found_any (λ m. in_range m.range a) maps is

pub found_own : (maps : List Mapping) (j : ℕ) (m : Mapping) (a : ℕ) → slice_get maps j ≡ Some m → in_range m.range a ≡ true → own_in maps a ≡ true
unfolding own_in
found_own maps j m a there inside = any_found (λ n. in_range n.range a) maps j m there inside

pub writable_found : (maps : List Mapping) (a : ℕ) → writable_in maps a ≡ true → Found Mapping (λ m. m.range.writes && in_range m.range a) maps
unfolding writable_in
writable_found maps a is = found_any (λ m. m.range.writes && in_range m.range a) maps is

-- ---- the pages of a world

and_false : (b : Bool) → (b && false) ≡ false
and_false true = refl
and_false false = refl

pub held : (ss : List LiveSpace) (page i : ℕ) (s : LiveSpace) (j : ℕ) (m : Mapping) → find id_of i ss ≡ Some s → slice_get s.space.maps j ≡ Some m → has_page page m ≡ true
    → is_held ss page ≡ true
held ss page i s j m found there has = elim (cases_Bool (is_held ss page)) [
  | inl is ↦ is
  | inr free ↦ absurd (both_ways (has_page page m) (not_held ss page i s j m free found there) has)
]

pub not_free : (w : World) (i : ℕ) (s : LiveSpace) (j : ℕ) (m : Mapping) (a : ℕ) → find id_of i w.spaces ≡ Some s → slice_get s.space.maps j ≡ Some m → in_pages m a ≡ true
    → is_free_at w a ≡ false
not_free w i s j m a found there inside =
    ap (λ (b : Bool). nat_le (2 ^ 31) a && not b) (held w.spaces (page_at a) i s j m found there (page_had m a inside)) ∙ and_false (nat_le (2 ^ 31) a)

-- ---- mappings of two spaces

pub spaces_apart : (i k : ℕ) (s t : LiveSpace) (ss : List LiveSpace) → AreApart (all_maps ss) → find id_of i ss ≡ Some s → find id_of k ss ≡ Some t → i ≢ k
    → (j l : ℕ) (m n : Mapping) → slice_get s.space.maps j ≡ Some m → slice_get t.space.maps l ≡ Some n → Apart m n
unfolding find
spaces_apart i k s t [] apart first second other j l m n one two = absurd (none-some s first)
spaces_apart i k s t (x ∷ ss) apart first second other j l m n one two = elim (cases_Bool (x.id == i)) [
  | inl here ↦ (
      let same : x ≡ s = same_Some x s (sym (find_head id_of i x ss true here) ∙ first) in
      let later : find id_of k ss ≡ Some t = sym (find_head id_of k x ss false (eqb_other x.id k (λ e. other (sym (eqb_is x.id i here) ∙ e)))) ∙ second in
      let it : In (all_maps ss) n = in_all k ss t l n later two in
      apart_across x.space.maps (all_maps ss) apart j m (ap (λ (y : LiveSpace). slice_get y.space.maps j) same ∙ one) it.at n it.there)
  | inr away ↦ (
      let later : find id_of i ss ≡ Some s = sym (find_head id_of i x ss false away) ∙ first in
      elim (cases_Bool (x.id == k)) [
        | inl here ↦ (
            let same : x ≡ t = same_Some x t (sym (find_head id_of k x ss true here) ∙ second) in
            let it : In (all_maps ss) m = in_all i ss s j m later one in
            apart_back n m (apart_across x.space.maps (all_maps ss) apart l n (ap (λ (y : LiveSpace). slice_get y.space.maps l) same ∙ two) it.at m it.there))
        | inr far ↦
            spaces_apart i k s t ss (apart_rest x.space.maps (all_maps ss) apart) later (sym (find_head id_of k x ss false far) ∙ second) other j l m n one two
      ])
]

-- ---- a space of a sound world

module _ (w : World) (sound : IsSound w) (i : ℕ) (s : LiveSpace) (has : find id_of i w.spaces ≡ Some s) where
  pub is_mapping : (j : ℕ) (m : Mapping) → slice_get s.space.maps j ≡ Some m → IsMapping w.rest.pages m
  is_mapping j m there = (sound.spaces i s has).mappings j m there

  pub may_own : IsWithin (own_in s.space.maps) (writable_in s.space.maps)
  may_own a may =
      let f = writable_found s.space.maps a may in
      found_own s.space.maps f.at f.item a f.there (and_parts f.item.range.writes (in_range f.item.range a) f.passes).1

  pub own_inside : (a : ℕ) → own_in s.space.maps a ≡ true → in_memory w a ≡ true
  own_inside a own =
      let f = own_found s.space.maps a own in
      page_inside w f.item a ((sound.spaces i s has).inside f.at f.item f.there) (own_page w.rest.pages f.item a (is_mapping f.at f.item f.there) f.passes)

  pub may_inside : IsWithin (in_memory w) (writable_in s.space.maps)
  may_inside a may = own_inside a (may_own a may)

  pub own_not_free : (a : ℕ) → own_in s.space.maps a ≡ true → is_free_at w a ≡ false
  own_not_free a own =
      let f = own_found s.space.maps a own in
      not_free w i s f.at f.item a has f.there (own_page w.rest.pages f.item a (is_mapping f.at f.item f.there) f.passes)

  -- what is writable is in a mapping that is no copy
  record Writes (a : ℕ) : Type 0 where
    at : ℕ
    item : Mapping
    there : slice_get s.space.maps at ≡ Some item
    page : has_page (page_at a) item ≡ true
    own : is_copy item.source ≡ false

  writes : (a : ℕ) → writable_in s.space.maps a ≡ true → Writes a
  writes a may =
      let f = writable_found s.space.maps a may in
      let parts = and_parts f.item.range.writes (in_range f.item.range a) f.passes in
      let is = is_mapping f.at f.item f.there in
      record { at = f.at; item = f.item; there = f.there; page = page_had f.item a (own_page w.rest.pages f.item a is parts.1); own = ap is_copy (is.writes parts.0) }

  module _ (k : ℕ) (t : LiveSpace) (found : find id_of k w.spaces ≡ Some t) where
    -- no page of a copy may be written
    pub copy_locked : (l : ℕ) (n : Mapping) → slice_get t.space.maps l ≡ Some n → is_copy n.source ≡ true → (a : ℕ) → in_pages n a ≡ true → writable_in s.space.maps a ≡ false
    copy_locked l n there copy a inside = false_from_ne_true (writable_in s.space.maps a) (λ may. (
        let f = writes a may in
        let one = in_all i w.spaces s f.at f.item has f.there in
        let two = in_all k w.spaces t l n found there in
        let same = same_run (all_maps w.spaces) one.at two.at f.item n sound.apart one.there two.there (page_at a) f.page (page_had n a inside) in
        false≢true (sym f.own ∙ ap is_copy same.source ∙ copy)))

    -- nor what is another space's own
    pub other_locked : k ≢ i → (a : ℕ) → own_in t.space.maps a ≡ true → writable_in s.space.maps a ≡ false
    other_locked other a own = false_from_ne_true (writable_in s.space.maps a) (λ may. (
        let f = writes a may in
        let g = own_found t.space.maps a own in
        let page = page_had g.item a (own_page w.rest.pages g.item a ((sound.spaces k t found).mappings g.at g.item g.there) g.passes) in
        let shared = spaces_apart i k s t w.spaces sound.apart has found (λ e. other (sym e)) f.at g.at f.item g.item f.there g.there (page_at a) f.page page in
        false≢true (sym f.own ∙ shared.copy)))

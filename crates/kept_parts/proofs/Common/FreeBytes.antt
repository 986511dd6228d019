-- At an address in a page that no mapping holds, no live space has a byte.
use Rattle.std.proofs.Common.{◌≡◌, ℕ, zero, suc, ◌+◌, ◌*◌, ◌<◌, ◌≤◌, inl, inr, Bool, true, false, not, List, [], ◌∷◌, ◌++◌, arith, refl, sym, ap, ◌∙◌}
use Rattle.std.specs.Prelude.{Option, Some, None, slice_get, if◌then◌else◌, ◌&&◌, nat_le, ◌==◌}
use Rattle.std.proofs.lemmas.Bool.{cases_lt, false≢true}
use Rattle.std.proofs.lemmas.Bool.Decides.{nat_tests}
use Rattle.std.proofs.lemmas.Option.{none-some}
use Rattle.byte_words.specs.ByteMap.{Bytes, with_bytes}
use Rattle.page_runs.specs.Pages.{in_run}
use Rattle.nommu_regions.specs.Regions.{AreFree, is_held}
use Rattle.nommu_regions.proofs.Held.{held_by}
use Rattle.mmap_rules.specs.declared.mapping.Mapping.{Mapping}
use Rattle.mmap_rules.specs.Space.{Space, memory_base, in_range, own_in}
use Rattle.mmap_rules.specs.Held.{Held, page_address}
use Rattle.region_watch.specs.Private.{only, physical}
use Rattle.vfork_exec.specs.Keyed.{find, change, without}
use Rattle.vfork_exec.proofs.Keyed.{find_head, change_head, without_head}
use Rattle.machine_world.specs.World.{LiveSpace, id_of}
use Rattle.memory_world.specs.Physical.{or_below, bytes_in, is_free_at}
use Rattle.kept_parts.specs.Kept.{Kept}
use Rattle.kept_parts.specs.Regular.{Regular}
use Rattle.kept_parts.specs.Stands.{About, private_bytes, live_at, live_from, live_spaces, world_of}
use Rattle.call_bytes.proofs.Places.{any_at, decide, is_false}
use Rattle.kept_parts.proofs.Common.SpacesApart.{page_of, page_there, has_held}
use Rattle.kept_parts.proofs.Common.FreePages.{same_held}
use Rattle.kept_parts.proofs.Mappings.Bytes.{Beside}

-- ---- a byte below another one

none_front : (x y : Option ℕ) → or_below x y ≡ None → x ≡ None
none_front (Some b) y is = absurd (none-some b (sym is))
none_front None y is = refl

none_back : (x y : Option ℕ) → or_below x y ≡ None → y ≡ None
none_back (Some b) y is = absurd (none-some b (sym is))
none_back None y is = is

below_none : (x y : Option ℕ) → y ≡ None → or_below x y ≡ x
below_none (Some b) y is = refl
below_none None y is = is

below_if : (here : Bool) (b : ℕ) (x y under : Option ℕ) → or_below x under ≡ y → or_below (if here then Some b else x) under ≡ (if here then Some b else y)
below_if true b x y under is = refl
below_if false b x y under is = is

-- bytes laid over nothing show where bytes are laid over all else
pub below_with : (x y : Bytes) (from : ℕ) (bytes : List ℕ) (at : ℕ) → x at ≡ None → or_below (with_bytes x from bytes at) (y at) ≡ with_bytes y from bytes at
below_with x y from [] at none = ap (λ (v : Option ℕ). or_below v (y at)) none
below_with x y from (b ∷ bytes) at none =
    below_if (at == from) b (with_bytes x (from + 1) bytes at) (with_bytes y (from + 1) bytes at) (y at) (below_with x y (from + 1) bytes at none)

-- ---- the bytes of spaces

none_both : (xs ys : List LiveSpace) (at : ℕ) → bytes_in xs at ≡ None → bytes_in ys at ≡ None → bytes_in (xs ++ ys) at ≡ None
none_both [] ys at front back = back
none_both (x ∷ xs) ys at front back =
    ap (λ (v : Option ℕ). or_below v (bytes_in (xs ++ ys) at)) (none_front (x.space.bytes at) (bytes_in xs at) front)
    ∙ none_both xs ys at (none_back (x.space.bytes at) (bytes_in xs at) front) back

module _ (mem : List ℕ) (at : ℕ) where
  none_at : (i : ℕ) (s : Option Held) → ((o : Held) → s ≡ Some o → private_bytes mem o at ≡ None) → bytes_in (live_at mem i s) at ≡ None
  none_at i None none = refl
  none_at i (Some h) none = ap (λ (v : Option ℕ). or_below v None) (none h refl)

  none_from : (i : ℕ) (spaces : List (Option Held)) → ((j : ℕ) (o : Held) → slice_get spaces j ≡ Some (Some o) → private_bytes mem o at ≡ None) →
      bytes_in (live_from mem i spaces) at ≡ None
  none_from i [] none = refl
  none_from i (s ∷ ss) none =
      none_both (live_from mem (i + 1) ss) (live_at mem i s) at (none_from (i + 1) ss (λ j. none (suc j))) (none_at i s (λ o is. none zero o (ap Some is)))

-- where some are gone and none had a byte
pub without_none : (n : ℕ) (at : ℕ) (spaces : List LiveSpace) → bytes_in spaces at ≡ None → bytes_in (without id_of n spaces) at ≡ None
unfolding without
without_none n at [] none = refl
without_none n at (l ∷ ls) none =
    let rest : bytes_in (without id_of n ls) at ≡ None = without_none n at ls (none_back (l.space.bytes at) (bytes_in ls at) none) in
    elim (decide (id_of l == n)) [
      | inl is ↦ ap (λ (ss : List LiveSpace). bytes_in ss at) (without_head id_of n l ls true is) ∙ rest
      | inr is ↦
          ap (λ (ss : List LiveSpace). bytes_in ss at) (without_head id_of n l ls false is)
          ∙ ap (λ (v : Option ℕ). or_below v (bytes_in (without id_of n ls) at)) (none_front (l.space.bytes at) (bytes_in ls at) none) ∙ rest
    ]

-- where one of them becomes another one, and none has a byte, that one's bytes show
pub bytes_changed : (n : ℕ) (x : Space) (at : ℕ) (spaces : List LiveSpace) (s : LiveSpace) → find id_of n spaces ≡ Some s → bytes_in spaces at ≡ None →
    bytes_in (change id_of n (λ (l : LiveSpace). record l { space = x }) spaces) at ≡ x.bytes at
unfolding find
bytes_changed n x at [] s there none = absurd (none-some s there)
bytes_changed n x at (l ∷ ls) s there none =
    let other : l.space.bytes at ≡ None = none_front (l.space.bytes at) (bytes_in ls at) none in
    let rest : bytes_in ls at ≡ None = none_back (l.space.bytes at) (bytes_in ls at) none in
    elim (decide (id_of l == n)) [
      | inl is ↦
          ap (λ (ss : List LiveSpace). bytes_in ss at) (change_head id_of n (λ (y : LiveSpace). record y { space = x }) l ls true is)
          ∙ below_none (x.bytes at) (bytes_in ls at) rest
      | inr is ↦
          ap (λ (ss : List LiveSpace). bytes_in ss at) (change_head id_of n (λ (y : LiveSpace). record y { space = x }) l ls false is)
          ∙ ap (λ (v : Option ℕ). or_below v (bytes_in (change id_of n (λ (y : LiveSpace). record y { space = x }) ls) at)) other
          ∙ bytes_changed n x at ls s (sym (find_head id_of n l ls false is) ∙ there) rest
    ]

-- ---- the live spaces

and_not : (x b : Bool) → (x && not b) ≡ true → b ≡ false
and_not true true is = absurd (false≢true is)
and_not true false is = refl
and_not false b is = absurd (false≢true is)

nor_not : (x b : Bool) → (x && not b) ≡ false → x ≡ true → b ≡ true
nor_not true true is here = refl
nor_not true false is here = absurd (false≢true (sym is))
nor_not false b is here = absurd (false≢true here)

module _ (k : Kept) (regular : Regular k) (at : ℕ) where
  -- an own byte lies in a page of a live region
  own_held : (j : ℕ) (o : Held) → slice_get k.spaces j ≡ Some (Some o) → own_in o.maps at ≡ true → is_held k.regions (page_of at) ≡ true
  unfolding own_in
  own_held j o is own =
      let m = any_at (λ (m : Mapping). in_range m.range at) o.maps own in
      let names = regular.names j m.place o m.item is m.there in
      let has = page_there k.regions m.item at names m.passes in
      held_by k.regions m.item.first names.region (page_of at) names.there (has_held k regular j m.place o m.item (page_of at) is m.there names has)

  pub own_none : (mem : List ℕ) (j : ℕ) (o : Held) → slice_get k.spaces j ≡ Some (Some o) → is_held k.regions (page_of at) ≡ false → private_bytes mem o at ≡ None
  unfolding private_bytes only
  own_none mem j o is free =
      ap (λ (own : Bool). if own then physical mem at else None) (is_false (own_in o.maps at) (λ own. false≢true (sym free ∙ own_held j o is own)))

  pub spaces_none : (mem : List ℕ) → is_held k.regions (page_of at) ≡ false → bytes_in (live_spaces mem k.spaces) at ≡ None
  unfolding live_spaces
  spaces_none mem free = none_from mem at 0 k.spaces (λ j o is. own_none mem j o is free)

  module _ (a : About) where
    free_is_at : is_free_at (world_of a k) at ≡ (nat_le memory_base at && not (is_held k.regions (page_of at)))
    unfolding world_of live_spaces
    free_is_at = ap (λ (held : Bool). nat_le memory_base at && not held) (same_held k regular (page_of at))

    -- by the regions
    pub page_free : is_free_at (world_of a k) at ≡ true → is_held k.regions (page_of at) ≡ false
    page_free is = and_not (nat_le memory_base at) (is_held k.regions (page_of at)) (sym free_is_at ∙ is)

    page_held : is_free_at (world_of a k) at ≡ false → memory_base ≤ at → is_held k.regions (page_of at) ≡ true
    page_held is low = nor_not (nat_le memory_base at) (is_held k.regions (page_of at)) (sym free_is_at ∙ is) (grind (arith, nat_tests, low))

    pub bytes_none : is_free_at (world_of a k) at ≡ true → bytes_in (world_of a k).spaces at ≡ None
    unfolding world_of
    bytes_none is = spaces_none k.mem (page_free is)

    -- no byte of a free run lies in a page that is held
    pub beside_run : (page count : ℕ) → AreFree k.regions page count → is_free_at (world_of a k) at ≡ false → Beside (page_address page) (4096 * count) at
    beside_run page count free is = elim (cases_lt at (page_address page)) [
      | inl low ↦ inl low
      | inr from ↦ (elim (cases_lt at (page_address page + 4096 * count)) [
        | inl within ↦ (
            let first : page ≤ page_of at = omega (arith, from) in
            let last : page_of at < page + count = omega (arith, from, within) in
            let run : in_run page count (page_of at) ≡ true = grind (arith, nat_tests, first, last) in
            absurd (false≢true (sym (free.free (page_of at) run) ∙ page_held is (omega (arith, from)))))
        | inr past ↦ inr past
      ])
    ]

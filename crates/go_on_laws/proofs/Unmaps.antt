-- munmap.
use Rattle.std.proofs.Common.{◌≡◌, ℕ, ◌*◌, true, false, inl, inr, List, [], ◌∷◌, Option, Some, None, refl, sym, ap, subst, ◌∙◌, arith}
use Rattle.std.specs.Prelude.{slice_get}
use Rattle.std.proofs.lemmas.Bool.Decides.{nat_tests}
use Rattle.std.proofs.lemmas.Option.{none-some}
use Rattle.nommu_regions.specs.declared.region.Source.TheVariants.{Own}
use Rattle.call_log.specs.declared.errno.Errno.TheVariants.{Einval}
use Rattle.mmap_rules.specs.declared.mapping.Mapping.{Mapping}
use Rattle.mmap_rules.specs.Space.{Space, in_range, own_in}
use Rattle.mmap_rules.specs.Want.{pages_for}
use Rattle.mmap_rules.specs.Mappings.{can_lose, Hit, hit, without_hit}
use Rattle.mmap_rules.proofs.Lists.{each_cut}
use Rattle.mmap_rules.proofs.Parts.{Cuts, both, each_left}
use Rattle.region_watch.specs.Private.{only}
use Rattle.vfork_exec.specs.Keyed.{find}
use Rattle.machine_world.specs.World.{Process, LiveSpace, World, id_of}
use Rattle.machine_world.specs.Asks.{Ask, Reply, arg, leaves}
use Rattle.machine_world.specs.MapCalls.{over_maps, unmaps, munmap_row}
use Rattle.machine_world.specs.Event.{Trace, went, ask_of, entry_of, item_of, replied_world, room_for, served, answered}
use Rattle.alone_laws.specs.Sound.{IsSound}
use Rattle.alone_laws.proofs.Unmaps.{HitAt, is_hit}
use Rattle.memory_world.specs.Physical.{Physical, carried, answered_in}
use Rattle.go_on_laws.specs.Alike.{Stands}
use Rattle.go_on_laws.proofs.Pages.{own_found, found_own, is_mapping}
use Rattle.go_on_laws.proofs.Behind.{HasSource, IsIn, only_same, Goes, Came, goes_room, came_plain, is_in, behind_put}
use Rattle.go_on_laws.proofs.Writes.{only_at, bytes_are, goes_refuses}

module _ (p : Physical) (sound : IsSound p.world) (stands : Stands p.world p) (q : Process) (s : LiveSpace) (has : find id_of q.space p.world.spaces ≡ Some s) (bytes : List ℕ) where
  abbrev pub the_ask : Ask
  the_ask = ask_of p.world q s.space bytes

  abbrev left_reply : ℕ → Space → Reply
  left_reply value space = record { value = value; got = []; rest = p.world.rest; space = space; over = false }

  -- a reply that leaves this space
  abbrev pub left_with : ℕ → Space → World
  left_with value space = replied_world p.world the_ask (left_reply value space) space.bytes

  abbrev pub left_trace : ℕ → Space → Trace
  left_trace value space = record { space = q.space; events = 1; items = item_of (entry_of the_ask value []) space.bytes ∷ []; begins = None; over = false }

  pub goes_leaves : (value : ℕ) (space : Space) → Came p (left_with value space) false (carried p p.memory (went (left_with value space) (left_trace value space)))
      → Goes p (answered p.world the_ask (leaves the_ask value space)) (answered_in p the_ask (leaves the_ask value space))
  unfolding served
  goes_leaves value space came =
      goes_room p p.memory (room_for p.world the_ask (left_reply value space)) (left_with value space) (left_with value space) (left_trace value space) (left_trace value space) came

  -- and memory
  pub goes_put : (value : ℕ) (space : Space) → IsIn p.memory p.world.rest.tree space
      → Goes p (answered p.world the_ask (leaves the_ask value space)) (answered_in p the_ask (leaves the_ask value space))
  goes_put value space its = goes_leaves value space (came_plain p (left_with value space) (left_trace value space) refl (behind_put p sound stands q.space s has space its))

  module _ (addr len : ℕ) (h : Hit) (found : HitAt s.space.maps addr len h) where
    abbrev size : ℕ
    size = 4096 * pages_for len

    cuts : can_lose addr size h.mapping ≡ true → Cuts p.world.rest.pages h.mapping addr size
    cuts can = record {
      mapping = is_mapping p.world sound q.space s has h.at h.mapping found.is.there;
      can = can;
      begins = found.begins;
      some = (let some = found.some in omega arith);
      whole = omega arith;
    }

    -- what is left of the mapping has no other bytes, and is no copy
    part_own : (j : ℕ) (n : Mapping) → slice_get h.left j ≡ Some n → (a : ℕ) → in_range n.range a ≡ true → own_in s.space.maps a ≡ true
    part_own j n there = elim found.is.leaves [
      | inl goes ↦ absurd (none-some n (ap (λ (ms : List Mapping). slice_get ms j) (sym goes.1) ∙ there))
      | inr cut ↦ (
          let c = cuts cut.0 in
          let b = both p.world.rest.pages h.mapping addr size c in
          let begins = b.before.begins in
          let ends = b.before.ends in
          let up = b.before.up in
          let above = b.before.above in
          let high = b.behind.up in
          let low = b.behind.above in
          let first = b.behind.begins in
          let last = b.behind.ends in
          each_left (λ n. (a : ℕ) → in_range n.range a ≡ true → own_in s.space.maps a ≡ true) h.mapping addr size
          (λ some a inside. found_own s.space.maps h.at h.mapping a found.is.there (grind (arith, nat_tests)))
          (λ some a inside. found_own s.space.maps h.at h.mapping a found.is.there (grind (arith, nat_tests)))
          j n (ap (λ (ms : List Mapping). slice_get ms j) (sym cut.1) ∙ there))
    ]

    part_has : (j : ℕ) (n : Mapping) → slice_get h.left j ≡ Some n → HasSource p.memory p.world.rest.tree n n.source
    part_has j n there = elim found.is.leaves [
      | inl goes ↦ absurd (none-some n (ap (λ (ms : List Mapping). slice_get ms j) (sym goes.1) ∙ there))
      | inr cut ↦ (
          let c = cuts cut.0 in
          let own : h.mapping.source ≡ Own = (c.mapping.whole (both p.world.rest.pages h.mapping addr size c).anonymous).0 in
          let is : n.source ≡ Own = each_left (λ n. n.source ≡ Own) h.mapping addr size (λ some. own) (λ some. own) j n (ap (λ (ms : List Mapping). slice_get ms j) (sym cut.1) ∙ there) in
          subst (HasSource p.memory p.world.rest.tree n) (sym is) tt)
    ]

    own_less : (a : ℕ) → own_in (without_hit s.space.maps h) a ≡ true → own_in s.space.maps a ≡ true
    unfolding without_hit
    own_less a is =
        let f = own_found (without_hit s.space.maps h) a is in
        each_cut (λ n. (a : ℕ) → in_range n.range a ≡ true → own_in s.space.maps a ≡ true) h.at s.space.maps h.left (λ j n there a inside. found_own s.space.maps j n a there inside)
        part_own f.at f.item f.there a f.passes

    unmapped_in : IsIn p.memory p.world.rest.tree (over_maps s.space (without_hit s.space.maps h))
    unfolding without_hit
    unmapped_in = record {
      shown =
          ap (only (own_in (without_hit s.space.maps h))) (bytes_are p sound stands q.space s has)
          ∙ only_same (own_in (without_hit s.space.maps h)) (only (own_in s.space.maps) p.memory) p.memory (λ a is. only_at (own_in s.space.maps) p.memory a (own_less a is));
      files = each_cut (λ n. HasSource p.memory p.world.rest.tree n n.source) h.at s.space.maps h.left (is_in p sound stands q.space s has).files part_has;
    }

  pub goes_munmap : Goes p (answered p.world the_ask (munmap_row the_ask)) (answered_in p the_ask (munmap_row the_ask))
  unfolding munmap_row
  goes_munmap = by (hit s.space.maps (arg the_ask 0) (arg the_ask 1)) refl
    where
      by : (o : Option Hit) → hit s.space.maps (arg the_ask 0) (arg the_ask 1) ≡ o → Goes p (answered p.world the_ask (unmaps the_ask o)) (answered_in p the_ask (unmaps the_ask o))
      by None is = goes_refuses p sound stands q s has bytes Einval
      by (Some h) is =
          goes_put 0 (over_maps s.space (without_hit s.space.maps h)) (unmapped_in (arg the_ask 0) (arg the_ask 1) h (is_hit s.space.maps (arg the_ask 0) (arg the_ask 1) h is))

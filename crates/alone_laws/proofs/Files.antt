-- A copy has its file's bytes as long as the file isn't changed.
use Rattle.std.proofs.Common.{◌≡◌, ℕ, List, Some, true, refl, sym, ap, ◌∙◌, arith}
use Rattle.std.specs.Prelude.{slice_get}
use Rattle.nommu_regions.specs.declared.region.Source.{Source}
use Rattle.nommu_regions.specs.declared.region.Source.TheVariants.{Own, Copy}
use Rattle.nommu_regions.specs.Regions.{is_copy}
use Rattle.mmap_rules.specs.declared.mapping.Mapping.{Mapping}
use Rattle.mmap_rules.specs.Space.{Space, in_range}
use Rattle.mem_files.specs.Inodes.{Inodes}
use Rattle.machine_world.specs.Ages.{Follows}
use Rattle.alone_laws.specs.Sound.{copied_byte, HoldsSource, HoldCopies}

pub follows_itself : (nodes : Inodes) → Follows nodes nodes
follows_itself nodes = record {
  grows = omega arith;
  nodes = λ id n given there. record { was = n; there = there; ages = record { up = omega arith; same = λ e. refl } };
}

-- the same mapping over nodes that follow, with the same bytes where it is a copy
pub holds_later : (s t : Space) (old new : Inodes) (m : Mapping) (source : Source) → Follows old new
    → (is_copy source ≡ true → (a : ℕ) → in_range m.range a ≡ true → t.bytes a ≡ s.bytes a) → HoldsSource s old m source → HoldsSource t new m source
holds_later s t old new m Own follows bytes holds = tt
holds_later s t old new m (Copy file change first) follows bytes holds = record {
  given = let more = follows.grows in let given = holds.given in omega arith;
  up = λ n there. (
      let aged = follows.nodes file n holds.given there in
      let before = holds.up aged.was aged.there in
      let after = aged.ages.up in
      omega arith);
  same = λ n a there count inside. (
      let aged = follows.nodes file n holds.given there in
      let before = holds.up aged.was aged.there in
      let after = aged.ages.up in
      let was : change ≡ aged.was.change = omega arith in
      let still : aged.was.change ≡ n.change = omega arith in
      bytes refl a inside ∙ holds.same aged.was a aged.there was inside ∙ ap (λ (bs : List ℕ). Some (copied_byte bs m a)) (aged.ages.same still));
}

pub copies_later : (s t : Space) (old new : Inodes) → t.maps ≡ s.maps → Follows old new
    → ((j : ℕ) (m : Mapping) → slice_get s.maps j ≡ Some m → is_copy m.source ≡ true → (a : ℕ) → in_range m.range a ≡ true → t.bytes a ≡ s.bytes a)
    → HoldCopies old s → HoldCopies new t
copies_later s t old new maps follows bytes holds = λ j m there. (
    let was : slice_get s.maps j ≡ Some m = ap (λ (ms : List Mapping). slice_get ms j) (sym maps) ∙ there in
    holds_later s t old new m m.source follows (bytes j m was) (holds j m was))

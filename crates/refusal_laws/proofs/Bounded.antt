-- A regular world is bounded.
use Rattle.std.proofs.Common.{◌≡◌, ℕ, ◌+◌, ◌≤◌, Bool, true, false, refl, sym, ap, ◌∙◌, arith}
use Rattle.std.proofs.lemmas.Bool.{false≢true}
use Rattle.nommu_regions.specs.declared.region.Source.{Source}
use Rattle.nommu_regions.specs.declared.region.Source.TheVariants.{Own, Copy}
use Rattle.nommu_regions.specs.Regions.{is_copy}
use Rattle.mmap_rules.specs.declared.mapping.Mapping.{Mapping}
use Rattle.mmap_rules.specs.Held.{IsMapping}
use Rattle.flat_loader.specs.Alone.{most_pages}
use Rattle.machine_world.specs.World.{World, id_of}
use Rattle.refusal_laws.specs.Regular.{HasBreak, IsRegularWorld}
use Rattle.refusal_laws.specs.Bounded.{IsPlaced, IsWithin, IsBounded}
use Rattle.refusal_laws.proofs.Lists.{each_by_place, each_by_number, each_found}

placed : (pages : ℕ) (m : Mapping) → pages ≤ most_pages → m.first + m.pages ≤ pages → IsMapping pages m → IsPlaced m m.source
placed pages m most inside is = by m.source refl
  where
    uncut : is_copy m.source ≡ true → (b : Bool) → m.range.anonymous ≡ b → m.range.anonymous ≡ false
    uncut copy false whole = whole
    uncut copy true anonymous = absurd (false≢true (ap is_copy (sym (is.whole anonymous).0) ∙ copy))

    by : (source : Source) → m.source ≡ source → IsPlaced m source
    by Own same = tt
    by (Copy file change first) same = (omega (arith, inside, most), uncut (ap is_copy same) m.range.anonymous refl)

pub bounded : (w : World) → IsRegularWorld w → IsBounded w
bounded w r = record {
  most = r.sound.most;
  pids = r.sound.pids;
  given = r.sound.given;
  parents = r.parents;
  spaces = each_by_number IsWithin id_of w.loads w.spaces r.sound.numbers (λ i s found. record {
    break = each_found HasBreak id_of i w.spaces s r.breaks found;
    copies = each_by_place (λ m. IsPlaced m m.source) s.space.maps
        (λ j m there. placed w.rest.pages m r.sound.most ((r.sound.spaces i s found).inside j m there) ((r.sound.spaces i s found).mappings j m there));
  });
  counted = r.counted;
}

use Rattle.std.proofs.Common.{◌≡◌, ◌<◌, List, length, arith, ap, refl, ◌∙◌}
use Rattle.std.specs.Prelude.{Some, slice_get}
use Rattle.std.proofs.lemmas.Option.{same_Some}
use Rattle.nommu_regions.specs.declared.region.Region.{Region}
use Rattle.nommu_regions.specs.Ids.{Numbered, start_of}
use Rattle.nommu_regions.proofs.Copies.{copy_inside, copy_lives, copy_covers_them}
use Rattle.nommu_regions.proofs.Numbered.{start_at}
use Rattle.nommu_regions.proofs.regions.Regions.find.Goals as goal

pub index-requires : goal.index-requires
index-requires c =
    let len : length c.deref.result.now ≡ length c.self.inside.regions.items = ap (λ (rs : List Region). length rs) c.deref.ensures.value in
    omega (arith, copy_inside c.deref.result.now c.args.file c.args.change c.args.first c.args.pages c.in_ok-place.place c.in_ok-place.ensures, c.self.invariant.1.ids_len, c.self.inside.ids.ok.0)

pub returns-clause-lowest : goal.returns-clause-lowest
returns-clause-lowest c =
    let less : c.in_ok-place.place < length c.self.inside.regions.items = omega (arith, copy_inside c.deref.result.now c.args.file c.args.change c.args.first c.args.pages c.in_ok-place.place c.in_ok-place.ensures, ap (λ (rs : List Region). length rs) c.deref.ensures.value) in
    let here : start_of c.args.self.now c.index.result.now ≡ c.in_ok-place.place = start_at c.self.inside.regions.items c.self.inside.ids.items c.self.inside.starts.items c.args.self.now c.in_ok-place.place c.index.result.now _ c.self.view_is c.self.invariant.1 less c.self.inside.ids.ok.0 c.index.ensures in
    let lowest = rw c.deref.ensures.value at c.in_ok-place.ensures in
    rw (here, ← c.self.view_is) lowest

pub returns-clause-live : goal.returns-clause-live
returns-clause-live c =
    let less : c.in_ok-place.place < length c.self.inside.regions.items = omega (arith, copy_inside c.deref.result.now c.args.file c.args.change c.args.first c.args.pages c.in_ok-place.place c.in_ok-place.ensures, ap (λ (rs : List Region). length rs) c.deref.ensures.value) in
    let here : start_of c.args.self.now c.index.result.now ≡ c.in_ok-place.place = start_at c.self.inside.regions.items c.self.inside.ids.items c.self.inside.starts.items c.args.self.now c.in_ok-place.place c.index.result.now _ c.self.view_is c.self.invariant.1 less c.self.inside.ids.ok.0 c.index.ensures in
    rw here (copy_lives c.deref.result.now c.args.self.now.regions c.args.file c.args.change c.args.first c.args.pages c.in_ok-place.place (c.deref.ensures.value ∙ ap (λ (s : Numbered). s.regions) c.self.view_is) c.in_ok-place.ensures)

pub returns-clause-copy : goal.returns-clause-copy
returns-clause-copy c id r one there =
    let less : c.in_ok-place.place < length c.self.inside.regions.items = omega (arith, copy_inside c.deref.result.now c.args.file c.args.change c.args.first c.args.pages c.in_ok-place.place c.in_ok-place.ensures, ap (λ (rs : List Region). length rs) c.deref.ensures.value) in
    let here : start_of c.args.self.now c.index.result.now ≡ c.in_ok-place.place = start_at c.self.inside.regions.items c.self.inside.ids.items c.self.inside.starts.items c.args.self.now c.in_ok-place.place c.index.result.now _ c.self.view_is c.self.invariant.1 less c.self.inside.ids.ok.0 c.index.ensures in
    let same : c.index.result.now ≡ id = same_Some _ _ one in
    let stands : slice_get c.args.self.now.regions c.in_ok-place.place ≡ Some r = rw (← here, same) there in
    copy_covers_them c.deref.result.now c.args.self.now.regions c.args.file c.args.change c.args.first c.args.pages c.in_ok-place.place (c.deref.ensures.value ∙ ap (λ (s : Numbered). s.regions) c.self.view_is) c.in_ok-place.ensures c.in_ok-place.place r refl stands

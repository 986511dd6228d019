use Rattle.std.proofs.Common.{◌≡◌, ◌*◌, ◌∙◌, ℕ, length, replicate, refl, arith, ap, sym}
use Rattle.page_runs.specs.Choosers.{kind_of}
use Rattle.page_runs.specs.Free.{Free, without}
use Rattle.page_runs.proofs.Places.{gets}
use Rattle.nommu_regions.specs.Regions.{free_of}
use Rattle.nommu_regions.specs.Ids.{Numbered, start_of}
use Rattle.nommu_regions.proofs.OneChanges.{kept_fresh, are_free_now}
use Rattle.byte_words.specs.Patches.{laid}
use Rattle.nommu_regions.proofs.Numbered.{start_at, lives_new, region_new, inverse_set, others_set, away_from_free}
use Rattle.nommu_regions.proofs.regions.Regions.fresh.Goals as goal

pub index_mut-requires : goal.index_mut-requires
index_mut-requires g c =
    let free = are_free_now c.self.inside.regions.items c.self.inside.regions.items c.self.inside.free c.in_ok-first.first c.args.pages refl c.self.invariant.0 c.requires.pages c.in_ok-first.ensures.free in
    omega (arith, free.inside, c.self.inside.regions.ok.0, c.requires.pages)

pub overflow_mul-first : goal.overflow_mul-first
overflow_mul-first g c =
    let free = are_free_now c.self.inside.regions.items c.self.inside.regions.items c.self.inside.free c.in_ok-first.first c.args.pages refl c.self.invariant.0 c.requires.pages c.in_ok-first.ensures.free in
    omega (arith, free.inside, c.self.invariant.0.3)

pub overflow_add-first : goal.overflow_add-first
overflow_add-first g c =
    let free = are_free_now c.self.inside.regions.items c.self.inside.regions.items c.self.inside.free c.in_ok-first.first c.args.pages refl c.self.invariant.0 c.requires.pages c.in_ok-first.ensures.free in
    omega (arith, free.inside, c.self.invariant.0.3)

pub overflow_mul-pages : goal.overflow_mul-pages
overflow_mul-pages g c =
    let free = are_free_now c.self.inside.regions.items c.self.inside.regions.items c.self.inside.free c.in_ok-first.first c.args.pages refl c.self.invariant.0 c.requires.pages c.in_ok-first.ensures.free in
    omega (arith, free.inside, c.self.invariant.0.3)

pub clear-requires : goal.clear-requires
clear-requires g c =
    let free = are_free_now c.self.inside.regions.items c.self.inside.regions.items c.self.inside.free c.in_ok-first.first c.args.pages refl c.self.invariant.0 c.requires.pages c.in_ok-first.ensures.free in
    let len : length c.self.inside.regions.items ≡ length c.args.self.now.regions = ap (λ (s : Numbered). length s.regions) c.self.view_is in
    (omega arith, omega (arith, free.inside, c.requires.memory, len))

pub index-requires : goal.index-requires
index-requires g c =
    let free = are_free_now c.self.inside.regions.items c.self.inside.regions.items c.self.inside.free c.in_ok-first.first c.args.pages refl c.self.invariant.0 c.requires.pages c.in_ok-first.ensures.free in
    omega (arith, free.inside, c.self.invariant.1.ids_len, c.self.inside.ids.ok.0, c.requires.pages)

pub invariant_of-self-2 : goal.invariant_of-self-2
invariant_of-self-2 g c =
    let free = are_free_now c.self.inside.regions.items c.self.inside.regions.items c.self.inside.free c.in_ok-first.first c.args.pages refl c.self.invariant.0 c.requires.pages c.in_ok-first.ensures.free in
    (kept_fresh c.self.inside.regions.items c.self.inside.free c.take.new.self _ c.self.invariant.0 free c.requires.pages refl c.in_ok-first.ensures.pages, inverse_set c.self.inside.regions.items c.self.inside.ids.items c.self.inside.starts.items c.in_ok-first.first _ c.self.invariant.1)

pub returns-clause-placed : goal.returns-clause-placed
returns-clause-placed g c =
    let free = are_free_now c.self.inside.regions.items c.self.inside.regions.items c.self.inside.free c.in_ok-first.first c.args.pages refl c.self.invariant.0 c.requires.pages c.in_ok-first.ensures.free in
    let here : start_of c.args.self.now c.index.result.now ≡ c.in_ok-first.first = start_at c.self.inside.regions.items c.self.inside.ids.items c.self.inside.starts.items c.args.self.now c.in_ok-first.first c.index.result.now _ c.self.view_is c.self.invariant.1 (omega (arith, free.inside, c.requires.pages)) c.self.inside.ids.ok.0 c.index.ensures in
    let placed = rw c.self.invariant.0.1 at c.in_ok-first.ensures.placed in
    rw (here, ← c.self.view_is) placed

pub returns-clause-gets : goal.returns-clause-gets
returns-clause-gets g c = gets (kind_of c.args.chooser.now) (free_of c.args.self.now.regions).runs c.args.pages _ (returns-clause-placed g c)

pub returns-clause-made : goal.returns-clause-made
returns-clause-made g c =
    let free = are_free_now c.self.inside.regions.items c.self.inside.regions.items c.self.inside.free c.in_ok-first.first c.args.pages refl c.self.invariant.0 c.requires.pages c.in_ok-first.ensures.free in
    let here : start_of c.args.self.now c.index.result.now ≡ c.in_ok-first.first = start_at c.self.inside.regions.items c.self.inside.ids.items c.self.inside.starts.items c.args.self.now c.in_ok-first.first c.index.result.now _ c.self.view_is c.self.invariant.1 (omega (arith, free.inside, c.requires.pages)) c.self.inside.ids.ok.0 c.index.ensures in
    record {
      free = rw (here, ← c.self.view_is) free;
      front = rw (here, ← c.self.view_is) (sym (invariant_of-self-2 g c).0.1 ∙ (c.in_ok-first.ensures.pages ∙ ap (λ (f : Free). without f c.in_ok-first.first c.args.pages) c.self.invariant.0.1));
      regions = rw (here, ← c.self.view_is) refl;
      region = rw here (region_new c.self.inside.regions.items c.self.inside.starts.items c.args.self.now c.in_ok-first.first c.index.result.now _ c.self.view_is here (omega (arith, free.inside, c.requires.pages)));
      live = lives_new c.self.inside.regions.items c.self.inside.ids.items c.self.inside.starts.items c.in_ok-first.first c.index.result.now _ _ c.self.invariant.1 (omega (arith, free.inside, c.requires.pages)) c.self.inside.ids.ok.0 c.index.ensures (omega arith);
      others = others_set c.self.inside.regions.items c.self.inside.ids.items c.self.inside.starts.items c.args.self.now c.index.result.now c.in_ok-first.first _ c.self.view_is c.self.invariant.1 (λ other differs lives. away_from_free c.self.inside.regions.items c.in_ok-first.first c.args.pages _ c.self.invariant.0.0 free c.requires.pages lives);
      memory = rw here (c.clear.ensures ∙ ap (λ (k : ℕ). laid c.args.mem.now k (replicate (4096 * c.args.pages) 0)) (omega arith));
    }

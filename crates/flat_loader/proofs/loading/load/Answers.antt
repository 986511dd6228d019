use Rattle.std.proofs.Common.{◌≡◌, ℕ, ◌+◌, ◌*◌, ◌≤◌, ◌∙◌, List, length, replicate, refl, sym, ap, subst, length-set, arith, rules}
use Rattle.std.specs.Prelude.{Some, slice_set}
use Rattle.std.proofs.lemmas.Option.{same_Some}
use Rattle.byte_words.specs.Patches.{laid}
use Rattle.page_runs.specs.Choosers.{kind_of}
use Rattle.nommu_regions.specs.declared.region.Region.{Region}
use Rattle.nommu_regions.specs.Regions.{AreFree}
use Rattle.nommu_regions.specs.Ids.{Numbered, start_of, region_of}
use Rattle.mmap_rules.specs.Held.{held_block}
use Rattle.flat_loader.specs.Original.{flat_original, block_pages}
use Rattle.flat_loader.specs.Frame.{texts}
use Rattle.flat_loader.specs.Loads.{block_page, block_region}
use Rattle.flat_loader.proofs.Started.{block_fits, space_started, length-run_cleared, outside_cleared}
use Rattle.flat_loader.proofs.Refused.{not_refused}
use Rattle.flat_loader.proofs.loading.load.Goals as goal

pub new-space-requires-clause-fits : goal.new-space-requires-clause-fits
new-space-requires-clause-fits g c = λ r there.
    let region : block_region (start_of c.args.regions.now c.in-Some.id) c.block_pages-pages.result ≡ r = same_Some _ _ (sym c.in-Some.ensures.made.region ∙ there) in
    block_fits (flat_original c.args.flat.now) r c.image_len-end.result c.stack_len.result (ap (λ (x : Region). x.pages) (sym region) ∙ c.block_pages-pages.ensures.value) c.image_len-end.ensures.value c.stack_len.ensures.value

pub returns-clause-loads : goal.returns-clause-loads
returns-clause-loads g c =
    let f = c.args.flat.now in
    let args = texts c.args.args.now in
    let env = texts c.args.env.now in
    let page = c.region.result.first in
    let old = c.args.regions.now.regions in
    let n = c.block_pages-pages.result in
    let kind = kind_of c.args.chooser.now in
    let same : n ≡ block_pages (flat_original f) = c.block_pages-pages.ensures.value in
    let at : start_of c.args.regions.now c.in-Some.id ≡ c.region.result.first = ap (λ (r : Region). r.first) (same_Some _ _ (sym c.in-Some.ensures.made.region ∙ c.region.ensures)) in
    let there : region_of c.fresh.new.self c.in-Some.id ≡ Some (block_region page n) = c.in-Some.ensures.made.region ∙ ap (λ (k : ℕ). Some (block_region k n)) at in
    let regions : c.fresh.new.self.regions ≡ slice_set old page (block_region page n) =
    ap (λ (x : Numbered). x.regions) c.in-Some.ensures.made.regions ∙ ap (λ (k : ℕ). slice_set old k (block_region k n)) at in
    let len : length c.fresh.new.self.regions ≡ length old = ap length regions ∙ length-set old page (block_region page n) in
    let free : AreFree old page (block_pages (flat_original f)) =
    subst (AreFree old page) same (subst (λ (k : ℕ). AreFree old k n) at c.in-Some.ensures.made.free) in
    let inside = free.inside in
    let fits : 4096 * page + 4096 * block_pages (flat_original f) ≤ length c.args.mem.now = (let memory = c.requires.memory in omega arith) in
    let mid : List ℕ = laid c.args.mem.now (4096 * page) (replicate (4096 * block_pages (flat_original f)) 0) in
    let cleared : c.fresh.new.mem ≡ mid = c.in-Some.ensures.made.memory ∙ ap (λ k. laid c.args.mem.now (4096 * k) (replicate (4096 * n) 0)) at ∙ ap (λ k. laid c.args.mem.now (4096 * page) (replicate (4096 * k) 0)) same in
    let space : c.new-space.result ≡ held_block (length c.fresh.new.self.regions) (block_region page n) (64 + c.image_len-end.result) c.stack_len.result =
    c.new-space.ensures (block_region page n) there in
    record {
      fits = search rules;
      page = page;
      placed = ap (block_page kind old) (sym same) ∙ sym c.in-Some.ensures.placed ∙ ap Some at;
      free = free;
      regions = regions ∙ ap (λ k. slice_set old page (block_region page k)) same;
      base = refl;
      pages = same;
      regs = c.load_at-regs.ensures.regs;
      space = space
          ∙ space_started f page (length old) args env (length c.fresh.new.self.regions) n c.image_len-end.result c.stack_len.result len same c.image_len-end.ensures.value c.stack_len.ensures.value;
      stands = record {
        own = c.load_at-regs.ensures.stands.own;
        header = c.load_at-regs.ensures.stands.header;
        others = λ a out. c.load_at-regs.ensures.stands.others a out ∙ outside_cleared f page args env c.args.mem.now c.fresh.new.mem fits cleared a out;
        len = c.load_at-regs.ensures.stands.len ∙ length-run_cleared c.args.mem.now c.fresh.new.mem (4096 * page) (4096 * block_pages (flat_original f)) fits cleared;
      };
    }

-- memory is asked for a program that can be loaded
pub returns-in_default-clause-refused : goal.returns-in_default-clause-refused
returns-in_default-clause-refused g c =
    not_refused (kind_of c.args.chooser.now) c.args.flat.now (texts c.args.args.now) (texts c.args.env.now) c.args.regions.now.regions _ (sym c.frame_fits.ensures ∙ c.if-not-frame_fits.false)
    c.block_pages-pages.result c.block_pages-pages.ensures.value (c.fits.ensures (kind_of c.args.chooser.now) ∙ c.if-not-fits.false)

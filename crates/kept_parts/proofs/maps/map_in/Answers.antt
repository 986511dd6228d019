use Rattle.std.proofs.Common.{◌≡◌, Some, None, slice_get, refl, sym, subst, ◌∙◌}
use Rattle.std.proofs.lemmas.Option.{same_Some, none-some, get_or_from_slice_get}
use Rattle.mem_files.specs.Inodes.{bytes_of}
use Rattle.page_runs.specs.Choosers.{kind_of}
use Rattle.mmap_rules.specs.Held.{Held}
use Rattle.mmap_rules.specs.MapState.{CanMap, Maps, map_state, mapped, file_in}
use Rattle.kept_parts.proofs.maps.map_in.Goals as goal

-- the space that is there is the one that is asked for
pub map-requires-clause-can : goal.map-requires-clause-can
map-requires-clause-can g c =
    let home = c.requires.home in
    let same = same_Some c.in-Some.space home.held (sym c.in-Some.is ∙ get_or_from_slice_get c.args.spaces.now c.args.asked.space (Some home.held) c.index-spaces-asked.result home.there) in
    subst (λ (h : Held). CanMap h c.args.regions.now.regions c.args.mem.now) (sym same) (c.requires.fits home.held home.there)

pub unreachable-requires : goal.unreachable-requires
unreachable-requires g c =
    let home = c.requires.home in
    none-some home.held (sym c.in-None.is ∙ get_or_from_slice_get c.args.spaces.now c.args.asked.space (Some home.held) c.index-spaces-asked.result home.there)

pub returns-clause-maps : goal.returns-clause-maps
returns-clause-maps g c = λ h there.
    let rs = c.args.regions.now.regions in
    let asked = c.args.asked in
    let kind = kind_of c.args.chooser.now in
    let bytes = bytes_of c.args.tree.now (file_in asked.want) in
    let same = same_Some c.in-Some.space h (sym c.in-Some.is ∙ get_or_from_slice_get c.args.spaces.now asked.space (Some h) c.index-spaces-asked.result there) in
    record {
      held = c.map.new.self;
      spaces = refl;
      maps = subst (λ (x : Held). Maps (mapped (map_state x rs c.args.mem.now) kind bytes asked.want) (map_state x rs c.args.mem.now) (map_state c.map.new.self c.map.new.regions.regions c.map.new.mem) c.map.result) same c.map.ensures.maps;
    }

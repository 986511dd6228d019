use Rattle.std.proofs.Common.{◌≡◌, Some, length, refl, arith}
use Rattle.std.specs.Prelude.{slice_get}
use Rattle.std.proofs.lemmas.Option.{slice_get_read}
use Rattle.mmap_rules.proofs.TableLess.{table_less}
use Rattle.mmap_rules.proofs.Mapped.{mapped_less, places_less}
use Rattle.mmap_rules.proofs.unmaps.take_mapping.Goals as goal

pub remove-requires : goal.remove-requires
remove-requires c =
    let maps = c.args.maps.now.items in
    let m = c.remove-mapping.result in
    let there : slice_get maps c.args.place ≡ Some m = slice_get_read maps (length maps) c.args.place m refl c.requires.place c.remove-mapping.ensures.value in
    record { shaped = (c.requires.kept.mappings c.args.place m there).shaped }

pub returns : goal.returns
returns c =
    let maps = c.args.maps.now.items in
    let m = c.remove-mapping.result in
    let place = c.args.place in
    let there : slice_get maps place ≡ Some m = slice_get_read maps (length maps) place m refl c.requires.place c.remove-mapping.ensures.value in
    let items = c.remove-mapping.ensures.items in
    let room = c.requires.kept.places in
    let kept = c.remove-mapping.ensures.capacity in
    let less = places_less maps place m there in
    record {
      mapping = there;
      maps = items;
      pages = c.remove.ensures.len;
      kept = rw items (record {
        table = table_less c.args.owners.now c.remove.new.self maps place m c.requires.kept.table there c.remove.ensures.each;
        mappings = rw c.remove.ensures.len (mapped_less (length c.args.owners.now) maps place c.requires.kept.mappings);
        places = omega (arith, less, room, kept);
      });
    }

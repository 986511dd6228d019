use Rattle.std.proofs.Common.{◌≡◌, ◌+◌, ◌*◌, ◌++◌, length, take, drop, refl, ap, ◌∙◌, arith}
use Rattle.std.specs.List.{remove}
use Rattle.mmap_rules.specs.Mappings.{part_of, left_of}
use Rattle.mmap_rules.proofs.Mapped.{mapped_cut, places_cut}
use Rattle.mmap_rules.proofs.Parts.{left_mapped, left_places}
use Rattle.mmap_rules.proofs.TableLeft.{table_left}
use Rattle.mmap_rules.proofs.Cuts.{two_parts, cut_at, cut_shaped, room_for_parts, inserted}
use Rattle.mmap_rules.proofs.unmaps.cut_mapping.Goals as goal

pub overflow_mul-size : goal.overflow_mul-size
overflow_mul-size c =
    let s = (cut_at (length c.args.owners.now) c.args.maps.now.items c.args.place c.remove-mapping.result c.args.addr c.args.pages c.requires.kept.mappings c.requires.can.there c.remove-mapping.ensures.value c.requires.can.begins c.requires.can.some c.requires.can.can).stand in
    omega (arith, s.above, s.before, s.behind, s.inside, c.requires.most)

pub overflow_add-addr : goal.overflow_add-addr
overflow_add-addr c =
    let s = (cut_at (length c.args.owners.now) c.args.maps.now.items c.args.place c.remove-mapping.result c.args.addr c.args.pages c.requires.kept.mappings c.requires.can.there c.remove-mapping.ensures.value c.requires.can.begins c.requires.can.some c.requires.can.can).stand in
    omega (arith, s.above, s.before, s.behind, s.inside, c.requires.most)

pub overflow_add-range : goal.overflow_add-range
overflow_add-range c =
    let s = (cut_at (length c.args.owners.now) c.args.maps.now.items c.args.place c.remove-mapping.result c.args.addr c.args.pages c.requires.kept.mappings c.requires.can.there c.remove-mapping.ensures.value c.requires.can.begins c.requires.can.some c.requires.can.can).stand in
    omega (arith, s.above, s.before, s.behind, s.inside, c.requires.most)

pub insert_part-requires-clause-above : goal.insert_part-requires-clause-above
insert_part-requires-clause-above c =
    let s = (cut_at (length c.args.owners.now) c.args.maps.now.items c.args.place c.remove-mapping.result c.args.addr c.args.pages c.requires.kept.mappings c.requires.can.there c.remove-mapping.ensures.value c.requires.can.begins c.requires.can.some c.requires.can.can).stand in
    omega (arith, s.above, s.before, s.behind)

pub insert_part-requires-clause-up : goal.insert_part-requires-clause-up
insert_part-requires-clause-up c =
    let s = (cut_at (length c.args.owners.now) c.args.maps.now.items c.args.place c.remove-mapping.result c.args.addr c.args.pages c.requires.kept.mappings c.requires.can.there c.remove-mapping.ensures.value c.requires.can.begins c.requires.can.some c.requires.can.can).stand in
    omega (arith, s.above, s.before, s.behind)

pub insert_part-requires-2-clause-above : goal.insert_part-requires-2-clause-above
insert_part-requires-2-clause-above c =
    let s = (cut_at (length c.args.owners.now) c.args.maps.now.items c.args.place c.remove-mapping.result c.args.addr c.args.pages c.requires.kept.mappings c.requires.can.there c.remove-mapping.ensures.value c.requires.can.begins c.requires.can.some c.requires.can.can).stand in
    omega (arith, s.above, s.before, s.behind)

pub insert_part-requires-2-clause-up : goal.insert_part-requires-2-clause-up
insert_part-requires-2-clause-up c =
    let s = (cut_at (length c.args.owners.now) c.args.maps.now.items c.args.place c.remove-mapping.result c.args.addr c.args.pages c.requires.kept.mappings c.requires.can.there c.remove-mapping.ensures.value c.requires.can.begins c.requires.can.some c.requires.can.can).stand in
    omega (arith, s.above, s.before, s.behind)

pub insert_part-requires-2-clause-room : goal.insert_part-requires-2-clause-room
insert_part-requires-2-clause-room c =
    let m = c.remove-mapping.result in
    let maps = c.args.maps.now.items in
    let size = 4096 * c.args.pages in
    let cut = cut_at (length c.args.owners.now) c.args.maps.now.items c.args.place c.remove-mapping.result c.args.addr c.args.pages c.requires.kept.mappings c.requires.can.there c.remove-mapping.ensures.value c.requires.can.begins c.requires.can.some c.requires.can.can in
    let room = room_for_parts (length c.args.owners.now) maps c.args.place m c.args.addr size c.requires.kept.mappings cut.there cut.cuts in
    let back = part_of m (c.args.addr + size) (m.range.from + m.range.size) in
    let one : length (take c.args.place c.remove-mapping.new.self.items ++ back ++ drop c.args.place c.remove-mapping.new.self.items) ≡ length c.remove-mapping.new.self.items + length back = inserted c.args.place c.remove-mapping.new.self.items back in
    let items : length c.insert_part.new.maps.items ≡ length c.remove-mapping.new.self.items + length back = ap (λ l. length l) c.insert_part.ensures.items ∙ one in
    let removed : length c.remove-mapping.new.self.items ≡ length (remove maps c.args.place) = ap (λ l. length l) c.remove-mapping.ensures.items in
    omega (arith, room, items, removed, c.insert_part.ensures.capacity, c.remove-mapping.ensures.capacity, c.requires.kept.places)

pub remove-requires : goal.remove-requires
remove-requires c =
    let m = c.remove-mapping.result in
    let cut = cut_at (length c.args.owners.now) c.args.maps.now.items c.args.place c.remove-mapping.result c.args.addr c.args.pages c.requires.kept.mappings c.requires.can.there c.remove-mapping.ensures.value c.requires.can.begins c.requires.can.some c.requires.can.can in
    record { shaped = cut_shaped (length c.args.owners.now) m c.args.addr c.args.pages m.range.writes m.range.anonymous cut.cuts }

pub returns : goal.returns
returns c =
    let m = c.remove-mapping.result in
    let maps = c.args.maps.now.items in
    let pages = length c.args.owners.now in
    let addr = c.args.addr in
    let size = 4096 * c.args.pages in
    let cut = cut_at (length c.args.owners.now) c.args.maps.now.items c.args.place c.remove-mapping.result c.args.addr c.args.pages c.requires.kept.mappings c.requires.can.there c.remove-mapping.ensures.value c.requires.can.begins c.requires.can.some c.requires.can.can in
    let left = left_of m addr size in
    let removed = c.remove-mapping.ensures.items in
    let items : c.insert_part-2.new.maps.items ≡ take c.args.place maps ++ left ++ drop (c.args.place + 1) maps =
    two_parts c.args.place maps c.insert_part.new.maps.items c.insert_part-2.new.maps.items (part_of m m.range.from addr) (part_of m (addr + size) (m.range.from + m.range.size))
    c.requires.can.there (rw removed at c.insert_part.ensures.items) c.insert_part-2.ensures.items in
    let less = places_cut maps left c.args.place m cut.there (left_places pages m addr size cut.cuts) in
    record {
      mapping = cut.there;
      maps = items;
      pages = c.remove.ensures.len;
      kept = rw items (record {
        table = table_left pages c.args.owners.now c.remove.new.self maps c.args.place m (record { from = addr; size = size; writes = m.range.writes; anonymous = m.range.anonymous }) addr size c.requires.kept.table cut.there cut.cuts refl refl c.remove.ensures.each;
        mappings = rw c.remove.ensures.len (mapped_cut pages maps left c.args.place c.requires.kept.mappings (left_mapped pages m addr size cut.cuts));
        places = omega (arith, less, c.insert_part-2.ensures.capacity, c.insert_part.ensures.capacity, c.remove-mapping.ensures.capacity, c.requires.kept.places);
      });
    }

use Rattle.std.proofs.Common.{arith}
use Rattle.std.proofs.lemmas.List.Sums.{sum_by_push}
use Rattle.mmap_rules.specs.Held.{places_of}
use Rattle.mmap_rules.proofs.Mapped.{mapped_more, place_at_least, places_at_least}
use Rattle.mmap_rules.proofs.TableMore.{table_more}
use Rattle.mmap_rules.proofs.maps.add_mapping.Goals as goal

pub push_reserved-requires : goal.push_reserved-requires
push_reserved-requires c =
    let one = place_at_least _ c.args.mapping c.requires.can.mapping in
    let rest = places_at_least _ c.args.maps.now.items c.requires.kept.mappings in
    omega (arith, one, rest, c.requires.room)

pub returns-clause-kept : goal.returns-clause-kept
returns-clause-kept c =
    let maps = c.args.maps.now.items in
    let m = c.args.mapping in
    let sum = sum_by_push places_of maps m in
    rw (c.push_reserved.ensures.items) (record {
      table = table_more c.args.owners.now c.add.new.self maps m c.requires.kept.table c.requires.can.agrees c.add.ensures.each;
      mappings = rw c.add.ensures.len (mapped_more _ maps m c.requires.kept.mappings c.requires.can.mapping);
      places = omega (arith, sum, c.requires.room, c.push_reserved.ensures.capacity);
    })

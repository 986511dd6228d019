use Rattle.std.proofs.Common.{sym, ◌∙◌}
use Rattle.std.specs.Prelude.{slice_get}
use Rattle.page_runs.specs.Choosers.{kind_of}
use Rattle.mem_files.specs.Inodes.{bytes_of}
use Rattle.mmap_rules.specs.Chosen.{part_at}
use Rattle.mmap_rules.specs.MapState.{Maps, map_state, mapped, file_in}
use Rattle.mmap_rules.proofs.Chosen.{mapped_part, mapped_new}
use Rattle.mmap_rules.proofs.CopiesHold.{all_hold, has_wanted}
use Rattle.mmap_rules.proofs.Refused.{none_fits, copy_fits}
use Rattle.mmap_rules.proofs.space.Space.map.Goals as goal

pub returns-in-Some : goal.returns-in-Some
returns-in-Some g c =
    let chosen = mapped_part (map_state c.args.self.now c.args.regions.now.regions c.args.mem.now) (kind_of c.args.chooser.now) (bytes_of c.args.tree.now (file_in c.args.want)) c.args.want
    (part_at c.args.regions.now c.in-Some.part) (sym c.in-Some.ensures.part) in
    let maps : Maps (mapped (map_state c.args.self.now c.args.regions.now.regions c.args.mem.now) (kind_of c.args.chooser.now) (bytes_of c.args.tree.now (file_in c.args.want)) c.args.want) (map_state c.args.self.now c.args.regions.now.regions c.args.mem.now) (map_state c.map_part.new.self c.map_part.new.regions.regions c.args.mem.now) c.map_part.result = rw chosen (c.map_part.ensures.maps c.args.mem.now) in
    record {
      maps = maps;
      refused = λ none. (let live = c.in-Some.ensures.live in absurd (copy_fits (map_state c.args.self.now c.args.regions.now.regions c.args.mem.now) (part_at c.args.regions.now c.in-Some.part).first (part_at c.args.regions.now c.in-Some.part).pages (slice_get c.args.regions.now.regions (part_at c.args.regions.now c.in-Some.part).copy) live.region live.there (sym chosen ∙ none)));
      ids = c.map_part.ensures.ids;
      copies = λ holds known. record {
        copies = all_hold (map_state c.args.self.now c.args.regions.now.regions c.args.mem.now) (map_state c.map_part.new.self c.map_part.new.regions.regions c.args.mem.now) (kind_of c.args.chooser.now) c.args.tree.now c.args.want c.map_part.result c.requires.want c.pages-pages.ensures.regions c.requires.can.memory holds maps;
        bytes = has_wanted (map_state c.args.self.now c.args.regions.now.regions c.args.mem.now) (map_state c.map_part.new.self c.map_part.new.regions.regions c.args.mem.now) (kind_of c.args.chooser.now) c.args.tree.now c.args.want c.map_part.result c.requires.want c.pages-pages.ensures.regions c.requires.can.memory holds known maps;
      };
    }

pub returns-in-None : goal.returns-in-None
returns-in-None g c =
    let chosen = mapped_new (map_state c.args.self.now c.args.regions.now.regions c.args.mem.now) (kind_of c.args.chooser.now) (bytes_of c.args.tree.now (file_in c.args.want)) c.args.want
    (sym c.in-None.ensures.part) in
    let done = c.map_fresh.ensures.maps in
    let maps : Maps (mapped (map_state c.args.self.now c.args.regions.now.regions c.args.mem.now) (kind_of c.args.chooser.now) (bytes_of c.args.tree.now (file_in c.args.want)) c.args.want) (map_state c.args.self.now c.args.regions.now.regions c.args.mem.now) (map_state c.map_fresh.new.self c.map_fresh.new.regions.regions c.map_fresh.new.mem) c.map_fresh.result = rw chosen (rw (c.new_run.ensures.run, c.new_run.ensures.bytes) at done) in
    record {
      maps = maps;
      refused = λ none. c.map_fresh.ensures.refused (rw c.new_run.ensures.run (none_fits _ _ _ _ _ _ _ (sym chosen ∙ none)));
      ids = c.map_fresh.ensures.ids;
      copies = λ holds known. record {
        copies = all_hold (map_state c.args.self.now c.args.regions.now.regions c.args.mem.now) (map_state c.map_fresh.new.self c.map_fresh.new.regions.regions c.map_fresh.new.mem) (kind_of c.args.chooser.now) c.args.tree.now c.args.want c.map_fresh.result c.requires.want c.pages-pages.ensures.regions c.requires.can.memory holds maps;
        bytes = has_wanted (map_state c.args.self.now c.args.regions.now.regions c.args.mem.now) (map_state c.map_fresh.new.self c.map_fresh.new.regions.regions c.map_fresh.new.mem) (kind_of c.args.chooser.now) c.args.tree.now c.args.want c.map_fresh.result c.requires.want c.pages-pages.ensures.regions c.requires.can.memory holds known maps;
      };
    }

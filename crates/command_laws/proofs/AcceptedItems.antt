-- A replay says yes to the items that a run keeps, by the laws of boots and runs.
use Rattle.std.proofs.Common.{ℕ, ◌≤◌, List, [], ◌∷◌, map, arith}
use Rattle.std.specs.List.{AllByRecursion}
use Rattle.page_runs.specs.declared.place.Kind.{Kind}
use Rattle.manifest_text.specs.Values.{Start, Manifest}
use Rattle.manifest_text.specs.Laws.{IsClear, HasClearArguments, Reasonable}
use Rattle.manifest_text.proofs.ClearStarts.{starts_are_clear}
use Rattle.items_text.specs.Items.{is_string, IsString}
use Rattle.flat_machine.specs.Runs.{repeated}
use Rattle.recorded_items.specs.Laws.{AreStrings}
use Rattle.recorded_items.proofs.KeptItems.{items_are_spelled}
use Rattle.replay_laws.proofs.Files.{lines_have_files}
use Rattle.replay_laws.proofs.Runs.{items_are_accepted}
use Rattle.suite_top.specs.Run.{start_line, opening}
use Rattle.command_laws.specs.Booted.{Booted, last_world}
use Rattle.command_laws.specs.AcceptedItems.{AcceptsItems, RunsAcceptItems}
use Rattle.command_laws.proofs.BootedRuns.{can_boot, few_starts}
use Rattle.machine_world.specs.Recordings.{most_count}
use Rattle.suite_top.proofs.Booted.{no_event_yet, events_fit}
use Rattle.command_laws.proofs.KeptWorlds.{events_most}
use Rattle.command_laws.proofs.RunLaws.{reasonable}

clear_args : (args : List (List ℕ)) → AllByRecursion IsClear args → AllByRecursion IsString args
unfolding is_string
clear_args [] all = tt
clear_args (a ∷ args) all = (all.0, clear_args args all.1)

clear_starts : (starts : List Start) → AllByRecursion HasClearArguments starts → AreStrings (map start_line starts)
clear_starts [] all = tt
clear_starts (s ∷ starts) all = (clear_args s.args all.0, clear_starts starts all.1)

module _ {keep : ℕ} {kind : Kind} {m : Manifest} {loaded : List (List ℕ)} (is : Reasonable m) (clear_ones : AllByRecursion HasClearArguments m.starts) (b : Booted keep kind m loaded) where
  few : (last_world b).events ≤ most_count
  few =
      let none = no_event_yet (opening keep kind m b.brought) (map start_line m.starts) b.world b.boots in
      let most = events_most m.repeat m.quanta b.world in
      let fit = events_fit m is b.world.events none in
      omega (arith, most, fit)

  clear : AreStrings (map start_line m.starts)
  clear = clear_starts m.starts clear_ones

  accepts_items : AcceptsItems b
  accepts_items =
      let rest = opening keep kind m b.brought in
      let starts = map start_line m.starts in
      let quanta = repeated m.repeat m.quanta in
      record {
        spelled = λ items tells. items_are_spelled rest starts b.world quanta items (can_boot is b) (few_starts is b) clear b.boots tells;
        files = lines_have_files m.items loaded b.brought is.each_item b.brings;
        accepted = λ load p file items noted there of_file tells.
            items_are_accepted rest starts b.world quanta load p file items (can_boot is b) (few_starts is b) clear b.boots few noted there of_file tells;
      }

pub runs_accept_items : RunsAcceptItems
runs_accept_items inputs name keep kind o = accepts_items (reasonable o) (starts_are_clear o.text o.manifest o.reads) o.booted

-- What is said of a run from its opening world on, of `run` and of `demo` alike. What the lines bring in has pages as the manifest says,
-- a tree of names in which each node is named and none is held, no file that was changed, and nothing is open yet: so the laws of boots hold.
use Rattle.std.proofs.Common.{◌≡◌, ℕ, ◌≤◌, List, length, map, refl, arith}
use Rattle.std.proofs.lemmas.List.{length-map}
use Rattle.page_runs.specs.declared.place.Kind.{Kind}
use Rattle.quantum_sched.specs.declared.Quantum.{Quantum}
use Rattle.manifest_text.specs.Values.{Manifest}
use Rattle.manifest_text.specs.Laws.{Reasonable}
use Rattle.run_setup.specs.Brought.{nothing_brought}
use Rattle.fd_tables.specs.Files.{nothing_open}
use Rattle.run_setup.proofs.Unchanged.{opening_unchanged, lines_unchanged, lines_tree, lines_closed}
use Rattle.machine_world.specs.World.{Rest}
use Rattle.machine_world.specs.Boot.{StartLine, empty_world}
use Rattle.machine_world.specs.Order.{IsInOrder, IsFresh}
use Rattle.machine_world.proofs.OrderBegins.{boots_begin_in_order}
use Rattle.machine_world.proofs.OrderKept.{runs_keep_order}
use Rattle.alone_laws.specs.Laws.{CanBoot}
use Rattle.alone_laws.specs.Sound.{IsSound}
use Rattle.alone_laws.specs.Stays.{Stay, AreRight, first_stays}
use Rattle.alone_laws.proofs.SoundRuns.{boots_are_sound}
use Rattle.alone_laws.proofs.StaysRuns.{boots_begin_stays, runs_keep_stays}
use Rattle.end_laws.proofs.EndBoots.{boots_end_none}
use Rattle.end_laws.proofs.EndRuns.{runs_end_as_alone}
use Rattle.waits_laws.proofs.Boots.{boots_wait_well}
use Rattle.waits_laws.proofs.WaitRuns.{runs_keep_waits}
use Rattle.waits_laws.proofs.Stuck.{stuck_runs_wait}
use Rattle.refusal_laws.proofs.Runs.{boots_are_regular, runs_keep_regular}
use Rattle.flat_machine.specs.Runs.{repeated}
use Rattle.suite_top.specs.Run.{start_line, opening}
use Rattle.command_laws.specs.Booted.{Booted, DoesAsAlone, EndsAsAlone, WaitsToTheEnd, HasWorldsInOrder, HasRegularWorlds}

module _ {keep : ℕ} {kind : Kind} {m : Manifest} {files : List (List ℕ)} (is : Reasonable m) (b : Booted keep kind m files) where
  abbrev rest : Rest
  rest = opening keep kind m b.brought

  abbrev starts : List StartLine
  starts = map start_line m.starts

  abbrev quanta : List Quantum
  quanta = repeated m.repeat m.quanta

  pub can_boot : CanBoot rest
  can_boot =
      let unchanged = lines_unchanged 0 m.items files nothing_brought b.brought opening_unchanged b.brings in
      record {
        some = is.some_pages;
        most = is.most_pages;
        changes = λ id n has. omega (arith, unchanged id n has);
      }

  pub few_starts : length starts ≤ 64
  few_starts = omega (arith, length-map m.starts start_line, is.starts)

  pub closed : rest.files ≡ nothing_open rest.files.stdin
  closed = refl

  -- ---- each process by itself

  pub sound : IsSound b.world
  sound = boots_are_sound rest starts b.world can_boot few_starts b.boots

  abbrev begun : List Stay
  begun = first_stays (empty_world rest) starts

  right : AreRight begun b.world
  right = boots_begin_stays rest starts b.world can_boot b.boots

  pub does_as_alone : DoesAsAlone b
  does_as_alone = runs_keep_stays begun quanta b.world sound right

  pub ends_as_alone : EndsAsAlone b
  ends_as_alone = runs_end_as_alone begun quanta b.world sound right (λ i pid how there. absurd (boots_end_none rest starts b.world b.boots i pid how there))

  -- ---- the tree of names, and what is open

  fresh : IsFresh rest
  fresh = record { tree = lines_tree m.items files b.brought b.brings; closed = lines_closed m.items files b.brought b.brings; files = closed }

  pub begins_in_order : IsInOrder b.world
  begins_in_order = boots_begin_in_order rest starts b.world fresh (omega (arith, few_starts)) b.boots

  pub has_worlds_in_order : HasWorldsInOrder b
  has_worlds_in_order some_quanta = runs_keep_order some_quanta b.world begins_in_order

  -- ---- those that wait, and refused calls

  pub waits_to_the_end : WaitsToTheEnd b
  waits_to_the_end =
      let begins = boots_wait_well rest starts b.world can_boot closed few_starts b.boots in
      record {
        waits = runs_keep_waits quanta b.world begins.0 begins.1;
        when_stuck = stuck_runs_wait quanta b.world begins.0 begins.1;
      }

  pub has_regular_worlds : HasRegularWorlds b
  has_regular_worlds some_quanta = runs_keep_regular some_quanta b.world (boots_are_regular rest starts b.world can_boot closed few_starts b.boots)

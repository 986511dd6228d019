-- What the outcome of `replay` can be: two loads, one after the other, and then a refusal or the line of a verdict.
use Rattle.std.proofs.Common.{ℕ, List, length, Option, Some, None, Result, Ok, Err}
use Rattle.bflt_format.specs.declared.fault.FlatFault.{FlatFault}
use Rattle.bflt_format.specs.Header.{flat_values}
use Rattle.bflt_format.specs.Fault.{flat_fault}
use Rattle.items_text.specs.Items.{ItemsValue}
use Rattle.items_text.specs.Reading.{items_of}
use Rattle.replay_check.specs.declared.fault.ReplayFault.{ReplayFault}
use Rattle.replay_check.specs.declared.verdict.Verdict.{Verdict}
use Rattle.replay_check.specs.declared.verdict.Verdict.TheVariants.{Yes, No}
use Rattle.replay_check.specs.Replays.{elf_file, flat_file, replayed}
use Rattle.file_commands.specs.declared.command.Format.{Format}
use Rattle.file_commands.specs.declared.command.Format.TheVariants as format
use Rattle.file_commands.specs.Texts.Listing.{flat_tail}
use Rattle.file_commands.specs.Texts.Replays.{yes_line, no_line, items_tail, replay_tail}
use Rattle.file_commands.specs.Ending.{done_ending, refuted_ending, refused_ending}
use Rattle.file_commands.specs.Outcome.{load, failure_ending, Outcome, Inputs, after}
use Rattle.file_commands.specs.Load.{at_once}
use Rattle.file_commands.specs.OneFile.{file_limit}
use Rattle.file_commands.specs.Replay.{items_limit, verdict_ending, replayed_ending, flat_ending, program_ending, read_ending, replay_ending, loaded_outcome, replay_outcome}
use Rattle.suite_top.proofs.LoadOutcomes.{load_run}

module _ (P : Outcome → Type 0) (step : (name : List ℕ) (o : Outcome) → P o → P (after (load name) o)) (read : (name : List ℕ) → P (at_once (failure_ending (load name)))) (refused : (tail : List ℕ) → P (at_once (refused_ending tail))) (done : (text : List ℕ) → P (at_once (done_ending text))) (refuted : (text : List ℕ) → P (at_once (refuted_ending text))) where
  judged : (i : ItemsValue) (v : Verdict) → P (at_once (verdict_ending i v))
  judged i Yes = done (yes_line (length i.list) i.events)
  judged i (No item events) = refuted (no_line item events)

  answered : (i : ItemsValue) (r : Result Verdict ReplayFault) → P (at_once (replayed_ending i r))
  answered i (Ok v) = judged i v
  answered i (Err why) = refused (replay_tail why)

  by_flat : (y : List ℕ) (i : ItemsValue) (o : Option FlatFault) → P (at_once (flat_ending y i o))
  by_flat y i None = answered i (replayed (flat_file (flat_values y)) i)
  by_flat y i (Some first) = refused (flat_tail first)

  by_program : (kind : Format) (program : List ℕ) (i : ItemsValue) → P (at_once (program_ending kind program i))
  by_program format.Elf program i = answered i (replayed (elf_file program) i)
  by_program format.Flat program i = by_flat program i (flat_fault program)

  by_text : (kind : Format) (program : List ℕ) (r : Result ItemsValue ℕ) → P (at_once (read_ending kind program r))
  by_text kind program (Ok i) = by_program kind program i
  by_text kind program (Err line) = refused (items_tail line)

  by_files : (kind : Format) (program text : List ℕ) → P (at_once (replay_ending kind program text))
  unfolding replay_ending
  by_files kind program text = by_text kind program (items_of text)

  pub replay_by : (kind : Format) (file items : List ℕ) (inputs : Inputs) → P (replay_outcome kind file items inputs)
  unfolding replay_outcome
  replay_by kind file items inputs =
      load_run P step read refused file_limit None file (λ program. loaded_outcome kind program items)
      (λ program more. load_run P step read refused items_limit None items (λ text rest. at_once (replay_ending kind program text)) (λ text rest. by_files kind program text) more) inputs

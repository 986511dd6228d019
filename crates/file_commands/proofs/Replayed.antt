-- What `replay` does behind each load.
use Rattle.std.proofs.Common.{◌≡◌, ◌≢◌, ℕ, List, length, map, None, Option, Some, Result, Ok, Err, refl, sym, ap, subst, ◌∙◌, inl, inr}
use Rattle.std.proofs.lemmas.List.{length-map}
use Rattle.bflt_format.specs.declared.fault.FlatFault.{FlatFault}
use Rattle.bflt_format.specs.Values.{Values}
use Rattle.bflt_format.specs.Header.{flat_values}
use Rattle.bflt_format.specs.Fault.{flat_fault}
use Rattle.host_io.specs.Host.{Told}
use Rattle.items_text.specs.declared.items.Item.{Item}
use Rattle.items_text.specs.declared.items.Items.{Items}
use Rattle.items_text.specs.Items.{ItemsValue}
use Rattle.items_text.specs.Values.{item_value, items_value}
use Rattle.items_text.specs.Reading.{items_of}
use Rattle.replay_check.specs.declared.fault.ReplayFault.{ReplayFault}
use Rattle.replay_check.specs.declared.verdict.Verdict.{Verdict}
use Rattle.replay_check.specs.declared.verdict.Verdict.TheVariants.{Yes, No}
use Rattle.replay_check.specs.declared.fault.ReplayFault.TheVariants as why
use Rattle.replay_check.specs.Replays.{elf_file, flat_file, replayed, Replays}
use Rattle.file_commands.specs.declared.status.Status.TheVariants as status
use Rattle.file_commands.specs.declared.command.Format.{Format}
use Rattle.file_commands.specs.declared.command.Format.TheVariants as format
use Rattle.file_commands.specs.Texts.Replays.{yes_line, replay_tail}
use Rattle.file_commands.specs.Ending.{Ending, done_ending, refused_ending, memory_ending, OrMemory}
use Rattle.file_commands.specs.Load.{at_once}
use Rattle.file_commands.specs.Replay.{items_limit, verdict_ending, replayed_ending, flat_ending, program_ending, read_ending, replay_ending, loaded_outcome}
use Rattle.file_commands.specs.FileLoad.{GaveFile}
use Rattle.file_commands.specs.Observed.{Observed}
use Rattle.file_commands.specs.HostCourse.{PerformsCommand}
use Rattle.file_commands.proofs.HostSteps.{performs_rest, asks_nothing}

-- ---- no ending is that of a failed load

of_verdict : (i : ItemsValue) (v : Verdict) → (verdict_ending i v).status ≢ status.HostRead
of_verdict i Yes = λ e. cc
of_verdict i (No item events) = λ e. cc

of_replay : (i : ItemsValue) (r : Result Verdict ReplayFault) → (replayed_ending i r).status ≢ status.HostRead
of_replay i (Ok v) = of_verdict i v
of_replay i (Err why) = λ e. cc

of_flat : (y : List ℕ) (i : ItemsValue) (o : Option FlatFault) → (flat_ending y i o).status ≢ status.HostRead
of_flat y i None = of_replay i (replayed (flat_file (flat_values y)) i)
of_flat y i (Some first) = λ e. cc

of_program : (kind : Format) (program : List ℕ) (i : ItemsValue) → (program_ending kind program i).status ≢ status.HostRead
of_program format.Elf program i = of_replay i (replayed (elf_file program) i)
of_program format.Flat program i = of_flat program i (flat_fault program)

of_text : (kind : Format) (program : List ℕ) (r : Result ItemsValue ℕ) → (read_ending kind program r).status ≢ status.HostRead
of_text kind program (Ok i) = of_program kind program i
of_text kind program (Err line) = λ e. cc

reads : (kind : Format) (program text : List ℕ) → (replay_ending kind program text).status ≢ status.HostRead
unfolding replay_ending
reads kind program text = of_text kind program (items_of text)

-- ---- by what was read

module _ (kind : Format) (program text : List ℕ) (ending : Ending) where
  pub reads_items : (i : ItemsValue) → items_of text ≡ Ok i → OrMemory (program_ending kind program i) ending → OrMemory (replay_ending kind program text) ending
  unfolding replay_ending
  reads_items i is ends = subst (λ (r : Result ItemsValue ℕ). OrMemory (read_ending kind program r) ending) (sym is) ends

  pub refuses_items : (line : ℕ) → items_of text ≡ Err line → OrMemory (read_ending kind program (Err line)) ending → OrMemory (replay_ending kind program text) ending
  unfolding replay_ending
  refuses_items line is ends = subst (λ (r : Result ItemsValue ℕ). OrMemory (read_ending kind program r) ending) (sym is) ends

-- the line has the number of the code's items
pub yes_is_told : (i : Items) (n : ℕ) (text : List ℕ) (ending : Ending) → n ≡ length i.list.items → text ≡ yes_line n i.events → ending ≡ done_ending text
    → OrMemory (verdict_ending (items_value i) Yes) ending
yes_is_told i n text ending count line ends =
    inl (ends ∙ ap done_ending (line ∙ ap (λ k. yes_line k i.events) (count ∙ sym (length-map i.list.items item_value))))

-- a program that isn't replayed, or a call out of memory
pub refuses_replay : (i : ItemsValue) (wanted : Result Verdict ReplayFault) (first : ReplayFault) (ending : Ending) → Replays wanted (Err first)
    → OrMemory (refused_ending (replay_tail first)) ending → (first ≡ why.Memory → ending ≡ memory_ending) → OrMemory (replayed_ending i wanted) ending
refuses_replay i wanted why.Memory ending replays ends memory = inr (memory refl)
refuses_replay i wanted (why.Original refusal) ending replays ends memory = subst (λ (r : Result Verdict ReplayFault). OrMemory (replayed_ending i r) ending) (sym replays) ends
refuses_replay i wanted why.Stack ending replays ends memory = subst (λ (r : Result Verdict ReplayFault). OrMemory (replayed_ending i r) ending) (sym replays) ends
refuses_replay i wanted why.Args ending replays ends memory = subst (λ (r : Result Verdict ReplayFault). OrMemory (replayed_ending i r) ending) (sym replays) ends
refuses_replay i wanted why.Base ending replays ends memory = subst (λ (r : Result Verdict ReplayFault). OrMemory (replayed_ending i r) ending) (sym replays) ends

-- and one that is
pub gives_verdict : (i : ItemsValue) (wanted : Result Verdict ReplayFault) (v : Verdict) (ending : Ending) → wanted ≡ Ok v → OrMemory (verdict_ending i v) ending → OrMemory (replayed_ending i wanted) ending
gives_verdict i wanted v ending is ends = subst (λ (r : Result Verdict ReplayFault). OrMemory (replayed_ending i r) ending) (sym is) ends

-- the values of a flat file without a fault
pub accepts_flat : (y : List ℕ) (i : ItemsValue) (f : Values) (ending : Ending) → flat_fault y ≡ None → f ≡ flat_values y → OrMemory (replayed_ending i (replayed (flat_file f) i)) ending
    → OrMemory (flat_ending y i (flat_fault y)) ending
accepts_flat y i f ending none is ends =
    subst (λ (o : Option FlatFault). OrMemory (flat_ending y i o) ending) (sym none) (subst (λ (v : Values). OrMemory (replayed_ending i (replayed (flat_file v) i)) ending) is ends)

-- behind both loads nothing more is asked
pub replays_text : (old mid : Observed Told) (kind : Format) (program name text : List ℕ) (ending : Ending)
    → GaveFile items_limit old mid name text → OrMemory (replay_ending kind program text) ending → PerformsCommand old mid (loaded_outcome kind program name) ending
replays_text old mid kind program name text ending gave ends =
    performs_rest items_limit None name (λ t more. at_once (replay_ending kind program t)) old mid mid text ending gave
    (asks_nothing mid (replay_ending kind program text) ending (reads kind program text) ends)

-- When a run reaches its machine, and what is said of it from there on: over any host, for the files that its loads give.
use Rattle.std.specs.Prelude.{◌≡◌, ◌⊎◌, ℕ, List, [], ◌∷◌, ◌++◌, map, filter}
use Rattle.page_runs.specs.declared.place.Kind.{Kind}
use Rattle.flat_machine.specs.Runs.{repeated}
use Rattle.file_commands.specs.declared.status.Status.TheVariants.{HostRead, Refused}
use Rattle.file_commands.specs.Ending.{Ending}
use Rattle.file_commands.specs.Outcome.{load, Outcome, Inputs}
use Rattle.file_commands.specs.Items.{has_file}
use Rattle.suite_top.specs.Telling.{Telling, mode_of, kept_of}
use Rattle.suite_top.specs.KeptItems.{kept_requests}
use Rattle.suite_top.specs.Run.{mode_ending, stopped_world, run_outcome}
use Rattle.command_laws.specs.Booted.{DoesAsAlone, EndsAsAlone, WaitsToTheEnd, HasWorldsInOrder, HasRegularWorlds}
-- all that a run needs is there and has no fault; and the statuses of a machine that stopped
pub use Rattle.suite_top.specs.Opened.{IsThere, behind_item, AreThere, Opens, OpensFor, IsStop}

-- the manifest is asked for, then the file of each line that has one, in order; and the turns from that world, or, of a run that goes on,
-- those over one memory, give the texts, and the items that are stored, if they are kept
abbrev pub opened_outcome : {inputs : Inputs} {name : List ℕ} (telling : Telling) → OpensFor inputs name telling → Outcome
opened_outcome {name = name} telling o =
    let quanta = repeated o.manifest.repeat o.manifest.quanta in
    record {
      requests = load name ∷ (map (λ i. load i.name) (filter (λ i. has_file i.kind) o.manifest.items) ++ kept_requests (kept_of telling) (stopped_world (mode_of telling) quanta o.booted.brought.headers o.booted.world));
      ending = mode_ending telling (mode_of telling) quanta o.manifest.watches o.manifest.dumps o.booted.brought.headers o.booted.world;
    }

abbrev pub RunsWhereItOpens : Type 0
RunsWhereItOpens = (inputs : Inputs) (name : List ℕ) (telling : Telling) (o : OpensFor inputs name telling) → run_outcome name telling inputs ≡ opened_outcome telling o

-- and in no other case a run ends with one of these
abbrev pub OpensWhereItStops : Type 0
OpensWhereItStops = (inputs : Inputs) (name : List ℕ) (telling : Telling) → IsStop (run_outcome name telling inputs).ending.status → OpensFor inputs name telling

-- it ends early: a load failed, or something was refused, and nothing goes to `out`
abbrev pub IsEarly : Ending → Type 0
IsEarly ending = (ending.out ≡ []) × ((ending.status ≡ HostRead) ⊎ (ending.status ≡ Refused))

-- a run reaches its machine or ends early, whatever its files are
abbrev pub RunsStopOrEndEarly : Type 0
RunsStopOrEndEarly = (name : List ℕ) (telling : Telling) (inputs : Inputs) → IsStop (run_outcome name telling inputs).ending.status ⊎ IsEarly (run_outcome name telling inputs).ending

-- ---- what is said of each run from its opening world on

abbrev pub RunsAreAsAlone : Type 0
RunsAreAsAlone = (inputs : Inputs) (name : List ℕ) (keep : ℕ) (kind : Kind) (o : Opens inputs name keep kind) → DoesAsAlone o.booted

abbrev pub EndsAreAsAlone : Type 0
EndsAreAsAlone = (inputs : Inputs) (name : List ℕ) (keep : ℕ) (kind : Kind) (o : Opens inputs name keep kind) → EndsAsAlone o.booted

abbrev pub RunsWaitWell : Type 0
RunsWaitWell = (inputs : Inputs) (name : List ℕ) (keep : ℕ) (kind : Kind) (o : Opens inputs name keep kind) → WaitsToTheEnd o.booted

abbrev pub WorldsAreInOrder : Type 0
WorldsAreInOrder = (inputs : Inputs) (name : List ℕ) (keep : ℕ) (kind : Kind) (o : Opens inputs name keep kind) → HasWorldsInOrder o.booted

abbrev pub WorldsAreRegular : Type 0
WorldsAreRegular = (inputs : Inputs) (name : List ℕ) (keep : ℕ) (kind : Kind) (o : Opens inputs name keep kind) → HasRegularWorlds o.booted

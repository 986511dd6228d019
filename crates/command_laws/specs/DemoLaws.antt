-- What a call of `demo` does, and that its programs have no fault.
use Rattle.std.specs.Prelude.{◌≡◌, ◌↔◌, ◌⊎◌, ℕ, ◌≤◌, List, [], decimal, Some, None}
use Rattle.page_runs.specs.declared.place.Kind.TheVariants.{First}
use Rattle.machine_world.specs.Turns.{all_ended}
use Rattle.elf2flt_tool.specs.Fault.{fault}
use Rattle.elf_maker.specs.Demo.{demo_file}
use Rattle.file_commands.specs.declared.status.Status.TheVariants.{Done, Refused}
use Rattle.suite_top.specs.Telling.{Demo}
use Rattle.file_commands.specs.Ending.{Ending, done_ending}
use Rattle.file_commands.specs.Arguments.{demo, least_programs, most_programs, programs_of, command_of}
use Rattle.suite_top.specs.Telling.{demo_text}
use Rattle.suite_top.specs.Run.{walked_ending}
use Rattle.command_laws.specs.Booted.{Booted, booted_turns, last_world, DoesAsAlone, EndsAsAlone, WaitsToTheEnd, HasWorldsInOrder, HasRegularWorlds}
use Rattle.command_laws.specs.RunLaws.{IsStop}
use Rattle.suite_top.specs.Demo.{each_of, demo_manifest, demo_ending}
use Rattle.suite_top.specs.Call.{Call, MeetsOutcome}

-- each program can be converted
abbrev pub DemosConvert : Type 0
DemosConvert = (i : ℕ) → least_programs ≤ i → i ≤ most_programs → fault (demo_file i) ≡ None

-- the argument says a number exactly where it spells it and it is in the range
abbrev pub ProgramsAreSpelled : Type 0
ProgramsAreSpelled = (text : List ℕ) (n : ℕ) → (programs_of text ≡ Some n) ↔ ((text ≡ decimal n) × (least_programs ≤ n) × (n ≤ most_programs))

-- the host is left untouched
abbrev pub DemosAskNothing : Type 0
DemosAskNothing = (c : Call) (n : ℕ) → MeetsOutcome c → command_of c.arguments ≡ Some (demo n)
    → (c.host_after.told ≡ c.host.told) × (c.host_after.faults ≡ c.host.faults)

-- ---- when a demo reaches its machine

-- the programs all stand in the memory, and this is the opening world
abbrev pub DemoOpens : (n : ℕ) → Type 0
DemoOpens n = Booted 0 First (demo_manifest n) (each_of demo_file n)

-- the turns from that world give the texts
abbrev pub DemosRunWhereTheyOpen : Type 0
DemosRunWhereTheyOpen = (n : ℕ) (o : DemoOpens n) → demo_ending n ≡ walked_ending (Demo n) [] (demo_manifest n).dumps (booted_turns o)

-- in no other case a demo ends with the status of a machine that stopped
abbrev pub DemosOpenWhereTheyStop : Type 0
DemosOpenWhereTheyStop = (n : ℕ) → IsStop (demo_ending n).status → DemoOpens n

-- something was refused, and nothing goes to `out`
abbrev pub IsRefused : Ending → Type 0
IsRefused ending = (ending.out ≡ []) × (ending.status ≡ Refused)

-- a demo reaches its machine or is refused
abbrev pub DemosStopOrAreRefused : Type 0
DemosStopOrAreRefused = (n : ℕ) → IsStop (demo_ending n).status ⊎ IsRefused (demo_ending n)

-- no process is left behind its turns, and the console and the line, of the world there, go to `out`, and nothing to `report`
pub record TellsALine (n : ℕ) : Type 0 where
  pub opens : DemoOpens n
  pub ended : (booted_turns opens).end ≡ Some all_ended
  pub ending : demo_ending n ≡ done_ending (demo_text n (last_world opens))

-- Done comes only so
abbrev pub DemosTellALine : Type 0
DemosTellALine = (n : ℕ) → (demo_ending n).status ≡ Done → TellsALine n

-- ---- what is said of each demo from its opening world on, as of each run

abbrev pub DemosAreAsAlone : Type 0
DemosAreAsAlone = (n : ℕ) → n ≤ most_programs → (o : DemoOpens n) → DoesAsAlone o

abbrev pub DemoEndsAreAsAlone : Type 0
DemoEndsAreAsAlone = (n : ℕ) → n ≤ most_programs → (o : DemoOpens n) → EndsAsAlone o

abbrev pub DemosWaitWell : Type 0
DemosWaitWell = (n : ℕ) → n ≤ most_programs → (o : DemoOpens n) → WaitsToTheEnd o

abbrev pub DemoWorldsAreInOrder : Type 0
DemoWorldsAreInOrder = (n : ℕ) → n ≤ most_programs → (o : DemoOpens n) → HasWorldsInOrder o

abbrev pub DemoWorldsAreRegular : Type 0
DemoWorldsAreRegular = (n : ℕ) → n ≤ most_programs → (o : DemoOpens n) → HasRegularWorlds o

-- What a call of `demo` does.
use Rattle.std.proofs.Common.{◌≡◌, ℕ, List, [], Option, Some, None, ◌⊎◌, inl, inr, refl, sym, ap, subst, ◌∙◌, arith}
use Rattle.machine_world.specs.World.{World}
use Rattle.machine_world.specs.Turns.{End, all_ended, stuck, out_of_quanta, stray_at, log_full}
use Rattle.elf_maker.specs.Demo.{demo_file}
use Rattle.file_commands.specs.declared.status.Status.TheVariants.{Done}
use Rattle.suite_top.specs.Telling.{Demo}
use Rattle.file_commands.specs.Ending.{Ending}
use Rattle.suite_top.specs.Report.{own_dumps}
use Rattle.suite_top.specs.Telling.{demonstrated_ending}
use Rattle.file_commands.specs.Arguments.{Invocation, least_programs, most_programs}
use Rattle.file_commands.specs.Outcome.{Outcome}
use Rattle.suite_top.specs.Result.{command_outcome}
use Rattle.suite_top.specs.Call.{outcome_of}
use Rattle.command_laws.specs.Booted.{booted_turns}
use Rattle.command_laws.specs.RunLaws.{IsStop, IsEarly}
use Rattle.suite_top.specs.Demo.{each_of, demo_manifest, demo_run}
use Rattle.command_laws.specs.DemoLaws.{DemosConvert, DemosAskNothing, DemosRunWhereTheyOpen, DemosOpenWhereTheyStop, DemosStopOrAreRefused, DemosTellALine, ProgramsAreSpelled}
use Rattle.suite_top.proofs.HostLaws.{untouched_at}
use Rattle.file_commands.proofs.SpelledNumbers.{number_is_spelled}
use Rattle.suite_top.proofs.RunOutcomes.{demo_by, told_status}
use Rattle.suite_top.proofs.RunEndings.{files_are_told}
use Rattle.command_laws.proofs.RunLaws.{runs_where_booted, booted_where_it_stops}
use Rattle.command_laws.proofs.DemoFaults.{program_has_no_fault}

pub programs_are_spelled : ProgramsAreSpelled
programs_are_spelled text n = number_is_spelled least_programs most_programs (omega arith) text n

pub demos_convert : DemosConvert
demos_convert i some few = program_has_no_fault i

pub demos_ask_nothing : DemosAskNothing
demos_ask_nothing c n (ending, performs, delivers) is =
    let none : (outcome_of c).requests ≡ [] = ap (λ (o : Option Invocation). (command_outcome o c.inputs).requests) is in
    untouched_at (outcome_of c).requests none performs.course performs.is_course c.host.told c.host_after.told performs.told c.host.faults c.host_after.faults performs.faults

-- ---- when a demo reaches its machine

pub demos_run_where_they_open : DemosRunWhereTheyOpen
unfolding demo_run
demos_run_where_they_open n o = ap (λ (x : Outcome). x.ending) (runs_where_booted (Demo n) (demo_manifest n) (each_of demo_file n) o)

pub demos_open_where_they_stop : DemosOpenWhereTheyStop
unfolding demo_run
demos_open_where_they_stop n stop = booted_where_it_stops (Demo n) (demo_manifest n) (each_of demo_file n) stop

-- it has no load that could fail
pub demos_stop_or_are_refused : DemosStopOrAreRefused
unfolding demo_run
demos_stop_or_are_refused n =
    let either = demo_by (λ (o : Outcome). IsStop o.ending.status ⊎ IsEarly o.ending) (λ tail. inr (refl, inr refl))
    (λ telling dumped w end. inl (told_status IsStop tt tt tt tt tt telling dumped w end)) n in
    elim either [
      | inl stop ↦ inl stop
      | inr early ↦ elim early.1 [
        | inl read ↦ absurd (files_are_told (Demo n) (demo_manifest n) (each_of demo_file n) read)
        | inr refused ↦ inr (early.0, refused)
      ]
    ]

-- only where no process is left the status is Done
all_have_ended : (n : ℕ) (dumped : List ℕ) (w : World) (end : Option End) → (demonstrated_ending n dumped w end).status ≡ Done → end ≡ Some all_ended
all_have_ended n dumped w None done = absurd cc
all_have_ended n dumped w (Some all_ended) done = refl
all_have_ended n dumped w (Some stuck) done = absurd cc
all_have_ended n dumped w (Some (stray_at pid access)) done = absurd cc
all_have_ended n dumped w (Some out_of_quanta) done = absurd cc
all_have_ended n dumped w (Some log_full) done = absurd cc

pub demos_tell_a_line : DemosTellALine
demos_tell_a_line n done =
    let opens = demos_open_where_they_stop n (subst IsStop (sym done) tt) in
    let is = demos_run_where_they_open n opens in
    let walk = booted_turns opens in
    let dumped = own_dumps walk.world (demo_manifest n).dumps in
    let ended = all_have_ended n dumped walk.world walk.end (sym (ap (λ (e : Ending). e.status) is) ∙ done) in
    record { opens = opens; ended = ended; ending = is ∙ ap (demonstrated_ending n dumped walk.world) ended }

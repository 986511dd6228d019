-- A run with `--go-on` and the same run without it.
use Rattle.std.proofs.Common.{◌≡◌, ◌≢◌, ℕ, [], Option, Some, None, ◌⊎◌, inl, inr, refl, ap}
use Rattle.byte_words.specs.declared.access.Access.{Access}
use Rattle.machine_world.specs.Turns.{End, all_ended, stuck, out_of_quanta, stray_at, log_full, turns}
use Rattle.memory_world.specs.Physical.{turns_in, opening_in}
use Rattle.go_on_laws.proofs.NeverStrays.{runs_never_stray}
use Rattle.file_commands.specs.declared.status.Status.TheVariants.{Stray}
use Rattle.suite_top.specs.Report.{status_of_end}
use Rattle.file_commands.specs.Outcome.{Request, Outcome, after}
use Rattle.command_laws.specs.RunLaws.{IsStop}
use Rattle.command_laws.specs.Beside.{halted, gone_on, RunsEndEarlyAlike, RunsOnNeverStray}
use Rattle.suite_top.proofs.RunOutcomes.{told_status}
use Rattle.command_laws.proofs.BothRuns.{both_run}

-- ---- the one reaches its machine, or the other is the same

alike_after : (request : Request) (halts goes : Outcome) → IsStop halts.ending.status ⊎ (goes ≡ halts) → IsStop halts.ending.status ⊎ (after request goes ≡ after request halts)
alike_after request halts goes (inl stops) = inl stops
alike_after request halts goes (inr same) = inr (ap (after request) same)

pub runs_end_early_alike : RunsEndEarlyAlike
runs_end_early_alike name options =
    both_run (halted options) (gone_on options) (λ m b. refl) (λ halts goes. IsStop halts.ending.status ⊎ (goes ≡ halts)) alike_after (λ name. inr refl) (λ tail. inr refl)
    (λ quanta watches dumps headers w.
    let walk = turns quanta w in
    inl (told_status IsStop tt tt tt tt tt (halted options) [] walk.world walk.end)) name

-- ---- and the other doesn't end with Stray

no_stray : (end : Option End) → ((pid : ℕ) (access : Access) → end ≢ Some (stray_at pid access)) → status_of_end end ≢ Stray
no_stray (Some (stray_at pid access)) never = absurd (never pid access refl)
no_stray (Some all_ended) never = λ h. cc
no_stray (Some stuck) never = λ h. cc
no_stray (Some out_of_quanta) never = λ h. cc
no_stray (Some log_full) never = λ h. cc
no_stray None never = λ h. cc

pub runs_on_never_stray : RunsOnNeverStray
runs_on_never_stray name options =
    both_run (halted options) (gone_on options) (λ m b. refl) (λ halts goes. goes.ending.status ≢ Stray) (λ request halts goes other. other) (λ name h. cc) (λ tail h. cc)
    (λ quanta watches dumps headers w. no_stray (turns_in quanta (opening_in headers w)).end (runs_never_stray quanta (opening_in headers w))) name

-- A replay says yes to what a run stored, by the laws of both calls.
use Rattle.std.proofs.Common.{◌≡◌, ℕ, List, cond, Option, Some, sym, ap, subst, ◌∙◌, inl, inr}
use Rattle.std.specs.FinMap.{get, insert, get-insert}
use Rattle.std.specs.Cmp.{eq_by_cmp_equiv}
use Rattle.std.specs.Cmp.Lexicographic.{nat_list_cmp_total}
use Rattle.std.proofs.lemmas.Option.{same_Some}
use Rattle.host_io.specs.Host.{Files, Told}
use Rattle.items_text.specs.Lines.{text_of}
use Rattle.machine_world.specs.World.{Program}
use Rattle.region_watch.specs.declared.mode.Mode.TheVariants.{Halt}
use Rattle.replay_check.specs.declared.verdict.Verdict.TheVariants.{Yes}
use Rattle.file_commands.specs.declared.command.Format.{Format}
use Rattle.file_commands.specs.Arguments.{KeptItems, RunOptions, Invocation, replay}
use Rattle.file_commands.specs.Outcome.{Inputs}
use Rattle.file_commands.specs.Replay.{verdict_ending}
use Rattle.suite_top.specs.Call.{Call}
use Rattle.suite_top.specs.KeptItems.{text_or_none}
use Rattle.suite_top.specs.Telling.{Report}
use Rattle.suite_top.specs.HeldItems.{RecordsHeld, StopsHeld, RunHolds, CommandHolds, KeepsHeld}
use Rattle.suite_top.specs.StatusLaws.{IsAnswer}
use Rattle.command_laws.specs.Booted.{last_world}
use Rattle.command_laws.specs.RunLaws.{Opens, OpensFor, IsStop}
use Rattle.command_laws.specs.ReplayLaws.{IsJudged}
use Rattle.command_laws.specs.ItemsLaws.{stay_text, IsKeeping}
use Rattle.command_laws.specs.ReplayedItems.{ReplaysStored, SaysYes, StoredItemsReplay}
use Rattle.command_laws.proofs.OneFileLaws.{outcome_is, shows}
use Rattle.command_laws.proofs.ReplayLaws.{behind_both, tells_where_judged, replay_completes}
use Rattle.command_laws.proofs.ItemsLaws.{texts_are_of_stays, items_are_stored}
use Rattle.command_laws.proofs.AcceptedItems.{runs_accept_items}

got_back : (files : Files) (name bytes : List ℕ) → get (insert files name bytes) name ≡ Some bytes
got_back files name bytes = get-insert nat_list_cmp_total files name bytes name ∙ ap (λ b. cond b (Some bytes) (get files name)) ((eq_by_cmp_equiv nat_list_cmp_total).refl name)

-- a call that replays items which are a run says so
says_yes : (c : Call) (t t_after : Told) (kind : Format) (file stored : List ℕ) (p : Program) (left : Files) (replays : ReplaysStored left stored p c t t_after kind file)
    (j : IsJudged t kind file stored Yes) → c.status ≡ (verdict_ending j.values Yes).status → SaysYes c j.values
says_yes c t t_after kind file stored p left replays j done =
    let over = replays.replay.files in
    let at = outcome_is c t t_after over (replay kind file stored) replays.replay.command ∙ tells_where_judged t kind file stored Yes j in
    let s = shows c t t_after over (behind_both file stored (verdict_ending j.values Yes)) at (subst IsAnswer (sym done) tt) in
    record { status = done; out = s.out; report = s.report }

-- the items that it kept, by the clause of `suite`
kept_held : (c : Call) (t t_after : Told) (manifest : List ℕ) (options : RunOptions) (kept : KeptItems) → IsKeeping c t t_after manifest options kept → KeepsHeld c.arguments c.host.told c.status → IsStop c.status
    → (o : Opens c.inputs manifest kept.number options.kind) → RecordsHeld (last_world o.booted)
kept_held c t t_after manifest options kept is holds stop o =
    let asked = record options { mode = Halt; kept = Some kept } in
    let of_run : RunHolds (Report asked) manifest c.host.told c.status = subst (λ (command : Option Invocation). CommandHolds command c.host.told c.status) is.command holds in
    let of_files : RunHolds (Report asked) manifest (Some t) c.status = subst (λ (told : Option Told). RunHolds (Report asked) manifest told c.status) is.files.told of_run in
    let any_opening = subst (λ (inputs : Inputs). (o : OpensFor inputs manifest (Report asked)) → StopsHeld (Report asked) o.booted) (sym is.files.inputs) (of_files (λ none. cc) stop) in
    any_opening o

pub stored_items_replay : StoredItemsReplay
stored_items_replay c t t_after manifest options kept is holds stop =
    let (o, stores) = items_are_stored c t t_after manifest options kept is stop in (
      o,
      λ load p items noted there tells r u u_after kind file replays calm.
          let held = kept_held c t t_after manifest options kept is holds stop o items tells in
          let accepts = runs_accept_items c.inputs manifest kept.number options.kind o in
          let text_is : stay_text o ≡ text_of items = sym (texts_are_of_stays c.inputs manifest kept.number options.kind o) ∙ ap text_or_none tells in
          let found : get t_after.files kept.file ≡ Some (text_of items) =
          ap (λ (files : Files). get files kept.file) stores ∙ got_back t.files kept.file (stay_text o) ∙ ap Some text_is in
          let same : replays.text ≡ text_of items = same_Some _ _ (sym replays.as_left ∙ found) in
          let judged : IsJudged u kind file kept.file Yes = record {
            program = replays.program;
            text = replays.text;
            there = replays.there;
            values = items;
            reads = record { held = held; spelled = accepts.spelled items tells; text_is = same };
            original = replays.original;
            originates = replays.originates;
            replays = accepts.accepted load p replays.original items noted there replays.of_program tells;
          } in
          elim (replay_completes r u u_after kind file kept.file replays.replay Yes judged calm) [
            | inl memory ↦ inl memory
            | inr done ↦ inr (says_yes r u u_after kind file kept.file p t_after.files replays judged done)
          ],
    )

-- When a run reaches its machine.
use Rattle.std.proofs.Common.{◌≡◌, ℕ, List, map, None, Result, Ok, Err, ◌⊎◌, inl, inr, refl, ap, ◌∙◌}
use Rattle.page_runs.specs.declared.place.Kind.{Kind}
use Rattle.manifest_text.specs.Values.{Manifest}
use Rattle.manifest_text.specs.Manifest.{Fault, manifest_of}
use Rattle.manifest_text.specs.Laws.{Reasonable}
use Rattle.manifest_text.proofs.Bounds.{manifests_are_reasonable}
use Rattle.machine_world.specs.World.{World}
use Rattle.machine_world.specs.Boot.{BootFault, boot}
use Rattle.flat_machine.specs.Runs.{repeated}
use Rattle.suite_top.specs.Telling.{Telling, mode_of, placement_of, kept_of}
use Rattle.file_commands.specs.Outcome.{load, Outcome, Inputs, after}
use Rattle.file_commands.specs.Load.{behind}
use Rattle.run_setup.specs.Brought.{Brought, FaultAt, nothing_brought, all_brought}
use Rattle.file_commands.specs.Items.{files_limit}
use Rattle.file_commands.specs.Manifests.{manifest_limit}
use Rattle.suite_top.specs.KeptItems.{keep_of}
use Rattle.suite_top.specs.Run.{start_line, opening, mode_outcome, booted_outcome, brought_outcome, files_outcome, items_outcome, manifest_outcome, run_outcome}
use Rattle.command_laws.specs.Booted.{Booted}
use Rattle.command_laws.specs.RunLaws.{Opens, IsStop, IsEarly, RunsWhereItOpens, OpensWhereItStops, RunsStopOrEndEarly}
use Rattle.suite_top.proofs.RunOutcomes.{run_by, told_status}
use Rattle.suite_top.proofs.Opened.{is_within, behind_all, items_there, within, items_within}

-- a manifest that is read has no number past its bound
pub reasonable : {inputs : Inputs} {name : List ℕ} {keep : ℕ} {kind : Kind} (o : Opens inputs name keep kind) → Reasonable o.manifest
reasonable o = manifests_are_reasonable o.text o.manifest o.reads

-- ---- from what is there to the outcome

-- of a run and of a demo
pub runs_where_booted : (telling : Telling) (m : Manifest) (files : List (List ℕ)) (b : Booted (keep_of (kept_of telling)) (placement_of telling) m files)
    → files_outcome telling m files ≡ mode_outcome telling (mode_of telling) (repeated m.repeat m.quanta) m.watches m.dumps b.brought.headers b.world
unfolding files_outcome
runs_where_booted telling m files b =
    ap (brought_outcome telling m) b.brings ∙ ap (booted_outcome telling m b.brought.headers) b.boots

pub runs_where_it_opens : RunsWhereItOpens
unfolding run_outcome
runs_where_it_opens inputs name telling o =
    ap (after (load name))
    (is_within manifest_limit None name (inputs 0 name) o.text (λ bytes. manifest_outcome telling (manifest_of bytes) (behind inputs)) o.found o.fits
    ∙ ap (λ (r : Result Manifest Fault). manifest_outcome telling r (behind inputs)) o.reads
    ∙ items_there (behind inputs) files_limit o.manifest.items o.files (files_outcome telling o.manifest) o.there
    ∙ ap (behind_all o.manifest.items) (runs_where_booted telling o.manifest o.files o.booted))

-- ---- from the status to what is there

ok_manifest : (inputs : Inputs) (telling : Telling) (r : Result Manifest Fault) → IsStop (manifest_outcome telling r inputs).ending.status
    → (m : Manifest) × (r ≡ Ok m) × IsStop (items_outcome telling m inputs).ending.status
ok_manifest inputs telling (Err fault) stop = absurd stop
ok_manifest inputs telling (Ok m) stop = (m, refl, stop)

ok_brought : (telling : Telling) (m : Manifest) (r : Result Brought FaultAt) → IsStop (brought_outcome telling m r).ending.status
    → (b : Brought) × (r ≡ Ok b) × IsStop (booted_outcome telling m b.headers (boot (opening (keep_of (kept_of telling)) (placement_of telling) m b) (map start_line m.starts))).ending.status
ok_brought telling m (Err at) stop = absurd stop
ok_brought telling m (Ok b) stop = (b, refl, stop)

ok_world : (telling : Telling) (m : Manifest) (headers : List (List ℕ)) (r : Result World BootFault) → IsStop (booted_outcome telling m headers r).ending.status → (w : World) × (r ≡ Ok w)
ok_world telling m headers (Err fault) stop = absurd stop
ok_world telling m headers (Ok w) stop = (w, refl)

pub booted_where_it_stops : (telling : Telling) (m : Manifest) (files : List (List ℕ)) → IsStop (files_outcome telling m files).ending.status → Booted (keep_of (kept_of telling)) (placement_of telling) m files
unfolding files_outcome
booted_where_it_stops telling m files stop =
    let (brought, brings, boots_on) = ok_brought telling m (all_brought m.items files nothing_brought) stop in
    let (world, boots) = ok_world telling m brought.headers (boot (opening (keep_of (kept_of telling)) (placement_of telling) m brought) (map start_line m.starts)) boots_on in
    record { brought = brought; brings = brings; world = world; boots = boots }

pub opens_where_it_stops : OpensWhereItStops
unfolding run_outcome
opens_where_it_stops inputs name telling stop =
    let (text, found, fits, reads_on) = within manifest_limit None name (inputs 0 name) (λ bytes. manifest_outcome telling (manifest_of bytes) (behind inputs)) stop in
    let (m, reads, loads_on) = ok_manifest (behind inputs) telling (manifest_of text) reads_on in
    let (files, there, makes_on) = items_within (behind inputs) files_limit m.items (files_outcome telling m) loads_on in
    let booted = booted_where_it_stops telling m files makes_on in
    record { text = text; found = found; fits = fits; manifest = m; reads = reads; files = files; there = there; booted = booted }

pub runs_stop_or_end_early : RunsStopOrEndEarly
runs_stop_or_end_early name telling inputs =
    run_by (λ (o : Outcome). IsStop o.ending.status ⊎ IsEarly o.ending) (λ tail. inr (refl, inr refl)) telling
    (λ dumped w end. inl (told_status IsStop tt tt tt tt tt telling dumped w end)) (λ name o p. p) (λ name. inr (refl, inl refl))
    name inputs

-- What a call of `unromfs` does.
use Rattle.std.proofs.Common.{◌≡◌, ℕ, List, [], Option, Some, Result, Ok, Err, refl, ap, subst, ◌∙◌}
use Rattle.std.specs.FinMap.{get}
use Rattle.host_io.specs.Host.{Told}
use Rattle.romfs_image.specs.declared.fault.RomFault.{RomFault}
use Rattle.romfs_image.specs.Nodes.{RomValue}
use Rattle.romfs_image.specs.Reading.{rom_read}
use Rattle.file_commands.specs.declared.status.Status.TheVariants.{Done, Refused}
use Rattle.file_commands.specs.Texts.Images.{rom_tail}
use Rattle.file_commands.specs.Ending.{Ending, refused_ending}
use Rattle.file_commands.specs.Outcome.{load, Outcome, after}
use Rattle.file_commands.specs.Arguments.{Invocation, unromfs}
use Rattle.file_commands.specs.OneFile.{with_found}
use Rattle.file_commands.specs.Unromfs.{read_ending, unmade_outcome}
use Rattle.suite_top.specs.Result.{command_outcome}
use Rattle.suite_top.specs.Call.{Call, outcome_of}
use Rattle.command_laws.specs.UnromfsLaws.{IsUnromfs, UnromfsAsksOneLoad, UnromfsIsDone, tail_in, image_tail, UnromfsIsRefused, UnromfsCompletes}
use Rattle.suite_top.proofs.Outcomes.{unromfs_requests}
use Rattle.command_laws.proofs.OneFileLaws.{outcome_is, Shows, is_refused, is_done, is_completed}

pub unromfs_asks_one_load : UnromfsAsksOneLoad
unromfs_asks_one_load c image is = ap (λ (o : Option Invocation). (command_outcome o c.inputs).requests) is ∙ unromfs_requests image c.inputs

outcome_of_unromfs : (c : Call) (t t_after : Told) (image : List ℕ) → IsUnromfs c t t_after image → outcome_of c ≡ after (load image) (with_found image (get t.files image) unmade_outcome)
outcome_of_unromfs c t t_after image is = outcome_is c t t_after is.files (unromfs image) is.command

-- nothing is requested behind the load
abbrev at_once : Ending → Outcome
at_once ending = record { requests = []; ending = ending }

refused : (r : Result (List RomValue) RomFault) → (read_ending r).status ≡ Refused
    → (tail : List ℕ) × (tail_in r ≡ Some tail) × (at_once (read_ending r) ≡ at_once (refused_ending tail))
refused (Ok nodes) status = absurd (let h : Done ≡ Refused = status in cc)
refused (Err first) status = (rom_tail first, refl, refl)

accepted : (r : Result (List RomValue) RomFault) → (read_ending r).status ≡ Done → (nodes : List RomValue) × (r ≡ Ok nodes)
accepted (Ok nodes) status = (nodes, refl)
accepted (Err first) status = absurd (let h : Refused ≡ Done = status in cc)

pub unromfs_is_refused : UnromfsIsRefused
unromfs_is_refused c t t_after image is status =
    is_refused c t t_after is.files image unmade_outcome (outcome_of_unromfs c t t_after image is) image_tail (λ y. refused (rom_read y)) status

pub unromfs_is_done : UnromfsIsDone
unromfs_is_done c t t_after image is status =
    let (y, file, ends, at) = is_done c t t_after is.files image unmade_outcome (outcome_of_unromfs c t t_after image is) status in
    let (nodes, reads) = accepted (rom_read y) ends in
    let s = subst (λ (r : Result (List RomValue) RomFault). Shows c t t_after (after (load image) (at_once (read_ending r)))) reads at in
    record {
      bytes = y;
      file = file;
      nodes = nodes;
      reads = reads;
      shown = record { files = ap (λ (u : Told). u.files) s.told; asked = ap (λ (u : Told). u.asked) s.told; out = s.out; report = s.report };
    }

pub unromfs_completes : UnromfsCompletes
unromfs_completes c t t_after image is y nodes file reads calm =
    is_completed c t t_after is.files image unmade_outcome (outcome_of_unromfs c t t_after image is) y file
    (ap (λ (r : Result (List RomValue) RomFault). (read_ending r).status) reads) calm

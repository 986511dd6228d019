-- What the outcome of a command can be.
use Rattle.std.proofs.Common.{◌≡◌, ℕ, Bool, true, false, cond, List, [], ◌∷◌, length, nat_lt, Option, Some, None, Result, Ok, Err, refl, sym, ap, subst, ◌∙◌, inl, inr}
use Rattle.std.specs.Prelude.{◌⊎◌}
use Rattle.elf2flt_tool.specs.declared.refusal.Refusal.{Refusal}
use Rattle.bflt_format.specs.declared.fault.FlatFault.{FlatFault}
use Rattle.bflt_format.specs.Fault.{flat_fault}
use Rattle.elf2flt_tool.specs.Fault.{fault}
use Rattle.elf2flt_tool.specs.Converted.{flat}
use Rattle.file_commands.specs.declared.status.Status.{Status}
use Rattle.file_commands.specs.declared.status.Status.TheVariants.{Done, Usage, HostRead, Refused, Stray, OutOfQuanta, LogFull, Stuck, Refuted}
use Rattle.file_commands.specs.Sizes.{sizes}
use Rattle.file_commands.specs.Texts.{refusal_tail, convert_line, check_line, too_long_tail}
use Rattle.file_commands.specs.Texts.Listing.{listing, flat_tail}
use Rattle.bflt_format.specs.Header.{flat_values}
use Rattle.file_commands.specs.Ending.{Ending, done_ending, refuted_ending, usage_ending, refused_ending, listed_ending}
use Rattle.file_commands.specs.Outcome.{Request, load, store, failure_ending, Outcome, Inputs, after}
use Rattle.file_commands.specs.declared.command.Format.{Format}
use Rattle.file_commands.specs.Arguments.{Invocation, convert, list, check, run, trace, romfs, unromfs, replay, demo, IsNoRun, default_stack, command_of}
use Rattle.file_commands.specs.OneFile.{file_limit, with_found, with_file}
use Rattle.file_commands.specs.Convert.{judged_outcome, converted_outcome}
use Rattle.file_commands.specs.Check.{faults_text, verdict, checked_outcome, check_outcome}
use Rattle.file_commands.specs.List.{judged_ending, listed_outcome, list_outcome}
use Rattle.romfs_image.specs.declared.fault.RomFault.{RomFault}
use Rattle.romfs_image.specs.Nodes.{RomValue}
use Rattle.romfs_image.specs.Reading.{rom_read}
use Rattle.file_commands.specs.Unromfs.{read_ending, unmade_outcome, unromfs_outcome}
use Rattle.file_commands.specs.Texts.Images.{rom_tail, image_listing}
use Rattle.machine_world.specs.World.{World}
use Rattle.machine_world.specs.Turns.{End}
use Rattle.suite_top.specs.Telling.{Telling, Report, Trace, told_ending}
use Rattle.suite_top.specs.Result.{command_outcome, result_of}
use Rattle.suite_top.specs.StatusLaws.{IsOneText, IsListing, TextsAreApart, RefutedIsOfReplay, UsageIsExact}
use Rattle.suite_top.proofs.RunOutcomes.{run_by, demo_by, told_status}
use Rattle.suite_top.proofs.ImageOutcomes.{romfs_by}
use Rattle.suite_top.proofs.ReplayOutcomes.{replay_by}

-- what holds of a refusal and of `rest` holds of what was found
pub found_by : (P : Outcome → Type 0) (name : List ℕ) (rest : List ℕ → Outcome) (e : List ℕ) → P (record { requests = []; ending = refused_ending too_long_tail }) → P (rest e) → P (with_found name (Some e) rest)
found_by P name rest e long fits =
    elim (nat_lt file_limit (length e)) as (λ (b : Bool). P (cond b (record { requests = []; ending = refused_ending too_long_tail }) (rest e))) [ true ↦ long | false ↦ fits ]

abbrev pub IsReplay : Invocation → Type 0
IsReplay k = (kind : Format) × (file : List ℕ) × (items : List ℕ) × (k ≡ replay kind file items)

-- every fault of a file is listed
abbrev pub Lists : (Ending → Type 0) → Invocation → Inputs → Type 0
Lists P k inputs = (x : Ending) → IsListing (Some k) inputs x → P x

listing_status : (o : Option Invocation) (inputs : Inputs) (x : Ending) → IsListing o inputs x → Refused ≡ x.status
listing_status o inputs x is = sym (ap (λ (s : Ending). s.status) is.texts)

-- each command ends as one of these, or `check` with a listing, or `replay` alone as the last
module _ (P : Ending → Type 0) (read : (name : List ℕ) → P (failure_ending (load name))) (refused : (tail : List ℕ) → P (refused_ending tail)) (done : (text : List ℕ) → P (done_ending text)) where
  found_ending : (name : List ℕ) (rest : List ℕ → Outcome) → ((e : List ℕ) → P (rest e).ending) → (found : Option (List ℕ)) → P (with_found name found rest).ending
  found_ending name rest each None = read name
  found_ending name rest each (Some e) = found_by (λ o. P o.ending) name rest e (refused too_long_tail) (each e)

  convert_judged : (flt : List ℕ) (stack : ℕ) (e : List ℕ) (o : Option Refusal) → P (judged_outcome flt stack e o).ending
  convert_judged flt stack e None = done (convert_line (sizes e stack))
  convert_judged flt stack e (Some first) = refused (refusal_tail first)

  check_judged : (elf : List ℕ) (all : Bool) (inputs : Inputs) → Lists P (check elf all) inputs → (e : List ℕ) → inputs 0 elf ≡ Some e → (o : Option Refusal) → fault e ≡ o → P (verdict e all o)
  check_judged elf all inputs listed e found None is = done (check_line (sizes e default_stack))
  check_judged elf false inputs listed e found (Some first) is = refused (refusal_tail first)
  check_judged elf true inputs listed e found (Some first) is =
      listed (listed_ending (faults_text e) (refusal_tail first)) (record { elf = elf; command = refl; bytes = e; found = found; first = first; faulty = is; texts = refl })

  check_found : (elf : List ℕ) (all : Bool) (inputs : Inputs) → Lists P (check elf all) inputs → (found : Option (List ℕ)) → inputs 0 elf ≡ found → P (with_found elf found (checked_outcome all)).ending
  check_found elf all inputs listed None is = read elf
  check_found elf all inputs listed (Some e) is =
      found_by (λ o. P o.ending) elf (checked_outcome all) e (refused too_long_tail) (check_judged elf all inputs listed e is (fault e) refl)

  list_judged : (y : List ℕ) (o : Option FlatFault) → P (judged_ending y o)
  list_judged y None = done (listing (flat_values y))
  list_judged y (Some first) = refused (flat_tail first)

  unromfs_judged : (r : Result (List RomValue) RomFault) → P (read_ending r)
  unromfs_judged (Ok nodes) = done (image_listing nodes)
  unromfs_judged (Err first) = refused (rom_tail first)

  pub other_than_run : (k : Invocation) (inputs : Inputs) → IsNoRun (Some k) → Lists P k inputs → (IsReplay k → (text : List ℕ) → P (refuted_ending text)) → P (command_outcome (Some k) inputs).ending
  other_than_run (convert elf flt stack) inputs other listed refuted = found_ending elf (converted_outcome flt stack) (λ e. convert_judged flt stack e (fault e)) (inputs 0 elf)
  other_than_run (check elf all) inputs other listed refuted = check_found elf all inputs listed (inputs 0 elf) refl
  other_than_run (list flt) inputs other listed refuted = found_ending flt listed_outcome (λ y. list_judged y (flat_fault y)) (inputs 0 flt)
  other_than_run (unromfs image) inputs other listed refuted = found_ending image unmade_outcome (λ y. unromfs_judged (rom_read y)) (inputs 0 image)
  other_than_run (romfs manifest image) inputs other listed refuted = romfs_by (λ (o : Outcome). P o.ending) (λ name o p. p) read refused image (λ bytes line. done line) manifest inputs
  other_than_run (replay kind file items) inputs other listed refuted =
      replay_by (λ (o : Outcome). P o.ending) (λ name o p. p) read refused done (refuted (kind, file, items, refl)) kind file items inputs
  other_than_run (run manifest options) inputs other listed refuted = absurd other
  other_than_run (trace manifest options) inputs other listed refuted = absurd other
  other_than_run (demo programs) inputs other listed refuted = absurd other

  module _ (told : (telling : Telling) (dumped : List ℕ) (w : World) (end : Option End) → P (told_ending telling dumped w end)) where
    pub invoked : (k : Invocation) (inputs : Inputs) → Lists P k inputs → (IsReplay k → (text : List ℕ) → P (refuted_ending text)) → P (command_outcome (Some k) inputs).ending
    invoked (run manifest options) inputs listed refuted =
        run_by (λ (o : Outcome). P o.ending) refused (Report options) (told (Report options)) (λ name o p. p) read manifest inputs
    invoked (trace manifest options) inputs listed refuted = run_by (λ (o : Outcome). P o.ending) refused (Trace options) (told (Trace options)) (λ name o p. p) read manifest inputs
    invoked (demo programs) inputs listed refuted = demo_by (λ (o : Outcome). P o.ending) refused told programs
    invoked (convert elf flt stack) inputs listed refuted = other_than_run (convert elf flt stack) inputs tt listed refuted
    invoked (check elf all) inputs listed refuted = other_than_run (check elf all) inputs tt listed refuted
    invoked (list flt) inputs listed refuted = other_than_run (list flt) inputs tt listed refuted
    invoked (romfs manifest image) inputs listed refuted = other_than_run (romfs manifest image) inputs tt listed refuted
    invoked (replay kind file items) inputs listed refuted = other_than_run (replay kind file items) inputs tt listed refuted
    invoked (unromfs image) inputs listed refuted = other_than_run (unromfs image) inputs tt listed refuted

    pub result_by : P usage_ending → ((text : List ℕ) → P (refuted_ending text)) → (o : Option Invocation) (inputs : Inputs) → ((x : Ending) → IsListing o inputs x → P x) → P (command_outcome o inputs).ending
    result_by usage refuted None inputs listed = usage
    result_by usage refuted (Some k) inputs listed = invoked k inputs listed (λ is. refuted)

-- a status that no outcome has
pub never : (s : Status) → (HostRead ≡ s → ⊥) → (Refused ≡ s → ⊥) → (Done ≡ s → ⊥) → (Usage ≡ s → ⊥) → (Stray ≡ s → ⊥) → (OutOfQuanta ≡ s → ⊥) → (LogFull ≡ s → ⊥) → (Stuck ≡ s → ⊥) → (Refuted ≡ s → ⊥)
    → (arguments : List (List ℕ)) (inputs : Inputs) → (result_of arguments inputs).ending.status ≡ s → ⊥
never s read refused done usage stray quanta full still refuted arguments inputs =
    result_by (λ t. t.status ≡ s → ⊥) (λ name. read) (λ tail. refused) (λ text. done)
    (λ telling dumped w end. told_status (λ t. t ≡ s → ⊥) done stray quanta full still telling dumped w end)
    usage (λ text. refuted) (command_of arguments) inputs (λ x is e. refused (listing_status (command_of arguments) inputs x is ∙ e))

one_text : (o : Option Invocation) (inputs : Inputs) → IsNoRun o → IsOneText (command_outcome o inputs).ending ⊎ IsListing o inputs (command_outcome o inputs).ending
one_text None inputs other = inl (inl refl)
one_text (Some k) inputs other =
    other_than_run (λ x. IsOneText x ⊎ IsListing (Some k) inputs x) (λ name. inl (inl refl)) (λ tail. inl (inl refl)) (λ text. inl (inr (inl refl, refl)))
    k inputs other (λ x is. inr is) (λ is text. inl (inr (inr refl, refl)))

pub texts_are_apart : TextsAreApart
texts_are_apart arguments inputs = one_text (command_of arguments) inputs

no_command : (o : Option Invocation) (inputs : Inputs) → (command_outcome o inputs).ending.status ≡ Usage → o ≡ None
no_command None inputs is = refl
no_command (Some k) inputs is =
    absurd (invoked (λ t. t.status ≡ Usage → ⊥) (λ name e. cc) (λ tail e. cc) (λ text e. cc) (λ telling dumped w end. told_status (λ t. t ≡ Usage → ⊥) (λ e. cc) (λ e. cc) (λ e. cc) (λ e. cc) (λ e. cc) telling dumped w end) k inputs
    (λ x listing e. let h : Refused ≡ Usage = listing_status (Some k) inputs x listing ∙ e in cc) (λ replays text e. cc) is)

-- Refuted comes of a replay alone
abbrev OfReplay : Option Invocation → Type 0
OfReplay o = (kind : Format) × (file : List ℕ) × (items : List ℕ) × (o ≡ Some (replay kind file items))

of_replay : (k : Invocation) → IsReplay k → OfReplay (Some k)
of_replay k (kind, file, items, is) = (kind, file, items, ap Some is)

refuted_by : (o : Option Invocation) (inputs : Inputs) → (command_outcome o inputs).ending.status ≡ Refuted → OfReplay o
refuted_by None inputs status = absurd (let h : Usage ≡ Refuted = status in cc)
refuted_by (Some k) inputs status =
    invoked (λ t. t.status ≡ Refuted → OfReplay (Some k)) (λ name e. absurd cc) (λ tail e. absurd cc) (λ text e. absurd cc)
    (λ telling dumped w end. told_status (λ s. s ≡ Refuted → OfReplay (Some k)) (λ e. absurd cc) (λ e. absurd cc) (λ e. absurd cc) (λ e. absurd cc) (λ e. absurd cc) telling dumped w end)
    k inputs (λ x listing e. absurd (let h : Refused ≡ Refuted = listing_status (Some k) inputs x listing ∙ e in cc)) (λ replays text e. of_replay k replays) status

pub refuted_is_of_replay : RefutedIsOfReplay
refuted_is_of_replay arguments inputs = refuted_by (command_of arguments) inputs

pub usage_is_exact : UsageIsExact
usage_is_exact arguments inputs = (
  no_command (command_of arguments) inputs,
  λ none. subst (λ (o : Option Invocation). ((command_outcome o inputs).ending.status ≡ Usage) × ((command_outcome o inputs).requests ≡ [])) (sym none) (refl, refl),
)

-- ---- what is requested behind the load

abbrev pub Behind : (flt : List ℕ) (stack : ℕ) (found : Option (List ℕ)) → List Request → Type 0
Behind flt stack found requests = (requests ≡ []) ⊎ ((e : List ℕ) × (found ≡ Some e) × (fault e ≡ None) × (requests ≡ store flt (flat e stack) ∷ []))

judged_requests : (flt : List ℕ) (stack : ℕ) (e : List ℕ) (o : Option Refusal) → fault e ≡ o → Behind flt stack (Some e) (judged_outcome flt stack e o).requests
judged_requests flt stack e None is = inr (e, refl, is, refl)
judged_requests flt stack e (Some first) is = inl refl

pub requests_behind : (elf flt : List ℕ) (stack : ℕ) (found : Option (List ℕ)) → Behind flt stack found (with_found elf found (converted_outcome flt stack)).requests
requests_behind elf flt stack None = inl refl
requests_behind elf flt stack (Some e) = found_by (λ o. Behind flt stack (Some e) o.requests) elf (converted_outcome flt stack) e (inl refl) (judged_requests flt stack e (fault e) refl)

-- a command that requests nothing behind its load requests this one load
one_load : (name : List ℕ) (rest : List ℕ → Outcome) → ((e : List ℕ) → (rest e).requests ≡ []) → (found : Option (List ℕ)) → (with_file name found rest).requests ≡ load name ∷ []
one_load name rest none None = refl
one_load name rest none (Some e) = found_by (λ o. (after (load name) o).requests ≡ load name ∷ []) name rest e refl (ap (λ (requests : List Request). load name ∷ requests) (none e))

pub list_requests : (flt : List ℕ) (inputs : Inputs) → (list_outcome flt inputs).requests ≡ load flt ∷ []
list_requests flt inputs = one_load flt listed_outcome (λ y. refl) (inputs 0 flt)

pub check_requests : (elf : List ℕ) (all : Bool) (inputs : Inputs) → (check_outcome elf all inputs).requests ≡ load elf ∷ []
check_requests elf all inputs = one_load elf (checked_outcome all) (λ e. refl) (inputs 0 elf)

pub unromfs_requests : (image : List ℕ) (inputs : Inputs) → (unromfs_outcome image inputs).requests ≡ load image ∷ []
unromfs_requests image inputs = one_load image unmade_outcome (λ y. refl) (inputs 0 image)

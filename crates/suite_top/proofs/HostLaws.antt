-- What the host was asked, and which files changed.
use Rattle.std.proofs.Common.{◌≡◌, ℕ, List, [], ◌∷◌, ◌++◌, map, Option, Some, None, refl, sym, ap, subst, ◌∙◌, append_assoc, inl, inr}
use Rattle.std.specs.Prelude.{◌⊎◌, option_map}
use Rattle.std.specs.FinMap.{insert}
use Rattle.std.specs.Option.{option_and_then}
use Rattle.std.proofs.lemmas.List.{append-nil}
use Rattle.host_io.specs.Host.{Files, Told}
use Rattle.file_commands.specs.Outcome.{Request, load, store, Outcome, Inputs, name_of}
use Rattle.file_commands.specs.declared.command.Format.{Format}
use Rattle.file_commands.specs.Arguments.{KeptItems, Invocation, convert, list, check, run, trace, romfs, unromfs, replay, demo, command_of}
use Rattle.file_commands.specs.OneFile.{with_found}
use Rattle.file_commands.specs.Convert.{converted_outcome}
use Rattle.file_commands.specs.Romfs.{romfs_outcome}
use Rattle.file_commands.specs.Replay.{replay_outcome}
use Rattle.suite_top.specs.Telling.{Telling, Report, Trace, kept_of}
use Rattle.suite_top.specs.KeptItems.{kept_requests}
use Rattle.suite_top.specs.Run.{run_outcome}
use Rattle.suite_top.specs.Result.{command_outcome}
use Rattle.file_commands.specs.HostCourse.{HostCourse, complete, failed, out_of_memory, AreLoads, IsCourseOf, FaultsAfter, after_answer, after_answers, told_after}
use Rattle.suite_top.specs.Call.{outcome_of}
use Rattle.suite_top.specs.HostLaws.{NamesAreAPrefix, NothingIsAsked, stores_of, stored_name, ChangesAtMost, OthersChangeNoFile, StoresAreWhole}
use Rattle.suite_top.proofs.RunOutcomes.{run_by}
use Rattle.suite_top.proofs.ImageOutcomes.{romfs_by}
use Rattle.suite_top.proofs.ReplayOutcomes.{replay_by}
use Rattle.suite_top.proofs.Outcomes.{usage_is_exact, Behind, requests_behind, list_requests, check_requests, unromfs_requests}

-- what a host tells in the end is what its course gives
pub told_is : (k : Told → Told) (old new : Option Told) (t t_after : Told) → new ≡ option_map k old → old ≡ Some t → new ≡ Some t_after → t_after ≡ k t
told_is k old new t t_after by is_old is_new = cc

-- ---- names

pub asked_after : (requests : List Request) (t : Told) → (after_answers t requests).asked ≡ t.asked ++ map name_of requests
asked_after [] t = sym (append-nil t.asked)
asked_after (load name ∷ requests) t = asked_after requests (after_answer t (load name)) ∙ append_assoc t.asked (name ∷ []) (map name_of requests)
asked_after (store name bytes ∷ requests) t = asked_after requests (after_answer t (store name bytes)) ∙ append_assoc t.asked (name ∷ []) (map name_of requests)

names_append : (requests more : List Request) → map name_of (requests ++ more) ≡ map name_of requests ++ map name_of more
names_append [] more = refl
names_append (request ∷ requests) more = ap (λ (names : List (List ℕ)). name_of request ∷ names) (names_append requests more)

names_at : (requests : List Request) (k : HostCourse) (t : Told) → IsCourseOf requests k → (prefix : List (List ℕ)) × (rest : List (List ℕ)) × (map name_of requests ≡ prefix ++ rest) × ((told_after requests k t).asked ≡ t.asked ++ prefix)
names_at requests complete t is = (map name_of requests, [], sym (append-nil (map name_of requests)), asked_after requests t)
names_at requests (failed done last) t is = (
  map name_of done ++ name_of last ∷ [],
  map name_of is.0,
  ap (map name_of) is.1 ∙ names_append done (last ∷ is.0) ∙ sym (append_assoc (map name_of done) (name_of last ∷ []) (map name_of is.0)),
  ap (λ (names : List (List ℕ)). names ++ name_of last ∷ []) (asked_after done t) ∙ append_assoc t.asked (map name_of done) (name_of last ∷ []),
)
names_at requests (out_of_memory done) t is = (map name_of done, map name_of is.0, ap (map name_of) is.1 ∙ names_append done is.0, asked_after done t)

pub names_are_a_prefix : NamesAreAPrefix
names_are_a_prefix c t t_after (ending, performs, delivers) is_old is_new =
    let names = names_at (outcome_of c).requests performs.course t performs.is_course in
    let is = told_is (told_after (outcome_of c).requests performs.course) c.host.told c.host_after.told t t_after performs.told is_old is_new in
    (names.0, names.1, names.2, ap (λ (u : Told). u.asked) is ∙ names.3)

-- ---- arguments that are no command

pub untouched_at : (requests : List Request) → requests ≡ [] → (k : HostCourse) → IsCourseOf requests k → (old new : Option Told) → new ≡ option_map (told_after requests k) old → (before now : ℕ) → FaultsAfter k before now → (new ≡ old) × (now ≡ before)
untouched_at (request ∷ requests) none k is old new told before now faults = absurd cc
untouched_at [] none complete is None new told before now faults = (told, faults)
untouched_at [] none complete is (Some t) new told before now faults = (told, faults)
untouched_at [] none (failed [] last) is old new told before now faults = absurd (let h : [] ≡ last ∷ is.0 = is.1 in cc)
untouched_at [] none (failed (request ∷ done) last) is old new told before now faults = absurd (let h : [] ≡ request ∷ (done ++ last ∷ is.0) = is.1 in cc)
untouched_at [] none (out_of_memory []) is None new told before now faults = (told, faults)
untouched_at [] none (out_of_memory []) is (Some t) new told before now faults = (told, faults)
untouched_at [] none (out_of_memory (request ∷ done)) is old new told before now faults = absurd (let h : [] ≡ request ∷ (done ++ is.0) = is.1 in cc)

pub nothing_is_asked : NothingIsAsked
nothing_is_asked c (ending, performs, delivers) none =
    untouched_at (outcome_of c).requests ((usage_is_exact c.arguments c.inputs).1 none).1 performs.course performs.is_course c.host.told c.host_after.told performs.told c.host.faults c.host_after.faults performs.faults

-- ---- files

pub loads_keep : (requests : List Request) (t : Told) → AreLoads requests → (after_answers t requests).files ≡ t.files
loads_keep [] t are = refl
loads_keep (load name ∷ requests) t are = loads_keep requests (after_answer t (load name)) are
loads_keep (store name bytes ∷ requests) t are = absurd are

-- loads, and behind them one store of the file of this name, if there is one
abbrev HasStore : Option (List ℕ) → List Request → Type 0
HasStore stored [] = Unit {0}
HasStore stored (load name ∷ requests) = HasStore stored requests
HasStore None (store name bytes ∷ requests) = ⊥
HasStore (Some wanted) (store name bytes ∷ requests) = (name ≡ wanted) × (requests ≡ [])

run_has : (telling : Telling) (kept : Option KeptItems) → kept_of telling ≡ kept → (manifest : List ℕ) (inputs : Inputs) → HasStore (option_map (λ k. k.file) kept) (run_outcome manifest telling inputs).requests
run_has telling None is =
    run_by (λ (o : Outcome). HasStore None o.requests) (λ tail. tt) telling
    (λ shown w end. subst (λ (kept : Option KeptItems). HasStore None (kept_requests kept w)) (sym is) tt) (λ name o has. has) (λ name. tt)
run_has telling (Some k) is =
    run_by (λ (o : Outcome). HasStore (Some k.file) o.requests) (λ tail. tt) telling
    (λ shown w end. subst (λ (kept : Option KeptItems). HasStore (Some k.file) (kept_requests kept w)) (sym is) (refl, refl)) (λ name o has. has) (λ name. tt)

romfs_has : (manifest image : List ℕ) (inputs : Inputs) → HasStore (Some image) (romfs_outcome manifest image inputs).requests
romfs_has manifest image inputs =
    romfs_by (λ (o : Outcome). HasStore (Some image) o.requests) (λ name o has. has) (λ name. tt) (λ tail. tt) image (λ bytes line. (refl, refl)) manifest inputs

replay_has : (kind : Format) (file items : List ℕ) (inputs : Inputs) → HasStore None (replay_outcome kind file items inputs).requests
replay_has kind file items inputs =
    replay_by (λ (o : Outcome). HasStore None o.requests) (λ name o has. has) (λ name. tt) (λ tail. tt) (λ text. tt) (λ text. tt) kind file items inputs

behind_has : (flt : List ℕ) (stack : ℕ) (found : Option (List ℕ)) (requests : List Request) → Behind flt stack found requests → HasStore (Some flt) requests
behind_has flt stack found requests (inl none) = subst (HasStore (Some flt)) (sym none) tt
behind_has flt stack found requests (inr (e, is, accepted, one)) = subst (HasStore (Some flt)) (sym one) (refl, refl)

command_has : (o : Option Invocation) (inputs : Inputs) → HasStore (option_and_then stores_of o) (command_outcome o inputs).requests
command_has None inputs = tt
command_has (Some (convert elf flt stack)) inputs = behind_has flt stack (inputs 0 elf) (with_found elf (inputs 0 elf) (converted_outcome flt stack)).requests (requests_behind elf flt stack (inputs 0 elf))
command_has (Some (list flt)) inputs = subst (HasStore None) (sym (list_requests flt inputs)) tt
command_has (Some (check elf all)) inputs = subst (HasStore None) (sym (check_requests elf all inputs)) tt
command_has (Some (run manifest options)) inputs = run_has (Report options) options.kept refl manifest inputs
command_has (Some (trace manifest options)) inputs = run_has (Trace options) None refl manifest inputs
command_has (Some (romfs manifest image)) inputs = romfs_has manifest image inputs
command_has (Some (unromfs image)) inputs = subst (HasStore None) (sym (unromfs_requests image inputs)) tt
command_has (Some (replay kind file items)) inputs = replay_has kind file items inputs
command_has (Some (demo programs)) inputs = tt

leaves_same : (stored : Option (List ℕ)) (old new : Files) → new ≡ old → ChangesAtMost stored old new
leaves_same None old new same = same
leaves_same (Some name) old new same = inl same

leaves_all : (stored : Option (List ℕ)) (requests : List Request) (t : Told) → HasStore stored requests → ChangesAtMost stored t.files (after_answers t requests).files
leaves_all stored [] t has = leaves_same stored t.files t.files refl
leaves_all stored (load name ∷ requests) t has = leaves_all stored requests (after_answer t (load name)) has
leaves_all None (store name bytes ∷ requests) t has = absurd has
leaves_all (Some wanted) (store name bytes ∷ requests) t has =
    inr (bytes, ap (λ (rest : List Request). (after_answers (after_answer t (store name bytes)) rest).files) has.1 ∙ ap (λ (n : List ℕ). insert t.files n bytes) has.0)

-- ---- by the course that the host took

abbrev EndsWhole : List Request → Told → Files → Type 0
EndsWhole requests t new = (new ≡ t.files) ⊎ (new ≡ (after_answers t requests).files)

whole_at : (requests : List Request) (k : HostCourse) (t : Told) → IsCourseOf requests k → EndsWhole requests t (told_after requests k t).files
whole_at requests complete t is = inr refl
whole_at requests (failed done last) t is = inl (loads_keep done t is.2)
whole_at requests (out_of_memory done) t is = inl (loads_keep done t is.2)

pub stores_are_whole : StoresAreWhole
stores_are_whole c t t_after (ending, performs, delivers) is_old is_new =
    let is = told_is (told_after (outcome_of c).requests performs.course) c.host.told c.host_after.told t t_after performs.told is_old is_new in
    subst (EndsWhole (outcome_of c).requests t) (sym (ap (λ (u : Told). u.files) is)) (whole_at (outcome_of c).requests performs.course t performs.is_course)

pub others_change_no_file : OthersChangeNoFile
others_change_no_file c t t_after meets is_old is_new =
    elim (stores_are_whole c t t_after meets is_old is_new) [
      | inl same ↦ leaves_same (stored_name c.arguments) t.files t_after.files same
      | inr all ↦
          subst (ChangesAtMost (stored_name c.arguments) t.files) (sym all) (leaves_all (stored_name c.arguments) (outcome_of c).requests t (command_has (command_of c.arguments) c.inputs))
    ]

-- Where a run is refused, its ending is the line of the first fault, and it asked for files alone.
use Rattle.std.proofs.Common.{◌≡◌, ℕ, ◌-◌, ◌<◌, ◌≤◌, Bool, true, false, cond, List, [], ◌∷◌, ◌++◌, map, length, nat_lt, Option, Some, None, Result, Ok, Err, ◌⊎◌, inl, inr, refl, sym, ap, ◌∙◌, arith}
use Rattle.std.proofs.lemmas.Bool.Decides.{nat_tests}
use Rattle.region_watch.specs.declared.mode.Mode.{Mode}
use Rattle.region_watch.specs.declared.mode.Mode.TheVariants.{Halt, GoOn}
use Rattle.quantum_sched.specs.declared.Quantum.{Quantum}
use Rattle.manifest_text.specs.declared.manifest.Dump.{Dump}
use Rattle.manifest_text.specs.declared.manifest.WatchLine.{WatchLine}
use Rattle.manifest_text.specs.Values.{Item, Manifest}
use Rattle.manifest_text.specs.Manifest.{Fault, manifest_of}
use Rattle.machine_world.specs.World.{World}
use Rattle.machine_world.specs.Boot.{BootFault, boot}
use Rattle.machine_world.specs.Turns.{turns}
use Rattle.memory_world.specs.Physical.{turns_in, opening_in}
use Rattle.flat_machine.specs.Runs.{repeated}
use Rattle.run_setup.specs.declared.fault.LineFault.TheVariants.{TooLong}
use Rattle.run_setup.specs.Brought.{Brought, FaultAt, nothing_brought, all_brought}
use Rattle.file_commands.specs.declared.status.Status.{Status}
use Rattle.file_commands.specs.declared.status.Status.TheVariants.{HostRead, Refused}
use Rattle.file_commands.specs.Texts.Refusals.{too_long_at, manifest_tail, line_tail}
use Rattle.file_commands.specs.Ending.{Ending, refused_ending}
use Rattle.file_commands.specs.Outcome.{Outcome, Inputs}
use Rattle.file_commands.specs.HostCourse.{AreLoads}
use Rattle.file_commands.specs.Load.{at_once, behind, with_limited, with_load}
use Rattle.file_commands.specs.Items.{load_limit, files_limit, has_file, with_item, with_items}
use Rattle.file_commands.specs.Manifests.{manifest_limit}
use Rattle.suite_top.specs.Telling.{Telling, mode_of, placement_of, kept_of}
use Rattle.suite_top.specs.KeptItems.{keep_of}
use Rattle.suite_top.specs.Report.{own_dumps, memory_dumps}
use Rattle.suite_top.specs.Run.{start_line, opening, boot_fault, world_hits, memory_hits, mode_outcome, booted_outcome, brought_outcome, files_outcome, manifest_outcome, run_outcome}
use Rattle.suite_top.proofs.RunOutcomes.{told_status, run_by}
use Rattle.command_laws.specs.RunLaws.{IsThere, behind_item, AreThere, IsStop}
use Rattle.command_laws.specs.FirstFault.{IsRead, IsLong, IsFirstLong, AreFound, FirstFault, long_manifest, no_manifest, long_file, line_refused, start_refused}

-- ---- it asks for files alone

pub stops_or_loads : (name : List ℕ) (telling : Telling) (inputs : Inputs)
    → IsStop (run_outcome name telling inputs).ending.status ⊎ AreLoads (run_outcome name telling inputs).requests
stops_or_loads name telling inputs =
    run_by (λ (x : Outcome). IsStop x.ending.status ⊎ AreLoads x.requests) (λ tail. inr tt) telling
    (λ shown w end. inl (told_status IsStop tt tt tt tt tt telling shown w end)) (λ name x p. p) (λ name. inr tt) name inputs

-- ---- a file that is too long

abbrev Refuses : Outcome → List ℕ → Type 0
Refuses x tail = x.ending ≡ refused_ending tail

-- of a load: the file is there, and it is too long, or the rest gives the ending
limited_refused : (limit : ℕ) (line : Option ℕ) (name : List ℕ) (o : Option (List ℕ)) (rest : List ℕ → Outcome) → (with_limited limit line name o rest).ending.status ≡ Refused
    → (bytes : List ℕ) × (o ≡ Some bytes)
    × (((limit < length bytes) × Refuses (with_limited limit line name o rest) (too_long_at line)) ⊎ ((length bytes ≤ limit) × ((with_limited limit line name o rest).ending ≡ (rest bytes).ending)))
limited_refused limit line name None rest is = absurd (let h : HostRead ≡ Refused = is in cc)
limited_refused limit line name (Some bytes) rest is = (bytes, refl, by_test (nat_lt limit (length bytes)) refl)
  where
    by_test : (b : Bool) → nat_lt limit (length bytes) ≡ b
        → (((limit < length bytes) × Refuses (cond b (at_once (refused_ending (too_long_at line))) (rest bytes)) (too_long_at line))
        ⊎ ((length bytes ≤ limit) × ((cond b (at_once (refused_ending (too_long_at line))) (rest bytes)).ending ≡ (rest bytes).ending)))
    by_test true test = inl (grind (arith, nat_tests), refl)
    by_test false test = inr (grind (arith, nat_tests), refl)

-- of a line
item_refused : (inputs : Inputs) (left : ℕ) (item : Item) (rest : List ℕ → Inputs → Outcome) → (with_item left item rest inputs).ending.status ≡ Refused
    → (IsLong inputs left item (has_file item.kind) × Refuses (with_item left item rest inputs) (line_tail item.line TooLong))
    ⊎ ((file : List ℕ) × IsThere inputs left item file (has_file item.kind) × ((with_item left item rest inputs).ending ≡ (rest file (behind_item (has_file item.kind) inputs)).ending))
item_refused inputs left item rest = by_kind (has_file item.kind)
  where
    by_kind : (b : Bool) → (cond b (with_load (load_limit item.kind left) (Some item.line) item.name rest inputs) (rest [] inputs)).ending.status ≡ Refused
        → (IsLong inputs left item b × Refuses (cond b (with_load (load_limit item.kind left) (Some item.line) item.name rest inputs) (rest [] inputs)) (line_tail item.line TooLong))
        ⊎ ((file : List ℕ) × IsThere inputs left item file b
        × ((cond b (with_load (load_limit item.kind left) (Some item.line) item.name rest inputs) (rest [] inputs)).ending ≡ (rest file (behind_item b inputs)).ending))
    by_kind true is =
        let (file, found, by) = limited_refused (load_limit item.kind left) (Some item.line) item.name (inputs 0 item.name) (λ bytes. rest bytes (behind inputs)) is in
        elim by [ inl long ↦ inl ((file, found, long.0), long.1) | inr fits ↦ inr (file, (found, fits.0), fits.1) ]
    by_kind false is = inr ([], refl, refl)

-- of all lines
items_refused : (inputs : Inputs) (left : ℕ) (items : List Item) (rest : List (List ℕ) → Outcome) → (with_items left items rest inputs).ending.status ≡ Refused
    → ((line : ℕ) × IsFirstLong inputs left items line × Refuses (with_items left items rest inputs) (line_tail line TooLong))
    ⊎ ((files : List (List ℕ)) × AreThere inputs left items files × ((with_items left items rest inputs).ending ≡ (rest files).ending))
unfolding with_items
items_refused inputs left [] rest is = inr ([], tt, refl)
items_refused inputs left (item ∷ items) rest is =
    elim (item_refused inputs left item (λ bytes. with_items (left - length bytes) items (λ files. rest (bytes ∷ files))) is) [
      | inl long ↦ inl (item.line, inl (refl, long.0), long.1)
      | inr (file, there, same) ↦
          elim (items_refused (behind_item (has_file item.kind) inputs) (left - length file) items (λ files. rest (file ∷ files)) (sym (ap (λ (e : Ending). e.status) same) ∙ is)) [
            | inl (line, first, refuses) ↦ inl (line, inr (file, there, first), same ∙ refuses)
            | inr (files, are, on) ↦ inr (file ∷ files, (there, are), same ∙ on)
          ]
    ]

-- ---- what stands behind the files

module _ (inputs : Inputs) (name : List ℕ) (telling : Telling) where
  abbrev IsFirst : List ℕ → Type 0
  IsFirst tail = FirstFault inputs name (keep_of (kept_of telling)) (placement_of telling) tail

  -- this ending is the line of the first fault
  abbrev IsTold : Ending → Type 0
  IsTold ending = (tail : List ℕ) × IsFirst tail × (ending ≡ refused_ending tail)

  -- a machine that stopped isn't refused
  never_refused : (mode : Mode) (quanta : List Quantum) (watches : List WatchLine) (dumps : List Dump) (headers : List (List ℕ)) (w : World)
      → (mode_outcome telling mode quanta watches dumps headers w).ending.status ≡ Refused → ⊥
  never_refused Halt quanta watches dumps headers w =
      let walk = turns quanta w in
      told_status (λ (s : Status). s ≡ Refused → ⊥) (λ h. cc) (λ h. cc) (λ h. cc) (λ h. cc) (λ h. cc) telling (world_hits telling quanta watches w ++ own_dumps walk.world dumps) walk.world walk.end
  never_refused GoOn quanta watches dumps headers w =
      let p = opening_in headers w in
      let walk = turns_in quanta p in
      told_status (λ (s : Status). s ≡ Refused → ⊥) (λ h. cc) (λ h. cc) (λ h. cc) (λ h. cc) (λ h. cc) telling (memory_hits telling quanta watches p ++ memory_dumps walk.now dumps) walk.now.world walk.end

  module _ (m : Manifest) (files : List (List ℕ)) (loaded : AreFound inputs name m files) where
    started : (b : Brought) → all_brought m.items files nothing_brought ≡ Ok b → (r : Result World BootFault) → boot (opening (keep_of (kept_of telling)) (placement_of telling) m b) (map start_line m.starts) ≡ r
        → (booted_outcome telling m b.headers r).ending.status ≡ Refused → IsTold (booted_outcome telling m b.headers r).ending
    started b brings (Err first) boots is = (line_tail (boot_fault first).line (boot_fault first).fault, start_refused m files loaded b brings first boots refl, refl)
    started b brings (Ok w) boots is = absurd (never_refused (mode_of telling) (repeated m.repeat m.quanta) m.watches m.dumps b.headers w is)

    brought_refused : (r : Result Brought FaultAt) → all_brought m.items files nothing_brought ≡ r → (brought_outcome telling m r).ending.status ≡ Refused → IsTold (brought_outcome telling m r).ending
    brought_refused (Err at) brings is = (line_tail at.line at.fault, line_refused m files loaded at brings refl, refl)
    brought_refused (Ok b) brings is = started b brings (boot (opening (keep_of (kept_of telling)) (placement_of telling) m b) (map start_line m.starts)) refl is

    files_refused : (files_outcome telling m files).ending.status ≡ Refused → IsTold (files_outcome telling m files).ending
    unfolding files_outcome
    files_refused is = brought_refused (all_brought m.items files nothing_brought) refl is

  lines_refused : (m : Manifest) → IsRead inputs name m → (with_items files_limit m.items (files_outcome telling m) (behind inputs)).ending.status ≡ Refused
      → IsTold (with_items files_limit m.items (files_outcome telling m) (behind inputs)).ending
  lines_refused m read is =
      elim (items_refused (behind inputs) files_limit m.items (files_outcome telling m) is) [
        | inl (line, first, refuses) ↦ (line_tail line TooLong, long_file m read line first refl, refuses)
        | inr (files, there, same) ↦
            let (tail, first, told) = files_refused m files (record { read = read; there = there }) (sym (ap (λ (e : Ending). e.status) same) ∙ is) in
            (tail, first, same ∙ told)
      ]

  manifest_refused : (text : List ℕ) → inputs 0 name ≡ Some text → length text ≤ manifest_limit → (r : Result Manifest Fault) → manifest_of text ≡ r
      → (manifest_outcome telling r (behind inputs)).ending.status ≡ Refused → IsTold (manifest_outcome telling r (behind inputs)).ending
  manifest_refused text found fits (Err first) reads is =
      (manifest_tail first.line first.fault, no_manifest text (record { found = found; fits = fits }) first reads refl, refl)
  manifest_refused text found fits (Ok m) reads is = lines_refused m (record { text = text; is = record { found = found; fits = fits }; reads = reads }) is

  pub first_fault : (run_outcome name telling inputs).ending.status ≡ Refused → IsTold (run_outcome name telling inputs).ending
  unfolding run_outcome
  first_fault is =
      let (text, found, by) = limited_refused manifest_limit None name (inputs 0 name) (λ bytes. manifest_outcome telling (manifest_of bytes) (behind inputs)) is in
      elim by [
        | inl long ↦ (too_long_at None, long_manifest text found long.0 refl, long.1)
        | inr (fits, same) ↦
            let (tail, first, told) = manifest_refused text found fits (manifest_of text) refl (sym (ap (λ (e : Ending). e.status) same) ∙ is) in
            (tail, first, same ∙ told)
      ]

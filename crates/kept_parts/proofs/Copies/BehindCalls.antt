-- Copies hold their file after a call that is noted, and after an end.
use Rattle.std.proofs.Common.{◌≡◌, ℕ, ◌+◌, ◌≤◌, false, List, [], ◌∷◌, None, arith, sym, ap, subst, ◌∙◌}
use Rattle.page_runs.specs.declared.place.Kind.TheVariants.{First}
use Rattle.nommu_regions.specs.declared.region.Region.{Region}
use Rattle.mmap_rules.specs.declared.mapping.Mapping.{Mapping}
use Rattle.mmap_rules.specs.Held.{released}
use Rattle.call_log.specs.Notes.{GotRange, Note}
use Rattle.mem_files.specs.Inodes.{Inodes}
use Rattle.fd_tables.specs.Files.{OpenFiles}
use Rattle.fd_tables.specs.Changes.{Storage, storage, without_table}
use Rattle.vfork_exec.specs.declared.family.State.TheVariants.{Ready}
use Rattle.machine_world.specs.Asks.{Ask, gives}
use Rattle.machine_world.specs.Rows.{row}
use Rattle.machine_world.proofs.Aging.{rows_age, table_ages}
use Rattle.file_calls.specs.declared.call.Call.{Call}
use Rattle.file_calls.specs.Calls.{with_all}
use Rattle.kept_parts.specs.Kept.{Kept}
use Rattle.kept_parts.specs.Copies.{CopiesHold}
use Rattle.machine_world.specs.Ages.{kept_calls, most_at_boot}
use Rattle.memory_world.specs.Physical.{has_stray}
use Rattle.kept_parts.specs.Calls.{noted_call}
use Rattle.kept_parts.proofs.Copies.BehindChanges.{copies_noted, copies_aged, copies_released, call_counts}

-- a call more is counted
pub counts : (call : Call) (value : ℕ) (got : List GotRange) (old notes : List Note) → notes ≡ noted_call call value got ∷ old → kept_calls notes ≡ kept_calls old + 1
counts call value got old notes is =
    ap kept_calls is
    ∙ call_counts (record { pid = call.pid; call = call.number; args = call.args; sent = call.sent.items; reply = value; got = got }) old

-- and it is no stray access
pub call_strays : (call : Call) (value : ℕ) (got : List GotRange) (old notes : List Note) → notes ≡ noted_call call value got ∷ old → has_stray notes ≡ false → has_stray old ≡ false
call_strays call value got old notes is unstrayed = sym (ap has_stray is) ∙ unstrayed

-- it has its reply
pub copies_called : (k : Kept) → CopiesHold k.regions k.mem k.tree k.notes → (notes : List Note) → kept_calls notes ≡ kept_calls k.notes + 1
    → (has_stray notes ≡ false → has_stray k.notes ≡ false) → CopiesHold k.regions k.mem k.tree notes
copies_called k copies notes counted strays = copies_noted k.regions k.mem k.tree k.notes notes copies (omega (arith, counted)) strays

-- the call over the files of the parts, whoever makes it
abbrev pub plain_ask : Kept → Call → Ask
plain_ask k call = record {
  process = record { pid = call.pid; parent = call.parent; regs = record { pc = 0; x = [] }; space = 0; table = call.table; state = Ready };
  space = record { maps = []; brk = 0; brk_low = 0; brk_high = 0; bytes = λ at. None };
  spaces = [];
  rest = record { pages = 0; kind = First; programs = []; tree = k.tree; files = k.files; console = k.console; keep = 0 };
  number = call.number;
  args = call.args;
  sent = call.sent.items;
}

-- it changes files
pub copies_changed : (k : Kept) → CopiesHold k.regions k.mem k.tree k.notes → (call : Call) (value : ℕ) (tree : Inodes) (files : OpenFiles) (console : List ℕ) (notes : List Note) →
    kept_calls k.notes + 1 ≤ 1048576 →
    row (plain_ask k call) ≡ gives (plain_ask k call) value [] (with_all (plain_ask k call).rest tree files console) →
    kept_calls notes ≡ kept_calls k.notes + 1 → (has_stray notes ≡ false → has_stray k.notes ≡ false) → CopiesHold k.regions k.mem tree notes
copies_changed k copies call value tree files console notes few is counted strays =
    let ages = rows_age (plain_ask k call) _ (most_at_boot + kept_calls k.notes) is copies.changes (omega (arith, few)) in
    copies_aged k.regions k.mem k.tree tree k.notes notes copies ages.0 (λ id n there. omega (arith, ages.1 id n there, counted)) (omega (arith, counted)) strays

-- a space went, with its mappings
pub copies_without : (k : Kept) → CopiesHold k.regions k.mem k.tree k.notes → (maps : List Mapping) (rs : List Region) → rs ≡ released k.regions maps → CopiesHold rs k.mem k.tree k.notes
copies_without k copies maps rs is = subst (λ (x : List Region). CopiesHold x k.mem k.tree k.notes) (sym is) (copies_released k.regions k.mem k.tree k.notes maps copies)

-- a process went, with its table
pub copies_ended : (k : Kept) → CopiesHold k.regions k.mem k.tree k.notes → (nodes : Inodes) (files : OpenFiles) (table : ℕ) →
    storage nodes files ≡ without_table (storage k.tree k.files) table → CopiesHold k.regions k.mem nodes k.notes
copies_ended k copies nodes files table closed =
    let ages = table_ages (storage k.tree k.files) table (most_at_boot + kept_calls k.notes) copies.changes in
    subst (λ (x : Inodes). CopiesHold k.regions k.mem x k.notes) (ap (λ (s : Storage). s.nodes) (sym closed))
    (copies_aged k.regions k.mem k.tree (without_table (storage k.tree k.files) table).nodes k.notes k.notes copies ages.0 ages.1 (omega arith) (λ unstrayed. unstrayed))

use Rattle.std.proofs.Common.{rules, ◌≡◌, ℕ, Ok, sym, ap, subst, ◌∙◌, length, [], ◌∷◌, ◌++◌, refl, Some}
use Rattle.page_runs.specs.Choosers.{kind_of}
use Rattle.flat_loader.specs.Frame.{texts}
use Rattle.kept_parts.proofs.kept.KeptParts.start.Given.{Over}
use Rattle.call_log.specs.Notes.{load_note}
use Rattle.std.specs.Prelude.{Result, IfOk}
use Rattle.std.specs.declared.alloc.AllocError.{AllocError}
use Rattle.fd_tables.specs.Files.{OpenFiles, free_number}
use Rattle.fd_tables.specs.Changes.{with_table}
use Rattle.kept_parts.specs.Kept.{Kept}
use Rattle.kept_parts.specs.Inside.{kept_of}
use Rattle.kept_parts.specs.Reach.{whole_table}
use Rattle.kept_parts.proofs.Starts.World.{refuses_by, Begun, begun_by, regular_by, copies_by, starts_by, process_started, note_pushed}
use Rattle.kept_parts.proofs.Starts.Loaded.{pages_loaded}
use Rattle.kept_parts.proofs.Starts.Memory.{lays_by, others_by}
use Rattle.kept_parts.proofs.kept.KeptParts.start.Goals as goal

pub returns-in_err-program-clause-starts : goal.returns-in_err-program-clause-starts
returns-in_err-program-clause-starts g c =
    refuses_by _ (kept_of c.self.inside) _ _ (search rules) c.self.invariant.0.0 _ _ _ _ c.in_err-program.field-0.0 (rw (← c.in_err-program.ensures.same) at c.load-loaded.ensures.loads)
    c.load-loaded.ensures.ids c.reserve.ensures.items refl c.ready.ensures.same refl (c.or_unreserve.ensures.notes ∙ c.reserve-else-is_err-2.ensures.same) refl refl (search rules)

abbrev new_parts : (g : Over) → goal.After-unwrap g → Kept
new_parts g c = record {
  mem = c.load-loaded.new.mem;
  regions = c.load-loaded.new.regions.regions;
  starts = c.load-loaded.new.regions.starts;
  spaces = c.push_reserved.new.self.items;
  tree = c.self.inside.tree;
  files = c.new_table.new.self.open_files;
  procs = c.start.new.self;
  notes = c.push.new.self.notes;
  console = c.self.inside.console.items;
  recording = c.record_start.new.recording;
}

if_ok : (P : ℕ → Type 0) (r : Result ℕ AllocError) (x : ℕ) → r ≡ Ok x → IfOk r P → P x
if_ok P r x is holds = subst (λ (q : Result ℕ AllocError). IfOk q P) is holds

begun : (g : Over) (c : goal.After-unwrap g) → Begun (kept_of c.self.inside) (new_parts g c) (kind_of c.args.chooser.now) c.args.index c.args.flat.now (texts c.args.args.now)
begun g c =
    let spaces : c.push_reserved.new.self.items ≡ c.self.inside.spaces.items ++ Some c.in_ok-program.program.space ∷ [] = search rules in
    let number : c.len-number.result ≡ length c.self.inside.spaces.items = search rules in
    let table : c.unwrap-table.result ≡ free_number c.self.inside.files.open_files.tables =
    if_ok (λ t. t ≡ free_number c.ready.new.self.open_files.tables) _ _ c.unwrap-table.ensures c.new_table.ensures.table ∙ ap (λ (fs : OpenFiles). free_number fs.tables) c.ready.ensures.same in
    let files : c.new_table.new.self.open_files ≡ with_table c.self.inside.files.open_files =
    if_ok (λ _. c.new_table.new.self.open_files ≡ with_table c.ready.new.self.open_files) _ _ c.unwrap-table.ensures c.new_table.ensures.added ∙ ap with_table c.ready.ensures.same in
    let loaded = c.in_ok-program.program in
    let note = load_note (record { pid = c.unwrap-pid.result; program = c.args.index; base = loaded.base; pages = loaded.pages }) in
    begun_by (kept_of c.self.inside) (new_parts g c) _ _ _ _ loaded c.unwrap-pid.result c.len-number.result c.unwrap-table.result (rw (← c.in_ok-program.ensures.same) at c.load-loaded.ensures.loads) c.load-loaded.ensures.ids spaces number
    (process_started _ _ _ _ _ c.start.ensures c.unwrap-pid.ensures) table refl files
    (note_pushed c.or_unreserve.new.log _ note c.push.new.self c.push.result c.unwrap.result (c.or_unreserve.ensures.notes ∙ c.reserve-else-is_err-2.ensures.same) c.push.ensures c.unwrap.ensures)
    refl (c.record_start.ensures (length c.self.inside.spaces.items) (texts c.args.args.now) (search rules))

pub invariant_of-self-2 : goal.invariant_of-self-2
invariant_of-self-2 g c = (
  (
    regular_by c.args.self.now (kept_of c.self.inside) (new_parts g c) (search rules) c.requires.few c.requires.pids c.requires.spaces c.self.invariant.0.0 _ _ _ _ (begun g c),
    copies_by (kept_of c.self.inside) (new_parts g c) c.self.invariant.0.0 c.self.invariant.0.1 _ _ _ _ (begun g c),
  ),
  search rules,
  c.self.invariant.2 ∙ ap whole_table (sym (pages_loaded _ _ _ _ _ _ _ _ _ (begun g c).is)),
)

pub returns-clause-starts : goal.returns-clause-starts
returns-clause-starts g c = starts_by c.args.self.now (kept_of c.self.inside) (new_parts g c) (search rules) c.self.invariant.0.0 _ _ _ _ (begun g c)

pub returns-clause-memory : goal.returns-clause-memory
returns-clause-memory g c = lays_by c.args.self.now (kept_of c.self.inside) (new_parts g c) (search rules) c.self.invariant.0.0 _ _ _ _ (begun g c)

pub returns-clause-others : goal.returns-clause-others
returns-clause-others g c = others_by c.args.self.now (kept_of c.self.inside) (new_parts g c) (search rules) _ _ _ _ (begun g c)

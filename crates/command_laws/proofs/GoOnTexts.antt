-- The status and the texts of a run that goes on, beside those of the same run without it.
use Rattle.std.proofs.Common.{◌≡◌, ℕ, Bool, List, ◌++◌, map, flat_map, reverse, Option, Some, None, refl, sym, ap, ◌∙◌, inl, inr}
use Rattle.std.proofs.lemmas.List.{append_assoc, reverse-append}
use Rattle.std.proofs.lemmas.Grind.{flat_map-append}
use Rattle.call_log.specs.Notes.{Note}
use Rattle.manifest_text.specs.declared.manifest.Dump.{Dump}
use Rattle.vfork_exec.specs.Keyed.{find}
use Rattle.machine_world.specs.World.{Program, Process, World, pid_of, program_path}
use Rattle.machine_world.specs.Turns.{End, Walk}
use Rattle.memory_world.specs.Physical.{Physical, WalkIn}
use Rattle.go_on_laws.specs.Alike.{Stands}
use Rattle.go_on_laws.specs.Laws.{EndsAlike}
use Rattle.flat_machine.specs.OwnBytes.{own_bytes, bytes_for, memory_bytes}
use Rattle.suite_top.specs.Report.{note_text, own_dumps, memory_dumps, stop_word, stop_line, notes_text, report_text}
use Rattle.command_laws.specs.Beside.{ShowsMore, DumpsAlike, ReportsAlike, Begins}
use Rattle.command_laws.proofs.GoOn.{shown_alike}

-- ---- dumps

module _ (w : World) (p : Physical) (stands : Stands w p) (d : Dump) where
  more_of : (bytes : List ℕ) (o : Option Process) → own_bytes w d.pid d.addr d.len ≡ None → memory_bytes p d.pid d.addr d.len ≡ Some bytes
      → find pid_of d.pid p.world.procs ≡ o → bytes_for p d.addr d.len o ≡ Some bytes → ShowsMore w p d
  more_of bytes None unowned there none is = absurd cc
  more_of bytes (Some q) unowned there lives is = record {
    process = q;
    lives = ap (λ (v : World). find pid_of d.pid v.procs) (sym stands.world) ∙ lives;
    unowned = unowned;
    bytes = bytes;
    there = there;
  }

  shows_more : (bytes : List ℕ) → own_bytes w d.pid d.addr d.len ≡ None → memory_bytes p d.pid d.addr d.len ≡ Some bytes → ShowsMore w p d
  unfolding memory_bytes
  shows_more bytes unowned there = more_of bytes (find pid_of d.pid p.world.procs) unowned there refl there

  by_bytes : (own all : Option (List ℕ)) → own_bytes w d.pid d.addr d.len ≡ own → memory_bytes p d.pid d.addr d.len ≡ all → DumpsAlike w p d
  by_bytes (Some bytes) all is there = inl (shown_alike w p stands d bytes is ∙ sym is)
  by_bytes None None is there = inl (there ∙ sym is)
  by_bytes None (Some bytes) is there = inr (shows_more bytes is there)

  dumps_alike : DumpsAlike w p d
  dumps_alike = by_bytes (own_bytes w d.pid d.addr d.len) (memory_bytes p d.pid d.addr d.len) refl refl

-- ---- reports

module _ (log : Bool) (hits : List ℕ) (dumps : List Dump) (private : Walk) (one : WalkIn) where
  pub reports_alike : EndsAlike private.world one private.end
      → ReportsAlike private.world one.now hits dumps (report_text log (hits ++ own_dumps private.world dumps) private.world private.end) (report_text log (hits ++ memory_dumps one.now dumps) one.now.world one.end)
  unfolding report_text
  reports_alike ends = record {
    notes = notes_text log private.world;
    stop = stop_line (stop_word private.end) private.world.events;
    halts = refl;
    goes_on =
        ap (λ (w : World). notes_text log w ++ (hits ++ memory_dumps one.now dumps) ++ stop_line (stop_word one.end) w.events) ends.stands.world
        ∙ ap (λ (e : Option End). notes_text log private.world ++ (hits ++ memory_dumps one.now dumps) ++ stop_line (stop_word e) private.world.events) ends.ends;
    shown = dumps_alike private.world one.now ends.stands;
  }

-- ---- notes

-- they are what a report begins with
pub report_begins : (log : Bool) (dumped : List ℕ) (w : World) (end : Option End) → Begins (notes_text log w) (report_text log dumped w end)
unfolding report_text
report_begins log dumped w end =
    let stop = stop_line (stop_word end) w.events in
    (dumped ++ stop, append_assoc (notes_text log w) dumped stop)

-- notes come before those that are there, of the same programs
module _ (log : Bool) (old now : World) (same : now.rest.programs ≡ old.rest.programs) (more : List Note) (are : now.notes ≡ more ++ old.notes) where
  notes_begin : notes_text log now ≡ notes_text log old ++ flat_map (note_text log (map program_path old.rest.programs)) (reverse more)
  notes_begin =
      ap (λ (ps : List Program). flat_map (note_text log (map program_path ps)) (reverse now.notes)) same
      ∙ ap (λ (notes : List Note). flat_map (note_text log (map program_path old.rest.programs)) (reverse notes)) are
      ∙ ap (flat_map (note_text log (map program_path old.rest.programs))) (reverse-append more old.notes)
      ∙ flat_map-append (note_text log (map program_path old.rest.programs)) (reverse old.notes) (reverse more)

  pub begins_later : (text : List ℕ) → Begins (notes_text log now) text → Begins (notes_text log old) text
  begins_later text begins =
      let behind = flat_map (note_text log (map program_path old.rest.programs)) (reverse more) in
      (behind ++ begins.0, begins.1 ∙ ap (λ (start : List ℕ). start ++ begins.0) notes_begin ∙ append_assoc (notes_text log old) behind begins.0)

-- What the start of a program leaves.
use Rattle.std.specs.Prelude.{◌≡◌, ℕ, ◌+◌, ◌*◌, Bool, false, ◌&&◌, nat_le, nat_lt, List, [], ◌∷◌, Result, Ok, Err, ⊤}
use Rattle.page_runs.specs.declared.place.Kind.{Kind}
use Rattle.call_log.specs.Notes.{LoadEntry, load_note}
use Rattle.mmap_rules.specs.Space.{page_size}
use Rattle.region_watch.specs.Private.{physical}
use Rattle.flat_loader.specs.Original.{Original}
use Rattle.flat_loader.specs.Frame.{frame_fits}
use Rattle.machine_world.specs.World.{World}
use Rattle.machine_world.specs.Boot.{StartLine, BootFault, args_too_big, no_run, fitting}
use Rattle.kept_parts.specs.declared.start.StartRefusal.{StartRefusal}
use Rattle.kept_parts.specs.declared.start.StartRefusal.TheVariants as refusal
use Rattle.kept_parts.specs.Kept.{Kept}
use Rattle.kept_parts.specs.Stands.{About, world_of}

-- what the start of a program gives in the world that the old parts stand for
abbrev pub Started : About → Result World BootFault → ℕ → Kept → Kept → Result ⊤ StartRefusal → Type 0
Started a (Ok now) line old new (Ok done) = now ≡ world_of a new
Started a (Ok now) line old new (Err refusal.E2big) = ⊥
Started a (Ok now) line old new (Err refusal.NoRun) = ⊥
Started a (Ok now) line old new (Err refusal.Memory) = new ≡ old
Started a (Err fault) line old new (Ok done) = ⊥
Started a (Err fault) line old new (Err refusal.E2big) = (fault ≡ args_too_big line) × (new ≡ old)
Started a (Err fault) line old new (Err refusal.NoRun) = (fault ≡ no_run line) × (new ≡ old)
Started a (Err fault) line old new (Err refusal.Memory) = new ≡ old

-- program number `index` with these arguments, under every start line that asks for it
pub record Starts (kind : Kind) (index : ℕ) (o : Original) (args : List (List ℕ)) (old new : Kept) (result : Result ⊤ StartRefusal) : Type 0 where
  pub started : (a : About) (s : StartLine) → a.kind ≡ kind → s.args ≡ args →
      Started a (fitting (world_of a old) s (record { index = index; original = o }) (frame_fits o args [])) s.line old new result

-- whether an address lies in the block that a load note names
abbrev pub in_block_of : LoadEntry → ℕ → Bool
in_block_of l at = nat_le l.base at && nat_lt at (l.base + page_size * l.pages)

-- beside the block of the program that began, memory has the bytes that it had
abbrev pub LeavesOtherBytes : Kept → Kept → Type 0
LeavesOtherBytes old new = (l : LoadEntry) → new.notes ≡ load_note l ∷ old.notes → (at : ℕ) → in_block_of l at ≡ false → physical new.mem at ≡ physical old.mem at

-- What calls print, computed: the process with pid 1 has a table in which 0 is the console's input, 1 and 2 its output, as at boot.
use Rattle.std.proofs.Common.{◌≡◌, ℕ, false, List, [], ◌∷◌, refl}
use Rattle.std.specs.Prelude.{codes, replicate}
use Rattle.page_runs.specs.declared.place.Kind.TheVariants.{First}
use Rattle.call_log.specs.Notes.{CallEntry}
use Rattle.fd_tables.specs.Files.{nothing_open, view}
use Rattle.fd_tables.specs.Changes.{with_table}
use Rattle.vfork_exec.specs.declared.family.State.TheVariants.{Ready}
use Rattle.vfork_exec.specs.Keyed.{find}
use Rattle.machine_world.specs.World.{Rest, World}
use Rattle.machine_world.specs.Boot.{empty_world}
use Rattle.end_laws.specs.Console.{prints, printed}

abbrev rest : Rest
rest = record { pages = 4; kind = First; programs = []; tree = []; files = with_table (nothing_open []); console = []; keep = 0 }

abbrev world : World
world = record (empty_world rest) {
  procs = record { pid = 1; parent = 0; regs = record { pc = 0; x = replicate 32 0 }; space = 0; table = 0; state = Ready } ∷ [];
}

abbrev made : (pid call fd count : ℕ) → List ℕ → CallEntry
made pid call fd count sent = record { pid = pid; call = call; args = fd ∷ 0 ∷ count ∷ 0 ∷ 0 ∷ 0 ∷ []; sent = sent; reply = 2; got = [] }

-- write(1, "hi", 2) and write(2, "!", 1) print, a write to 0 and to 3, and a call that is no write, don't
calls : printed world (made 1 64 1 2 (codes "hi") ∷ made 1 64 0 1 (codes "a") ∷ made 1 64 3 1 (codes "b") ∷ made 1 63 1 1 (codes "c") ∷ made 1 64 2 1 (codes "!") ∷ []) ≡ codes "hi!"
unfolding with_table view find
calls = refl

-- of a writev the data behind its one piece of eight bytes
pieces : printed world (made 1 66 1 1 (0 ∷ 1 ∷ 0 ∷ 0 ∷ 2 ∷ 0 ∷ 0 ∷ 0 ∷ codes "hi") ∷ []) ≡ codes "hi"
unfolding with_table view find
pieces = refl

-- a process that isn't there prints nothing
nobody : prints world (made 2 64 1 2 (codes "hi")) ≡ false
unfolding with_table view find
nobody = refl

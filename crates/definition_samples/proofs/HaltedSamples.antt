-- Where a run has ended that ends at its first stray access, and which bytes a block has.
use Rattle.std.proofs.Common.{◌≡◌, true, false, Some, None, Ok, [], ◌∷◌, map, refl, ap, arith}
use Rattle.byte_words.specs.declared.access.Access.{Access}
use Rattle.byte_words.specs.declared.access.AccessKind.TheVariants as access
use Rattle.call_log.specs.declared.how.How.TheVariants.{Exit}
use Rattle.call_log.specs.Notes.{LoadEntry, load_note, end_note, stray_note}
use Rattle.region_watch.specs.declared.mode.Mode.TheVariants.{Halt, GoOn}
use Rattle.syscall_layer.specs.Parts.{halted_at}
use Rattle.kept_parts.specs.Starts.{in_block_of}
use Rattle.flat_machine.specs.declared.run.End.TheVariants as told
use Rattle.flat_machine.specs.RunsIn.{TellsAccess}

abbrev store : Access
store = record { pc = 0x8000_0040; addr = 0x8000_2000; len = 4; kind = access.Store }

abbrev later : Access
later = record { pc = 0x8000_0044; addr = 0; len = 1; kind = access.Load }

abbrev block : LoadEntry
block = record { pid = 1; program = 0; base = 0x8000_0000; pages = 2 }

-- at the oldest of two, though others end behind it
halts : halted_at Halt (end_note 2 (Exit 0) ∷ stray_note 2 later ∷ stray_note 1 store ∷ load_note block ∷ []) ≡ Some store
halts = refl

-- nowhere, where none was noted, and of a run that goes on
runs : halted_at Halt (end_note 1 (Exit 0) ∷ load_note block ∷ []) ≡ None
runs = refl

goes-on : halted_at GoOn (stray_note 1 store ∷ load_note block ∷ []) ≡ None
goes-on = refl

-- it tells that access, and no other end
abbrev stored : Access
stored = record { pc = 0x8000_0040; addr = 0x8000_2000; len = 4; kind = access.Store }

tells : TellsAccess store (Ok (told.Stray stored))
tells = refl

tells-another : TellsAccess later (Ok (told.Stray stored)) → ⊥
tells-another is = let pc : 0x8000_0040 ≡ 0x8000_0044 = ap (λ (s : Access). s.pc) is in absurd (omega (arith, pc))

tells-none : TellsAccess store (Ok told.AllEnded) → ⊥
tells-none is = is

-- a block of two pages
in-block : map (in_block_of block) (0x7fff_ffff ∷ 0x8000_0000 ∷ 0x8000_1fff ∷ 0x8000_2000 ∷ []) ≡ false ∷ true ∷ true ∷ false ∷ []
in-block = refl

-- Instructions one after the other, the bytes that a watch lets pass and keeps, and the first stray access of a run.
use Rattle.std.proofs.Common.{◌≡◌, ℕ, Bool, true, false, List, [], ◌∷◌, ◌++◌, map, Option, Some, None, refl}
use Rattle.std.specs.Prelude.{replicate}
use Rattle.byte_words.specs.ByteMap.{Bytes, byte_of}
use Rattle.rv32im_table.specs.Field.{opcode, funct3, rd, rs1, rs2}
use Rattle.rv32im_table.specs.Immediate.{imm_i, imm_s}
use Rattle.rv32im_table.specs.Table.{decoded}
use Rattle.rv32im_step.specs.declared.regs.Regs.{Regs}
use Rattle.rv32im_step.specs.declared.stop.Stop.{Stop}
use Rattle.rv32im_step.specs.declared.stop.Stop.TheVariants.{Next, Call, Trap, Refused}
use Rattle.rv32im_step.specs.Meaning.{effect, meaning}
use Rattle.rv32im_step.specs.Memory.{fetch_of, store_of, loaded, stored}
use Rattle.rv32im_step.specs.Registers.{register, with_register}
use Rattle.mmap_rules.specs.declared.page_owner.PageOwner.{PageOwner}
use Rattle.mmap_rules.specs.Owners.{owns, owns_at}
use Rattle.region_watch.specs.declared.mode.Mode.{Mode}
use Rattle.region_watch.specs.declared.mode.Mode.TheVariants.{Halt, GoOn}
use Rattle.region_watch.specs.Private.{only, own_bytes, frozen, passes, passed_bytes, kept_bytes}
use Rattle.region_watch.specs.Instructions.{Ran, instructions}
use Rattle.region_watch.specs.Strays.{stray_after_stop}

-- one page, of which the bytes from 64 on are the program's own, and may be written or not
abbrev one_page : (write : Bool) → List PageOwner
one_page write = record { from = 64; write = write; uses = 1 } ∷ []

-- ---- instructions

abbrev regs : (pc x3 : ℕ) → Regs
regs pc x3 = record { pc = pc; x = 0 ∷ 0x8000_004c ∷ 0 ∷ x3 ∷ replicate 28 0 }

-- lb x3,0(x1), sb x1,0(x1), ecall, and a byte at x1
abbrev code : Bytes
code = byte_of 0x8000_0040 (0x83 ∷ 0x81 ∷ 0 ∷ 0 ∷ 0x23 ∷ 0x80 ∷ 0x10 ∷ 0 ∷ 0x73 ∷ 0 ∷ 0 ∷ 0 ∷ 9 ∷ [])

-- up to so many of them, where no byte may be written, in a mode
abbrev ran : Mode → ℕ → Ran
ran mode n = instructions n (passes mode (one_page false) true) (regs 0x8000_0040 0) code

-- what is seen of them: the registers, the byte at x1, how many were carried out, and how the last one ended
record Seen : Type 0 where
  regs : Regs
  byte : Option ℕ
  done : ℕ
  stop : Stop

abbrev seen : Ran → Seen
seen r = record { regs = r.regs; byte = r.bytes 0x8000_004c; done = r.done; stop = r.stop }

-- none, and one
runs-none : seen (ran GoOn 0) ≡ record { regs = regs 0x8000_0040 0; byte = Some 9; done = 0; stop = Next }
unfolding instructions
runs-none = refl

runs-one : seen (ran GoOn 1) ≡ record { regs = regs 0x8000_0044 9; byte = Some 9; done = 1; stop = Next }
unfolding instructions meaning loaded decoded opcode effect funct3 rd rs1 rs2 imm_i register with_register
runs-one = refl

-- of five the system call is the third, and isn't carried out
runs-to_call : seen (ran GoOn 5) ≡ record { regs = regs 0x8000_0048 9; byte = Some 0x4c; done = 2; stop = Call }
unfolding instructions meaning loaded stored decoded opcode effect funct3 rd rs1 rs2 imm_i imm_s register with_register
runs-to_call = refl

-- where the store is refused nothing changes by it
runs-to_store : seen (ran Halt 5) ≡ record { regs = regs 0x8000_0044 9; byte = Some 9; done = 1; stop = Refused (store_of 0x8000_0044 0x8000_004c 1) }
unfolding instructions meaning loaded stored decoded opcode effect funct3 rd rs1 rs2 imm_i imm_s register with_register owns owns_at
runs-to_store = refl

-- a word of zeros is no instruction: SIGILL
runs-illegal : (instructions 5 (λ a. true) (regs 0x8000_0040 0) (byte_of 0x8000_0040 (replicate 4 0))).stop ≡ Trap 4
unfolding instructions meaning loaded decoded opcode effect funct3 rd rs1 rs2 imm_i register with_register
runs-illegal = refl

-- ---- bytes

-- the first 66 bytes of memory: 64 of nobody, and two
abbrev memory : List ℕ
memory = replicate 64 5 ++ 7 ∷ 8 ∷ []

-- those at the end of nobody's, the first own one, and behind the last
abbrev three : Bytes → List (Option ℕ)
three m = map m (0x8000_003f ∷ 0x8000_0040 ∷ 0x8000_0042 ∷ [])

owns-bytes : three (own_bytes (one_page false) memory) ≡ None ∷ Some 7 ∷ None ∷ []
unfolding only owns owns_at
owns-bytes = refl

-- frozen are those of nobody, and with them the own ones that may not be written
freezes-read : three (frozen (one_page false) memory) ≡ Some 5 ∷ Some 7 ∷ None ∷ []
unfolding only owns owns_at
freezes-read = refl

freezes-write : three (frozen (one_page true) memory) ≡ Some 5 ∷ None ∷ None ∷ []
unfolding only owns owns_at
freezes-write = refl

passes-halt : three (passed_bytes Halt (one_page false) memory) ≡ None ∷ Some 7 ∷ None ∷ []
unfolding only owns owns_at
passes-halt = refl

passes-go_on : three (passed_bytes GoOn (one_page false) memory) ≡ Some 5 ∷ Some 7 ∷ None ∷ []
unfolding only
passes-go_on = refl

keeps-halt : three (kept_bytes Halt (one_page false) memory) ≡ Some 5 ∷ Some 7 ∷ None ∷ []
unfolding only owns owns_at
keeps-halt = refl

-- in GoOn nothing of memory is kept
keeps-go_on : three (kept_bytes GoOn (one_page false) memory) ≡ None ∷ None ∷ None ∷ []
unfolding only
keeps-go_on = refl

-- and outside memory nothing is there
keeps-outside : map (kept_bytes GoOn (one_page false) memory) (0x7fff_ffff ∷ 0x8000_1000 ∷ []) ≡ None ∷ None ∷ []
unfolding only
keeps-outside = refl

-- ---- the first stray access behind a run

notes-refused : stray_after_stop None (ran Halt 5).stop ≡ Some (store_of 0x8000_0044 0x8000_004c 1)
unfolding instructions meaning loaded stored decoded opcode effect funct3 rd rs1 rs2 imm_i imm_s register with_register owns owns_at
notes-refused = refl

-- of a run that wasn't refused none is told, and one that strayed before stays the first
notes-none : stray_after_stop None Call ≡ None
notes-none = refl

notes-first : stray_after_stop (Some (fetch_of 0x8000_0000)) (Refused (store_of 0x8000_0044 0x8000_004c 1)) ≡ Some (fetch_of 0x8000_0000)
notes-first = refl

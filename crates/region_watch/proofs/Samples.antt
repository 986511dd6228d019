-- The definitions at worked examples, which compute.
use Rattle.std.proofs.Common.{◌≡◌, Bool, true, false, List, [], ◌∷◌, refl}
use Rattle.std.specs.Prelude.{Some, None, replicate}
use Rattle.byte_words.specs.ByteMap.{Bytes, byte_of}
use Rattle.rv32im_table.specs.Field.{opcode, funct3, rd, rs1, rs2}
use Rattle.rv32im_table.specs.Immediate.{imm_i, imm_s}
use Rattle.rv32im_table.specs.Table.{decoded}
use Rattle.rv32im_step.specs.declared.regs.Regs.{Regs}
use Rattle.rv32im_step.specs.Asked.{Asked, effect_asked, asked}
use Rattle.rv32im_step.specs.Meaning.{effect, meaning}
use Rattle.rv32im_step.specs.Memory.{fetch_of, load_of, store_of, loaded, stored}
use Rattle.rv32im_step.specs.Registers.{register, with_register}
use Rattle.mmap_rules.specs.declared.page_owner.PageOwner.{PageOwner}
use Rattle.mmap_rules.specs.Space.{may_use}
use Rattle.mmap_rules.specs.Owners.{owns, owns_at}
use Rattle.region_watch.specs.declared.mode.Mode.{Mode}
use Rattle.region_watch.specs.declared.mode.Mode.TheVariants.{Halt, GoOn}
use Rattle.region_watch.specs.Private.{passes}
use Rattle.region_watch.specs.Instructions.{all_asked}
use Rattle.region_watch.specs.Strays.{stray_after_all}

-- ---- what passes

-- a block from byte 64 on, a page that is only read, and a foreign one
three_pages : List PageOwner
three_pages = record { from = 64; write = true; uses = 1 } ∷ record { from = 0; write = false; uses = 1 } ∷ record { from = 0; write = false; uses = 0 } ∷ []

-- an own address, one that is only read, two foreign ones, and one on each side of memory
seen : Mode → Bool → List Bool
seen mode write =
    passes mode three_pages write 0x8000_0040 ∷ passes mode three_pages write 0x8000_1000 ∷
    passes mode three_pages write 0x8000_003f ∷ passes mode three_pages write 0x8000_2000 ∷
    passes mode three_pages write 0x7fff_ffff ∷ passes mode three_pages write 0x8000_3000 ∷ []

halt-reads : seen Halt false ≡ true ∷ true ∷ false ∷ false ∷ false ∷ false ∷ []
unfolding seen three_pages owns owns_at
halt-reads = refl

halt-writes : seen Halt true ≡ true ∷ false ∷ false ∷ false ∷ false ∷ false ∷ []
unfolding seen three_pages owns owns_at
halt-writes = refl

go_on-reads : seen GoOn false ≡ true ∷ true ∷ true ∷ true ∷ false ∷ false ∷ []
unfolding seen three_pages
go_on-reads = refl

go_on-writes : seen GoOn true ≡ true ∷ true ∷ true ∷ true ∷ false ∷ false ∷ []
unfolding seen three_pages
go_on-writes = refl

-- ---- what instructions ask

-- one page, of which the bytes from 64 on are only read
one_page : List PageOwner
one_page = record { from = 64; write = false; uses = 1 } ∷ []

regs : Regs
regs = record { pc = 0x8000_0040; x = 0 ∷ 0x8000_004c ∷ replicate 30 0 }

-- lb x3,0(x1), sb x1,0(x1), ecall, and a byte at x1
code : Bytes
code = byte_of 0x8000_0040 (0x83 ∷ 0x81 ∷ 0 ∷ 0 ∷ 0x23 ∷ 0x80 ∷ 0x10 ∷ 0 ∷ 0x73 ∷ 0 ∷ 0 ∷ 0 ∷ 9 ∷ [])

-- those of up to five instructions: nothing follows the system call
go_on : List Asked
go_on = all_asked 5 (passes GoOn one_page true) regs code

halt : List Asked
halt = all_asked 5 (passes Halt one_page true) regs code

go_on-asked : go_on ≡
    record { access = fetch_of 0x8000_0040; done = true } ∷
    record { access = load_of 0x8000_0040 0x8000_004c 1; done = true } ∷
    record { access = fetch_of 0x8000_0044; done = true } ∷
    record { access = store_of 0x8000_0044 0x8000_004c 1; done = true } ∷
    record { access = fetch_of 0x8000_0048; done = true } ∷ []
unfolding go_on one_page regs code all_asked asked meaning loaded stored decoded opcode effect effect_asked funct3 rd rs1 rs2 imm_i imm_s register with_register
go_on-asked = refl

-- nor the store that is refused
halt-asked : halt ≡
    record { access = fetch_of 0x8000_0040; done = true } ∷
    record { access = load_of 0x8000_0040 0x8000_004c 1; done = true } ∷
    record { access = fetch_of 0x8000_0044; done = true } ∷
    record { access = store_of 0x8000_0044 0x8000_004c 1; done = false } ∷ []
unfolding halt one_page regs code all_asked asked meaning loaded stored decoded opcode effect effect_asked funct3 rd rs1 rs2 imm_i imm_s register with_register owns owns_at
halt-asked = refl

-- ---- the first that strays

-- the store does, though it is carried out
go_on-first : stray_after_all one_page None go_on ≡ Some (store_of 0x8000_0044 0x8000_004c 1)
unfolding one_page may_use owns owns_at
go_on-first = rw go_on-asked refl

halt-first : stray_after_all one_page None halt ≡ Some (store_of 0x8000_0044 0x8000_004c 1)
unfolding one_page may_use owns owns_at
halt-first = rw halt-asked refl

-- and isn't told where another one strayed before
not-first : stray_after_all one_page (Some (fetch_of 0x8000_0000)) go_on ≡ Some (fetch_of 0x8000_0000)
not-first = rw go_on-asked refl

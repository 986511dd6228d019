-- A program by itself, event by event: what goes on, and what refutes the run.
use Rattle.std.proofs.Common.{◌≡◌, ℕ, true, false, List, [], ◌∷◌, ◌++◌, Option, Some, None, refl}
use Rattle.std.specs.Prelude.{if◌then◌else◌, replicate, map}
use Rattle.byte_words.specs.ByteMap.{Bytes, with_bytes}
use Rattle.byte_words.specs.Numbers.{number_at, byte_at}
use Rattle.rv32im_table.specs.Field.{opcode, funct3, funct7, rd, rs1, rs2}
use Rattle.rv32im_table.specs.Immediate.{imm_i, imm_s}
use Rattle.rv32im_table.specs.Table.{decoded}
use Rattle.rv32im_step.specs.declared.regs.Regs.{Regs}
use Rattle.rv32im_step.specs.Memory.{loaded, stored}
use Rattle.rv32im_step.specs.Meaning.{effect, meaning}
use Rattle.rv32im_step.specs.Registers.{register, with_register}
use Rattle.call_log.specs.Notes.{GotRange, CallEntry}
use Rattle.call_log.specs.Sent.{sent, read_span}
use Rattle.mmap_rules.specs.declared.mapping.Range.{Range}
use Rattle.mmap_rules.specs.Space.{may_use}
use Rattle.flat_loader.specs.Alone.{Runner, OwnMemory, Solo, Item, Left, own_of, writable_of, is_errno, is_call, may_lie, may_map, with_range, without_pages, solo_step, solo_run, none_left}

-- ---- a small program: a block with one instruction at 0x80000040, pages that are only read, and three pages of an anonymous
-- mapping; nothing else

abbrev block : Range
block = record { from = 0x8000_0040; size = 0xfc0; writes = true; anonymous = false }

abbrev shared : Range
shared = record { from = 0x8000_1000; size = 0x1000; writes = false; anonymous = false }

abbrev pages : (from size : ℕ) → Range
pages from size = record { from = from; size = size; writes = true; anonymous = true }

-- ones, but for the instruction
abbrev bytes : List Range → List ℕ → Bytes
bytes ranges word = with_bytes (λ a. if own_of ranges a then Some 1 else None) 0x8000_0040 word

abbrev memory : List Range → List ℕ → OwnMemory
memory ranges word = record { ranges = ranges; bytes = bytes ranges word }

abbrev all : List Range
all = block ∷ shared ∷ pages 0x8000_4000 0x3000 ∷ []

abbrev ecall : List ℕ
ecall = 0x73 ∷ 0 ∷ 0 ∷ 0 ∷ []

-- a0 to a5, and a7
abbrev regs : List ℕ → ℕ → Regs
regs args number = record { pc = 0x8000_0040; x = replicate 10 0 ++ args ++ 0 ∷ number ∷ replicate 14 0 }

abbrev solo : List ℕ → List ℕ → ℕ → Solo
solo word args number = record { stack = record { pid = 7; regs = regs args number } ∷ []; memory = memory all word }

abbrev calls : List ℕ → ℕ → Solo
calls args number = solo ecall args number

abbrev entry : List ℕ → ℕ → ℕ → List GotRange → CallEntry
entry args number reply got = record { pid = 7; call = number; args = args; sent = []; reply = reply; got = got }

abbrev item : List ℕ → ℕ → ℕ → Item
item args number reply = record { entry = entry args number reply []; brought = [] }

abbrev six : ℕ → ℕ → List ℕ
six a b = a ∷ b ∷ 0 ∷ 0 ∷ 0 ∷ 0 ∷ []

-- what is seen of what is left: the processes, the ranges, some bytes, and the items
pub record Seen : Type 0 where
  pub stack : List Runner
  pub ranges : List Range
  pub bytes : List (Option ℕ)
  pub items : List Item

abbrev seen : List ℕ → Left → Option Seen
seen addrs None = None
seen addrs (Some (s, items)) = Some (record { stack = s.stack; ranges = s.memory.ranges; bytes = map s.memory.bytes addrs; items = items })

-- ---- instructions

-- addi a0, a0, 5
goes-on : seen (0x8000_0040 ∷ []) (solo_step (solo (0x13 ∷ 0x05 ∷ 0x55 ∷ 0x00 ∷ []) (six 2 3) 9) (item (six 0 0) 178 7 ∷ []))
    ≡ Some (record {
      stack = record { pid = 7; regs = record (regs (six 7 3) 9) { pc = 0x8000_0044 } } ∷ [];
      ranges = all;
      bytes = Some 0x13 ∷ [];
      items = item (six 0 0) 178 7 ∷ [];
    })
unfolding solo_step meaning effect decoded loaded stored register with_register own_of writable_of number_at byte_at opcode funct3 funct7 rd rs1 rs2 imm_i imm_s
goes-on = refl

-- lw a0, 0(a1) at an address that isn't own
refuted-load : solo_step (solo (0x03 ∷ 0xa5 ∷ 0x05 ∷ 0x00 ∷ []) (six 0 0x8000_2000) 9) [] ≡ None
unfolding solo_step meaning effect decoded loaded stored register with_register own_of writable_of number_at byte_at opcode funct3 funct7 rd rs1 rs2 imm_i imm_s
refuted-load = refl

-- sw a0, 0(a1) into bytes that are only read
refuted-store : solo_step (solo (0x23 ∷ 0xa0 ∷ 0xa5 ∷ 0x00 ∷ []) (six 0 0x8000_1000) 9) [] ≡ None
unfolding solo_step meaning effect decoded loaded stored register with_register own_of writable_of number_at byte_at opcode funct3 funct7 rd rs1 rs2 imm_i imm_s
refuted-store = refl

-- ---- an item tells of the call

-- getpid
getpid : seen [] (solo_step (calls (six 0 0) 172) (item (six 0 0) 172 7 ∷ []))
    ≡ Some (record { stack = record { pid = 7; regs = record (regs (six 7 0) 172) { pc = 0x8000_0044 } } ∷ []; ranges = all; bytes = []; items = [] })
unfolding solo_step meaning effect decoded loaded register with_register own_of writable_of number_at byte_at opcode funct3 funct7 rd rs1 rs2 imm_i sent is_errno is_call
getpid = refl

-- no item; of another pid, call, argument, or input
refuted-items :
    solo_step (calls (six 0 0) 172) []
    ∷ solo_step (calls (six 0 0) 172) (record { entry = record (entry (six 0 0) 172 7 []) { pid = 8 }; brought = [] } ∷ [])
    ∷ solo_step (calls (six 0 0) 172) (item (six 0 0) 173 7 ∷ [])
    ∷ solo_step (calls (six 0 0) 172) (item (six 0 1) 172 7 ∷ [])
    ∷ solo_step (calls (six 0 0) 172) (item (0 ∷ 0 ∷ []) 172 7 ∷ [])
    ∷ solo_step (calls (six 0 0) 172) (record { entry = record (entry (six 0 0) 172 7 []) { sent = 1 ∷ [] }; brought = [] } ∷ [])
    ∷ []
    ≡ replicate 6 None
unfolding solo_step meaning effect decoded loaded register with_register own_of writable_of number_at byte_at opcode funct3 funct7 rd rs1 rs2 imm_i sent is_errno is_call
refuted-items = refl

-- ---- what a call reads and writes

abbrev reads : (addr : ℕ) → (got : List ℕ) → Left
reads addr got =
    solo_step (calls (0 ∷ addr ∷ 2 ∷ 0 ∷ 0 ∷ 0 ∷ []) 63)
    (record { entry = entry (0 ∷ addr ∷ 2 ∷ 0 ∷ 0 ∷ 0 ∷ []) 63 2 (record { addr = addr; bytes = got } ∷ []); brought = [] } ∷ [])

gets : seen (0x8000_4000 ∷ 0x8000_4001 ∷ 0x8000_4002 ∷ []) (reads 0x8000_4000 (8 ∷ 9 ∷ []))
    ≡ Some (record {
      stack = record { pid = 7; regs = record (regs (2 ∷ 0x8000_4000 ∷ 2 ∷ 0 ∷ 0 ∷ 0 ∷ []) 63) { pc = 0x8000_0044 } } ∷ [];
      ranges = all;
      bytes = Some 8 ∷ Some 9 ∷ Some 1 ∷ [];
      items = [];
    })
unfolding solo_step meaning effect decoded loaded register with_register own_of writable_of number_at byte_at opcode funct3 funct7 rd rs1 rs2 imm_i sent is_errno is_call may_use
gets = refl

-- over the end of what is own, and where it is only read
refuted-gets : reads 0x8000_6fff (8 ∷ 9 ∷ []) ∷ reads 0x8000_2000 (8 ∷ []) ∷ reads 0x8000_1000 (8 ∷ []) ∷ [] ≡ replicate 3 None
unfolding solo_step meaning effect decoded loaded register with_register own_of writable_of number_at byte_at opcode funct3 funct7 rd rs1 rs2 imm_i sent is_errno is_call may_use
refuted-gets = refl

-- write(1, addr, 1) of what isn't own
refuted-sent :
    solo_step (calls (1 ∷ 0x8000_2000 ∷ 1 ∷ 0 ∷ 0 ∷ 0 ∷ []) 64) (item (1 ∷ 0x8000_2000 ∷ 1 ∷ 0 ∷ 0 ∷ 0 ∷ []) 64 1 ∷ []) ≡ None
unfolding solo_step meaning effect decoded loaded register with_register own_of writable_of number_at byte_at opcode funct3 funct7 rd rs1 rs2 imm_i sent read_span is_errno is_call
refuted-sent = refl

-- ---- mmap2

abbrev asks : (len prot flags : ℕ) → List ℕ
asks len prot flags = 0 ∷ len ∷ prot ∷ flags ∷ 3 ∷ 0 ∷ []

-- with what is brought
abbrev maps : (reply len prot flags : ℕ) → List ℕ → Left
maps reply len prot flags brought =
    solo_step (calls (asks len prot flags) 222) (record { entry = entry (asks len prot flags) 222 reply []; brought = brought } ∷ [])

-- empty, on no page, below and above all memory, and whose bytes are of another number, or are brought though they are zeros
refuted-maps :
    maps 0x8000_8000 0 3 0x22 []
    ∷ maps 0x8000_8004 1 3 0x22 []
    ∷ maps 0x7fff_f000 1 3 0x22 []
    ∷ maps 0x8400_0000 1 3 0x22 []
    ∷ maps 0x83ff_f000 4097 3 0x22 []
    ∷ maps 0x8000_8000 1 1 2 []
    ∷ maps 0x8000_8000 1 1 2 (replicate 4095 0)
    ∷ maps 0x8000_8000 1 1 2 (replicate 4097 0)
    ∷ maps 0x8000_8000 1 3 0x22 (0 ∷ [])
    ∷ []
    ≡ replicate 9 None
unfolding solo_step meaning effect decoded loaded register with_register own_of writable_of number_at byte_at opcode funct3 funct7 rd rs1 rs2 imm_i sent is_errno is_call may_map
refuted-maps = refl

-- a refused one changes the reply alone
refused-map : seen [] (maps 0xffff_fff4 4096 3 0x22 [])
    ≡ Some (record { stack = record { pid = 7; regs = record (regs (0xffff_fff4 ∷ 4096 ∷ 3 ∷ 0x22 ∷ 3 ∷ 0 ∷ []) 222) { pc = 0x8000_0044 } } ∷ []; ranges = all; bytes = []; items = [] })
unfolding solo_step meaning effect decoded loaded register with_register own_of writable_of number_at byte_at opcode funct3 funct7 rd rs1 rs2 imm_i sent is_errno is_call
refused-map = refl

-- bytes over own ones: where both are only read, and agree; not where one may be written, or where they differ
lies :
    may_lie (memory all ecall) false 0x8000_1ffe (1 ∷ 1 ∷ 5 ∷ [])
    ∷ may_lie (memory all ecall) true 0x8000_2000 (5 ∷ 5 ∷ [])
    ∷ may_lie (memory all ecall) false 0x8000_1ffe (1 ∷ 2 ∷ [])
    ∷ may_lie (memory all ecall) true 0x8000_1ffe (1 ∷ [])
    ∷ may_lie (memory all ecall) false 0x8000_4000 (1 ∷ [])
    ∷ []
    ≡ true ∷ true ∷ false ∷ false ∷ false ∷ []
unfolding may_lie own_of writable_of
lies = refl

-- so a page that nobody has may be mapped, and pages of a file over the same ones
maps-new : seen (0x8000_8000 ∷ 0x8000_8fff ∷ 0x8000_9000 ∷ []) (maps 0x8000_8000 1 3 0x22 [])
    ≡ Some (record {
      stack = record { pid = 7; regs = record (regs (0x8000_8000 ∷ 1 ∷ 3 ∷ 0x22 ∷ 3 ∷ 0 ∷ []) 222) { pc = 0x8000_0044 } } ∷ [];
      ranges = all ++ pages 0x8000_8000 0x1000 ∷ [];
      bytes = Some 0 ∷ Some 0 ∷ None ∷ [];
      items = [];
    })
unfolding solo_step meaning effect decoded loaded register with_register own_of writable_of number_at byte_at opcode funct3 funct7 rd rs1 rs2 imm_i sent is_errno is_call may_map may_lie with_range
maps-new = refl

maps-over : seen (0x8000_1000 ∷ []) (maps 0x8000_1000 1 1 2 (replicate 4096 1))
    ≡ Some (record {
      stack = record { pid = 7; regs = record (regs (0x8000_1000 ∷ 1 ∷ 1 ∷ 2 ∷ 3 ∷ 0 ∷ []) 222) { pc = 0x8000_0044 } } ∷ [];
      ranges = all ++ shared ∷ [];
      bytes = Some 1 ∷ [];
      items = [];
    })
unfolding solo_step meaning effect decoded loaded register with_register own_of writable_of number_at byte_at opcode funct3 funct7 rd rs1 rs2 imm_i sent is_errno is_call may_map may_lie with_range
maps-over = refl

-- but not over a page that may be written, with bytes that differ, or to be written
refuted-over :
    maps 0x8000_5000 4096 3 0x22 []
    ∷ maps 0x8000_1000 4096 3 0x22 []
    ∷ maps 0x8000_1000 4096 1 2 (replicate 4096 0)
    ∷ maps 0x8000_1000 4096 3 2 (replicate 4096 1)
    ∷ []
    ≡ replicate 4 None
unfolding solo_step meaning effect decoded loaded register with_register own_of writable_of number_at byte_at opcode funct3 funct7 rd rs1 rs2 imm_i sent is_errno is_call may_map may_lie
refuted-over = refl

-- ---- munmap

abbrev unmaps : (addr len : ℕ) → Left
unmaps addr len = solo_step (calls (six addr len) 215) (item (six addr len) 215 0 ∷ [])

-- the middle page of three goes
cuts : seen (0x8000_4fff ∷ 0x8000_5000 ∷ 0x8000_5fff ∷ 0x8000_6000 ∷ []) (unmaps 0x8000_5000 1)
    ≡ Some (record {
      stack = record { pid = 7; regs = record (regs (six 0 1) 215) { pc = 0x8000_0044 } } ∷ [];
      ranges = block ∷ shared ∷ pages 0x8000_4000 0x1000 ∷ pages 0x8000_6000 0x1000 ∷ [];
      bytes = Some 1 ∷ None ∷ None ∷ Some 1 ∷ [];
      items = [];
    })
unfolding solo_step meaning effect decoded loaded register with_register own_of writable_of number_at byte_at opcode funct3 funct7 rd rs1 rs2 imm_i sent is_errno is_call without_pages
cuts = refl

-- no byte, on no page, no range, the block, more than the range
refuted-unmaps : unmaps 0x8000_4000 0 ∷ unmaps 0x8000_4004 4096 ∷ unmaps 0x8000_8000 1 ∷ unmaps 0x8000_0000 4096 ∷ unmaps 0x8000_1000 8192 ∷ [] ≡ replicate 5 None
unfolding solo_step meaning effect decoded loaded register with_register own_of writable_of number_at byte_at opcode funct3 funct7 rd rs1 rs2 imm_i sent is_errno is_call without_pages
refuted-unmaps = refl

-- ---- vfork, and an end

-- clone(0x4111, sp): the child is on top, with a0 0 and its sp; it exits, and is no more
forks : seen [] (solo_step (calls (six 0x4111 0x8000_4800) 220) (item (six 0x4111 0x8000_4800) 220 9 ∷ []))
    ≡ Some (record {
      stack = record { pid = 9; regs = record { pc = 0x8000_0044; x = 0 ∷ 0 ∷ 0x8000_4800 ∷ replicate 7 0 ++ six 0 0x8000_4800 ++ 0 ∷ 220 ∷ replicate 14 0 } }
          ∷ record { pid = 7; regs = record (regs (six 9 0x8000_4800) 220) { pc = 0x8000_0044 } }
          ∷ [];
      ranges = all;
      bytes = [];
      items = [];
    })
unfolding solo_step meaning effect decoded loaded register with_register own_of writable_of number_at byte_at opcode funct3 funct7 rd rs1 rs2 imm_i sent is_errno is_call
forks = refl

-- execve of the empty path at 0x80000041, with no arguments and no environment
abbrev execs : ℕ → Left
execs reply = solo_step (calls (six 0x8000_0041 0) 221) (record { entry = record (entry (six 0x8000_0041 0) 221 reply []) { sent = 0 ∷ [] }; brought = [] } ∷ [])

-- an end and an execve leave the space; a refused execve doesn't
leaves :
    map (λ (l : Left). seen [] l) (solo_step (calls (six 3 0) 93) (item (six 3 0) 93 0 ∷ [])
    ∷ solo_step (calls (six 3 0) 94) (item (six 3 0) 94 0 ∷ [])
    ∷ execs 0
    ∷ execs 0xffff_fffe
    ∷ [])
    ≡ replicate 3 (Some (record { stack = []; ranges = all; bytes = []; items = [] }))
    ++ Some (record { stack = record { pid = 7; regs = record (regs (six 0xffff_fffe 0) 221) { pc = 0x8000_0044 } } ∷ []; ranges = all; bytes = []; items = [] })
    ∷ []
unfolding solo_step meaning effect decoded loaded register with_register own_of writable_of number_at byte_at opcode funct3 funct7 rd rs1 rs2 imm_i sent read_span is_errno is_call
leaves = refl

-- of a path that isn't own
refuted-exec : solo_step (calls (six 3 0) 221) (item (six 3 0) 221 0 ∷ []) ≡ None
unfolding solo_step meaning effect decoded loaded register with_register own_of writable_of number_at byte_at opcode funct3 funct7 rd rs1 rs2 imm_i sent read_span is_errno is_call
refuted-exec = refl

-- the one below goes on, as it stood
pops :
    seen [] (solo_step (record (calls (six 3 0) 93) { stack = record { pid = 7; regs = regs (six 3 0) 93 } ∷ record { pid = 5; regs = regs (six 7 0) 220 } ∷ [] }) (item (six 3 0) 93 0 ∷ []))
    ≡ Some (record { stack = record { pid = 5; regs = regs (six 7 0) 220 } ∷ []; ranges = all; bytes = []; items = [] })
unfolding solo_step meaning effect decoded loaded register with_register own_of writable_of number_at byte_at opcode funct3 funct7 rd rs1 rs2 imm_i sent is_errno is_call
pops = refl

-- the last page that memory can have may be mapped
maps-last : seen (0x83ff_ffff ∷ 0x8400_0000 ∷ []) (maps 0x83ff_f000 4096 3 0x22 [])
    ≡ Some (record {
      stack = record { pid = 7; regs = record (regs (0x83ff_f000 ∷ 4096 ∷ 3 ∷ 0x22 ∷ 3 ∷ 0 ∷ []) 222) { pc = 0x8000_0044 } } ∷ [];
      ranges = all ++ pages 0x83ff_f000 0x1000 ∷ [];
      bytes = Some 0 ∷ None ∷ [];
      items = [];
    })
unfolding solo_step meaning effect decoded loaded register with_register own_of writable_of number_at byte_at opcode funct3 funct7 rd rs1 rs2 imm_i sent is_errno is_call may_map may_lie with_range
maps-last = refl

-- a trap too, and behind it there is no event
ends : seen [] (solo_run 1 (solo (0 ∷ 0 ∷ 0 ∷ 0 ∷ []) (six 0 0) 9) []) ≡ Some (record { stack = []; ranges = all; bytes = []; items = [] })
unfolding solo_run solo_step meaning effect decoded loaded register with_register own_of writable_of number_at byte_at opcode funct3 funct7 rd rs1 rs2 imm_i
ends = refl

refuted-end : solo_run 2 (solo (0 ∷ 0 ∷ 0 ∷ 0 ∷ []) (six 0 0) 9) [] ≡ None
unfolding solo_run solo_step meaning effect decoded loaded register with_register own_of writable_of number_at byte_at opcode funct3 funct7 rd rs1 rs2 imm_i
refuted-end = refl

-- items are left over
refuted-left : none_left (solo_run 0 (calls (six 0 0) 172) (item (six 0 0) 172 7 ∷ [])) ≡ None
unfolding solo_run
refuted-left = refl

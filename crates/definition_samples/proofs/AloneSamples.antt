-- A program by itself, from its loading to its end.
use Rattle.std.proofs.Common.{◌≡◌, true, false, List, [], ◌∷◌, map, Option, Some, None, refl}
use Rattle.std.specs.Prelude.{replicate}
use Rattle.byte_words.specs.Numbers.{number_at, byte_at}
use Rattle.byte_words.specs.Patches.{from_base}
use Rattle.rv32im_table.specs.Field.{opcode, funct3, funct7, rd, rs1, rs2}
use Rattle.rv32im_table.specs.Immediate.{imm_i}
use Rattle.rv32im_table.specs.Table.{decoded}
use Rattle.rv32im_step.specs.Memory.{loaded}
use Rattle.rv32im_step.specs.Meaning.{effect, meaning}
use Rattle.rv32im_step.specs.Registers.{register, with_register}
use Rattle.call_log.specs.Sent.{sent}
use Rattle.flat_loader.specs.Original.{block_pages}
use Rattle.flat_loader.specs.Frame.{frame_len, frame, frame_start}
use Rattle.flat_loader.specs.Begin.{begin_space, begin_regs}
use Rattle.flat_loader.specs.Alone.{Runner, Solo, Item, memory_of, own_of, writable_of, is_errno, is_call, solo_step, solo_run, solo_begin, alone}
use Rattle.definition_samples.proofs.Exits.{loading, regs, exit_entry, exit_item}

-- ---- where it begins: one process, at the entry and with the stack pointer; the block but its header

begins-stack : (solo_begin loading 1).stack ≡ record { pid = 1; regs = regs 0x8000_0080 0 } ∷ []
unfolding block_pages frame_len frame_start begin_regs
begins-stack = refl

begins-ranges : (solo_begin loading 1).memory.ranges ≡ record { from = 0x8000_0040; size = 0x1fc0; writes = true; anonymous = false } ∷ []
unfolding block_pages begin_space
begins-ranges = refl

-- the header's last byte, the image's first, the two bytes of the instruction at the entry, argc, the last byte, and the one behind it
begins-bytes :
    map (solo_begin loading 1).memory.bytes (0x8000_003f ∷ 0x8000_0040 ∷ 0x8000_0080 ∷ 0x8000_0081 ∷ 0x8000_1fe0 ∷ 0x8000_1fff ∷ 0x8000_2000 ∷ [])
    ≡ None ∷ Some 0 ∷ Some 0x93 ∷ Some 0x08 ∷ Some 1 ∷ Some 0 ∷ None ∷ []
unfolding from_base block_pages frame_len frame frame_start begin_space
begins-bytes = refl

-- ---- what n events leave

abbrev stands : List Runner → Option Solo
stands stack = Some (record { stack = stack; memory = memory_of (begin_space loading) })

-- none; one, to which the item of a call doesn't belong; and both: the process is no more
alone-begins : alone loading 1 [] 0 ≡ stands (record { pid = 1; regs = regs 0x8000_0080 0 } ∷ [])
unfolding block_pages frame_len frame_start begin_regs solo_run alone
alone-begins = refl

alone-goes_on : alone loading 1 [] 1 ≡ stands (record { pid = 1; regs = regs 0x8000_0084 93 } ∷ [])
unfolding number_at byte_at from_base decoded opcode funct3 funct7 rd rs1 rs2 imm_i loaded effect meaning register with_register block_pages frame_len frame frame_start begin_space begin_regs own_of writable_of solo_step solo_run alone
alone-goes_on = refl

alone-exits : alone loading 1 (exit_item ∷ []) 2 ≡ stands []
unfolding number_at byte_at from_base decoded opcode funct3 funct7 rd rs1 rs2 imm_i loaded effect meaning register with_register sent block_pages frame_len frame frame_start begin_space begin_regs own_of writable_of is_errno is_call solo_step solo_run alone
alone-exits = refl

-- ---- items that are told wrongly

abbrev told : Item → Option Solo
told item = alone loading 1 (item ∷ []) 2

-- of another process, call or argument, and with input that an exit doesn't have
refuted-items :
    told (record { entry = record exit_entry { pid = 2 }; brought = [] })
    ∷ told (record { entry = record exit_entry { call = 94 }; brought = [] })
    ∷ told (record { entry = record exit_entry { args = 1 ∷ replicate 5 0 }; brought = [] })
    ∷ told (record { entry = record exit_entry { sent = 0 ∷ [] }; brought = [] })
    ∷ []
    ≡ replicate 4 None
unfolding number_at byte_at from_base decoded opcode funct3 funct7 rd rs1 rs2 imm_i loaded effect meaning register with_register sent block_pages frame_len frame frame_start begin_space begin_regs own_of writable_of is_errno is_call solo_step solo_run alone
refuted-items = refl

-- a call without its item; an item that is left over; and an event behind the end
refuted-events : alone loading 1 [] 2 ∷ alone loading 1 (exit_item ∷ []) 1 ∷ alone loading 1 (exit_item ∷ []) 3 ∷ [] ≡ replicate 3 None
unfolding number_at byte_at from_base decoded opcode funct3 funct7 rd rs1 rs2 imm_i loaded effect meaning register with_register sent block_pages frame_len frame frame_start begin_space begin_regs own_of writable_of is_errno is_call solo_step solo_run alone
refuted-events = refl

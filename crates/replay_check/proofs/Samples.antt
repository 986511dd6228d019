-- A verdict, computed on worked examples: write of three bytes, then exit.
use Rattle.std.proofs.Common.{◌≡◌, ℕ, true, false, List, [], ◌∷◌, ◌++◌, Some, None, refl}
use Rattle.std.specs.Prelude.{if◌then◌else◌, replicate}
use Rattle.byte_words.specs.ByteMap.{Bytes, with_bytes}
use Rattle.byte_words.specs.Numbers.{number_at, byte_at}
use Rattle.rv32im_table.specs.Field.{opcode, funct3, funct7, rd, rs1, rs2}
use Rattle.rv32im_table.specs.Immediate.{imm_i, imm_s}
use Rattle.rv32im_table.specs.Table.{decoded}
use Rattle.rv32im_step.specs.declared.regs.Regs.{Regs}
use Rattle.rv32im_step.specs.Memory.{loaded, stored}
use Rattle.rv32im_step.specs.Meaning.{effect, meaning}
use Rattle.rv32im_step.specs.Registers.{register, with_register}
use Rattle.call_log.specs.Notes.{CallEntry}
use Rattle.call_log.specs.Sent.{sent, read_span}
use Rattle.mmap_rules.specs.declared.mapping.Range.{Range}
use Rattle.flat_loader.specs.Alone.{Solo, Item, own_of, writable_of, is_errno, is_call, solo_step}
use Rattle.replay_check.specs.declared.verdict.Verdict.{Verdict}
use Rattle.replay_check.specs.declared.verdict.Verdict.TheVariants.{Yes, No}
use Rattle.replay_check.specs.Verdicts.{verdict_from}

-- ecall, addi a7, x0, 93, ecall, and the bytes 68 69 0a behind them
abbrev block : Range
block = record { from = 0x8000_0040; size = 0xfc0; writes = true; anonymous = false }

abbrev bytes : Bytes
bytes = with_bytes (λ a. if own_of (block ∷ []) a then Some 0 else None) 0x8000_0040
    (0x73 ∷ 0 ∷ 0 ∷ 0 ∷ 0x93 ∷ 0x08 ∷ 0xd0 ∷ 0x05 ∷ 0x73 ∷ 0 ∷ 0 ∷ 0 ∷ 0x68 ∷ 0x69 ∷ 0x0a ∷ [])

-- write(1, 0x8000004c, 3)
abbrev args : ℕ → List ℕ
args first = first ∷ 0x8000_004c ∷ 3 ∷ 0 ∷ 0 ∷ 0 ∷ []

abbrev begins : Solo
begins = record {
  stack = record { pid = 7; regs = record { pc = 0x8000_0040; x = replicate 10 0 ++ args 1 ++ 0 ∷ 64 ∷ replicate 14 0 } } ∷ [];
  memory = record { ranges = block ∷ []; bytes = bytes };
}

abbrev item : (number first : ℕ) → (read : List ℕ) → (reply : ℕ) → Item
item number first read reply = record { entry = record { pid = 7; call = number; args = args first; sent = read; reply = reply; got = [] }; brought = [] }

abbrev hi : Item
hi = item 64 1 (0x68 ∷ 0x69 ∷ 0x0a ∷ []) 3

abbrev exit : Item
exit = item 93 3 [] 0

abbrev judged : (events : ℕ) → List Item → Verdict
judged events items = verdict_from events 0 0 begins items

-- three events, two calls; a byte that was read otherwise; an event less; one more; an item left, and one that is missing
samples :
    judged 3 (hi ∷ exit ∷ [])
    ∷ judged 3 (item 64 1 (0x68 ∷ 0x69 ∷ 0x0b ∷ []) 3 ∷ exit ∷ [])
    ∷ judged 2 (hi ∷ exit ∷ [])
    ∷ judged 4 (hi ∷ exit ∷ [])
    ∷ judged 3 (hi ∷ exit ∷ exit ∷ [])
    ∷ judged 3 (hi ∷ [])
    ∷ []
    ≡ Yes ∷ No 1 0 ∷ No 2 2 ∷ No 3 3 ∷ No 3 3 ∷ No 2 2 ∷ []
unfolding verdict_from solo_step meaning effect decoded loaded stored register with_register own_of writable_of number_at byte_at opcode funct3 funct7 rd rs1 rs2 imm_i imm_s sent read_span is_errno is_call
samples = refl

-- A process at one moment as an ELF32 core file. System V ABI, "ELF Header", "Program Header", "Note Section"; the note's
-- descriptor is Linux's `struct elf_prstatus` (include/linux/elfcore.h) with the registers of RV32 (arch/riscv/include/uapi/asm/ptrace.h).
use Rattle.std.specs.Prelude.{ℕ, ◌+◌, ◌*◌, Bool, if◌then◌else◌, List, [], ◌∷◌, ◌++◌, length, drop, replicate, codes}
use Rattle.std.specs.List.{flat_map}
use Rattle.byteorder.specs.Endian.{little_bytes}
use Rattle.rv32im_step.specs.declared.regs.Regs.{Regs}

-- bytes of a process one behind the other, from an address on
pub record SegmentValue : Type 0 where
  pub addr : ℕ
  pub write : Bool
  pub bytes : List ℕ

pub record CoreValue : Type 0 where
  pub signal : ℕ
  pub pid : ℕ
  pub parent : ℕ
  pub regs : Regs
  pub segments : List SegmentValue

-- numbers one after the other, of four bytes and of two, the lowest byte first
abbrev pub words_text : List ℕ → List ℕ
words_text ns = flat_map (little_bytes 4) ns

abbrev pub halves_text : List ℕ → List ℕ
halves_text ns = flat_map (little_bytes 2) ns

-- the ELF header of ET_CORE for EM_RISCV, version 1: program headers from 52 on, no sections
unfoldable pub header_text : (headers : ℕ) → List ℕ
header_text headers =
    127 ∷ (codes "ELF" ++ (1 ∷ 1 ∷ 1 ∷ []) ++ replicate 9 0)
    ++ (halves_text (4 ∷ 243 ∷ []) ++ (words_text (1 ∷ 0 ∷ 52 ∷ 0 ∷ 0 ∷ []) ++ halves_text (52 ∷ 32 ∷ headers ∷ 0 ∷ 0 ∷ 0 ∷ [])))

-- a program header: p_type, p_offset, p_vaddr, p_paddr 0, p_filesz, p_memsz, p_flags, p_align
abbrev pub program_text : (kind offset addr filesz memsz flags align : ℕ) → List ℕ
program_text kind offset addr filesz memsz flags align = words_text (kind ∷ offset ∷ addr ∷ 0 ∷ filesz ∷ memsz ∷ flags ∷ align ∷ [])

-- where the note stands, behind so many segments' program headers
abbrev pub note_at : ℕ → ℕ
note_at segments = 84 + 32 * segments

-- the bytes of the note, and of its descriptor
abbrev pub note_len : ℕ
note_len = 224

abbrev pub status_len : ℕ
status_len = 204

-- readable and executable, and writable too
abbrev pub flags_of : Bool → ℕ
flags_of write = if write then 7 else 5

-- a segment's program header, PT_LOAD, where its bytes stand from this offset on
unfoldable pub load_text : (offset : ℕ) → SegmentValue → List ℕ
load_text offset s = program_text 1 offset s.addr (length s.bytes) (length s.bytes) (flags_of s.write) 1

-- those of segments, whose bytes stand one behind the other from this offset on
abbrev pub loads_text : (offset : ℕ) → List SegmentValue → List ℕ
loads_text offset [] = []
loads_text offset (s ∷ ss) = load_text offset s ++ loads_text (offset + length s.bytes) ss

-- `struct elf_prstatus`: si_signo, then at 12 pr_cursig, at 24 pr_pid and pr_ppid, at 72 pr_reg, which is pc and x1 to x31
unfoldable pub status_text : CoreValue → List ℕ
status_text c =
    words_text (c.signal ∷ 0 ∷ 0 ∷ []) ++ (halves_text (c.signal ∷ 0 ∷ []) ++ (words_text (0 ∷ 0 ∷ c.pid ∷ c.parent ∷ []) ++ (replicate 40 0
    ++ (words_text (c.regs.pc ∷ drop 1 c.regs.x) ++ replicate 4 0))))

-- the note, NT_PRSTATUS of `CORE`
unfoldable pub note_text : CoreValue → List ℕ
note_text c = words_text (5 ∷ status_len ∷ 1 ∷ []) ++ ((codes "CORE" ++ replicate 4 0) ++ status_text c)

-- the bytes of segments
abbrev pub bytes_of : List SegmentValue → List ℕ
bytes_of ss = flat_map (λ s. s.bytes) ss

-- the note's header, PT_NOTE, before the segments'
unfoldable pub headers_text : List SegmentValue → List ℕ
headers_text ss =
    let at = note_at (length ss) in
    program_text 4 at 0 note_len 0 0 4 ++ loads_text (at + note_len) ss

unfoldable pub core_text : CoreValue → List ℕ
core_text c = header_text (length c.segments + 1) ++ (headers_text c.segments ++ (note_text c ++ bytes_of c.segments))

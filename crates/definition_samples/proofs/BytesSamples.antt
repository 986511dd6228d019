-- Bytes of a process, its own and those of all of memory, and the one memory that the parts stand for.
use Rattle.std.proofs.Common.{◌≡◌, ℕ, List, [], ◌∷◌, ◌++◌, take, drop, map, Option, Some, None, refl}
use Rattle.std.specs.Prelude.{replicate}
use Rattle.byte_words.specs.ByteMap.{byte_of}
use Rattle.byte_words.specs.Patches.{from_base}
use Rattle.call_log.specs.Sent.{read_span}
use Rattle.bflt_format.specs.Values.{Values, ram_values}
use Rattle.bflt_format.specs.Spelling.{spell}
use Rattle.elf2flt_tool.proofs.Samples.{one_word_flat}
use Rattle.flat_loader.specs.Original.{block_pages}
use Rattle.flat_loader.specs.Frame.{frame_len, frame, frame_start}
use Rattle.flat_loader.specs.Begin.{begin_space}
use Rattle.vfork_exec.specs.Keyed.{find}
use Rattle.memory_world.specs.Physical.{Physical}
use Rattle.kept_parts.specs.Stands.{world_of}
use Rattle.kept_parts.specs.InMemory.{headers_of, physical_of}
use Rattle.flat_machine.specs.OwnBytes.{own_bytes, memory_bytes}
use Rattle.definition_samples.proofs.Exits.{running, over}
use Rattle.definition_samples.proofs.PartsSamples.{kept, about}

-- ---- own bytes, of the program of two instructions

abbrev own : (pid addr len : ℕ) → Option (List ℕ)
own pid addr len = own_bytes (running 0x8000_0080 0 0) pid addr len

-- its first instruction; the first own byte, behind the header; one behind its image; and none
own-some :
    (own 1 0x8000_0080 4 ∷ own 1 0x8000_0040 1 ∷ own 1 0x8000_1000 2 ∷ own 1 0 0 ∷ [])
    ≡ Some (0x93 ∷ 8 ∷ 0xd0 ∷ 5 ∷ []) ∷ Some (0 ∷ []) ∷ Some (0 ∷ 0 ∷ []) ∷ Some [] ∷ []
unfolding from_base read_span block_pages frame_len frame frame_start begin_space find own_bytes
own-some = refl

-- with the header's last byte, one behind its block, past 2^32, and of a process that doesn't live
own-none : (own 1 0x8000_003f 2 ∷ own 1 0x8000_1fff 2 ∷ own 1 0xffff_ffff 2 ∷ own 2 0x8000_0080 4 ∷ []) ≡ None ∷ None ∷ None ∷ None ∷ []
unfolding from_base read_span block_pages frame_len frame frame_start begin_space find own_bytes
own-none = refl

-- nor when it has ended
own-over : own_bytes over 1 0x8000_0080 4 ≡ None
unfolding find own_bytes
own-over = refl

-- ---- bytes of all of memory, of which 66 are there

abbrev physical : Physical
physical = record { world = running 0x8000_0080 0 0; memory = byte_of 0x8000_0000 (replicate 64 9 ++ 7 ∷ 8 ∷ []); headers = [] }

abbrev shown : (pid addr len : ℕ) → Option (List ℕ)
shown pid addr len = memory_bytes physical pid addr len

-- the header's are shown too, and outside memory there are none, nor of a process that doesn't live
shown-all :
    (shown 1 0x8000_003f 3 ∷ shown 1 0x8000_0041 2 ∷ shown 1 0x7fff_ffff 1 ∷ shown 2 0x8000_0000 1 ∷ [])
    ≡ Some (9 ∷ 7 ∷ 8 ∷ []) ∷ None ∷ None ∷ None ∷ []
unfolding read_span find memory_bytes
shown-all = refl

-- ---- headers: the first 64 bytes of a flat file

abbrev one_word : Values
one_word = ram_values 128 64 12 0 4096 (take 76 (drop 64 one_word_flat)) (72 ∷ [])

-- of the worked example
header-first : headers_of (one_word ∷ []) ≡ take 64 one_word_flat ∷ []
unfolding spell
header-first = refl

-- ---- the memory of the parts, behind whose last byte there is none

stands-for : (physical_of (headers_of (one_word ∷ [])) about kept).world ≡ world_of about kept
unfolding physical_of
stands-for = refl

stands-memory : map (physical_of [] about kept).memory (0x7fff_ffff ∷ 0x8000_0000 ∷ 0x8000_0007 ∷ 0x8000_0008 ∷ []) ≡ None ∷ Some 10 ∷ Some 17 ∷ None ∷ []
unfolding physical_of
stands-memory = refl

-- Calls that move pieces, and calls that change little or nothing, computed from the definitions.
use Rattle.std.proofs.Common.{◌≡◌, ℕ, true, List, [], ◌∷◌, ◌++◌, map, Some, refl}
use Rattle.std.specs.Prelude.{codes, flat_map, false}
use Rattle.byteorder.specs.Endian.{little_bytes}
use Rattle.byte_words.specs.Numbers.{number_at, byte_at}
use Rattle.call_log.specs.Errno.{refusal}
use Rattle.fd_tables.specs.Files.{view}
use Rattle.fd_tables.specs.Changes.{taken, with_table}
use Rattle.machine_world.specs.Asks.{Row}
use Rattle.machine_world.specs.Transfers.{readv_row, write_row, writev_row}
use Rattle.machine_world.specs.Rows.{yield_row, brk_row, row}
use Rattle.definition_samples.proofs.CallSamples.{rest, call, reading, seen, only, after}

-- ---- pieces

-- two bytes at 512, none at 600, and five at 1024
abbrev three : List ℕ
three = flat_map (little_bytes 4) (512 ∷ 2 ∷ 600 ∷ 0 ∷ 1024 ∷ 5 ∷ [])

-- readv(0, 64, 3): the five bytes of input, piece by piece
abbrev reads : Row
reads = reading 65 0 64 3 three

reads-pieces :
    seen reads
    ≡ Some (record {
      value = 5;
      got = record { addr = 512; bytes = codes "he" } ∷ record { addr = 1024; bytes = codes "llo" } ∷ [];
      over = false;
      brk = 70;
    })
unfolding number_at byte_at row readv_row view taken with_table
reads-pieces = refl

-- and they are gone
reads-input : (after reads).files.stdin ≡ []
unfolding number_at byte_at row readv_row view taken with_table
reads-input = refl

-- writev(1, 64, 3), with the data behind the pieces
abbrev writes : Row
writes = reading 66 1 64 3 (three ++ codes "bye now")

writes-all : seen writes ≡ only 7
unfolding row writev_row write_row view with_table
writes-all = refl

writes-console : (after writes).console ≡ codes "> bye now"
unfolding row writev_row write_row view with_table
writes-console = refl

-- 1,025 pieces are too many; and no read from a descriptor that only writes, nor a write where only is read
pieces-refused :
    map seen (reading 65 0 64 1025 [] ∷ reading 66 1 64 1025 [] ∷ reading 65 1 64 3 three ∷ reading 66 0 64 3 (three ++ codes "bye now") ∷ [])
    ≡ map only (0xffff_ffea ∷ 0xffff_ffea ∷ 0xffff_fff7 ∷ 0xffff_fff7 ∷ [])
unfolding number_at byte_at row readv_row writev_row write_row view with_table refusal
pieces-refused = refl

-- ---- the caller

-- set_tid_address, getpid, gettid; and getppid
pids : map seen (call 96 0 0 0 ∷ call 172 0 0 0 ∷ call 178 0 0 0 ∷ call 173 0 0 0 ∷ []) ≡ map only (2 ∷ 2 ∷ 2 ∷ 1 ∷ [])
unfolding row
pids = refl

-- sched_yield is over
yields : seen (call 124 0 0 0) ≡ Some (record { value = 0; got = []; over = true; brk = 70 })
unfolding row yield_row
yields = refl

-- the break goes up to either end of its area, and stays where it is asked to go further
abbrev breaks : ℕ → ℕ → Type 0
breaks to brk = seen (call 214 to 0 0) ≡ Some (record { value = brk; got = []; over = false; brk = brk })

breaks-zero : breaks 0 70
unfolding row brk_row
breaks-zero = refl

breaks-low : breaks 63 70 × breaks 64 64
unfolding row brk_row
breaks-low = (refl, refl)

breaks-high : breaks 128 128 × breaks 129 70
unfolding row brk_row
breaks-high = (refl, refl)

-- ---- ENOSYS: no call of the profile, whatever its arguments

unknown : map seen (call 0 0 0 0 ∷ call 25 1 2 3 ∷ call 500 1 2 3 ∷ []) ≡ map only (0xffff_ffda ∷ 0xffff_ffda ∷ 0xffff_ffda ∷ [])
unfolding row refusal
unknown = refl

-- and nothing changes
unknown-leaves : after (call 500 1 2 3) ≡ rest
unfolding row
unknown-leaves = refl

-- Calls on files, computed from the definitions.
use Rattle.std.proofs.Common.{◌≡◌, ℕ, List, [], ◌∷◌, ◌++◌, Some, None, refl}
use Rattle.std.specs.Prelude.{replicate, codes, Option}
use Rattle.byte_words.specs.Pieces.{pieces}
use Rattle.page_runs.specs.declared.place.Kind.TheVariants.{First}
use Rattle.call_log.specs.Errno.{refusal}
use Rattle.call_log.specs.Notes.{GotRange}
use Rattle.mem_files.specs.Inodes.{Inodes, file, folder, new_inode, bytes_of}
use Rattle.mem_files.specs.Paths.{names, is_too_long, walked, place_of}
use Rattle.mem_files.specs.Changes.{held, written}
use Rattle.fd_tables.specs.Files.{nothing_open, view, lowest_free}
use Rattle.fd_tables.specs.Changes.{opened, moved, with_table}
use Rattle.vfork_exec.specs.declared.family.State.TheVariants.{Ready}
use Rattle.machine_world.specs.World.{Rest}
use Rattle.machine_world.specs.Asks.{Ask, Row, replies, waits}
use Rattle.machine_world.specs.Descriptors.{dirent, getdents_row, llseek_row}
use Rattle.machine_world.specs.Transfers.{read_row, write_row}
use Rattle.machine_world.specs.PathCalls.{path_of, openat_row}
use Rattle.machine_world.specs.Rows.{row}

-- the root with the folder /d, in which the file ab stands, and the file /f
abbrev tree : Inodes
tree =
    None
    ∷ Some (new_inode (folder 1 (record { name = codes "d"; id = 3 } ∷ record { name = codes "f"; id = 4 } ∷ [])) None)
    ∷ None
    ∷ Some (new_inode (folder 1 (record { name = codes "ab"; id = 5 } ∷ [])) None)
    ∷ Some (new_inode (file (codes "abc")) None)
    ∷ Some (new_inode (file []) None)
    ∷ []

abbrev pub rest : Rest
rest = record { pages = 4; kind = First; programs = []; tree = tree; files = with_table (nothing_open []); console = []; keep = 0 }

-- a call of the process with table 0, with what it read
abbrev pub ask : Rest → ℕ → List ℕ → List ℕ → Ask
ask r number args sent = record {
  process = record { pid = 1; parent = 0; regs = record { pc = 0; x = replicate 32 0 }; space = 0; table = 0; state = Ready };
  space = record { maps = []; brk = 0; brk_low = 0; brk_high = 0; bytes = λ a. None };
  spaces = [];
  rest = r;
  number = number;
  args = args;
  sent = sent;
}

-- what a call is answered and gives
pub record Seen : Type 0 where
  pub value : ℕ
  pub got : List GotRange

abbrev pub seen : Row → Option Seen
seen (replies r) = Some (record { value = r.value; got = r.got })
seen (waits who) = None

-- what is left behind it
abbrev pub rest_after : Row → Rest
rest_after (replies r) = r.rest
rest_after (waits who) = rest

-- openat(-100, path, flags), with the path and its zero
abbrev opens : Rest → List ℕ → ℕ → Row
opens r path flags = row (ask r 56 (0xffffff9c ∷ 0 ∷ flags ∷ 0 ∷ 0 ∷ 0 ∷ []) (path ++ 0 ∷ []))

-- ---- a listing

abbrev listing_open : Rest
listing_open = rest_after (opens rest (codes "/d") 0)

-- getdents64(3, 256, room)
abbrev lists : Rest → ℕ → Row
lists r room = row (ask r 61 (3 ∷ 256 ∷ room ∷ 0 ∷ 0 ∷ 0 ∷ []) [])

opens-folder : seen (opens rest (codes "/d") 0) ≡ Some (record { value = 3; got = [] })
unfolding row openat_row path_of pieces names is_too_long walked place_of held with_table view lowest_free opened
opens-folder = refl

lists-short : seen (lists listing_open 23) ≡ Some (record { value = 0xffffffea; got = [] })
unfolding row openat_row path_of pieces names is_too_long walked place_of held with_table view lowest_free opened getdents_row dirent moved refusal
lists-short = refl

lists-all :
    seen (lists listing_open 24)
    ≡ Some (record { value = 24; got = record { addr = 256; bytes = 5 ∷ replicate 7 0 ++ 1 ∷ replicate 7 0 ++ 24 ∷ 0 ∷ 8 ∷ 0x61 ∷ 0x62 ∷ 0 ∷ 0 ∷ 0 ∷ [] } ∷ [] })
unfolding row openat_row path_of pieces names is_too_long walked place_of held with_table view lowest_free opened getdents_row dirent moved refusal
lists-all = refl

lists-nothing : seen (lists (rest_after (lists listing_open 24)) 24) ≡ Some (record { value = 0; got = [] })
unfolding row openat_row path_of pieces names is_too_long walked place_of held with_table view lowest_free opened getdents_row dirent moved refusal
lists-nothing = refl

-- O_CREAT and O_EXCL of a file that is there
opens-exclusive : seen (opens rest (codes "/d/ab") 0xc1) ≡ Some (record { value = 0xffffffef; got = [] })
unfolding row openat_row path_of pieces names is_too_long walked place_of refusal
opens-exclusive = refl

-- ---- a write past the end

abbrev writing_open : Rest
writing_open = rest_after (opens rest (codes "/f") 2)

-- llseek(3, 0, 5, 256, 0)
abbrev seeks : Row
seeks = row (ask writing_open 62 (3 ∷ 0 ∷ 5 ∷ 256 ∷ 0 ∷ 0 ∷ []) [])

-- write(3, 512, 1) of `d`
abbrev writes : Row
writes = row (ask (rest_after seeks) 64 (3 ∷ 512 ∷ 1 ∷ 0 ∷ 0 ∷ 0 ∷ []) (codes "d"))

-- read(3, 512, 4)
abbrev reads : Row
reads = row (ask (rest_after writes) 63 (3 ∷ 512 ∷ 4 ∷ 0 ∷ 0 ∷ 0 ∷ []) [])

seeks-five : seen seeks ≡ Some (record { value = 0; got = record { addr = 256; bytes = 5 ∷ replicate 7 0 } ∷ [] })
unfolding row openat_row path_of pieces names is_too_long walked place_of held with_table view lowest_free opened llseek_row moved
seeks-five = refl

writes-one : seen writes ≡ Some (record { value = 1; got = [] })
unfolding row openat_row path_of pieces names is_too_long walked place_of held with_table view lowest_free opened llseek_row moved write_row written
writes-one = refl

fills-gap : bytes_of (rest_after writes).tree 4 ≡ codes "abc" ++ 0 ∷ 0 ∷ codes "d"
unfolding row openat_row path_of pieces names is_too_long walked place_of held with_table view lowest_free opened llseek_row moved write_row written
fills-gap = refl

reads-nothing : seen reads ≡ Some (record { value = 0; got = [] })
unfolding row openat_row path_of pieces names is_too_long walked place_of held with_table view lowest_free opened llseek_row moved write_row written read_row
reads-nothing = refl

-- Calls that map and unmap pages, computed from the definitions.
use Rattle.std.proofs.Common.{◌≡◌, ℕ, true, false, List, [], ◌∷◌, Option, Some, None, refl}
use Rattle.std.specs.Prelude.{replicate, codes, map}
use Rattle.page_runs.specs.declared.place.Kind.{Kind}
use Rattle.page_runs.specs.declared.place.Kind.TheVariants.{First, Best, Last}
use Rattle.page_runs.specs.Free.{free_runs}
use Rattle.page_runs.specs.Place.{place}
use Rattle.call_log.specs.Errno.{refusal}
use Rattle.nommu_regions.specs.declared.region.Source.TheVariants.{Own, Copy}
use Rattle.mmap_rules.specs.declared.mapping.Mapping.{Mapping}
use Rattle.mmap_rules.specs.Space.{Space, own_in}
use Rattle.mmap_rules.specs.Held.{block_mapping}
use Rattle.mmap_rules.specs.Want.{wanted}
use Rattle.mmap_rules.specs.Mappings.{run_mapping, part_mapping, file_pages, hit, without_hit}
use Rattle.region_watch.specs.Private.{only}
use Rattle.mem_files.specs.Inodes.{Inodes, file, folder, new_inode}
use Rattle.mem_files.specs.Changes.{held}
use Rattle.fd_tables.specs.Files.{nothing_open, view}
use Rattle.fd_tables.specs.Changes.{Storage, storage, opened, with_table}
use Rattle.vfork_exec.specs.declared.family.State.TheVariants.{Ready}
use Rattle.machine_world.specs.World.{Rest}
use Rattle.machine_world.specs.Free.{free_runs_in}
use Rattle.machine_world.specs.Asks.{Ask, Row, replies, waits}
use Rattle.machine_world.specs.MapCalls.{mmap2_row, munmap_row}
use Rattle.machine_world.specs.Rows.{row}

-- the root with the file /f, which was changed so often
abbrev tree : ℕ → Inodes
tree change =
    None
    ∷ Some (new_inode (folder 1 (record { name = codes "f"; id = 2 } ∷ [])) None)
    ∷ Some (record { content = file (codes "abc"); change = change; program = None; linked = true; holds = 0 })
    ∷ []

-- and which is open as descriptor 3, for reading and writing
abbrev open_file : ℕ → Storage
open_file change =
    opened (storage (tree change) (with_table (nothing_open []))) 0 3 2 (record { read = true; write = true; append = false; cloexec = false })

abbrev rest : (pages : ℕ) → Kind → (change : ℕ) → Rest
rest pages kind change =
    record { pages = pages; kind = kind; programs = []; tree = (open_file change).nodes; files = (open_file change).files; console = []; keep = 0 }

abbrev space : List Mapping → Space
space maps = record { maps = maps; brk = 0; brk_low = 0; brk_high = 0; bytes = λ a. None }

-- a call of the process with table 0, in the space with the first mappings, beside that with the others
abbrev ask : Rest → (own others : List Mapping) → ℕ → List ℕ → Ask
ask r own others number args = record {
  process = record { pid = 1; parent = 0; regs = record { pc = 0; x = replicate 32 0 }; space = 0; table = 0; state = Ready };
  space = space own;
  spaces = record { id = 1; space = space others } ∷ record { id = 0; space = space own } ∷ [];
  rest = r;
  number = number;
  args = args;
  sent = [];
}

-- what a call is answered, and the mappings that it leaves
pub record Seen : Type 0 where
  pub value : ℕ
  pub maps : List Mapping

abbrev seen : Row → Option Seen
seen (replies r) = Some (record { value = r.value; maps = r.space.maps })
seen (waits who) = None

abbrev gives : ℕ → List Mapping → Option Seen
gives value maps = Some (record { value = value; maps = maps })

-- the bytes that it leaves at some addresses
abbrev bytes_after : Row → List ℕ → List (Option ℕ)
bytes_after (replies r) addrs = map r.space.bytes addrs
bytes_after (waits who) addrs = []

-- mmap2(0, len, prot, flags, fd, page)
abbrev maps_file : Rest → (own others : List Mapping) → (len prot flags fd page : ℕ) → Option Seen
maps_file r own others len prot flags fd page = seen (row (ask r own others 222 (0 ∷ len ∷ prot ∷ flags ∷ fd ∷ page ∷ [])))

-- mmap2(0, len, 3, 0x22, -1, 0)
abbrev maps : Rest → (own others : List Mapping) → (len : ℕ) → Option Seen
maps r own others len = maps_file r own others len 3 0x22 0xffffffff 0

-- munmap(addr, len)
abbrev unmaps : Rest → (own others : List Mapping) → (addr len : ℕ) → Option Seen
unmaps r own others addr len = seen (row (ask r own others 215 (addr ∷ len ∷ 0 ∷ 0 ∷ 0 ∷ 0 ∷ [])))

-- the block at page 0, and behind it anonymous pages
abbrev block : Mapping
block = block_mapping 0 3

abbrev anonymous : (first pages : ℕ) → Mapping
anonymous first pages = run_mapping first pages true true Own

-- ---- eight pages and two blocks of three: pages are cut from a mapping of two, and mapped again

abbrev eight : Rest
eight = rest 8 First 0

abbrev beside : List Mapping
beside = block_mapping 3 3 ∷ []

with-cuts :
    maps eight (block ∷ []) beside 8192
    ∷ maps eight (block ∷ anonymous 6 2 ∷ []) beside 4096
    ∷ unmaps eight (block ∷ anonymous 6 2 ∷ []) beside 0x80006000 4096
    ∷ maps eight (block ∷ anonymous 7 1 ∷ []) beside 4096
    ∷ unmaps eight (block ∷ anonymous 7 1 ∷ anonymous 6 1 ∷ []) beside 0x80006000 8192
    ∷ unmaps eight (block ∷ anonymous 7 1 ∷ anonymous 6 1 ∷ []) beside 0x80007000 4096
    ∷ []
    ≡ gives 0x80006000 (block ∷ anonymous 6 2 ∷ [])
    ∷ gives 0xfffffff4 (block ∷ anonymous 6 2 ∷ [])
    ∷ gives 0 (block ∷ anonymous 7 1 ∷ [])
    ∷ gives 0x80006000 (block ∷ anonymous 7 1 ∷ anonymous 6 1 ∷ [])
    ∷ gives 0xffffffea (block ∷ anonymous 7 1 ∷ anonymous 6 1 ∷ [])
    ∷ gives 0 (block ∷ anonymous 6 1 ∷ [])
    ∷ []
unfolding row mmap2_row munmap_row wanted hit without_hit free_runs_in free_runs place refusal
with-cuts = refl

-- ---- the middle page of three goes, and both ends stay; nothing is cut from a file's mapping

abbrev sixteen : Rest
sixteen = rest 16 First 0

abbrev of_file : Mapping
of_file = run_mapping 3 2 true false Own

cuts-anonymous :
    maps sixteen (block ∷ []) [] 12288
    ∷ unmaps sixteen (block ∷ anonymous 3 3 ∷ []) [] 0x80004000 4096
    ∷ unmaps sixteen (block ∷ anonymous 3 1 ∷ anonymous 5 1 ∷ []) [] 0x80003000 12288
    ∷ maps sixteen (block ∷ anonymous 3 1 ∷ anonymous 5 1 ∷ []) [] 4096
    ∷ maps_file sixteen (block ∷ []) [] 8192 3 2 3 0
    ∷ unmaps sixteen (block ∷ of_file ∷ []) [] 0x80003000 4096
    ∷ []
    ≡ gives 0x80003000 (block ∷ anonymous 3 3 ∷ [])
    ∷ gives 0 (block ∷ anonymous 3 1 ∷ anonymous 5 1 ∷ [])
    ∷ gives 0xffffffea (block ∷ anonymous 3 1 ∷ anonymous 5 1 ∷ [])
    ∷ gives 0x80004000 (block ∷ anonymous 3 1 ∷ anonymous 5 1 ∷ anonymous 4 1 ∷ [])
    ∷ gives 0x80003000 (block ∷ of_file ∷ [])
    ∷ gives 0xffffffea (block ∷ of_file ∷ [])
    ∷ []
unfolding row mmap2_row munmap_row wanted hit without_hit free_runs_in free_runs place refusal view opened held with_table
cuts-anonymous = refl

-- the bytes of the middle page go, and all others stay
abbrev cuts_sevens : Ask
cuts_sevens = record (ask sixteen [] [] 215 (0x80004000 ∷ 4096 ∷ 0 ∷ 0 ∷ 0 ∷ 0 ∷ [])) {
  space = record (space (block ∷ anonymous 3 3 ∷ [])) { bytes = λ a. Some 7 };
}

keeps-ends :
    bytes_after (row cuts_sevens) (0x80000040 ∷ 0x80003fff ∷ 0x80004000 ∷ 0x80004fff ∷ 0x80005000 ∷ [])
    ≡ Some 7 ∷ Some 7 ∷ None ∷ None ∷ Some 7 ∷ []
unfolding row munmap_row hit without_hit only own_in
keeps-ends = refl

-- a file's bytes, and zeros behind them
reads-file :
    bytes_after (row (ask sixteen (block ∷ []) [] 222 (0 ∷ 8192 ∷ 1 ∷ 2 ∷ 3 ∷ 0 ∷ [])))
    (0x80003000 ∷ 0x80003001 ∷ 0x80003002 ∷ 0x80003003 ∷ 0x80005000 ∷ [])
    ≡ Some 0x61 ∷ Some 0x62 ∷ Some 0x63 ∷ Some 0 ∷ None ∷ []
unfolding row mmap2_row wanted free_runs_in free_runs place view opened held with_table file_pages
reads-file = refl

-- ---- pages of a file that aren't written stand once, until the file changes

abbrev copy : Mapping
copy = run_mapping 6 2 false false (Copy 2 0 0)

abbrev shared : (skip pages : ℕ) → Mapping
shared skip pages = part_mapping 6 2 (Copy 2 0 0) skip pages

shares-copy :
    maps_file sixteen (block ∷ []) beside 5000 1 2 3 0
    ∷ maps_file sixteen beside (block ∷ copy ∷ []) 5000 1 2 3 0
    ∷ maps_file sixteen (block ∷ copy ∷ []) (block_mapping 3 3 ∷ shared 0 2 ∷ []) 100 1 2 3 1
    ∷ maps_file (rest 16 First 1) (block ∷ copy ∷ shared 1 1 ∷ []) (block_mapping 3 3 ∷ shared 0 2 ∷ []) 5000 1 2 3 0
    ∷ []
    ≡ gives 0x80006000 (block ∷ copy ∷ [])
    ∷ gives 0x80006000 (block_mapping 3 3 ∷ shared 0 2 ∷ [])
    ∷ gives 0x80007000 (block ∷ copy ∷ shared 1 1 ∷ [])
    ∷ gives 0x80008000 (block ∷ copy ∷ shared 1 1 ∷ run_mapping 8 2 false false (Copy 2 1 0) ∷ [])
    ∷ []
unfolding row mmap2_row wanted free_runs_in free_runs place view opened held with_table
shares-copy = refl

-- ---- refusals: no length, MAP_FIXED, both kinds of sharing, a closed descriptor, a file that is to be shared, no length and a closed
-- descriptor, and pages that no file has

refuses :
    maps_file sixteen (block ∷ []) [] 0 3 2 3 0
    ∷ maps_file sixteen (block ∷ []) [] 4096 3 0x32 0xffffffff 0
    ∷ maps_file sixteen (block ∷ []) [] 4096 3 3 3 0
    ∷ maps_file sixteen (block ∷ []) [] 4096 3 2 9 0
    ∷ maps_file sixteen (block ∷ []) [] 4096 3 1 3 0
    ∷ maps_file sixteen (block ∷ []) [] 0 3 2 9 0
    ∷ maps_file sixteen (block ∷ []) [] 8192 3 2 3 0xffffffff
    ∷ []
    ≡ gives 0xffffffea (block ∷ [])
    ∷ gives 0xffffffea (block ∷ [])
    ∷ gives 0xffffffea (block ∷ [])
    ∷ gives 0xfffffff7 (block ∷ [])
    ∷ gives 0xffffffed (block ∷ [])
    ∷ gives 0xffffffea (block ∷ [])
    ∷ gives 0xffffffb5 (block ∷ [])
    ∷ []
unfolding row mmap2_row wanted refusal view opened held with_table
refuses = refl

-- ---- all pages behind the block are mapped at once

fills-memory :
    maps eight (block ∷ []) [] 20480
    ∷ maps eight (block ∷ anonymous 3 5 ∷ []) [] 1
    ∷ unmaps eight (block ∷ anonymous 3 5 ∷ []) [] 0x80003000 20480
    ∷ maps eight (block ∷ []) [] 1
    ∷ []
    ≡ gives 0x80003000 (block ∷ anonymous 3 5 ∷ [])
    ∷ gives 0xfffffff4 (block ∷ anonymous 3 5 ∷ [])
    ∷ gives 0 (block ∷ [])
    ∷ gives 0x80003000 (block ∷ anonymous 3 1 ∷ [])
    ∷ []
unfolding row mmap2_row munmap_row wanted hit without_hit free_runs_in free_runs place refusal
fills-memory = refl

-- ---- of ten pages one is free at 3 and two at 8, and then two at 3 and one at 8

abbrev long_last : List Mapping
long_last = block_mapping 4 4 ∷ []

abbrev short_last : List Mapping
short_last = block_mapping 5 3 ∷ anonymous 9 1 ∷ []

free-runs :
    map (λ others. free_runs_in 10 (ask (rest 10 First 0) (block ∷ []) others 222 []).spaces) (long_last ∷ short_last ∷ [])
    ≡ (record { first = 3; count = 1 } ∷ record { first = 8; count = 2 } ∷ [])
    ∷ (record { first = 3; count = 2 } ∷ record { first = 8; count = 1 } ∷ []) ∷ []
unfolding free_runs_in free_runs
free-runs = refl

three-placements :
    maps (rest 10 First 0) (block ∷ []) long_last 4096
    ∷ maps (rest 10 Best 0) (block ∷ []) long_last 4096
    ∷ maps (rest 10 Last 0) (block ∷ []) long_last 4096
    ∷ maps (rest 10 First 0) (block ∷ []) short_last 4096
    ∷ maps (rest 10 Best 0) (block ∷ []) short_last 4096
    ∷ maps (rest 10 Last 0) (block ∷ []) short_last 4096
    ∷ []
    ≡ gives 0x80003000 (block ∷ anonymous 3 1 ∷ [])
    ∷ gives 0x80003000 (block ∷ anonymous 3 1 ∷ [])
    ∷ gives 0x80008000 (block ∷ anonymous 8 1 ∷ [])
    ∷ gives 0x80003000 (block ∷ anonymous 3 1 ∷ [])
    ∷ gives 0x80008000 (block ∷ anonymous 8 1 ∷ [])
    ∷ gives 0x80008000 (block ∷ anonymous 8 1 ∷ [])
    ∷ []
unfolding row mmap2_row wanted free_runs_in free_runs place
three-placements = refl

-- ---- a block stays: its own range begins behind its header, and no page of it is anonymous

keeps-block :
    unmaps eight (block ∷ []) [] 0x80000000 12288
    ∷ unmaps eight (block ∷ []) [] 0x80000040 12224
    ∷ unmaps eight (block ∷ []) [] 0x80001000 4096
    ∷ []
    ≡ gives 0xffffffea (block ∷ [])
    ∷ gives 0xffffffea (block ∷ [])
    ∷ gives 0xffffffea (block ∷ [])
    ∷ []
unfolding row munmap_row hit refusal
keeps-block = refl

-- mmap2 and munmap (Linux, mmap(2), munmap(2); "No-MMU memory mapping support", Documentation/admin-guide/mm/nommu-mmap.rst, in
-- this project's profile).
use Rattle.std.specs.Prelude.{ℕ, ◌-◌, Bool, true, false, nat_le, if◌then◌else◌, List, [], ◌∷◌, ◌++◌, Option, Some, None, option_map}
use Rattle.byte_words.specs.ByteMap.{with_bytes}
use Rattle.page_runs.specs.declared.place.Kind.{Kind}
use Rattle.page_runs.specs.declared.run.Run.{Run}
use Rattle.page_runs.specs.Place.{place, first_of}
use Rattle.call_log.specs.declared.errno.Errno.TheVariants.{Einval, Enomem}
use Rattle.nommu_regions.specs.declared.region.Source.TheVariants.{Own, Copy}
use Rattle.nommu_regions.specs.Regions.{copy_covers}
use Rattle.mmap_rules.specs.declared.mapping.Mapping.{Mapping}
use Rattle.mmap_rules.specs.declared.want.FileSide.{FileSide}
use Rattle.mmap_rules.specs.declared.want.FileSide.TheVariants as side
use Rattle.mmap_rules.specs.declared.want.Want.{Want}
use Rattle.mmap_rules.specs.declared.want.Want.TheVariants.{Anon, File}
use Rattle.mmap_rules.specs.Space.{Space, own_in}
use Rattle.mmap_rules.specs.Want.{wanted}
use Rattle.mmap_rules.specs.Mappings.{run_mapping, part_mapping, copied_from, Hit, hit, without_hit}
use Rattle.mmap_rules.specs.Copies.{wanted_bytes, pages_of}
use Rattle.region_watch.specs.Private.{only}
use Rattle.mem_files.specs.Inodes.{Content, file, folder, Inode, Inodes, inode_at}
use Rattle.fd_tables.specs.declared.view.View.{View}
use Rattle.fd_tables.specs.declared.view.Target.{Target}
use Rattle.fd_tables.specs.declared.view.Target.TheVariants.{Console, Node, Pipe}
use Rattle.machine_world.specs.World.{LiveSpace}
use Rattle.machine_world.specs.Free.{free_runs_in}
use Rattle.machine_world.specs.Asks.{Ask, arg, Row, leaves, refuses, with_ok, view_of}

-- ---- what a descriptor leads to

abbrev pub side_of_content : (id change : ℕ) → (reads : Bool) → Content → FileSide
side_of_content id change reads (folder parent entries) = side.NotFile
side_of_content id change false (file bytes) = side.NoRead
side_of_content id change true (file bytes) = side.File id change

abbrev pub side_of_node : ℕ → (reads : Bool) → Option Inode → FileSide
side_of_node id reads (Some n) = side_of_content id n.change reads n.content
side_of_node id reads None = side.Closed

abbrev pub side_of_target : Inodes → (reads : Bool) → Target → FileSide
side_of_target nodes reads Console = side.NotFile
side_of_target nodes reads (Pipe id write) = side.NotFile
side_of_target nodes reads (Node id) = side_of_node id reads (inode_at nodes id)

abbrev pub side_of : Inodes → Option View → FileSide
side_of nodes None = side.Closed
side_of nodes (Some v) = side_of_target nodes v.way.read v.target

-- ---- a copy that is there

-- all mappings of all live spaces
abbrev pub all_maps : List LiveSpace → List Mapping
all_maps [] = []
all_maps (s ∷ ss) = s.space.maps ++ all_maps ss

-- the one with the lowest run
abbrev pub lower : Mapping → Option Mapping → Option Mapping
lower m None = Some m
lower m (Some n) = if nat_le m.first n.first then Some m else Some n

abbrev pub lowest : (Mapping → Bool) → List Mapping → Option Mapping
lowest test [] = None
lowest test (m ∷ ms) = if test m then lower m (lowest test ms) else lowest test ms

-- a copy of these pages of the file, as it is at this change count
abbrev pub has_pages : (id change first pages : ℕ) → Mapping → Bool
has_pages id change first pages m = copy_covers id change first pages m.source m.pages

-- pages of the copy that a mapping holds, from the file's page `first` on
abbrev pub shared : (first pages : ℕ) → Mapping → Mapping
shared first pages m = part_mapping m.first m.pages m.source (first - copied_from m.source) pages

-- pages of a file that aren't written are shared with the lowest copy that has them
abbrev pub in_copy : List LiveSpace → Want → Option Mapping
in_copy spaces (Anon pages) = None
in_copy spaces (File pages first true id change) = None
in_copy spaces (File pages first false id change) = option_map (shared first pages) (lowest (has_pages id change first pages) (all_maps spaces))

-- ---- a run of its own

-- that begins at a page
abbrev pub own_run : Want → ℕ → Mapping
own_run (Anon pages) page = run_mapping page pages true true Own
own_run (File pages first true id change) page = run_mapping page pages true false Own
own_run (File pages first false id change) page = run_mapping page pages false false (Copy id change first)

-- in the free run that is chosen
abbrev pub in_free_run : Kind → List Run → Want → Option Mapping
in_free_run kind runs want = option_map (own_run want) (first_of runs (place kind runs (pages_of want)))

-- ---- mmap2

-- a mapping more, the newest, with these bytes
abbrev pub with_mapping : Space → Mapping → List ℕ → Space
with_mapping s m bytes = record s { maps = s.maps ++ m ∷ []; bytes = with_bytes s.bytes m.range.from bytes }

-- ENOMEM where a run of its own is needed and none is long enough
abbrev pub maps : Ask → Want → Option Mapping → Row
maps a want (Some m) = leaves a m.range.from (with_mapping a.space m (wanted_bytes a.rest.tree want))
maps a want None = refuses a Enomem

abbrev pub or_own : Option Mapping → Option Mapping → Option Mapping
or_own (Some m) own = Some m
or_own None own = own

abbrev pub mapped : Ask → Want → Row
mapped a want = maps a want (or_own (in_copy a.spaces want) (in_free_run a.rest.kind (free_runs_in a.rest.pages a.spaces) want))

abbrev pub file_side : Ask → FileSide
file_side a = side_of a.rest.tree (view_of a (arg a 4))

unfoldable pub mmap2_row : Ask → Row
mmap2_row a = with_ok a (wanted (arg a 0) (arg a 1) (arg a 2) (arg a 3) (arg a 5) (file_side a)) (mapped a)

-- ---- munmap

-- a byte stays where an own range has it
abbrev pub over_maps : Space → List Mapping → Space
over_maps s maps = record s { maps = maps; bytes = only (own_in maps) s.bytes }

-- EINVAL where no mapping is hit
abbrev pub unmaps : Ask → Option Hit → Row
unmaps a (Some h) = leaves a 0 (over_maps a.space (without_hit a.space.maps h))
unmaps a None = refuses a Einval

unfoldable pub munmap_row : Ask → Row
munmap_row a = unmaps a (hit a.space.maps (arg a 0) (arg a 1))

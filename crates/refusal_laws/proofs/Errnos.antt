-- ENOMEM among the errnos: no fault of a path, a descriptor, a child or a wanted mapping is ENOMEM.
use Rattle.std.proofs.Common.{◌≡◌, ℕ, ◌+◌, ◌^◌, Bool, true, false, not, ◌||◌, List, [], ◌∷◌, length, Option, Some, None, Result, Ok, Err, refl, arith}
use Rattle.std.specs.Prelude.{◌==◌, ◌&&◌, nat_lt, nat_le, if◌then◌else◌, is_some}
use Rattle.byte_words.specs.Search.{first}
use Rattle.call_log.specs.declared.errno.Errno.{Errno}
use Rattle.call_log.specs.declared.errno.Errno.TheVariants.{Enoent, E2big, Ebadf, Echild, Eagain, Enomem, Eacces, Eexist, Enodev, Enotdir, Eisdir, Einval, Emfile, Enotty, Efbig, Enospc, Espipe, Epipe, Enametoolong, Enosys, Enotempty, Eoverflow}
use Rattle.call_log.specs.Errno.{refusal}
use Rattle.call_log.specs.Flags.{has_flag}
use Rattle.mem_files.specs.declared.node.Node.{Node}
use Rattle.mem_files.specs.declared.node.Node.TheVariants.{Dir, File}
use Rattle.mem_files.specs.Inodes.{Content, file, folder, Inodes, inode_at, content_in, bytes_in, new_inode, kind_of, size_of, program_of, most_nodes, most_of_one, most_of_all, node_count, byte_count}
use Rattle.mem_files.specs.Paths.{Place, start, names, is_too_long, looked_up, next_place, then_walked, walked, place_of, id_in, lookup}
use Rattle.mem_files.specs.Changes.{with_change, with_bytes, overwritten, or_no_space, written, with_new, made_in, made_at, with_folder, with_file, may_be_entry, unnamed, naming_fault, unless_fault, unnamed_at, unlinked}
use Rattle.mmap_rules.specs.declared.want.FileSide.{FileSide}
use Rattle.mmap_rules.specs.declared.want.FileSide.TheVariants as side
use Rattle.mmap_rules.specs.declared.want.Want.TheVariants as want
use Rattle.mmap_rules.specs.Want.{pages_for, map_shared, map_private, map_fixed, map_anonymous, prot_write, of_side, shared_side, wanted_file, just_one, wanted}
use Rattle.fd_tables.specs.declared.view.View.{View}
use Rattle.fd_tables.specs.Files.{most_descriptors}
use Rattle.fd_tables.specs.Calls.{dup_number, dup3_fault, close_fault}
use Rattle.vfork_exec.specs.declared.family.Ended.{Ended}
use Rattle.vfork_exec.specs.Families.{told}
use Rattle.machine_world.specs.World.{Rest}
use Rattle.machine_world.specs.Found.{Found, found_mark}
use Rattle.machine_world.specs.Asks.{Ask, arg}
use Rattle.machine_world.specs.PathCalls.{is_relative, path_fault, creates, exclusive, asks_folder, writes, is_dir, open_fault}
use Rattle.machine_world.specs.FamilyCalls.{are_options, waitid_fault, or_eacces, runs_node, runs}

abbrev pub is_enomem : Errno → Bool
is_enomem Enoent = false
is_enomem E2big = false
is_enomem Ebadf = false
is_enomem Echild = false
is_enomem Eagain = false
is_enomem Enomem = true
is_enomem Eacces = false
is_enomem Eexist = false
is_enomem Enodev = false
is_enomem Enotdir = false
is_enomem Eisdir = false
is_enomem Einval = false
is_enomem Emfile = false
is_enomem Enotty = false
is_enomem Efbig = false
is_enomem Enospc = false
is_enomem Espipe = false
is_enomem Epipe = false
is_enomem Enametoolong = false
is_enomem Enosys = false
is_enomem Enotempty = false
is_enomem Eoverflow = false

-- no other errno has its number
pub same_number : (e : Errno) → refusal e ≡ refusal Enomem → is_enomem e ≡ true
unfolding refusal
same_number Enoent same = absurd (omega (arith, same))
same_number E2big same = absurd (omega (arith, same))
same_number Ebadf same = absurd (omega (arith, same))
same_number Echild same = absurd (omega (arith, same))
same_number Eagain same = absurd (omega (arith, same))
same_number Enomem same = refl
same_number Eacces same = absurd (omega (arith, same))
same_number Eexist same = absurd (omega (arith, same))
same_number Enodev same = absurd (omega (arith, same))
same_number Enotdir same = absurd (omega (arith, same))
same_number Eisdir same = absurd (omega (arith, same))
same_number Einval same = absurd (omega (arith, same))
same_number Emfile same = absurd (omega (arith, same))
same_number Enotty same = absurd (omega (arith, same))
same_number Efbig same = absurd (omega (arith, same))
same_number Enospc same = absurd (omega (arith, same))
same_number Espipe same = absurd (omega (arith, same))
same_number Epipe same = absurd (omega (arith, same))
same_number Enametoolong same = absurd (omega (arith, same))
same_number Enosys same = absurd (omega (arith, same))
same_number Enotempty same = absurd (omega (arith, same))
same_number Eoverflow same = absurd (omega (arith, same))

-- ---- any other errno, if there is one

abbrev pub Other : Option Errno → Type 0
Other None = Unit {0}
Other (Some e) = is_enomem e ≡ false

abbrev pub OtherErr : {A : Type 0} → Result A Errno → Type 0
OtherErr (Ok x) = Unit {0}
OtherErr (Err e) = is_enomem e ≡ false

module _ {A : Type 0} where
  other_if : (b : Bool) (x y : Result A Errno) → OtherErr x → OtherErr y → OtherErr (if b then x else y)
  other_if true x y hx hy = hx
  other_if false x y hx hy = hy

-- ---- paths

other_looked_up : (at : ℕ) (name : List ℕ) (c : Content) → OtherErr (looked_up at name c)
other_looked_up at name (folder parent entries) = tt
other_looked_up at name (file bytes) = refl

other_next : (ns : Inodes) (name : List ℕ) (o : Option ℕ) → OtherErr (next_place ns name o)
other_next ns name None = refl
other_next ns name (Some at) = other_looked_up at name (content_in (inode_at ns at))

other_then : (r : Result Place Errno) (more : Place → Result Place Errno) → OtherErr r → ((p : Place) → OtherErr (more p)) → OtherErr (then_walked r more)
other_then (Ok p) more h on = on p
other_then (Err e) more h on = h

other_walked : (ns : Inodes) (names : List (List ℕ)) (p : Place) → OtherErr (walked ns names p)
unfolding walked
other_walked ns [] p = tt
other_walked ns (name ∷ more) p = other_then (next_place ns name p.id) (walked ns more) (other_next ns name p.id) (λ q. other_walked ns more q)

pub other_place : (ns : Inodes) (path : List ℕ) → OtherErr (place_of ns path)
unfolding place_of
other_place ns path =
    other_if (is_too_long path) (Err Enametoolong) _ refl (other_if (length path == 0) (Err Enoent) (walked ns (names path) start) refl (other_walked ns (names path) start))

pub other_lookup : (ns : Inodes) (path : List ℕ) → OtherErr (lookup ns path)
other_lookup ns path = by (place_of ns path) (other_place ns path)
  where
    by : (r : Result Place Errno) → OtherErr r → OtherErr (id_in r)
    by (Ok p) h = tt
    by (Err e) h = h

other_no_space : (ns : Inodes) → OtherErr (or_no_space ns)
other_no_space ns = other_if (nat_le (node_count ns) most_nodes && nat_le (byte_count ns) most_of_all) (Ok ns) (Err Enospc) tt refl

pub other_written : (ns : Inodes) (id at : ℕ) (bytes : List ℕ) → OtherErr (written ns id at bytes)
unfolding written
other_written ns id at bytes =
    other_if (length bytes == 0) (Ok ns) _ tt
    (other_if (nat_lt most_of_one (at + length bytes)) (Err Efbig) _ refl
    (other_no_space (with_change (λ n. Some (with_bytes (overwritten at bytes) n)) ns id)))

other_made_in : (ns : Inodes) (p : Place) (content : Content) (program : Option ℕ) → OtherErr (made_in ns p content program)
other_made_in ns p content program =
    other_if (nat_lt most_of_one (length (bytes_in content))) (Err Efbig) _ refl (other_no_space (with_new ns p.folder p.name (new_inode content program)))

other_made : (content : ℕ → Content) (program : Option ℕ) (ns : Inodes) (r : Result Place Errno) → OtherErr r → OtherErr (made_at content program ns r)
other_made content program ns (Err e) h = h
other_made content program ns (Ok p) h = at p.id
  where
    at : (id : Option ℕ) → OtherErr (made_at content program ns (Ok (record { id = id; folder = p.folder; name = p.name })))
    at (Some id) = refl
    at None = other_made_in ns (record { id = None; folder = p.folder; name = p.name }) (content p.folder) program

pub other_folder : (ns : Inodes) (path : List ℕ) → OtherErr (with_folder ns path)
unfolding with_folder
other_folder ns path = other_made (λ parent. folder parent []) None ns (place_of ns path) (other_place ns path)

pub other_file : (ns : Inodes) (path bytes : List ℕ) (program : Option ℕ) → OtherErr (with_file ns path bytes program)
unfolding with_file
other_file ns path bytes program = other_made (λ parent. file bytes) program ns (place_of ns path) (other_place ns path)

other_naming : (dir : Bool) (kind : Node) (size : ℕ) (now : Inodes) → OtherErr (unless_fault (naming_fault dir kind size) now)
other_naming false Dir size now = refl
other_naming true Dir size now = by (size == 0)
  where
    by : (b : Bool) → OtherErr (unless_fault (if b then None else Some Enotempty) now)
    by true = tt
    by false = refl
other_naming true File size now = refl
other_naming false File size now = tt

other_unnamed : (dir : Bool) (ns : Inodes) (r : Result Place Errno) → OtherErr r → OtherErr (unnamed_at dir ns r)
other_unnamed dir ns (Err e) h = h
other_unnamed dir ns (Ok p) h = at p.id
  where
    at : (id : Option ℕ) → OtherErr (unnamed_at dir ns (Ok (record { id = id; folder = p.folder; name = p.name })))
    at (Some id) =
        other_if (may_be_entry p.name) (unless_fault (naming_fault dir (kind_of ns id) (size_of ns id)) (unnamed ns (record { id = Some id; folder = p.folder; name = p.name }) id)) (Err Einval)
        (other_naming dir (kind_of ns id) (size_of ns id) _) refl
    at None = other_if (may_be_entry p.name) (Err Enoent) (Err Einval) refl refl

pub other_unlinked : (ns : Inodes) (path : List ℕ) (dir : Bool) → OtherErr (unlinked ns path dir)
unfolding unlinked
other_unlinked ns path dir = other_unnamed dir ns (place_of ns path) (other_place ns path)

pub other_path : (from : ℕ) (path : List ℕ) → Other (path_fault from path)
other_path from path = by (is_too_long path) (is_relative from path)
  where
    by : (x y : Bool) → Other (first ((x, Enametoolong) ∷ (y, Ebadf) ∷ []))
    by true y = refl
    by false true = refl
    by false false = tt

pub other_open : (ns : Inodes) (node flags : ℕ) → Other (open_fault ns node flags)
other_open ns node flags =
    by (creates flags && exclusive flags) (is_dir (kind_of ns node) && (writes flags || creates flags)) (not (is_dir (kind_of ns node)) && asks_folder flags)
    (is_some (program_of ns node) && writes flags)
  where
    by : (x y z u : Bool) → Other (first ((x, Eexist) ∷ (y, Eisdir) ∷ (z, Enotdir) ∷ (u, Eacces) ∷ []))
    by true y z u = refl
    by false true z u = refl
    by false false true u = refl
    by false false false true = refl
    by false false false false = tt

-- ---- descriptors

pub other_dup : (v : Option View) (free : Option ℕ) → OtherErr (dup_number v free)
other_dup None free = refl
other_dup (Some v) None = refl
other_dup (Some v) (Some free) = tt

pub other_dup3 : (v : Option View) (old new : ℕ) → Other (dup3_fault v old new)
other_dup3 v old new = by (old == new) (not (is_some v)) (not (nat_lt new most_descriptors))
  where
    by : (x y z : Bool) → Other (first ((x, Einval) ∷ (y, Ebadf) ∷ (z, Ebadf) ∷ []))
    by true y z = refl
    by false true z = refl
    by false false true = refl
    by false false false = tt

pub other_close : (v : Option View) → Other (close_fault v)
other_close (Some v) = tt
other_close None = refl

-- ---- mappings

other_side : (pages first : ℕ) (write : Bool) (s : FileSide) → OtherErr (of_side pages first write s)
other_side pages first write side.Closed = refl
other_side pages first write side.NotFile = refl
other_side pages first write side.NoRead = refl
other_side pages first write (side.File id change) = tt

other_shared : (s : FileSide) → OtherErr (shared_side s)
other_shared side.Closed = refl
other_shared side.NotFile = refl
other_shared side.NoRead = refl
other_shared (side.File id change) = refl

other_wanted_file : (pages prot flags first : ℕ) (s : FileSide) → OtherErr (wanted_file pages prot flags first s)
other_wanted_file pages prot flags first s =
    other_if (nat_lt (2 ^ 32) (first + pages)) (Err Eoverflow) _ refl
    (other_if (has_flag flags map_shared) (shared_side s) _ (other_shared s) (other_side pages first (has_flag prot prot_write) s))

pub other_wanted : (addr len prot flags first : ℕ) (s : FileSide) → OtherErr (wanted addr len prot flags first s)
unfolding wanted
other_wanted addr len prot flags first s =
    other_if (len == 0) (Err Einval) _ refl
    (other_if (has_flag flags map_fixed || not (addr == 0)) (Err Einval) _ refl
    (other_if (not (just_one (has_flag flags map_shared) (has_flag flags map_private))) (Err Einval) _ refl
    (other_if (has_flag flags map_anonymous) (Ok (want.Anon (pages_for len))) _ tt (other_wanted_file (pages_for len) prot flags first s))))

-- ---- children and programs

pub other_waitid : (a : Ask) → Other (waitid_fault a)
other_waitid a = by (nat_lt 1 (arg a 0)) (not (are_options (arg a 3))) (not (arg a 4 == 0))
  where
    by : (x y z : Bool) → Other (first ((x, Einval) ∷ (y, Einval) ∷ (z, Einval) ∷ []))
    by true y z = refl
    by false true z = refl
    by false false true = refl
    by false false false = tt

pub other_told : (o : Option Ended) (has_child may_wait : Bool) → OtherErr (told o has_child may_wait)
unfolding told
other_told (Some e) has_child may_wait = tt
other_told None false may_wait = refl
other_told None true true = tt
other_told None true false = tt

pub other_runs : (rest : Rest) (path : List ℕ) → OtherErr (runs rest path)
other_runs rest path = by (lookup rest.tree path) (other_lookup rest.tree path)
  where
    marked : (o : Option Found) → OtherErr (or_eacces o)
    marked (Some f) = tt
    marked None = refl

    by : (r : Result (Option ℕ) Errno) → OtherErr r → OtherErr (runs_node rest r)
    by (Ok (Some node)) h = marked (found_mark rest.programs (program_of rest.tree node))
    by (Ok None) h = refl
    by (Err e) h = h

-- Calls that make folders and let names go, computed from the definitions.
use Rattle.std.proofs.Common.{◌≡◌, ℕ, List, [], ◌∷◌, ◌++◌, map, None, refl}
use Rattle.std.specs.Prelude.{codes}
use Rattle.byte_words.specs.Pieces.{pieces}
use Rattle.call_log.specs.Errno.{refusal}
use Rattle.mem_files.specs.Inodes.{Entry, inode_at, entries_of}
use Rattle.mem_files.specs.Paths.{names, is_too_long, walked, place_of}
use Rattle.mem_files.specs.Changes.{with_folder, unlinked}
use Rattle.machine_world.specs.Asks.{Row}
use Rattle.machine_world.specs.PathCalls.{path_of, mkdirat_row, unlinkat_row}
use Rattle.machine_world.specs.Rows.{row}
use Rattle.definition_samples.proofs.CallSamples.{reading, seen, only, after}

-- mkdirat(-100, path, 0) and unlinkat(-100, path, flags)
abbrev makes : List ℕ → Row
makes path = reading 34 0xffff_ff9c 64 0 (path ++ 0 ∷ [])

abbrev unlinks : List ℕ → ℕ → Row
unlinks path flags = reading 35 0xffff_ff9c 64 flags (path ++ 0 ∷ [])

abbrev entry : List ℕ → ℕ → Entry
entry name id = record { name = name; id = id }

makes-folder : seen (makes (codes "/d/e")) ≡ only 0
unfolding row mkdirat_row path_of pieces names is_too_long walked place_of with_folder
makes-folder = refl

makes-entry : map (entries_of (after (makes (codes "/d/e"))).tree) (2 ∷ 5 ∷ []) ≡ (entry (codes "ab") 3 ∷ entry (codes "e") 5 ∷ []) ∷ [] ∷ []
unfolding row mkdirat_row path_of pieces names is_too_long walked place_of with_folder
makes-entry = refl

-- EEXIST, ENOENT, ENOTDIR, and EBADF for a path that begins at a descriptor
makes-refused :
    map seen (makes (codes "/d") ∷ makes (codes "/no/e") ∷ makes (codes "/f/e") ∷ reading 34 3 64 0 (codes "e" ++ 0 ∷ []) ∷ [])
    ≡ map only (0xffff_ffef ∷ 0xffff_fffe ∷ 0xffff_ffec ∷ 0xffff_fff7 ∷ [])
unfolding row mkdirat_row path_of pieces names is_too_long walked place_of with_folder refusal
makes-refused = refl

unlinks-file : seen (unlinks (codes "/f") 0) ≡ only 0
unfolding row unlinkat_row path_of pieces names is_too_long walked place_of unlinked
unlinks-file = refl

unlinks-entry : entries_of (after (unlinks (codes "/f") 0)).tree 1 ≡ entry (codes "d") 2 ∷ []
unfolding row unlinkat_row path_of pieces names is_too_long walked place_of unlinked
unlinks-entry = refl

unlinks-node : inode_at (after (unlinks (codes "/f") 0)).tree 4 ≡ None
unfolding row unlinkat_row path_of pieces names is_too_long walked place_of unlinked
unlinks-node = refl

-- other flags, nothing there, a folder, a folder that isn't empty, and a file as a folder
unlinks-refused :
    map seen (unlinks (codes "/f") 1 ∷ unlinks (codes "/no") 0 ∷ unlinks (codes "/d") 0 ∷ unlinks (codes "/d") 0x200 ∷ unlinks (codes "/f") 0x200 ∷ [])
    ≡ map only (0xffff_ffea ∷ 0xffff_fffe ∷ 0xffff_ffeb ∷ 0xffff_ffd9 ∷ 0xffff_ffec ∷ [])
unfolding row unlinkat_row path_of pieces names is_too_long walked place_of unlinked refusal
unlinks-refused = refl

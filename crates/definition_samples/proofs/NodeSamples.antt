-- Nodes: a file that loses its bytes, and names that go.
use Rattle.std.proofs.Common.{◌≡◌, ℕ, Bool, true, false, List, [], ◌∷◌, map, Option, Some, None, refl}
use Rattle.std.specs.Prelude.{codes, Ok, Err}
use Rattle.byte_words.specs.Pieces.{pieces}
use Rattle.call_log.specs.declared.errno.Errno.{Errno}
use Rattle.call_log.specs.declared.errno.Errno.TheVariants.{Enoent, Enotdir, Eisdir, Einval, Enotempty}
use Rattle.mem_files.specs.Inodes.{Entry, Inode, Inodes, file, folder, new_inode}
use Rattle.mem_files.specs.Paths.{names, is_too_long, walked, place_of}
use Rattle.mem_files.specs.Changes.{written, truncated, unlinked}

-- ---- the folder /d with the file e, which `holds` open files hold, and the empty folder /g

abbrev entry : List ℕ → ℕ → Entry
entry name id = record { name = name; id = id }

abbrev node : List ℕ → (change holds : ℕ) → (linked : Bool) → Inode
node bytes change holds linked = record { content = file bytes; change = change; program = None; linked = linked; holds = holds }

abbrev tree : List Entry → List Entry → Option Inode → Option Inode → Inodes
tree top in_d e g = None ∷ Some (new_inode (folder 1 top) None) ∷ Some (new_inode (folder 1 in_d) None) ∷ e ∷ g ∷ []

abbrev both : List Entry
both = entry (codes "d") 2 ∷ entry (codes "g") 4 ∷ []

abbrev in_d : List Entry
in_d = entry (codes "e") 3 ∷ []

abbrev empty : Option Inode
empty = Some (new_inode (folder 1 []) None)

abbrev before : (holds : ℕ) → Inodes
before holds = tree both in_d (Some (node (codes "abc") 5 holds true)) empty

-- ---- truncated: the change counts

truncates : truncated (before 0) 3 ≡ tree both in_d (Some (node [] 6 0 true)) empty
unfolding truncated
truncates = refl

-- a folder, number 0, and a number behind the last
truncates-nothing : map (truncated (before 0)) (2 ∷ 0 ∷ 9 ∷ []) ≡ before 0 ∷ before 0 ∷ before 0 ∷ []
unfolding truncated
truncates-nothing = refl

-- a write behind the end then leaves zeros in front of it
writes-behind : written (truncated (before 0) 3) 3 2 (codes "z") ≡ Ok (tree both in_d (Some (node (0 ∷ 0 ∷ 122 ∷ []) 7 0 true)) empty)
unfolding truncated written
writes-behind = refl

-- ---- unlinked

-- the file goes, unless an open file holds it: then nothing names it
unlinks : unlinked (before 0) (codes "/d/e") false ≡ Ok (tree both [] None empty)
unfolding pieces names is_too_long walked place_of unlinked
unlinks = refl

unlinks-held : unlinked (before 2) (codes "/d/e") false ≡ Ok (tree both [] (Some (node (codes "abc") 5 2 false)) empty)
unfolding pieces names is_too_long walked place_of unlinked
unlinks-held = refl

unlinks-folder : unlinked (before 0) (codes "/g") true ≡ Ok (tree (entry (codes "d") 2 ∷ []) in_d (Some (node (codes "abc") 5 0 true)) None)
unfolding pieces names is_too_long walked place_of unlinked
unlinks-folder = refl

-- a folder as a file, a folder that has an entry, a file as a folder, nothing, the folder itself, and the root
record Try : Type 0 where
  path : List ℕ
  dir : Bool

refuses :
    map (λ (t : Try). unlinked (before 0) t.path t.dir)
    (record { path = codes "/g"; dir = false }
    ∷ record { path = codes "/d"; dir = true }
    ∷ record { path = codes "/d/e"; dir = true }
    ∷ record { path = codes "/d/x"; dir = false }
    ∷ record { path = codes "/d/."; dir = true }
    ∷ record { path = codes "/"; dir = true }
    ∷ [])
    ≡ map (λ (errno : Errno). Err errno) (Eisdir ∷ Enotempty ∷ Enotdir ∷ Enoent ∷ Einval ∷ Einval ∷ [])
unfolding pieces names is_too_long walked place_of unlinked
refuses = refl

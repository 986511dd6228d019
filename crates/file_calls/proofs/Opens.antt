-- The row of openat.
use Rattle.std.proofs.Common.{◌≡◌, ℕ, ◌==◌, Bool, true, false, not, ◌||◌, ◌&&◌, if◌then◌else◌, List, [], length, Option, Some, None, IsSome, rules, Result, Ok, Err, refl, sym, ap, ◌∙◌}
use Rattle.std.specs.Borrow.{Bor}
use Rattle.call_log.specs.declared.errno.Errno as log
use Rattle.call_log.specs.declared.errno.Errno.TheVariants.{Einval, Emfile, Enoent}
use Rattle.mem_files.specs.declared.fault.FileFault.{FileFault}
use Rattle.mem_files.specs.declared.fault.FileFault.TheVariants.{Errno, Memory}
use Rattle.mem_files.specs.Inodes.{Inodes}
use Rattle.mem_files.specs.Paths.{lookup}
use Rattle.mem_files.specs.Changes.{with_file}
use Rattle.mem_files.specs.Calls.{Makes}
use Rattle.fd_tables.specs.Files.{OpenFiles}
use Rattle.fd_tables.specs.Changes.{Storage, storage, opened}
use Rattle.machine_world.specs.World.{Rest}
use Rattle.machine_world.specs.Asks.{Ask, arg, Row, gives, refuses, unless, with_ok, free_of, with_free, with_storage}
use Rattle.machine_world.specs.PathCalls.{access, creates, asks_folder, path_fault, with_path, opens, open_fault, emptied, opens_old, opens_new, opens_found, way_of, openat_row}
use Rattle.file_calls.specs.Answers.{Answers, sent_path, IsPathOr, fault_or_ok, HasFree}
use Rattle.file_calls.proofs.Named.{path_walked, path_refused}

-- ---- what is there

fault_is : (fault : Option log.Errno) (errno : log.Errno) → Err errno ≡ fault_or_ok fault → fault ≡ Some errno
fault_is None errno e = cc
fault_is (Some fault) errno e = cc

no_fault : (fault : Option log.Errno) → Ok tt ≡ fault_or_ok fault → fault ≡ None
no_fault None e = refl
no_fault (Some fault) e = cc

pub old_refused : (a : Ask) (node : ℕ) (errno : log.Errno) → Err errno ≡ fault_or_ok (open_fault a.rest.tree node (arg a 2)) → opens_old a node ≡ refuses a errno
old_refused a node errno e =
    ap (λ fault. unless a fault (with_free a (free_of a) (λ fd. opens a fd node (emptied a.rest.tree node (arg a 2))))) (fault_is (open_fault a.rest.tree node (arg a 2)) errno e)

old_found : (a : Ask) (node : ℕ) → Ok tt ≡ fault_or_ok (open_fault a.rest.tree node (arg a 2)) →
    opens_old a node ≡ with_free a (free_of a) (λ fd. opens a fd node (emptied a.rest.tree node (arg a 2)))
old_found a node e =
    ap (λ fault. unless a fault (with_free a (free_of a) (λ fd. opens a fd node (emptied a.rest.tree node (arg a 2))))) (no_fault (open_fault a.rest.tree node (arg a 2)) e)

pub old_full : (a : Ask) (node : ℕ) → Ok tt ≡ fault_or_ok (open_fault a.rest.tree node (arg a 2)) → free_of a ≡ None → opens_old a node ≡ refuses a Emfile
old_full a node e full = old_found a node e ∙ ap (λ free. with_free a free (λ fd. opens a fd node (emptied a.rest.tree node (arg a 2)))) full

pub old_opens : (a : Ask) (node fd : ℕ) → Ok tt ≡ fault_or_ok (open_fault a.rest.tree node (arg a 2)) → free_of a ≡ Some fd →
    opens_old a node ≡ opens a fd node (emptied a.rest.tree node (arg a 2))
old_opens a node fd e free = old_found a node e ∙ ap (λ free. with_free a free (λ fd. opens a fd node (emptied a.rest.tree node (arg a 2)))) free

-- ---- room for a descriptor

pub no_room : (a : Ask) (row : Row) (rest : Rest) (free : Option ℕ) (spare : ℕ) (fault : FileFault) → free_of a ≡ free → HasFree free spare (Err fault) →
    (free_of a ≡ None → row ≡ refuses a Emfile) → rest ≡ a.rest → Answers a row rest (Err fault)
no_room a row rest free spare (Errno errno) is h full same = (rw h.1 (full (is ∙ h.0)), same)
no_room a row rest free spare Memory is h full same = same

pub opens_is : (a : Ask) (fd node : ℕ) (nodes wanted : Inodes) (files : OpenFiles) (new : Storage) → new ≡ opened (storage nodes files) a.process.table fd node (way_of (arg a 2)) →
    nodes ≡ wanted → files ≡ a.rest.files → opens a fd node wanted ≡ gives a fd [] (with_storage a.rest new)
opens_is a fd node nodes wanted files new h n f = rw (h, n, f) refl

-- ---- what is new

pub new_missing : (a : Ask) (path : List ℕ) → creates (arg a 2) ≡ false → opens_new a path ≡ refuses a Enoent
new_missing a path not_made = rw not_made refl

new_made : (a : Ask) (path : List ℕ) → creates (arg a 2) ≡ true →
    opens_new a path ≡ with_free a (free_of a) (λ fd. with_ok a (with_file a.rest.tree path [] None) (opens a fd (length a.rest.tree)))
new_made a path made = rw made refl

pub new_full : (a : Ask) (path : List ℕ) → creates (arg a 2) ≡ true → free_of a ≡ None → opens_new a path ≡ refuses a Emfile
new_full a path made full = new_made a path made ∙ ap (λ free. with_free a free (λ fd. with_ok a (with_file a.rest.tree path [] None) (opens a fd (length a.rest.tree)))) full

pub new_free : (a : Ask) (path : List ℕ) (fd : ℕ) → creates (arg a 2) ≡ true → free_of a ≡ Some fd →
    opens_new a path ≡ with_ok a (with_file a.rest.tree path [] None) (opens a fd (length a.rest.tree))
new_free a path fd made free = new_made a path made ∙ ap (λ free. with_free a free (λ fd. with_ok a (with_file a.rest.tree path [] None) (opens a fd (length a.rest.tree)))) free

-- a file that isn't made
makes_none : (a : Ask) (w : Result Inodes log.Errno) (row : Inodes → Row) (old new : Inodes) (errno : log.Errno) → Makes w old new (Err (Errno errno)) → with_ok a w row ≡ refuses a errno
makes_none a (Ok now) row old new errno h = absurd h
makes_none a (Err fault) row old new errno h = rw h.0 refl

new_refused : (a : Ask) (row : Row) (w : Result Inodes log.Errno) (more : Inodes → Row) (old new : Inodes) (rest : Rest) (fault : FileFault) → row ≡ with_ok a w more →
    Makes w old new (Err fault) → rest ≡ a.rest → Answers a row rest (Err fault)
new_refused a row w more old new rest (Errno errno) is h same = (is ∙ makes_none a w more old new errno h, same)
new_refused a row w more old new rest Memory is h same = same

pub makes_same : (w : Result Inodes log.Errno) (old new : Inodes) (fault : FileFault) → Makes w old new (Err fault) → new ≡ old
makes_same (Ok now) old new (Errno errno) h = absurd h
makes_same (Ok now) old new Memory h = h
makes_same (Err fault) old new (Errno errno) h = h.1
makes_same (Err fault) old new Memory h = absurd h

-- a descriptor is free, but the file isn't made
pub new_unmade : (a : Ask) (path : List ℕ) (free : Option ℕ) (new : Inodes) (rest : Rest) (fault : FileFault) → creates (arg a 2) ≡ true → free_of a ≡ free → IsSome free →
    Makes (with_file a.rest.tree path [] None) a.rest.tree new (Err fault) → rest ≡ a.rest → Answers a (opens_new a path) rest (Err fault)
new_unmade a path (Some fd) new rest fault made is some h same =
    new_refused a (opens_new a path) (with_file a.rest.tree path [] None) (opens a fd (length a.rest.tree)) a.rest.tree new rest fault (new_free a path fd made is) h same
new_unmade a path None new rest fault made is some h same = absurd (search rules)

pub makes_one : (a : Ask) (w : Result Inodes log.Errno) (row : ℕ → Inodes → Row) (old new : Inodes) (id : ℕ) → Makes w old new (Ok id) → with_ok a w (row (length old)) ≡ row id new
makes_one a (Ok now) row old new id h = rw (h.0, h.1) refl
makes_one a (Err fault) row old new id h = absurd h

-- ---- all

pub openat_flags : (a : Ask) → not (access (arg a 2) == 3 || (creates (arg a 2) && asks_folder (arg a 2))) ≡ false → openat_row a ≡ refuses a Einval
unfolding openat_row
openat_flags a bad = by_test (access (arg a 2) == 3 || (creates (arg a 2) && asks_folder (arg a 2))) bad
  where
    by_test : (test : Bool) → not test ≡ false → (if test then refuses a Einval else with_path a (λ path. with_ok a (lookup a.rest.tree path) (opens_found a path))) ≡ refuses a Einval
    by_test true e = refl
    by_test false e = cc

pub openat_walks : (a : Ask) → not (access (arg a 2) == 3 || (creates (arg a 2) && asks_folder (arg a 2))) ≡ true →
    openat_row a ≡ with_path a (λ path. with_ok a (lookup a.rest.tree path) (opens_found a path))
unfolding openat_row
openat_walks a fine = by_test (access (arg a 2) == 3 || (creates (arg a 2) && asks_folder (arg a 2))) fine
  where
    by_test : (test : Bool) → not test ≡ true →
        (if test then refuses a Einval else with_path a (λ path. with_ok a (lookup a.rest.tree path) (opens_found a path))) ≡ with_path a (λ path. with_ok a (lookup a.rest.tree path) (opens_found a path))
    by_test true e = cc
    by_test false e = refl

module _ (a : Ask) (fine : not (access (arg a 2) == 3 || (creates (arg a 2) && asks_folder (arg a 2))) ≡ true) where
  pub openat_refused : (errno : log.Errno) → IsPathOr (path_fault (arg a 0) (sent_path a.sent)) (sent_path a.sent) (Err errno) → openat_row a ≡ refuses a errno
  openat_refused errno h = openat_walks a fine ∙ path_refused a (λ path. with_ok a (lookup a.rest.tree path) (opens_found a path)) errno h

  pub openat_found : (p : Bor (List ℕ)) (found : Result (Option ℕ) log.Errno) → IsPathOr (path_fault (arg a 0) (sent_path a.sent)) (sent_path a.sent) (Ok p) →
      found ≡ lookup a.rest.tree p.now → openat_row a ≡ with_ok a found (opens_found a p.now)
  openat_found p found path e =
      openat_walks a fine ∙ path_walked a (λ path. with_ok a (lookup a.rest.tree path) (opens_found a path)) p path ∙ ap (λ found. with_ok a found (opens_found a p.now)) (sym e)

  pub openat_at : (p : Bor (List ℕ)) (given found : Option ℕ) → IsPathOr (path_fault (arg a 0) (sent_path a.sent)) (sent_path a.sent) (Ok p) →
      Ok given ≡ lookup a.rest.tree p.now → given ≡ found → openat_row a ≡ opens_found a p.now found
  openat_at p given found path e is = openat_found p (Ok given) path e ∙ ap (opens_found a p.now) is

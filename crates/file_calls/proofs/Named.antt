-- The rows of mkdirat and unlinkat, and paths.
use Rattle.std.proofs.Common.{◌≡◌, ℕ, ◌==◌, true, false, ◌||◌, List, Option, Some, None, Result, Ok, Err, refl, sym, subst}
use Rattle.std.specs.Borrow.{Bor}
use Rattle.std.specs.Prelude.{⊤}
use Rattle.call_log.specs.declared.errno.Errno as log
use Rattle.call_log.specs.declared.errno.Errno.TheVariants.{Einval}
use Rattle.mem_files.specs.declared.fault.FileFault.{FileFault}
use Rattle.mem_files.specs.declared.fault.FileFault.TheVariants.{Errno, Memory}
use Rattle.mem_files.specs.Inodes.{Inodes}
use Rattle.mem_files.specs.Changes.{with_folder, unlinked}
use Rattle.mem_files.specs.Calls.{Makes, ChangesTree}
use Rattle.machine_world.specs.Asks.{Ask, arg, Row, refuses, unless, with_ok, with_tree}
use Rattle.machine_world.specs.PathCalls.{path_of, path_fault, with_path, changes_tree, mkdirat_row, unlinkat_row}
use Rattle.file_calls.specs.Answers.{Answers, sent_path, IsPathOr}
use Rattle.file_calls.proofs.Faults.{done}

-- ---- paths

walked : (a : Ask) (fault : Option log.Errno) (path : List ℕ) (row : List ℕ → Row) (p : Bor (List ℕ)) → IsPathOr fault path (Ok p) → unless a fault (row path) ≡ row p.now
walked a None path row p h = rw h refl
walked a (Some fault) path row p h = absurd h

refused : (a : Ask) (fault : Option log.Errno) (path : List ℕ) (row : Row) (errno : log.Errno) → IsPathOr fault path (Err errno) → unless a fault row ≡ refuses a errno
refused a None path row errno h = absurd h
refused a (Some fault) path row errno h = rw h refl

-- a path that is walked
pub path_walked : (a : Ask) (row : List ℕ → Row) (p : Bor (List ℕ)) → IsPathOr (path_fault (arg a 0) (sent_path a.sent)) (sent_path a.sent) (Ok p) → with_path a row ≡ row p.now
unfolding path_of
path_walked a row p h = walked a (path_fault (arg a 0) (sent_path a.sent)) (sent_path a.sent) row p h

-- a path that isn't
pub path_refused : (a : Ask) (row : List ℕ → Row) (errno : log.Errno) → IsPathOr (path_fault (arg a 0) (sent_path a.sent)) (sent_path a.sent) (Err errno) → with_path a row ≡ refuses a errno
unfolding path_of
path_refused a row errno h = refused a (path_fault (arg a 0) (sent_path a.sent)) (sent_path a.sent) (row (sent_path a.sent)) errno h

-- ---- names

-- 0 for any number
abbrev pub zero : Result ℕ FileFault → Result ℕ FileFault
zero (Ok id) = Ok 0
zero (Err fault) = Err fault

makes : (a : Ask) (w : Result Inodes log.Errno) (new : Inodes) (r : Result ℕ FileFault) → Makes w a.rest.tree new r → Answers a (with_ok a w (changes_tree a)) (with_tree a.rest new) (zero r)
makes a (Ok now) new (Ok id) h = rw h.0 refl
makes a (Ok now) new (Err (Errno errno)) h = absurd h
makes a (Ok now) new (Err Memory) h = rw h refl
makes a (Err fault) new (Ok id) h = absurd h
makes a (Err fault) new (Err (Errno errno)) h = (rw h.0 refl, rw h.1 refl)
makes a (Err fault) new (Err Memory) h = absurd h

changes : (a : Ask) (w : Result Inodes log.Errno) (new : Inodes) (r : Result ⊤ log.Errno) → ChangesTree w a.rest.tree new r → Answers a (with_ok a w (changes_tree a)) (with_tree a.rest new) (done 0 r)
changes a (Ok now) new (Ok d) h = rw h refl
changes a (Ok now) new (Err errno) h = absurd h
changes a (Err fault) new (Ok d) h = absurd h
changes a (Err fault) new (Err errno) h = (rw h.0 refl, rw h.1 refl)

pub mkdirat_refused : (a : Ask) (errno : log.Errno) → IsPathOr (path_fault (arg a 0) (sent_path a.sent)) (sent_path a.sent) (Err errno) → mkdirat_row a ≡ refuses a errno
unfolding mkdirat_row
mkdirat_refused a errno h = path_refused a (λ path. with_ok a (with_folder a.rest.tree path) (changes_tree a)) errno h

pub mkdirat_says : (a : Ask) (p : Bor (List ℕ)) (new : Inodes) (r : Result ℕ FileFault) → IsPathOr (path_fault (arg a 0) (sent_path a.sent)) (sent_path a.sent) (Ok p) →
    Makes (with_folder a.rest.tree p.now) a.rest.tree new r → Answers a (mkdirat_row a) (with_tree a.rest new) (zero r)
unfolding mkdirat_row
mkdirat_says a p new r path h =
    subst (λ (row : Row). Answers a row (with_tree a.rest new) (zero r)) (sym (path_walked a (λ path. with_ok a (with_folder a.rest.tree path) (changes_tree a)) p path))
    (makes a (with_folder a.rest.tree p.now) new r h)

pub unlinkat_flags : (a : Ask) → (arg a 2 == 0 || arg a 2 == 512) ≡ false → unlinkat_row a ≡ refuses a Einval
unfolding unlinkat_row
unlinkat_flags a bad = rw bad refl

pub unlinkat_walks : (a : Ask) → (arg a 2 == 0 || arg a 2 == 512) ≡ true → unlinkat_row a ≡ with_path a (λ path. with_ok a (unlinked a.rest.tree path (arg a 2 == 512)) (changes_tree a))
unfolding unlinkat_row
unlinkat_walks a fine = rw fine refl

pub unlinkat_refused : (a : Ask) (errno : log.Errno) → (arg a 2 == 0 || arg a 2 == 512) ≡ true →
    IsPathOr (path_fault (arg a 0) (sent_path a.sent)) (sent_path a.sent) (Err errno) → unlinkat_row a ≡ refuses a errno
unlinkat_refused a errno fine h =
    rw (unlinkat_walks a fine) (path_refused a (λ path. with_ok a (unlinked a.rest.tree path (arg a 2 == 512)) (changes_tree a)) errno h)

pub unlinkat_says : (a : Ask) (p : Bor (List ℕ)) (new : Inodes) (r : Result ⊤ log.Errno) → (arg a 2 == 0 || arg a 2 == 512) ≡ true →
    IsPathOr (path_fault (arg a 0) (sent_path a.sent)) (sent_path a.sent) (Ok p) →
    ChangesTree (unlinked a.rest.tree p.now (arg a 2 == 512)) a.rest.tree new r → Answers a (unlinkat_row a) (with_tree a.rest new) (done 0 r)
unlinkat_says a p new r fine path h =
    subst (λ (row : Row). Answers a row (with_tree a.rest new) (done 0 r)) (sym (unlinkat_walks a fine))
    (subst (λ (row : Row). Answers a row (with_tree a.rest new) (done 0 r)) (sym (path_walked a (λ path. with_ok a (unlinked a.rest.tree path (arg a 2 == 512)) (changes_tree a)) p path))
    (changes a (unlinked a.rest.tree p.now (arg a 2 == 512)) new r h))

-- What is refused, step by step.
use Rattle.std.proofs.Common.{◌≡◌, ℕ, List, [], Option, Some, None, Result, Ok, Err, refl, ap, subst}
use Rattle.std.specs.Result.{IsErrAnd}
use Rattle.std.specs.Prelude.{⊤}
use Rattle.call_log.specs.declared.errno.Errno as log
use Rattle.call_log.specs.Errno.{refusal}
use Rattle.mem_files.specs.declared.fault.FileFault.{FileFault}
use Rattle.mem_files.specs.declared.fault.FileFault.TheVariants.{Errno, Memory}
use Rattle.mem_files.specs.Inodes.{Inodes}
use Rattle.fd_tables.specs.Files.{OpenFiles}
use Rattle.fd_tables.specs.Changes.{Storage, storage}
use Rattle.machine_world.specs.World.{Rest}
use Rattle.machine_world.specs.Asks.{Ask, Row, gives, refuses, unless, with_tree, with_files, with_storage, storage_of}
use Rattle.file_calls.specs.Answers.{Answers}
use Rattle.file_calls.specs.Calls.{with_all}

-- a fault that `?` handed on
pub by_fault : (a : Ask) (row : Row) (rest : Rest) (r : Result ℕ FileFault) (fault : FileFault) → IsErrAnd r (λ e. e ≡ fault) → Answers a row rest (Err fault) → Answers a row rest r
by_fault a row rest (Ok value) fault h given = absurd h
by_fault a row rest (Err e) fault h given = rw h given

-- a number that a call gives, or why it is refused
abbrev pub faulted : Result ℕ log.Errno → Result ℕ FileFault
faulted (Ok value) = Ok value
faulted (Err errno) = Err (Errno errno)

-- a call that gives this number
abbrev pub done : ℕ → Result ⊤ log.Errno → Result ℕ FileFault
done value (Ok d) = Ok value
done value (Err errno) = Err (Errno errno)

-- what is left where nothing changed

pub kept_tree : (rest : Rest) (nodes : Inodes) → rest.tree ≡ nodes → with_tree rest nodes ≡ rest
kept_tree rest nodes e = rw (← e) refl

pub kept_files : (rest : Rest) (files : OpenFiles) → rest.files ≡ files → with_files rest files ≡ rest
kept_files rest files e = rw (← e) refl

pub kept_storage : (rest : Rest) (s : Storage) → storage_of rest ≡ s → with_storage rest s ≡ rest
kept_storage rest s e = rw (← e) refl

-- rows behind a fault

pub unless_none : (a : Ask) (fault : Option log.Errno) (row : Row) → fault ≡ None → unless a fault row ≡ row
unless_none a fault row e = rw e refl

pub unless_some : (a : Ask) (fault : Option log.Errno) (row : Row) (errno : log.Errno) → fault ≡ Some errno → unless a fault row ≡ refuses a errno
unless_some a fault row errno e = rw e refl

-- what is stored

pub stored : (rest : Rest) (nodes : Inodes) (files : OpenFiles) → rest.tree ≡ nodes → rest.files ≡ files → storage_of rest ≡ storage nodes files
stored rest nodes files n f = rw (n, f) refl

pub nodes_are : (rest : Rest) (nodes : Inodes) (files : OpenFiles) → storage_of rest ≡ storage nodes files → rest.tree ≡ nodes
nodes_are rest nodes files e = ap (λ (s : Storage). s.nodes) e

pub files_are : (rest : Rest) (nodes : Inodes) (files : OpenFiles) → storage_of rest ≡ storage nodes files → rest.files ≡ files
files_are rest nodes files e = ap (λ (s : Storage). s.files) e

-- what a call leaves alone stays

module _ (a : Ask) (row part : Row) (is : row ≡ part) (nodes : Inodes) (files : OpenFiles) (text : List ℕ) (r : Result ℕ FileFault) where
  pub over_files : a.rest.tree ≡ nodes → a.rest.console ≡ text → Answers a part (with_files a.rest files) r → Answers a row (with_all a.rest nodes files text) r
  over_files n c h = rw (is, ← n, ← c) h

  pub over_tree : a.rest.files ≡ files → a.rest.console ≡ text → Answers a part (with_tree a.rest nodes) r → Answers a row (with_all a.rest nodes files text) r
  over_tree f c h = rw (is, ← f, ← c) h

  pub over_storage : a.rest.console ≡ text → Answers a part (with_storage a.rest (storage nodes files)) r → Answers a row (with_all a.rest nodes files text) r
  over_storage c h = rw (is, ← c) h

  pub over_console : a.rest.tree ≡ nodes → a.rest.files ≡ files → Answers a part (record a.rest { console = text }) r → Answers a row (with_all a.rest nodes files text) r
  over_console n f h = rw (is, ← n, ← f) h

  pub over_all : Answers a part (with_all a.rest nodes files text) r → Answers a row (with_all a.rest nodes files text) r
  over_all h = rw is h

pub kept_all : (rest : Rest) (nodes : Inodes) (files : OpenFiles) (text : List ℕ) → rest.tree ≡ nodes → rest.files ≡ files → rest.console ≡ text → with_all rest nodes files text ≡ rest
kept_all rest nodes files text n f c = rw (← n, ← f, ← c) refl

-- what is left of a call that doesn't succeed
pub same_left : (a : Ask) (row : Row) (rest : Rest) (fault : FileFault) → Answers a row rest (Err fault) → rest ≡ a.rest
same_left a row rest (Errno errno) h = h.1
same_left a row rest Memory h = h

-- a refusal is a reply
pub settled : (a : Ask) (row : Row) (rest : Rest) (fault : FileFault) (errno : log.Errno) (value : ℕ) → fault ≡ Errno errno → value ≡ refusal errno → Answers a row rest (Err fault) →
    row ≡ gives a value [] rest
settled a row rest fault errno value e v h = let k : Answers a row rest (Err (Errno errno)) = subst (λ (f : FileFault). Answers a row rest (Err f)) e h in rw (v, k.1) k.0

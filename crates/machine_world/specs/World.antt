-- The world that the machine stands for: every program has a private space of its own.
use Rattle.std.specs.Prelude.{ℕ, List, Option}
use Rattle.rv32im_step.specs.declared.regs.Regs.{Regs}
use Rattle.page_runs.specs.declared.place.Kind.{Kind}
use Rattle.call_log.specs.Notes.{Note}
use Rattle.mmap_rules.specs.Space.{Space}
use Rattle.flat_loader.specs.Original.{Original}
use Rattle.mem_files.specs.Inodes.{Inodes}
use Rattle.fd_tables.specs.Files.{OpenFiles}
use Rattle.vfork_exec.specs.declared.family.State.{State}
use Rattle.vfork_exec.specs.declared.family.Ended.{Ended}

-- a program that can be started, by its path
pub record Program : Type 0 where
  pub path : List ℕ
  pub original : Original

-- a process that lives: it runs in one space, and has one table of descriptors
pub record Process : Type 0 where
  pub pid : ℕ
  pub parent : ℕ
  pub regs : Regs
  pub space : ℕ
  pub table : ℕ
  pub state : State

-- the space of the load note with this number, from 0
pub record LiveSpace : Type 0 where
  pub id : ℕ
  pub space : Space

-- a program as it was loaded into a space: the bytes of its stack, the first address of its block, the pid of its process, and its
-- strings
pub record Launch : Type 0 where
  pub stack : ℕ
  pub base : ℕ
  pub pid : ℕ
  pub args : List (List ℕ)
  pub env : List (List ℕ)

-- what is recorded of one space beside the notes: the number of its load note, from 1, or 0 for none; its program, once that was
-- loaded; how many events were made in it other than waits; and what its mappings of files brought, one by one
pub record Recording : Type 0 where
  pub keep : ℕ
  pub launch : Option Launch
  pub events : ℕ
  pub brought : List (List ℕ)

-- what no space holds: the pages of memory, how free runs are chosen, the programs, the files and folders, what is open, and
-- what was written to the console; and of which load note's space the run keeps a recording, or 0 for none
pub record Rest : Type 0 where
  pub pages : ℕ
  pub kind : Kind
  pub programs : List Program
  pub tree : Inodes
  pub files : OpenFiles
  pub console : List ℕ
  pub keep : ℕ

-- processes that live, spaces and notes stand newest first, those that have ended in the order in which they ended; `loads` is the
-- number of load notes, and `next_pid` one more than the last pid that was given
pub record World : Type 0 where
  pub procs : List Process
  pub ended : List Ended
  pub spaces : List LiveSpace
  pub loads : ℕ
  pub next_pid : ℕ
  pub rest : Rest
  pub notes : List Note
  pub events : ℕ
  pub recording : Recording

abbrev pub pid_of : Process → ℕ
pid_of p = p.pid

abbrev pub id_of : LiveSpace → ℕ
id_of s = s.id

abbrev pub program_path : Program → List ℕ
program_path p = p.path

-- What is kept of all programs.
use Rattle.std.specs.Prelude.{ℕ, ◌*◌, List, [], replicate, Option}
use Rattle.std.specs.List.{range_with_len}
use Rattle.nommu_regions.specs.declared.region.Region.{Region}
use Rattle.nommu_regions.specs.declared.region.Source.TheVariants.{Own}
use Rattle.mmap_rules.specs.Space.{page_size}
use Rattle.mmap_rules.specs.Held.{Held}
use Rattle.vfork_exec.specs.Procs.{Listed, none_yet}
use Rattle.call_log.specs.Notes.{Note}
use Rattle.mem_files.specs.Inodes.{Inodes}
use Rattle.fd_tables.specs.Files.{OpenFiles}
use Rattle.machine_world.specs.World.{Recording}
use Rattle.machine_world.specs.Recordings.{nothing_recorded}
use Rattle.kept_parts.specs.declared.task.Task.{Task}

-- memory, the regions of its pages, and for each id of a region the page at which it begins; the spaces by the number of their load note,
-- none where the space is gone; the files and folders, and what is open; the processes; the notes, newest first; what was written
-- to the console; and what is recorded of one space
pub record Kept : Type 0 where
  pub mem : List ℕ
  pub regions : List Region
  pub starts : List ℕ
  pub spaces : List (Option Held)
  pub tree : Inodes
  pub files : OpenFiles
  pub procs : Listed Task
  pub notes : List Note
  pub console : List ℕ
  pub recording : Recording

-- before the first program, over these files, of a run that records the space of this load note
abbrev pub nothing_yet : ℕ → Inodes → OpenFiles → ℕ → Kept
nothing_yet pages tree files keep = record {
  mem = replicate (page_size * pages) 0;
  regions = replicate pages (record { first = 0; pages = 0; source = Own; uses = 0 });
  starts = range_with_len 0 pages;
  spaces = [];
  tree = tree;
  files = files;
  procs = none_yet;
  notes = [];
  console = [];
  recording = nothing_recorded keep;
}

-- Behind its load `unromfs` ends.
use Rattle.std.proofs.Common.{◌≢◌, ℕ, List, Result, Ok, Err}
use Rattle.romfs_image.specs.declared.fault.RomFault.{RomFault}
use Rattle.romfs_image.specs.Nodes.{RomValue}
use Rattle.romfs_image.specs.Reading.{rom_read}
use Rattle.host_io.specs.Host.{Told}
use Rattle.file_commands.specs.declared.status.Status.TheVariants as status
use Rattle.file_commands.specs.Ending.{Ending, OrMemory}
use Rattle.file_commands.specs.Unromfs.{read_ending, unmade_ending, unmade_outcome}
use Rattle.file_commands.specs.Observed.{Observed}
use Rattle.file_commands.specs.HostCourse.{Performs}
use Rattle.file_commands.proofs.HostCourses.{ends_at_once}

reads : (r : Result (List RomValue) RomFault) → (read_ending r).status ≢ status.HostRead
reads (Ok nodes) = λ e. cc
reads (Err first) = λ e. cc

pub unmakes : (old : Observed Told) (y : List ℕ) (ending : Ending) → OrMemory (unmade_ending y) ending → Performs old old (unmade_outcome y) ending
unmakes old y ending ends = ends_at_once old (unmade_ending y) ending (reads (rom_read y)) ends

-- Behind its load `list` ends.
use Rattle.std.proofs.Common.{◌≢◌, ℕ, List, Option, Some, None}
use Rattle.bflt_format.specs.declared.fault.FlatFault.{FlatFault}
use Rattle.bflt_format.specs.Fault.{flat_fault}
use Rattle.host_io.specs.Host.{Told}
use Rattle.file_commands.specs.declared.status.Status.TheVariants as status
use Rattle.file_commands.specs.Ending.{Ending, OrMemory}
use Rattle.file_commands.specs.List.{judged_ending, listed_ending, listed_outcome}
use Rattle.file_commands.specs.Observed.{Observed}
use Rattle.file_commands.specs.HostCourse.{Performs}
use Rattle.file_commands.proofs.HostCourses.{ends_at_once}

reads : (y : List ℕ) (o : Option FlatFault) → (judged_ending y o).status ≢ status.HostRead
reads y None = λ e. cc
reads y (Some first) = λ e. cc

pub lists : (old : Observed Told) (y : List ℕ) (ending : Ending) → OrMemory (listed_ending y) ending → Performs old old (listed_outcome y) ending
lists old y ending ends = ends_at_once old (listed_ending y) ending (reads y (flat_fault y)) ends

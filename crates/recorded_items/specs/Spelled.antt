-- What holds of each program that a run loads and of each call that it notes: so the items of any space have a text.
use Rattle.std.specs.Prelude.{◌≡◌, ◌≢◌, ℕ, ◌+◌, ◌≤◌, true, List, [], length}
use Rattle.std.specs.List.{AllByRecursion}
use Rattle.call_log.specs.Notes.{GotRange, CallEntry, Note, call_note, load_note, end_note, stray_note}
use Rattle.flat_loader.specs.Original.{block_pages}
use Rattle.flat_loader.specs.Frame.{frame_fits}
use Rattle.flat_loader.specs.Begin.{Loading}
use Rattle.flat_loader.specs.Alone.{most_pages}
use Rattle.items_text.specs.Items.{IsString}
use Rattle.machine_world.specs.World.{World}
use Rattle.machine_world.specs.Found.{address_of}
use Rattle.alone_laws.specs.Stays.{Stay}

-- a block of whole pages in memory, and strings without a zero byte whose frame lies in its stack
pub record IsLoaded (l : Loading) : Type 0 where
  pub page : ℕ
  pub block : l.block ≡ address_of page
  pub inside : page + block_pages l.original ≤ most_pages
  pub args : AllByRecursion IsString l.args
  pub env : AllByRecursion IsString l.env
  pub fits : frame_fits l.original l.args l.env ≡ true

-- six arguments, and no range of output that is empty
pub record IsAnswered (e : CallEntry) : Type 0 where
  pub args : length e.args ≡ 6
  pub got : AllByRecursion (λ (w : GotRange). w.bytes ≢ []) e.got

abbrev pub IsNoted : Note → Type 0
IsNoted (call_note e) = IsAnswered e
IsNoted (load_note l) = Unit {0}
IsNoted (end_note pid how) = Unit {0}
IsNoted (stray_note pid seen) = Unit {0}

abbrev pub HasLoaded : Stay → Type 0
HasLoaded y = IsLoaded y.loading

pub record AreReadable (ys : List Stay) (w : World) : Type 0 where
  pub loads : AllByRecursion HasLoaded ys
  pub notes : AllByRecursion IsNoted w.notes

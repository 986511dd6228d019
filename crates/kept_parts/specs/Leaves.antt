-- What a call that maps pages, and one that gives bytes, leaves of what is kept.
use Rattle.std.specs.Prelude.{◌≡◌, ℕ, false, List, length, None, Result, ⊤, All}
use Rattle.std.specs.declared.alloc.AllocError.{AllocError}
use Rattle.call_log.specs.Notes.{GotRange}
use Rattle.page_runs.specs.declared.place.Kind.{Kind}
use Rattle.mmap_rules.specs.declared.want.Want.{Want}
use Rattle.mmap_rules.specs.Held.{Held}
use Rattle.mmap_rules.specs.Space.{writable_in}
use Rattle.region_watch.specs.Private.{in_pages}
use Rattle.fd_tables.specs.Files.{OpenFiles}
use Rattle.vfork_exec.specs.declared.entry.Entry.{Entry}
use Rattle.machine_world.specs.MapCalls.{mapped}
use Rattle.machine_world.specs.Event.{answered}
use Rattle.memory_world.specs.Physical.{has_stray}
use Rattle.file_calls.specs.declared.call.Call.{Call}
use Rattle.file_calls.specs.declared.outcome.Outcome.{Outcome}
use Rattle.file_calls.specs.Calls.{got_of}
use Rattle.file_calls.specs.Outcomes.{CanTake, HasEnds}
use Rattle.call_bytes.specs.Puts.{stray_range, IsRange}
use Rattle.kept_parts.specs.declared.task.Task.{Task}
use Rattle.kept_parts.specs.Kept.{Kept}
use Rattle.kept_parts.specs.Copies.{HoldsFiles, StillHolds}
use Rattle.kept_parts.specs.InMemory.{ChangesIn}
use Rattle.kept_parts.specs.Stands.{About, world_of}
use Rattle.kept_parts.specs.Calls.{LivesIn, Caller, asked_by, ChangesParts, Gives, GivesIn}

-- an mmap2 leaves the world of private spaces so, where live copies held their files, and the one memory; and such copies still do
pub record MapLeaves (kind : Kind) (call : Call) (want : Want) (old new : Kept) (result : Result ⊤ AllocError) : Type 0 where
  pub changes : (a : About) → a.kind ≡ kind → StillHolds old → (c : Caller old call) → ChangesParts a old c.entry c.held call (mapped (asked_by a c) want) new result
  pub memory : (headers : List (List ℕ)) → (a : About) → a.kind ≡ kind → (c : Caller old call) → ChangesIn headers a (answered (world_of a old) (asked_by a c) (mapped (asked_by a c) want)) old new result
  pub holds : HoldsFiles old → HoldsFiles new

-- what a call gives can be carried out: what it takes is there, and its ranges are ranges that an access can have
pub record CanGive (files : OpenFiles) (table : ℕ) (outcome : Outcome) : Type 0 where
  pub fits : CanTake files outcome.then
  pub ends : HasEnds files table outcome.then
  pub ranges : All IsRange (got_of outcome)

-- its ranges all lie in memory, and up to the first stray access in bytes that its process may write
pub record GivesWithin (k : Kept) (pid : ℕ) (gots : List GotRange) : Type 0 where
  pub inside : stray_range (in_pages (length k.regions)) gots ≡ None
  pub own : has_stray k.notes ≡ false → (e : Entry Task) → (h : Held) → LivesIn k pid e h → stray_range (writable_in h.maps) gots ≡ None

-- a call that gives bytes leaves the world of private spaces so, where its process may write them all, and the one memory; and live
-- copies that held their files still do there
pub record GiveLeaves (call : Call) (outcome : Outcome) (old new : Kept) (result : Result ⊤ AllocError) : Type 0 where
  pub gives : (a : About) → (c : Caller old call) → stray_range (writable_in c.held.maps) (got_of outcome) ≡ None → Gives a old c.entry c.held call outcome new result
  pub memory : (a : About) → (c : Caller old call) → GivesIn a old c.entry c.held call outcome new result
  pub holds : (e : Entry Task) → (h : Held) → LivesIn old call.pid e h → stray_range (writable_in h.maps) (got_of outcome) ≡ None → HoldsFiles old → HoldsFiles new

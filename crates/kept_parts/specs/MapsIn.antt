-- What mmap2 and munmap leave of the spaces and of all that they map.
use Rattle.std.specs.Prelude.{◌≡◌, ℕ, ◌==◌, ◌||◌, Bool, true, false, List, Option, Some, Result, Ok, Err, ⊤, slice_index, slice_set}
use Rattle.std.specs.declared.alloc.AllocError.{AllocError}
use Rattle.page_runs.specs.declared.place.Kind.{Kind}
use Rattle.call_log.specs.declared.errno.Errno.{Errno}
use Rattle.call_log.specs.declared.errno.Errno.TheVariants.{Enomem as No_memory}
use Rattle.call_log.specs.Errno.{refusal}
use Rattle.nommu_regions.specs.declared.region.Region.{Region}
use Rattle.mmap_rules.specs.declared.want.Want.{Want}
use Rattle.mmap_rules.specs.declared.want.Want.TheVariants.{Anon, File}
use Rattle.mmap_rules.specs.Want.{AsksPages, pages_for, map_anonymous}
use Rattle.mmap_rules.specs.Copies.{IsKnown}
use Rattle.mem_files.specs.Inodes.{Inodes}
use Rattle.call_log.specs.Flags.{has_flag}
use Rattle.call_log.specs.Numbers as numbers
use Rattle.file_calls.specs.declared.call.Call.{Call}
use Rattle.mmap_rules.specs.declared.map_fault.MapFault.{MapFault}
use Rattle.mmap_rules.specs.declared.map_fault.MapFault.TheVariants.{Enomem, Memory}
use Rattle.mmap_rules.specs.Held.{Held, AreMappings}
use Rattle.mmap_rules.specs.MapState.{map_state, mapped, Maps, freed, unmapped, Unmaps}

-- munmap and mmap2
abbrev pub is_mapping : ℕ → Bool
is_mapping number = number == numbers.munmap || number == numbers.mmap2

-- pages of a file are wanted
abbrev pub is_file : Want → Bool
is_file (Anon pages) = false
is_file (File pages first write id change) = true

-- it is what the mmap2 asks for
abbrev pub IsAsked : Call → Want → Type 0
IsAsked call (Anon pages) = has_flag (slice_index call.args 3) map_anonymous ≡ true
IsAsked call (File pages first write id change) =
    (call.number ≡ numbers.mmap2) × (has_flag (slice_index call.args 3) map_anonymous ≡ false) × (pages ≡ pages_for (slice_index call.args 1))

-- what is wanted is what the call asks for, and a file of which pages are wanted is known
pub record IsWanted (nodes : Inodes) (call : Call) (want : Want) : Type 0 where
  pub known : IsKnown nodes want
  pub pages : AsksPages want
  pub asked : IsAsked call want

-- the space of a number, after what is wanted was mapped in it
pub record MapsIn (kind : Kind) (bytes : List ℕ) (want : Want) (number : ℕ) (h : Held) (old new : List (Option Held)) (rs now : List Region) (mem after : List ℕ) (result : Result ℕ MapFault) : Type 0 where
  pub held : Held
  pub spaces : new ≡ slice_set old number (Some held)
  pub maps : Maps (mapped (map_state h rs mem) kind bytes want) (map_state h rs mem) (map_state held now after) result

-- after pages were unmapped in it
pub record UnmapsIn (addr len number : ℕ) (h : Held) (old new : List (Option Held)) (rs now : List Region) (result : Result ⊤ Errno) : Type 0 where
  pub held : Held
  pub spaces : new ≡ slice_set old number (Some held)
  pub shaped : AreMappings h.pages h.maps
  pub unmaps : Unmaps (unmapped h rs addr len) (freed h rs) (freed held now) result

-- the reply of an mmap2
abbrev pub IsAddress : Result ℕ MapFault → Result ℕ AllocError → Type 0
IsAddress (Ok addr) (Ok value) = value ≡ addr
IsAddress (Err Enomem) (Ok value) = value ≡ refusal No_memory
IsAddress (Err Memory) (Err error) = Unit {0}
IsAddress mapped result = ⊥

-- the reply of a munmap
abbrev pub status_of : Result ⊤ Errno → ℕ
status_of (Ok done) = 0
status_of (Err errno) = refusal errno

-- What an event may read and write, by the mode in which its accesses are watched: its process's own bytes, as in a run that halts, or all
-- of memory, as in one that goes on.
use Rattle.std.specs.Prelude.{◌≡◌, ℕ, Bool, true, false, List, length, replicate}
use Rattle.mmap_rules.specs.declared.page_owner.PageOwner.{PageOwner}
use Rattle.mmap_rules.specs.Space.{own_in, writable_in}
use Rattle.mmap_rules.specs.Owners.{owns}
use Rattle.mmap_rules.specs.Held.{Held}
use Rattle.region_watch.specs.Private.{in_pages}
use Rattle.region_watch.specs.declared.mode.Mode.{Mode}
use Rattle.region_watch.specs.declared.mode.Mode.TheVariants.{Halt, GoOn}

abbrev pub readable : Mode → ℕ → Held → ℕ → Bool
readable Halt pages h = own_in h.maps
readable GoOn pages h = in_pages pages

abbrev pub writable : Mode → ℕ → Held → ℕ → Bool
writable Halt pages h = writable_in h.maps
writable GoOn pages h = in_pages pages

-- each byte of a page may be read and written
abbrev pub whole_page : PageOwner
whole_page = record { from = 0; write = true; uses = 1 }

-- the table that owns all of memory
abbrev pub whole_table : ℕ → List PageOwner
whole_table pages = replicate pages whole_page

-- a table of just the bytes that may be read and written
pub record Reaches (mode : Mode) (pages : ℕ) (h : Held) (table : List PageOwner) : Type 0 where
  pub reads : owns table false ≡ readable mode pages h
  pub writes : owns table true ≡ writable mode pages h
  pub long : length table ≡ pages

-- all of memory may be read and written
abbrev pub is_whole : Mode → Bool
is_whole Halt = false
is_whole GoOn = true

-- a run that goes on watches its events so: behind a noted stray access they reach all of memory
abbrev pub reach_of : Bool → Mode
reach_of false = Halt
reach_of true = GoOn

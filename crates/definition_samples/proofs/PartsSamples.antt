-- The world that the parts of a machine stand for: memory, what is kept of two spaces that live and of one that is gone, and a process.
use Rattle.std.proofs.Common.{◌≡◌, ℕ, ◌+◌, true, List, [], ◌∷◌, map, Option, Some, None, refl}
use Rattle.std.specs.Prelude.{codes, replicate, false}
use Rattle.rv32im_step.specs.declared.regs.Regs.{Regs}
use Rattle.page_runs.specs.declared.place.Kind.TheVariants.{Best}
use Rattle.call_log.specs.declared.how.How.TheVariants.{Exit}
use Rattle.call_log.specs.Notes.{end_note}
use Rattle.nommu_regions.specs.declared.region.Region.{Region}
use Rattle.nommu_regions.specs.declared.region.Source.TheVariants.{Own}
use Rattle.mmap_rules.specs.Space.{own_in}
use Rattle.mmap_rules.specs.Held.{Held}
use Rattle.mem_files.specs.Inodes.{opening}
use Rattle.region_watch.specs.Private.{only}
use Rattle.fd_tables.specs.Files.{nothing_open}
use Rattle.vfork_exec.specs.declared.family.State.TheVariants.{Ready}
use Rattle.machine_world.specs.World.{LiveSpace, Recording, id_of}
use Rattle.kept_parts.specs.Kept.{Kept}
use Rattle.kept_parts.specs.Stands.{About, private_bytes, live_spaces, world_of}

-- ---- eight bytes of memory, and spaces that own a part of them

abbrev pub mem : List ℕ
mem = 10 ∷ 11 ∷ 12 ∷ 13 ∷ 14 ∷ 15 ∷ 16 ∷ 17 ∷ []

-- so many bytes from an address on are its own, in page number 0
abbrev held : (from size : ℕ) → Held
held from size = record {
  maps = record { first = 0; pages = 1; range = record { from = from; size = size; writes = true; anonymous = false }; source = Own } ∷ [];
  brk = from + 1;
  brk_low = from;
  brk_high = from + size;
  pages = 4;
}

-- its own bytes are those of memory; there is none where it owns nothing, and none behind memory
private-some : map (private_bytes mem (held 0x8000_0002 3)) (0x8000_0001 ∷ 0x8000_0002 ∷ 0x8000_0004 ∷ 0x8000_0005 ∷ []) ≡ None ∷ Some 12 ∷ Some 14 ∷ None ∷ []
unfolding own_in only private_bytes
private-some = refl

private-end : map (private_bytes mem (held 0x8000_0006 9)) (0x8000_0006 ∷ 0x8000_0007 ∷ 0x8000_0008 ∷ []) ≡ Some 16 ∷ Some 17 ∷ None ∷ []
unfolding own_in only private_bytes
private-end = refl

-- ---- spaces, newest first, under the numbers of their load notes; number 1 is gone

abbrev kept_spaces : List (Option Held)
kept_spaces = Some (held 0x8000_0000 2) ∷ None ∷ Some (held 0x8000_0004 1) ∷ []

live : map id_of (live_spaces mem kept_spaces) ≡ 2 ∷ 0 ∷ []
unfolding live_spaces
live = refl

-- each has its own part of memory
live-bytes : map (λ (s : LiveSpace). map s.space.bytes (0x8000_0000 ∷ 0x8000_0001 ∷ 0x8000_0004 ∷ [])) (live_spaces mem kept_spaces)
    ≡ (None ∷ None ∷ Some 14 ∷ []) ∷ (Some 10 ∷ Some 11 ∷ None ∷ []) ∷ []
unfolding own_in only private_bytes live_spaces
live-bytes = refl

-- and its mappings and its break as they are kept
live-kept : map (λ (s : LiveSpace). record { maps = s.space.maps; brk = s.space.brk; brk_low = s.space.brk_low; brk_high = s.space.brk_high; pages = 4 }) (live_spaces mem kept_spaces)
    ≡ held 0x8000_0004 1 ∷ held 0x8000_0000 2 ∷ []
unfolding live_spaces
live-kept = refl

none-live : live_spaces mem (None ∷ None ∷ []) ≡ []
unfolding live_spaces
none-live = refl

-- ---- the world

abbrev regs : Regs
regs = record { pc = 0x8000_0080; x = replicate 32 5 }

abbrev region : Region
region = record { first = 0; pages = 0; source = Own; uses = 0 }

-- of the third load note's space
abbrev pub recording : Recording
recording = record { keep = 3; launch = None; events = 5; brought = (1 ∷ 2 ∷ []) ∷ [] }

abbrev pub kept : Kept
kept = record {
  mem = mem;
  regions = replicate 4 region;
  starts = 0 ∷ 1 ∷ 2 ∷ 3 ∷ [];
  spaces = kept_spaces;
  tree = opening;
  files = nothing_open (codes "in");
  procs = record {
    entries = record { pid = 7; parent = 3; state = Ready; value = record { regs = regs; space = 2; table = 1 } } ∷ [];
    ended = record { pid = 6; parent = 7; how = Exit 1 } ∷ [];
    next_pid = 8;
  };
  notes = end_note 6 (Exit 1) ∷ [];
  console = codes "out";
  recording = recording;
}

abbrev pub about : About
about = record { kind = Best; programs = []; events = 9 }

-- three spaces were loaded, and memory has as many pages as there are regions
stands-for :
    world_of about kept
    ≡ record {
      procs = record { pid = 7; parent = 3; regs = regs; space = 2; table = 1; state = Ready } ∷ [];
      ended = record { pid = 6; parent = 7; how = Exit 1 } ∷ [];
      spaces = live_spaces mem kept_spaces;
      loads = 3;
      next_pid = 8;
      rest = record { pages = 4; kind = Best; programs = []; tree = opening; files = nothing_open (codes "in"); console = codes "out"; keep = 3 };
      notes = end_note 6 (Exit 1) ∷ [];
      events = 9;
      recording = recording;
    }
unfolding world_of
stands-for = refl

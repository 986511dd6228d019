-- A program loaded into a run of free pages, with a space and registers; or the reason why it is not.
use Rattle.std.specs.Prelude.{ℕ, ◌≡◌, ◌+◌, Bool, true, false, List, length, take, slice_range, slice_set, Option, Some, None, Result, Ok, Err, ⊤}
use Rattle.byte_words.specs.ByteMap.{byte_of}
use Rattle.page_runs.specs.declared.place.Kind.{Kind}
use Rattle.page_runs.specs.Place.{place, first_of}
use Rattle.phys_mem.specs.Memory.{place as place_of}
use Rattle.nommu_regions.specs.declared.region.Region.{Region}
use Rattle.nommu_regions.specs.declared.region.Source.TheVariants.{Own}
use Rattle.nommu_regions.specs.Regions.{AreFree, free_of}
use Rattle.nommu_regions.specs.Ids.{new_region}
use Rattle.mmap_rules.specs.Space.{memory_base, in_range}
use Rattle.mmap_rules.specs.Held.{Held, page_address}
use Rattle.bflt_format.specs.Values.{Values}
use Rattle.bflt_format.specs.Spelling.{spell}
use Rattle.flat_loader.specs.declared.loaded.Loaded.{Loaded}
use Rattle.flat_loader.specs.declared.loaded.LoadRefusal.{LoadRefusal}
use Rattle.flat_loader.specs.declared.loaded.LoadRefusal.TheVariants.{E2big, NoRun, Memory}
use Rattle.flat_loader.specs.Original.{flat_original, header_len, block_pages}
use Rattle.flat_loader.specs.Frame.{frame_fits}
use Rattle.flat_loader.specs.Begin.{Loading, flat_loading, own_range, in_block, begin_bytes, begin_space, begin_regs}

-- the first page of the run from which so many pages are taken
abbrev pub block_page : Kind → List Region → ℕ → Option ℕ
block_page kind regions need = first_of (free_of regions).runs (place kind (free_of regions).runs need)

-- the region of a program's block
abbrev pub block_region : ℕ → ℕ → Region
block_region page pages = new_region page pages Own

-- what is kept of a space that begins, in a memory of so many pages
abbrev pub held_begin : ℕ → Loading → Held
held_begin pages l = record {
  maps = (begin_space l).maps;
  brk = (begin_space l).brk;
  brk_low = (begin_space l).brk_low;
  brk_high = (begin_space l).brk_high;
  pages = pages;
}

-- a flat file with its block at a page
abbrev pub page_loading : Values → ℕ → List (List ℕ) → List (List ℕ) → Loading
page_loading f page args env = flat_loading f (page_address page) args env

-- a program stands in its block: it owns just its first bytes, the header is its flat file's, and all other bytes are as before
pub record StandsInBlock (f : Values) (l : Loading) (old new : List ℕ) : Type 0 where
  pub own : (a : ℕ) → in_range (own_range l) a ≡ true → byte_of memory_base new a ≡ begin_bytes l a
  pub header : slice_range new (place_of l.block) (place_of l.block + header_len) ≡ take header_len (spell f)
  pub others : (a : ℕ) → in_block l a ≡ false → byte_of memory_base new a ≡ byte_of memory_base old a
  pub len : length new ≡ length old

-- the program stands in the free run that the placement takes, and all else is as before
pub record IsLoaded (kind : Kind) (f : Values) (args env : List (List ℕ)) (old : List Region) (mem_old : List ℕ) (new : List Region) (mem_new : List ℕ) (loaded : Loaded) : Type 0 where
  pub fits : frame_fits (flat_original f) args env ≡ true
  pub page : ℕ
  pub placed : block_page kind old (block_pages (flat_original f)) ≡ Some page
  pub free : AreFree old page (block_pages (flat_original f))
  pub regions : new ≡ slice_set old page (block_region page (block_pages (flat_original f)))
  pub base : loaded.base ≡ page_address page
  pub pages : loaded.pages ≡ block_pages (flat_original f)
  pub regs : loaded.regs ≡ begin_regs (page_loading f page args env)
  pub space : loaded.space ≡ held_begin (length old) (page_loading f page args env)
  pub stands : StandsInBlock f (page_loading f page args env) mem_old mem_new

-- what loading gives and leaves: the host may have no memory at any time, and then nothing changes
abbrev pub Loads : Kind → Values → List (List ℕ) → List (List ℕ) → List Region → List ℕ → List Region → List ℕ → Result Loaded LoadRefusal → Type 0
Loads kind f args env old mem_old new mem_new (Ok loaded) = IsLoaded kind f args env old mem_old new mem_new loaded
Loads kind f args env old mem_old new mem_new (Err E2big) =
    (frame_fits (flat_original f) args env ≡ false) × ((new ≡ old) × (mem_new ≡ mem_old))
Loads kind f args env old mem_old new mem_new (Err NoRun) =
    (frame_fits (flat_original f) args env ≡ true) × ((block_page kind old (block_pages (flat_original f)) ≡ None) × ((new ≡ old) × (mem_new ≡ mem_old)))
Loads kind f args env old mem_old new mem_new (Err Memory) = (new ≡ old) × (mem_new ≡ mem_old)

-- why a program can't be loaded, whatever memory the host has
abbrev pub load_refusal : Kind → Values → List (List ℕ) → List (List ℕ) → List Region → Option LoadRefusal
load_refusal kind f args env old = first_of_two (frame_fits (flat_original f) args env) (block_page kind old (block_pages (flat_original f)))
  where
    first_of_two : Bool → Option ℕ → Option LoadRefusal
    first_of_two false page = Some E2big
    first_of_two true None = Some NoRun
    first_of_two true (Some page) = None

-- it is answered then, and not that memory is out
abbrev pub RefusesLoad : Option LoadRefusal → Result Loaded LoadRefusal → Type 0
RefusesLoad None result = ⊤
RefusesLoad (Some first) result = result ≡ Err first

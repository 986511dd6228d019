-- What one program has of physical memory: the bytes that its table names as own. Linux, "No-MMU memory mapping support":
-- without an MMU all programs stand in the one physical memory, at its addresses.
use Rattle.std.specs.Prelude.{ℕ, ◌+◌, ◌*◌, Bool, true, false, not, ◌&&◌, nat_le, nat_lt, if◌then◌else◌, List, length, None}
use Rattle.byte_words.specs.ByteMap.{Bytes, byte_of}
use Rattle.mmap_rules.specs.declared.page_owner.PageOwner.{PageOwner}
use Rattle.mmap_rules.specs.Space.{memory_base, page_size}
use Rattle.mmap_rules.specs.Owners.{owns}
use Rattle.region_watch.specs.declared.mode.Mode.{Mode}
use Rattle.region_watch.specs.declared.mode.Mode.TheVariants.{Halt, GoOn}

-- a map cut down to the addresses that pass a test
unfoldable pub only : (ℕ → Bool) → Bytes → Bytes
only test m a = if test a then m a else None

-- physical memory as a map
abbrev pub physical : List ℕ → Bytes
physical mem = byte_of memory_base mem

-- the bytes that a table names as own
abbrev pub own_bytes : List PageOwner → List ℕ → Bytes
own_bytes table mem = only (owns table false) (physical mem)

-- the bytes that a table doesn't let write
abbrev pub frozen : List PageOwner → List ℕ → Bytes
frozen table mem = only (λ a. not (owns table true a)) (physical mem)

-- ---- what a watch lets pass

-- the addresses of a memory of so many pages
abbrev pub in_pages : ℕ → ℕ → Bool
in_pages pages a = nat_le memory_base a && nat_lt a (memory_base + page_size * pages)

-- the addresses that it lets read, or write: in Halt those that its table names so, in GoOn all of memory
abbrev pub passes : Mode → List PageOwner → Bool → ℕ → Bool
passes Halt table write = owns table write
passes GoOn table write = in_pages (length table)

-- the bytes that it lets read
abbrev pub passed_bytes : Mode → List PageOwner → List ℕ → Bytes
passed_bytes mode table mem = only (passes mode table false) (physical mem)

-- the bytes that it doesn't let write
abbrev pub kept_bytes : Mode → List PageOwner → List ℕ → Bytes
kept_bytes mode table mem = only (λ a. not (passes mode table true a)) (physical mem)

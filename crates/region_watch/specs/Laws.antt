-- Laws of programs in one memory.
use Rattle.std.specs.Prelude.{◌≡◌, ℕ, ◌*◌, true, false, List, length}
use Rattle.mmap_rules.specs.declared.page_owner.PageOwner.{PageOwner}
use Rattle.mmap_rules.specs.Space.{page_size}
use Rattle.mmap_rules.specs.Owners.{owns}
use Rattle.region_watch.specs.declared.mode.Mode.TheVariants.{GoOn}
use Rattle.region_watch.specs.Private.{physical, own_bytes, frozen, passed_bytes}

-- where one table lets write none of the bytes that the other names as own, whatever leaves the first one's frozen bytes
-- leaves all bytes of the other
abbrev pub OthersRemain : Type 0
OthersRemain =
    (table other : List PageOwner) (mem after : List ℕ) → ((a : ℕ) → owns table true a ≡ true → owns other false a ≡ false) →
    frozen table after ≡ frozen table mem → own_bytes other after ≡ own_bytes other mem

-- in a run that goes on a watch lets read all of memory
abbrev pub AllIsPassed : Type 0
AllIsPassed = (table : List PageOwner) (mem : List ℕ) → length mem ≡ page_size * length table → passed_bytes GoOn table mem ≡ physical mem

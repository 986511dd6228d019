-- Two spaces that share a copy of a file's page, and what isn't shared or copied so.
use Rattle.std.proofs.Common.{◌≡◌, ℕ, zero, suc, ◌-◌, ◌*◌, ◌+◌, ◌≤◌, Bool, true, false, List, [], ◌∷◌, Option, Some, None, ◌⊎◌, inl, inr, refl, ap, subst, arith}
use Rattle.std.specs.Prelude.{codes, if◌then◌else◌, slice_get, nat_le, nat_lt}
use Rattle.std.specs.List.{slice_index_or}
use Rattle.std.proofs.lemmas.Bool.{and_parts}
use Rattle.std.proofs.lemmas.Bool.Decides.{nat_tests}
use Rattle.std.proofs.lemmas.Option.{same_Some}
use Rattle.nommu_regions.specs.declared.region.Source.{Source}
use Rattle.nommu_regions.specs.declared.region.Source.TheVariants.{Own, Copy}
use Rattle.mmap_rules.specs.declared.mapping.Mapping.{Mapping}
use Rattle.mmap_rules.specs.Space.{Space, in_range}
use Rattle.mmap_rules.specs.Held.{block_mapping}
use Rattle.mem_files.specs.Inodes.{Inode, Inodes, file, folder, new_inode, inode_at, bytes_in}
use Rattle.machine_world.specs.World.{LiveSpace}
use Rattle.machine_world.specs.MapCalls.{all_maps}
use Rattle.alone_laws.specs.Sound.{ShareCopy, Apart, AreApart, copied_byte, HoldsFile, HoldsSource, HoldCopies}

-- ---- the file 2 has two bytes, and was changed five times; its first page is copied into page 2

abbrev hi : ℕ → Inode
hi change = record (new_inode (file (codes "hi")) None) { change = change }

abbrev nodes : ℕ → Inodes
nodes change = None ∷ Some (new_inode (folder 1 []) None) ∷ Some (hi change) ∷ []

abbrev copy : Mapping
copy = record { first = 2; pages = 1; range = record { from = 0x8000_2000; size = 4096; writes = false; anonymous = false }; source = Copy 2 5 0 }

-- a block of a page at this one, and the copy behind it; of the copy these bytes, and zeros
abbrev own : List ℕ → (block : ℕ) → Space
own bytes block = record {
  maps = block_mapping block 1 ∷ copy ∷ [];
  brk = 0;
  brk_low = 0;
  brk_high = 0;
  bytes = λ a. if nat_le 0x8000_2000 a then Some (slice_index_or bytes (a - 0x8000_2000) 0) else Some 9;
}

-- its third byte lies behind the file's end
copied : copied_byte (codes "hi") copy 0x8000_2001 ≡ 0x69
copied = refl

copied-behind : copied_byte (codes "hi") copy 0x8000_2002 ≡ 0
copied-behind = refl

-- the file's second page, of which there is nothing
copied-second : copied_byte (codes "hi") (record copy { source = Copy 2 5 1 }) 0x8000_2000 ≡ 0
copied-second = refl

-- ---- both have the file's bytes

holds-file : (block : ℕ) → HoldsFile (own (codes "hi") block) (nodes 5) copy 2 5
holds-file block = record { given = omega arith; up = up; same = same }
  where
    up : (n : Inode) → inode_at (nodes 5) 2 ≡ Some n → 5 ≤ n.change
    up n is = subst (λ (m : Inode). 5 ≤ m.change) (same_Some (hi 5) n is) (omega arith)

    byte : (a : ℕ) (b : Bool) → b ≡ true → (if b then Some (slice_index_or (codes "hi") (a - 0x8000_2000) 0) else Some 9) ≡ Some (copied_byte (codes "hi") copy a)
    byte a true is = let place : a - 0x8000_2000 ≡ 4096 * 0 + (a - 0x8000_2000) = omega arith in ap (λ (i : ℕ). Some (slice_index_or (codes "hi") i 0)) place
    byte a false is = absurd cc

    same : (n : Inode) (a : ℕ) → inode_at (nodes 5) 2 ≡ Some n → 5 ≡ n.change → in_range copy.range a ≡ true →
        (own (codes "hi") block).bytes a ≡ Some (copied_byte (bytes_in n.content) copy a)
    same n a is unchanged within =
        subst (λ (m : Inode). (own (codes "hi") block).bytes a ≡ Some (copied_byte (bytes_in m.content) copy a)) (same_Some (hi 5) n is)
        (byte a (nat_le 0x8000_2000 a) (and_parts (nat_le 0x8000_2000 a) (nat_lt a (0x8000_2000 + 4096)) within).0)

holds : (block : ℕ) → HoldCopies (nodes 5) (own (codes "hi") block)
holds block zero m is = subst (λ (n : Mapping). HoldsSource (own (codes "hi") block) (nodes 5) n n.source) (same_Some (block_mapping block 1) m is) tt
holds block (suc zero) m is = subst (λ (n : Mapping). HoldsSource (own (codes "hi") block) (nodes 5) n n.source) (same_Some copy m is) (holds-file block)
holds block (suc (suc j)) m is = absurd cc

-- other bytes, though the file wasn't changed
refuted-bytes : HoldCopies (nodes 5) (own (codes "ho") 0) → ⊥
refuted-bytes h = let file : HoldsFile (own (codes "ho") 0) (nodes 5) copy 2 5 = h 1 copy refl in differs (file.same (hi 5) 0x8000_2001 refl refl refl)
  where
    differs : ◌≡◌ {A = Option ℕ} (Some 0x6f) (Some 0x69) → ⊥
    differs is = let letter : ◌≡◌ {A = ℕ} 0x6f 0x69 = same_Some 0x6f 0x69 is in omega (arith, letter)

-- changed more often than the file
refuted-change : HoldCopies (nodes 4) (own (codes "hi") 0) → ⊥
refuted-change h = let held : HoldsFile (own (codes "hi") 0) (nodes 4) copy 2 5 = h 1 copy refl in low (held.up (hi 4) refl)
  where
    low : 5 ≤ 4 → ⊥
    low is = omega (arith, is)

-- ---- all mappings of both are apart, since the copy is one and the same

abbrev both : List LiveSpace
both = record { id = 1; space = own (codes "hi") 1 } ∷ record { id = 0; space = own (codes "hi") 0 } ∷ []

shared : ShareCopy copy copy
shared = record { copy = refl; first = refl; pages = refl; source = refl }

-- runs that have no page in common
apart-by : (m n : Mapping) → (m.first + m.pages ≤ n.first) ⊎ (n.first + n.pages ≤ m.first) → Apart m n
apart-by m n (inl low) page in_m in_n = absurd (grind (arith, nat_tests, low, in_m, in_n))
apart-by m n (inr low) page in_m in_n = absurd (grind (arith, nat_tests, low, in_m, in_n))

-- the block of the second, its copy, and the block of the first, from all behind them
second-block : (j : ℕ) (n : Mapping) → slice_get (copy ∷ block_mapping 0 1 ∷ copy ∷ []) j ≡ Some n → Apart (block_mapping 1 1) n
second-block zero n there = subst (λ (m : Mapping). Apart (block_mapping 1 1) m) (same_Some copy n there) (apart-by (block_mapping 1 1) copy (inl (omega arith)))
second-block (suc zero) n there =
    subst (λ (m : Mapping). Apart (block_mapping 1 1) m) (same_Some (block_mapping 0 1) n there) (apart-by (block_mapping 1 1) (block_mapping 0 1) (inr (omega arith)))
second-block (suc (suc zero)) n there =
    subst (λ (m : Mapping). Apart (block_mapping 1 1) m) (same_Some copy n there) (apart-by (block_mapping 1 1) copy (inl (omega arith)))
second-block (suc (suc (suc j))) n there = absurd cc

second-copy : (j : ℕ) (n : Mapping) → slice_get (block_mapping 0 1 ∷ copy ∷ []) j ≡ Some n → Apart copy n
second-copy zero n there = subst (λ (m : Mapping). Apart copy m) (same_Some (block_mapping 0 1) n there) (apart-by copy (block_mapping 0 1) (inr (omega arith)))
second-copy (suc zero) n there = subst (λ (m : Mapping). Apart copy m) (same_Some copy n there) (λ page first second. shared)
second-copy (suc (suc j)) n there = absurd cc

first-block : (j : ℕ) (n : Mapping) → slice_get (copy ∷ []) j ≡ Some n → Apart (block_mapping 0 1) n
first-block zero n there = subst (λ (m : Mapping). Apart (block_mapping 0 1) m) (same_Some copy n there) (apart-by (block_mapping 0 1) copy (inl (omega arith)))
first-block (suc j) n there = absurd cc

are-apart : AreApart (all_maps both)
are-apart = (second-block, (second-copy, (first-block, (λ j n there. absurd cc, tt))))

-- a copy of the file as it was before it was changed is another one
refuted-apart : AreApart (copy ∷ record copy { source = Copy 2 4 0 } ∷ []) → ⊥
refuted-apart apart = let one : ShareCopy copy (record copy { source = Copy 2 4 0 }) = apart.0 0 (record copy { source = Copy 2 4 0 }) refl 2 refl refl in differs one.source
  where
    change_of : Source → ℕ
    change_of Own = 0
    change_of (Copy id change first) = change

    differs : Copy 2 5 0 ≡ Copy 2 4 0 → ⊥
    differs is = let five : 5 ≡ 4 = ap (λ (s : Source). change_of s) is in omega (arith, five)

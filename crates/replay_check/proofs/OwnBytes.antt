-- Own bytes by ranges, and by the table.
use Rattle.std.proofs.Common.{◌≡◌, ℕ, zero, suc, ◌+◌, ◌*◌, ◌^◌, ◌<◌, ◌≤◌, Bool, true, false, ◌&&◌, List, [], ◌∷◌, length, Some, refl, sym, ap, subst, ◌∙◌, arith}
use Rattle.std.specs.Prelude.{slice_get, ◌||◌}
use Rattle.std.specs.List.{list_any}
use Rattle.std.specs.Prelude.{slice_index_or}
use Rattle.std.proofs.lemmas.Bool.{and_from, le-leb}
use Rattle.std.proofs.lemmas.Bool.Decides.{nat_tests}
use Rattle.std.proofs.lemmas.Option.{none-some, same_Some}
use Rattle.rv32im_step.specs.declared.regs.Regs.{Regs}
use Rattle.rv32im_step.specs.declared.stop.Stop.{Stop}
use Rattle.mmap_rules.specs.declared.mapping.Range.{Range}
use Rattle.mmap_rules.specs.declared.mapping.Mapping.{Mapping}
use Rattle.mmap_rules.specs.declared.page_owner.PageOwner.{PageOwner}
use Rattle.mmap_rules.specs.Space.{in_range, own_in, writable_in, may_use}
use Rattle.mmap_rules.specs.Owners.{owns}
use Rattle.mmap_rules.specs.Held.{IsMapping, AreMappings}
use Rattle.mmap_rules.proofs.TableOwns.{table_owns, table_writable}
use Rattle.mmap_rules.proofs.Lists.{any_found}
use Rattle.region_watch.specs.declared.mode.Mode.{Mode}
use Rattle.region_watch.specs.declared.mode.Mode.TheVariants.{Halt}
use Rattle.region_watch.specs.Private.{only, physical, passes, passed_bytes}
use Rattle.region_watch.specs.Instructions.{ran, instructions}
use Rattle.region_watch.proofs.Maps.{all_pass-each}
use Rattle.region_watch.proofs.Accesses.{range_of}
use Rattle.flat_loader.specs.Alone.{own_of, writable_of}
use Rattle.replay_check.specs.Ranges.{mapping_of, mappings_of, IsOwnRange, AreOwnRanges, IsLone}

-- ---- a list of ranges as one of mappings

pub any_mapped : (p : Range → Bool) (ranges : List Range) → list_any (λ (m : Mapping). p m.range) (mappings_of ranges) ≡ list_any p ranges
any_mapped p [] = refl
any_mapped p (r ∷ rs) = ap (λ (b : Bool). p r || b) (any_mapped p rs)

pub own_mapped : (ranges : List Range) → own_in (mappings_of ranges) ≡ own_of ranges
unfolding own_in own_of
own_mapped ranges = λ i a. any_mapped (λ r. in_range r a) ranges i

pub writable_mapped : (ranges : List Range) → writable_in (mappings_of ranges) ≡ writable_of ranges
unfolding writable_in writable_of
writable_mapped ranges = λ i a. any_mapped (λ r. r.writes && in_range r a) ranges i

-- the range of which a mapping was made
pub record MadeOf (ranges : List Range) (j : ℕ) (m : Mapping) : Type 0 where
  pub range : Range
  pub there : slice_get ranges j ≡ Some range
  pub is : m ≡ mapping_of range

pub made_of : (ranges : List Range) (j : ℕ) (m : Mapping) → slice_get (mappings_of ranges) j ≡ Some m → MadeOf ranges j m
made_of [] j m there = absurd (none-some m there)
made_of (r ∷ rs) zero m there = record { range = r; there = refl; is = sym (same_Some _ _ there) }
made_of (r ∷ rs) (suc j) m there = let x = made_of rs j m there in record { range = x.range; there = x.there; is = x.is }

pub mapping_is : (r : Range) → IsOwnRange r → IsMapping 16384 (mapping_of r)
mapping_is r own =
    let shaped = own.shaped in
    let above = shaped.above in
    let some = shaped.some in
    let inside = shaped.inside in
    let whole = shaped.whole in
    record {
      shaped = shaped;
      from = omega arith;
      to = omega arith;
      writes = λ _. refl;
      copied = λ is. absurd cc;
      whole = λ is. (let begins = own.anonymous is in (refl, omega arith, omega arith));
    }

pub mappings_are : (ranges : List Range) → AreOwnRanges ranges → AreMappings 16384 (mappings_of ranges)
mappings_are ranges own j m there =
    let x = made_of ranges j m there in
    subst (IsMapping 16384) (sym x.is) (mapping_is x.range (own j x.range x.there))

-- ---- the table

pub owned : (ranges : List Range) (table : List PageOwner) (mem : List ℕ) → IsLone ranges table mem → owns table false ≡ own_of ranges
owned ranges table mem l = table_owns 16384 table (mappings_of ranges) l.tabled.named (mappings_are ranges l.tabled.own) l.tabled.pages ∙ own_mapped ranges

pub writable : (ranges : List Range) (table : List PageOwner) (mem : List ℕ) → IsLone ranges table mem → owns table true ≡ writable_of ranges
writable ranges table mem l = table_writable 16384 table (mappings_of ranges) l.tabled.named (mappings_are ranges l.tabled.own) l.tabled.pages ∙ writable_mapped ranges

pub paged : (ranges : List Range) (table : List PageOwner) (mem : List ℕ) → IsLone ranges table mem → length mem ≡ 4096 * length table
paged ranges table mem l = l.memory ∙ ap (λ n. 4096 * n) (sym l.tabled.pages)

-- ---- the block, in which the processes may use all

in_it : (r : Range) (a : ℕ) → r.from ≤ a → a < r.from + r.size → in_range r a ≡ true
in_it r a low high = grind (arith, nat_tests)

writes_there : (ranges : List Range) (b : Range) (a : ℕ) → slice_get ranges 0 ≡ Some b → b.writes ≡ true → in_range b a ≡ true → writable_of ranges a ≡ true
unfolding writable_of
writes_there ranges b a first writes inside = any_found (λ (r : Range). r.writes && in_range r a) ranges 0 b first (and_from b.writes (in_range b a) writes inside)

pub window_own : (ranges : List Range) (table : List PageOwner) (mem : List ℕ) → IsLone ranges table mem → (b : Range) → b ≡ slice_index_or ranges 0 b → may_use (owns table true) b.from b.size ≡ true
window_own ranges table mem l b is =
    let first : slice_get ranges 0 ≡ Some l.block = ap (λ (rs : List Range). slice_get rs 0) l.head in
    let same : b ≡ l.block = is ∙ ap (λ (rs : List Range). slice_index_or rs 0 b) l.head in
    let shaped = (l.tabled.own 0 l.block first).shaped in
    let above = shaped.above in
    let inside = shaped.inside in
    let fits : l.block.from + l.block.size ≤ 2 ^ 32 = omega (arith, above, inside) in
    let at : (a : ℕ) → l.block.from ≤ a → a < l.block.from + l.block.size → owns table true a ≡ true = λ a low high.
    (λ k. writable ranges table mem l k a) ∙ writes_there ranges l.block a first l.is_block.writes (in_it l.block a low high) in
    subst (λ (r : Range). may_use (owns table true) r.from r.size ≡ true) (sym same)
    (range_of (owns table true) l.block.from l.block.size fits (all_pass-each (owns table true) l.block.from l.block.size at))

-- ---- instructions, over the program's own bytes

pub ran_alone : (ranges : List Range) (table : List PageOwner) (mem : List ℕ) → IsLone ranges table mem
    → (mode : Mode) (owners : List PageOwner) (before after : List ℕ) (count : ℕ) (regs left : Regs) (done : ℕ) (stop : Stop) → mode ≡ Halt → owners ≡ table → before ≡ mem
    → ran left (passed_bytes mode owners after) done stop ≡ instructions count (passes mode owners true) regs (passed_bytes mode owners before)
    → ran left (only (own_of ranges) (physical after)) done stop ≡ instructions count (writable_of ranges) regs (only (own_of ranges) (physical mem))
ran_alone ranges table mem l mode owners before after count regs left done stop halt same was leaves =
    let own = owned ranges table mem l in
    let may = writable ranges table mem l in
    let e = rw (halt, same, was) at leaves in
    (λ i. ran left (only (sym own i) (physical after)) done stop) ∙ e ∙ (λ i. instructions count (may i) regs (only (own i) (physical mem)))

-- ---- one byte

and_true : (b : Bool) → (b && true) ≡ b
and_true true = refl
and_true false = refl

pub one_own : (p : ℕ → Bool) (a : ℕ) → a + 1 ≤ 2 ^ 32 → may_use p a 1 ≡ p a
unfolding may_use
one_own p a fits = rw (le-leb (a + 1) (2 ^ 32) fits) (and_true (p a))

-- What an index says of the first entries of its section.
use Rattle.std.proofs.Common.{◌≡◌, ℕ, ◌+◌, ◌==◌, Bool, true, false, List, Option, Some, None, if◌then◌else◌, refl, sym, ◌∙◌, add-one}
use Rattle.std.specs.Ordering.{nat_cmp}
use Rattle.std.specs.Option.{option_map, option_or}
use Rattle.std.specs.BTreeMap as tree
use Rattle.elf32_reader.specs.declared.section.Section.{Section}
use Rattle.elf32_reader.specs.Relas.{rela_count}
use Rattle.psabi_relocs.specs.declared.pairs.Pairs.{Pairs}
use Rattle.psabi_relocs.specs.declared.pairs.Gathered.{Gathered}
use Rattle.psabi_relocs.specs.declared.reloc.Reloc.{Reloc}
use Rattle.psabi_relocs.specs.declared.row.Row.{Row}
use Rattle.psabi_relocs.specs.declared.row.Row.TheVariants.{Unknown, Mark, Pointer, Absolute, Relative, Call, GotHi20, Low, Group}
use Rattle.psabi_relocs.specs.declared.row.Shape.TheVariants.{Word, High, LowI, LowS, Branch, Jump}
use Rattle.psabi_relocs.specs.declared.row.Width.{Width}
use Rattle.psabi_relocs.specs.declared.row.Width.TheVariants.{Bits8, Bits16, Bits32, Bits6, Uleb128}
use Rattle.psabi_relocs.specs.declared.group.Sum.{Sum}
use Rattle.psabi_relocs.specs.Search.{first_below}
use Rattle.psabi_relocs.specs.Class.{is_moving}
use Rattle.psabi_relocs.specs.Row.{is_high, is_low, is_joined}
use Rattle.psabi_relocs.specs.Reloc.{reloc, target_section}
use Rattle.psabi_relocs.specs.Pair.{is_high_at, high_of, names, low_of}
use Rattle.psabi_relocs.specs.Group.{row_step, entry_step, sum_below}
use Rattle.psabi_relocs.specs.Sums.{no_sums, sums_or_none, sum_of}
use Rattle.psabi_relocs.specs.Firsts.{first_at, high_part}
use Rattle.psabi_relocs.specs.Index.{IsPairs}
use Rattle.psabi_relocs.proofs.IndexSearches.{first_below_next, first_kept_next}

-- p has what the first n entries note, of the kept section i
pub record HasEntries (e : List ℕ) (i n : ℕ) (p : Gathered) : Type 0 where
  pub high : (q : ℕ) → first_at p.high.items q ≡ option_map (λ k. high_part (reloc e i k)) (first_below (λ k. is_high_at q (reloc e i k)) n)
  pub low : (q : ℕ) → first_at p.low.items q ≡ first_below (λ k. names (target_section e i) q (reloc e i k)) n
  pub sums : (q : ℕ) (width : Width) → sum_of width (sums_or_none (tree.get nat_cmp p.sums q)) ≡ sum_below e i q width n

pub sum_below_zero : (e : List ℕ) (i q : ℕ) (width : Width) → sum_of width no_sums ≡ sum_below e i q width 0
unfolding sum_below
sum_below_zero e i q Bits8 = refl
sum_below_zero e i q Bits16 = refl
sum_below_zero e i q Bits32 = refl
sum_below_zero e i q Bits6 = refl
sum_below_zero e i q Uleb128 = refl

-- a sum that has taken one more entry
sum_below_next : (e : List ℕ) (i q n : ℕ) (width : Width) (old new : Sum) → old ≡ sum_below e i q width n
    → new ≡ entry_step q width (reloc e i n) old → new ≡ sum_below e i q width (n + 1)
unfolding sum_below
sum_below_next e i q n width old new before step = rw (step, before, add-one) refl

-- what one more entry r changes in an index
pub record Notes (e : List ℕ) (i n : ℕ) (r : Reloc) (old new : Gathered) : Type 0 where
  pub high : (q : ℕ) → first_at new.high.items q ≡ option_or (first_at old.high.items q) (if is_high_at q r then Some (high_part r) else None)
  pub low : (q : ℕ) → first_at new.low.items q ≡ option_or (first_at old.low.items q) (if names (target_section e i) q r then Some n else None)
  pub sums : (q : ℕ) (width : Width) → sum_of width (sums_or_none (tree.get nat_cmp new.sums q)) ≡ entry_step q width r (sum_of width (sums_or_none (tree.get nat_cmp old.sums q)))

-- an entry that is by itself changes nothing
module _ (r : Reloc) (alone : is_joined r.row ≡ false) where
  no_high : (row : Row) → is_joined row ≡ false → is_high row ≡ false
  no_high (Relative High) is = absurd cc
  no_high (Relative Word) is = refl
  no_high (Relative LowI) is = refl
  no_high (Relative LowS) is = refl
  no_high (Relative Branch) is = refl
  no_high (Relative Jump) is = refl
  no_high GotHi20 is = absurd cc
  no_high Unknown is = refl
  no_high Mark is = refl
  no_high Pointer is = refl
  no_high (Absolute shape) is = refl
  no_high Call is = refl
  no_high (Low shape) is = refl
  no_high (Group width step) is = refl

  no_low : (row : Row) → is_joined row ≡ false → is_low row ≡ false
  no_low (Low shape) is = absurd cc
  no_low (Relative shape) is = refl
  no_low GotHi20 is = refl
  no_low Unknown is = refl
  no_low Mark is = refl
  no_low Pointer is = refl
  no_low (Absolute shape) is = refl
  no_low Call is = refl
  no_low (Group width step) is = refl

  no_step : (width : Width) (row : Row) (moves : Bool) (s : Sum) → is_joined row ≡ false → row_step width row moves s ≡ s
  no_step width (Group own step) moves s is = absurd cc
  no_step width (Low shape) moves s is = refl
  no_step width (Relative shape) moves s is = refl
  no_step width GotHi20 moves s is = refl
  no_step width Unknown moves s is = refl
  no_step width Mark moves s is = refl
  no_step width Pointer moves s is = refl
  no_step width (Absolute shape) moves s is = refl
  no_step width Call moves s is = refl

  or_none : {A : Type 0} (o : Option A) → o ≡ option_or o None
  or_none None = refl
  or_none (Some x) = refl

  or_same : {A : Type 0} (b : Bool) (x y : A) → x ≡ y → y ≡ (if b then x else y)
  or_same true x y same = sym same
  or_same false x y same = refl

  pub unpaired_high : {X : Type 0} (q : ℕ) (what : X) (o : Option X) → o ≡ option_or o (if is_high_at q r then Some what else None)
  unfolding is_high_at
  unpaired_high q what o = rw (no_high r.row alone) (or_none o)

  pub unpaired_low : (s : Section) (q n : ℕ) (o : Option ℕ) → o ≡ option_or o (if names s q r then Some n else None)
  unfolding names
  unpaired_low s q n o = rw (no_low r.row alone) (or_none o)

  pub ungrouped : (q : ℕ) (width : Width) (s : Sum) → s ≡ entry_step q width r s
  ungrouped q width s = or_same (r.place == q) (row_step width r.row (is_moving r.class) s) s (no_step width r.row (is_moving r.class) s alone)

pub one_more : (e : List ℕ) (i n : ℕ) (old new : Gathered) → HasEntries e i n old → Notes e i n (reloc e i n) old new → HasEntries e i (n + 1) new
one_more e i n old new before step = record {
  high = λ q. first_kept_next (λ k. high_part (reloc e i k)) (λ k. is_high_at q (reloc e i k)) n _ _ (before.high q) (step.high q);
  low = λ q. first_below_next (λ k. names (target_section e i) q (reloc e i k)) n _ _ (before.low q) (step.low q);
  sums = λ q width. sum_below_next e i q n width _ _ (before.sums q width) (step.sums q width);
}

-- the index of all entries
pub all_entries : (e : List ℕ) (i : ℕ) (n : Gathered) (p : Pairs) → HasEntries e i (rela_count e i) n
    → ((q : ℕ) → first_at p.high q ≡ first_at n.high.items q) → ((q : ℕ) → first_at p.low q ≡ first_at n.low.items q) → p.sums ≡ n.sums → IsPairs e i p
unfolding high_of low_of
all_entries e i n p h high low sums = record {
  high = λ q. high q ∙ h.high q;
  low = λ q. low q ∙ h.low q;
  sums = λ q width. rw sums (h.sums q width);
}

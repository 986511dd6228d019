-- The symbols of an entry's sight are of its table, and its distance is written in eight digits.
use Rattle.std.proofs.Common.{◌≡◌, ℕ, ◌<◌, ◌^◌, Bool, true, false, List, Option, Some, None, if◌then◌else◌, refl, sym, arith}
use Rattle.std.specs.Prelude.{ℤ, pos, ◌-ℤ◌, unsigned_abs, IfSome}
use Rattle.std.specs.Int.{w32, cast_signed}
use Rattle.std.proofs.lemmas.Bool.Decides.{nat_tests}
use Rattle.elf32_reader.specs.Accepted.{IsAccepted}
use Rattle.elf32_reader.specs.Relas.{addend_word, rela}
use Rattle.elf32_reader.specs.Symbols.{symbol_count, symbol}
use Rattle.elf32_reader.proofs.Facts.{addend_word_fits, symbol_fits_words}
use Rattle.psabi_relocs.specs.Search.{first_below}
use Rattle.psabi_relocs.specs.Around.{around, is_anchor, reached, anchored, meant}
use Rattle.psabi_relocs.proofs.IndexSearches.{first_below_passes}
use Rattle.psabi_relocs.proofs.SpotLists.{around_in_table}
use Rattle.elf2flt_tool.specs.Faults.{Entry}
use Rattle.fault_texts.specs.Lines.{table_of, around_of, meant_of}

pub apart_fits : (p q : ℕ) → p < 2 ^ 32 → q < 2 ^ 32 → unsigned_abs (pos p -ℤ pos q) < 2 ^ 32
apart_fits p q f g = grind (arith, nat_tests)

some_around : (e : List ℕ) (t x p : ℕ) (o : Option ℕ) → around e t x p ≡ o → IfSome o (λ j. j < symbol_count e t)
some_around e t x p None is = tt
some_around e t x p (Some j) is = around_in_table e t x p j is

-- the symbol around an entry's place
pub around_below : (e : List ℕ) (x : Entry) → IfSome (around_of e x) (λ j. j < symbol_count e (table_of e x))
around_below e x = some_around e _ _ _ (around_of e x) refl

in_some : (b : Bool) (o : Option ℕ) (j : ℕ) → (if b then o else None) ≡ Some j → o ≡ Some j
in_some true o j is = is
in_some false o j is = absurd cc

anchored_below : (e : List ℕ) (t i : ℕ) (a : ℤ) (o : Option ℕ) → i < symbol_count e t → ((j : ℕ) → o ≡ Some j → j < symbol_count e t)
    → (anchored e t i a o).symbol < symbol_count e t
anchored_below e t i a None below each = below
anchored_below e t i a (Some j) below each = each j refl

meant_in_table : (e : List ℕ) (t i : ℕ) (a : ℤ) → i < symbol_count e t → (meant e t i a).symbol < symbol_count e t
unfolding meant
meant_in_table e t i a below =
    let near = around e t (symbol e t i).shndx (reached e t i a) in
    anchored_below e t i a (if is_anchor e t i then near else None) below
    (λ j is. around_in_table e t (symbol e t i).shndx (reached e t i a) j (in_some (is_anchor e t i) near j is))

-- the symbol that it means
pub meant_below : (e : List ℕ) (x : Entry) → (rela e x.section x.index).symbol < symbol_count e (table_of e x)
    → (meant_of e x).symbol < symbol_count e (table_of e x)
meant_below e x below = meant_in_table e _ _ _ below

reached_fits : (e : List ℕ) (t i : ℕ) (a : ℤ) → reached e t i a < 2 ^ 32
unfolding reached
reached_fits e t i a = omega arith

anchored_fits : (e : List ℕ) (t i : ℕ) (a : ℤ) (o : Option ℕ) → IsAccepted e → unsigned_abs a < 2 ^ 32 → unsigned_abs (anchored e t i a o).distance < 2 ^ 32
anchored_fits e t i a None accepted small = small
anchored_fits e t i a (Some j) accepted small =
    apart_fits (reached e t i a) (symbol e t j).value (reached_fits e t i a) (symbol_fits_words e t j accepted.bytes).value

signed_fits : (n : ℕ) → n < 2 ^ 32 → unsigned_abs (cast_signed w32 n) < 2 ^ 32
signed_fits n fits = grind (arith, nat_tests)

addend_fits : (e : List ℕ) (i j : ℕ) → IsAccepted e → unsigned_abs (rela e i j).addend < 2 ^ 32
unfolding rela
addend_fits e i j accepted = signed_fits (addend_word e i j) (addend_word_fits e i j accepted)

meant_apart : (e : List ℕ) (t i : ℕ) (a : ℤ) → IsAccepted e → unsigned_abs a < 2 ^ 32 → unsigned_abs (meant e t i a).distance < 2 ^ 32
unfolding meant
meant_apart e t i a accepted small =
    anchored_fits e t i a (if is_anchor e t i then around e t (symbol e t i).shndx (reached e t i a) else None) accepted small

-- its distance
pub meant_fits : (e : List ℕ) (x : Entry) → IsAccepted e → unsigned_abs (meant_of e x).distance < 2 ^ 32
meant_fits e x accepted =
    meant_apart e (table_of e x) (rela e x.section x.index).symbol (rela e x.section x.index).addend accepted
    (addend_fits e x.section x.index accepted)

-- a section that is found is one of the file
pub found_below : (p : ℕ → Bool) (n : ℕ) (o : Option ℕ) → o ≡ first_below p n → IfSome o (λ i. i < n)
found_below p n None is = tt
found_below p n (Some i) is = (first_below_passes p n i (sym is)).0

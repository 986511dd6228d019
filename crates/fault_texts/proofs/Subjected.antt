-- The subjects of entries of a file, and the counts of these, are of that file.
use Rattle.std.proofs.Common.{◌≡◌, ℕ, ◌<◌, ◌==◌, List, [], ◌∷◌, map, filter, take, length, slice_get, Option, Some, None, sym, ap, subst, ◌∙◌, arith}
use Rattle.std.specs.Prelude.{IfSome}
use Rattle.std.specs.List.{flat_map, AllByRecursion as Each}
use Rattle.elf32_reader.specs.Accepted.{IsAccepted}
use Rattle.elf32_reader.specs.Relas.{rela}
use Rattle.elf32_reader.specs.Symbols.{symbol_count}
use Rattle.elf32_reader.proofs.Facts.{count_above, kept_link, entry_symbol}
use Rattle.elf32_reader.proofs.Places.{is_kept_info}
use Rattle.elf2flt_tool.specs.declared.fault.Fault.{Fault}
use Rattle.elf2flt_tool.specs.declared.fault.Fault.TheVariants as every
use Rattle.elf2flt_tool.specs.Faults.{Entry}
use Rattle.elf2flt_tool.proofs.Members.{each-flat_map, each-map, each-weaker}
use Rattle.fault_texts.specs.declared.counts.Subject.{Subject}
use Rattle.fault_texts.specs.declared.counts.Count.{Count}
use Rattle.fault_texts.specs.Lines.{table_of, around_of}
use Rattle.fault_texts.specs.Counts.{each_once, count_in, down_from, counts_of}
use Rattle.fault_texts.specs.InFile.{IsEntry, IsOfRead, AreOfRead, IsSubject, AreCounted}
use Rattle.fault_texts.specs.Listing.{entries_of, index_or_0, in_subject, to_subject, most_lines, faulty_entries, in_counts, to_counts}
use Rattle.fault_texts.proofs.Elements.{each_there, each_kept, each_from, there_taken}
use Rattle.fault_texts.proofs.InTable.{around_below, meant_below}
use Rattle.fault_texts.proofs.Counting.{each_each}

or_0_below : (n k : ℕ) (o : Option ℕ) → k < n → IfSome o (λ j. j < n) → index_or_0 o < n
or_0_below n k None some below = omega arith
or_0_below n k (Some j) some below = below

in_is : (e : List ℕ) → IsAccepted e → (x : Entry) → IsEntry e x.section x.index → IsSubject e (in_subject e x)
in_is e accepted x there =
    let symbol = entry_symbol e x.section x.index accepted.no_fault there.0 there.1 in
    record {
      table = kept_link e x.section accepted.no_fault there.0;
      symbol = or_0_below (symbol_count e (table_of e x)) (rela e x.section x.index).symbol (around_of e x) symbol (around_below e x);
      section = is_kept_info e x.section there.0;
    }

to_is : (e : List ℕ) → IsAccepted e → (x : Entry) → IsEntry e x.section x.index → IsSubject e (to_subject e x)
to_is e accepted x there = record {
  table = kept_link e x.section accepted.no_fault there.0;
  symbol = meant_below e x (entry_symbol e x.section x.index accepted.no_fault there.0 there.1);
  section = count_above e accepted.no_fault;
}

abbrev IsEntryOf : List ℕ → Entry → Type 0
IsEntryOf e x = IsEntry e x.section x.index

entries_in : (e : List ℕ) (f : Fault) → IsOfRead e f → Each (IsEntryOf e) (entries_of f)
entries_in e (every.Elf g i j) there = tt
entries_in e (every.Layout g i j) there = tt
entries_in e (every.Reloc i j g) there = (there, tt)
entries_in e (every.TargetOutside p i j) there = (there, tt)
entries_in e (every.WordOverlap p i j) there = (there, tt)

faulty_in : (e : List ℕ) (fs : List Fault) → AreOfRead e fs → Each (IsEntryOf e) (faulty_entries fs)
faulty_in e fs all =
    each-flat_map (IsEntryOf e) entries_of fs
    (each-weaker (IsOfRead e) (λ f. Each (IsEntryOf e) (entries_of f)) (entries_in e) fs (each_from (IsOfRead e) fs all))

-- what holds of each subject holds of each that is counted
counts_in : (P : Subject → Type 0) (ss : List Subject) → Each P ss → Each (λ c. P c.subject) (counts_of ss)
unfolding counts_of
counts_in P ss all =
    let Q : Count → Type 0 = λ c. P c.subject in
    let cs : List Count = map (count_in ss) (each_once ss) in
    let counted : Each Q cs = each-map Q (count_in ss) (each_once ss) (each_each P ss all) in
    each-flat_map Q (λ k. filter (λ c. c.count == k) cs) (down_from (length ss)) (at Q cs counted (down_from (length ss)))
  where
    at : (Q : Count → Type 0) (cs : List Count) → Each Q cs → (ks : List ℕ) → Each (λ k. Each Q (filter (λ c. c.count == k) cs)) ks
    at Q cs all [] = tt
    at Q cs all (k ∷ ks) = (each_kept Q (λ c. c.count == k) cs all, at Q cs all ks)

counted_taken : (e : List ℕ) (n : ℕ) (ss : List Subject) → Each (IsSubject e) ss → AreCounted e (take n (counts_of ss))
counted_taken e n ss all k c there =
    each_there (λ c. IsSubject e c.subject) (counts_of ss) (counts_in (IsSubject e) ss all) k c (there_taken n (counts_of ss) k c there)

in_counted : (e : List ℕ) → IsAccepted e → (fs : List Fault) → AreOfRead e fs → AreCounted e (take most_lines (in_counts e fs))
in_counted e accepted fs all =
    counted_taken e most_lines (map (in_subject e) (faulty_entries fs))
    (each-map (IsSubject e) (in_subject e) (faulty_entries fs) (each-weaker (IsEntryOf e) (λ x. IsSubject e (in_subject e x)) (in_is e accepted) (faulty_entries fs) (faulty_in e fs all)))

to_counted : (e : List ℕ) → IsAccepted e → (fs : List Fault) → AreOfRead e fs → AreCounted e (take most_lines (to_counts e fs))
to_counted e accepted fs all =
    counted_taken e most_lines (map (to_subject e) (faulty_entries fs))
    (each-map (IsSubject e) (to_subject e) (faulty_entries fs) (each-weaker (IsEntryOf e) (λ x. IsSubject e (to_subject e x)) (to_is e accepted) (faulty_entries fs) (faulty_in e fs all)))

-- the counts by place that are written
pub in_written : (d e : List ℕ) (fs : List Fault) (cs : List Count) → d ≡ e → IsAccepted d → AreOfRead e fs → cs ≡ take most_lines (in_counts e fs) → AreCounted d cs
in_written d e fs cs same accepted all are k c there =
    in_counted d accepted fs (subst (λ (b : List ℕ). AreOfRead b fs) (sym same) all) k c
    (subst (λ (ds : List Count). slice_get ds k ≡ Some c) (are ∙ ap (λ (b : List ℕ). take most_lines (in_counts b fs)) (sym same)) there)

-- and those by symbol
pub to_written : (d e : List ℕ) (fs : List Fault) (cs : List Count) → d ≡ e → IsAccepted d → AreOfRead e fs → cs ≡ take most_lines (to_counts e fs) → AreCounted d cs
to_written d e fs cs same accepted all are k c there =
    to_counted d accepted fs (subst (λ (b : List ℕ). AreOfRead b fs) (sym same) all) k c
    (subst (λ (ds : List Count). slice_get ds k ≡ Some c) (are ∙ ap (λ (b : List ℕ). take most_lines (to_counts b fs)) (sym same)) there)

-- The entry of a fault is one of the file.
use Rattle.std.proofs.Common.{◌≡◌, ℕ, ◌<◌, List, [], ◌∷◌, length, take, slice_get, slice_index_or, Some, sym, subst}
use Rattle.std.proofs.lemmas.Option.{slice_get-get_or}
use Rattle.elf2flt_tool.specs.declared.fault.Fault.{Fault}
use Rattle.elf2flt_tool.specs.declared.fault.Fault.TheVariants as every
use Rattle.elf2flt_tool.specs.Faults.{Entry, entry_at}
use Rattle.fault_texts.specs.Listing.{entries_of}
use Rattle.fault_texts.specs.InFile.{IsEntry, IsOfRead, AreOfRead}
use Rattle.fault_texts.proofs.Elements.{there_taken}

one_entry : (e : List ℕ) (i j a b : ℕ) → entry_at i j ∷ [] ≡ entry_at a b ∷ [] → IsEntry e a b → IsEntry e i j
one_entry e i j a b same there =
    let here : entry_at i j ≡ entry_at a b = cc in
    subst (λ (x : Entry). IsEntry e x.section x.index) (sym here) there

entry_of_fault : (e : List ℕ) (f : Fault) (i j : ℕ) → entry_at i j ∷ [] ≡ entries_of f → IsOfRead e f → IsEntry e i j
entry_of_fault e (every.Elf g a b) i j same there = absurd there
entry_of_fault e (every.Layout g a b) i j same there = absurd cc
entry_of_fault e (every.Reloc a b g) i j same there = one_entry e i j a b same there
entry_of_fault e (every.TargetOutside p a b) i j same there = one_entry e i j a b same there
entry_of_fault e (every.WordOverlap p a b) i j same there = one_entry e i j a b same there

pub entry_there : (e : List ℕ) (fs : List Fault) (k : ℕ) (d : Fault) (i j : ℕ) → AreOfRead e fs → k < length fs
    → entry_at i j ∷ [] ≡ entries_of (slice_index_or fs k d) → IsEntry e i j
entry_there e fs k d i j all below same =
    entry_of_fault e (slice_index_or fs k d) i j same (all k (slice_index_or fs k d) (slice_get-get_or fs k d below))

pub read_there : (d e : List ℕ) (fs : List Fault) (k : ℕ) (f : Fault) → d ≡ e → AreOfRead e fs → k < length fs → IsOfRead d (slice_index_or fs k f)
read_there d e fs k f same all below =
    subst (λ (b : List ℕ). IsOfRead b (slice_index_or fs k f)) (sym same) (all k (slice_index_or fs k f) (slice_get-get_or fs k f below))

-- of the faults that are written too
pub read_taken : (d e : List ℕ) (fs gs : List Fault) (n : ℕ) → d ≡ e → gs ≡ take n fs → AreOfRead e fs → AreOfRead d gs
read_taken d e fs gs n same are all k f there =
    subst (λ (b : List ℕ). IsOfRead b f) (sym same) (all k f (there_taken n fs k f (subst (λ (hs : List Fault). slice_get hs k ≡ Some f) are there)))

pub read_same : (d e : List ℕ) (fs : List Fault) → d ≡ e → AreOfRead e fs → AreOfRead d fs
read_same d e fs same all k f there = subst (λ (b : List ℕ). IsOfRead b f) (sym same) (all k f there)

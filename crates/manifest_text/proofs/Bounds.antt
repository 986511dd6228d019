-- A manifest that is read is bounded.
use Rattle.std.proofs.Common.{◌≡◌, ℕ, ◌+◌, ◌<◌, ◌≤◌, Bool, true, false, cond, List, [], ◌∷◌, ◌++◌, length, Option, Some, None, Result, Ok, Err, refl, sym, subst, arith, lit≤, length-append, append_assoc}
use Rattle.std.specs.Prelude.{◌&&◌, ◌==◌, nat_le, nat_lt}
use Rattle.std.specs.List.{AllByRecursion}
use Rattle.std.proofs.lemmas.Bool.Decides.{nat_tests}
use Rattle.std.proofs.lemmas.List.{append-nil}
use Rattle.manifest_text.specs.declared.fault.ManifestFault.{ManifestFault}
use Rattle.manifest_text.specs.Values.{Manifest}
use Rattle.manifest_text.specs.Lines.{Line, Said, nothing, memory, item, start, quanta, repeat, dump, watch, line_said}
use Rattle.manifest_text.specs.Manifest.{Fault, Draft, draft_of, late_fault, fault_in, all_said, or_later, first_fault, repeats, first_or, manifest_by, whole, judged_lines, judged_tree, lines_of, manifest_of, tree_manifest_of}
use Rattle.manifest_text.specs.Reading.{added, added_line}
use Rattle.manifest_text.specs.Laws.{IsItem, HasClearPath, HasArgument, IsShort, IsWatch, AreWatches, Reasonable, ManifestsAreReasonable, TreeManifestsAreReasonable}
use Rattle.manifest_text.proofs.SaidBounds.{IsSaid, Bounds, line_bounded}
use Rattle.manifest_text.proofs.Drafts.{line_more}

abbrev IsPages : ℕ → Type 0
IsPages n = (1 ≤ n) × (n ≤ 16384)

abbrev IsRepeat : ℕ → Type 0
IsRepeat n = n ≤ 1000000

-- what has been read so far is bounded
record IsDraft (d : Draft) : Type 0 where
  pages : AllByRecursion IsPages d.pages
  items : length d.items ≤ 4096
  each_item : AllByRecursion IsItem d.items
  each_path : AllByRecursion HasClearPath d.items
  starts : length d.starts ≤ 64
  each_start : AllByRecursion HasArgument d.starts
  quanta : length d.quanta ≤ 65536
  each_quantum : AllByRecursion IsShort d.quanta
  counts : AllByRecursion IsRepeat d.counts
  watches : length d.watches ≤ 64
  each_watch : AreWatches d.watches

all_append : {A : Type 0} (P : A → Type 0) (xs ys : List A) → AllByRecursion P xs → AllByRecursion P ys → AllByRecursion P (xs ++ ys)
all_append P [] ys all more = more
all_append P (x ∷ xs) ys all more = (all.0, all_append P xs ys all.1 more)

-- a test that isn't the fault fails
passed : {F : Type 0} (b : Bool) (fault : F) → cond b (Some fault) None ≡ None → b ≡ false
passed true fault h = absurd cc
passed false fault h = refl

-- where no row holds, the second doesn't
second_none : {F : Type 0} (a b : Bool) (one two : F) → cond a (Some one) (cond b (Some two) None) ≡ None → cond b (Some two) None ≡ None
second_none true b one two h = absurd cc
second_none false b one two h = h

added_bounded : (d : Draft) (said : Said) → IsDraft d → IsSaid said → late_fault d said ≡ None → IsDraft (added d said)
unfolding late_fault
added_bounded d nothing is says none = is
added_bounded d (memory pages) is says none = record { pages = (says, tt); items = is.items; each_item = is.each_item; each_path = is.each_path; starts = is.starts; each_start = is.each_start; quanta = is.quanta; each_quantum = is.each_quantum; counts = is.counts; watches = is.watches; each_watch = is.each_watch }
added_bounded d (item i) is says none =
    let fits : nat_le 4096 (length d.items) ≡ false = passed (nat_le 4096 (length d.items)) _ (second_none (repeats d.items i.kind) (nat_le 4096 (length d.items)) _ _ none) in
    let len = length-append d.items (i ∷ []) in
    let below : length d.items < 4096 = grind (arith, nat_tests) in
    record { pages = is.pages; items = omega (arith, len, below); each_item = all_append IsItem d.items (i ∷ []) is.each_item (says.0, tt); each_path = all_append HasClearPath d.items (i ∷ []) is.each_path (says.1, tt); starts = is.starts; each_start = is.each_start; quanta = is.quanta; each_quantum = is.each_quantum; counts = is.counts; watches = is.watches; each_watch = is.each_watch }
added_bounded d (start s) is says none =
    let fits : nat_le 64 (length d.starts) ≡ false = passed (nat_le 64 (length d.starts)) _ none in
    let len = length-append d.starts (s ∷ []) in
    let below : length d.starts < 64 = grind (arith, nat_tests) in
    record { pages = is.pages; items = is.items; each_item = is.each_item; each_path = is.each_path; starts = omega (arith, len, below); each_start = all_append HasArgument d.starts (s ∷ []) is.each_start (says, tt); quanta = is.quanta; each_quantum = is.each_quantum; counts = is.counts; watches = is.watches; each_watch = is.each_watch }
added_bounded d (quanta qs) is says none =
    let fits : nat_lt 65536 (length d.quanta + length qs) ≡ false = passed (nat_lt 65536 (length d.quanta + length qs)) _ none in
    let len = length-append d.quanta qs in
    let below : length d.quanta + length qs ≤ 65536 = grind (arith, nat_tests) in
    record { pages = is.pages; items = is.items; each_item = is.each_item; each_path = is.each_path; starts = is.starts; each_start = is.each_start; quanta = omega (arith, len, below); each_quantum = all_append IsShort d.quanta qs is.each_quantum says; counts = is.counts; watches = is.watches; each_watch = is.each_watch }
added_bounded d (repeat count) is says none = record { pages = is.pages; items = is.items; each_item = is.each_item; each_path = is.each_path; starts = is.starts; each_start = is.each_start; quanta = is.quanta; each_quantum = is.each_quantum; counts = (says, tt); watches = is.watches; each_watch = is.each_watch }
added_bounded d (dump x) is says none = record { pages = is.pages; items = is.items; each_item = is.each_item; each_path = is.each_path; starts = is.starts; each_start = is.each_start; quanta = is.quanta; each_quantum = is.each_quantum; counts = is.counts; watches = is.watches; each_watch = is.each_watch }
added_bounded d (watch w) is says none =
    let fits : nat_le 64 (length d.watches) ≡ false = passed (nat_le 64 (length d.watches)) _ none in
    let len = length-append d.watches (w ∷ []) in
    let below : length d.watches < 64 = grind (arith, nat_tests) in
    record { pages = is.pages; items = is.items; each_item = is.each_item; each_path = is.each_path; starts = is.starts; each_start = is.each_start; quanta = is.quanta; each_quantum = is.each_quantum; counts = is.counts; watches = omega (arith, len, below); each_watch = all_append IsWatch d.watches (w ∷ []) is.each_watch (says, tt) }

added_line_bounded : (d : Draft) (r : Result Said ManifestFault) → IsDraft d → Bounds r → fault_in d r ≡ None → IsDraft (added_line d r)
added_line_bounded d (Ok said) is says none = added_bounded d said is says none
added_line_bounded d (Err fault) is says none = is

-- a fault that comes first isn't none
no_first : (number : ℕ) (o : Option ManifestFault) (later : Option Fault) → or_later number o later ≡ None → (o ≡ None) × (later ≡ None)
no_first number None later h = (refl, h)
no_first number (Some fault) later h = absurd cc

lines_bounded : (before lines : List Line) → IsDraft (draft_of (all_said before)) → first_fault before lines ≡ None → IsDraft (draft_of (all_said (before ++ lines)))
unfolding first_fault
lines_bounded before [] is none = subst (λ (ls : List Line). IsDraft (draft_of (all_said ls))) (sym (append-nil before)) is
lines_bounded before (line ∷ lines) is none =
    let p = no_first line.number (fault_in (draft_of (all_said before)) (line_said line)) (first_fault (before ++ line ∷ []) lines) none in
    let more = added_line_bounded (draft_of (all_said before)) (line_said line) is (line_bounded line) p.0 in
    let next = subst IsDraft (line_more before line (draft_of (all_said before)) (line_said line) refl refl p.0) more in
    subst (λ (ls : List Line). IsDraft (draft_of (all_said ls))) (append_assoc before (line ∷ []) lines) (lines_bounded (before ++ line ∷ []) lines next p.1)

opening : IsDraft (draft_of (all_said []))
unfolding draft_of all_said
opening = record { pages = tt; items = lit≤ tt; each_item = tt; each_path = tt; starts = lit≤ tt; each_start = tt; quanta = lit≤ tt; each_quantum = tt; counts = tt; watches = lit≤ tt; each_watch = tt }

first_pages : (ns : List ℕ) → AllByRecursion IsPages ns → IsPages (first_or 256 ns)
first_pages [] all = (lit≤ tt, lit≤ tt)
first_pages (n ∷ ns) all = all.0

first_repeat : (ns : List ℕ) → AllByRecursion IsRepeat ns → IsRepeat (first_or 1 ns)
first_repeat [] all = lit≤ tt
first_repeat (n ∷ ns) all = all.0

made : (d : Draft) → IsDraft d → Reasonable (manifest_by d)
made d is = record {
  some_pages = (first_pages d.pages is.pages).0;
  most_pages = (first_pages d.pages is.pages).1;
  items = is.items;
  each_item = is.each_item;
  each_path = is.each_path;
  starts = is.starts;
  each_start = is.each_start;
  quanta = is.quanta;
  each_quantum = is.each_quantum;
  repeat = first_repeat d.counts is.counts;
  watches = is.watches;
  each_watch = is.each_watch;
}

whole_is : (d : Draft) (m : Manifest) → whole d ≡ Ok m → manifest_by d ≡ m
whole_is d m is = by_tests (nat_lt 0 (length d.starts) && length d.quanta == 0) (length d.starts == 0) refl refl
  where
    by_tests : (a b : Bool) → (nat_lt 0 (length d.starts) && length d.quanta == 0) ≡ a → (length d.starts == 0) ≡ b → manifest_by d ≡ m
    by_tests true b no_quanta no_start = let h = rw no_quanta at is in absurd cc
    by_tests false true no_quanta no_start = let h = rw (no_quanta, no_start) at is in absurd cc
    by_tests false false no_quanta no_start = let h = rw (no_quanta, no_start) at is in cc

judged_reasonable : (lines : List Line) (o : Option Fault) (m : Manifest) → first_fault [] lines ≡ o → judged_lines lines o ≡ Ok m → Reasonable m
judged_reasonable lines (Some fault) m none is = absurd cc
judged_reasonable lines None m none is =
    subst Reasonable (whole_is (draft_of (all_said lines)) m is) (made (draft_of (all_said lines)) (lines_bounded [] lines opening none))

pub manifests_are_reasonable : ManifestsAreReasonable
unfolding manifest_of
manifests_are_reasonable text m is = judged_reasonable (lines_of text) (first_fault [] (lines_of text)) m refl is

tree_reasonable : (lines : List Line) (o : Option Fault) (m : Manifest) → first_fault [] lines ≡ o → judged_tree lines o ≡ Ok m → Reasonable m
tree_reasonable lines (Some fault) m none is = absurd cc
tree_reasonable lines None m none is =
    let same : manifest_by (draft_of (all_said lines)) ≡ m = cc in
    subst Reasonable same (made (draft_of (all_said lines)) (lines_bounded [] lines opening none))

pub tree_manifests_are_reasonable : TreeManifestsAreReasonable
unfolding tree_manifest_of
tree_manifests_are_reasonable text m is = tree_reasonable (lines_of text) (first_fault [] (lines_of text)) m refl is

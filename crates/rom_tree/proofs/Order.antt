-- The nodes of a tree are in an order that an image can have.
use Rattle.std.proofs.Common.{◌≡◌, ℕ, zero, suc, ◌+◌, ◌<◌, ◌≤◌, Bool, true, false, cond, not, List, [], ◌∷◌, ◌++◌, map, length, refl, sym, ap, subst, ◌∙◌, inl, inr, arith, length-append, eq-eqb}
use Rattle.std.specs.Prelude.{◌==◌, ◌&&◌, ◌||◌, nat_lt, nat_le, bytes_eq}
use Rattle.std.specs.List.{AllByRecursion, list_any, list_all}
use Rattle.std.proofs.lemmas.Bool.{cases_Bool}
use Rattle.std.proofs.lemmas.Bool.Decides.{nat_tests}
use Rattle.std.proofs.lemmas.List.{append-nil}
use Rattle.std.proofs.lemmas.List.Sums.{sum_by-cons}
use Rattle.std.proofs.lemmas.List.Folds.{list_any-append}
use Rattle.std.proofs.lemmas.Slice.Eq.{bytes_eq-Decides}
use Rattle.mem_files.specs.declared.node.Node.{Node}
use Rattle.mem_files.specs.declared.node.Node.TheVariants as stored
use Rattle.mem_files.specs.Inodes.{Entry, Content, file, folder, Inodes, root, inode_at, content_in, kind_in, kind_of, entries_in, entries_of, most_nodes}
use Rattle.mem_files.specs.Trees.{having, IsTree}
use Rattle.romfs_image.specs.Fault.{is_dots}
use Rattle.romfs_image.specs.Nodes.{RomValue}
use Rattle.romfs_image.specs.Given.{is_name, is_new, from_folder, are_in_order, AreNodes}
use Rattle.rom_tree.specs.Nodes.{Waiting, waiting_in, node_of, walk}
use Rattle.rom_tree.specs.Names.{can_be_written, CanBeWritten}
use Rattle.rom_tree.specs.Code.{IsOfBytes}

-- ---- tests

five : (a b c d e : Bool) → a ≡ true → b ≡ true → c ≡ true → d ≡ true → e ≡ true → (a && b && c && d && e) ≡ true
five true true true true true p q r s t = refl
five true true true true false p q r s t = absurd cc
five true true true false e p q r s t = absurd cc
five true true false d e p q r s t = absurd cc
five true false c d e p q r s t = absurd cc
five false b c d e p q r s t = absurd cc

four_of : (a b c d : Bool) → (a && b && c && d) ≡ true → (a ≡ true) × (b ≡ true) × (c ≡ true) × (d ≡ true)
four_of true true true true p = (refl, refl, refl, refl)
four_of true true true false p = absurd cc
four_of true true false d p = absurd cc
four_of true false c d p = absurd cc
four_of false b c d p = absurd cc

four : (a b c d : Bool) → a ≡ true → b ≡ true → c ≡ true → d ≡ true → (a && b && c && d) ≡ true
four true true true true p q r s = refl
four true true true false p q r s = absurd cc
four true true false d p q r s = absurd cc
four true false c d p q r s = absurd cc
four false b c d p q r s = absurd cc

both_of : (a b : Bool) → (a && b) ≡ true → (a ≡ true) × (b ≡ true)
both_of true true p = (refl, refl)
both_of true false p = absurd cc
both_of false b p = absurd cc

three : (a b c d : Bool) → a ≡ true → (b && c) ≡ true → d ≡ true → ((a && b && c) && d) ≡ true
three true true true true p q r = refl
three true true true false p q r = absurd cc
three true true false d p q r = absurd cc
three true false c d p q r = absurd cc
three false b c d p q r = absurd cc

and_false : (a b : Bool) → b ≡ false → (a && b) ≡ false
and_false true b is = is
and_false false b is = refl

-- ---- lists

all_append : {A : Type 0} (P : A → Type 0) (xs ys : List A) → AllByRecursion P xs → AllByRecursion P ys → AllByRecursion P (xs ++ ys)
all_append P [] ys all more = more
all_append P (x ∷ xs) ys all more = (all.0, all_append P xs ys all.1 more)

all_map : {A B : Type 0} (P : B → Type 0) (f : A → B) (xs : List A) → AllByRecursion (λ x. P (f x)) xs → AllByRecursion P (map f xs)
all_map P f [] all = tt
all_map P f (x ∷ xs) all = (all.0, all_map P f xs all.1)

all_given : {A : Type 0} (P Q : A → Type 0) (xs : List A) → ((x : A) → P x → Q x) → AllByRecursion P xs → AllByRecursion Q xs
all_given P Q [] each all = tt
all_given P Q (x ∷ xs) each all = (each x all.0, all_given P Q xs each all.1)

each_of : {A : Type 0} (P : A → Type 0) (xs : List A) → ((x : A) → P x) → AllByRecursion P xs
each_of P [] each = tt
each_of P (x ∷ xs) each = (each x, each_of P xs each)

-- ---- names

bytes_eq_turn : (xs ys : List ℕ) → bytes_eq xs ys ≡ false → bytes_eq ys xs ≡ false
bytes_eq_turn xs ys differ =
    elim (cases_Bool (bytes_eq ys xs)) [
      | inl equal ↦ let same : xs ≡ ys = sym ((bytes_eq-Decides ys xs).0 equal) in let is : bytes_eq xs ys ≡ true = (bytes_eq-Decides xs ys).1 same in absurd (cc)
      | inr other ↦ other
    ]

abbrev AreApart : List Entry → Type 0
AreApart [] = Unit {0}
AreApart (e ∷ es) = AllByRecursion (λ (f : Entry). bytes_eq e.name f.name ≡ false) es × AreApart es

abbrev one_of : List ℕ → Entry → ℕ
one_of name e = cond (bytes_eq e.name name) 1 0

have_other : (name : List ℕ) (es : List Entry) → having name es ≡ 0 → AllByRecursion (λ (f : Entry). bytes_eq name f.name ≡ false) es
have_other name [] none = tt
have_other name (e ∷ es) none =
    let sum = sum_by-cons (one_of name) e es in
    elim (cases_Bool (bytes_eq e.name name)) [
      | inl equal ↦ absurd (let one : one_of name e ≡ 1 = ap (λ (b : Bool). cond b 1 0) equal in omega (arith, sum, one, none))
      | inr differ ↦ (bytes_eq_turn e.name name differ, have_other name es (omega (arith, sum, none)))
    ]

are_apart : (es : List Entry) → ((name : List ℕ) → having name es ≤ 1) → AreApart es
are_apart [] few = tt
are_apart (e ∷ es) few =
    let one : one_of e.name e ≡ 1 = ap (λ (b : Bool). cond b 1 0) ((bytes_eq-Decides e.name e.name).1 refl) in (
      have_other e.name es (omega (arith, sum_by-cons (one_of e.name) e es, one, few e.name)),
      are_apart es (λ name. omega (arith, sum_by-cons (one_of name) e es, few name)),
    )

list_both : (name : List ℕ) → list_all (λ b. nat_lt b 256) name ≡ true → list_all (λ b. not (b == 0) && not (b == 47)) name ≡ true
    → list_all (λ b. nat_lt b 256 && not (b == 0) && not (b == 47)) name ≡ true
list_both [] p q = refl
list_both (b ∷ bs) p q =
    let x = both_of (nat_lt b 256) (list_all (λ b. nat_lt b 256) bs) p in
    let y = both_of (not (b == 0) && not (b == 47)) (list_all (λ b. not (b == 0) && not (b == 47)) bs) q in
    three (nat_lt b 256) (not (b == 0)) (not (b == 47)) (list_all (λ b. nat_lt b 256 && not (b == 0) && not (b == 47)) bs) x.0 y.0 (list_both bs x.1 y.1)

name_is : (name : List ℕ) → list_all (λ b. nat_lt b 256) name ≡ true → can_be_written name ≡ true → is_name name ≡ true
unfolding can_be_written is_name
name_is name bytes can =
    let p = four_of (nat_lt 0 (length name)) (nat_le (length name) 255) (list_all (λ b. not (b == 0) && not (b == 47)) name) (not (is_dots name)) can in
    four (nat_lt 0 (length name)) (nat_le (length name) 255) (list_all (λ b. nat_lt b 256 && not (b == 0) && not (b == 47)) name) (not (is_dots name))
    p.0 p.1 (list_both name bytes p.2) p.3

-- ---- where the walk stands

-- the folder of each waiting entry is one in which the walk still is
abbrev AreWithin : List ℕ → List Waiting → Type 0
AreWithin within [] = Unit {0}
AreWithin within (w ∷ left) = (0 < length (from_folder w.parent within)) × AreWithin (from_folder w.parent within) left

-- two entries of one folder and name
abbrev same : Waiting → Waiting → Bool
same w v = (w.parent == v.parent) && bytes_eq w.entry.name v.entry.name

abbrev AreDistinct : List Waiting → Type 0
AreDistinct [] = Unit {0}
AreDistinct (w ∷ left) = AllByRecursion (λ (v : Waiting). same w v ≡ false) left × AreDistinct left

-- an earlier node of this folder and name
abbrev is_earlier : List RomValue → Waiting → Bool
is_earlier earlier w = list_any (λ e. (e.parent == w.parent) && bytes_eq e.name w.entry.name) earlier

record Stands (number : ℕ) (within : List ℕ) (earlier : List RomValue) (left : List Waiting) : Type 0 where
  count : number ≡ length earlier + 1
  folders : AreWithin within left
  below : AllByRecursion (λ (w : Waiting). w.parent < number) left
  names : AllByRecursion (λ (w : Waiting). can_be_written w.entry.name ≡ true) left
  before : AllByRecursion (λ (e : RomValue). e.parent < number) earlier
  new : AllByRecursion (λ (w : Waiting). is_earlier earlier w ≡ false) left
  distinct : AreDistinct left

-- ---- one step

eq_false : (a b : ℕ) → b < a → (a == b) ≡ false
eq_false a b lt = grind (arith, nat_tests)

eq_false_low : (a b : ℕ) → a < b → (a == b) ≡ false
eq_false_low a b lt = grind (arith, nat_tests)

from_here : (number : ℕ) (within : List ℕ) → from_folder number (number ∷ within) ≡ number ∷ within
from_here number within = ap (λ (b : Bool). cond b (number ∷ within) (from_folder number within)) (eq-eqb number number refl)

from_later : (parent number : ℕ) (within : List ℕ) → parent < number → from_folder parent (number ∷ within) ≡ from_folder parent within
from_later parent number within lt = ap (λ (b : Bool). cond b (number ∷ within) (from_folder parent within)) (eq_false number parent lt)

-- within one folder more
within_more : (number : ℕ) (within : List ℕ) (left : List Waiting) → AllByRecursion (λ (w : Waiting). w.parent < number) left → AreWithin within left → AreWithin (number ∷ within) left
within_more number within [] below are = tt
within_more number within (w ∷ left) below are =
    subst (λ (ws : List ℕ). (0 < length ws) × AreWithin ws left) (sym (from_later w.parent number within below.0)) are

within_folder : (number : ℕ) (within : List ℕ) (es : List Entry) (left : List Waiting) → AreWithin (number ∷ within) left → AreWithin (number ∷ within) (waiting_in number es ++ left)
within_folder number within [] left are = are
within_folder number within (e ∷ es) left are =
    subst (λ (ws : List ℕ). (0 < length ws) × AreWithin ws (waiting_in number es ++ left)) (sym (from_here number within))
    (omega arith, within_folder number within es left are)

none_earlier : (number : ℕ) (name : List ℕ) (earlier : List RomValue) → AllByRecursion (λ (e : RomValue). e.parent < number) earlier
    → list_any (λ (e : RomValue). (e.parent == number) && bytes_eq e.name name) earlier ≡ false
none_earlier number name [] below = refl
none_earlier number name (e ∷ earlier) below =
    ap (λ (b : Bool). (b && bytes_eq e.name name) || list_any (λ (e : RomValue). (e.parent == number) && bytes_eq e.name name) earlier) (eq_false_low e.parent number below.0)
    ∙ none_earlier number name earlier below.1

distinct_behind : (number : ℕ) (e : Entry) (left : List Waiting) → AllByRecursion (λ (w : Waiting). w.parent < number) left
    → AllByRecursion (λ (v : Waiting). same (record { parent = number; entry = e }) v ≡ false) left
distinct_behind number e [] below = tt
distinct_behind number e (v ∷ left) below =
    (ap (λ (b : Bool). b && bytes_eq e.name v.entry.name) (eq_false number v.parent below.0), distinct_behind number e left below.1)

distinct_folder : (number : ℕ) (es : List Entry) (left : List Waiting) → AreApart es → AllByRecursion (λ (w : Waiting). w.parent < number) left → AreDistinct left → AreDistinct (waiting_in number es ++ left)
distinct_folder number [] left apart below are = are
distinct_folder number (e ∷ es) left apart below are =
    let others = all_map (λ (v : Waiting). same (record { parent = number; entry = e }) v ≡ false) (λ (f : Entry). record { parent = number; entry = f }) es
    (all_given (λ (f : Entry). bytes_eq e.name f.name ≡ false) (λ (f : Entry). ((number == number) && bytes_eq e.name f.name) ≡ false) es (λ f differ. and_false (number == number) (bytes_eq e.name f.name) differ) apart.0) in
    (all_append (λ (v : Waiting). same (record { parent = number; entry = e }) v ≡ false) (waiting_in number es) left others (distinct_behind number e left below), distinct_folder number es left apart.1 below are)

or_false : (a b : Bool) → a ≡ false → b ≡ false → (a || (b || false)) ≡ false
or_false false false p q = refl
or_false true b p q = absurd cc
or_false false true p q = absurd cc

new_behind : (earlier : List RomValue) (n : RomValue) (w : Waiting) (left : List Waiting) → n.parent ≡ w.parent → n.name ≡ w.entry.name
    → AllByRecursion (λ (v : Waiting). same w v ≡ false) left → AllByRecursion (λ (v : Waiting). is_earlier earlier v ≡ false) left → AllByRecursion (λ (v : Waiting). is_earlier (earlier ++ n ∷ []) v ≡ false) left
new_behind earlier n w [] parent name other new = tt
new_behind earlier n w (v ∷ left) parent name other new =
    let same_n : ((n.parent == v.parent) && bytes_eq n.name v.entry.name) ≡ false = (λ i. (parent i == v.parent) && bytes_eq (name i) v.entry.name) ∙ other.0 in (
      list_any-append (λ (e : RomValue). (e.parent == v.parent) && bytes_eq e.name v.entry.name) earlier (n ∷ [])
          ∙ or_false (is_earlier earlier v) ((n.parent == v.parent) && bytes_eq n.name v.entry.name) new.0 same_n,
      new_behind earlier n w left parent name other.1 new.1,
    )

-- behind a node: its own entries, where it is a folder, and what was left
module _ (number : ℕ) (within : List ℕ) (earlier : List RomValue) (w : Waiting) (left : List Waiting) (s : Stands number within earlier (w ∷ left)) (n : RomValue) (parent : n.parent ≡ w.parent) (name : n.name ≡ w.entry.name) where
  next_count : number + 1 ≡ length (earlier ++ n ∷ []) + 1
  next_count = omega (arith, s.count, length-append earlier (n ∷ []))

  lower : (m : ℕ) → m < number → m < number + 1
  lower m lt = omega (arith, lt)

  next_before : AllByRecursion (λ (e : RomValue). e.parent < number + 1) (earlier ++ n ∷ [])
  next_before =
      all_append (λ (e : RomValue). e.parent < number + 1) earlier (n ∷ []) (all_given (λ (e : RomValue). e.parent < number) (λ (e : RomValue). e.parent < number + 1) earlier (λ e lt. lower e.parent lt) s.before)
      (subst (λ (m : ℕ). m < number + 1) (sym parent) (lower w.parent s.below.0), tt)

  all_before : AllByRecursion (λ (e : RomValue). e.parent < number) (earlier ++ n ∷ [])
  all_before = all_append (λ (e : RomValue). e.parent < number) earlier (n ∷ []) s.before (subst (λ (m : ℕ). m < number) (sym parent) s.below.0, tt)

  left_below : AllByRecursion (λ (v : Waiting). v.parent < number + 1) left
  left_below = all_given (λ (v : Waiting). v.parent < number) (λ (v : Waiting). v.parent < number + 1) left (λ v lt. lower v.parent lt) s.below.1

  left_new : AllByRecursion (λ (v : Waiting). is_earlier (earlier ++ n ∷ []) v ≡ false) left
  left_new = new_behind earlier n w left parent name s.distinct.0 s.new.1

  behind_file : Stands (number + 1) (from_folder w.parent within) (earlier ++ n ∷ []) left
  behind_file = record {
    count = next_count;
    folders = s.folders.1;
    below = left_below;
    names = s.names.1;
    before = next_before;
    new = left_new;
    distinct = s.distinct.1;
  }

  module _ (es : List Entry) (apart : AreApart es) (can : AllByRecursion (λ (e : Entry). can_be_written e.name ≡ true) es) where
    abbrev inside : Entry → Waiting
    inside e = record { parent = number; entry = e }

    behind_folder : Stands (number + 1) (number ∷ from_folder w.parent within) (earlier ++ n ∷ []) (waiting_in number es ++ left)
    behind_folder = record {
      count = next_count;
      folders = within_folder number (from_folder w.parent within) es left (within_more number (from_folder w.parent within) left s.below.1 s.folders.1);
      below = all_append (λ (v : Waiting). v.parent < number + 1) (waiting_in number es) left (all_map (λ (v : Waiting). v.parent < number + 1) inside es (each_of (λ (e : Entry). number < number + 1) es (λ e. omega arith))) left_below;
      names = all_append (λ (v : Waiting). can_be_written v.entry.name ≡ true) (waiting_in number es) left (all_map (λ (v : Waiting). can_be_written v.entry.name ≡ true) inside es can) s.names.1;
      before = next_before;
      new = all_append (λ (v : Waiting). is_earlier (earlier ++ n ∷ []) v ≡ false) (waiting_in number es) left (all_map (λ (v : Waiting). is_earlier (earlier ++ n ∷ []) v ≡ false) inside es (each_of (λ (e : Entry). is_earlier (earlier ++ n ∷ []) (inside e) ≡ false) es (λ e. none_earlier number e.name (earlier ++ n ∷ []) all_before))) left_new;
      distinct = distinct_folder number es left apart s.below.1 s.distinct.1;
    }

-- ---- the whole walk

no_entries : (content : Content) → kind_in content ≡ stored.File → entries_in content ≡ []
no_entries (file bytes) is = refl
no_entries (folder parent entries) is = absurd cc

is_new_by : (earlier : List RomValue) (n : RomValue) → list_any (λ e. (e.parent == n.parent) && bytes_eq e.name n.name) earlier ≡ false → is_new earlier n ≡ true
unfolding is_new
is_new_by earlier n none = ap not none

above_zero : (n : ℕ) → 0 < n → nat_lt 0 n ≡ true
above_zero n lt = grind (arith, nat_tests)

module _ (ns : Inodes) (tree : IsTree ns) (can : CanBeWritten ns) where
  -- behind these many steps the nodes are in order
  abbrev IsOrdered : (steps : ℕ) → Type 0
  IsOrdered steps = (number : ℕ) (within : List ℕ) (earlier : List RomValue) (left : List Waiting) → Stands number within earlier left → AllByRecursion IsOfBytes (walk steps ns number left) → are_in_order within earlier (walk steps ns number left) ≡ true

  module _ (steps : ℕ) (more : IsOrdered steps) (number : ℕ) (within : List ℕ) (earlier : List RomValue) (w : Waiting) (left : List Waiting) (s : Stands number within earlier (w ∷ left)) where
    abbrev es : List Entry
    es = entries_of ns w.entry.id

    abbrev rest : List RomValue
    rest = walk steps ns (number + 1) (waiting_in number es ++ left)

    one_step : (k : Node) → kind_of ns w.entry.id ≡ k → AllByRecursion IsOfBytes (node_of ns w k ∷ rest) → are_in_order within earlier (node_of ns w k ∷ rest) ≡ true
    one_step stored.Dir is are =
        let n : RomValue = node_of ns w stored.Dir in
        let next = more (number + 1) (number ∷ from_folder w.parent within) (earlier ++ n ∷ []) (waiting_in number es ++ left)
        (behind_folder number within earlier w left s n refl refl es (are_apart es (tree.apart w.entry.id)) (can w.entry.id)) are.1 in
        five _ _ _ _ _ (above_zero _ s.folders.0) (name_is w.entry.name (both_of _ _ are.0).0 s.names.0) refl (is_new_by earlier n s.new.0)
        (subst (λ (m : ℕ). are_in_order (m ∷ from_folder w.parent within) (earlier ++ n ∷ []) rest ≡ true) s.count next)
    one_step stored.File is are =
        let n : RomValue = node_of ns w stored.File in
        let none : es ≡ [] = no_entries (content_in (inode_at ns w.entry.id)) is in
        let same_rest : walk steps ns (number + 1) left ≡ rest = ap (λ (xs : List Entry). walk steps ns (number + 1) (waiting_in number xs ++ left)) (sym none) in
        let next = more (number + 1) (from_folder w.parent within) (earlier ++ n ∷ []) left (behind_file number within earlier w left s n refl refl) (subst (λ (xs : List RomValue). AllByRecursion IsOfBytes xs) (sym same_rest) are.1) in
        let p = both_of _ _ are.0 in
        five _ _ _ _ _ (above_zero _ s.folders.0) (name_is w.entry.name p.0 s.names.0) p.1 (is_new_by earlier n s.new.0)
        (subst (λ (xs : List RomValue). are_in_order (from_folder w.parent within) (earlier ++ n ∷ []) xs ≡ true) same_rest next)

  in_order : (steps : ℕ) → IsOrdered steps
  in_order zero number within earlier left s bytes = refl
  in_order (suc steps) number within earlier [] s bytes = refl
  in_order (suc steps) number within earlier (w ∷ left) s bytes = one_step steps (in_order steps) number within earlier w left s (kind_of ns w.entry.id) refl bytes

  -- at the root
  abbrev first : Entry → Waiting
  first e = record { parent = 0; entry = e }

  stands_first : (es : List Entry) → AreApart es → AllByRecursion (λ (e : Entry). can_be_written e.name ≡ true) es → Stands 1 (0 ∷ []) [] (waiting_in 0 es ++ [])
  stands_first es apart names = record {
    count = refl;
    folders = within_folder 0 [] es [] tt;
    below = all_append (λ (v : Waiting). v.parent < 1) (waiting_in 0 es) [] (all_map (λ (v : Waiting). v.parent < 1) first es (each_of (λ (e : Entry). 0 < 1) es (λ e. omega arith))) tt;
    names = all_append (λ (v : Waiting). can_be_written v.entry.name ≡ true) (waiting_in 0 es) [] (all_map (λ (v : Waiting). can_be_written v.entry.name ≡ true) first es names) tt;
    before = tt;
    new = each_of (λ (v : Waiting). is_earlier [] v ≡ false) (waiting_in 0 es ++ []) (λ v. refl);
    distinct = distinct_folder 0 es [] apart tt tt;
  }

  pub nodes_in_order : (steps : ℕ) → AllByRecursion IsOfBytes (walk steps ns 1 (waiting_in 0 (entries_of ns root))) → AreNodes (walk steps ns 1 (waiting_in 0 (entries_of ns root)))
  nodes_in_order steps bytes =
      in_order steps 1 (0 ∷ []) [] (waiting_in 0 (entries_of ns root))
      (subst (λ (left : List Waiting). Stands 1 (0 ∷ []) [] left) (append-nil (waiting_in 0 (entries_of ns root))) (stands_first (entries_of ns root) (are_apart (entries_of ns root) (tree.apart root)) (can root)))
      bytes

  pub order_of : (nodes : List RomValue) → nodes ≡ walk most_nodes ns 1 (waiting_in 0 (entries_of ns root)) → AllByRecursion IsOfBytes nodes → AreNodes nodes
  order_of nodes is bytes = subst (λ (xs : List RomValue). AreNodes xs) (sym is) (nodes_in_order most_nodes (subst (λ (xs : List RomValue). AllByRecursion IsOfBytes xs) is bytes))

-- The set of names beside the list of entries.
use Rattle.std.proofs.Common.{◌≡◌, ℕ, Bool, true, false, cond, ◌&&◌, ◌||◌, ◌==◌, not, bytes_eq, List, [], ◌∷◌, ◌++◌, refl, sym, ap, ◌∙◌}
use Rattle.std.specs.Prelude.{None, Some}
use Rattle.std.specs.List.{list_any}
use Rattle.std.specs.Ordering.{nat_cmp}
use Rattle.std.specs.Cmp.{both_tied, unsigned_ties}
use Rattle.std.specs.Cmp.Lexicographic.{slice_cmp, lists_ties}
use Rattle.std.specs.Borrow.{Bor}
use Rattle.std.specs.BTreeSet as tree
use Rattle.std.specs.BTreeMap.{is_at}
use Rattle.std.proofs.lemmas.List.Folds.{list_any-append}
use Rattle.romfs_image.specs.declared.fault.RomFault.TheVariants as fault
use Rattle.romfs_image.specs.Header.{Header}
use Rattle.romfs_image.specs.Fault.{is_node}
use Rattle.romfs_image.specs.Walk.{Entry, is_named, repeat_fault}
use Rattle.romfs_image.specs.Reading.{is_file_at}
use Rattle.romfs_image.specs.Code.{key_cmp, HasNames, HasFiles}

abbrev pub Key : Type 0
Key = ℕ × Bor (List ℕ)

-- keys compare equal where folder and bytes are the same
same_key : (k q : Key) → is_at (key_cmp k) q ≡ (k.0 == q.0 && bytes_eq k.1.now q.1.now)
same_key k q = sym (both_tied (k.0 == q.0) (bytes_eq k.1.now q.1.now) (nat_cmp k.0 q.0) (slice_cmp nat_cmp k.1.now q.1.now) (unsigned_ties k.0 q.0) (lists_ties nat_cmp unsigned_ties k.1.now q.1.now))

cond_or : (a b : Bool) → cond a true b ≡ (b || (a || false))
cond_or true true = refl
cond_or true false = refl
cond_or false true = refl
cond_or false false = refl

-- one more entry
pub names_more : (old new : tree.BTreeSet Key) (k : Key) (entries : List Entry) (e : Entry) → tree.Updates key_cmp old new k true → e.folder ≡ k.0 → e.header.name ≡ k.1.now
    → HasNames old entries → HasNames new (entries ++ e ∷ [])
unfolding is_named
names_more old new k entries e updates folder name has = λ q.
    updates.0 q
    ∙ ap (λ b. cond b true (tree.contains key_cmp old q)) (same_key k q ∙ ap (λ n. n == q.0 && bytes_eq k.1.now q.1.now) (sym folder) ∙ ap (λ n. e.folder == q.0 && bytes_eq n q.1.now) (sym name))
    ∙ cond_or (is_named q.0 q.1.now e) (tree.contains key_cmp old q)
    ∙ ap (λ b. b || (is_named q.0 q.1.now e || false)) (has q)
    ∙ sym (list_any-append (is_named q.0 q.1.now) entries (e ∷ []))

pub none_passed : (folder : ℕ) (h : Header) (entries : List Entry) → is_node h ≡ false → repeat_fault folder h entries ≡ None
unfolding repeat_fault
none_passed folder h entries p = rw p refl

and_false : (b : Bool) → (b && false) ≡ false
and_false true = refl
and_false false = refl

pub none_new : (folder : ℕ) (h : Header) (entries : List Entry) → list_any (is_named folder h.name) entries ≡ false → repeat_fault folder h entries ≡ None
unfolding repeat_fault
none_new folder h entries p = rw (p, and_false (is_node h)) refl

pub some_old : (folder : ℕ) (h : Header) (entries : List Entry) → is_node h ≡ true → list_any (is_named folder h.name) entries ≡ true → repeat_fault folder h entries ≡ Some fault.Repeated
unfolding repeat_fault
some_old folder h entries p q = rw (p, q) refl

pub not_true : (b : Bool) → not b ≡ true → b ≡ false
not_true true p = absurd cc
not_true false p = refl

pub not_false : (b : Bool) → not b ≡ false → b ≡ true
not_false true p = refl
not_false false p = absurd cc

-- ---- the positions of files

pub files_new : (old new : tree.BTreeSet ℕ) (entries : List Entry) (e : Entry) → tree.Updates nat_cmp old new e.at true → (e.header.kind == 2) ≡ true → HasFiles old entries → HasFiles new (entries ++ e ∷ [])
unfolding is_file_at
files_new old new entries e updates kind has = λ q.
    updates.0 q
    ∙ ap (λ b. cond b true (tree.contains nat_cmp old q)) (sym (unsigned_ties e.at q))
    ∙ cond_or (e.at == q) (tree.contains nat_cmp old q)
    ∙ ap (λ b. b || ((e.at == q) || false)) (has q)
    ∙ ap (λ b. list_any (is_file_at q) entries || (b || false)) (sym (both_true (e.at == q) (e.header.kind == 2) kind))
    ∙ sym (list_any-append (is_file_at q) entries (e ∷ []))
  where
    both_true : (a b : Bool) → b ≡ true → (a && b) ≡ a
    both_true true b p = p
    both_true false b p = refl

pub files_same : (files : tree.BTreeSet ℕ) (entries : List Entry) (e : Entry) → (e.header.kind == 2) ≡ false → HasFiles files entries → HasFiles files (entries ++ e ∷ [])
unfolding is_file_at
files_same files entries e other has = λ q.
    has q
    ∙ or_none (list_any (is_file_at q) entries)
    ∙ ap (λ b. list_any (is_file_at q) entries || (b || false)) (sym (ap (λ b. (e.at == q) && b) other ∙ and_false (e.at == q)))
    ∙ sym (list_any-append (is_file_at q) entries (e ∷ []))
  where
    or_none : (a : Bool) → a ≡ (a || (false || false))
    or_none true = refl
    or_none false = refl

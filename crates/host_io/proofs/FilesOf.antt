-- The files that the entries of a tree with text keys are.
use Rattle.std.proofs.Common.{◌≡◌, ℕ, Bool, true, false, cond, List, [], ◌∷◌, map, Option, Some, option_map, String, Vec, string_bytes, refl, sym, ◌∙◌, ap}
use Rattle.std.specs.Ordering.{nat_cmp, eq_by_cmp}
use Rattle.std.specs.Cmp.{eq_by_cmp_equiv}
use Rattle.std.specs.Cmp.Lexicographic.{slice_cmp, nat_list_cmp_total}
use Rattle.std.specs.String.{string_cmp}
use Rattle.std.specs.BTreeMap as tree
use Rattle.std.specs.Map.{lookup}
use Rattle.std.specs.FinMap.{get, insert, find, get-from_entries, get-insert, same_map, slice_cmp-IsAntisymmetric, nat_cmp-IsAntisymmetric}
use Rattle.std.proofs.lemmas.Map.Text.{btree_map_updates_text, is_eq-slice_cmp}
use Rattle.std.specs.Str.{bytes_eq}
use Rattle.host_io.specs.MemHost.{files_of}

abbrev bytes_of : {Z : Type 0} → Vec ℕ Z → List ℕ
bytes_of v = v.items

one_set : {Z : Type 0} (b : Bool) (v : Vec ℕ Z) (old : Option (Vec ℕ Z)) → option_map bytes_of (cond b (Some v) old) ≡ cond b (Some v.items) (option_map bytes_of old)
one_set true v old = refl
one_set false v old = refl

same_test : (xs ys : List ℕ) → bytes_eq xs ys ≡ eq_by_cmp (slice_cmp nat_cmp) ys xs
same_test xs ys = sym (is_eq-slice_cmp xs ys) ∙ (eq_by_cmp_equiv nat_list_cmp_total).symm xs ys

module _ {Y Z : Type 0} where
  found-map : (q : List ℕ) (entries : List (String Y × Vec ℕ Z))
      → find (slice_cmp nat_cmp) q (map (λ e. (string_bytes e.0, e.1.items)) entries) ≡ option_map bytes_of (lookup (λ k. eq_by_cmp (slice_cmp nat_cmp) q (string_bytes k)) entries)
  found-map q [] = refl
  found-map q (e ∷ es) =
      ap (λ old. cond (eq_by_cmp (slice_cmp nat_cmp) q (string_bytes e.0)) (Some e.1.items) old) (found-map q es)
      ∙ sym (one_set (eq_by_cmp (slice_cmp nat_cmp) q (string_bytes e.0)) e.1 _)

  pub files-get : (m : tree.BTreeMap (String Y) (Vec ℕ Z)) (q : List ℕ) → get (files_of m.entries) q ≡ option_map bytes_of (tree.get_by_text m q)
  files-get m q = get-from_entries nat_list_cmp_total _ q ∙ found-map q m.entries

  pub files-insert : (m n : tree.BTreeMap (String Y) (Vec ℕ Z)) (key : String Y) (v : Vec ℕ Z) → tree.Updates string_cmp m n key (Some v)
      → files_of n.entries ≡ insert (files_of m.entries) (string_bytes key) v.items
  files-insert m n key v updates =
      same_map nat_list_cmp_total (slice_cmp-IsAntisymmetric nat_cmp-IsAntisymmetric) _ _ (λ q.
      files-get n q
      ∙ ap (option_map bytes_of) (btree_map_updates_text (string_bytes key) m n (Some v) updates q)
      ∙ one_set (bytes_eq (string_bytes key) q) v (tree.get_by_text m q)
      ∙ ap (λ b. cond b (Some v.items) (option_map bytes_of (tree.get_by_text m q))) (same_test (string_bytes key) q)
      ∙ ap (λ old. cond (eq_by_cmp (slice_cmp nat_cmp) q (string_bytes key)) (Some v.items) old) (sym (files-get m q))
      ∙ sym (get-insert nat_list_cmp_total (files_of m.entries) (string_bytes key) v.items q))

-- A name that goes, and with it a node that has no entries, leaves a tree.
use Rattle.std.proofs.Common.{◌≡◌, ◌≢◌, ℕ, ◌+◌, ◌≤◌, Bool, true, false, cond, not, List, [], Option, Some, None, refl, sym, ap, ◌∙◌, subst, ◌⊎◌, inl, inr, eq-eqb, arith}
use Rattle.std.specs.Prelude.{◌==◌, ◌&&◌, ◌||◌, nat_lt}
use Rattle.std.proofs.lemmas.Bool.{cases_eq, ne_eqb}
use Rattle.mem_files.specs.declared.node.Node.TheVariants.{Dir}
use Rattle.mem_files.specs.Inodes.{Entry, Content, file, folder, Inode, Inodes, root, inode_at, content_in, entries_in, entries_of, kind_in, kind_of}
use Rattle.mem_files.specs.Paths.{Place, named}
use Rattle.mem_files.specs.Changes.{kept, without_entry, unnamed}
use Rattle.mem_files.specs.Trees.{linked_in, is_named, parent_of, leading, having, links_in, link_count, IsTree}
use Rattle.mem_files.proofs.Numbers.{made, change_at, change_other, change_each, sum-change}
use Rattle.mem_files.proofs.Counts.{one, others, leading-others, having-others}
use Rattle.mem_files.proofs.Alike.{entries_at, parent_at}
use Rattle.mem_files.proofs.EntriesAt.{stay, other_entries, these_entries, links_with}
use Rattle.mem_files.proofs.Lookups.{led_to}

-- ---- a node loses its name, and may go

kept_by : (n : Inode) (b : Bool) → (false || nat_lt 0 n.holds) ≡ b → entries_in n.content ≡ [] → (linked_in (kept (record n { linked = false })) ≡ false) × (entries_at (kept (record n { linked = false })) ≡ [])
kept_by n true is none = rw is (refl, none)
kept_by n false is none = rw is (refl, refl)

unlinked_at : (o : Option Inode) → entries_at o ≡ [] → (linked_in (made (λ n. kept (record n { linked = false })) o) ≡ false) × (entries_at (made (λ n. kept (record n { linked = false })) o) ≡ [])
unlinked_at None none = (refl, refl)
unlinked_at (Some n) none = kept_by n _ refl none

-- a folder with an entry
dir_by : (o : Option Inode) (name : List ℕ) (id : ℕ) → named name (entries_at o) ≡ Some id → kind_in (content_in o) ≡ Dir
dir_by None name id is = let no : ⊥ = cc in absurd no
dir_by (Some n) name id is = by n.content refl
  where
    by : (x : Content) → n.content ≡ x → kind_in n.content ≡ Dir
    by (file bytes) e = let no : ⊥ = (let was = rw e at is in cc) in absurd no
    by (folder parent entries) e = ap kind_in e

at_most : (b : Bool) (count : ℕ) → count ≡ cond b 1 0 → count ≤ 1
at_most true count is = omega (arith, is)
at_most false count is = omega (arith, is)

root_is : (id : ℕ) → not (id == root) ≡ true → id ≢ root
root_is id is e = let same : (id == root) ≡ true = eq-eqb id root e in let clash : false ≡ true = sym (ap not same) ∙ is in cc

module _ (ns : Inodes) (t : IsTree ns) (p : Place) (id : ℕ) (is : named p.name (entries_of ns p.folder) ≡ Some id) (none : entries_of ns id ≡ []) where
  abbrev fewer : List Entry → List Entry
  fewer entries = others p.name entries

  abbrev mid : Inodes
  mid = without_entry ns p.folder p.name

  abbrev new : Inodes
  new = unnamed ns p id

  dir : kind_of ns p.folder ≡ Dir
  dir = dir_by (inode_at ns p.folder) p.name id is

  few : having p.name (entries_of ns p.folder) ≤ 1
  few = t.apart p.folder p.name

  -- ---- the entry goes

  links_mid : (k : ℕ) → link_count mid k + one (id == k) ≡ link_count ns k
  links_mid k = omega (arith, links_with ns p.folder fewer dir k, leading-others p.name id k (entries_of ns p.folder) is few)

  apart_mid : (j : ℕ) (name : List ℕ) → (j ≡ p.folder) ⊎ (j ≡ p.folder → ⊥) → having name (entries_of mid j) ≤ having name (entries_of ns j)
  apart_mid j name (inl e) =
      subst (λ (i : ℕ). having name (entries_of mid i) ≤ having name (entries_of ns i)) (sym e)
      (omega (arith, ap (having name) (these_entries ns p.folder fewer dir), having-others p.name name (entries_of ns p.folder)))
  apart_mid j name (inr other) = omega (arith, ap (having name) (other_entries ns p.folder fewer j other))

  leading_mid : (k j : ℕ) → k ≢ id → (j ≡ p.folder) ⊎ (j ≡ p.folder → ⊥) → leading k (entries_of mid j) ≡ leading k (entries_of ns j)
  leading_mid k j beside (inl e) =
      subst (λ (i : ℕ). leading k (entries_of mid i) ≡ leading k (entries_of ns i)) (sym e)
      (omega (arith, ap (leading k) (these_entries ns p.folder fewer dir), leading-others p.name id k (entries_of ns p.folder) is few, ap one (ne_eqb id k (λ e. beside (sym e)))))
  leading_mid k j beside (inr other) = ap (leading k) (other_entries ns p.folder fewer j other)

  empty_mid : (j : ℕ) → entries_of ns j ≡ [] → (j ≡ p.folder) ⊎ (j ≡ p.folder → ⊥) → entries_of mid j ≡ []
  empty_mid j nothing (inl e) =
      subst (λ (i : ℕ). entries_of mid i ≡ []) (sym e)
      (these_entries ns p.folder fewer dir ∙ ap fewer (subst (λ (i : ℕ). entries_of ns i ≡ []) e nothing))
  empty_mid j nothing (inr other) = other_entries ns p.folder fewer j other ∙ nothing

  -- ---- and then the node

  none_mid : entries_of mid id ≡ []
  none_mid = empty_mid id none (cases_eq id p.folder)

  gone : (linked_in (made (λ n. kept (record n { linked = false })) (inode_at mid id)) ≡ false) × (entries_at (made (λ n. kept (record n { linked = false })) (inode_at mid id)) ≡ [])
  gone = unlinked_at (inode_at mid id) none_mid

  unnamed_now : is_named new id ≡ false
  unnamed_now = ap linked_in (change_at (λ n. kept (record n { linked = false })) mid id) ∙ gone.0

  elsewhere : (k : ℕ) → k ≢ id → inode_at new k ≡ inode_at mid k
  elsewhere k other = change_other (λ n. kept (record n { linked = false })) mid id k other

  named_new : (k : ℕ) → k ≢ id → is_named new k ≡ is_named ns k
  named_new k other = ap linked_in (elsewhere k other) ∙ (stay ns p.folder fewer k).linked

  parent_new : (k : ℕ) → k ≢ id → parent_of new k ≡ parent_of ns k
  parent_new k other = ap parent_at (elsewhere k other) ∙ (stay ns p.folder fewer k).parent

  entries_new : (j : ℕ) → entries_of new j ≡ entries_of mid j
  entries_new j =
      change_each (λ n. kept (record n { linked = false })) (λ a b. entries_at a ≡ entries_at b) mid id (gone.1 ∙ sym none_mid) (λ o. refl) j

  links_new : (k : ℕ) → link_count new k + one (id == k) ≡ link_count ns k
  links_new k = omega (arith, links_mid k, sum-change (λ n. kept (record n { linked = false })) (links_in k) mid id, ap (leading k) gone.1, ap (leading k) none_mid)

  beside_root : id ≢ root
  beside_root = root_is id (led_to ns t id (omega (arith, links_new id, ap one (eq-eqb id id refl)))).1

  named_other : (k : ℕ) → is_named new k ≡ true → k ≢ id
  named_other k named e = let clash : true ≡ false = sym named ∙ subst (λ (j : ℕ). is_named new j ≡ false) (sym e) unnamed_now in cc

  once_by : (k : ℕ) → (k ≡ id) ⊎ (k ≡ id → ⊥) → link_count new k ≡ cond (is_named new k && not (k == root)) 1 0
  once_by k (inl e) =
      let most : link_count ns id ≤ 1 = at_most (is_named ns id && not (id == root)) (link_count ns id) (t.once id) in
      let now : link_count new id ≡ 0 = omega (arith, links_new id, ap one (eq-eqb id id refl), most) in
      subst (λ (j : ℕ). link_count new j ≡ cond (is_named new j && not (j == root)) 1 0) (sym e)
      (now ∙ sym (ap (λ (b : Bool). cond (b && not (id == root)) 1 0) unnamed_now))
  once_by k (inr other) =
      let links : link_count new k ≡ link_count ns k = omega (arith, links_new k, ap one (ne_eqb id k (λ e. other (sym e)))) in
      links ∙ t.once k ∙ ap (λ (b : Bool). cond (b && not (k == root)) 1 0) (sym (named_new k other))

  empty_by : (k : ℕ) → is_named new k ≡ false → (k ≡ id) ⊎ (k ≡ id → ⊥) → entries_of new k ≡ []
  empty_by k nameless (inl e) = subst (λ (j : ℕ). entries_of new j ≡ []) (sym e) (entries_new id ∙ none_mid)
  empty_by k nameless (inr other) = entries_new k ∙ empty_mid k (t.empty k (sym (named_new k other) ∙ nameless)) (cases_eq k p.folder)

  -- no entry comes
  fewer_by : (k j : ℕ) → (j ≡ p.folder) ⊎ (j ≡ p.folder → ⊥) → leading k (entries_of mid j) ≤ leading k (entries_of ns j)
  fewer_by k j (inl e) =
      subst (λ (i : ℕ). leading k (entries_of mid i) ≤ leading k (entries_of ns i)) (sym e)
      (omega (arith, ap (leading k) (these_entries ns p.folder fewer dir), leading-others p.name id k (entries_of ns p.folder) is few))
  fewer_by k j (inr other) = omega (arith, ap (leading k) (other_entries ns p.folder fewer j other))

  pub tree-unnamed : IsTree (unnamed ns p id)
  tree-unnamed =
      let other : root ≢ id = (λ e. beside_root (sym e)) in
      record {
        root_named = named_new root other ∙ t.root_named;
        root_above = parent_new root other ∙ t.root_above;
        once = λ k. once_by k (cases_eq k id);
        below = λ k j some. t.below k j (omega (arith, some, ap (leading k) (entries_new j), fewer_by k j (cases_eq j p.folder)));
        apart = λ j name. omega (arith, ap (having name) (entries_new j), apart_mid j name (cases_eq j p.folder), t.apart j name);
        empty = λ k nameless. empty_by k nameless (cases_eq k id);
        above = λ k parent named beside found.
            let still : k ≢ id = named_other k named in
            omega (arith, t.above k parent (sym (named_new k still) ∙ named) beside (sym (parent_new k still) ∙ found), ap (leading k) (entries_new parent), leading_mid k parent still (cases_eq parent p.folder));
      }

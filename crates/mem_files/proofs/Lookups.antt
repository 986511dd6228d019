-- Where a walk stands: at named nodes alone, and a name that may be an entry is that of one.
use Rattle.std.proofs.Common.{◌≡◌, ℕ, ◌≤◌, Bool, true, false, cond, not, List, [], ◌∷◌, length, Option, None, Some, Result, Ok, Err, refl, sym, ap, ◌∙◌, subst, ◌⊎◌, inl, inr, arith}
use Rattle.std.specs.Prelude.{◌==◌, ◌&&◌, bytes_eq, codes, is_some}
use Rattle.std.proofs.lemmas.Bool.{cases_eq}
use Rattle.std.proofs.lemmas.Option.{same_Some}
use Rattle.call_log.specs.declared.errno.Errno.{Errno as log}
use Rattle.mem_files.specs.Inodes.{Entry, Content, file, folder, Inode, Inodes, root, inode_at, content_in, entries_in, entries_of}
use Rattle.mem_files.specs.Paths.{Place, start, names, named, is_too_long, found_in, looked_up, next_place, then_walked, walked, place_of, id_in, lookup}
use Rattle.mem_files.specs.Changes.{may_be_entry}
use Rattle.mem_files.specs.Trees.{linked_in, is_named, parent_in, parent_of, leading, links_in, link_count, IsTree}
use Rattle.mem_files.proofs.Numbers.{sum-part}
use Rattle.mem_files.proofs.Counts.{leading_some}
use Rattle.mem_files.proofs.Walking.{before, place_by}

-- ---- named nodes

-- a number that an entry leads to
once_by : (b : Bool) (count : ℕ) → count ≡ cond b 1 0 → 1 ≤ count → b ≡ true
once_by true count is some = refl
once_by false count is some = absurd (omega (arith, is, some))

both_true : (b c : Bool) → (b && c) ≡ true → (b ≡ true) × (c ≡ true)
both_true true c is = (refl, is)
both_true false c is = let no : ⊥ = cc in absurd no

module _ (ns : Inodes) (t : IsTree ns) where
  pub led_to : (id : ℕ) → 1 ≤ link_count ns id → (is_named ns id ≡ true) × (not (id == root) ≡ true)
  led_to id some = both_true (is_named ns id) (not (id == root)) (once_by (is_named ns id && not (id == root)) (link_count ns id) (t.once id) some)

  pub links-part : (id at : ℕ) → leading id (entries_of ns at) ≤ link_count ns id
  links-part id at = sum-part (links_in id) refl ns at

  -- what an entry leads to is named, and so is a folder with an entry
  pub named_entry : (id at : ℕ) → 1 ≤ leading id (entries_of ns at) → is_named ns id ≡ true
  named_entry id at some = (led_to id (omega (arith, some, links-part id at))).0

  named_by : (id at : ℕ) → 1 ≤ leading id (entries_of ns at) → (b : Bool) → is_named ns at ≡ b → b ≡ true
  named_by id at some true is = refl
  named_by id at some false is = absurd (omega (arith, some, ap (leading id) (t.empty at is)))

  pub named_folder : (id at : ℕ) → 1 ≤ leading id (entries_of ns at) → is_named ns at ≡ true
  named_folder id at some = named_by id at some (is_named ns at) refl ∙ refl

  -- and the parent of a named folder
  named_parent : (at parent : ℕ) → is_named ns at ≡ true → parent_of ns at ≡ Some parent → is_named ns parent ≡ true
  named_parent at parent is stands = by (cases_eq at root)
    where
      by : (at ≡ root) ⊎ (at ≡ root → ⊥) → is_named ns parent ≡ true
      by (inl e) =
          let same : root ≡ parent = same_Some root parent (sym t.root_above ∙ subst (λ (k : ℕ). parent_of ns k ≡ Some parent) e stands) in
          subst (λ (k : ℕ). is_named ns k ≡ true) same t.root_named
      by (inr other) = named_folder at parent (t.above at parent is other stands)

  -- ---- places

  pub record Placed (p : Place) : Type 0 where
    pub there : (id : ℕ) → p.id ≡ Some id → is_named ns id ≡ true
    pub within : is_named ns p.folder ≡ true
    pub entry : (id : ℕ) → p.id ≡ Some id → may_be_entry p.name ≡ true → named p.name (entries_of ns p.folder) ≡ Some id

  at_start : Placed start
  at_start = record {
    there = λ id is. subst (λ (k : ℕ). is_named ns k ≡ true) (same_Some root id is) t.root_named;
    within = t.root_named;
    entry = λ id is may. let no : ⊥ = cc in absurd no;
  }

  by_names : (at parent id : ℕ) (entries : List Entry) (name : List ℕ) (here above : Bool) → (is_named ns at ≡ true) → (is_named ns parent ≡ true) → ((id : ℕ) → named name entries ≡ Some id → is_named ns id ≡ true)
      → cond here (Some at) (cond above (Some parent) (named name entries)) ≡ Some id → is_named ns id ≡ true
  by_names at parent id entries name true above first second third is = subst (λ (k : ℕ). is_named ns k ≡ true) (same_Some at id is) first
  by_names at parent id entries name false true first second third is = subst (λ (k : ℕ). is_named ns k ≡ true) (same_Some parent id is) second
  by_names at parent id entries name false false first second third is = third id is

  by_entry : (at parent id : ℕ) (o : Option ℕ) (some here above : Bool) → cond here (Some at) (cond above (Some parent) o) ≡ Some id → (not some && not here && not above) ≡ true → o ≡ Some id
  by_entry at parent id o false false false is may = is
  by_entry at parent id o true here above is may = let no : ⊥ = cc in absurd no
  by_entry at parent id o false true above is may = let no : ⊥ = cc in absurd no
  by_entry at parent id o false false true is may = let no : ⊥ = cc in absurd no

  looked : (at : ℕ) (name : List ℕ) → is_named ns at ≡ true → (content : Content) → content_in (inode_at ns at) ≡ content → (q : Place) → looked_up at name content ≡ Ok q → Placed q
  looked at name is (file bytes) holds q e = let no : ⊥ = cc in absurd no
  looked at name is (folder parent entries) holds q e =
      let same : record { id = found_in at parent entries name; folder = at; name = name } ≡ q = cc in
      let list : entries_of ns at ≡ entries = ap entries_in holds in
      subst Placed same (record {
        there = λ id found.
            by_names at parent id entries name (bytes_eq name (codes ".")) (bytes_eq name (codes "..")) is (named_parent at parent is (ap parent_in holds))
            (λ k leads. named_entry k at (subst (λ (es : List Entry). 1 ≤ leading k es) (sym list) (leading_some name k entries leads))) found;
        within = is;
        entry = λ id found may.
            ap (named name) list
            ∙ by_entry at parent id (named name entries) (length name == 0) (bytes_eq name (codes ".")) (bytes_eq name (codes "..")) found may;
      })

  stepped : (name : List ℕ) (o : Option ℕ) → ((id : ℕ) → o ≡ Some id → is_named ns id ≡ true) → (q : Place) → next_place ns name o ≡ Ok q → Placed q
  stepped name None are q e = let no : ⊥ = cc in absurd no
  stepped name (Some at) are q e = looked at name (are at refl) (content_in (inode_at ns at)) refl q e

  then_placed : (r : Result Place log) (more : Place → Result Place log) (q : Place) → then_walked r more ≡ Ok q → ((p : Place) → r ≡ Ok p → more p ≡ Ok q → Placed q) → Placed q
  then_placed (Ok p) more q e f = f p refl e
  then_placed (Err errno) more q e f = let no : ⊥ = cc in absurd no

  walked_placed : (ls : List (List ℕ)) (p q : Place) → walked ns ls p ≡ Ok q → Placed p → Placed q
  unfolding walked
  walked_placed [] p q e is = let same : p ≡ q = cc in subst Placed same is
  walked_placed (name ∷ more) p q e is = then_placed (next_place ns name p.id) (walked ns more) q e (λ p2 step e2. walked_placed more p2 q e2 (stepped name p.id is.there p2 step))

  by_tests : (path : List ℕ) (q : Place) (long empty : Bool) → before ns path long empty ≡ Ok q → Placed q
  by_tests path q true empty e = let no : ⊥ = cc in absurd no
  by_tests path q false true e = let no : ⊥ = cc in absurd no
  by_tests path q false false e = walked_placed (names path) start q e at_start

  pub place_placed : (path : List ℕ) (q : Place) → place_of ns path ≡ Ok q → Placed q
  place_placed path q e = by_tests path q (is_too_long path) (length path == 0) (sym (place_by ns path (is_too_long path) (length path == 0) refl refl) ∙ e)

  -- ---- and so what a path leads to is there

  found_place : (path : List ℕ) (id : ℕ) (r : Result Place log) → place_of ns path ≡ r → id_in r ≡ Ok (Some id) → is_named ns id ≡ true
  found_place path id (Ok p) is e = let same : p.id ≡ Some id = cc in (place_placed path p is).there id same
  found_place path id (Err errno) is e = let no : ⊥ = cc in absurd no

  pub lookup_named : (path : List ℕ) (id : ℕ) → lookup ns path ≡ Ok (Some id) → is_named ns id ≡ true
  lookup_named path id is = found_place path id (place_of ns path) refl is

pub named_there : (o : Option Inode) → linked_in o ≡ true → is_some o ≡ true
named_there None is = let no : ⊥ = cc in absurd no
named_there (Some n) is = refl

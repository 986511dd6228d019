-- A new node, under a new name of a named folder, keeps the tree.
use Rattle.std.proofs.Common.{◌≡◌, ◌≢◌, ℕ, ◌+◌, ◌<◌, ◌≤◌, Bool, true, false, cond, not, List, [], ◌∷◌, ◌++◌, length, Option, Some, refl, sym, ap, ◌∙◌, subst, ◌⊎◌, inl, inr, eq-eqb, arith}
use Rattle.std.specs.Prelude.{◌==◌, ◌&&◌, bytes_eq}
use Rattle.std.proofs.lemmas.Bool.{cases_eq, ne_eqb}
use Rattle.std.proofs.lemmas.Bool.Decides.{nat_tests}
use Rattle.std.proofs.lemmas.List.Sums.{sum_by_push}
use Rattle.std.proofs.lemmas.Slice.Eq.{bytes_eq-Decides}
use Rattle.mem_files.specs.declared.node.Node.TheVariants.{Dir}
use Rattle.mem_files.specs.Inodes.{Entry, Inode, Inodes, root, inode_at, entries_in, entries_of, kind_of}
use Rattle.mem_files.specs.Changes.{with_entries, with_entry, with_new}
use Rattle.mem_files.specs.Trees.{linked_in, is_named, parent_in, parent_of, leading, having, links_in, link_count, IsTree}
use Rattle.mem_files.proofs.Numbers.{length-change, past_last, inside, behind_there, behind_other}
use Rattle.mem_files.proofs.Counts.{one, leading-push, having-push}
use Rattle.mem_files.proofs.Alike.{entries_at, parent_at}
use Rattle.mem_files.proofs.EntriesAt.{stay, other_entries, these_entries, links_with}

module _ (ns : Inodes) (t : IsTree ns) (at : ℕ) (name : List ℕ) (n : Inode) (is : is_named ns at ≡ true) (dir : kind_of ns at ≡ Dir) (fresh : having name (entries_of ns at) ≡ 0)
    (linked : n.linked ≡ true) (empty : entries_in n.content ≡ []) (stands : (parent : ℕ) → parent_in n.content ≡ Some parent → parent ≡ at) where
  abbrev added : List Entry → List Entry
  added entries = entries ++ record { name = name; id = length ns } ∷ []

  abbrev entered : Inodes
  entered = with_entry ns at name (length ns)

  abbrev new : Inodes
  new = with_new ns at name n

  same_length : length entered ≡ length ns
  same_length = length-change (λ m. Some (with_entries added m)) ns at

  at_last : inode_at new (length ns) ≡ Some n
  at_last = subst (λ (k : ℕ). inode_at new k ≡ Some n) same_length (behind_there n entered)

  elsewhere : (k : ℕ) → k ≢ length ns → inode_at new k ≡ inode_at entered k
  elsewhere k other = behind_other n entered k (λ e. other (e ∙ same_length))

  unnamed_last : is_named ns (length ns) ≡ false
  unnamed_last = ap linked_in (past_last ns)

  named_other : (k : ℕ) → is_named ns k ≡ true → k ≢ length ns
  named_other k named e = let no : ⊥ = (let was : is_named ns (length ns) ≡ true = subst (λ (j : ℕ). is_named ns j ≡ true) e named in let clash : true ≡ false = sym was ∙ unnamed_last in cc) in no

  named_new : (k : ℕ) → k ≢ length ns → is_named new k ≡ is_named ns k
  named_new k other = ap linked_in (elsewhere k other) ∙ (stay ns at added k).linked

  links_new : (k : ℕ) → link_count new k ≡ link_count ns k + one (length ns == k)
  links_new k = omega (arith, sum_by_push (links_in k) entered (Some n), ap (leading k) empty, links_with ns at added dir k, leading-push k (entries_of ns at) (record { name = name; id = length ns }))

  -- entries come, and none goes
  more_by : (k j : ℕ) → (j ≡ at) ⊎ (j ≡ at → ⊥) → leading k (entries_of ns j) ≤ leading k (entries_of entered j)
  more_by k j (inl e) =
      subst (λ (i : ℕ). leading k (entries_of ns i) ≤ leading k (entries_of entered i)) (sym e)
      (omega (arith, ap (leading k) (these_entries ns at added dir), leading-push k (entries_of ns at) (record { name = name; id = length ns })))
  more_by k j (inr other) = omega (arith, ap (leading k) (other_entries ns at added j other))

  -- the new entry has another name
  fresh_by : (other : List ℕ) (b : Bool) → bytes_eq name other ≡ b → having other (entries_of ns at) + one b ≤ 1
  fresh_by other true same = let e : name ≡ other = (bytes_eq-Decides name other).0 same in omega (arith, ap (λ (l : List ℕ). having l (entries_of ns at)) e, fresh)
  fresh_by other false same = omega (arith, t.apart at other)

  apart_by : (j : ℕ) (other : List ℕ) → (j ≡ at) ⊎ (j ≡ at → ⊥) → having other (entries_of entered j) ≤ 1
  apart_by j other (inl e) =
      subst (λ (i : ℕ). having other (entries_of entered i) ≤ 1) (sym e)
      (omega (arith, ap (having other) (these_entries ns at added dir), having-push other (entries_of ns at) (record { name = name; id = length ns }), fresh_by other _ refl))
  apart_by j other (inr beside) = omega (arith, ap (having other) (other_entries ns at added j beside), t.apart j other)

  once_last : link_count new (length ns) ≡ cond (is_named new (length ns) && not (length ns == root)) 1 0
  once_last =
      let other : (length ns == root) ≡ false = ne_eqb (length ns) root (λ e. named_other root t.root_named (sym e)) in
      let named : is_named new (length ns) ≡ true = ap linked_in at_last ∙ linked in
      let none : link_count ns (length ns) ≡ 0 = t.once (length ns) ∙ ap (λ (b : Bool). cond (b && not (length ns == root)) 1 0) unnamed_last in
      let now : link_count new (length ns) ≡ 1 = omega (arith, links_new (length ns), none, ap one (eq-eqb (length ns) (length ns) refl)) in
      now ∙ sym (λ i. cond (named i && not (other i)) 1 0)

  once_by : (k : ℕ) → (k ≡ length ns) ⊎ (k ≡ length ns → ⊥) → link_count new k ≡ cond (is_named new k && not (k == root)) 1 0
  once_by k (inl e) = subst (λ (j : ℕ). link_count new j ≡ cond (is_named new j && not (j == root)) 1 0) (sym e) once_last
  once_by k (inr other) =
      let none : one (length ns == k) ≡ 0 = ap one (ne_eqb (length ns) k (λ e. other (sym e))) in
      let links : link_count new k ≡ link_count ns k = omega (arith, links_new k, none) in
      links ∙ t.once k ∙ ap (λ (b : Bool). cond (b && not (k == root)) 1 0) (sym (named_new k other))

  apart_new : (j : ℕ) (other : List ℕ) → (j ≡ length ns) ⊎ (j ≡ length ns → ⊥) → having other (entries_of new j) ≤ 1
  apart_new j other (inl e) = subst (λ (i : ℕ). having other (entries_of new i) ≤ 1) (sym e) (omega (arith, ap (λ (o : Option Inode). having other (entries_at o)) at_last, ap (having other) empty))
  apart_new j other (inr beside) = omega (arith, ap (λ (o : Option Inode). having other (entries_at o)) (elsewhere j beside), apart_by j other (cases_eq j at))

  empty_by : (k : ℕ) → is_named new k ≡ false → (k ≡ length ns) ⊎ (k ≡ length ns → ⊥) → entries_of new k ≡ []
  empty_by k none (inl e) = subst (λ (j : ℕ). entries_of new j ≡ []) (sym e) (ap entries_at at_last ∙ empty)
  empty_by k none (inr other) =
      let was : is_named ns k ≡ false = sym (named_new k other) ∙ none in
      let beside : k ≢ at = (λ e. let clash : true ≡ false = sym is ∙ subst (λ (j : ℕ). is_named ns j ≡ false) e was in cc) in
      ap entries_at (elsewhere k other) ∙ other_entries ns at added k beside ∙ t.empty k was

  -- the folder that is entered isn't the new node
  into : (k j : ℕ) → j ≢ length ns → 1 ≤ leading k (entries_of entered j) → 1 ≤ leading k (entries_of new j)
  into k j other some = omega (arith, ap (λ (o : Option Inode). leading k (entries_at o)) (elsewhere j other), some)

  above_last : (parent : ℕ) → parent_of new (length ns) ≡ Some parent → 1 ≤ leading (length ns) (entries_of new parent)
  above_last parent found =
      let same : parent ≡ at = stands parent (sym (ap parent_at at_last) ∙ found) in
      subst (λ (j : ℕ). 1 ≤ leading (length ns) (entries_of new j)) (sym same)
      (into (length ns) at (named_other at is)
      (omega (arith, ap (leading (length ns)) (these_entries ns at added dir), leading-push (length ns) (entries_of ns at) (record { name = name; id = length ns }), ap one (eq-eqb (length ns) (length ns) refl))))

  above_by : (k parent : ℕ) → is_named new k ≡ true → k ≢ root → parent_of new k ≡ Some parent → (k ≡ length ns) ⊎ (k ≡ length ns → ⊥) → 1 ≤ leading k (entries_of new parent)
  above_by k parent named beside found (inl e) = subst (λ (j : ℕ). 1 ≤ leading j (entries_of new parent)) (sym e) (above_last parent (subst (λ (j : ℕ). parent_of new j ≡ Some parent) e found))
  above_by k parent named beside found (inr other) =
      let was : is_named ns k ≡ true = sym (named_new k other) ∙ named in
      let stood : parent_of ns k ≡ Some parent = sym (ap parent_at (elsewhere k other) ∙ (stay ns at added k).parent) ∙ found in
      let some : 1 ≤ leading k (entries_of ns parent) = t.above k parent was beside stood in
      let there : parent ≢ length ns = (λ e. let no : ⊥ = omega (arith, some, ap (λ (j : ℕ). leading k (entries_of ns j)) e, ap (λ (o : Option Inode). leading k (entries_at o)) (past_last ns)) in no) in
      into k parent there (omega (arith, some, more_by k parent (cases_eq parent at)))

  -- and it leads to a higher number
  at_inside : at < length ns
  at_inside = inside ns at (λ e. let clash : false ≡ true = sym (ap linked_in e) ∙ is in cc)

  below_at : (k : ℕ) (b : Bool) → (length ns == k) ≡ b → 1 ≤ leading k (entries_of ns at) + one b → at < k
  below_at k true same some = let e : length ns ≡ k = grind (arith, nat_tests, same) in omega (arith, e, at_inside)
  below_at k false same some = t.below k at (omega (arith, some))

  below_by : (k j : ℕ) → (j ≡ at) ⊎ (j ≡ at → ⊥) → 1 ≤ leading k (entries_of entered j) → j < k
  below_by k j (inl e) some =
      subst (λ (i : ℕ). i < k) (sym e)
      (below_at k (length ns == k) refl
      (omega (arith, subst (λ (i : ℕ). 1 ≤ leading k (entries_of entered i)) e some, ap (leading k) (these_entries ns at added dir), leading-push k (entries_of ns at) (record { name = name; id = length ns }))))
  below_by k j (inr other) some = t.below k j (omega (arith, some, ap (leading k) (other_entries ns at added j other)))

  below_new : (k j : ℕ) → (j ≡ length ns) ⊎ (j ≡ length ns → ⊥) → 1 ≤ leading k (entries_of new j) → j < k
  below_new k j (inl e) some =
      let there : 1 ≤ leading k (entries_of new (length ns)) = subst (λ (i : ℕ). 1 ≤ leading k (entries_of new i)) e some in
      absurd (omega (arith, there, ap (λ (o : Option Inode). leading k (entries_at o)) at_last, ap (leading k) empty))
  below_new k j (inr other) some = below_by k j (cases_eq j at) (omega (arith, some, ap (λ (o : Option Inode). leading k (entries_at o)) (elsewhere j other)))

  pub tree-new : IsTree (with_new ns at name n)
  tree-new =
      let other : root ≢ length ns = named_other root t.root_named in
      record {
        root_named = named_new root other ∙ t.root_named;
        root_above = ap parent_at (elsewhere root other) ∙ (stay ns at added root).parent ∙ t.root_above;
        once = λ k. once_by k (cases_eq k (length ns));
        below = λ k j some. below_new k j (cases_eq j (length ns)) some;
        apart = λ j name. apart_new j name (cases_eq j (length ns));
        empty = λ k none. empty_by k none (cases_eq k (length ns));
        above = λ k parent named beside found. above_by k parent named beside found (cases_eq k (length ns));
      }

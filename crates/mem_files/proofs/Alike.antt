-- Changes that leave all names, entries and parents keep the tree: writes, and open files that come and go.
use Rattle.std.proofs.Common.{◌≡◌, ℕ, ◌-◌, ◌≤◌, Bool, true, false, cond, not, List, [], Option, Some, None, refl, sym, ap, ◌∙◌, subst, arith}
use Rattle.std.specs.Prelude.{◌==◌, ◌&&◌, ◌||◌, nat_lt, is_some}
use Rattle.mem_files.specs.Inodes.{Entry, Content, file, folder, Inode, Inodes, root, inode_at, content_in, entries_in, raised}
use Rattle.mem_files.specs.Changes.{with_change, with_bytes, truncated, kept, held, let_go}
use Rattle.mem_files.specs.Trees.{linked_in, is_named, parent_in, leading, having, links_in, link_count, IsTree}
use Rattle.mem_files.proofs.Numbers.{made, change_each, sum-change}

abbrev pub entries_at : Option Inode → List Entry
entries_at o = entries_in (content_in o)

abbrev pub parent_at : Option Inode → Option ℕ
parent_at o = parent_in (content_in o)

-- the new node and the old one have the same name and entries, and if they have one, the same parent
pub record Alike (new old : Option Inode) : Type 0 where
  pub linked : linked_in new ≡ linked_in old
  pub entries : entries_at new ≡ entries_at old
  pub parent : linked_in old ≡ true → parent_at new ≡ parent_at old

pub alike_same : (o : Option Inode) → Alike o o
alike_same o = record { linked = refl; entries = refl; parent = λ is. refl }

tree_alike : (new old : Inodes) → ((k : ℕ) → link_count new k ≡ link_count old k) → ((k : ℕ) → Alike (inode_at new k) (inode_at old k)) → IsTree old → IsTree new
tree_alike new old links alike t = record {
  root_named = (alike root).linked ∙ t.root_named;
  root_above = (alike root).parent t.root_named ∙ t.root_above;
  once = λ k. links k ∙ t.once k ∙ ap (λ (b : Bool). cond (b && not (k == root)) 1 0) (sym (alike k).linked);
  below = λ k at some. t.below k at (subst (λ (es : List Entry). 1 ≤ leading k es) (alike at).entries some);
  apart = λ at name. subst (λ (es : List Entry). having name es ≤ 1) (sym (alike at).entries) (t.apart at name);
  empty = λ k none. (alike k).entries ∙ t.empty k (sym (alike k).linked ∙ none);
  above = λ k parent is other stands.
      let was : is_named old k ≡ true = sym (alike k).linked ∙ is in
      subst (λ (es : List Entry). 1 ≤ leading k es) (sym (alike parent).entries) (t.above k parent was other (sym ((alike k).parent was) ∙ stands));
}

pub tree_change : (f : Inode → Option Inode) (ns : Inodes) (id : ℕ) → Alike (made f (inode_at ns id)) (inode_at ns id) → IsTree ns → IsTree (with_change f ns id)
tree_change f ns id alike t =
    tree_alike (with_change f ns id) ns
    (λ k. let same : links_in k (made f (inode_at ns id)) ≡ links_in k (inode_at ns id) = ap (leading k) alike.entries in omega (arith, same, sum-change f (links_in k) ns id))
    (change_each f Alike ns id alike alike_same) t

-- ---- the bytes of a file

alike_bytes : (f : List ℕ → List ℕ) (n : Inode) → Alike (Some (with_bytes f n)) (Some n)
alike_bytes f n = by n.content refl
  where
    by : (x : Content) → n.content ≡ x → Alike (Some (with_bytes f n)) (Some n)
    by (file bytes) is = record { linked = rw is refl; entries = rw is refl; parent = λ named. rw is refl }
    by (folder parent entries) is = record { linked = rw is refl; entries = rw is refl; parent = λ named. rw is refl }

pub tree-bytes : (f : List ℕ → List ℕ) (ns : Inodes) (id : ℕ) → IsTree ns → IsTree (with_change (λ n. Some (with_bytes f n)) ns id)
tree-bytes f ns id t = tree_change (λ n. Some (with_bytes f n)) ns id (by (inode_at ns id)) t
  where
    by : (o : Option Inode) → Alike (made (λ n. Some (with_bytes f n)) o) o
    by None = alike_same None
    by (Some n) = alike_bytes f n

pub truncated_there : (ns : Inodes) (id k : ℕ) → is_some (inode_at (truncated ns id) k) ≡ is_some (inode_at ns k)
unfolding truncated
truncated_there ns id k = change_each (λ n. Some (with_bytes (λ bytes. []) n)) (λ new old. is_some new ≡ is_some old) ns id (by (inode_at ns id)) (λ o. refl) k
  where
    by : (o : Option Inode) → is_some (made (λ n. Some (with_bytes (λ bytes. []) n)) o) ≡ is_some o
    by None = refl
    by (Some n) = refl

-- ---- open files

pub tree-held : (ns : Inodes) (id : ℕ) → IsTree ns → IsTree (held ns id)
unfolding held
tree-held ns id t = tree_change (λ n. Some (record n { holds = raised n.holds })) ns id (by (inode_at ns id)) t
  where
    by : (o : Option Inode) → Alike (made (λ n. Some (record n { holds = raised n.holds })) o) o
    by None = alike_same None
    by (Some n) = record { linked = refl; entries = refl; parent = λ named. refl }

neither : (b c : Bool) → (b || c) ≡ false → b ≡ false
neither false c none = refl
neither true c none = none

-- one that goes has no name, and so no entries
gone_alike : (n : Inode) (b : Bool) → (n.linked || nat_lt 0 (n.holds - 1)) ≡ b → (n.linked ≡ false → entries_at (Some n) ≡ []) → Alike (kept (record n { holds = n.holds - 1 })) (Some n)
gone_alike n true is none = rw is (record { linked = refl; entries = refl; parent = λ named. refl })
gone_alike n false is none =
    let unnamed : n.linked ≡ false = neither n.linked (nat_lt 0 (n.holds - 1)) is in
    rw is (record { linked = sym unnamed; entries = sym (none unnamed); parent = λ named. let no : ⊥ = cc in absurd no })

pub tree-let_go : (ns : Inodes) (id : ℕ) → IsTree ns → IsTree (let_go ns id)
unfolding let_go
tree-let_go ns id t = tree_change (λ n. kept (record n { holds = n.holds - 1 })) ns id (by (inode_at ns id) (t.empty id)) t
  where
    by : (o : Option Inode) → (linked_in o ≡ false → entries_at o ≡ []) → Alike (made (λ n. kept (record n { holds = n.holds - 1 })) o) o
    by None none = alike_same None
    by (Some n) none = gone_alike n _ refl none

-- A change of one folder's entries, and how many entries lead to a node then.
use Rattle.std.proofs.Common.{◌≡◌, ◌≢◌, ℕ, ◌+◌, List, Option, Some, None, refl, ap, ◌∙◌, arith}
use Rattle.mem_files.specs.declared.node.Node.TheVariants.{Dir}
use Rattle.mem_files.specs.Inodes.{Entry, Content, file, folder, Inode, Inodes, inode_at, content_in, entries_of, kind_in, kind_of}
use Rattle.mem_files.specs.Changes.{with_change, with_entries}
use Rattle.mem_files.specs.Trees.{linked_in, leading, links_in, link_count}
use Rattle.mem_files.proofs.Numbers.{made, change_at, change_other, change_each, sum-change}
use Rattle.mem_files.proofs.Alike.{entries_at, parent_at}

-- the same name and parent
pub record Stays (new old : Option Inode) : Type 0 where
  pub linked : linked_in new ≡ linked_in old
  pub parent : parent_at new ≡ parent_at old

stays_same : (o : Option Inode) → Stays o o
stays_same o = record { linked = refl; parent = refl }

pub entries_stay : (f : List Entry → List Entry) (o : Option Inode) → Stays (made (λ n. Some (with_entries f n)) o) o
entries_stay f None = stays_same None
entries_stay f (Some n) = by n.content refl
  where
    by : (x : Content) → n.content ≡ x → Stays (Some (with_entries f n)) (Some n)
    by (file bytes) is = record { linked = rw is refl; parent = rw is refl }
    by (folder parent entries) is = record { linked = rw is refl; parent = rw is refl }

pub entries_change : (f : List Entry → List Entry) (o : Option Inode) → kind_in (content_in o) ≡ Dir → entries_at (made (λ n. Some (with_entries f n)) o) ≡ f (entries_at o)
entries_change f None is = let no : ⊥ = cc in absurd no
entries_change f (Some n) is = by n.content refl
  where
    by : (x : Content) → n.content ≡ x → entries_at (Some (with_entries f n)) ≡ f (entries_at (Some n))
    by (file bytes) e = let no : ⊥ = (let was = rw e at is in cc) in absurd no
    by (folder parent entries) e = rw e refl

module _ (ns : Inodes) (at : ℕ) (f : List Entry → List Entry) where
  pub stay : (k : ℕ) → Stays (inode_at (with_change (λ n. Some (with_entries f n)) ns at) k) (inode_at ns k)
  stay k = change_each (λ n. Some (with_entries f n)) Stays ns at (entries_stay f (inode_at ns at)) stays_same k

  pub other_entries : (k : ℕ) → k ≢ at → entries_of (with_change (λ n. Some (with_entries f n)) ns at) k ≡ entries_of ns k
  other_entries k other = ap entries_at (change_other (λ n. Some (with_entries f n)) ns at k other)

  module _ (is : kind_of ns at ≡ Dir) where
    pub these_entries : entries_of (with_change (λ n. Some (with_entries f n)) ns at) at ≡ f (entries_of ns at)
    these_entries = ap entries_at (change_at (λ n. Some (with_entries f n)) ns at) ∙ entries_change f (inode_at ns at) is

    pub links_with : (k : ℕ) → link_count (with_change (λ n. Some (with_entries f n)) ns at) k + leading k (entries_of ns at) ≡ link_count ns k + leading k (f (entries_of ns at))
    links_with k = omega (arith, sum-change (λ n. Some (with_entries f n)) (links_in k) ns at, ap (leading k) (entries_change f (inode_at ns at) is))

-- What opens and closes keeps the counts of what is open exact, whatever the nodes.
use Rattle.std.proofs.Common.{◌≡◌, ◌≢◌, ℕ, zero, suc, ◌<◌, ◌≤◌, ◌^◌, Bool, true, false, List, [], ◌∷◌, length, Option, Some, None, IfSome, ◌⊎◌, inl, inr, refl, sym, ap, subst, ◌∙◌, arith}
use Rattle.std.specs.Prelude.{is_some, nat_le}
use Rattle.std.proofs.lemmas.Bool.{cases_eq}
use Rattle.mem_files.specs.Inodes.{file, Inode, Inodes, new_inode, inode_at}
use Rattle.mem_files.specs.Changes as tree
use Rattle.mem_files.specs.Inodes.{opening}
use Rattle.mem_files.proofs.TreesKept.{changes_keep_tree}
use Rattle.fd_tables.specs.declared.view.Way.{Way}
use Rattle.fd_tables.specs.declared.open_file.OpenFile.{OpenFile}
use Rattle.fd_tables.specs.declared.open_file.Object.{Object}
use Rattle.fd_tables.specs.declared.open_file.Object.TheVariants.{File, PipeEnd}
use Rattle.fd_tables.specs.declared.open_file.Handle.{Handle}
use Rattle.fd_tables.specs.declared.open_file.Handle.TheVariants.{Input, Output, Open}
use Rattle.fd_tables.specs.declared.open_file.Descriptor.{Descriptor}
use Rattle.fd_tables.specs.Files.{OpenFiles, most_descriptors, at_number, free_number, descriptor, lowest_free}
use Rattle.fd_tables.specs.Changes.{Storage, storage, with_item, with_descriptor, with_file, dropped, dropped_file, let_go, closed, closed_descriptor, opened, replaced, duplicated, all_closed, all_descriptors, exec_closed, without_table}
use Rattle.fd_tables.specs.Counts.{holds_in, opens_of, Counted}
use Rattle.fd_tables.proofs.Counting.{counted-closed, counted-replaced, counted-opened}
use Rattle.fd_tables.proofs.ManyClosed.{counted-exec_closed, counted-without_table}
use Rattle.machine_world.proofs.Steady.{Steady, steady-closed, steady-replaced, steady-exec_closed, steady-without_table}
use Rattle.machine_world.specs.Order.{AreCounted}

-- ---- what is open behind a close doesn't depend on the nodes

module _ (ns ms : Inodes) where
  object-files : (fs : OpenFiles) (f : OpenFile) (o : Object) → (let_go (storage ns fs) f o).files ≡ (let_go (storage ms fs) f o).files
  object-files fs f (File node) = refl
  object-files fs f (PipeEnd id) = refl

  last-files : (fs : OpenFiles) (n : ℕ) (f : OpenFile) (b : Bool) → nat_le f.uses 1 ≡ b → (dropped_file (storage ns fs) n (Some f)).files ≡ (dropped_file (storage ms fs) n (Some f)).files
  last-files fs n f true is = rw is (object-files (with_file (λ f. None) fs n) f f.object)
  last-files fs n f false is = rw is refl

  file-files : (fs : OpenFiles) (n : ℕ) (o : Option OpenFile) → (dropped_file (storage ns fs) n o).files ≡ (dropped_file (storage ms fs) n o).files
  file-files fs n None = refl
  file-files fs n (Some f) = last-files fs n f _ refl

  handle-files : (fs : OpenFiles) (h : Handle) → (dropped (storage ns fs) h).files ≡ (dropped (storage ms fs) h).files
  handle-files fs (Open n) = file-files fs n (at_number fs.files n)
  handle-files fs Input = refl
  handle-files fs Output = refl

  descriptor-files : (fs : OpenFiles) (t fd : ℕ) (o : Option Descriptor) → (closed_descriptor (storage ns fs) t fd o).files ≡ (closed_descriptor (storage ms fs) t fd o).files
  descriptor-files fs t fd None = refl
  descriptor-files fs t fd (Some d) = handle-files (with_descriptor fs t fd None) d.handle

  pub closed-files : (fs : OpenFiles) (t fd : ℕ) → (closed (storage ns fs) t fd).files ≡ (closed (storage ms fs) t fd).files
  unfolding closed
  closed-files fs t fd = descriptor-files fs t fd (descriptor fs t fd)

  pub replaced-files : (fs : OpenFiles) (t old new : ℕ) (cloexec : Bool) → (replaced (storage ns fs) t old new cloexec).files ≡ (replaced (storage ms fs) t old new cloexec).files
  unfolding replaced
  replaced-files fs t old new cloexec = ap (λ (now : OpenFiles). duplicated now t old new cloexec) (closed-files fs t new)

module _ (test : Descriptor → Bool) (t : ℕ) where
  test-files : (ns ms : Inodes) (fs : OpenFiles) (fd : ℕ) (d : Descriptor) (b : Bool) → descriptor fs t fd ≡ Some d → test d ≡ b
      → (all_closed test (storage ns fs) t (fd ∷ [])).files ≡ (all_closed test (storage ms fs) t (fd ∷ [])).files
  test-files ns ms fs fd d true e f = rw (e, f) (closed-files ns ms fs t fd)
  test-files ns ms fs fd d false e f = rw (e, f) refl

  one-files : (ns ms : Inodes) (fs : OpenFiles) (fd : ℕ) (o : Option Descriptor) → descriptor fs t fd ≡ o
      → (all_closed test (storage ns fs) t (fd ∷ [])).files ≡ (all_closed test (storage ms fs) t (fd ∷ [])).files
  one-files ns ms fs fd None e = rw e refl
  one-files ns ms fs fd (Some d) e = test-files ns ms fs fd d _ e refl

  all_closed-files : (fds : List ℕ) (ns ms : Inodes) (fs : OpenFiles) → (all_closed test (storage ns fs) t fds).files ≡ (all_closed test (storage ms fs) t fds).files
  all_closed-files [] ns ms fs = refl
  all_closed-files (fd ∷ fds) ns ms fs =
      let first : Storage = all_closed test (storage ns fs) t (fd ∷ []) in
      let second : Storage = all_closed test (storage ms fs) t (fd ∷ []) in
      all_closed-files fds first.nodes second.nodes first.files
      ∙ ap (λ (now : OpenFiles). (all_closed test (storage second.nodes now) t fds).files) (one-files ns ms fs fd _ refl)

pub exec_closed-files : (ns ms : Inodes) (fs : OpenFiles) (t : ℕ) → (exec_closed (storage ns fs) t).files ≡ (exec_closed (storage ms fs) t).files
unfolding exec_closed
exec_closed-files ns ms fs t = all_closed-files (λ d. d.cloexec) t all_descriptors ns ms fs

pub without_table-files : (ns ms : Inodes) (fs : OpenFiles) (t : ℕ) → (without_table (storage ns fs) t).files ≡ (without_table (storage ms fs) t).files
unfolding without_table
without_table-files ns ms fs t =
    ap (λ (now : OpenFiles). record now { tables = with_item (λ table. None) now.tables t }) (all_closed-files (λ d. true) t all_descriptors ns ms fs)

-- ---- counted, with so many tables at most

pub record HasCounted (most : ℕ) (fs : OpenFiles) : Type 0 where
  pub counted : AreCounted fs
  pub tables : length fs.tables ≤ most

pub are_counted : (nodes : Inodes) (fs : OpenFiles) → Counted (storage nodes fs) → AreCounted fs
are_counted nodes fs counts = record { nodes = nodes; counts = counts }

-- what opens or closes over any nodes does so over those of the counts
module _ (most : ℕ) (now : Storage → Storage) (same : (ns ms : Inodes) (fs : OpenFiles) → (now (storage ns fs)).files ≡ (now (storage ms fs)).files)
    (keeps : (s : Storage) → Counted s → Counted (now s)) (still : (n : ℕ) (s : Storage) → Steady n s → Steady n (now s)) where
  counted_behind : (s : Storage) → HasCounted most s.files → HasCounted most (now s).files
  counted_behind s h =
      let over : Storage = storage h.counted.nodes s.files in
      let tables = (still (length s.files.tables) (storage opening s.files) (record { tree = changes_keep_tree.begins; tables = refl })).tables in
      record {
        counted = subst AreCounted (same h.counted.nodes s.nodes s.files) (are_counted (now over).nodes (now over).files (keeps over h.counted.counts));
        tables = omega (arith, ap (λ (fs : OpenFiles). length fs.tables) (same s.nodes opening s.files), tables, h.tables);
      }

module _ (most : ℕ) (t : ℕ) where
  pub behind-closed : (s : Storage) (fd : ℕ) → HasCounted most s.files → HasCounted most (closed s t fd).files
  behind-closed s fd =
      counted_behind most (λ s. closed s t fd) (λ ns ms fs. closed-files ns ms fs t fd) (λ s. counted-closed s t fd) (λ n s. steady-closed n s t fd) s

  pub behind-replaced : (s : Storage) (old new : ℕ) (cloexec : Bool) → new < most_descriptors → HasCounted most s.files → HasCounted most (replaced s t old new cloexec).files
  behind-replaced s old new cloexec low =
      counted_behind most (λ s. replaced s t old new cloexec) (λ ns ms fs. replaced-files ns ms fs t old new cloexec)
      (λ s counts. counted-replaced s t old new cloexec counts low) (λ n s. steady-replaced n s t old new cloexec) s

  pub behind-exec_closed : (s : Storage) → HasCounted most s.files → HasCounted most (exec_closed s t).files
  behind-exec_closed =
      counted_behind most (λ s. exec_closed s t) (λ ns ms fs. exec_closed-files ns ms fs t) (λ s. counted-exec_closed s t) (λ n s. steady-exec_closed n s t)

  pub behind-without_table : (s : Storage) → HasCounted most s.files → HasCounted most (without_table s t).files
  behind-without_table =
      counted_behind most (λ s. without_table s t) (λ ns ms fs. without_table-files ns ms fs t) (λ s. counted-without_table s t) (λ n s. steady-without_table n s t)

-- ---- a node more, that no open file holds

put_at : Inode → Inodes → ℕ → Inodes
put_at node [] zero = Some node ∷ []
put_at node [] (suc id) = None ∷ put_at node [] id
put_at node (n ∷ ns) zero = Some node ∷ ns
put_at node (n ∷ ns) (suc id) = n ∷ put_at node ns id

put_there : (node : Inode) (ns : Inodes) (id : ℕ) → inode_at (put_at node ns id) id ≡ Some node
unfolding put_at
put_there node [] zero = refl
put_there node [] (suc id) = put_there node [] id
put_there node (n ∷ ns) zero = refl
put_there node (n ∷ ns) (suc id) = put_there node ns id

put_other : (node : Inode) (ns : Inodes) (id k : ℕ) → k ≢ id → inode_at (put_at node ns id) k ≡ inode_at ns k
unfolding put_at
put_other node [] zero zero other = absurd (other refl)
put_other node [] zero (suc k) other = refl
put_other node [] (suc id) zero other = refl
put_other node [] (suc id) (suc k) other = put_other node [] id k (λ e. other (ap suc e))
put_other node (n ∷ ns) zero zero other = absurd (other refl)
put_other node (n ∷ ns) zero (suc k) other = refl
put_other node (n ∷ ns) (suc id) zero other = refl
put_other node (n ∷ ns) (suc id) (suc k) other = put_other node ns id k (λ e. other (ap suc e))

abbrev a_file : Inode
a_file = new_inode (file []) None

abbrev Stays : Option Inode → Type 0
Stays o = IfSome o (λ n. tree.kept n ≡ Some n)

with_node : (fs : OpenFiles) (id : ℕ) (c : AreCounted fs) → inode_at c.nodes id ≡ None → Counted (storage (put_at a_file c.nodes id) fs)
with_node fs id c none =
    let b = c.counts in
    record {
      uses = b.uses;
      used = b.used;
      holds = λ k. held k (cases_eq k id);
      remains = λ k. stays k (cases_eq k id);
      whole = b.whole;
      read_ends = b.read_ends;
      write_ends = b.write_ends;
      open_pipes = b.open_pipes;
      pipe_numbers = b.pipe_numbers;
      few_files = b.few_files;
      few_tables = b.few_tables;
    }
  where
    held : (k : ℕ) → (k ≡ id) ⊎ (k ≡ id → ⊥) → holds_in (inode_at (put_at a_file c.nodes id) k) ≡ opens_of fs k
    held k (inl e) =
        subst (λ (j : ℕ). holds_in (inode_at (put_at a_file c.nodes id) j) ≡ opens_of fs j) (sym e)
        (ap holds_in (put_there a_file c.nodes id) ∙ sym (ap holds_in none) ∙ c.counts.holds id)
    held k (inr other) = ap holds_in (put_other a_file c.nodes id k other) ∙ c.counts.holds k

    stays : (k : ℕ) → (k ≡ id) ⊎ (k ≡ id → ⊥) → Stays (inode_at (put_at a_file c.nodes id) k)
    stays k (inl e) = subst (λ (j : ℕ). Stays (inode_at (put_at a_file c.nodes id) j)) (sym e) (subst Stays (sym (put_there a_file c.nodes id)) refl)
    stays k (inr other) = subst Stays (sym (put_other a_file c.nodes id k other)) (c.counts.remains k)

-- the counts are exact over nodes among which this one is
pub record HasNode (fs : OpenFiles) (id : ℕ) : Type 0 where
  pub nodes : Inodes
  pub counts : Counted (storage nodes fs)
  pub there : is_some (inode_at nodes id) ≡ true

pub has_node : (fs : OpenFiles) (id : ℕ) → AreCounted fs → HasNode fs id
has_node fs id c = by (inode_at c.nodes id) refl
  where
    by : (o : Option Inode) → inode_at c.nodes id ≡ o → HasNode fs id
    by None none = record { nodes = put_at a_file c.nodes id; counts = with_node fs id c none; there = ap is_some (put_there a_file c.nodes id) }
    by (Some n) is = record { nodes = c.nodes; counts = c.counts; there = ap is_some is }

pub behind-opened : (nodes : Inodes) (fs : OpenFiles) (t fd node : ℕ) (way : Way) → AreCounted fs → lowest_free fs t ≡ Some fd → free_number fs.files < 2 ^ 32
    → AreCounted (opened (storage nodes fs) t fd node way).files
unfolding opened
behind-opened nodes fs t fd node way c free low =
    let at = has_node fs node c in
    are_counted (tree.held at.nodes node) (opened (storage nodes fs) t fd node way).files (counted-opened (storage at.nodes fs) t fd node way at.counts free at.there low)

-- All of the law but what open files count: it holds also in the middle of a change.
use Rattle.std.proofs.Common.{◌≡◌, ℕ, ◌+◌, ◌-◌, ◌<◌, ◌≤◌, ◌^◌, Bool, true, false, cond, List, length, Option, Some, None, IfSome, refl, sym, ap, ◌∙◌, subst, arith}
use Rattle.std.specs.Prelude.{◌==◌, nat_le, is_some, count_by, slice_set}
use Rattle.std.proofs.lemmas.Bool.{leb-false}
use Rattle.std.proofs.lemmas.List.{length-set}
use Rattle.std.proofs.lemmas.List.Sums.{count_by-le-length}
use Rattle.mem_files.specs.Inodes.{inode_at, raised}
use Rattle.mem_files.specs.Changes as tree
use Rattle.fd_tables.specs.declared.open_file.OpenFile.{OpenFile}
use Rattle.fd_tables.specs.declared.open_file.Object.{Object}
use Rattle.fd_tables.specs.declared.open_file.Object.TheVariants.{File, PipeEnd}
use Rattle.fd_tables.specs.declared.open_file.Handle.{Handle}
use Rattle.fd_tables.specs.declared.open_file.Handle.TheVariants.{Input, Output, Open}
use Rattle.fd_tables.specs.declared.open_file.Descriptor.{Descriptor}
use Rattle.fd_tables.specs.Files.{Table, Pipe, OpenFiles, most_descriptors, at_number, free_number, with_next, table_at}
use Rattle.fd_tables.specs.Changes.{Storage, storage, with_item, with_descriptor, with_file, with_open_file, pipe_end, shared, let_go, dropped, dropped_file}
use Rattle.fd_tables.specs.Pipes.{pipe_at, marked, changed_to, with_closed, unless_closed, with_pipe}
use Rattle.fd_tables.specs.Counts.{is_node, opens_node, opens_of, ends_of, Counted}
use Rattle.fd_tables.proofs.AtNumbers.{made}
use Rattle.fd_tables.proofs.NextNumbers.{length-next, free_most, count-next}
use Rattle.fd_tables.proofs.Items.{item_each, next_each, length-item, sum-item, sum-item_same, sum-next}
use Rattle.fd_tables.proofs.Sharing.{one, IsWhole}
use Rattle.fd_tables.proofs.KeptNodes.{IsKept, kept-held, kept-let_go}
use Rattle.fd_tables.proofs.Holds.{holds_at, holds-held, holds-let_go}
use Rattle.fd_tables.proofs.EndCounts.{end_open, is_open, EndsCounted, EndThere, view_read, view_write, ends-file, ends-node_gone, ends-node_next, end_there, ends-gone, without_end_is, ends-bytes, ends-piped}

abbrev pub IsUsed : Option OpenFile → Type 0
IsUsed o = IfSome o (λ f. 1 ≤ f.uses)

pub record Sound (s : Storage) : Type 0 where
  pub used : (n : ℕ) → IsUsed (at_number s.files.files n)
  pub holds : (id : ℕ) → holds_at s.nodes id ≡ opens_of s.files id
  pub remains : (id : ℕ) → IsKept (inode_at s.nodes id)
  pub whole : (t : ℕ) → IsWhole (table_at s.files t)
  pub ends : EndsCounted s.files.files s.files.pipes s.files.next_pipe
  pub few_files : length s.files.files ≤ 2 ^ 32
  pub few_tables : length s.files.tables ≤ 2 ^ 32

pub counted_ends : (s : Storage) → Counted s → EndsCounted s.files.files s.files.pipes s.files.next_pipe
counted_ends s c = record { ends = by; open_pipes = c.open_pipes; numbers = c.pipe_numbers }
  where
    by : (id : ℕ) (write : Bool) → ends_of s.files id write ≡ one (is_open write (pipe_at s.files id))
    by id false = c.read_ends id ∙ ap one (view_read s.files id)
    by id true = c.write_ends id ∙ ap one (view_write s.files id)

pub sound : (s : Storage) → Counted s → Sound s
sound s c = record { used = c.used; holds = c.holds; remains = c.remains; whole = c.whole; ends = counted_ends s c; few_files = c.few_files; few_tables = c.few_tables }

-- ---- tables

set_whole : (o : Option Table) (fd : ℕ) (d : Option Descriptor) → IsWhole o → IsWhole (made (λ table. Some (slice_set table fd d)) o)
set_whole None fd d whole = whole
set_whole (Some table) fd d whole = length-set table fd d ∙ whole

pub sound-place : (s : Storage) (t fd : ℕ) (d : Option Descriptor) → Sound s → Sound (storage s.nodes (with_descriptor s.files t fd d))
sound-place s t fd d b = record {
  used = b.used;
  holds = b.holds;
  remains = b.remains;
  whole = item_each IsWhole (λ table. Some (slice_set table fd d)) s.files.tables t (set_whole (table_at s.files t) fd d (b.whole t)) b.whole;
  ends = b.ends;
  few_files = b.few_files;
  few_tables = omega (arith, b.few_tables, length-item (λ table. Some (slice_set table fd d)) s.files.tables t);
}

gone_whole : (o : Option Table) → IsWhole (made (λ table. None) o)
gone_whole None = tt
gone_whole (Some table) = tt

pub sound-gone_table : (s : Storage) (t : ℕ) → Sound s → Sound (storage s.nodes (record s.files { tables = with_item (λ table. None) s.files.tables t }))
sound-gone_table s t b = record {
  used = b.used;
  holds = b.holds;
  remains = b.remains;
  whole = item_each IsWhole (λ table. None) s.files.tables t (gone_whole (table_at s.files t)) b.whole;
  ends = b.ends;
  few_files = b.few_files;
  few_tables = omega (arith, b.few_tables, length-item (λ table. None) s.files.tables t);
}

pub sound-next_table : (s : Storage) (table : Table) → length table ≡ most_descriptors → free_number s.files.tables < 2 ^ 32 → Sound s → Sound (storage s.nodes (record s.files { tables = with_next table s.files.tables }))
sound-next_table s table whole room b = record {
  used = b.used;
  holds = b.holds;
  remains = b.remains;
  whole = next_each IsWhole table s.files.tables whole b.whole;
  ends = b.ends;
  few_files = b.few_files;
  few_tables = length-next table s.files.tables (2 ^ 32) b.few_tables room;
}

-- ---- open files that stay open

abbrev opens_one : ℕ → Option OpenFile → ℕ
opens_one id o = cond (opens_node id o) 1 0

module _ (u : OpenFile → OpenFile) (same : (f : OpenFile) → ((u f).object ≡ f.object) × ((u f).write ≡ f.write)) where
  same_node : (o : Option OpenFile) (id : ℕ) → opens_one id (made (λ f. Some (u f)) o) ≡ opens_one id o
  same_node None id = refl
  same_node (Some f) id = ap (λ (o : Object). one (is_node id o)) (same f).0

  used_by : (o : Option OpenFile) → ((f : OpenFile) → o ≡ Some f → 1 ≤ (u f).uses) → IsUsed (made (λ f. Some (u f)) o)
  used_by None used = tt
  used_by (Some f) used = used f refl

  pub sound-file : (s : Storage) (n : ℕ) → ((f : OpenFile) → at_number s.files.files n ≡ Some f → 1 ≤ (u f).uses) → Sound s → Sound (storage s.nodes (with_file (λ f. Some (u f)) s.files n))
  sound-file s n used b = record {
    used = item_each IsUsed (λ f. Some (u f)) s.files.files n (used_by (at_number s.files.files n) used) b.used;
    holds = λ id. b.holds id ∙ sym (sum-item_same (opens_one id) (λ f. Some (u f)) s.files.files n (same_node (at_number s.files.files n) id));
    remains = b.remains;
    whole = b.whole;
    ends = ends-file u same s.files.files n s.files.pipes s.files.next_pipe b.ends;
    few_files = omega (arith, b.few_files, length-item (λ f. Some (u f)) s.files.files n);
    few_tables = b.few_tables;
  }

pub sound-shared : (s : Storage) (h : Handle) → Sound s → Sound (storage s.nodes (shared s.files h))
sound-shared s Input b = b
sound-shared s Output b = b
sound-shared s (Open n) b = sound-file (λ f. record f { uses = raised f.uses }) (λ f. (refl, refl)) s n (λ f there. omega arith) b

-- ---- open files that go

gone_used : (o : Option OpenFile) → IsUsed (made (λ f. None) o)
gone_used None = tt
gone_used (Some f) = tt

node_gone : (s : Storage) (n node : ℕ) (f : OpenFile) → at_number s.files.files n ≡ Some f → f.object ≡ File node → Sound s → Sound (storage (tree.let_go s.nodes node) (with_file (λ f. None) s.files n))
node_gone s n node f there is b = record {
  used = item_each IsUsed (λ f. None) s.files.files n (gone_used (at_number s.files.files n)) b.used;
  holds = λ id.
      let fewer : opens_of (with_file (λ f. None) s.files n) id + one (node == id) ≡ opens_of s.files id =
      let e = sum-item (opens_one id) (λ f. None) s.files.files n in
      omega (arith, e, ap (opens_one id) there, ap (λ o. opens_one id (made (λ f. None) o)) there, ap (λ (o : Object). one (is_node id o)) is) in
      omega (arith, b.holds id, holds-let_go s.nodes node id (omega (arith, b.holds id)));
  remains = kept-let_go s.nodes node b.remains;
  whole = b.whole;
  ends = ends-node_gone s.files.files n node f s.files.pipes s.files.next_pipe there is b.ends;
  few_files = omega (arith, b.few_files, length-item (λ f. None) s.files.files n);
  few_tables = b.few_tables;
}

end_gone : (s : Storage) (n id : ℕ) (f : OpenFile) (p : Pipe) → at_number s.files.files n ≡ Some f → f.object ≡ PipeEnd id → pipe_at s.files id ≡ Some p → end_open f.write p ≡ true → Sound s →
    Sound (storage s.nodes (marked id (record s.files { files = with_item (λ f. None) s.files.files n; pipes = changed_to (with_file (λ f. None) s.files n) id (unless_closed (with_closed f.write p)) })))
end_gone s n id f p there is pipe open_end b = record {
  used = item_each IsUsed (λ f. None) s.files.files n (gone_used (at_number s.files.files n)) b.used;
  holds = λ k.
      let e = sum-item (opens_one k) (λ f. None) s.files.files n in
      omega (arith, b.holds k, e, ap (opens_one k) there, ap (λ o. opens_one k (made (λ f. None) o)) there, ap (λ (o : Object). one (is_node k o)) is);
  remains = b.remains;
  whole = b.whole;
  ends = ends-gone s.files.files (with_file (λ f. None) s.files n) n id f p there is pipe open_end b.ends;
  few_files = omega (arith, b.few_files, length-item (λ f. None) s.files.files n);
  few_tables = b.few_tables;
}

sound-gone : (s : Storage) (n : ℕ) (f : OpenFile) (o : Object) → f.object ≡ o → at_number s.files.files n ≡ Some f → Sound s →
    Sound (let_go (storage s.nodes (with_file (λ f. None) s.files n)) f o)
sound-gone s n f (File node) is there b = node_gone s n node f there is b
sound-gone s n f (PipeEnd id) is there b =
    let e : EndThere s.files id f.write = end_there s.files.files s.files n id f there is b.ends in
    subst (λ (fs : OpenFiles). Sound (storage s.nodes fs)) (sym (without_end_is (with_file (λ f. None) s.files n) id f.write e.pipe e.there)) (end_gone s n id f e.pipe there is e.there e.end b)

by_last : (s : Storage) (n : ℕ) (f : OpenFile) (b : Bool) → nat_le f.uses 1 ≡ b → at_number s.files.files n ≡ Some f → Sound s → Sound (dropped_file s n (Some f))
by_last s n f true e there b = rw e (sound-gone s n f f.object refl there b)
by_last s n f false e there b = rw e (sound-file (λ f. record f { uses = f.uses - 1 }) (λ f. (refl, refl)) s n (λ g is. let same : f ≡ g = cc in subst (λ (g : OpenFile). 1 ≤ g.uses - 1) same (omega (arith, leb-false f.uses 1 e))) b)

by_file : (s : Storage) (n : ℕ) (o : Option OpenFile) → at_number s.files.files n ≡ o → Sound s → Sound (dropped_file s n o)
by_file s n None there b = b
by_file s n (Some f) there b = by_last s n f _ refl there b

pub sound-dropped : (s : Storage) (h : Handle) → Sound s → Sound (dropped s h)
sound-dropped s Input b = b
sound-dropped s Output b = b
sound-dropped s (Open n) b = by_file s n (at_number s.files.files n) refl b

-- ---- one that opens

pub sound-opened : (s : Storage) (f : OpenFile) (node : ℕ) → f.object ≡ File node → 1 ≤ f.uses → is_some (inode_at s.nodes node) ≡ true → free_number s.files.files < 2 ^ 32 → Sound s → Sound (storage (tree.held s.nodes node) (with_open_file s.files f))
sound-opened s f node is used there room b = record {
  used = next_each IsUsed f s.files.files used b.used;
  holds = λ id.
      let more : opens_of (with_open_file s.files f) id ≡ opens_of s.files id + one (is_node id f.object) = sum-next (opens_one id) refl f s.files.files in
      omega (arith, b.holds id, more, ap (λ (o : Object). one (is_node id o)) is, holds-held s.nodes node id there (omega (arith, b.holds node, b.few_files, count_by-le-length (opens_node node) s.files.files)));
  remains = kept-held s.nodes node b.remains;
  whole = b.whole;
  ends = ends-node_next s.files.files node f s.files.pipes s.files.next_pipe is b.ends;
  few_files = length-next f s.files.files (2 ^ 32) b.few_files room;
  few_tables = b.few_tables;
}

-- ---- a pipe

pub sound-piped : (s : Storage) → count_by is_some s.files.files + 2 ≤ 2 ^ 32 → Sound s →
    Sound (storage s.nodes (with_open_file (with_open_file (with_pipe s.files) (pipe_end s.files.next_pipe false)) (pipe_end s.files.next_pipe true)))
sound-piped s few b =
    let read : OpenFile = pipe_end s.files.next_pipe false in
    let write : OpenFile = pipe_end s.files.next_pipe true in
    record {
      used = next_each IsUsed write (with_next read s.files.files) (omega arith) (next_each IsUsed read s.files.files (omega arith) b.used);
      holds = λ id. omega (arith, b.holds id, sum-next (opens_one id) refl read s.files.files, sum-next (opens_one id) refl write (with_next read s.files.files));
      remains = b.remains;
      whole = b.whole;
      ends = ends-piped s.files b.ends;
      few_files =
          length-next write (with_next read s.files.files) (2 ^ 32) (length-next read s.files.files (2 ^ 32) b.few_files (omega (arith, free_most s.files.files)))
          (omega (arith, free_most (with_next read s.files.files), count-next read s.files.files));
      few_tables = b.few_tables;
    }

-- ---- bytes of a pipe, and marks

pub sound-bytes : (s : Storage) (id : ℕ) (p : Pipe) (bytes : List ℕ) → pipe_at s.files id ≡ Some p → Sound s →
    Sound (storage s.nodes (marked id (record s.files { pipes = changed_to s.files id (Some (record p { bytes = bytes })) })))
sound-bytes s id p bytes there b = record {
  used = b.used;
  holds = b.holds;
  remains = b.remains;
  whole = b.whole;
  ends = ends-bytes s.files.files s.files id p bytes there b.ends;
  few_files = b.few_files;
  few_tables = b.few_tables;
}

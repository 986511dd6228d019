-- The tree's own changes leave what its nodes count.
use Rattle.std.proofs.Common.{◌≡◌, ℕ, zero, suc, ◌+◌, Bool, true, false, cond, List, [], ◌∷◌, ◌++◌, length, Option, Some, None, Result, Ok, Err, refl, sym, ap, ◌∙◌, subst, ◌⊎◌, inl, inr}
use Rattle.std.specs.Prelude.{◌==◌, ◌&&◌, nat_le, nat_lt}
use Rattle.std.proofs.lemmas.Bool.{cases_eq}
use Rattle.call_log.specs.declared.errno.Errno.{Errno}
use Rattle.mem_files.specs.Inodes.{Entry, Content, file, folder, Inode, Inodes, new_inode, inode_at, kind_of, size_of, bytes_in, most_nodes, most_of_one, most_of_all, node_count, byte_count}
use Rattle.mem_files.specs.Paths.{Place, place_of}
use Rattle.mem_files.specs.Changes.{with_change, kept, with_bytes, with_entries, overwritten, or_no_space, written, truncated, with_entry, with_new, made_in, made_at, with_folder, with_file, may_be_entry, without_entry, naming_fault, unless_fault, unnamed, unnamed_at, unlinked}
use Rattle.fd_tables.specs.Changes.{Storage, storage}
use Rattle.fd_tables.specs.Counts.{holds_in, Counted}
use Rattle.fd_tables.specs.CountLaws.{TreeKeepsCounts}
use Rattle.fd_tables.proofs.AtNumbers.{made}
use Rattle.fd_tables.proofs.KeptNodes.{IsKept, kept_alike, kept_kept, change_kept}
use Rattle.fd_tables.proofs.Holds.{holds_at, change_at, change_other, holds-kept}

-- ---- one node

-- each count stays, and each node is kept as before
record Same (old new : Inodes) : Type 0 where
  holds : (k : ℕ) → holds_at new k ≡ holds_at old k
  remains : ((k : ℕ) → IsKept (inode_at old k)) → (k : ℕ) → IsKept (inode_at new k)

both : (first second third : Inodes) → Same first second → Same second third → Same first third
both first second third a b = record { holds = λ k. b.holds k ∙ a.holds k; remains = λ each. b.remains (a.remains each) }

made_holds : (f : Inode → Option Inode) → ((n : Inode) → holds_in (f n) ≡ n.holds) → (o : Option Inode) → holds_in (made f o) ≡ holds_in o
made_holds f same None = refl
made_holds f same (Some n) = same n

change_same : (f : Inode → Option Inode) → ((n : Inode) → holds_in (f n) ≡ n.holds) → ((n : Inode) → kept n ≡ Some n → IsKept (f n)) → (ns : Inodes) (id : ℕ) → Same ns (with_change f ns id)
change_same f same keeps ns id = record { holds = λ k. by k (cases_eq k id); remains = change_kept f keeps ns id }
  where
    by : (k : ℕ) → (k ≡ id) ⊎ (k ≡ id → ⊥) → holds_at (with_change f ns id) k ≡ holds_at ns k
    by k (inl e) = subst (λ (j : ℕ). holds_at (with_change f ns id) j ≡ holds_at ns j) (sym e) (ap holds_in (change_at f ns id) ∙ made_holds f same (inode_at ns id))
    by k (inr other) = ap holds_in (change_other f ns id k other)

-- a change of a node's content
content_same : (f : Inode → Inode) → ((n : Inode) → ((f n).linked ≡ n.linked) × ((f n).holds ≡ n.holds)) → (ns : Inodes) (id : ℕ) → Same ns (with_change (λ n. Some (f n)) ns id)
content_same f alike ns id = change_same (λ n. Some (f n)) (λ n. (alike n).1) (λ n is. kept_alike n (f n) (alike n).0 (alike n).1 is) ns id

bytes_alike : (f : List ℕ → List ℕ) (n : Inode) → ((with_bytes f n).linked ≡ n.linked) × ((with_bytes f n).holds ≡ n.holds)
bytes_alike f n = by n.content refl
  where
    by : (x : Content) → n.content ≡ x → ((with_bytes f n).linked ≡ n.linked) × ((with_bytes f n).holds ≡ n.holds)
    by (file bytes) is = rw is (refl, refl)
    by (folder parent entries) is = rw is (refl, refl)

entries_alike : (f : List Entry → List Entry) (n : Inode) → ((with_entries f n).linked ≡ n.linked) × ((with_entries f n).holds ≡ n.holds)
entries_alike f n = by n.content refl
  where
    by : (x : Content) → n.content ≡ x → ((with_entries f n).linked ≡ n.linked) × ((with_entries f n).holds ≡ n.holds)
    by (file bytes) is = rw is (refl, refl)
    by (folder parent entries) is = rw is (refl, refl)

behind_holds : (n : Inode) → n.holds ≡ 0 → (ns : Inodes) (k : ℕ) → holds_at (ns ++ Some n ∷ []) k ≡ holds_at ns k
behind_holds n none [] zero = none
behind_holds n none [] (suc k) = refl
behind_holds n none (m ∷ ns) zero = refl
behind_holds n none (m ∷ ns) (suc k) = behind_holds n none ns k

behind_stays : (n : Inode) → kept n ≡ Some n → (ns : Inodes) → ((k : ℕ) → IsKept (inode_at ns k)) → (k : ℕ) → IsKept (inode_at (ns ++ Some n ∷ []) k)
behind_stays n is [] each zero = is
behind_stays n is [] each (suc k) = tt
behind_stays n is (m ∷ ns) each zero = each 0
behind_stays n is (m ∷ ns) each (suc k) = behind_stays n is ns (λ j. each (suc j)) k

new_same : (ns : Inodes) (at : ℕ) (name : List ℕ) (n : Inode) → n.holds ≡ 0 → kept n ≡ Some n → Same ns (with_new ns at name n)
new_same ns at name n none is =
    both ns (with_entry ns at name (length ns)) (with_new ns at name n) (content_same _ (λ m. entries_alike (λ entries. entries ++ record { name = name; id = length ns } ∷ []) m) ns at)
    (record { holds = behind_holds n none (with_entry ns at name (length ns)); remains = behind_stays n is (with_entry ns at name (length ns)) })

unnamed_same : (ns : Inodes) (p : Place) (id : ℕ) → Same ns (unnamed ns p id)
unnamed_same ns p id =
    both ns (without_entry ns p.folder p.name) (unnamed ns p id) (content_same _ (λ m. entries_alike _ m) ns p.folder)
    (change_same _ (λ m. holds-kept (record m { linked = false })) (λ m is. kept_kept (record m { linked = false })) (without_entry ns p.folder p.name) id)

-- ---- the changes, where they are not refused

abbrev Keeps : Inodes → Result Inodes Errno → Type 0
Keeps ns r = (new : Inodes) → r ≡ Ok new → Same ns new

refused : (ns : Inodes) (errno : Errno) → Keeps ns (Err errno)
refused ns errno new is = let no : ⊥ = cc in absurd no

done : (ns now : Inodes) → Same ns now → Keeps ns (Ok now)
done ns now same new is = let e : now ≡ new = cc in subst (Same ns) e same

either : (ns : Inodes) (b : Bool) (x y : Result Inodes Errno) → Keeps ns x → Keeps ns y → Keeps ns (cond b x y)
either ns true x y first second = first
either ns false x y first second = second

keeps-space : (ns now : Inodes) → Same ns now → Keeps ns (or_no_space now)
keeps-space ns now same = either ns (nat_le (node_count now) most_nodes && nat_le (byte_count now) most_of_all) _ _ (done ns now same) (refused ns _)

keeps-written : (ns : Inodes) (id at : ℕ) (bytes : List ℕ) → Keeps ns (written ns id at bytes)
unfolding written
keeps-written ns id at bytes =
    either ns (length bytes == 0) _ _ (done ns ns (record { holds = λ k. refl; remains = λ each. each }))
    (either ns (nat_lt most_of_one (at + length bytes)) _ _ (refused ns _) (keeps-space ns _ (content_same _ (λ n. bytes_alike (overwritten at bytes) n) ns id)))

keeps-truncated : (ns : Inodes) (id : ℕ) → Keeps ns (Ok (truncated ns id))
unfolding truncated
keeps-truncated ns id = done ns _ (content_same _ (λ n. bytes_alike (λ bytes. []) n) ns id)

keeps-made_in : (ns : Inodes) (p : Place) (content : Content) (program : Option ℕ) → Keeps ns (made_in ns p content program)
keeps-made_in ns p content program =
    either ns (nat_lt most_of_one (length (bytes_in content))) _ _ (refused ns _) (keeps-space ns _ (new_same ns p.folder p.name (new_inode content program) refl refl))

keeps-made_at : (content : ℕ → Content) (program : Option ℕ) (ns : Inodes) (r : Result Place Errno) → Keeps ns (made_at content program ns r)
keeps-made_at content program ns (Err errno) = refused ns errno
keeps-made_at content program ns (Ok p) = by p.id refl
  where
    by : (o : Option ℕ) → p.id ≡ o → Keeps ns (made_at content program ns (Ok p))
    by (Some id) e = rw e (refused ns _)
    by None e = rw e (keeps-made_in ns p (content p.folder) program)

keeps-unless : (ns now : Inodes) (fault : Option Errno) → Same ns now → Keeps ns (unless_fault fault now)
keeps-unless ns now None same = done ns now same
keeps-unless ns now (Some errno) same = refused ns errno

by_node : (dir : Bool) (ns : Inodes) (id : Option ℕ) (at : ℕ) (name : List ℕ) → Keeps ns (unnamed_at dir ns (Ok (record { id = id; folder = at; name = name })))
by_node dir ns (Some id) at name = either ns (may_be_entry name) _ _ (keeps-unless ns _ (naming_fault dir (kind_of ns id) (size_of ns id)) (unnamed_same ns (record { id = Some id; folder = at; name = name }) id)) (refused ns _)
by_node dir ns None at name = either ns (may_be_entry name) _ _ (refused ns _) (refused ns _)

keeps-unnamed_at : (dir : Bool) (ns : Inodes) (r : Result Place Errno) → Keeps ns (unnamed_at dir ns r)
keeps-unnamed_at dir ns (Err errno) = refused ns errno
keeps-unnamed_at dir ns (Ok p) = by_node dir ns p.id p.folder p.name

-- ---- and so the law

over : (s : Storage) (new : Inodes) → Counted s → Same s.nodes new → Counted (storage new s.files)
over s new c same = record {
  uses = c.uses;
  used = c.used;
  holds = λ id. same.holds id ∙ c.holds id;
  remains = same.remains c.remains;
  whole = c.whole;
  read_ends = c.read_ends;
  write_ends = c.write_ends;
  open_pipes = c.open_pipes;
  pipe_numbers = c.pipe_numbers;
  few_files = c.few_files;
  few_tables = c.few_tables;
}

pub tree_keeps_counts : TreeKeepsCounts
unfolding with_folder with_file unlinked
tree_keeps_counts = record {
  folder = λ path s new c is. over s new c (keeps-made_at (λ parent. folder parent []) None s.nodes (place_of s.nodes path) new is);
  file = λ path bytes program s new c is. over s new c (keeps-made_at (λ parent. file bytes) program s.nodes (place_of s.nodes path) new is);
  unlink = λ path dir s new c is. over s new c (keeps-unnamed_at dir s.nodes (place_of s.nodes path) new is);
  write = λ id at bytes s new c is. over s new c (keeps-written s.nodes id at bytes new is);
  truncate = λ id s new c is. over s new c (keeps-truncated s.nodes id new is);
}

-- Nodes age by each change: a count of changes never falls, and the bytes are others only where it rises.
use Rattle.std.proofs.Common.{◌≡◌, ℕ, zero, suc, ◌+◌, ◌-◌, ◌<◌, ◌≤◌, Bool, true, false, cond, not, List, [], ◌∷◌, ◌++◌, length, Option, Some, None, Result, Ok, Err, refl, sym, ap, ◌∙◌, subst, ◌⊎◌, inl, inr, arith}
use Rattle.std.specs.Prelude.{◌==◌, ◌&&◌, ◌||◌, nat_le, nat_lt, filter, bytes_eq}
use Rattle.std.proofs.lemmas.Bool.{cases_eq}
use Rattle.call_log.specs.declared.errno.Errno.{Errno}
use Rattle.mem_files.specs.Inodes.{Entry, Content, file, folder, Inode, Inodes, new_inode, inode_at, bytes_in, kind_of, size_of, most_nodes, most_of_one, most_of_all, node_count, byte_count, raised}
use Rattle.mem_files.specs.Paths.{Place, place_of}
use Rattle.mem_files.specs.Changes.{with_change, kept, held, let_go, with_bytes, with_entries, overwritten, or_no_space, written, truncated, with_entry, with_new, with_folder, with_file, may_be_entry, without_entry, naming_fault, unless_fault, unnamed, unnamed_at, unlinked}
use Rattle.mem_files.proofs.TreesKept.{Leaves, made_leaves}
use Rattle.fd_tables.proofs.AtNumbers.{made}
use Rattle.fd_tables.proofs.Items.{length-item}
use Rattle.fd_tables.proofs.Holds.{change_item, change_at, change_other}
use Rattle.machine_world.specs.Ages.{AreChanged, Ages, Aged, Follows, most_changes}

-- ---- one after the other

ages_itself : (n : Inode) → Ages n n
ages_itself n = record { up = omega arith; same = λ e. refl }

ages_on : (a b c : Inode) → Ages a b → Ages b c → Ages a c
ages_on a b c first second = record {
  up = omega (arith, first.up, second.up);
  same = λ e. first.same (omega (arith, first.up, second.up, e)) ∙ second.same (omega (arith, first.up, second.up, e));
}

follows_on : (a b c : Inodes) → Follows a b → Follows b c → Follows a c
follows_on a b c first second = record {
  grows = omega (arith, first.grows, second.grows);
  nodes = λ id n inside is.
      let mid : Aged b id n = second.nodes id n (omega (arith, first.grows, inside)) is in
      let old : Aged a id mid.was = first.nodes id mid.was inside mid.there in
      record { was = old.was; there = old.there; ages = ages_on old.was mid.was n old.ages mid.ages };
}

-- the nodes after older ones, none of them changed more often than that
abbrev pub Since : Inodes → ℕ → Inodes → Type 0
Since old most new = Follows old new × AreChanged most new

pub since_itself : (ns : Inodes) (most : ℕ) → AreChanged most ns → Since ns most ns
since_itself ns most low = (record { grows = omega arith; nodes = λ id n inside is. record { was = n; there = is; ages = ages_itself n } }, low)

pub since_on : (old mid new : Inodes) (most to : ℕ) → Since old most mid → Since mid to new → Since old to new
since_on old mid new most to first second = (follows_on old mid new first.0 second.0, second.1)

-- a higher bound
pub since_more : (old new : Inodes) (most : ℕ) → Since old most new → Since old (most + 1) new
since_more old new most h = (h.0, λ id n is. omega (arith, h.1 id n is))

-- ---- one node changes

-- f ages each node that was changed so often at most, and counts up to that
abbrev AgesTo : ℕ → ℕ → (Inode → Option Inode) → Type 0
AgesTo most to f = (n m : Inode) → n.change ≤ most → f n ≡ Some m → Ages n m × (m.change ≤ to)

module _ (most to : ℕ) (more : most ≤ to) (f : Inode → Option Inode) (ages : AgesTo most to f) (ns : Inodes) (id : ℕ) (low : AreChanged most ns) where
  aged_here : (o : Option Inode) → inode_at ns id ≡ o → (n : Inode) → made f o ≡ Some n → Aged ns id n × (n.change ≤ to)
  aged_here (Some was) at n is = let step = ages was n (low id was at) is in (record { was = was; there = at; ages = step.0 }, step.1)
  aged_here None at n is = let no : ⊥ = cc in absurd no

  aged_at : (k : ℕ) → (k ≡ id) ⊎ (k ≡ id → ⊥) → (n : Inode) → inode_at (with_change f ns id) k ≡ Some n → Aged ns k n × (n.change ≤ to)
  aged_at k (inl e) n is =
      subst (λ (j : ℕ). inode_at (with_change f ns id) j ≡ Some n → Aged ns j n × (n.change ≤ to)) (sym e)
      (λ now. aged_here (inode_at ns id) refl n (sym (change_at f ns id) ∙ now)) is
  aged_at k (inr other) n is =
      let was : inode_at ns k ≡ Some n = sym (change_other f ns id k other) ∙ is in
      (record { was = n; there = was; ages = ages_itself n }, omega (arith, low k n was, more))

  change_ages : Since ns to (with_change f ns id)
  change_ages =
      let same : length (with_change f ns id) ≡ length ns = ap length (change_item f ns id) ∙ length-item f ns id in (
        record { grows = omega (arith, same); nodes = λ k n inside is. (aged_at k (cases_eq k id) n is).0 },
        λ k n is. (aged_at k (cases_eq k id) n is).1,
      )

-- what a node becomes has as high a count, and the same bytes
record Quiet (g : Inode → Inode) : Type 0 where
  count : (n : Inode) → (g n).change ≡ n.change
  bytes : (n : Inode) → bytes_in (g n).content ≡ bytes_in n.content

quiet_ages : (g : Inode → Inode) → Quiet g → (n m : Inode) (most : ℕ) → n.change ≤ most → g n ≡ m → Ages n m × (m.change ≤ most)
quiet_ages g quiet n m most low is =
    subst (λ (k : Inode). Ages n k × (k.change ≤ most)) is
    (record { up = omega (arith, quiet.count n); same = λ e. sym (quiet.bytes n) }, omega (arith, quiet.count n, low))

stays_to : (g : Inode → Inode) → Quiet g → (most : ℕ) → AgesTo most most (λ n. Some (g n))
stays_to g quiet most n m low is = quiet_ages g quiet n m most low cc

kept_is : (b : Bool) (x m : Inode) → cond b (Some x) None ≡ Some m → x ≡ m
kept_is true x m is = cc
kept_is false x m is = let no : ⊥ = cc in absurd no

kept_to : (g : Inode → Inode) → Quiet g → (most : ℕ) → AgesTo most most (λ n. kept (g n))
kept_to g quiet most n m low is = quiet_ages g quiet n m most low (kept_is ((g n).linked || nat_lt 0 (g n).holds) (g n) m is)

module _ (ns : Inodes) (id most : ℕ) (low : AreChanged most ns) where
  stays_ages : (g : Inode → Inode) → Quiet g → Since ns most (with_change (λ n. Some (g n)) ns id)
  stays_ages g quiet = change_ages most most (omega arith) (λ n. Some (g n)) (stays_to g quiet most) ns id low

  kept_ages : (g : Inode → Inode) → Quiet g → Since ns most (with_change (λ n. kept (g n)) ns id)
  kept_ages g quiet = change_ages most most (omega arith) (λ n. kept (g n)) (kept_to g quiet most) ns id low

  -- ---- open files come and go

  pub held_ages : Since ns most (held ns id)
  unfolding held
  held_ages = stays_ages (λ n. record n { holds = raised n.holds }) (record { count = λ n. refl; bytes = λ n. refl })

  pub let_go_ages : Since ns most (let_go ns id)
  unfolding let_go
  let_go_ages = kept_ages (λ n. record n { holds = n.holds - 1 }) (record { count = λ n. refl; bytes = λ n. refl })

-- ---- the bytes of a file

bytes_to : (f : List ℕ → List ℕ) (most : ℕ) → most < most_changes → AgesTo most (most + 1) (λ n. Some (with_bytes f n))
bytes_to f most few n m low is =
    let e : with_bytes f n ≡ m = cc in subst (λ (k : Inode). Ages n k × (k.change ≤ most + 1)) e (by n.content refl)
  where
    by : (x : Content) → n.content ≡ x → Ages n (with_bytes f n) × ((with_bytes f n).change ≤ most + 1)
    by (file bytes) e =
        rw e (record { up = omega (arith, low, few); same = λ same. let no : ⊥ = omega (arith, low, few, same) in absurd no }, omega (arith, low, few))
    by (folder parent entries) e = rw e (record { up = omega arith; same = λ same. refl }, omega (arith, low))

module _ (ns : Inodes) (most : ℕ) (few : most < most_changes) (low : AreChanged most ns) where
  bytes_age : (f : List ℕ → List ℕ) (id : ℕ) → Since ns (most + 1) (with_change (λ n. Some (with_bytes f n)) ns id)
  bytes_age f id = change_ages most (most + 1) (omega arith) (λ n. Some (with_bytes f n)) (bytes_to f most few) ns id low

  pub truncated_ages : (id : ℕ) → Since ns (most + 1) (truncated ns id)
  unfolding truncated
  truncated_ages id = bytes_age (λ bytes. []) id

-- ---- a change that may be refused

module _ (P : Inodes → Type 0) where
  refused : (errno : Errno) → Leaves P (Err errno)
  refused errno new is = let no : ⊥ = cc in absurd no

  done : (now : Inodes) → P now → Leaves P (Ok now)
  done now holds new is = let e : now ≡ new = cc in subst P e holds

  either : (b : Bool) (x y : Result Inodes Errno) → Leaves P x → Leaves P y → Leaves P (cond b x y)
  either true x y first second = first
  either false x y first second = second

  by_space : (now : Inodes) → P now → Leaves P (or_no_space now)
  by_space now holds = either (nat_le (node_count now) most_nodes && nat_le (byte_count now) most_of_all) _ _ (done now holds) (refused _)

  by_fault : (now : Inodes) (fault : Option Errno) → P now → Leaves P (unless_fault fault now)
  by_fault now None holds = done now holds
  by_fault now (Some errno) holds = refused errno

pub written_ages : (ns new : Inodes) (id at : ℕ) (bytes : List ℕ) (most : ℕ) → written ns id at bytes ≡ Ok new
    → most < most_changes → AreChanged most ns → Since ns (most + 1) new
unfolding written
written_ages ns new id at bytes most is few low =
    let P : Inodes → Type 0 = Since ns (most + 1) in
    either P (length bytes == 0) _ _ (done P ns (since_more ns ns most (since_itself ns most low)))
    (either P (nat_lt most_of_one (at + length bytes)) _ _ (refused P _) (by_space P _ (bytes_age ns most few low (overwritten at bytes) id)))
    new is

-- ---- names

quiet_entries : (f : List Entry → List Entry) → Quiet (with_entries f)
quiet_entries f = record { count = λ n. same_count n n.content refl; bytes = λ n. same_bytes n n.content refl }
  where
    same_count : (n : Inode) (x : Content) → n.content ≡ x → (with_entries f n).change ≡ n.change
    same_count n (file bytes) e = rw e refl
    same_count n (folder parent entries) e = rw e refl

    same_bytes : (n : Inode) (x : Content) → n.content ≡ x → bytes_in (with_entries f n).content ≡ bytes_in n.content
    same_bytes n (file bytes) e = rw e refl
    same_bytes n (folder parent entries) e = rw e refl

-- what stands in a list with one node more stood there, or is that one
behind_is : (ns : Inodes) (n m : Inode) (k : ℕ) → inode_at (ns ++ Some n ∷ []) k ≡ Some m
    → (k < length ns → inode_at ns k ≡ Some m) × ((inode_at ns k ≡ Some m) ⊎ (n ≡ m))
behind_is [] n m zero is = (λ inside. absurd (omega (arith, inside)), inr cc)
behind_is [] n m (suc k) is = let no : ⊥ = cc in absurd no
behind_is (x ∷ ns) n m zero is = (λ inside. is, inl is)
behind_is (x ∷ ns) n m (suc k) is = let rest = behind_is ns n m k is in (λ inside. rest.0 (omega (arith, inside)), rest.1)

longer : (ns : Inodes) (n : Inode) → length ns ≤ length (ns ++ Some n ∷ [])
longer [] n = omega arith
longer (x ∷ ns) n = omega (arith, longer ns n)

module _ (most : ℕ) where
  new_low : (ns : Inodes) (n m : Inode) (k : ℕ) → n.change ≤ most → AreChanged most ns → (inode_at ns k ≡ Some m) ⊎ (n ≡ m) → m.change ≤ most
  new_low ns n m k few low (inl there) = low k m there
  new_low ns n m k few low (inr e) = subst (λ (x : Inode). x.change ≤ most) e few

  behind_ages : (ns : Inodes) (n : Inode) → n.change ≤ most → AreChanged most ns → Since ns most (ns ++ Some n ∷ [])
  behind_ages ns n few low = (
    record { grows = longer ns n; nodes = λ k m inside is. record { was = m; there = (behind_is ns n m k is).0 inside; ages = ages_itself m } },
    λ k m is. new_low ns n m k few low (behind_is ns n m k is).1,
  )

  new_ages : (ns : Inodes) (at : ℕ) (name : List ℕ) (n : Inode) → n.change ≤ most → AreChanged most ns → Since ns most (with_new ns at name n)
  new_ages ns at name n few low =
      let entered : Inodes = with_entry ns at name (length ns) in
      let first : Since ns most entered =
      stays_ages ns at most low _ (quiet_entries (λ entries. entries ++ record { name = name; id = length ns } ∷ [])) in
      since_on ns entered (with_new ns at name n) most most first (behind_ages entered n few first.1)

  unnamed_ages : (ns : Inodes) (p : Place) (id : ℕ) → AreChanged most ns → Since ns most (unnamed ns p id)
  unnamed_ages ns p id low =
      let mid : Inodes = without_entry ns p.folder p.name in
      let first : Since ns most mid =
      stays_ages ns p.folder most low _ (quiet_entries (λ entries. filter (λ e. not (bytes_eq e.name p.name)) entries)) in
      since_on ns mid (unnamed ns p id) most most first
      (kept_ages mid id most first.1 (λ n. record n { linked = false }) (record { count = λ n. refl; bytes = λ n. refl }))

  pub folder_ages : (ns new : Inodes) (path : List ℕ) → with_folder ns path ≡ Ok new → AreChanged most ns → Since ns most new
  unfolding with_folder
  folder_ages ns new path is low =
      made_leaves (Since ns most) (λ parent. folder parent []) None ns (place_of ns path)
      (λ p at none. new_ages ns p.folder p.name (new_inode (folder p.folder []) None) (omega arith) low) new is

  pub file_ages : (ns new : Inodes) (path bytes : List ℕ) (program : Option ℕ) → with_file ns path bytes program ≡ Ok new → AreChanged most ns
      → Since ns most new
  unfolding with_file
  file_ages ns new path bytes program is low =
      made_leaves (Since ns most) (λ parent. file bytes) program ns (place_of ns path)
      (λ p at none. new_ages ns p.folder p.name (new_inode (file bytes) program) (omega arith) low) new is

  by_node : (dir : Bool) (ns : Inodes) (id : Option ℕ) (at : ℕ) (name : List ℕ) → AreChanged most ns
      → Leaves (Since ns most) (unnamed_at dir ns (Ok (record { id = id; folder = at; name = name })))
  by_node dir ns (Some id) at name low =
      let P : Inodes → Type 0 = Since ns most in
      let p : Place = record { id = Some id; folder = at; name = name } in
      either P (may_be_entry name) _ _
      (by_fault P _ (naming_fault dir (kind_of ns id) (size_of ns id)) (unnamed_ages ns p id low)) (refused P _)
  by_node dir ns None at name low =
      let P : Inodes → Type 0 = Since ns most in either P (may_be_entry name) _ _ (refused P _) (refused P _)

  by_place : (dir : Bool) (ns : Inodes) (r : Result Place Errno) → AreChanged most ns → Leaves (Since ns most) (unnamed_at dir ns r)
  by_place dir ns (Err errno) low = refused (Since ns most) errno
  by_place dir ns (Ok p) low = by_node dir ns p.id p.folder p.name low

  pub unlinked_ages : (ns new : Inodes) (path : List ℕ) (dir : Bool) → unlinked ns path dir ≡ Ok new → AreChanged most ns → Since ns most new
  unfolding unlinked
  unlinked_ages ns new path dir is low = by_place dir ns (place_of ns path) low new is

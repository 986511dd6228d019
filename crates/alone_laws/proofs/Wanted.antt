-- What an mmap2 asks for: a page at least, and of a file one that is there, as it is.
use Rattle.std.proofs.Common.{◌≡◌, ◌≢◌, ℕ, ◌+◌, ◌^◌, ◌<◌, Bool, true, false, not, ◌||◌, Option, Some, None, Ok, Err, refl, subst, arith}
use Rattle.std.specs.Prelude.{◌==◌, nat_lt, Result, if◌then◌else◌}
use Rattle.std.proofs.lemmas.Bool.{eq-eqb}
use Rattle.call_log.specs.declared.errno.Errno.{Errno}
use Rattle.call_log.specs.declared.errno.Errno.TheVariants.{Einval, Eoverflow}
use Rattle.call_log.specs.Flags.{has_flag}
use Rattle.mmap_rules.specs.declared.want.FileSide.{FileSide}
use Rattle.mmap_rules.specs.declared.want.FileSide.TheVariants as side
use Rattle.mmap_rules.specs.declared.want.Want.{Want}
use Rattle.mmap_rules.specs.declared.want.Want.TheVariants.{Anon, File}
use Rattle.mmap_rules.specs.Want.{pages_for, map_shared, map_private, map_fixed, map_anonymous, prot_write, of_side, shared_side, wanted_file, just_one, wanted}
use Rattle.mem_files.specs.Inodes.{Content, file, folder, Inode, Inodes, inode_at}
use Rattle.fd_tables.specs.declared.view.View.{View}
use Rattle.fd_tables.specs.declared.view.Target.{Target}
use Rattle.fd_tables.specs.declared.view.Target.TheVariants.{Console, Node, Pipe}
use Rattle.machine_world.specs.MapCalls.{side_of_content, side_of_node, side_of_target, side_of}

-- ---- pages, and the file to which the descriptor leads

abbrev Leads : (pages : ℕ) → FileSide → Result Want Errno → Type 0
Leads count s (Ok (File pages first write id change)) = (pages ≡ count) × (s ≡ side.File id change)
Leads count s (Ok (Anon pages)) = pages ≡ count
Leads count s (Err errno) = Unit {0}

module _ (count : ℕ) (s : FileSide) where
  leads_if : (b : Bool) (x y : Result Want Errno) → Leads count s x → Leads count s y → Leads count s (if b then x else y)
  leads_if true x y leads other = leads
  leads_if false x y other leads = leads

leads_side : (pages first : ℕ) (write : Bool) (s : FileSide) → Leads pages s (of_side pages first write s)
leads_side pages first write side.Closed = tt
leads_side pages first write side.NotFile = tt
leads_side pages first write side.NoRead = tt
leads_side pages first write (side.File id change) = (refl, refl)

leads_shared : (pages : ℕ) (s : FileSide) → Leads pages s (shared_side s)
leads_shared pages side.Closed = tt
leads_shared pages side.NotFile = tt
leads_shared pages side.NoRead = tt
leads_shared pages (side.File id change) = tt

leads_file : (pages prot flags first : ℕ) (s : FileSide) → Leads pages s (wanted_file pages prot flags first s)
leads_file pages prot flags first s =
    leads_if pages s (nat_lt (2 ^ 32) (first + pages)) (Err Eoverflow) _ tt
    (leads_if pages s (has_flag flags map_shared) (shared_side s) _ (leads_shared pages s) (leads_side pages first (has_flag prot prot_write) s))

leads : (addr len prot flags first : ℕ) (s : FileSide) → Leads (pages_for len) s (wanted addr len prot flags first s)
unfolding wanted
leads addr len prot flags first s =
    leads_if (pages_for len) s (len == 0) (Err Einval) _ tt
    (leads_if (pages_for len) s (has_flag flags map_fixed || not (addr == 0)) (Err Einval) _ tt
    (leads_if (pages_for len) s (not (just_one (has_flag flags map_shared) (has_flag flags map_private))) (Err Einval) _ tt
    (leads_if (pages_for len) s (has_flag flags map_anonymous) (Ok (Anon (pages_for len))) _ refl
    (leads_file (pages_for len) prot flags first s))))

some_asked : (addr len prot flags first : ℕ) (s : FileSide) (w : Want) → wanted addr len prot flags first s ≡ Ok w → len ≢ 0
unfolding wanted
some_asked addr len prot flags first s w is none = by (len == 0) _ (eq-eqb len 0 none) is
  where
    by : (b : Bool) (x : Result Want Errno) → b ≡ true → (if b then Err Einval else x) ≡ Ok w → ⊥
    by true x same is = cc
    by false x same is = cc

-- ---- a descriptor that leads to a file leads to one that is there

pub record IsThere (nodes : Inodes) (id change : ℕ) : Type 0 where
  pub node : Inode
  pub there : inode_at nodes id ≡ Some node
  pub count : node.change ≡ change

abbrev pub There : Inodes → FileSide → Type 0
There nodes (side.File id change) = IsThere nodes id change
There nodes side.Closed = Unit {0}
There nodes side.NotFile = Unit {0}
There nodes side.NoRead = Unit {0}

there_content : (nodes : Inodes) (id : ℕ) (n : Inode) (reads : Bool) → inode_at nodes id ≡ Some n → (c : Content) → There nodes (side_of_content id n.change reads c)
there_content nodes id n true is (file bytes) = record { node = n; there = is; count = refl }
there_content nodes id n false is (file bytes) = tt
there_content nodes id n reads is (folder parent entries) = tt

there_node : (nodes : Inodes) (id : ℕ) (reads : Bool) (o : Option Inode) → inode_at nodes id ≡ o → There nodes (side_of_node id reads o)
there_node nodes id reads (Some n) is = there_content nodes id n reads is n.content
there_node nodes id reads None is = tt

there_target : (nodes : Inodes) (reads : Bool) (t : Target) → There nodes (side_of_target nodes reads t)
there_target nodes reads Console = tt
there_target nodes reads (Pipe id write) = tt
there_target nodes reads (Node id) = there_node nodes id reads (inode_at nodes id) refl

pub there_side : (nodes : Inodes) (v : Option View) → There nodes (side_of nodes v)
there_side nodes (Some v) = there_target nodes v.way.read v.target
there_side nodes None = tt

-- ---- what is wanted

abbrev pub IsWanted : Inodes → Want → Type 0
IsWanted nodes (Anon pages) = 0 < pages
IsWanted nodes (File pages first write id change) = (0 < pages) × IsThere nodes id change

wanted_so : (nodes : Inodes) (count : ℕ) (s : FileSide) (w : Want) → 0 < count → There nodes s → Leads count s (Ok w) → IsWanted nodes w
wanted_so nodes count s (Anon pages) some there leads = omega (arith, some, leads)
wanted_so nodes count s (File pages first write id change) some there leads = (let same = leads.0 in omega (arith, some, same), subst (There nodes) leads.1 there)

pub is_wanted : (nodes : Inodes) (v : Option View) (addr len prot flags first : ℕ) (w : Want) → wanted addr len prot flags first (side_of nodes v) ≡ Ok w → IsWanted nodes w
is_wanted nodes v addr len prot flags first w is =
    let some = some_asked addr len prot flags first (side_of nodes v) w is in
    wanted_so nodes (pages_for len) (side_of nodes v) w (omega (arith, some)) (there_side nodes v)
    (subst (Leads (pages_for len) (side_of nodes v)) is (leads addr len prot flags first (side_of nodes v)))

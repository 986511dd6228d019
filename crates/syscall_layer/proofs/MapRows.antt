-- The rows of mmap2 and munmap, and the file that an mmap2 asks for.
use Rattle.std.proofs.Common.{◌≡◌, ℕ, ◌+◌, ◌^◌, Bool, true, false, not, ◌||◌, Option, Some, None, Ok, Err, refl, sym, ap, subst, ◌∙◌}
use Rattle.std.specs.Prelude.{◌==◌, nat_lt, slice_index, Result, IfOk, if◌then◌else◌}
use Rattle.call_log.specs.declared.errno.Errno.{Errno}
use Rattle.call_log.specs.declared.errno.Errno.TheVariants.{Einval, Eoverflow}
use Rattle.call_log.specs.Flags.{has_flag}
use Rattle.mmap_rules.specs.declared.want.FileSide.{FileSide}
use Rattle.mmap_rules.specs.declared.want.FileSide.TheVariants as side
use Rattle.mmap_rules.specs.declared.want.Want.{Want}
use Rattle.mmap_rules.specs.declared.want.Want.TheVariants.{Anon, File}
use Rattle.mmap_rules.specs.Want.{pages_for, map_shared, map_private, map_fixed, map_anonymous, prot_write, of_side, shared_side, wanted_file, just_one, wanted}
use Rattle.mmap_rules.specs.declared.mapping.Mapping.{Mapping}
use Rattle.mmap_rules.specs.Mappings.{Hit, hit}
use Rattle.mem_files.specs.Inodes.{Content, file, folder, Inode, Inodes, inode_at}
use Rattle.fd_tables.specs.declared.view.View.{View}
use Rattle.fd_tables.specs.declared.view.Target.{Target}
use Rattle.fd_tables.specs.declared.view.Target.TheVariants.{Console, Node, Pipe}
use Rattle.fd_tables.specs.Files.{OpenFiles, view}
use Rattle.machine_world.specs.Asks.{Ask, arg, with_ok}
use Rattle.machine_world.specs.Rows.{row}
use Rattle.machine_world.specs.Free.{free_runs_in}
use Rattle.machine_world.specs.MapCalls.{side_of_content, side_of_node, side_of_target, side_of, in_copy, in_free_run, or_own, maps, mapped, mmap2_row, unmaps, munmap_row}
use Rattle.file_calls.specs.declared.call.Call.{Call}
use Rattle.file_calls.specs.Calls.{MadeBy}
use Rattle.mmap_rules.specs.Copies.{IsKnown}
use Rattle.kept_parts.specs.MapsIn.{IsAsked}
use Rattle.kept_parts.proofs.Replies.QuietRows.{Quiet}

module _ (call : Call) (a : Ask) (made : MadeBy call a) where
  at_arg : (i : ℕ) → arg a i ≡ slice_index call.args i
  at_arg i = ap (λ xs. slice_index xs i) made.args

  pub row_munmap : call.number ≡ 215 → row a ≡ unmaps a (hit a.space.maps (slice_index call.args 0) (slice_index call.args 1))
  unfolding row munmap_row
  row_munmap is = rw (made.number, is, at_arg 0, at_arg 1) refl

  is_mmap2 : call.number ≡ 222 → row a ≡ with_ok a (wanted (arg a 0) (arg a 1) (arg a 2) (arg a 3) (arg a 5) (side_of a.rest.tree (view a.rest.files a.process.table (arg a 4)))) (mapped a)
  unfolding row mmap2_row
  is_mmap2 is = rw (made.number, is) refl

  -- by what the code finds that it asks for
  pub row_mmap2 : (nodes : Inodes) (files : OpenFiles) (found : Result Want Errno) → a.rest.tree ≡ nodes → a.rest.files ≡ files →
      found ≡ wanted (slice_index call.args 0) (slice_index call.args 1) (slice_index call.args 2) (slice_index call.args 3) (slice_index call.args 5) (side_of nodes (view files call.table (slice_index call.args 4))) →
      call.number ≡ 222 → row a ≡ with_ok a found (mapped a)
  row_mmap2 nodes files found tree_is files_are is number =
      is_mmap2 number
      ∙ (λ i. with_ok a (wanted (at_arg 0 i) (at_arg 1 i) (at_arg 2 i) (at_arg 3 i) (at_arg 5 i) (side_of (tree_is i) (view (files_are i) (made.table i) (at_arg 4 i)))) (mapped a))
      ∙ ap (λ (r : Result Want Errno). with_ok a r (mapped a)) (sym is)

-- ---- the file that is wanted

-- what is wanted of a file is wanted of the one that the descriptor leads to
abbrev Leads : FileSide → Result Want Errno → Type 0
Leads s (Ok (File pages first write id change)) = s ≡ side.File id change
Leads s (Ok (Anon pages)) = Unit {0}
Leads s (Err errno) = Unit {0}

leads_if : (s : FileSide) (b : Bool) (x y : Result Want Errno) → Leads s x → Leads s y → Leads s (if b then x else y)
leads_if s true x y leads other = leads
leads_if s false x y other leads = leads

leads_side : (pages first : ℕ) (write : Bool) (s : FileSide) → Leads s (of_side pages first write s)
leads_side pages first write side.Closed = tt
leads_side pages first write side.NotFile = tt
leads_side pages first write side.NoRead = tt
leads_side pages first write (side.File id change) = refl

leads_shared : (s : FileSide) → Leads s (shared_side s)
leads_shared side.Closed = tt
leads_shared side.NotFile = tt
leads_shared side.NoRead = tt
leads_shared (side.File id change) = tt

leads_file : (pages prot flags first : ℕ) (s : FileSide) → Leads s (wanted_file pages prot flags first s)
leads_file pages prot flags first s =
    leads_if s (nat_lt (2 ^ 32) (first + pages)) (Err Eoverflow) _ tt
    (leads_if s (has_flag flags map_shared) (shared_side s) _ (leads_shared s) (leads_side pages first (has_flag prot prot_write) s))

leads : (addr len prot flags first : ℕ) (s : FileSide) → Leads s (wanted addr len prot flags first s)
unfolding wanted
leads addr len prot flags first s =
    leads_if s (len == 0) (Err Einval) _ tt
    (leads_if s (has_flag flags map_fixed || not (addr == 0)) (Err Einval) _ tt
    (leads_if s (not (just_one (has_flag flags map_shared) (has_flag flags map_private))) (Err Einval) _ tt
    (leads_if s (has_flag flags map_anonymous) (Ok (Anon (pages_for len))) _ tt
    (leads_file (pages_for len) prot flags first s))))

-- a descriptor that leads to a file leads to one that is there
abbrev There : Inodes → FileSide → Type 0
There nodes (side.File id change) = (n : Inode) × (inode_at nodes id ≡ Some n) × (n.change ≡ change)
There nodes side.Closed = Unit {0}
There nodes side.NotFile = Unit {0}
There nodes side.NoRead = Unit {0}

there_content : (nodes : Inodes) (id : ℕ) (n : Inode) (reads : Bool) → inode_at nodes id ≡ Some n → (c : Content) → There nodes (side_of_content id n.change reads c)
there_content nodes id n true is (file bytes) = (n, is, refl)
there_content nodes id n false is (file bytes) = tt
there_content nodes id n reads is (folder parent entries) = tt

there_node : (nodes : Inodes) (id : ℕ) (reads : Bool) (o : Option Inode) → inode_at nodes id ≡ o → There nodes (side_of_node id reads o)
there_node nodes id reads (Some n) is = there_content nodes id n reads is n.content
there_node nodes id reads None is = tt

there_target : (nodes : Inodes) (reads : Bool) (t : Target) → There nodes (side_of_target nodes reads t)
there_target nodes reads Console = tt
there_target nodes reads (Pipe id write) = tt
there_target nodes reads (Node id) = there_node nodes id reads (inode_at nodes id) refl

there : (nodes : Inodes) (v : Option View) → There nodes (side_of nodes v)
there nodes (Some v) = there_target nodes v.way.read v.target
there nodes None = tt

known : (nodes : Inodes) (s : FileSide) (w : Want) → There nodes s → Leads s (Ok w) → IsKnown nodes w
known nodes s (Anon pages) has leads = tt
known nodes s (File pages first write id change) has leads = subst (There nodes) leads has

pub known_want : (nodes : Inodes) (v : Option View) (addr len prot flags first : ℕ) (w : Want) → Ok w ≡ wanted addr len prot flags first (side_of nodes v) → IsKnown nodes w
known_want nodes v addr len prot flags first w is =
    known nodes (side_of nodes v) w (there nodes v) (subst (Leads (side_of nodes v)) (sym is) (leads addr len prot flags first (side_of nodes v)))

pub known_found : (nodes : Inodes) (v : Option View) (addr len prot flags first : ℕ) (s : FileSide) → s ≡ side_of nodes v → (found : Result Want Errno) →
    found ≡ wanted addr len prot flags first s → IfOk found (IsKnown nodes)
known_found nodes v addr len prot flags first s side (Ok w) is = known_want nodes v addr len prot flags first w (is ∙ ap (wanted addr len prot flags first) side)
known_found nodes v addr len prot flags first s side (Err errno) is = tt

-- ---- it is what the call asks for

abbrev Asked : Call → Result Want Errno → Type 0
Asked call (Ok want) = IsAsked call want
Asked call (Err errno) = Unit {0}

module _ (call : Call) (number : call.number ≡ 222) where
  abbrev flags : ℕ
  flags = slice_index call.args 3

  abbrev pages : ℕ
  pages = pages_for (slice_index call.args 1)

  asked_if : (b : Bool) (x y : Result Want Errno) → Asked call x → Asked call y → Asked call (if b then x else y)
  asked_if true x y asked other = asked
  asked_if false x y other asked = asked

  asked_side : has_flag (slice_index call.args 3) map_anonymous ≡ false → (first : ℕ) (write : Bool) (s : FileSide) → Asked call (of_side pages first write s)
  asked_side none first write side.Closed = tt
  asked_side none first write side.NotFile = tt
  asked_side none first write side.NoRead = tt
  asked_side none first write (side.File id change) = (number, none, refl)

  asked_shared : (s : FileSide) → Asked call (shared_side s)
  asked_shared side.Closed = tt
  asked_shared side.NotFile = tt
  asked_shared side.NoRead = tt
  asked_shared (side.File id change) = tt

  asked_by_flag : (prot first : ℕ) (s : FileSide) (b : Bool) → has_flag (slice_index call.args 3) map_anonymous ≡ b → Asked call (if b then Ok (Anon pages) else wanted_file pages prot flags first s)
  asked_by_flag prot first s true is = is
  asked_by_flag prot first s false none =
      asked_if (nat_lt (2 ^ 32) (first + pages)) (Err Eoverflow) _ tt
      (asked_if (has_flag flags map_shared) (shared_side s) _ (asked_shared s) (asked_side none first (has_flag prot prot_write) s))

  asked : (addr prot first : ℕ) (s : FileSide) → Asked call (wanted addr (slice_index call.args 1) prot (slice_index call.args 3) first s)
  unfolding wanted
  asked addr prot first s =
      asked_if (slice_index call.args 1 == 0) (Err Einval) _ tt
      (asked_if (has_flag flags map_fixed || not (addr == 0)) (Err Einval) _ tt
      (asked_if (not (just_one (has_flag flags map_shared) (has_flag flags map_private))) (Err Einval) _ tt
      (asked_by_flag prot first s (has_flag flags map_anonymous) refl)))

  pub asked_want : (s : FileSide) (want : Want) →
      Ok want ≡ wanted (slice_index call.args 0) (slice_index call.args 1) (slice_index call.args 2) (slice_index call.args 3) (slice_index call.args 5) s → IsAsked call want
  asked_want s want is = subst (Asked call) (sym is) (asked (slice_index call.args 0) (slice_index call.args 2) (slice_index call.args 5) s)

-- ---- no bytes are given

pub quiet_mapped : (a : Ask) (want : Want) → Quiet (mapped a want)
quiet_mapped a want = at (or_own (in_copy a.spaces want) (in_free_run a.rest.kind (free_runs_in a.rest.pages a.spaces) want))
  where
    at : (o : Option Mapping) → Quiet (maps a want o)
    at (Some m) = refl
    at None = refl

quiet_ok : (a : Ask) (found : Result Want Errno) → Quiet (with_ok a found (mapped a))
quiet_ok a (Ok want) = quiet_mapped a want
quiet_ok a (Err errno) = refl

pub quiet_mmap2 : (call : Call) (a : Ask) → MadeBy call a → call.number ≡ 222 → Quiet (row a)
quiet_mmap2 call a made is =
    subst Quiet (sym (is_mmap2 call a made is)) (quiet_ok a (wanted (arg a 0) (arg a 1) (arg a 2) (arg a 3) (arg a 5) (side_of a.rest.tree (view a.rest.files a.process.table (arg a 4)))))

pub quiet_unmaps : (a : Ask) (o : Option Hit) → Quiet (unmaps a o)
quiet_unmaps a (Some h) = refl
quiet_unmaps a None = refl

pub quiet_munmap : (call : Call) (a : Ask) → MadeBy call a → call.number ≡ 215 → Quiet (row a)
quiet_munmap call a made is = subst Quiet (sym (row_munmap call a made is)) (quiet_unmaps a (hit a.space.maps (slice_index call.args 0) (slice_index call.args 1)))

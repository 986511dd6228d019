-- Each process stays younger than its parent, and each break and each copy in memory.
use Rattle.std.proofs.Common.{◌≡◌, ℕ, ◌+◌, ◌*◌, ◌<◌, ◌≤◌, inl, inr, Bool, true, false, List, [], ◌∷◌, ◌++◌, map, take, drop, Option, Some, None, Result, Ok, Err, refl, sym, subst, ◌∙◌, arith}
use Rattle.std.specs.Prelude.{◌==◌, ◌&&◌, nat_le, if◌then◌else◌}
use Rattle.std.specs.List.{AllByRecursion}
use Rattle.std.proofs.lemmas.Bool.{and_parts, false≢true}
use Rattle.byte_words.specs.ByteMap.{Bytes}
use Rattle.rv32im_step.specs.declared.regs.Regs.{Regs}
use Rattle.rv32im_step.specs.Meaning.{Meaning, next, call, trap, refused, meaning}
use Rattle.call_log.specs.Notes.{weight_of}
use Rattle.call_log.specs.Sent.{Span, sent}
use Rattle.mmap_rules.specs.Space.{Space, writable_in}
use Rattle.nommu_regions.specs.declared.region.Source.{Source}
use Rattle.nommu_regions.specs.declared.region.Source.TheVariants.{Own, Copy}
use Rattle.mmap_rules.specs.declared.mapping.Mapping.{Mapping}
use Rattle.mmap_rules.specs.Mappings.{part_of, Hit, hit, without_hit}
use Rattle.mmap_rules.specs.Want.{pages_for}
use Rattle.mmap_rules.proofs.Parts.{run_of}
use Rattle.call_log.specs.declared.errno.Errno.TheVariants.{Enomem}
use Rattle.flat_loader.specs.Original.{Original, block_pages}
use Rattle.flat_loader.specs.Begin.{Loading, begin_space}
use Rattle.vfork_exec.specs.declared.family.State.{State}
use Rattle.vfork_exec.specs.Keyed.{find, change, without}
use Rattle.vfork_exec.proofs.Keyed.{find_key, find_below}
use Rattle.machine_world.specs.World.{Process, LiveSpace, World, pid_of, id_of}
use Rattle.machine_world.specs.Families.{borrows, spaces_left, let_go, left_by, all_left_by, roused_by, all_roused}
use Rattle.machine_world.specs.Free.{free}
use Rattle.machine_world.specs.Found.{address_of, taken}
use Rattle.machine_world.specs.Asks.{Ask, arg, Reply, Row, replies, waits, gives, refuses}
use Rattle.machine_world.specs.Rows.{row, yield_row, brk_row}
use Rattle.machine_world.specs.Recordings.{room_in}
use Rattle.machine_world.specs.Event.{Trace, Outcome, went, strays, full, idle, number_of, args_of, put_got, ask_of, ended, room_for, stepped, trapped, served, put, waited, answered, exited, forked, executed, classed, asked, answer, settled, effect, in_space, by_process, at_process, event}
use Rattle.machine_world.proofs.ByEvents.{Went}
use Rattle.alone_laws.proofs.SoundBegins.{pages_free}
use Rattle.alone_laws.proofs.Unmaps.{IsHit, is_hit}
use Rattle.refusal_laws.specs.Regular.{memory_end, IsYounger}
use Rattle.refusal_laws.specs.Bounded.{IsPlaced, IsWithin, IsBounded}
use Rattle.refusal_laws.proofs.EachRow.{EachRow, each_row}
use Rattle.refusal_laws.proofs.EachCall.{EachCall, each_call}
use Rattle.refusal_laws.proofs.Small.{brk_fits, few_free, map_fits}
use Rattle.refusal_laws.proofs.Lists.{each_map, each_append, each_take, each_drop, each_there, each_found, each_change, each_without}

pub record AreBounded (w : World) : Type 0 where
  pub parents : AllByRecursion IsYounger w.procs
  pub spaces : AllByRecursion IsWithin w.spaces

-- a break that doesn't lie behind memory, and copies that lie in it
pub record InMemory (s : Space) : Type 0 where
  pub brk : s.brk ≤ memory_end
  pub high : s.brk_high ≤ memory_end
  pub copies : AllByRecursion (λ m. IsPlaced m m.source) s.maps

-- of a live space
pub within : (s : LiveSpace) → InMemory s.space → IsWithin s
within s is = record { break = record { brk = is.brk; high = is.high }; copies = is.copies }

-- a block holds the header and the image
whole : (o : Original) → 64 + o.size ≤ 4096 * block_pages o
unfolding block_pages
whole o = omega arith

-- that of a block in a free run
pub break_begins : (w : World) → w.rest.pages ≤ 16384 → (page : ℕ) (l : Loading) → l.block ≡ address_of page → taken w (block_pages l.original) (free w) ≡ Some page → InMemory (begin_space l)
unfolding begin_space
break_begins w most page l is chosen =
    let inside = (pages_free w page l chosen).inside in
    let long = whole l.original in
    record { brk = omega (arith, is, inside, long, most); high = omega (arith, is, inside, most); copies = (tt, tt) }

-- ---- munmap

-- what is left of a mapping that isn't a copy is none
parts_placed : (m : Mapping) → IsPlaced m m.source → m.range.anonymous ≡ true → (from to : ℕ) → AllByRecursion (λ n. IsPlaced n n.source) (part_of m from to)
parts_placed m placed anonymous from to = by (from == to)
  where
    its : (source : Source) → IsPlaced m source → IsPlaced (run_of m from to) source
    its Own old = tt
    its (Copy file change first) old = absurd (false≢true (sym old.1 ∙ anonymous))

    by : (b : Bool) → AllByRecursion (λ n. IsPlaced n n.source) (if b then [] else run_of m from to ∷ [])
    by true = tt
    by false = (its m.source placed, tt)

unmapped_placed : (maps : List Mapping) (addr len : ℕ) (h : Hit) → AllByRecursion (λ m. IsPlaced m m.source) maps → hit maps addr len ≡ Some h
    → AllByRecursion (λ m. IsPlaced m m.source) (without_hit maps h)
unfolding without_hit
unmapped_placed maps addr len h placed found =
    each_append (λ m. IsPlaced m m.source) (take h.at maps ++ h.left) (drop (h.at + 1) maps)
    (each_append (λ m. IsPlaced m m.source) (take h.at maps) h.left (each_take (λ m. IsPlaced m m.source) h.at maps placed) (by (4096 * pages_for len) (is_hit maps addr len h found).is))
    (each_drop (λ m. IsPlaced m m.source) (h.at + 1) maps placed)
  where
    by : (size : ℕ) (is : IsHit maps addr size h) → AllByRecursion (λ m. IsPlaced m m.source) h.left
    by size is = elim is.leaves [
      | inl goes ↦ subst (AllByRecursion (λ m. IsPlaced m m.source)) (sym goes.1) tt
      | inr cut ↦ (
          let m : Mapping = h.mapping in
          let old : IsPlaced m m.source = each_there (λ n. IsPlaced n n.source) maps placed h.at m is.there in
          let first = and_parts (m.range.anonymous && nat_le m.range.from addr) (nat_le (addr + size) (m.range.from + m.range.size)) cut.0 in
          let anonymous = (and_parts m.range.anonymous (nat_le m.range.from addr) first.0).0 in
          subst (AllByRecursion (λ n. IsPlaced n n.source)) (sym cut.1)
          (each_append (λ n. IsPlaced n n.source) (part_of m m.range.from addr) (part_of m (addr + size) (m.range.from + m.range.size))
          (parts_placed m old anonymous m.range.from addr) (parts_placed m old anonymous (addr + size) (m.range.from + m.range.size))))
    ]

-- ---- processes

pub parents_roused : (pipes : List ℕ) (procs : List Process) → AllByRecursion IsYounger procs → AllByRecursion IsYounger (all_roused pipes procs)
unfolding all_roused
parents_roused [] procs h = h
parents_roused (pipe ∷ pipes) procs h = parents_roused pipes (map (roused_by pipe) procs) (each_map IsYounger (roused_by pipe) (λ q younger. younger) procs h)

parents_left : (p : Process) (procs : List Process) → AllByRecursion IsYounger procs → AllByRecursion IsYounger (all_left_by p procs)
unfolding all_left_by
parents_left p procs h = each_map IsYounger (left_by p) still (without pid_of p.pid procs) (each_without IsYounger pid_of p.pid procs h)
  where
    by : (b : Bool) (pid parent : ℕ) → parent < pid → (if b then 0 else parent) < pid
    by true pid parent less = omega (arith, less)
    by false pid parent less = less

    still : (q : Process) → IsYounger q → IsYounger (left_by p q)
    still q younger = by (q.parent == p.pid) q.pid q.parent younger

within_left : (p : Process) (procs : List Process) (spaces : List LiveSpace) → AllByRecursion IsWithin spaces → AllByRecursion IsWithin (spaces_left p procs spaces)
unfolding spaces_left
within_left p procs spaces h = by (borrows p procs)
  where
    by : (b : Bool) → AllByRecursion IsWithin (if b then spaces else without id_of p.space spaces)
    by true = h
    by false = each_without IsWithin id_of p.space spaces h

-- ---- an event

abbrev pub Keeps : Outcome → Type 0
Keeps o = Went (λ now t. AreBounded now) o

keeps_if : (b : Bool) (now : World) (t : Trace) → AreBounded now → Keeps (if b then went now t else full)
keeps_if true now t h = h
keeps_if false now t h = tt

keeps_settled : (o : Outcome) → Keeps o → Keeps (settled o)
unfolding settled
keeps_settled (went now t) h = record { parents = parents_roused now.rest.files.changed now.procs h.parents; spaces = h.spaces }
keeps_settled (strays access) h = tt
keeps_settled full h = tt
keeps_settled idle h = tt

module _ (w : World) (h : AreBounded w) (p : Process) where
  -- registers and a space
  same_parents : (regs : Regs) → AllByRecursion IsYounger (change pid_of p.pid (λ q. record q { regs = regs }) w.procs)
  same_parents regs = each_change IsYounger pid_of p.pid (λ q. record q { regs = regs }) (λ q younger. younger) w.procs h.parents

  new_space : (s : Space) → InMemory s → AllByRecursion IsWithin (change id_of p.space (λ l. record l { space = s }) w.spaces)
  new_space s is = each_change IsWithin id_of p.space (λ l. record l { space = s }) (λ l old. within (record l { space = s }) is) w.spaces h.spaces

  pub keeps_stepped : (s : Space) (regs : Regs) (bytes : Bytes) → InMemory s → Keeps (stepped w p s regs bytes)
  unfolding stepped
  keeps_stepped s regs bytes is = record { parents = same_parents regs; spaces = new_space (record s { bytes = bytes }) (record { brk = is.brk; high = is.high; copies = is.copies }) }

  pub keeps_trapped : (signal : ℕ) → Keeps (trapped w p signal)
  unfolding trapped ended
  keeps_trapped signal = record { parents = parents_left p w.procs h.parents; spaces = within_left p w.procs w.spaces h.spaces }

  pub keeps_waited : (state : State) → Keeps (waited w p state)
  unfolding waited
  keeps_waited state = record { parents = each_change IsYounger pid_of p.pid (λ q. record q { state = state }) (λ q younger. younger) w.procs h.parents; spaces = h.spaces }

-- a reply that leaves a space in memory
abbrev pub LeavesInMemory : Row → Type 0
LeavesInMemory (replies r) = InMemory r.space
LeavesInMemory (waits state) = Unit {0}

module _ (w : World) (h : AreBounded w) (a : Ask) where
  pub keeps_served : (r : Reply) (m : Bytes) → InMemory r.space → Keeps (served w a r m)
  unfolding served
  keeps_served r m is =
      keeps_if (room_for w a r) _ _
      (record { parents = same_parents w h a.process _; spaces = new_space w h a.process (record r.space { bytes = m }) (record { brk = is.brk; high = is.high; copies = is.copies }) })

  keeps_put : (r : Reply) → InMemory r.space → (o : Result Bytes Span) → Keeps (put w a r o)
  keeps_put r is (Ok m) = keeps_served r m is
  keeps_put r is (Err span) = tt

  keeps_row : (x : Row) → LeavesInMemory x → Keeps (answered w a x)
  keeps_row (replies r) is = keeps_put r is (put_got r.space.bytes (writable_in r.space.maps) r.got)
  keeps_row (waits state) is = keeps_waited w h a.process state

module _ (w : World) (r : IsBounded w) (pid : ℕ) (p : Process) (lives : find pid_of pid w.procs ≡ Some p) (s : LiveSpace) (has : find id_of p.space w.spaces ≡ Some s) where
  abbrev its : AreBounded w
  its = record { parents = r.parents; spaces = r.spaces }

  pub own : InMemory s.space
  own = let is = each_found IsWithin id_of p.space w.spaces s r.spaces has in record { brk = is.break.brk; high = is.break.high; copies = is.copies }

  module _ (bytes : List ℕ) where
    abbrev a : Ask
    a = ask_of w p s.space bytes

    rows : EachRow LeavesInMemory a
    unfolding yield_row brk_row
    rows = record {
      refused = λ e other. own;
      waiting = λ state. tt;
      small = λ value got rest low. own;
      pid = own;
      parent = own;
      yielded = own;
      brk = record { brk = brk_fits s.space (arg a 0) own.brk own.high; high = own.high; copies = own.copies };
      unmap = λ h is. record { brk = own.brk; high = own.high; copies = unmapped_placed s.space.maps (arg a 0) (arg a 1) h own.copies is };
      map = λ want m asks is. record {
        brk = own.brk;
        high = own.high;
        copies = each_append (λ n. IsPlaced n n.source) s.space.maps (m ∷ []) own.copies ((map_fits w r p s bytes want m asks is).1, tt);
      };
      no_run = λ number lacks. own;
    }

    pub row_in_memory : LeavesInMemory (row a)
    row_in_memory = each_row LeavesInMemory a rows (few_free w r pid p lives s bytes)

    child_younger : p.pid < w.next_pid
    child_younger =
        let below = find_below pid_of pid w.next_pid w.procs p r.pids lives in
        let same = find_key pid_of pid w.procs p lives in
        omega (arith, below, same)

    calls : EachCall Keeps w a
    unfolding exited forked executed ended
    calls = record {
      row = keeps_row w its a (row a) row_in_memory;
      refused = λ e other. keeps_row w its a (refuses a e) own;
      exit = keeps_if (room_in w (weight_of bytes [])) _ _ (record { parents = parents_left p w.procs r.parents; spaces = within_left p w.procs w.spaces r.spaces });
      told = λ ended got. keeps_row (record w { ended = ended }) (record { parents = r.parents; spaces = r.spaces }) a (gives a 0 got w.rest) own;
      waiting = λ state. keeps_waited w its p state;
      fork = keeps_if (room_in w (weight_of bytes [])) _ _ (record {
        parents = (child_younger, each_change IsYounger pid_of p.pid _ (λ q younger. younger) w.procs r.parents);
        spaces = r.spaces;
      });
      load = λ index page l is chosen. keeps_if (room_in w (weight_of bytes [])) _ _ (record {
        parents = each_change IsYounger pid_of p.pid _ (λ q younger. younger) (map (let_go p.pid) w.procs) (each_map IsYounger (let_go p.pid) (λ q younger. younger) w.procs r.parents);
        spaces = (within (record { id = w.loads; space = begin_space l }) (break_begins w r.most page l is chosen), within_left p w.procs w.spaces r.spaces);
      });
      no_run = λ number lacks. keeps_row w its a (refuses a Enomem) own;
    }

    pub keeps_classed : Keeps (classed w a)
    keeps_classed = each_call Keeps w a calls

  keeps_asked : (o : Result (List ℕ) Span) → Keeps (asked w p s.space o)
  keeps_asked (Ok bytes) = keeps_classed bytes
  keeps_asked (Err span) = tt

  keeps_effect : (m : Meaning) → Keeps (effect w p s.space m)
  unfolding answer
  keeps_effect (next regs bytes) = keeps_stepped w its p s.space regs bytes own
  keeps_effect (trap signal) = keeps_settled (trapped w p signal) (keeps_trapped w its p signal)
  keeps_effect (refused access) = tt
  keeps_effect call = keeps_settled (answer w p s.space) (keeps_asked (sent (number_of p.regs) (args_of p.regs) s.space.bytes))

module _ (w : World) (r : IsBounded w) (pid : ℕ) where
  keeps_space : (p : Process) → find pid_of pid w.procs ≡ Some p → (o : Option LiveSpace) → find id_of p.space w.spaces ≡ o
      → Keeps (in_space (λ q s. effect w q s (meaning q.regs s.bytes (writable_in s.maps))) p o)
  keeps_space p lives None has = tt
  keeps_space p lives (Some s) has = keeps_effect w r pid p lives s has (meaning p.regs s.space.bytes (writable_in s.space.maps))

  keeps_found : (o : Option Process) → find pid_of pid w.procs ≡ o → Keeps (by_process w.spaces (λ q s. effect w q s (meaning q.regs s.bytes (writable_in s.maps))) o)
  keeps_found None lives = tt
  keeps_found (Some p) lives = keeps_space p lives (find id_of p.space w.spaces) refl

  pub keeps_event : Keeps (event w pid)
  unfolding event at_process
  keeps_event = keeps_found (find pid_of pid w.procs) refl

pub bounds_kept : (w : World) (r : IsBounded w) (pid : ℕ) (now : World) (t : Trace) → event w pid ≡ went now t → AreBounded now
bounds_kept w r pid now t is = subst Keeps is (keeps_event w r pid)

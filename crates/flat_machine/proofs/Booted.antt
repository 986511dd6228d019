-- The start lines one after the other.
use Rattle.std.proofs.Common.{◌≡◌, ℕ, suc, ◌+◌, ◌<◌, ◌≤◌, Bool, true, false, List, [], ◌∷◌, length, drop, get_or, drop-cons, Option, Some, None, Result, Ok, Err, refl, sym, ap, subst, ◌∙◌, arith}
use Rattle.std.specs.Prelude.{⊤}
use Rattle.std.specs.Result.{IsErr, IsErrAnd}
use Rattle.std.proofs.lemmas.List.{length-replicate, length-map, drop_all}
use Rattle.flat_loader.specs.Original.{block_pages}
use Rattle.flat_loader.specs.Frame.{frame_fits}
use Rattle.mem_files.specs.Inodes.{Inodes}
use Rattle.fd_tables.specs.Files.{OpenFiles}
use Rattle.vfork_exec.specs.Procs.{count}
use Rattle.machine_world.specs.World.{World, Rest}
use Rattle.machine_world.specs.Free.{free}
use Rattle.machine_world.specs.Boot.{StartLine, BootFault, bad_start, args_too_big, no_run, Found, found, start_path, taken, address_of, begun, placed, fitting, located, started, then_started, all_started, empty_world, boot}
use Rattle.machine_world.specs.Programs.{LoadsPrograms}
use Rattle.machine_world.proofs.Loads.{boot_loads_programs}
use Rattle.machine_world.proofs.Marks.{boots_leave_no_mark}
use Rattle.memory_world.specs.Physical.{has_stray}
use Rattle.bflt_format.specs.Values.{Values}
use Rattle.region_watch.specs.declared.mode.Mode.{Mode}
use Rattle.kept_parts.specs.Awake.{with_wakes, awake_in}
use Rattle.kept_parts.specs.Kept.{Kept, nothing_yet}
use Rattle.syscall_layer.specs.Parts.{RunParts}
use Rattle.kept_parts.specs.Reach.{is_whole, reach_of}
use Rattle.kept_parts.specs.Stands.{About, process_of, live_spaces, world_of}
use Rattle.flat_machine.specs.declared.boot.BootRefusal.{BootRefusal}
use Rattle.flat_machine.specs.declared.boot.BootRefusal.TheVariants as refusal
use Rattle.flat_machine.specs.State.{State, line_of, lines_of, world}
use Rattle.manifest_text.specs.declared.manifest.Start.{Start as StartItem}
use Rattle.flat_machine.specs.Boots.{IsFault, Boots, Begins}

-- ---- one start line

-- one process, one load note and one pid more, as many pages, and no stray access noted
pub record OneMore (w now : World) : Type 0 where
  pub pages : now.rest.pages ≡ w.rest.pages
  pub quiet : has_stray now.notes ≡ has_stray w.notes
  pub pids : now.next_pid ≡ w.next_pid + 1
  pub loads : now.loads ≡ w.loads + 1
  pub procs : length now.procs + length now.ended ≡ length w.procs + length w.ended + 1

abbrev booted : World → Result World BootFault
booted w = Ok w

same_world : (x y : World) → booted x ≡ booted y → x ≡ y
same_world x y h = cc

module _ (w now : World) (s : StartLine) where
  more_placed : (f : Found) (o : Option ℕ) → placed w s f o ≡ Ok now → OneMore w now
  more_placed f None is = absurd cc
  more_placed f (Some page) is =
      let new : World = begun w f.index (record { original = f.original; block = address_of page; args = s.args; env = [] }) in
      subst (OneMore w) (same_world new now is) (record { pages = refl; quiet = refl; pids = refl; loads = refl; procs = let one : suc (length w.procs) + length w.ended ≡ length w.procs + length w.ended + 1 = omega arith in one })

  more_fitting : (f : Found) (fits : Bool) → fitting w s f fits ≡ Ok now → OneMore w now
  more_fitting f true is = more_placed f (taken w (block_pages f.original) (free w)) is
  more_fitting f false is = absurd cc

  more_located : (o : Option Found) → located w s o ≡ Ok now → OneMore w now
  more_located None is = absurd cc
  more_located (Some f) is = more_fitting f (frame_fits f.original s.args []) is

  one_more : started w s ≡ Ok now → OneMore w now
  unfolding started
  one_more is = more_located (found w.rest (start_path s)) is

module _ (a : About) (old new : Kept) (s : StartLine) where
  begun_as : (r : Result World BootFault) (done : ⊤) → Begins a r new (Ok done) → r ≡ Ok (world_of a new)
  begun_as (Ok now) done x = ap (λ (w : World). Ok w) x
  begun_as (Err fault) done x = absurd x

  module _ (done : ⊤) (x : Begins a (started (world_of a old) s) new (Ok done)) where
    -- how many there are
    counts : OneMore (world_of a old) (world_of a new)
    counts = one_more (world_of a old) (world_of a new) s (begun_as (started (world_of a old) s) done x)

    pub more_pids : new.procs.next_pid ≡ old.procs.next_pid + 1
    unfolding world_of
    more_pids = counts.pids

    pub more_spaces : length new.spaces ≡ length old.spaces + 1
    unfolding world_of
    more_spaces = counts.loads

    pub more_processes : count new.procs ≡ count old.procs + 1
    unfolding world_of
    more_processes = let c = counts.procs in omega (arith, c, length-map new.procs.entries process_of, length-map old.procs.entries process_of)

    pub more_pages : length new.regions ≡ length old.regions
    unfolding world_of
    more_pages = counts.pages

    pub more_quiet : has_stray new.notes ≡ has_stray old.notes
    unfolding world_of
    more_quiet = counts.quiet

    lines_on : (more : List StartLine) → all_started (world_of a old) (s ∷ more) ≡ all_started (world_of a new) more
    unfolding all_started
    lines_on more = ap (λ (r : Result World BootFault). then_started r (λ now. all_started now more)) (begun_as (started (world_of a old) s) done x)

-- ---- a start line that fails

memory_fault : (f : BootFault) → IsFault f refusal.Memory
memory_fault (bad_start line) = tt
memory_fault (args_too_big line) = tt
memory_fault (no_run line) = tt

pub memory_boots : (r : Result World BootFault) → Boots r (Err refusal.Memory)
memory_boots (Ok w) = tt
memory_boots (Err fault) = memory_fault fault

fails_with : (a : About) (new : Kept) (r : Result World BootFault) (more : World → Result World BootFault) (e : BootRefusal) → Begins a r new (Err e) → Boots (then_started r more) (Err e)
fails_with a new (Ok now) more refusal.Memory x = memory_boots (more now)
fails_with a new (Ok now) more (refusal.BadStart line) x = absurd x
fails_with a new (Ok now) more (refusal.E2big line) x = absurd x
fails_with a new (Ok now) more (refusal.NoRun line) x = absurd x
fails_with a new (Err fault) more e x = x

lines_fail : (a : About) (old new : Kept) (s : StartLine) (more : List StartLine) (all : Result World BootFault) (e : BootRefusal) → Begins a (started (world_of a old) s) new (Err e)
    → all_started (world_of a old) (s ∷ more) ≡ all → Boots all (Err e)
unfolding all_started
lines_fail a old new s more all e x left =
    subst (λ (r : Result World BootFault). Boots r (Err e)) left (fails_with a new (started (world_of a old) s) (λ now. all_started now more) e x)

-- ---- none and all

-- before the first
first_world : (a : About) (pages : ℕ) (tree : Inodes) (files : OpenFiles) (keep : ℕ) → a.events ≡ 0
    → world_of a (nothing_yet pages tree files keep) ≡ empty_world (record { pages = pages; kind = a.kind; programs = a.programs; tree = tree; files = files; console = []; keep = keep })
unfolding world_of live_spaces
first_world a pages tree files keep none =
    let pages_are : length (nothing_yet pages tree files keep).regions ≡ pages = length-replicate pages _ in
    rw (pages_are, none) refl

-- behind the last
all_done : (w : World) (all : Result World BootFault) → all_started w [] ≡ all → Ok w ≡ all
unfolding all_started
all_done w all is = is

pub machine_boots : (w : World) (s : State) (all : Result World BootFault) → Ok w ≡ all → world s ≡ w → Boots all (Ok s)
machine_boots w s all is same = subst (λ (r : Result World BootFault). Boots r (Ok s)) is same

pub machine_loads : (rest : Rest) (starts : List StartLine) (a : About) (k : Kept) → Ok (world_of a k) ≡ boot rest starts → LoadsPrograms (length rest.programs) (world_of a k)
machine_loads rest starts a k is = boot_loads_programs rest starts (world_of a k) (sym is)

-- over files of which no pipe is marked none is marked then
unmarked_boot : (rest : Rest) (starts : List StartLine) (a : About) (k : Kept) → rest.files.changed ≡ [] → boot rest starts ≡ Ok (world_of a k) → k.files.changed ≡ []
unfolding world_of
unmarked_boot rest starts a k none is = boots_leave_no_mark rest starts (world_of a k) none is

-- where none is marked nobody goes on
not_awake : (k : Kept) → k.files.changed ≡ [] → awake_in k ≡ k
unfolding with_wakes
not_awake k none =
    ap (λ (marks : List ℕ). record k { procs = with_wakes marks k.procs; files = record k.files { changed = [] } }) none
    ∙ ap (λ (marks : List ℕ). record k { files = record k.files { changed = marks } }) (sym none)

-- so the parts of a run that boots have what the start lines left
pub parts_boot : (rest : Rest) (starts : List StartLine) (a : About) (k : Kept) → rest.files.changed ≡ [] → boot rest starts ≡ Ok (world_of a k) → (parts : RunParts) (programs : List Values) (mode : Mode)
    → parts ≡ record { kept = awake_in k; programs = programs; mode = mode; noted = has_stray k.notes } → parts ≡ record { kept = k; programs = programs; mode = mode; noted = has_stray k.notes }
parts_boot rest starts a k none is parts programs mode are =
    are ∙ ap (λ (x : Kept). record { kept = x; programs = programs; mode = mode; noted = has_stray k.notes }) (not_awake k (unmarked_boot rest starts a k none is))

-- behind a noted stray access, and only there, all of memory is reached
pub whole_reached : (noted : Bool) → noted ≡ is_whole (reach_of noted)
whole_reached false = refl
whole_reached true = refl

boot_is : (rest : Rest) (starts : List StartLine) → all_started (empty_world rest) starts ≡ boot rest starts
unfolding boot
boot_is rest starts = refl

-- from the parts before the first program
pub boots_from : (a : About) (pages : ℕ) (tree : Inodes) (files : OpenFiles) (keep : ℕ) (rest : Rest) (k : Kept) (starts : List StartLine) → k ≡ nothing_yet pages tree files keep
    → record { pages = pages; kind = a.kind; programs = a.programs; tree = tree; files = files; console = []; keep = keep } ≡ rest → a.events ≡ 0 → all_started (world_of a k) starts ≡ boot rest starts
boots_from a pages tree files keep rest k starts is same none =
    ap (λ (x : Kept). all_started (world_of a x) starts) is ∙ ap (λ (w : World). all_started w starts) (first_world a pages tree files keep none)
    ∙ ap (λ (r : Rest). all_started (empty_world r) starts) same ∙ boot_is rest starts

-- ---- as the code has them

module _ (starts : List StartItem) (i : ℕ) (x : StartItem) (less : i < length starts) (at : x ≡ get_or starts i x) where
  next_line : lines_of (drop i starts) ≡ line_of x ∷ lines_of (drop (i + 1) starts)
  next_line =
      let one : suc i ≡ i + 1 = omega arith in
      ap lines_of (drop-cons starts i x less ∙ ap (λ (n : ℕ). get_or starts i x ∷ drop n starts) one) ∙ ap (λ (y : StartItem). line_of y ∷ lines_of (drop (i + 1) starts)) (sym at)

  module _ (a : About) (old new : Kept) (all : Result World BootFault) (left : all_started (world_of a old) (lines_of (drop i starts)) ≡ all) where
    pub left_on : (done : ⊤) → Begins a (started (world_of a old) (line_of x)) new (Ok done) → all_started (world_of a new) (lines_of (drop (i + 1) starts)) ≡ all
    left_on done b = sym (lines_on a old new (line_of x) done b (lines_of (drop (i + 1) starts))) ∙ ap (all_started (world_of a old)) (sym next_line) ∙ left

    pub left_fails : (e : BootRefusal) → Begins a (started (world_of a old) (line_of x)) new (Err e) → Boots all (Err e)
    left_fails e b = lines_fail a old new (line_of x) (lines_of (drop (i + 1) starts)) all e b (ap (all_started (world_of a old)) (sym next_line) ∙ left)

-- behind the last start line
pub left_none : (starts : List StartItem) (i : ℕ) (w : World) (all : Result World BootFault) → length starts ≤ i → all_started w (lines_of (drop i starts)) ≡ all → Ok w ≡ all
left_none starts i w all past left = all_done w all (ap (λ (rest : List StartItem). all_started w (lines_of rest)) (sym (drop_all i starts past)) ∙ left)

pub fails_as : (all : Result World BootFault) (r : Result State BootRefusal) (e : BootRefusal) → IsErr r → IsErrAnd r (λ x. x ≡ e) → Boots all (Err e) → Boots all r
fails_as all (Ok s) e is same x = absurd cc
fails_as all (Err f) e is same x = subst (λ (y : BootRefusal). Boots all (Err y)) (sym same) x

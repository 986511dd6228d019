-- A turn in the one memory, by its events.
use Rattle.std.proofs.Common.{◌≡◌, ◌≢◌, ℕ, ◌+◌, ◌<◌, Bool, true, false, List, [], Some, None, Ok, Err, refl, sym, ap, subst, ◌∙◌}
use Rattle.std.specs.Prelude.{if◌then◌else◌}
use Rattle.std.specs.declared.alloc.AllocError.{AllocError}
use Rattle.std.proofs.lemmas.Bool.{false≢true}
use Rattle.byte_words.specs.ByteMap.{Bytes}
use Rattle.rv32im_step.specs.declared.regs.Regs.{Regs}
use Rattle.rv32im_step.specs.declared.stop.Stop.{Stop}
use Rattle.rv32im_step.specs.declared.stop.Stop.TheVariants.{Next, Call, Trap, Refused}
use Rattle.rv32im_step.specs.Meaning.{Meaning, next, meaning}
use Rattle.page_runs.specs.declared.place.Kind.{Kind}
use Rattle.bflt_format.specs.Values.{Values}
use Rattle.mmap_rules.specs.Space.{Space, writable_in}
use Rattle.machine_world.specs.World.{World, Process}
use Rattle.machine_world.specs.Event.{Outcome, went, strays, full, idle, event}
use Rattle.machine_world.specs.Turns.{log_full}
use Rattle.machine_world.specs.Courses.{EndsAs, StandsAt}
use Rattle.memory_world.specs.Physical.{Physical, has_stray, next_meaning, turn_in, remains_at_in}
use Rattle.memory_world.specs.Courses.{LeadsIn, StandsIn}
use Rattle.memory_world.proofs.TurnsIn.{leads_in_none, leads_in_on, turn_in_over, turn_in_full, turn_in_used, turn_in_from}
use Rattle.region_watch.specs.declared.mode.Mode.{Mode}
use Rattle.region_watch.specs.declared.mode.Mode.TheVariants.{Halt, GoOn}
use Rattle.kept_parts.specs.Reach.{reach_of}
use Rattle.kept_parts.specs.Flats.{AreFlats}
use Rattle.kept_parts.specs.Kept.{Kept}
use Rattle.kept_parts.specs.Stands.{About, later, world_of}
use Rattle.kept_parts.specs.InMemory.{headers_of, physical_of}
use Rattle.flat_machine.specs.declared.run.End.TheVariants as told
use Rattle.flat_machine.specs.declared.turn.After.TheVariants as after
use Rattle.flat_machine.specs.State.{is_whole}
use Rattle.flat_machine.specs.Leaves.{Carried}
use Rattle.flat_machine.specs.LeavesIn.{EventIn, StandsWithin, HaltsWithin, TurnEndsIn, step_within, StandsStillIn, TurnLeavesIn}
use Rattle.kept_parts.proofs.Common.AnyRun.{some_about}
use Rattle.flat_machine.proofs.NotedIn.{went_quiet}
use Rattle.flat_machine.proofs.Turned.{later_none, later_on}

-- ---- where a process stands

stands_so_in : (headers : List (List ℕ)) (a b : About) (k : Kept) (pid : ℕ) (stop : Stop) → StandsIn (physical_of headers a k) pid stop → StandsIn (physical_of headers b k) pid stop
unfolding physical_of world_of
stands_so_in headers a b k pid stop s = record { process = s.process; space = s.space; lives = s.lives; has = s.has; means = s.means }

stands_within : (reach : Mode) (headers : List (List ℕ)) (a b : About) (k : Kept) (pid : ℕ) (stop : Stop) → StandsWithin reach (physical_of headers a k) pid stop
    → StandsWithin reach (physical_of headers b k) pid stop
stands_within Halt headers a b k pid (Refused access) s = tt
stands_within Halt headers a b k pid Next s = stands_so_in headers a b k pid Next s
stands_within Halt headers a b k pid Call s = stands_so_in headers a b k pid Call s
stands_within Halt headers a b k pid (Trap signal) s = stands_so_in headers a b k pid (Trap signal) s
stands_within GoOn headers a b k pid stop s = stands_so_in headers a b k pid stop s

pub all_within : (reach : Mode) (p : Physical) (pid most done : ℕ) (stop : Stop) → stop ≡ Next → HaltsWithin reach p pid most done stop → done ≡ most
all_within reach p pid most done stop is h = let P : Stop → Type 0 = HaltsWithin reach p pid most done in subst P is h

at_within : (reach : Mode) (p : Physical) (pid most done : ℕ) (stop : Stop) → stop ≢ Next → HaltsWithin reach p pid most done stop → (done < most) × StandsWithin reach p pid stop
at_within reach p pid most done Next other h = absurd (other refl)
at_within reach p pid most done Call other h = h
at_within reach p pid most done (Trap signal) other h = h
at_within reach p pid most done (Refused access) other h = h

module _ (reach : Mode) (now : Kept) (pid most done : ℕ) (stop : Stop) (other : stop ≢ Next)
    (halts : (headers : List (List ℕ)) (a : About) → HaltsWithin reach (physical_of headers (later done a) now) pid most done stop) where
  pub less_within : done < most
  less_within = (at_within reach (physical_of [] (later done some_about) now) pid most done stop other (halts [] some_about)).0

  pub standing : (headers : List (List ℕ)) (a : About) → StandsWithin reach (physical_of headers a now) pid stop
  standing headers a =
      stands_within reach headers (later done a) a now pid stop (at_within reach (physical_of headers (later done a) now) pid most done stop other (halts headers a)).1

-- within its own bytes none was noted
pub own_of : (reach : Mode) → is_whole reach ≡ false → reach ≡ Halt
own_of Halt is = refl
own_of GoOn is = absurd (false≢true (sym is))

-- all of memory is reached just where one was noted
pub reach_noted : (noted : Bool) → is_whole (reach_of noted) ≡ noted
reach_noted true = refl
reach_noted false = refl

-- the mark is that of the notes
pub marked_reach : (k : Kept) (noted : Bool) → noted ≡ has_stray k.notes → has_stray k.notes ≡ is_whole (reach_of noted)
marked_reach k noted is = sym is ∙ sym (reach_noted noted)

pub own_quiet : (k : Kept) (noted : Bool) → noted ≡ has_stray k.notes → reach_of noted ≡ Halt → has_stray k.notes ≡ false
own_quiet k noted is own = marked_reach k noted is ∙ ap is_whole own

pub whole_noted : (k : Kept) (noted : Bool) → noted ≡ has_stray k.notes → reach_of noted ≡ GoOn → has_stray k.notes ≡ true
whole_noted k noted is whole = marked_reach k noted is ∙ ap is_whole whole

-- ---- what isn't carried out

not_next : (means : Meaning) (stop : Stop) → EndsAs means stop → (regs : Regs) (bytes : Bytes) → means ≢ next regs bytes
not_next means Next ends regs bytes is = absurd ends
not_next means Call ends regs bytes is = let e = sym ends ∙ is in cc
not_next means (Trap signal) ends regs bytes is = let e = sym ends ∙ is in cc
not_next means (Refused access) ends regs bytes is = let e = sym ends ∙ is in cc

step_own : (p : Physical) (q : Process) (s : Space) → has_stray p.world.notes ≡ false → step_within p q s ≡ meaning q.regs s.bytes (writable_in s.maps)
step_own p q s quiet = ap (λ (was : Bool). if was then next_meaning p q else meaning q.regs s.bytes (writable_in s.maps)) quiet

step_whole : (p : Physical) (q : Process) (s : Space) → has_stray p.world.notes ≡ true → step_within p q s ≡ next_meaning p q
step_whole p q s noted = ap (λ (was : Bool). if was then next_meaning p q else meaning q.regs s.bytes (writable_in s.maps)) noted

still_own : (p : Physical) (pid : ℕ) (stop : Stop) → has_stray p.world.notes ≡ false → StandsAt p.world pid stop → StandsStillIn p pid
still_own p pid stop quiet s = record {
  process = s.process;
  space = s.space;
  lives = s.lives;
  has = s.has;
  still = λ regs bytes is.
      not_next (meaning s.process.regs s.space.space.bytes (writable_in s.space.space.maps)) stop s.means regs bytes (sym (step_own p s.process s.space.space quiet) ∙ is);
}

still_whole : (p : Physical) (pid : ℕ) (stop : Stop) → has_stray p.world.notes ≡ true → StandsIn p pid stop → StandsStillIn p pid
still_whole p pid stop noted s = record {
  process = s.process;
  space = s.space;
  lives = s.lives;
  has = s.has;
  still = λ regs bytes is. not_next (next_meaning p s.process) stop s.means regs bytes (sym (step_whole p s.process s.space.space noted) ∙ is);
}

-- within reach it stands still
pub still_within : (reach : Mode) (headers : List (List ℕ)) (a : About) (k : Kept) (pid : ℕ) (stop : Stop) → has_stray k.notes ≡ is_whole reach → (reach ≡ Halt → StandsAt (world_of a k) pid stop)
    → StandsWithin reach (physical_of headers a k) pid stop → StandsStillIn (physical_of headers a k) pid
unfolding physical_of world_of
still_within Halt headers a k pid stop strayed own within = still_own (physical_of headers a k) pid stop strayed (own refl)
still_within GoOn headers a k pid stop strayed own within = still_whole (physical_of headers a k) pid stop strayed within

-- ---- behind so many events of a process

abbrev pub ReachedIn : Kind → List Values → ℕ → Kept → ℕ → Kept → Type 0
ReachedIn kind flats pid old n now =
    (a : About) → a.kind ≡ kind → AreFlats a.programs flats → LeadsIn pid (physical_of (headers_of flats) a old) n (physical_of (headers_of flats) (later n a) now)

pub reached_in_none : (kind : Kind) (flats : List Values) (pid : ℕ) (k : Kept) → ReachedIn kind flats pid k 0 k
reached_in_none kind flats pid k a so are =
    subst (λ (b : About). LeadsIn pid (physical_of (headers_of flats) a k) 0 (physical_of (headers_of flats) b k)) (sym (later_none a)) (leads_in_none pid (physical_of (headers_of flats) a k))

pub reached_in_on : (kind : Kind) (flats : List Values) (pid : ℕ) (old mid now : Kept) (i j : ℕ) → ReachedIn kind flats pid old i mid → ReachedIn kind flats pid mid j now
    → ReachedIn kind flats pid old (i + j) now
reached_in_on kind flats pid old mid now i j x y a so are =
    let headers = headers_of flats in
    subst (λ (b : About). LeadsIn pid (physical_of headers a old) (i + j) (physical_of headers b now)) (later_on i j a)
    (leads_in_on pid (physical_of headers a old) (physical_of headers (later i a) mid) (physical_of headers (later j (later i a)) now) i j (x a so are) (y (later i a) so are))

-- ---- an event that doesn't stray notes none

module _ (a : About) (mid new : Kept) (pid : ℕ) where
  pub quiet_on : (o : Outcome) → event (world_of a mid) pid ≡ o → has_stray mid.notes ≡ false → Carried a o mid new pid (Ok after.GoesOn) → has_stray new.notes ≡ false
  unfolding world_of
  quiet_on (went v t) is quiet x = ap (λ (w : World). has_stray w.notes) (sym x.0) ∙ went_quiet (world_of a mid) quiet pid v t is
  quiet_on (strays access) is quiet x = absurd x
  quiet_on full is quiet x = absurd x
  quiet_on idle is quiet x = absurd x

  pub quiet_ends : (o : Outcome) → event (world_of a mid) pid ≡ o → has_stray mid.notes ≡ false → Carried a o mid new pid (Ok after.TurnEnds) → has_stray new.notes ≡ false
  unfolding world_of
  quiet_ends (went v t) is quiet x = ap (λ (w : World). has_stray w.notes) (sym x.0) ∙ went_quiet (world_of a mid) quiet pid v t is
  quiet_ends (strays access) is quiet x = absurd x
  quiet_ends full is quiet x = absurd x
  quiet_ends idle is quiet x = absurd x

-- ---- the end of a turn of a run that goes on

module _ (kind : Kind) (flats : List Values) (pid : ℕ) (old mid new : Kept) where
  abbrev shown : About → Kept → Physical
  shown = physical_of (headers_of flats)

  -- all events were carried out
  pub turn_all_in : (n count : ℕ) → n ≡ count → ReachedIn kind flats pid old n mid → (a : About) → a.kind ≡ kind → AreFlats a.programs flats
      → TurnLeavesIn pid count (shown a old) n (shown (later n a) mid) (Ok None)
  turn_all_in n count all reached a so are =
      ap (λ (m : ℕ). turn_in m pid (shown a old)) (sym all) ∙ turn_in_used pid (shown a old) (shown (later n a) mid) n (reached a so are)

  module _ (n count : ℕ) (less : n < count) (reached : ReachedIn kind flats pid old n mid) where
    -- the event behind them is the turn's last
    pub turn_ends_in : ((a : About) → a.kind ≡ kind → AreFlats a.programs flats → EventIn (headers_of flats) a mid new pid (Ok after.TurnEnds)) → (a : About) → a.kind ≡ kind → AreFlats a.programs flats
        → TurnLeavesIn pid count (shown a old) (n + 1) (shown (later (n + 1) a) new) (Ok None)
    turn_ends_in ends a so are =
        let now : Physical = shown (later 1 (later n a)) new in
        let P : Physical → Type 0 = λ p. TurnEndsIn pid count (shown a old) p None in
        subst P (ap (λ (b : About). shown b new) (later_on n 1 a))
        (turn_in_from pid (shown a old) (shown (later n a) mid) n (reached a so are) count (remains_at_in now None) less (turn_in_over pid (shown (later n a) mid) now (ends (later n a) so are)))

    -- the log has no room for it
    pub turn_stops_in : ((a : About) → a.kind ≡ kind → AreFlats a.programs flats → EventIn (headers_of flats) a mid new pid (Ok after.LogFull)) → (a : About) → a.kind ≡ kind → AreFlats a.programs flats
        → TurnLeavesIn pid count (shown a old) n (shown (later n a) new) (Ok (Some told.LogFull))
    turn_stops_in no_more a so are =
        let now : Physical = shown (later n a) new in
        turn_in_from pid (shown a old) (shown (later n a) mid) n (reached a so are) count (remains_at_in now (Some log_full)) less (turn_in_full pid (shown (later n a) mid) now (no_more (later n a) so are))

    -- out of memory
    pub turn_fails_in : (error : AllocError) → new ≡ mid → ((a : About) → StandsStillIn (shown a mid) pid) → (a : About) → a.kind ≡ kind → AreFlats a.programs flats
        → TurnLeavesIn pid count (shown a old) n (shown (later n a) new) (Err error)
    turn_fails_in error same still a so are = record {
      less = less;
      walked = turn_in_used pid (shown a old) (shown (later n a) mid) n (reached a so are) ∙ ap (λ (k : Kept). remains_at_in (shown (later n a) k) None) (sym same);
      still = subst (λ (k : Kept). StandsStillIn (shown (later n a) k) pid) (sym same) (still (later n a));
    }

-- who stands at a step that ends so isn't at an instruction that is carried out
next_by : (reach : Mode) (p : Physical) (pid : ℕ) → StandsWithin reach p pid Next → ⊥
next_by Halt p pid s = s.means
next_by GoOn p pid s = s.means

pub never_next : (reach : Mode) (p : Physical) (pid : ℕ) (stop : Stop) → stop ≡ Next → StandsWithin reach p pid stop → ⊥
never_next reach p pid stop is s = let P : Stop → Type 0 = StandsWithin reach p pid in next_by reach p pid (subst P is s)

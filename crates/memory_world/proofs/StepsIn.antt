-- Instructions of one process, one after the other, are as many events over one memory.
use Rattle.std.proofs.Common.{◌≡◌, ℕ, zero, suc, ◌+◌, Bool, true, false, Some, None, refl, sym, ap, subst, ◌∙◌, arith}
use Rattle.std.specs.Prelude.{if◌then◌else◌, Option}
use Rattle.byte_words.specs.ByteMap.{Bytes}
use Rattle.rv32im_step.specs.declared.regs.Regs.{Regs}
use Rattle.rv32im_step.specs.declared.stop.Stop.{Stop}
use Rattle.rv32im_step.specs.declared.stop.Stop.TheVariants.{Next, Call, Trap, Refused}
use Rattle.rv32im_step.specs.Meaning.{Meaning, next, call, trap, refused, meaning}
use Rattle.mmap_rules.specs.Space.{own_in, writable_in}
use Rattle.region_watch.specs.Private.{only}
use Rattle.region_watch.specs.Instructions.{Ran, ran, goes_on, instructions}
use Rattle.vfork_exec.specs.Keyed.{find}
use Rattle.machine_world.specs.World.{Process, LiveSpace, pid_of, id_of}
use Rattle.machine_world.proofs.States.{with_regs}
use Rattle.memory_world.specs.Physical.{Physical, in_memory, shown_space, moved_in, effect_in, next_meaning, has_stray, first_stray_in}
use Rattle.memory_world.specs.Wider.{IsWithin, Grows, Widens}
use Rattle.memory_world.specs.Courses.{LeadsIn, IsShown, HaltsIn, OwnInstructionsLead, WholeInstructionsLead}
use Rattle.memory_world.proofs.Widened.{wide_meaning}
use Rattle.memory_world.proofs.Moves.{own_now, moved_in_twice, moved_shown, lives_in, has_in, moved_none, found_shown, event_in_is, steps_unstrayed, noted_unstrayed}
use Rattle.memory_world.proofs.TurnsIn.{leads_in_none, leads_in_on, leads_in_event}

-- a process that lives in its space, over memory that is shown
pub record Lives (pid : ℕ) (p : Physical) (q : Process) (s : LiveSpace) : Type 0 where
  pub shown : IsShown p
  pub lives : find pid_of pid p.world.procs ≡ Some q
  pub has : find id_of q.space p.world.spaces ≡ Some s

-- it lives on behind an instruction
lives_on : (pid : ℕ) (p : Physical) (q : Process) (s : LiveSpace) (regs : Regs) (memory : Bytes) (done : ℕ) → Lives pid p q s
    → Lives pid (moved_in p q s.space regs memory done) (with_regs q regs) (shown_space memory s)
lives_on pid p q s regs memory done l = record {
  shown = moved_shown p q s.space regs memory done;
  lives = lives_in p pid q s l.lives l.has regs memory done;
  has = has_in p pid q s l.lives l.has regs memory done;
}

-- an instruction more before
leads_more : (pid : ℕ) (p : Physical) (q : Process) (s : LiveSpace) (after regs : Regs) (first all : Bytes) (done : ℕ)
    → LeadsIn pid p 1 (moved_in p q s.space after first 1)
    → LeadsIn pid (moved_in p q s.space after first 1) done (moved_in (moved_in p q s.space after first 1) (with_regs q after) (own_now first s.space) regs all done)
    → LeadsIn pid p (done + 1) (moved_in p q s.space regs all (done + 1))
leads_more pid p q s after regs first all done one more =
    let mid : Physical = moved_in p q s.space after first 1 in
    let last : Physical = moved_in mid (with_regs q after) (own_now first s.space) regs all done in
    let sum : 1 + done ≡ done + 1 = omega arith in
    let P : ℕ → Type 0 = λ k. LeadsIn pid p k (moved_in p q s.space regs all k) in
    let Q : Physical → Type 0 = λ now. LeadsIn pid p (1 + done) now in
    subst P sum (subst Q (moved_in_twice p q after regs s.space first all 1 done) (leads_in_on pid p mid last 1 done one more))

-- one instruction that is carried out
leads_one : (pid : ℕ) (p : Physical) (q : Process) (s : LiveSpace) (after : Regs) (now : Bytes) → Lives pid p q s → first_stray_in p pid ≡ None
    → next_meaning p q ≡ next after now → LeadsIn pid p 1 (moved_in p q s.space after now 1)
leads_one pid p q s after now l none is =
    leads_in_event pid p (moved_in p q s.space after now 1) (event_in_is p pid q s l.lives l.has none ∙ ap (effect_in p q s.space) is)

-- ---- over all of memory, once a stray access was noted

halts_more : (p : Physical) (pid most done : ℕ) (stop : Stop) → HaltsIn p pid most done stop → HaltsIn p pid (suc most) (done + 1) stop
halts_more p pid most done Next h = let e : done ≡ most = h in omega arith
halts_more p pid most done Call h = let less = h.0 in (omega arith, h.1)
halts_more p pid most done (Trap signal) h = let less = h.0 in (omega arith, h.1)
halts_more p pid most done (Refused access) h = let less = h.0 in (omega arith, h.1)

module _ (pid : ℕ) where
  abbrev RanWhole : Physical → Process → LiveSpace → ℕ → Ran → Type 0
  RanWhole p q s most r =
      let now : Physical = moved_in p q s.space r.regs r.bytes r.done in
      LeadsIn pid p r.done now × HaltsIn now pid most r.done r.stop

  none_whole : (p : Physical) (q : Process) (s : LiveSpace) → Lives pid p q s → (most : ℕ) (stop : Stop) → HaltsIn p pid most 0 stop → RanWhole p q s most (ran q.regs p.memory 0 stop)
  none_whole p q s l most stop halts =
      let P : Physical → Type 0 = λ now. LeadsIn pid p 0 now × HaltsIn now pid most 0 stop in
      subst P (sym (moved_none p pid q s l.lives l.has l.shown)) (leads_in_none pid p, halts)

  pub whole_on : (n : ℕ) (p : Physical) (q : Process) (s : LiveSpace) → Lives pid p q s → has_stray p.world.notes ≡ true → RanWhole p q s n (instructions n (in_memory p.world) q.regs p.memory)
  unfolding instructions
  whole_on zero p q s l was = none_whole p q s l 0 Next refl
  whole_on (suc n) p q s l was = first (next_meaning p q) refl (λ now o t lives. whole_on n now o t lives)
    where
      first : (m : Meaning) → next_meaning p q ≡ m
          → ((now : Physical) (o : Process) (t : LiveSpace) → Lives pid now o t → has_stray now.world.notes ≡ true → RanWhole now o t n (instructions n (in_memory now.world) o.regs now.memory))
          → RanWhole p q s (suc n) (goes_on q.regs p.memory (λ after now. instructions n (in_memory p.world) after now) m)
      first (next after now) is more =
          let r : Ran = instructions n (in_memory p.world) after now in
          let mid : Physical = moved_in p q s.space after now 1 in
          let there = more mid (with_regs q after) (shown_space now s) (lives_on pid p q s after now 1 l) was in
          let last : Physical = moved_in mid (with_regs q after) (own_now now s.space) r.regs r.bytes r.done in
          let sum : 1 + r.done ≡ r.done + 1 = omega arith in
          let same : last ≡ moved_in p q s.space r.regs r.bytes (r.done + 1) =
          moved_in_twice p q after r.regs s.space now r.bytes 1 r.done ∙ ap (λ k. moved_in p q s.space r.regs r.bytes k) sum in
          let P : Physical → Type 0 = λ v. HaltsIn v pid (suc n) (r.done + 1) r.stop in (
            leads_more pid p q s after r.regs now r.bytes r.done (leads_one pid p q s after now l (noted_unstrayed p pid was) is) there.0,
            subst P same (halts_more last pid n r.done r.stop there.1),
          )
      first call is more = none_whole p q s l (suc n) Call (omega arith, record { process = q; space = s; lives = l.lives; has = l.has; means = is })
      first (trap signal) is more = none_whole p q s l (suc n) (Trap signal) (omega arith, record { process = q; space = s; lives = l.lives; has = l.has; means = is })
      first (refused access) is more = none_whole p q s l (suc n) (Refused access) (omega arith, record { process = q; space = s; lives = l.lives; has = l.has; means = is })

-- ---- over a process's own bytes

-- where the own bytes are as they were, so is all of memory
same_all : (own may : ℕ → Bool) (mem all : Bytes) → IsWithin own may → Grows own may mem (only own mem) all → all ≡ mem
unfolding only
same_all own may mem all within g = λ i a. tested a (may a) refl i
  where
    passed : (test : Bool) (x y : Option ℕ) → test ≡ true → (if test then x else None) ≡ (if test then y else None) → x ≡ y
    passed true x y is same = same
    passed false x y is same = absurd (cc)

    tested : (a : ℕ) (test : Bool) → may a ≡ test → all a ≡ mem a
    tested a true is = passed (own a) (all a) (mem a) (within a is) (ap (λ (f : Bytes). f a) g.seen)
    tested a false is = g.rest a is

module _ (pid : ℕ) where
  abbrev RanOwn : Physical → Process → LiveSpace → Ran → Type 0
  RanOwn p q s r =
      (all : Bytes) → Grows (own_in s.space.maps) (writable_in s.space.maps) p.memory r.bytes all → LeadsIn pid p r.done (moved_in p q s.space r.regs all r.done)

  none_own : (p : Physical) (q : Process) (s : LiveSpace) → Lives pid p q s → IsWithin (own_in s.space.maps) (writable_in s.space.maps) → (stop : Stop)
      → RanOwn p q s (ran q.regs (only (own_in s.space.maps) p.memory) 0 stop)
  none_own p q s l within stop all g =
      let same : all ≡ p.memory = same_all (own_in s.space.maps) (writable_in s.space.maps) p.memory all within g in
      let P : Physical → Type 0 = λ now. LeadsIn pid p 0 now in
      subst P (sym (ap (λ (m : Bytes). moved_in p q s.space q.regs m 0) same ∙ moved_none p pid q s l.lives l.has l.shown)) (leads_in_none pid p)

  pub own_on : (n : ℕ) (p : Physical) (q : Process) (s : LiveSpace) → Lives pid p q s → IsWithin (own_in s.space.maps) (writable_in s.space.maps)
      → IsWithin (in_memory p.world) (writable_in s.space.maps)
      → RanOwn p q s (instructions n (writable_in s.space.maps) q.regs (only (own_in s.space.maps) p.memory))
  unfolding instructions
  own_on zero p q s l within inside = none_own p q s l within Next
  own_on (suc n) p q s l within inside =
      first (meaning q.regs (only (own_in s.space.maps) p.memory) (writable_in s.space.maps)) (next_meaning p q) refl refl
      (wide_meaning (own_in s.space.maps) (writable_in s.space.maps) (in_memory p.world) q.regs p.memory within inside)
      (λ now o t lives. own_on n now o t lives)
    where
      first : (small large : Meaning) → meaning q.regs (only (own_in s.space.maps) p.memory) (writable_in s.space.maps) ≡ small → next_meaning p q ≡ large
          → Widens (own_in s.space.maps) (writable_in s.space.maps) p.memory small large
          → ((now : Physical) (o : Process) (t : LiveSpace) → Lives pid now o t → IsWithin (own_in t.space.maps) (writable_in t.space.maps)
          → IsWithin (in_memory now.world) (writable_in t.space.maps)
          → RanOwn now o t (instructions n (writable_in t.space.maps) o.regs (only (own_in t.space.maps) now.memory)))
          → RanOwn p q s (goes_on q.regs (only (own_in s.space.maps) p.memory) (λ after now. instructions n (writable_in s.space.maps) after now) small)
      first (next after part) (next there whole) is goes (same, g) more =
          let P : Bytes → Type 0 = λ b. RanOwn p q s (goes_on q.regs (only (own_in s.space.maps) p.memory) (λ after now. instructions n (writable_in s.space.maps) after now) (next after b)) in
          subst P g.seen (λ all grows.
          let r : Ran = instructions n (writable_in s.space.maps) after (only (own_in s.space.maps) whole) in
          let mid : Physical = moved_in p q s.space after whole 1 in
          let lives = lives_on pid p q s after whole 1 l in
          let none : first_stray_in p pid ≡ None = steps_unstrayed p pid q (shown_space p.memory s) l.lives (found_shown p pid q s l.lives l.has l.shown) after part is in
          leads_more pid p q s after r.regs whole all r.done
          (leads_one pid p q s after whole l none (goes ∙ ap (λ regs. next regs whole) same))
          (more mid (with_regs q after) (shown_space whole s) lives within inside all
          (record { seen = grows.seen; rest = λ a locked. grows.rest a locked ∙ sym (g.rest a locked) })))
      first call large is goes widens more = none_own p q s l within Call
      first (trap signal) large is goes widens more = none_own p q s l within (Trap signal)
      first (refused access) large is goes widens more = none_own p q s l within (Refused access)
      first (next after part) call is goes widens more = absurd widens
      first (next after part) (trap signal) is goes widens more = absurd widens
      first (next after part) (refused access) is goes widens more = absurd widens

pub own_instructions_lead : OwnInstructionsLead
own_instructions_lead n pid p q s r all shown lives has within inside is =
    let P : Ran → Type 0 = λ ran. RanOwn pid p q s ran in
    subst P (sym is) (own_on pid n p q s (record { shown = shown; lives = lives; has = has }) within inside) all

pub whole_instructions_lead : WholeInstructionsLead
whole_instructions_lead n pid p q s r shown lives has was is =
    let P : Ran → Type 0 = λ ran. RanWhole pid p q s n ran in
    subst P (sym is) (whole_on pid n p q s (record { shown = shown; lives = lives; has = has }) was)

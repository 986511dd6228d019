-- The hits of a turn go on behind its events, in the world of private spaces and in the one memory.
use Rattle.std.proofs.Common.{◌≡◌, ℕ, zero, suc, ◌+◌, ◌-◌, ◌<◌, Bool, false, List, [], ◌++◌, Option, Some, None, refl, sym, ap, subst, ◌∙◌, arith, append_assoc}
use Rattle.byte_words.specs.ByteMap.{Bytes}
use Rattle.byte_words.specs.declared.access.Access.{Access}
use Rattle.rv32im_step.specs.declared.regs.Regs.{Regs}
use Rattle.rv32im_step.specs.declared.stop.Stop.{Stop}
use Rattle.rv32im_step.specs.declared.stop.Stop.TheVariants.{Next, Call, Trap, Refused}
use Rattle.rv32im_step.specs.Asked.{asked}
use Rattle.rv32im_step.specs.Meaning.{Meaning, next, call, trap, refused, meaning}
use Rattle.call_log.specs.Notes.{stray_note}
use Rattle.mmap_rules.specs.Space.{Space, writable_in}
use Rattle.region_watch.specs.Instructions.{goes_on, instructions, asked_behind, all_asked}
use Rattle.vfork_exec.specs.Keyed.{find}
use Rattle.machine_world.specs.World.{World, Process, LiveSpace, pid_of, id_of}
use Rattle.machine_world.specs.Event.{Trace, Outcome, went, noted, effect, stepped, event}
use Rattle.machine_world.specs.Turns.{Walk, turn}
use Rattle.machine_world.specs.Courses.{StandsAt, moved}
use Rattle.machine_world.proofs.States.{with_regs, with_own, lives_moved, has_moved, event_is}
use Rattle.machine_world.proofs.TurnLaws.{turn_next}
use Rattle.memory_world.specs.Physical.{Physical, After, after as goes, in_memory, shown_space, moved_in, effect_in, next_meaning, carried_out, first_stray_in, with_stray, event_in, turn_in}
use Rattle.memory_world.specs.Physical.{WalkIn}
use Rattle.memory_world.specs.Courses.{StandsIn}
use Rattle.memory_world.proofs.Moves.{lives_in, has_in, event_in_is, event_in_strays, carried_is}
use Rattle.memory_world.proofs.TurnsIn.{turn_in_next}
use Rattle.watch_points.specs.declared.hits.Hit.{Hit}
use Rattle.watch_points.specs.declared.point.PointKind.{PointKind}
use Rattle.watch_points.specs.declared.span.Span.{Span}
use Rattle.watch_points.specs.Points.{Found, hits_in, with_hits}
use Rattle.watch_points.proofs.HitLists.{hits_in-nil, hits_in-append, with_hits-nil, with_hits-append}
use Rattle.flat_machine.specs.Hits.{asked_in_memory, asked_of_in, event_asked, event_asked_in, behind, behind_in, turn_hits, turn_hits_in}
use Rattle.flat_machine.specs.HitsLeft.{HitsLead}
use Rattle.flat_machine.proofs.HitsAsked.{called_quiet, trapped_quiet, refused_quiet}
use Rattle.flat_machine.proofs.StraysOn.{StraysIn, before_is, behind_is}

-- ---- what was found, and what is left

module _ {W : Type 0} (T : ℕ → W → List Hit) where
  pub lead_none : (found : Found) (w : W) → HitsLead T found found w 0 w
  lead_none found w left = let sum : left ≡ 0 + left = omega arith in ap (λ (n : ℕ). with_hits found (T n w)) sum

  pub lead_on : (before mid after : Found) (old at new : W) (i j : ℕ) → HitsLead T before mid old i at → HitsLead T mid after at j new → HitsLead T before after old (i + j) new
  lead_on before mid after old at new i j x y left =
      let sum : i + (j + left) ≡ i + j + left = omega arith in
      y left ∙ x (j + left) ∙ ap (λ (n : ℕ). with_hits before (T n old)) sum

  -- these were found
  pub lead_by : (before : Found) (hits : List Hit) (old new : W) (done : ℕ) → ((left : ℕ) → T (done + left) old ≡ hits ++ T left new) → HitsLead T before (with_hits before hits) old done new
  lead_by before hits old new done is left = sym (with_hits-append before hits (T left new)) ∙ ap (with_hits before) (sym (is left))

  -- all of its events were carried out
  pub lead_used : (before after : Found) (old new : W) (done : ℕ) → T 0 new ≡ [] → HitsLead T before after old done new → after ≡ with_hits before (T done old)
  lead_used before after old new done none x =
      let sum : done + 0 ≡ done = omega arith in
      sym (with_hits-nil after) ∙ ap (with_hits after) (sym none) ∙ x 0 ∙ ap (λ (n : ℕ). with_hits before (T n old)) sum

  -- or what is left makes none
  pub lead_over : (before after : Found) (old new : W) (done count : ℕ) → done < count → ((n : ℕ) → 0 < n → T n new ≡ []) → HitsLead T before after old done new → after ≡ with_hits before (T count old)
  lead_over before after old new done count less none x =
      let sum : done + (count - done) ≡ count = omega (arith, less) in
      sym (with_hits-nil after) ∙ ap (with_hits after) (sym (none (count - done) (omega (arith, less)))) ∙ x (count - done) ∙ ap (λ (n : ℕ). with_hits before (T n old)) sum

-- ---- in the world

module _ (kind : PointKind) (spans : List Span) (pid : ℕ) where
  abbrev T : ℕ → World → List Hit
  T = turn_hits kind spans pid

  pub no_hits : (w : World) → T zero w ≡ []
  unfolding turn_hits
  no_hits w = refl

  asked_is : (w : World) (p : Process) (s : LiveSpace) → find pid_of pid w.procs ≡ Some p → find id_of p.space w.spaces ≡ Some s
      → event_asked w pid ≡ asked p.regs s.space.bytes (writable_in s.space.maps)
  unfolding event_asked
  asked_is w p s lives has = rw (lives, has) refl

  pub hits_next : (n : ℕ) (w : World) (o : Outcome) → event w pid ≡ o → T (suc n) w ≡ hits_in kind spans pid (event_asked w pid) ++ behind (T n) o
  unfolding turn_hits
  hits_next n w o is = ap (λ (x : Outcome). hits_in kind spans pid (event_asked w pid) ++ behind (turn_hits kind spans pid n) x) is

  -- an instruction that isn't carried out
  pub quiet_at : (w : World) (stop : Stop) → StandsAt w pid stop → hits_in kind spans pid (event_asked w pid) ≡ []
  quiet_at w Next s = absurd s.means
  quiet_at w Call s =
      ap (hits_in kind spans pid) (asked_is w s.process s.space s.lives s.has) ∙ called_quiet kind spans pid s.process.regs s.space.space.bytes (writable_in s.space.space.maps) s.means
  quiet_at w (Trap signal) s =
      ap (hits_in kind spans pid) (asked_is w s.process s.space s.lives s.has) ∙ trapped_quiet kind spans pid s.process.regs s.space.space.bytes (writable_in s.space.space.maps) signal s.means
  quiet_at w (Refused access) s =
      ap (hits_in kind spans pid) (asked_is w s.process s.space s.lives s.has) ∙ refused_quiet kind spans pid s.process.regs s.space.space.bytes (writable_in s.space.space.maps) access s.means

  pub quiet_next : (n : ℕ) (w : World) (stop : Stop) → StandsAt w pid stop → (o : Outcome) → event w pid ≡ o → T (suc n) w ≡ behind (T n) o
  quiet_next n w stop s o is = hits_next n w o is ∙ ap (λ (xs : List Hit). xs ++ behind (T n) o) (quiet_at w stop s)

  -- instructions that are all carried out
  pub run_hits : (n : ℕ) (w : World) (p : Process) (s : LiveSpace) → find pid_of pid w.procs ≡ Some p → find id_of p.space w.spaces ≡ Some s
      → (instructions n (writable_in s.space.maps) p.regs s.space.bytes).done ≡ n → (left : ℕ)
      → T (n + left) w ≡ hits_in kind spans pid (all_asked n (writable_in s.space.maps) p.regs s.space.bytes) ++ T left (turn n pid w).world
  unfolding instructions all_asked turn stepped
  run_hits zero w p s lives has all left = let sum : 0 + left ≡ left = omega arith in rw (hits_in-nil kind spans pid) (ap (λ (k : ℕ). T k w) sum)
  run_hits (suc n) w p s lives has all left =
      first (meaning p.regs s.space.bytes (writable_in s.space.maps)) refl all (λ v q l. run_hits n v q l)
    where
      first : (m : Meaning) → meaning p.regs s.space.bytes (writable_in s.space.maps) ≡ m
          → (goes_on p.regs s.space.bytes (λ after now. instructions n (writable_in s.space.maps) after now) m).done ≡ suc n
          → ((v : World) (q : Process) (l : LiveSpace) → find pid_of pid v.procs ≡ Some q → find id_of q.space v.spaces ≡ Some l
          → (instructions n (writable_in l.space.maps) q.regs l.space.bytes).done ≡ n → (left : ℕ)
          → T (n + left) v ≡ hits_in kind spans pid (all_asked n (writable_in l.space.maps) q.regs l.space.bytes) ++ T left (turn n pid v).world)
          → T (suc n + left) w ≡ hits_in kind spans pid (asked p.regs s.space.bytes (writable_in s.space.maps) ++ asked_behind (λ after now. all_asked n (writable_in s.space.maps) after now) m)
          ++ T left (turn (suc n) pid w).world
      first (next after now) is all more =
          let own : Space = record s.space { bytes = now } in
          let mid : World = moved w p after own 1 in
          let t : Trace = record { space = p.space; events = 1; items = []; begins = None; over = false } in
          let is_went : event w pid ≡ went mid t = event_is w pid p s lives has ∙ ap (effect w p s.space) is in
          let there = more mid (with_regs p after) (with_own s own) (lives_moved w pid p s lives has after own 1) (has_moved w pid p s lives has after own 1) (omega (arith, all)) left in
          let here = asked p.regs s.space.bytes (writable_in s.space.maps) in
          let rest = all_asked n (writable_in s.space.maps) after now in
          let sum : suc n + left ≡ suc (n + left) = omega arith in
          ap (λ (k : ℕ). T k w) sum ∙ hits_next (n + left) w (went mid t) is_went
          ∙ ap (λ (xs : List Hit). xs ++ T (n + left) mid) (ap (hits_in kind spans pid) (asked_is w p s lives has))
          ∙ ap (λ (xs : List Hit). hits_in kind spans pid here ++ xs) there
          ∙ sym (append_assoc (hits_in kind spans pid here) (hits_in kind spans pid rest) (T left (turn n pid mid).world))
          ∙ ap (λ (xs : List Hit). xs ++ T left (turn n pid mid).world) (sym (hits_in-append kind spans pid here rest))
          ∙ ap (λ (v : Walk). hits_in kind spans pid (here ++ rest) ++ T left v.world) (sym (turn_next pid w n (went mid t) is_went))
      first call is all more = absurd (omega (arith, all))
      first (trap signal) is all more = absurd (omega (arith, all))
      first (refused access) is all more = absurd (omega (arith, all))

-- ---- in the one memory

module _ (kind : PointKind) (spans : List Span) (pid : ℕ) where
  abbrev T_in : ℕ → Physical → List Hit
  T_in = turn_hits_in kind spans pid

  pub no_hits_in : (p : Physical) → T_in zero p ≡ []
  unfolding turn_hits_in
  no_hits_in p = refl

  asked_is_in : (p : Physical) (q : Process) (s : LiveSpace) → find pid_of pid p.world.procs ≡ Some q → find id_of q.space p.world.spaces ≡ Some s
      → event_asked_in p pid ≡ asked q.regs p.memory (in_memory p.world)
  unfolding event_asked_in
  asked_is_in p q s lives has = rw (lives, has) refl

  pub hits_next_in : (n : ℕ) (p : Physical) (o : After) → event_in p pid ≡ o → T_in (suc n) p ≡ hits_in kind spans pid (event_asked_in p pid) ++ behind_in (T_in n) o
  unfolding turn_hits_in
  hits_next_in n p o is = ap (λ (x : After). hits_in kind spans pid (event_asked_in p pid) ++ behind_in (turn_hits_in kind spans pid n) x) is

  pub quiet_in : (p : Physical) (stop : Stop) → StandsIn p pid stop → hits_in kind spans pid (event_asked_in p pid) ≡ []
  quiet_in p Next s = absurd s.means
  quiet_in p Call s = ap (hits_in kind spans pid) (asked_is_in p s.process s.space s.lives s.has) ∙ called_quiet kind spans pid s.process.regs p.memory (in_memory p.world) s.means
  quiet_in p (Trap signal) s = ap (hits_in kind spans pid) (asked_is_in p s.process s.space s.lives s.has) ∙ trapped_quiet kind spans pid s.process.regs p.memory (in_memory p.world) signal s.means
  quiet_in p (Refused access) s = ap (hits_in kind spans pid) (asked_is_in p s.process s.space s.lives s.has) ∙ refused_quiet kind spans pid s.process.regs p.memory (in_memory p.world) access s.means

  pub quiet_next_in : (n : ℕ) (p : Physical) (stop : Stop) → StandsIn p pid stop → (o : After) → event_in p pid ≡ o → T_in (suc n) p ≡ behind_in (T_in n) o
  quiet_next_in n p stop s o is = hits_next_in n p o is ∙ ap (λ (xs : List Hit). xs ++ behind_in (T_in n) o) (quiet_in p stop s)

  -- the memory behind an instruction that is carried out, whether a stray access is noted before it or not
  record WentOn (p : Physical) (q : Process) (now : Bytes) (regs : Regs) : Type 0 where
    mid : Physical
    space : LiveSpace
    is : event_in p pid ≡ goes mid false
    lives : find pid_of pid mid.world.procs ≡ Some (with_regs q regs)
    has : find id_of q.space mid.world.spaces ≡ Some space
    memory : mid.memory ≡ now
    same : in_memory mid.world ≡ in_memory p.world

  went_on : (p : Physical) (q : Process) (s : LiveSpace) → find pid_of pid p.world.procs ≡ Some q → find id_of q.space p.world.spaces ≡ Some s → (regs : Regs) (now : Bytes)
      → next_meaning p q ≡ next regs now → WentOn p q now regs
  went_on p q s lives has regs now is = by (first_stray_in p pid) refl
    where
      by : (o : Option Access) → first_stray_in p pid ≡ o → WentOn p q now regs
      by None none = record {
        mid = moved_in p q s.space regs now 1;
        space = shown_space now s;
        is = event_in_is p pid q s lives has none ∙ ap (effect_in p q s.space) is;
        lives = lives_in p pid q s lives has regs now 1;
        has = has_in p pid q s lives has regs now 1;
        memory = refl;
        same = refl;
      }
      by (Some access) strays =
          let v : Physical = record p { world = noted (stray_note pid access) p.world } in
          record {
            mid = moved_in v q s.space regs now 1;
            space = shown_space now s;
            is = event_in_strays p pid access strays ∙ carried_is v pid q s lives has ∙ ap (effect_in v q s.space) is;
            lives = lives_in v pid q s lives has regs now 1;
            has = has_in v pid q s lives has regs now 1;
            memory = refl;
            same = refl;
          }

  pub run_hits_in : (n : ℕ) (p : Physical) (q : Process) (s : LiveSpace) → find pid_of pid p.world.procs ≡ Some q → find id_of q.space p.world.spaces ≡ Some s
      → (instructions n (in_memory p.world) q.regs p.memory).done ≡ n → (left : ℕ)
      → T_in (n + left) p ≡ hits_in kind spans pid (all_asked n (in_memory p.world) q.regs p.memory) ++ T_in left (turn_in n pid p).now
  unfolding instructions all_asked turn_in
  run_hits_in zero p q s lives has all left = let sum : 0 + left ≡ left = omega arith in rw (hits_in-nil kind spans pid) (ap (λ (k : ℕ). T_in k p) sum)
  run_hits_in (suc n) p q s lives has all left = first (next_meaning p q) refl all (λ v o l. run_hits_in n v o l)
    where
      first : (m : Meaning) → next_meaning p q ≡ m → (goes_on q.regs p.memory (λ regs now. instructions n (in_memory p.world) regs now) m).done ≡ suc n
          → ((v : Physical) (o : Process) (l : LiveSpace) → find pid_of pid v.world.procs ≡ Some o → find id_of o.space v.world.spaces ≡ Some l
          → (instructions n (in_memory v.world) o.regs v.memory).done ≡ n → (left : ℕ)
          → T_in (n + left) v ≡ hits_in kind spans pid (all_asked n (in_memory v.world) o.regs v.memory) ++ T_in left (turn_in n pid v).now)
          → T_in (suc n + left) p ≡ hits_in kind spans pid (asked q.regs p.memory (in_memory p.world) ++ asked_behind (λ regs now. all_asked n (in_memory p.world) regs now) m)
          ++ T_in left (turn_in (suc n) pid p).now
      first (next regs now) is all more =
          let w = went_on p q s lives has regs now is in
          let here = asked q.regs p.memory (in_memory p.world) in
          let rest = all_asked n (in_memory p.world) regs now in
          let P : (ℕ → Bool) → Bytes → Type 0 = λ inside m. (instructions n inside regs m).done ≡ n
          → T_in (n + left) w.mid ≡ hits_in kind spans pid (all_asked n inside regs m) ++ T_in left (turn_in n pid w.mid).now in
          let there = subst (λ (m : Bytes). P (in_memory p.world) m) w.memory (subst (λ (inside : ℕ → Bool). P inside w.mid.memory) w.same
          (λ done. more w.mid (with_regs q regs) w.space w.lives w.has done left)) (omega (arith, all)) in
          let sum : suc n + left ≡ suc (n + left) = omega arith in
          ap (λ (k : ℕ). T_in k p) sum ∙ hits_next_in (n + left) p (goes w.mid false) w.is
          ∙ ap (λ (xs : List Hit). xs ++ T_in (n + left) w.mid) (ap (hits_in kind spans pid) (asked_is_in p q s lives has))
          ∙ ap (λ (xs : List Hit). hits_in kind spans pid here ++ xs) there
          ∙ sym (append_assoc (hits_in kind spans pid here) (hits_in kind spans pid rest) (T_in left (turn_in n pid w.mid).now))
          ∙ ap (λ (xs : List Hit). xs ++ T_in left (turn_in n pid w.mid).now) (sym (hits_in-append kind spans pid here rest))
          ∙ ap (λ (v : WalkIn). hits_in kind spans pid (here ++ rest) ++ T_in left v.now) (sym (turn_in_next pid p n (goes w.mid false) w.is))
      first call is all more = absurd (omega (arith, all))
      first (trap signal) is all more = absurd (omega (arith, all))
      first (refused access) is all more = absurd (omega (arith, all))

  -- the note of a stray access changes no hits
  noted_space : (p : Physical) (access : Access) (q : Process) (o : Option LiveSpace) → asked_in_memory (with_stray pid (Some access) p) q o ≡ asked_in_memory p q o
  noted_space p access q None = refl
  noted_space p access q (Some s) = refl

  noted_asked : (p : Physical) (access : Access) (o : Option Process) → asked_of_in (with_stray pid (Some access) p) o ≡ asked_of_in p o
  noted_asked p access None = refl
  noted_asked p access (Some q) = noted_space p access q (find id_of q.space p.world.spaces)

  same_asked : (at new : Physical) → StraysIn pid at new → event_asked_in at pid ≡ event_asked_in new pid
  unfolding event_asked_in
  same_asked at new x =
      sym (noted_asked at x.access (find pid_of pid at.world.procs)) ∙ ap (λ (p : Physical). asked_of_in p (find pid_of pid p.world.procs)) (sym x.noted)

  pub strays_hit : (at new : Physical) → StraysIn pid at new → (n : ℕ) → T_in n new ≡ T_in n at
  strays_hit at new x zero = no_hits_in new ∙ sym (no_hits_in at)
  strays_hit at new x (suc n) =
      hits_next_in n new (carried_out new pid) (behind_is pid at new x)
      ∙ ap (λ xs. hits_in kind spans pid xs ++ behind_in (T_in n) (carried_out new pid)) (sym (same_asked at new x))
      ∙ sym (hits_next_in n at (carried_out new pid) (before_is pid at new x))

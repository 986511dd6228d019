-- An event, by its next instruction.
use Rattle.std.proofs.Common.{◌≡◌, ℕ, ◌+◌, ◌*◌, ◌^◌, ◌<◌, Bool, true, false, inl, inr, List, map, Option, Some, None, Result, Ok, Err, refl, sym, ap, subst, ◌∙◌, arith}
use Rattle.std.specs.Prelude.{◌==◌, ◌||◌, ◌&&◌, nat_le, nat_lt, is_some, if◌then◌else◌}
use Rattle.std.proofs.lemmas.Bool.{cases_Bool, eqb-true}
use Rattle.byte_words.specs.ByteMap.{Bytes}
use Rattle.byte_words.specs.declared.access.Access.{Access}
use Rattle.rv32im_step.specs.Meaning.{Meaning, next, call, trap, refused, meaning}
use Rattle.rv32im_step.proofs.MeaningLaws.{keeps}
use Rattle.call_log.specs.Sent.{Span, sent}
use Rattle.mmap_rules.specs.Space.{own_in, writable_in}
use Rattle.vfork_exec.specs.Keyed.{find}
use Rattle.machine_world.specs.World.{Process, LiveSpace, World, pid_of, id_of}
use Rattle.machine_world.specs.Asks.{Ask, Row, replies, waits}
use Rattle.machine_world.specs.Rows.{row}
use Rattle.machine_world.specs.Event.{Trace, Outcome, went, full, number_of, args_of, ask_of, answered, exited, is_exit, waitid, cloned, exec, classed, asked, answer, effect, in_space, by_process, at_process, event, stray_in, stray}
use Rattle.machine_world.specs.Ages.{Follows, most_changes, kept_calls, most_at_boot}
use Rattle.machine_world.proofs.Aging.{events_age_files}
use Rattle.alone_laws.specs.Sound.{IsSound}
use Rattle.alone_laws.proofs.RowSpaces.{LeavesSpace, row_leaves, row-munmap, row-mmap2}
use Rattle.memory_world.specs.Physical.{Physical, in_memory, shown_space, After, after, no_room, carried, answered_in, waitid_in, classed_in, asked_in, answer_in, effect_in, in_space_in, by_process_in, at_process_in, next_meaning, carried_out, has_stray, event_in}
use Rattle.memory_world.specs.Wider.{Widens}
use Rattle.memory_world.specs.After.{AfterHas}
use Rattle.memory_world.specs.Growth.{LeavesPrograms}
use Rattle.memory_world.proofs.Sub.{sent_sub}
use Rattle.memory_world.proofs.Widened.{wide_meaning}
use Rattle.memory_world.proofs.Moves.{event_in_calm}
use Rattle.memory_world.proofs.Growth.{events_leave_programs}
use Rattle.go_on_laws.specs.Alike.{AreHeaders, Stands}
use Rattle.go_on_laws.specs.Laws.{Comes, LeadsTo, EventsGoOn, FullEventsGoOn}
use Rattle.go_on_laws.proofs.Pages.{may_own, may_inside}
use Rattle.go_on_laws.proofs.Behind.{has_later, has_pages, behind_shown, Came, Goes, goes_settled}
use Rattle.go_on_laws.proofs.Writes.{bytes_are, goes_stepped, goes_replied}
use Rattle.go_on_laws.proofs.Ends.{goes_trapped, goes_waited, goes_exited, goes_cloned, goes_waitid}
use Rattle.go_on_laws.proofs.Unmaps.{goes_munmap}
use Rattle.go_on_laws.proofs.Maps.{goes_mmap2}
use Rattle.go_on_laws.proofs.Execs.{goes_exec}

-- ---- the classes of calls: those that write nothing go by themselves

goes_classes : (p : Physical) (x y z u : Bool) (e w c l r : Outcome) (w_in r_in : After) → (y ≡ true → (z || u) ≡ false) → Goes p e (carried p p.memory e) → Goes p w w_in
    → Goes p c (carried p p.memory c) → Goes p l (carried p p.memory l) → Goes p r r_in
    → Goes p (if x then e else if y then w else if z then c else if u then l else r)
    (if x || z || u then carried p p.memory (if x then e else if y then w else if z then c else if u then l else r) else if y then w_in else r_in)
goes_classes p true y z u e w c l r w_in r_in apart he hw hc hl hr = he
goes_classes p false true true u e w c l r w_in r_in apart he hw hc hl hr = absurd (let no = apart refl in cc)
goes_classes p false true false true e w c l r w_in r_in apart he hw hc hl hr = absurd (let no = apart refl in cc)
goes_classes p false true false false e w c l r w_in r_in apart he hw hc hl hr = hw
goes_classes p false false true u e w c l r w_in r_in apart he hw hc hl hr = hc
goes_classes p false false false true e w c l r w_in r_in apart he hw hc hl hr = hl
goes_classes p false false false false e w c l r w_in r_in apart he hw hc hl hr = hr

module _ (p : Physical) (sound : IsSound p.world) (stands : Stands p.world p) (q : Process) (s : LiveSpace) (has : find id_of q.space p.world.spaces ≡ Some s) where
  module _ (bytes : List ℕ) where
    abbrev the_ask : Ask
    the_ask = ask_of p.world q s.space bytes

    goes_same : (r : Row) → LeavesSpace s.space r → Goes p (answered p.world the_ask r) (answered_in p the_ask r)
    goes_same (replies r) same = goes_replied p sound stands q s has bytes r same
    goes_same (waits state) same = goes_waited p sound stands q state

    goes_row : Goes p (answered p.world the_ask (row the_ask)) (answered_in p the_ask (row the_ask))
    goes_row = elim (cases_Bool (number_of q.regs == 215)) [
      | inl munmap ↦
          subst (λ (r : Row). Goes p (answered p.world the_ask r) (answered_in p the_ask r)) (sym (row-munmap the_ask (eqb-true (number_of q.regs) 215 munmap)))
          (goes_munmap p sound stands q s has bytes)
      | inr other ↦ elim (cases_Bool (number_of q.regs == 222)) [
        | inl mmap2 ↦
            subst (λ (r : Row). Goes p (answered p.world the_ask r) (answered_in p the_ask r)) (sym (row-mmap2 the_ask (eqb-true (number_of q.regs) 222 mmap2)))
            (goes_mmap2 p sound stands q s has bytes)
        | inr neither ↦ goes_same (row the_ask) (row_leaves the_ask other neither)
      ]
    ]

    goes_classed : Goes p (classed p.world the_ask) (classed_in p the_ask)
    goes_classed =
        goes_classes p (is_exit (number_of q.regs)) (number_of q.regs == 95) (number_of q.regs == 220) (number_of q.regs == 221) (exited p.world the_ask) (waitid p.world the_ask)
        (cloned p.world the_ask) (exec p.world the_ask) (answered p.world the_ask (row the_ask)) (waitid_in p the_ask) (answered_in p the_ask (row the_ask))
        (λ is. ap (λ (n : ℕ). n == 220 || n == 221) (eqb-true (number_of q.regs) 95 is)) (goes_exited p sound stands q s has bytes) (goes_waitid p sound stands q s has bytes)
        (goes_cloned p sound stands q s has bytes) (goes_exec p sound stands q s has bytes) goes_row

  goes_asked : (o : Result (List ℕ) Span) → sent (number_of q.regs) (args_of q.regs) s.space.bytes ≡ o
      → Goes p (asked p.world q s.space o) (asked_in p q s.space (sent (number_of q.regs) (args_of q.regs) p.memory))
  goes_asked (Err span) is = tt
  goes_asked (Ok bytes) is =
      let reads : sent (number_of q.regs) (args_of q.regs) p.memory ≡ Ok bytes =
      sent_sub (own_in s.space.maps) p.memory (number_of q.regs) (args_of q.regs) bytes
      (ap (sent (number_of q.regs) (args_of q.regs)) (sym (bytes_are p sound stands q.space s has)) ∙ is) in
      subst (λ (o : Result (List ℕ) Span). Goes p (classed p.world (ask_of p.world q s.space bytes)) (asked_in p q s.space o)) (sym reads) (goes_classed bytes)

  goes_answer : Goes p (answer p.world q s.space) (answer_in p q s.space)
  unfolding answer answer_in
  goes_answer = goes_asked (sent (number_of q.regs) (args_of q.regs) s.space.bytes) refl

  -- ---- an instruction

  goes_effect : (small large : Meaning) → meaning q.regs s.space.bytes (writable_in s.space.maps) ≡ small → Widens (own_in s.space.maps) (writable_in s.space.maps) p.memory small large
      → Goes p (effect p.world q s.space small) (effect_in p q s.space large)
  goes_effect (next regs part) (next there all) is (same, grows) =
      subst (λ r. Goes p (effect p.world q s.space (next regs part)) (effect_in p q s.space (next r all))) (sym same)
      (goes_stepped p sound stands q s has regs part all grows
      (λ a was. (keeps q.regs regs s.space.bytes part (writable_in s.space.maps) is).there a ∙ ap (λ (f : Bytes). is_some (f a)) (bytes_are p sound stands q.space s has) ∙ was))
  goes_effect call call is wide = goes_settled p (answer p.world q s.space) (answer_in p q s.space) goes_answer
  goes_effect (trap signal) (trap other) is same =
      subst (λ n. Goes p (effect p.world q s.space (trap signal)) (effect_in p q s.space (trap n))) (sym same) (goes_settled p _ _ (goes_trapped p sound stands q signal))
  goes_effect (refused access) large is wide = tt
  goes_effect (next regs part) call is wide = absurd wide
  goes_effect (next regs part) (trap signal) is wide = absurd wide
  goes_effect (next regs part) (refused access) is wide = absurd wide
  goes_effect call (next regs all) is wide = absurd wide
  goes_effect call (trap signal) is wide = absurd wide
  goes_effect call (refused access) is wide = absurd wide
  goes_effect (trap signal) (next regs all) is wide = absurd wide
  goes_effect (trap signal) call is wide = absurd wide
  goes_effect (trap signal) (refused access) is wide = absurd wide

  goes_step : Goes p (effect p.world q s.space (meaning q.regs s.space.bytes (writable_in s.space.maps))) (effect_in p q s.space (next_meaning p q))
  goes_step =
      goes_effect (meaning q.regs s.space.bytes (writable_in s.space.maps)) (next_meaning p q) refl
      (subst (λ (bytes : Bytes). Widens (own_in s.space.maps) (writable_in s.space.maps) p.memory (meaning q.regs bytes (writable_in s.space.maps)) (next_meaning p q))
      (sym (bytes_are p sound stands q.space s has))
      (wide_meaning (own_in s.space.maps) (writable_in s.space.maps) (in_memory p.world) q.regs p.memory (may_own p.world sound q.space s has) (may_inside p.world sound q.space s has)))

-- ---- an event

module _ (p : Physical) (sound : IsSound p.world) (stands : Stands p.world p) where
  goes_space : (q : Process) (o : Option LiveSpace) → find id_of q.space p.world.spaces ≡ o
      → Goes p (in_space (λ q s. effect p.world q s (meaning q.regs s.bytes (writable_in s.maps))) q o) (in_space_in (λ q s. effect_in p q s (next_meaning p q)) q o)
  goes_space q None has = refl
  goes_space q (Some s) has = goes_step p sound stands q s has

  goes_process : (o : Option Process)
      → Goes p (by_process p.world.spaces (λ q s. effect p.world q s (meaning q.regs s.bytes (writable_in s.maps))) o) (by_process_in p.world.spaces (λ q s. effect_in p q s (next_meaning p q)) o)
  goes_process None = refl
  goes_process (Some q) = goes_space q (find id_of q.space p.world.spaces) refl

  pub goes_event : (pid : ℕ) → Goes p (event p.world pid) (carried_out p pid)
  unfolding event at_process carried_out at_process_in
  goes_event pid = goes_process (find pid_of pid p.world.procs)

-- where it isn't the first that strays it is as it is carried out
both_none : (b : Bool) (o : Option Access) → o ≡ None → (if b then None else o) ≡ None
both_none true o is = refl
both_none false o is = is

pub calm : (p : Physical) (pid : ℕ) (o : Outcome) → event p.world pid ≡ o → stray_in o ≡ None → event_in p pid ≡ carried_out p pid
unfolding stray
calm p pid o is none = event_in_calm p pid (both_none (has_stray p.world.notes) (stray p.world pid) (ap stray_in is ∙ none))

low_enough : (w : World) → IsSound w → most_at_boot + kept_calls w.notes < most_changes
low_enough w sound = let few = sound.calls in omega (arith, few)

module _ (p : Physical) (pid : ℕ) (now : World) (t : Trace) (sound : IsSound p.world) (stands : Stands p.world p) (is : event p.world pid ≡ went now t) where
  came : Came p now t.over (carried_out p pid)
  came = subst (λ (o : Outcome). Goes p o (carried_out p pid)) is (goes_event p sound stands pid)

  same_event : event_in p pid ≡ after came.behind t.over
  same_event = calm p pid (went now t) is refl ∙ came.is

  same_pages : now.rest.pages ≡ p.world.rest.pages
  same_pages =
      let left : LeavesPrograms p.world came.behind.world = subst (AfterHas (LeavesPrograms p.world)) same_event (events_leave_programs p pid) in
      ap (λ (w : World). w.rest.pages) (sym came.world) ∙ left.pages

  follows : Follows p.world.rest.tree now.rest.tree
  follows = (events_age_files p.world pid now t (most_at_boot + kept_calls p.world.notes) sound.changes (low_enough p.world sound) is).0

  leads_to : LeadsTo p pid now t.over
  leads_to = record {
    behind = came.behind;
    comes = (came.is, same_event);
    stands = record {
      world = came.world;
      shown = subst (λ (w : World). map (shown_space came.behind.memory) w.spaces ≡ w.spaces) (sym came.world)
          (behind_shown p.world now.loads now.spaces came.behind.memory came.left);
      all = λ a. came.left.all a ∙ ap (λ (n : ℕ). nat_le (2 ^ 31) a && nat_lt a (2 ^ 31 + 4096 * n)) (sym same_pages);
      copies = λ i s found j m there.
          has_pages came.behind.memory now.rest.tree m m.source
          (has_later came.behind.memory p.world.rest.tree now.rest.tree m m.source follows ((came.left.each i s found).files j m there));
      headers = subst AreHeaders (sym came.headers) stands.headers;
    };
  }

pub events_go_on : EventsGoOn
events_go_on w p pid now t sound stands is =
    subst (λ (v : World). IsSound v → Stands v p → event v pid ≡ went now t → LeadsTo p pid now t.over) stands.world (leads_to p pid now t) sound stands is

full_here : (p : Physical) (pid : ℕ) → IsSound p.world → Stands p.world p → event p.world pid ≡ full → Comes p pid (no_room p)
full_here p pid sound stands is =
    let same : carried_out p pid ≡ no_room p = subst (λ (o : Outcome). Goes p o (carried_out p pid)) is (goes_event p sound stands pid) in
    (same, calm p pid full is refl ∙ same)

pub full_events_go_on : FullEventsGoOn
full_events_go_on w p pid sound stands is =
    subst (λ (v : World). IsSound v → Stands v p → event v pid ≡ full → Comes p pid (no_room p)) stands.world (full_here p pid) sound stands is

-- The hits of instructions of one process.
use Rattle.std.proofs.Common.{get_or, ◌≡◌, ℕ, ◌+◌, Bool, true, false, List, length, ◌++◌, Option, Some, refl, sym, ap, subst, ◌∙◌}
use Rattle.byte_words.specs.ByteMap.{Bytes}
use Rattle.rv32im_step.specs.declared.regs.Regs.{Regs}
use Rattle.rv32im_step.specs.declared.stop.Stop.{Stop}
use Rattle.rv32im_step.specs.Asked.{Asked}
use Rattle.mmap_rules.specs.declared.page_owner.PageOwner.{PageOwner}
use Rattle.mmap_rules.specs.Owners.{owns}
use Rattle.mmap_rules.specs.Space.{own_in, writable_in}
use Rattle.mmap_rules.specs.Held.{Held}
use Rattle.region_watch.specs.declared.mode.Mode.{Mode}
use Rattle.region_watch.specs.Private.{only, physical, own_bytes, passes, passed_bytes, kept_bytes}
use Rattle.region_watch.specs.Instructions.{Ran, ran, instructions, all_asked}
use Rattle.vfork_exec.specs.declared.entry.Entry.{Entry}
use Rattle.vfork_exec.specs.Procs.{value_at}
use Rattle.machine_world.specs.World.{LiveSpace}
use Rattle.machine_world.specs.Turns.{Walk, turn}
use Rattle.machine_world.specs.Courses.{Leads}
use Rattle.machine_world.proofs.TurnLaws.{turn_used}
use Rattle.memory_world.specs.Physical.{Physical, in_memory, turn_in, has_stray}
use Rattle.memory_world.specs.Physical.{WalkIn}
use Rattle.memory_world.specs.Wider.{IsWithin}
use Rattle.memory_world.specs.Courses.{LeadsIn}
use Rattle.memory_world.proofs.TurnsIn.{turn_in_used}
use Rattle.kept_parts.specs.declared.task.Task.{Task}
use Rattle.region_watch.specs.declared.mode.Mode.TheVariants.{Halt, GoOn}
use Rattle.kept_parts.specs.Kept.{Kept}
use Rattle.kept_parts.specs.Reach.{Reaches}
use Rattle.kept_parts.specs.Regular.{IsRegular}
use Rattle.kept_parts.specs.Stands.{About, later, private_bytes, private_of, process_of, world_of}
use Rattle.kept_parts.specs.InMemory.{physical_of}
use Rattle.watch_points.specs.declared.hits.Hit.{Hit}
use Rattle.watch_points.specs.declared.point.PointKind.{PointKind}
use Rattle.watch_points.specs.declared.span.Span.{Span}
use Rattle.watch_points.specs.Points.{Found, hits_in, with_hits}
use Rattle.flat_machine.specs.State.{is_whole}
use Rattle.flat_machine.specs.Hits.{turn_hits, turn_hits_in}
use Rattle.flat_machine.specs.HitsLeft.{HitsLead}
use Rattle.flat_machine.proofs.Within.{writable_own}
use Rattle.flat_machine.proofs.Passed.{owned_asked}
use Rattle.flat_machine.proofs.Advanced.{Ranged, after, lives_in, has_in, left}
use Rattle.flat_machine.proofs.AdvancedIn.{Advances, by_table, in_memory_is, lives_old, has_old, may_inside, whole_read, whole_ran}
use Rattle.flat_machine.proofs.HitsAsked.{Alike, all_alike}
use Rattle.flat_machine.proofs.HitsOn.{lead_by, run_hits, run_hits_in}

-- a part that is all of it
abbrev all : ℕ → Bool
all a = true

all_of : (m : Bytes) → only all m ≡ m
unfolding only
all_of m = refl

module _ (kind : PointKind) (spans : List Span) where
  -- those that were carried out
  record Done (pid : ℕ) (wide : ℕ → Bool) (regs : Regs) (mem : Bytes) (done : ℕ) (asks : List Asked) : Type 0 where
    same : hits_in kind spans pid asks ≡ hits_in kind spans pid (all_asked done wide regs mem)
    whole : (instructions done wide regs mem).done ≡ done

  done_of : (pid : ℕ) (wide : ℕ → Bool) (regs : Regs) (mem : Bytes) (r : Ran) (asks : List Asked) (done : ℕ) → r.done ≡ done → Alike kind spans pid wide regs mem r asks
      → Done pid wide regs mem done asks
  done_of pid wide regs mem r asks done is x =
      let P : ℕ → Type 0 = λ n. Done pid wide regs mem n asks in
      subst P is (record { same = x.same; whole = x.all })

  -- over the same bytes
  same_done : (pid count : ℕ) (w : ℕ → Bool) (regs : Regs) (m : Bytes) (done : ℕ) → (instructions count w regs m).done ≡ done → Done pid w regs m done (all_asked count w regs m)
  same_done pid count w regs m done is =
      let P : Bytes → Type 0 = λ b. Alike kind spans pid w regs m (instructions count w regs b) (all_asked count w regs b) in
      done_of pid w regs m (instructions count w regs m) (all_asked count w regs m) done is
      (subst P (all_of m) (all_alike kind spans pid count all w w regs m (λ a is. refl) (λ a is. is)))

  module _ (k : Kept) (pid count : ℕ) (e : Entry Task) (h : Held) (table : List PageOwner) (now : List ℕ) (regs : Regs) (done : ℕ) (stop : Stop)
      (r : Ranged k pid count e h table now regs done stop) where
    abbrev asks : List Asked
    asks = all_asked count (owns table true) e.value.regs (own_bytes table k.mem)

    abbrev new : Kept
    new = after k pid e.value regs now done

    -- ---- in the world

    own_asks : Reaches Halt (length k.regions) h table → asks ≡ all_asked count (writable_in h.maps) e.value.regs (private_bytes k.mem h)
    unfolding private_bytes
    own_asks reaches =
        ap (λ (w : ℕ → Bool). all_asked count w e.value.regs (own_bytes table k.mem)) reaches.writes
        ∙ ap (λ (o : ℕ → Bool). all_asked count (writable_in h.maps) e.value.regs (only o (physical k.mem))) reaches.reads

    own_hits : Reaches Halt (length k.regions) h table → (a : About) → Leads pid (world_of a k) done (world_of (later done a) new)
        → (n : ℕ) → turn_hits kind spans pid (done + n) (world_of a k) ≡ hits_in kind spans pid asks ++ turn_hits kind spans pid n (world_of (later done a) new)
    own_hits reaches a leads n =
        let s : LiveSpace = record { id = e.value.space; space = private_of k.mem h } in
        let d = same_done pid count (writable_in h.maps) e.value.regs (private_bytes k.mem h) done
        (ap (λ (x : Ran). x.done) (sym (left k pid count e h table now regs done stop r (length k.regions) reaches))) in
        run_hits kind spans pid done (world_of a k) (process_of e) s (lives_in k pid count e h table now regs done stop r a) (has_in k pid count e h table now regs done stop r a) d.whole n
        ∙ ap (λ (xs : List Hit). xs ++ turn_hits kind spans pid n (turn done pid (world_of a k)).world) (sym d.same ∙ ap (hits_in kind spans pid) (sym (own_asks reaches)))
        ∙ ap (λ (w : Walk). hits_in kind spans pid asks ++ turn_hits kind spans pid n w.world) (turn_used pid (world_of a k) (world_of (later done a) new) done leads)

    -- ---- in the one memory

    module _ (headers : List (List ℕ)) (a : About) where
      abbrev old : Physical
      old = physical_of headers a k

      own_done : Reaches Halt (length k.regions) h table → Done pid (in_memory old.world) e.value.regs old.memory done asks
      unfolding physical_of private_bytes
      own_done reaches =
          let small = all_alike kind spans pid count (own_in h.maps) (writable_in h.maps) (in_memory old.world) e.value.regs old.memory (writable_own h.maps)
          (subst (λ (m : ℕ → Bool). IsWithin m (writable_in h.maps)) (sym (in_memory_is headers a k)) (may_inside headers a k pid count e h table now regs done stop r reaches)) in
          subst (Done pid (in_memory old.world) e.value.regs old.memory done) (sym (own_asks reaches))
          (done_of pid (in_memory old.world) e.value.regs old.memory (instructions count (writable_in h.maps) e.value.regs (private_bytes k.mem h))
          (all_asked count (writable_in h.maps) e.value.regs (private_bytes k.mem h)) done
          (ap (λ (x : Ran). x.done) (sym (left k pid count e h table now regs done stop r (length k.regions) reaches))) small)

      whole_done : Reaches GoOn (length k.regions) h table → has_stray k.notes ≡ true → Done pid (in_memory old.world) e.value.regs old.memory done asks
      unfolding physical_of
      whole_done reaches strayed =
          let asks_are : asks ≡ all_asked count (in_memory old.world) e.value.regs old.memory =
          ap (λ (w : ℕ → Bool). all_asked count w e.value.regs (own_bytes table k.mem)) (reaches.writes ∙ sym (in_memory_is headers a k))
          ∙ ap (λ (m : Bytes). all_asked count (in_memory old.world) e.value.regs m)
          (whole_read headers a k pid count e h table now regs done stop r reaches strayed k.mem r.regular.memory) in
          subst (Done pid (in_memory old.world) e.value.regs old.memory done) (sym asks_are)
          (same_done pid count (in_memory old.world) e.value.regs old.memory done
          (ap (λ (x : Ran). x.done) (sym (whole_ran headers a k pid count e h table now regs done stop r reaches strayed))))

      in_hits : Done pid (in_memory old.world) e.value.regs old.memory done asks → LeadsIn pid old done (physical_of headers (later done a) new)
          → (n : ℕ) → turn_hits_in kind spans pid (done + n) old ≡ hits_in kind spans pid asks ++ turn_hits_in kind spans pid n (physical_of headers (later done a) new)
      in_hits d leads n =
          let s : LiveSpace = record { id = e.value.space; space = private_of k.mem h } in
          run_hits_in kind spans pid done old (process_of e) s (lives_old headers a k pid count e h table now regs done stop r) (has_old headers a k pid count e h table now regs done stop r) d.whole n
          ∙ ap (λ (xs : List Hit). xs ++ turn_hits_in kind spans pid n (turn_in done pid old).now) (sym d.same)
          ∙ ap (λ (w : WalkIn). hits_in kind spans pid asks ++ turn_hits_in kind spans pid n w.now) (turn_in_used pid old (physical_of headers (later done a) new) done leads)

-- ---- as the code has it

pub record HitsAdvance (kind : PointKind) (spans : List Span) (before found : Found) (reach : Mode) (k now : Kept) (pid done : ℕ) : Type 0 where
  pub own : reach ≡ Halt → (a : About) → HitsLead (turn_hits kind spans pid) before found (world_of a k) done (world_of (later done a) now)
  pub memory : (headers : List (List ℕ)) (a : About) → HitsLead (turn_hits_in kind spans pid) before found (physical_of headers a k) done (physical_of headers (later done a) now)

hits_within : (kind : PointKind) (spans : List Span) (before : Found) (reach : Mode) (k : Kept) (pid count : ℕ) (e : Entry Task) (h : Held) (table : List PageOwner) (now : List ℕ) (regs : Regs) (done : ℕ) (stop : Stop)
    → Ranged k pid count e h table now regs done stop → Reaches reach (length k.regions) h table → has_stray k.notes ≡ is_whole reach
    → Advances reach k (after k pid e.value regs now done) pid count done stop
    → HitsAdvance kind spans before (with_hits before (hits_in kind spans pid (all_asked count (owns table true) e.value.regs (own_bytes table k.mem)))) reach k (after k pid e.value regs now done) pid done
hits_within kind spans before Halt k pid count e h table now regs done stop r reaches strayed x = record {
  own = λ own a. lead_by (turn_hits kind spans pid) before _ (world_of a k) (world_of (later done a) (after k pid e.value regs now done)) done
      (own_hits kind spans k pid count e h table now regs done stop r reaches a (x.leads own a));
  memory = λ headers a. lead_by (turn_hits_in kind spans pid) before _ (physical_of headers a k) (physical_of headers (later done a) (after k pid e.value regs now done)) done
      (in_hits kind spans k pid count e h table now regs done stop r headers a (own_done kind spans k pid count e h table now regs done stop r headers a reaches) (x.leads_in headers a));
}
hits_within kind spans before GoOn k pid count e h table now regs done stop r reaches strayed x = record {
  own = λ own. absurd cc;
  memory = λ headers a. lead_by (turn_hits_in kind spans pid) before _ (physical_of headers a k) (physical_of headers (later done a) (after k pid e.value regs now done)) done
      (in_hits kind spans k pid count e h table now regs done stop r headers a (whole_done kind spans k pid count e h table now regs done stop r headers a reaches strayed) (x.leads_in headers a));
}

pub advance_hits : (kind : PointKind) (spans : List Span) (before found : Found) (reach : Mode) (k : Kept) (pid count : ℕ) (task : Task) (x : Option Held) (h : Held) (mode : Mode) (table seen : List PageOwner)
    (was now : List ℕ) (regs : Regs) (done : ℕ) (stop : Stop)
    → found ≡ with_hits before (hits_in kind spans pid (all_asked count (passes mode seen true) task.regs (passed_bytes mode seen was)))
    → Advances reach k (after k pid task regs now done) pid count done stop
    → IsRegular k → has_stray k.notes ≡ is_whole reach → value_at k.procs pid ≡ Some task → x ≡ get_or k.spaces task.space x → x ≡ Some h
    → owns table false ≡ own_in h.maps → owns table true ≡ writable_in h.maps → length table ≡ h.pages → mode ≡ reach → seen ≡ table → was ≡ k.mem
    → ran regs (passed_bytes mode seen now) done stop ≡ instructions count (passes mode seen true) task.regs (passed_bytes mode seen was)
    → kept_bytes mode seen now ≡ kept_bytes mode seen was → length now ≡ length was → HitsAdvance kind spans before found reach k (after k pid task regs now done) pid done
advance_hits kind spans before found reach k pid count task x h mode table seen was now regs done stop follow advanced regular strayed is at space own writes long within sees old leaves same stays =
    let t = by_table reach k pid count task x h mode table seen was now regs done stop regular is at space own writes long within sees old leaves same stays in
    let asks : all_asked count (passes mode seen true) task.regs (passed_bytes mode seen was) ≡ all_asked count (owns t.passed.table true) t.entry.value.regs (own_bytes t.passed.table k.mem) =
    ap (λ (o : List PageOwner). all_asked count (passes mode o true) task.regs (passed_bytes mode o was)) sees
    ∙ ap (λ (m : List ℕ). all_asked count (passes mode table true) task.regs (passed_bytes mode table m)) old
    ∙ ap (λ (v : Task). all_asked count (passes mode table true) v.regs (passed_bytes mode table k.mem)) (sym t.value)
    ∙ owned_asked reach (length k.regions) h mode table t.passed k.mem now count t.entry.value.regs in
    let P : Task → Type 0 = λ v. Advances reach k (after k pid v regs now done) pid count done stop in
    let here = hits_within kind spans before reach k pid count t.entry h t.passed.table now regs done stop t.ranged t.passed.reaches strayed (subst P (sym t.value) advanced) in
    let Q : Task → Found → Type 0 = λ v f. HitsAdvance kind spans before f reach k (after k pid v regs now done) pid done in
    subst (λ (f : Found). Q task f) (sym (follow ∙ ap (λ (xs : List Asked). with_hits before (hits_in kind spans pid xs)) asks))
    (subst (λ (v : Task). Q v (with_hits before (hits_in kind spans pid (all_asked count (owns t.passed.table true) t.entry.value.regs (own_bytes t.passed.table k.mem))))) t.value here)

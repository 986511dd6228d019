-- What comes of an end, in the world and in the parts.
use Rattle.std.proofs.Common.{◌≡◌, ℕ, ◌+◌, true, List, [], ◌∷◌, None, refl, sym, ap, subst, ◌∙◌}
use Rattle.call_log.specs.declared.how.How.TheVariants.{Signal}
use Rattle.call_log.specs.Notes.{Note, end_note}
use Rattle.mmap_rules.specs.Held.{Held}
use Rattle.vfork_exec.specs.declared.entry.Entry.{Entry}
use Rattle.vfork_exec.specs.Procs.{Lives}
use Rattle.machine_world.specs.World.{Recording}
use Rattle.machine_world.specs.Event.{Outcome, went, counted_in, departed, ended, trapped, at_process}
use Rattle.kept_parts.specs.declared.task.Task.{Task}
use Rattle.file_calls.specs.declared.call.Call.{Call}
use Rattle.kept_parts.specs.Kept.{Kept}
use Rattle.kept_parts.specs.Regular.{Regular}
use Rattle.kept_parts.specs.Stands.{About, later, process_of, world_of}
use Rattle.kept_parts.specs.Serves.{Died}
use Rattle.kept_parts.specs.Gone.{gone}
use Rattle.kept_parts.specs.Recorded.{event_recorded}
use Rattle.kept_parts.specs.Calls.{LivesIn, noted_call, exit_of, after_exit}
use Rattle.kept_parts.proofs.Common.RunningProcess.{pid_found, runs_in}
use Rattle.kept_parts.proofs.Ends.RegularWithout.{gone_noted}
use Rattle.kept_parts.proofs.Common.NextWorlds.{gone_world, gone_dead}
use Rattle.kept_parts.proofs.Replies.Outcomes.{acts_is}

module _ (a : About) (k : Kept) (pid : ℕ) (e : Entry Task) (h : Held) (runs : LivesIn k pid e h) (signal : ℕ) where
  abbrev after_end : Kept
  after_end = record (gone k e h (Signal signal)) { notes = end_note pid (Signal signal) ∷ k.notes; recording = event_recorded k.recording e.value.space }

  after_end_world : world_of (later 1 a) after_end ≡ counted_in e.value.space (ended (world_of a k) (process_of e) (Signal signal))
  unfolding world_of ended
  after_end_world =
      gone_world k pid e h runs (Signal signal) a 1 (end_note pid (Signal signal) ∷ k.notes) (event_recorded k.recording e.value.space) refl
      ∙ ap (λ (n : ℕ). record (departed (world_of a k) (process_of e) (Signal signal)) { notes = end_note n (Signal signal) ∷ k.notes; events = a.events + 1; recording = event_recorded k.recording e.value.space })
      (pid_found k.procs pid e runs.lives)

  trapped_is : trapped (world_of a k) (process_of e) signal ≡ went (counted_in e.value.space (ended (world_of a k) (process_of e) (Signal signal))) (record { space = e.value.space; events = 1; items = []; begins = None; over = true })
  unfolding trapped
  trapped_is = refl

  pub end_serves : Died a (at_process (world_of a k) pid (λ p s. trapped (world_of a k) p signal)) after_end pid
  end_serves = subst (λ (o : Outcome). Died a o after_end pid) (sym (acts_is a k pid e h runs (λ p s. trapped (world_of a k) p signal) ∙ trapped_is)) (sym after_end_world, refl, gone_dead k pid e h runs (Signal signal))

-- what an exit leaves, where it was noted before the process went
pub exit_done : (k : Kept) (call : Call) (e : Entry Task) (h : Held) (new : Kept) (notes : List Note) (recording : Recording) → notes ≡ end_note call.pid (exit_of call) ∷ noted_call call 0 [] ∷ k.notes →
    recording ≡ event_recorded k.recording e.value.space → new ≡ gone (record k { notes = notes; recording = recording }) e h (exit_of call) → new ≡ after_exit k e h call
exit_done k call e h new notes recording is_noted is_recorded departs =
    departs ∙ gone_noted k e h (exit_of call) notes recording ∙ (λ i. record (gone k e h (exit_of call)) { notes = is_noted i; recording = is_recorded i })

-- the same of the parts that are left, where the end was noted before the process went
pub end_done : (a : About) (k : Kept) (pid signal : ℕ) → Regular k → Lives k.procs pid → (new : Kept) (notes : List Note) (recording : Recording) → notes ≡ end_note pid (Signal signal) ∷ k.notes →
    ((e : Entry Task) → (h : Held) → LivesIn k pid e h → recording ≡ event_recorded k.recording e.value.space) →
    ((e : Entry Task) → (h : Held) → LivesIn (record k { notes = notes; recording = recording }) pid e h → new ≡ gone (record k { notes = notes; recording = recording }) e h (Signal signal)) →
    Died a (at_process (world_of a k) pid (λ p s. trapped (world_of a k) p signal)) new pid
end_done a k pid signal regular lives new notes recording is_noted is_recorded departs =
    let r = runs_in k pid regular lives in
    let e : Entry Task = r.0 in
    let h : Held = r.1.0 in
    let runs : LivesIn k pid e h = r.1.1 in
    let is = departs e h (record { lives = runs.lives; home = runs.home }) ∙ gone_noted k e h (Signal signal) notes recording
    ∙ (λ i. record (gone k e h (Signal signal)) { notes = is_noted i; recording = is_recorded e h runs i }) in
    subst (λ (now : Kept). Died a (at_process (world_of a k) pid (λ p s. trapped (world_of a k) p signal)) now pid) (sym is) (end_serves a k pid e h runs signal)

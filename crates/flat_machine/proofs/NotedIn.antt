-- Stray notes: none comes with an event that goes in the private spaces, and none goes.
use Rattle.std.proofs.Common.{◌≡◌, ℕ, true, false, List, [], ◌∷◌, ◌++◌, refl, sym, ap, subst, ◌∙◌, append_assoc}
use Rattle.mmap_rules.specs.Space.{Space}
use Rattle.call_log.specs.Notes.{Note, call_note, load_note, end_note, stray_note}
use Rattle.machine_world.specs.World.{Process, Rest, World}
use Rattle.machine_world.specs.Asks.{Ask, Row, replies, waits}
use Rattle.machine_world.specs.Event.{Trace, went, ended, ask_of, event}
use Rattle.machine_world.specs.Rows.{row}
use Rattle.machine_world.proofs.EachChange.{Answers}
use Rattle.machine_world.proofs.ByEvents.{Answered, Happened, Keeps, by_event}
use Rattle.memory_world.specs.Physical.{has_stray}
use Rattle.memory_world.specs.Growth.{Adds}

abbrev Quiet : World → Type 0
Quiet w = has_stray w.notes ≡ false

abbrev Anything : Rest → Type 0
Anything rest = Unit {0}

any_row : (r : Row) → Answers Anything r
any_row (replies r) = tt
any_row (waits state) = tt

module _ (w : World) (quiet : Quiet w) where
  call_quiet : (a : Ask) → Answered (λ now t. Quiet now) Anything w a
  unfolding ended
  call_quiet a = record {
    reply = λ ended r m any room. quiet;
    wait = λ state. quiet;
    exit = λ room. quiet;
    fork = λ few room. quiet;
    load = λ f s page is fits room. quiet;
  }

  act_quiet : (p : Process) (s : Space) → Happened (λ now t. Quiet now) Anything w p s
  unfolding ended
  act_quiet p s = record {
    step = λ regs bytes. quiet;
    trap = λ signal. quiet;
    calls = λ bytes. call_quiet (ask_of w p s bytes);
  }

  event_quiet : (pid : ℕ) → Keeps Quiet (event w pid)
  event_quiet pid = by_event (λ now t. Quiet now) Anything (λ now t kept. kept) w tt pid (λ p s lives has. act_quiet p s.space) (λ p s bytes. any_row (row (ask_of w p s bytes)))

  pub went_quiet : (pid : ℕ) (now : World) (t : Trace) → event w pid ≡ went now t → has_stray now.notes ≡ false
  went_quiet pid now t is = subst (Keeps Quiet) is (event_quiet pid)

stray_behind : (more notes : List Note) → has_stray notes ≡ true → has_stray (more ++ notes) ≡ true
stray_behind [] notes was = was
stray_behind (call_note entry ∷ more) notes was = stray_behind more notes was
stray_behind (load_note load ∷ more) notes was = stray_behind more notes was
stray_behind (end_note pid how ∷ more) notes was = stray_behind more notes was
stray_behind (stray_note pid access ∷ more) notes was = refl

-- what was noted stays
pub adds_stray : (old now : World) → Adds old now → has_stray old.notes ≡ true → has_stray now.notes ≡ true
adds_stray old now adds was = let n = adds.0 in ap has_stray n.1 ∙ stray_behind n.0 old.notes was

pub adds_trans : (old mid new : World) → Adds old mid → Adds mid new → Adds old new
adds_trans old mid new x y =
    let m = x.0 in
    let n = y.0 in
    let c = x.1 in
    let d = y.1 in (
      (n.0 ++ m.0, n.1 ∙ ap (λ notes. n.0 ++ notes) m.1 ∙ sym (append_assoc n.0 m.0 old.notes)),
      (c.0 ++ d.0, d.1 ∙ ap (λ console. console ++ d.0) c.1 ∙ append_assoc old.rest.console c.0 d.0),
    )

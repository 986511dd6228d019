-- What holds of the list at every moment, call by call.
use Rattle.std.proofs.Common.{◌≡◌, ℕ, ◌+◌, ◌<◌, ◌≤◌, Bool, false, inl, inr, List, [], ◌∷◌, length, get_or, set, Some, refl, sym, ap, subst, ◌∙◌, arith, length-append}
use Rattle.std.specs.Prelude.{◌==◌, not, map, filter, IsSome}
use Rattle.std.proofs.lemmas.List.{length-map}
use Rattle.std.proofs.lemmas.List.Sums.{length-filter, count_by-le-length}
use Rattle.call_log.specs.declared.how.How.{How}
use Rattle.vfork_exec.specs.declared.family.Who.{Who}
use Rattle.vfork_exec.specs.declared.family.State.{State}
use Rattle.vfork_exec.specs.declared.family.State.TheVariants.{Ready, Lent}
use Rattle.vfork_exec.specs.declared.family.Ended.{Ended}
use Rattle.vfork_exec.specs.declared.entry.Entry.{Entry}
use Rattle.vfork_exec.specs.Keyed.{change, without, place_of, Falls}
use Rattle.vfork_exec.specs.Families.{ended_behind, without_first, is_child}
use Rattle.vfork_exec.specs.Procs.{Listed, Lives, process, pid_of, behind, with_state, with_value, with_entry, with_end, with_state_at, with_value_at, with_child, count, most_entries}
use Rattle.vfork_exec.proofs.Keyed.{decide, eqb_other, change_head, falls_change, falls_map, falls_without, length_change, length_gone, change_at, find_below}
use Rattle.vfork_exec.proofs.Places.{found, item_at}

length_first : (own : ℕ) (who : Who) (es : List Ended) → length (without_first own who es) ≤ length es
unfolding without_first
length_first own who [] = omega arith
length_first own who (e ∷ es) = elim (decide (is_child own who e.pid e.parent)) [
  | inl is ↦ rw is (omega arith)
  | inr is ↦ rw is (omega (arith, length_first own who es))
]

length_passing : (p : Ended → Bool) (es : List Ended) → length (filter p es) ≤ length es
length_passing p es = omega (arith, length-filter p es, count_by-le-length p es)

length_behind : (e : Ended) (es : List Ended) → length (ended_behind e es) ≤ length es + 1
unfolding ended_behind
length_behind e es =
    let few : length (filter (λ (child : Ended). not (child.parent == e.pid)) es) ≤ length es = length_passing (λ (child : Ended). not (child.parent == e.pid)) es in
    elim (decide (e.parent == 0)) [
      | inl is ↦ rw is (omega (arith, few, length-append (filter (λ (child : Ended). not (child.parent == e.pid)) es) []))
      | inr is ↦ rw is (omega (arith, few, length-append (filter (λ (child : Ended). not (child.parent == e.pid)) es) (e ∷ [])))
    ]

module _ {P : Type 0} where
  -- the numbers fall, and there are 64 at most
  abbrev pub Holds : Listed P → Type 0
  Holds s = Falls pid_of s.next_pid s.entries × (count s ≤ most_entries)

  pub holds_entry : (s : Listed P) (parent : ℕ) (value : P) → Holds s → count s < most_entries → Holds (with_entry s parent value)
  holds_entry s parent value h room = ((omega arith, h.0), omega (arith, room))

  -- one process changes, and keeps its number
  pub holds_change : (s : Listed P) (pid : ℕ) (f : Entry P → Entry P) → ((e : Entry P) → (f e).pid ≡ e.pid) → Holds s → Holds (record s { entries = change pid_of pid f s.entries })
  holds_change s pid f same h = (falls_change pid_of pid f same s.next_pid s.entries h.0, omega (arith, length_change pid_of pid f s.entries, h.1))

  pub holds_value : (s : Listed P) (pid : ℕ) (value : P) → Holds s → Holds (with_value_at s pid value)
  holds_value s pid value h = holds_change s pid (λ e. with_value e value) (λ e. refl) h

  pub holds_state : (s : Listed P) (pid : ℕ) (state : State) → Holds s → Holds (with_state_at s pid state)
  holds_state s pid state h = holds_change s pid (λ e. with_state e state) (λ e. refl) h

  -- the states of all change
  pub holds_states : (s : Listed P) (f : State → State) → Holds s → Holds (record s { entries = map (λ e. with_state e (f e.state)) s.entries })
  holds_states s f h =
      let g : Entry P → Entry P = λ e. with_state e (f e.state) in
      (falls_map pid_of pid_of 0 g (λ e. refl) s.next_pid s.entries h.0, omega (arith, length-map s.entries g, h.1))

  pub holds_first : (s : Listed P) (own : ℕ) (who : Who) → Holds s → Holds (record s { ended = without_first own who s.ended })
  holds_first s own who h = (h.0, omega (arith, length_first own who s.ended, h.1))

  pub holds_end : (s : Listed P) (gone : Entry P) (how : How) → process s gone.pid ≡ Some gone → Holds s → Holds (with_end s gone how)
  holds_end s gone how lives h =
      let f : Entry P → Entry P = behind gone.pid gone.parent in
      let rest = without pid_of gone.pid s.entries in (
        falls_map pid_of pid_of gone.pid f (λ e. refl) s.next_pid rest (falls_without pid_of gone.pid s.next_pid s.entries h.0),
        omega (arith, length-map rest f, length_gone pid_of gone.pid s.entries (subst IsSome (sym lives) refl), length_behind (record { pid = gone.pid; parent = gone.parent; how = how }) s.ended, h.1),
      )

  -- the list behind a write at the place of a process
  pub written : (f : Entry P → Entry P) (pid : ℕ) (items entries : List (Entry P)) (at : ℕ) (e : Entry P) → items ≡ entries → at ≡ place_of pid_of pid entries → at < length entries → e ≡ get_or items at e
      → set items at (f e) ≡ change pid_of pid f items
  written f pid items entries at e same place below is =
      let there : at ≡ place_of pid_of pid items = place ∙ ap (place_of pid_of pid) (sym same) in
      ap (λ n. set items n (f e)) there ∙ change_at pid_of pid f items e (item_at pid_of pid items at e there (subst (λ es. at < length es) (sym same) below) is)

  -- a child is added first, and then its parent stands still
  pub child_added : (s : Listed P) (parent : ℕ) (value : P) (n : ℕ) → Falls pid_of s.next_pid s.entries → Lives s parent → n ≡ s.next_pid → with_state_at (with_entry s parent value) parent (Lent n) ≡ with_child s parent value
  child_added s parent value n falls lives is =
      let x = found pid_of parent s.entries lives in
      let less : parent < s.next_pid = find_below pid_of parent s.next_pid s.entries x.0 falls x.1 in
      let e : Entry P = record { pid = s.next_pid; parent = parent; state = Ready; value = value } in
      ap (λ m. with_state_at (with_entry s parent value) parent (Lent m)) is
      ∙ ap (λ (xs : List (Entry P)). record (with_entry s parent value) { entries = xs }) (change_head pid_of parent (λ y. with_state y (Lent s.next_pid)) e s.entries false (eqb_other s.next_pid parent (omega (arith, less))))

pub holds_none : (P : Type 0) (n : ℕ) → Holds {P = P} (record { entries = []; ended = []; next_pid = n })
holds_none P n = (tt, omega arith)

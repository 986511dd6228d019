-- An instruction, a call that is answered and a wait keep what is told of the stays right, if rows are followed alone; and so does it
-- that those go on who wait on pipes.
use Rattle.std.proofs.Common.{◌≡◌, ℕ, ◌+◌, ◌<◌, Bool, true, false, List, [], ◌∷◌, ◌++◌, map, length, Some, None, Result, Ok, Err, refl, sym, ap, subst, ◌∙◌, arith}
use Rattle.std.specs.Prelude.{◌&&◌, slice_get, option_map, if◌then◌else◌}
use Rattle.std.proofs.lemmas.List.{append-nil}
use Rattle.byte_words.specs.ByteMap.{Bytes}
use Rattle.rv32im_step.specs.declared.regs.Regs.{Regs}
use Rattle.rv32im_step.specs.Meaning.{Meaning, next, call, meaning}
use Rattle.call_log.specs.Notes.{GotRange}
use Rattle.call_log.specs.Sent.{Span, sent}
use Rattle.mmap_rules.specs.Space.{Space, writable_in}
use Rattle.vfork_exec.specs.declared.family.State.{State}
use Rattle.vfork_exec.specs.declared.family.State.TheVariants.{Ready}
use Rattle.vfork_exec.specs.Keyed.{find, change}
use Rattle.vfork_exec.proofs.Keyed.{find_changed, find_beside_change}
use Rattle.flat_loader.specs.Alone.{Runner, Solo, Item, memory_of, writable_of, number_of, args_of, replied, put_got, is_same, is_call, with_items, solo_put, solo_called, solo_moved, solo_step, none_left}
use Rattle.machine_world.specs.World.{Process, LiveSpace, World, pid_of, id_of}
use Rattle.machine_world.specs.Asks.{Ask, Reply, Row, replies, waits}
use Rattle.machine_world.specs.Event.{Trace, Outcome, went, strays, full, idle, counted, stepped, ask_of, entry_of, item_of, room_for, served, put, waited, with_state, answered, awake, settled}
use Rattle.machine_world.proofs.States.{with_regs, with_own}
use Rattle.machine_world.proofs.Awake.{woke, all_roused_is}
use Rattle.machine_world.proofs.EachChange.{Answers}
use Rattle.alone_laws.specs.Stays.{Stay, change_at, longer, collect, runner_of, runners, alone_end, Agrees, kept_calls_of, loads_of, head_of, loaded_head, AreRight}
use Rattle.alone_laws.specs.Sound.{IsSound}
use Rattle.alone_laws.proofs.Lists.{eqb_same, length-change_at, map-change_at, change_at-same}
use Rattle.alone_laws.proofs.Runners.{runners_beside_change, runners_change, runners_same, runners_map}
use Rattle.alone_laws.proofs.Frame.{ranges_of, writable, found_below, agrees_same, BesideSpace, agree_after, entries_of, told_after}
use Rattle.alone_laws.proofs.Moved.{lenders, runs_first}
use Rattle.alone_laws.proofs.SoloRuns.{alone_more}

-- ---- a process in its space, before others that stand still, alone

abbrev pub solo_of : Process → List Runner → Space → Solo
solo_of p below s = record { stack = runner_of p ∷ below; memory = memory_of s }

-- alone, what a row replies is done as in the world, where its output m can be written
abbrev pub Follows : Process → List Runner → Space → Ask → Row → Type 0
Follows p below s a (replies r) =
    (m : Bytes) → put_got r.space.bytes (writable_in r.space.maps) r.got ≡ Ok m →
    solo_put (runner_of p) below (memory_of s) (item_of (entry_of a r.value r.got) m) (put_got s.bytes (writable_in s.maps) r.got)
    ≡ Some (solo_of (with_regs p (replied p.regs r.value)) below (record r.space { bytes = m }))
Follows p below s a (waits state) = Unit {0}

-- ---- the item tells of the call

same_words : (xs : List ℕ) → is_same xs xs ≡ true
same_words [] = refl
same_words (x ∷ xs) = let h = eqb_same x x refl in let t = same_words xs in rw (h, t) refl

pub tells : (p : Process) (s : Space) (w : World) (bytes : List ℕ) (value : ℕ) (got : List GotRange) → is_call (runner_of p) bytes (entry_of (ask_of w p s bytes) value got) ≡ true
unfolding is_call
tells p s w bytes value got =
    let pid = eqb_same p.pid p.pid refl in
    let number = eqb_same (number_of p.regs) (number_of p.regs) refl in
    let args = same_words (args_of p.regs) in
    let read = same_words bytes in
    (λ i. ((pid i && number i) && args i) && read i)

-- ---- one event

abbrev pub Keeps : List Stay → Outcome → Type 0
Keeps ys (went now t) = AreRight (collect ys t) now
Keeps ys (strays access) = Unit {0}
Keeps ys full = Unit {0}
Keeps ys idle = Unit {0}

pub keeps_if : (ys : List Stay) (b : Bool) (x y : Outcome) → Keeps ys x → Keeps ys y → Keeps ys (if b then x else y)
keeps_if ys true x y hx hy = hx
keeps_if ys false x y hx hy = hy

pub keeps_test : (ys : List Stay) (b : Bool) (x y : Outcome) → (b ≡ true → Keeps ys x) → (b ≡ false → Keeps ys y) → Keeps ys (if b then x else y)
keeps_test ys true x y hx hy = hx refl
keeps_test ys false x y hx hy = hy refl

-- those that go on keep their registers and spaces
awake_right : (ys : List Stay) (w : World) → AreRight ys w → AreRight ys (awake w)
awake_right ys w right = record {
  count = right.count;
  loads = right.loads;
  agree = λ i y there.
      agrees_same i w.procs (awake w).procs y (find id_of i w.spaces)
      (ap (runners i) (all_roused_is w.rest.files.changed w.procs) ∙ runners_map (woke w.rest.files.changed) (λ q. refl) (λ q. refl) i w.procs) (right.agree i y there);
  told = right.told;
}

pub keeps_settled : (ys : List Stay) (o : Outcome) → Keeps ys o → Keeps ys (settled o)
unfolding settled
keeps_settled ys (went now t) h = awake_right (collect ys t) now h
keeps_settled ys (strays access) h = tt
keeps_settled ys full h = tt
keeps_settled ys idle h = tt

module _ (ys : List Stay) (w : World) (sound : IsSound w) (right : AreRight ys w) (p : Process) (s : LiveSpace)
    (lives : find pid_of p.pid w.procs ≡ Some p) (ready : p.state ≡ Ready) (has : find id_of p.space w.spaces ≡ Some s) where
  -- those that stand still in its space
  abbrev pub below : List Runner
  below = map runner_of (lenders w sound p.pid p s lives ready has)

  abbrev pub solo : Solo
  solo = solo_of p below s.space

  pub first : runners p.space w.procs ≡ runner_of p ∷ below
  first = runs_first w sound p.pid p s lives ready has

  pub given : p.space < w.loads
  given = found_below id_of p.space w.loads w.spaces s sound.numbers has

  pub has_stay : p.space < length ys
  has_stay = let less = given in omega (arith, less, right.count)

  -- the stay of its space leaves it alone there
  pub end_of : (y : Stay) → slice_get ys p.space ≡ Some y → alone_end y ≡ Some solo
  end_of y there =
      let h : Agrees p.space w.procs y (Some s) = subst (λ o. Agrees p.space w.procs y o) has (right.agree p.space y there) in
      h ∙ ap (λ l. Some (record { stack = l; memory = memory_of s.space })) first

  -- an event with these calls
  module _ (now : World) (items : List Item) (over : Bool) (loads : now.loads ≡ w.loads) (programs : now.rest.programs ≡ w.rest.programs) (load_notes : loads_of now.notes ≡ loads_of w.notes)
      (calls : kept_calls_of now.notes ≡ kept_calls_of w.notes ++ entries_of items) where
    abbrev pub trace : Trace
    trace = record { space = p.space; events = 1; items = items; begins = None; over = over }

    pub right_after : BesideSpace p.space w now
        → ((y : Stay) → slice_get ys p.space ≡ Some y → Agrees p.space now.procs (longer trace y) (find id_of p.space now.spaces)) → AreRight (collect ys trace) now
    right_after beside here =
        subst (λ (zs : List Stay). AreRight zs now) (sym (append-nil (change_at p.space (longer trace) ys)))
        (record {
          count = length-change_at (longer trace) p.space ys ∙ right.count ∙ sym loads;
          loads = map-change_at (longer trace) head_of (λ y. refl) p.space ys ∙ right.loads ∙ (λ i. map (loaded_head (sym programs i)) (sym load_notes i));
          agree = agree_after ys w now p.space (longer trace) right.count right.agree beside here;
          told = told_after ys w.notes now.notes p.space 1 items None over has_stay right.told calls;
        })

    -- it has other registers, and its space other mappings and bytes
    pub keeps_state : (regs : Regs) (space : Space) → now.procs ≡ change pid_of p.pid (λ q. with_regs q regs) w.procs
        → now.spaces ≡ change id_of p.space (λ l. with_own l space) w.spaces
        → solo_step solo items ≡ Some (solo_of (with_regs p regs) below space, []) → AreRight (collect ys trace) now
    keeps_state regs space procs spaces steps =
        right_after
        (record {
          procs = λ j other old.
              ap (runners j) procs
              ∙ runners_beside_change w.next_pid p w.procs sound.pids lives (λ q. with_regs q regs) j (λ e. other (sym e)) (λ e. other (sym e));
          spaces = λ j other old. ap (find id_of j) spaces ∙ find_beside_change id_of p.space j other (λ l. with_own l space) (λ l. refl) w.spaces;
        })
        (λ y there.
        let live : find id_of p.space now.spaces ≡ Some (with_own s space) =
        ap (find id_of p.space) spaces ∙ find_changed id_of p.space (λ l. with_own l space) (λ l. refl) w.spaces ∙ ap (option_map (λ l. with_own l space)) has in
        let runs : runners p.space now.procs ≡ runner_of (with_regs p regs) ∷ below =
        ap (runners p.space) procs ∙ runners_change w.next_pid p w.procs sound.pids lives below first (λ q. with_regs q regs) refl in
        subst (λ o. Agrees p.space now.procs (longer trace y) o) (sym live)
        (alone_more y.loading y.pid y.items items y.events solo (end_of y there) ∙ ap none_left steps
        ∙ ap (λ l. Some (record { stack = l; memory = memory_of space })) (sym runs)))

  -- ---- the same event alone

  abbrev pub means : Meaning
  means = meaning p.regs s.space.bytes (writable_in s.space.maps)

  pub steps : (items : List Item) (m : Meaning) → means ≡ m → solo_step solo items ≡ solo_moved (runner_of p) below (memory_of s.space) items m
  unfolding solo_step
  steps items m is =
      ap (λ wr. solo_moved (runner_of p) below (memory_of s.space) items (meaning p.regs s.space.bytes wr)) (writable s.space.maps)
      ∙ ap (solo_moved (runner_of p) below (memory_of s.space) items) is

  pub keeps_stepped : (regs : Regs) (bytes : Bytes) → means ≡ next regs bytes → Keeps ys (stepped w p s.space regs bytes)
  unfolding stepped
  keeps_stepped regs bytes is =
      keeps_state _ [] false refl refl refl (sym (append-nil (kept_calls_of w.notes))) regs (record s.space { bytes = bytes }) refl refl (steps [] (next regs bytes) is)

  -- ---- a call

  module _ (is : means ≡ call) (bytes : List ℕ) (reads : sent (number_of p.regs) (args_of p.regs) s.space.bytes ≡ Ok bytes) where
    pub takes : (i : Item) → is_call (runner_of p) bytes i.entry ≡ true
        → solo_step solo (i ∷ []) ≡ with_items [] (solo_put (runner_of p) below (memory_of s.space) i (put_got s.space.bytes (writable_in s.space.maps) i.entry.got))
    takes i told =
        steps (i ∷ []) call is ∙ ap (solo_called (runner_of p) below (memory_of s.space) (i ∷ [])) reads
        ∙ ap (λ (b : Bool). if b then with_items [] (solo_put (runner_of p) below (memory_of s.space) i (put_got s.space.bytes (writable_of (ranges_of s.space.maps)) i.entry.got)) else None) told
        ∙ ap (λ wr. with_items [] (solo_put (runner_of p) below (memory_of s.space) i (put_got s.space.bytes wr i.entry.got))) (writable s.space.maps)

    abbrev pub the_ask : Ask
    the_ask = ask_of w p s.space bytes

    keeps_put : (r : Reply) → Follows p below s.space the_ask (replies r) → r.rest.programs ≡ w.rest.programs → (found : Result Bytes Span) → put_got r.space.bytes (writable_in r.space.maps) r.got ≡ found
        → Keeps ys (put w the_ask r found)
    unfolding served kept_calls_of loads_of
    keeps_put r follows programs (Err span) wrote = tt
    keeps_put r follows programs (Ok m) wrote =
        let i : Item = item_of (entry_of the_ask r.value r.got) m in
        keeps_if ys (room_for w the_ask r) (went _ (record { space = p.space; events = 1; items = i ∷ []; begins = None; over = r.over })) full
        (keeps_state _ (i ∷ []) r.over refl programs refl refl (replied p.regs r.value) (record r.space { bytes = m }) refl refl
        (takes i (tells p s.space w bytes r.value r.got) ∙ ap (with_items []) (follows m wrote)))
        tt

    pub keeps_waited : (state : State) → Keeps ys (waited w p state)
    unfolding waited
    keeps_waited state =
        let t : Trace = record { space = p.space; events = 0; items = []; begins = None; over = true } in
        let same : (y : Stay) → longer t y ≡ y = λ y. let items = append-nil y.items in let events : y.events + 0 ≡ y.events = omega arith in (λ i. record y { items = items i; events = events i }) in
        subst (λ l. AreRight l (counted (with_state w p.pid state))) (sym (append-nil (change_at p.space (longer t) ys) ∙ change_at-same (longer t) same p.space ys))
        (record {
          count = right.count;
          loads = right.loads;
          agree = λ j y there.
              agrees_same j w.procs (with_state w p.pid state).procs y (find id_of j w.spaces)
              (runners_same p.pid (λ q. record q { state = state }) (λ q. refl) (λ q. refl) j w.procs) (right.agree j y there);
          told = right.told;
        })

    pub keeps_answered : (r : Row) → Follows p below s.space the_ask r → Answers (λ rest. rest.programs ≡ w.rest.programs) r → Keeps ys (answered w the_ask r)
    keeps_answered (replies r) follows programs = keeps_put r follows programs (put_got r.space.bytes (writable_in r.space.maps) r.got) refl
    keeps_answered (waits state) follows programs = keeps_waited state

-- Behind an event the notes have its calls, and the console has what these write to it.
use Rattle.std.proofs.Common.{◌≡◌, ℕ, ◌*◌, Bool, true, false, List, [], ◌∷◌, ◌++◌, length, drop, Option, Some, None, Result, Ok, Err, refl, sym, ap, subst, ◌∙◌}
use Rattle.std.proofs.lemmas.List.{append-nil}
use Rattle.std.specs.Prelude.{◌==◌, ◌||◌, ◌&&◌, nat_lt, slice_index, if◌then◌else◌}
use Rattle.byte_words.specs.ByteMap.{Bytes}
use Rattle.rv32im_step.specs.Meaning.{Meaning, next, call, trap, refused, meaning}
use Rattle.mmap_rules.specs.Space.{Space, writable_in}
use Rattle.call_log.specs.Notes.{CallEntry}
use Rattle.call_log.specs.Sent.{Span, most_pieces, piece_spans, data_spans, read_spans, followed, sent}
use Rattle.vfork_exec.specs.declared.family.State.{State}
use Rattle.vfork_exec.specs.declared.family.Ended.{Ended}
use Rattle.vfork_exec.specs.Keyed.{find}
use Rattle.flat_loader.specs.Alone.{number_of, args_of, put_got}
use Rattle.machine_world.specs.World.{Process, LiveSpace, World, pid_of, id_of}
use Rattle.machine_world.specs.Asks.{Ask, Reply, Row, replies, waits, arg, view_of}
use Rattle.machine_world.specs.Transfers.{write_row, writev_row}
use Rattle.machine_world.specs.Rows.{row}
use Rattle.machine_world.specs.Event.{Outcome, went, full, ended, stepped, trapped, ask_of, entry_of, room_for, served, put, waited, answered, classed, asked, answer, settled, effect, in_space, by_process, at_process, event}
use Rattle.machine_world.proofs.States.{find_has}
use Rattle.machine_world.proofs.ByEvents.{Went, Answered, by_classed, by_settled}
use Rattle.alone_laws.specs.Stays.{kept_calls_of}
use Rattle.alone_laws.proofs.Lists.{if_yes, eqb_is}
use Rattle.end_laws.specs.Console.{is_write, data_of, takes_output, has_console, prints, printed, AreWhole, Prints, EventsPrint}
use Rattle.end_laws.proofs.ConsoleRows.{quiet_rows, Adds, AddsIn, adds_write, adds_writev}

abbrev pub PrintsIn : World → Outcome → Type 0
PrintsIn w o = Went (λ now t. Prints w t now) o

if_room : (w : World) (b : Bool) (o : Outcome) → PrintsIn w o → PrintsIn w (if b then o else full)
if_room w true o h = h
if_room w false o h = tt

-- ---- a call that is no write

-- it prints nothing
silent : (w : World) (e : CallEntry) → is_write e.call ≡ false → printed w (e ∷ []) ≡ []
silent w e isnt = ap (λ b. (if b && has_console w (slice_index e.args 0) (find pid_of e.pid w.procs) then data_of e else []) ++ []) isnt

no_print : (b c : Bool) → b ≡ false → (b && c) ≡ true → ⊥
no_print true c isnt prints_it = absurd cc
no_print false c isnt prints_it = absurd cc

silent_whole : (w : World) (e : CallEntry) → is_write e.call ≡ false → AreWhole w (e ∷ [])
silent_whole w e isnt = (λ yes ok. absurd (no_print (is_write e.call) (has_console w (slice_index e.args 0) (find pid_of e.pid w.procs)) isnt yes), tt)

-- as was, and as with nothing more
with_none : (w : World) (console : List ℕ) (bytes : List ℕ) → bytes ≡ [] → console ≡ w.rest.console → console ≡ w.rest.console ++ bytes
with_none w console bytes none same = same ∙ sym (append-nil w.rest.console) ∙ ap (λ bs. w.rest.console ++ bs) (sym none)

module _ (w : World) (a : Ask) (same : a.rest.console ≡ w.rest.console) (isnt : is_write a.number ≡ false) where
  pub quiet_answered : Answered (λ now t. Prints w t now) (λ rest. rest.console ≡ a.rest.console) w a
  unfolding kept_calls_of ended
  quiet_answered = record {
    reply = λ ended r m quiet room. record {
      notes = refl;
      console = with_none w r.rest.console (printed w (entry_of a r.value r.got ∷ [])) (silent w (entry_of a r.value r.got) isnt) (quiet ∙ same);
      whole = silent_whole w (entry_of a r.value r.got) isnt;
    };
    wait = λ state. record { notes = sym (append-nil (kept_calls_of w.notes)); console = sym (append-nil w.rest.console); whole = tt };
    exit = λ room. record {
      notes = refl;
      console = with_none w w.rest.console (printed w (entry_of a 0 [] ∷ [])) (silent w (entry_of a 0 []) isnt) refl;
      whole = silent_whole w (entry_of a 0 []) isnt;
    };
    fork = λ few room. record {
      notes = refl;
      console = with_none w w.rest.console (printed w (entry_of a w.next_pid [] ∷ [])) (silent w (entry_of a w.next_pid []) isnt) refl;
      whole = silent_whole w (entry_of a w.next_pid []) isnt;
    };
    load = λ f s page runs fits room. record {
      notes = refl;
      console = with_none w w.rest.console (printed w (entry_of a 0 [] ∷ [])) (silent w (entry_of a 0 []) isnt) refl;
      whole = silent_whole w (entry_of a 0 []) isnt;
    };
  }

  -- a reply, where some have ended
  pub quiet_served : (gone : List Ended) (r : Reply) (m : Bytes) → r.rest.console ≡ a.rest.console → PrintsIn w (served (record w { ended = gone }) a r m)
  unfolding served kept_calls_of
  quiet_served gone r m quiet =
      if_room w (room_for (record w { ended = gone }) a r) (went _ _)
      (record {
        notes = refl;
        console = with_none w r.rest.console (printed w (entry_of a r.value r.got ∷ [])) (silent w (entry_of a r.value r.got) isnt) (quiet ∙ same);
        whole = silent_whole w (entry_of a r.value r.got) isnt;
      })

  pub quiet_classed : PrintsIn w (classed w a)
  quiet_classed = by_classed (λ now t. Prints w t now) (λ rest. rest.console ≡ a.rest.console) w a quiet_answered refl (quiet_rows a isnt)

pub quiet_waited : (w : World) (p : Process) (state : State) → PrintsIn w (waited w p state)
unfolding waited
quiet_waited w p state = record { notes = sym (append-nil (kept_calls_of w.notes)); console = sym (append-nil w.rest.console); whole = tt }

pub quiet_trapped : (w : World) (gone : List Ended) (p : Process) (signal : ℕ) → PrintsIn w (trapped (record w { ended = gone }) p signal)
unfolding trapped ended kept_calls_of
quiet_trapped w gone p signal = record { notes = sym (append-nil (kept_calls_of w.notes)); console = sym (append-nil w.rest.console); whole = tt }

-- ---- write and writev

pub data_64 : (e : CallEntry) → e.call ≡ 64 → data_of e ≡ e.sent
data_64 e number = ap (λ n. if n == 64 then e.sent else drop (8 * slice_index e.args 2) e.sent) number

pub data_66 : (e : CallEntry) (args bytes : List ℕ) → e.call ≡ 66 → e.args ≡ args → e.sent ≡ bytes → data_of e ≡ drop (8 * slice_index args 2) bytes
data_66 e args bytes number args_are sent_is =
    ap (λ n. if n == 64 then e.sent else drop (8 * slice_index e.args 2) e.sent) number
    ∙ ap (λ xs. drop (8 * slice_index xs 2) e.sent) args_are ∙ ap (drop (8 * slice_index args 2)) sent_is

module _ (w : World) (p : Process) (s : Space) (lives : find pid_of p.pid w.procs ≡ Some p) (bytes : List ℕ) where
  -- the call with this number
  abbrev pub ask : ℕ → Ask
  ask n = record (ask_of w p s bytes) { number = n }

  abbrev pub takes : Bool
  takes = takes_output (view_of (ask_of w p s bytes) (arg (ask_of w p s bytes) 0))

  module _ (n : ℕ) (writes : is_write n ≡ true) (text : List ℕ) (is_data : (e : CallEntry) → e.call ≡ n → e.args ≡ args_of p.regs → e.sent ≡ bytes → data_of e ≡ text) where
    abbrev entry : Reply → CallEntry
    entry r = entry_of (ask n) r.value r.got

    takes_is : (r : Reply) → prints w (entry r) ≡ takes
    takes_is r =
        ap (λ b. b && has_console w (arg (ask n) 0) (find pid_of p.pid w.procs)) writes
        ∙ ap (has_console w (arg (ask n) 0)) lives

    data_is : (r : Reply) → data_of (entry r) ≡ text
    data_is r = is_data (entry r) refl refl refl

    printed_is : (r : Reply) → printed w (entry r ∷ []) ≡ (if takes then text else [])
    printed_is r =
        append-nil (if prints w (entry r) then data_of (entry r) else [])
        ∙ ap (λ b. if b then data_of (entry r) else []) (takes_is r)
        ∙ ap (λ d. if takes then d else []) (data_is r)

    pub adds_served : (r : Reply) (m : Bytes) → Adds (ask n) takes text r → PrintsIn w (served w (ask n) r m)
    unfolding served kept_calls_of
    adds_served r m adds =
        if_room w (room_for w (ask n) r) (went _ _)
        (record {
          notes = refl;
          console = adds.console ∙ ap (λ bs. w.rest.console ++ bs) (sym (printed_is r));
          whole = (λ yes ok. adds.whole (sym (takes_is r) ∙ yes) ok ∙ ap length (sym (data_is r)), tt);
        })

    adds_put : (r : Reply) (o : Result Bytes Span) → Adds (ask n) takes text r → PrintsIn w (put w (ask n) r o)
    adds_put r (Ok m) adds = adds_served r m adds
    adds_put r (Err span) adds = tt

    adds_answered : (r : Row) → AddsIn (ask n) takes text r → PrintsIn w (answered w (ask n) r)
    adds_answered (replies r) adds = adds_put r (put_got r.space.bytes (writable_in r.space.maps) r.got) adds
    adds_answered (waits state) adds = quiet_waited w p state

  prints_64 : PrintsIn w (classed w (ask 64))
  unfolding row
  prints_64 =
      adds_answered 64 refl bytes (λ e number args sent. data_64 e number ∙ sent) (write_row (ask 64) bytes) (adds_write (ask 64) bytes)

  -- no pieces are read where there are too many
  prints_66 : (nat_lt most_pieces (slice_index (args_of p.regs) 2) ≡ true → bytes ≡ []) → PrintsIn w (classed w (ask 66))
  unfolding row
  prints_66 unread =
      adds_answered 66 refl (drop (8 * slice_index (args_of p.regs) 2) bytes) (λ e number args sent. data_66 e (args_of p.regs) bytes number args sent) (writev_row (ask 66)) (adds_writev (ask 66) unread)

-- ---- a call

pub unread_pieces : (args : List ℕ) (m : Bytes) (bytes : List ℕ) → sent 66 args m ≡ Ok bytes → nat_lt most_pieces (slice_index args 2) ≡ true → bytes ≡ []
unfolding sent
unread_pieces args m bytes is many =
    let none : Ok [] ≡ Ok bytes =
    sym (if_yes (nat_lt most_pieces (slice_index args 2)) (Ok []) (followed (read_spans m (piece_spans (slice_index args 1) (slice_index args 2))) (λ pieces. read_spans m (data_spans (slice_index args 2) pieces))) many) ∙ is in
    cc

module _ (w : World) (p : Process) (s : Space) (lives : find pid_of p.pid w.procs ≡ Some p) where
  -- by the number of the call
  prints_number : (n : ℕ) (bytes : List ℕ) → sent n (args_of p.regs) s.bytes ≡ Ok bytes → (b c : Bool) → (n == 64) ≡ b → (n == 66) ≡ c
      → PrintsIn w (classed w (ask w p s lives bytes n))
  prints_number n bytes is true c is_64 is_66 = subst (λ k. PrintsIn w (classed w (ask w p s lives bytes k))) (sym (eqb_is n 64 is_64)) (prints_64 w p s lives bytes)
  prints_number n bytes is false true is_64 is_66 =
      let at : n ≡ 66 = eqb_is n 66 is_66 in
      let there : sent 66 (args_of p.regs) s.bytes ≡ Ok bytes = ap (λ k. sent k (args_of p.regs) s.bytes) (sym at) ∙ is in
      subst (λ k. PrintsIn w (classed w (ask w p s lives bytes k))) (sym at) (prints_66 w p s lives bytes (unread_pieces (args_of p.regs) s.bytes bytes there))
  prints_number n bytes is false false is_64 is_66 =
      quiet_classed w (ask w p s lives bytes n) refl (ap (λ b. b || (n == 66)) is_64 ∙ is_66)

  prints_asked : (o : Result (List ℕ) Span) → sent (number_of p.regs) (args_of p.regs) s.bytes ≡ o → PrintsIn w (asked w p s o)
  prints_asked (Ok bytes) is = prints_number (number_of p.regs) bytes is (number_of p.regs == 64) (number_of p.regs == 66) refl refl
  prints_asked (Err span) is = tt

  -- ---- an event

  prints_settled : (o : Outcome) → PrintsIn w o → PrintsIn w (settled o)
  prints_settled = by_settled (λ now t. Prints w t now) (λ now t h. record { notes = h.notes; console = h.console; whole = h.whole })

  -- neither an instruction nor a trap makes a call
  prints_effect : (m : Meaning) → PrintsIn w (effect w p s m)
  unfolding stepped answer
  prints_effect (next regs bytes) = record { notes = sym (append-nil (kept_calls_of w.notes)); console = sym (append-nil w.rest.console); whole = tt }
  prints_effect (trap signal) = prints_settled (trapped w p signal) (quiet_trapped w w.ended p signal)
  prints_effect (refused access) = tt
  prints_effect call = prints_settled (answer w p s) (prints_asked (sent (number_of p.regs) (args_of p.regs) s.bytes) refl)

module _ (w : World) where
  prints_in : (p : Process) → find pid_of p.pid w.procs ≡ Some p → (found : Option LiveSpace)
      → PrintsIn w (in_space (λ q s. effect w q s (meaning q.regs s.bytes (writable_in s.maps))) p found)
  prints_in p lives None = tt
  prints_in p lives (Some s) = prints_effect w p s.space lives (meaning p.regs s.space.bytes (writable_in s.space.maps))

  prints_by : (pid : ℕ) (found : Option Process) → find pid_of pid w.procs ≡ found
      → PrintsIn w (by_process w.spaces (λ q s. effect w q s (meaning q.regs s.bytes (writable_in s.maps))) found)
  prints_by pid None lives = tt
  prints_by pid (Some p) lives =
      let own : p.pid ≡ pid = find_has pid_of pid w.procs p lives in
      prints_in p (ap (λ n. find pid_of n w.procs) own ∙ lives) (find id_of p.space w.spaces)

  pub prints_event : (pid : ℕ) → PrintsIn w (event w pid)
  unfolding event at_process
  prints_event pid = prints_by pid (find pid_of pid w.procs) refl

pub events_print : EventsPrint
events_print w pid now t is = subst (PrintsIn w) is (prints_event w pid)

-- Over one memory each reply that is an errno is a refusal, and with ENOMEM for want of a run.
use Rattle.std.proofs.Common.{◌≡◌, ℕ, ◌⊎◌, inl, inr, Bool, true, false, List, [], ◌∷◌, Option, Some, None, Result, Ok, Err, refl, sym, ap, subst, ◌∙◌, arith}
use Rattle.std.specs.Prelude.{if◌then◌else◌}
use Rattle.std.proofs.lemmas.Bool.{false≢true}
use Rattle.byte_words.specs.ByteMap.{Bytes}
use Rattle.rv32im_step.specs.Meaning.{Meaning, next, call, trap, refused}
use Rattle.call_log.specs.declared.errno.Errno.{Errno}
use Rattle.call_log.specs.declared.errno.Errno.TheVariants.{Enomem}
use Rattle.call_log.specs.Errno.{refusal}
use Rattle.call_log.specs.Notes.{CallEntry, weight_of}
use Rattle.call_log.specs.Sent.{Span, sent}
use Rattle.mmap_rules.specs.Space.{writable_in}
use Rattle.vfork_exec.specs.declared.family.State.{State}
use Rattle.vfork_exec.specs.Keyed.{find}
use Rattle.flat_loader.specs.Alone.{number_of, args_of, put_got, is_errno}
use Rattle.machine_world.specs.World.{Process, LiveSpace, World, pid_of, id_of}
use Rattle.machine_world.specs.Asks.{Ask, Reply, Row, replies, waits, gives, refuses}
use Rattle.machine_world.specs.Rows.{row}
use Rattle.machine_world.specs.Recordings.{room_in}
use Rattle.machine_world.specs.Event.{Trace, Outcome, went, strays, full, idle, ended, trapped, ask_of, entry_of, room_for, served, put, waited, answered, exited, forked, executed}
use Rattle.machine_world.specs.Laws.{refused_outcome}
use Rattle.machine_world.proofs.ByEvents.{Went}
use Rattle.refusal_laws.specs.Bounded.{IsBounded}
use Rattle.refusal_laws.specs.NoRun.{LacksRun}
use Rattle.refusal_laws.proofs.Errnos.{is_enomem}
use Rattle.refusal_laws.proofs.EachCall.{EachCall, each_call}
use Rattle.refusal_laws.proofs.Small.{no_errno}
use Rattle.refusal_laws.proofs.Refusals.{RefusesRow, IsLow, low_or_refuses}
use Rattle.memory_world.specs.Physical.{Physical, in_memory, After, after, no_room, nobody, carried, settled_in, outside, killed, put_in, answered_in, classed_in, asked_in, answer_in, effect_in, in_space_in, by_process_in, at_process_in, next_meaning, carried_out, first_stray_in, event_in}
use Rattle.memory_world.specs.After.{AfterHas}
use Rattle.memory_world.proofs.Moves.{event_in_carried}
use Rattle.go_on_laws.specs.Refusals.{CallIn, ask_in, over_memory, IsRefusedIn}
use Rattle.go_on_laws.proofs.Refused.{refused_events_leave_memory}
use Rattle.refusals_in_memory.specs.Regular.{IsRegularIn}
use Rattle.refusals_in_memory.specs.Refusals.{NotesCall, noted_in, ErrnosAreRefusedIn}
use Rattle.refusals_in_memory.proofs.Answers.{EachAnswer, by_classed_in}
use Rattle.refusals_in_memory.proofs.StaysRegular.{bounded_stray}
use Rattle.refusals_in_memory.proofs.Noted.{IsPlain, Adds, adds_none, adds_stray, among}

-- ---- outcomes that note no errno

abbrev AddsPlain : World → World → Type 0
AddsPlain old now = Adds IsPlain old.notes now.notes

abbrev PlainOf : World → Outcome → Type 0
PlainOf w o = Went (λ now t. AddsPlain w now) o

plain_if : (w : World) (b : Bool) (now : World) (t : Trace) → (b ≡ true → AddsPlain w now) → PlainOf w (if b then went now t else full)
plain_if w true now t plain = plain refl
plain_if w false now t plain = tt

plain_trapped : (w : World) (q : Process) (signal : ℕ) → PlainOf w (trapped w q signal)
unfolding trapped ended
plain_trapped w q signal = record { more = _ ∷ []; is = refl; each = (tt, tt) }

plain_waited : (w : World) (q : Process) (state : State) → PlainOf w (waited w q state)
unfolding waited
plain_waited w q state = adds_none IsPlain w.notes

module _ (w : World) (a : Ask) where
  plain_served : (r : Reply) (m : Bytes) → (room_for w a r ≡ true → is_errno r.value ≡ false) → PlainOf w (served w a r m)
  unfolding served
  plain_served r m low = plain_if w (room_for w a r) _ _ (λ room. record { more = _ ∷ []; is = refl; each = (low room, tt) })

  plain_put : (r : Reply) → (room_for w a r ≡ true → is_errno r.value ≡ false) → (o : Result Bytes Span) → PlainOf w (put w a r o)
  plain_put r low (Ok m) = plain_served r m low
  plain_put r low (Err span) = tt

  plain_answered : (x : Row) → IsLow w a x → PlainOf w (answered w a x)
  plain_answered (replies r) low = plain_put r low (put_got r.space.bytes (writable_in r.space.maps) r.got)
  plain_answered (waits state) low = plain_waited w a.process state

-- ---- over memory

abbrev PlainIn : Physical → After → Type 0
PlainIn p x = AfterHas (AddsPlain p.world) x

plain_carried : (p : Physical) (memory : Bytes) (o : Outcome) → PlainOf p.world o → PlainIn p (carried p memory o)
plain_carried p memory (went now t) plain = plain
plain_carried p memory (strays access) plain = tt
plain_carried p memory full plain = adds_none IsPlain p.world.notes
plain_carried p memory idle plain = tt

plain_killed : (p : Physical) (q : Process) (signal : ℕ) → PlainIn p (killed p q signal)
plain_killed p q signal = plain_carried p p.memory (trapped p.world q signal) (plain_trapped p.world q signal)

plain_settled : (p : Physical) (x : After) → PlainIn p x → PlainIn p (settled_in x)
plain_settled p (after now over) plain = plain
plain_settled p (no_room now) plain = plain
plain_settled p nobody plain = plain

module _ (p : Physical) (a : Ask) where
  plain_put_in : (r : Reply) → (room_for p.world a r ≡ true → is_errno r.value ≡ false) → (o : Result Bytes Span) → PlainIn p (put_in p a r o)
  plain_put_in r low (Ok memory) = plain_carried p memory (served p.world a r r.space.bytes) (plain_served p.world a r r.space.bytes low)
  plain_put_in r low (Err span) = plain_killed p a.process outside

  plain_answered_in : (x : Row) → IsLow p.world a x → PlainIn p (answered_in p a x)
  plain_answered_in (replies r) low = plain_put_in r low (put_got p.memory (in_memory p.world) r.got)
  plain_answered_in (waits state) low = plain_carried p p.memory (waited p.world a.process state) (plain_waited p.world a.process state)

-- ---- a call is refused, or notes no errno

-- with ENOMEM for want of a run
record Refuses (p : Physical) (a : Ask) (x : After) : Type 0 where
  errno : Errno
  is : x ≡ answered_in p a (refuses a errno)
  lacks : is_enomem errno ≡ true → LacksRun p.world a

abbrev Either : Physical → Ask → After → Type 0
Either p a x = Refuses p a x ⊎ PlainIn p x

module _ (p : Physical) (h : IsBounded p.world) (pid : ℕ) (q : Process) (lives : find pid_of pid p.world.procs ≡ Some q) (s : LiveSpace) (has : find id_of q.space p.world.spaces ≡ Some s) (bytes : List ℕ) where
  abbrev a : Ask
  a = ask_of p.world q s.space bytes

  no_enomem : (e : Errno) → is_enomem e ≡ false → is_enomem e ≡ true → LacksRun p.world a
  no_enomem e other is = absurd (false≢true (sym other ∙ is))

  by_row : RefusesRow p.world a (row a) ⊎ IsLow p.world a (row a) → Either p a (answered_in p a (row a))
  by_row (inl r) = inl (record { errno = r.errno; is = ap (answered_in p a) r.is; lacks = r.lacks })
  by_row (inr low) = inr (plain_answered_in p a (row a) low)

  -- the row of a call of a class that writes nothing
  by_quiet : RefusesRow p.world a (row a) ⊎ IsLow p.world a (row a) → Either p a (carried p p.memory (answered p.world a (row a)))
  by_quiet (inl r) = inl (record { errno = r.errno; is = ap (λ (x : Row). carried p p.memory (answered p.world a x)) r.is; lacks = r.lacks })
  by_quiet (inr low) = inr (plain_carried p p.memory (answered p.world a (row a)) (plain_answered p.world a (row a) low))

  calls : EachCall (λ o. Either p a (carried p p.memory o)) p.world a
  unfolding exited forked executed ended
  calls = record {
    row = by_quiet (low_or_refuses p.world h pid q lives s has bytes);
    refused = λ e other. inl (record { errno = e; is = refl; lacks = no_enomem e other });
    exit = inr (plain_carried p p.memory (exited p.world a)
        (plain_if p.world (room_in p.world (weight_of bytes [])) _ _ (λ room. record { more = _ ∷ _ ∷ []; is = refl; each = (tt, (no_errno 0 (omega arith), tt)) })));
    told = λ ended got. inr (plain_carried p p.memory _ (plain_answered (record p.world { ended = ended }) a (gives a 0 got p.world.rest) (λ room. no_errno 0 (omega arith))));
    waiting = λ state. inr (plain_carried p p.memory (waited p.world q state) (plain_waited p.world q state));
    fork = inr (plain_carried p p.memory (forked p.world a)
        (plain_if p.world (room_in p.world (weight_of bytes [])) _ _ (λ room. record {
          more = _ ∷ [];
          is = refl;
          each = (no_errno p.world.next_pid (let given = h.given in let calls = h.counted.calls in omega (arith, given, calls)), tt);
        })));
    load = λ index page l is chosen. inr (plain_carried p p.memory (executed p.world a index l)
        (plain_if p.world (room_in p.world (weight_of bytes [])) _ _ (λ room. record { more = _ ∷ _ ∷ []; is = refl; each = (tt, (no_errno 0 (omega arith), tt)) })));
    no_run = λ number lacks. inl (record { errno = Enomem; is = refl; lacks = λ yes. inr (number, lacks) });
  }

  answers : EachAnswer (Either p a) p a
  answers = record {
    refused = λ e other. inl (record { errno = e; is = refl; lacks = no_enomem e other });
    row = by_row (low_or_refuses p.world h pid q lives s has bytes);
    calls = each_call (λ o. Either p a (carried p p.memory o)) p.world a calls;
    told = λ ended got. inr (plain_answered_in (record p { world = record p.world { ended = ended } }) a (gives a 0 got p.world.rest) (λ room. no_errno 0 (omega arith)));
    waits = λ state. inr (plain_carried p p.memory (waited p.world q state) (plain_waited p.world q state));
    full = inr (adds_none IsPlain p.world.notes);
  }

  either : Either p a (classed_in p a)
  either = by_classed_in (Either p a) p a answers

-- ---- an event

-- an event is a call of the process that is refused, or notes no errno
pub record RefusesCall (p : Physical) (pid : ℕ) : Type 0 where
  pub call : CallIn p pid
  pub errno : Errno
  pub is : IsRefusedIn p pid call errno
  pub lacks : is_enomem errno ≡ true → LacksRun p.world (ask_in p pid call)

abbrev OrPlain : Physical → ℕ → After → Type 0
OrPlain p pid x = RefusesCall p pid ⊎ PlainIn p x

module _ (p : Physical) (h : IsBounded p.world) (pid : ℕ) where
  module _ (q : Process) (lives : find pid_of pid p.world.procs ≡ Some q) (s : LiveSpace) (has : find id_of q.space p.world.spaces ≡ Some s) where
    by_sent : next_meaning p q ≡ call → (o : Result (List ℕ) Span) → sent (number_of q.regs) (args_of q.regs) p.memory ≡ o → OrPlain p pid (settled_in (asked_in p q s.space o))
    by_sent at_call (Err span) reads = inr (plain_settled p (killed p q outside) (plain_killed p q outside))
    by_sent at_call (Ok bytes) reads = by (either p h pid q lives s has bytes)
      where
        by : Either p (ask_of p.world q s.space bytes) (classed_in p (ask_of p.world q s.space bytes)) → OrPlain p pid (settled_in (classed_in p (ask_of p.world q s.space bytes)))
        by (inl refuses) =
            inl (record {
              call = record { process = q; lives = lives; space = s; has = has; at_call = at_call; bytes = bytes; reads = reads };
              errno = refuses.errno;
              is = refuses.is;
              lacks = refuses.lacks;
            })
        by (inr plain) = inr (plain_settled p (classed_in p (ask_of p.world q s.space bytes)) plain)

    by_meaning : (m : Meaning) → next_meaning p q ≡ m → OrPlain p pid (effect_in p q s.space m)
    unfolding answer_in
    by_meaning (next regs memory) is = inr (adds_none IsPlain p.world.notes)
    by_meaning (trap signal) is = inr (plain_settled p (killed p q signal) (plain_killed p q signal))
    by_meaning (refused access) is = inr (plain_settled p (killed p q outside) (plain_killed p q outside))
    by_meaning call is = by_sent is (sent (number_of q.regs) (args_of q.regs) p.memory) refl

  by_space : (q : Process) → find pid_of pid p.world.procs ≡ Some q → (o : Option LiveSpace) → find id_of q.space p.world.spaces ≡ o
      → OrPlain p pid (in_space_in (λ r s. effect_in p r s (next_meaning p r)) q o)
  by_space q lives None has = inr tt
  by_space q lives (Some s) has = by_meaning q lives s has (next_meaning p q) refl

  by_found : (o : Option Process) → find pid_of pid p.world.procs ≡ o → OrPlain p pid (by_process_in p.world.spaces (λ q s. effect_in p q s (next_meaning p q)) o)
  by_found None lives = inr tt
  by_found (Some q) lives = by_space q lives (find id_of q.space p.world.spaces) refl

  or_plain : OrPlain p pid (carried_out p pid)
  unfolding carried_out at_process_in
  or_plain = by_found (find pid_of pid p.world.procs) refl

-- ---- its notes

-- of this call alone
abbrev Notes : Physical → CallEntry → World → Type 0
Notes p entry now = Adds (λ e. e ≡ entry) p.world.notes now.notes

notes_if : (p : Physical) (entry : CallEntry) (b : Bool) (now : World) (t : Trace) → Notes p entry now → AfterHas (Notes p entry) (over_memory p (if b then went now t else full))
notes_if p entry true now t its = its
notes_if p entry false now t its = adds_none (λ e. e ≡ entry) p.world.notes

refusal_notes : (p : Physical) (q : Process) (a : Ask) (e : Errno) → AfterHas (Notes p (entry_of a (refusal e) [])) (over_memory p (refused_outcome p.world q a e))
refusal_notes p q a e = notes_if p (entry_of a (refusal e) []) (room_in p.world (weight_of a.sent [])) _ _ (record { more = _ ∷ []; is = refl; each = (refl, tt) })

module _ (p : Physical) (pid : ℕ) (e : CallEntry) (h : NotesCall p pid e) where
  abbrev n : Physical
  n = noted_in p pid

  -- what holds of each call that the event notes holds of this one
  of_it : (P : CallEntry → Type 0) → AfterHas (λ now. Adds P n.world.notes now.notes) (event_in p pid) → P e
  of_it P added =
      among P p.world.notes h.now.world.notes h.later h.earlier e
      (adds_stray P p pid (first_stray_in p pid) h.now.world.notes (subst (AfterHas (λ now. Adds P n.world.notes now.notes)) h.goes added)) h.notes

-- a call that is noted with an errno as its reply: it is refused, its note is that of the refusal, and the event is the refusal's
pub record IsItsCall (p : Physical) (pid : ℕ) (e : CallEntry) : Type 0 where
  pub refuses : RefusesCall (noted_in p pid) pid
  pub note : e ≡ entry_of (ask_in (noted_in p pid) pid refuses.call) (refusal refuses.errno) []
  pub outcome : event_in p pid ≡ over_memory (noted_in p pid) (refused_outcome (noted_in p pid).world refuses.call.process (ask_in (noted_in p pid) pid refuses.call) refuses.errno)

pub its_call : (p : Physical) (pid : ℕ) (e : CallEntry) → IsRegularIn p → NotesCall p pid e → is_errno e.reply ≡ true → IsItsCall p pid e
its_call p pid e r h errno = by (or_plain (noted_in p pid) (bounded_stray p pid (first_stray_in p pid) r.bounded) pid)
  where
    by : OrPlain (noted_in p pid) pid (carried_out (noted_in p pid) pid) → IsItsCall p pid e
    by (inr plain) =
        absurd (false≢true (sym (of_it p pid e h IsPlain (subst (PlainIn (noted_in p pid)) (sym (event_in_carried p pid)) plain)) ∙ errno))
    by (inl c) =
        let outcome : event_in p pid ≡ over_memory (noted_in p pid) (refused_outcome (noted_in p pid).world c.call.process (ask_in (noted_in p pid) pid c.call) c.errno) =
        refused_events_leave_memory p pid r.shown r.unmarked c.call c.errno c.is in
        record {
          refuses = c;
          note = of_it p pid e h (λ entry. entry ≡ entry_of (ask_in (noted_in p pid) pid c.call) (refusal c.errno) [])
              (subst (AfterHas _) (sym outcome) (refusal_notes (noted_in p pid) c.call.process (ask_in (noted_in p pid) pid c.call) c.errno));
          outcome = outcome;
        }

pub errnos_are_refused_in : ErrnosAreRefusedIn
errnos_are_refused_in p pid e r h errno =
    let its : IsItsCall p pid e = its_call p pid e r h errno in
    record { call = its.refuses.call; errno = its.refuses.errno; note = its.note; refused = its.refuses.is; outcome = its.outcome }

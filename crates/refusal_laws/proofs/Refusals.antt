-- Each reply that is an errno is a refusal, and one that is ENOMEM is for want of a run.
use Rattle.std.proofs.Common.{◌≡◌, ℕ, ◌⊎◌, inl, inr, Bool, true, false, List, [], ◌∷◌, Option, Some, None, Result, Ok, Err, refl, sym, ap, ◌∙◌, arith}
use Rattle.std.specs.Prelude.{option_map, if◌then◌else◌}
use Rattle.byte_words.specs.ByteMap.{Bytes}
use Rattle.rv32im_step.specs.Meaning.{Meaning, next, call, trap, refused, meaning}
use Rattle.call_log.specs.declared.errno.Errno.{Errno}
use Rattle.call_log.specs.declared.errno.Errno.TheVariants.{Enomem, Enametoolong}
use Rattle.call_log.specs.Errno.{refusal}
use Rattle.call_log.specs.Notes.{weight_of}
use Rattle.call_log.specs.Sent.{Span, sent}
use Rattle.call_log.specs.Strings.{program_strings}
use Rattle.mmap_rules.specs.Space.{writable_in}
use Rattle.flat_loader.specs.Alone.{Item, is_errno}
use Rattle.vfork_exec.specs.Keyed.{find}
use Rattle.machine_world.specs.World.{Process, LiveSpace, World, pid_of, id_of}
use Rattle.machine_world.specs.Asks.{Ask, arg, Reply, Row, replies, waits, gives, refuses, with_ok}
use Rattle.machine_world.specs.Rows.{row, yield_row, next_brk, brk_row}
use Rattle.machine_world.specs.MapCalls.{own_run, maps as maps_to, or_own, mapped, mmap2_row}
use Rattle.mmap_rules.specs.declared.want.Want.{Want}
use Rattle.machine_world.specs.Recordings.{room_in}
use Rattle.machine_world.specs.Event.{Trace, Outcome, went, strays, full, idle, number_of, args_of, put_got, ask_of, entry_of, plain_item, room_for, stepped, trapped, served, put, waited, answered, exited, forked, executed, exec_at, exec_fitting, exec_program, exec_strings, exec, classed, asked, answer, settled, effect, in_space, by_process, at_process, event}
use Rattle.machine_world.specs.Laws.{refused_outcome}
use Rattle.machine_world.proofs.ByEvents.{Went}
use Rattle.machine_world.proofs.Refused.{is_refused, refusals_change_nothing_else}
use Rattle.machine_world.proofs.States.{event_is}
use Rattle.alone_laws.proofs.RowSpaces.{row-mmap2}
use Rattle.refusal_laws.specs.Calls.{Call, ask}
use Rattle.refusal_laws.specs.Regular.{IsRegularWorld}
use Rattle.refusal_laws.specs.Bounded.{IsWithin, IsBounded}
use Rattle.refusal_laws.specs.NoRun.{LacksRunToMap, LacksRunToExec, LacksRun}
use Rattle.refusal_laws.specs.Laws.{IsReplied, ErrnosAreRefusals, IsWithoutRun, EnomemIsExact}
use Rattle.refusal_laws.proofs.Errnos.{is_enomem, same_number}
use Rattle.refusal_laws.proofs.Bounded.{bounded}
use Rattle.refusal_laws.proofs.EachRow.{EachRow, each_row}
use Rattle.refusal_laws.proofs.EachCall.{EachCall, each_call}
use Rattle.refusal_laws.proofs.Small.{no_errno, weight_fits, brk_fits, pid_fits, parent_fits, few_free, map_fits}
use Rattle.refusal_laws.proofs.Lists.{each_found}

-- no call is answered an errno
abbrev Plain : List Item → Type 0
Plain [] = Unit {0}
Plain (i ∷ is) = is_errno i.entry.reply ≡ false

abbrev IsPlain : Outcome → Type 0
IsPlain o = Went (λ now t. Plain t.items) o

-- it is a refusal, and with ENOMEM for want of a run
record Refuses (w : World) (a : Ask) (o : Outcome) : Type 0 where
  errno : Errno
  is : o ≡ answered w a (refuses a errno)
  lacks : is_enomem errno ≡ true → LacksRun w a

abbrev Either : World → Ask → Outcome → Type 0
Either w a o = Refuses w a o ⊎ IsPlain o

-- ---- by answers

plain_if : (b : Bool) (now : World) (t : Trace) → (b ≡ true → Plain t.items) → IsPlain (if b then went now t else full)
plain_if true now t plain = plain refl
plain_if false now t plain = tt

module _ (w : World) (a : Ask) where
  plain_served : (r : Reply) (m : Bytes) → (room_for w a r ≡ true → is_errno r.value ≡ false) → IsPlain (served w a r m)
  unfolding served
  plain_served r m low = plain_if (room_for w a r) _ _ low

  -- a reply that is no errno where it is noted
  abbrev pub IsLow : Row → Type 0
  IsLow (replies r) = room_for w a r ≡ true → is_errno r.value ≡ false
  IsLow (waits state) = Unit {0}

  plain_put : (r : Reply) → IsLow (replies r) → (o : Result Bytes Span) → IsPlain (put w a r o)
  plain_put r low (Ok m) = plain_served r m low
  plain_put r low (Err span) = tt

  plain_row : (x : Row) → IsLow x → IsPlain (answered w a x)
  unfolding waited
  plain_row (replies r) low = plain_put r low (put_got r.space.bytes (writable_in r.space.maps) r.got)
  plain_row (waits state) low = tt

  -- a row that refuses
  pub record RefusesRow (x : Row) : Type 0 where
    pub errno : Errno
    pub is : x ≡ refuses a errno
    pub lacks : is_enomem errno ≡ true → LacksRun w a

  no_other : (e : Errno) → is_enomem e ≡ false → RefusesRow (refuses a e)
  no_other e other = record { errno = e; is = refl; lacks = λ yes. (let no : true ≡ false = sym yes ∙ other in absurd cc) }

  no_run : LacksRun w a → RefusesRow (refuses a Enomem)
  no_run lacks = record { errno = Enomem; is = refl; lacks = λ yes. lacks }

  so_answered : (x : Row) → RefusesRow x → Either w a (answered w a x)
  so_answered x r = inl (record { errno = r.errno; is = ap (answered w a) r.is; lacks = r.lacks })

module _ (w : World) (r : IsBounded w) (pid : ℕ) (p : Process) (lives : find pid_of pid w.procs ≡ Some p) (s : LiveSpace) (has : find id_of p.space w.spaces ≡ Some s) (bytes : List ℕ) where
  abbrev a : Ask
  a = ask_of w p s.space bytes

  rows : EachRow (λ x. RefusesRow w a x ⊎ IsLow w a x) a
  unfolding yield_row brk_row
  rows = record {
    refused = λ e other. inl (no_other w a e other);
    waiting = λ state. inr tt;
    small = λ value got rest low. inr (λ room. no_errno value (let less = weight_fits w a (record { value = value; got = got; rest = rest; space = s.space; over = false }) room in omega (arith, low, less)));
    pid = inr (λ room. no_errno p.pid (pid_fits w r pid p lives));
    parent = inr (λ room. no_errno p.parent (parent_fits w r pid p lives));
    yielded = inr (λ room. no_errno 0 (omega arith));
    brk = inr (λ room. no_errno (next_brk s.space (arg a 0))
        (let b = (each_found IsWithin id_of p.space w.spaces s r.spaces has).break in let low = brk_fits s.space (arg a 0) b.brk b.high in omega (arith, low)));
    unmap = λ h is. inr (λ room. no_errno 0 (omega arith));
    map = λ want m asks is. inr (λ room. no_errno m.range.from (let low = (map_fits w r p s bytes want m asks is).0 in omega (arith, low)));
    no_run = λ number lacks. inl (no_run w a (inl (number, lacks)));
  }

  -- a row refuses, or gives no errno
  pub low_or_refuses : RefusesRow w a (row a) ⊎ IsLow w a (row a)
  low_or_refuses = each_row (λ x. RefusesRow w a x ⊎ IsLow w a x) a rows (few_free w r pid p lives s bytes)

  by_row : RefusesRow w a (row a) ⊎ IsLow w a (row a) → Either w a (answered w a (row a))
  by_row (inl refuses) = so_answered w a (row a) refuses
  by_row (inr low) = inr (plain_row w a (row a) low)

  calls : EachCall (Either w a) w a
  unfolding exited waited forked executed
  calls = record {
    row = by_row low_or_refuses;
    refused = λ e other. so_answered w a (refuses a e) (no_other w a e other);
    exit = inr (plain_if (room_in w (weight_of bytes [])) _ _ (λ room. no_errno 0 (omega arith)));
    told = λ ended got. inr (plain_row (record w { ended = ended }) a (gives a 0 got w.rest) (λ room. no_errno 0 (omega arith)));
    waiting = λ state. inr tt;
    fork = inr (plain_if (room_in w (weight_of bytes [])) _ _ (λ room. no_errno w.next_pid (let given = r.given in let calls = r.counted.calls in omega (arith, given, calls))));
    load = λ index page l is chosen. inr (plain_if (room_in w (weight_of bytes [])) _ _ (λ room. no_errno 0 (omega arith)));
    no_run = λ number lacks. so_answered w a (refuses a Enomem) (no_run w a (inr (number, lacks)));
  }

  either : Either w a (classed w a)
  either = each_call (Either w a) w a calls

-- ---- an event

-- the refusal as it is settled
refused_so : (w : World) (pid : ℕ) (c : Call w pid) (e : Errno) → w.rest.files.changed ≡ [] → classed w (ask w pid c) ≡ answered w (ask w pid c) (refuses (ask w pid c) e)
    → event w pid ≡ refused_outcome w c.process (ask w pid c) e
unfolding answer
refused_so w pid c e unmarked is =
    event_is w pid c.process c.space c.lives c.has ∙ ap (effect w c.process c.space.space) c.at_call
    ∙ ap (λ (o : Result (List ℕ) Span). settled (asked w c.process c.space.space o)) c.reads
    ∙ refusals_change_nothing_else w c.process c.space c.bytes e c.has unmarked is

-- an event is plain, or a call of the process that is refused
record RefusesCall (w : World) (pid : ℕ) : Type 0 where
  call : Call w pid
  errno : Errno
  is : event w pid ≡ refused_outcome w call.process (ask w pid call) errno
  lacks : is_enomem errno ≡ true → LacksRun w (ask w pid call)

abbrev OrPlain : World → ℕ → Outcome → Type 0
OrPlain w pid o = RefusesCall w pid ⊎ IsPlain o

settled_plain : (o : Outcome) → IsPlain o → IsPlain (settled o)
unfolding settled
settled_plain (went now t) plain = plain
settled_plain (strays access) plain = tt
settled_plain full plain = tt
settled_plain idle plain = tt

module _ (w : World) (r : IsRegularWorld w) (pid : ℕ) where
  module _ (p : Process) (lives : find pid_of pid w.procs ≡ Some p) (s : LiveSpace) (has : find id_of p.space w.spaces ≡ Some s) where
    by_sent : meaning p.regs s.space.bytes (writable_in s.space.maps) ≡ call → (o : Result (List ℕ) Span) → sent (number_of p.regs) (args_of p.regs) s.space.bytes ≡ o
        → OrPlain w pid (settled (asked w p s.space o))
    unfolding settled
    by_sent at_call (Err span) reads = inr tt
    by_sent at_call (Ok bytes) reads = by (either w (bounded w r) pid p lives s has bytes)
      where
        by : Either w (ask_of w p s.space bytes) (classed w (ask_of w p s.space bytes)) → OrPlain w pid (settled (classed w (ask_of w p s.space bytes)))
        by (inr plain) = inr (settled_plain (classed w (ask_of w p s.space bytes)) plain)
        by (inl refuses) =
            let c : Call w pid = record { process = p; lives = lives; space = s; has = has; at_call = at_call; bytes = bytes; reads = reads } in
            inl (record { call = c; errno = refuses.errno; is = refused_so w pid c refuses.errno r.unmarked refuses.is; lacks = refuses.lacks })

    by_meaning : (m : Meaning) → meaning p.regs s.space.bytes (writable_in s.space.maps) ≡ m → OrPlain w pid (effect w p s.space m)
    unfolding stepped trapped settled answer
    by_meaning (next regs bytes) is = inr tt
    by_meaning (trap signal) is = inr tt
    by_meaning (refused access) is = inr tt
    by_meaning call is = by_sent is (sent (number_of p.regs) (args_of p.regs) s.space.bytes) refl

  by_space : (p : Process) → find pid_of pid w.procs ≡ Some p → (o : Option LiveSpace) → find id_of p.space w.spaces ≡ o
      → OrPlain w pid (in_space (λ q s. effect w q s (meaning q.regs s.bytes (writable_in s.maps))) p o)
  by_space p lives None has = inr tt
  by_space p lives (Some s) has = by_meaning p lives s has (meaning p.regs s.space.bytes (writable_in s.space.maps)) refl

  by_found : (o : Option Process) → find pid_of pid w.procs ≡ o → OrPlain w pid (by_process w.spaces (λ q s. effect w q s (meaning q.regs s.bytes (writable_in s.maps))) o)
  by_found None lives = inr tt
  by_found (Some p) lives = by_space p lives (find id_of p.space w.spaces) refl

  or_plain : OrPlain w pid (event w pid)
  unfolding event at_process
  or_plain = by_found (find pid_of pid w.procs) refl

-- ---- its reply

-- the reply of an outcome's call
abbrev reply_in : List Item → Option ℕ
reply_in [] = None
reply_in (i ∷ is) = Some i.entry.reply

abbrev reply_of : Outcome → Option ℕ
reply_of (went now t) = reply_in t.items
reply_of (strays access) = None
reply_of full = None
reply_of idle = None

replied : (w : World) (pid value : ℕ) → (h : IsReplied w pid value) → reply_of (event w pid) ≡ Some value
replied w pid value h = ap reply_of h.goes ∙ ap reply_in h.made ∙ ap Some h.reply

reply_if : (b : Bool) (now : World) (t : Trace) (value : ℕ) → reply_of (if b then went now t else full) ≡ Some value → reply_in t.items ≡ Some value
reply_if true now t value is = is
reply_if false now t value is = absurd cc

refused_reply : (w : World) (p : Process) (a : Ask) (e : Errno) (value : ℕ) → reply_of (refused_outcome w p a e) ≡ Some value → value ≡ refusal e
refused_reply w p a e value is = let same : Some (refusal e) ≡ Some value = reply_if (room_in w (weight_of a.sent [])) _ _ value is in cc

plain_reply_of : (o : Outcome) (value : ℕ) → IsPlain o → reply_of o ≡ Some value → is_errno value ≡ false
plain_reply_of (went now t) value plain is = by t.items plain is
  where
    by : (is : List Item) → Plain is → reply_in is ≡ Some value → is_errno value ≡ false
    by [] plain is = absurd cc
    by (i ∷ is) plain same = let e : i.entry.reply ≡ value = cc in ap is_errno (sym e) ∙ plain
plain_reply_of (strays access) value plain is = absurd cc
plain_reply_of full value plain is = absurd cc
plain_reply_of idle value plain is = absurd cc

module _ (w : World) (pid value : ℕ) (h : IsReplied w pid value) (errno : is_errno value ≡ true) where
  is_refusal : OrPlain w pid (event w pid) → RefusesCall w pid
  is_refusal (inl c) = c
  is_refusal (inr plain) = let no : true ≡ false = sym errno ∙ plain_reply_of (event w pid) value plain (replied w pid value h) in absurd cc

  its_reply : (c : RefusesCall w pid) → value ≡ refusal c.errno
  its_reply c = refused_reply w c.call.process (ask w pid c.call) c.errno value (ap reply_of (sym c.is) ∙ replied w pid value h)

pub errnos_are_refusals : ErrnosAreRefusals
errnos_are_refusals w pid value r h errno =
    let c : RefusesCall w pid = is_refusal w pid value h errno (or_plain w r pid) in
    record { call = c.call; errno = c.errno; reply = its_reply w pid value h errno c; outcome = c.is }

-- ---- a call that lacks a run

classed_row : (w : World) (a : Ask) → a.number ≡ 222 → classed w a ≡ answered w a (row a)
classed_row w a number = rw number refl

classed_exec : (w : World) (a : Ask) → a.number ≡ 221 → classed w a ≡ exec w a
classed_exec w a number = rw number refl

lacks_to_map : (w : World) (a : Ask) → a.number ≡ 222 → LacksRunToMap a → classed w a ≡ answered w a (refuses a Enomem)
unfolding mmap2_row
lacks_to_map w a number l =
    let maps : mmap2_row a ≡ refuses a Enomem =
    ap (λ (r : Result Want Errno). with_ok a r (mapped a)) l.asks ∙ (λ i. maps_to a l.want (or_own (l.no_copy i) (option_map (own_run l.want) (l.no_run i)))) in
    classed_row w a number ∙ ap (answered w a) (row-mmap2 a number ∙ maps)

lacks_to_exec : (w : World) (a : Ask) → a.number ≡ 221 → LacksRunToExec w a → classed w a ≡ answered w a (refuses a Enomem)
unfolding exec
lacks_to_exec w a number l =
    classed_exec w a number
    ∙ ap (λ (b : Bool). if b then exec_strings w a (program_strings a.sent (arg a 1) (arg a 2)) else answered w a (refuses a Enametoolong)) l.ends
    ∙ ap (exec_strings w a) l.read ∙ ap (exec_program w a l.strings) l.leads ∙ ap (exec_fitting w a l.program l.strings) l.fits ∙ ap (exec_at w a l.program l.strings) l.no_run

lacks : (w : World) (a : Ask) → LacksRun w a → classed w a ≡ answered w a (refuses a Enomem)
lacks w a (inl l) = lacks_to_map w a l.0 l.1
lacks w a (inr l) = lacks_to_exec w a l.0 l.1

-- ---- ENOMEM

room_if : (b : Bool) (now : World) (t : Trace) (value : ℕ) → reply_of (if b then went now t else full) ≡ Some value → b ≡ true
room_if true now t value is = refl
room_if false now t value is = absurd cc

replies_if : (w : World) (pid value : ℕ) (b : Bool) (now : World) (t : Trace) (i : Item) → event w pid ≡ (if b then went now t else full) → b ≡ true
    → t.items ≡ i ∷ [] → i.entry.reply ≡ value → IsReplied w pid value
replies_if w pid value b now t i is room made reply =
    record { now = now; trace = t; goes = is ∙ ap (λ (c : Bool). if c then went now t else full) room; item = i; made = made; reply = reply }

module _ (w : World) (pid : ℕ) (r : IsRegularWorld w) where
  for_want : IsReplied w pid (refusal Enomem) → IsWithoutRun w pid
  for_want h =
      let c : RefusesCall w pid = is_refusal w pid (refusal Enomem) h (is_refused Enomem) (or_plain w r pid) in
      record {
        call = c.call;
        room = room_if (room_in w (weight_of c.call.bytes [])) _ _ (refusal Enomem) (ap reply_of (sym c.is) ∙ replied w pid (refusal Enomem) h);
        lacks = c.lacks (same_number c.errno (sym (its_reply w pid (refusal Enomem) h (is_refused Enomem) c)));
      }

  each_want : IsWithoutRun w pid → IsReplied w pid (refusal Enomem)
  each_want h =
      let a : Ask = ask w pid h.call in
      replies_if w pid (refusal Enomem) (room_in w (weight_of h.call.bytes [])) _ _ (plain_item (entry_of a (refusal Enomem) []))
      (refused_so w pid h.call Enomem r.unmarked (lacks w a h.lacks)) h.room refl refl

pub enomem_is_exact : EnomemIsExact
enomem_is_exact w pid r = (for_want w pid r, each_want w pid r)

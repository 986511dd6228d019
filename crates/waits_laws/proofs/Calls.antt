-- What holds behind each change that a call makes holds behind every call: of those that have ended it may have told of one child alone.
use Rattle.std.proofs.Common.{◌≡◌, ℕ, Bool, true, false, List, [], Option, Some, None, Result, Ok, Err, ◌⊎◌, inl, inr, refl}
use Rattle.std.specs.Prelude.{◌==◌, not, if◌then◌else◌}
use Rattle.byte_words.specs.ByteMap.{Bytes}
use Rattle.mmap_rules.specs.Space.{writable_in}
use Rattle.call_log.specs.declared.how.How.TheVariants.{Exit}
use Rattle.call_log.specs.declared.errno.Errno.{Errno}
use Rattle.call_log.specs.declared.errno.Errno.TheVariants.{Einval, Eagain, Enomem, E2big, Enametoolong}
use Rattle.call_log.specs.Errno.{refusal}
use Rattle.call_log.specs.Notes.{GotRange, call_note, weight_of}
use Rattle.call_log.specs.Strings.{ProgramStrings, program_strings}
use Rattle.call_log.specs.Sent.{Span, has_zero}
use Rattle.flat_loader.specs.Original.{block_pages}
use Rattle.flat_loader.specs.Frame.{frame_fits}
use Rattle.vfork_exec.specs.declared.family.Who.{Who}
use Rattle.vfork_exec.specs.declared.family.State.{State}
use Rattle.vfork_exec.specs.declared.family.State.TheVariants.{Waiting}
use Rattle.vfork_exec.specs.declared.family.Ended.{Ended}
use Rattle.vfork_exec.specs.declared.family.Waited.{Waited}
use Rattle.vfork_exec.specs.declared.family.Waited.TheVariants.{Child, NoneYet, Waits}
use Rattle.vfork_exec.specs.Families.{without_first}
use Rattle.machine_world.specs.World.{Rest, World}
use Rattle.machine_world.specs.Families.{is_full}
use Rattle.machine_world.specs.Found.{Found, taken}
use Rattle.machine_world.specs.Free.{free}
use Rattle.machine_world.specs.Asks.{Ask, Reply, Row, replies, waits, arg, gives, refuses}
use Rattle.machine_world.specs.PathCalls.{path_of}
use Rattle.machine_world.specs.FamilyCalls.{who_of, waitid_fault, child_info, no_info, info_at, vfork_flags, runs}
use Rattle.machine_world.specs.Rows.{row}
use Rattle.machine_world.specs.Recordings.{room_in}
use Rattle.machine_world.specs.Event.{Outcome, went, full, counted_in, noted, ended, put_got, entry_of, replied_world, room_for, served, put, waited, answered, exit_code, exited, is_exit, reaped, told_in, waitid_behind, waitid, with_child, forked, cloned, with_exec, load_of, executed, exec_at, exec_program, exec_strings, exec, classed}
use Rattle.machine_world.proofs.EachChange.{Answers}
use Rattle.machine_world.proofs.ByEvents.{Went, loading_of}

-- those that have ended stay, or the caller is told of one
abbrev pub Told : World → Ask → List Ended → Type 0
Told w a ended = (ended ≡ w.ended) ⊎ ((who : Who) × (ended ≡ without_first a.process.pid who w.ended))

abbrev pub replied_in : World → Ask → List Ended → Reply → Bytes → World
replied_in w a ended r m = replied_world (record w { ended = ended; rest = r.rest }) a r m

-- P holds behind each change, where Q holds of what the row leaves outside of the space
pub record Behind (P : World → Type 0) (Q : Rest → Type 0) (w : World) (a : Ask) : Type 0 where
  pub reply : (ended : List Ended) (r : Reply) (m : Bytes) → Told w a ended → Q r.rest → P (replied_in w a ended r m)
  pub exit : P (ended (noted (call_note (entry_of a 0 [])) (counted_in a.process.space w)) a.process (Exit (exit_code a)))
  pub fork : P (noted (call_note (entry_of a w.next_pid [])) (counted_in a.process.space (with_child w a)))
  pub load : (f : Found) (s : ProgramStrings) (page : ℕ)
      → P (noted (load_of a.process f.index (loading_of f s page)) (noted (call_note (entry_of a 0 [])) (counted_in a.process.space (with_exec w a.process (loading_of f s page)))))

-- an event in its space, and so no wait
abbrev pub Happens : (World → Type 0) → Outcome → Type 0
Happens P = Went (λ now t. t.events ≡ 1 → P now)

happens_if : (P : World → Type 0) (b : Bool) (x y : Outcome) → Happens P x → Happens P y → Happens P (if b then x else y)
happens_if P true x y hx hy = hx
happens_if P false x y hx hy = hy

module _ (P : World → Type 0) (Q : Rest → Type 0) (w : World) (a : Ask) (each : Behind P Q w a) (same : Q a.rest) where
  by_served : (ended : List Ended) (r : Reply) (m : Bytes) → Told w a ended → Q r.rest → Happens P (served (record w { ended = ended }) a r m)
  unfolding served
  by_served ended r m told holds = happens_if P (room_for w a r) (went _ _) full (λ one. each.reply ended r m told holds) tt

  by_put : (ended : List Ended) (r : Reply) (o : Result Bytes Span) → Told w a ended → Q r.rest → Happens P (put (record w { ended = ended }) a r o)
  by_put ended r (Ok m) told holds = by_served ended r m told holds
  by_put ended r (Err span) told holds = tt

  by_gives : (ended : List Ended) (value : ℕ) (got : List GotRange) → Told w a ended → Happens P (answered (record w { ended = ended }) a (gives a value got a.rest))
  by_gives ended value got told =
      by_put ended (record { value = value; got = got; rest = a.rest; space = a.space; over = false }) (put_got a.space.bytes (writable_in a.space.maps) got) told same

  by_refuses : (errno : Errno) → Happens P (answered w a (refuses a errno))
  by_refuses errno = by_gives w.ended (refusal errno) [] (inl refl)

  by_waited : (state : State) → Happens P (waited w a.process state)
  unfolding waited
  by_waited state one = absurd cc

  by_answered : (r : Row) → Answers Q r → Happens P (answered w a r)
  by_answered (replies r) holds = by_put w.ended r (put_got r.space.bytes (writable_in r.space.maps) r.got) (inl refl) holds
  by_answered (waits state) holds = by_waited state

  by_exited : Happens P (exited w a)
  unfolding exited
  by_exited = happens_if P (room_in w (weight_of a.sent [])) (went _ _) full (λ one. each.exit) tt

  by_reaped : (who : Who) (o : Result Waited Errno) → Happens P (reaped w a who o)
  by_reaped who (Ok (Child pid how)) = by_gives (without_first a.process.pid who w.ended) 0 (info_at (arg a 2) (child_info pid how)) (inr (who, refl))
  by_reaped who (Ok NoneYet) = by_gives w.ended 0 (info_at (arg a 2) no_info) (inl refl)
  by_reaped who (Ok Waits) = by_waited (Waiting who)
  by_reaped who (Err errno) = by_refuses errno

  by_fault : (o : Option Errno) → Happens P (waitid_behind w a o)
  by_fault (Some errno) = by_refuses errno
  by_fault None = by_reaped (who_of a) (told_in w a)

  by_waitid : Happens P (waitid w a)
  unfolding waitid
  by_waitid = by_fault (waitid_fault a)

  by_forked : Happens P (forked w a)
  unfolding forked
  by_forked = happens_if P (room_in w (weight_of a.sent [])) (went _ _) full (λ one. each.fork) tt

  by_cloned : Happens P (cloned w a)
  unfolding cloned
  by_cloned =
      happens_if P (not (arg a 0 == vfork_flags)) (answered w a (refuses a Einval)) _ (by_refuses Einval)
      (happens_if P (is_full w) (answered w a (refuses a Eagain)) (forked w a) (by_refuses Eagain) by_forked)

  module _ (s : ProgramStrings) where
    by_page : (f : Found) (o : Option ℕ) → Happens P (exec_at w a f s o)
    unfolding executed
    by_page f None = by_refuses Enomem
    by_page f (Some page) = happens_if P (room_in w (weight_of a.sent [])) (went _ _) full (λ one. each.load f s page) tt

    by_program : (o : Result Found Errno) → Happens P (exec_program w a s o)
    by_program (Ok f) =
        happens_if P (frame_fits f.original s.args s.env) (exec_at w a f s (taken w (block_pages f.original) (free w))) (answered w a (refuses a E2big))
        (by_page f (taken w (block_pages f.original) (free w))) (by_refuses E2big)
    by_program (Err errno) = by_refuses errno

  by_strings : (o : Option ProgramStrings) → Happens P (exec_strings w a o)
  by_strings (Some s) = by_program s (runs w.rest (path_of a))
  by_strings None = by_refuses E2big

  by_exec : Happens P (exec w a)
  unfolding exec
  by_exec =
      happens_if P (has_zero a.sent) (exec_strings w a (program_strings a.sent (arg a 1) (arg a 2))) (answered w a (refuses a Enametoolong))
      (by_strings (program_strings a.sent (arg a 1) (arg a 2))) (by_refuses Enametoolong)

  pub by_call : Answers Q (row a) → Happens P (classed w a)
  by_call rows =
      happens_if P (is_exit a.number) (exited w a) _ by_exited
      (happens_if P (a.number == 95) (waitid w a) _ by_waitid
      (happens_if P (a.number == 220) (cloned w a) _ by_cloned
      (happens_if P (a.number == 221) (exec w a) (answered w a (row a)) by_exec (by_answered (row a) rows))))

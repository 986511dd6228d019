-- Which notes an event adds: calls other than exits add none of an end.
use Rattle.std.proofs.Common.{◌≡◌, ℕ, zero, suc, Bool, true, false, List, [], ◌∷◌, ◌++◌, Option, Some, None, Result, Ok, Err, refl, sym, subst, ◌∙◌}
use Rattle.std.specs.Prelude.{◌==◌, not, slice_get, if◌then◌else◌}
use Rattle.std.proofs.lemmas.List.{append_cancel_right}
use Rattle.byte_words.specs.ByteMap.{Bytes}
use Rattle.mmap_rules.specs.Space.{writable_in}
use Rattle.call_log.specs.declared.how.How.{How}
use Rattle.call_log.specs.declared.errno.Errno.{Errno}
use Rattle.call_log.specs.declared.errno.Errno.TheVariants.{Einval, Eagain, Enomem, E2big, Enametoolong}
use Rattle.call_log.specs.Errno.{refusal}
use Rattle.call_log.specs.Notes.{GotRange, Note, call_note, load_note, end_note, stray_note, weight_of}
use Rattle.call_log.specs.Strings.{ProgramStrings, program_strings}
use Rattle.call_log.specs.Sent.{Span, has_zero}
use Rattle.flat_loader.specs.Original.{block_pages}
use Rattle.flat_loader.specs.Frame.{frame_fits}
use Rattle.vfork_exec.specs.declared.family.Who.{Who}
use Rattle.vfork_exec.specs.declared.family.State.{State}
use Rattle.vfork_exec.specs.declared.family.State.TheVariants.{Waiting}
use Rattle.vfork_exec.specs.declared.family.Ended.{Ended}
use Rattle.vfork_exec.specs.declared.family.Waited.{Waited}
use Rattle.vfork_exec.specs.declared.family.Waited.TheVariants.{Child, NoneYet, Waits}
use Rattle.vfork_exec.specs.Families.{without_first}
use Rattle.machine_world.specs.World.{World}
use Rattle.machine_world.specs.Families.{is_full}
use Rattle.machine_world.specs.Found.{Found, taken}
use Rattle.machine_world.specs.Free.{free}
use Rattle.machine_world.specs.Asks.{Ask, Reply, Row, replies, waits, arg, gives, refuses}
use Rattle.machine_world.specs.PathCalls.{path_of}
use Rattle.machine_world.specs.FamilyCalls.{who_of, waitid_fault, child_info, no_info, info_at, vfork_flags, runs}
use Rattle.machine_world.specs.Recordings.{room_in}
use Rattle.machine_world.specs.Event.{Trace, Outcome, went, full, put_got, entry_of, room_for, served, put, waited, answered, reaped, told_in, waitid_behind, waitid, forked, cloned, load_of, executed, exec_at, exec_program, exec_strings, exec}
use Rattle.machine_world.proofs.ByEvents.{Went, loading_of}

-- ---- notes

-- E holds of the pid and the end that the note tells of, if it tells of one
abbrev pub IfEnd : (ℕ → How → Type 0) → Note → Type 0
IfEnd E (call_note e) = Unit {0}
IfEnd E (load_note l) = Unit {0}
IfEnd E (end_note pid how) = E pid how
IfEnd E (stray_note pid seen) = Unit {0}

-- it holds of each of these notes
abbrev pub AllEnds : (ℕ → How → Type 0) → List Note → Type 0
AllEnds E [] = Unit {0}
AllEnds E (note ∷ notes) = IfEnd E note × AllEnds E notes

-- so it holds of the end noted at a place
pub end_at : (E : ℕ → How → Type 0) (notes : List Note) (i pid : ℕ) (how : How) → AllEnds E notes → slice_get notes i ≡ Some (end_note pid how) → E pid how
end_at E [] i pid how all there = absurd cc
end_at E (note ∷ notes) zero pid how all there = let same : note ≡ end_note pid how = cc in subst (IfEnd E) same all.0
end_at E (note ∷ notes) (suc i) pid how all there = end_at E notes i pid how all.1 there

-- notes stand before the old ones, and E holds of each end among them
pub record AddsNotes (E : ℕ → How → Type 0) (old now : List Note) : Type 0 where
  pub notes : List Note
  pub is : now ≡ notes ++ old
  pub ends : AllEnds E notes

-- it holds of each end before the old notes, however these are told apart
pub end_added : (E : ℕ → How → Type 0) (old now more : List Note) (i pid : ℕ) (how : How)
    → AddsNotes E old now → now ≡ more ++ old → slice_get more i ≡ Some (end_note pid how) → E pid how
end_added E old now more i pid how adds is there =
    let same : adds.notes ≡ more = append_cancel_right adds.notes more old (sym adds.is ∙ is) in
    end_at E more i pid how (subst (AllEnds E) same adds.ends) there

-- ---- an event

module _ (E : Trace → ℕ → How → Type 0) where
  -- where an event went, E holds of each end that it noted
  abbrev pub Adds : List Note → Outcome → Type 0
  Adds old o = Went (λ now t. AddsNotes (E t) old now.notes) o

  pub adds_if : (old : List Note) (b : Bool) (x y : Outcome) → Adds old x → Adds old y → Adds old (if b then x else y)
  adds_if old true x y hx hy = hx
  adds_if old false x y hx hy = hy

  pub adds_test : (old : List Note) (b : Bool) (x y : Outcome) → (b ≡ true → Adds old x) → (b ≡ false → Adds old y) → Adds old (if b then x else y)
  adds_test old true x y hx hy = hx refl
  adds_test old false x y hx hy = hy refl

  -- ---- a call that is no exit

  module _ (w : World) (a : Ask) where
    -- a reply adds the note of its call, and a wait adds none
    adds_served : (ended : List Ended) (r : Reply) (m : Bytes) → Adds w.notes (served (record w { ended = ended }) a r m)
    unfolding served
    adds_served ended r m =
        adds_if w.notes (room_for w a r) (went _ _) full
        (record { notes = call_note (entry_of a r.value r.got) ∷ []; is = refl; ends = (tt, tt) }) tt

    adds_put : (ended : List Ended) (r : Reply) (o : Result Bytes Span) → Adds w.notes (put (record w { ended = ended }) a r o)
    adds_put ended r (Ok m) = adds_served ended r m
    adds_put ended r (Err span) = tt

    adds_gives : (ended : List Ended) (value : ℕ) (got : List GotRange) → Adds w.notes (answered (record w { ended = ended }) a (gives a value got a.rest))
    adds_gives ended value got =
        adds_put ended (record { value = value; got = got; rest = a.rest; space = a.space; over = false }) (put_got a.space.bytes (writable_in a.space.maps) got)

    adds_refuses : (errno : Errno) → Adds w.notes (answered w a (refuses a errno))
    adds_refuses errno = adds_gives w.ended (refusal errno) []

    adds_waited : (state : State) → Adds w.notes (waited w a.process state)
    unfolding waited
    adds_waited state = record { notes = []; is = refl; ends = tt }

    pub adds_answered : (r : Row) → Adds w.notes (answered w a r)
    adds_answered (replies r) = adds_put w.ended r (put_got r.space.bytes (writable_in r.space.maps) r.got)
    adds_answered (waits state) = adds_waited state

    -- waitid and clone
    adds_reaped : (who : Who) (o : Result Waited Errno) → Adds w.notes (reaped w a who o)
    adds_reaped who (Ok (Child pid how)) = adds_gives (without_first a.process.pid who w.ended) 0 (info_at (arg a 2) (child_info pid how))
    adds_reaped who (Ok NoneYet) = adds_gives w.ended 0 (info_at (arg a 2) no_info)
    adds_reaped who (Ok Waits) = adds_waited (Waiting who)
    adds_reaped who (Err errno) = adds_refuses errno

    adds_behind : (o : Option Errno) → Adds w.notes (waitid_behind w a o)
    adds_behind (Some errno) = adds_refuses errno
    adds_behind None = adds_reaped (who_of a) (told_in w a)

    pub adds_waitid : Adds w.notes (waitid w a)
    unfolding waitid
    adds_waitid = adds_behind (waitid_fault a)

    adds_forked : Adds w.notes (forked w a)
    unfolding forked
    adds_forked =
        adds_if w.notes (room_in w (weight_of a.sent [])) (went _ _) full
        (record { notes = call_note (entry_of a w.next_pid []) ∷ []; is = refl; ends = (tt, tt) }) tt

    pub adds_cloned : Adds w.notes (cloned w a)
    unfolding cloned
    adds_cloned =
        adds_if w.notes (not (arg a 0 == vfork_flags)) (answered w a (refuses a Einval)) _ (adds_refuses Einval)
        (adds_if w.notes (is_full w) (answered w a (refuses a Eagain)) (forked w a) (adds_refuses Eagain) adds_forked)

    -- execve adds the notes of its call and of the load
    module _ (s : ProgramStrings) where
      adds_page : (f : Found) (o : Option ℕ) → Adds w.notes (exec_at w a f s o)
      unfolding executed
      adds_page f None = adds_refuses Enomem
      adds_page f (Some page) =
          adds_if w.notes (room_in w (weight_of a.sent [])) (went _ _) full
          (record { notes = load_of a.process f.index (loading_of f s page) ∷ call_note (entry_of a 0 []) ∷ []; is = refl; ends = (tt, (tt, tt)) }) tt

      adds_program : (o : Result Found Errno) → Adds w.notes (exec_program w a s o)
      adds_program (Ok f) =
          adds_if w.notes (frame_fits f.original s.args s.env) (exec_at w a f s (taken w (block_pages f.original) (free w))) (answered w a (refuses a E2big))
          (adds_page f (taken w (block_pages f.original) (free w))) (adds_refuses E2big)
      adds_program (Err errno) = adds_refuses errno

    adds_strings : (o : Option ProgramStrings) → Adds w.notes (exec_strings w a o)
    adds_strings (Some s) = adds_program s (runs w.rest (path_of a))
    adds_strings None = adds_refuses E2big

    pub adds_exec : Adds w.notes (exec w a)
    unfolding exec
    adds_exec =
        adds_if w.notes (has_zero a.sent) (exec_strings w a (program_strings a.sent (arg a 1) (arg a 2))) (answered w a (refuses a Enametoolong))
        (adds_strings (program_strings a.sent (arg a 1) (arg a 2))) (adds_refuses Enametoolong)

-- The notes that an event adds: which of them are calls, and with what replies.
use Rattle.std.proofs.Common.{◌≡◌, ℕ, false, List, [], ◌∷◌, ◌++◌, Option, Some, None, refl, sym, subst, ◌∙◌, append_assoc}
use Rattle.std.specs.List.{AllByRecursion}
use Rattle.std.proofs.lemmas.List.{append_cancel_right}
use Rattle.byte_words.specs.declared.access.Access.{Access}
use Rattle.call_log.specs.Notes.{CallEntry, Note, call_note, load_note, end_note, stray_note}
use Rattle.flat_loader.specs.Alone.{is_errno}
use Rattle.memory_world.specs.Physical.{Physical, with_stray}
use Rattle.refusal_laws.proofs.Lists.{each_append}

-- P holds of the entry, if the note is that of a call
abbrev pub OfCall : (CallEntry → Type 0) → Note → Type 0
OfCall P (call_note e) = P e
OfCall P (load_note load) = Unit {0}
OfCall P (end_note pid how) = Unit {0}
OfCall P (stray_note pid seen) = Unit {0}

-- its reply is no errno
abbrev pub IsPlain : CallEntry → Type 0
IsPlain e = is_errno e.reply ≡ false

-- notes come before those that are there, and P holds of each call of them
pub record Adds (P : CallEntry → Type 0) (old now : List Note) : Type 0 where
  pub more : List Note
  pub is : now ≡ more ++ old
  pub each : AllByRecursion (OfCall P) more

pub adds_none : (P : CallEntry → Type 0) (notes : List Note) → Adds P notes notes
adds_none P notes = record { more = []; is = refl; each = tt }

-- beside the note of the run's first stray access
pub adds_stray : (P : CallEntry → Type 0) (p : Physical) (pid : ℕ) (o : Option Access) (now : List Note) → Adds P (with_stray pid o p).world.notes now → Adds P p.world.notes now
adds_stray P p pid None now h = h
adds_stray P p pid (Some access) now h =
    let stray : List Note = stray_note pid access ∷ [] in
    record { more = h.more ++ stray; is = h.is ∙ sym (append_assoc h.more stray p.world.notes); each = each_append (OfCall P) h.more stray h.each (tt, tt) }

-- of a call that is among them
pub among : (P : CallEntry → Type 0) (old now later earlier : List Note) (e : CallEntry) → Adds P old now → now ≡ later ++ call_note e ∷ earlier ++ old → P e
among P old now later earlier e h is = front later (subst (AllByRecursion (OfCall P)) (append_cancel_right h.more (later ++ call_note e ∷ earlier) old (sym h.is ∙ is)) h.each)
  where
    front : (later : List Note) → AllByRecursion (OfCall P) (later ++ call_note e ∷ earlier) → P e
    front [] each = each.0
    front (n ∷ ns) each = front ns each.1

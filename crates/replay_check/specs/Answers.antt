-- An answered call of a program by itself: what its item asks for, and what it leaves.
use Rattle.std.specs.Prelude.{◌≡◌, ◌≢◌, ℕ, Bool, true, false, not, ◌&&◌, ◌||◌, if◌then◌else◌, List, All, [], ◌∷◌, Option, Some, None, Result, Ok, Err}
use Rattle.std.specs.List.{AllByRecursion}
use Rattle.byte_words.specs.ByteMap.{Bytes}
use Rattle.call_log.specs.Notes.{GotRange, CallEntry}
use Rattle.call_log.specs.Sent.{Span, sent}
use Rattle.mmap_rules.specs.declared.mapping.Range.{Range}
use Rattle.flat_loader.specs.Alone.{Runner, OwnMemory, Solo, Item, own_of, writable_of, has_byte, number_of, args_of, put_got, is_call, new_range, is_placed, may_map, new_bytes, with_range, solo_answered}
use Rattle.call_bytes.specs.Puts.{stray_range, IsRange}

-- ---- what a function that may refute leaves

abbrev pub GivesOrRefutes : {A : Type 0} → Option A → Bool → A → Type 0
GivesOrRefutes (Some now) true new = new ≡ now
GivesOrRefutes (Some now) false new = ⊥
GivesOrRefutes None true new = ⊥
GivesOrRefutes None false new = Unit {0}

-- ---- a call and the item that tells of it

-- each range of output has a byte
abbrev pub AreFilled : List GotRange → Type 0
AreFilled gots = AllByRecursion (λ (w : GotRange). w.bytes ≢ []) gots

abbrev pub with_put : OwnMemory → Result Bytes Span → Option OwnMemory
with_put m (Ok bytes) = Some (record m { bytes = bytes })
with_put m (Err span) = None

-- the output is written
unfoldable pub put_own : OwnMemory → List GotRange → Option OwnMemory
put_own m gots = with_put m (put_got m.bytes (writable_of m.ranges) gots)

abbrev pub told_by : Runner → OwnMemory → CallEntry → Result (List ℕ) Span → Option OwnMemory
told_by top m e (Ok bytes) = if is_call top bytes e then put_own m e.got else None
told_by top m e (Err span) = None

-- the item tells of the call at which the process stands, and its output is written
unfoldable pub told : Runner → OwnMemory → CallEntry → Option OwnMemory
told top m e = told_by top m e (sent (number_of top.regs) (args_of top.regs) m.bytes)

abbrev pub answered_over : Runner → List Runner → Item → Option OwnMemory → Option Solo
answered_over top below i None = None
answered_over top below i (Some m) = solo_answered top below m i m.bytes

abbrev pub answered_on : OwnMemory → Item → List Runner → Option Solo
answered_on m i [] = None
answered_on m i (top ∷ below) = answered_over top below i (told top m i.entry)

-- a call at which the process stands that runs is answered by an item
unfoldable pub answered : Solo → Item → Option Solo
answered s i = answered_on s.memory i s.stack

-- a byte that nobody may write may lie at an address
abbrev pub byte_lies : OwnMemory → (a b : ℕ) → Bool
byte_lies m a b = not (own_of m.ranges a) || (not (writable_of m.ranges a) && has_byte (m.bytes a) b)

-- an mmap2 adds its range, if it may be
abbrev pub mapped : OwnMemory → Item → Option OwnMemory
mapped m i = if may_map m (new_range i.entry) i.brought then Some (with_range m (new_range i.entry) (new_bytes (new_range i.entry) i.brought)) else None

-- no range of output strays, or one does
abbrev pub MayPut : (ℕ → Bool) → List GotRange → Bool → Type 0
MayPut w gots true = (stray_range w gots ≡ None) × All IsRange gots
MayPut w gots false = (span : Span) × (stray_range w gots ≡ Some span)

-- the range of an mmap2, where it may be at all
abbrev pub IsNewRange : CallEntry → Option Range → Type 0
IsNewRange e (Some r) = (r ≡ new_range e) × (is_placed r ≡ true)
IsNewRange e None = is_placed (new_range e) ≡ false

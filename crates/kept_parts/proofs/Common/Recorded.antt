-- What is recorded behind an event, and the room that the log has beside it.
use Rattle.std.proofs.Common.{◌≡◌, ℕ, ◌+◌, ◌<◌, ◌≤◌, Bool, true, false, List, [], ◌∷◌, ◌++◌, length, refl, sym, ap, subst, ◌∙◌, arith, add-zero}
use Rattle.std.specs.Prelude.{◌==◌, ◌&&◌, not, nat_le, ◌^◌, if◌then◌else◌, sum, map, slice_index}
use Rattle.std.proofs.lemmas.Bool.Decides.{nat_tests}
use Rattle.std.proofs.lemmas.List.{append-nil}
use Rattle.byte_words.specs.ByteMap.{Bytes}
use Rattle.call_log.specs.Notes.{GotRange, CallEntry, Note, calls_in, bytes_in, weight_of, has_room}
use Rattle.call_log.specs.declared.note.Got.{Got}
use Rattle.call_log.specs.declared.errno.Errno.{Errno}
use Rattle.call_log.specs.Errno.{refusal}
use Rattle.call_log.specs.Values.{got_value}
use Rattle.call_log.specs.Flags.{has_flag}
use Rattle.mmap_rules.specs.Want.{map_anonymous}
use Rattle.mmap_rules.specs.Held.{Held}
use Rattle.flat_loader.specs.Alone.{is_errno}
use Rattle.vfork_exec.specs.declared.entry.Entry.{Entry}
use Rattle.file_calls.specs.declared.call.Call.{Call}
use Rattle.machine_world.specs.World.{Recording}
use Rattle.machine_world.specs.Asks.{Reply}
use Rattle.machine_world.specs.Recordings.{is_recorded, with_brought, room_in}
use Rattle.machine_world.specs.Event.{entry_of, maps_file, brought, room_for}
use Rattle.machine_world.proofs.Refused.{is_refused, brings_none}
use Rattle.recordings.proofs.Weights.{beside}
use Rattle.kept_parts.specs.declared.task.Task.{Task}
use Rattle.kept_parts.specs.declared.effect.Effect.{Effect}
use Rattle.kept_parts.specs.declared.effect.Effect.TheVariants.{Answer, Yield, Break}
use Rattle.kept_parts.specs.Kept.{Kept}
use Rattle.kept_parts.specs.Regular.{Regular}
use Rattle.kept_parts.specs.Recorded.{event_recorded, call_recorded, room_beside}
use Rattle.kept_parts.specs.Stands.{About, world_of}
use Rattle.kept_parts.specs.Calls.{ask_in, maps_by, value_of, noted_entry}

-- ---- a call that maps no file

front_none : (x y z : Bool) → (x && y) ≡ false → (x && y && z) ≡ false
front_none true true z h = absurd cc
front_none true false z h = refl
front_none false y z h = refl

first_none : (x y z : Bool) → x ≡ false → (x && y && z) ≡ false
first_none true y z h = absurd cc
first_none false y z h = refl

pub maps_by_none : (call : Call) (f : Effect) (next : ℕ → ℕ) (got : List GotRange) → maps_by call f ≡ false → maps_file (noted_entry call (value_of next f) got) ≡ false
maps_by_none call (Answer value) next got h = front_none (call.number == 222) (not (is_errno value)) (not (has_flag (slice_index call.args 3) map_anonymous)) h
maps_by_none call Yield next got h = first_none (call.number == 222) (not (is_errno 0)) (not (has_flag (slice_index call.args 3) map_anonymous)) h
maps_by_none call (Break to) next got h = first_none (call.number == 222) (not (is_errno (next to))) (not (has_flag (slice_index call.args 3) map_anonymous)) h

pub maps_none : (call : Call) (value : ℕ) (got : List GotRange) → (call.number == 222) ≡ false → maps_file (noted_entry call value got) ≡ false
maps_none call value got h = first_none (call.number == 222) (not (is_errno value)) (not (has_flag (slice_index call.args 3) map_anonymous)) h

-- nor does one that is refused
pub refusal_plain : (call : Call) (errno : Errno) (value : ℕ) → value ≡ refusal errno → maps_by call (Answer value) ≡ false
refusal_plain call errno value is = none (call.number == 222) (is_errno value) (ap is_errno is ∙ is_refused errno)
  where
    none : (x y : Bool) → y ≡ true → (x && not y) ≡ false
    none true true h = refl
    none true false h = absurd cc
    none false y h = refl

-- it brings nothing
pub recorded_plain : (r : Recording) (space : ℕ) (e : CallEntry) (m : Bytes) → maps_file e ≡ false → call_recorded r space e m ≡ event_recorded r space
recorded_plain r space e m h =
    ap (λ (lists : List (List ℕ)). record (event_recorded r space) { brought = lists }) (none_more (is_recorded r space) (maps_file e) (brought e m) h)
  where
    none_more : (b c : Bool) (l : List ℕ) → c ≡ false → r.brought ++ (if b then (if c then l ∷ [] else []) else []) ≡ r.brought
    none_more true true l h = absurd cc
    none_more true false l h = append-nil r.brought
    none_more false c l h = append-nil r.brought

-- ---- room

pub room_less : (notes : List Note) (m n : ℕ) → m ≤ n → has_room notes n ≡ true → has_room notes m ≡ true
unfolding has_room
room_less notes m n less room = by (nat_le (sum (map calls_in notes) + 1) 1048576) room
  where
    by : (b : Bool) → (b && nat_le (sum (map bytes_in notes) + n) 67108864) ≡ true → (b && nat_le (sum (map bytes_in notes) + m) 67108864) ≡ true
    by true h = below (sum (map bytes_in notes)) h
      where
        below : (s : ℕ) → nat_le (s + n) 67108864 ≡ true → nat_le (s + m) 67108864 ≡ true
        below s h = grind (arith, nat_tests, less)
    by false h = h

pub room_none : (notes : List Note) (m n : ℕ) → m ≤ n → has_room notes m ≡ false → has_room notes n ≡ false
room_none notes m n less none = by (has_room notes n) refl
  where
    by : (b : Bool) → has_room notes n ≡ b → b ≡ false
    by true is = absurd (let e : true ≡ false = sym (room_less notes m n less is) ∙ none in cc)
    by false is = refl

-- so many bytes, and all that were brought
brought_most : (lists : List (List ℕ)) (n : ℕ) → n ≤ with_brought lists n
brought_most lists n = omega (arith, beside lists n)

brought_less : (lists : List (List ℕ)) (m n : ℕ) → m ≤ n → with_brought lists m ≤ with_brought lists n
brought_less lists m n less = omega (arith, beside lists m, beside lists n, less)

-- there is room without what was brought
pub room_alone : (k : Kept) (bytes : ℕ) → room_beside k bytes ≡ true → has_room k.notes bytes ≡ true
room_alone k bytes room = room_less k.notes bytes (with_brought k.recording.brought bytes) (brought_most k.recording.brought bytes) room

-- what has room has it with fewer bytes
pub beside_less : (k : Kept) (m n : ℕ) → m ≤ n → room_beside k n ≡ true → room_beside k m ≡ true
beside_less k m n less = room_less k.notes (with_brought k.recording.brought m) (with_brought k.recording.brought n) (brought_less k.recording.brought m n less)

-- what was brought is little
pub few_brought : (k : Kept) (bytes : ℕ) → room_beside k bytes ≡ true → with_brought k.recording.brought 0 < 2 ^ 63
unfolding has_room
few_brought k bytes room = by (nat_le (sum (map calls_in k.notes) + 1) 1048576) room
  where
    less : with_brought k.recording.brought 0 ≤ with_brought k.recording.brought bytes
    less = brought_less k.recording.brought 0 bytes (omega arith)

    by : (b : Bool) → (b && nat_le (sum (map bytes_in k.notes) + with_brought k.recording.brought bytes) 67108864) ≡ true → with_brought k.recording.brought 0 < 2 ^ 63
    by true h = below (sum (map bytes_in k.notes)) (with_brought k.recording.brought bytes) (with_brought k.recording.brought 0) h less
      where
        below : (s n m : ℕ) → nat_le (s + n) 67108864 ≡ true → m ≤ n → m < 2 ^ 63
        below s n m h le = let most : s + n ≤ 67108864 = grind (arith, nat_tests, h) in omega (arith, most, le)
    by false h = absurd cc

module _ (a : About) (k : Kept) (e : Entry Task) (h : Held) (call : Call) (r : Reply) where
  -- for a call that maps no file
  pub room_plain : (b : Bool) → maps_file (entry_of (ask_in a k e h call) r.value r.got) ≡ false → room_beside k (weight_of call.sent.items r.got) ≡ b → room_for (world_of a k) (ask_in a k e h call) r ≡ b
  unfolding world_of
  room_plain b plain room =
      ap (room_in (world_of a k)) (brings_none (world_of a k) e.value.space (entry_of (ask_in a k e h call) r.value r.got) r.space.bytes (weight_of call.sent.items r.got) plain) ∙ room

  -- where there is none for the call alone
  pub room_never : room_beside k (weight_of call.sent.items r.got) ≡ false → room_for (world_of a k) (ask_in a k e h call) r ≡ false
  unfolding world_of
  room_never none =
      room_none k.notes (with_brought k.recording.brought (weight_of call.sent.items r.got)) _ (brought_less k.recording.brought (weight_of call.sent.items r.got) _ (more (is_recorded k.recording e.value.space))) none
    where
      more : (b : Bool) → weight_of call.sent.items r.got
          ≤ (if b then length (brought (entry_of (ask_in a k e h call) r.value r.got) r.space.bytes) + weight_of call.sent.items r.got else weight_of call.sent.items r.got)
      more true = omega arith
      more false = omega arith

-- ---- what holds of the parts holds whatever is recorded

pub regular_recorded : (k : Kept) → Regular k → (r : Recording) → Regular (record k { recording = r })
regular_recorded k regular r = record {
  memory = regular.memory;
  some = regular.some;
  most = regular.most;
  regions = regular.regions;
  uses = regular.uses;
  one_use = regular.one_use;
  names = regular.names;
  pages = regular.pages;
  runs = regular.runs;
  chains = regular.chains;
  falls = regular.falls;
  few = regular.few;
  pids = regular.pids;
  loads = regular.loads;
}

-- ---- room for a call's own note

module _ (k old : Kept) (view : k ≡ old) (sent : List ℕ) (room : room_beside old (length sent) ≡ true) where
  pub room_inside : has_room k.notes (length sent) ≡ true
  room_inside = room_alone k (length sent) (subst (λ (s : Kept). room_beside s (length sent) ≡ true) (sym view) room)

  pub room_left : (notes : List Note) → notes ≡ k.notes → (xs : List Got) → xs ≡ [] → has_room notes (weight_of sent (map got_value xs)) ≡ true
  room_left notes same xs none =
      (λ i. has_room (same i) (weight_of sent (map got_value (none i)))) ∙ ap (has_room k.notes) (add-zero (length sent)) ∙ room_inside

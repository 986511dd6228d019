-- A refused call brings nothing, and leaves its space.
use Rattle.std.proofs.Common.{◌≡◌, ℕ, ◌≤◌, ◌+◌, Bool, true, false, List, [], ◌∷◌, ◌++◌, refl, ap, ◌∙◌, arith}
use Rattle.std.proofs.lemmas.List.{append-nil}
use Rattle.std.specs.Prelude.{not, ◌&&◌, nat_le, length, if◌then◌else◌}
use Rattle.std.proofs.lemmas.Bool.Decides.{nat_tests}
use Rattle.byte_words.specs.ByteMap.{Bytes}
use Rattle.call_log.specs.declared.errno.Errno.{Errno}
use Rattle.call_log.specs.Errno.{refusal}
use Rattle.call_log.specs.Notes.{CallEntry, weight_of}
use Rattle.call_log.proofs.Refusals.{refusals}
use Rattle.vfork_exec.specs.Keyed.{change}
use Rattle.flat_loader.specs.Alone.{is_errno}
use Rattle.machine_world.specs.World.{World, id_of}
use Rattle.machine_world.specs.Asks.{Ask}
use Rattle.machine_world.specs.Recordings.{is_recorded, room_in}
use Rattle.machine_world.specs.Event.{Trace, went, full, ask_of, entry_of, maps_file, brought, lists_brought, with_bytes_of, served, settled}
use Rattle.machine_world.specs.Laws.{RefusalsChangeNothingElse}
use Rattle.machine_world.proofs.States.{change_same}
use Rattle.machine_world.proofs.Awake.{not_awake}

le_test : (m n : ℕ) → m ≤ n → nat_le m n ≡ true
le_test m n h = grind (arith, nat_tests)

pub is_refused : (e : Errno) → is_errno (refusal e) ≡ true
unfolding is_errno
is_refused e = le_test 0xfffff001 (refusal e) (refusals e).from

nothing : (x y z : Bool) (bytes : List ℕ) → y ≡ true → (if x && not y && z then bytes else []) ≡ []
nothing true true z bytes h = refl
nothing true false z bytes h = absurd cc
nothing false y z bytes h = refl

-- ---- a call that maps no file

maps_none : (x y z : Bool) → y ≡ true → (x && not y && z) ≡ false
maps_none true true z h = refl
maps_none true false z h = absurd cc
maps_none false y z h = refl

pub maps_nothing : (e : CallEntry) → is_errno e.reply ≡ true → maps_file e ≡ false
maps_nothing e h = maps_none _ (is_errno e.reply) _ h

-- it brings no bytes, and none are recorded
pub brings_none : (w : World) (space : ℕ) (e : CallEntry) (m : Bytes) (weight : ℕ) → maps_file e ≡ false → with_bytes_of w space e m weight ≡ weight
brings_none w space e m weight h = none_length (is_recorded w.recording space) (maps_file e) _ h
  where
    none_length : (b c : Bool) (l : List ℕ) → c ≡ false → (if b then length (if c then l else []) + weight else weight) ≡ weight
    none_length true true l h = absurd cc
    none_length true false l h = omega arith
    none_length false c l h = refl

pub brought_none : (w : World) (space : ℕ) (e : CallEntry) (m : Bytes) → maps_file e ≡ false
    → w.recording.brought ++ (if is_recorded w.recording space then lists_brought e m else []) ≡ w.recording.brought
brought_none w space e m h = none_more (is_recorded w.recording space) (maps_file e) (brought e m) w.recording.brought h
  where
    none_more : (b c : Bool) (l : List ℕ) (lists : List (List ℕ)) → c ≡ false → lists ++ (if b then (if c then l ∷ [] else []) else []) ≡ lists
    none_more true true l lists h = absurd cc
    none_more true false l lists h = append-nil lists
    none_more false c l lists h = append-nil lists

pub brings_nothing : (e : CallEntry) (m : Bytes) → is_errno e.reply ≡ true → brought e m ≡ []
brings_nothing e m h = nothing _ (is_errno e.reply) _ _ h

stays_settled : (b : Bool) (now : World) (t : Trace) → now.rest.files.changed ≡ [] → settled (if b then went now t else full) ≡ (if b then went now t else full)
unfolding settled
stays_settled true now t unmarked = ap (λ v. went v t) (not_awake now unmarked)
stays_settled false now t unmarked = refl

pub refusals_change_nothing_else : RefusalsChangeNothingElse
unfolding served
refusals_change_nothing_else w p s bytes e has unmarked is =
    let a : Ask = ask_of w p s.space bytes in
    let spaces : change id_of p.space (λ l. record l { space = s.space }) w.spaces ≡ w.spaces =
    change_same id_of p.space (λ l. record l { space = s.space }) w.spaces s has refl in
    let none : brought (entry_of a (refusal e) []) s.space.bytes ≡ [] = brings_nothing (entry_of a (refusal e) []) s.space.bytes (is_refused e) in
    let maps : maps_file (entry_of a (refusal e) []) ≡ false = maps_nothing (entry_of a (refusal e) []) (is_refused e) in
    let weight = brings_none w p.space (entry_of a (refusal e) []) s.space.bytes (weight_of bytes []) maps in
    let lists = brought_none w p.space (entry_of a (refusal e) []) s.space.bytes maps in
    ap settled (is ∙ (rw (spaces, weight, lists, none) refl)) ∙ stays_settled (room_in w (weight_of a.sent [])) _ _ unmarked

-- What a mapping of a file brings, as the code records it and as it is read back from its space.
use Rattle.std.proofs.Common.{◌≡◌, ℕ, zero, suc, ◌+◌, ◌*◌, ◌<◌, ◌≤◌, Bool, true, false, List, [], ◌∷◌, ◌++◌, length, Option, Some, Result, Ok, Err, refl, sym, ap, ◌∙◌, arith}
use Rattle.std.specs.Prelude.{◌==◌, ◌&&◌, not, nat_le, is_ok, is_some, unwrap_or, if◌then◌else◌, slice_index}
use Rattle.std.proofs.lemmas.Bool.Decides.{nat_tests}
use Rattle.std.proofs.lemmas.List.{append-nil}
use Rattle.std.specs.declared.alloc.AllocError.{AllocError}
use Rattle.byte_words.specs.ByteMap.{Bytes, with_bytes}
use Rattle.call_log.specs.declared.errno.Errno.TheVariants.{Enomem}
use Rattle.call_log.specs.Errno.{refusal}
use Rattle.call_log.specs.Flags.{has_flag}
use Rattle.call_log.specs.Sent.{cons_byte, bytes_from}
use Rattle.page_runs.specs.declared.place.Kind.{Kind}
use Rattle.mem_files.specs.Inodes.{Inodes, bytes_of}
use Rattle.mmap_rules.specs.declared.map_fault.MapFault.{MapFault}
use Rattle.mmap_rules.specs.declared.map_fault.MapFault.TheVariants as fault
use Rattle.mmap_rules.specs.declared.want.Want.{Want}
use Rattle.mmap_rules.specs.declared.want.Want.TheVariants.{Anon, File}
use Rattle.mmap_rules.specs.Want.{pages_for, map_anonymous}
use Rattle.mmap_rules.specs.Held.{Held}
use Rattle.mmap_rules.specs.MapState.{Mapped, map_state, mapped, file_in}
use Rattle.mmap_rules.proofs.FilePages.{length-file_pages}
use Rattle.mmap_rules.specs.Copies.{wanted_bytes}
use Rattle.vfork_exec.proofs.Keyed.{eqb_other, eqb_same}
use Rattle.flat_loader.specs.Alone.{is_errno}
use Rattle.file_calls.specs.declared.call.Call.{Call}
use Rattle.machine_world.specs.World.{Recording}
use Rattle.machine_world.specs.Recordings.{is_recorded}
use Rattle.machine_world.specs.Event.{maps_file, lists_brought}
use Rattle.machine_world.proofs.Refused.{is_refused, maps_nothing}
use Rattle.kept_parts.specs.Kept.{Kept}
use Rattle.kept_parts.specs.Recorded.{event_recorded, call_recorded}
use Rattle.kept_parts.specs.MapsIn.{IsAddress, IsAsked, is_file}
use Rattle.kept_parts.specs.Calls.{noted_entry}
use Rattle.kept_parts.proofs.Common.Recorded.{recorded_plain}

-- ---- bytes that are laid are read back

same_from : (m n : Bytes) (a len : ℕ) → ((k : ℕ) → a ≤ k → m k ≡ n k) → bytes_from m a len ≡ bytes_from n a len
same_from m n a zero same = refl
same_from m n a (suc len) same =
    (λ i. cons_byte (same a (omega arith) i) (bytes_from m (a + 1) len))
    ∙ ap (cons_byte (n a)) (same_from m n (a + 1) len (λ k from. same k (omega (arith, from))))

read_back : (m : Bytes) (a : ℕ) (bytes : List ℕ) → bytes_from (with_bytes m a bytes) a (length bytes) ≡ Some bytes
read_back m a [] = refl
read_back m a (b ∷ bytes) =
    let here : with_bytes m a (b ∷ bytes) a ≡ Some b = ap (λ (t : Bool). if t then Some b else with_bytes m (a + 1) bytes a) (eqb_same a a refl) in
    let above : bytes_from (with_bytes m a (b ∷ bytes)) (a + 1) (length bytes) ≡ bytes_from (with_bytes m (a + 1) bytes) (a + 1) (length bytes) =
    same_from (with_bytes m a (b ∷ bytes)) (with_bytes m (a + 1) bytes) (a + 1) (length bytes)
    (λ k from. ap (λ (t : Bool). if t then Some b else with_bytes m (a + 1) bytes k) (eqb_other k a (omega (arith, from)))) in
    (λ i. cons_byte (here i) (bytes_from (with_bytes m a (b ∷ bytes)) (a + 1) (length bytes)))
    ∙ ap (cons_byte (Some b)) (above ∙ read_back m (a + 1) bytes)

-- ---- what a mapping brings

not_errno : (n : ℕ) → n < 0xfffff001 → is_errno n ≡ false
unfolding is_errno
not_errno n less = over n less
  where
    over : (k : ℕ) → k < 0xfffff001 → nat_le 0xfffff001 k ≡ false
    over k below = grind (arith, nat_tests)

abbrev pub lists_of : Inodes → Want → List (List ℕ)
lists_of nodes (Anon pages) = []
lists_of nodes (File pages first write id change) = wanted_bytes nodes (File pages first write id change) ∷ []

last_none : (x z : Bool) (l : List ℕ) → z ≡ true → (if x && not z then l ∷ [] else []) ≡ []
last_none true true l h = refl
last_none true false l h = absurd cc
last_none false z l h = refl

module _ (call : Call) (from : ℕ) (below : from < 0xfffff001) (m : Bytes) (nodes : Inodes) where
  maps_one : (first pages id change : ℕ) (write : Bool) → IsAsked call (File pages first write id change) → maps_file (noted_entry call from []) ≡ true
  maps_one first pages id change write asked = λ i. (asked.0 i == 222) && not (not_errno from below i) && not (asked.1 i)

  reads_one : (first pages id change : ℕ) (write : Bool) (len : ℕ) → len ≡ 4096 * pages →
      unwrap_or (bytes_from (with_bytes m from (wanted_bytes nodes (File pages first write id change))) from len) [] ≡ wanted_bytes nodes (File pages first write id change)
  reads_one first pages id change write len same =
      let bytes : List ℕ = wanted_bytes nodes (File pages first write id change) in
      let all : len ≡ length bytes = same ∙ sym (length-file_pages (bytes_of nodes id) first pages) in
      ap (λ (n : ℕ). unwrap_or (bytes_from (with_bytes m from bytes) from n) []) all
      ∙ ap (λ (o : Option (List ℕ)). unwrap_or o []) (read_back m from bytes)

  pub brings_back : (want : Want) → IsAsked call want → lists_brought (noted_entry call from []) (with_bytes m from (wanted_bytes nodes want)) ≡ lists_of nodes want
  brings_back (Anon pages) asked = last_none _ (has_flag (slice_index call.args 3) map_anonymous) _ asked
  brings_back (File pages first write id change) asked =
      let bytes : List ℕ = wanted_bytes nodes (File pages first write id change) in
      let read : ℕ → List ℕ = λ len. unwrap_or (bytes_from (with_bytes m from bytes) from len) [] in
      let len : ℕ = 4096 * pages_for (slice_index call.args 1) in
      ap (λ (b : Bool). if b then (if b then read len else []) ∷ [] else []) (maps_one first pages id change write asked)
      ∙ ap (λ (l : List ℕ). l ∷ []) (reads_one first pages id change write len (ap (λ n. 4096 * n) (sym asked.2)))

-- ---- what the code records of it

-- whether it is recorded before the mapping is made, and what is left of that
pub record Brought (k : Kept) (space : ℕ) (kind : Kind) (want : Want) (h : Held) (result : Result ℕ MapFault) (recording : Recording) : Type 0 where
  pub brings : Bool
  pub goes : brings ≡ (is_recorded k.recording space && is_file want && is_some (mapped (map_state h k.regions k.mem) kind (bytes_of k.tree (file_in want)) want))
  pub now : recording ≡ record (event_recorded k.recording space) { brought = k.recording.brought ++ (if brings && is_ok result then wanted_bytes k.tree want ∷ [] else []) }

module _ (k : Kept) (space : ℕ) (kind : Kind) (want : Want) (h : Held) (recording : Recording) (call : Call) where
  abbrev with_lists : List (List ℕ) → Recording
  with_lists lists = record (event_recorded k.recording space) { brought = lists }

  lists_where : (b : Bool) (w : Want) → (if (b && is_file w && true) && true then wanted_bytes k.tree w ∷ [] else []) ≡ (if b then lists_of k.tree w else [])
  lists_where true (Anon pages) = refl
  lists_where true (File pages first write id change) = refl
  lists_where false w = refl

  -- it came about
  pub brought_there : IsAsked call want → (m : Mapped) (addr : ℕ) → mapped (map_state h k.regions k.mem) kind (bytes_of k.tree (file_in want)) want ≡ Some m →
      Brought k space kind want h (Ok addr) recording → (value from : ℕ) → value ≡ from → from < 0xfffff001 → (bytes : Bytes) →
      recording ≡ call_recorded k.recording space (noted_entry call value []) (with_bytes bytes from (wanted_bytes k.tree want))
  brought_there asked m addr is b value from same below bytes =
      let brings : b.brings ≡ (is_recorded k.recording space && is_file want && true) = b.goes ∙ ap (λ (o : Option Mapped). is_recorded k.recording space && is_file want && is_some o) is in
      b.now
      ∙ ap (λ (t : Bool). with_lists (k.recording.brought ++ (if t && true then wanted_bytes k.tree want ∷ [] else []))) brings
      ∙ ap (λ (lists : List (List ℕ)). with_lists (k.recording.brought ++ lists)) (
      lists_where (is_recorded k.recording space) want
      ∙ ap (λ (lists : List (List ℕ)). if is_recorded k.recording space then lists else []) (sym (brings_back call from below bytes k.tree want asked)))
      ∙ ap (λ (v : ℕ). call_recorded k.recording space (noted_entry call v []) (with_bytes bytes from (wanted_bytes k.tree want))) (sym same)

  nothing_more : (b : Bool) (l : List (List ℕ)) (lists : List (List ℕ)) → lists ++ (if b && false then l else []) ≡ lists
  nothing_more true l lists = append-nil lists
  nothing_more false l lists = append-nil lists

  -- it was refused
  pub brought_nowhere : Brought k space kind want h (Err fault.Enomem) recording → (value : ℕ) → value ≡ refusal Enomem → (bytes : Bytes) →
      recording ≡ call_recorded k.recording space (noted_entry call value []) bytes
  brought_nowhere b value same bytes =
      b.now
      ∙ ap with_lists (nothing_more b.brings (wanted_bytes k.tree want ∷ []) k.recording.brought)
      ∙ sym (recorded_plain k.recording space (noted_entry call value []) bytes (maps_nothing (noted_entry call value []) (ap is_errno same ∙ is_refused Enomem)))

-- ---- how the code comes by it

settled_is : (r old new : Recording) (brings : Bool) (bytes : List ℕ) (result : Result ℕ MapFault) → old ≡ record r { brought = r.brought ++ (if brings then bytes ∷ [] else []) } →
    ((lists : List (List ℕ)) → (l : List ℕ) → old.brought ≡ lists ++ (if brings then l ∷ [] else []) → new ≡ record old { brought = lists ++ (if brings && is_ok result then l ∷ [] else []) }) →
    new ≡ record r { brought = r.brought ++ (if brings && is_ok result then bytes ∷ [] else []) }
settled_is r old new brings bytes result is settles =
    settles r.brought bytes (ap (λ (x : Recording). x.brought) is)
    ∙ ap (λ (x : Recording). record x { brought = r.brought ++ (if brings && is_ok result then bytes ∷ [] else []) }) is

not_mapped : (r : Result ℕ MapFault) (error : AllocError) → IsAddress r (Err error) → is_ok r ≡ false
not_mapped (Ok addr) error is = absurd is
not_mapped (Err fault.Enomem) error is = absurd is
not_mapped (Err fault.Memory) error is = refl

-- out of memory nothing is recorded
pub brought_none : (r old new : Recording) (brings : Bool) (bytes : List ℕ) (result : Result ℕ MapFault) (error : AllocError) → old ≡ record r { brought = r.brought ++ (if brings then bytes ∷ [] else []) } →
    ((lists : List (List ℕ)) → (l : List ℕ) → old.brought ≡ lists ++ (if brings then l ∷ [] else []) → new ≡ record old { brought = lists ++ (if brings && is_ok result then l ∷ [] else []) }) →
    IsAddress result (Err error) → new ≡ r
brought_none r old new brings bytes result error is settles fails =
    settled_is r old new brings bytes result is settles
    ∙ ap (λ (b : Bool). record r { brought = r.brought ++ (if brings && b then bytes ∷ [] else []) }) (not_mapped result error fails)
    ∙ ap (λ (lists : List (List ℕ)). record r { brought = lists }) (none brings)
  where
    none : (b : Bool) → r.brought ++ (if b && false then bytes ∷ [] else []) ≡ r.brought
    none true = append-nil r.brought
    none false = append-nil r.brought

pub brought_by : (k : Kept) (space : ℕ) (kind : Kind) (want : Want) (h : Held) (result : Result ℕ MapFault) (old new recording : Recording) (brings : Bool) →
    brings ≡ (is_recorded k.recording space && is_file want && is_some (mapped (map_state h k.regions k.mem) kind (bytes_of k.tree (file_in want)) want)) →
    old ≡ record k.recording { brought = k.recording.brought ++ (if brings then wanted_bytes k.tree want ∷ [] else []) } →
    ((lists : List (List ℕ)) → (l : List ℕ) → old.brought ≡ lists ++ (if brings then l ∷ [] else []) → new ≡ record old { brought = lists ++ (if brings && is_ok result then l ∷ [] else []) }) →
    recording ≡ event_recorded new space → Brought k space kind want h result recording
brought_by k space kind want h result old new recording brings goes is settles passes = record {
  brings = brings;
  goes = goes;
  now = passes ∙ ap (λ (r : Recording). event_recorded r space) (settled_is k.recording old new brings (wanted_bytes k.tree want) result is settles);
}

-- The room that the log needs for an mmap2, with what it brings into the space that is recorded.
use Rattle.std.proofs.Common.{◌≡◌, ℕ, ◌+◌, ◌-◌, ◌*◌, ◌^◌, min, Bool, true, false, List, [], ◌∷◌, length, Option, Some, None, refl, sym, ap, ◌∙◌, arith}
use Rattle.std.specs.Prelude.{◌&&◌, is_some, if◌then◌else◌}
use Rattle.byte_words.specs.ByteMap.{Bytes}
use Rattle.call_log.specs.declared.errno.Errno.TheVariants.{Enomem}
use Rattle.call_log.specs.Errno.{refusal}
use Rattle.call_log.specs.Notes.{CallEntry, weight_of, has_room}
use Rattle.call_log.proofs.Room.{many_bytes}
use Rattle.mem_files.specs.Inodes.{Inodes, bytes_of}
use Rattle.mmap_rules.specs.declared.want.Want.{Want}
use Rattle.mmap_rules.specs.declared.want.Want.TheVariants.{Anon, File}
use Rattle.mmap_rules.specs.Want.{AsksPages}
use Rattle.mmap_rules.specs.Copies.{IsKnown, wanted_bytes, pages_of}
use Rattle.mmap_rules.specs.Space.{Space}
use Rattle.mmap_rules.specs.Held.{Held}
use Rattle.mmap_rules.specs.MapState.{Mapped, map_state, file_in}
use Rattle.mmap_rules.specs.MapState.{mapped as mapped_in}
use Rattle.mmap_rules.proofs.FilePages.{length-file_pages}
use Rattle.vfork_exec.specs.declared.entry.Entry.{Entry}
use Rattle.file_calls.specs.declared.call.Call.{Call}
use Rattle.machine_world.specs.Asks.{Ask, Reply, replies}
use Rattle.machine_world.specs.MapCalls.{with_mapping, maps, mapped}
use Rattle.machine_world.specs.Recordings.{is_recorded, with_brought}
use Rattle.machine_world.specs.Event.{entry_of, maps_file, brought, lists_brought, room_for}
use Rattle.machine_world.proofs.Refused.{is_refused, maps_nothing}
use Rattle.recordings.proofs.Weights.{beside}
use Rattle.kept_parts.specs.declared.task.Task.{Task}
use Rattle.kept_parts.specs.Kept.{Kept}
use Rattle.kept_parts.specs.Regular.{Regular}
use Rattle.kept_parts.specs.Recorded.{room_beside}
use Rattle.kept_parts.specs.Stands.{About, private_bytes, private_of, world_of}
use Rattle.kept_parts.specs.MapsIn.{IsAsked, is_file}
use Rattle.kept_parts.specs.Brings.{recorded_bytes}
use Rattle.kept_parts.specs.Calls.{LivesIn, IsCall, ask_in, noted_entry}
use Rattle.kept_parts.proofs.Common.Recorded.{room_plain}
use Rattle.kept_parts.proofs.Mappings.Brought.{lists_of, brings_back}
use Rattle.kept_parts.proofs.Mappings.Choice.{chosen}
use Rattle.kept_parts.proofs.Mappings.World.{map_refused}
use Rattle.kept_parts.proofs.Mappings.Memory.{Chosen, map_chosen}

-- a sum of bytes that is cut has no room either
pub many_beside : (k : Kept) (bytes : ℕ) → room_beside k (min bytes (2 ^ 64 - 1)) ≡ room_beside k bytes
many_beside k bytes =
    let lists = k.recording.brought in
    let cut : min (with_brought lists (min bytes (2 ^ 64 - 1))) (2 ^ 64 - 1) ≡ min (with_brought lists bytes) (2 ^ 64 - 1) =
    omega (arith, beside lists bytes, beside lists (min bytes (2 ^ 64 - 1))) in
    sym (many_bytes k.notes (with_brought lists (min bytes (2 ^ 64 - 1)))) ∙ ap (has_room k.notes) cut ∙ many_bytes k.notes (with_brought lists bytes)

-- what a mapping brings, by the lists that it brings
length_brought : (e : CallEntry) (m : Bytes) → length (brought e m) ≡ with_brought (lists_brought e m) 0
length_brought e m = by (maps_file e) _
  where
    by : (b : Bool) (l : List ℕ) → length (if b then l else []) ≡ with_brought (if b then (if b then l else []) ∷ [] else []) 0
    by true l = omega arith
    by false l = refl

length_lists : (nodes : Inodes) (want : Want) → with_brought (lists_of nodes want) 0 ≡ (if is_file want then 4096 * pages_of want else 0)
length_lists nodes (Anon pages) = refl
length_lists nodes (File pages first write id change) = omega (arith, length-file_pages (bytes_of nodes id) first pages)

same_reply : (r s : Reply) → replies r ≡ replies s → r ≡ s
same_reply r s is = cc

module _ (a : About) (k : Kept) (regular : Regular k) (e : Entry Task) (h : Held) (call : Call) (runs : LivesIn k call.pid e h) (is_call : IsCall e call)
    (want : Want) (asks : AsksPages want) (known : IsKnown k.tree want) (asked : IsAsked call want) where
  abbrev ask : Ask
  ask = ask_in a k e h call

  abbrev found : Option Mapped
  found = mapped_in (map_state h k.regions k.mem) a.kind (bytes_of k.tree (file_in want)) want

  entry_same : (value : ℕ) → entry_of ask value [] ≡ noted_entry call value []
  entry_same value = λ i. record { pid = sym is_call.pid i; call = sym is_call.number i; args = sym is_call.args i; sent = call.sent.items; reply = value; got = [] }

  abbrev reply_at : ℕ → Space → Reply
  reply_at value space = record { value = value; got = []; rest = ask.rest; space = space; over = false }

  pub room_mapped : (reply : Reply) → mapped (ask_in a k e h call) want ≡ replies reply →
      room_for (world_of a k) (ask_in a k e h call) reply ≡ room_beside k (recorded_bytes k e.value.space want (is_some found) + length call.sent.items)
  unfolding world_of
  room_mapped reply is = by found refl
    where
      by : (o : Option Mapped) → found ≡ o → room_for (world_of a k) ask reply ≡ room_beside k (recorded_bytes k e.value.space want (is_some o) + length call.sent.items)
      by (Some m) there =
          let g : Chosen a k e.value.space h want (chosen a k want) m = map_chosen a k regular e.value.space h runs.home want asks known m there in
          let from = g.mapping.range.from in
          let space : Space = with_mapping (private_of k.mem h) g.mapping (wanted_bytes k.tree want) in
          let now : reply ≡ reply_at from space = sym (same_reply (reply_at from space) reply (sym (ap (maps ask want) g.chosen) ∙ is)) in
          let brings : length (brought (entry_of ask from []) space.bytes) ≡ (if is_file want then 4096 * pages_of want else 0) =
          length_brought (entry_of ask from []) space.bytes
          ∙ ap (λ (entry : CallEntry). with_brought (lists_brought entry space.bytes) 0) (entry_same from)
          ∙ ap (λ (lists : List (List ℕ)). with_brought lists 0) (brings_back call from g.below (private_bytes k.mem h) k.tree want asked)
          ∙ length_lists k.tree want in
          ap (room_for (world_of a k) ask) now
          ∙ ap (room_beside k) (weigh (is_recorded k.recording e.value.space) (is_file want) (length (brought (entry_of ask from []) space.bytes)) (4096 * pages_of want) (length call.sent.items) brings)
        where
          weigh : (b c : Bool) (n size sent : ℕ) → n ≡ (if c then size else 0) → (if b then n + (sent + 0) else sent + 0) ≡ (if b && c && true then size else 0) + sent
          weigh true true n size sent same = omega (arith, same)
          weigh true false n size sent same = omega (arith, same)
          weigh false c n size sent same = omega arith
      by None nowhere =
          let none = map_refused a k regular e.value.space h runs.home want asks known nowhere in
          let value : ℕ = refusal Enomem in
          let now : reply ≡ reply_at value (private_of k.mem h) = sym (same_reply (reply_at value (private_of k.mem h)) reply (sym (ap (maps ask want) none) ∙ is)) in
          ap (room_for (world_of a k) ask) now
          ∙ room_plain a k e h call (reply_at value (private_of k.mem h)) (room_beside k (weight_of call.sent.items [])) (maps_nothing (entry_of ask value []) (is_refused Enomem)) refl
          ∙ ap (room_beside k) (weigh (is_recorded k.recording e.value.space) (is_file want) (4096 * pages_of want) (length call.sent.items))
        where
          weigh : (b c : Bool) (size sent : ℕ) → sent + 0 ≡ (if b && c && false then size else 0) + sent
          weigh true true size sent = omega arith
          weigh true false size sent = omega arith
          weigh false c size sent = omega arith

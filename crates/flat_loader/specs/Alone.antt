-- One program run by itself under given replies: its own space, and nothing else. No other process, no file, no free pages and no
-- turns are in it (the calls: Linux, in this project's profile; ranges: "No-MMU memory mapping support",
-- Documentation/admin-guide/mm/nommu-mmap.rst; a borrower: vfork(2)).
use Rattle.std.specs.Prelude.{ℕ, zero, suc, ◌+◌, ◌-◌, ◌*◌, ◌%◌, ◌==◌, Bool, true, false, not, ◌&&◌, ◌||◌, nat_le, nat_lt, if◌then◌else◌, List, [], ◌∷◌, ◌++◌, map, length, replicate, slice_index, Option, Some, None, Result, Ok, Err}
use Rattle.std.specs.List.{list_any}
use Rattle.byte_words.specs.ByteMap.{Bytes, with_bytes}
use Rattle.rv32im_step.specs.declared.regs.Regs.{Regs}
use Rattle.rv32im_step.specs.Registers.{register, with_register, setting}
use Rattle.rv32im_step.specs.Meaning.{Meaning, next, call, trap, refused, meaning}
use Rattle.call_log.specs.Flags.{has_flag}
use Rattle.call_log.specs.Notes.{GotRange, CallEntry}
use Rattle.call_log.specs.Sent.{Span, sent}
use Rattle.call_log.specs.Numbers as numbers
use Rattle.mmap_rules.specs.declared.mapping.Range.{Range}
use Rattle.mmap_rules.specs.declared.mapping.Mapping.{Mapping}
use Rattle.mmap_rules.specs.Space.{Space, memory_base, page_size, in_range, may_use}
use Rattle.mmap_rules.specs.Want.{pages_for, map_anonymous, prot_write}
use Rattle.flat_loader.specs.Begin.{Loading, begin_space, begin_regs}

-- ---- a program by itself

-- a process of the space: its pid and its registers
pub record Runner : Type 0 where
  pub pid : ℕ
  pub regs : Regs

-- the own ranges, oldest first, that of the program's block at the head; and the bytes of all of them
pub record OwnMemory : Type 0 where
  pub ranges : List Range
  pub bytes : Bytes

-- the processes of the space, and its memory. The owner stands last, before it those that borrow the space from vfork on; the
-- one at the head runs
pub record Solo : Type 0 where
  pub stack : List Runner
  pub memory : OwnMemory

-- a call as it was answered, and the bytes that its mapping of a file brought
pub record Item : Type 0 where
  pub entry : CallEntry
  pub brought : List ℕ

-- what is left of the run and of its items; none where the run is refuted
abbrev pub Left : Type 0
Left = Option (Solo × List Item)

-- ---- own bytes

unfoldable pub own_of : List Range → ℕ → Bool
own_of ranges a = list_any (λ r. in_range r a) ranges

unfoldable pub writable_of : List Range → ℕ → Bool
writable_of ranges a = list_any (λ r. r.writes && in_range r a) ranges

abbrev pub memory_of : Space → OwnMemory
memory_of s = record { ranges = map (λ (m : Mapping). m.range) s.maps; bytes = s.bytes }

-- ---- a call: its number stands in a7, its arguments in a0 to a5, the reply in a0

abbrev pub number_of : Regs → ℕ
number_of regs = register regs.x 17

abbrev pub args_of : Regs → List ℕ
args_of regs = map (register regs.x) (10 ∷ 11 ∷ 12 ∷ 13 ∷ 14 ∷ 15 ∷ [])

-- the reply goes to a0, and the instruction after the call follows
abbrev pub replied : Regs → ℕ → Regs
replied regs value = setting regs 10 value

-- each range of output must be writable, in order
abbrev pub put_got : Bytes → (ℕ → Bool) → List GotRange → Result Bytes Span
put_got m w [] = Ok m
put_got m w (got ∷ gots) =
    if may_use w got.addr (length got.bytes) then put_got (with_bytes m got.addr got.bytes) w gots
    else Err (record { addr = got.addr; len = length got.bytes })

-- the last 4,095 words are refusals
unfoldable pub is_errno : ℕ → Bool
is_errno reply = nat_le 0xfffff001 reply

abbrev pub is_same : List ℕ → List ℕ → Bool
is_same [] [] = true
is_same [] (y ∷ ys) = false
is_same (x ∷ xs) [] = false
is_same (x ∷ xs) (y ∷ ys) = x == y && is_same xs ys

-- the item tells of the call at which the process stands, with the bytes that it reads
unfoldable pub is_call : Runner → List ℕ → CallEntry → Bool
is_call top bytes e =
    e.pid == top.pid && e.call == number_of top.regs && is_same e.args (args_of top.regs) && is_same e.sent bytes

-- ---- mmap2: a range more, at the reply

abbrev pub new_range : CallEntry → Range
new_range e = record {
  from = e.reply;
  size = page_size * pages_for (slice_index e.args 1);
  writes = has_flag (slice_index e.args 3) map_anonymous || has_flag (slice_index e.args 2) prot_write;
  anonymous = has_flag (slice_index e.args 3) map_anonymous;
}

-- zeros, or what the file brought
abbrev pub new_bytes : Range → List ℕ → List ℕ
new_bytes r brought = if r.anonymous then replicate r.size 0 else brought

-- a file brings all bytes of its range, and zeros aren't brought
abbrev pub brings_all : Range → List ℕ → Bool
brings_all r brought = if r.anonymous then length brought == 0 else length brought == r.size

-- the most pages of memory
abbrev pub most_pages : ℕ
most_pages = 16384

-- whole pages, one at least, between the first and the last address that memory can have
abbrev pub is_placed : Range → Bool
is_placed r =
    nat_lt 0 r.size && r.from % page_size == 0 && nat_le memory_base r.from && nat_le (r.from + r.size) (memory_base + page_size * most_pages)

abbrev pub has_byte : Option ℕ → ℕ → Bool
has_byte None b = false
has_byte (Some c) b = c == b

-- bytes from an address on may lie there: where a byte is own already, nobody may write it and it is the same
unfoldable pub may_lie : OwnMemory → (writes : Bool) → ℕ → List ℕ → Bool
may_lie m writes a [] = true
may_lie m writes a (b ∷ bs) =
    (not (own_of m.ranges a) || (not writes && not (writable_of m.ranges a) && has_byte (m.bytes a) b)) && may_lie m writes (a + 1) bs

unfoldable pub may_map : OwnMemory → Range → List ℕ → Bool
may_map m r brought = is_placed r && brings_all r brought && may_lie m r.writes r.from (new_bytes r brought)

unfoldable pub with_range : OwnMemory → Range → List ℕ → OwnMemory
with_range m r bytes = record { ranges = m.ranges ++ r ∷ []; bytes = with_bytes m.bytes r.from bytes }

-- ---- munmap: a range less, or pages of an anonymous one

abbrev pub cons_to : {A : Type 0} → A → Option (List A) → Option (List A)
cons_to x None = None
cons_to x (Some xs) = Some (x ∷ xs)

abbrev pub or_else : {A : Type 0} → Option A → Option A → Option A
or_else (Some x) other = Some x
or_else None other = other

-- the first item that passes a test gives way to others; none where no item passes
abbrev pub with_first : {A : Type 0} → (A → Bool) → (A → List A) → List A → Option (List A)
with_first test left [] = None
with_first test left (x ∷ xs) = if test x then Some (left x ++ xs) else cons_to x (with_first test left xs)

abbrev pub is_exact : (a size : ℕ) → Range → Bool
is_exact a size r = r.from == a && r.size == size

abbrev pub can_cut : (a size : ℕ) → Range → Bool
can_cut a size r = r.anonymous && nat_le r.from a && nat_le (a + size) (r.from + r.size)

-- a range from one address up to another, if there is a byte between them
abbrev pub part : Range → (from to : ℕ) → List Range
part r from to = if from == to then [] else record r { from = from; size = to - from } ∷ []

-- what is left without some bytes
abbrev pub parts : Range → (a size : ℕ) → List Range
parts r a size = part r r.from a ++ part r (a + size) (r.from + r.size)

-- the oldest range but the block's that is just these bytes goes; where there is none, they are cut out of the anonymous one that
-- has them
abbrev pub without_range : (a size : ℕ) → List Range → Option (List Range)
without_range a size [] = None
without_range a size (block ∷ ranges) =
    cons_to block (or_else (with_first (is_exact a size) (λ r. []) ranges) (with_first (can_cut a size) (λ r. parts r a size) ranges))

-- a byte stays while an own range has it
abbrev pub over_ranges : OwnMemory → Option (List Range) → Option OwnMemory
over_ranges m None = None
over_ranges m (Some ranges) = Some (record { ranges = ranges; bytes = λ a. if own_of ranges a then m.bytes a else None })

unfoldable pub without_pages : OwnMemory → (a len : ℕ) → Option OwnMemory
without_pages m a len =
    if len == 0 || not (a % page_size == 0) then None else over_ranges m (without_range a (page_size * pages_for len) m.ranges)

-- ---- vfork: a process more, that borrows the space

-- the parent's registers as its reply leaves them, but for a0, which is 0, and sp, if one is given
abbrev pub child_regs : Regs → ℕ → Regs
child_regs regs sp = record (replied regs 0) { x = if sp == 0 then (replied regs 0).x else with_register (replied regs 0).x 2 sp }

-- ---- an answered call

abbrev pub with_memory : Solo → Option OwnMemory → Option Solo
with_memory s None = None
with_memory s (Some m) = Some (record s { memory = m })

-- exit, exit_group, and an execve that isn't refused
abbrev pub leaves_space : CallEntry → Bool
leaves_space e = e.call == numbers.exit || e.call == numbers.exit_group || (e.call == numbers.execve && e.reply == 0)

-- mmap2
abbrev pub solo_mapped : Solo → Item → Option Solo
solo_mapped s i =
    if may_map s.memory (new_range i.entry) i.brought
    then Some (record s { memory = with_range s.memory (new_range i.entry) (new_bytes (new_range i.entry) i.brought) })
    else None

-- munmap
abbrev pub solo_unmapped : Solo → CallEntry → Option Solo
solo_unmapped s e = if e.reply == 0 then with_memory s (without_pages s.memory (slice_index e.args 0) (slice_index e.args 1)) else Some s

-- the child's registers are made of those at the call
abbrev pub solo_forked : Solo → Regs → CallEntry → Solo
solo_forked s regs e = record s { stack = record { pid = e.reply; regs = child_regs regs (slice_index e.args 1) } ∷ s.stack }

-- what a call that isn't refused changes beside the caller's registers, which were `regs` at the call
abbrev pub solo_effect : Solo → Regs → Item → Option Solo
solo_effect s regs i =
    if i.entry.call == numbers.mmap2 then solo_mapped s i
    else if i.entry.call == numbers.munmap then solo_unmapped s i.entry
    else if i.entry.call == numbers.clone then Some (solo_forked s regs i.entry)
    else Some s

-- the top process has its reply, over these bytes
abbrev pub solo_answered : Runner → List Runner → OwnMemory → Item → Bytes → Option Solo
solo_answered top below m i bytes =
    if leaves_space i.entry then Some (record { stack = below; memory = record m { bytes = bytes } })
    else
    let now : Solo = record { stack = record top { regs = replied top.regs i.entry.reply } ∷ below; memory = record m { bytes = bytes } } in
    if is_errno i.entry.reply then Some now else solo_effect now top.regs i

abbrev pub solo_put : Runner → List Runner → OwnMemory → Item → Result Bytes Span → Option Solo
solo_put top below m i (Ok bytes) = solo_answered top below m i bytes
solo_put top below m i (Err span) = None

abbrev pub with_items : List Item → Option Solo → Left
with_items items None = None
with_items items (Some s) = Some (s, items)

-- the next item tells of the call and its answer
abbrev pub solo_taken : Runner → List Runner → OwnMemory → List ℕ → List Item → Left
solo_taken top below m bytes [] = None
solo_taken top below m bytes (i ∷ items) =
    if is_call top bytes i.entry then with_items items (solo_put top below m i (put_got m.bytes (writable_of m.ranges) i.entry.got)) else None

abbrev pub solo_called : Runner → List Runner → OwnMemory → List Item → Result (List ℕ) Span → Left
solo_called top below m items (Ok bytes) = solo_taken top below m bytes items
solo_called top below m items (Err span) = None

-- ---- an event: an instruction, a call, or a trap, which ends the process

abbrev pub solo_moved : Runner → List Runner → OwnMemory → List Item → Meaning → Left
solo_moved top below m items (next regs bytes) =
    Some (record { stack = record top { regs = regs } ∷ below; memory = record m { bytes = bytes } }, items)
solo_moved top below m items call = solo_called top below m items (sent (number_of top.regs) (args_of top.regs) m.bytes)
solo_moved top below m items (trap signal) = Some (record { stack = below; memory = m }, items)
solo_moved top below m items (refused access) = None

abbrev pub solo_top : OwnMemory → List Item → List Runner → Left
solo_top m items [] = None
solo_top m items (top ∷ below) = solo_moved top below m items (meaning top.regs m.bytes (writable_of m.ranges))

unfoldable pub solo_step : Solo → List Item → Left
solo_step s items = solo_top s.memory items s.stack

abbrev pub then_left : (Solo → List Item → Left) → Left → Left
then_left more None = None
then_left more (Some (s, items)) = more s items

-- n events
unfoldable pub solo_run : ℕ → Solo → List Item → Left
solo_run zero s items = Some (s, items)
solo_run (suc n) s items = then_left (solo_run n) (solo_step s items)

-- items that are left over refute a run
abbrev pub none_left : Left → Option Solo
none_left None = None
none_left (Some (s, [])) = Some s
none_left (Some (s, i ∷ items)) = None

-- a program is loaded, and one process begins with it
abbrev pub solo_begin : Loading → ℕ → Solo
solo_begin l pid = record { stack = record { pid = pid; regs = begin_regs l } ∷ []; memory = memory_of (begin_space l) }

-- what n events of a program leave that was loaded so and whose owner has this pid, if the items tell of just its calls; none
-- where they don't, where an access of an instruction, of a call's input or of its output isn't own, or writes what may not be
-- written, and where a mapping can't be
unfoldable pub alone : Loading → (pid : ℕ) → List Item → (events : ℕ) → Option Solo
alone l pid items events = none_left (solo_run events (solo_begin l pid) items)

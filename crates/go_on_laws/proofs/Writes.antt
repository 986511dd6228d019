-- Bytes that a process writes, by an instruction or a call.
use Rattle.std.proofs.Common.{◌≡◌, ℕ, ◌+◌, Bool, true, false, inl, inr, List, [], ◌∷◌, map, length, Option, Some, None, Result, Ok, Err, refl, sym, ap, subst, ◌∙◌}
use Rattle.std.specs.Prelude.{◌==◌, if◌then◌else◌, is_some, slice_get}
use Rattle.std.proofs.lemmas.Bool.{cases_Bool, false≢true, false_from_ne_true}
use Rattle.byte_words.specs.ByteMap.{Bytes, with_byte, with_bytes}
use Rattle.rv32im_step.specs.declared.regs.Regs.{Regs}
use Rattle.call_log.specs.declared.errno.Errno.{Errno}
use Rattle.call_log.specs.Errno.{refusal}
use Rattle.call_log.specs.Notes.{GotRange}
use Rattle.call_log.specs.Sent.{Span}
use Rattle.mmap_rules.specs.declared.mapping.Mapping.{Mapping}
use Rattle.mmap_rules.specs.Space.{Space, own_in, writable_in, may_use}
use Rattle.region_watch.specs.Private.{only}
use Rattle.vfork_exec.specs.Keyed.{find, change}
use Rattle.machine_world.specs.World.{Process, LiveSpace, World, id_of}
use Rattle.machine_world.specs.Asks.{Ask, Reply, replies, gives, refuses}
use Rattle.machine_world.specs.Event.{Trace, with_space, counted_in, stepped, ask_of, entry_of, item_of, put_got, replied_world, room_for, served, put, answered}
use Rattle.machine_world.proofs.States.{with_own}
use Rattle.alone_laws.specs.Sound.{IsSound}
use Rattle.alone_laws.proofs.RowSpaces.{SameSpace}
use Rattle.memory_world.specs.Physical.{Physical, in_memory, or_below, over, shown_space, bytes_in, is_free_at, laid_behind, behind, after, carried, put_in, answered_in, moved_in}
use Rattle.memory_world.specs.Wider.{Grows, PutWider}
use Rattle.memory_world.proofs.InMemory.{over_shown}
use Rattle.memory_world.proofs.WideRuns.{wide_put}
use Rattle.go_on_laws.specs.Alike.{Stands}
use Rattle.go_on_laws.proofs.Pages.{may_own, may_inside, own_not_free, copy_locked, other_locked}
use Rattle.go_on_laws.proofs.Behind.{has_elsewhere, IsIn, in_elsewhere, Behind, behind_shown, put_alike, Goes, goes_room, is_in, behind_changed, behind_put}

-- ---- bytes

pub only_at : (test : ℕ → Bool) (m : Bytes) (a : ℕ) → test a ≡ true → only test m a ≡ m a
unfolding only
only_at test m a is = ap (λ (b : Bool). if b then m a else None) is

pub only_off : (test : ℕ → Bool) (m : Bytes) (a : ℕ) → test a ≡ false → only test m a ≡ None
unfolding only
only_off test m a is = ap (λ (b : Bool). if b then m a else None) is

-- what spaces have that show memory, laid where the other map is as it
laid_same : (test : ℕ → Bool) (m memory : Bytes) (ss : List LiveSpace) → map (shown_space m) ss ≡ ss → ((a : ℕ) → test a ≡ true → memory a ≡ m a) → over (only test (bytes_in ss)) memory ≡ memory
laid_same test m memory ss shown same = λ i a. at a i
  where
    at : (a : ℕ) → or_below (only test (bytes_in ss) a) (memory a) ≡ memory a
    at a = elim (cases_Bool (test a)) [
      | inl is ↦ ap (λ (x : Option ℕ). or_below (only test (bytes_in ss) a) x) (same a is) ∙ ap (λ (f : Bytes). f a) (over_shown test m ss shown) ∙ sym (same a is)
      | inr is ↦ ap (λ (x : Option ℕ). or_below x (memory a)) (only_off test (bytes_in ss) a is)
    ]

byte_there : (m : Bytes) (addr b a : ℕ) → is_some (m a) ≡ true → is_some (with_byte m addr b a) ≡ true
byte_there m addr b a is = by (a == addr)
  where
    by : (test : Bool) → is_some (if test then Some b else m a) ≡ true
    by true = refl
    by false = is

-- what is there stays there
pub bytes_there : (m : Bytes) (addr : ℕ) (bs : List ℕ) (a : ℕ) → is_some (m a) ≡ true → is_some (with_bytes m addr bs a) ≡ true
bytes_there m addr [] a is = is
bytes_there m addr (b ∷ bs) a is = byte_there (with_bytes m (addr + 1) bs) addr b a (bytes_there m (addr + 1) bs a is)

put_there : (gots : List GotRange) (m now : Bytes) (may : ℕ → Bool) (a : ℕ) → put_got m may gots ≡ Ok now → is_some (m a) ≡ true → is_some (now a) ≡ true
put_there [] m now may a is there = let same : m ≡ now = cc in ap (λ (f : Bytes). is_some (f a)) (sym same) ∙ there
put_there (got ∷ gots) m now may a is there = by (may_use may got.addr (length got.bytes)) is
    (λ rest. put_there gots (with_bytes m got.addr got.bytes) now may a rest (bytes_there m got.addr got.bytes a there))
  where
    by : (test : Bool) → (if test then put_got (with_bytes m got.addr got.bytes) may gots else Err (record { addr = got.addr; len = length got.bytes })) ≡ Ok now
        → (put_got (with_bytes m got.addr got.bytes) may gots ≡ Ok now → is_some (now a) ≡ true) → is_some (now a) ≡ true
    by true e more = more e
    by false e more = absurd cc

-- ---- one space's bytes are written

module _ (p : Physical) (sound : IsSound p.world) (stands : Stands p.world p) (i : ℕ) (s : LiveSpace) (has : find id_of i p.world.spaces ≡ Some s) where
  abbrev pub own : ℕ → Bool
  own = own_in s.space.maps

  abbrev pub may : ℕ → Bool
  may = writable_in s.space.maps

  pub bytes_are : s.space.bytes ≡ only own p.memory
  bytes_are = (is_in p sound stands i s has).shown

  -- the space with the same mappings and bytes
  pub same_in : (space : Space) → SameSpace s.space space → IsIn p.memory p.world.rest.tree space
  same_in space same = record {
    shown = same.bytes ∙ bytes_are ∙ ap (λ (ms : List Mapping). only (own_in ms) p.memory) (sym same.maps);
    files = λ j m there. (is_in p sound stands i s has).files j m (ap (λ (ms : List Mapping). slice_get ms j) (sym same.maps) ∙ there);
  }

  module _ (space : Space) (maps : space.maps ≡ s.space.maps) (part all : Bytes) (grows : Grows own may p.memory part all) (bytes : space.bytes ≡ part)
      (there : (a : ℕ) → is_some (only own p.memory a) ≡ true → is_some (part a) ≡ true) where
    all_there : (a : ℕ) → is_some (all a) ≡ in_memory p.world a
    all_there a = elim (cases_Bool (may a)) [
      | inr locked ↦ ap is_some (grows.rest a locked) ∙ stands.all a
      | inl is ↦ (
          let its = may_own p.world sound i s has a is in
          let inside = may_inside p.world sound i s has a is in
          let before : is_some (only own p.memory a) ≡ true = ap is_some (only_at own p.memory a its) ∙ stands.all a ∙ inside in
          let now : all a ≡ part a = sym (only_at own all a its) ∙ ap (λ (f : Bytes). f a) grows.seen in
          ap is_some now ∙ there a before ∙ sym inside)
    ]

    its_own : IsIn all p.world.rest.tree space
    its_own = record {
      shown = bytes ∙ sym grows.seen ∙ ap (λ (ms : List Mapping). only (own_in ms) all) (sym maps);
      files = λ j m at. (
          let was : slice_get s.space.maps j ≡ Some m = ap (λ (ms : List Mapping). slice_get ms j) (sym maps) ∙ at in
          has_elsewhere p.memory all p.world.rest.tree m m.source (λ copy a inside. grows.rest a (copy_locked p.world sound i s has i s has j m was copy a inside))
          ((is_in p sound stands i s has).files j m was));
    }

    pub wrote : Behind p.world p.world.loads (change id_of i (λ l. with_own l space) p.world.spaces) all
    wrote =
        behind_changed p sound stands i s has space all its_own
        (λ k t other found.
        in_elsewhere p.memory all p.world.rest.tree t.space (λ a its. grows.rest a (other_locked p.world sound i s has k t found other a its))
        (λ j m at copy a inside. grows.rest a (copy_locked p.world sound i s has k t found j m at copy a inside)) (is_in p sound stands k t found))
        all_there

  -- nothing of it is free
  free_locked : (a : ℕ) → is_free_at p.world a ≡ true → may a ≡ false
  free_locked a free = false_from_ne_true (may a) (λ is. false≢true (sym (own_not_free p.world sound i s has a (may_own p.world sound i s has a is)) ∙ free))

-- ---- a process of the space

module _ (p : Physical) (sound : IsSound p.world) (stands : Stands p.world p) (q : Process) (s : LiveSpace) (has : find id_of q.space p.world.spaces ≡ Some s) where
  -- an instruction
  pub goes_stepped : (regs : Regs) (part all : Bytes) → Grows (own_in s.space.maps) (writable_in s.space.maps) p.memory part all
      → ((a : ℕ) → is_some (only (own_in s.space.maps) p.memory a) ≡ true → is_some (part a) ≡ true)
      → Goes p (stepped p.world q s.space regs part) (after (moved_in p q s.space regs all 1) false)
  unfolding stepped
  goes_stepped regs part all grows there =
      let space : Space = record s.space { bytes = part } in
      let now : World = counted_in q.space (with_space p.world q regs space) in
      let left : Behind p.world p.world.loads now.spaces all = wrote p sound stands q.space s has space refl part all grows refl there in
      record {
        behind = moved_in p q s.space regs all 1;
        is = refl;
        world = ap (λ (ss : List LiveSpace). record now { spaces = ss })
            (put_alike q.space s.space s.space.bytes part all p.world.spaces ∙ behind_shown p.world p.world.loads now.spaces all left);
        headers = refl;
        left = left;
      }

  -- ---- a reply

  module _ (bytes : List ℕ) where
    abbrev pub the_ask : Ask
    the_ask = ask_of p.world q s.space bytes

    module _ (r : Reply) (same : SameSpace s.space r.space) (part all : Bytes) (grows : Grows (own_in s.space.maps) (writable_in s.space.maps) p.memory part all)
        (there : (a : ℕ) → is_some (only (own_in s.space.maps) p.memory a) ≡ true → is_some (part a) ≡ true) where
      abbrev served_with : Bytes → World
      served_with m = replied_world (record p.world { rest = r.rest }) the_ask r m

      abbrev trace_with : Bytes → Trace
      trace_with m = record { space = q.space; events = 1; items = item_of (entry_of the_ask r.value r.got) m ∷ []; begins = None; over = r.over }

      left_served : Behind p.world p.world.loads (served_with part).spaces all
      left_served = wrote p sound stands q.space s has (record r.space { bytes = part }) same.maps part all grows refl there

      was_shown : map (shown_space p.memory) (served_with r.space.bytes).spaces ≡ (served_with r.space.bytes).spaces
      was_shown = behind_shown p.world p.world.loads (served_with r.space.bytes).spaces p.memory (behind_put p sound stands q.space s has r.space (same_in p sound stands q.space s has r.space same))

      laid_served : laid_behind p all (served_with r.space.bytes) (trace_with r.space.bytes) ≡ all
      unfolding laid_behind
      laid_served = laid_same (is_free_at p.world) p.memory all (served_with r.space.bytes).spaces was_shown (λ a free. grows.rest a (free_locked p sound stands q.space s has a free))

      behind_served : behind p all (served_with r.space.bytes) (trace_with r.space.bytes) ≡ record p { world = served_with part; memory = all }
      behind_served =
          ap (λ (m : Bytes). record p { world = record (served_with part) { spaces = map (shown_space m) (served_with r.space.bytes).spaces }; memory = m }) laid_served
          ∙ ap (λ (ss : List LiveSpace). record p { world = record (served_with part) { spaces = ss }; memory = all })
          (put_alike q.space r.space r.space.bytes part all p.world.spaces ∙ behind_shown p.world p.world.loads (served_with part).spaces all left_served)

      goes_served : Goes p (served p.world the_ask r part) (carried p all (served p.world the_ask r r.space.bytes))
      unfolding served
      goes_served =
          goes_room p all (room_for p.world the_ask r) (served_with part) (served_with r.space.bytes) (trace_with part) (trace_with r.space.bytes)
          (record { behind = record p { world = served_with part; memory = all }; is = ap (λ z. after z r.over) behind_served; world = refl; headers = refl; left = left_served })

    -- that leaves the mappings and the bytes as they were, but for those that it writes
    pub goes_replied : (r : Reply) → SameSpace s.space r.space → Goes p (answered p.world the_ask (replies r)) (answered_in p the_ask (replies r))
    goes_replied r same = by (put_got r.space.bytes (writable_in r.space.maps) r.got) refl
      where
        by : (o : Result Bytes Span) → put_got r.space.bytes (writable_in r.space.maps) r.got ≡ o
            → Goes p (put p.world the_ask r o) (put_in p the_ask r (put_got p.memory (in_memory p.world) r.got))
        by (Err span) is = tt
        by (Ok part) is =
            let was : r.space.bytes ≡ only (own_in s.space.maps) p.memory = same.bytes ∙ bytes_are p sound stands q.space s has in
            let put_part : put_got (only (own_in s.space.maps) p.memory) (writable_in s.space.maps) r.got ≡ Ok part = sym (λ j. put_got (was j) (writable_in (same.maps j)) r.got) ∙ is in
            let wider : PutWider (own_in s.space.maps) (writable_in s.space.maps) (in_memory p.world) p.memory part r.got =
            wide_put (own_in s.space.maps) (writable_in s.space.maps) (in_memory p.world) p.memory part r.got (may_own p.world sound q.space s has) (may_inside p.world sound q.space s has) put_part in
            subst (λ (o : Result Bytes Span). Goes p (served p.world the_ask r part) (put_in p the_ask r o)) (sym wider.put)
            (goes_served r same part wider.all wider.grows (λ a was. put_there r.got (only (own_in s.space.maps) p.memory) part (writable_in s.space.maps) a put_part was))

    pub goes_gives : (value : ℕ) (got : List GotRange) → Goes p (answered p.world the_ask (gives the_ask value got p.world.rest)) (answered_in p the_ask (gives the_ask value got p.world.rest))
    goes_gives value got = goes_replied (record { value = value; got = got; rest = p.world.rest; space = s.space; over = false }) (record { maps = refl; bytes = refl })

    pub goes_refuses : (errno : Errno) → Goes p (answered p.world the_ask (refuses the_ask errno)) (answered_in p the_ask (refuses the_ask errno))
    goes_refuses errno = goes_gives (refusal errno) []

-- The bytes of own intervals.
use Rattle.std.proofs.Common.{◌≡◌, ℕ, zero, suc, ◌+◌, ◌-◌, ◌*◌, ◌^◌, ◌<◌, ◌≤◌, Bool, true, false, ◌&&◌, List, [], ◌∷◌, map, length, take, drop, Option, Some, None, Ok, Err, unwrap_or, refl, sym, ap, ◌∙◌, arith}
use Rattle.std.specs.Prelude.{nat_le, if◌then◌else◌}
use Rattle.byte_words.specs.ByteMap.{Bytes}
use Rattle.call_log.specs.Sent.{bytes_from, or_stray, read_span}
use Rattle.mmap_rules.specs.declared.page_owner.PageOwner.{PageOwner}
use Rattle.mmap_rules.specs.Space.{memory_base, all_pass, may_use}
use Rattle.mmap_rules.specs.Owners.{owns}
use Rattle.region_watch.specs.Private.{own_bytes}
use Rattle.region_watch.proofs.Accesses.{range_of}
use Rattle.call_bytes.proofs.ReadRanges.{read_own}
use Rattle.core_world.specs.Segments.{Interval, intervals, segment_of}
use Rattle.core_world.proofs.Intervals.{Each, Lies, all_lie}
use Rattle.core_parts.specs.Tables.{kind_in, segment_in, IsInside}

-- what is read is what stands there
read_is : (m : Bytes) (a len : ℕ) (bytes : List ℕ) → read_span m (record { addr = a; len = len }) ≡ Ok bytes → bytes_from m a len ≡ Some bytes
unfolding read_span
read_is m a len bytes is = by (nat_le (a + len) (2 ^ 32)) (bytes_from m a len) is
  where
    by : (fits : Bool) (found : Option (List ℕ)) → (if fits then or_stray (record { addr = a; len = len }) found else Err (record { addr = a; len = len })) ≡ Ok bytes → found ≡ Some bytes
    by true (Some bs) e = cc
    by true None e = absurd cc
    by false found e = absurd cc

-- an address of a kind is own
own_by_kind : (own writes : Bool) (write : Bool) → (if own then Some writes else None) ≡ Some write → own ≡ true
own_by_kind true writes write is = refl
own_by_kind false writes write is = absurd cc

module _ (table : List PageOwner) (mem : List ℕ) (paged : length mem ≡ 4096 * length table) where
  all_own : (a len : ℕ) (write : Bool) → ((k : ℕ) → a ≤ k → k < a + len → kind_in table k ≡ Some write) → all_pass (owns table false) a len ≡ true
  all_own a zero write each = refl
  all_own a (suc len) write each =
      let here : owns table false a ≡ true = own_by_kind (owns table false a) (owns table true a) write (each a (omega arith) (omega arith)) in
      ap (λ (b : Bool). b && all_pass (owns table false) (a + 1) len) here
      ∙ all_own (a + 1) len write (λ k low high. each k (omega arith) (omega arith))

  -- the own bytes of an interval are those of memory
  interval_bytes : (i : Interval) → Lies (kind_in table) memory_base (memory_base + 4096 * length table) i → length table ≤ 16384
      → bytes_from (own_bytes table mem) i.addr i.len ≡ Some (take i.len (drop (i.addr - memory_base) mem))
  interval_bytes i lies few = by i.len refl
    where
      by : (len : ℕ) → i.len ≡ len → bytes_from (own_bytes table mem) i.addr len ≡ Some (take len (drop (i.addr - memory_base) mem))
      by zero is = refl
      by (suc len) is =
          let each : (k : ℕ) → i.addr ≤ k → k < i.addr + suc len → kind_in table k ≡ Some i.write = λ k low high. lies.each k low (omega arith) in
          let usable : may_use (owns table false) i.addr (suc len) ≡ true =
          range_of (owns table false) i.addr (suc len) (omega (arith, lies.below)) (all_own i.addr (suc len) i.write each) in
          read_is (own_bytes table mem) i.addr (suc len) _ (read_own table mem i.addr (suc len) paged (omega arith) usable)

  segment_is : (i : Interval) → Lies (kind_in table) memory_base (memory_base + 4096 * length table) i → length table ≤ 16384
      → segment_in mem i ≡ segment_of (own_bytes table mem) i
  segment_is i lies few =
      ap (λ (o : Option (List ℕ)). record { addr = i.addr; write = i.write; bytes = unwrap_or o [] }) (sym (interval_bytes i lies few))

  segments_are : (is : List Interval) → Each (Lies (kind_in table) memory_base (memory_base + 4096 * length table)) is → length table ≤ 16384
      → map (segment_in mem) is ≡ map (segment_of (own_bytes table mem)) is
  segments_are [] lie few = refl
  segments_are (i ∷ is) lie few =
      ap (λ s. s ∷ map (segment_in mem) is) (segment_is i lie.0 few)
      ∙ ap (λ ss. segment_of (own_bytes table mem) i ∷ ss) (segments_are is lie.1 few)

  pub all_segments : length table ≤ 16384
      → map (segment_in mem) (intervals (kind_in table) memory_base (4096 * length table))
      ≡ map (segment_of (own_bytes table mem)) (intervals (kind_in table) memory_base (4096 * length table))
  all_segments few = segments_are (intervals (kind_in table) memory_base (4096 * length table)) (all_lie (kind_in table) (4096 * length table) memory_base) few

  inside_each : (is : List Interval) → Each (Lies (kind_in table) memory_base (memory_base + 4096 * length table)) is → Each (IsInside mem) is
  inside_each [] lie = tt
  inside_each (i ∷ is) lie = (record { above = lie.0.above; below = omega (arith, lie.0.below, paged) }, inside_each is lie.1)

  -- all intervals lie in memory
  pub all_inside : Each (IsInside mem) (intervals (kind_in table) memory_base (4096 * length table))
  all_inside = inside_each (intervals (kind_in table) memory_base (4096 * length table)) (all_lie (kind_in table) (4096 * length table) memory_base)

-- The bytes that a write leaves, and that no write changes a copy's.
use Rattle.std.proofs.Common.{◌≡◌, ℕ, zero, suc, ◌+◌, ◌<◌, ◌≤◌, Bool, true, false, ◌&&◌, List, [], ◌∷◌, length, Some, Ok, refl, sym, ap, ◌∙◌, arith}
use Rattle.std.specs.Prelude.{Result, Err, slice_get, if◌then◌else◌}
use Rattle.std.specs.List.{slice_index_or}
use Rattle.std.proofs.lemmas.Bool.{and_parts, false_from_ne_true, false≢true}
use Rattle.std.proofs.lemmas.Bool.Decides.{nat_tests}
use Rattle.byte_words.specs.ByteMap.{Bytes, with_byte, with_bytes}
use Rattle.call_log.specs.Notes.{GotRange}
use Rattle.call_log.specs.Sent.{Span}
use Rattle.nommu_regions.specs.Regions.{is_copy}
use Rattle.mmap_rules.specs.declared.mapping.Mapping.{Mapping}
use Rattle.mmap_rules.specs.Space.{in_range, all_pass, may_use, writable_in}
use Rattle.mmap_rules.specs.Held.{AreMappings}
use Rattle.mmap_rules.proofs.Lists.{found_any}
use Rattle.region_watch.proofs.Accesses.{range_parts}
use Rattle.machine_world.specs.Event.{put_got}
use Rattle.alone_laws.specs.Sound.{AreApart}
use Rattle.alone_laws.proofs.SharedPages.{page_of, in_page}
use Rattle.alone_laws.proofs.Apart.{apart_copy}

-- ---- bytes that are written

byte_here : (m : Bytes) (addr b a : ℕ) → addr ≡ a → with_byte m addr b a ≡ Some b
byte_here m addr b a same = grind (arith, nat_tests)

byte_away : (m : Bytes) (addr b a : ℕ) → (addr ≡ a → ⊥) → with_byte m addr b a ≡ m a
byte_away m addr b a other = grind (arith, nat_tests)

pub bytes_inside : (m : Bytes) (addr : ℕ) (bs : List ℕ) (k : ℕ) → k < length bs → with_bytes m addr bs (addr + k) ≡ Some (slice_index_or bs k 0)
bytes_inside m addr [] k within = absurd (omega arith)
bytes_inside m addr (b ∷ bs) zero within = byte_here (with_bytes m (addr + 1) bs) addr b (addr + 0) (omega arith)
bytes_inside m addr (b ∷ bs) (suc k) within =
    let next : addr + suc k ≡ addr + 1 + k = omega arith in
    byte_away (with_bytes m (addr + 1) bs) addr b (addr + suc k) (λ e. omega (arith, e)) ∙ ap (with_bytes m (addr + 1) bs) next
    ∙ bytes_inside m (addr + 1) bs k (omega (arith, within))

pub bytes_before : (m : Bytes) (addr : ℕ) (bs : List ℕ) (a : ℕ) → a < addr → with_bytes m addr bs a ≡ m a
bytes_before m addr [] a low = refl
bytes_before m addr (b ∷ bs) a low =
    byte_away (with_bytes m (addr + 1) bs) addr b a (λ e. omega (arith, e, low)) ∙ bytes_before m (addr + 1) bs a (omega (arith, low))

pub bytes_behind : (m : Bytes) (addr : ℕ) (bs : List ℕ) (a : ℕ) → addr + length bs ≤ a → with_bytes m addr bs a ≡ m a
bytes_behind m addr [] a high = refl
bytes_behind m addr (b ∷ bs) a high =
    byte_away (with_bytes m (addr + 1) bs) addr b a (λ e. omega (arith, e, high)) ∙ bytes_behind m (addr + 1) bs a (omega (arith, high))

-- ---- a byte that may not be written stays

unwritten : (m : Bytes) (w : ℕ → Bool) (addr : ℕ) (bs : List ℕ) (a : ℕ) → all_pass w addr (length bs) ≡ true → w a ≡ false → with_bytes m addr bs a ≡ m a
unwritten m w addr [] a may locked = refl
unwritten m w addr (b ∷ bs) a may locked =
    let parts = and_parts (w addr) (all_pass w (addr + 1) (length bs)) may in
    byte_away (with_bytes m (addr + 1) bs) addr b a (λ e. (let both = sym parts.0 ∙ ap w e ∙ locked in cc))
    ∙ unwritten m w (addr + 1) bs a parts.1 locked

pub put_keeps : (gots : List GotRange) (m now : Bytes) (w : ℕ → Bool) (a : ℕ) → put_got m w gots ≡ Ok now → w a ≡ false → now a ≡ m a
put_keeps [] m now w a is locked = let same : m ≡ now = cc in ap (λ (f : Bytes). f a) (sym same)
put_keeps (got ∷ gots) m now w a is locked =
    put_one m is locked (λ mid rest. put_keeps gots mid now w a rest locked)
  where
    by : (b : Bool) (x : Result Bytes Span) → (if b then x else Err (record { addr = got.addr; len = length got.bytes })) ≡ Ok now → (b ≡ true) × (x ≡ Ok now)
    by true x e = (refl, e)
    by false x e = absurd cc

    put_one : (m : Bytes) → put_got m w (got ∷ gots) ≡ Ok now → w a ≡ false → ((mid : Bytes) → put_got mid w gots ≡ Ok now → now a ≡ mid a) → now a ≡ m a
    put_one m is locked more =
        let parts = by (may_use w got.addr (length got.bytes)) (put_got (with_bytes m got.addr got.bytes) w gots) is in
        more (with_bytes m got.addr got.bytes) parts.1 ∙ unwritten m w got.addr got.bytes a (range_parts w got.addr (length got.bytes) parts.0).1 locked

-- ---- copies

-- no byte of a copy may be written
pub copy_locked : (pages : ℕ) (maps : List Mapping) (k : ℕ) (c : Mapping) (a : ℕ) → AreApart maps → AreMappings pages maps → slice_get maps k ≡ Some c → is_copy c.source ≡ true
    → in_range c.range a ≡ true → writable_in maps a ≡ false
unfolding writable_in
copy_locked pages maps k c a apart are there copy inside = false_from_ne_true (writable_in maps a) (λ may. (
    let f = found_any (λ (m : Mapping). m.range.writes && in_range m.range a) maps may in
    let parts = and_parts f.item.range.writes (in_range f.item.range a) f.passes in
    let is = are f.at f.item f.there in
    let shared = apart_copy maps k c apart there copy f.at f.item f.there (page_of a) (in_page pages f.item a is parts.1) (in_page pages c a (are k c there) inside) in
    false≢true (ap is_copy (sym (is.writes parts.0)) ∙ shared.copy)))

-- Ranges written into memory, one behind the other.
use Rattle.std.proofs.Common.{◌≡◌, ℕ, suc, ◌+◌, ◌-◌, ◌*◌, ◌^◌, ◌<◌, ◌≤◌, Bool, true, false, List, [], ◌∷◌, length, map, drop, get_or, Option, Some, None, arith, refl, sym, ap, subst, ◌∙◌, drop-cons, add-one}
use Rattle.std.specs.Prelude.{All, option_map, Result, Ok, Err, if◌then◌else◌, not, ◌&&◌}
use Rattle.std.proofs.lemmas.Bool.Decides.{nat_tests}
use Rattle.std.proofs.lemmas.Option.{same_Some}
use Rattle.std.proofs.lemmas.List.{length-map}
use Rattle.std.proofs.Math.ListN.{get_or-map}
use Rattle.std.proofs.lemmas.List.Elements.{All-get_or}
use Rattle.byte_words.specs.ByteMap.{Bytes, with_bytes}
use Rattle.byte_words.specs.Patches.{laid}
use Rattle.byte_words.proofs.Laid.{length-laid}
use Rattle.byte_words.proofs.ByteArrays.{byte_of-laid}
use Rattle.call_log.specs.declared.note.Got.{Got}
use Rattle.call_log.specs.Values.{got_value}
use Rattle.call_log.specs.Notes.{GotRange}
use Rattle.call_log.specs.Sent.{Span}
use Rattle.mmap_rules.specs.declared.page_owner.PageOwner.{PageOwner}
use Rattle.mmap_rules.specs.declared.mapping.Mapping.{Mapping}
use Rattle.mmap_rules.specs.Space.{in_range, own_in, writable_in, may_use}
use Rattle.mmap_rules.specs.Owners.{owns}
use Rattle.region_watch.specs.Private.{only, physical}
use Rattle.region_watch.proofs.Maps.{all_pass-at, all_pass-each, with_bytes-only, with_bytes-beside}
use Rattle.region_watch.proofs.Accesses.{own_writable, range_parts, range_of}
use Rattle.byte_words.specs.declared.access.Access.{Access}
use Rattle.flat_loader.specs.Alone.{put_got}
use Rattle.call_bytes.specs.Puts.{stray_range, access_at, IsRange, Put}
use Rattle.region_watch.specs.Private.{in_pages}
use Rattle.call_bytes.proofs.Places.{any_at, at_any}

-- where no range strays all are written
pub put_all : (m : Bytes) (w : ℕ → Bool) (gots : List GotRange) → stray_range w gots ≡ None → (now : Bytes) × (put_got m w gots ≡ Ok now)
put_all m w [] fits = (m, refl)
put_all m w (g ∷ gots) fits = by_test (put_all (with_bytes m g.addr g.bytes) w gots) (may_use w g.addr (length g.bytes)) refl fits
  where
    by_test : (stray_range w gots ≡ None → (now : Bytes) × (put_got (with_bytes m g.addr g.bytes) w gots ≡ Ok now)) → (b : Bool) → may_use w g.addr (length g.bytes) ≡ b → (if b then stray_range w gots else Some (record { addr = g.addr; len = length g.bytes })) ≡ None →
        (now : Bytes) × (put_got m w (g ∷ gots) ≡ Ok now)
    by_test later true is fits = let more = later fits in (more.0, rw is more.1)
    by_test later false is fits = absurd cc

-- and the first that strays is the one that is found
pub put_strays : (m : Bytes) (w : ℕ → Bool) (gots : List GotRange) (span : Span) → stray_range w gots ≡ Some span → put_got m w gots ≡ Err span
put_strays m w [] span is = absurd cc
put_strays m w (g ∷ gots) span is = by_test (put_strays (with_bytes m g.addr g.bytes) w gots span) (may_use w g.addr (length g.bytes)) refl is
  where
    by_test : (stray_range w gots ≡ Some span → put_got (with_bytes m g.addr g.bytes) w gots ≡ Err span) → (b : Bool) → may_use w g.addr (length g.bytes) ≡ b → (if b then stray_range w gots else Some (record { addr = g.addr; len = length g.bytes })) ≡ Some span →
        put_got m w (g ∷ gots) ≡ Err span
    by_test later true is found = rw is (later found)
    by_test later false is found = rw is (let done : Span → Result Bytes Span = λ x. Err x in ap done (same_Some _ _ found))

-- ---- one range after the other

-- the items from a place on
pub parts_at : (xs : List Got) (i : ℕ) (g : Got) → i < length xs → g ≡ get_or xs i g → map got_value (drop i xs) ≡ got_value g ∷ map got_value (drop (i + 1) xs)
parts_at xs i g within is =
    ap (map got_value) (drop-cons xs i g within)
    ∙ ap (λ (x : Got). got_value x ∷ map got_value (drop (suc i) xs)) (sym is)
    ∙ ap (λ (n : ℕ). got_value g ∷ map got_value (drop n xs)) (sym (add-one i))

pub range_at : (xs : List Got) (i : ℕ) (g : Got) → All IsRange (map got_value xs) → i < length xs → g ≡ get_or xs i g → IsRange (got_value g)
range_at xs i g all within is =
    let inside : i < length (map got_value xs) = omega (arith, length-map xs got_value, within) in
    subst IsRange (get_or-map got_value xs i g ∙ ap got_value (sym is)) (All-get_or IsRange (map got_value xs) i (got_value g) inside all)

-- no access strays where none of the ranges does
pub none_strays : (pc : ℕ) (found : Option Span) (o : Option Access) → o ≡ option_map (access_at pc) found → o ≡ None → found ≡ None
none_strays pc None o is none = refl
none_strays pc (Some span) o is none = absurd (let e : Some (access_at pc span) ≡ None = sym is ∙ none in cc)

-- a range that may be written is none that strays
pub may_be_put : (w : ℕ → Bool) (left rest : List GotRange) (g : GotRange) → left ≡ g ∷ rest → may_use w g.addr (length g.bytes) ≡ true → stray_range w left ≡ stray_range w rest
may_be_put w left rest g parts may = ap (stray_range w) parts ∙ (rw may refl)

pub strays_first : (w : ℕ → Bool) (left rest : List GotRange) (g : GotRange) → left ≡ g ∷ rest → may_use w g.addr (length g.bytes) ≡ false
    → stray_range w left ≡ Some (record { addr = g.addr; len = length g.bytes })
strays_first w left rest g parts strays = ap (stray_range w) parts ∙ (rw strays refl)

-- where none strays the first may be written
first_may : (w : ℕ → Bool) (g : GotRange) (rest : List GotRange) → stray_range w (g ∷ rest) ≡ None → may_use w g.addr (length g.bytes) ≡ true
first_may w g rest fits = by_test (may_use w g.addr (length g.bytes)) fits
  where
    by_test : (b : Bool) → (if b then stray_range w rest else Some (record { addr = g.addr; len = length g.bytes })) ≡ None → b ≡ true
    by_test true fits = refl
    by_test false fits = absurd cc

-- ---- within memory

both : (x y : Bool) → (x && y) ≡ true → (x ≡ true) × (y ≡ true)
both true y h = (refl, h)
both false y h = absurd (let e : false ≡ true = h in cc)

in_bounds : (pages a : ℕ) → in_pages pages a ≡ true → (2 ^ 31 ≤ a) × (a < 2 ^ 31 + 4096 * pages)
in_bounds pages a is =
    let low : 2 ^ 31 ≤ a = grind (arith, nat_tests, is) in
    let high : a < 2 ^ 31 + 4096 * pages = grind (arith, nat_tests, is) in
    (low, high)

range_in_bounds : (pages a len : ℕ) → 0 < len → may_use (in_pages pages) a len ≡ true → (2 ^ 31 ≤ a) × (a + len ≤ 2 ^ 31 + 4096 * pages)
range_in_bounds pages a len some is =
    let pass = (range_parts (in_pages pages) a len is).1 in
    let first = in_bounds pages a (all_pass-at (in_pages pages) a len a pass (omega arith) (omega arith)) in
    let last = in_bounds pages (a + (len - 1)) (all_pass-at (in_pages pages) a len (a + (len - 1)) pass (omega arith) (omega arith)) in
    (first.0, omega (arith, last.1))

-- what was written of all ranges, and what is left of them
pub record Putting (pages : ℕ) (old now : List ℕ) (all left : List GotRange) : Type 0 where
  pub inside : stray_range (in_pages pages) left ≡ None
  pub puts : put_got (physical now) (in_pages pages) left ≡ put_got (physical old) (in_pages pages) all
  pub len : length now ≡ length old

pub putting_begins : (pages : ℕ) (old : List ℕ) (all : List GotRange) → stray_range (in_pages pages) all ≡ None → Putting pages old old all all
putting_begins pages old all inside = record { inside = inside; puts = refl; len = refl }

pub putting_ends : (pages : ℕ) (old now : List ℕ) (all left : List GotRange) → Putting pages old now all left → left ≡ [] → put_got (physical old) (in_pages pages) all ≡ Ok (physical now)
putting_ends pages old now all left p none = sym p.puts ∙ ap (put_got (physical now) (in_pages pages)) none

module _ (pages : ℕ) (old now : List ℕ) (all left rest : List GotRange) (g : GotRange) (paged : length old ≡ 4096 * pages) (p : Putting pages old now all left)
    (parts : left ≡ g ∷ rest) (some : 0 < length g.bytes) where
  may_now : may_use (in_pages pages) g.addr (length g.bytes) ≡ true
  may_now = first_may (in_pages pages) g rest (sym (ap (stray_range (in_pages pages)) parts) ∙ p.inside)

  pub range_within : (2 ^ 31 ≤ g.addr) × (g.addr + length g.bytes ≤ 2 ^ 31 + length now)
  range_within =
      let w = range_in_bounds pages g.addr (length g.bytes) some may_now in
      (w.0, omega (arith, w.1, paged, p.len))

  laid_now : physical (laid now (g.addr - 2 ^ 31) g.bytes) ≡ with_bytes (physical now) g.addr g.bytes
  laid_now =
      let fits = range_within in
      let place : 2 ^ 31 + (g.addr - 2 ^ 31) ≡ g.addr = omega (arith, fits.0) in
      byte_of-laid (2 ^ 31) now (g.addr - 2 ^ 31) g.bytes (omega (arith, fits.0, fits.1)) ∙ ap (λ (at : ℕ). with_bytes (physical now) at g.bytes) place

  pub putting_on : Putting pages old (laid now (g.addr - 2 ^ 31) g.bytes) all rest
  putting_on =
      let fits = range_within in
      record {
        inside = sym (may_be_put (in_pages pages) left rest g parts may_now) ∙ p.inside;
        puts = ap (λ (m : Bytes). put_got m (in_pages pages) rest) laid_now
            ∙ sym (ap (put_got (physical now) (in_pages pages)) parts ∙ (rw may_now refl))
            ∙ p.puts;
        len = length-laid now (g.addr - 2 ^ 31) g.bytes (omega (arith, fits.0, fits.1)) ∙ p.len;
      }

-- ---- the part that one has of it

-- what is written of a part, and in all of it
module _ (own may wide : ℕ → Bool) (inside : (a : ℕ) → may a ≡ true → own a ≡ true) (now : Bytes) where
  part_on : (g : GotRange) (gots : List GotRange) (m : Bytes) → stray_range may (g ∷ gots) ≡ None → put_got m wide (g ∷ gots) ≡ Ok now → put_got (with_bytes m g.addr g.bytes) wide gots ≡ Ok now
  part_on g gots m fits puts = by_test (may_use wide g.addr (length g.bytes)) puts
    where
      by_test : (b : Bool) → (if b then put_got (with_bytes m g.addr g.bytes) wide gots else Err (record { addr = g.addr; len = length g.bytes })) ≡ Ok now → put_got (with_bytes m g.addr g.bytes) wide gots ≡ Ok now
      by_test true puts = puts
      by_test false puts = absurd cc

  pub part_put : (gots : List GotRange) (m : Bytes) → stray_range may gots ≡ None → put_got m wide gots ≡ Ok now → put_got (only own m) may gots ≡ Ok (only own now)
  part_put [] m fits puts = ap (λ (r : Result Bytes Span). part_of r) puts
    where
      part_of : Result Bytes Span → Result Bytes Span
      part_of (Ok bytes) = Ok (only own bytes)
      part_of (Err span) = Err span
  part_put (g ∷ gots) m fits puts =
      let may_first = first_may may g gots fits in
      let pass = (range_parts may g.addr (length g.bytes) may_first).1 in
      let passes = all_pass-each own g.addr (length g.bytes) (λ i low high. inside i (all_pass-at may g.addr (length g.bytes) i pass low high)) in
      rw may_first
      (ap (λ (bytes : Bytes). put_got bytes may gots) (sym (with_bytes-only own m g.addr g.bytes passes))
      ∙ part_put gots (with_bytes m g.addr g.bytes) (sym (may_be_put may (g ∷ gots) gots g refl may_first) ∙ fits) (part_on g gots m fits puts))

  pub part_frozen : (gots : List GotRange) (m : Bytes) → stray_range may gots ≡ None → put_got m wide gots ≡ Ok now → only (λ a. not (may a)) now ≡ only (λ a. not (may a)) m
  part_frozen [] m fits puts = ap (λ (r : Result Bytes Span). only (λ a. not (may a)) (bytes_of_it r)) (sym puts)
    where
      bytes_of_it : Result Bytes Span → Bytes
      bytes_of_it (Ok bytes) = bytes
      bytes_of_it (Err span) = m
  part_frozen (g ∷ gots) m fits puts =
      let may_first = first_may may g gots fits in
      part_frozen gots (with_bytes m g.addr g.bytes) (sym (may_be_put may (g ∷ gots) gots g refl may_first) ∙ fits) (part_on g gots m fits puts)
      ∙ with_bytes-beside may m g.addr g.bytes (range_parts may g.addr (length g.bytes) may_first).1

-- who may write no more strays no less
pub stray_wider : (may wide : ℕ → Bool) → ((a : ℕ) → may a ≡ true → wide a ≡ true) → (gots : List GotRange) → stray_range may gots ≡ None → stray_range wide gots ≡ None
stray_wider may wide inside [] fits = refl
stray_wider may wide inside (g ∷ gots) fits =
    let may_first = first_may may g gots fits in
    let parts = range_parts may g.addr (length g.bytes) may_first in
    let wide_first = range_of wide g.addr (length g.bytes) parts.0 (all_pass-each wide g.addr (length g.bytes) (λ i low high. inside i (all_pass-at may g.addr (length g.bytes) i parts.1 low high))) in
    may_be_put wide (g ∷ gots) gots g refl wide_first
    ∙ stray_wider may wide inside gots (sym (may_be_put may (g ∷ gots) gots g refl may_first) ∙ fits)

-- what a mapping lets write is its own
pub writable_own : (maps : List Mapping) (a : ℕ) → writable_in maps a ≡ true → own_in maps a ≡ true
unfolding writable_in own_in
writable_own maps a may =
    let m = any_at (λ (x : Mapping). x.range.writes && in_range x.range a) maps may in
    at_any (λ (x : Mapping). in_range x.range a) maps m.place m.item m.there (both m.item.range.writes (in_range m.item.range a) m.passes).1

-- where nothing strays from a table's part that is written of it
pub put_own : (table : List PageOwner) (old new : List ℕ) (gots : List GotRange) → stray_range (owns table true) gots ≡ None → put_got (physical old) (in_pages (length table)) gots ≡ Ok (physical new)
    → length new ≡ length old → Put table old new gots
put_own table old new gots fits puts len = record {
  put = part_put (owns table false) (owns table true) (in_pages (length table)) (own_writable table false) (physical new) gots (physical old) fits puts;
  frozen = part_frozen (owns table false) (owns table true) (in_pages (length table)) (own_writable table false) (physical new) gots (physical old) fits puts;
  len = len;
}

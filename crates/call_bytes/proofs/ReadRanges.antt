-- What a call reads in one memory, range by range.
use Rattle.std.proofs.Common.{◌≡◌, ℕ, zero, suc, ◌+◌, ◌-◌, ◌*◌, ◌%◌, ◌^◌, ◌≤◌, ◌<◌, Bool, true, false, ◌&&◌, List, [], ◌∷◌, ◌++◌, length, take, drop, refl, sym, ap, ◌∙◌, arith, append_assoc, length-append, drop-cons, add-one}
use Rattle.std.specs.Prelude.{Option, Some, None, Result, Ok, Err, nat_le, map, if◌then◌else◌}
use Rattle.std.specs.List.{range_with_len}
use Rattle.std.proofs.lemmas.Bool.{le-ltb}
use Rattle.std.proofs.lemmas.Bool.Decides.{nat_tests}
use Rattle.byte_words.specs.ByteMap.{Bytes, byte_of}
use Rattle.byte_words.proofs.ByteArrays.{byte_at}
use Rattle.mmap_rules.specs.declared.page_owner.PageOwner.{PageOwner}
use Rattle.mmap_rules.specs.Space.{all_pass, may_use}
use Rattle.mmap_rules.specs.Owners.{owns}
use Rattle.region_watch.specs.Private.{only, physical}
use Rattle.region_watch.proofs.Accesses.{own_within}
use Rattle.call_log.specs.Sent.{Span, cons_byte, bytes_from, or_stray, read_span, followed, read_spans, piece_spans, data_spans, writev_sent}
use Rattle.call_bytes.specs.declared.unread.Unread.{Unread}
use Rattle.call_bytes.specs.declared.unread.Unread.TheVariants.{Stray, Memory}
use Rattle.call_bytes.specs.Reading.{Reads, appended, Appends}

-- ---- one range

-- what a test lets through
bytes_from-only : (p : ℕ → Bool) (m : Bytes) (a len : ℕ) → bytes_from (only p m) a len ≡ (if all_pass p a len then bytes_from m a len else None)
unfolding only
bytes_from-only p m a zero = refl
bytes_from-only p m a (suc len) =
    rw (bytes_from-only p m (a + 1) len) (cons_if (p a) (all_pass p (a + 1) len) (m a) (bytes_from m (a + 1) len))
  where
    cons_none : (first : Option ℕ) → cons_byte first None ≡ None
    cons_none (Some b) = refl
    cons_none None = refl

    cons_if : (here rest : Bool) (first : Option ℕ) (more : Option (List ℕ)) →
        cons_byte (if here then first else None) (if rest then more else None) ≡ (if here && rest then cons_byte first more else None)
    cons_if true true first more = refl
    cons_if true false first more = cons_none first
    cons_if false rest first more = refl

-- what stands in an array
bytes_from-within : (base : ℕ) (mem : List ℕ) (at len : ℕ) → at + len ≤ length mem → bytes_from (byte_of base mem) (base + at) len ≡ Some (take len (drop at mem))
bytes_from-within base mem at zero within = refl
bytes_from-within base mem at (suc len) within =
    let next : base + at + 1 ≡ base + (at + 1) = omega arith in
    let less : at < length mem = omega arith in
    rw (next, byte_at base mem at less, bytes_from-within base mem (at + 1) len (omega arith), drop-cons mem at 0 less, add-one) refl

read_span-only : (p : ℕ → Bool) (m : Bytes) (a len : ℕ) → read_span (only p m) (record { addr = a; len = len }) ≡ (if may_use p a len then or_stray (record { addr = a; len = len }) (bytes_from m a len) else Err (record { addr = a; len = len }))
unfolding read_span may_use
read_span-only p m a len = rw (bytes_from-only p m a len) (if_both (nat_le (a + len) (2 ^ 32)) (all_pass p a len) (record { addr = a; len = len }) (bytes_from m a len))
  where
    if_both : (x y : Bool) (s : Span) (bytes : Option (List ℕ)) →
        (if x then or_stray s (if y then bytes else None) else Err s) ≡ (if x && y then or_stray s bytes else Err s)
    if_both true true s bytes = refl
    if_both true false s bytes = refl
    if_both false y s bytes = refl

-- an own range is read from memory at its place
pub read_own : (table : List PageOwner) (mem : List ℕ) (addr len : ℕ) → length mem ≡ 4096 * length table → 0 < len → may_use (owns table false) addr len ≡ true
    → read_span (only (owns table false) (physical mem)) (record { addr = addr; len = len }) ≡ Ok (take len (drop (addr - 2 ^ 31) mem))
read_own table mem addr len paged some is =
    let within = own_within table false addr len some is in
    let place : addr ≡ 2 ^ 31 + (addr - 2 ^ 31) = omega (arith, within.0) in
    let bytes : bytes_from (physical mem) addr len ≡ Some (take len (drop (addr - 2 ^ 31) mem)) =
    ap (λ (a : ℕ). bytes_from (physical mem) a len) place ∙ bytes_from-within (2 ^ 31) mem (addr - 2 ^ 31) len (omega (arith, within.0, within.1)) in
    rw (read_span-only (owns table false) (physical mem) addr len, is, bytes) refl

-- another one strays
pub read_stray : (table : List PageOwner) (mem : List ℕ) (addr len : ℕ) → may_use (owns table false) addr len ≡ false
    → read_span (only (owns table false) (physical mem)) (record { addr = addr; len = len }) ≡ Err (record { addr = addr; len = len })
read_stray table mem addr len is = rw (read_span-only (owns table false) (physical mem) addr len, is) refl

-- of length 0 it is empty
pub read_nothing : (m : Bytes) (addr : ℕ) → addr ≤ 2 ^ 32 → read_span m (record { addr = addr; len = 0 }) ≡ Ok []
unfolding read_span
read_nothing m addr fits = grind (arith, nat_tests)

-- ---- as many bytes are read as a range has

from_length : (m : Bytes) (a len : ℕ) (bs : List ℕ) → bytes_from m a len ≡ Some bs → length bs ≡ len
from_length m a zero bs e = let same : [] ≡ bs = cc in ap (length {A = ℕ}) (sym same)
from_length m a (suc len) bs e = one_more (m a) (bytes_from m (a + 1) len) (from_length m (a + 1) len) e
  where
    one_more : (first : Option ℕ) (more : Option (List ℕ)) → ((cs : List ℕ) → more ≡ Some cs → length cs ≡ len) → cons_byte first more ≡ Some bs → length bs ≡ suc len
    one_more (Some b) (Some cs) long e = let same : b ∷ cs ≡ bs = cc in ap (length {A = ℕ}) (sym same) ∙ ap suc (long cs refl)
    one_more (Some b) None long e = absurd (cc)
    one_more None more long e = absurd (cc)

pub read_length : (m : Bytes) (span : Span) (bytes : List ℕ) → read_span m span ≡ Ok bytes → length bytes ≡ span.len
unfolding read_span
read_length m span bytes is = read (nat_le (span.addr + span.len) (2 ^ 32)) (bytes_from m span.addr span.len) (from_length m span.addr span.len) is
  where
    read : (fits : Bool) (found : Option (List ℕ)) → ((bs : List ℕ) → found ≡ Some bs → length bs ≡ span.len) → (if fits then or_stray span found else Err span) ≡ Ok bytes → length bytes ≡ span.len
    read true (Some bs) long e = let same : bs ≡ bytes = cc in ap (length {A = ℕ}) (sym same) ∙ long bs refl
    read true None long e = absurd (cc)
    read false found long e = absurd (cc)

pub appended_length : (m : Bytes) (span : Span) (old new : List ℕ) → appended old (read_span m span) ≡ Ok new → length new ≡ length old + span.len
appended_length m span old new is = by_cases (read_span m span) (read_length m span) is
  where
    by_cases : (found : Result (List ℕ) Span) → ((bs : List ℕ) → found ≡ Ok bs → length bs ≡ span.len) → appended old found ≡ Ok new → length new ≡ length old + span.len
    by_cases (Ok bs) long e =
        let same : old ++ bs ≡ new = cc in
        let count : length bs ≡ span.len = long bs refl in
        ap (length {A = ℕ}) (sym same) ∙ length-append old bs ∙ ap (λ n. length old + n) count
    by_cases (Err stray) long e = absurd (cc)

-- ---- ranges one behind the other

pub appended_all : (front back : List ℕ) (rest : Result (List ℕ) Span) → appended front (appended back rest) ≡ appended (front ++ back) rest
appended_all front back (Ok bytes) = let done : List ℕ → Result (List ℕ) Span = λ x. Ok x in ap done (sym (append_assoc front back bytes))
appended_all front back (Err span) = refl

pub appended_strays : (front : List ℕ) (found : Result (List ℕ) Span) (stray : Span) → appended front found ≡ Err stray → found ≡ Err stray
appended_strays front (Ok bytes) stray e = absurd (cc)
appended_strays front (Err span) stray e = e

pub followed_is : (back : List ℕ) (rest : List ℕ → Result (List ℕ) Span) → followed (Ok back) rest ≡ appended back (rest back)
followed_is back rest = by_cases (rest back)
  where
    by_cases : (r : Result (List ℕ) Span) → followed (Ok back) (λ b. r) ≡ appended back r
    by_cases (Ok bytes) = refl
    by_cases (Err span) = refl

-- one more range was read: with it, what is left gives what all gives
pub next_read : (m : Bytes) (span : Span) (spans left : List Span) (old new : List ℕ) (all : Result (List ℕ) Span) → left ≡ span ∷ spans → appended old (read_spans m left) ≡ all
    → appended old (read_span m span) ≡ Ok new → appended new (read_spans m spans) ≡ all
next_read m span spans left old new all parts before is =
    by_cases (read_span m span) (ap (λ (x : List Span). appended old (read_spans m x)) (sym parts) ∙ before) is
  where
    by_cases : (found : Result (List ℕ) Span) → appended old (followed found (λ front. read_spans m spans)) ≡ all → appended old found ≡ Ok new → appended new (read_spans m spans) ≡ all
    by_cases (Ok back) before e =
        let same : old ++ back ≡ new = cc in
        ap (λ (x : List ℕ). appended x (read_spans m spans)) (sym same)
        ∙ sym (appended_all old back (read_spans m spans))
        ∙ ap (appended old) (sym (followed_is back (λ front. read_spans m spans)))
        ∙ before
    by_cases (Err stray) before e = absurd (cc)

-- or it strays, and so does the whole
pub next_strays : (m : Bytes) (span : Span) (spans left : List Span) (old : List ℕ) (stray : Span) (all : Result (List ℕ) Span) → left ≡ span ∷ spans → appended old (read_spans m left) ≡ all
    → read_span m span ≡ Err stray → all ≡ Err stray
next_strays m span spans left old stray all parts before is =
    sym before ∙ ap (λ (x : List Span). appended old (read_spans m x)) parts ∙ ap (λ (x : Result (List ℕ) Span). appended old (followed x (λ front. read_spans m spans))) is

-- ---- spans by number

pub same_span : (a b n k : ℕ) → a ≡ b → n ≡ k → ◌≡◌ {A = Span} (record { addr = a; len = n }) (record { addr = b; len = k })
same_span a b n k p q = λ i. record { addr = p i; len = q i }

pub first_left : (f : ℕ → Span) (i count : ℕ) → i < count → map f (range_with_len i (count - i)) ≡ f i ∷ map f (range_with_len (i + 1) (count - (i + 1)))
first_left f i count less = let more : count - i ≡ suc (count - (i + 1)) = omega arith in rw more refl

-- where the address and the length of a piece stand
abbrev pub piece_span : ℕ → ℕ → Span
piece_span at i = record { addr = (at + 8 * i) % 2 ^ 32; len = 8 }

-- ---- what is answered where a range isn't read

pub unread : (Y : Type 0) (found all : Result (List ℕ) Span) (old new : List ℕ) (e : Unread) → ((stray : Span) → found ≡ Err stray → all ≡ Err stray) → Appends found old new (Err e) → Reads {Y = Y} all (Err e)
unread Y found all old new (Stray addr len) strays is = strays (record { addr = addr; len = len }) is
unread Y found all old new Memory strays is = tt

pub unread_on : (found all : Result (List ℕ) Span) (old new first last : List ℕ) (e : Unread) → ((stray : Span) → found ≡ Err stray → all ≡ Err stray) → Appends found old new (Err e) → Appends all first last (Err e)
unread_on found all old new first last (Stray addr len) strays is = strays (record { addr = addr; len = len }) is
unread_on found all old new first last Memory strays is = tt

-- ---- whole calls

-- the pieces of a writev, and then its data
pub writev_is : (m : Bytes) (at count : ℕ) (pieces : List ℕ) → count ≤ 1024 → read_spans m (piece_spans at count) ≡ Ok pieces
    → writev_sent m at count ≡ appended pieces (read_spans m (data_spans count pieces))
writev_is m at count pieces few is =
    rw (le-ltb 1024 count few, is) (followed_is pieces (λ ps. read_spans m (data_spans count ps)))

-- What is read of a part of memory is read of all of it.
use Rattle.std.proofs.Common.{◌≡◌, ℕ, zero, suc, ◌+◌, ◌-◌, ◌%◌, ◌^◌, Bool, true, false, List, [], ◌∷◌, refl}
use Rattle.std.specs.Prelude.{◌==◌, nat_le, nat_lt, min, if◌then◌else◌, slice_index, Option, Some, None, Result, Ok, Err}
use Rattle.byte_words.specs.Numbers.{low_first, number_at}
use Rattle.byte_words.specs.ByteMap.{Bytes}
use Rattle.region_watch.specs.Private.{only}
use Rattle.call_log.specs.Sent.{Span, cons_byte, bytes_from, or_stray, read_span, followed, read_spans, piece_spans, data_spans, most_moved, most_pieces, writev_sent, up_to_zero, path_from, most_path, has_zero, has_path, most_strings, string_from, strings_from, list_sent, exec_sent, sent}

-- what the first gives, the second gives
abbrev pub Sub : Result (List ℕ) Span → Result (List ℕ) Span → Type 0
Sub part all = (bytes : List ℕ) → part ≡ Ok bytes → all ≡ Ok bytes

same_sub : (r : Result (List ℕ) Span) → Sub r r
same_sub r bytes is = is

if_sub : (test : Bool) (a b c d : Result (List ℕ) Span) → Sub a c → Sub b d → Sub (if test then a else b) (if test then c else d)
if_sub true a b c d first second = first
if_sub false a b c d first second = second

no_err : {A : Type 0} (span : Span) (bytes : List ℕ) → Err span ≡ Ok bytes → A
no_err span bytes is = absurd (cc)

followed_sub : (r s : Result (List ℕ) Span) (f g : List ℕ → Result (List ℕ) Span) → Sub r s → ((front : List ℕ) → Sub (f front) (g front)) → Sub (followed r f) (followed s g)
followed_sub (Err span) s f g first rest bytes is = no_err span bytes is
followed_sub (Ok front) s f g first rest bytes is = rw (first front refl) (behind_sub (f front) (g front) (rest front) is)
  where
    behind_sub : (x y : Result (List ℕ) Span) → Sub x y → followed (Ok front) (λ _. x) ≡ Ok bytes → followed (Ok front) (λ _. y) ≡ Ok bytes
    behind_sub (Ok back) y sub is = rw (sub back refl) is
    behind_sub (Err span) y sub is = no_err span bytes is

-- ---- a span

byte_sub : (own : ℕ → Bool) (mem : Bytes) (a b : ℕ) → only own mem a ≡ Some b → mem a ≡ Some b
unfolding only
byte_sub own mem a b is = tested (own a) is
  where
    tested : (test : Bool) → (if test then mem a else None) ≡ Some b → mem a ≡ Some b
    tested true is = is
    tested false is = absurd (cc)

bytes_sub : (own : ℕ → Bool) (mem : Bytes) (a len : ℕ) (bytes : List ℕ) → bytes_from (only own mem) a len ≡ Some bytes → bytes_from mem a len ≡ Some bytes
bytes_sub own mem a zero bytes is = is
bytes_sub own mem a (suc len) bytes is =
    parts (only own mem a) (bytes_from (only own mem) (a + 1) len) (λ b here. byte_sub own mem a b here) (λ bs more. bytes_sub own mem (a + 1) len bs more) is
  where
    parts : (low : Option ℕ) (high : Option (List ℕ)) → ((b : ℕ) → low ≡ Some b → mem a ≡ Some b) → ((bs : List ℕ) → high ≡ Some bs → bytes_from mem (a + 1) len ≡ Some bs)
        → cons_byte low high ≡ Some bytes → bytes_from mem a (suc len) ≡ Some bytes
    parts (Some b) (Some bs) here more is = rw (here b refl, more bs refl) is
    parts (Some b) None here more is = absurd (cc)
    parts None high here more is = absurd (cc)

pub span_sub : (own : ℕ → Bool) (mem : Bytes) (span : Span) → Sub (read_span (only own mem) span) (read_span mem span)
unfolding read_span
span_sub own mem span = if_sub (nat_le (span.addr + span.len) (2 ^ 32)) _ _ _ _ (found (bytes_from (only own mem) span.addr span.len) refl) (same_sub (Err span))
  where
    found : (o : Option (List ℕ)) → bytes_from (only own mem) span.addr span.len ≡ o → Sub (or_stray span o) (or_stray span (bytes_from mem span.addr span.len))
    found (Some bs) is bytes same = rw (bytes_sub own mem span.addr span.len bs is) same
    found None is bytes same = no_err span bytes same

spans_sub : (own : ℕ → Bool) (mem : Bytes) (spans : List Span) → Sub (read_spans (only own mem) spans) (read_spans mem spans)
spans_sub own mem [] = same_sub (Ok [])
spans_sub own mem (span ∷ spans) = followed_sub _ _ _ _ (span_sub own mem span) (λ front. spans_sub own mem spans)

-- ---- a path

zero_sub : (x y : Result (List ℕ) Span) (front : List ℕ) → Sub x y → Sub (up_to_zero x front) (up_to_zero y front)
zero_sub x y [] sub = sub
zero_sub x y (zero ∷ []) sub = same_sub (Ok [])
zero_sub x y (suc b ∷ []) sub = sub
zero_sub x y (zero ∷ c ∷ cs) sub = sub
zero_sub x y (suc b ∷ c ∷ cs) sub = sub

path_sub : (left : ℕ) (own : ℕ → Bool) (mem : Bytes) (at : ℕ) → Sub (path_from left (only own mem) at) (path_from left mem at)
path_sub zero own mem at = same_sub (Ok [])
path_sub (suc left) own mem at =
    followed_sub _ _ _ _ (span_sub own mem (record { addr = at % 2 ^ 32; len = 1 })) (λ front. zero_sub _ _ front (path_sub left own mem (at + 1)))

-- ---- strings

string_sub : (most : ℕ) (own : ℕ → Bool) (mem : Bytes) (at left : ℕ) (f g : ℕ → Result (List ℕ) Span) → ((n : ℕ) → Sub (f n) (g n)) → Sub (string_from most (only own mem) at left f) (string_from most mem at left g)
unfolding string_from
string_sub zero own mem at left f g more = same_sub (Ok [])
string_sub (suc most) own mem at left f g more =
    followed_sub _ _ _ _ (span_sub own mem (record { addr = at % 2 ^ 32; len = 1 })) (λ byte.
    if_sub (left == 0) _ _ _ _ (same_sub (Ok [])) (if_sub (slice_index byte 0 == 0) _ _ _ _ (more (left - 1)) (string_sub most own mem (at + 1) (left - 1) f g more)))

strings_sub : (most : ℕ) (own : ℕ → Bool) (mem : Bytes) (at left : ℕ) (f g : ℕ → Result (List ℕ) Span) → ((n : ℕ) → Sub (f n) (g n)) → Sub (strings_from most (only own mem) at left f) (strings_from most mem at left g)
unfolding strings_from
strings_sub zero own mem at left f g more = same_sub (Ok [])
strings_sub (suc most) own mem at left f g more =
    followed_sub _ _ _ _ (span_sub own mem (record { addr = at % 2 ^ 32; len = 4 })) (λ word.
    if_sub (number_at low_first 4 word 0 == 0) _ _ _ _ (more left) (if_sub (nat_lt left 4) _ _ _ _ (same_sub (Ok []))
    (string_sub (suc most_strings) own mem (number_at low_first 4 word 0) (left - 4) _ _ (λ left. strings_sub most own mem (at + 4) left f g more))))

list_sub : (own : ℕ → Bool) (mem : Bytes) (at left : ℕ) (f g : ℕ → Result (List ℕ) Span) → ((n : ℕ) → Sub (f n) (g n)) → Sub (list_sent (only own mem) at left f) (list_sent mem at left g)
list_sub own mem at left f g more = if_sub (at == 0) _ _ _ _ (more left) (strings_sub (suc most_strings) own mem at left f g more)

exec_sub : (own : ℕ → Bool) (mem : Bytes) (path args env : ℕ) → Sub (exec_sent (only own mem) path args env) (exec_sent mem path args env)
exec_sub own mem path args env =
    followed_sub _ _ _ _ (path_sub most_path own mem path) (λ bytes.
    if_sub (has_zero bytes) _ _ _ _ (list_sub own mem args most_strings _ _ (λ left. list_sub own mem env left _ _ (λ left. same_sub (Ok [])))) (same_sub (Ok [])))

-- ---- a call

writev_sub : (own : ℕ → Bool) (mem : Bytes) (at count : ℕ) → Sub (writev_sent (only own mem) at count) (writev_sent mem at count)
writev_sub own mem at count =
    if_sub (nat_lt most_pieces count) _ _ _ _ (same_sub (Ok []))
    (followed_sub _ _ _ _ (spans_sub own mem (piece_spans at count)) (λ pieces. spans_sub own mem (data_spans count pieces)))

pub sent_sub : (own : ℕ → Bool) (mem : Bytes) (number : ℕ) (args : List ℕ) → Sub (sent number args (only own mem)) (sent number args mem)
unfolding sent
sent_sub own mem number args =
    if_sub (number == 64) _ _ _ _ (span_sub own mem (record { addr = slice_index args 1; len = min (slice_index args 2) most_moved }))
    (if_sub (number == 66) _ _ _ _ (writev_sub own mem (slice_index args 1) (slice_index args 2))
    (if_sub (number == 65) _ _ _ _ (if_sub (nat_lt most_pieces (slice_index args 2)) _ _ _ _ (same_sub (Ok [])) (spans_sub own mem (piece_spans (slice_index args 1) (slice_index args 2))))
    (if_sub (has_path number) _ _ _ _ (path_sub most_path own mem (slice_index args 1))
    (if_sub (number == 221) _ _ _ _ (exec_sub own mem (slice_index args 0) (slice_index args 1) (slice_index args 2)) (same_sub (Ok []))))))

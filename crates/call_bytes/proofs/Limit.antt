-- The strings of an execve are too long exactly where they count more than the most bytes.
use Rattle.std.proofs.Common.{◌≡◌, ◌≢◌, ℕ, zero, suc, ◌+◌, ◌-◌, ◌%◌, ◌^◌, ◌<◌, ◌≤◌, inl, inr, true, List, [], ◌∷◌, ◌++◌, length, drop, refl, sym, ap, ◌∙◌, arith, append_assoc, length-append}
use Rattle.std.specs.Prelude.{Some, None, Result, Ok, Err, nat_le, ◌==◌, not, if◌then◌else◌}
use Rattle.std.proofs.Math.Seq.{drop-append_seam}
use Rattle.std.proofs.lemmas.Bool.{cases_lt, le-leb, lt-leb, le-ltb, lt-ltb}
use Rattle.std.proofs.lemmas.List.{append-nil, drop_all}
use Rattle.std.proofs.lemmas.List.Sums.{take_while-cons, sum_by-cons}
use Rattle.byte_words.specs.ByteMap.{Bytes}
use Rattle.byte_words.specs.Numbers.{low_first, number_at}
use Rattle.vfork_exec.proofs.Keyed.{eqb_other, decide}
use Rattle.call_log.specs.Sent.{Span, read_span, followed, string_from, strings_from, list_sent, strings_sent, up_to_zero, path_from, path_sent, has_zero}
use Rattle.call_log.specs.Strings.{before_zero, behind_zero, string_more, strings_in, strings_of, program_strings, env_behind}
use Rattle.call_bytes.specs.Reading.{appended}
use Rattle.call_bytes.specs.Lists.{StringAt, WordAt, PointersAt, ListAt, counted, ReadsUpToMost}
use Rattle.call_bytes.proofs.ReadRanges.{appended_all, followed_is, read_length}
use Rattle.call_bytes.proofs.ReadStrings.{byte_in, byte_span, word_in, word_span, behind_byte, string_next, behind_pointer, list_next, list_none, exec_strings}
use Rattle.call_bytes.proofs.StringLists.{short, cut, next}

-- ---- a string is read

byte_read : (m : Bytes) (at b : ℕ) → m (at % 2 ^ 32) ≡ Some b → read_span m (byte_span at) ≡ Ok (b ∷ [])
unfolding read_span
byte_read m at b here = rw (le-leb (at % 2 ^ 32 + 1) (2 ^ 32) (omega arith), here) refl

string_steps : (n : ℕ) (m : Bytes) (at now b : ℕ) (more : ℕ → Result (List ℕ) Span) → m (at % 2 ^ 32) ≡ Some b
    → string_from (suc n) m at now more ≡ appended (b ∷ []) (behind_byte n m (at + 1) now more b)
string_steps n m at now b more here =
    let rest : List ℕ → Result (List ℕ) Span = λ bytes. behind_byte n m (at + 1) now more (byte_in bytes) in
    string_next n m at now more ∙ ap (λ (x : Result (List ℕ) Span). followed x rest) (byte_read m at b here) ∙ followed_is (b ∷ []) rest

-- whole, with its zero
string_reads : (n : ℕ) (m : Bytes) (at left : ℕ) (s : List ℕ) (more : ℕ → Result (List ℕ) Span) → StringAt m at s → length s < n → length s < left
    → string_from n m at left more ≡ appended (s ++ 0 ∷ []) (more (left - (length s + 1)))
string_reads zero m at left s more here fuel fits = absurd (omega (arith, fuel))
string_reads (suc n) m at left [] more here fuel fits =
    let some : left ≢ 0 = omega (arith, fits) in
    let rest : behind_byte n m (at + 1) left more 0 ≡ more (left - 1) = rw (eqb_other left 0 some) refl in
    string_steps n m at left 0 more here ∙ ap (appended (0 ∷ [])) rest
string_reads (suc n) m at left (b ∷ s) more here fuel fits =
    let some : left ≢ 0 = omega (arith, fits) in
    let rest : behind_byte n m (at + 1) left more b ≡ appended (s ++ 0 ∷ []) (more (left - 1 - (length s + 1))) =
    rw (eqb_other left 0 some, eqb_other b 0 here.1) (string_reads n m (at + 1) (left - 1) s more here.2 (omega (arith, fuel)) (omega (arith, fits))) in
    let less : left - 1 - (length s + 1) ≡ left - (length (b ∷ s) + 1) = omega arith in
    string_steps n m at left b more here.0
    ∙ ap (appended (b ∷ [])) rest
    ∙ appended_all (b ∷ []) (s ++ 0 ∷ []) (more (left - 1 - (length s + 1)))
    ∙ ap (λ (k : ℕ). appended (b ∷ (s ++ 0 ∷ [])) (more k)) less

-- ---- what stands before the first zero, and behind it

before_more : (b : ℕ) (bytes : List ℕ) → b ≢ 0 → before_zero (b ∷ bytes) ≡ b ∷ before_zero bytes
before_more b bytes other = take_while-cons (λ n. not (n == 0)) b bytes ∙ rw (eqb_other b 0 other) refl

behind_more : (b : ℕ) (bytes : List ℕ) → b ≢ 0 → behind_zero (b ∷ bytes) ≡ behind_zero bytes
behind_more b bytes other =
    let count : length (b ∷ before_zero bytes) + 1 ≡ suc (length (before_zero bytes) + 1) = omega arith in
    ap (λ (x : List ℕ). drop (length x + 1) (b ∷ bytes)) (before_more b bytes other) ∙ ap (λ (k : ℕ). drop k (b ∷ bytes)) count

behind_one : (b : ℕ) → behind_zero (b ∷ []) ≡ []
behind_one b = drop_all (length (before_zero (b ∷ [])) + 1) (b ∷ []) (omega arith)

module _ (m : Bytes) (rest : List ℕ) where
  string_before : (at : ℕ) (s : List ℕ) → StringAt m at s → before_zero ((s ++ 0 ∷ []) ++ rest) ≡ s
  string_before at [] here = take_while-cons (λ n. not (n == 0)) 0 rest
  string_before at (b ∷ s) here = before_more b ((s ++ 0 ∷ []) ++ rest) here.1 ∙ ap (λ (x : List ℕ). b ∷ x) (string_before (at + 1) s here.2)

  string_behind : (at : ℕ) (s : List ℕ) → StringAt m at s → behind_zero ((s ++ 0 ∷ []) ++ rest) ≡ rest
  string_behind at [] here = ap (λ (x : List ℕ). drop (length x + 1) (0 ∷ rest)) (take_while-cons (λ n. not (n == 0)) 0 rest)
  string_behind at (b ∷ s) here = behind_more b ((s ++ 0 ∷ []) ++ rest) here.1 ∙ string_behind (at + 1) s here.2

  string_zero : (at : ℕ) (s : List ℕ) → StringAt m at s → has_zero ((s ++ 0 ∷ []) ++ rest) ≡ true
  string_zero at [] here = refl
  string_zero at (b ∷ s) here = rw (eqb_other b 0 here.1) (string_zero (at + 1) s here.2)

-- ---- a string passes the most bytes: nothing is left behind its first zero

abbrev StringCut : ℕ → Bytes → (at left : ℕ) → Type 0
StringCut n m at left = (bytes : List ℕ) × ((more : ℕ → Result (List ℕ) Span) → string_from n m at left more ≡ Ok bytes) × (behind_zero bytes ≡ [])

string_passes : (n : ℕ) (m : Bytes) (at left : ℕ) (s : List ℕ) → StringAt m at s → left < n → left ≤ length s → StringCut n m at left
string_passes zero m at left s here fuel over = absurd (omega (arith, fuel))
string_passes (suc n) m at zero [] here fuel over = (0 ∷ [], λ more. string_steps n m at 0 0 more here, behind_one 0)
string_passes (suc n) m at zero (b ∷ s) here fuel over = (b ∷ [], λ more. string_steps n m at 0 b more here.0, behind_one b)
string_passes (suc n) m at (suc left) [] here fuel over = absurd (omega (arith, over))
string_passes (suc n) m at (suc left) (b ∷ s) here fuel over =
    let rest = string_passes n m (at + 1) left s here.2 (omega (arith, fuel)) (omega (arith, over)) in
    (b ∷ rest.0, λ more. string_steps n m at (suc left) b more here.0 ∙ ap (appended (b ∷ [])) (byte_on more (rest.1 more)), behind_more b rest.0 here.1 ∙ rest.2)
  where
    byte_on : {bytes : List ℕ} (more : ℕ → Result (List ℕ) Span) → string_from n m (at + 1) left more ≡ Ok bytes → behind_byte n m (at + 1) (suc left) more b ≡ Ok bytes
    byte_on more is =
        let less : suc left - 1 ≡ left = omega arith in
        let some : suc left ≢ 0 = omega arith in
        rw (eqb_other (suc left) 0 some, eqb_other b 0 here.1) (ap (λ (k : ℕ). string_from n m (at + 1) k more) less ∙ is)

-- ---- a list is parsed

word_len : (m : Bytes) (at word : ℕ) (w : WordAt m at word) → length w.0 ≡ 4
word_len m at word w = read_length m (word_span at) w.0 w.1

number_front : (word rest : List ℕ) → length word ≡ 4 → number_at low_first 4 (word ++ rest) 0 ≡ number_at low_first 4 word 0
unfolding number_at
number_front [] rest four = absurd (omega (arith, four))
number_front (a ∷ []) rest four = absurd (omega (arith, four))
number_front (a ∷ b ∷ []) rest four = absurd (omega (arith, four))
number_front (a ∷ b ∷ c ∷ []) rest four = absurd (omega (arith, four))
number_front (a ∷ b ∷ c ∷ d ∷ []) rest four = refl
number_front (a ∷ b ∷ c ∷ d ∷ e ∷ word) rest four = absurd (omega (arith, four))

module _ (m : Bytes) (at pointer : ℕ) (w : WordAt m at pointer) (rest : List ℕ) where
  enough : 4 ≤ length (w.0 ++ rest)
  enough = omega (arith, length-append w.0 rest, word_len m at pointer w)

  rest_is : drop 4 (w.0 ++ rest) ≡ rest
  rest_is = ap (λ (k : ℕ). drop k (w.0 ++ rest)) (sym (word_len m at pointer w)) ∙ drop-append_seam w.0 rest

  number_is : number_at low_first 4 (w.0 ++ rest) 0 ≡ pointer
  number_is = number_front w.0 rest (word_len m at pointer w) ∙ w.2

  -- the pointer that is zero
  list_last : (k : ℕ) → pointer ≡ 0 → 0 < k → strings_in k (w.0 ++ rest) ≡ Some (record { strings = []; behind = rest })
  unfolding strings_in
  list_last zero none some = absurd (omega (arith, some))
  list_last (suc k) none some = rw (le-ltb (length (w.0 ++ rest)) 4 enough, number_is ∙ none, rest_is) refl

  -- another one, and nothing behind the first zero, if there is one
  list_cut : (k : ℕ) → pointer ≢ 0 → behind_zero rest ≡ [] → strings_in k (w.0 ++ rest) ≡ None
  unfolding strings_in
  list_cut zero other ends = refl
  list_cut (suc k) other ends = elim (decide (has_zero rest)) [
    | inl some ↦
        next k (w.0 ++ rest) enough (λ e. other (sym number_is ∙ e)) (ap has_zero rest_is ∙ some)
        ∙ ap (λ (x : List ℕ). string_more (before_zero (drop 4 (w.0 ++ rest))) (strings_in k x)) (ap behind_zero rest_is ∙ ends)
        ∙ ap (string_more (before_zero (drop 4 (w.0 ++ rest)))) (short k [] (omega arith))
    | inr none ↦ cut (suc k) (w.0 ++ rest) enough (λ e. other (sym number_is ∙ e)) (ap has_zero rest_is ∙ none)
  ]

module _ (m : Bytes) (at pointer : ℕ) (w : WordAt m at pointer) (place : ℕ) (s : List ℕ) (string : StringAt m place s) (other : pointer ≢ 0) (rest : List ℕ) where
  -- a pointer with its string
  list_more : (k : ℕ) → strings_in (suc k) (w.0 ++ ((s ++ 0 ∷ []) ++ rest)) ≡ string_more s (strings_in k rest)
  list_more k =
      let behind : List ℕ = (s ++ 0 ∷ []) ++ rest in
      let is : drop 4 (w.0 ++ behind) ≡ behind = rest_is m at pointer w behind in
      next k (w.0 ++ behind) (enough m at pointer w behind) (λ e. other (sym (number_is m at pointer w behind) ∙ e)) (ap has_zero is ∙ string_zero m rest place s string)
      ∙ ap (λ (x : List ℕ). string_more (before_zero x) (strings_in k (behind_zero x))) is
      ∙ ap (λ (x : List ℕ). string_more x (strings_in k (behind_zero behind))) (string_before m rest place s string)
      ∙ ap (λ (x : List ℕ). string_more s (strings_in k x)) (string_behind m rest place s string)

  list_none_more : (k : ℕ) → ((i : ℕ) → strings_in i rest ≡ None) → strings_in k (w.0 ++ ((s ++ 0 ∷ []) ++ rest)) ≡ None
  unfolding strings_in
  list_none_more zero none = refl
  list_none_more (suc k) none = list_more k ∙ ap (string_more s) (none k)

-- ---- a list is read

count_more : (s : List ℕ) (ss : List (List ℕ)) → counted (s ∷ ss) ≡ 4 + (length s + 1) + counted ss
count_more s ss = sum_by-cons (λ (s : List ℕ). 4 + (length s + 1)) s ss

list_steps : (n : ℕ) (m : Bytes) (at now pointer : ℕ) (more : ℕ → Result (List ℕ) Span) (w : WordAt m at pointer)
    → strings_from (suc n) m at now more ≡ appended w.0 (behind_pointer n m (at + 4) now more pointer)
list_steps n m at now pointer more w =
    let rest : List ℕ → Result (List ℕ) Span = λ bytes. behind_pointer n m (at + 4) now more (word_in bytes) in
    list_next n m at now more
    ∙ ap (λ (x : Result (List ℕ) Span). followed x rest) w.1
    ∙ followed_is w.0 rest
    ∙ ap (λ (k : ℕ). appended w.0 (behind_pointer n m (at + 4) now more k)) w.2

-- whole
record IsRead (n : ℕ) (m : Bytes) (at left : ℕ) (ss : List (List ℕ)) : Type 0 where
  bytes : List ℕ
  read : (more : ℕ → Result (List ℕ) Span) → strings_from n m at left more ≡ appended bytes (more (left - counted ss))
  parsed : (k : ℕ) (rest : List ℕ) → length ss < k → strings_in k (bytes ++ rest) ≡ Some (record { strings = ss; behind = rest })
  long : length ss < length bytes

-- or up to the byte that passes the most
record IsCut (n : ℕ) (m : Bytes) (at left : ℕ) : Type 0 where
  bytes : List ℕ
  read : (more : ℕ → Result (List ℕ) Span) → strings_from n m at left more ≡ Ok bytes
  parsed : (k : ℕ) → strings_in k bytes ≡ None

-- a string of the list, and what is read behind it
string_in : (n : ℕ) (m : Bytes) (at left pointer : ℕ) (s back : List ℕ) (more : ℕ → Result (List ℕ) Span) (all : Result (List ℕ) Span) → StringAt m pointer s → pointer ≢ 0
    → left ≤ 1048576 → 4 + length s < left → strings_from n m at (left - 4 - (length s + 1)) more ≡ appended back all
    → behind_pointer n m at left more pointer ≡ appended ((s ++ 0 ∷ []) ++ back) all
string_in n m at left pointer s back more all string other most fits is =
    rw (eqb_other pointer 0 other, le-ltb left 4 (omega (arith, fits)))
    (string_reads 1048577 m pointer (left - 4) s (λ l. strings_from n m at l more) string (omega (arith, most, fits)) (omega (arith, fits))
    ∙ ap (appended (s ++ 0 ∷ [])) is
    ∙ appended_all (s ++ 0 ∷ []) back all)

list_reads : (n : ℕ) (m : Bytes) (at left : ℕ) (ss : List (List ℕ)) → PointersAt m at ss → length ss < n → counted ss ≤ left → left ≤ 1048576 → IsRead n m at left ss
list_reads zero m at left ss here fuel fits most = absurd (omega (arith, fuel))
list_reads (suc n) m at left [] here fuel fits most =
    let same : left ≡ left - counted [] = omega arith in
    record {
      bytes = here.0;
      read = λ more. list_steps n m at left 0 more here ∙ ap (λ (k : ℕ). appended here.0 (more k)) same;
      parsed = λ k rest below. list_last m at 0 here rest k refl (omega (arith, below));
      long = omega (arith, word_len m at 0 here);
    }
list_reads (suc n) m at left (s ∷ ss) here fuel fits most =
    let count = count_more s ss in
    let less : ℕ = left - 4 - (length s + 1) in
    let back = list_reads n m (at + 4) less ss here.4 (omega (arith, fuel)) (omega (arith, fits, count)) (omega (arith, most)) in
    let word : List ℕ = here.1.0 in
    let rest : less - counted ss ≡ left - counted (s ∷ ss) = omega (arith, count) in
    record {
      bytes = word ++ ((s ++ 0 ∷ []) ++ back.bytes);
      read = λ more.
          list_steps n m at left here.0 more here.1
          ∙ ap (appended word) (string_in n m (at + 4) left here.0 s back.bytes more (more (less - counted ss)) here.3 here.2 most (omega (arith, fits, count)) (back.read more))
          ∙ appended_all word ((s ++ 0 ∷ []) ++ back.bytes) (more (less - counted ss))
          ∙ ap (λ (k : ℕ). appended (word ++ ((s ++ 0 ∷ []) ++ back.bytes)) (more k)) rest;
      parsed = λ k rest below. parsed k back.bytes rest below (back.parsed (k - 1) rest (omega (arith, below)));
      long = omega (arith, length-append word ((s ++ 0 ∷ []) ++ back.bytes), length-append (s ++ 0 ∷ []) back.bytes, back.long, word_len m at here.0 here.1);
    }
  where
    parsed : (k : ℕ) (back rest : List ℕ) → length (s ∷ ss) < k → strings_in (k - 1) (back ++ rest) ≡ Some (record { strings = ss; behind = rest })
        → strings_in k ((here.1.0 ++ ((s ++ 0 ∷ []) ++ back)) ++ rest) ≡ Some (record { strings = s ∷ ss; behind = rest })
    parsed k back rest below is =
        let one : k ≡ suc (k - 1) = omega (arith, below) in
        ap (strings_in k) (append_assoc here.1.0 ((s ++ 0 ∷ []) ++ back) rest ∙ ap (λ (x : List ℕ). here.1.0 ++ x) (append_assoc (s ++ 0 ∷ []) back rest))
        ∙ ap (λ (i : ℕ). strings_in i (here.1.0 ++ ((s ++ 0 ∷ []) ++ (back ++ rest)))) one
        ∙ list_more m at here.0 here.1 here.0 s here.3 here.2 (back ++ rest) (k - 1)
        ∙ ap (string_more s) is

list_passes : (n : ℕ) (m : Bytes) (at left : ℕ) (ss : List (List ℕ)) → PointersAt m at ss → left < counted ss → left ≤ 1048576 → IsCut n m at left
list_passes zero m at left ss here over most = record { bytes = []; read = λ more. list_none m at left more; parsed = λ k. short k [] (omega arith) }
list_passes (suc n) m at left [] here over most = absurd (omega (arith, over))
list_passes (suc n) m at left (s ∷ ss) here over most = elim (cases_lt left 4) [
  | inl few ↦ record {
    bytes = here.1.0 ++ [];
    read = λ more. list_steps n m at left here.0 more here.1 ∙ ap (appended here.1.0) (word_passes few more);
    parsed = λ k. list_cut m at here.0 here.1 [] k here.2 refl;
  }
  | inr four ↦ elim (cases_lt (length s) (left - 4)) [
    | inl whole ↦
        let back = list_passes n m (at + 4) (left - 4 - (length s + 1)) ss here.4 (omega (arith, over, four, whole, count_more s ss)) (omega (arith, most)) in
        record {
          bytes = here.1.0 ++ ((s ++ 0 ∷ []) ++ back.bytes);
          read = λ more. list_steps n m at left here.0 more here.1 ∙ ap (appended here.1.0) (string_on back.bytes more whole (back.read more));
          parsed = λ k. list_none_more m at here.0 here.1 here.0 s here.3 here.2 back.bytes k back.parsed;
        }
    | inr long ↦
        let back = string_passes 1048577 m here.0 (left - 4) s here.3 (omega (arith, most)) long in
        record {
          bytes = here.1.0 ++ back.0;
          read = λ more. list_steps n m at left here.0 more here.1 ∙ ap (appended here.1.0) (string_over four more (back.1 (λ l. strings_from n m (at + 4) l more)));
          parsed = λ k. list_cut m at here.0 here.1 back.0 k here.2 back.2;
        }
  ]
]
  where
    word_passes : left < 4 → (more : ℕ → Result (List ℕ) Span) → behind_pointer n m (at + 4) left more here.0 ≡ Ok []
    word_passes few more = rw (eqb_other here.0 0 here.2, lt-ltb left 4 few) refl

    string_on : (back : List ℕ) (more : ℕ → Result (List ℕ) Span) → length s < left - 4 → strings_from n m (at + 4) (left - 4 - (length s + 1)) more ≡ Ok back
        → behind_pointer n m (at + 4) left more here.0 ≡ Ok ((s ++ 0 ∷ []) ++ back)
    string_on back more whole is =
        let end : List ℕ → Result (List ℕ) Span = λ x. Ok x in
        string_in n m (at + 4) left here.0 s back more (Ok []) here.3 here.2 most (omega (arith, whole)) (is ∙ ap end (sym (append-nil back)))
        ∙ ap end (append-nil ((s ++ 0 ∷ []) ++ back))

    string_over : {bytes : List ℕ} → 4 ≤ left → (more : ℕ → Result (List ℕ) Span) → string_from 1048577 m here.0 (left - 4) (λ l. strings_from n m (at + 4) l more) ≡ Ok bytes
        → behind_pointer n m (at + 4) left more here.0 ≡ Ok bytes
    string_over four more is = rw (eqb_other here.0 0 here.2, le-ltb left 4 four) is

-- ---- a list that may stand at 0

record IsSent (m : Bytes) (at left : ℕ) (ss : List (List ℕ)) : Type 0 where
  bytes : List ℕ
  read : (more : ℕ → Result (List ℕ) Span) → list_sent m at left more ≡ appended bytes (more (left - counted ss))
  parsed : (rest : List ℕ) → strings_of at (bytes ++ rest) ≡ Some (record { strings = ss; behind = rest })

record IsTooLong (m : Bytes) (at left : ℕ) : Type 0 where
  bytes : List ℕ
  read : (more : ℕ → Result (List ℕ) Span) → list_sent m at left more ≡ Ok bytes
  parsed : strings_of at bytes ≡ None

at_least : (ss : List (List ℕ)) → length ss ≤ counted ss
at_least [] = omega arith
at_least (s ∷ ss) = let rest = at_least ss in omega (arith, count_more s ss)

in_front : (found : Result (List ℕ) Span) → found ≡ appended [] found
in_front (Ok bytes) = refl
in_front (Err span) = refl

list_is_sent : (m : Bytes) (at left : ℕ) (ss : List (List ℕ)) → ListAt m at ss → counted ss ≤ left → left ≤ 1048576 → IsSent m at left ss
list_is_sent m at left ss (inl none) fits most = rw (none.0, none.1) (
    let same : left ≡ left - counted [] = omega arith in
    record {
      bytes = [];
      read = λ more. in_front (more left) ∙ ap (λ (k : ℕ). appended [] (more k)) same;
      parsed = λ rest. refl;
    })
list_is_sent m at left ss (inr there) fits most =
    let list = list_reads 1048577 m at left ss there.1 (omega (arith, at_least ss, fits, most)) fits most in
    record {
      bytes = list.bytes;
      read = λ more. rw (eqb_other at 0 there.0) (list.read more);
      parsed = λ rest. rw (eqb_other at 0 there.0) (list.parsed (length (list.bytes ++ rest)) rest (omega (arith, length-append list.bytes rest, list.long)));
    }

list_is_too_long : (m : Bytes) (at left : ℕ) (ss : List (List ℕ)) → ListAt m at ss → left < counted ss → left ≤ 1048576 → IsTooLong m at left
list_is_too_long m at left ss (inl none) over most = absurd (let all = rw none.1 at over in omega (arith, all))
list_is_too_long m at left ss (inr there) over most =
    let list = list_passes 1048577 m at left ss there.1 over most in
    record {
      bytes = list.bytes;
      read = λ more. rw (eqb_other at 0 there.0) (list.read more);
      parsed = rw (eqb_other at 0 there.0) (list.parsed (length list.bytes));
    }

-- ---- both lists

module _ (m : Bytes) (args env : ℕ) (arg_list env_list : List (List ℕ)) where
  abbrev Sends : List ℕ → Type 0
  Sends sent =
      (strings_sent m args env ≡ Ok sent)
      × (env_behind env (strings_of args sent)
      ≡ (if nat_le (counted arg_list + counted env_list) 1048576 then Some (record { args = arg_list; env = env_list }) else None))

  both : ListAt m args arg_list → ListAt m env env_list → (sent : List ℕ) × Sends sent
  both first second = elim (cases_lt 1048576 (counted arg_list)) [
    | inl over ↦
        let list = list_is_too_long m args 1048576 arg_list first over (omega arith) in
        (list.bytes, (list.read (λ left. list_sent m env left (λ left. Ok [])), rw (list.parsed, lt-leb (counted arg_list + counted env_list) 1048576 (omega (arith, over))) refl))
    | inr fits ↦
        let list = list_is_sent m args 1048576 arg_list first fits (omega arith) in
        let left : ℕ = 1048576 - counted arg_list in
        elim (cases_lt left (counted env_list)) [
          | inl over ↦
              let more = list_is_too_long m env left env_list second over (omega arith) in (
                list.bytes ++ more.bytes,
                (
                  list.read (λ left. list_sent m env left (λ left. Ok [])) ∙ ap (appended list.bytes) (more.read (λ left. Ok [])),
                  rw (list.parsed more.bytes, more.parsed, lt-leb (counted arg_list + counted env_list) 1048576 (omega (arith, over))) refl,
                ),
              )
          | inr fit ↦
              let more = list_is_sent m env left env_list second fit (omega arith) in (
                list.bytes ++ (more.bytes ++ []),
                (
                  list.read (λ left. list_sent m env left (λ left. Ok [])) ∙ ap (appended list.bytes) (more.read (λ left. Ok [])),
                  rw (list.parsed (more.bytes ++ []), more.parsed [], le-leb (counted arg_list + counted env_list) 1048576 (omega (arith, fit, fits))) refl,
                ),
              )
        ]
  ]

-- ---- the path in front of them

path_reads : (n : ℕ) (m : Bytes) (at : ℕ) (name : List ℕ) → StringAt m at name → length name < n → path_from n m at ≡ Ok (name ++ 0 ∷ [])
path_reads zero m at name here fuel = absurd (omega (arith, fuel))
path_reads (suc n) m at [] here fuel =
    let rest : List ℕ → Result (List ℕ) Span = up_to_zero (path_from n m (at + 1)) in
    ap (λ (x : Result (List ℕ) Span). followed x rest) (byte_read m at 0 here)
path_reads (suc n) m at (b ∷ name) here fuel =
    let rest : List ℕ → Result (List ℕ) Span = up_to_zero (path_from n m (at + 1)) in
    ap (λ (x : Result (List ℕ) Span). followed x rest) (byte_read m at b here.0)
    ∙ followed_is (b ∷ []) rest
    ∙ ap (appended (b ∷ [])) (goes_on b here.1 ∙ path_reads n m (at + 1) name here.2 (omega (arith, fuel)))
  where
    goes_on : (c : ℕ) → c ≢ 0 → up_to_zero (path_from n m (at + 1)) (c ∷ []) ≡ path_from n m (at + 1)
    goes_on zero other = absurd (other refl)
    goes_on (suc c) other = refl

pub reads_up_to_most : ReadsUpToMost
unfolding program_strings
reads_up_to_most m path args env name arg_list env_list here short first second =
    let front : List ℕ = name ++ 0 ∷ [] in
    let sent = both m args env arg_list env_list first second in
    let read : path_sent m path ≡ Ok front = path_reads 4096 m path name here short in
    let whole : has_zero front ≡ true = ap has_zero (sym (append-nil front)) ∙ string_zero m [] path name here in (
      front ++ sent.0,
      exec_strings m path args env front read whole ∙ ap (appended front) sent.1.0,
      ap (λ (x : List ℕ). env_behind env (strings_of args x)) (string_behind m sent.0 path name here) ∙ sent.1.1,
    )

-- The strings of a list, parsed from the front.
use Rattle.std.proofs.Common.{◌≡◌, ◌≢◌, ℕ, zero, suc, ◌+◌, ◌-◌, ◌<◌, ◌≤◌, true, false, List, [], ◌∷◌, ◌++◌, length, get_or, take, drop, refl, sym, ap, ◌∙◌, arith, append_assoc, length-drop}
use Rattle.std.specs.Prelude.{Option, Some, None, Vec, Bool, ◌||◌, not, cond, ◌==◌}
use Rattle.std.proofs.lemmas.Bool.{le-ltb, lt-ltb}
use Rattle.std.proofs.lemmas.List.{length-take, append-nil, drop_all, map-append}
use Rattle.std.proofs.lemmas.List.Sums.{position_or_len_is, take_while-cons}
use Rattle.byte_words.specs.Numbers.{low_first, number_at}
use Rattle.vfork_exec.proofs.Keyed.{eqb_other}
use Rattle.call_log.specs.Sent.{has_zero}
use Rattle.call_log.specs.Strings.{Strings, before_zero, behind_zero, string_more, strings_in, strings_of, program_strings}
use Rattle.flat_loader.specs.Frame.{texts}

-- ---- the first zero

pub no_zero : (bytes : List ℕ) → ((k : ℕ) → k < length bytes → get_or bytes k 0 ≢ 0) → has_zero bytes ≡ false
no_zero [] none = refl
no_zero (b ∷ bytes) none =
    let first : b ≢ 0 = none 0 (omega arith) in
    rw (eqb_other b 0 first) (no_zero bytes (λ k less. none (suc k) (omega arith)))

or_true : (b : Bool) → (b || true) ≡ true
or_true true = refl
or_true false = refl

zero_at : (bytes : List ℕ) (i : ℕ) → i < length bytes → get_or bytes i 0 ≡ 0 → has_zero bytes ≡ true
zero_at [] i less is = absurd (omega arith)
zero_at (b ∷ bytes) zero less is = rw is refl
zero_at (b ∷ bytes) (suc i) less is = rw (zero_at bytes i (omega arith) is) (or_true (b == 0))

-- what stands before it, and behind it
pub first_zero : (bytes : List ℕ) (i : ℕ) → i < length bytes → ((k : ℕ) → k < i → get_or bytes k 0 ≢ 0) → get_or bytes i 0 ≡ 0 →
    (has_zero bytes ≡ true) × (take i bytes ≡ before_zero bytes) × (drop (i + 1) bytes ≡ behind_zero bytes)
first_zero bytes i less before is =
    let place = position_or_len_is (λ b. b == 0) bytes i 0 (omega arith) (λ k below. eqb_other (get_or bytes k 0) 0 (before k below)) (λ below. rw is refl) in
    let front : take i bytes ≡ before_zero bytes = ap (λ (n : ℕ). take n bytes) (sym place) in
    let count : length (take i bytes) ≡ i = simp length-take (omega arith) in
    (zero_at bytes i less is, front, ap (λ (n : ℕ). drop (n + 1) bytes) (sym count) ∙ ap (λ (bs : List ℕ). drop (length bs + 1) bytes) front)

-- nothing stands behind it where it isn't there
all_before : (bytes : List ℕ) → has_zero bytes ≡ false → length (before_zero bytes) ≡ length bytes
all_before [] none = refl
all_before (b ∷ bytes) none = ap (length {A = ℕ}) (take_while-cons (λ n. not (n == 0)) b bytes) ∙ one_more (b == 0) (all_before bytes) none
  where
    one_more : (z : Bool) → (has_zero bytes ≡ false → length (before_zero bytes) ≡ length bytes) → (z || has_zero bytes) ≡ false → length (cond (not z) (b ∷ before_zero bytes) []) ≡ suc (length bytes)
    one_more true rest e = absurd (cc)
    one_more false rest e = ap suc (rest e)

pub none_behind : (bytes : List ℕ) → has_zero bytes ≡ false → [] ≡ behind_zero bytes
none_behind bytes none = sym (drop_all (length (before_zero bytes) + 1) bytes (omega (arith, all_before bytes none)))

-- ---- a list

-- strings in front of those that are parsed
abbrev pub strings_before : List (List ℕ) → Option Strings → Option Strings
strings_before front None = None
strings_before front (Some s) = Some (record s { strings = front ++ s.strings })

one_before : (front : List (List ℕ)) (string : List ℕ) (found : Option Strings) → strings_before front (string_more string found) ≡ strings_before (front ++ string ∷ []) found
one_before front string None = refl
one_before front string (Some s) =
    let joined : List (List ℕ) → Option Strings = λ x. Some (record s { strings = x }) in
    ap joined (sym (append_assoc front (string ∷ []) s.strings))

-- what was parsed and what is left give the whole, of which no more than `most` strings are left
pub record ListSoFar (bytes rest : List ℕ) (front : List (List ℕ)) : Type 0 where
  pub most : ℕ
  pub enough : length rest ≤ most
  pub whole : strings_before front (strings_in most rest) ≡ strings_in (length bytes) bytes

-- it ends before its zero
pub short : (most : ℕ) (rest : List ℕ) → length rest < 4 → strings_in most rest ≡ None
unfolding strings_in
short zero rest less = refl
short (suc most) rest less = rw (lt-ltb (length rest) 4 less) refl

-- with it
last : (most : ℕ) (rest : List ℕ) → 4 ≤ length rest → length rest ≤ most → number_at low_first 4 rest 0 ≡ 0 → strings_in most rest ≡ Some (record { strings = []; behind = drop 4 rest })
unfolding strings_in
last zero rest four fits is = absurd (omega arith)
last (suc most) rest four fits is = rw (le-ltb (length rest) 4 four, is) refl

-- or in a string
pub cut : (most : ℕ) (rest : List ℕ) → 4 ≤ length rest → number_at low_first 4 rest 0 ≢ 0 → has_zero (drop 4 rest) ≡ false → strings_in most rest ≡ None
unfolding strings_in
cut zero rest four other none = refl
cut (suc most) rest four other none = rw (le-ltb (length rest) 4 four, eqb_other (number_at low_first 4 rest 0) 0 other, none) refl

pub next : (most : ℕ) (rest : List ℕ) → 4 ≤ length rest → number_at low_first 4 rest 0 ≢ 0 → has_zero (drop 4 rest) ≡ true
    → strings_in (suc most) rest ≡ string_more (before_zero (drop 4 rest)) (strings_in most (behind_zero (drop 4 rest)))
unfolding strings_in
next most rest four other some = rw (le-ltb (length rest) 4 four, eqb_other (number_at low_first 4 rest 0) 0 other, some) refl

pub behind_less : (bytes : List ℕ) → length (behind_zero bytes) ≤ length bytes
behind_less bytes = omega (arith, length-drop (length (before_zero bytes) + 1) bytes)

module _ (bytes rest : List ℕ) (front : List (List ℕ)) (before : ListSoFar bytes rest front) where
  pub list_short : length rest < 4 → None ≡ strings_in (length bytes) bytes
  list_short less = ap (strings_before front) (sym (short before.most rest less)) ∙ before.whole

  module _ (four : 4 ≤ length rest) where
    pub list_ends : number_at low_first 4 rest 0 ≡ 0 → Some (record { strings = front; behind = drop 4 rest }) ≡ strings_in (length bytes) bytes
    list_ends is =
        let found : List (List ℕ) → Option Strings = λ x. Some (record { strings = x; behind = drop 4 rest }) in
        ap found (sym (append-nil front)) ∙ ap (strings_before front) (sym (last before.most rest four before.enough is)) ∙ before.whole

    module _ (other : number_at low_first 4 rest 0 ≢ 0) where
      pub list_cut : has_zero (drop 4 rest) ≡ false → None ≡ strings_in (length bytes) bytes
      list_cut none = ap (strings_before front) (sym (cut before.most rest four other none)) ∙ before.whole

      pub list_on : has_zero (drop 4 rest) ≡ true → ListSoFar bytes (behind_zero (drop 4 rest)) (front ++ before_zero (drop 4 rest) ∷ [])
      list_on some = let one : before.most ≡ suc (before.most - 1) = omega (arith, before.enough) in record {
        most = before.most - 1;
        enough = omega (arith, before.enough, behind_less (drop 4 rest), length-drop 4 rest);
        whole =
            sym (one_before front (before_zero (drop 4 rest)) (strings_in (before.most - 1) (behind_zero (drop 4 rest))))
            ∙ ap (strings_before front) (sym (next (before.most - 1) rest four other some))
            ∙ ap (λ (k : ℕ). strings_before front (strings_in k rest)) (sym one)
            ∙ before.whole;
      }

-- one string more
pub texts_push : {Z : Type 0} (front : List (Vec ℕ Z)) (string : Vec ℕ Z) → texts (front ++ string ∷ []) ≡ texts front ++ string.items ∷ []
texts_push {Z = Z} front string = let bytes : Vec ℕ Z → List ℕ = λ v. v.items in map-append bytes front (string ∷ [])

-- ---- both lists

module _ (sent : List ℕ) (args env : ℕ) where
  pub no_args : strings_of args (behind_zero sent) ≡ None → None ≡ program_strings sent args env
  unfolding program_strings
  no_args none = rw none refl

  module _ (first : Strings) (is : strings_of args (behind_zero sent) ≡ Some first) where
    pub no_env : strings_of env first.behind ≡ None → None ≡ program_strings sent args env
    unfolding program_strings
    no_env none = rw (is, none) refl

    pub both : (second : Strings) → strings_of env first.behind ≡ Some second → Some (record { args = first.strings; env = second.strings }) ≡ program_strings sent args env
    unfolding program_strings
    both second more = rw (is, more) refl

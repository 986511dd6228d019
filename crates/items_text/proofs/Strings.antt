-- Bytes up to a byte, and strings behind a front, spelled and read.
use Rattle.std.proofs.Common.{◌≡◌, ◌≢◌, ℕ, ◌+◌, ◌<◌, ◌≤◌, Bool, false, cond, inl, inr, List, [], ◌∷◌, ◌++◌, length, Some, None, refl, sym, ap, ◌∙◌, append_assoc, arith}
use Rattle.std.specs.Prelude.{codes, bytes_eq}
use Rattle.std.proofs.lemmas.Bool.{false_from_ne_true, cases_Bool}
use Rattle.std.proofs.lemmas.List.{length-append}
use Rattle.std.proofs.lemmas.Slice.Eq.{bytes_eq-Decides}
use Rattle.hex.specs.Hex.{encode_lower, encode_with}
use Rattle.call_log.specs.Lines.{joined, sent_text}
use Rattle.items_text.specs.Items.{AreBytes, IsString, is_string}
use Rattle.items_text.specs.Pieces.{behind, cut_at, hex_of, bytes_of, bytes_at, is_lower_digit}
use Rattle.items_text.specs.Reading.{string_at}
use Rattle.items_text.proofs.Cuts.{Lacks, bind_some, bind_is, by_test, behind_found, behind_again, cut_found, cut_again}
use Rattle.items_text.proofs.Hexes.{lower_encode, lower_lacks, hex_again, hex_found}
use Rattle.items_text.proofs.Many.{Consumes}

-- the pieces of a line, and what is behind it
abbrev pub onto : List (List ℕ) → List ℕ → List ℕ
onto [] rest = rest
onto (piece ∷ pieces) rest = piece ++ onto pieces rest

pub joined_onto : (pieces : List (List ℕ)) (rest : List ℕ) → joined pieces ++ rest ≡ onto pieces rest
joined_onto [] rest = refl
joined_onto (piece ∷ pieces) rest = append_assoc piece (joined pieces) rest ∙ ap (λ t. piece ++ t) (joined_onto pieces rest)

-- ---- bytes

-- neither a digit nor `-`
pub record Ends (c : ℕ) : Type 0 where
  pub digit : is_lower_digit c ≡ false
  pub dash : 45 ≢ c

sent_lacks : (c : ℕ) (bytes : List ℕ) → Ends c → AreBytes bytes → Lacks c (sent_text bytes)
sent_lacks c [] ends held = (ends.dash, tt)
sent_lacks c (b ∷ bs) ends held = lower_lacks c (encode_lower (b ∷ bs)) ends.digit (lower_encode (b ∷ bs) held)

abbrev first_of : List ℕ → ℕ
first_of [] = 0
first_of (x ∷ xs) = x

no_dash : (b : ℕ) (bs : List ℕ) → AreBytes (b ∷ bs) → bytes_eq (encode_lower (b ∷ bs)) (codes "-") ≡ false
unfolding encode_with
no_dash b bs held = let lacks = lower_lacks 45 (encode_lower (b ∷ bs)) refl (lower_encode (b ∷ bs) held) in
    false_from_ne_true (bytes_eq (encode_lower (b ∷ bs)) (codes "-")) (λ same. lacks.0 (ap (λ (t : List ℕ). first_of t) ((bytes_eq-Decides (encode_lower (b ∷ bs)) (codes "-")).0 same)))

word_again : (bytes : List ℕ) → AreBytes bytes → bytes_of (sent_text bytes) ≡ Some bytes
unfolding bytes_of
word_again [] held = refl
word_again (b ∷ bs) held = ap (λ (t : Bool). cond t (Some []) (hex_of (encode_lower (b ∷ bs)))) (no_dash b bs held) ∙ hex_again b bs held

spelled_some : (word bytes : List ℕ) → bytes ≢ [] → word ≡ encode_lower bytes → word ≡ sent_text bytes
spelled_some word [] some is = absurd (some refl)
spelled_some word (b ∷ bs) some is = is

word_found : (word bytes : List ℕ) → bytes_of word ≡ Some bytes → AreBytes bytes × (word ≡ sent_text bytes)
unfolding bytes_of
word_found word bytes h = elim (cases_Bool (bytes_eq word (codes "-"))) [
  | inl dash ↦
      let none : Some [] ≡ Some bytes = sym (ap (λ (t : Bool). cond t (Some []) (hex_of word)) dash) ∙ h in
      let empty : [] ≡ bytes = cc in
      rw (← empty) (tt, (bytes_eq-Decides word (codes "-")).0 dash)
  | inr other ↦
      let read : hex_of word ≡ Some bytes = sym (ap (λ (t : Bool). cond t (Some []) (hex_of word)) other) ∙ h in
      let found = hex_found word bytes read in
      (found.held, spelled_some word bytes found.some found.text)
]

pub bytes_again : (c : ℕ) (bytes rest : List ℕ) → Ends c → AreBytes bytes → bytes_at c (sent_text bytes ++ c ∷ rest) ≡ Some (bytes, rest)
unfolding bytes_at
bytes_again c bytes rest ends held =
    bind_is (cut_at c (sent_text bytes ++ c ∷ rest)) _ (sent_text bytes, rest) (cut_again c (sent_text bytes) rest (sent_lacks c bytes ends held))
    ∙ bind_is (bytes_of (sent_text bytes)) _ bytes (word_again bytes held)

pub bytes_found : (c : ℕ) (text bytes rest : List ℕ) → bytes_at c text ≡ Some (bytes, rest) → AreBytes bytes × (text ≡ sent_text bytes ++ c ∷ rest)
unfolding bytes_at
bytes_found c text bytes rest h =
    let cut = bind_some (cut_at c text) _ (bytes, rest) h in
    let read = bind_some (bytes_of cut.0.0) _ (bytes, rest) cut.2 in
    let both : ◌≡◌ {A = List ℕ × List ℕ} (read.0, cut.0.1) (bytes, rest) = cc in
    let found = word_found cut.0.0 read.0 read.1 in
    let whole : text ≡ sent_text read.0 ++ c ∷ cut.0.1 = cut_found c text cut.0.0 cut.0.1 cut.1 ∙ ap (λ w. w ++ c ∷ cut.0.1) found.1 in
    let held : AreBytes bytes = rw (ap (λ (p : List ℕ × List ℕ). p.0) both) at found.0 in
    (held, whole ∙ ap (λ (p : List ℕ × List ℕ). sent_text p.0 ++ c ∷ p.1) both)

-- ---- strings

pub line_end : Ends 10
line_end = record { digit = refl; dash = (λ (e : 45 ≡ 10). omega (arith, e)) }

pub word_end : Ends 32
word_end = record { digit = refl; dash = (λ (e : 45 ≡ 32). omega (arith, e)) }

abbrev pub IsHeldString : List ℕ → Type 0
IsHeldString bytes = AreBytes bytes × IsString bytes

-- `arg HEX` and `env HEX`
abbrev pub string_line : List ℕ → List ℕ → List ℕ
string_line front bytes = joined (front ∷ sent_text bytes ∷ codes "\n" ∷ [])

pub string_again : (front bytes rest : List ℕ) → IsHeldString bytes → string_at front (string_line front bytes ++ rest) ≡ Some (bytes, rest)
unfolding string_at
string_again front bytes rest is =
    ap (string_at front) (joined_onto (front ∷ sent_text bytes ∷ codes "\n" ∷ []) rest)
    ∙ bind_is (behind front (front ++ (sent_text bytes ++ 10 ∷ rest))) _ (sent_text bytes ++ 10 ∷ rest) (behind_again front (sent_text bytes ++ 10 ∷ rest))
    ∙ bind_is (bytes_at 10 (sent_text bytes ++ 10 ∷ rest)) _ (bytes, rest) (bytes_again 10 bytes rest line_end is.0)
    ∙ ap (λ (t : Bool). cond t (Some (bytes, rest)) None) is.1

pub string_found : (front text rest bytes : List ℕ) → string_at front text ≡ Some (bytes, rest) → IsHeldString bytes × (text ≡ string_line front bytes ++ rest)
unfolding string_at
string_found front text rest bytes h =
    let left = bind_some (behind front text) _ (bytes, rest) h in
    let read = bind_some (bytes_at 10 left.0) _ (bytes, rest) left.2 in
    let test = by_test (is_string read.0.0) read.0 (bytes, rest) read.2 in
    let found = bytes_found 10 left.0 read.0.0 read.0.1 read.1 in
    let whole : text ≡ front ++ (sent_text read.0.0 ++ 10 ∷ read.0.1) = behind_found front text left.0 left.1 ∙ ap (λ t. front ++ t) found.1 in
    let spelled : front ++ (sent_text read.0.0 ++ 10 ∷ read.0.1) ≡ string_line front read.0.0 ++ read.0.1 = sym (joined_onto (front ∷ sent_text read.0.0 ∷ codes "\n" ∷ []) read.0.1) in
    let is : IsHeldString read.0.0 = (found.0, test.0) in
    let same : read.0.0 ≡ bytes = ap (λ (p : List ℕ × List ℕ). p.0) test.1 in
    (rw same at is, whole ∙ spelled ∙ ap (λ (p : List ℕ × List ℕ). string_line front p.0 ++ p.1) test.1)

-- ---- what is read leaves less

pub behind_longer : (front text rest : List ℕ) → text ≡ front ++ rest → length rest ≤ length text
behind_longer front text rest is = let long : length text ≡ length front + length rest = ap length is ∙ length-append front rest in omega (arith, long)

pub cut_longer : (c : ℕ) (front text rest : List ℕ) → text ≡ front ++ c ∷ rest → length rest < length text
cut_longer c front text rest is = let long : length text ≡ length front + length (c ∷ rest) = ap length is ∙ length-append front (c ∷ rest) in omega (arith, long)

pub bytes_less : (c : ℕ) → Consumes (bytes_at c)
bytes_less c text rest bytes h = cut_longer c (sent_text bytes) text rest (bytes_found c text bytes rest h).1

pub string_less : (front : List ℕ) → Consumes (string_at front)
unfolding string_at
string_less front text rest bytes h =
    let left = bind_some (behind front text) _ (bytes, rest) h in
    let read = bind_some (bytes_at 10 left.0) _ (bytes, rest) left.2 in
    let test = by_test (is_string read.0.0) read.0 (bytes, rest) read.2 in
    let same : read.0.1 ≡ rest = ap (λ (p : List ℕ × List ℕ). p.1) test.1 in
    let all = behind_longer front text left.0 (behind_found front text left.0 left.1) in
    let less = bytes_less 10 left.0 read.0.1 read.0.0 read.1 in
    let end : length read.0.1 ≡ length rest = ap length same in
    omega (arith, all, less, end)

-- What is read back from a trace line.
use Rattle.std.proofs.Common.{◌≡◌, ℕ, zero, suc, ◌-◌, ◌^◌, ◌<◌, ◌≤◌, inl, inr, Bool, true, false, not, ◌==◌, List, [], ◌∷◌, ◌++◌, length, get_or, drop, replicate, None, Some, refl, ap, sym, ◌∙◌, subst, append_assoc, arith}
use Rattle.std.specs.Prelude.{Option, find, codes, decimal, if◌then◌else◌}
use Rattle.std.specs.Fmt.{digits}
use Rattle.std.specs.Char.{digit_value}
use Rattle.std.specs.Str.Parse.{AllDigits, digits_value}
use Rattle.std.specs.List.{AllByRecursion}
use Rattle.std.proofs.lemmas.Bool.{both_ways, not-true, eq-eqb, eqb-true, and_parts, cases_Bool}
use Rattle.std.proofs.lemmas.Fmt.{decimal_is_IsNumeral, digits_is_IsNumeral, decimal_injective}
use Rattle.std.proofs.lemmas.List.{append_cancel_right}
use Rattle.call_log.specs.declared.errno.Errno.{Errno}
use Rattle.call_log.specs.Errno.{errno_number}
use Rattle.call_log.specs.Notes.{CallEntry}
use Rattle.call_log.specs.Lines.{word_digits}
use Rattle.trace_text.specs.declared.call.Call.{Call}
use Rattle.trace_text.specs.Calls.{call_number, call_name, served, call_of, replies_address}
use Rattle.trace_text.specs.Forms.{forms_of}
use Rattle.trace_text.specs.Errors.{error_name, errors, error_of, is_error, error_or_number, error_text}
use Rattle.trace_text.specs.Lines.{name_or_number, name_text, word_text, arg_texts, separated, reply_text, trace_line}
use Rattle.trace_text.specs.Laws.{HasWords, LinesTell}
use Rattle.trace_text.proofs.Names.{lacks, call_named, call_back, name_lacks, starts_ca, name_starts, error_named, error_back, error_lacks, error_starts}

-- ---- texts that lack a byte

abbrev Lacks : ℕ → List ℕ → Type 0
Lacks c xs = AllByRecursion (λ x. x ≡ c → ⊥) xs

by_test : (c : ℕ) (xs : List ℕ) → lacks c xs ≡ true → Lacks c xs
by_test c [] h = tt
by_test c (x ∷ xs) h = let both = and_parts (not (x == c)) (lacks c xs) h in ((λ (e : x ≡ c). both_ways (x == c) (not-true (x == c) both.0) (eq-eqb x c e)), by_test c xs both.1)

lacks_append : (c : ℕ) (xs ys : List ℕ) → Lacks c xs → Lacks c ys → Lacks c (xs ++ ys)
lacks_append c [] ys front back = back
lacks_append c (x ∷ xs) ys front back = (front.0, lacks_append c xs ys front.1 back)

lacks_replicate : (c k : ℕ) (x : ℕ) → (x ≡ c → ⊥) → Lacks c (replicate k x)
lacks_replicate c zero x other = tt
lacks_replicate c (suc k) x other = (other, lacks_replicate c k x other)

digits_lack : (c radix : ℕ) (ds : List ℕ) → radix ≤ digit_value c → AllDigits radix ds → Lacks c ds
digits_lack c radix [] high all = tt
digits_lack c radix (d ∷ ds) high all = ((λ (e : d ≡ c). let low = subst (λ (x : ℕ). digit_value x < radix) e all.0 in omega (arith, high, low)), digits_lack c radix ds high all.1)

decimal_lacks : (c n : ℕ) → 10 ≤ digit_value c → n < 2 ^ 64 → Lacks c (decimal n)
decimal_lacks c n high fits = digits_lack c 10 (decimal n) high (decimal_is_IsNumeral n fits).0.1

wide : (n : ℕ) → n < 2 ^ 32 → n < 16 ^ 64
wide n fits = omega (arith, fits)

word_lacks : (c n : ℕ) → 16 ≤ digit_value c → (48 ≡ c → ⊥) → n < 2 ^ 32 → Lacks c (word_digits n)
word_lacks c n high other fits =
    let ds = digits 16 false n in
    lacks_append c (replicate (8 - length ds) 48) ds (lacks_replicate c (8 - length ds) 48 other)
    (digits_lack c 16 ds high (digits_is_IsNumeral 16 false (omega arith) (omega arith) n (wide n fits)).0.1)

first_apart : (c : ℕ) (xs : List ℕ) → 0 < c → Lacks c xs → get_or xs 0 0 ≡ c → ⊥
first_apart c [] some lack e = omega (arith, e, some)
first_apart c (x ∷ xs) some lack e = lack.0 e

abbrev head : List ℕ → ℕ
head xs = get_or xs 0 0

-- what stands before the first such byte, and behind it
split_first : (c : ℕ) (xs ys rs ss : List ℕ) → Lacks c xs → Lacks c ys → xs ++ c ∷ rs ≡ ys ++ c ∷ ss → (xs ≡ ys) × (rs ≡ ss)
split_first c [] [] rs ss hx hy e = (refl, ap (drop 1) e)
split_first c [] (y ∷ ys) rs ss hx hy e = absurd (hy.0 (sym (ap head e)))
split_first c (x ∷ xs) [] rs ss hx hy e = absurd (hx.0 (ap head e))
split_first c (x ∷ xs) (y ∷ ys) rs ss hx hy e = let first = ap head e in let rest = split_first c xs ys rs ss hx.1 hy.1 (ap (drop 1) e) in ((λ i. first i ∷ rest.0 i), rest.1)

has_it : (c : ℕ) (vs ys : List ℕ) → Lacks c (vs ++ c ∷ ys) → ⊥
has_it c [] ys lack = lack.0 refl
has_it c (v ∷ vs) ys lack = has_it c vs ys lack.1

-- what stands behind the last such byte
split_last : (c : ℕ) (us vs xs ys : List ℕ) → Lacks c xs → Lacks c ys → us ++ c ∷ xs ≡ vs ++ c ∷ ys → xs ≡ ys
split_last c [] [] xs ys hx hy e = ap (drop 1) e
split_last c [] (v ∷ vs) xs ys hx hy e = let rest : xs ≡ vs ++ c ∷ ys = ap (drop 1) e in absurd (has_it c vs ys (subst (Lacks c) rest hx))
split_last c (u ∷ us) [] xs ys hx hy e = let rest : us ++ c ∷ xs ≡ ys = ap (drop 1) e in absurd (has_it c us xs (subst (Lacks c) (sym rest) hy))
split_last c (u ∷ us) (v ∷ vs) xs ys hx hy e = split_last c us vs xs ys hx hy (ap (drop 1) e)

-- ---- names

found : {X : Type 0} (p : X → Bool) (xs : List X) (x : X) → find p xs ≡ Some x → p x ≡ true
found p [] x e = cc
found p (y ∷ xs) x e = elim (cases_Bool (p y)) [
  | inl passes ↦ let is : Some y ≡ Some x = rw passes at e in let same : y ≡ x = cc in ap p (sym same) ∙ passes
  | inr fails ↦ let is : find p xs ≡ Some x = rw fails at e in found p xs x is
]

call_numbered : (n : ℕ) (call : Call) → call_of n ≡ Some call → call_number call ≡ n
unfolding call_of
call_numbered n call is = eqb-true (call_number call) n (found (λ (call : Call). call_number call == n) served call is)

error_numbered : (n : ℕ) (error : Errno) → error_of n ≡ Some error → errno_number error ≡ n
unfolding error_of
error_numbered n error is = eqb-true (errno_number error) n (found (λ (error : Errno). errno_number error == n) errors error is)

same_calls : (a b : Call) → call_name a ≡ call_name b → a ≡ b
same_calls a b e = let both : Some a ≡ Some b = sym (call_back a) ∙ ap call_named e ∙ call_back b in cc

same_errors : (a b : Errno) → error_name a ≡ error_name b → a ≡ b
same_errors a b e = let both : Some a ≡ Some b = sym (error_back a) ∙ ap error_named e ∙ error_back b in cc

numbers_told : (m n : ℕ) (a b : Option Call) → m < 2 ^ 64 → n < 2 ^ 64 → call_of m ≡ a → call_of n ≡ b → name_or_number a m ≡ name_or_number b n → m ≡ n
numbers_told m n (Some a) (Some b) hm hn is_a is_b e = sym (call_numbered m a is_a) ∙ ap call_number (same_calls a b e) ∙ call_numbered n b is_b
numbers_told m n (Some a) None hm hn is_a is_b e = absurd (both_ways (starts_ca (call_name a)) (name_starts a) (ap starts_ca e))
numbers_told m n None (Some b) hm hn is_a is_b e = absurd (both_ways (starts_ca (call_name b)) (name_starts b) (ap starts_ca (sym e)))
numbers_told m n None None hm hn is_a is_b e = decimal_injective m n hm hn (ap (drop 5) e)

name_lacks_bracket : (n : ℕ) (call : Option Call) → n < 2 ^ 64 → Lacks 40 (name_or_number call n)
name_lacks_bracket n (Some call) fits = by_test 40 (call_name call) (name_lacks call)
name_lacks_bracket n None fits = lacks_append 40 (codes "call_") (decimal n) (by_test 40 (codes "call_") refl) (decimal_lacks 40 n (omega arith) fits)

-- ---- replies

errors_told : (m n : ℕ) (a b : Option Errno) → m < 2 ^ 64 → n < 2 ^ 64 → error_of m ≡ a → error_of n ≡ b → error_or_number a m ≡ error_or_number b n → m ≡ n
errors_told m n (Some a) (Some b) hm hn is_a is_b e = sym (error_numbered m a is_a) ∙ ap errno_number (same_errors a b e) ∙ error_numbered n b is_b
errors_told m n (Some a) None hm hn is_a is_b e = absurd (first_apart 69 (decimal n) (omega arith) (decimal_lacks 69 n (omega arith) hn) (sym (ap head e) ∙ error_starts a))
errors_told m n None (Some b) hm hn is_a is_b e = absurd (first_apart 69 (decimal m) (omega arith) (decimal_lacks 69 m (omega arith) hm) (ap head e ∙ error_starts b))
errors_told m n None None hm hn is_a is_b e = decimal_injective m n hm hn e

error_lacks_space : (n : ℕ) (error : Option Errno) → n < 2 ^ 64 → Lacks 32 (error_or_number error n)
error_lacks_space n (Some error) fits = by_test 32 (error_name error) (error_lacks error)
error_lacks_space n None fits = decimal_lacks 32 n (omega arith) fits

leading_zeros : (k : ℕ) (ds : List ℕ) → digits_value 16 (replicate k 48 ++ ds) ≡ digits_value 16 ds
leading_zeros zero ds = refl
leading_zeros (suc k) ds = leading_zeros k ds

word_value : (n : ℕ) → n < 2 ^ 32 → digits_value 16 (word_digits n) ≡ n
word_value n fits = leading_zeros (8 - length (digits 16 false n)) (digits 16 false n) ∙ (digits_is_IsNumeral 16 false (omega arith) (omega arith) n (wide n fits)).1

-- an address, or a number
abbrev value_text : (address : Bool) → ℕ → List ℕ
value_text address reply = if address then word_text reply else decimal reply

abbrev shown_reply : (error address : Bool) → ℕ → List ℕ
shown_reply error address reply = if error then codes "-" ++ error_text (2 ^ 32 - reply) else value_text address reply

no_minus : (address : Bool) (n : ℕ) → n < 2 ^ 32 → head (value_text address n) ≡ 45 → ⊥
no_minus true n fits e = omega (arith, e)
no_minus false n fits e = first_apart 45 (decimal n) (omega arith) (decimal_lacks 45 n (omega arith) (omega arith)) e

values_told : (address : Bool) (a b : ℕ) → a < 2 ^ 32 → b < 2 ^ 32 → value_text address a ≡ value_text address b → a ≡ b
values_told true a b ha hb e = sym (word_value a ha) ∙ ap (digits_value 16) (ap (drop 2) e) ∙ word_value b hb
values_told false a b ha hb e = decimal_injective a b (omega arith) (omega arith) e

replies_told : (address : Bool) (of_a of_b : Bool) (a b : ℕ) → a < 2 ^ 32 → b < 2 ^ 32 → shown_reply of_a address a ≡ shown_reply of_b address b → a ≡ b
replies_told address true true a b ha hb e =
    let same = errors_told (2 ^ 32 - a) (2 ^ 32 - b) (error_of (2 ^ 32 - a)) (error_of (2 ^ 32 - b)) (omega arith) (omega arith) refl refl (ap (drop 1) e) in
    omega (arith, same, ha, hb)
replies_told address true false a b ha hb e = absurd (no_minus address b hb (sym (ap head e)))
replies_told address false true a b ha hb e = absurd (no_minus address a ha (ap head e))
replies_told address false false a b ha hb e = values_told address a b ha hb e

reply_lacks_space : (error address : Bool) (reply : ℕ) → reply < 2 ^ 32 → Lacks 32 (shown_reply error address reply)
reply_lacks_space true address reply fits = lacks_append 32 (codes "-") (error_text (2 ^ 32 - reply)) (by_test 32 (codes "-") refl) (error_lacks_space (2 ^ 32 - reply) (error_of (2 ^ 32 - reply)) (omega arith))
reply_lacks_space false true reply fits = lacks_append 32 (codes "0x") (word_digits reply) (by_test 32 (codes "0x") refl) (word_lacks 32 reply (omega arith) (λ (e : 48 ≡ 32). omega (arith, e)) fits)
reply_lacks_space false false reply fits = decimal_lacks 32 reply (omega arith) (omega arith)

-- ---- the line

abbrev reply_end : CallEntry → List ℕ
reply_end e = reply_text e.call e.reply ++ 10 ∷ []

abbrev behind_bracket : CallEntry → List ℕ
behind_bracket e = separated (arg_texts (forms_of (call_of e.call)) e.args e.sent) ++ 41 ∷ 32 ∷ 61 ∷ 32 ∷ reply_end e

abbrev behind_pid : CallEntry → List ℕ
behind_pid e = name_text e.call ++ 40 ∷ behind_bracket e

behind_trace : (a b : CallEntry) → trace_line a ≡ trace_line b → decimal a.pid ++ 32 ∷ behind_pid a ≡ decimal b.pid ++ 32 ∷ behind_pid b
unfolding trace_line
behind_trace a b e = ap (drop 6) e

up_to_reply : (e : CallEntry) → (separated (arg_texts (forms_of (call_of e.call)) e.args e.sent) ++ 41 ∷ 32 ∷ 61 ∷ []) ++ 32 ∷ reply_end e ≡ behind_bracket e
up_to_reply e = append_assoc (separated (arg_texts (forms_of (call_of e.call)) e.args e.sent)) (41 ∷ 32 ∷ 61 ∷ []) (32 ∷ reply_end e)

end_lacks : (e : CallEntry) → HasWords e → Lacks 32 (reply_end e)
end_lacks e words = lacks_append 32 (reply_text e.call e.reply) (10 ∷ []) (reply_lacks_space (is_error e.reply) (replies_address (call_of e.call)) e.reply words.reply) (by_test 32 (10 ∷ []) refl)

pub lines_tell : LinesTell
lines_tell a b wa wb e =
    let pid = split_first 32 (decimal a.pid) (decimal b.pid) (behind_pid a) (behind_pid b)
    (decimal_lacks 32 a.pid (omega arith) (omega (arith, wa.pid))) (decimal_lacks 32 b.pid (omega arith) (omega (arith, wb.pid))) (behind_trace a b e) in
    let name = split_first 40 (name_text a.call) (name_text b.call) (behind_bracket a) (behind_bracket b)
    (name_lacks_bracket a.call (call_of a.call) (omega (arith, wa.call))) (name_lacks_bracket b.call (call_of b.call) (omega (arith, wb.call))) pid.1 in
    let call = numbers_told a.call b.call (call_of a.call) (call_of b.call) (omega (arith, wa.call)) (omega (arith, wb.call)) refl refl name.0 in
    let last = split_last 32 _ _ (reply_end a) (reply_end b) (end_lacks a wa) (end_lacks b wb) (up_to_reply a ∙ name.1 ∙ sym (up_to_reply b)) in
    let reply = append_cancel_right (reply_text a.call a.reply) (reply_text b.call b.reply) (10 ∷ []) last in
    record {
      pid = decimal_injective a.pid b.pid (omega (arith, wa.pid)) (omega (arith, wb.pid)) pid.0;
      call = call;
      reply = replies_told (replies_address (call_of a.call)) (is_error a.reply) (is_error b.reply) a.reply b.reply wa.reply wb.reply (reply ∙ ap (λ (n : ℕ). reply_text n b.reply) (sym call));
    }

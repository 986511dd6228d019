-- The counts of calls by number, and what one more call makes of them.
use Rattle.std.proofs.Common.{◌≡◌, ℕ, ◌+◌, ◌<◌, inl, inr, Bool, true, false, ◌||◌, ◌==◌, List, [], ◌∷◌, ◌++◌, map, length, refl, ap, sym, ◌∙◌, arith}
use Rattle.std.specs.Prelude.{sum_by, fold, if◌then◌else◌}
use Rattle.std.specs.List.{AllByRecursion, list_any}
use Rattle.std.specs.Ordering.{nat_cmp}
use Rattle.std.specs.Option.{unwrap_or}
use Rattle.std.specs.Map.{lookup}
use Rattle.std.specs.BTreeMap.{insert_entry, is_at}
use Rattle.std.proofs.lemmas.Bool.{lt-ltb, le-ltb, eq-eqb, ne_eqb, cases_order}
use Rattle.std.proofs.lemmas.List.{length_push, append-nil}
use Rattle.std.proofs.lemmas.List.Elements.{filter-append}
use Rattle.std.proofs.lemmas.List.Sums.{fold_push, sum_by_push}
use Rattle.call_log.specs.Notes.{CallEntry}
use Rattle.trace_text.specs.declared.count.Count.{Count}
use Rattle.trace_text.specs.Errors.{is_error}
use Rattle.trace_text.specs.Laws.{Ascends, is_among, NumbersAscend}
use Rattle.trace_text.specs.Counts.{kept, got_len, calls_of, count_of, count_with, with_number, numbers_of, tally, counts_of}

-- ---- one more call of a number

kept_more : (sum more : ℕ) → kept (kept sum + more) ≡ kept (sum + more)
kept_more sum more = omega arith

abbrev error_one : CallEntry → ℕ
error_one e = if is_error e.reply then 1 else 0

count_more : (n : ℕ) (es : List CallEntry) (e : CallEntry) → count_with (count_of n es) e ≡ count_of n (es ++ e ∷ [])
count_more n es e =
    let calls = kept_more (length es) 1 ∙ ap kept (sym (length_push es e)) in
    let errors = kept_more (sum_by error_one es) (error_one e) ∙ ap kept (sym (sum_by_push error_one es e)) in
    let sent = kept_more (sum_by (λ (e : CallEntry). length e.sent) es) (length e.sent) ∙ ap kept (sym (sum_by_push (λ (e : CallEntry). length e.sent) es e)) in
    let got = kept_more (sum_by got_len es) (got_len e) ∙ ap kept (sym (sum_by_push got_len es e)) in
    λ i. record { number = n; calls = calls i; errors = errors i; sent = sent i; got = got i }

calls_more : (n : ℕ) (es : List CallEntry) (e : CallEntry) (same : Bool) → (e.call == n) ≡ same → calls_of n (es ++ e ∷ []) ≡ calls_of n es ++ (if same then e ∷ [] else [])
calls_more n es e same is = filter-append (λ (e : CallEntry). e.call == n) es (e ∷ []) ∙ ap (λ (b : Bool). calls_of n es ++ (if b then e ∷ [] else [])) is

-- ---- ascending numbers

above_below : (k n : ℕ) (ns : List ℕ) → k < n + 1 → AllByRecursion (λ m. n < m) ns → AllByRecursion (λ m. k < m) ns
above_below k n [] le above = tt
above_below k n (m ∷ ms) le above = (omega (arith, above.0), above_below k n ms le above.1)

above_with : (l k : ℕ) (ns : List ℕ) → l < k → AllByRecursion (λ n. l < n) ns → AllByRecursion (λ n. l < n) (with_number ns k)
above_with l k [] less above = (less, tt)
above_with l k (m ∷ ms) less above = elim (cases_order k m) [
  | inl same ↦ rw (le-ltb k m (omega arith), eq-eqb k m same) above
  | inr other ↦ elim other [
    | inl below ↦ rw (lt-ltb k m below) (less, above)
    | inr beyond ↦ rw (le-ltb k m (omega arith), ne_eqb k m (λ (e : k ≡ m). omega (arith, e, beyond))) (above.0, above_with l k ms less above.1)
  ]
]

ascends_with : (ns : List ℕ) (k : ℕ) → Ascends ns → Ascends (with_number ns k)
ascends_with [] k up = (tt, tt)
ascends_with (m ∷ ms) k up = elim (cases_order k m) [
  | inl same ↦ rw (le-ltb k m (omega arith), eq-eqb k m same) up
  | inr other ↦ elim other [
    | inl below ↦ rw (lt-ltb k m below) ((below, above_below k m ms (omega arith) up.0), up)
    | inr beyond ↦ rw (le-ltb k m (omega arith), ne_eqb k m (λ (e : k ≡ m). omega (arith, e, beyond))) (above_with m k ms beyond up.0, ascends_with ms k up.1)
  ]
]

abbrev numbers_behind : List ℕ → List CallEntry → List ℕ
numbers_behind ns es = fold (λ (numbers : List ℕ) (e : CallEntry). with_number numbers e.call) ns es

ascends_behind : (es : List CallEntry) (ns : List ℕ) → Ascends ns → Ascends (numbers_behind ns es)
ascends_behind [] ns up = up
ascends_behind (e ∷ es) ns up = ascends_behind es (with_number ns e.call) (ascends_with ns e.call up)

-- ---- which numbers there are

or_again : (a b : Bool) → (a || b) ≡ (a || (a || b))
or_again true b = refl
or_again false b = refl

or_swap : (a b c : Bool) → (a || (b || c)) ≡ (b || (a || c))
or_swap true true c = refl
or_swap true false c = refl
or_swap false true c = refl
or_swap false false c = refl

or_last : (a b c : Bool) → ((a || b) || c) ≡ (b || (a || c))
or_last true true c = refl
or_last true false c = refl
or_last false true c = refl
or_last false false c = refl

among_with : (ns : List ℕ) (c k : ℕ) → is_among k (with_number ns c) ≡ ((c == k) || is_among k ns)
among_with [] c k = refl
among_with (m ∷ ms) c k = elim (cases_order c m) [
  | inl same ↦ rw (le-ltb c m (omega arith), eq-eqb c m same) (or_again (m == k) (is_among k ms) ∙ ap (λ (n : ℕ). (n == k) || ((m == k) || is_among k ms)) (sym same))
  | inr other ↦ elim other [
    | inl below ↦ rw (lt-ltb c m below) refl
    | inr beyond ↦
        let rest = ap (λ (b : Bool). (m == k) || b) (among_with ms c k) ∙ or_swap (m == k) (c == k) (is_among k ms) in
        rw (le-ltb c m (omega arith), ne_eqb c m (λ (e : c ≡ m). omega (arith, e, beyond))) rest
  ]
]

abbrev calls_number : ℕ → List CallEntry → Bool
calls_number k es = list_any (λ e. e.call == k) es

among_behind : (es : List CallEntry) (ns : List ℕ) (k : ℕ) → is_among k (numbers_behind ns es) ≡ (is_among k ns || calls_number k es)
among_behind [] ns k = or_none (is_among k ns)
  where
    or_none : (a : Bool) → a ≡ (a || false)
    or_none true = refl
    or_none false = refl
among_behind (e ∷ es) ns k =
    among_behind es (with_number ns e.call) k ∙ ap (λ (b : Bool). b || calls_number k es) (among_with ns e.call k)
    ∙ or_last (e.call == k) (is_among k ns) (calls_number k es)

pub numbers_ascend : NumbersAscend
numbers_ascend es = record { ascends = ascends_behind es [] tt; numbers = λ k. among_behind es [] k }

-- ---- a number without calls

abbrev IsAbsent : ℕ → List ℕ → Type 0
IsAbsent k ns = AllByRecursion (λ n. n ≡ k → ⊥) ns

absent_with : (ns : List ℕ) (c k : ℕ) → IsAbsent k (with_number ns c) → (c ≡ k → ⊥) × IsAbsent k ns
absent_with [] c k absent = (absent.0, tt)
absent_with (m ∷ ms) c k absent = elim (cases_order c m) [
  | inl same ↦ let both : IsAbsent k (m ∷ ms) = rw (le-ltb c m (omega arith), eq-eqb c m same) at absent in ((λ (e : c ≡ k). both.0 (sym same ∙ e)), both)
  | inr other ↦ elim other [
    | inl below ↦ let all : IsAbsent k (c ∷ m ∷ ms) = rw (lt-ltb c m below) at absent in (all.0, all.1)
    | inr beyond ↦
        let all : IsAbsent k (m ∷ with_number ms c) = rw (le-ltb c m (omega arith), ne_eqb c m (λ (e : c ≡ m). omega (arith, e, beyond))) at absent in
        let rest = absent_with ms c k all.1 in
        (rest.0, (all.0, rest.1))
  ]
]

absent_behind : (es : List CallEntry) (ns : List ℕ) (k : ℕ) → IsAbsent k (numbers_behind ns es) → IsAbsent k ns × (calls_of k es ≡ [])
absent_behind [] ns k absent = (absent, refl)
absent_behind (e ∷ es) ns k absent =
    let rest = absent_behind es (with_number ns e.call) k absent in
    let here = absent_with ns e.call k rest.0 in
    (here.1, rw (ne_eqb e.call k here.0) rest.1)

-- ---- the counts by number

abbrev pairs : (ℕ → Count) → List ℕ → List (ℕ × Count)
pairs f ns = map (λ (n : ℕ). (n, f n)) ns

-- what is found, or else the given one, is the count where the given one is right for a number that is absent
found_or : (f : ℕ → Count) (k : ℕ) (d : Count) (ns : List ℕ) → (IsAbsent k ns → d ≡ f k) → unwrap_or (lookup (is_at (nat_cmp k)) (pairs f ns)) d ≡ f k
found_or f k d [] right = right tt
found_or f k d (m ∷ ms) right = elim (cases_order k m) [
  | inl same ↦ rw (le-ltb k m (omega arith), eq-eqb k m same) (ap f (sym same))
  | inr other ↦ elim other [
    | inl below ↦ rw (lt-ltb k m below) (found_or f k d ms (λ (absent : IsAbsent k ms). right ((λ (e : m ≡ k). omega (arith, e, below)), absent)))
    | inr beyond ↦ rw (le-ltb k m (omega arith), ne_eqb k m (λ (e : k ≡ m). omega (arith, e, beyond))) (found_or f k d ms (λ (absent : IsAbsent k ms). right ((λ (e : m ≡ k). omega (arith, e, beyond)), absent)))
  ]
]

module _ (f g : ℕ → Count) (k : ℕ) (apart : (n : ℕ) → (n ≡ k → ⊥) → f n ≡ g n) where
  pairs_above : (ns : List ℕ) → AllByRecursion (λ n. k < n) ns → pairs f ns ≡ pairs g ns
  pairs_above [] above = refl
  pairs_above (n ∷ ns) above = let here = apart n (λ (e : n ≡ k). omega (arith, e, above.0)) in let rest = pairs_above ns above.1 in λ i. (n, here i) ∷ rest i

  inserted : (v : Count) → v ≡ g k → (ns : List ℕ) → Ascends ns → insert_entry nat_cmp (pairs f ns) k v ≡ pairs g (with_number ns k)
  inserted v is [] up = λ i. (k, is i) ∷ []
  inserted v is (m ∷ ms) up = elim (cases_order k m) [
    | inl same ↦ let here : v ≡ g m = is ∙ ap g same in let rest = pairs_above ms (above_below k m ms (omega arith) up.0) in rw (le-ltb k m (omega arith), eq-eqb k m same) (λ i. (m, here i) ∷ rest i)
    | inr other ↦ elim other [
      | inl below ↦ let rest = pairs_above (m ∷ ms) (below, above_below k m ms (omega arith) up.0) in rw (lt-ltb k m below) (λ i. (k, is i) ∷ rest i)
      | inr beyond ↦
          let here = apart m (λ (e : m ≡ k). omega (arith, e, beyond)) in
          let rest = inserted v is ms up.1 in
          rw (le-ltb k m (omega arith), ne_eqb k m (λ (e : k ≡ m). omega (arith, e, beyond))) (λ i. (m, here i) ∷ rest i)
    ]
  ]

tally_push : (es : List CallEntry) (e : CallEntry)
    → insert_entry nat_cmp (tally es) e.call (count_with (unwrap_or (lookup (is_at (nat_cmp e.call)) (tally es)) (count_of e.call [])) e) ≡ tally (es ++ e ∷ [])
tally_push es e =
    let k = e.call in
    let f = λ (n : ℕ). count_of n (calls_of n es) in
    let g = λ (n : ℕ). count_of n (calls_of n (es ++ e ∷ [])) in
    let so_far : unwrap_or (lookup (is_at (nat_cmp k)) (tally es)) (count_of k []) ≡ f k = found_or f k (count_of k []) (numbers_of es) (λ (absent : IsAbsent k (numbers_of es)). ap (count_of k) (sym (absent_behind es [] k absent).1)) in
    let is = ap (λ (c : Count). count_with c e) so_far ∙ count_more k (calls_of k es) e ∙ ap (count_of k) (sym (calls_more k es e true (eq-eqb k k refl))) in
    let apart = λ (n : ℕ) (other : n ≡ k → ⊥). ap (count_of n) (sym (calls_more n es e false (ne_eqb k n (λ (h : k ≡ n). other (sym h))) ∙ append-nil (calls_of n es))) in
    inserted f g k apart _ is (numbers_of es) (ascends_behind es [] tt)
    ∙ ap (pairs g) (sym (fold_push (λ (numbers : List ℕ) (e : CallEntry). with_number numbers e.call) [] es e))

-- one more call, into counts that are those of these calls
pub tally_more : (old : List (ℕ × Count)) (es : List CallEntry) (e : CallEntry) → old ≡ tally es
    → insert_entry nat_cmp old e.call (count_with (unwrap_or (lookup (is_at (nat_cmp e.call)) old) (count_of e.call [])) e) ≡ tally (es ++ e ∷ [])
tally_more old es e is = ap (λ (old : List (ℕ × Count)). insert_entry nat_cmp old e.call (count_with (unwrap_or (lookup (is_at (nat_cmp e.call)) old) (count_of e.call [])) e)) is ∙ tally_push es e

values_pairs : (f : ℕ → Count) (ns : List ℕ) → map (λ (p : ℕ × Count). p.1) (pairs f ns) ≡ map f ns
values_pairs f [] = refl
values_pairs f (n ∷ ns) = ap (λ (counts : List Count). f n ∷ counts) (values_pairs f ns)

pub values_tally : (es : List CallEntry) → map (λ (p : ℕ × Count). p.1) (tally es) ≡ counts_of es
unfolding counts_of
values_tally es = values_pairs (λ (n : ℕ). count_of n (calls_of n es)) (numbers_of es)

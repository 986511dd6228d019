-- What a walk over the kept relocations has found at each step.
use Rattle.std.proofs.Common.{◌≡◌, ℕ, zero, suc, ◌+◌, ◌-◌, ◌<◌, true, false, List, [], ◌∷◌, ◌++◌, map, flat_map, Option, Some, None, refl, sym, ap, subst, ◌∙◌, arith, zero-add, add-zero, add-one, add-suc, append_assoc, append-nil, map-id}
use Rattle.std.specs.List.{range_with_len}
use Rattle.std.proofs.lemmas.List.Concat.{flat_map-append}
use Rattle.std.proofs.lemmas.List.FromFn.{map-range_with_len_more}
use Rattle.elf32_reader.specs.Header.{count_of}
use Rattle.elf32_reader.specs.Relas.{is_kept, rela_count}
use Rattle.flat_layout.specs.Layout.{layout}
use Rattle.psabi_relocs.specs.declared.spans.Span.{Span}
use Rattle.psabi_relocs.specs.Effect.{spans}
use Rattle.elf2flt_tool.specs.declared.cover.Cover.{Cover}
use Rattle.elf2flt_tool.specs.declared.refusal.Refusal.{Refusal}
use Rattle.elf2flt_tool.specs.Relocs.{spans_in, spans_of}
use Rattle.elf2flt_tool.specs.Cover.{IsCover, recorded_of}
use Rattle.elf2flt_tool.specs.Walk.{spans_before, recorded_before, all_of, IsFoundIn, IsFound}
use Rattle.elf2flt_tool.specs.Fault.{first_some}

-- ---- the first that has an answer

pub first_zero : (f : ℕ → Option Refusal) → first_some f 0 ≡ None
unfolding first_some
first_zero f = refl

-- none below n has one, nor n itself
pub first_more : (f : ℕ → Option Refusal) (n : ℕ) → first_some f n ≡ None → f n ≡ None → first_some f (n + 1) ≡ None
unfolding first_some
first_more f n below here = rw (add-one, below, here) refl

pub first_stays : (f : ℕ → Option Refusal) (n k : ℕ) (r : Refusal) → first_some f n ≡ Some r → first_some f (n + k) ≡ Some r
unfolding first_some
first_stays f n zero r is = rw add-zero is
first_stays f n (suc k) r is = rw (add-suc, first_stays f n k r is) refl

-- none below i has one, and i does
pub first_found : (f : ℕ → Option Refusal) (n i : ℕ) (r : Refusal) → i < n → first_some f i ≡ None → f i ≡ Some r → first_some f n ≡ Some r
unfolding first_some
first_found f n i r below none here =
    let next : first_some f (i + 1) ≡ Some r = rw (add-one, none, here) refl in
    let parts : (i + 1) + (n - (i + 1)) ≡ n = omega arith in
    ap (first_some f) (sym parts) ∙ first_stays f (i + 1) (n - (i + 1)) r next

-- ---- one more

pub range-more : (n : ℕ) → range_with_len 0 (n + 1) ≡ range_with_len 0 n ++ n ∷ []
range-more n = sym (map-id (range_with_len 0 (n + 1))) ∙ map-range_with_len_more (λ k. k) 0 n n (zero-add n) ∙ ap (λ ks. ks ++ n ∷ []) (map-id (range_with_len 0 n))

pub flat_map-more : {X : Type 0} (f : ℕ → List X) (n : ℕ) → flat_map f (range_with_len 0 (n + 1)) ≡ flat_map f (range_with_len 0 n) ++ f n
flat_map-more f n =
    ap (flat_map f) (range-more n) ∙ flat_map-append f (range_with_len 0 n) (n ∷ [])
    ∙ ap (λ xs. flat_map f (range_with_len 0 n) ++ xs) (append-nil (f n))

-- the entries before one, with its own
spans-more : (e : List ℕ) (i j : ℕ) → spans_before e i (j + 1) ≡ spans_before e i j ++ spans e i j ∷ []
spans-more e i j =
    ap (λ ss. flat_map (spans_in e) (range_with_len 0 i) ++ ss) (map-range_with_len_more (spans e i) 0 j j (zero-add j))
    ∙ sym (append_assoc (flat_map (spans_in e) (range_with_len 0 i)) (map (spans e i) (range_with_len 0 j)) (spans e i j ∷ []))

pub flat_map-push : {X Y : Type 0} (f : X → List Y) (xs : List X) (x : X) → flat_map f (xs ++ x ∷ []) ≡ flat_map f xs ++ f x
flat_map-push f xs x = flat_map-append f xs (x ∷ []) ∙ ap (λ ys. flat_map f xs ++ ys) (append-nil (f x))

-- what one entry adds
abbrev pub IsAdded : List ℕ → List Span → Cover → Cover → Type 0
IsAdded e ss before after = (n : ℕ) (all : List Span) → IsCover (layout e) n all before → IsCover (layout e) n (all ++ ss) after

pub entry_found : (e : List ℕ) (i j : ℕ) (before after : Cover) → IsFound e i j before → IsAdded e (spans e i j) before after → IsFound e i (j + 1) after
entry_found e i j before after is added =
    let size = (layout e).text + (layout e).data_len in
    let all = flat_map-push (λ ss. ss) (spans_before e i j) (spans e i j) in
    subst (λ es. IsFoundIn e es after) (sym (spans-more e i j))
    (subst (λ all. IsCover (layout e) size all after) (sym all) (added size (all_of (spans_before e i j)) is))

-- the recorded words of one entry more
pub recorded-more : (e : List ℕ) (i j : ℕ) → recorded_before e i (j + 1) ≡ recorded_before e i j ++ recorded_of (layout e) (spans e i j)
recorded-more e i j = ap (flat_map (recorded_of (layout e))) (spans-more e i j) ∙ flat_map-push (recorded_of (layout e)) (spans_before e i j) (spans e i j)

-- the walk goes on at the next section

spans-kept : (e : List ℕ) (i : ℕ) → is_kept e i ≡ true → spans_in e i ≡ map (spans e i) (range_with_len 0 (rela_count e i))
unfolding spans_in
spans-kept e i kept = rw kept refl

spans-other : (e : List ℕ) (i : ℕ) → is_kept e i ≡ false → spans_in e i ≡ []
unfolding spans_in
spans-other e i other = rw other refl

pub before-kept : (e : List ℕ) (i : ℕ) → is_kept e i ≡ true → spans_before e i (rela_count e i) ≡ spans_before e (i + 1) 0
before-kept e i kept = ap (λ ss. flat_map (spans_in e) (range_with_len 0 i) ++ ss) (sym (spans-kept e i kept)) ∙ sym (flat_map-more (spans_in e) i) ∙ sym (append-nil _)

pub before-other : (e : List ℕ) (i : ℕ) → is_kept e i ≡ false → spans_before e i 0 ≡ spans_before e (i + 1) 0
before-other e i other = ap (λ ss. flat_map (spans_in e) (range_with_len 0 i) ++ ss) (sym (spans-other e i other)) ∙ sym (flat_map-more (spans_in e) i) ∙ sym (append-nil _)

pub section_found : (e : List ℕ) (i : ℕ) (c : Cover) → is_kept e i ≡ true → IsFound e i (rela_count e i) c → IsFound e (i + 1) 0 c
section_found e i c kept is = subst (λ es. IsFoundIn e es c) (before-kept e i kept) is

pub section_passed : (e : List ℕ) (i : ℕ) (c : Cover) → is_kept e i ≡ false → IsFound e i 0 c → IsFound e (i + 1) 0 c
section_passed e i c other is = subst (λ es. IsFoundIn e es c) (before-other e i other) is

-- the walk has ended

pub before-all : (e : List ℕ) → spans_before e (count_of e) 0 ≡ spans_of e
unfolding spans_of
before-all e = append-nil (flat_map (spans_in e) (range_with_len 0 (count_of e)))

pub all_found : (e : List ℕ) (c : Cover) → IsFound e (count_of e) 0 c → IsFoundIn e (spans_of e) c
all_found e c is = subst (λ es. IsFoundIn e es c) (before-all e) is

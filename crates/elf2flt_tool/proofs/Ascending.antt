-- The records: the places of the recorded words, ascending; and the words that stand there.
use Rattle.std.proofs.Common.{◌≡◌, ℕ, zero, suc, ◌+◌, ◌-◌, ◌≤◌, inl, inr, Bool, true, false, ◌&&◌, ◌||◌, nat_eq, nat_lt, List, [], ◌∷◌, ◌++◌, length, map, flat_map, filter, count_by, get_or, slice_index, All, refl, sym, ap, ◌∙◌, arith, add-zero, append-nil}
use Rattle.std.specs.List.{list_any, range_with_len, AllByRecursion as Each}
use Rattle.std.proofs.lemmas.Bool.{cases_Bool, cases_lt, and_from, lt-ltb, eqb-true}
use Rattle.std.proofs.lemmas.List.Elements.{All-from_recursion, filter-append}
use Rattle.std.proofs.lemmas.List.Folds.{list_any-append}
use Rattle.byte_words.specs.Numbers.{IsBytes, number_at, low_first}
use Rattle.byte_words.specs.Patches.{painted, bytes_below}
use Rattle.byte_words.proofs.Painting.{bytes_below_same, byte_below, painted_same}
use Rattle.bflt_format.specs.Fault.{is_near}
use Rattle.bflt_format.proofs.Rising.{has, Rises, has_at, rises_at, all_has, rises_filtered, has_filtered}
use Rattle.bflt_format.proofs.Links as links
use Rattle.flat_layout.specs.declared.layout.Layout.{Layout}
use Rattle.flat_layout.specs.Layout.{layout, off, size_of}
use Rattle.psabi_relocs.specs.declared.spans.Span.{Span}
use Rattle.flat_layout.proofs.Facts.{clear_numbers}
use Rattle.elf2flt_tool.specs.declared.word.Word.{Word}
use Rattle.elf2flt_tool.specs.declared.cover.Cover.{Cover}
use Rattle.elf2flt_tool.specs.Relocs.{spans_of}
use Rattle.elf2flt_tool.specs.Image.{bare, word_of}
use Rattle.elf2flt_tool.specs.Word.{words, places, begins_at, records, word_at, lowest, points_outside, target_outside, recorded_places, AreApart}
use Rattle.elf2flt_tool.specs.Cover.{begins, counted}
use Rattle.elf2flt_tool.specs.Walk.{all_of, IsFoundIn}
use Rattle.elf2flt_tool.specs.Converted.{number_patch, body_of}
use Rattle.elf2flt_tool.proofs.Members.{any-map, map_map, map_same, each-weaker}
use Rattle.elf2flt_tool.proofs.Lowest.{has-mapped, lowest_same}
use Rattle.elf2flt_tool.proofs.Laid.{is_laid}
use Rattle.elf2flt_tool.proofs.Bare.{number_of_word}
use Rattle.elf2flt_tool.proofs.Recorded.{IsLinked, IsClear, is_linked}
use Rattle.elf2flt_tool.proofs.Apart.{places_of_spans, places_apart}
use Rattle.elf2flt_tool.proofs.Listed.{target_at, places_of, places_are, pointed, words_are, numbers_are, are_words, place_inside}
use Rattle.elf2flt_tool.proofs.Meeting.{any_count, some_two}
use Rattle.elf2flt_tool.proofs.Walked.{range-more}
use Rattle.elf2flt_tool.proofs.Stills.{filter_drop}

-- ---- the records are the places of the words

has-map : {X : Type 0} (f : X → ℕ) (xs : List X) (q : ℕ) → has (map f xs) q ≡ list_any (λ x. nat_eq (f x) q) xs
has-map f [] q = refl
has-map f (x ∷ xs) q = ap (λ b. nat_eq (f x) q || b) (has-map f xs q)

pub begins_has : (e : List ℕ) (q : ℕ) → begins_at (words e) q ≡ has (places_of e) q
begins_has e q = sym (has-map (λ w. w.place) (words e) q) ∙ ap (λ ps. has ps q) (places_are e)

-- a place of a word is below the end of text and data
place_below : (e : List ℕ) → IsBytes e → IsLinked e → (p : ℕ) → has (places_of e) p ≡ true → p + 4 ≤ (layout e).text + (layout e).data_len
place_below e bytes linked p there = omega (arith, place_inside e bytes linked p there, (is_laid e (clear_numbers e linked.laid)).stored)

pub records_rise : (e : List ℕ) → Rises (records e)
unfolding records
records_rise e = rises_filtered (begins_at (words e)) 0 ((layout e).text + (layout e).data_len)

pub records_has : (e : List ℕ) → IsBytes e → IsLinked e → (q : ℕ) → has (records e) q ≡ has (places_of e) q
unfolding records
records_has e bytes linked q =
    let n = (layout e).text + (layout e).data_len in
    let tests : begins_at (words e) ≡ has (places_of e) = λ i p. begins_has e p i in
    ap (λ test. has (filter test (range_with_len 0 n)) q) tests
    ∙ has_filtered (places_of e) n q (λ p there. omega (arith, place_below e bytes linked p there))

pub records_below : (e : List ℕ) → IsBytes e → IsLinked e → Each (λ p. p + 4 ≤ (layout e).text + (layout e).data_len) (records e)
records_below e bytes linked =
    all_has (λ p. p + 4 ≤ (layout e).text + (layout e).data_len) (records e)
    (λ p there. place_below e bytes linked p (sym (records_has e bytes linked p) ∙ there))

-- ---- the places that the cover has

and_swap : (a b : Bool) → (a && b) ≡ (b && a)
and_swap true true = refl
and_swap true false = refl
and_swap false true = refl
and_swap false false = refl

begins_one : (l : Layout) (q : ℕ) (ss : List Span) → list_any (begins l q) ss ≡ has (recorded_places l ss) q
begins_one l q ss =
    let tests : begins l q ≡ (λ s. nat_eq (off l s.place) q && s.recorded) = λ i s. and_swap s.recorded (nat_eq (off l s.place) q) i in
    ap (λ test. list_any test ss) tests ∙ sym (has-mapped (λ s. off l s.place) (λ s. s.recorded) ss q)

has-append : (xs ys : List ℕ) (q : ℕ) → has (xs ++ ys) q ≡ (has xs q || has ys q)
has-append [] ys q = refl
has-append (x ∷ xs) ys q = ap (λ b. nat_eq x q || b) (has-append xs ys q) ∙ or_turn (nat_eq x q) (has xs q) (has ys q)
  where
    or_turn : (a b c : Bool) → (a || (b || c)) ≡ ((a || b) || c)
    or_turn true b c = refl
    or_turn false b c = refl

pub begins_all : (l : Layout) (q : ℕ) (es : List (List Span)) → list_any (begins l q) (all_of es) ≡ has (flat_map (recorded_places l) es) q
begins_all l q [] = refl
begins_all l q (ss ∷ es) =
    list_any-append (begins l q) ss (all_of es)
    ∙ ap (λ b. b || list_any (begins l q) (all_of es)) (begins_one l q ss) ∙ ap (λ b. has (recorded_places l ss) q || b) (begins_all l q es)
    ∙ sym (has-append (recorded_places l ss) (flat_map (recorded_places l) es) q)

counted_begins : (e : List ℕ) (c : Cover) (q : ℕ) → IsFoundIn e (spans_of e) c → nat_lt 0 (slice_index c.words.items q) ≡ begins_at (words e) q
counted_begins e c q is =
    let l = layout e in
    let all = all_of (spans_of e) in
    ap (λ n. nat_lt 0 n) (is.words q) ∙ some_two (count_by (begins l q) all) ∙ sym (any_count (begins l q) all)
    ∙ begins_all l q (spans_of e) ∙ ap (λ ps. has ps q) (sym (places_of_spans e l)) ∙ sym (begins_has e q)

-- one number more
pub filter_next : (test : ℕ → Bool) (n : ℕ) → filter test (range_with_len 0 (n + 1)) ≡ filter test (range_with_len 0 n) ++ filter test (n ∷ [])
filter_next test n = ap (filter test) (range-more n) ∙ filter-append test (range_with_len 0 n) (n ∷ [])

-- numbers from m on that don't pass add none
filter_reach : (test : ℕ → Bool) (m k : ℕ) → ((q : ℕ) → m ≤ q → test q ≡ false) → filter test (range_with_len 0 m) ≡ filter test (range_with_len 0 (m + k))
filter_reach test m zero fails = rw add-zero refl
filter_reach test m (suc k) fails =
    filter_reach test m k fails ∙ sym (append-nil (filter test (range_with_len 0 (m + k))))
    ∙ ap (λ ns. filter test (range_with_len 0 (m + k)) ++ ns) (sym (filter_drop test (m + k) [] (fails (m + k) (omega arith))))
    ∙ sym (filter_next test (m + k)) ∙ ap (λ n. filter test (range_with_len 0 n)) (omega arith)

index_past : (xs : List ℕ) (i : ℕ) → length xs ≤ i → slice_index xs i ≡ 0
index_past [] i past = refl
index_past (x ∷ xs) zero past = absurd (omega arith)
index_past (x ∷ xs) (suc i) past = index_past xs i (omega arith)

places_counted : (e : List ℕ) (c : Cover) → IsFoundIn e (spans_of e) c → counted c.words.items ≡ records e
unfolding records
places_counted e c is =
    let tests : (λ q. nat_lt 0 (slice_index c.words.items q)) ≡ begins_at (words e) = λ i q. counted_begins e c q is i in
    let size = (layout e).text + (layout e).data_len in
    let reached = length c.words.items in
    let none : (q : ℕ) → reached ≤ q → begins_at (words e) q ≡ false = λ q past. sym (counted_begins e c q is) ∙ ap (λ n. nat_lt 0 n) (index_past c.words.items q past) in
    let all : reached + (size - reached) ≡ size = omega (arith, is.room.words, is.len) in
    ap (λ test. filter test (range_with_len 0 reached)) tests ∙ filter_reach (begins_at (words e)) reached (size - reached) none
    ∙ ap (λ n. filter (begins_at (words e)) (range_with_len 0 n)) all

-- the counted places, as the code has them
pub counted_records : (e : List ℕ) (c : Cover) (counts ps : List ℕ) → IsFoundIn e (spans_of e) c → counts ≡ c.words.items → ps ≡ counted counts → ps ≡ records e
counted_records e c counts ps is same are = are ∙ ap counted same ∙ places_counted e c is

-- ---- the words that stand there

word_linked : (e : List ℕ) (l : Layout) (image : List ℕ) (p : ℕ) → l ≡ layout e → image ≡ bytes_below (l.text + l.data_len) (bare e) → p + 4 ≤ (layout e).text + (layout e).data_len
    → word_at l image p ≡ pointed (target_at e) p
word_linked e l image p laid linked inside =
    let n = (layout e).text + (layout e).data_len in
    let word : word_of (bare e) p ≡ number_at low_first 4 (bytes_below n (bare e)) p =
    number_of_word (bare e) (bytes_below n (bare e)) p p (λ j small. sym (byte_below n (bare e) (p + j) (omega arith))) in
    rw (linked, laid) (ap (λ v. record { place = p; target = off (layout e) v }) (sym word))

pub words_linked : (e : List ℕ) (l : Layout) (image : List ℕ) → IsBytes e → IsLinked e → l ≡ layout e → image ≡ bytes_below (l.text + l.data_len) (bare e)
    → map (word_at l image) (records e) ≡ map (pointed (target_at e)) (records e)
words_linked e l image bytes is laid linked =
    map_same (word_at l image) (pointed (target_at e)) (records e)
    (each-weaker (λ p. p + 4 ≤ (layout e).text + (layout e).data_len) (λ p. word_at l image p ≡ pointed (target_at e) p) (λ p inside. word_linked e l image p laid linked inside)
    (records e) (records_below e bytes is))

-- ---- where they point

any_place : (test : ℕ → Bool) (ps : List ℕ) (q : ℕ) → list_any (λ p. nat_eq p q && test p) ps ≡ (has ps q && test q)
any_place test [] q = refl
any_place test (p ∷ ps) q = ap (λ b. (nat_eq p q && test p) || b) (any_place test ps q) ∙ elim (cases_Bool (nat_eq p q)) [
  | inl here ↦ rw here (ap (λ k. test k || (has ps q && test q)) (eqb-true p q here) ∙ one_test (has ps q) (test q))
  | inr other ↦ rw other refl
]
  where
    one_test : (a b : Bool) → (b || (a && b)) ≡ b
    one_test true true = refl
    one_test true false = refl
    one_test false true = refl
    one_test false false = refl

outside_at : (target : ℕ → ℕ) (size q : ℕ) (ps : List ℕ) → has (places (filter (points_outside size) (map (pointed target) ps))) q ≡ (has ps q && points_outside size (pointed target q))
outside_at target size q ps =
    has-mapped (λ w. w.place) (points_outside size) (map (pointed target) ps) q
    ∙ any-map (λ w. nat_eq w.place q && points_outside size w) (pointed target) ps
    ∙ any_place (λ p. points_outside size (pointed target p)) ps q

pub outside-tested : (e : List ℕ) (l : Layout) (image : List ℕ) → IsBytes e → IsLinked e → l ≡ layout e → image ≡ bytes_below (l.text + l.data_len) (bare e)
    → lowest (places (filter (points_outside (size_of l)) (map (word_at l image) (records e)))) ≡ target_outside e
unfolding target_outside
outside-tested e l image bytes is laid linked =
    let size = size_of (layout e) in
    let target = target_at e in
    ap (λ ws. lowest (places (filter (points_outside (size_of l)) ws))) (words_linked e l image bytes is laid linked)
    ∙ ap (λ l. lowest (places (filter (points_outside (size_of l)) (map (pointed target) (records e))))) laid
    ∙ lowest_same (places (filter (points_outside size) (map (pointed target) (records e)))) (places (filter (points_outside size) (map (pointed target) (places_of e))))
    (λ q. outside_at target size q (records e) ∙ ap (λ b. b && points_outside size (pointed target q)) (records_has e bytes is q) ∙ sym (outside_at target size q (places_of e)))
    ∙ ap (λ ws. lowest (places (filter (points_outside size) ws))) (sym (words_are e bytes is))

-- ---- their numbers painted over the linked bytes

pub body-painted : (e : List ℕ) (l : Layout) (ws : List Word) (image : List ℕ) → IsBytes e → IsClear e → l ≡ layout e → image ≡ bytes_below (l.text + l.data_len) (bare e)
    → ws ≡ map (word_at l image) (records e)
    → bytes_below (l.text + l.data_len) (painted (map number_patch ws) (slice_index image)) ≡ body_of e
unfolding body_of number_patch
body-painted e l ws image bytes clear laid linked is =
    let n = (layout e).text + (layout e).data_len in
    let read = is_linked e clear in
    let stored = (is_laid e (clear_numbers e clear.laid)).stored in
    let by_place : map number_patch ws ≡ map (links.numbered (target_at e)) (records e) =
    ap (map number_patch) (is ∙ words_linked e l image bytes read laid linked) ∙ map_map number_patch (pointed (target_at e)) (records e) in
    ap (λ ps. bytes_below (l.text + l.data_len) (painted ps (slice_index image))) by_place
    ∙ rw (linked, laid) (bytes_below_same n (painted (map (links.numbered (target_at e)) (records e)) (slice_index (bytes_below n (bare e)))) (painted (map (links.numbered (target_at e)) (records e)) (bare e))
    (λ i below. painted_same (map (links.numbered (target_at e)) (records e)) (slice_index (bytes_below n (bare e))) (bare e) i (byte_below n (bare e) i below)))
    ∙ links.same_body (target_at e) (places_of e) (records e) (bare e) n (rw stored (are_words e bytes clear)) (records_has e bytes read)
    ∙ ap (λ ps. bytes_below n (painted ps (bare e))) (sym (numbers_are e bytes read))

pub places_inside : (e : List ℕ) → IsBytes e → IsLinked e → All (λ p. p + 4 ≤ (layout e).text + (layout e).data_len) (records e)
places_inside e bytes is = All-from_recursion (λ p. p + 4 ≤ (layout e).text + (layout e).data_len) (records e) (records_below e bytes is)

-- where the file has no fault, no two of them have a common byte

pub are_apart : (e : List ℕ) → IsBytes e → IsClear e → AreApart (records e)
unfolding is_near
are_apart e bytes clear = λ j k less below.
    let read = is_linked e clear in
    let p = get_or (records e) j 0 in
    let q = get_or (records e) k 0 in
    let up = rises_at (records e) j k (records_rise e) less below in
    let p_in = sym (records_has e bytes read p) ∙ has_at (records e) j (omega arith) in
    let q_in = sym (records_has e bytes read q) ∙ has_at (records e) k below in
    elim (cases_lt q (p + 4)) [
      | inl near ↦ (
          let same = places_apart e p q clear.apart p_in q_in (and_from (nat_lt p (q + 4)) (nat_lt q (p + 4)) (lt-ltb p (q + 4) (omega (arith, up))) (lt-ltb q (p + 4) near)) in
          absurd (omega (arith, up, same)))
      | inr far ↦ far
    ]

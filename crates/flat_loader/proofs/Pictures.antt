-- Bytes that stand further on in a picture, and links.
use Rattle.std.proofs.Common.{◌≡◌, ℕ, suc, ◌+◌, ◌-◌, ◌%◌, ◌^◌, ◌≤◌, ◌<◌, false, inl, inr, List, [], ◌∷◌, length, get_or, drop, map, slice_index, refl, sym, ap, ◌∙◌, arith}
use Rattle.std.proofs.lemmas.List.{drop_more}
use Rattle.std.proofs.lemmas.Bool.{cases_lt, cases_eq, cases_Bool, ne_eqb, false_from_ne_true, both_ways}
use Rattle.byteorder.specs.Endian.{little_bytes}
use Rattle.byte_words.specs.ByteMap.{little_bytes as bytes_of}
use Rattle.byte_words.specs.Patches.{Patch, spans, patched, painted, little_word, laid}
use Rattle.byte_words.proofs.Painting.{within, spans_within, patched_on, patched_off, painted_same, spans_below, spans_past}
use Rattle.byte_words.proofs.Laid.{laid_picture}
use Rattle.phys_mem.specs.Memory.{place}
use Rattle.bflt_format.specs.Numbers.{big_at}
use Rattle.bflt_format.specs.Image.{link}
use Rattle.flat_loader.specs.Placed.{moved, links}
use Rattle.flat_loader.proofs.Laying.{same_bytes}

-- a recorded word that isn't 0
pub link_some :
    (body : List ℕ) (b r : ℕ) → (big_at body r ≡ 0 → ⊥) → b + big_at body r < 2 ^ 32 →
    link body b r ≡ record { at = r; bytes = little_bytes 4 (b + big_at body r) }
unfolding link little_word
link_some body b r some fits =
    let small : (b + big_at body r) % 2 ^ 32 ≡ b + big_at body r = omega arith in
    rw (ne_eqb (big_at body r) 0 some, small) refl

-- a recorded word 0
pub link_none : (body : List ℕ) (b r : ℕ) → big_at body r ≡ 0 → link body b r ≡ record { at = r; bytes = [] }
unfolding link
link_none body b r none = rw none refl

-- no bytes change nothing
pub patched_nothing : (at : ℕ) (m : ℕ → ℕ) → m ≡ patched (record { at = at; bytes = [] }) m
patched_nothing at m = λ i k. sym (patched_off (record { at = at; bytes = [] }) m k (spans_nothing at k)) i
  where
    spans_nothing : (at k : ℕ) → spans (record { at = at; bytes = [] }) k ≡ false
    spans_nothing at k = elim (cases_lt k at) [
      | inl below ↦ spans_below (record { at = at; bytes = [] }) k below
      | inr past ↦ spans_past (record { at = at; bytes = [] }) k (omega arith)
    ]

-- what linking one word writes
pub link_laid :
    (m body : List ℕ) (b p number : ℕ) → 2 ^ 31 ≤ b → place b + (p + 4) ≤ length m → number ≡ big_at body p → (number ≡ 0 → ⊥) → b + big_at body p < 2 ^ 32 →
    slice_index (laid m (place (b + p)) (bytes_of 4 (b + number))) ≡ patched (moved (place b) (link body b p)) (slice_index m)
link_laid m body b p number above inside is some fits =
    let here : place (b + p) ≡ place b + p = omega arith in
    let word : ℕ → Patch = λ k. record { at = place b + p; bytes = little_bytes 4 (b + k) } in
    ap (λ k. slice_index (laid m k (bytes_of 4 (b + number)))) here
    ∙ ap (λ bs. slice_index (laid m (place b + p) bs)) (same_bytes (b + number))
    ∙ laid_picture m (word number) (omega arith)
    ∙ ap (λ k. patched (word k) (slice_index m)) is
    ∙ ap (λ l. patched (moved (place b) l) (slice_index m)) (sym (link_some body b p (λ zero. some (is ∙ zero)) fits))

pub link_left :
    (m : ℕ → ℕ) (body : List ℕ) (b p number : ℕ) → number ≡ big_at body p → number ≡ 0 → m ≡ patched (moved (place b) (link body b p)) m
link_left m body b p number is none =
    patched_nothing (place b + p) m ∙ ap (λ l. patched (moved (place b) l) m) (sym (link_none body b p (sym is ∙ none)))

pub links_more :
    (body : List ℕ) (b : ℕ) (rs : List ℕ) (i : ℕ) (m w : ℕ → ℕ) → i < length rs → w ≡ patched (moved (place b) (link body b (get_or rs i 0))) m →
    painted (links body b (drop (i + 1) rs)) w ≡ painted (links body b (drop i rs)) m
links_more body b rs i m w below is =
    ap (painted (links body b (drop (i + 1) rs))) is ∙ sym (ap (λ qs. painted (links body b qs) m) (drop_more rs i 0 below))

-- ---- where no link is

-- a link ends where its word ends
pub link_end : (body : List ℕ) (b r : ℕ) → (link body b r).at + length ((link body b r).bytes) ≤ r + 4
unfolding link little_word
link_end body b r = elim (cases_eq (big_at body r) 0) [
  | inl none ↦ rw none (omega arith)
  | inr some ↦ rw (ne_eqb (big_at body r) 0 some) (omega arith)
]

-- behind all recorded words
pub links_past :
    (body : List ℕ) (b : ℕ) (rs : List ℕ) (m : ℕ → ℕ) (e j : ℕ) → ((k : ℕ) → k < length rs → slice_index rs k + 4 ≤ e) → e ≤ j →
    painted (map (link body b) rs) m j ≡ m j
links_past body b [] m e j inside past = refl
links_past body b (r ∷ rs) m e j inside past =
    let first : r + 4 ≤ e = inside 0 (omega arith) in
    let end = link_end body b r in
    links_past body b rs (patched (link body b r) m) e j (λ k below. inside (suc k) (omega arith)) past
    ∙ patched_off (link body b r) m j (spans_past (link body b r) j (omega arith))

-- in memory, below the body
pub links_below : (body : List ℕ) (b : ℕ) (rs : List ℕ) (m : ℕ → ℕ) (i : ℕ) → i < place b → painted (links body b rs) m i ≡ m i
links_below body b [] m i below = refl
links_below body b (r ∷ rs) m i below =
    let p = moved (place b) (link body b r) in
    links_below body b rs (patched p m) i below ∙ patched_off p m i (spans_below p i (omega arith))

-- ---- a patch that is moved on shows the same bytes so many places further

moved_spans : (n : ℕ) (p : Patch) (i : ℕ) → spans (moved n p) (n + i) ≡ spans p i
moved_spans n p i = elim (cases_Bool (spans p i)) [
  | inl on ↦ (let inside = within p i on in spans_within (moved n p) (n + i) (record { from = omega arith; to = omega arith }) ∙ sym on)
  | inr off ↦ false_from_ne_true (spans (moved n p) (n + i)) (λ on. let inside = within (moved n p) (n + i) on in both_ways (spans p i) off (spans_within p i (record { from = omega arith; to = omega arith }))) ∙ sym off
]

patched_moved : (n : ℕ) (p : Patch) (m : ℕ → ℕ) (i : ℕ) → patched (moved n p) m (n + i) ≡ patched p (λ k. m (n + k)) i
patched_moved n p m i =
    let same : n + i - (n + p.at) ≡ i - p.at = omega arith in
    elim (cases_Bool (spans p i)) [
      | inl on ↦ patched_on (moved n p) m (n + i) (moved_spans n p i ∙ on) ∙ ap (λ k. get_or p.bytes k 0) same ∙ sym (patched_on p (λ k. m (n + k)) i on)
      | inr off ↦ patched_off (moved n p) m (n + i) (moved_spans n p i ∙ off) ∙ sym (patched_off p (λ k. m (n + k)) i off)
    ]

pub links_moved :
    (body : List ℕ) (b : ℕ) (rs : List ℕ) (m : ℕ → ℕ) (j : ℕ) →
    painted (links body b rs) m (place b + j) ≡ painted (map (link body b) rs) (λ k. m (place b + k)) j
links_moved body b [] m j = refl
links_moved body b (r ∷ rs) m j =
    let p = link body b r in
    let n = place b in
    links_moved body b rs (patched (moved n p) m) j
    ∙ painted_same (map (link body b) rs) (λ k. patched (moved n p) m (n + k)) (patched p (λ k. m (n + k))) j (patched_moved n p m j)

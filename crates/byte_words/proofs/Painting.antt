-- Bytes under patches.
use Rattle.std.proofs.Common.{◌≡◌, ℕ, ◌+◌, ◌-◌, ◌<◌, ◌≤◌, Bool, true, false, ◌||◌, ltb, leb, List, [], ◌∷◌, length, get_or, refl, sym, ◌∙◌, arith, inl, inr, ◌⊎◌}
use Rattle.std.proofs.lemmas.Bool.{ltb-true, leb-true, lt-ltb, le-ltb, le-leb, lt-leb, and_parts, and_from, and_left, and_right, false≢true, or_parts, or_cases, cases_Bool, both_ways}
use Rattle.std.proofs.lemmas.List.{get_or_past, ext_get_or}
use Rattle.std.proofs.lemmas.List.FromFn.{fill_by_all, length-map-range_with_len, get_or-map-range_with_len}
use Rattle.byte_words.specs.Patches.{Patch, spans, patched, painted, bytes_below}

-- ---- which bytes a patch has

pub record Within (p : Patch) (i : ℕ) : Type 0 where
  pub from : p.at ≤ i
  pub to : i < p.at + length p.bytes

pub within : (p : Patch) (i : ℕ) → spans p i ≡ true → Within p i
unfolding spans
within p i e =
    let both = and_parts (leb p.at i) (ltb i (p.at + length p.bytes)) e in
    record { from = leb-true _ _ both.0; to = ltb-true _ _ both.1 }

pub spans_within : (p : Patch) (i : ℕ) → Within p i → spans p i ≡ true
unfolding spans
spans_within p i h = and_from (leb p.at i) (ltb i (p.at + length p.bytes)) (le-leb _ _ h.from) (lt-ltb _ _ h.to)

pub spans_below : (p : Patch) (i : ℕ) → i < p.at → spans p i ≡ false
unfolding spans
spans_below p i lt = and_left (leb p.at i) (ltb i (p.at + length p.bytes)) (lt-leb _ _ lt)

pub spans_past : (p : Patch) (i : ℕ) → p.at + length p.bytes ≤ i → spans p i ≡ false
unfolding spans
spans_past p i le = and_right (leb p.at i) (ltb i (p.at + length p.bytes)) (le-ltb _ _ le)

pub patched_on : (p : Patch) (m : ℕ → ℕ) (i : ℕ) → spans p i ≡ true → patched p m i ≡ get_or p.bytes (i - p.at) 0
unfolding patched
patched_on p m i e = rw e refl

pub patched_off : (p : Patch) (m : ℕ → ℕ) (i : ℕ) → spans p i ≡ false → patched p m i ≡ m i
unfolding patched
patched_off p m i e = rw e refl

-- ---- bytes of a list

-- the first n bytes of a list are those of its look-up
pub bytes_below_list : (xs : List ℕ) → bytes_below (length xs) (λ i. get_or xs i 0) ≡ xs
unfolding bytes_below
bytes_below_list xs = sym (fill_by_all (λ i. get_or xs i 0) xs (length xs) 0 refl (λ k lt. refl))

pub length-bytes_below : (n : ℕ) (m : ℕ → ℕ) → length (bytes_below n m) ≡ n
unfolding bytes_below
length-bytes_below n m = length-map-range_with_len m 0 n

pub byte_below : (n : ℕ) (m : ℕ → ℕ) (i : ℕ) → i < n → get_or (bytes_below n m) i 0 ≡ m i
unfolding bytes_below
byte_below n m i lt = get_or-map-range_with_len m 0 n i i 0 lt (omega arith)

-- behind them a list has none
pub byte_past : (n : ℕ) (m : ℕ → ℕ) (i : ℕ) → n ≤ i → get_or (bytes_below n m) i 0 ≡ 0
byte_past n m i le = get_or_past (bytes_below n m) i 0 (omega (arith, length-bytes_below n m))

-- two pictures that agree on n bytes have the same first n bytes
pub bytes_below_same : (n : ℕ) (m w : ℕ → ℕ) → ((i : ℕ) → i < n → m i ≡ w i) → bytes_below n m ≡ bytes_below n w
bytes_below_same n m w same =
    ext_get_or 0 (bytes_below n m) (bytes_below n w) (omega (arith, length-bytes_below n m, length-bytes_below n w))
    (λ i lt. let below : i < n = omega (arith, length-bytes_below n m) in byte_below n m i below ∙ same i below ∙ sym (byte_below n w i below))

-- ---- many patches

-- some patch of the list has a byte at i
abbrev pub is_spanned : List Patch → ℕ → Bool
is_spanned [] i = false
is_spanned (p ∷ ps) i = spans p i || is_spanned ps i

-- each patch that has a byte at i has v there
abbrev pub AllShow : List Patch → ℕ → ℕ → Type 0
AllShow [] i v = Unit {0}
AllShow (p ∷ ps) i v = (spans p i ≡ true → get_or p.bytes (i - p.at) 0 ≡ v) × AllShow ps i v

pub painted_none : (ps : List Patch) (m : ℕ → ℕ) (i : ℕ) → is_spanned ps i ≡ false → painted ps m i ≡ m i
painted_none [] m i none = refl
painted_none (p ∷ ps) m i none =
    let both = or_parts (spans p i) (is_spanned ps i) none in
    painted_none ps (patched p m) i both.1 ∙ patched_off p m i both.0

-- the byte at i is v where all patches there have v, and v was there or some patch is there
pub painted_at : (ps : List Patch) (m : ℕ → ℕ) (i v : ℕ) → AllShow ps i v → (m i ≡ v) ⊎ (is_spanned ps i ≡ true) → painted ps m i ≡ v
painted_at [] m i v show known = elim known [
  | inl was ↦ was
  | inr spanned ↦ absurd (false≢true spanned)
]
painted_at (p ∷ ps) m i v show known = elim (cases_Bool (spans p i)) [
  | inl on ↦ painted_at ps (patched p m) i v show.1 (inl (patched_on p m i on ∙ show.0 on))
  | inr off ↦ painted_at ps (patched p m) i v show.1 (still p ps m i v off known)
]
  where
    still : (p : Patch) (ps : List Patch) (m : ℕ → ℕ) (i v : ℕ) → spans p i ≡ false → (m i ≡ v) ⊎ (is_spanned (p ∷ ps) i ≡ true) → (patched p m i ≡ v) ⊎ (is_spanned ps i ≡ true)
    still p ps m i v off known = elim known [
      | inl was ↦ inl (patched_off p m i off ∙ was)
      | inr spanned ↦ elim (or_cases (spans p i) (is_spanned ps i) spanned) [
        | inl on ↦ absurd (both_ways (spans p i) off on)
        | inr later ↦ inr later
      ]
    ]

-- two pictures that agree at a byte agree there after the same patches
patched_same : (p : Patch) (m w : ℕ → ℕ) (i : ℕ) → m i ≡ w i → patched p m i ≡ patched p w i
unfolding patched
patched_same p m w i same = rw same refl

pub painted_same : (ps : List Patch) (m w : ℕ → ℕ) (i : ℕ) → m i ≡ w i → painted ps m i ≡ painted ps w i
painted_same [] m w i same = same
painted_same (p ∷ ps) m w i same = painted_same ps (patched p m) (patched p w) i (patched_same p m w i same)

-- Words that are linked, without a word of where they come from: places ps, the number `target p` that each place
-- points at, and the bytes `bare` under them. A flat file's body has the numbers big-endian, a loaded image has the
-- addresses little-endian.
use Rattle.std.proofs.Common.{◌≡◌, ℕ, ◌+◌, ◌-◌, ◌%◌, ◌^◌, ◌<◌, ◌≤◌, true, false, eqb, ltb, leb, List, [], ◌∷◌, ◌++◌, length, map, get_or, refl, sym, ap, ◌∙◌, arith, inl, inr, ◌⊎◌}
use Rattle.std.proofs.lemmas.Bool.{cases_Bool, cases_lt, and_parts, and_from, leb-true, ltb-true, le-leb, lt-ltb, ne_eqb, eqb-true, eq-eqb, or_left, or_right, or_cases, or_from, false≢true, false_from_ne_true}
use Rattle.std.proofs.lemmas.List.{append-nil}
use Rattle.byteorder.specs.Endian.{big_bytes}
use Rattle.bflt_format.specs.Numbers.{big_at}
use Rattle.byte_words.specs.Patches.{Patch, spans, painted, bytes_below, from_base, big_word, little_word}
use Rattle.bflt_format.specs.Values.{Values, stored, image_size}
use Rattle.bflt_format.specs.Fault.{is_near}
use Rattle.bflt_format.specs.Image.{link, flat_image}
use Rattle.bflt_format.proofs.BigWords.{big_at_same, big_at_bytes}
use Rattle.bflt_format.proofs.Overlap.{covers}
use Rattle.byte_words.proofs.Painting.{AllShow, is_spanned, painted_at, painted_none, byte_below, byte_past, bytes_below_same}
use Rattle.bflt_format.proofs.Rising.{has, has_at, Rises, rises_at, length-rises_below}

-- ---- one patch for each place of a list

shows : (f : ℕ → Patch) (ps : List ℕ) (i v : ℕ) → ((p : ℕ) → has ps p ≡ true → spans (f p) i ≡ true → get_or (f p).bytes (i - (f p).at) 0 ≡ v) → AllShow (map f ps) i v
shows f [] i v each = tt
shows f (p ∷ ps) i v each =
    (each p (or_left (eqb p p) (has ps p) (eq-eqb p p refl)), shows f ps i v (λ q member. each q (or_right (eqb p q) (has ps q) member)))

spanned : (f : ℕ → Patch) (ps : List ℕ) (i x : ℕ) → has ps x ≡ true → spans (f x) i ≡ true → is_spanned (map f ps) i ≡ true
spanned f [] i x member on = absurd (false≢true member)
spanned f (p ∷ ps) i x member on = elim (or_cases (eqb p x) (has ps x) member) [
  | inl here ↦ or_left (spans (f p) i) (is_spanned (map f ps) i) (ap (λ q. spans (f q) i) (eqb-true p x here) ∙ on)
  | inr later ↦ or_right (spans (f p) i) (is_spanned (map f ps) i) (spanned f ps i x later on)
]

unspanned : (f : ℕ → Patch) (ps : List ℕ) (i : ℕ) → ((p : ℕ) → has ps p ≡ true → spans (f p) i ≡ false) → is_spanned (map f ps) i ≡ false
unspanned f [] i each = refl
unspanned f (p ∷ ps) i each =
    or_from (spans (f p) i) (is_spanned (map f ps) i) (each p (or_left (eqb p p) (has ps p) (eq-eqb p p refl))) (unspanned f ps i (λ q member. each q (or_right (eqb p q) (has ps q) member)))

-- the byte at i is that of the only place whose patch is there
pub word_at : (f : ℕ → Patch) (ps : List ℕ) (m : ℕ → ℕ) (i x : ℕ) → has ps x ≡ true → spans (f x) i ≡ true → ((p : ℕ) → has ps p ≡ true → spans (f p) i ≡ true → p ≡ x)
    → painted (map f ps) m i ≡ get_or (f x).bytes (i - (f x).at) 0
word_at f ps m i x member on only =
    painted_at (map f ps) m i (get_or (f x).bytes (i - (f x).at) 0)
    (shows f ps i (get_or (f x).bytes (i - (f x).at) 0) (λ p there spans_it. ap (λ q. get_or (f q).bytes (i - (f q).at) 0) (only p there spans_it)))
    (inr (spanned f ps i x member on))

pub word_none : (f : ℕ → Patch) (ps : List ℕ) (m : ℕ → ℕ) (i : ℕ) → ((p : ℕ) → has ps p ≡ true → spans (f p) i ≡ false) → painted (map f ps) m i ≡ m i
word_none f ps m i each = painted_none (map f ps) m i (unspanned f ps i each)

-- ---- places

-- a place of the list whose word has the byte at i
pub record CoveredBy (ps : List ℕ) (i : ℕ) : Type 0 where
  pub place : ℕ
  pub member : has ps place ≡ true
  pub covered : covers place i ≡ true

pub find_cover : (ps : List ℕ) (i : ℕ) → CoveredBy ps i ⊎ ((p : ℕ) → has ps p ≡ true → covers p i ≡ false)
find_cover [] i = inr (λ p member. absurd (false≢true member))
find_cover (p ∷ ps) i = elim (cases_Bool (covers p i)) [
  | inl on ↦ inl (record { place = p; member = or_left (eqb p p) (has ps p) (eq-eqb p p refl); covered = on })
  | inr off ↦ elim (find_cover ps i) [
    | inl found ↦ inl (record { place = found.place; member = or_right (eqb p found.place) (has ps found.place) found.member; covered = found.covered })
    | inr none ↦ inr (λ q member. elim (or_cases (eqb p q) (has ps q) member) [
      | inl here ↦ ap (λ r. covers r i) (sym (eqb-true p q here)) ∙ off
      | inr later ↦ none q later
    ])
  ]
]

near_by_byte : (p q i : ℕ) → covers p i ≡ true → covers q i ≡ true → is_near p q ≡ true
unfolding is_near
near_by_byte p q i cover_p cover_q =
    let at_p = and_parts (leb p i) (ltb i (p + 4)) cover_p in
    let at_q = and_parts (leb q i) (ltb i (q + 4)) cover_q in
    let p_from = leb-true p i at_p.0 in
    let p_to = ltb-true i (p + 4) at_p.1 in
    let q_from = leb-true q i at_q.0 in
    let q_to = ltb-true i (q + 4) at_q.1 in
    let first : p < q + 4 = omega arith in
    let second : q < p + 4 = omega arith in
    and_from (ltb p (q + 4)) (ltb q (p + 4)) (lt-ltb _ _ first) (lt-ltb _ _ second)

-- the words at ps, in `size` bytes: equal or apart, inside, and pointing at numbers above 0 that fit a word
pub record AreWords (target : ℕ → ℕ) (ps : List ℕ) (size : ℕ) : Type 0 where
  pub apart : (p q : ℕ) → has ps p ≡ true → has ps q ≡ true → is_near p q ≡ true → p ≡ q
  pub inside : (p : ℕ) → has ps p ≡ true → p + 4 ≤ size
  pub above : (p : ℕ) → has ps p ≡ true → 0 < target p
  pub fits : (p : ℕ) → has ps p ≡ true → target p < 2 ^ 32

-- ---- the body of a flat file

abbrev pub numbered : (ℕ → ℕ) → ℕ → Patch
numbered target p = big_word p (target p)

abbrev pub body_of : (ℕ → ℕ) → List ℕ → (ℕ → ℕ) → ℕ → List ℕ
body_of target ps bare size = bytes_below size (painted (map (numbered target) ps) bare)

abbrev pub addressed : (ℕ → ℕ) → ℕ → ℕ → Patch
addressed target b p = little_word p ((b + target p) % 2 ^ 32)

numbered_covers : (target : ℕ → ℕ) (p i : ℕ) → spans (numbered target p) i ≡ covers p i
unfolding spans big_word
numbered_covers target p i = refl

addressed_covers : (target : ℕ → ℕ) (b p i : ℕ) → spans (addressed target b p) i ≡ covers p i
unfolding spans little_word
addressed_covers target b p i = refl

covers_from : (x j : ℕ) → j < 4 → covers x (x + j) ≡ true
covers_from x j lt =
    let from : x ≤ x + j = omega arith in
    let to : x + j < x + 4 = omega arith in
    and_from (leb x (x + j)) (ltb (x + j) (x + 4)) (le-leb _ _ from) (lt-ltb _ _ to)

numbered_byte : (target : ℕ → ℕ) (x j : ℕ) → get_or (numbered target x).bytes ((x + j) - (numbered target x).at) 0 ≡ get_or (big_bytes 4 (target x)) j 0
unfolding big_word
numbered_byte target x j = ap (λ k. get_or (big_bytes 4 (target x)) k 0) (let e : (x + j) - x ≡ j = omega arith in e)

body_byte : (target : ℕ → ℕ) (ps : List ℕ) (bare : ℕ → ℕ) (size : ℕ) → AreWords target ps size → (x j : ℕ) → has ps x ≡ true → j < 4
    → get_or (body_of target ps bare size) (x + j) 0 ≡ get_or (big_bytes 4 (target x)) j 0
body_byte target ps bare size words x j member lt =
    byte_below size (painted (map (numbered target) ps) bare) (x + j) (omega (arith, words.inside x member))
    ∙ word_at (numbered target) ps bare (x + j) x member (numbered_covers target x (x + j) ∙ covers_from x j lt)
    (λ p there on. words.apart p x there member (near_by_byte p x (x + j) (sym (numbered_covers target p (x + j)) ∙ on) (covers_from x j lt)))
    ∙ numbered_byte target x j

-- the big-endian word at a place is the number that the place points at
pub body_number : (target : ℕ → ℕ) (ps : List ℕ) (bare : ℕ → ℕ) (size : ℕ) → AreWords target ps size → (x : ℕ) → has ps x ≡ true → big_at (body_of target ps bare size) x ≡ target x
body_number target ps bare size words x member =
    let text = big_bytes 4 (target x) in
    let word : big_at (body_of target ps bare size) x ≡ big_at (text ++ []) 0 =
    big_at_same (body_of target ps bare size) x (text ++ []) 0
    (λ j lt. body_byte target ps bare size words x j member lt ∙ ap (λ k. get_or text k 0) (let e : j ≡ 0 + j = omega arith in e) ∙ ap (λ y. get_or y (0 + j) 0) (sym (append-nil text))) in
    omega (arith, word, big_at_bytes (target x) [], words.fits x member)

-- the body goes by the members of the list alone
pub same_body : (target : ℕ → ℕ) (ps qs : List ℕ) (bare : ℕ → ℕ) (size : ℕ) → AreWords target ps size → ((x : ℕ) → has qs x ≡ has ps x) → body_of target qs bare size ≡ body_of target ps bare size
same_body target ps qs bare size words members =
    bytes_below_same size (painted (map (numbered target) qs) bare) (painted (map (numbered target) ps) bare) (λ i below. elim (find_cover ps i) [
      | inl found ↦
          let x = found.place in
          word_at (numbered target) qs bare i x (members x ∙ found.member) (numbered_covers target x i ∙ found.covered)
          (λ p there on. words.apart p x (sym (members p) ∙ there) found.member (near_by_byte p x i (sym (numbered_covers target p i) ∙ on) found.covered))
          ∙ sym (word_at (numbered target) ps bare i x found.member (numbered_covers target x i ∙ found.covered)
          (λ p there on. words.apart p x there found.member (near_by_byte p x i (sym (numbered_covers target p i) ∙ on) found.covered)))
      | inr none ↦
          word_none (numbered target) qs bare i (λ p there. numbered_covers target p i ∙ none p (sym (members p) ∙ there))
          ∙ sym (word_none (numbered target) ps bare i (λ p there. numbered_covers target p i ∙ none p there))
    ])

-- ---- the loaded image

link_word : (body : List ℕ) (b r n : ℕ) → big_at body r ≡ n → 0 < n → link body b r ≡ little_word r ((b + n) % 2 ^ 32)
unfolding link
link_word body b r n is above = rw (is, ne_eqb n 0 (λ e. absurd (omega arith))) refl

-- linking the body over qs, which has the members of ps, gives the addresses at ps
pub same_byte : (target : ℕ → ℕ) (ps qs : List ℕ) (bare : ℕ → ℕ) (size b : ℕ) → AreWords target ps size → ((x : ℕ) → has qs x ≡ has ps x) → ((i : ℕ) → size ≤ i → bare i ≡ 0) → (i : ℕ)
    → painted (map (link (body_of target ps bare size) b) qs) (λ k. get_or (body_of target ps bare size) k 0) i ≡ painted (map (addressed target b) ps) bare i
same_byte target ps qs bare size b words members zero_past i =
    elim (find_cover ps i) [
      | inl found ↦
          let x = found.place in
          let left = word_at (link body b) qs held i x (members x ∙ found.member) (ap (λ p. spans p i) (linked x found.member) ∙ addressed_covers target b x i ∙ found.covered)
          (λ p there on. words.apart p x (sym (members p) ∙ there) found.member (near_by_byte p x i (sym (addressed_covers target b p i) ∙ ap (λ q. spans q i) (sym (linked p (sym (members p) ∙ there))) ∙ on) found.covered)) in
          let right = word_at (addressed target b) ps bare i x found.member (addressed_covers target b x i ∙ found.covered)
          (λ p there on. words.apart p x there found.member (near_by_byte p x i (sym (addressed_covers target b p i) ∙ on) found.covered)) in
          left ∙ ap (λ q. get_or q.bytes (i - q.at) 0) (linked x found.member) ∙ sym right
      | inr none ↦
          let left = word_none (link body b) qs held i (λ p there. ap (λ q. spans q i) (linked p (sym (members p) ∙ there)) ∙ addressed_covers target b p i ∙ none p (sym (members p) ∙ there)) in
          let right = word_none (addressed target b) ps bare i (λ p there. addressed_covers target b p i ∙ none p there) in
          left ∙ under none ∙ sym right
    ]
  where
    body : List ℕ
    body = body_of target ps bare size

    held : ℕ → ℕ
    held k = get_or body k 0

    linked : (x : ℕ) → has ps x ≡ true → link body b x ≡ addressed target b x
    linked x member = link_word body b x (target x) (body_number target ps bare size words x member) (words.above x member)

    under : ((p : ℕ) → has ps p ≡ true → covers p i ≡ false) → held i ≡ bare i
    under none = elim (cases_lt i size) [
      | inl lt ↦ byte_below size (painted (map (numbered target) ps) bare) i lt ∙ word_none (numbered target) ps bare i (λ p there. numbered_covers target p i ∙ none p there)
      | inr past ↦ byte_past size (painted (map (numbered target) ps) bare) i past ∙ sym (zero_past i past)
    ]

-- the image of a flat file with this body, whose records have the members of ps
pub same_image : (target : ℕ → ℕ) (ps : List ℕ) (bare : ℕ → ℕ) (b : ℕ) (f : Values) → AreWords target ps (stored f) → ((x : ℕ) → has f.records x ≡ has ps x) → ((i : ℕ) → stored f ≤ i → bare i ≡ 0)
    → f.body ≡ body_of target ps bare (stored f) → flat_image f b ≡ from_base b (image_size f) (painted (map (addressed target b) ps) bare)
unfolding flat_image
same_image target ps bare b f words members zero_past body =
    ap (λ y. from_base b (image_size f) (painted (map (link y b) f.records) (λ k. get_or y k 0))) body
    ∙ ap (from_base b (image_size f)) (λ i k. same_byte target ps f.records bare (stored f) b words members zero_past k i)

-- ---- a file made of words

-- what its records need, where they are ascending and are the places
pub record HasRecords (f : Values) : Type 0 where
  pub count : length f.records < 2 ^ 32
  pub inside : (k : ℕ) → k < length f.records → get_or f.records k 0 + 4 ≤ stored f
  pub apart : (j k : ℕ) → j < k → k < length f.records → is_near (get_or f.records j 0) (get_or f.records k 0) ≡ false
  pub targets : (k : ℕ) → k < length f.records → big_at f.body (get_or f.records k 0) ≤ image_size f

pub has_records : (target : ℕ → ℕ) (ps : List ℕ) (bare : ℕ → ℕ) (f : Values) → AreWords target ps (stored f) → ((p : ℕ) → has ps p ≡ true → target p ≤ image_size f) → stored f < 2 ^ 32
    → f.body ≡ body_of target ps bare (stored f) → Rises f.records → ((x : ℕ) → has f.records x ≡ has ps x) → HasRecords f
has_records target ps bare f words bound small body rises members = record {
  count = omega (arith, length-rises_below (stored f) f.records rises (λ x there. omega (arith, words.inside x (sym (members x) ∙ there))));
  inside = λ k lt. words.inside (get_or f.records k 0) (member k lt);
  apart = λ j k before lt. false_from_ne_true (is_near (get_or f.records j 0) (get_or f.records k 0))
      (λ near. let same = words.apart (get_or f.records j 0) (get_or f.records k 0) (member j (omega arith)) (member k lt) near in absurd (omega (arith, same, rises_at f.records j k rises before lt)));
  targets = λ k lt. rw body (omega (arith, body_number target ps bare (stored f) words (get_or f.records k 0) (member k lt), bound (get_or f.records k 0) (member k lt)));
}
  where
    member : (k : ℕ) → k < length f.records → has ps (get_or f.records k 0) ≡ true
    member k lt = sym (members (get_or f.records k 0)) ∙ has_at f.records k lt

-- The memory after each record: behind the header it is the body with as many links.
use Rattle.std.proofs.Common.{◌≡◌, ℕ, zero, suc, ◌+◌, ◌-◌, ◌*◌, ◌%◌, ◌^◌, ◌<◌, ◌≤◌, true, false, ◌==◌, leb, ltb, List, [], ◌∷◌, length, map, take, drop, get_or, Some, refl, sym, ap, ◌∙◌, arith, inl, inr}
use Rattle.std.specs.List.{range_with_len}
use Rattle.std.proofs.lemmas.Bool.{cases_Bool, cases_lt, and_from, and_parts, leb-true, ltb-true, false_from_ne_true, le-leb, lt-ltb, both_ways}
use Rattle.std.proofs.lemmas.List.{length-take, get_or-take, get_or-drop}
use Rattle.std.proofs.lemmas.List.FromFn.{length-map-range_with_len, get_or-map-range_with_len}
use Rattle.byte_words.specs.Patches.{Patch, spans, patched, painted, little_word}
use Rattle.byte_words.proofs.Painting.{spans_within, spans_below, spans_past, patched_on, patched_off}
use Rattle.bflt_format.specs.Numbers.{big_at}
use Rattle.bflt_format.specs.Values.{Values, stored, image_size}
use Rattle.bflt_format.specs.Header.{data_end, bss_end, reloc_count, record_at, flat_values}
use Rattle.bflt_format.specs.Fault.{is_near, IsHeader}
use Rattle.bflt_format.specs.Spelling.{Spells}
use Rattle.bflt_format.specs.Image.{link}
use Rattle.bflt_format.proofs.Links.{word_none}
use Rattle.bflt_format.proofs.Overlap.{covers}
use Rattle.bflt_format.proofs.Rising.{stands_in}
use Rattle.linux_loader.specs.Numbers.{word}
use Rattle.linux_loader.specs.Loader.{read_in, calc_reloc, record_place, relocated, relocated_by, memory_after}
use Rattle.linux_loader.specs.Laws.{IsForLinux}
use Rattle.linux_loader.proofs.Reading.{IsReady, read_byte, word_is, calc_small, record_place_is}

-- ---- patches that stand c further

pub shifted_same : (c r v : ℕ) (m w : ℕ → ℕ) (j : ℕ) → m (c + j) ≡ w j → patched (little_word (c + r) v) m (c + j) ≡ patched (little_word r v) w j
unfolding little_word
shifted_same c r v m w j same = elim (cases_lt j r) [
  | inl before ↦
      patched_off (little_word (c + r) v) m (c + j) (spans_below (little_word (c + r) v) (c + j) (omega arith)) ∙ same
      ∙ sym (patched_off (little_word r v) w j (spans_below (little_word r v) j (omega arith)))
  | inr from ↦ elim (cases_lt j (r + 4)) [
    | inl to ↦
        let places : (c + j) - (c + r) ≡ j - r = omega arith in
        patched_on (little_word (c + r) v) m (c + j) (spans_within (little_word (c + r) v) (c + j) (record { from = omega arith; to = omega arith }))
        ∙ ap (λ i. get_or (little_word r v).bytes i 0) places
        ∙ sym (patched_on (little_word r v) w j (spans_within (little_word r v) j (record { from = from; to = to })))
    | inr past ↦
        patched_off (little_word (c + r) v) m (c + j) (spans_past (little_word (c + r) v) (c + j) (omega arith)) ∙ same
        ∙ sym (patched_off (little_word r v) w j (spans_past (little_word r v) j past))
  ]
]

past_word : (r v : ℕ) (m : ℕ → ℕ) (a : ℕ) → r + 4 ≤ a → patched (little_word r v) m a ≡ m a
unfolding little_word
past_word r v m a past = patched_off (little_word r v) m a (spans_past (little_word r v) a past)

-- a patch more
painted_next : (f : ℕ → Patch) (rs : List ℕ) (n : ℕ) (m : ℕ → ℕ) → n < length rs
    → painted (map f (take (suc n) rs)) m ≡ patched (f (get_or rs n 0)) (painted (map f (take n rs)) m)
painted_next f [] n m lt = absurd (omega arith)
painted_next f (r ∷ rs) zero m lt = refl
painted_next f (r ∷ rs) (suc n) m lt = painted_next f rs n (patched (f r) m) (omega arith)

-- ---- links

link_zero : (body : List ℕ) (b r : ℕ) → big_at body r == 0 ≡ true → link body b r ≡ record { at = r; bytes = [] }
unfolding link
link_zero body b r is = rw is refl

pub link_word : (body : List ℕ) (b r : ℕ) → big_at body r == 0 ≡ false → link body b r ≡ little_word r ((b + big_at body r) % 2 ^ 32)
unfolding link
link_word body b r is = rw is refl

no_bytes : (r i : ℕ) → spans (record { at = r; bytes = [] }) i ≡ false
no_bytes r i = elim (cases_lt i r) [
  | inl before ↦ spans_below (record { at = r; bytes = [] }) i before
  | inr from ↦ spans_past (record { at = r; bytes = [] }) i (omega arith)
]

word_covers : (r v i : ℕ) → spans (little_word r v) i ≡ covers r i
unfolding spans little_word
word_covers r v i = refl

-- a byte that a record's word doesn't have isn't in its link
pub link_off : (body : List ℕ) (b r i : ℕ) → covers r i ≡ false → spans (link body b r) i ≡ false
link_off body b r i off = elim (cases_Bool (big_at body r == 0)) [
  | inl is ↦ ap (λ p. spans p i) (link_zero body b r is) ∙ no_bytes r i
  | inr not_zero ↦ ap (λ p. spans p i) (link_word body b r not_zero) ∙ word_covers r _ i ∙ off
]

-- ---- what the file says

pub record Says (y : List ℕ) (f : Values) : Type 0 where
  pub body : f.body ≡ take (data_end y - 64) (drop 64 y)
  pub records : f.records ≡ map (record_at y) (range_with_len 0 (reloc_count y))
  pub stored : stored f ≡ data_end y - 64
  pub size : image_size f ≡ bss_end y - 64

pub says : (y : List ℕ) → IsHeader y → Says y (flat_values y)
unfolding flat_values
says y h = record {
  body = refl;
  records = refl;
  stored = omega (arith, h.text, h.in_order);
  size = omega (arith, h.text, h.in_order, h.bss);
}

body_byte : (y : List ℕ) (f : Values) → Says y f → (j : ℕ) → j < stored f → get_or f.body j 0 ≡ get_or y (64 + j) 0
body_byte y f s j lt =
    ap (λ bytes. get_or bytes j 0) s.body ∙ get_or-take (data_end y - 64) (drop 64 y) j 0 (omega (arith, s.stored)) ∙ get_or-drop 64 y j 0

pub count_is : (y : List ℕ) (f : Values) → Says y f → length f.records ≡ reloc_count y
count_is y f s = ap length s.records ∙ length-map-range_with_len (record_at y) 0 (reloc_count y)

record_is : (y : List ℕ) (f : Values) → Says y f → IsForLinux y → (n : ℕ) → n < reloc_count y → get_or f.records n 0 ≡ big_at y (data_end y + 4 * n)
record_is y f s for n lt =
    ap (λ rs. get_or rs n 0) s.records ∙ get_or-map-range_with_len (record_at y) 0 (reloc_count y) n n 0 lt (omega arith)
    ∙ ap (λ start. big_at y (start + 4 * n)) (for.records (omega arith))

-- ---- the memory after n records

abbrev pub linked : Values → ℕ → ℕ → ℕ → ℕ
linked f b n = painted (map (link f.body b) (take n f.records)) (λ i. get_or f.body i 0)

-- two words that have a byte in common are near
near_by_byte : (p q i : ℕ) → covers p i ≡ true → covers q i ≡ true → is_near p q ≡ true
unfolding is_near
near_by_byte p q i cover_p cover_q =
    let at_p = and_parts (leb p i) (ltb i (p + 4)) cover_p in
    let at_q = and_parts (leb q i) (ltb i (q + 4)) cover_q in
    let p_from = leb-true p i at_p.0 in
    let p_to = ltb-true i (p + 4) at_p.1 in
    let q_from = leb-true q i at_q.0 in
    let q_to = ltb-true i (q + 4) at_q.1 in
    let first : p < q + 4 = omega arith in
    let second : q < p + 4 = omega arith in
    and_from (ltb p (q + 4)) (ltb q (p + 4)) (lt-ltb _ _ first) (lt-ltb _ _ second)

-- the links before record n leave its word
before_off : (f : Values) → Spells f → (b n i : ℕ) → n < length f.records → i < 4 → linked f b n (get_or f.records n 0 + i) ≡ get_or f.body (get_or f.records n 0 + i) 0
before_off f s b n i lt small =
    let r = get_or f.records n 0 in
    word_none (link f.body b) (take n f.records) (λ k. get_or f.body k 0) (r + i) (λ p there. link_off f.body b p (r + i) (false_from_ne_true (covers p (r + i)) (λ on.
    let stands = stands_in (take n f.records) p there in
    let at : stands.at < n = omega (arith, stands.below, length-take n f.records) in
    let is : get_or f.records stands.at 0 ≡ p = sym (get_or-take n f.records stands.at 0 at) ∙ stands.is in
    let near = near_by_byte p r (r + i) on (covers_own r i small) in
    both_ways (is_near (get_or f.records stands.at 0) r) (s.apart stands.at n at lt) (ap (λ q. is_near q r) is ∙ near))))
  where
    covers_own : (r i : ℕ) → i < 4 → covers r (r + i) ≡ true
    covers_own r i lt = and_from _ _ (le-leb r (r + i) (omega arith)) (lt-ltb (r + i) (r + 4) (omega arith))

pub record Reached (y : List ℕ) (k : ℕ) (f : Values) (n : ℕ) : Type 0 where
  pub memory : ℕ → ℕ
  pub is : memory_after y k n ≡ Some memory
  pub body : (j : ℕ) → j < stored f → memory (k + 64 + j) ≡ linked f (k + 64) n j
  pub table : (j : ℕ) → j < 4 * reloc_count y → memory (k + (data_end y + j)) ≡ get_or y (data_end y + j) 0

reached_first : (y : List ℕ) (args k : ℕ) (f : Values) → IsReady y args k → IsForLinux y → Says y f → Reached y k f 0
unfolding memory_after
reached_first y args k f r for s = record {
  memory = read_in y k;
  is = refl;
  body = λ j lt.
      let there : k + 64 + j ≡ k + (64 + j) = omega arith in
      ap (read_in y k) there ∙ read_byte y args k (64 + j) r for (omega (arith, s.stored)) ∙ sym (body_byte y f s j lt);
  table = λ j lt. read_byte y args k (data_end y + j) r for (omega arith);
}

-- the number at record n, in memory and in the body
record_word : (y : List ℕ) (args k : ℕ) (f : Values) (n : ℕ) → IsReady y args k → IsForLinux y → Says y f → (x : Reached y k f n) → n < reloc_count y → word x.memory (record_place y k n) ≡ get_or f.records n 0
record_word y args k f n r for s x lt =
    ap (word x.memory) (record_place_is y args k n r for lt)
    ∙ word_is x.memory (k + (data_end y + 4 * n)) y (data_end y + 4 * n) (λ i small.
    let there : k + (data_end y + 4 * n) + i ≡ k + (data_end y + (4 * n + i)) = omega arith in
    let here : data_end y + (4 * n + i) ≡ data_end y + 4 * n + i = omega arith in
    ap x.memory there ∙ x.table (4 * n + i) (omega arith) ∙ ap (λ p. get_or y p 0) here)
    ∙ sym (record_is y f s for n lt)

pointer_word : (y : List ℕ) (k : ℕ) (f : Values) (n : ℕ) → Spells f → (x : Reached y k f n) → n < length f.records → word x.memory (k + 64 + get_or f.records n 0) ≡ big_at f.body (get_or f.records n 0)
pointer_word y k f n spells x lt =
    let r = get_or f.records n 0 in
    let inside = spells.inside n lt in
    word_is x.memory (k + 64 + r) f.body r (λ i small.
    let there : k + 64 + r + i ≡ k + 64 + (r + i) = omega arith in
    ap x.memory there ∙ x.body (r + i) (omega arith) ∙ before_off f spells (k + 64) n i lt small)

-- one record: what it finds is known
one_record : (y : List ℕ) (k a n : ℕ) (m : ℕ → ℕ) → word m a ≡ n → (n == 0) ≡ true → relocated y k (Some a) m ≡ Some m
one_record y k a n m is zero_word = rw (is, zero_word) refl

one_address : (y : List ℕ) (k a n b : ℕ) (m : ℕ → ℕ) → word m a ≡ n → (n == 0) ≡ false → calc_reloc y k n ≡ Some b → relocated y k (Some a) m ≡ Some (patched (little_word a b) m)
one_address y k a n b m is above calc = rw (is, above, calc) refl

after_one : (y : List ℕ) (k n r a : ℕ) (m : ℕ → ℕ) → memory_after y k n ≡ Some m → word m (record_place y k n) ≡ r → calc_reloc y k r ≡ Some a → memory_after y k (suc n) ≡ relocated y k (Some a) m
unfolding memory_after
after_one y k n r a m is found calc = ap (relocated_by y k n) is ∙ ap (λ w. relocated y k (calc_reloc y k w) m) found ∙ ap (λ place. relocated y k place m) calc

reached_next : (y : List ℕ) (args k : ℕ) (f : Values) (n : ℕ) → IsReady y args k → IsForLinux y → Says y f → Spells f → n < reloc_count y → Reached y k f n → Reached y k f (suc n)
reached_next y args k f n ready for s spells lt x =
    let r = get_or f.records n 0 in
    let b = k + 64 in
    let below : n < length f.records = omega (arith, count_is y f s) in
    let inside = spells.inside n below in
    let target = spells.targets n below in
    let place : (b + r) % 2 ^ 32 ≡ b + r = omega (arith, s.stored, ready.read_room, ready.end, ready.header.text, ready.header.in_order) in
    let first : calc_reloc y k r ≡ Some (b + r) = calc_small y args k r ready (omega (arith, s.stored, ready.header.in_order, ready.header.bss)) ∙ ap Some place in
    let number = pointer_word y k f n spells x below in
    let one = after_one y k n r (b + r) x.memory x.is (record_word y args k f n ready for s x lt) first in
    let more = painted_next (link f.body b) f.records n (λ i. get_or f.body i 0) below in
    elim (cases_Bool (big_at f.body r == 0)) [
      | inl is ↦ record {
        memory = x.memory;
        is = one ∙ one_record y k (b + r) (big_at f.body r) x.memory number is;
        body = λ j lt. x.body j lt ∙ sym (ap (λ m. m j) more ∙ patched_off (link f.body b r) (linked f b n) j (ap (λ p. spans p j) (link_zero f.body b r is) ∙ no_bytes r j));
        table = x.table;
      }
      | inr above ↦
          let v = (b + big_at f.body r) % 2 ^ 32 in
          let second : calc_reloc y k (big_at f.body r) ≡ Some v = calc_small y args k (big_at f.body r) ready (omega (arith, s.size)) in
          record {
            memory = patched (little_word (b + r) v) x.memory;
            is = one ∙ one_address y k (b + r) (big_at f.body r) v x.memory number above second;
            body = λ j lt. shifted_same b r v x.memory (linked f b n) j (x.body j lt) ∙ sym (ap (λ m. m j) more ∙ ap (λ p. patched p (linked f b n) j) (link_word f.body b r above));
            table = λ j lt. past_word (b + r) v x.memory (k + (data_end y + j)) (omega (arith, s.stored, ready.header.text, ready.header.in_order)) ∙ x.table j lt;
          }
    ]

pub reached : (y : List ℕ) (args k : ℕ) (f : Values) (n : ℕ) → IsReady y args k → IsForLinux y → Says y f → Spells f → n ≤ reloc_count y → Reached y k f n
reached y args k f zero ready for s spells le = reached_first y args k f ready for s
reached y args k f (suc n) ready for s spells le = reached_next y args k f n ready for s spells (omega arith) (reached y args k f n ready for s spells (omega arith))

-- A range more: where it may lie, its table and its bytes.
use Rattle.std.proofs.Common.{◌≡◌, ◌≢◌, ℕ, zero, suc, ◌+◌, ◌-◌, ◌*◌, ◌/◌, ◌%◌, ◌^◌, ◌<◌, ◌≤◌, ◌⊎◌, Bool, true, false, not, inl, inr, List, [], ◌∷◌, ◌++◌, length, take, drop, replicate, Option, Some, None, get_or, refl, sym, ap, subst, ◌∙◌, arith}
use Rattle.std.specs.Prelude.{slice_get, slice_index, slice_range, option_map, ◌==◌, ◌||◌, ◌&&◌, nat_le, if◌then◌else◌}
use Rattle.std.specs.List.{list_any}
use Rattle.std.proofs.lemmas.Bool.{cases_Bool, cases_eq, cases_lt, eq-eqb, ne_eqb, le-leb, and_parts, and_from, false≢true}
use Rattle.std.proofs.lemmas.Bool.Decides.{nat_tests}
use Rattle.std.proofs.lemmas.Option.{same_Some, slice_get-get_or}
use Rattle.std.proofs.lemmas.List.{map-append, take-append-drop, length-take, length-drop, length-replicate}
use Rattle.std.proofs.lemmas.List.Sums.{count_by-le-length}
use Rattle.std.proofs.lemmas.List.Folds.{list_any-append}
use Rattle.byte_words.specs.ByteMap.{Bytes, with_bytes}
use Rattle.byte_words.specs.Patches.{laid}
use Rattle.byte_words.proofs.ByteArrays.{byte_of-laid}
use Rattle.byte_words.proofs.Laid.{length-laid}
use Rattle.mmap_rules.specs.declared.mapping.Range.{Range}
use Rattle.mmap_rules.specs.declared.mapping.Mapping.{Mapping}
use Rattle.mmap_rules.specs.declared.page_owner.PageOwner.{PageOwner}
use Rattle.mmap_rules.specs.Space.{in_range, may_use}
use Rattle.mmap_rules.specs.Owners.{IsShaped, IsTable, Says, distance, meets, entered, owns_in, owns_at, owns}
use Rattle.mmap_rules.proofs.Lists.{any_found, found_counted, each_append, each_one}
use Rattle.mmap_rules.proofs.TableMore.{table_more}
use Rattle.region_watch.specs.Private.{only, physical}
use Rattle.region_watch.proofs.Maps.{with_bytes-only, all_pass-each}
use Rattle.flat_loader.specs.Alone.{OwnMemory, own_of, writable_of, has_byte, new_bytes, brings_all, is_placed, may_lie, may_map, with_range}
use Rattle.replay_check.specs.Ranges.{LoneBytes, own_memory, mapping_of, mappings_of, IsOwnRange, AreOwnRanges, IsLone}
use Rattle.replay_check.specs.Answers.{byte_lies}
use Rattle.replay_check.proofs.OwnBytes.{owned, writable, one_own, made_of}

-- ---- one byte

module _ (ranges : List Range) (table : List PageOwner) (mem : List ℕ) (l : IsLone ranges table mem) (a b : ℕ) (low : 2 ^ 31 ≤ a) (high : a < 2 ^ 31 + 2 ^ 26) where
  abbrev m : OwnMemory
  m = own_memory (record { ranges = ranges; mem = mem })

  own_is : may_use (owns table false) a 1 ≡ own_of ranges a
  own_is = one_own (owns table false) a (omega (arith, high)) ∙ (λ i. owned ranges table mem l i a)

  writes_is : may_use (owns table true) a 1 ≡ writable_of ranges a
  writes_is = one_own (owns table true) a (omega (arith, high)) ∙ (λ i. writable ranges table mem l i a)

  there : own_of ranges a ≡ true → m.bytes a ≡ Some (slice_index mem (a - 2 ^ 31))
  unfolding only
  there own = rw (own, le-leb (2 ^ 31) a low) (let len = l.memory in slice_get-get_or mem (a - 2 ^ 31) 0 (omega (arith, len, low, high)))

  pub free_lies : may_use (owns table false) a 1 ≡ false → true ≡ byte_lies m a b
  free_lies none = ap (λ (x : Bool). not x || (not (writable_of ranges a) && has_byte (m.bytes a) b)) (sym none ∙ own_is)

  pub written_lies_not : may_use (owns table false) a 1 ≡ true → may_use (owns table true) a 1 ≡ true → false ≡ byte_lies m a b
  written_lies_not own may = (λ i. not (x i) || (not (y i) && has_byte (m.bytes a) b))
    where
      x : true ≡ own_of ranges a
      x = sym own ∙ own_is

      y : true ≡ writable_of ranges a
      y = sym may ∙ writes_is

  pub read_lies : may_use (owns table false) a 1 ≡ true → may_use (owns table true) a 1 ≡ false → (c : ℕ) → c ≡ slice_index mem (a - 2 ^ 31) → (c == b) ≡ byte_lies m a b
  read_lies own may c is = (λ i. not (x i) || (not (y i) && has_byte (z i) b))
    where
      x : true ≡ own_of ranges a
      x = sym own ∙ own_is

      y : false ≡ writable_of ranges a
      y = sym may ∙ writes_is

      z : Some c ≡ m.bytes a
      z = ap (λ (n : ℕ). Some n) is ∙ sym (there (sym own_is ∙ own))

-- ---- bytes, one after the other

abbrev lies : OwnMemory → Bool → (a b : ℕ) → Bool
lies m w a b = not (own_of m.ranges a) || (not w && not (writable_of m.ranges a) && has_byte (m.bytes a) b)

-- the items from a place on
parts_at : (xs : List ℕ) (i b : ℕ) → i < length xs → b ≡ get_or xs i b → drop i xs ≡ b ∷ drop (i + 1) xs
parts_at [] i b less is = absurd (omega (arith, less))
parts_at (x ∷ xs) zero b less is = ap (λ (y : ℕ). y ∷ xs) (sym is)
parts_at (x ∷ xs) (suc i) b less is = parts_at xs i b (omega (arith, less)) is ∙ ap (λ (n : ℕ). b ∷ drop n (x ∷ xs)) (let next : suc (i + 1) ≡ suc i + 1 = omega arith in next)

pub lie_on : (m : OwnMemory) (from i b : ℕ) (bytes : List ℕ) (all : Bool) → i < length bytes → b ≡ get_or bytes i b → true ≡ byte_lies m (from + i) b → may_lie m false (from + i) (drop i bytes) ≡ all
    → may_lie m false (from + (i + 1)) (drop (i + 1) bytes) ≡ all
unfolding may_lie
lie_on m from i b bytes all less is here whole =
    let next : from + (i + 1) ≡ from + i + 1 = omega arith in
    ap (λ (a : ℕ). may_lie m false a (drop (i + 1) bytes)) next
    ∙ ap (λ (x : Bool). x && may_lie m false (from + i + 1) (drop (i + 1) bytes)) here
    ∙ ap (may_lie m false (from + i)) (sym (parts_at bytes i b less is)) ∙ whole

pub lie_not : (m : OwnMemory) (from i b : ℕ) (bytes : List ℕ) (all : Bool) → i < length bytes → b ≡ get_or bytes i b → false ≡ byte_lies m (from + i) b → may_lie m false (from + i) (drop i bytes) ≡ all
    → false ≡ all
unfolding may_lie
lie_not m from i b bytes all less is here whole =
    ap (λ (x : Bool). x && may_lie m false (from + i + 1) (drop (i + 1) bytes)) here
    ∙ ap (may_lie m false (from + i)) (sym (parts_at bytes i b less is)) ∙ whole

pub read_at : (xs : List ℕ) (i : ℕ) → i < length xs → slice_index xs i ≡ get_or xs i (slice_index xs i)
read_at xs i less = same_Some _ _ (sym (slice_get-get_or xs i 0 less) ∙ slice_get-get_or xs i (slice_index xs i) less)

none_left : (xs : List ℕ) (i : ℕ) → length xs ≤ i → drop i xs ≡ []
none_left [] zero up = refl
none_left [] (suc i) up = refl
none_left (x ∷ xs) zero up = absurd (omega (arith, up))
none_left (x ∷ xs) (suc i) up = none_left xs i (omega (arith, up))

pub lie_ends : (m : OwnMemory) (w : Bool) (a i : ℕ) (bytes : List ℕ) (all : Bool) → length bytes ≤ i → may_lie m w a (drop i bytes) ≡ all → true ≡ all
unfolding may_lie
lie_ends m w a i bytes all up whole = ap (may_lie m w a) (sym (none_left bytes i up)) ∙ whole

-- ---- pages

lie_apart : (m : OwnMemory) (w : Bool) (a : ℕ) (xs ys : List ℕ) → may_lie m w a (xs ++ ys) ≡ (may_lie m w a xs && may_lie m w (a + length xs) ys)
unfolding may_lie
lie_apart m w a [] ys = ap (λ (k : ℕ). may_lie m w k ys) (let same : a ≡ a + 0 = omega arith in same)
lie_apart m w a (x ∷ xs) ys =
    ap (λ (r : Bool). lies m w a x && r) (lie_apart m w (a + 1) xs ys)
    ∙ grouped (lies m w a x) (may_lie m w (a + 1) xs) (may_lie m w (a + 1 + length xs) ys)
    ∙ ap (λ (k : ℕ). (lies m w a x && may_lie m w (a + 1) xs) && may_lie m w k ys) (let same : a + 1 + length xs ≡ a + suc (length xs) = omega arith in same)
  where
    grouped : (x y z : Bool) → (x && (y && z)) ≡ ((x && y) && z)
    grouped true y z = refl
    grouped false y z = refl

free_lie : (m : OwnMemory) (w : Bool) (a : ℕ) (bs : List ℕ) → ((i : ℕ) → a ≤ i → i < a + length bs → own_of m.ranges i ≡ false) → may_lie m w a bs ≡ true
unfolding may_lie
free_lie m w a [] free = refl
free_lie m w a (b ∷ bs) free =
    let here = free a (omega arith) (omega arith) in
    let rest = free_lie m w (a + 1) bs (λ i low high. free i (omega (arith, low)) (omega (arith, high))) in
    rw (here, rest) refl

and_none : (x : Bool) → (x && false) ≡ false
and_none true = refl
and_none false = refl

own_out : (m : OwnMemory) (a : ℕ) (bs : List ℕ) (i : ℕ) → a ≤ i → i < a + length bs → own_of m.ranges i ≡ true → may_lie m true a bs ≡ false
unfolding may_lie
own_out m a [] i low high own = absurd (omega (arith, low, high))
own_out m a (b ∷ bs) i low high own =
    elim (cases_eq i a) [
      | inl same ↦ (let here : own_of m.ranges a ≡ true = ap (own_of m.ranges) (sym same) ∙ own in rw here refl)
      | inr other ↦ ap (λ (r : Bool). lies m true a b && r) (own_out m (a + 1) bs i (omega (arith, low, other)) (omega (arith, high)) own) ∙ and_none (lies m true a b)
    ]

own_page : (table : List PageOwner) (page a : ℕ) → 2 ^ 31 ≤ page → page % 4096 ≡ 0 → page ≤ a → a < page + 4096 → owns table false a ≡ true → owns table false (page + 4095) ≡ true
unfolding owns owns_at
own_page table page a low begins from to own =
    let same : (a - 2 ^ 31) / 4096 ≡ (page + 4095 - 2 ^ 31) / 4096 = omega (arith, low, begins, from, to) in
    let last : (page + 4095 - 2 ^ 31) % 4096 ≡ 4095 = omega (arith, low, begins) in
    let parts = and_parts (nat_le (2 ^ 31) a) (owns_in (slice_get table ((a - 2 ^ 31) / 4096)) false ((a - 2 ^ 31) % 4096)) own in
    let there : owns_in (slice_get table ((page + 4095 - 2 ^ 31) / 4096)) false ((a - 2 ^ 31) % 4096) ≡ true = ap (λ (k : ℕ). owns_in (slice_get table k) false ((a - 2 ^ 31) % 4096)) (sym same) ∙ parts.1 in
    and_from (nat_le (2 ^ 31) (page + 4095)) (owns_in (slice_get table ((page + 4095 - 2 ^ 31) / 4096)) false ((page + 4095 - 2 ^ 31) % 4096)) (le-leb (2 ^ 31) (page + 4095) (omega (arith, low)))
    (ap (λ (k : ℕ). owns_in (slice_get table ((page + 4095 - 2 ^ 31) / 4096)) false k) last ∙ by (slice_get table ((page + 4095 - 2 ^ 31) / 4096)) ((a - 2 ^ 31) % 4096) (omega arith) there)
  where
    by : (o : Option PageOwner) (at : ℕ) → at ≤ 4095 → owns_in o false at ≡ true → owns_in o false 4095 ≡ true
    by None at up is = is
    by (Some o) at up is = grind (arith, nat_tests)

-- what is left of all pages but those before
abbrev pub LeftOf : LoneBytes → Bool → (from : ℕ) → List ℕ → (page : ℕ) → Type 0
LeftOf b w from all page = may_lie (own_memory b) w (from + 4096 * page) (drop (4096 * page) all) ≡ may_lie (own_memory b) w from all

pub pages_begin : (b : LoneBytes) (w : Bool) (from : ℕ) (all : List ℕ) → LeftOf b w from all 0
pages_begin b w from all = let same : from + 4096 * 0 ≡ from = omega arith in ap (λ (a : ℕ). may_lie (own_memory b) w a all) same

pub pages_end : (b : LoneBytes) (w : Bool) (from : ℕ) (all : List ℕ) (page : ℕ) → length all ≤ 4096 * page → LeftOf b w from all page → true ≡ may_lie (own_memory b) w from all
pages_end b w from all page up left = lie_ends (own_memory b) w (from + 4096 * page) (4096 * page) all (may_lie (own_memory b) w from all) up left

drop_none : (j : ℕ) → drop {A = ℕ} j [] ≡ []
drop_none zero = refl
drop_none (suc j) = refl

drop_more : (n k : ℕ) (xs : List ℕ) → drop n (drop k xs) ≡ drop (k + n) xs
drop_more n zero xs = ap (λ (j : ℕ). drop j xs) (let same : n ≡ 0 + n = omega arith in same)
drop_more n (suc k) [] = drop_none n ∙ sym (drop_none (suc k + n))
drop_more n (suc k) (x ∷ xs) = drop_more n k xs ∙ ap (λ (j : ℕ). drop j (x ∷ xs)) (let same : suc (k + n) ≡ suc k + n = omega arith in same)

module _ (b : LoneBytes) (w : Bool) (from : ℕ) (all : List ℕ) (page : ℕ) (inside : 4096 * (page + 1) ≤ length all) (left : LeftOf b w from all page) where
  abbrev here : List ℕ
  here = take 4096 (drop (4096 * page) all)

  pub size : length here ≡ 4096
  size = omega (arith, length-take 4096 (drop (4096 * page) all), length-drop (4096 * page) all, inside)

  split : (may_lie (own_memory b) w (from + 4096 * page) here && may_lie (own_memory b) w (from + 4096 * (page + 1)) (drop (4096 * (page + 1)) all)) ≡ may_lie (own_memory b) w from all
  split =
      let next : from + 4096 * page + length here ≡ from + 4096 * (page + 1) = omega (arith, size) in
      let sum : 4096 * page + 4096 ≡ 4096 * (page + 1) = omega arith in
      let rest : drop 4096 (drop (4096 * page) all) ≡ drop (4096 * (page + 1)) all = drop_more 4096 (4096 * page) all ∙ ap (λ (n : ℕ). drop n all) sum in
      (λ i. may_lie (own_memory b) w (from + 4096 * page) here && may_lie (own_memory b) w (sym next i) (sym rest i))
      ∙ sym (lie_apart (own_memory b) w (from + 4096 * page) here (drop 4096 (drop (4096 * page) all)))
      ∙ ap (may_lie (own_memory b) w (from + 4096 * page)) (take-append-drop 4096 (drop (4096 * page) all)) ∙ left

  pub page_on : may_lie (own_memory b) w (from + 4096 * page) here ≡ true → LeftOf b w from all (page + 1)
  page_on is = ap (λ (x : Bool). x && may_lie (own_memory b) w (from + 4096 * (page + 1)) (drop (4096 * (page + 1)) all)) (sym is) ∙ split

  pub page_not : may_lie (own_memory b) w (from + 4096 * page) here ≡ false → false ≡ may_lie (own_memory b) w from all
  page_not is = ap (λ (x : Bool). x && may_lie (own_memory b) w (from + 4096 * (page + 1)) (drop (4096 * (page + 1)) all)) (sym is) ∙ split

-- no byte of a page is own where the last one isn't
pub page_free : (ranges : List Range) (table : List PageOwner) (mem : List ℕ) → IsLone ranges table mem → (page : ℕ) → 2 ^ 31 ≤ page → page % 4096 ≡ 0 → own_of ranges (page + 4095) ≡ false
    → (a : ℕ) → page ≤ a → a < page + 4096 → own_of ranges a ≡ false
page_free ranges table mem l page low begins none a from to =
    let own = owned ranges table mem l in
    elim (cases_Bool (own_of ranges a)) [
      | inr off ↦ off
      | inl on ↦ absurd (false≢true (sym none ∙ (λ k. sym own k (page + 4095)) ∙ own_page table page a low begins from to ((λ k. own k a) ∙ on)))
    ]

pub free_page_on : (b : LoneBytes) (w : Bool) (from : ℕ) (all : List ℕ) (page : ℕ) → 4096 * (page + 1) ≤ length all → LeftOf b w from all page
    → ((a : ℕ) → from + 4096 * page ≤ a → a < from + 4096 * page + 4096 → own_of b.ranges a ≡ false) → LeftOf b w from all (page + 1)
free_page_on b w from all page inside left free =
    let len = size b w from all page inside left in
    page_on b w from all page inside left
    (free_lie (own_memory b) w (from + 4096 * page) (take 4096 (drop (4096 * page) all)) (λ i lo hi. free i lo (omega (arith, hi, len))))

pub own_page_not : (b : LoneBytes) (from : ℕ) (all : List ℕ) (page : ℕ) → 4096 * (page + 1) ≤ length all → LeftOf b true from all page → own_of b.ranges (from + 4096 * page + 4095) ≡ true
    → false ≡ may_lie (own_memory b) true from all
own_page_not b from all page inside left own =
    let len = size b true from all page inside left in
    page_not b true from all page inside left
    (own_out (own_memory b) (from + 4096 * page) (take 4096 (drop (4096 * page) all)) (from + 4096 * page + 4095) (omega arith) (omega (arith, len)) own)

-- ---- a range that may be one more

pub record Placed (r : Range) : Type 0 where
  pub some : 0 < r.size
  pub begins : r.from % 4096 ≡ 0
  pub low : 2 ^ 31 ≤ r.from
  pub high : r.from + r.size ≤ 2 ^ 31 + 2 ^ 26

pub placed : (r : Range) → is_placed r ≡ true → Placed r
placed r is = record { some = grind (arith, nat_tests); begins = grind (arith, nat_tests); low = grind (arith, nat_tests); high = grind (arith, nat_tests) }

pub all_bytes : (r : Range) (brought : List ℕ) → brings_all r brought ≡ true → length (new_bytes r brought) ≡ r.size
all_bytes r brought brings =
    elim (cases_Bool r.anonymous) [
      | inl on ↦ rw on (length-replicate r.size 0)
      | inr off ↦ (let is : (length brought == r.size) ≡ true = sym (ap (λ (b : Bool). if b then length brought == 0 else length brought == r.size) off) ∙ brings in
          let same : length brought ≡ r.size = grind (arith, nat_tests) in rw off same)
    ]

pub record MayMap (b : LoneBytes) (r : Range) (brought : List ℕ) : Type 0 where
  pub at : Placed r
  pub brings : brings_all r brought ≡ true
  pub lies : may_lie (own_memory b) r.writes r.from (new_bytes r brought) ≡ true

pub maps : (b : LoneBytes) (r : Range) (brought : List ℕ) → may_map (own_memory b) r brought ≡ true → MayMap b r brought
unfolding may_map
maps b r brought is =
    let parts = and_parts (is_placed r && brings_all r brought) (may_lie (own_memory b) r.writes r.from (new_bytes r brought)) is in
    let front = and_parts (is_placed r) (brings_all r brought) parts.0 in
    record { at = placed r front.0; brings = front.1; lies = parts.1 }

-- ---- its table

own_new : (r : Range) → Placed r → r.size % 4096 ≡ 0 → IsOwnRange r
own_new r p whole =
    let some = p.some in
    let begins = p.begins in
    let low = p.low in
    let high = p.high in
    let shaped : IsShaped 16384 r = record { some = some; above = low; inside = omega arith; whole = omega arith } in
    record { shaped = shaped; read = λ _. begins; anonymous = λ _. begins }

-- where an own byte may lie
lie_at : (m : OwnMemory) (w : Bool) (a : ℕ) (bs : List ℕ) (i : ℕ) → may_lie m w a bs ≡ true → a ≤ i → i < a + length bs → own_of m.ranges i ≡ true → (w ≡ false) × (writable_of m.ranges i ≡ false)
unfolding may_lie
lie_at m w a [] i all low high own = absurd (omega (arith, low, high))
lie_at m w a (b ∷ bs) i all low high own =
    let parts = and_parts (lies m w a b) (may_lie m w (a + 1) bs) all in
    elim (cases_eq i a) [
      | inl same ↦ both w (writable_of m.ranges i) (own_of m.ranges i) (has_byte (m.bytes i) b) own (ap (λ (k : ℕ). lies m w k b) same ∙ parts.0)
      | inr other ↦ lie_at m w (a + 1) bs i parts.1 (omega (arith, low, other)) (omega (arith, high)) own
    ]
  where
    both : (w x o h : Bool) → o ≡ true → (not o || (not w && not x && h)) ≡ true → (w ≡ false) × (x ≡ false)
    both false false o h own is = (refl, refl)
    both false true o h own is = absurd (false≢true (sym (ap (λ (y : Bool). not y || false) own) ∙ is))
    both true x o h own is = absurd (false≢true (sym (ap (λ (y : Bool). not y || false) own) ∙ is))

met_last : (r : Range) (page : ℕ) → (distance r + r.size) % 4096 ≡ 0 → 2 ^ 31 ≤ r.from → meets r page ≡ true → in_range r (2 ^ 31 + 4096 * page + 4095) ≡ true
met_last r page whole low meet = grind (arith, nat_tests)

met_bounds : (r : Range) (page : ℕ) → (distance r + r.size) % 4096 ≡ 0 → 2 ^ 31 ≤ r.from → meets r page ≡ true → (r.from ≤ 2 ^ 31 + 4096 * page + 4095) × (2 ^ 31 + 4096 * page + 4095 < r.from + r.size)
met_bounds r page whole low meet = (grind (arith, nat_tests), grind (arith, nat_tests))

whole_from : (r : Range) (page : ℕ) → 2 ^ 31 ≤ r.from → r.from % 4096 ≡ 0 → r.from ≤ 2 ^ 31 + 4096 * page + 4095 → distance r - 4096 * page ≡ 0
whole_from r page low begins from = omega (arith, low, begins, from)

in_own_of : (ranges : List Range) (j : ℕ) (r : Range) (a : ℕ) → slice_get ranges j ≡ Some r → in_range r a ≡ true → own_of ranges a ≡ true
unfolding own_of
in_own_of ranges j r a there inside = any_found (λ (x : Range). in_range x a) ranges j r there inside

in_writable_of : (ranges : List Range) (j : ℕ) (r : Range) (a : ℕ) → slice_get ranges j ≡ Some r → r.writes ≡ true → in_range r a ≡ true → writable_of ranges a ≡ true
unfolding writable_of
in_writable_of ranges j r a there writes inside = any_found (λ (x : Range). x.writes && in_range x a) ranges j r there (and_from r.writes (in_range r a) writes inside)

module _ (ranges : List Range) (table : List PageOwner) (mem : List ℕ) (l : IsLone ranges table mem) (r : Range) (brought : List ℕ)
    (m : MayMap (record { ranges = ranges; mem = mem }) r brought) (whole : r.size % 4096 ≡ 0) where
  is_own : IsOwnRange r
  is_own = own_new r m.at whole

  -- where others have bytes in a page of it, they agree
  agrees : (page : ℕ) (o : PageOwner) → slice_get table page ≡ Some o → meets r page ≡ true → 0 < o.uses → Says o page r
  agrees page o there meet some =
      let counts = l.tabled.named.counts page o there in
      let f = found_counted (λ (x : Mapping). meets x.range page) (mappings_of ranges) (omega (arith, some, counts)) in
      let made = made_of ranges f.at f.item f.there in
      let n = made.range in
      let same : f.item.range ≡ n = ap (λ (x : Mapping). x.range) made.is in
      let own = l.tabled.own f.at n made.there in
      let met : meets n page ≡ true = ap (λ (x : Range). meets x page) (sym same) ∙ f.passes in
      let says : Says o page n = subst (Says o page) same (l.tabled.named.says page f.at o f.item there f.there f.passes) in
      let a = 2 ^ 31 + 4096 * page + 4095 in
      let inside = met_last n page own.shaped.whole own.shaped.above met in
      let bounds = met_bounds r page is_own.shaped.whole is_own.shaped.above meet in
      let n_bounds = met_bounds n page own.shaped.whole own.shaped.above met in
      let len = all_bytes r brought m.brings in
      let lie = lie_at (own_memory (record { ranges = ranges; mem = mem })) r.writes r.from (new_bytes r brought) a m.lies bounds.0 (omega (arith, bounds.1, len)) (in_own_of ranges f.at n a made.there inside) in
      let reads : n.writes ≡ false = elim (cases_Bool n.writes) [
        | inr off ↦ off
        | inl on ↦ absurd (false≢true (sym lie.1 ∙ in_writable_of ranges f.at n a made.there on inside))
      ] in
      let n_zero = whole_from n page own.shaped.above (own.read reads) n_bounds.0 in
      let r_zero = whole_from r page m.at.low m.at.begins bounds.0 in
      (says.0 ∙ n_zero ∙ sym r_zero, says.1 ∙ reads ∙ sym lie.0)

  pub shaped : (n : ℕ) → n ≡ 16384 → IsShaped n r
  shaped n is = subst (λ k. IsShaped k r) (sym is) is_own.shaped

  pub lone_more : (new : List PageOwner) (now : List ℕ) (left : List Range) → left ≡ ranges ++ r ∷ [] → length new ≡ length table → ((page : ℕ) → slice_get new page ≡ option_map (entered r page) (slice_get table page))
      → length now ≡ length mem → IsLone left new now
  lone_more new now left is len each mem_len =
      let more : mappings_of left ≡ mappings_of ranges ++ mapping_of r ∷ [] = ap mappings_of is ∙ map-append mapping_of ranges (r ∷ []) in
      record {
        block = l.block;
        others = l.others ++ r ∷ [];
        head = is ∙ ap (λ (rs : List Range). rs ++ r ∷ []) l.head;
        is_block = l.is_block;
        tabled = record {
          pages = len ∙ l.tabled.pages;
          named = subst (IsTable new) (sym more) (table_more table new (mappings_of ranges) (mapping_of r) l.tabled.named agrees each);
          own = subst AreOwnRanges (sym is) (each_append IsOwnRange ranges (r ∷ []) l.tabled.own (each_one IsOwnRange r is_own));
        };
        memory = mem_len ∙ l.memory;
      }

  pub fits : (2 ^ 31 ≤ r.from) × (r.from + length (new_bytes r brought) ≤ 2 ^ 31 + length mem)
  fits =
      let low = m.at.low in
      let high = m.at.high in
      let len = all_bytes r brought m.brings in
      let memory = l.memory in
      (low, omega (arith, high, len, memory))

  pub len_more : length (laid mem (r.from - 2 ^ 31) (new_bytes r brought)) ≡ length mem
  len_more = length-laid mem (r.from - 2 ^ 31) (new_bytes r brought) (omega (arith, fits.0, fits.1))

-- ---- its bytes

same_beside : (m n : Bytes) (a : ℕ) (bs : List ℕ) (i : ℕ) → (((i < a) ⊎ (a + length bs ≤ i)) → m i ≡ n i) → with_bytes m a bs i ≡ with_bytes n a bs i
same_beside m n a [] i same =
    elim (cases_lt i a) [
      | inl low ↦ same (inl low)
      | inr high ↦ same (inr (omega (arith, high)))
    ]
same_beside m n a (b ∷ bs) i same =
    elim (cases_eq i a) [
      | inl here ↦ (rw (eq-eqb i a here) refl)
      | inr other ↦ (rw (ne_eqb i a other) (same_beside m n (a + 1) bs i (by other)))
    ]
  where
    by : i ≢ a → ((i < a + 1) ⊎ (a + 1 + length bs ≤ i)) → m i ≡ n i
    by other (inl low) = same (inl (omega (arith, low, other)))
    by other (inr high) = same (inr (omega (arith, high)))

own_more : (ranges : List Range) (r : Range) (a : ℕ) → own_of (ranges ++ r ∷ []) a ≡ (own_of ranges a || in_range r a)
unfolding own_of
own_more ranges r a = list_any-append (λ (x : Range). in_range x a) ranges (r ∷ []) ∙ ap (λ (b : Bool). list_any (λ (x : Range). in_range x a) ranges || b) (or_false (in_range r a))
  where
    or_false : (b : Bool) → (b || false) ≡ b
    or_false true = refl
    or_false false = refl

module _ (ranges : List Range) (mem : List ℕ) (r : Range) (bytes : List ℕ) (low : 2 ^ 31 ≤ r.from) (high : r.from + length bytes ≤ 2 ^ 31 + length mem) (len : length bytes ≡ r.size) where
  abbrev own : ℕ → Bool
  own = own_of ranges

  abbrev now : ℕ → Bool
  now = own_of (ranges ++ r ∷ [])

  new_own : (a : ℕ) → r.from ≤ a → a < r.from + length bytes → now a ≡ true
  new_own a from to = own_more ranges r a ∙ (let inside : in_range r a ≡ true = grind (arith, nat_tests) in ap (λ (b : Bool). own_of ranges a || b) inside) ∙ or_true (own_of ranges a)
    where
      or_true : (b : Bool) → (b || true) ≡ true
      or_true true = refl
      or_true false = refl

  beside_own : (a : ℕ) → ((a < r.from) ⊎ (r.from + length bytes ≤ a)) → now a ≡ own a
  beside_own a out = own_more ranges r a ∙ ap (λ (b : Bool). own_of ranges a || b) (outside out) ∙ or_false (own_of ranges a)
    where
      or_false : (b : Bool) → (b || false) ≡ b
      or_false true = refl
      or_false false = refl

      outside : ((a < r.from) ⊎ (r.from + length bytes ≤ a)) → in_range r a ≡ false
      outside (inl before) = grind (arith, nat_tests)
      outside (inr behind) = grind (arith, nat_tests)

  part_same : (a : ℕ) → ((a < r.from) ⊎ (r.from + length bytes ≤ a)) → only now (physical mem) a ≡ only own (physical mem) a
  unfolding only
  part_same a out = ap (λ (b : Bool). if b then physical mem a else None) (beside_own a out)

  bytes_more : only now (physical (laid mem (r.from - 2 ^ 31) bytes)) ≡ with_bytes (only own (physical mem)) r.from bytes
  bytes_more =
      let place : 2 ^ 31 + (r.from - 2 ^ 31) ≡ r.from = omega (arith, low) in
      let laid_is : physical (laid mem (r.from - 2 ^ 31) bytes) ≡ with_bytes (physical mem) r.from bytes =
      byte_of-laid (2 ^ 31) mem (r.from - 2 ^ 31) bytes (omega (arith, low, high)) ∙ ap (λ (at : ℕ). with_bytes (physical mem) at bytes) place in
      ap (only now) laid_is
      ∙ with_bytes-only now (physical mem) r.from bytes (all_pass-each now r.from (length bytes) new_own)
      ∙ (λ i a. same_beside (only now (physical mem)) (only own (physical mem)) r.from bytes a (part_same a) i)

  pub range_more : (left : List Range) (new : List ℕ) → left ≡ ranges ++ r ∷ [] → new ≡ laid mem (r.from - 2 ^ 31) bytes
      → own_memory (record { ranges = left; mem = new }) ≡ with_range (own_memory (record { ranges = ranges; mem = mem })) r bytes
  unfolding with_range
  range_more left new is laid_is =
      (λ i. own_memory (record { ranges = is i; mem = laid_is i }))
      ∙ (λ i. record { ranges = ranges ++ r ∷ []; bytes = bytes_more i })

-- few enough to count
pub few_uses : (table : List PageOwner) (ranges : List Range) → IsTable table (mappings_of ranges) → length ranges < 2 ^ 32 - 1 → (page : ℕ) (o : PageOwner) → slice_get table page ≡ Some o → o.uses < 2 ^ 32 - 1
few_uses table ranges is few page o there =
    let counts = is.counts page o there in
    let most = count_by-le-length (λ (m : Mapping). meets m.range page) (mappings_of ranges) in
    let len = length_mapped ranges in
    omega (arith, counts, most, len, few)
  where
    length_mapped : (rs : List Range) → length (mappings_of rs) ≡ length rs
    length_mapped [] = refl
    length_mapped (x ∷ xs) = ap suc (length_mapped xs)

-- ---- the bytes of a new range

pub zeros_are : (r : Range) (brought : List ℕ) → r.anonymous ≡ true → replicate r.size 0 ≡ new_bytes r brought
zeros_are r brought is = rw is refl

pub brought_are : (r : Range) (brought : List ℕ) → r.anonymous ≡ false → brought ≡ new_bytes r brought
brought_are r brought is = rw is refl

-- ---- page by page

pub not_is : (x y : Bool) → y ≡ true → y ≡ not x → x ≡ false
not_is true y is same = absurd (false≢true (sym same ∙ is))
not_is false y is same = refl

pub is_not : (x y : Bool) → y ≡ false → y ≡ not x → x ≡ true
is_not true y is same = refl
is_not false y is same = absurd (false≢true (sym is ∙ same))

-- the pages of a file, where nobody may write
brought_page : (b : LoneBytes) (r : Range) (brought : List ℕ) (page : ℕ) → r.writes ≡ false → (r.anonymous ≡ true → r.writes ≡ true)
    → may_lie (own_memory b) r.writes (r.from + 4096 * page) (take 4096 (drop (4096 * page) (new_bytes r brought)))
    ≡ may_lie (own_memory b) false (r.from + 4096 * page) (slice_range brought (4096 * page) (4096 * page + 4096))
brought_page b r brought page reads writes =
    let off : r.anonymous ≡ false = elim (cases_Bool r.anonymous) [
      | inr off ↦ off
      | inl on ↦ absurd (false≢true (sym reads ∙ writes on))
    ] in
    let size : 4096 ≡ 4096 * page + 4096 - 4096 * page = omega arith in
    (λ i. may_lie (own_memory b) (reads i) (r.from + 4096 * page) (take 4096 (drop (4096 * page) (sym (brought_are r brought off) i))))
    ∙ ap (λ (n : ℕ). may_lie (own_memory b) false (r.from + 4096 * page) (take n (drop (4096 * page) brought))) size

module _ (b : LoneBytes) (r : Range) (brought : List ℕ) (page : ℕ) (writes : r.anonymous ≡ true → r.writes ≡ true) (brings : brings_all r brought ≡ true) (less : page < r.size / 4096)
    (left : LeftOf b r.writes r.from (new_bytes r brought) page) where
  inside : 4096 * (page + 1) ≤ length (new_bytes r brought)
  inside = let len = all_bytes r brought brings in omega (arith, len, less)

  abbrev Agrees : Bool → Type 0
  Agrees x = x ≡ may_lie (own_memory b) false (r.from + 4096 * page) (slice_range brought (4096 * page) (4096 * page + 4096))

  pub next_free : ((a : ℕ) → r.from + 4096 * page ≤ a → a < r.from + 4096 * page + 4096 → own_of b.ranges a ≡ false) → LeftOf b r.writes r.from (new_bytes r brought) (page + 1)
  next_free free = free_page_on b r.writes r.from (new_bytes r brought) page inside left free

  pub next_agrees : (x y : Bool) → r.writes ≡ false → Agrees x → y ≡ not x → y ≡ false → LeftOf b r.writes r.from (new_bytes r brought) (page + 1)
  next_agrees x y reads agrees is off =
      page_on b r.writes r.from (new_bytes r brought) page inside left (brought_page b r brought page reads writes ∙ sym agrees ∙ is_not x y off is)

  pub differs : (x y : Bool) → r.writes ≡ false → Agrees x → y ≡ not x → y ≡ true → false ≡ may_lie (own_memory b) r.writes r.from (new_bytes r brought)
  differs x y reads agrees is on =
      page_not b r.writes r.from (new_bytes r brought) page inside left (brought_page b r brought page reads writes ∙ sym agrees ∙ not_is x y on is)

  pub is_own_page : r.writes ≡ true → own_of b.ranges (r.from + 4096 * page + 4095) ≡ true → false ≡ may_lie (own_memory b) r.writes r.from (new_bytes r brought)
  is_own_page on own =
      own_page_not b r.from (new_bytes r brought) page inside (subst (λ (w : Bool). LeftOf b w r.from (new_bytes r brought) page) on left) own
      ∙ ap (λ (w : Bool). may_lie (own_memory b) w r.from (new_bytes r brought)) (sym on)

pub all_lies : (b : LoneBytes) (r : Range) (brought : List ℕ) (page : ℕ) → brings_all r brought ≡ true → r.size % 4096 ≡ 0 → r.size / 4096 ≤ page → LeftOf b r.writes r.from (new_bytes r brought) page
    → true ≡ may_lie (own_memory b) r.writes r.from (new_bytes r brought)
all_lies b r brought page brings whole up left =
    let len = all_bytes r brought brings in
    pages_end b r.writes r.from (new_bytes r brought) page (omega (arith, len, whole, up)) left

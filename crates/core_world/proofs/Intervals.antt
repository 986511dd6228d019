-- Where the intervals of addresses lie, and how those of two ranges join.
use Rattle.std.proofs.Common.{◌≡◌, ℕ, zero, suc, ◌+◌, ◌-◌, ◌<◌, ◌≤◌, Bool, true, false, ◌&&◌, cond, ◌⊎◌, inl, inr, List, [], ◌∷◌, length, Option, Some, None, refl, sym, ap, ◌∙◌, arith}
use Rattle.std.specs.Prelude.{◌==◌}
use Rattle.std.proofs.lemmas.Bool.Decides.{nat_tests}
use Rattle.core_world.specs.Segments.{Interval, is_same, goes_on, joined, in_front, intervals}

-- P holds of each interval
abbrev pub Each : (Interval → Type 0) → List Interval → Type 0
Each P [] = Unit {0}
Each P (i ∷ is) = P i × Each P is

-- all of the first ones in front of the others
abbrev pub all_joined : List Interval → List Interval → List Interval
all_joined [] js = js
all_joined (i ∷ is) js = joined i (all_joined is js)

-- their addresses
abbrev pub total : List Interval → ℕ
total [] = 0
total (i ∷ is) = i.len + total is

-- ---- two intervals

abbrev with_more : Interval → Interval → Interval
with_more i j = record i { len = i.len + j.len }

decide : (b : Bool) → (b ≡ true) ⊎ (b ≡ false)
decide true = inl refl
decide false = inr refl

both : (a b : Bool) → (a && b) ≡ true → (a ≡ true) × (b ≡ true)
both true true is = (refl, refl)
both true false is = absurd cc
both false b is = absurd cc

same_is : (a b : Bool) → is_same a b ≡ true → a ≡ b
same_is true true is = refl
same_is true false is = absurd cc
same_is false true is = absurd cc
same_is false false is = refl

same_as : (b : Bool) → is_same b b ≡ true
same_as true = refl
same_as false = refl

module _ (i j : Interval) (on : goes_on i j ≡ true) where
  pub ends_at : i.addr + i.len ≡ j.addr
  ends_at = let test : (i.addr + i.len == j.addr) ≡ true = (both (i.addr + i.len == j.addr) (is_same i.write j.write) on).0 in grind (arith, nat_tests)

  pub same_kind : i.write ≡ j.write
  same_kind = same_is i.write j.write (both (i.addr + i.len == j.addr) (is_same i.write j.write) on).1

  pub joined_on : (js : List Interval) → joined i (j ∷ js) ≡ with_more i j ∷ js
  joined_on js = ap (λ (b : Bool). cond b (with_more i j ∷ js) (i ∷ j ∷ js)) on

  -- what goes on from both together goes on from the second
  ends_alike : (k : Interval) → goes_on (with_more i j) k ≡ goes_on j k
  ends_alike k =
      let end : i.addr + (i.len + j.len) ≡ j.addr + j.len = omega (arith, ends_at) in
      ap (λ (n : ℕ). n == k.addr && is_same i.write k.write) end ∙ ap (λ (b : Bool). j.addr + j.len == k.addr && is_same b k.write) same_kind

pub joined_apart : (i j : Interval) (js : List Interval) → goes_on i j ≡ false → joined i (j ∷ js) ≡ i ∷ j ∷ js
joined_apart i j js off = ap (λ (b : Bool). cond b (with_more i j ∷ js) (i ∷ j ∷ js)) off

-- ---- intervals in front of others

joined_twice : (i j : Interval) (js : List Interval) → goes_on i j ≡ true → joined i (joined j js) ≡ joined (with_more i j) js
joined_twice i j [] on = joined_on i j on []
joined_twice i j (k ∷ ks) on = elim (decide (goes_on j k)) [
  | inl more ↦
      let size : i.len + (j.len + k.len) ≡ i.len + j.len + k.len = omega arith in
      ap (joined i) (joined_on j k more ks) ∙ joined_on i (with_more j k) on ks
      ∙ ap (λ (n : ℕ). record i { len = n } ∷ ks) size
      ∙ sym (joined_on (with_more i j) k (ends_alike i j on k ∙ more) ks)
  | inr off ↦
      ap (joined i) (joined_apart j k ks off) ∙ joined_on i j on (k ∷ ks)
      ∙ sym (joined_apart (with_more i j) k ks (ends_alike i j on k ∙ off))
]

joined_before : (i : Interval) (is js : List Interval) → all_joined (joined i is) js ≡ joined i (all_joined is js)
joined_before i [] js = refl
joined_before i (k ∷ ks) js = elim (decide (goes_on i k)) [
  | inl on ↦ ap (λ (is : List Interval). all_joined is js) (joined_on i k on ks) ∙ sym (joined_twice i k (all_joined ks js) on)
  | inr off ↦ ap (λ (is : List Interval). all_joined is js) (joined_apart i k ks off)
]

front_before : (a : ℕ) (kind : Option Bool) (is js : List Interval) → all_joined (in_front a kind is) js ≡ in_front a kind (all_joined is js)
front_before a None is js = refl
front_before a (Some write) is js = joined_before (record { addr = a; len = 1; write = write }) is js

-- ---- of ranges of addresses

module _ (kind : ℕ → Option Bool) where
  -- of two ranges, one behind the other
  pub of_both : (n m a : ℕ) → intervals kind a (n + m) ≡ all_joined (intervals kind a n) (intervals kind (a + n) m)
  unfolding intervals
  of_both zero m a =
      let size : 0 + m ≡ m = omega arith in
      let at : a ≡ a + 0 = omega arith in
      ap (λ (n : ℕ). intervals kind a n) size ∙ ap (λ (b : ℕ). intervals kind b m) at
  of_both (suc n) m a =
      let size : suc n + m ≡ suc (n + m) = omega arith in
      let at : a + 1 + n ≡ a + suc n = omega arith in
      ap (λ (k : ℕ). intervals kind a k) size
      ∙ ap (in_front a (kind a)) (of_both n m (a + 1) ∙ ap (λ (b : ℕ). all_joined (intervals kind (a + 1) n) (intervals kind b m)) at)
      ∙ sym (front_before a (kind a) (intervals kind (a + 1) n) (intervals kind (a + suc n) m))

  -- none is own
  pub of_none : (n a : ℕ) → ((k : ℕ) → a ≤ k → k < a + n → kind k ≡ None) → intervals kind a n ≡ []
  unfolding intervals
  of_none zero a each = refl
  of_none (suc n) a each =
      ap (λ (o : Option Bool). in_front a o (intervals kind (a + 1) n)) (each a (omega arith) (omega arith))
      ∙ of_none n (a + 1) (λ k low high. each k (omega arith) (omega arith))

  -- all are of one kind
  pub of_one_kind : (n a : ℕ) (write : Bool) → ((k : ℕ) → a ≤ k → k < a + suc n → kind k ≡ Some write)
      → intervals kind a (suc n) ≡ record { addr = a; len = suc n; write = write } ∷ []
  unfolding intervals
  of_one_kind zero a write each = ap (λ (o : Option Bool). in_front a o []) (each a (omega arith) (omega arith))
  of_one_kind (suc n) a write each =
      let first : Interval = record { addr = a; len = 1; write = write } in
      let others : Interval = record { addr = a + 1; len = suc n; write = write } in
      let here : (a + 1 == a + 1) ≡ true = grind (arith, nat_tests) in
      let on : goes_on first others ≡ true = ap (λ (b : Bool). b && is_same write write) here ∙ same_as write in
      let size : 1 + suc n ≡ suc (suc n) = omega arith in
      ap (λ (o : Option Bool). in_front a o (intervals kind (a + 1) (suc n))) (each a (omega arith) (omega arith))
      ∙ ap (joined first) (of_one_kind n (a + 1) write (λ k low high. each k (omega arith) (omega arith)))
      ∙ joined_on first others on []
      ∙ ap (λ (len : ℕ). record first { len = len } ∷ []) size

  -- those from one on are of one kind, and none before it is own
  pub of_end : (skip n a : ℕ) (write : Bool) → skip < n → ((k : ℕ) → a ≤ k → k < a + skip → kind k ≡ None)
      → ((k : ℕ) → a + skip ≤ k → k < a + n → kind k ≡ Some write)
      → intervals kind a n ≡ record { addr = a + skip; len = n - skip; write = write } ∷ []
  of_end skip n a write less none some =
      let size : n ≡ skip + suc (n - skip - 1) = omega arith in
      let rest : suc (n - skip - 1) ≡ n - skip = omega arith in
      ap (λ (k : ℕ). intervals kind a k) size
      ∙ of_both skip (suc (n - skip - 1)) a
      ∙ ap (λ (is : List Interval). all_joined is (intervals kind (a + skip) (suc (n - skip - 1)))) (of_none skip a none)
      ∙ of_one_kind (n - skip - 1) (a + skip) write (λ k low high. some k low (omega arith))
      ∙ ap (λ (len : ℕ). record { addr = a + skip; len = len; write = write } ∷ []) rest

  -- ---- where they lie

  -- an interval within a range, whose addresses are of its kind
  pub record Lies (low high : ℕ) (i : Interval) : Type 0 where
    pub above : low ≤ i.addr
    pub below : i.addr + i.len ≤ high
    pub each : (k : ℕ) → i.addr ≤ k → k < i.addr + i.len → kind k ≡ Some i.write

  wider : (low high : ℕ) (is : List Interval) → Each (Lies (low + 1) high) is → Each (Lies low high) is
  wider low high [] lie = tt
  wider low high (i ∷ is) lie = (record { above = omega (arith, lie.0.above); below = lie.0.below; each = lie.0.each }, wider low high is lie.1)

  lies_first : (a high : ℕ) (write : Bool) → a < high → kind a ≡ Some write → Lies a high (record { addr = a; len = 1; write = write })
  lies_first a high write less is = record {
    above = omega arith;
    below = omega arith;
    each = λ k low top. let here : k ≡ a = omega arith in ap kind here ∙ is;
  }

  joined_lies : (a high : ℕ) (write : Bool) (is : List Interval) → a < high → kind a ≡ Some write → Each (Lies (a + 1) high) is
      → Each (Lies a high) (joined (record { addr = a; len = 1; write = write }) is)
  joined_lies a high write [] less here lie = (lies_first a high write less here, tt)
  joined_lies a high write (j ∷ js) less here lie = elim (decide (goes_on first j)) [
    | inl on ↦
        let at : a + 1 ≡ j.addr = ends_at first j on in
        let kinds : write ≡ j.write = same_kind first j on in
        let head : Lies a high (with_more first j) = record {
          above = omega arith;
          below = omega (arith, lie.0.below);
          each = λ k low top. elim (near k low) [ inl here_is ↦ ap kind here_is ∙ here | inr past ↦ lie.0.each k (omega arith) (omega arith) ∙ ap (λ (w : Bool). Some w) (sym kinds) ];
        } in
        let all : Each (Lies a high) (with_more first j ∷ js) = (head, wider a high js lie.1) in
        rw (joined_on first j on js) all
    | inr off ↦
        let all : Each (Lies a high) (first ∷ j ∷ js) = (lies_first a high write less here, wider a high (j ∷ js) lie) in
        rw (joined_apart first j js off) all
  ]
    where
      first : Interval
      first = record { addr = a; len = 1; write = write }

      near : (k : ℕ) → a ≤ k → (k ≡ a) ⊎ (a < k)
      near k low = grind arith

  front_lies : (a high : ℕ) (o : Option Bool) (is : List Interval) → a < high → kind a ≡ o → Each (Lies (a + 1) high) is → Each (Lies a high) (in_front a o is)
  front_lies a high None is less here lie = wider a high is lie
  front_lies a high (Some write) is less here lie = joined_lies a high write is less here lie

  lie_below : (n a high : ℕ) → a + n ≡ high → Each (Lies a high) (intervals kind a n)
  unfolding intervals
  lie_below zero a high end = tt
  lie_below (suc n) a high end = front_lies a high (kind a) (intervals kind (a + 1) n) (omega arith) refl (lie_below n (a + 1) high (omega arith))

  pub all_lie : (n a : ℕ) → Each (Lies a (a + n)) (intervals kind a n)
  all_lie n a = lie_below n a (a + n) refl

  -- ---- how many addresses they have

  joined_total : (i : Interval) (is : List Interval) → total (joined i is) ≡ i.len + total is
  joined_total i [] = refl
  joined_total i (j ∷ js) = elim (decide (goes_on i j)) [
    | inl on ↦
        let sum : i.len + j.len + total js ≡ i.len + (j.len + total js) = omega arith in
        ap total (joined_on i j on js) ∙ sum
    | inr off ↦ ap total (joined_apart i j js off)
  ]

  front_total : (a n : ℕ) (o : Option Bool) (is : List Interval) → total is ≤ n → total (in_front a o is) ≤ suc n
  front_total a n None is few = omega arith
  front_total a n (Some write) is few = omega (arith, joined_total (record { addr = a; len = 1; write = write }) is)

  pub few_in_all : (n a : ℕ) → total (intervals kind a n) ≤ n
  unfolding intervals
  few_in_all zero a = omega arith
  few_in_all (suc n) a = front_total a n (kind a) (intervals kind (a + 1) n) (few_in_all n (a + 1))

-- one interval more at most
pub joined_count : (i : Interval) (is : List Interval) → length (joined i is) ≤ suc (length is)
joined_count i [] = omega arith
joined_count i (j ∷ js) = elim (decide (goes_on i j)) [
  | inl on ↦ omega (arith, ap (length {A = Interval}) (joined_on i j on js))
  | inr off ↦ omega (arith, ap (length {A = Interval}) (joined_apart i j js off))
]

-- Own bytes of a range, page by page.
use Rattle.std.proofs.Common.{◌≡◌, ℕ, zero, suc, ◌+◌, ◌-◌, ◌*◌, ◌/◌, ◌%◌, ◌^◌, ◌<◌, ◌≤◌, ◌⊎◌, inl, inr, Bool, true, false, ◌&&◌, refl, ap, ◌∙◌, arith, List, length}
use Rattle.std.specs.Prelude.{Option, Some, None, slice_get, nat_le}
use Rattle.std.proofs.lemmas.Bool.{le-leb}
use Rattle.std.proofs.lemmas.Bool.Decides.{nat_tests}
use Rattle.std.proofs.lemmas.Option.{slice_get_past}
use Rattle.mmap_rules.specs.declared.page_owner.PageOwner.{PageOwner}
use Rattle.mmap_rules.specs.Space.{all_pass, may_use}
use Rattle.mmap_rules.specs.Owners.{owns_in, owns, owns_at, touched}

-- ---- a test over a range

-- a range cut in two
all_pass-cut : (test : ℕ → Bool) (a n m : ℕ) → all_pass test a (n + m) ≡ (all_pass test a n && all_pass test (a + n) m)
all_pass-cut test a zero m =
    let none : 0 + m ≡ m = omega arith in
    let same : a + 0 ≡ a = omega arith in
    rw (none, same) refl
all_pass-cut test a (suc n) m =
    let one : suc n + m ≡ suc (n + m) = omega arith in
    let next : a + suc n ≡ a + 1 + n = omega arith in
    rw (one, next, all_pass-cut test (a + 1) n m) (and_assoc (test a) (all_pass test (a + 1) n) (all_pass test (a + 1 + n) m))
  where
    and_assoc : (x y z : Bool) → (x && (y && z)) ≡ ((x && y) && z)
    and_assoc true y z = refl
    and_assoc false y z = refl

all_pass-each : (test : ℕ → Bool) (a n : ℕ) → ((i : ℕ) → i < n → test (a + i) ≡ true) → all_pass test a n ≡ true
all_pass-each test a zero each = refl
all_pass-each test a (suc n) each =
    let here : test a ≡ true = ap test (let e : a ≡ a + 0 = omega arith in e) ∙ each 0 (omega arith) in
    let rest = all_pass-each test (a + 1) n (λ i lt. ap test (let e : a + 1 + i ≡ a + (i + 1) = omega arith in e) ∙ each (i + 1) (omega arith)) in
    rw (here, rest) refl

all_pass-fails : (test : ℕ → Bool) (a n i : ℕ) → i < n → test (a + i) ≡ false → all_pass test a n ≡ false
all_pass-fails test a zero i lt fails = absurd (omega arith)
all_pass-fails test a (suc n) zero lt fails =
    let here : test a ≡ false = ap test (let e : a ≡ a + 0 = omega arith in e) ∙ fails in rw here refl
all_pass-fails test a (suc n) (suc i) lt fails =
    let there : test (a + 1 + i) ≡ false = ap test (let e : a + 1 + i ≡ a + suc i = omega arith in e) ∙ fails in
    rw (all_pass-fails test (a + 1) n i (omega arith) there) (and_false (test a))
  where
    and_false : (x : Bool) → (x && false) ≡ false
    and_false true = refl
    and_false false = refl

all_pass-same : (test other : ℕ → Bool) (a b n : ℕ) → ((i : ℕ) → i < n → test (a + i) ≡ other (b + i)) → all_pass test a n ≡ all_pass other b n
all_pass-same test other a b zero same = refl
all_pass-same test other a b (suc n) same =
    let here : test a ≡ other b = ap test (let e : a ≡ a + 0 = omega arith in e) ∙ same 0 (omega arith) ∙ ap other (let e : b + 0 ≡ b = omega arith in e) in
    let rest = all_pass-same test other (a + 1) (b + 1) n (λ i lt.
    ap test (let e : a + 1 + i ≡ a + (i + 1) = omega arith in e) ∙ same (i + 1) (omega arith) ∙ ap other (let e : b + (i + 1) ≡ b + 1 + i = omega arith in e)) in
    rw (here, rest) refl

-- ---- own bytes

-- a page's own bytes go on to its end
owns_in-rest : (o : Option PageOwner) (write : Bool) (at more : ℕ) → owns_in o write at ≡ true → owns_in o write (at + more) ≡ true
owns_in-rest None write at more own = own
owns_in-rest (Some o) write at more own = grind (arith, nat_tests)

owns_at-rest : (table : List PageOwner) (write : Bool) (at more : ℕ) → at % 4096 + more < 4096 → owns_at table write at ≡ true → owns_at table write (at + more) ≡ true
unfolding owns_at
owns_at-rest table write at more within own =
    let page : (at + more) / 4096 ≡ at / 4096 = omega arith in
    let place : (at + more) % 4096 ≡ at % 4096 + more = omega arith in
    rw (page, place) (owns_in-rest (slice_get table (at / 4096)) write (at % 4096) more own)

-- one own byte stands for the rest of its page
pub own_page : (table : List PageOwner) (write : Bool) (at here left : ℕ) → owns_at table write at ≡ true → at % 4096 + here ≤ 4096 → here ≤ left
    → all_pass (owns_at table write) at left ≡ all_pass (owns_at table write) (at + here) (left - here)
own_page table write at here left own within less =
    let parts : left ≡ here + (left - here) = omega arith in
    let front = all_pass-each (owns_at table write) at here (λ i lt. owns_at-rest table write at i (omega arith) own) in
    ap (all_pass (owns_at table write) at) parts ∙ all_pass-cut (owns_at table write) at here (left - here) ∙ rw front refl

-- a byte that isn't own
pub own_fails : (table : List PageOwner) (write : Bool) (at left : ℕ) → 0 < left → owns_at table write at ≡ false → all_pass (owns_at table write) at left ≡ false
own_fails table write at left some fails =
    all_pass-fails (owns_at table write) at left 0 some (ap (owns_at table write) (let e : at + 0 ≡ at = omega arith in e) ∙ fails)

owns_at-past : (table : List PageOwner) (write : Bool) (at : ℕ) → 4096 * length table ≤ at → owns_at table write at ≡ false
unfolding owns_at
owns_at-past table write at past = rw (slice_get_past table (at / 4096) (omega arith)) refl

-- ---- the test of a range

pub own_none : (table : List PageOwner) (write : Bool) (addr : ℕ) → addr < 2 ^ 32 → may_use (owns table write) addr 0 ≡ true
unfolding may_use
own_none table write addr small = grind (arith, nat_tests)

pub own_below : (table : List PageOwner) (write : Bool) (addr len : ℕ) → 0 < len → addr < 2 ^ 31 → may_use (owns table write) addr len ≡ false
unfolding may_use owns
own_below table write addr len some below =
    let first : (nat_le (2 ^ 31) (addr + 0) && owns_at table write (addr + 0 - 2 ^ 31)) ≡ false = grind (arith, nat_tests) in
    rw (all_pass-fails (λ a. nat_le (2 ^ 31) a && owns_at table write (a - 2 ^ 31)) addr len 0 some first) (and_false (nat_le (addr + len) (2 ^ 32)))
  where
    and_false : (x : Bool) → (x && false) ≡ false
    and_false true = refl
    and_false false = refl

-- where the range begins in memory, it is the same test over distances from the first byte of memory
own_test : (table : List PageOwner) (write : Bool) (addr len : ℕ) → 2 ^ 31 ≤ addr → all_pass (owns table write) addr len ≡ all_pass (owns_at table write) (addr - 2 ^ 31) len
unfolding owns
own_test table write addr len above =
    all_pass-same (λ a. nat_le (2 ^ 31) a && owns_at table write (a - 2 ^ 31)) (owns_at table write) addr (addr - 2 ^ 31) len
    (λ i lt. let place : addr + i - 2 ^ 31 ≡ addr - 2 ^ 31 + i = omega arith in rw (place, le-leb (2 ^ 31) (addr + i) (omega arith)) refl)

pub own_past : (table : List PageOwner) (write : Bool) (addr len : ℕ) → 0 < len → 2 ^ 31 ≤ addr → 4096 * length table < addr - 2 ^ 31 + len → may_use (owns table write) addr len ≡ false
unfolding may_use
own_past table write addr len some above past =
    let last = owns_at-past table write (addr - 2 ^ 31 + (len - 1)) (omega arith) in
    rw (own_test table write addr len above, all_pass-fails (owns_at table write) (addr - 2 ^ 31) len (len - 1) (omega arith) last) (and_false (nat_le (addr + len) (2 ^ 32)))
  where
    and_false : (x : Bool) → (x && false) ≡ false
    and_false true = refl
    and_false false = refl

pub own_inside : (table : List PageOwner) (write : Bool) (addr len : ℕ) → 2 ^ 31 ≤ addr → addr - 2 ^ 31 + len ≤ 4096 * length table → length table ≤ 16384
    → may_use (owns table write) addr len ≡ all_pass (owns_at table write) (addr - 2 ^ 31) len
unfolding may_use
own_inside table write addr len above inside few =
    rw (le-leb (addr + len) (2 ^ 32) (omega arith)) (own_test table write addr len above)

-- ---- pages

-- one page less
pub touched_less : (at here left : ℕ) → 0 < here → here ≤ left → (at % 4096 + here ≡ 4096) ⊎ (here ≡ left) → touched (at + here) (left - here) + 1 ≤ touched at left
touched_less at here zero some less end = absurd (omega arith)
touched_less at here (suc left) some less end = touched_at (suc left - here) refl
  where
    touched_at : (rest : ℕ) → rest ≡ suc left - here → touched (at + here) rest + 1 ≤ touched at (suc left)
    touched_at zero is = omega arith
    touched_at (suc rest) is = elim end [
      | inl page ↦ omega arith
      | inr all ↦ absurd (omega arith)
    ]

pub touched_near : (a len : ℕ) → len ≤ 4 → touched a len ≤ 2
touched_near a zero few = omega arith
touched_near a (suc len) few = omega arith

pub touched_same : (addr len : ℕ) → 2 ^ 31 ≤ addr → touched (addr - 2 ^ 31) len ≡ touched addr len
touched_same addr zero above = refl
touched_same addr (suc len) above = let place : (addr - 2 ^ 31) % 4096 ≡ addr % 4096 = omega arith in rw place refl

pub ruleset ranges = (own_page, own_fails, own_none, own_below, own_past, own_inside, touched_less, touched_near, touched_same)

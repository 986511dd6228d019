-- Own ranges of physical memory, and those that a watch lets pass.
use Rattle.std.proofs.Common.{◌≡◌, ℕ, ◌+◌, ◌-◌, ◌*◌, ◌/◌, ◌%◌, ◌^◌, ◌<◌, ◌≤◌, inl, inr, Bool, true, false, not, ◌&&◌, refl, sym, ap, ◌∙◌, arith, List, length}
use Rattle.std.specs.Prelude.{Option, Some, None, slice_get, slice_index, nat_le, nat_lt, is_some, Ok, Err, if◌then◌else◌}
use Rattle.std.proofs.lemmas.Bool.{cases_lt}
use Rattle.std.proofs.lemmas.Bool.Decides.{nat_tests}
use Rattle.std.proofs.lemmas.Option.{slice_get_past}
use Rattle.mmap_rules.specs.declared.page_owner.PageOwner.{PageOwner}
use Rattle.mmap_rules.specs.Space.{all_pass, may_use}
use Rattle.mmap_rules.specs.Owners.{owns_in, owns, owns_at}
use Rattle.byte_words.specs.ByteMap.{number, little, little_bytes, with_bytes}
use Rattle.byte_words.specs.Patches.{laid}
use Rattle.byte_words.proofs.ByteArrays.{byte_at, byte_before, byte_past, number_within, length-little_bytes}
use Rattle.byte_words.proofs.Laid.{length-overwritten}
use Rattle.byte_words.proofs.ByteArrays.{laid_little, byte_of-laid}
use Rattle.byte_words.specs.declared.access.Access.{Access}
use Rattle.rv32im_table.specs.Table.{decoded}
use Rattle.rv32im_step.specs.Meaning.{decoded_at}
use Rattle.rv32im_step.specs.Memory.{loaded, all_writable, stored}
use Rattle.region_watch.specs.declared.mode.Mode.{Mode}
use Rattle.region_watch.specs.declared.mode.Mode.TheVariants.{Halt, GoOn}
use Rattle.region_watch.specs.Private.{only, physical, in_pages, passes, passed_bytes, kept_bytes}
use Rattle.region_watch.proofs.Maps.{all_pass-at, all_pass-each, reading-only, all_writable-only, with_bytes-only, with_bytes-beside}

-- ---- own bytes

both : (a b : Bool) → (a && b) ≡ true → (a ≡ true) × (b ≡ true)
both true true is = (refl, refl)
both true false is = absurd (cc)
both false b is = absurd (cc)

-- a byte that may be written is own
pub own_writable : (table : List PageOwner) (write : Bool) (a : ℕ) → owns table true a ≡ true → owns table write a ≡ true
unfolding owns owns_at
own_writable table write a is =
    let parts = both (nat_le (2 ^ 31) a) (owns_in (slice_get table ((a - 2 ^ 31) / 4096)) true ((a - 2 ^ 31) % 4096)) is in
    rw (parts.0) (written (slice_get table ((a - 2 ^ 31) / 4096)) ((a - 2 ^ 31) % 4096) parts.1)
  where
    written : (o : Option PageOwner) (at : ℕ) → owns_in o true at ≡ true → owns_in o write at ≡ true
    written None at is = is
    written (Some o) at is = grind (arith, nat_tests)

-- own bytes lie in memory
pub own_in_memory : (table : List PageOwner) (write : Bool) (a : ℕ) → owns table write a ≡ true → (2 ^ 31 ≤ a) × (a < 2 ^ 31 + 4096 * length table)
unfolding owns owns_at
own_in_memory table write a is =
    let parts = both (nat_le (2 ^ 31) a) (owns_in (slice_get table ((a - 2 ^ 31) / 4096)) write ((a - 2 ^ 31) % 4096)) is in
    let low : 2 ^ 31 ≤ a = grind (arith, nat_tests, parts.0) in
    elim (cases_lt a (2 ^ 31 + 4096 * length table)) [
      | inl within ↦ (low, within)
      | inr past ↦
          let none : slice_get table ((a - 2 ^ 31) / 4096) ≡ None = slice_get_past table ((a - 2 ^ 31) / 4096) (omega arith) in
          absurd (let e = rw none at parts.1 in cc)
    ]

-- ---- what passes

-- the addresses of so many pages
pages_in_memory : (pages a : ℕ) → in_pages pages a ≡ true → (2 ^ 31 ≤ a) × (a < 2 ^ 31 + 4096 * pages)
pages_in_memory pages a is =
    let parts = both (nat_le (2 ^ 31) a) (nat_lt a (2 ^ 31 + 4096 * pages)) is in
    let low : 2 ^ 31 ≤ a = grind (arith, nat_tests, parts.0) in
    let high : a < 2 ^ 31 + 4096 * pages = grind (arith, nat_tests, parts.1) in
    (low, high)

memory_in_pages : (pages a : ℕ) → 2 ^ 31 ≤ a → a < 2 ^ 31 + 4096 * pages → in_pages pages a ≡ true
memory_in_pages pages a above below =
    let low : nat_le (2 ^ 31) a ≡ true = grind (arith, nat_tests) in
    let high : nat_lt a (2 ^ 31 + 4096 * pages) ≡ true = grind (arith, nat_tests) in
    rw (low, high) refl

-- what passes lies in memory
passes_in_memory : (mode : Mode) (table : List PageOwner) (write : Bool) (a : ℕ) → passes mode table write a ≡ true
    → (2 ^ 31 ≤ a) × (a < 2 ^ 31 + 4096 * length table)
passes_in_memory Halt table write a is = own_in_memory table write a is
passes_in_memory GoOn table write a is = pages_in_memory (length table) a is

-- what passes to be written passes to be read
passes_writable : (mode : Mode) (table : List PageOwner) (write : Bool) (a : ℕ) → passes mode table true a ≡ true → passes mode table write a ≡ true
passes_writable Halt table write a is = own_writable table write a is
passes_writable GoOn table write a is = is

-- what is own passes
own_passes : (mode : Mode) (table : List PageOwner) (write : Bool) (a : ℕ) → owns table write a ≡ true → passes mode table write a ≡ true
own_passes Halt table write a is = is
own_passes GoOn table write a is =
    let within = own_in_memory table write a is in
    memory_in_pages (length table) a within.0 within.1

-- ---- ranges

pub range_parts : (p : ℕ → Bool) (a len : ℕ) → may_use p a len ≡ true → (a + len ≤ 2 ^ 32) × (all_pass p a len ≡ true)
unfolding may_use
range_parts p a len is =
    let parts = both (nat_le (a + len) (2 ^ 32)) (all_pass p a len) is in
    let fits : a + len ≤ 2 ^ 32 = grind (arith, nat_tests, parts.0) in
    (fits, parts.1)

pub range_of : (p : ℕ → Bool) (a len : ℕ) → a + len ≤ 2 ^ 32 → all_pass p a len ≡ true → may_use p a len ≡ true
unfolding may_use
range_of p a len fits is = grind (arith, nat_tests)

-- a range lies in memory where each of its addresses does
within_of : (p : ℕ → Bool) (pages a len : ℕ) → ((i : ℕ) → p i ≡ true → (2 ^ 31 ≤ i) × (i < 2 ^ 31 + 4096 * pages)) → 0 < len → may_use p a len ≡ true
    → (2 ^ 31 ≤ a) × (a + len ≤ 2 ^ 31 + 4096 * pages)
within_of p pages a len each some is =
    let pass = (range_parts p a len is).1 in
    let first = each a (all_pass-at p a len a pass (omega arith) (omega arith)) in
    let last = each (a + (len - 1)) (all_pass-at p a len (a + (len - 1)) pass (omega arith) (omega arith)) in
    (first.0, omega (arith, last.1))

-- a range that passes lies in memory
pub passes_within : (mode : Mode) (table : List PageOwner) (write : Bool) (a len : ℕ) → 0 < len → may_use (passes mode table write) a len ≡ true
    → (2 ^ 31 ≤ a) × (a + len ≤ 2 ^ 31 + 4096 * length table)
passes_within mode table write a len some is = within_of (passes mode table write) (length table) a len (passes_in_memory mode table write) some is

-- and so does an own one
pub own_within : (table : List PageOwner) (write : Bool) (a len : ℕ) → 0 < len → may_use (owns table write) a len ≡ true
    → (2 ^ 31 ≤ a) × (a + len ≤ 2 ^ 31 + 4096 * length table)
own_within table write a len some is = passes_within Halt table write a len some is

-- an own range passes
pub range_passes : (mode : Mode) (table : List PageOwner) (write : Bool) (a len : ℕ) → may_use (owns table write) a len ≡ true
    → may_use (passes mode table write) a len ≡ true
range_passes mode table write a len is =
    let parts = range_parts (owns table write) a len is in
    range_of (passes mode table write) a len parts.0
    (all_pass-each (passes mode table write) a len (λ i low high. own_passes mode table write i (all_pass-at (owns table write) a len i parts.1 low high)))

-- ---- where all of memory passes

-- an empty range does
pub none_in_pages : (pages a : ℕ) → a < 2 ^ 32 → true ≡ may_use (in_pages pages) a 0
none_in_pages pages a small = sym (range_of (in_pages pages) a 0 (omega arith) refl)

not_in_pages : (pages a len : ℕ) → 0 < len → ((2 ^ 31 ≤ a) × (a + len ≤ 2 ^ 31 + 4096 * pages) → ⊥) → false ≡ may_use (in_pages pages) a len
not_in_pages pages a len some not = by (may_use (in_pages pages) a len) refl
  where
    by : (test : Bool) → may_use (in_pages pages) a len ≡ test → false ≡ may_use (in_pages pages) a len
    by true is = absurd (not (within_of (in_pages pages) pages a len (pages_in_memory pages) some is))
    by false is = sym is

pub below_pages : (pages a len : ℕ) → 0 < len → a < 2 ^ 31 → nat_le (2 ^ 31) a ≡ may_use (in_pages pages) a len
below_pages pages a len some low =
    let is : nat_le (2 ^ 31) a ≡ false = grind (arith, nat_tests) in
    is ∙ not_in_pages pages a len some (λ within. omega (arith, within.0))

-- memory ends below 2^32
pub above_pages : (pages a len to top : ℕ) → 0 < len → 2 ^ 31 ≤ a → to ≡ (a - 2 ^ 31) + len → top ≡ 4096 * pages → top ≤ 4096 * 16384
    → nat_le to top ≡ may_use (in_pages pages) a len
above_pages pages a len to top some low ends size few = elim (cases_lt top to) [
  | inl past ↦
      let is : nat_le to top ≡ false = grind (arith, nat_tests) in
      is ∙ not_in_pages pages a len some (λ within. omega (arith, within.1))
  | inr fits ↦
      let is : nat_le to top ≡ true = grind (arith, nat_tests) in
      is ∙ sym (range_of (in_pages pages) a len (omega arith)
      (all_pass-each (in_pages pages) a len (λ i above below. memory_in_pages pages i (omega arith) (omega arith))))
]

-- all of memory is read
pub all_pages : (pages : ℕ) (mem : List ℕ) → length mem ≡ 4096 * pages → only (in_pages pages) (physical mem) ≡ physical mem
unfolding only
all_pages pages mem paged = λ i a. at a i
  where
    same_both : (test : Bool) (o : Option ℕ) → (if test then o else o) ≡ o
    same_both true o = refl
    same_both false o = refl

    at : (a : ℕ) → (if in_pages pages a then physical mem a else None) ≡ physical mem a
    at a = elim (cases_lt a (2 ^ 31)) [
      | inl below ↦
          let none : physical mem a ≡ None = byte_before (2 ^ 31) mem a below in
          rw none (same_both (in_pages pages a) None)
      | inr low ↦ elim (cases_lt a (2 ^ 31 + 4096 * pages)) [
        | inl within ↦
            let is : in_pages pages a ≡ true = memory_in_pages pages a low within in
            rw is refl
        | inr past ↦
            let none : physical mem a ≡ None = byte_past (2 ^ 31) mem a (omega arith) in
            rw none (same_both (in_pages pages a) None)
      ]
    ]

-- ---- the window

-- an access that begins so far behind the window's first byte, modulo 2^32, is allowed
pub in_window : (table : List PageOwner) (write : Bool) (from reach addr len : ℕ) → may_use (owns table true) from (reach + 3) ≡ true
    → from < 2 ^ 32 → addr < 2 ^ 32 → (addr + (2 ^ 32 - from)) % 2 ^ 32 < reach → len ≤ 4 → may_use (owns table write) addr len ≡ true
in_window table write from reach addr len is narrow small inside few =
    let parts = range_parts (owns table true) from (reach + 3) is in
    let low : from ≤ addr = omega (arith, parts.0) in
    let high : addr < from + reach = omega (arith, parts.0) in
    range_of (owns table write) addr len (omega (arith, parts.0))
    (all_pass-each (owns table write) addr len (λ i above below.
    own_writable table write i (all_pass-at (owns table true) from (reach + 3) i parts.1 (omega arith) (omega arith))))

-- ---- what an access reads and writes

pub passed_loaded : (mode : Mode) (table : List PageOwner) (mem : List ℕ) (access : Access) → length mem ≡ 4096 * length table → 0 < access.len
    → may_use (passes mode table false) access.addr access.len ≡ true → loaded (passed_bytes mode table mem) access ≡ Ok (little mem (access.addr - 2 ^ 31) access.len)
unfolding loaded
passed_loaded mode table mem access paged some is =
    let within = passes_within mode table false access.addr access.len some is in
    let place : access.addr ≡ 2 ^ 31 + (access.addr - 2 ^ 31) = omega (arith, within.0) in
    let number : number (physical mem) access.addr access.len ≡ Some (little mem (access.addr - 2 ^ 31) access.len) =
    ap (λ (a : ℕ). number (physical mem) a access.len) place ∙ number_within (2 ^ 31) mem (access.addr - 2 ^ 31) access.len (omega (arith, within.0, within.1)) in
    rw (reading-only (passes mode table false) (physical mem) access.addr access.len, is, number) refl

pub refused_loaded : (mode : Mode) (table : List PageOwner) (mem : List ℕ) (access : Access) → may_use (passes mode table false) access.addr access.len ≡ false
    → loaded (passed_bytes mode table mem) access ≡ Err access
unfolding loaded
refused_loaded mode table mem access is = rw (reading-only (passes mode table false) (physical mem) access.addr access.len, is) refl

-- ---- what is fetched

pub passed_decoded : (mode : Mode) (table : List PageOwner) (mem : List ℕ) (access : Access) → length mem ≡ 4096 * length table → 0 < access.len
    → may_use (passes mode table false) access.addr access.len ≡ true → decoded_at (passed_bytes mode table mem) access ≡ Ok (decoded (little mem (access.addr - 2 ^ 31) access.len))
unfolding decoded_at
passed_decoded mode table mem access paged some is = rw (passed_loaded mode table mem access paged some is) refl

pub refused_decoded : (mode : Mode) (table : List PageOwner) (mem : List ℕ) (access : Access) → may_use (passes mode table false) access.addr access.len ≡ false
    → decoded_at (passed_bytes mode table mem) access ≡ Err access
unfolding decoded_at
refused_decoded mode table mem access is = rw (refused_loaded mode table mem access is) refl

-- ---- what is written

-- a byte that may be written is there
writable_there : (mode : Mode) (table : List PageOwner) (mem : List ℕ) → length mem ≡ 4096 * length table → (i : ℕ) → passes mode table true i ≡ true
    → is_some (passed_bytes mode table mem i) ≡ true
unfolding only
writable_there mode table mem paged i may =
    let within = passes_in_memory mode table true i may in
    let at : i ≡ 2 ^ 31 + (i - 2 ^ 31) = omega (arith, within.0) in
    let byte : physical mem i ≡ Some (slice_index mem (i - 2 ^ 31)) =
    ap (physical mem) at ∙ byte_at (2 ^ 31) mem (i - 2 ^ 31) (omega (arith, within.0, within.1, paged)) in
    rw (passes_writable mode table false i may, byte) refl

-- the test of a store is the test of its range
store_test : (mode : Mode) (table : List PageOwner) (mem : List ℕ) (a len : ℕ) → length mem ≡ 4096 * length table
    → (nat_le (a + len) (2 ^ 32) && all_writable (passed_bytes mode table mem) (passes mode table true) a len) ≡ may_use (passes mode table true) a len
unfolding may_use
store_test mode table mem a len paged = rw (all_writable-only (passed_bytes mode table mem) (passes mode table true) a len (writable_there mode table mem paged)) refl

-- bytes laid over those that pass are laid over the map of them
pub passed_laid : (mode : Mode) (table : List PageOwner) (mem : List ℕ) (a : ℕ) (bs : List ℕ) → length mem ≡ 4096 * length table → 0 < length bs
    → may_use (passes mode table true) a (length bs) ≡ true → passed_bytes mode table (laid mem (a - 2 ^ 31) bs) ≡ with_bytes (passed_bytes mode table mem) a bs
passed_laid mode table mem a bs paged some is =
    let within = passes_within mode table true a (length bs) some is in
    let place : 2 ^ 31 + (a - 2 ^ 31) ≡ a = omega (arith, within.0) in
    let pass = all_pass-each (passes mode table false) a (length bs) (λ i low high. passes_writable mode table false i
    (all_pass-at (passes mode table true) a (length bs) i (range_parts (passes mode table true) a (length bs) is).1 low high)) in
    ap (only (passes mode table false)) (byte_of-laid (2 ^ 31) mem (a - 2 ^ 31) bs (omega (arith, within.0, within.1, paged)))
    ∙ ap (λ (at : ℕ). only (passes mode table false) (with_bytes (physical mem) at bs)) place
    ∙ with_bytes-only (passes mode table false) (physical mem) a bs pass

-- and leave the rest of memory as it is
pub kept_laid : (mode : Mode) (table : List PageOwner) (mem : List ℕ) (a : ℕ) (bs : List ℕ) → length mem ≡ 4096 * length table → 0 < length bs
    → may_use (passes mode table true) a (length bs) ≡ true → kept_bytes mode table (laid mem (a - 2 ^ 31) bs) ≡ kept_bytes mode table mem
kept_laid mode table mem a bs paged some is =
    let within = passes_within mode table true a (length bs) some is in
    let place : 2 ^ 31 + (a - 2 ^ 31) ≡ a = omega (arith, within.0) in
    ap (only (λ k. not (passes mode table true k))) (byte_of-laid (2 ^ 31) mem (a - 2 ^ 31) bs (omega (arith, within.0, within.1, paged)))
    ∙ ap (λ (at : ℕ). only (λ k. not (passes mode table true k)) (with_bytes (physical mem) at bs)) place
    ∙ with_bytes-beside (passes mode table true) (physical mem) a bs (range_parts (passes mode table true) a (length bs) is).1

-- the same for a store
pub passed_stored : (mode : Mode) (table : List PageOwner) (mem : List ℕ) (access : Access) (n : ℕ) → length mem ≡ 4096 * length table → 0 < access.len
    → may_use (passes mode table true) access.addr access.len ≡ true
    → stored (passed_bytes mode table mem) (passes mode table true) access n ≡ Ok (passed_bytes mode table (laid mem (access.addr - 2 ^ 31) (little_bytes access.len n)))
unfolding stored
passed_stored mode table mem access n paged some is =
    let bytes = little_bytes access.len n in
    let long = length-little_bytes access.len n in
    let range : may_use (passes mode table true) access.addr (length bytes) ≡ true = ap (may_use (passes mode table true) access.addr) long ∙ is in
    rw (store_test mode table mem access.addr access.len paged, is, passed_laid mode table mem access.addr bytes paged (omega (arith, long)) range) refl

pub refused_stored : (mode : Mode) (table : List PageOwner) (mem : List ℕ) (access : Access) (n : ℕ) → length mem ≡ 4096 * length table
    → may_use (passes mode table true) access.addr access.len ≡ false → stored (passed_bytes mode table mem) (passes mode table true) access n ≡ Err access
unfolding stored
refused_stored mode table mem access n paged is = rw (store_test mode table mem access.addr access.len paged, is) refl

pub store_kept : (mode : Mode) (table : List PageOwner) (mem : List ℕ) (a len n : ℕ) → length mem ≡ 4096 * length table → 0 < len
    → may_use (passes mode table true) a len ≡ true → kept_bytes mode table (laid mem (a - 2 ^ 31) (little_bytes len n)) ≡ kept_bytes mode table mem
store_kept mode table mem a len n paged some is =
    let long = length-little_bytes len n in
    kept_laid mode table mem a (little_bytes len n) paged (omega (arith, long)) (ap (may_use (passes mode table true) a) long ∙ is)

pub store_length : (mem : List ℕ) (at len n : ℕ) → at + len ≤ length mem → length (laid mem at (little_bytes len n)) ≡ length mem
store_length mem at len n fits =
    ap (length {A = ℕ}) (sym (laid_little mem at len n fits)) ∙ length-overwritten mem at (little_bytes len n)

pub ruleset accesses = (passes_within, passed_loaded, refused_loaded, passed_decoded, refused_decoded, passed_stored, refused_stored, store_kept, store_length)

-- The output of a call.
use Rattle.std.proofs.Common.{◌≡◌, ◌≢◌, ℕ, zero, suc, ◌+◌, ◌*◌, ◌^◌, ◌<◌, ◌≤◌, Bool, true, false, inl, inr, List, [], ◌∷◌, length, None, refl, sym, ap, subst, ◌∙◌, arith}
use Rattle.std.specs.Prelude.{All, Ok, Err}
use Rattle.std.proofs.lemmas.Bool.{cases_Bool}
use Rattle.std.proofs.lemmas.Bool.Decides.{nat_tests}
use Rattle.call_log.specs.Notes.{GotRange}
use Rattle.mmap_rules.specs.declared.mapping.Range.{Range}
use Rattle.mmap_rules.specs.declared.page_owner.PageOwner.{PageOwner}
use Rattle.mmap_rules.specs.Space.{may_use}
use Rattle.mmap_rules.specs.Owners.{owns}
use Rattle.region_watch.specs.Private.{only, physical, in_pages}
use Rattle.region_watch.proofs.Accesses.{range_parts, own_within, own_in_memory}
use Rattle.flat_loader.specs.Alone.{own_of, writable_of, put_got}
use Rattle.call_bytes.specs.Puts.{stray_range, IsRange, Put}
use Rattle.call_bytes.proofs.Puts.{may_be_put, strays_first, put_strays, stray_wider}
use Rattle.replay_check.specs.Ranges.{LoneBytes, own_memory, IsLone}
use Rattle.replay_check.specs.Answers.{AreFilled, MayPut, GivesOrRefutes, put_own}
use Rattle.replay_check.proofs.OwnBytes.{owned, writable}

-- what was tested of all ranges, and what is left of them
pub record Testing (w : ℕ → Bool) (all left : List GotRange) : Type 0 where
  pub filled : AreFilled left
  pub strays : stray_range w left ≡ stray_range w all
  pub ranges : All IsRange left → All IsRange all

pub testing_begins : (w : ℕ → Bool) (all : List GotRange) → AreFilled all → Testing w all all
testing_begins w all filled = record { filled = filled; strays = refl; ranges = λ are. are }

some_bytes : (bytes : List ℕ) → bytes ≢ [] → 0 < length bytes
some_bytes [] none = absurd (none refl)
some_bytes (b ∷ bs) none = omega arith

first_filled : (g : GotRange) (rest : List GotRange) → AreFilled (g ∷ rest) → (0 < length g.bytes) × AreFilled rest
first_filled g rest filled = (some_bytes g.bytes filled.0, filled.1)

all_more : (g : GotRange) (rest : List GotRange) → IsRange g → All IsRange rest → All IsRange (g ∷ rest)
all_more g rest first are zero d less = first
all_more g rest first are (suc k) d less = are k d (omega (arith, less))

pub testing_on : (w : ℕ → Bool) (all left rest : List GotRange) (g : GotRange) → Testing w all left → left ≡ g ∷ rest → length g.bytes < 2 ^ 32 → may_use w g.addr (length g.bytes) ≡ true
    → Testing w all rest
testing_on w all left rest g t parts short may =
    let f = first_filled g rest (subst AreFilled parts t.filled) in
    record {
      filled = f.1;
      strays = sym (may_be_put w left rest g parts may) ∙ t.strays;
      ranges = λ are. t.ranges (subst (All IsRange) (sym parts) (all_more g rest (f.0, short) are));
    }

pub testing_ends : (w : ℕ → Bool) (all left : List GotRange) → Testing w all left → left ≡ [] → MayPut w all true
testing_ends w all left t none = (sym t.strays ∙ ap (stray_range w) none, t.ranges (subst (All IsRange) (sym none) (λ k d less. absurd (omega (arith, less)))))

pub testing_strays : (w : ℕ → Bool) (all left rest : List GotRange) (g : GotRange) → Testing w all left → left ≡ g ∷ rest → may_use w g.addr (length g.bytes) ≡ false → MayPut w all false
testing_strays w all left rest g t parts may =
    (record { addr = g.addr; len = length g.bytes }, sym t.strays ∙ strays_first w left rest g parts may)

-- a range that is longer than all addresses isn't own
pub long_strays : (table : List PageOwner) (a len : ℕ) → 2 ^ 32 ≤ len → may_use (owns table true) a len ≡ false
long_strays table a len long =
    elim (cases_Bool (may_use (owns table true) a len)) [
      | inl may ↦
          let parts = range_parts (owns table true) a len may in
          let within = own_within table true a len (omega (arith, long)) may in
          absurd (omega (arith, parts.0, within.0, long))
      | inr off ↦ off
    ]

-- ---- what is written of it

pub put_leaves : (ranges : List Range) (table : List PageOwner) (old new : List ℕ) → IsLone ranges table old → (gots : List GotRange) → Put table old new gots
    → GivesOrRefutes (put_own (own_memory (record { ranges = ranges; mem = old })) gots) true (own_memory (record { ranges = ranges; mem = new }))
unfolding put_own
put_leaves ranges table old new l gots p =
    let own = owned ranges table old l in
    let may = writable ranges table old l in
    let e : put_got (only (own_of ranges) (physical old)) (writable_of ranges) gots ≡ Ok (only (own_of ranges) (physical new)) =
    (λ i. put_got (only (sym own i) (physical old)) (sym may i) gots) ∙ p.put ∙ (λ i. Ok (only (own i) (physical new))) in
    rw e refl

pub stray_leaves : (ranges : List Range) (table : List PageOwner) (old : List ℕ) → IsLone ranges table old → (gots : List GotRange) → MayPut (owns table true) gots false
    → (now : LoneBytes) → GivesOrRefutes (put_own (own_memory (record { ranges = ranges; mem = old })) gots) false (own_memory now)
unfolding put_own
stray_leaves ranges table old l gots strays now =
    let own = owned ranges table old l in
    let may = writable ranges table old l in
    let e : put_got (only (own_of ranges) (physical old)) (writable_of ranges) gots ≡ Err strays.0 =
    (λ i. put_got (only (own_of ranges) (physical old)) (sym may i) gots) ∙ put_strays (only (own_of ranges) (physical old)) (owns table true) gots strays.0 strays.1 in
    rw e tt

in_all : (table : List PageOwner) → length table ≡ 16384 → (a : ℕ) → owns table true a ≡ true → in_pages 16384 a ≡ true
in_all table pages a own =
    let within = own_in_memory table true a own in
    let low : 2 ^ 31 ≤ a = within.0 in
    let high : a < 2 ^ 31 + 4096 * 16384 = omega (arith, within.1, pages) in
    grind (arith, nat_tests)

-- what is own lies in memory
pub fits_memory : (table : List PageOwner) → length table ≡ 16384 → (gots : List GotRange) → stray_range (owns table true) gots ≡ None → stray_range (in_pages 16384) gots ≡ None
fits_memory table pages gots fits = stray_wider (owns table true) (in_pages 16384) (in_all table pages) gots fits

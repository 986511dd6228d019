-- What may be written is own, and lies in memory.
use Rattle.std.proofs.Common.{◌≡◌, ◌+◌, ◌-◌, ◌*◌, ◌/◌, ◌^◌, inl, inr, Bool, true, false, ◌&&◌, ◌||◌, List, [], ◌∷◌, length, refl, sym, ◌∙◌, arith}
use Rattle.std.specs.Prelude.{None, nat_le, slice_get}
use Rattle.std.specs.List.{list_any}
use Rattle.std.proofs.lemmas.Bool.{cases_lt, false≢true}
use Rattle.std.proofs.lemmas.Bool.Decides.{nat_tests}
use Rattle.std.proofs.lemmas.Option.{slice_get_past}
use Rattle.mmap_rules.specs.declared.mapping.Mapping.{Mapping}
use Rattle.mmap_rules.specs.declared.page_owner.PageOwner.{PageOwner}
use Rattle.mmap_rules.specs.Space.{in_range, own_in, writable_in}
use Rattle.mmap_rules.specs.Owners.{owns_at, owns}
use Rattle.memory_world.specs.Wider.{IsWithin}
use Rattle.region_watch.specs.Private.{in_pages}

-- what may be written is own
pub writable_own : (maps : List Mapping) → IsWithin (own_in maps) (writable_in maps)
unfolding own_in writable_in
writable_own maps a is = on maps is
  where
    both : (writes here mays rest : Bool) → (mays ≡ true → rest ≡ true) → ((writes && here) || mays) ≡ true → (here || rest) ≡ true
    both true true mays rest more is = refl
    both true false mays rest more is = more is
    both false true mays rest more is = refl
    both false false mays rest more is = more is

    on : (ms : List Mapping) → list_any (λ m. m.range.writes && in_range m.range a) ms ≡ true → list_any (λ m. in_range m.range a) ms ≡ true
    on [] is = is
    on (m ∷ ms) is =
        both m.range.writes (in_range m.range a) (list_any (λ n. n.range.writes && in_range n.range a) ms) (list_any (λ n. in_range n.range a) ms) (on ms) is

-- a table owns no more than the pages that it has entries for
pub table_inside : (table : List PageOwner) (write : Bool) → IsWithin (in_pages (length table)) (owns table write)
unfolding owns owns_at
table_inside table write a is = elim (cases_lt a (2 ^ 31 + 4096 * length table)) [
  | inl within ↦ let low : nat_le (2 ^ 31) a ≡ true = first (nat_le (2 ^ 31) a) _ is in grind (arith, nat_tests, low, within)
  | inr past ↦
      let low : nat_le (2 ^ 31) a ≡ true = first (nat_le (2 ^ 31) a) _ is in
      let none : slice_get table ((a - 2 ^ 31) / 4096) ≡ None = slice_get_past table ((a - 2 ^ 31) / 4096) (omega (arith, past)) in
      absurd (false≢true (sym (rw (low, none) refl) ∙ is))
]
  where
    first : (x y : Bool) → (x && y) ≡ true → x ≡ true
    first true y h = refl
    first false y h = absurd (false≢true h)

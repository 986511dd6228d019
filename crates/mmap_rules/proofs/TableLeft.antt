-- An anonymous mapping that loses pages, in the table of a list of mappings.
use Rattle.std.proofs.Common.{◌≡◌, ℕ, ◌+◌, ◌^◌, ◌≤◌, Bool, true, ◌&&◌, cond, List, ◌++◌, take, drop, Some, refl, sym, ap, ◌∙◌, arith}
use Rattle.std.specs.Prelude.{slice_get, option_map, nat_le, nat_lt}
use Rattle.std.proofs.lemmas.Bool.Decides.{nat_tests}
use Rattle.mmap_rules.specs.declared.mapping.Range.{Range}
use Rattle.mmap_rules.specs.declared.mapping.Mapping.{Mapping}
use Rattle.mmap_rules.specs.declared.page_owner.PageOwner.{PageOwner}
use Rattle.mmap_rules.specs.Owners.{IsTable, Says, meets, taken_out}
use Rattle.mmap_rules.specs.Held.{page_address}
use Rattle.mmap_rules.specs.Mappings.{left_of}
use Rattle.mmap_rules.proofs.TableLess.{Shares, ReadAlike, table_cut}
use Rattle.mmap_rules.proofs.Parts.{Cuts, WholePages, both, run_of, spans, meets_spans, meets_run, met_part, each_left, sum_left}

-- a page lies in one of three ranges that follow one another, or in none
spans_three : (f a e t page : ℕ) → f ≤ a → a ≤ e → e ≤ t → cond {A = ℕ} (spans f t page) 1 0 ≡ cond (spans a e page) 1 0 + (cond (spans f a page) 1 0 + cond (spans e t page) 1 0)
spans_three f a e t page fa ae et = three f a e t (page_address page) fa ae et
  where
    three : (f a e t x : ℕ) → f ≤ a → a ≤ e → e ≤ t
        → cond {A = ℕ} (nat_le f x && nat_lt x t) 1 0 ≡ cond (nat_le a x && nat_lt x e) 1 0 + (cond (nat_le f x && nat_lt x a) 1 0 + cond (nat_le e x && nat_lt x t) 1 0)
    three f a e t x fa ae et = grind (arith, nat_tests)

left_shares : (pages : ℕ) (m : Mapping) (r : Range) (addr size : ℕ) → Cuts pages m addr size → r.from ≡ addr → r.size ≡ size → Shares m r (left_of m addr size)
left_shares pages m r addr size cuts is_from is_size page =
    let b = both pages m addr size cuts in
    let some = cuts.some in
    let low = b.before.above in
    let up = b.before.up in
    let high = b.behind.up in
    let begins = b.before.begins in
    let cut = b.before.ends in
    let back = b.behind.begins in
    let ends = b.behind.ends in
    let one : Bool → ℕ = λ t. cond t 1 0 in
    let all = ap one (meets_spans m.range m.range.from (m.range.from + m.range.size) page refl refl low begins ends) in
    let gone = ap one (meets_spans r addr (addr + size) page is_from (omega arith) (omega arith) cut back) in
    let before = met_part pages m m.range.from addr page b.before in
    let behind = met_part pages m (addr + size) (m.range.from + m.range.size) page b.behind in
    let sum = sum_left (λ (n : Mapping). cond {A = ℕ} (meets n.range page) 1 0) m addr size in
    let three = spans_three m.range.from addr (addr + size) (m.range.from + m.range.size) page up (omega arith) high in
    omega (arith, all, gone, before, behind, sum, three)

-- where a run of whole pages of a mapping of whole pages meets a page, all of that page is own in both
run_alike : (pages : ℕ) (m : Mapping) (from to page : ℕ) (o : PageOwner) → WholePages pages from to → 2 ^ 31 ≤ m.range.from → m.range.from ≤ from → Says o page m.range
    → meets (run_of m from to).range page ≡ true → Says o page (run_of m from to).range
run_alike pages m from to page o w low up says meet =
    let above = w.above in
    let begins = w.begins in
    let in_page : spans from to page ≡ true = sym (meets_run pages m from to page w) ∙ meet in
    let starts : from ≤ page_address page = grind (arith, nat_tests) in
    let read = says.0 in
    (omega arith, says.1)

left_alike : (pages : ℕ) (m : Mapping) (addr size : ℕ) → Cuts pages m addr size → ReadAlike m (left_of m addr size)
left_alike pages m addr size cuts page o says =
    let b = both pages m addr size cuts in
    let low = b.before.above in
    let up = b.before.up in
    each_left (λ n. meets n.range page ≡ true → Says o page n.range) m addr size
    (λ other. run_alike pages m m.range.from addr page o b.before low (omega arith) says)
    (λ other. run_alike pages m (addr + size) (m.range.from + m.range.size) page o b.behind low (omega arith) says)

pub table_left : (pages : ℕ) (table new : List PageOwner) (maps : List Mapping) (k : ℕ) (m : Mapping) (r : Range) (addr size : ℕ) → IsTable table maps → slice_get maps k ≡ Some m
    → Cuts pages m addr size → r.from ≡ addr → r.size ≡ size
    → ((page : ℕ) → slice_get new page ≡ option_map (taken_out r page) (slice_get table page))
    → IsTable new (take k maps ++ left_of m addr size ++ drop (k + 1) maps)
table_left pages table new maps k m r addr size is at_k cuts is_from is_size each =
    table_cut table new maps k m r (left_of m addr size) is at_k (left_shares pages m r addr size cuts is_from is_size) (left_alike pages m addr size cuts) each

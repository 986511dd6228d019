-- The regions where pages were cut out of a mapping: what each of them was, and that their uses are exact still.
use Rattle.std.proofs.Common.{◌≡◌, ◌≢◌, ℕ, ◌+◌, ◌*◌, ◌<◌, ◌≤◌, ◌⊎◌, inl, inr, Bool, cond, List, [], ◌++◌, take, drop, get_or, true, Some, refl, sym, ap, ◌∙◌, arith}
use Rattle.std.specs.Prelude.{slice_get, slice_set}
use Rattle.std.proofs.lemmas.Bool.{cases_eq, cases_lt, eq-eqb, ne_eqb, lt-ltb, le-ltb}
use Rattle.std.proofs.lemmas.Bool.Decides.{nat_tests}
use Rattle.std.proofs.lemmas.Option.{slice_get-get_or}
use Rattle.page_runs.specs.Free.{with_free}
use Rattle.nommu_regions.specs.declared.region.Region.{Region}
use Rattle.nommu_regions.specs.Regions.{AreRegions, free_of, holds, before, behind, with_cut}
use Rattle.nommu_regions.proofs.Held.{regions_part}
use Rattle.nommu_regions.proofs.Cut.{IsCut, kept_back}
use Rattle.mmap_rules.specs.declared.mapping.Mapping.{Mapping}
use Rattle.mmap_rules.specs.Held.{Held}
use Rattle.mmap_rules.specs.Mappings.{page_at, part_of, left_of}
use Rattle.mmap_rules.proofs.Parts.{run_of}
use Rattle.mmap_rules.proofs.NamesLess.{others, count_others}
use Rattle.mmap_rules.proofs.Cutting.{Cutting, none_other}
use Rattle.mmap_rules.proofs.PartNames.{part_other, part_none, total}
use Rattle.kept_parts.specs.Kept.{Kept}
use Rattle.kept_parts.specs.Regular.{Regular, named_in, uses_in}
use Rattle.call_bytes.proofs.Places.{after_set, get_other}
use Rattle.kept_parts.proofs.Common.UseCounts.{named, named_yes, counted}
use Rattle.kept_parts.proofs.Mappings.UsesLess.{WasOrOwn}

-- ---- pages were cut out

-- a region after a cut: what is left before it, what is left behind it, or another one
abbrev pub Stood : List Region → (first : ℕ) → Region → (from n id : ℕ) → Region → Type 0
Stood rs first r from n id s =
    ((id ≡ first) × (s ≡ before r from))
    ⊎ (((id ≡ from + n) × (s ≡ behind r (from + n)) × (from + n < first + r.pages))
    ⊎ ((id ≢ first) × (from + n < first + r.pages → id ≢ from + n) × (slice_get rs id ≡ Some s)))

pub cut_more : (rs : List Region) (first from n : ℕ) (r : Region) → slice_get rs first ≡ Some r → r.first ≡ first → from + n < first + r.pages
    → with_cut rs first from n ≡ slice_set (slice_set rs first (before r from)) (from + n) (behind r (from + n))
unfolding with_cut
cut_more rs first from n r there begins more = rw (there, lt-ltb (from + n) (r.first + r.pages) (omega (arith, begins, more))) refl

pub cut_ends : (rs : List Region) (first from n : ℕ) (r : Region) → slice_get rs first ≡ Some r → r.first ≡ first → first + r.pages ≤ from + n
    → with_cut rs first from n ≡ slice_set rs first (before r from)
unfolding with_cut
cut_ends rs first from n r there begins ends = rw (there, le-ltb (from + n) (r.first + r.pages) (omega (arith, begins, ends))) refl

pub stood : (rs : List Region) (first from n : ℕ) (r : Region) → slice_get rs first ≡ Some r → r.first ≡ first
    → (id : ℕ) (s : Region) → slice_get (with_cut rs first from n) id ≡ Some s → Stood rs first r from n id s
stood rs first from n r there begins id s is = elim (cases_lt (from + n) (first + r.pages)) [
  | inl more ↦ elim (after_set (slice_set rs first (before r from)) (from + n) id (behind r (from + n)) s
      (ap (λ (l : List Region). slice_get l id) (sym (cut_more rs first from n r there begins more)) ∙ is)) [
        | inl back ↦ inr (inl (back.0, back.1, more))
        | inr beside ↦ elim (after_set rs first id (before r from) s beside.1) [
          | inl front ↦ inl (front.0, front.1)
          | inr other ↦ inr (inr (other.0, (λ _. beside.0), other.1))
        ]
      ]
  | inr ends ↦ elim (after_set rs first id (before r from) s
      (ap (λ (l : List Region). slice_get l id) (sym (cut_ends rs first from n r there begins ends)) ∙ is)) [
        | inl front ↦ inl (front.0, front.1)
        | inr other ↦ inr (inr (other.0, (λ more. absurd (omega (arith, more, ends))), other.1))
      ]
]

-- beside both parts a region stays
pub cut_beside : (rs : List Region) (first from n : ℕ) (r : Region) → slice_get rs first ≡ Some r → r.first ≡ first
    → (id : ℕ) → id ≢ first → (from + n < first + r.pages → id ≢ from + n) → slice_get (with_cut rs first from n) id ≡ slice_get rs id
cut_beside rs first from n r there begins id other past = elim (cases_lt (from + n) (first + r.pages)) [
  | inl more ↦ ap (λ (l : List Region). slice_get l id) (cut_more rs first from n r there begins more)
      ∙ (get_other (slice_set rs first (before r from)) (from + n) id (behind r (from + n)) (past more) ∙ get_other rs first id (before r from) other)
  | inr ends ↦ ap (λ (l : List Region). slice_get l id) (cut_ends rs first from n r there begins ends) ∙ get_other rs first id (before r from) other
]

-- the parts are regions, apart from all others
pub regions_cut : (k : Kept) → Regular k → (maps : List Mapping) (at : ℕ) (m : Mapping) (r : Region) (addr n from : ℕ)
    → Cutting k.regions maps at m r addr n from → AreRegions (with_cut k.regions m.first from n)
regions_cut k regular maps at m r addr n from c = elim (cases_lt (from + n) (m.first + r.pages)) [
  | inl more ↦ (
      let is : IsCut k.regions m.first r from n = record {
        there = c.there;
        one = c.one;
        first = omega (arith, c.begins, c.low);
        last = omega (arith, c.begins, c.high);
        some = c.some;
        less = omega (arith, more, c.low);
      } in
      let free = free_of k.regions in
      rw (cut_more k.regions m.first from n r c.there c.begins more)
      (kept_back k.regions free (with_free free from n) m.first r from n (regular.regions, refl, regular.some, regular.most) is refl
      (omega (arith, c.begins, more))).0)
  | inr ends ↦ rw (cut_ends k.regions m.first from n r c.there c.begins ends)
      (regions_part k.regions m.first r (before r from) regular.regions c.there (omega (arith, c.one)) refl (omega (arith, c.begins, c.high))
      (λ live. grind (arith, nat_tests, live, c.begins, c.low)))
]

-- what is left behind has one use
behind_one : (m : Mapping) (from to id : ℕ) → from ≢ to → page_at from ≡ id → named_in id (part_of m from to) ≡ 1
behind_one m from to id differ same = rw (ne_eqb from to differ) (let one = named_yes id (run_of m from to) [] same in omega (arith, one))

module _ (k : Kept) (regular : Regular k) (number : ℕ) (h : Held) (home : slice_get k.spaces number ≡ Some (Some h))
    (at : ℕ) (m : Mapping) (r : Region) (addr n from : ℕ) (c : Cutting k.regions h.maps at m r addr n from) where
  -- the mappings that are left
  abbrev pub parts : List Mapping
  parts = take at h.maps ++ left_of m addr (4096 * n) ++ drop (at + 1) h.maps

  first_page : page_at m.range.from ≡ m.first
  first_page = omega (arith, c.begin)

  next_page : page_at (addr + 4096 * n) ≡ from + n
  next_page = omega (arith, c.at)

  -- how many name a region
  counts : (id : ℕ) → named_in id parts
      ≡ named_in id (others at h.maps)
      + (named_in id (part_of m m.range.from addr) + named_in id (part_of m (addr + 4096 * n) (m.range.from + m.range.size)))
  counts id = total h.maps at m addr (4096 * n) id c.item

  -- all uses of a region of one use are in the space that names it
  one_space : uses_in m.first k.spaces ≡ named_in m.first h.maps
  one_space =
      omega (arith, regular.uses m.first r c.there, c.one, counted m.first k.spaces number h home, named m.first h.maps at m c.item refl)

  uses_front : (s : Region) → s ≡ before r from → s.uses + named_in m.first h.maps ≡ uses_in m.first k.spaces + named_in m.first parts
  uses_front s is =
      let all = counts m.first in
      let none : named_in m.first (others at h.maps) ≡ 0 = none_other k.regions h.maps at m r addr n from c in
      let back = part_other m (addr + 4096 * n) (m.range.from + m.range.size) m.first (λ e. omega (arith, e, next_page, c.low, c.some)) in
      let uses : s.uses ≡ (before r from).uses = ap (λ (q : Region). q.uses) is in
      elim (cases_eq m.range.from addr) [
        | inl same ↦ (
            let gone : (before r from).uses ≡ 0 = rw (eq-eqb from r.first (omega (arith, same, c.begin, c.at, c.begins))) refl in
            let front = part_none m m.range.from addr m.first same in
            omega (arith, all, none, back, uses, gone, front, one_space))
        | inr differ ↦ (
            let kept : (before r from).uses ≡ r.uses = rw (ne_eqb from r.first (λ e. differ (omega (arith, e, c.begin, c.at, c.begins)))) refl in
            let front = behind_one m m.range.from addr m.first differ first_page in
            omega (arith, all, none, back, uses, kept, front, one_space, c.one))
      ]

  -- no live region stands at a page inside of another one
  pub none_inside : from + n < m.first + r.pages → uses_in (from + n) k.spaces ≡ 0
  none_inside more =
      let place = from + n in
      let s = get_or k.regions place r in
      let there = slice_get-get_or k.regions place r (omega (arith, more, c.inside)) in
      elim (cases_lt 0 s.uses) [
        | inl live ↦ (
            let begins = regular.regions.begins place s there live in
            let some = regular.regions.some place s there live in
            let theirs : holds s place ≡ true = grind (arith, nat_tests, live, begins, some) in
            let ours : holds r place ≡ true = grind (arith, nat_tests, c.one, c.begins, c.low, more) in
            absurd (let same = regular.regions.apart place m.first s r place there c.there theirs ours in omega (arith, same, c.low, c.some)))
        | inr none ↦ omega (arith, none, regular.uses place s there)
      ]

  uses_back : (s : Region) → s ≡ behind r (from + n) → from + n < m.first + r.pages
      → s.uses + named_in (from + n) h.maps ≡ uses_in (from + n) k.spaces + named_in (from + n) parts
  uses_back s is more =
      let all = counts (from + n) in
      let none = none_inside more in
      let few = counted (from + n) k.spaces number h home in
      let rest = count_others h.maps at (from + n) m c.item in
      let front = part_other m m.range.from addr (from + n) (λ e. omega (arith, e, first_page, c.low, c.some)) in
      let differ : addr + 4096 * n ≢ m.range.from + m.range.size = λ e. omega (arith, e, c.at, c.begin, c.size, more) in
      let back = behind_one m (addr + 4096 * n) (m.range.from + m.range.size) (from + n) differ next_page in
      let uses : s.uses ≡ r.uses = ap (λ (q : Region). q.uses) is in
      omega (arith, all, none, few, rest, front, back, uses, c.one)

  uses_other : (id : ℕ) (s : Region) → id ≢ m.first → (from + n < m.first + r.pages → id ≢ from + n) → slice_get k.regions id ≡ Some s
      → s.uses + named_in id h.maps ≡ uses_in id k.spaces + named_in id parts
  uses_other id s other past there =
      let all = counts id in
      let rest = count_others h.maps at id m c.item in
      let one = ap (λ (b : Bool). cond {A = ℕ} b 1 0) (ne_eqb m.first id (λ e. other (sym e))) in
      let front = part_other m m.range.from addr id (λ e. other (sym e ∙ first_page)) in
      let back : named_in id (part_of m (addr + 4096 * n) (m.range.from + m.range.size)) ≡ 0 = elim (cases_lt (from + n) (m.first + r.pages)) [
        | inl more ↦ part_other m (addr + 4096 * n) (m.range.from + m.range.size) id (λ e. past more (sym e ∙ next_page))
        | inr ends ↦ part_none m (addr + 4096 * n) (m.range.from + m.range.size) id (omega (arith, ends, c.high, c.at, c.begin, c.size))
      ] in
      omega (arith, all, rest, one, front, back, regular.uses id s there)

  pub uses_cut : (id : ℕ) (s : Region) → slice_get (with_cut k.regions m.first from n) id ≡ Some s
      → s.uses + named_in id h.maps ≡ uses_in id k.spaces + named_in id parts
  uses_cut id s is = elim (stood k.regions m.first from n r c.there c.begins id s is) [
    | inl front ↦ rw front.0 (uses_front s front.1)
    | inr more ↦ elim more [
      | inl back ↦ rw back.0 (uses_back s back.1 back.2)
      | inr other ↦ uses_other id s other.0 other.1 other.2
    ]
  ]

  pub was_cut : (id : ℕ) (s : Region) → slice_get (with_cut k.regions m.first from n) id ≡ Some s → WasOrOwn k.regions id s
  was_cut id s is = elim (stood k.regions m.first from n r c.there c.begins id s is) [
    | inl front ↦ inr (ap (λ (q : Region). q.source) front.1 ∙ c.own, omega (arith, uses_before, ap (λ (q : Region). q.uses) front.1, c.one))
    | inr more ↦ elim more [
      | inl back ↦ inr (ap (λ (q : Region). q.source) back.1 ∙ c.own, omega (arith, ap (λ (q : Region). q.uses) back.1, c.one))
      | inr other ↦ inl (record { old = s; there = other.2; same = refl; fewer = omega arith })
    ]
  ]
    where
      uses_before : (before r from).uses ≤ r.uses
      uses_before = elim (cases_eq from r.first) [
        | inl same ↦ rw (eq-eqb from r.first same) (omega arith)
        | inr differ ↦ rw (ne_eqb from r.first differ) (omega arith)
      ]

-- What an id leads to, before and after one region changes.
use Rattle.std.proofs.Common.{◌≡◌, ◌≢◌, ℕ, ◌+◌, ◌<◌, ◌≤◌, inl, inr, true, false, List, length, get_or, arith, refl, ap, ◌∙◌, sym, subst, length-set}
use Rattle.std.specs.Prelude.{Some, slice_get, slice_set, nat_lt}
use Rattle.std.specs.List.{swap}
use Rattle.std.proofs.lemmas.Bool.{cases_lt, ne_eqb, false≢true}
use Rattle.std.proofs.lemmas.Bool.Decides.{nat_tests}
use Rattle.std.proofs.lemmas.List.{get_or_past, get_or_read_under}
use Rattle.std.proofs.lemmas.List.Edits.{swapped_from_swap}
use Rattle.std.proofs.lemmas.Option.{same_Some, slice_get_within, slice_get_read, get_or_from_slice_get}
use Rattle.page_runs.specs.Free.{Free, with_free}
use Rattle.nommu_regions.specs.declared.region.Region.{Region}
use Rattle.nommu_regions.specs.Regions.{holds, AreRegions, AreFree, IsLive, CanCut, HaveFreeRuns, free_behind, free_of, with_uses, before, behind, with_cut}
use Rattle.nommu_regions.specs.Ids.{Numbered, AreInverse, IdsBehind, Lives, OthersRemain, UpperPart, has_both, has_upper, kept_part, region_of, start_of}
use Rattle.nommu_regions.proofs.Held.{held_by}
use Rattle.nommu_regions.proofs.OneChanges.{get_set, get_other, live_set}
use Rattle.nommu_regions.proofs.Cut.{IsCut, is_cut, cut_lower, cut_upper, cut_other, freed}
use Rattle.nommu_regions.proofs.Ids.{id_within, start_within, apart}

abbrev pub table : List Region → List ℕ → Numbered
table rs starts = record { regions = rs; starts = starts }

-- ---- what was read at an id

pub record At (rs : List Region) (starts : List ℕ) (now : Numbered) (id f : ℕ) (x : Region) : Type 0 where
  pub same : table rs starts ≡ now
  pub mine : get_or starts id (length rs) ≡ f
  pub start : start_of now id ≡ f
  pub there : slice_get rs f ≡ Some x
  pub live : 0 < x.uses

pub lives_at : (rs : List Region) (starts : List ℕ) (now : Numbered) (id : ℕ) → table rs starts ≡ now → Lives now id → IsLive rs (get_or starts id (length rs))
lives_at rs starts now id same live = subst (λ (s : Numbered). Lives s id) (sym same) live

pub first_at : (rs : List Region) (ids starts : List ℕ) (now : Numbered) (id f slen : ℕ) → table rs starts ≡ now → AreInverse ids starts (length rs) → Lives now id →
    slen ≡ length starts → f ≡ get_or starts id f → get_or starts id (length rs) ≡ f
first_at rs ids starts now id f slen same is live len read =
    sym (get_or_read_under starts id slen f (length rs) read (omega (arith, id_within rs ids starts id is (lives_at rs starts now id same live))) len)

pub read_at : (rs : List Region) (ids starts : List ℕ) (now : Numbered) (id f slen rlen : ℕ) (x : Region) → table rs starts ≡ now → AreInverse ids starts (length rs) → Lives now id →
    slen ≡ length starts → f ≡ get_or starts id f → rlen ≡ length rs → x ≡ get_or rs f x → At rs starts now id f x
read_at rs ids starts now id f slen rlen x same is live len read rs_len value =
    let mine : get_or starts id (length rs) ≡ f = first_at rs ids starts now id f slen same is live len read in
    let lives : IsLive rs f = rw mine at (lives_at rs starts now id same live) in
    let there : slice_get rs f ≡ Some x = slice_get_read rs rlen f x rs_len (omega (arith, start_within rs f lives)) value in
    let one : lives.region ≡ x = same_Some _ _ (sym lives.there ∙ there) in
    record {
      same = same;
      mine = mine;
      start = rw (← same) mine;
      there = there;
      live = omega (arith, lives.live, ap (λ (q : Region). q.uses) one);
    }

pub region_at : (rs : List Region) (starts : List ℕ) (now : Numbered) (id f : ℕ) (x : Region) → At rs starts now id f x → region_of now id ≡ Some x
region_at rs starts now id f x at = rw (at.start, ← at.same) at.there

-- an id that was read at a page
pub start_at : (rs : List Region) (ids starts : List ℕ) (now : Numbered) (page id len : ℕ) → table rs starts ≡ now → AreInverse ids starts (length rs) → page < length rs →
    len ≡ length ids → id ≡ get_or ids page id → start_of now id ≡ page
start_at rs ids starts now page id len same is less is_len read =
    let mine : id ≡ get_or ids page (length rs) = get_or_read_under ids page len id (length rs) read (omega (arith, is.ids_len)) is_len in
    rw (← same, mine) (is.back page less)

-- ---- one region changes

pub inverse_set : (rs : List Region) (ids starts : List ℕ) (f : ℕ) (v : Region) → AreInverse ids starts (length rs) → AreInverse ids starts (length (slice_set rs f v))
inverse_set rs ids starts f v is = subst (AreInverse ids starts) (sym (length-set rs f v)) is

pub uses_is : (rs : List Region) (starts : List ℕ) (now : Numbered) (id f : ℕ) (x : Region) (change : ℕ → ℕ) → At rs starts now id f x →
    table (slice_set rs f (record x { uses = change x.uses })) starts ≡ record now { regions = with_uses now.regions (start_of now id) change }
uses_is rs starts now id f x change at = rw (at.start, ← at.same, at.there) refl

pub lives_set : (rs : List Region) (starts : List ℕ) (now : Numbered) (id f : ℕ) (x v : Region) → At rs starts now id f x → 0 < v.uses → Lives (table (slice_set rs f v) starts) id
lives_set rs starts now id f x v at live = rw (length-set rs f v, at.mine) (live_set rs f v (slice_get_within rs f x at.there) live)

pub lives_new : (rs : List Region) (ids starts : List ℕ) (page id len : ℕ) (v : Region) → AreInverse ids starts (length rs) → page < length rs → len ≡ length ids →
    id ≡ get_or ids page id → 0 < v.uses → Lives (table (slice_set rs page v) starts) id
lives_new rs ids starts page id len v is less is_len read live =
    let here : get_or starts id (length rs) ≡ page = start_at rs ids starts (table rs starts) page id len refl is less is_len read in
    rw (length-set rs page v, here) (live_set rs page v less live)

pub region_new : (rs : List Region) (starts : List ℕ) (now : Numbered) (page id : ℕ) (v : Region) → table rs starts ≡ now → start_of now id ≡ page → page < length rs →
    region_of (table (slice_set rs page v) starts) id ≡ Some v
region_new rs starts now page id v same here less =
    let mine : get_or starts id (length rs) ≡ page = subst (λ (s : Numbered). start_of s id ≡ page) (sym same) here in
    rw (length-set rs page v, mine) (get_set rs page v less)

pub others_set : (rs : List Region) (ids starts : List ℕ) (now : Numbered) (id f : ℕ) (v : Region) → table rs starts ≡ now → AreInverse ids starts (length rs) →
    ((other : ℕ) → other ≢ id → IsLive rs (get_or starts other (length rs)) → get_or starts other (length rs) ≢ f) → OthersRemain id now (table (slice_set rs f v) starts)
others_set rs ids starts now id f v same is away other differs live =
    let lives = lives_at rs starts now other same live in
    rw (← same, length-set rs f v) (get_other rs f (get_or starts other (length rs)) v (away other differs lives))

pub others_stay : (rs : List Region) (ids starts : List ℕ) (now : Numbered) (id f : ℕ) (x v : Region) → AreInverse ids starts (length rs) → At rs starts now id f x →
    OthersRemain id now (table (slice_set rs f v) starts)
others_stay rs ids starts now id f x v is at =
    others_set rs ids starts now id f v at.same is (λ other differs lives e.
    apart rs ids starts id other is (rw at.mine (record { region = x; there = at.there; live = at.live })) lives differs (e ∙ sym at.mine))

-- a free page is the first one of no region
pub away_from_free : (rs : List Region) (first count p : ℕ) → AreRegions rs → AreFree rs first count → 0 < count → IsLive rs p → p ≢ first
away_from_free rs first count p regions free some live e =
    let at : holds live.region p ≡ true = grind (arith, nat_tests, regions.begins p live.region live.there live.live, regions.some p live.region live.there live.live, live.live) in
    false≢true (sym (free.free p (grind (arith, nat_tests))) ∙ held_by rs p live.region p live.there at)

-- ---- pages are cut out

pub can_cut : (rs : List Region) (starts : List ℕ) (now : Numbered) (id f from count : ℕ) → table rs starts ≡ now → get_or starts id (length rs) ≡ f → CanCut now.regions (start_of now id) from count →
    CanCut rs f from count
can_cut rs starts now id f from count same mine can =
    let here : CanCut rs (get_or starts id (length rs)) from count = subst (λ (s : Numbered). CanCut s.regions (start_of s id) from count) (sym same) can in
    rw mine at here

pub cut_at : (rs : List Region) (starts : List ℕ) (now : Numbered) (id f : ℕ) (x : Region) (from count : ℕ) → At rs starts now id f x → CanCut now.regions (start_of now id) from count →
    IsCut rs f x from count
cut_at rs starts now id f x from count at can =
    subst (λ (y : Region). IsCut rs f y from count) (get_or_from_slice_get rs f x x at.there) (is_cut rs f from count x (can_cut rs starts now id f from count at.same at.mine can))

pub lives_cut : (rs : List Region) (starts : List ℕ) (now : Numbered) (id from count : ℕ) → CanCut now.regions (start_of now id) from count → Lives now id
lives_cut rs starts now id from count can = record { region = can.region; there = can.there; live = omega (arith, can.one) }

same_region : (rs : List Region) (starts : List ℕ) (now : Numbered) (id f : ℕ) (x r : Region) → At rs starts now id f x → region_of now id ≡ Some r → x ≡ r
same_region rs starts now id f x r at is = same_Some _ _ (sym (region_at rs starts now id f x at) ∙ is)

lower_is : (x : Region) (from count : ℕ) → x.first < from → kept_part x from count ≡ before x from
lower_is x from count later =
    let yes : nat_lt x.first from ≡ true = grind (arith, nat_tests) in
    rw yes refl

upper_is : (x : Region) (from count : ℕ) → from ≤ x.first → kept_part x from count ≡ behind x (from + count)
upper_is x from count first =
    let no : nat_lt x.first from ≡ false = grind (arith, nat_tests) in
    rw no refl

pub part_lower : (rs new : List Region) (starts : List ℕ) (now : Numbered) (id f : ℕ) (x : Region) (from count : ℕ) → At rs starts now id f x → IsCut rs f x from count →
    new ≡ with_cut rs f from count → length new ≡ length rs → x.first ≡ f → f < from → (r : Region) → region_of now id ≡ Some r →
    region_of (table new starts) id ≡ Some (kept_part r from count)
part_lower rs new starts now id f x from count at cut is len begins later r named =
    let stands : slice_get new f ≡ Some (before x from) = rw is (cut_lower rs f x from count cut (λ e. absurd (omega (arith, cut.some)))) in
    rw (len, at.mine, stands, ← same_region rs starts now id f x r at named, lower_is x from count (omega arith)) refl

pub live_kept : (s : Numbered) (id : ℕ) (x : Region) (from count : ℕ) → x.uses ≡ 1 → region_of s id ≡ Some (kept_part x from count) → Lives s id
live_kept s id x from count one is = record {
  region = kept_part x from count;
  there = is;
  live = elim (cases_lt x.first from) [
    | inl later ↦ rw (lower_is x from count later, ne_eqb from x.first (λ e. omega (arith, later, e))) (omega arith)
    | inr first ↦ rw (upper_is x from count first) (omega arith)
  ];
}

pub live_upper : (s : Numbered) (x : Region) (from count upper : ℕ) → x.uses ≡ 1 → UpperPart s x from count (Some upper) → Lives s upper
live_upper s x from count upper one part = record { region = behind x (from + count); there = part.1; live = omega arith }

pub none_upper : (rs : List Region) (starts : List ℕ) (now : Numbered) (id f : ℕ) (x : Region) (from count : ℕ) → At rs starts now id f x →
    from + count ≡ x.first + x.pages → (r : Region) → region_of now id ≡ Some r → has_both r from count ≡ false
none_upper rs starts now id f x from count at ends r named =
    rw (← same_region rs starts now id f x r at named) (grind (arith, nat_tests))

pub none_lower : (rs : List Region) (starts : List ℕ) (now : Numbered) (id f : ℕ) (x : Region) (from count : ℕ) → At rs starts now id f x →
    from ≤ x.first → (r : Region) → region_of now id ≡ Some r → has_both r from count ≡ false
none_lower rs starts now id f x from count at first r named =
    rw (← same_region rs starts now id f x r at named) (grind (arith, nat_tests))

pub some_upper : (rs new : List Region) (ids starts : List ℕ) (now : Numbered) (id f : ℕ) (x : Region) (from count upper : ℕ) → At rs starts now id f x → IsCut rs f x from count →
    AreInverse ids starts (length rs) → new ≡ with_cut rs f from count → length new ≡ length rs → x.first ≡ f → f < from → x.first + x.pages ≤ length rs → from + count < x.first + x.pages →
    upper ≡ get_or ids (from + count) (length rs) → (r : Region) → region_of now id ≡ Some r → UpperPart (table new starts) r from count (Some upper)
some_upper rs new ids starts now id f x from count upper at cut inverse is len begins later inside more read r named =
    rw (← same_region rs starts now id f x r at named)
    (grind (arith, nat_tests), rw (len, read, inverse.back (from + count) (omega arith), is) (cut_upper rs f x from count cut inside more))

pub others_cut : (rs new : List Region) (ids starts : List ℕ) (now : Numbered) (id f : ℕ) (x : Region) (from count : ℕ) → At rs starts now id f x → IsCut rs f x from count →
    AreInverse ids starts (length rs) → AreRegions rs → new ≡ with_cut rs f from count → length new ≡ length rs → OthersRemain id now (table new starts)
others_cut rs new ids starts now id f x from count at cut inverse regions is len other differs live =
    let lives = lives_at rs starts now other at.same live in
    let away = apart rs ids starts id other inverse (rw at.mine (record { region = x; there = at.there; live = at.live })) lives differs in
    rw (← at.same, len, is) (cut_other rs f x from count (get_or starts other (length rs)) regions cut lives (λ e. away (e ∙ sym at.mine)))

-- ---- the id goes to the upper part

starts_swapped : (starts : List ℕ) (n one other : ℕ) → length starts ≡ n → one < n → other < n → get_or (swap starts one other) one n ≡ get_or starts other n
starts_swapped starts n one other len first second = (swapped_from_swap starts (swap starts one other) one other n (omega arith) (omega arith) refl).0

starts_else : (starts : List ℕ) (n one other m : ℕ) → length starts ≡ n → one < n → other < n → m ≢ one → m ≢ other → get_or (swap starts one other) m n ≡ get_or starts m n
starts_else starts n one other m len first second x y = (swapped_from_swap starts (swap starts one other) one other n (omega arith) (omega arith) refl).2 m x y

pub part_upper : (rs new : List Region) (ids starts st : List ℕ) (now : Numbered) (id f : ℕ) (x : Region) (from count upper : ℕ) → At rs starts now id f x → IsCut rs f x from count →
    AreInverse ids starts (length rs) → new ≡ with_cut rs f from count → length new ≡ length rs → from ≤ x.first → x.first + x.pages ≤ length rs → from + count < x.first + x.pages →
    id < length rs → upper ≡ get_or ids (from + count) (length rs) → st ≡ swap starts id upper → (r : Region) → region_of now id ≡ Some r →
    region_of (table new st) id ≡ Some (kept_part r from count)
part_upper rs new ids starts st now id f x from count upper at cut inverse is len first inside more less read swaps r named =
    let up : upper < length rs = omega (arith, inverse.id (from + count) (omega arith)) in
    let moved : get_or (swap starts id upper) id (length rs) ≡ from + count =
    starts_swapped starts (length rs) id upper inverse.starts_len less up ∙ (ap (λ k. get_or starts k (length rs)) read ∙ inverse.back (from + count) (omega arith)) in
    let stands : slice_get new (from + count) ≡ Some (behind x (from + count)) = rw is (cut_upper rs f x from count cut inside more) in
    rw (swaps, len, moved, stands, ← same_region rs starts now id f x r at named, upper_is x from count first) refl

pub others_swapped : (rs new : List Region) (ids starts st : List ℕ) (now : Numbered) (id f : ℕ) (x : Region) (from count upper : ℕ) → At rs starts now id f x → IsCut rs f x from count →
    AreInverse ids starts (length rs) → AreRegions rs → new ≡ with_cut rs f from count → length new ≡ length rs → x.first ≡ f → x.first + x.pages ≤ length rs → from + count < x.first + x.pages →
    id < length rs → upper ≡ get_or ids (from + count) (length rs) → st ≡ swap starts id upper → OthersRemain id now (table new st)
others_swapped rs new ids starts st now id f x from count upper at cut inverse regions is len begins inside more less read swaps other differs live =
    let lives = lives_at rs starts now other at.same live in
    let away = apart rs ids starts id other inverse (rw at.mine (record { region = x; there = at.there; live = at.live })) lives differs in
    let up : upper < length rs = omega (arith, inverse.id (from + count) (omega arith)) in
    let kept = starts_else starts (length rs) id upper other inverse.starts_len less up differs (λ e. not_upper lives (λ k. away (k ∙ sym at.mine)) e) in
    rw (← at.same, swaps, len, kept, is) (cut_other rs f x from count (get_or starts other (length rs)) regions cut lives (λ e. away (e ∙ sym at.mine)))
  where
    not_upper : IsLive rs (get_or starts other (length rs)) → get_or starts other (length rs) ≢ f → other ≡ upper → ⊥
    not_upper lives differs e =
        let at_end : get_or starts other (length rs) ≡ from + count = ap (λ k. get_or starts k (length rs)) (e ∙ read) ∙ inverse.back (from + count) (omega arith) in
        let its = regions.begins (get_or starts other (length rs)) lives.region lives.there lives.live in
        let some = regions.some (get_or starts other (length rs)) lives.region lives.there lives.live in
        let one : holds lives.region (from + count) ≡ true = grind (arith, nat_tests, its, some, at_end, lives.live) in
        let two : holds x (from + count) ≡ true = grind (arith, nat_tests, at.live, cut.first, more) in
        differs (regions.apart (get_or starts other (length rs)) f lives.region x (from + count) lives.there at.there one two)

-- ---- which ids change places

pub ids_stay : (rs new : List Region) (starts : List ℕ) (now : Numbered) (id f : ℕ) (x : Region) (from count : ℕ) → At rs starts now id f x →
    has_upper x from count ≡ false → (r : Region) → region_of now id ≡ Some r → IdsBehind now (table new starts) r id from count
ids_stay rs new starts now id f x from count at less r named = rw (← same_region rs starts now id f x r at named) (record {
  stay = λ none. rw (← at.same) refl;
  change = λ other yes here. absurd (false≢true (sym less ∙ yes));
})

pub ids_swapped : (rs new : List Region) (ids starts st : List ℕ) (now : Numbered) (id f : ℕ) (x : Region) (from count upper : ℕ) → At rs starts now id f x →
    AreInverse ids starts (length rs) → has_upper x from count ≡ true → from + count < length rs → upper ≡ get_or ids (from + count) (length rs) → st ≡ swap starts id upper →
    (r : Region) → region_of now id ≡ Some r → IdsBehind now (table new st) r id from count
ids_swapped rs new ids starts st now id f x from count upper at inverse up inside read swaps r named = rw (← same_region rs starts now id f x r at named) (record {
  stay = λ none. absurd (false≢true (sym none ∙ up));
  change = λ other yes here. rw (← at.same, is_upper other (subst (λ (s : Numbered). start_of s other ≡ from + count) (sym at.same) here)) swaps;
})
  where
    within : (other : ℕ) → get_or starts other (length rs) ≡ from + count → other < length rs
    within other here = elim (cases_lt other (length starts)) [
      | inl less ↦ omega (arith, less, inverse.starts_len)
      | inr past ↦ absurd (omega (arith, get_or_past starts other (length rs) past, here, inside))
    ]

    is_upper : (other : ℕ) → get_or starts other (length rs) ≡ from + count → other ≡ upper
    is_upper other here = sym (inverse.forth other (within other here)) ∙ (ap (λ k. get_or ids k (length rs)) here ∙ sym read)

-- ---- the free runs behind one use less

pub free_last : (rs new : List Region) (starts : List ℕ) (now : Numbered) (id f : ℕ) (x : Region) (free given : Free) → At rs starts now id f x → HaveFreeRuns rs free → HaveFreeRuns new given →
    given ≡ with_free free x.first x.pages → x.uses ≡ 1 → (r : Region) → region_of now id ≡ Some r → free_of new ≡ free_behind r (free_of now.regions)
free_last rs new starts now id f x free given at kept after is one r named =
    rw (← same_region rs starts now id f x r at named, ← at.same, one) (freed rs new free given x.first x.pages kept after is)

pub free_used : (rs new : List Region) (starts : List ℕ) (now : Numbered) (id f : ℕ) (x : Region) (free : Free) → At rs starts now id f x → HaveFreeRuns rs free → HaveFreeRuns new free →
    x.uses ≢ 1 → (r : Region) → region_of now id ≡ Some r → free_of new ≡ free_behind r (free_of now.regions)
free_used rs new starts now id f x free at kept after more r named =
    rw (← same_region rs starts now id f x r at named, ← at.same, ne_eqb x.uses 1 more) (sym after.1 ∙ kept.1)

-- The parts without a process, and without a space, are regular.
use Rattle.std.proofs.Common.{◌≡◌, ◌≢◌, ℕ, zero, suc, ◌+◌, ◌-◌, ◌<◌, ◌≤◌, inl, inr, Bool, true, false, List, [], ◌∷◌, length, get_or, arith, refl, sym, ap, ◌∙◌, length-set}
use Rattle.std.specs.Prelude.{Option, Some, None, slice_get, slice_set, ◌==◌}
use Rattle.std.proofs.lemmas.Option.{same_Some, none-some, slice_get_within, slice_get-get_or}
use Rattle.std.proofs.lemmas.Bool.Decides.{nat_tests}
use Rattle.nommu_regions.specs.declared.region.Region.{Region}
use Rattle.nommu_regions.specs.Regions.{holds, AreRegions, with_uses, uses_of, uses_in as uses_at}
use Rattle.mmap_rules.specs.declared.mapping.Mapping.{Mapping}
use Rattle.mmap_rules.specs.Held.{Held, CanRelease, released}
use Rattle.vfork_exec.specs.declared.entry.Entry.{Entry}
use Rattle.vfork_exec.specs.declared.family.State.TheVariants.{Ready}
use Rattle.vfork_exec.specs.Procs.{process, borrows, with_end}
use Rattle.kept_parts.specs.declared.task.Task.{Task}
use Rattle.machine_world.specs.World.{Recording}
use Rattle.kept_parts.specs.Kept.{Kept}
use Rattle.kept_parts.specs.Regular.{Regular, named_in, uses_in}
use Rattle.call_log.specs.declared.how.How.{How}
use Rattle.call_log.specs.Notes.{Note}
use Rattle.kept_parts.specs.Gone.{without_space, space_left, ended, gone}
use Rattle.kept_parts.proofs.Common.ProcessList.{stayed, alone_in, own_pid, chains_ended, falls_ended, count_ended}
use Rattle.call_bytes.proofs.Places.{decide, get_set, get_other, after_set}
use Rattle.kept_parts.proofs.Common.UseCounts.{eqb_is, named_yes, named_no, counted, named_by}

-- ---- the uses of the regions

abbrev less : Region → ℕ → Region
less r n = record r { uses = r.uses - n }

abbrev dropped : List Region → ℕ → List Region
dropped rs id = with_uses rs id (λ uses. uses - 1)

-- one use less at an id
dropped_at : (rs : List Region) (at : ℕ) (r : Region) → slice_get rs at ≡ Some r → slice_get (dropped rs at) at ≡ Some (less r 1)
dropped_at rs at r there = rw there (get_set rs at (less r 1) (slice_get_within rs at r there))

dropped_other : (rs : List Region) (at id : ℕ) (o : Option Region) → slice_get rs at ≡ o → id ≢ at → slice_get (dropped rs at) id ≡ slice_get rs id
dropped_other rs at id None is other = rw is refl
dropped_other rs at id (Some r) is other = rw is (get_other rs at id (less r 1) other)

length_dropped : (rs : List Region) (at : ℕ) (o : Option Region) → slice_get rs at ≡ o → length (dropped rs at) ≡ length rs
length_dropped rs at None is = rw is refl
length_dropped rs at (Some r) is = rw is (length-set rs at (less r 1))

pub length_released : (rs : List Region) (maps : List Mapping) → length (released rs maps) ≡ length rs
length_released rs [] = refl
length_released rs (m ∷ maps) = length_released (dropped rs m.first) maps ∙ length_dropped rs m.first (slice_get rs m.first) refl

-- each region has as many uses less as mappings name it
pub released_at : (rs : List Region) (maps : List Mapping) (id : ℕ) (r : Region) → slice_get rs id ≡ Some r
    → slice_get (released rs maps) id ≡ Some (record r { uses = r.uses - named_in id maps })
released_at rs [] id r there = there ∙ ap (λ (n : ℕ). Some (record r { uses = n })) (let x = r.uses in omega arith)
released_at rs (m ∷ maps) id r there = elim (decide (m.first == id)) [
  | inl here ↦
      let same = eqb_is m.first id here in
      let at : slice_get (dropped rs m.first) id ≡ Some (less r 1) = rw same (dropped_at rs id r there) in
      released_at (dropped rs m.first) maps id (less r 1) at
      ∙ ap (λ (n : ℕ). Some (record r { uses = n })) (let yes = named_yes id m maps same in omega (arith, yes))
  | inr other ↦
      let ne : m.first ≢ id = grind (arith, nat_tests) in
      let at : slice_get (dropped rs m.first) id ≡ Some r = dropped_other rs m.first id (slice_get rs m.first) refl (λ e. ne (sym e)) ∙ there in
      released_at (dropped rs m.first) maps id r at
      ∙ ap (λ (n : ℕ). Some (record r { uses = n })) (let no = named_no id m maps ne in omega (arith, no))
]

-- a region of the new ones, as it was
record Was (rs : List Region) (maps : List Mapping) (id : ℕ) (s : Region) : Type 0 where
  old : Region
  there : slice_get rs id ≡ Some old
  first : s.first ≡ old.first
  pages : s.pages ≡ old.pages
  source : s.source ≡ old.source
  uses : s.uses ≡ old.uses - named_in id maps

was : (rs : List Region) (maps : List Mapping) (id : ℕ) (s : Region) → slice_get (released rs maps) id ≡ Some s → Was rs maps id s
was rs maps id s is =
    let inside : id < length rs = omega (arith, slice_get_within (released rs maps) id s is, length_released rs maps) in
    let r = get_or rs id s in
    let there = slice_get-get_or rs id s inside in
    let same : s ≡ record r { uses = r.uses - named_in id maps } = same_Some _ _ (sym is ∙ released_at rs maps id r there) in
    record {
      old = r;
      there = there;
      first = ap (λ (q : Region). q.first) same;
      pages = ap (λ (q : Region). q.pages) same;
      source = ap (λ (q : Region). q.source) same;
      uses = ap (λ (q : Region). q.uses) same;
    }

pub regions_released : (rs : List Region) (maps : List Mapping) → AreRegions rs → AreRegions (released rs maps)
regions_released rs maps regions = record {
  begins = λ id s is live. let w = was rs maps id s is in w.first ∙ regions.begins id w.old w.there (omega (arith, w.uses, live));
  some = λ id s is live. let w = was rs maps id s is in omega (arith, w.pages, w.uses, regions.some id w.old w.there (omega (arith, w.uses, live)));
  inside = λ id s is live.
      let w = was rs maps id s is in
      omega (arith, w.first, w.pages, length_released rs maps, regions.inside id w.old w.there (omega (arith, w.uses, live)));
  apart = λ i j s t p is it s_has t_has.
      let v = was rs maps i s is in
      let w = was rs maps j t it in
      regions.apart i j v.old w.old p v.there w.there (held s v.old p v.first v.pages (omega (arith, v.uses)) s_has)
      (held t w.old p w.first w.pages (omega (arith, w.uses)) t_has);
}
  where
    held : (s r : Region) (p : ℕ) → s.first ≡ r.first → s.pages ≡ r.pages → s.uses ≤ r.uses → holds s p ≡ true → holds r p ≡ true
    held s r p first pages uses has = grind (arith, nat_tests, has)

-- where no region is named more often than it is used, each mapping can give up its use
pub can_release : (rs : List Region) (maps : List Mapping) → ((id : ℕ) → named_in id maps ≤ uses_of rs id) → CanRelease rs maps
can_release rs [] enough = tt
can_release rs (m ∷ maps) enough = by_region (slice_get rs m.first) refl (λ more. can_release (dropped rs m.first) maps more)
  where
    some_use : (o : Option Region) → slice_get rs m.first ≡ o → 0 < uses_at o
    some_use o is =
        let e = enough m.first in
        let same : uses_of rs m.first ≡ uses_at o = ap uses_at is in
        omega (arith, e, same, named_yes m.first m maps refl)

    fewer : (r : Region) → slice_get rs m.first ≡ Some r → (id : ℕ) → named_in id maps ≤ uses_of (dropped rs m.first) id
    fewer r is id = elim (decide (m.first == id)) [
      | inl here ↦
          let same = eqb_is m.first id here in
          let there : slice_get rs id ≡ Some r = ap (slice_get rs) (sym same) ∙ is in
          let now : uses_of (dropped rs m.first) id ≡ r.uses - 1 = rw same (ap uses_at (dropped_at rs id r there)) in
          omega (arith, now, enough id, ap uses_at there, named_yes id m maps same)
      | inr other ↦
          let ne : m.first ≢ id = grind (arith, nat_tests) in
          let now = ap uses_at (dropped_other rs m.first id (Some r) is (λ e. ne (sym e))) in
          omega (arith, now, enough id, named_no id m maps ne)
    ]

    by_region : (o : Option Region) → slice_get rs m.first ≡ o → (((id : ℕ) → named_in id maps ≤ uses_of (dropped rs m.first) id) → CanRelease (dropped rs m.first) maps)
        → CanRelease rs (m ∷ maps)
    by_region None is more = absurd (omega (arith, some_use None is))
    by_region (Some r) is more = (record { region = r; there = is; live = some_use (Some r) is }, more (fewer r is))

-- ---- the spaces

-- without one of them its mappings count no more
pub uses_without : (id : ℕ) (spaces : List (Option Held)) (i : ℕ) (h : Held) → slice_get spaces i ≡ Some (Some h)
    → uses_in id (slice_set spaces i None) + named_in id h.maps ≡ uses_in id spaces
uses_without id [] i h is = absurd (none-some _ is)
uses_without id (None ∷ spaces) zero h is = absurd (none-some h (same_Some _ _ is))
uses_without id (Some g ∷ spaces) zero h is =
    let same = ap (λ (x : Held). named_in id x.maps) (same_Some _ _ (same_Some _ _ is)) in omega (arith, same)
uses_without id (None ∷ spaces) (suc i) h is = uses_without id spaces i h is
uses_without id (Some g ∷ spaces) (suc i) h is = omega (arith, uses_without id spaces i h is)

module _ (k : Kept) (number : ℕ) (h : Held) (regular : Regular k) (space : slice_get k.spaces number ≡ Some (Some h)) where
  enough : (id : ℕ) → named_in id h.maps ≤ uses_of k.regions id
  enough id = by_count (named_in id h.maps) refl
    where
      by_count : (n : ℕ) → named_in id h.maps ≡ n → named_in id h.maps ≤ uses_of k.regions id
      by_count zero none = omega (arith, none)
      by_count (suc n) some =
          let one = named_by id h.maps (omega (arith, some)) in
          let names = regular.names number one.place h one.mapping space one.there in
          let there : slice_get k.regions id ≡ Some names.region = ap (slice_get k.regions) (sym one.names) ∙ names.there in
          omega (arith, ap uses_at there, regular.uses id names.region there, counted id k.spaces number h space)

  pub can_give_up : CanRelease k.regions h.maps
  can_give_up = can_release k.regions h.maps enough

  old_space : (i : ℕ) (g : Held) → slice_get (slice_set k.spaces number None) i ≡ Some (Some g) → slice_get k.spaces i ≡ Some (Some g)
  old_space i g is = elim (after_set k.spaces number i None (Some g) is) [
    | inl here ↦ absurd (none-some g (sym here.1))
    | inr other ↦ other.1
  ]

  -- a space goes, in which no process runs
  pub regular_without : ((pid : ℕ) (e : Entry Task) → process k.procs pid ≡ Some e → e.value.space ≢ number) → Regular (without_space k number h)
  regular_without nobody =
      let len = length_released k.regions h.maps in
      record {
        memory = rw len regular.memory;
        some = omega (arith, len, regular.some);
        most = omega (arith, len, regular.most);
        regions = regions_released k.regions h.maps regular.regions;
        uses = λ id s is.
            let w = was k.regions h.maps id s is in
            omega (arith, w.uses, regular.uses id w.old w.there, uses_without id k.spaces number h space);
        one_use = λ id s is own.
            let w = was k.regions h.maps id s is in
            omega (arith, w.uses, regular.one_use id w.old w.there (sym w.source ∙ own));
        names = λ i j g m is there.
            let n = regular.names i j g m (old_space i g is) there in
            record {
              region = record n.region { uses = n.region.uses - named_in m.first h.maps };
              there = released_at k.regions h.maps m.first n.region n.there;
              run = n.run;
              source = n.source;
              from = n.from;
              to = n.to;
              own = n.own;
            };
        pages = λ i g is. regular.pages i g (old_space i g is) ∙ sym len;
        runs = λ p f is.
            let had = regular.runs p f is in
            record { held = had.held; there = get_other k.spaces number f.value.space None (nobody p f is) ∙ had.there };
        chains = regular.chains;
        falls = regular.falls;
        few = regular.few;
        pids = regular.pids;
        loads = omega (arith, regular.loads, length-set k.spaces number None);
      }

module _ (k : Kept) (pid : ℕ) (e : Entry Task) (how : How) (regular : Regular k) (lives : process k.procs pid ≡ Some e) (ready : e.state ≡ Ready) where
  -- a process ends
  pub regular_ended : Regular (ended k e how)
  regular_ended = record {
    memory = regular.memory;
    some = regular.some;
    most = regular.most;
    regions = regular.regions;
    uses = regular.uses;
    one_use = regular.one_use;
    names = regular.names;
    pages = regular.pages;
    runs = λ p f is.
        let o = stayed k.procs e how p f is in
        let had = regular.runs p o.old o.there in
        record { held = had.held; there = ap (λ (t : Task). slice_get k.spaces t.space) o.value ∙ had.there };
    chains = chains_ended k.procs pid e lives how regular.chains regular.falls ready;
    falls = falls_ended k.procs pid e lives how k.procs.next_pid regular.falls;
    few = omega (arith, regular.few, count_ended k.procs pid e lives how);
    pids = regular.pids;
    loads = regular.loads;
  }

  -- and without a lender nobody is left in its space
  pub nobody_left : borrows k.procs e.pid ≡ false → (p : ℕ) (f : Entry Task) → process (with_end k.procs e how) p ≡ Some f → f.value.space ≢ e.value.space
  nobody_left none p f is same =
      let o = stayed k.procs e how p f is in
      o.other (alone_in k.procs pid e lives regular.chains ready none p o.old o.there (ap (λ (t : Task). t.space) (sym o.value) ∙ same) ∙ sym (own_pid k.procs pid e lives))

-- whichever of its parts a process leaves behind, it is gone from the list
pub gone_procs : (k : Kept) (e : Entry Task) (h : Held) (how : How) → (gone k e h how).procs ≡ with_end k.procs e how
gone_procs k e h how = either (borrows k.procs e.pid)
  where
    either : (lent : Bool) → (space_left (ended k e how) lent e.value.space h).procs ≡ with_end k.procs e how
    either true = refl
    either false = refl

-- other notes change nothing of it
pub gone_noted : (k : Kept) (e : Entry Task) (h : Held) (how : How) (notes : List Note) (recording : Recording) →
    gone (record k { notes = notes; recording = recording }) e h how ≡ record (gone k e h how) { notes = notes; recording = recording }
gone_noted k e h how notes recording = either (borrows k.procs e.pid)
  where
    either : (lent : Bool) → space_left (ended (record k { notes = notes; recording = recording }) e how) lent e.value.space h ≡ record (space_left (ended k e how) lent e.value.space h) { notes = notes; recording = recording }
    either true = refl
    either false = refl

-- The parts with one program more are regular.
use Rattle.std.proofs.Common.{◌≡◌, ◌≢◌, ℕ, zero, suc, ◌+◌, ◌*◌, ◌<◌, ◌≤◌, ◌⊎◌, inl, inr, true, false, List, [], ◌∷◌, ◌++◌, length, map, get_or, arith, refl, sym, ap, subst, ◌∙◌, length-set, length-append}
use Rattle.std.specs.Prelude.{Some, slice_get, slice_set, ◌==◌}
use Rattle.std.proofs.lemmas.Option.{same_Some, none-some, slice_get_within, slice_get-get_or}
use Rattle.std.proofs.lemmas.Bool.{cases_lt, false≢true}
use Rattle.std.proofs.lemmas.Bool.Decides.{nat_tests}
use Rattle.rv32im_step.specs.declared.regs.Regs.{Regs}
use Rattle.nommu_regions.specs.declared.region.Region.{Region}
use Rattle.nommu_regions.specs.declared.region.Source.TheVariants.{Own}
use Rattle.nommu_regions.specs.Regions.{holds, AreFree}
use Rattle.nommu_regions.proofs.Held.{regions_fresh, was_gone}
use Rattle.mmap_rules.specs.declared.mapping.Mapping.{Mapping}
use Rattle.mmap_rules.specs.Held.{Held, page_address}
use Rattle.vfork_exec.specs.declared.entry.Entry.{Entry}
use Rattle.vfork_exec.specs.declared.family.State.TheVariants.{Ready}
use Rattle.vfork_exec.specs.Procs.{process, pid_of, count, with_start, most_entries}
use Rattle.vfork_exec.proofs.Keyed.{find_head}
use Rattle.call_log.specs.Notes.{Note}
use Rattle.kept_parts.specs.declared.task.Task.{Task}
use Rattle.fd_tables.specs.Files.{OpenFiles}
use Rattle.kept_parts.specs.Kept.{Kept}
use Rattle.kept_parts.specs.Regular.{Names, HasSpace, Regular, named_in, uses_in, most_first}
use Rattle.kept_parts.specs.Stands.{process_of}
use Rattle.machine_world.specs.World.{Process}
use Rattle.machine_world.specs.Families.{IsChain, AreChains}
use Rattle.machine_world.proofs.Chains.{sharing_head}
use Rattle.kept_parts.proofs.Common.ProcessList.{nobody_in}
use Rattle.call_bytes.proofs.Places.{decide, get_set, get_other, after_set, get_pushed, get_before, pushed_cases}
use Rattle.kept_parts.proofs.Common.UseCounts.{eqb_is, named_yes, named_no, uses_pushed}
use Rattle.kept_parts.proofs.Common.SpacesApart.{is_used}

-- a region more, a space more, and a process of its own in it
abbrev pub with_one : Kept → Region → Held → Regs → ℕ → List ℕ → OpenFiles → List Note → Kept
with_one k v h regs table mem files notes = record k {
  files = files;
  mem = mem;
  regions = slice_set k.regions v.first v;
  spaces = k.spaces ++ Some h ∷ [];
  procs = with_start k.procs (record { regs = regs; space = length k.spaces; table = table });
  notes = notes;
}

-- the region's pages were free; the space has one mapping, which has an own range in the region's run
pub record Fits (regions : List Region) (v : Region) (h : Held) : Type 0 where
  pub free : AreFree regions v.first v.pages
  pub some : 0 < v.pages
  pub one : v.uses ≡ 1
  pub own : v.source ≡ Own
  pub mapping : Mapping
  pub maps : h.maps ≡ mapping ∷ []
  pub first : mapping.first ≡ v.first
  pub run : mapping.pages ≡ v.pages
  pub source : mapping.source ≡ v.source
  pub from : page_address mapping.first ≤ mapping.range.from
  pub to : mapping.range.from + mapping.range.size ≤ page_address (mapping.first + mapping.pages)
  pub pages : h.pages ≡ length regions

named_one : (id : ℕ) (maps : List Mapping) (m : Mapping) → maps ≡ m ∷ [] → m.first ≡ id → named_in id maps ≡ 1
named_one id maps m is names = ap (named_in id) is ∙ named_yes id m [] names ∙ refl

named_none : (id : ℕ) (maps : List Mapping) (m : Mapping) → maps ≡ m ∷ [] → m.first ≢ id → named_in id maps ≡ 0
named_none id maps m is other = ap (named_in id) is ∙ named_no id m [] other

module _ (k : Kept) (v : Region) (h : Held) (regs : Regs) (table : ℕ) (mem : List ℕ) (files : OpenFiles) (notes : List Note) (regular : Regular k) (fits : Fits k.regions v h) where
  -- no live region stood at the new one's place
  unused : (r : Region) → slice_get k.regions v.first ≡ Some r → r.uses ≡ 0
  unused r there = elim (cases_lt 0 r.uses) [
    | inl live ↦
        let first = regular.regions.begins v.first r there live in
        let pages = regular.regions.some v.first r there live in
        let has : holds r r.first ≡ true = grind (arith, nat_tests, live, pages) in
        absurd (false≢true (sym (was_gone k.regions v.first v.pages r r.first regular.regions fits.free fits.some there) ∙ has))
    | inr gone ↦ omega arith
  ]

  pub there_before : slice_get k.regions v.first ≡ Some (get_or k.regions v.first v)
  there_before = slice_get-get_or k.regions v.first v (omega (arith, fits.free.inside, fits.some))

  there_now : slice_get (slice_set k.regions v.first v) v.first ≡ Some v
  there_now = get_set k.regions v.first v (omega (arith, fits.free.inside, fits.some))

  pub uses_now : (id : ℕ) (r : Region) → slice_get (slice_set k.regions v.first v) id ≡ Some r → r.uses ≡ uses_in id (k.spaces ++ Some h ∷ [])
  uses_now id r is = elim (after_set k.regions v.first id v r is) [
    | inl here ↦
        let old = unused (get_or k.regions v.first v) there_before in
        let uses = regular.uses v.first (get_or k.regions v.first v) there_before in
        let none : uses_in id k.spaces ≡ 0 = ap (λ (n : ℕ). uses_in n k.spaces) here.0 ∙ sym uses ∙ old in
        let one = named_one id h.maps fits.mapping fits.maps (fits.first ∙ sym here.0) in
        omega (arith, none, one, fits.one, ap (λ (q : Region). q.uses) here.1, uses_pushed id k.spaces h)
    | inr other ↦
        let none = named_none id h.maps fits.mapping fits.maps (λ e. other.0 (sym (sym fits.first ∙ e))) in
        omega (arith, none, regular.uses id r other.1, uses_pushed id k.spaces h)
  ]

  -- a mapping that was there has the region that it had
  named_before : (i j : ℕ) (g : Held) (m : Mapping) → slice_get k.spaces i ≡ Some (Some g) → slice_get g.maps j ≡ Some m → Names (slice_set k.regions v.first v) m
  named_before i j g m is there =
      let n = regular.names i j g m is there in
      let other : m.first ≢ v.first = λ e.
      let live = is_used k regular i j g m n.region is there n.there in
      omega (arith, live, unused n.region (ap (slice_get k.regions) (sym e) ∙ n.there)) in
      record {
        region = n.region;
        there = get_other k.regions v.first m.first v other ∙ n.there;
        run = n.run;
        source = n.source;
        from = n.from;
        to = n.to;
        own = n.own;
      }

  named_now : (j : ℕ) (m : Mapping) → slice_get (fits.mapping ∷ []) j ≡ Some m → Names (slice_set k.regions v.first v) m
  named_now (suc j) m there = absurd (none-some m there)
  named_now zero m there = rw (← same_Some _ _ there) (record {
    region = v;
    there = ap (slice_get (slice_set k.regions v.first v)) fits.first ∙ there_now;
    run = fits.run;
    source = fits.source;
    from = fits.from;
    to = fits.to;
    own = λ writes. fits.own;
  })

  pub names_now : (i j : ℕ) (g : Held) (m : Mapping) → slice_get (k.spaces ++ Some h ∷ []) i ≡ Some (Some g) → slice_get g.maps j ≡ Some m → Names (slice_set k.regions v.first v) m
  names_now i j g m is there = elim (pushed_cases k.spaces (Some h) i (Some g) is) [
    | inl last ↦ named_now j m (ap (λ (maps : List Mapping). slice_get maps j) (sym fits.maps ∙ ap (λ (x : Held). x.maps) (sym (same_Some _ _ last.1))) ∙ there)
    | inr before ↦ named_before i j g m before there
  ]

  -- ---- the processes

  -- a process is the new one, or one that lived
  runner : (pid : ℕ) (e : Entry Task) → process (with_start k.procs (record { regs = regs; space = length k.spaces; table = table })) pid ≡ Some e →
      ((pid ≡ k.procs.next_pid) × (e.value.space ≡ length k.spaces)) ⊎ (process k.procs pid ≡ Some e)
  runner pid e is =
      let new : Entry Task = record { pid = k.procs.next_pid; parent = 0; state = Ready; value = record { regs = regs; space = length k.spaces; table = table } } in
      elim (decide (k.procs.next_pid == pid)) [
        | inl same ↦
            let found : new ≡ e = same_Some _ _ (sym (find_head pid_of pid new k.procs.entries true same) ∙ is) in
            inl (sym (eqb_is k.procs.next_pid pid same), ap (λ (x : Entry Task). x.value.space) (sym found))
        | inr other ↦ inr (sym (find_head pid_of pid new k.procs.entries false other) ∙ is)
      ]

  below : (pid : ℕ) (e : Entry Task) → process k.procs pid ≡ Some e → e.value.space < length k.spaces
  below pid e is = let space = regular.runs pid e is in slice_get_within k.spaces e.value.space (Some space.held) space.there

  space_of : (pid : ℕ) (e : Entry Task) → process (with_start k.procs (record { regs = regs; space = length k.spaces; table = table })) pid ≡ Some e →
      HasSpace (k.spaces ++ Some h ∷ []) e.value.space
  space_of pid e is = elim (runner pid e is) [
    | inl new ↦ record { held = h; there = ap (slice_get (k.spaces ++ Some h ∷ [])) new.1 ∙ get_pushed k.spaces (Some h) }
    | inr old ↦ let had = regular.runs pid e old in record { held = had.held; there = get_before k.spaces (Some h) e.value.space (Some had.held) had.there }
  ]

  -- it is alone in its space
  chains_now : AreChains (map process_of (with_start k.procs (record { regs = regs; space = length k.spaces; table = table })).entries)
  chains_now i =
      let new : Process = record { pid = k.procs.next_pid; parent = 0; regs = regs; space = length k.spaces; table = table; state = Ready } in
      let procs : List Process = map process_of k.procs.entries in
      elim (decide (length k.spaces == i)) [
        | inl here ↦
            let none = nobody_in k.procs k.procs.next_pid i regular.falls (λ pid e is same. omega (arith, below pid e is, same, eqb_is (length k.spaces) i here)) in
            subst IsChain (sym (sharing_head i new procs true here ∙ ap (λ (qs : List Process). new ∷ qs) none)) (refl, tt)
        | inr other ↦ subst IsChain (sym (sharing_head i new procs false other)) (regular.chains i)
      ]

  pub pages_now : (i : ℕ) (g : Held) → slice_get (k.spaces ++ Some h ∷ []) i ≡ Some (Some g) → g.pages ≡ length k.regions
  pages_now i g is = elim (pushed_cases k.spaces (Some h) i (Some g) is) [
    | inl last ↦ ap (λ (x : Held). x.pages) (same_Some _ _ last.1) ∙ fits.pages
    | inr before ↦ regular.pages i g before
  ]

  pub one_now : (id : ℕ) (r : Region) → slice_get (slice_set k.regions v.first v) id ≡ Some r → r.source ≡ Own → r.uses ≤ 1
  one_now id r is own = elim (after_set k.regions v.first id v r is) [
    | inl here ↦ omega (arith, fits.one, ap (λ (q : Region). q.uses) here.1)
    | inr other ↦ regular.one_use id r other.1 own
  ]

  pub regular_with : length mem ≡ length k.mem → count k.procs < most_entries → k.procs.next_pid < most_first → length k.spaces < most_first → Regular (with_one k v h regs table mem files notes)
  regular_with same few pids spaces =
      let len = length-set k.regions v.first v in
      record {
        memory = same ∙ regular.memory ∙ ap (λ (n : ℕ). 4096 * n) (sym len);
        some = omega (arith, len, regular.some);
        most = omega (arith, len, regular.most);
        regions = regions_fresh k.regions v (get_or k.regions v.first v) regular.regions fits.free fits.some fits.one there_before;
        uses = uses_now;
        one_use = one_now;
        names = names_now;
        pages = λ i g is. pages_now i g is ∙ sym len;
        runs = space_of;
        chains = chains_now;
        falls = (omega arith, regular.falls);
        few = omega (arith, few);
        pids = omega (arith, pids);
        loads = omega (arith, spaces, length-append k.spaces (Some h ∷ []));
      }

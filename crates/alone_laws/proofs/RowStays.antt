-- Alone, every call does in its space what it does in the world.
use Rattle.std.proofs.Common.{◌≡◌, ℕ, ◌+◌, ◌*◌, ◌%◌, ◌^◌, ◌<◌, ◌≤◌, Bool, true, false, not, inl, inr, List, [], ◌∷◌, ◌++◌, length, replicate, Option, Some, None, Result, Ok, Err, refl, sym, ap, subst, ◌∙◌, arith}
use Rattle.std.specs.Prelude.{◌==◌, ◌||◌, ◌&&◌, nat_le, nat_lt, unwrap_or, if◌then◌else◌}
use Rattle.std.proofs.lemmas.Bool.Decides.{nat_tests}
use Rattle.std.proofs.lemmas.List.{map-append}
use Rattle.std.proofs.lemmas.Bool.{cases_Bool}
use Rattle.byte_words.specs.ByteMap.{Bytes, with_bytes}
use Rattle.call_log.specs.declared.errno.Errno.{Errno}
use Rattle.call_log.specs.declared.errno.Errno.TheVariants.{Enomem, Einval}
use Rattle.call_log.specs.Flags.{has_flag}
use Rattle.call_log.specs.Notes.{CallEntry}
use Rattle.call_log.specs.Sent.{bytes_from}
use Rattle.mmap_rules.specs.declared.mapping.Mapping.{Mapping}
use Rattle.mmap_rules.specs.declared.want.Want.{Want}
use Rattle.mmap_rules.specs.declared.want.Want.TheVariants.{Anon, File}
use Rattle.mmap_rules.specs.Want.{pages_for, map_anonymous, prot_write, wanted}
use Rattle.mmap_rules.specs.Mappings.{Hit, hit, without_hit}
use Rattle.mmap_rules.specs.Copies.{wanted_bytes, pages_of}
use Rattle.vfork_exec.specs.Keyed.{find}
use Rattle.flat_loader.specs.Alone.{Runner, Solo, Item, OwnMemory, memory_of, number_of, replied, is_errno, new_range, new_bytes, brings_all, is_placed, may_lie, may_map, with_range, with_memory, solo_mapped}
use Rattle.machine_world.specs.World.{Process, LiveSpace, World, id_of}
use Rattle.machine_world.specs.Free.{free_runs_in}
use Rattle.machine_world.specs.Asks.{Ask, arg, with_ok, view_of}
use Rattle.machine_world.specs.MapCalls.{file_side, in_copy, in_free_run, or_own, with_mapping, maps, mapped, mmap2_row, over_maps, unmaps, munmap_row}
use Rattle.machine_world.specs.Rows.{row}
use Rattle.machine_world.specs.Event.{ask_of, entry_of, item_of, maps_file, brought, is_exit}
use Rattle.machine_world.proofs.States.{with_regs}
use Rattle.alone_laws.specs.Sound.{IsSound}
use Rattle.alone_laws.proofs.Frame.{ranges_of}
use Rattle.alone_laws.proofs.LaidBytes.{read_back}
use Rattle.alone_laws.proofs.Wanted.{There, there_side}
use Rattle.alone_laws.proofs.Grants.{Asks, asked, Grant, length-wanted_bytes, granted}
use Rattle.alone_laws.proofs.Lists.{if_yes, if_no, eqb_same, eqb_is}
use Rattle.alone_laws.proofs.RowSpaces.{row-munmap, row-mmap2}
use Rattle.alone_laws.proofs.Unmapping.{unmaps_alone}
use Rattle.alone_laws.proofs.EventStays.{solo_of, Follows}
use Rattle.alone_laws.proofs.PlainCalls.{follows_refused, follows_plain, answers_map, answers_unmap}

pub not_errno : (n : ℕ) → n < 0xfffff001 → is_errno n ≡ false
unfolding is_errno
not_errno n less = over n less
  where
    over : (k : ℕ) → k < 0xfffff001 → nat_le 0xfffff001 k ≡ false
    over k below = grind (arith, nat_tests)

module _ (w : World) (sound : IsSound w) (p : Process) (below : List Runner) (s : LiveSpace) (has : find id_of p.space w.spaces ≡ Some s) (bytes : List ℕ)
    (stays : is_exit (number_of p.regs) ≡ false) where
  abbrev a : Ask
  a = ask_of w p s.space bytes

  abbrev n : ℕ
  n = number_of p.regs

  -- ---- munmap

  follows_unmaps : n ≡ 215 → (o : Option Hit) → hit s.space.maps (arg a 0) (arg a 1) ≡ o → Follows p below s.space a (unmaps a o)
  follows_unmaps is None hits = follows_refused w p below s.space bytes stays Einval
  follows_unmaps is (Some h) hits = λ m wrote.
      let i : Item = item_of (entry_of a 0 []) m in
      let left : List Mapping = without_hit s.space.maps h in
      let same : (over_maps s.space left).bytes ≡ m = cc in
      let now : Solo = solo_of (with_regs p (replied p.regs 0)) below s.space in
      answers_unmap w p below s.space bytes is i refl (not_errno 0 (omega arith))
      ∙ ap (with_memory now) (unmaps_alone w.rest.pages s.space (arg a 0) (arg a 1) (sound.spaces p.space s has) h hits)
      ∙ ap (λ b. Some (record { stack = now.stack; memory = record { ranges = ranges_of left; bytes = b } })) same

  follows_munmap : n ≡ 215 → Follows p below s.space a (munmap_row a)
  unfolding munmap_row
  follows_munmap is = follows_unmaps is (hit s.space.maps (arg a 0) (arg a 1)) refl

  -- ---- mmap2

  -- what a mapping brings: nothing, or all its bytes
  abbrev Brings : Want → List ℕ → Type 0
  Brings (Anon pages) l = l ≡ []
  Brings (File pages first write id change) l = l ≡ wanted_bytes w.rest.tree (File pages first write id change)

  brings_nothing : (x y : Bool) (l : List ℕ) → y ≡ true → (if x && not y then l else []) ≡ []
  brings_nothing true true l is = refl
  brings_nothing true false l is = absurd cc
  brings_nothing false y l is = refl

  module _ (is : n ≡ 222) (want : Want) (m : Mapping) (grant : Grant w.rest.tree s.space want m) where
    abbrev laid : Bytes
    laid = with_bytes s.space.bytes m.range.from (wanted_bytes w.rest.tree want)

    abbrev entry : CallEntry
    entry = entry_of a m.range.from []

    no_errno : is_errno m.range.from ≡ false
    no_errno = let below = grant.below in not_errno m.range.from (omega (arith, below))

    reads_back : (len : ℕ) → len ≡ 4096 * pages_of want → unwrap_or (bytes_from laid m.range.from len) [] ≡ wanted_bytes w.rest.tree want
    reads_back len same =
        let all : len ≡ length (wanted_bytes w.rest.tree want) = same ∙ sym (length-wanted_bytes w.rest.tree want) in
        ap (λ (k : ℕ). unwrap_or (bytes_from laid m.range.from k) []) all
        ∙ ap (λ (o : Option (List ℕ)). unwrap_or o []) (read_back s.space.bytes m.range.from (wanted_bytes w.rest.tree want))

    maps_a_file : has_flag (arg a 3) map_anonymous ≡ false → maps_file entry ≡ true
    maps_a_file none = (λ j. (is j == 222) && not (no_errno j) && not (none j))

    module _ (asks : Asks (arg a 1) (arg a 2) (arg a 3) (file_side a) want) where
      -- the range, alone
      range_same : new_range entry ≡ m.range
      range_same = by want grant asks
        where
          by : (v : Want) → Grant w.rest.tree s.space v m → Asks (arg a 1) (arg a 2) (arg a 3) (file_side a) v → new_range entry ≡ m.range
          by (Anon pages) g x = let size : 4096 * pages_for (arg a 1) ≡ m.range.size = ap (λ k. 4096 * k) (sym x.pages_are) ∙ sym g.size in
              let writes : (has_flag (arg a 3) map_anonymous || has_flag (arg a 2) prot_write) ≡ m.range.writes = ap (λ b. b || has_flag (arg a 2) prot_write) x.flag ∙ sym g.writes in
              let anonymous : has_flag (arg a 3) map_anonymous ≡ m.range.anonymous = x.flag ∙ sym g.anonymous in
              (λ j. record { from = m.range.from; size = size j; writes = writes j; anonymous = anonymous j })
          by (File pages first write id change) g x = let size : 4096 * pages_for (arg a 1) ≡ m.range.size = ap (λ k. 4096 * k) (sym x.pages_are) ∙ sym g.size in
              let writes : (has_flag (arg a 3) map_anonymous || has_flag (arg a 2) prot_write) ≡ m.range.writes = ap (λ b. b || has_flag (arg a 2) prot_write) x.flag ∙ sym x.writes ∙ sym g.writes in
              let anonymous : has_flag (arg a 3) map_anonymous ≡ m.range.anonymous = x.flag ∙ sym g.anonymous in
              (λ j. record { from = m.range.from; size = size j; writes = writes j; anonymous = anonymous j })

      -- what is brought
      brings : Brings want (brought entry laid)
      brings = by want refl asks
        where
          by : (v : Want) → v ≡ want → Asks (arg a 1) (arg a 2) (arg a 3) (file_side a) v → Brings v (brought entry laid)
          by (Anon pages) v x =
              brings_nothing (n == 222 && not (is_errno m.range.from)) (has_flag (arg a 3) map_anonymous) (unwrap_or (bytes_from laid m.range.from (4096 * pages_for (arg a 1))) []) x.flag
          by (File pages first write id change) v x =
              if_yes (maps_file entry) (unwrap_or (bytes_from laid m.range.from (4096 * pages_for (arg a 1))) []) [] (maps_a_file x.flag)
              ∙ reads_back (4096 * pages_for (arg a 1)) (ap (λ k. 4096 * k) (sym x.pages_are) ∙ ap (λ u. 4096 * pages_of u) v) ∙ ap (wanted_bytes w.rest.tree) (sym v)

      -- and the bytes behind it
      module _ (l : List ℕ) (brought_is : Brings want l) where
        bytes_same : new_bytes m.range l ≡ wanted_bytes w.rest.tree want
        bytes_same = by want grant brought_is
          where
            by : (v : Want) → Grant w.rest.tree s.space v m → Brings v l → new_bytes m.range l ≡ wanted_bytes w.rest.tree v
            by (Anon pages) g b = if_yes m.range.anonymous (replicate m.range.size 0) l g.anonymous ∙ ap (λ k. replicate k 0) g.size
            by (File pages first write id change) g b = if_no m.range.anonymous (replicate m.range.size 0) l g.anonymous ∙ b

        brings_them : brings_all m.range l ≡ true
        brings_them = by want grant brought_is
          where
            by : (v : Want) → Grant w.rest.tree s.space v m → Brings v l → brings_all m.range l ≡ true
            by (Anon pages) g b = if_yes m.range.anonymous (length l == 0) (length l == m.range.size) g.anonymous ∙ ap (λ k. length k == 0) b
            by (File pages first write id change) g b =
                if_no m.range.anonymous (length l == 0) (length l == m.range.size) g.anonymous
                ∙ eqb_same (length l) m.range.size (ap length b ∙ length-wanted_bytes w.rest.tree (File pages first write id change) ∙ sym g.size)

        placed : 0 < m.range.size → is_placed m.range ≡ true
        placed some =
            let begins = grant.begins in
            let above = grant.above in
            let below = grant.below in
            in_place m.range.from m.range.size some begins above below
          where
            in_place : (from size : ℕ) → 0 < size → from % 4096 ≡ 0 → 2 ^ 31 ≤ from → from + size ≤ 2 ^ 31 + 4096 * 16384
                → (nat_lt 0 size && from % 4096 == 0 && nat_le (2 ^ 31) from && nat_le (from + size) (2 ^ 31 + 4096 * 16384)) ≡ true
            in_place from size some begins above below = grind (arith, nat_tests)

        may : 0 < m.range.size → may_map (memory_of s.space) m.range l ≡ true
        unfolding may_map
        may some =
            let at = placed some in
            let all = brings_them in
            let lies : may_lie (memory_of s.space) m.range.writes m.range.from (new_bytes m.range l) ≡ true =
            ap (may_lie (memory_of s.space) m.range.writes m.range.from) bytes_same ∙ grant.lies in
            (λ j. at j && all j && lies j)

        with_it : with_range (memory_of s.space) m.range (new_bytes m.range l) ≡ memory_of (with_mapping s.space m (wanted_bytes w.rest.tree want))
        unfolding with_range
        with_it =
            let ranges : ranges_of s.space.maps ++ m.range ∷ [] ≡ ranges_of (s.space.maps ++ m ∷ []) = sym (map-append (λ (x : Mapping). x.range) s.space.maps (m ∷ [])) in
            (λ j. record { ranges = ranges j; bytes = with_bytes s.space.bytes m.range.from (bytes_same j) })

      has_pages : 0 < m.range.size
      has_pages = by want grant asks
        where
          by : (v : Want) → Grant w.rest.tree s.space v m → Asks (arg a 1) (arg a 2) (arg a 3) (file_side a) v → 0 < m.range.size
          by (Anon pages) g x = (let some = x.some in let are = x.pages_are in let size = g.size in omega (arith, some, are, size))
          by (File pages first write id change) g x = (let some = x.some in let are = x.pages_are in let size = g.size in omega (arith, some, are, size))

      maps_alone : (t : Solo) (l : List ℕ) → Brings want l → t.memory ≡ memory_of s.space
          → solo_mapped t (record { entry = entry; brought = l }) ≡ Some (record t { memory = memory_of (with_mapping s.space m (wanted_bytes w.rest.tree want)) })
      maps_alone t l b same =
          (λ j. if may_map (same j) (range_same j) l then Some (record t { memory = with_range (same j) (range_same j) (new_bytes (range_same j) l) }) else None)
          ∙ if_yes (may_map (memory_of s.space) m.range l) (Some (record t { memory = with_range (memory_of s.space) m.range (new_bytes m.range l) })) None (may l b has_pages)
          ∙ ap (λ (o : OwnMemory). Some (record t { memory = o })) (with_it l b)

      follows_map : Follows p below s.space a (maps a want (Some m))
      follows_map = λ bs wrote.
          let same : laid ≡ bs = cc in
          let now : Solo = solo_of (with_regs p (replied p.regs m.range.from)) below s.space in
          let i : Item = item_of entry bs in
          answers_map w p below s.space bytes is i refl no_errno
          ∙ maps_alone now (brought entry bs) (subst (λ (x : Bytes). Brings want (brought entry x)) same brings) refl
          ∙ ap (λ b. Some (record { stack = now.stack; memory = record { ranges = ranges_of (s.space.maps ++ m ∷ []); bytes = b } })) same

  follows_maps : n ≡ 222 → (want : Want) → Asks (arg a 1) (arg a 2) (arg a 3) (file_side a) want → (o : Option Mapping)
      → or_own (in_copy w.spaces want) (in_free_run w.rest.kind (free_runs_in w.rest.pages w.spaces) want) ≡ o → Follows p below s.space a (maps a want o)
  follows_maps is want asks None choice = follows_refused w p below s.space bytes stays Enomem
  follows_maps is want asks (Some m) choice =
      follows_map is want m
      (granted w sound p.space s has (arg a 1) (arg a 2) (arg a 3) (file_side a) (λ id change leads. subst (There w.rest.tree) leads (there_side w.rest.tree (view_of a (arg a 4)))) want m asks choice) asks

  follows_wanted : n ≡ 222 → (o : Result Want Errno) → wanted (arg a 0) (arg a 1) (arg a 2) (arg a 3) (arg a 5) (file_side a) ≡ o → Follows p below s.space a (with_ok a o (mapped a))
  follows_wanted is (Err e) asks = follows_refused w p below s.space bytes stays e
  follows_wanted is (Ok want) asks =
      follows_maps is want (asked (arg a 1) (arg a 2) (arg a 3) (file_side a) (arg a 0) (arg a 5) want asks)
      (or_own (in_copy w.spaces want) (in_free_run w.rest.kind (free_runs_in w.rest.pages w.spaces) want)) refl

  follows_mmap2 : n ≡ 222 → Follows p below s.space a (mmap2_row a)
  unfolding mmap2_row
  follows_mmap2 is = follows_wanted is (wanted (arg a 0) (arg a 1) (arg a 2) (arg a 3) (arg a 5) (file_side a)) refl

  -- ---- any row

  pub follows_row : (n == 220) ≡ false → (n == 221) ≡ false → Follows p below s.space a (row a)
  follows_row no_clone no_execve = elim (cases_Bool (n == 222)) [
    | inl is ↦ subst (Follows p below s.space a) (sym (row-mmap2 a (eqb_is n 222 is))) (follows_mmap2 (eqb_is n 222 is))
    | inr no_mmap2 ↦ elim (cases_Bool (n == 215)) [
      | inl is ↦ subst (Follows p below s.space a) (sym (row-munmap a (eqb_is n 215 is))) (follows_munmap (eqb_is n 215 is))
      | inr no_munmap ↦ follows_plain w p below s.space bytes stays no_munmap no_mmap2 no_clone no_execve
    ]
  ]

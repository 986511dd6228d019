-- What a program that is loaded leaves of memory: its header and its own bytes in its block, and what stood there outside of it.
use Rattle.std.proofs.Common.{◌≡◌, ℕ, ◌+◌, ◌-◌, ◌*◌, ◌<◌, ◌≤◌, inl, inr, Bool, true, false, List, length, take, drop, get_or, arith, refl, sym, ap, ◌∙◌}
use Rattle.std.specs.Prelude.{Option, Some, None, slice_range, if◌then◌else◌}
use Rattle.std.proofs.lemmas.Bool.{cases_lt, false≢true}
use Rattle.std.proofs.lemmas.Bool.Decides.{nat_tests}
use Rattle.std.proofs.lemmas.List.{length-take, length-drop, get_or-take, get_or-drop}
use Rattle.byte_words.specs.ByteMap.{Bytes, with_bytes}
use Rattle.byte_words.proofs.ByteArrays.{byte_of-laid}
use Rattle.phys_mem.specs.Memory.{place as place_of}
use Rattle.mmap_rules.specs.Space.{memory_base, in_range}
use Rattle.mmap_rules.specs.Held.{page_address}
use Rattle.region_watch.specs.Private.{physical}
use Rattle.bflt_format.specs.Values.{Values}
use Rattle.bflt_format.specs.Spelling.{spell}
use Rattle.flat_loader.specs.Original.{flat_original, header_len, block_pages}
use Rattle.flat_loader.specs.Begin.{Loading, own_range, in_block, begin_byte, begin_bytes}
use Rattle.flat_loader.specs.Loads.{page_loading}
use Rattle.memory_world.specs.Physical.{or_below}
use Rattle.kept_parts.specs.Kept.{Kept}
use Rattle.kept_parts.specs.Regular.{Regular}
use Rattle.kept_parts.specs.InMemory.{header_of}
use Rattle.call_bytes.proofs.Places.{is_false}
use Rattle.kept_parts.proofs.Mappings.Bytes.{Beside, with_inside, with_beside, laid_same}
use Rattle.kept_parts.proofs.Starts.Loaded.{some_pages, Placed}

module _ (k : Kept) (regular : Regular k) (f : Values) (args env : List (List ℕ)) (page : ℕ) (mem : List ℕ) (placed : Placed k regular f args env page mem)
    (header : slice_range mem (place_of (page_address page)) (place_of (page_address page) + header_len) ≡ take header_len (spell f)) where
  abbrev loading : Loading
  loading = page_loading f page args env

  abbrev pages : ℕ
  pages = block_pages (flat_original f)

  place_is : place_of (page_address page) ≡ 4096 * page
  place_is = omega arith

  fits : 4096 * page + 4096 * block_pages (flat_original f) ≤ length mem
  fits = omega (arith, placed.free.inside, placed.len, regular.memory)

  header_is : header_of f ≡ take 64 (drop (4096 * page) mem)
  header_is =
      sym header ∙ (λ i. slice_range mem (place_is i) (place_is i + 64))
      ∙ ap (λ (n : ℕ). take n (drop (4096 * page) mem)) (let e : (4096 * page + 64) - 4096 * page ≡ 64 = omega arith in e)

  header_long : length (header_of f) ≡ 64
  header_long =
      let some = some_pages (flat_original f) in
      ap length header_is ∙ omega (arith, fits, some, length-take 64 (drop (4096 * page) mem), length-drop (4096 * page) mem)

  -- the header
  header_same : (bytes : Bytes) (at : ℕ) → page_address page ≤ at → at < page_address page + 64 → with_bytes bytes (page_address page) (header_of f) at ≡ physical mem at
  header_same bytes at low high =
      let some = some_pages (flat_original f) in
      let within : 4096 * page + length (header_of f) ≤ length mem = omega (arith, fits, some, header_long) in
      with_inside bytes (physical mem) (page_address page) (header_of f) at low (omega (arith, high, header_long))
      ∙ ap (λ (m : Bytes). m at) (sym (byte_of-laid memory_base mem (4096 * page) (header_of f) within))
      ∙ ap (λ (now : List ℕ). physical now at) (laid_same mem (4096 * page) (header_of f) within (λ i less.
      ap (λ (bs : List ℕ). get_or bs i 0) header_is ∙ get_or-take 64 (drop (4096 * page) mem) i 0 (omega (arith, less, header_long)) ∙ get_or-drop (4096 * page) mem i 0))

  -- outside of the block
  beside_header : (at : ℕ) → in_block (page_loading f page args env) at ≡ false → Beside (page_address page) (length (header_of f)) at
  beside_header at outside = elim (cases_lt at (page_address page)) [
    | inl low ↦ inl low
    | inr from ↦
        let some = some_pages (flat_original f) in
        let past : page_address page + 4096 * pages ≤ at = grind (arith, nat_tests, outside, from) in
        inr (omega (arith, past, some, header_long))
  ]

  pub outside_block : (count : ℕ) → count ≡ block_pages (flat_original f) → (at : ℕ) → Beside (page_address page) (4096 * count) at → in_block (page_loading f page args env) at ≡ false
  outside_block count is at beside = is_false (in_block loading at) (λ inside.
      let low : page_address page ≤ at = grind (arith, nat_tests, inside) in
      let high : at < page_address page + 4096 * pages = grind (arith, nat_tests, inside) in
      elim beside [
        | inl before ↦ omega (arith, low, before)
        | inr past ↦ omega (arith, high, past, is)
      ])

  pub header_beside : (bytes : Bytes) (at : ℕ) → in_block (page_loading f page args env) at ≡ false → with_bytes bytes (page_address page) (header_of f) at ≡ bytes at
  header_beside bytes at outside = with_beside bytes (page_address page) (header_of f) at (beside_header at outside)

  none_outside : (at : ℕ) → in_block (page_loading f page args env) at ≡ false → in_range (own_range (page_loading f page args env)) at ≡ false
  none_outside at outside = is_false (in_range (own_range loading) at) (λ own.
      let some = some_pages (flat_original f) in
      let low : page_address page + 64 ≤ at = grind (arith, nat_tests, own) in
      let high : at < page_address page + 64 + (4096 * pages - 64) = grind (arith, nat_tests, own) in
      let within : at < page_address page + 4096 * pages = omega (arith, some, high) in
      let from : page_address page ≤ at = omega (arith, low) in
      let inside : in_block loading at ≡ true = grind (arith, nat_tests, from, within) in
      false≢true (sym outside ∙ inside))

  -- ---- all of it: its own bytes, below them what others have outside of the block, below them the header over what lies below all

  module _ (others : Option ℕ) (bytes : Bytes) (at : ℕ) where
    in_own : (own : Bool) → in_range (own_range (page_loading f page args env)) at ≡ own → (own ≡ false → or_below others (with_bytes bytes (page_address page) (header_of f) at) ≡ physical mem at) →
        or_below (or_below (if own then Some (begin_byte (page_loading f page args env) at) else None) others) (with_bytes bytes (page_address page) (header_of f) at) ≡ physical mem at
    in_own true is rest = sym (placed.own at is ∙ ap (λ (own : Bool). if own then Some (begin_byte loading at) else None) is)
    in_own false is rest = rest refl

    by_block : (inside : Bool) → in_block (page_loading f page args env) at ≡ inside → (in_block (page_loading f page args env) at ≡ true → others ≡ None) →
        (in_block (page_loading f page args env) at ≡ false → or_below others (bytes at) ≡ physical k.mem at) →
        or_below (or_below (begin_bytes (page_loading f page args env) at) others) (with_bytes bytes (page_address page) (header_of f) at) ≡ physical mem at
    by_block true is none below =
        in_own (in_range (own_range loading) at) refl (λ own.
        let low : page_address page ≤ at = grind (arith, nat_tests, is) in
        let high : at < page_address page + 4096 * pages = grind (arith, nat_tests, is) in
        let in_header : at < page_address page + 64 = elim (cases_lt at (page_address page + 64)) [
          | inl less ↦ less
          | inr from ↦
              let there : in_range (own_range loading) at ≡ true = grind (arith, nat_tests, from, high) in
              absurd (false≢true (sym own ∙ there))
        ] in
        ap (λ (v : Option ℕ). or_below v (with_bytes bytes (page_address page) (header_of f) at)) (none is) ∙ header_same bytes at low in_header)
    by_block false is none below =
        in_own (in_range (own_range loading) at) refl (λ own. ap (or_below others) (header_beside bytes at is) ∙ below is ∙ sym (placed.others at is))

  pub block_bytes : (others : Option ℕ) (bytes : Bytes) (at : ℕ) → (in_block (page_loading f page args env) at ≡ true → others ≡ None) →
      (in_block (page_loading f page args env) at ≡ false → or_below others (bytes at) ≡ physical k.mem at) →
      or_below (or_below (begin_bytes (page_loading f page args env) at) others) (with_bytes bytes (page_address page) (header_of f) at) ≡ physical mem at
  block_bytes others bytes at = by_block others bytes at (in_block loading at) refl

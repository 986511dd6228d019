-- A program in a run of pages: its region, its space, and the bytes round it.
use Rattle.std.proofs.Common.{◌≡◌, ℕ, ◌+◌, ◌-◌, ◌*◌, ◌/◌, ◌^◌, ◌≤◌, false, List, [], ◌∷◌, length, get_or, replicate, sym, ap, ◌∙◌, inl, inr, arith}
use Rattle.std.proofs.lemmas.List.{length-replicate}
use Rattle.byte_words.specs.ByteMap.{byte_of}
use Rattle.byte_words.specs.Patches.{laid}
use Rattle.byte_words.proofs.Laid.{length-laid, laid_before, laid_past}
use Rattle.phys_mem.specs.Memory.{place}
use Rattle.nommu_regions.specs.declared.region.Region.{Region}
use Rattle.nommu_regions.specs.declared.region.Source.TheVariants.{Own}
use Rattle.mmap_rules.specs.declared.mapping.Mapping.{Mapping}
use Rattle.mmap_rules.specs.Held.{Held, FitsBlock, held_block, page_address}
use Rattle.bflt_format.specs.Values.{Values}
use Rattle.flat_loader.specs.Original.{Original, flat_original, stack_len, block_pages, block_len}
use Rattle.flat_loader.specs.Begin.{own_range, in_block, begin_space}
use Rattle.flat_loader.specs.Loads.{block_region, held_begin, page_loading}
use Rattle.flat_loader.proofs.Written.{byte_of_same, outside_cases}

-- ---- the block's region

pub block_fits : (o : Original) (r : Region) (end stack : ℕ) → r.pages ≡ block_pages o → end ≡ o.size → stack ≡ stack_len o → FitsBlock r (64 + end) stack
unfolding block_pages
block_fits o r end stack pages_is end_is stack_is =
    (omega arith, pages_is ∙ ap (λ n. (64 + n + stack_len o + 4095) / 4096) (sym end_is) ∙ ap (λ n. (64 + end + n + 4095) / 4096) (sym stack_is))

-- ---- the space

space_begins : (f : Values) (page pages : ℕ) (args env : List (List ℕ)) →
    held_block pages (block_region page (block_pages (flat_original f))) (64 + (flat_original f).size) (stack_len (flat_original f)) ≡ held_begin pages (page_loading f page args env)
unfolding begin_space
space_begins f page pages args env =
    let o = flat_original f in
    let n = block_pages o in
    let l = page_loading f page args env in
    let held : ℕ → ℕ → ℕ → Held = λ first brk high. record {
      maps = (let m : Mapping = record { first = first; pages = n; range = own_range l; source = Own } in m ∷ []);
      brk = brk;
      brk_low = brk;
      brk_high = high;
      pages = pages;
    } in
    let first : page ≡ (page_address page - 2 ^ 31) / 4096 = omega arith in
    let brk : page_address page + (64 + o.size) ≡ page_address page + 64 + o.size = omega arith in
    let high : page_address (page + n) - stack_len o ≡ page_address page + 4096 * n - stack_len o = omega arith in
    ap (λ k. held k (page_address page + (64 + o.size)) (page_address (page + n) - stack_len o)) first
    ∙ ap (λ k. held ((page_address page - 2 ^ 31) / 4096) k (page_address (page + n) - stack_len o)) brk
    ∙ ap (held ((page_address page - 2 ^ 31) / 4096) (page_address page + 64 + o.size)) high

-- the same, by numbers that are equal to those
pub space_started : (f : Values) (page pages : ℕ) (args env : List (List ℕ)) (held_pages n end stack : ℕ) →
    held_pages ≡ pages → n ≡ block_pages (flat_original f) → end ≡ (flat_original f).size → stack ≡ stack_len (flat_original f) →
    held_block held_pages (block_region page n) (64 + end) stack ≡ held_begin pages (page_loading f page args env)
space_started f page pages args env held_pages n end stack pages_is n_is end_is stack_is =
    let o = flat_original f in
    let held : ℕ → ℕ → ℕ → ℕ → Held = λ pages n end stack. held_block pages (block_region page n) (64 + end) stack in
    ap (λ k. held k n end stack) pages_is ∙ ap (λ k. held pages k end stack) n_is ∙ ap (λ k. held pages (block_pages o) k stack) end_is
    ∙ ap (held pages (block_pages o) o.size) stack_is ∙ space_begins f page pages args env

-- ---- bytes outside a run that was cleared

pub length-run_cleared : (old now : List ℕ) (at n : ℕ) → at + n ≤ length old → now ≡ laid old at (replicate n 0) → length now ≡ length old
length-run_cleared old now at n fits now_is = ap length now_is ∙ length-laid old at (replicate n 0) (omega (arith, length-replicate {A = ℕ} n 0))

pub outside_cleared : (f : Values) (page : ℕ) (args env : List (List ℕ)) (old now : List ℕ) → 4096 * page + block_len (flat_original f) ≤ length old →
    now ≡ laid old (4096 * page) (replicate (block_len (flat_original f)) 0) →
    (a : ℕ) → in_block (page_loading f page args env) a ≡ false → byte_of (2 ^ 31) now a ≡ byte_of (2 ^ 31) old a
outside_cleared f page args env old now fits now_is a out =
    let n = block_len (flat_original f) in
    let zeros : List ℕ = replicate n 0 in
    let len = length-replicate {A = ℕ} n 0 in
    let room : 4096 * page + length zeros ≤ length old = omega (arith, len) in
    byte_of_same now old a (length-run_cleared old now (4096 * page) n fits now_is) (λ from. ap (λ m. get_or m (place a) 0) now_is ∙ elim (outside_cases (page_address page) n a out) [
      | inl below ↦ laid_before old (4096 * page) zeros room (place a) (omega arith)
      | inr past ↦ laid_past old (4096 * page) zeros room (place a) (omega arith)
    ])

-- A program by itself, as it is loaded.
use Rattle.std.proofs.Common.{◌≡◌, ℕ, inl, inr, ◌+◌, ◌-◌, ◌*◌, ◌%◌, ◌^◌, ◌<◌, ◌≤◌, Bool, true, false, List, [], ◌∷◌, length, replicate, Some, None, refl, sym, ap, subst, ◌∙◌, arith}
use Rattle.std.specs.Prelude.{slice_get, option_map, ◌||◌, if◌then◌else◌}
use Rattle.std.proofs.lemmas.Bool.{cases_Bool, false≢true}
use Rattle.std.proofs.lemmas.List.{length-replicate}
use Rattle.byte_words.specs.ByteMap.{byte_of}
use Rattle.bflt_format.specs.Values.{Values}
use Rattle.mmap_rules.specs.declared.mapping.Range.{Range}
use Rattle.mmap_rules.specs.declared.page_owner.PageOwner.{PageOwner}
use Rattle.mmap_rules.specs.Space.{in_range}
use Rattle.mmap_rules.specs.Owners.{IsShaped, free_page, entered}
use Rattle.mmap_rules.proofs.Lists.{each_one}
use Rattle.mmap_rules.proofs.TableMore.{table_first, table_none}
use Rattle.region_watch.specs.Private.{only, physical}
use Rattle.rv32im_step.specs.declared.regs.Regs.{Regs}
use Rattle.flat_loader.specs.Original.{Original, flat_original, block_pages, block_len}
use Rattle.flat_loader.specs.Begin.{Loading, flat_loading, own_range, begin_bytes, begin_byte, begin_space, begin_regs}
use Rattle.flat_loader.specs.Alone.{own_of, solo_begin}
use Rattle.flat_loader.proofs.Blocks.{block_holds}
use Rattle.replay_check.specs.Ranges.{own_memory, mapping_of, IsOwnRange, IsBlock, IsLone}

-- the block has more than its header
pub block_some : (o : Original) → 4096 ≤ block_len o
unfolding block_pages
block_some o = let holds = block_holds o in omega (arith, holds)

module _ (f : Values) (block : ℕ) (args env : List (List ℕ)) (page : block % 4096 ≡ 0) (above : 2 ^ 31 ≤ block) (inside : block + block_len (flat_original f) ≤ 2 ^ 31 + 2 ^ 26) where
  abbrev l : Loading
  l = flat_loading f block args env

  abbrev range : Range
  range = own_range l

  pub range_shaped : IsShaped 16384 range
  range_shaped =
      let some = block_some (flat_original f) in
      record { some = omega (arith, some); above = omega (arith, above); inside = omega (arith, some, inside, above); whole = shaped_whole }
    where
      shaped_whole : (block + 64 - 2 ^ 31 + (block_len (flat_original f) - 64)) % 4096 ≡ 0
      shaped_whole = let some = block_some (flat_original f) in omega (arith, some, page, above)

  is_own : IsOwnRange range
  is_own = record { shaped = range_shaped; read = λ is. absurd (false≢true (sym is)); anonymous = λ is. absurd (false≢true is) }

  is_block : IsBlock range
  is_block = record { writes = refl; whole = refl; header = λ e. absurd (omega (arith, e, page)) }

  pub lone_begins : (table new : List PageOwner) (mem : List ℕ) (ranges : List Range) (r : Range) → table ≡ replicate 16384 free_page → length new ≡ length table
      → ((p : ℕ) → slice_get new p ≡ option_map (entered r p) (slice_get table p)) → length mem ≡ 4096 * 16384 → r ≡ range → ranges ≡ r ∷ [] → IsLone ranges new mem
  lone_begins table new mem ranges r free len each mem_len is one =
      let count : length table ≡ 16384 = ap length free ∙ length-replicate 16384 free_page in
      subst (λ (rs : List Range). IsLone rs new mem) (sym one) (subst (λ (x : Range). IsLone (x ∷ []) new mem) (sym is)
      (record {
        block = range;
        others = [];
        head = refl;
        is_block = is_block;
        tabled = record {
          pages = len ∙ count;
          named = table_first table new (mapping_of range) (free ∙ ap (λ (n : ℕ). replicate n free_page) (sym count)) (λ p. each p ∙ ap (λ (x : Range). option_map (entered x p) (slice_get table p)) is);
          own = each_one IsOwnRange range is_own;
        };
        memory = mem_len;
      }))

  same_bytes : (mem : List ℕ) → ((a : ℕ) → in_range range a ≡ true → byte_of (2 ^ 31) mem a ≡ begin_bytes l a) → only (own_of (range ∷ [])) (physical mem) ≡ begin_bytes l
  unfolding only own_of
  same_bytes mem own = λ i a. at a i
    where
      at : (a : ℕ) → (if in_range range a || false then byte_of (2 ^ 31) mem a else None) ≡ begin_bytes l a
      at a = elim (cases_Bool (in_range range a)) [
        | inl inside ↦ (ap (λ (b : Bool). if b || false then byte_of (2 ^ 31) mem a else None) inside ∙ own a inside)
        | inr outside ↦ (ap (λ (b : Bool). if b || false then byte_of (2 ^ 31) mem a else None) outside ∙ sym (ap (λ (b : Bool). if b then Some (begin_byte l a) else None) outside))
      ]

  pub solo_begins : (mem : List ℕ) (ranges : List Range) (r : Range) (pid : ℕ) (regs : Regs) → ((a : ℕ) → in_range range a ≡ true → byte_of (2 ^ 31) mem a ≡ begin_bytes l a)
      → regs ≡ begin_regs l → r ≡ range → ranges ≡ r ∷ []
      → record { stack = record { pid = pid; regs = regs } ∷ []; memory = own_memory (record { ranges = ranges; mem = mem }) } ≡ solo_begin l pid
  unfolding begin_space
  solo_begins mem ranges r pid regs own is_regs is one =
      (λ i. record { stack = record { pid = pid; regs = is_regs i } ∷ []; memory = own_memory (record { ranges = (one ∙ ap (λ (x : Range). x ∷ []) is) i; mem = mem }) })
      ∙ (λ i. record { stack = record { pid = pid; regs = begin_regs l } ∷ []; memory = record { ranges = range ∷ []; bytes = same_bytes mem own i } })

-- ---- lists of one item over and over

pub len_of : {A : Type 0} (xs : List A) (n : ℕ) (x : A) → xs ≡ replicate n x → length xs ≡ n
len_of xs n x is = ap length is ∙ length-replicate n x

pub free_uses : (table : List PageOwner) (n : ℕ) → table ≡ replicate n free_page → (p : ℕ) (o : PageOwner) → slice_get table p ≡ Some o → o.uses < 2 ^ 32 - 1
free_uses table n is p o there =
    let none = (table_none n).counts p o (ap (λ (t : List PageOwner). slice_get t p) (sym is) ∙ there) in
    omega (arith, none)

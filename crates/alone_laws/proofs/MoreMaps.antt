-- A space of a sound world with a mapping more.
use Rattle.std.proofs.Common.{◌≡◌, ℕ, ◌+◌, ◌-◌, ◌*◌, ◌<◌, ◌≤◌, true, false, inl, inr, List, [], ◌∷◌, ◌++◌, length, get_or, Some, None, refl, sym, ap, subst, ◌∙◌, arith}
use Rattle.std.specs.Prelude.{slice_get}
use Rattle.std.proofs.lemmas.Bool.{cases_Bool, cases_lt}
use Rattle.std.proofs.lemmas.Bool.Decides.{nat_tests}
use Rattle.std.proofs.lemmas.Option.{same_Some, slice_get_past, slice_get-get_or}
use Rattle.byte_words.specs.ByteMap.{Bytes, with_bytes}
use Rattle.nommu_regions.specs.declared.region.Source.{Source}
use Rattle.nommu_regions.specs.declared.region.Source.TheVariants.{Own, Copy}
use Rattle.mmap_rules.specs.declared.mapping.Mapping.{Mapping}
use Rattle.mmap_rules.specs.Space.{Space, in_range}
use Rattle.mmap_rules.specs.Held.{IsMapping, page_address}
use Rattle.mmap_rules.specs.Mappings.{copied_from, file_pages}
use Rattle.mmap_rules.proofs.Lists.{each_append, each_one}
use Rattle.mmap_rules.proofs.Mapped.{mapped_more}
use Rattle.mem_files.specs.Inodes.{Inode, Inodes, inode_at, bytes_in, content_in, bytes_of}
use Rattle.machine_world.specs.MapCalls.{with_mapping}
use Rattle.alone_laws.specs.Sound.{HasBlock, ShareCopy, Apart, copied_byte, HoldsFile, HoldsSource}
use Rattle.alone_laws.proofs.Apart.{each_front, each_back, apart_more}
use Rattle.alone_laws.proofs.SharedPages.{page_of, in_page}
use Rattle.alone_laws.proofs.LaidBytes.{page_byte, length-file_pages}
use Rattle.alone_laws.proofs.Bytes.{bytes_inside, bytes_before, bytes_behind}
use Rattle.alone_laws.proofs.Wanted.{IsThere}
use Rattle.alone_laws.proofs.Spaces.{IsFit}

given : (nodes : Inodes) (id : ℕ) (n : Inode) → inode_at nodes id ≡ Some n → id < length nodes
given nodes id n there = elim (cases_lt id (length nodes)) [
  | inl within ↦ within
  | inr past ↦ (let none : slice_get nodes id ≡ None = slice_get_past nodes id past in absurd (let e = rw none at there in cc))
]

-- ---- the bytes of a copy of a file that is as it was

file_byte : (bytes : List ℕ) (first pages i : ℕ) → i < 4096 * pages → get_or (file_pages bytes first pages) i 0 ≡ get_or bytes (4096 * first + i) 0
file_byte bytes first pages i less =
    sym (page_byte bytes first pages i (get_or (file_pages bytes first pages) i 0) less
    (slice_get-get_or (file_pages bytes first pages) i 0 (omega (arith, less, length-file_pages bytes first pages))))

module _ (s : Space) (nodes : Inodes) (m : Mapping) (id change from first pages : ℕ) (is : IsThere nodes id change) (least : from ≤ first) (source : m.source ≡ Copy id change from)
    (begins : m.range.from ≡ page_address (m.first + (first - from))) (size : m.range.size ≡ 4096 * pages) where
  abbrev laid_bytes : Bytes
  laid_bytes = with_bytes s.bytes m.range.from (file_pages (bytes_of nodes id) first pages)

  bytes_are : (n : Inode) → inode_at nodes id ≡ Some n → bytes_of nodes id ≡ bytes_in n.content
  bytes_are n there = ap (λ o. bytes_in (content_in o)) there

  byte_laid : (n : Inode) (a : ℕ) → inode_at nodes id ≡ Some n → in_range m.range a ≡ true → laid_bytes a ≡ Some (copied_byte (bytes_in n.content) m a)
  byte_laid n a there within =
      let low : m.range.from ≤ a = grind (arith, nat_tests) in
      let high : a < m.range.from + m.range.size = grind (arith, nat_tests) in
      let at : a ≡ m.range.from + (a - m.range.from) = omega (arith, low) in
      let inside_it : a - m.range.from < 4096 * pages = omega (arith, low, high, size) in
      let len = length-file_pages (bytes_of nodes id) first pages in
      let place : 4096 * first + (a - m.range.from) ≡ 4096 * from + (a - page_address m.first) = omega (arith, low, begins, least) in
      let origin : 4096 * from + (a - page_address m.first) ≡ 4096 * copied_from m.source + (a - page_address m.first) =
      ap (λ (x : Source). 4096 * copied_from x + (a - page_address m.first)) (sym source) in
      ap laid_bytes at
      ∙ bytes_inside s.bytes m.range.from (file_pages (bytes_of nodes id) first pages) (a - m.range.from) (omega (arith, inside_it, len))
      ∙ ap (λ (b : ℕ). Some b) (file_byte (bytes_of nodes id) first pages (a - m.range.from) inside_it
      ∙ ap (λ (i : ℕ). get_or (bytes_of nodes id) i 0) (place ∙ origin)
      ∙ ap (λ (bs : List ℕ). get_or bs (4096 * copied_from m.source + (a - page_address m.first)) 0) (bytes_are n there))

  pub file_laid : HoldsFile (with_mapping s m (file_pages (bytes_of nodes id) first pages)) nodes m id change
  file_laid = record {
    given = given nodes id is.node is.there;
    up = λ n there. (let same : is.node ≡ n = same_Some _ _ (sym is.there ∙ there) in let count = ap (λ (x : Inode). x.change) same in let was = is.count in omega (arith, count, was));
    same = λ n a there count within. byte_laid n a there within;
  }

-- ---- a mapping that is apart from all others, or shares a copy

pub record IsMore (pages : ℕ) (maps : List Mapping) (s : Space) (nodes : Inodes) (m : Mapping) (bytes : List ℕ) : Type 0 where
  pub mapping : IsMapping pages m
  pub inside : m.first + m.pages ≤ pages
  pub apart : (j : ℕ) (n : Mapping) → slice_get maps j ≡ Some n → Apart n m
  pub long : length bytes ≡ m.range.size
  pub holds : HoldsSource (with_mapping s m bytes) nodes m m.source

module _ (pages : ℕ) (front back : List Mapping) (nodes : Inodes) (s : Space) (m : Mapping) (bytes : List ℕ) (fit : IsFit pages front back nodes s)
    (more : IsMore pages (front ++ (s.maps ++ back)) s nodes m bytes) where
  abbrev now : Space
  now = with_mapping s m bytes

  own_part : (j : ℕ) (n : Mapping) → slice_get s.maps j ≡ Some n → Apart n m
  own_part = each_front (λ n. Apart n m) s.maps back (each_back (λ n. Apart n m) front (s.maps ++ back) more.apart)

  -- another copy has its bytes, since it shares those pages with the new one, or none
  module _ (n : Mapping) (is : IsMapping pages n) (apart : Apart n m) (file change first : ℕ) (source : n.source ≡ Copy file change first) (old : HoldsFile s nodes n file change) where
    off : (a : ℕ) → in_range m.range a ≡ false → now.bytes a ≡ s.bytes a
    off a away = elim (cases_lt a m.range.from) [
      | inl low ↦ bytes_before s.bytes m.range.from bytes a low
      | inr high ↦ bytes_behind s.bytes m.range.from bytes a (let len = more.long in let past : m.range.from + m.range.size ≤ a = grind (arith, nat_tests) in omega (arith, len, past))
    ]

    on : (node : Inode) (a : ℕ) → inode_at nodes file ≡ Some node → change ≡ node.change → in_range n.range a ≡ true → in_range m.range a ≡ true
        → now.bytes a ≡ Some (copied_byte (bytes_in node.content) n a)
    on node a there count inside also =
        let shared : ShareCopy n m = apart (page_of a) (in_page pages n a is inside) (in_page pages m a more.mapping also) in
        let its : HoldsFile now nodes m file change = subst (HoldsSource now nodes m) (sym shared.source ∙ source) more.holds in
        its.same node a there count also
        ∙ sym (λ i. Some (get_or (bytes_in node.content) (4096 * copied_from (shared.source i) + (a - page_address (shared.first i))) 0))

    copy_still : HoldsFile now nodes n file change
    copy_still = record {
      given = old.given;
      up = old.up;
      same = λ node a there count inside. elim (cases_Bool (in_range m.range a)) [
        | inl also ↦ on node a there count inside also
        | inr away ↦ off a away ∙ old.same node a there count inside
      ];
    }

  still : (n : Mapping) → IsMapping pages n → Apart n m → (source : Source) → n.source ≡ source → HoldsSource s nodes n source → HoldsSource now nodes n source
  still n is apart Own source old = tt
  still n is apart (Copy file change first) source old = copy_still n is apart file change first source old

  block : HasBlock now.maps
  block =
      let b : HasBlock s.maps = fit.is_space.block in
      record { block = b.block; others = b.others ++ m ∷ []; are = ap (λ (ms : List Mapping). ms ++ m ∷ []) b.are; begins = b.begins; uncut = b.uncut }

  pub fit_more : IsFit pages front back nodes now
  fit_more = record {
    is_space = record {
      block = block;
      mappings = mapped_more pages s.maps m fit.is_space.mappings more.mapping;
      inside = each_append (λ n. n.first + n.pages ≤ pages) s.maps (m ∷ []) fit.is_space.inside (each_one (λ n. n.first + n.pages ≤ pages) m more.inside);
    };
    apart = apart_more front s.maps back m fit.apart more.apart;
    holds = each_append (λ n. HoldsSource now nodes n n.source) s.maps (m ∷ [])
        (λ j n there. still n (fit.is_space.mappings j n there) (own_part j n there) n.source refl (fit.holds j n there))
        (each_one (λ n. HoldsSource now nodes n n.source) m more.holds);
  }

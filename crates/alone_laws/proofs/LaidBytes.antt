-- Bytes that are laid from an address on: they are read back, and lie where nothing differs. And the pages of a file.
use Rattle.std.proofs.Common.{◌≡◌, ℕ, zero, suc, ◌+◌, ◌-◌, ◌*◌, ◌<◌, ◌≤◌, Bool, true, false, not, List, [], ◌∷◌, ◌++◌, length, take, drop, replicate, get_or, Option, Some, refl, sym, ap, subst, ◌∙◌, arith, length-append}
use Rattle.std.specs.Prelude.{◌==◌, ◌||◌, ◌&&◌, slice_get}
use Rattle.std.proofs.lemmas.List.{get_or-drop, get_or-replicate, length-replicate, length-take}
use Rattle.std.proofs.lemmas.Option.{get_or_from_slice_get}
use Rattle.byte_words.specs.ByteMap.{Bytes, with_bytes}
use Rattle.call_log.specs.Sent.{cons_byte, bytes_from}
use Rattle.mmap_rules.specs.Mappings.{file_pages}
use Rattle.flat_loader.specs.Alone.{OwnMemory, own_of, writable_of, has_byte, may_lie}
use Rattle.alone_laws.proofs.Lists.{if_yes, if_no, eqb_other, eqb_same}

-- ---- reading back

same_from : (m n : Bytes) (a len : ℕ) → ((k : ℕ) → a ≤ k → m k ≡ n k) → bytes_from m a len ≡ bytes_from n a len
same_from m n a zero same = refl
same_from m n a (suc len) same =
    (λ i. cons_byte (same a (omega arith) i) (bytes_from m (a + 1) len))
    ∙ ap (cons_byte (n a)) (same_from m n (a + 1) len (λ k from. same k (omega (arith, from))))

pub read_back : (m : Bytes) (a : ℕ) (bytes : List ℕ) → bytes_from (with_bytes m a bytes) a (length bytes) ≡ Some bytes
read_back m a [] = refl
read_back m a (b ∷ bytes) =
    let here : with_bytes m a (b ∷ bytes) a ≡ Some b = if_yes (a == a) (Some b) (with_bytes m (a + 1) bytes a) (eqb_same a a refl) in
    let above : bytes_from (with_bytes m a (b ∷ bytes)) (a + 1) (length bytes) ≡ bytes_from (with_bytes m (a + 1) bytes) (a + 1) (length bytes) =
    same_from (with_bytes m a (b ∷ bytes)) (with_bytes m (a + 1) bytes) (a + 1) (length bytes)
    (λ k from. if_no (k == a) (Some b) (with_bytes m (a + 1) bytes k) (eqb_other k a (omega (arith, from)))) in
    (λ i. cons_byte (here i) (bytes_from (with_bytes m a (b ∷ bytes)) (a + 1) (length bytes)))
    ∙ ap (cons_byte (Some b)) (above ∙ read_back m (a + 1) bytes)

-- ---- bytes may lie where none is own, or where they are read alone, and agree

pub record LiesOver (m : OwnMemory) (writes : Bool) (a b : ℕ) : Type 0 where
  pub reads : writes ≡ false
  pub others : writable_of m.ranges a ≡ false
  pub same : m.bytes a ≡ Some b

module _ (m : OwnMemory) (writes : Bool) where
  lies_one : (a b : ℕ) (own : Bool) → own_of m.ranges a ≡ own → (own ≡ true → LiesOver m writes a b)
      → (not own || (not writes && not (writable_of m.ranges a) && has_byte (m.bytes a) b)) ≡ true
  lies_one a b false is over = refl
  lies_one a b true is over =
      let o = over refl in
      let at : has_byte (m.bytes a) b ≡ true = ap (λ (x : Option ℕ). has_byte x b) o.same ∙ eqb_same b b refl in
      (λ i. not (o.reads i) && not (o.others i) && at i)

  pub lies_all : (a : ℕ) (bytes : List ℕ) → ((k b : ℕ) → slice_get bytes k ≡ Some b → own_of m.ranges (a + k) ≡ true → LiesOver m writes (a + k) b)
      → may_lie m writes a bytes ≡ true
  unfolding may_lie
  lies_all a [] over = refl
  lies_all a (b ∷ bytes) over =
      let start : a + 0 ≡ a = omega arith in
      let first : (own_of m.ranges a ≡ true → LiesOver m writes a b) = subst (λ n. own_of m.ranges n ≡ true → LiesOver m writes n b) start (over 0 b refl) in
      let here : (not (own_of m.ranges a) || (not writes && not (writable_of m.ranges a) && has_byte (m.bytes a) b)) ≡ true =
      lies_one a b (own_of m.ranges a) refl first in
      let later : may_lie m writes (a + 1) bytes ≡ true =
      lies_all (a + 1) bytes
      (λ k c there. let on : a + suc k ≡ a + 1 + k = omega arith in subst (λ n. own_of m.ranges n ≡ true → LiesOver m writes n c) on (over (suc k) c there)) in
      (λ i. here i && later i)

-- ---- the pages of a file

filled_at : (bytes : List ℕ) (len k : ℕ) → k < len → get_or (take len bytes ++ replicate (len - length (take len bytes)) 0) k 0 ≡ get_or bytes k 0
filled_at [] zero k less = absurd (omega arith)
filled_at [] (suc len) k less =
    let all : suc len - 0 ≡ suc len = omega arith in
    ap (λ n. get_or (replicate n 0) k 0) all ∙ get_or-replicate (suc len) k 0 0 less
filled_at (b ∷ bytes) zero k less = absurd (omega arith)
filled_at (b ∷ bytes) (suc len) zero less = refl
filled_at (b ∷ bytes) (suc len) (suc k) less =
    let count : suc len - suc (length (take len bytes)) ≡ len - length (take len bytes) = omega arith in
    ap (λ n. get_or (take len bytes ++ replicate n 0) k 0) count ∙ filled_at bytes len k (omega arith)

pub page_byte : (bytes : List ℕ) (first pages k b : ℕ) → k < 4096 * pages → slice_get (file_pages bytes first pages) k ≡ Some b → get_or bytes (4096 * first + k) 0 ≡ b
unfolding file_pages
page_byte bytes first pages k b less there =
    sym (get_or-drop (4096 * first) bytes k 0) ∙ sym (filled_at (drop (4096 * first) bytes) (4096 * pages) k less)
    ∙ get_or_from_slice_get (file_pages bytes first pages) k b 0 there

pub length-file_pages : (bytes : List ℕ) (first pages : ℕ) → length (file_pages bytes first pages) ≡ 4096 * pages
unfolding file_pages
length-file_pages bytes first pages =
    let front = take (4096 * pages) (drop (4096 * first) bytes) in
    let zeros : List ℕ = replicate (4096 * pages - length front) 0 in
    let all = length-append front zeros in
    let back = length-replicate {A = ℕ} (4096 * pages - length front) 0 in
    let few = length-take (4096 * pages) (drop (4096 * first) bytes) in
    omega (arith, all, back, few)

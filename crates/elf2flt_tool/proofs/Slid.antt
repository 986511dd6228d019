-- Bytes that move down within a file, and the file that they leave.
use Rattle.std.proofs.Common.{◌≡◌, ℕ, ◌+◌, ◌-◌, ◌<◌, ◌≤◌, true, false, None, List, [], ◌∷◌, ◌++◌, length, get_or, take, drop, replicate, map, refl, sym, ap, ◌∙◌, append_assoc, zero-add, arith}
use Rattle.std.specs.List.{range_with_len}
use Rattle.std.proofs.lemmas.List.FromFn.{map-range_with_len_more}
use Rattle.std.proofs.lemmas.List.{length-append, length-take-le, length-drop, length-replicate, take-append-drop, take-take, take_at, drop_at, drop-drop, drop-take, drop-append-le, drop-replicate, drop_all, replicate-append-replicate, map-append}
use Rattle.byte_words.specs.Patches.{Patch, patched, laid, painted, bytes_below}
use Rattle.byte_words.proofs.Laid.{length-laid}
use Rattle.elf2flt_tool.specs.declared.slide.Slide.{Slide}
use Rattle.byte_words.proofs.Painting.{length-bytes_below}
use Rattle.bflt_format.specs.Flat.{behind_header}
use Rattle.elf32_reader.specs.Header.{count_of}
use Rattle.elf32_reader.specs.Sections.{section, content}
use Rattle.elf32_reader.specs.Faults.{elf_fault}
use Rattle.elf32_reader.proofs.Facts.{stored_fits}
use Rattle.elf32_reader.proofs.Places.{length_content}
use Rattle.flat_layout.specs.declared.layout.Layout.{Layout}
use Rattle.flat_layout.specs.Numbering.{has_bytes}
use Rattle.flat_layout.specs.Layout.{layout, off}
use Rattle.flat_layout.specs.Fault.{layout_fault}
use Rattle.flat_layout.proofs.Facts.{clear_numbers, text-data, laid_out}
use Rattle.flat_layout.proofs.Numbers.{is_numbered, stored_inside}
use Rattle.elf2flt_tool.specs.Image.{section_patch, IsLinkedFile}
use Rattle.elf2flt_tool.specs.Slides.{slid_patch, section_slide, IsSlid, GoDown, end_of, AreSlides}
use Rattle.elf2flt_tool.proofs.Painted.{below-zeros, below-push, laid-push, laid-nothing, section_patch-stored, section_patch-other, is_stored_of}

-- further on
drop_on : (xs : List ℕ) (p q : ℕ) → p ≤ q → drop q xs ≡ drop (q - p) (drop p xs)
drop_on xs p q le =
    let sum : p + (q - p) ≡ q = omega arith in
    ap (λ n. drop n xs) (sym sum) ∙ sym (drop-drop (q - p) p xs)

pub take_both : (xs : List ℕ) (n k : ℕ) → take (n + k) xs ≡ take n xs ++ take k (drop n xs)
take_both xs n k =
    let less : n ≤ n + k = omega arith in
    sym (take-append-drop n (take (n + k) xs)) ∙ (λ i. take-take n (n + k) xs less i ++ drop-take n k xs i)

-- what was laid ends there, and behind it the list is as it was
pub record LaidAt (old : List ℕ) (at : ℕ) (bytes : List ℕ) : Type 0 where
  pub front : take (at + length bytes) (laid old at bytes) ≡ take at old ++ bytes
  pub back : drop (at + length bytes) (laid old at bytes) ≡ drop (at + length bytes) old

pub laid_at : (old : List ℕ) (at : ℕ) (bytes : List ℕ) → at ≤ length old → LaidAt old at bytes
laid_at old at bytes le =
    let D = drop (at + length bytes) old in
    let len : length (take at old ++ bytes) ≡ at + length bytes = length-append (take at old) bytes ∙ ap (λ n. n + length bytes) (length-take-le at old le) in
    let split : laid old at bytes ≡ (take at old ++ bytes) ++ D = sym (append_assoc (take at old) bytes D) in
    record {
      front = ap (take (at + length bytes)) split ∙ take_at (take at old ++ bytes) D (at + length bytes) len;
      back = ap (drop (at + length bytes)) split ∙ drop_at (take at old ++ bytes) D (at + length bytes) len;
    }

-- further on it is as it was, too
pub laid_behind : (old : List ℕ) (at : ℕ) (bytes : List ℕ) (q : ℕ) → at ≤ length old → at + length bytes ≤ q → drop q (laid old at bytes) ≡ drop q old
laid_behind old at bytes q le past =
    drop_on (laid old at bytes) (at + length bytes) q past
    ∙ ap (drop (q - (at + length bytes))) (laid_at old at bytes le).back
    ∙ sym (drop_on old (at + length bytes) q past)

-- one behind the other is both at once
pub laid_both : (old : List ℕ) (at : ℕ) (s t : List ℕ) → at ≤ length old → laid (laid old at s) (at + length s) t ≡ laid old at (s ++ t)
laid_both old at s t le =
    let both : at + length s + length t ≡ at + length (s ++ t) = omega (arith, length-append s t) in
    let past : at + length s ≤ at + length s + length t = omega arith in
    let D = drop (at + length s + length t) old in
    (λ i. (laid_at old at s le).front i ++ (t ++ laid_behind old at s (at + length s + length t) le past i))
    ∙ append_assoc (take at old) s (t ++ D)
    ∙ ap (λ xs. take at old ++ xs) (sym (append_assoc s t D))
    ∙ ap (λ n. take at old ++ ((s ++ t) ++ drop n old)) both

-- written into the front of a list
pub laid_in_front : (xs : List ℕ) (i m : ℕ) (p : List ℕ) → i + length p ≤ m → m ≤ length xs
    → (take i (take m xs) ++ (p ++ drop (i + length p) (take m xs))) ++ drop m xs ≡ laid xs i p
laid_in_front xs i m p in_front le =
    let less : i ≤ m = omega arith in
    let len = length-take-le m xs le in
    let inside : i + length p ≤ length (take m xs) = omega (arith, len) in
    let rest : drop (i + length p) (take m xs) ++ drop m xs ≡ drop (i + length p) xs =
    sym (drop-append-le (i + length p) (take m xs) (drop m xs) inside) ∙ ap (drop (i + length p)) (take-append-drop m xs) in
    append_assoc (take i (take m xs)) (p ++ drop (i + length p) (take m xs)) (drop m xs)
    ∙ ap (λ ys. take i (take m xs) ++ ys) (append_assoc p (drop (i + length p) (take m xs)) (drop m xs) ∙ ap (λ ys. p ++ ys) rest)
    ∙ ap (λ ys. ys ++ (p ++ drop (i + length p) xs)) (take-take i m xs less)

pub length-moved : (old : List ℕ) (to from n : ℕ) → to ≤ from → from + n ≤ length old → length (laid old to (take n (drop from old))) ≡ length old
length-moved old to from n down inside =
    let len : length (take n (drop from old)) ≡ n = length-take-le n (drop from old) (omega (arith, length-drop from old)) in
    length-laid old to (take n (drop from old)) (omega (arith, len))

-- one piece more of the bytes that move down
pub moved_more : (old : List ℕ) (to from n k : ℕ) → to + k ≤ from → from + n + k ≤ length old
    → laid (laid old to (take n (drop from old))) (to + n) (take k (drop (from + n) (laid old to (take n (drop from old))))) ≡ laid old to (take (n + k) (drop from old))
moved_more old to from n k down inside =
    let at : to ≤ length old = omega arith in
    let long : n ≤ length (drop from old) = omega (arith, length-drop from old) in
    let s = take n (drop from old) in
    let len : length s ≡ n = length-take-le n (drop from old) long in
    let past : to + length s ≤ from + n = omega (arith, len) in
    let read = laid_behind old to s (from + n) at past in
    let piece : take k (drop (from + n) (laid old to s)) ≡ take k (drop n (drop from old)) = ap (take k) (read ∙ sym (drop-drop n from old)) in
    ap (λ p. laid (laid old to s) (to + n) p) piece
    ∙ ap (λ l. laid (laid old to s) (to + l) (take k (drop n (drop from old)))) (sym len)
    ∙ laid_both old to s (take k (drop n (drop from old))) at
    ∙ ap (laid old to) (sym (take_both (drop from old) n k))

-- what stands between is cleared before bytes move down behind it
pub slid_down : (old : List ℕ) (end to from n : ℕ) → end ≤ to → to ≤ from → from + n ≤ length old
    → laid (laid old end (replicate (to - end) 0)) to (take n (drop from (laid old end (replicate (to - end) 0))))
    ≡ take end old ++ (replicate (to - end) 0 ++ (take n (drop from old) ++ drop (to + n) old))
slid_down old end to from n before down inside =
    let zeros : List ℕ = replicate (to - end) 0 in
    let cleared : List ℕ = laid old end zeros in
    let le : end ≤ length old = omega arith in
    let len : length zeros ≡ to - end = length-replicate (to - end) 0 in
    let at : end + length zeros ≡ to = omega (arith, len) in
    let read : drop from cleared ≡ drop from old = laid_behind old end zeros from le (omega (arith, at)) in
    let rest : drop (to + n) cleared ≡ drop (to + n) old = laid_behind old end zeros (to + n) le (omega (arith, at)) in
    let front : take to cleared ≡ take end old ++ zeros = ap (λ k. take k cleared) (sym at) ∙ (laid_at old end zeros le).front in
    let long : length (take n (drop from old)) ≡ n = length-take-le n (drop from old) (omega (arith, length-drop from old)) in
    ap (λ xs. laid cleared to (take n xs)) read
    ∙ (λ i. front i ++ (take n (drop from old) ++ drop (to + long i) cleared))
    ∙ (λ i. (take end old ++ zeros) ++ (take n (drop from old) ++ rest i))
    ∙ append_assoc (take end old) zeros (take n (drop from old) ++ drop (to + n) old)

-- none moved
pub slid_none : (e : List ℕ) → 64 ≤ length e → IsSlid e e 64 []
slid_none e le = record {
  len = refl;
  rest = refl;
  header = omega arith;
  fits = le;
  image = λ len h. ap (λ xs. xs ++ replicate (len - 64) 0) (drop_all 64 (take 64 e) (omega (arith, length-take-le 64 e le))) ∙ below-zeros (len - 64);
}

-- zeros behind a list, with bytes laid over some of them
laid_over_zeros : (q s : List ℕ) (a k n : ℕ) → length q ≡ a → length s + k ≡ n
    → (m : ℕ) → laid (q ++ replicate (m + n) 0) (a + m) s ≡ ((q ++ replicate m 0) ++ s) ++ replicate k 0
laid_over_zeros q s a k n is sum m =
    let zeros : List ℕ = replicate m 0 in
    let front : List ℕ = q ++ zeros in
    let len : length front ≡ a + m = omega (arith, length-append q zeros, length-replicate {A = ℕ} m 0, is) in
    let split : q ++ replicate (m + n) 0 ≡ front ++ replicate n 0 = ap (λ xs. q ++ xs) (sym (replicate-append-replicate m n 0)) ∙ sym (append_assoc q zeros (replicate n 0)) in
    let left : n - length s ≡ k = omega arith in
    let rest : drop (a + m + length s) (front ++ replicate n 0) ≡ replicate k 0 =
    sym (drop-drop (length s) (a + m) (front ++ replicate n 0))
    ∙ ap (drop (length s)) (drop_at front (replicate n 0) (a + m) len)
    ∙ drop-replicate (length s) n 0
    ∙ ap (λ j. replicate j 0) left in
    ap (λ xs. laid xs (a + m) s) split
    ∙ (λ i. take_at front (replicate n 0) (a + m) len i ++ (s ++ rest i))
    ∙ sym (append_assoc front s (replicate k 0))

-- and one more
pub slid_more : (e f g : List ℕ) (end : ℕ) (done : List Slide) (s : Slide) → IsSlid e f end done → end ≤ s.to → s.to ≤ s.from → s.from + s.len ≤ length e
    → g ≡ take end f ++ (replicate (s.to - end) 0 ++ (take s.len (drop s.from f) ++ drop (s.to + s.len) f))
    → IsSlid e g (s.to + s.len) (done ++ s ∷ [])
unfolding slid_patch
slid_more e f g end done s slid before down inside is =
    let to = s.to in
    let n = s.len in
    let front : List ℕ = take end f in
    let zeros : List ℕ = replicate (to - end) 0 in
    let moved : List ℕ = take n (drop s.from e) in
    let rest : List ℕ = drop (to + n) e in
    let all : List ℕ = (front ++ zeros) ++ moved in
    let here : end ≤ length f = omega (arith, slid.len, slid.fits) in
    let same : (q : ℕ) → end ≤ q → drop q f ≡ drop q e = λ q le. drop_on f end q le ∙ ap (drop (q - end)) slid.rest ∙ sym (drop_on e end q le) in
    let from_same = same s.from (omega arith) in
    let rest_same = same (to + n) (omega arith) in
    let len_front : length front ≡ end = length-take-le end f here in
    let len_zeros : length zeros ≡ to - end = length-replicate (to - end) 0 in
    let len_moved : length moved ≡ n = length-take-le n (drop s.from e) (omega (arith, length-drop s.from e)) in
    let len_all : length all ≡ to + n = omega (arith, length-append (front ++ zeros) moved, length-append front zeros, len_front, len_zeros, len_moved) in
    let whole : g ≡ all ++ rest =
    is ∙ (λ i. front ++ (zeros ++ (take n (from_same i) ++ rest_same i)))
    ∙ sym (append_assoc front zeros (moved ++ rest)) ∙ sym (append_assoc (front ++ zeros) moved rest) in
    record {
      len = ap length whole ∙ omega (arith, length-append all rest, len_all, length-drop (to + n) e);
      rest = ap (drop (to + n)) whole ∙ drop_at all rest (to + n) len_all;
      header = omega (arith, slid.header);
      fits = omega arith;
      image = λ len le.
          let q : List ℕ = drop 64 front in
          let p : Patch = slid_patch e s in
          let ps : List Patch = map (slid_patch e) done in
          let header = slid.header in
          let len_q : length q ≡ end - 64 = omega (arith, length-drop 64 front, len_front) in
          let taken : take (to + n) g ≡ all = ap (take (to + n)) whole ∙ take_at all rest (to + n) len_all in
          let behind : drop 64 all ≡ (q ++ zeros) ++ moved =
          drop-append-le 64 (front ++ zeros) moved (omega (arith, length-append front zeros, len_front))
          ∙ ap (λ xs. xs ++ moved) (drop-append-le 64 front zeros (omega (arith, len_front))) in
          let more : to - end + (len - to) ≡ len - end = omega arith in
          let place : end - 64 + (to - end) ≡ to - 64 = omega arith in
          let over = laid_over_zeros q moved (end - 64) (len - (to + n)) (len - to) len_q (omega (arith, len_moved)) (to - end) in
          let so_far : q ++ replicate (to - end + (len - to)) 0 ≡ bytes_below (len - 64) (painted ps (λ k. 0)) =
          ap (λ k. q ++ replicate k 0) more ∙ slid.image len (omega arith) in
          (λ i. drop 64 (taken i) ++ replicate (len - (to + n)) 0)
          ∙ ap (λ xs. xs ++ replicate (len - (to + n)) 0) behind
          ∙ sym over
          ∙ (λ i. laid (so_far i) (place i) moved)
          ∙ laid-push (len - 64) ps p (λ k. 0) (omega (arith, len_moved))
          ∙ ap (λ qs. bytes_below (len - 64) (painted qs (λ k. 0))) (sym (map-append (slid_patch e) done (s ∷ [])));
    }

-- the linked file, which ends behind the last with zeros
pub slid_whole : (e f : List ℕ) (end len : ℕ) (ss : List Slide) → IsSlid e f end ss → end ≤ len
    → (64 ≤ length (take end f ++ replicate (len - end) 0)) × (behind_header (take end f ++ replicate (len - end) 0) ≡ bytes_below (len - 64) (painted (map (slid_patch e) ss) (λ n. 0)))
slid_whole e f end len ss slid le =
    let zeros : List ℕ = replicate (len - end) 0 in
    let here : end ≤ length f = omega (arith, slid.len, slid.fits) in
    let front : length (take end f) ≡ end = length-take-le end f here in
    let header = slid.header in (
      omega (arith, length-append (take end f) zeros, front, header),
      drop-append-le 64 (take end f) zeros (omega (arith, front, header)) ∙ slid.image len le,
    )

-- one that moves down behind the others
pub down_more : (size end : ℕ) (ss : List Slide) (s : Slide) → GoDown size end ss → end_of end ss ≤ s.to → s.to ≤ s.from → s.from + s.len ≤ size → GoDown size end (ss ++ s ∷ [])
down_more size end [] s down behind low inside = (behind, low, inside, tt)
down_more size end (r ∷ rs) s down behind low inside = (down.0, down.1, down.2, down_more size (r.to + r.len) rs s down.3 behind low inside)

pub end_more : (end : ℕ) (ss : List Slide) (s : Slide) → end_of end (ss ++ s ∷ []) ≡ s.to + s.len
end_more end [] s = refl
end_more end (r ∷ rs) s = end_more (r.to + r.len) rs s

-- where some move down behind a header, the file has one
pub has_header : (size : ℕ) (ss : List Slide) → GoDown size 64 ss → 0 < length ss → 64 ≤ size
has_header size [] down some = omega (arith, some)
has_header size (s ∷ ss) down some = omega (arith, down.0, down.1, down.2)

-- a section's bytes, brought by its slide
pub slide_brings : (e : List ℕ) (i : ℕ) → has_bytes (section e i) ≡ true → slid_patch e (section_slide e i) ≡ section_patch e i
unfolding slid_patch section_slide content
slide_brings e i is =
    let at : 64 + off (layout e) (section e i).addr - 64 ≡ off (layout e) (section e i).addr = omega arith in
    (λ k. record { at = at k; bytes = content e (section e i) }) ∙ sym (section_patch-stored e i is)

-- one section more, with bytes
pub brought_more : (e : List ℕ) (n i : ℕ) (ss : List Slide) → has_bytes (section e i) ≡ true → (section_patch e i).at + length (section_patch e i).bytes ≤ n
    → bytes_below n (painted (map (slid_patch e) ss) (λ k. 0)) ≡ bytes_below n (painted (map (section_patch e) (range_with_len 0 i)) (λ k. 0))
    → bytes_below n (painted (map (slid_patch e) (ss ++ section_slide e i ∷ [])) (λ k. 0)) ≡ bytes_below n (painted (map (section_patch e) (range_with_len 0 (i + 1))) (λ k. 0))
brought_more e n i ss is fits same =
    let p : Patch = section_patch e i in
    ap (λ qs. bytes_below n (painted qs (λ k. 0))) (map-append (slid_patch e) ss (section_slide e i ∷ []) ∙ ap (λ q. map (slid_patch e) ss ++ q ∷ []) (slide_brings e i is))
    ∙ sym (laid-push n (map (slid_patch e) ss) p (λ k. 0) fits)
    ∙ ap (λ xs. laid xs p.at p.bytes) same
    ∙ laid-push n (map (section_patch e) (range_with_len 0 i)) p (λ k. 0) fits
    ∙ ap (λ qs. bytes_below n (painted qs (λ k. 0))) (sym (map-range_with_len_more (section_patch e) 0 i i (zero-add i)))

-- and one without
pub brought_same : (e : List ℕ) (n i : ℕ) → has_bytes (section e i) ≡ false
    → bytes_below n (painted (map (section_patch e) (range_with_len 0 i)) (λ k. 0)) ≡ bytes_below n (painted (map (section_patch e) (range_with_len 0 (i + 1))) (λ k. 0))
brought_same e n i is =
    let ps : List Patch = map (section_patch e) (range_with_len 0 i) in
    let so_far : List ℕ = bytes_below n (painted ps (λ k. 0)) in
    let p : Patch = record { at = off (layout e) (section e i).addr; bytes = [] } in
    laid-nothing so_far p.at
    ∙ ap (λ k. bytes_below k (patched p (λ j. get_or so_far j 0))) (length-bytes_below n (painted ps (λ k. 0)))
    ∙ below-push n ps p (λ k. 0)
    ∙ ap (λ q. bytes_below n (painted (ps ++ q ∷ []) (λ k. 0))) (sym (section_patch-other e i is))
    ∙ ap (λ qs. bytes_below n (painted qs (λ k. 0))) (sym (map-range_with_len_more (section_patch e) 0 i i (zero-add i)))

-- a section with bytes lies inside both files
pub record IsInside (e : List ℕ) (i : ℕ) : Type 0 where
  pub from : (section_slide e i).from + (section_slide e i).len ≤ length e
  pub to : (section_slide e i).to + (section_slide e i).len ≤ 64 + (layout e).text + (layout e).data_len
  pub patch : (section_patch e i).at + length (section_patch e i).bytes ≤ (layout e).text + (layout e).data_len

pub is_inside : (e : List ℕ) (i : ℕ) → elf_fault e ≡ None → layout_fault e ≡ None → i < count_of e → has_bytes (section e i) ≡ true → IsInside e i
unfolding section_slide
is_inside e i read none below is =
    let stored = is_stored_of (section e i) is in
    let fits = stored_fits e i read below stored.allocated stored.stored in
    let len = length_content e (section e i) fits in
    let inside = stored_inside e i (clear_numbers e none) below is in
    let number = (is_numbered e i (clear_numbers e none) below (laid_out e i is)).number in
    let whole = text-data e in
    record {
      from = fits;
      to = omega (arith, number, whole, inside);
      patch = rw (section_patch-stored e i is, len) (omega (arith, number, whole, inside));
    }

-- what has slid is the linked file
pub slid_linked : (e file : List ℕ) (l : Layout) (ss : List Slide) (len : ℕ) → AreSlides e ss → l ≡ layout e → len ≡ 64 + l.text + l.data_len → 64 ≤ length file
    → behind_header file ≡ bytes_below (len - 64) (painted (map (slid_patch e) ss) (λ n. 0)) → IsLinkedFile e file
slid_linked e file l ss len are laid is header image =
    let size = rw laid at is in
    let rest : len - 64 ≡ (layout e).text + (layout e).data_len = omega (arith, size) in
    record { header = header; image = image ∙ ap (λ n. bytes_below n (painted (map (slid_patch e) ss) (λ n. 0))) rest ∙ are.image }

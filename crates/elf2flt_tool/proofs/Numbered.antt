-- That a word is still the linked one where the numbers before it have been written.
use Rattle.std.proofs.Common.{◌≡◌, ℕ, ◌+◌, ◌<◌, ◌≤◌, true, false, List, length, map, take, get_or, slice_index, refl, sym, ap, ◌∙◌, arith}
use Rattle.std.proofs.lemmas.List.{get_or-take, length-take}
use Rattle.byte_words.specs.Numbers.{number_at, low_first}
use Rattle.byte_words.specs.Patches.{spans, painted, bytes_below, big_word}
use Rattle.byte_words.proofs.Painting.{byte_below, spans_past}
use Rattle.bflt_format.proofs.Rising.{has, stands_in}
use Rattle.bflt_format.proofs.Links as links
use Rattle.flat_layout.specs.declared.layout.Layout.{Layout}
use Rattle.flat_layout.specs.Layout.{off}
use Rattle.elf2flt_tool.specs.Converted.{number_patch}
use Rattle.elf2flt_tool.specs.Word.{word_at, AreApart}
use Rattle.elf2flt_tool.specs.Image.{word_of}
use Rattle.elf2flt_tool.proofs.Members.{map_map}
use Rattle.elf2flt_tool.proofs.Bare.{number_of_word}

-- a number before place i covers none of its word
before : (l : Layout) (old ps : List ℕ) (i j q : ℕ) → AreApart ps → i < length ps → has (take i ps) q ≡ true → spans (number_patch (word_at l old q)) (get_or ps i 0 + j) ≡ false
unfolding number_patch big_word
before l old ps i j q apart below member =
    let at = stands_in (take i ps) q member in
    let short = length-take i ps in
    let low = at.below in
    let is : get_or ps at.at 0 ≡ q = sym (get_or-take i ps at.at 0 (omega (arith, short))) ∙ at.is in
    let gap = apart at.at i (omega (arith, short)) below in
    spans_past (number_patch (word_at l old q)) (get_or ps i 0 + j) (omega (arith, is, gap))

pub word_still : (l : Layout) (old ps : List ℕ) (i : ℕ) → AreApart ps → i < length ps → get_or ps i 0 + 4 ≤ length old
    → word_at l (bytes_below (length old) (painted (map number_patch (map (word_at l old) (take i ps))) (slice_index old))) (get_or ps i 0) ≡ word_at l old (get_or ps i 0)
word_still l old ps i apart below fits =
    let p = get_or ps i 0 in
    let m = painted (map number_patch (map (word_at l old) (take i ps))) (slice_index old) in
    let now = bytes_below (length old) m in
    let byte : (j : ℕ) → j < 4 → slice_index old (p + j) ≡ slice_index now (p + j) = λ j small.
    sym (byte_below (length old) m (p + j) (omega (arith, fits, small)) ∙ ap (λ qs. painted qs (slice_index old) (p + j)) (map_map number_patch (word_at l old) (take i ps))
    ∙ links.word_none (λ q. number_patch (word_at l old q)) (take i ps) (slice_index old) (p + j) (λ q member. before l old ps i j q apart below member)) in
    let one : word_of (slice_index old) p ≡ number_at low_first 4 now p = number_of_word (slice_index old) now p p byte in
    let two : word_of (slice_index old) p ≡ number_at low_first 4 old p = number_of_word (slice_index old) old p p (λ j small. refl) in
    ap (λ v. record { place = p; target = off l v }) (sym one ∙ two)

-- Ranges that were written, spelled and read.
use Rattle.std.proofs.Common.{◌≡◌, ◌≢◌, ℕ, ◌^◌, ◌<◌, List, [], ◌∷◌, ◌++◌, Option, Some, None, refl, sym, ap, ◌∙◌, subst, append_assoc, arith}
use Rattle.std.specs.Prelude.{codes, option_map}
use Rattle.std.specs.List.{AllByRecursion, flat_map}
use Rattle.std.proofs.lemmas.List.{append-nil}
use Rattle.hex.specs.Hex.{encode_lower}
use Rattle.call_log.specs.Notes.{GotRange}
use Rattle.call_log.specs.Lines.{word_digits, item_text, got_text}
use Rattle.items_text.specs.Items.{AreBytes, HoldsGot}
use Rattle.items_text.specs.Pieces.{◌>>=◌, behind, cut_at, number_at, most_word, hex_of, many}
use Rattle.items_text.specs.Reading.{range_of, range_at, or_none, ranges_at}
use Rattle.items_text.proofs.Cuts.{Lacks, bind_some, bind_is, behind_found, behind_again, cut_found, cut_again}
use Rattle.items_text.proofs.Hexes.{lower_encode, lower_lacks, hex_again, hex_found}
use Rattle.items_text.proofs.Many.{Consumes, many_found, many_again, many_stops}
use Rattle.items_text.proofs.Spelled.{lacks_append, word_lacks, word_again, number_bound, space_mark, colon_mark}
use Rattle.items_text.proofs.Strings.{cut_longer}

-- a range that has a text
abbrev pub IsRange : GotRange → Type 0
IsRange w = HoldsGot w × (w.bytes ≢ [])

-- `ADDR:HEX`
abbrev pub range_text : GotRange → List ℕ
range_text w = word_digits w.addr ++ 58 ∷ encode_lower w.bytes

-- ---- one

of_some : (addr b : ℕ) (bs : List ℕ) → addr < 2 ^ 32 → AreBytes (b ∷ bs) → range_of (range_text (record { addr = addr; bytes = b ∷ bs })) ≡ Some (record { addr = addr; bytes = b ∷ bs })
unfolding range_of
of_some addr b bs small held =
    let digits : List ℕ = encode_lower (b ∷ bs) in
    let front : List ℕ = word_digits addr ++ codes ":" in
    let left : behind front (word_digits addr ++ 58 ∷ digits) ≡ Some digits = ap (behind front) (sym (append_assoc (word_digits addr) (58 ∷ []) digits)) ∙ behind_again front digits in
    bind_is (number_at 16 most_word 58 (word_digits addr ++ 58 ∷ digits)) _ (addr, digits) (word_again 58 addr digits colon_mark small)
    ∙ bind_is (behind front (word_digits addr ++ 58 ∷ digits)) _ digits left
    ∙ bind_is (hex_of digits) _ (b ∷ bs) (hex_again b bs held)

of_bytes : (addr : ℕ) (bytes : List ℕ) → IsRange (record { addr = addr; bytes = bytes }) → range_of (range_text (record { addr = addr; bytes = bytes })) ≡ Some (record { addr = addr; bytes = bytes })
of_bytes addr [] is = absurd (is.1 refl)
of_bytes addr (b ∷ bs) is = of_some addr b bs is.0.addr is.0.bytes

of_again : (w : GotRange) → IsRange w → range_of (range_text w) ≡ Some w
of_again w is = of_bytes w.addr w.bytes is

of_found : (word : List ℕ) (w : GotRange) → range_of word ≡ Some w → IsRange w × (word ≡ range_text w)
unfolding range_of
of_found word w h =
    let addr = bind_some (number_at 16 most_word 58 word) _ w h in
    let left = bind_some (behind (word_digits addr.0.0 ++ codes ":") word) _ w addr.2 in
    let read = bind_some (hex_of left.0) _ w left.2 in
    let bound = number_bound 16 most_word 58 word addr.0 addr.1 in
    let found = hex_found left.0 read.0 read.1 in
    let same : ◌≡◌ {A = GotRange} (record { addr = addr.0.0; bytes = read.0 }) w = cc in
    let is : IsRange (record { addr = addr.0.0; bytes = read.0 }) = (record { addr = omega (arith, bound); bytes = found.held }, found.some) in
    let whole : word ≡ range_text (record { addr = addr.0.0; bytes = read.0 }) =
    behind_found (word_digits addr.0.0 ++ codes ":") word left.0 left.1
    ∙ append_assoc (word_digits addr.0.0) (codes ":") left.0
    ∙ ap (λ t. word_digits addr.0.0 ++ 58 ∷ t) found.text in
    (subst IsRange same is, whole ∙ ap range_text same)

-- ---- with the space behind it

abbrev pub range_piece : GotRange → List ℕ
range_piece w = range_text w ++ 32 ∷ []

range_lacks : (w : GotRange) → IsRange w → Lacks 32 (range_text w)
range_lacks w is =
    lacks_append 32 (word_digits w.addr) (58 ∷ encode_lower w.bytes) (word_lacks 32 w.addr space_mark is.0.addr)
    ((λ (e : 58 ≡ 32). omega (arith, e)), lower_lacks 32 (encode_lower w.bytes) refl (lower_encode w.bytes is.0.bytes))

range_again : (w : GotRange) (rest : List ℕ) → IsRange w → range_at (range_piece w ++ rest) ≡ Some (w, rest)
unfolding range_at
range_again w rest is =
    ap range_at (append_assoc (range_text w) (32 ∷ []) rest)
    ∙ bind_is (cut_at 32 (range_text w ++ 32 ∷ rest)) _ (range_text w, rest) (cut_again 32 (range_text w) rest (range_lacks w is))
    ∙ bind_is (range_of (range_text w)) _ w (of_again w is)

range_found : (text rest : List ℕ) (w : GotRange) → range_at text ≡ Some (w, rest) → IsRange w × (text ≡ range_piece w ++ rest)
unfolding range_at
range_found text rest w h =
    let cut = bind_some (cut_at 32 text) _ (w, rest) h in
    let read = bind_some (range_of cut.0.0) _ (w, rest) cut.2 in
    let same : ◌≡◌ {A = GotRange × List ℕ} (read.0, cut.0.1) (w, rest) = cc in
    let found = of_found cut.0.0 read.0 read.1 in
    let is : IsRange read.0 = found.0 in
    let whole : text ≡ range_piece read.0 ++ cut.0.1 =
    cut_found 32 text cut.0.0 cut.0.1 cut.1
    ∙ ap (λ t. t ++ 32 ∷ cut.0.1) found.1
    ∙ sym (append_assoc (range_text read.0) (32 ∷ []) cut.0.1) in
    let first : read.0 ≡ w = ap (λ (p : GotRange × List ℕ). p.0) same in
    (subst IsRange first is, whole ∙ ap (λ (p : GotRange × List ℕ). range_piece p.0 ++ p.1) same)

pub range_less : Consumes range_at
range_less text rest w h = cut_longer 32 (range_text w) text rest ((range_found text rest w h).1 ∙ append_assoc (range_text w) (32 ∷ []) rest)

pub no_range : (word rest : List ℕ) → Lacks 32 word → range_of word ≡ None → range_at (word ++ 32 ∷ rest) ≡ None
unfolding range_at
no_range word rest lacks none =
    bind_is (cut_at 32 (word ++ 32 ∷ rest)) _ (word, rest) (cut_again 32 word rest lacks)
    ∙ ap (λ (o : Option GotRange). o >>= (λ range. Some (range, rest))) none

-- ---- all of a call

-- what stands behind `got `, up to `brought `
abbrev pub ranges_onto : List GotRange → List ℕ → List ℕ
ranges_onto [] rest = 45 ∷ 32 ∷ rest
ranges_onto (w ∷ ws) rest = flat_map range_piece (w ∷ ws) ++ rest

one_onto : (w : GotRange) (rest : List ℕ) → item_text w ++ 32 ∷ rest ≡ 32 ∷ (range_piece w ++ rest)
one_onto w rest =
    ap (λ t. (32 ∷ (word_digits w.addr ++ 58 ∷ t)) ++ 32 ∷ rest) (append-nil (encode_lower w.bytes))
    ∙ ap (λ t. 32 ∷ t) (sym (append_assoc (range_text w) (32 ∷ []) rest))

shifted : (ws : List GotRange) (rest : List ℕ) → flat_map item_text ws ++ 32 ∷ rest ≡ 32 ∷ (flat_map range_piece ws ++ rest)
shifted [] rest = refl
shifted (w ∷ ws) rest =
    append_assoc (item_text w) (flat_map item_text ws) (32 ∷ rest)
    ∙ ap (λ t. item_text w ++ t) (shifted ws rest)
    ∙ one_onto w (flat_map range_piece ws ++ rest)
    ∙ ap (λ t. 32 ∷ t) (sym (append_assoc (range_piece w) (flat_map range_piece ws) rest))

pub got_onto : (ws : List GotRange) (rest : List ℕ) → got_text ws ++ 32 ∷ rest ≡ 32 ∷ ranges_onto ws rest
got_onto [] rest = refl
got_onto (w ∷ ws) rest = shifted (w ∷ ws) rest

dash_of : range_of (45 ∷ []) ≡ None
unfolding range_of number_at cut_at
dash_of = refl

dash_is_none : (rest : List ℕ) → range_at (45 ∷ 32 ∷ rest) ≡ None
dash_is_none rest = no_range (45 ∷ []) rest ((λ (e : 45 ≡ 32). omega (arith, e)), tt) dash_of

pub ranges_again : (ws : List GotRange) (rest : List ℕ) → AllByRecursion IsRange ws → range_at rest ≡ None → ranges_at (ranges_onto ws rest) ≡ Some (ws, rest)
unfolding ranges_at
ranges_again [] rest all none = ap or_none (many_stops range_at range_less (45 ∷ 32 ∷ rest) (dash_is_none rest)) ∙ ap (option_map {U = List GotRange × List ℕ} (λ more. ([], more))) (behind_again (codes "- ") rest)
ranges_again (w ∷ ws) rest all none = ap or_none (many_again range_at range_less IsRange range_piece range_again (w ∷ ws) rest all none)

dash_found : (text more : List ℕ) (o : Option (List ℕ)) (ws : List GotRange) (rest : List ℕ) → text ≡ more → behind (codes "- ") more ≡ o → option_map {U = List GotRange × List ℕ} (λ left. ([], left)) o ≡ Some (ws, rest) → AllByRecursion IsRange ws × (text ≡ ranges_onto ws rest)
dash_found text more None ws rest is left h = absurd cc
dash_found text more (Some left) ws rest is at h =
    let same : ◌≡◌ {A = List GotRange × List ℕ} ([], left) (ws, rest) = cc in
    let none : [] ≡ ws = ap (λ (p : List GotRange × List ℕ). p.0) same in
    (subst (AllByRecursion IsRange) none tt, is ∙ behind_found (codes "- ") more left at ∙ ap (λ (p : List GotRange × List ℕ). ranges_onto p.0 p.1) same)

or_none_found : (text : List ℕ) (r : List GotRange × List ℕ) (ws : List GotRange) (rest : List ℕ) → AllByRecursion IsRange r.0 → text ≡ flat_map range_piece r.0 ++ r.1 → or_none r ≡ Some (ws, rest) → AllByRecursion IsRange ws × (text ≡ ranges_onto ws rest)
or_none_found text ([], more) ws rest all is h = dash_found text more (behind (codes "- ") more) ws rest is refl h
or_none_found text (w ∷ ws, more) vs rest all is h =
    let same : ◌≡◌ {A = List GotRange × List ℕ} (w ∷ ws, more) (vs, rest) = cc in
    let first : w ∷ ws ≡ vs = ap (λ (p : List GotRange × List ℕ). p.0) same in
    (subst (AllByRecursion IsRange) first all, is ∙ ap (λ (p : List GotRange × List ℕ). ranges_onto p.0 p.1) same)

pub ranges_found : (text : List ℕ) (ws : List GotRange) (rest : List ℕ) → ranges_at text ≡ Some (ws, rest) → AllByRecursion IsRange ws × (text ≡ ranges_onto ws rest)
unfolding ranges_at
ranges_found text ws rest h = let f = many_found range_at range_less IsRange range_piece range_found text in or_none_found text (many range_at text) ws rest f.0 f.1 h

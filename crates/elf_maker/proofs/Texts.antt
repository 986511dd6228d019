-- The tables of symbols and of relocations, one entry more.
use Rattle.std.proofs.Common.{Vec, Global, ◌≡◌, ◌≢◌, ℕ, ◌+◌, ◌<◌, ◌==◌, cond, List, [], ◌∷◌, ◌++◌, length, map, take, get_or, set, refl, sym, ap, ◌∙◌, append_assoc, arith, inl, inr}
use Rattle.std.specs.List.{flat_map}
use Rattle.std.proofs.lemmas.Bool.{cases_eq, eq-eqb, ne_eqb}
use Rattle.std.proofs.lemmas.List.{length-append, append-nil, take_more, length-set, length-map, map-set, get_or-map, get_or-set_same, get_or-set_other, same_lists}
use Rattle.std.proofs.lemmas.List.Elements.{filter-append}
use Rattle.std.proofs.lemmas.List.Concat.{flat_map-append}
use Rattle.std.proofs.lemmas.List.FromFn.{get_or-map-range_with_len, length-map-range_with_len}
use Rattle.elf_maker.specs.declared.given.MakeSymbol.{MakeSymbol}
use Rattle.elf_maker.specs.declared.given.MakeRela.{MakeRela}
use Rattle.elf_maker.specs.Given.{relas_of}
use Rattle.elf_maker.specs.Spelling.{symbol_text, name_text, names_text, symbols_text, no_symbol, rela_text, relas_text, relas_texts}

pub symbols_text-append : (at : ℕ) (xs ys : List MakeSymbol) → symbols_text at (xs ++ ys) ≡ symbols_text at xs ++ symbols_text (at + length (names_text xs)) ys
symbols_text-append at [] ys = ap (λ n. symbols_text n ys) (let e : at ≡ at + 0 = omega arith in e)
symbols_text-append at (x ∷ xs) ys =
    ap (λ bs. symbol_text at x ++ bs)
    (symbols_text-append (at + length (name_text x)) xs ys
    ∙ ap (λ n. symbols_text (at + length (name_text x)) xs ++ symbols_text n ys)
    (let e : at + length (name_text x) + length (names_text xs) ≡ at + length (name_text x ++ names_text xs) = omega (arith, length-append (name_text x) (names_text xs)) in e))
    ∙ sym (append_assoc (symbol_text at x) (symbols_text (at + length (name_text x)) xs) (symbols_text (at + length (name_text x ++ names_text xs)) ys))

-- a name stands behind those before it
pub entries_more : (ss : List MakeSymbol) (i : ℕ) (s : MakeSymbol) (old new names : List ℕ) → i < length ss → s ≡ get_or ss i s
    → old ≡ no_symbol ++ symbols_text 1 (take i ss) → names ≡ 0 ∷ names_text (take i ss) → new ≡ old ++ symbol_text (length names) s
    → new ≡ no_symbol ++ symbols_text 1 (take (i + 1) ss)
entries_more ss i s old new names below is olds are news =
    let prefix = take i ss in
    news ∙ ap (λ bs. bs ++ symbol_text (length names) s) olds
    ∙ append_assoc no_symbol (symbols_text 1 prefix) (symbol_text (length names) s)
    ∙ ap (λ bs. no_symbol ++ bs)
    (ap (λ n. symbols_text 1 prefix ++ symbol_text n s) (let e : length names ≡ 1 + length (names_text prefix) = omega (arith, ap length are) in e)
    ∙ ap (λ bs. symbols_text 1 prefix ++ bs) (sym (append-nil (symbol_text (1 + length (names_text prefix)) s)))
    ∙ sym (symbols_text-append 1 prefix (s ∷ []))
    ∙ ap (symbols_text 1) (ap (λ x. prefix ++ x ∷ []) is ∙ sym (take_more ss i s below)))

pub names_more : (ss : List MakeSymbol) (i : ℕ) (s : MakeSymbol) (old new : List ℕ) → i < length ss → s ≡ get_or ss i s
    → old ≡ 0 ∷ names_text (take i ss) → new ≡ old ++ name_text s → new ≡ 0 ∷ names_text (take (i + 1) ss)
names_more ss i s old new below is olds news =
    news ∙ ap (λ bs. bs ++ name_text s) olds
    ∙ ap (λ bs. 0 ∷ bs)
    (ap (λ bs. names_text (take i ss) ++ bs) (sym (append-nil (name_text s)))
    ∙ sym (flat_map-append name_text (take i ss) (s ∷ []))
    ∙ ap names_text (ap (λ x. take i ss ++ x ∷ []) is ∙ sym (take_more ss i s below)))

-- ---- relocations

relas_text-here : (rs : List MakeRela) (r : MakeRela) → relas_text rs r.part ++ rela_text r ≡ relas_text (rs ++ r ∷ []) r.part
unfolding relas_text
relas_text-here rs r =
    ap (λ bs. relas_text rs r.part ++ bs) (sym (append-nil (rela_text r)) ∙ ap (λ b. flat_map rela_text (cond b (r ∷ []) [])) (sym (eq-eqb r.part r.part refl)))
    ∙ sym (flat_map-append rela_text (relas_of r.part rs) (relas_of r.part (r ∷ [])))
    ∙ ap (flat_map rela_text) (sym (filter-append (λ (x : MakeRela). x.part == r.part) rs (r ∷ [])))

relas_text-other : (rs : List MakeRela) (r : MakeRela) (p : ℕ) → r.part ≢ p → relas_text rs p ≡ relas_text (rs ++ r ∷ []) p
unfolding relas_text
relas_text-other rs r p other =
    ap (flat_map rela_text)
    (sym (append-nil (relas_of p rs))
    ∙ ap (λ b. relas_of p rs ++ cond b (r ∷ []) []) (sym (ne_eqb r.part p other))
    ∙ sym (filter-append (λ (x : MakeRela). x.part == p) rs (r ∷ [])))

pub texts_more : (n : ℕ) (rs : List MakeRela) (r : MakeRela) → r.part < n → set (relas_texts n rs) r.part (relas_text rs r.part ++ rela_text r) ≡ relas_texts n (rs ++ r ∷ [])
texts_more n rs r below =
    let olds = relas_texts n rs in
    let more = relas_text rs r.part ++ rela_text r in
    let len = length-map-range_with_len (relas_text rs) 0 n in
    let news = length-map-range_with_len (relas_text (rs ++ r ∷ [])) 0 n in
    same_lists (set olds r.part more) (relas_texts n (rs ++ r ∷ [])) (length-set olds r.part more ∙ len ∙ sym news)
    (λ k d lt.
    let within : k < n = omega (arith, length-set olds r.part more) in
    let new : get_or (relas_texts n (rs ++ r ∷ [])) k d ≡ relas_text (rs ++ r ∷ []) k = get_or-map-range_with_len (relas_text (rs ++ r ∷ [])) 0 n k k d within (omega arith) in
    elim (cases_eq k r.part) [
      | inl same ↦ (ap (λ i. get_or (set olds r.part more) i d) same ∙ get_or-set_same olds r.part more d (omega (arith, len)) ∙ relas_text-here rs r ∙ ap (relas_text (rs ++ r ∷ [])) (sym same) ∙ sym new)
      | inr other ↦ get_or-set_other olds r.part k more d other ∙ get_or-map-range_with_len (relas_text rs) 0 n k k d within (omega arith) ∙ relas_text-other rs r k (λ e. other (sym e)) ∙ sym new
    ])

-- a relocation is added to the table of its part
pub table_set : (n : ℕ) (tables : List (Vec ℕ Global)) (rs : List MakeRela) (r : MakeRela) (old new : Vec ℕ Global) → r.part < n → map (λ t. t.items) tables ≡ relas_texts n rs
    → old ≡ get_or tables r.part old → new.items ≡ old.items ++ rela_text r → map (λ t. t.items) (set tables r.part new) ≡ relas_texts n (rs ++ r ∷ [])
table_set n tables rs r old new below are is news =
    let items : Vec ℕ Global → List ℕ = λ t. t.items in
    let len : length tables ≡ n = omega (arith, length-map tables items, ap length are, length-map-range_with_len (relas_text rs) 0 n) in
    let was : old.items ≡ relas_text rs r.part =
    ap items is ∙ sym (get_or-map items tables r.part old [] (omega arith)) ∙ ap (λ ts. get_or ts r.part []) are ∙ get_or-map-range_with_len (relas_text rs) 0 n r.part r.part [] below (omega arith) in
    map-set items tables r.part new
    ∙ ap (λ ts. set ts r.part new.items) are
    ∙ ap (set (relas_texts n rs) r.part) (news ∙ ap (λ bs. bs ++ rela_text r) was)
    ∙ texts_more n rs r below

pub no_relas : (p : ℕ) → relas_text [] p ≡ []
unfolding relas_text
no_relas p = refl

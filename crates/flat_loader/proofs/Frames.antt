-- The start frame, written piece by piece at rising addresses.
use Rattle.std.proofs.Common.{◌≡◌, ℕ, suc, ◌+◌, ◌*◌, ◌^◌, ◌≤◌, ◌<◌, List, [], ◌∷◌, ◌++◌, length, get_or, drop, refl, sym, ap, ◌∙◌, arith, append_assoc, length-append}
use Rattle.std.specs.Prelude.{flat_map, Vec}
use Rattle.std.proofs.lemmas.List.{drop_more, length-map}
use Rattle.std.proofs.lemmas.Grind.{flat_map-append}
use Rattle.byteorder.specs.Endian.{little_bytes}
use Rattle.byte_words.specs.ByteMap.{little_bytes as bytes_of}
use Rattle.byte_words.specs.Patches.{laid}
use Rattle.phys_mem.specs.Memory.{place}
use Rattle.flat_loader.specs.Frame.{texts, strings, pointers, words_len, frame_words, frame, frame_len}
use Rattle.flat_loader.proofs.Laying.{laid_next, same_bytes}

-- ---- lengths

pub length-words : (ns : List ℕ) → length (flat_map (little_bytes 4) ns) ≡ 4 * length ns
length-words [] = refl
length-words (n ∷ ns) = let rest = length-words ns in omega arith

pub length-pointers : (at : ℕ) (ss : List (List ℕ)) → length (pointers at ss) ≡ length ss
length-pointers at [] = refl
length-pointers at (s ∷ ss) = ap suc (length-pointers (at + (length s + 1)) ss)

pub length-strings : (s : List ℕ) (ss : List (List ℕ)) → length (strings (s ∷ ss)) ≡ length s + 1 + length (strings ss)
length-strings s ss = omega (arith, length-append (s ++ 0 ∷ []) (strings ss), length-append s (0 ∷ []))

-- ---- one string more

pub texts_more :
    {Z : Type 0} (ss : List (Vec ℕ Z)) (i : ℕ) (v : Vec ℕ Z) → i < length ss → v ≡ get_or ss i v →
    texts (drop i ss) ≡ v.items ∷ texts (drop (i + 1) ss)
texts_more {Z = Z} ss i v below is =
    let front : Vec ℕ Z → List (List ℕ) = λ w. w.items ∷ texts (drop (i + 1) ss) in
    ap (texts {Z = Z}) (drop_more ss i v below) ∙ ap front (sym is)

pub length-texts : {Z : Type 0} (ss : List (Vec ℕ Z)) → length (texts ss) ≡ length ss
length-texts {Z = Z} ss = let bytes : Vec ℕ Z → List ℕ = λ v. v.items in length-map ss bytes

-- what is left of the strings, by their length
pub length-texts_more :
    {Z : Type 0} (ss : List (Vec ℕ Z)) (i : ℕ) (v : Vec ℕ Z) → i < length ss → v ≡ get_or ss i v →
    length (strings (texts (drop i ss))) ≡ length v.items + 1 + length (strings (texts (drop (i + 1) ss)))
length-texts_more {Z = Z} ss i v below is =
    ap (λ ts. length (strings ts)) (texts_more ss i v below is) ∙ length-strings v.items (texts (drop (i + 1) ss))

-- the words of the pointers to strings, and a zero
abbrev pub pointer_bytes : ℕ → List (List ℕ) → List ℕ
pointer_bytes at ss = flat_map (little_bytes 4) (pointers at ss ++ 0 ∷ [])

pub pointers_more :
    (m : List ℕ) (at p : ℕ) (s : List ℕ) (rest : List (List ℕ)) → 2 ^ 31 ≤ at → place at ≤ length m →
    laid (laid m (place at) (bytes_of 4 p)) (place (at + 4)) (pointer_bytes (p + (length s + 1)) rest) ≡ laid m (place at) (pointer_bytes p (s ∷ rest))
pointers_more m at p s rest above inside =
    let tail = pointer_bytes (p + (length s + 1)) rest in
    let behind : place (at + 4) ≡ place at + 4 = omega arith in
    ap (λ bs. laid (laid m (place at) bs) (place (at + 4)) tail) (same_bytes p) ∙ laid_next m (place at) (little_bytes 4 p) tail (place (at + 4)) behind inside

pub strings_more :
    (m : List ℕ) (at : ℕ) (s : List ℕ) (rest : List (List ℕ)) → 2 ^ 31 ≤ at → place at ≤ length m →
    laid (laid (laid m (place at) s) (place (at + length s)) (0 ∷ [])) (place (at + length s + 1)) (strings rest) ≡ laid m (place at) (strings (s ∷ rest))
strings_more m at s rest above inside =
    let behind : place (at + length s) ≡ place at + length s = omega arith in
    let past : place (at + length s + 1) ≡ place at + length (s ++ 0 ∷ []) = omega (arith, length-append s (0 ∷ [])) in
    ap (λ t. laid t (place (at + length s + 1)) (strings rest)) (laid_next m (place at) s (0 ∷ []) (place (at + length s)) behind inside)
    ∙ laid_next m (place at) (s ++ 0 ∷ []) (strings rest) (place (at + length s + 1)) past inside

-- ---- the whole frame

-- its five pieces, from the lowest address on
pieces : (argc at env_at : ℕ) (args env : List (List ℕ)) →
    (((little_bytes 4 argc ++ pointer_bytes at args) ++ pointer_bytes env_at env) ++ strings args) ++ strings env
    ≡ flat_map (little_bytes 4) (argc ∷ (pointers at args ++ (0 ∷ (pointers env_at env ++ (0 ∷ []))))) ++ (strings args ++ strings env)
pieces argc at env_at args env =
    let f = flat_map (little_bytes 4) in
    let ps = pointers at args in
    let qs = pointers env_at env ++ 0 ∷ [] in
    let words : pointer_bytes at args ++ pointer_bytes env_at env ≡ f (ps ++ (0 ∷ qs)) =
    sym (flat_map-append (little_bytes 4) (ps ++ 0 ∷ []) qs) ∙ ap f (append_assoc ps (0 ∷ []) qs) in
    append_assoc ((little_bytes 4 argc ++ pointer_bytes at args) ++ pointer_bytes env_at env) (strings args) (strings env)
    ∙ ap (λ t. t ++ (strings args ++ strings env))
    (append_assoc (little_bytes 4 argc) (pointer_bytes at args) (pointer_bytes env_at env) ∙ ap (λ t. little_bytes 4 argc ++ t) words)

pub frame_laid :
    (m m1 m2 m3 m4 m5 : List ℕ) (sp argc envp at env_at : ℕ) (args env : List (List ℕ)) →
    2 ^ 31 ≤ sp → place sp ≤ length m → argc ≡ length args → envp ≡ sp + 4 + 4 * argc + 4 → at ≡ sp + words_len args env → env_at ≡ at + length (strings args) →
    m1 ≡ laid m (place sp) (bytes_of 4 argc) → m2 ≡ laid m1 (place (sp + 4)) (pointer_bytes at args) → m3 ≡ laid m2 (place envp) (pointer_bytes env_at env) →
    m4 ≡ laid m3 (place at) (strings args) → m5 ≡ laid m4 (place env_at) (strings env) →
    m5 ≡ laid m (place sp) (frame sp args env)
unfolding frame
frame_laid m m1 m2 m3 m4 m5 sp argc envp at env_at args env above inside argc_is envp_is at_is env_at_is e1 e2 e3 e4 e5 =
    let a = place sp in
    let x0 = little_bytes 4 argc in
    let x1 = x0 ++ pointer_bytes at args in
    let x2 = x1 ++ pointer_bytes env_at env in
    let x3 = x2 ++ strings args in
    let argv_len : length (pointer_bytes at args) ≡ 4 * (length args + 1) =
    length-words (pointers at args ++ 0 ∷ []) ∙ ap (λ k. 4 * k) (length-append (pointers at args) (0 ∷ []) ∙ ap (λ k. k + 1) (length-pointers at args)) in
    let env_len : length (pointer_bytes env_at env) ≡ 4 * (length env + 1) =
    length-words (pointers env_at env ++ 0 ∷ []) ∙ ap (λ k. 4 * k) (length-append (pointers env_at env) (0 ∷ []) ∙ ap (λ k. k + 1) (length-pointers env_at env)) in
    let l1 : length x1 ≡ 4 + 4 * (length args + 1) = omega (arith, length-append x0 (pointer_bytes at args)) in
    let l2 : length x2 ≡ 4 + 4 * (length args + 1) + 4 * (length env + 1) = omega (arith, length-append x1 (pointer_bytes env_at env)) in
    let l3 : length x3 ≡ 4 + 4 * (length args + 1) + 4 * (length env + 1) + length (strings args) = omega (arith, length-append x2 (strings args)) in
    let p1 : m1 ≡ laid m a x0 = e1 ∙ ap (laid m a) (same_bytes argc) in
    let p2 : m2 ≡ laid m a x1 = e2 ∙ ap (λ t. laid t (place (sp + 4)) (pointer_bytes at args)) p1 ∙ laid_next m a x0 (pointer_bytes at args) (place (sp + 4)) (omega arith) inside in
    let p3 : m3 ≡ laid m a x2 = e3 ∙ ap (λ t. laid t (place envp) (pointer_bytes env_at env)) p2 ∙ laid_next m a x1 (pointer_bytes env_at env) (place envp) (omega arith) inside in
    let p4 : m4 ≡ laid m a x3 = e4 ∙ ap (λ t. laid t (place at) (strings args)) p3 ∙ laid_next m a x2 (strings args) (place at) (omega arith) inside in
    let p5 : m5 ≡ laid m a (x3 ++ strings env) = e5 ∙ ap (λ t. laid t (place env_at) (strings env)) p4 ∙ laid_next m a x3 (strings env) (place env_at) (omega arith) inside in
    p5 ∙ ap (laid m a) (pieces argc at env_at args env)
    ∙ ap (λ n. laid m a (flat_map (little_bytes 4) (n ∷ (pointers at args ++ (0 ∷ (pointers env_at env ++ (0 ∷ []))))) ++ (strings args ++ strings env))) argc_is
    ∙ ap (λ n. laid m a (flat_map (little_bytes 4) (length args ∷ (pointers at args ++ (0 ∷ (pointers n env ++ (0 ∷ []))))) ++ (strings args ++ strings env))) env_at_is
    ∙ ap (λ n. laid m a (flat_map (little_bytes 4) (frame_words n args env) ++ (strings args ++ strings env))) at_is

pub length-frame : (sp : ℕ) (args env : List (List ℕ)) → length (frame sp args env) ≡ frame_len args env
unfolding frame frame_len
length-frame sp args env =
    let at = sp + words_len args env in
    let qs = pointers (at + length (strings args)) env in
    let ps = pointers at args in
    let words = frame_words at args env in
    let tail = length-append (0 ∷ qs) (0 ∷ []) in
    let env_len = length-pointers (at + length (strings args)) env in
    let args_len = length-pointers at args in
    let both = length-append ps (0 ∷ (qs ++ (0 ∷ []))) in
    omega (arith, length-append (flat_map (little_bytes 4) words) (strings args ++ strings env), length-words words)

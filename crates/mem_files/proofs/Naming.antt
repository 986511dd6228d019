-- The names of a path, cut off one after the other.
use Rattle.std.proofs.Common.{◌≡◌, ◌≢◌, ℕ, zero, suc, ◌+◌, ◌<◌, ◌≤◌, Bool, true, false, cond, not, List, [], ◌∷◌, length, get_or, take, drop, filter, refl, sym, ap, ◌∙◌, arith, add-one, drop-cons, length-drop, length-take}
use Rattle.std.specs.Prelude.{◌==◌}
use Rattle.std.proofs.lemmas.Bool.Decides.{nat_tests}
use Rattle.std.proofs.lemmas.List.{get_or-drop}
use Rattle.byte_words.specs.Pieces.{in_front, pieces}
use Rattle.mem_files.specs.Paths.{names, slash}

eqb_same : (n k : ℕ) → n ≡ k → (n == k) ≡ true
eqb_same n k h = grind (arith, nat_tests)

eqb_other : (n k : ℕ) → n ≢ k → (n == k) ≡ false
eqb_other n k h = grind (arith, nat_tests)

-- bytes in front of the first piece
abbrev glue : List ℕ → List (List ℕ) → List (List ℕ)
glue [] ps = ps
glue (b ∷ text) ps = in_front b (glue text ps)

glue_cut : (text : List ℕ) (ps : List (List ℕ)) → glue text ([] ∷ ps) ≡ text ∷ ps
glue_cut [] ps = refl
glue_cut (a ∷ text) ps = ap (in_front a) (glue_cut text ps)

head : (b : ℕ) (bs : List ℕ) (t : Bool) → (b == slash) ≡ t → pieces slash (b ∷ bs) ≡ cond t ([] ∷ pieces slash bs) (in_front b (pieces slash bs))
unfolding pieces
head b bs t is = ap (λ (x : Bool). cond x ([] ∷ pieces slash bs) (in_front b (pieces slash bs))) is

abbrev are_names : List (List ℕ) → List (List ℕ)
are_names ps = filter (λ piece. not (length piece == 0)) ps

-- no names
pub names_none : names [] ≡ []
unfolding names pieces
names_none = refl

names_slash : (bs : List ℕ) → names (slash ∷ bs) ≡ names bs
unfolding names
names_slash bs = ap are_names (head slash bs true refl)

-- a slash at the front is left out
pub names_skip : (path : List ℕ) (i : ℕ) → i < length path → get_or path i 0 ≡ slash → names (drop (i + 1) path) ≡ names (drop i path)
names_skip path i lt is =
    let opened : drop i path ≡ slash ∷ drop (i + 1) path = drop-cons path i 0 lt ∙ ap (λ n. get_or path i 0 ∷ drop n path) (sym (add-one i)) ∙ ap (λ b. b ∷ drop (i + 1) path) is in
    sym (ap names opened ∙ names_slash (drop (i + 1) path))

cut : (xs : List ℕ) (n : ℕ) → n ≤ length xs → ((k : ℕ) → k < n → get_or xs k 0 ≢ slash) → pieces slash xs ≡ glue (take n xs) (pieces slash (drop n xs))
cut xs zero le other = refl
cut [] (suc n) le other = absurd (omega arith)
cut (x ∷ xs) (suc n) le other =
    head x xs false (eqb_other x slash (other 0 (omega arith)))
    ∙ ap (in_front x) (cut xs n (omega arith) (λ k lt. other (suc k) (omega arith)))

keep : (name : List ℕ) (ps : List (List ℕ)) → 0 < length name → are_names (name ∷ ps) ≡ name ∷ are_names ps
keep name ps some =
    let is : (length name == 0) ≡ false = grind (arith, nat_tests) in
    ap (λ (b : Bool). cond (not b) (name ∷ are_names ps) (are_names ps)) is

first_of : (name : List ℕ) (more : List ℕ) → 0 < length name → (0 < length more → get_or more 0 0 ≡ slash) → are_names (glue name (pieces slash more)) ≡ name ∷ names more
unfolding names pieces
first_of [] more some at = absurd (omega arith)
first_of (b ∷ name) [] some at = ap are_names (glue_cut (b ∷ name) []) ∙ keep (b ∷ name) [] some
first_of (b ∷ name) (x ∷ more) some at =
    let slashed : x ≡ slash = at (omega arith) in
    let is : pieces slash (x ∷ more) ≡ [] ∷ pieces slash more = head x more true (eqb_same x slash slashed) in
    ap (λ ps. are_names (glue (b ∷ name) ps)) is
    ∙ ap are_names (glue_cut (b ∷ name) (pieces slash more))
    ∙ keep (b ∷ name) (pieces slash more) some
    ∙ ap (λ ps. (b ∷ name) ∷ are_names ps) (sym is)

-- the first name, and those of what stands behind it
pub names_first : (path : List ℕ) (n : ℕ) → 0 < length path → get_or path 0 0 ≢ slash → n ≤ length path → ((k : ℕ) → k < n → get_or path k 0 ≢ slash) → (n < length path → get_or path n 0 ≡ slash)
    → (names path ≡ take n path ∷ names (drop n path)) × (0 < n)
unfolding names
names_first path zero some first le before at = absurd (first (at (omega arith)))
names_first path (suc n) some first le before at =
    let len : 0 < length (take (suc n) path) = omega (arith, length-take (suc n) path) in
    let next : 0 < length (drop (suc n) path) → get_or (drop (suc n) path) 0 0 ≡ slash = (λ more. get_or-drop (suc n) path 0 0 ∙ ap (λ k. get_or path k 0) (let e : suc n + 0 ≡ suc n = omega arith in e) ∙ at (omega (arith, length-drop (suc n) path))) in
    (ap are_names (cut path (suc n) le before) ∙ first_of (take (suc n) path) (drop (suc n) path) len next, omega arith)

-- A text cut at a byte, and behind a front.
use Rattle.std.proofs.Common.{◌≡◌, ℕ, suc, ◌+◌, ◌<◌, Bool, true, false, not, cond, ◌==◌, List, [], ◌∷◌, ◌++◌, length, get_or, take, drop, Option, Some, None, refl, sym, ap, ◌∙◌, append_assoc, arith, nat_lt}
use Rattle.std.specs.Prelude.{◌&&◌, position, bytes_eq, option_map}
use Rattle.std.specs.List.{AllByRecursion, position_or_len}
use Rattle.std.proofs.lemmas.Bool.{eqb-true, ne_eqb, and_parts, both_ways, not-true, eq-eqb}
use Rattle.std.proofs.lemmas.Bool.Decides.{Decides-ltb}
use Rattle.std.proofs.lemmas.List.{take_at, drop_at, take-append-drop, drop_more, length-append}
use Rattle.std.proofs.lemmas.List.Quantifiers.{position-Some}
use Rattle.std.proofs.lemmas.Slice.Eq.{bytes_eq-Decides}
use Rattle.items_text.specs.Pieces.{◌>>=◌, behind, cut_at}

-- what the second step shows of the first
pub bind_some : {A B : Type 0} (o : Option A) (f : A → Option B) (y : B) → (o >>= f) ≡ Some y → (x : A) × (o ≡ Some x) × (f x ≡ Some y)
bind_some (Some x) f y h = (x, refl, h)
bind_some None f y h = absurd cc

pub bind_then : {A B P : Type 0} (o : Option A) (f : A → Option B) (y : B) → (o >>= f) ≡ Some y → ((x : A) → o ≡ Some x → f x ≡ Some y → P) → P
bind_then (Some x) f y h then = then x refl h
bind_then None f y h then = absurd cc

pub bind_is : {A B : Type 0} (o : Option A) (f : A → Option B) (x : A) → o ≡ Some x → (o >>= f) ≡ f x
bind_is o f x is = ap (λ p. p >>= f) is

pub by_test : {A : Type 0} (b : Bool) (x y : A) → cond b (Some x) None ≡ Some y → (b ≡ true) × (x ≡ y)
by_test true x y h = (refl, cc)
by_test false x y h = absurd cc

-- ---- behind a front

pub behind_found : (front text rest : List ℕ) → behind front text ≡ Some rest → text ≡ front ++ rest
unfolding behind
behind_found front text rest h =
    let p = by_test (bytes_eq (take (length front) text) front) (drop (length front) text) rest h in
    let begins : take (length front) text ≡ front = (bytes_eq-Decides (take (length front) text) front).0 p.0 in
    sym (take-append-drop (length front) text) ∙ (λ i. begins i ++ p.1 i)

pub behind_again : (front rest : List ℕ) → behind front (front ++ rest) ≡ Some rest
unfolding behind
behind_again front rest =
    let begins : take (length front) (front ++ rest) ≡ front = take_at front rest (length front) refl in
    let left : drop (length front) (front ++ rest) ≡ rest = drop_at front rest (length front) refl in
    let same : bytes_eq (take (length front) (front ++ rest)) front ≡ true = (bytes_eq-Decides (take (length front) (front ++ rest)) front).1 begins in
    ap (λ (b : Bool). cond b (Some (drop (length front) (front ++ rest))) None) same ∙ ap Some left

-- ---- at a byte

-- no such byte
abbrev pub Lacks : ℕ → List ℕ → Type 0
Lacks c xs = AllByRecursion (λ x. x ≡ c → ⊥) xs

abbrev pub has_none : ℕ → List ℕ → Bool
has_none c [] = true
has_none c (x ∷ xs) = not (x == c) && has_none c xs

pub lacks_by : (c : ℕ) (xs : List ℕ) → has_none c xs ≡ true → Lacks c xs
lacks_by c [] h = tt
lacks_by c (x ∷ xs) h =
    let both = and_parts (not (x == c)) (has_none c xs) h in
    ((λ (e : x ≡ c). both_ways (x == c) (not-true (x == c) both.0) (eq-eqb x c e)), lacks_by c xs both.1)

cut_place : (c : ℕ) (text : List ℕ) (o : Option ℕ) (w rest : List ℕ) → position (λ b. b == c) text ≡ o → option_map {U = List ℕ × List ℕ} (λ i. (take i text, drop (i + 1) text)) o ≡ Some (w, rest) → text ≡ w ++ c ∷ rest
cut_place c text None w rest is h = absurd cc
cut_place c text (Some i) w rest is h =
    let at = position-Some (λ b. b == c) text i 0 is in
    let both : (take i text, drop (i + 1) text) ≡ (w, rest) = cc in
    let byte : get_or text i 0 ≡ c = eqb-true (get_or text i 0) c at.1 in
    sym (take-append-drop i text)
    ∙ ap (λ t. take i text ++ t) (drop_more text i 0 at.0 ∙ ap (λ b. b ∷ drop (i + 1) text) byte)
    ∙ ap (λ (p : List ℕ × List ℕ). p.0 ++ c ∷ p.1) both

pub cut_found : (c : ℕ) (text w rest : List ℕ) → cut_at c text ≡ Some (w, rest) → text ≡ w ++ c ∷ rest
unfolding cut_at
cut_found c text w rest h = cut_place c text (position (λ b. b == c) text) w rest refl h

first_place : (c : ℕ) (w rest : List ℕ) → Lacks c w → position_or_len (λ b. b == c) (w ++ c ∷ rest) ≡ length w
first_place c [] rest lacks = grind (arith)
first_place c (x ∷ w) rest lacks =
    let other : (x == c) ≡ false = ne_eqb x c lacks.0 in
    let later : 1 + position_or_len (λ b. b == c) (w ++ c ∷ rest) ≡ suc (length w) = omega (arith, first_place c w rest lacks.1) in
    ap (λ (b : Bool). cond (not b) (1 + position_or_len (λ b. b == c) (w ++ c ∷ rest)) 0) other ∙ later

pub cut_again : (c : ℕ) (w rest : List ℕ) → Lacks c w → cut_at c (w ++ c ∷ rest) ≡ Some (w, rest)
unfolding cut_at
cut_again c w rest lacks =
    let text : List ℕ = w ++ c ∷ rest in
    let place = first_place c w rest lacks in
    let long : length text ≡ length w + length (c ∷ rest) = length-append w (c ∷ rest) in
    let below : length w < length text = omega (arith, long) in
    let within : nat_lt (length w) (length text) ≡ true = (Decides-ltb (length w) (length text)).1 below in
    let found : position (λ b. b == c) text ≡ Some (length w) =
    ap (λ n. cond (nat_lt n (length text)) (Some n) None) place ∙ ap (λ (b : Bool). cond b (Some (length w)) None) within in
    let front : take (length w) text ≡ w = take_at w (c ∷ rest) (length w) refl in
    let left : drop (length w + 1) text ≡ rest = ap (drop (length w + 1)) (sym (append_assoc w (c ∷ []) rest)) ∙ drop_at (w ++ c ∷ []) rest (length w + 1) (length-append w (c ∷ [])) in
    ap (option_map {U = List ℕ × List ℕ} (λ i. (take i text, drop (i + 1) text))) found ∙ (λ i. Some (front i, left i))

-- Digits, one after the other.
use Rattle.std.proofs.Common.{◌≡◌, ℕ, suc, ◌+◌, ◌-◌, ◌*◌, ◌^◌, ◌<◌, ◌≤◌, min, inl, inr, Bool, true, false, cond, List, [], ◌∷◌, length, get_or, drop, Option, Some, None, refl, sym, ap, ◌∙◌, arith, add-one, drop-cons}
use Rattle.std.specs.Prelude.{◌&&◌}
use Rattle.std.specs.List.{list_all}
use Rattle.std.proofs.lemmas.Bool.{cases_lt}
use Rattle.std.proofs.lemmas.Nat.{pow-add, pow_below}
use Rattle.std.proofs.lemmas.List.{get_or_default}
use Rattle.manifest_text.specs.Pieces.{Text}
use Rattle.manifest_text.specs.Numbers.{is_hex_digit, hex_digit_value, spelled}

-- a rest of a list, opened at its head
pub opened : {A : Type 0} (xs : List A) (i : ℕ) (x : A) → i < length xs → x ≡ get_or xs i x → drop i xs ≡ x ∷ drop (i + 1) xs
opened xs i x below is = drop-cons xs i x below ∙ ap (λ y. y ∷ drop (suc i) xs) (sym is) ∙ ap (λ n. x ∷ drop n xs) (sym (add-one i))

get_or_any : (xs : Text) (i : ℕ) → i < length xs → get_or xs i 0 ≡ get_or xs i (get_or xs i 0)
get_or_any xs i below = get_or_default xs i 0 (get_or xs i 0) below

by_test : (b : Bool) (n d : ℕ) → Some d ≡ cond b (Some n) None → (b ≡ true) × (d ≡ n)
by_test true n d h = (refl, cc)
by_test false n d h = absurd cc

-- a number that was cut stays cut
pub cut : (digit : ℕ → ℕ) (most n : ℕ) (ds : Text) → min (spelled digit 10 (min n most) ds) most ≡ min (spelled digit 10 n ds) most
cut digit most n [] = omega arith
cut digit most n (b ∷ bs) =
    let step : min (min n most * 10 + digit b) most ≡ min (n * 10 + digit b) most = omega arith in
    sym (cut digit most (min n most * 10 + digit b) bs)
    ∙ ap (λ m. min (spelled digit 10 m bs) most) step
    ∙ cut digit most (n * 10 + digit b) bs

abbrev pub hex_from : ℕ → Text → Option ℕ
hex_from n ds = cond (list_all is_hex_digit ds) (Some (spelled hex_digit_value 16 n ds)) None

-- one digit more
pub decimal_step : (text : Text) (i value later whole : ℕ) → i < length text → later ≡ min (value * 10 + (get_or text i 0 - 48)) (2 ^ 64 - 1) → min (spelled (λ b. b - 48) 10 value (drop i text)) (2 ^ 64 - 1) ≡ whole → min (spelled (λ b. b - 48) 10 later (drop (i + 1) text)) (2 ^ 64 - 1) ≡ whole
decimal_step text i value later whole below is so_far =
    ap (λ n. min (spelled (λ b. b - 48) 10 n (drop (i + 1) text)) (2 ^ 64 - 1)) is
    ∙ cut (λ b. b - 48) (2 ^ 64 - 1) (value * 10 + (get_or text i 0 - 48)) (drop (i + 1) text)
    ∙ ap (λ t. min (spelled (λ b. b - 48) 10 value t) (2 ^ 64 - 1)) (sym (opened text i (get_or text i 0) below (get_or_any text i below)))
    ∙ so_far

pub hex_step : (text : Text) (i value d : ℕ) (whole : Option ℕ) → i < length text → Some d ≡ cond (is_hex_digit (get_or text i 0)) (Some (hex_digit_value (get_or text i 0))) None → hex_from value (drop i text) ≡ whole → hex_from (value * 16 + d) (drop (i + 1) text) ≡ whole
hex_step text i value d whole below is so_far =
    let p = by_test (is_hex_digit (get_or text i 0)) (hex_digit_value (get_or text i 0)) d is in
    let rest = drop (i + 1) text in
    ap (λ n. cond (list_all is_hex_digit rest) (Some (spelled hex_digit_value 16 (value * 16 + n) rest)) None) p.1
    ∙ ap (λ (b : Bool). cond (b && list_all is_hex_digit rest) (Some (spelled hex_digit_value 16 (value * 16 + hex_digit_value (get_or text i 0)) rest)) None) (sym p.0)
    ∙ ap (hex_from value) (sym (opened text i (get_or text i 0) below (get_or_any text i below)))
    ∙ so_far

-- a value of i digits
pub hex_fits : (i value d : ℕ) → value < 2 ^ (4 * i) → d < 16 → value * 16 + d < 2 ^ (4 * (i + 1))
hex_fits i value d fits small =
    let next : 4 * (i + 1) ≡ 4 * i + 4 = omega arith in
    let power : 2 ^ (4 * (i + 1)) ≡ 2 ^ (4 * i) * 16 = ap (λ n. 2 ^ n) next ∙ pow-add 2 (4 * i) 4 in
    omega (arith, fits, small, power)

power_28 : (k : ℕ) → k ≤ 28 → 2 ^ k ≤ 268435456
power_28 k h = elim (cases_lt k 28) [
  | inl lt ↦ omega (arith, pow_below k 28 lt)
  | inr ge ↦ let same : k ≡ 28 = omega (arith, ge, h) in let e : 2 ^ k ≡ 2 ^ 28 = ap (λ n. 2 ^ n) same in omega (arith, e)
]

pub hex_room : (i value : ℕ) → i < 8 → value < 2 ^ (4 * i) → value < 268435456
hex_room i value below fits = omega (arith, fits, power_28 (4 * i) (omega (arith, below)))

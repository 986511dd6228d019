-- Numbers that are the same modulo m.
use Rattle.std.proofs.Common.{◌≡◌, ℕ, ◌+◌, ◌-◌, ◌*◌, ◌/◌, ◌%◌, ◌<◌, sym, ap, ◌∙◌, arith}
use Rattle.std.proofs.Math.Nat.{mod-add-mod, add-mul-mod_self_left, div-add-mod}
use Rattle.std.proofs.lemmas.Nat.{mod_below}

pub record IsAs (m a b : ℕ) : Type 0 where
  pub same : a % m ≡ b % m

pub as_itself : (m a b : ℕ) → a ≡ b → IsAs m a b
as_itself m a b is = record { same = ap (λ n. n % m) is }

pub as_back : (m a b : ℕ) → IsAs m a b → IsAs m b a
as_back m a b is = record { same = sym is.same }

pub as_both : (m a b c : ℕ) → IsAs m a b → IsAs m b c → IsAs m a c
as_both m a b c one other = record { same = one.same ∙ other.same }

pub as_rest : (m a : ℕ) → IsAs m (a % m) a
as_rest m a = record { same = mod-add-mod-zero m a }
  where
    mod-add-mod-zero : (m a : ℕ) → a % m % m ≡ a % m
    mod-add-mod-zero m a =
        let one : (a % m + 0) % m ≡ (a + 0) % m = mod-add-mod a m 0 in
        let left : a % m + 0 ≡ a % m = omega arith in
        let right : a + 0 ≡ a = omega arith in
        sym (ap (λ n. n % m) left) ∙ one ∙ ap (λ n. n % m) right

pub as_more : (m a b c : ℕ) → IsAs m a b → IsAs m (a + c) (b + c)
as_more m a b c is = record { same = sym (mod-add-mod a m c) ∙ ap (λ n. (n + c) % m) is.same ∙ mod-add-mod b m c }

-- a number and what it lacks to a multiple of m
pub as_lack : (m a c : ℕ) → 0 < m → IsAs m (a + (c + (m - c % m))) a
as_lack m a c above =
    let part = div-add-mod c m in
    let small : c % m < m = mod_below c m above in
    let next : m * (c / m + 1) ≡ m * (c / m) + m = mul_more m (c / m) in
    let is : a + (c + (m - c % m)) ≡ a + m * (c / m + 1) = omega arith in
    record { same = ap (λ n. n % m) is ∙ add-mul-mod_self_left a m (c / m + 1) }
  where
    mul_more : (m k : ℕ) → m * (k + 1) ≡ m * k + m
    mul_more m k = omega arith

pub as_less : (m a b c : ℕ) → 0 < m → IsAs m (a + c) (b + c) → IsAs m a b
as_less m a b c above is =
    let lack = m - c % m in
    let more = as_more m (a + c) (b + c) lack is in
    let left : (a + c) + lack ≡ a + (c + lack) = omega arith in
    let right : (b + c) + lack ≡ b + (c + lack) = omega arith in
    record { same = sym (as_lack m a c above).same ∙ sym (ap (λ n. n % m) left) ∙ more.same ∙ ap (λ n. n % m) right ∙ (as_lack m b c above).same }

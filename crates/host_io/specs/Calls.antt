-- The calls of a memory form: which of them fail, how many there were, and how many faults.
use Rattle.std.specs.Prelude.{ℕ, ◌+◌, ◌-◌, ◌^◌, min, Bool, refl}
use Rattle.std.specs.Ordering.{nat_cmp}
use Rattle.std.specs.Coded.{Coded, code_by, coded×, coded_ℕ}
use Rattle.std.specs.FinSet as set

pub record CallCounts : Type 0 where
  pub failing : set.FinSet nat_cmp
  pub made : ℕ
  pub faults : ℕ

abbrev pub call_counts_code : Coded CallCounts
call_counts_code =
    code_by (set.FinSet nat_cmp × (ℕ × ℕ)) (coded× (set.code coded_ℕ) (coded× coded_ℕ coded_ℕ))
    (λ c. (c.failing, (c.made, c.faults))) (λ p. record { failing = p.0; made = p.1.0; faults = p.1.1 }) (λ _. refl)

-- no call so far, and none that fails
abbrev pub no_calls : CallCounts
no_calls = record { failing = set.empty; made = 0; faults = 0 }

-- one more, but no more than a 64-bit number holds
abbrev pub one_more : ℕ → ℕ
one_more n = min (n + 1) (2 ^ 64 - 1)

-- whether the next call is named to fail
abbrev pub is_failing : CallCounts → Bool
is_failing c = set.contains c.failing c.made

abbrev pub counted : CallCounts → CallCounts
counted c = record c { made = one_more c.made }

abbrev pub with_fault : CallCounts → CallCounts
with_fault c = record c { faults = one_more c.faults }

abbrev pub with_failing : CallCounts → ℕ → CallCounts
with_failing c call = record c { failing = set.insert c.failing call }

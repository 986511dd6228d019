-- The sink over a stream: the bytes that the stream holds, where they are known, and the faults.
use Rattle.std.specs.Prelude.{ℕ, List, Option, refl}
use Rattle.std.specs.Coded.{Coded, code_by, coded×, coded_list, coded_option, coded_ℕ}

pub record StreamState : Type 0 where
  pub contents : Option (List ℕ)
  pub faults : ℕ

abbrev pub stream_state_code : Coded StreamState
stream_state_code =
    code_by (Option (List ℕ) × ℕ) (coded× (coded_option (coded_list coded_ℕ)) coded_ℕ)
    (λ s. (s.contents, s.faults)) (λ p. record { contents = p.0; faults = p.1 }) (λ _. refl)

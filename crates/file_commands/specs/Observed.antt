-- What is observed of the outside at one moment.
use Rattle.std.specs.Prelude.{ℕ, List, Option}

-- what a host tells, if it tells, and how many faults it counted
pub record Observed (A : Type 0) : Type 0 where
  pub told : Option A
  pub faults : ℕ

abbrev pub observed : {X A : Type 0} → (X → Option A) → (X → ℕ) → X → Observed A
observed told faults x = record { told = told x; faults = faults x }

-- what a sink tells, if it tells, how many faults it counted, and how often it was out of memory
pub record ObservedSink : Type 0 where
  pub told : Option (List ℕ)
  pub faults : ℕ
  pub shortages : ℕ

abbrev pub observed_sink : {X : Type 0} → (X → Option (List ℕ)) → (X → ℕ) → (X → ℕ) → X → ObservedSink
observed_sink told faults shortages x = record { told = told x; faults = faults x; shortages = shortages x }

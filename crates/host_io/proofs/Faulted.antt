-- A count that rose by one fault.
use Rattle.std.proofs.Common.{◌≡◌, ℕ, ◌≤◌, List, Err, refl, inl, inr, arith, ap}
use Rattle.host_io.specs.Calls.{CallCounts, with_fault, counted}
use Rattle.host_io.specs.Faults.{HasCause}
use Rattle.host_io.specs.Sink.{HasWriteCause}
use Rattle.host_io.specs.declared.host.HostError.TheVariants as host
use Rattle.host_io.specs.declared.sink.SinkError.TheVariants as sink

-- after one call, counted, and its fault
pub one_fault-has_cause : {T : Type 0} (old begun new : CallCounts) → begun ≡ counted old → new ≡ with_fault begun → begun.faults ≤ new.faults → HasCause {T = T} host.Failed old.faults new.faults (Err host.Failed)
one_fault-has_cause old begun new begins is later = let counted_faults = ap (λ (c : CallCounts). c.faults) begins in
    let faults = ap (λ (c : CallCounts). c.faults) is in
    record { later = omega arith; fault = λ _. omega arith; no_fault = inr refl }

pub one_fault-has_write_cause : (old begun new : CallCounts) (piece : List ℕ) → begun ≡ counted old → new ≡ with_fault begun → begun.faults ≤ new.faults → HasWriteCause old.faults new.faults piece (Err sink.Failed)
one_fault-has_write_cause old begun new piece begins is later = let counted_faults = ap (λ (c : CallCounts). c.faults) begins in
    let faults = ap (λ (c : CallCounts). c.faults) is in
    record { later = omega arith; fault = λ _. omega arith; no_fault = inr (inl refl) }

-- How what a sink took grows, write after write.
use Rattle.std.proofs.Common.{◌≡◌, ◌≢◌, ℕ, inl, inr, Ok, List, [], ◌++◌, take, drop, Option, Some, None, refl, sym, ◌∙◌, ap, append_assoc, rules}
use Rattle.std.proofs.lemmas.List.{take-append-drop}
use Rattle.host_io.specs.Faults.{HasCause}
use Rattle.host_io.specs.Sink.{Takes, Sent, HasWriteCause}
use Rattle.host_io.specs.declared.sink.SinkError.TheVariants.{Memory}

pub takes-nothing : (told : Option (List ℕ)) → Takes told told []
takes-nothing None = refl
takes-nothing (Some taken) = search rules

-- one write after another
pub takes-append : (old mid new : Option (List ℕ)) (xs ys : List ℕ) → Takes old mid xs → Takes mid new ys → Takes old new (xs ++ ys)
takes-append None mid new xs ys first second = rw first at second
takes-append (Some taken) mid new xs ys first second = (rw first at second) ∙ ap Some (append_assoc taken xs ys)

pub sent-more : (old mid new : Option (List ℕ)) (bytes rest left : List ℕ) (n : ℕ) → Sent old mid bytes rest → Takes mid new (take n rest) → left ≡ drop n rest → Sent old new bytes left
sent-more old mid new bytes rest left n sent more is =
    record {
      prefix = sent.prefix ++ take n rest;
      whole = sent.whole ∙ rw is (rw append_assoc (ap (λ xs. sent.prefix ++ xs) (sym (take-append-drop n rest))));
      taken = takes-append old mid new sent.prefix (take n rest) sent.taken more;
    }

-- a write that took something raised no count
pub no_fault-taken : (before now : ℕ) (piece : List ℕ) (n : ℕ) → HasWriteCause before now piece (Ok n) → n ≢ 0 → now ≡ before
no_fault-taken before now piece n cause some =
    elim (cause.no_fault) [
      | inl same ↦ same
      | inr fault ↦ elim fault [ inl failed ↦ cc | inr none ↦ absurd (some (let none_taken = none.0 in cc)) ]
    ]

-- nor did it want memory
pub no_shortage-taken : (before now n : ℕ) → HasCause Memory before now (Ok n) → now ≡ before
no_shortage-taken before now n cause = elim cause.no_fault [ inl same ↦ same | inr short ↦ cc ]

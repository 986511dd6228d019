-- The sum is that of one list less.
use Rattle.std.proofs.Common.{◌≡◌, ℕ, ◌+◌, List, [], ◌∷◌, ◌++◌, length, ap, ◌∙◌, arith}
use Rattle.std.specs.Prelude.{Vec}
use Rattle.std.proofs.lemmas.List.{map-append}
use Rattle.flat_loader.specs.Frame.{texts}
use Rattle.machine_world.specs.Recordings.{with_brought}
use Rattle.recordings.proofs.Weights.{beside, with_more}
use Rattle.recordings.proofs.recording.Recording.take_back.Goals as goal

-- what the sum was
was : {Z : Type 0} (weight n : ℕ) (old new : List (Vec ℕ Z)) (bytes : Vec ℕ Z) → weight ≡ with_brought (texts old) 0 → old ≡ new ++ bytes ∷ [] → n ≡ length bytes.items
    → weight ≡ with_brought (texts new) 0 + n
was weight n old new bytes sum is len =
    let lists : texts old ≡ texts new ++ bytes.items ∷ [] = ap texts is ∙ map-append (λ s. s.items) new (bytes ∷ []) in
    let all = ap (λ l. with_brought l 0) lists ∙ with_more (texts new) bytes.items 0 in
    omega (arith, len, sum, all, beside (texts new) (length bytes.items + 0))

pub overflow_sub-self : goal.overflow_sub-self
overflow_sub-self c =
    omega (arith, was c.self.inside.weight c.len.result _ c.pop.new.self.items c.in-Some.bytes c.self.invariant c.in-Some.ensures.items (c.len.ensures ∙ c.in-Some.bytes.ok.0))

pub invariant_of-self : goal.invariant_of-self
invariant_of-self c =
    omega (arith, was c.self.inside.weight c.len.result _ c.pop.new.self.items c.in-Some.bytes c.self.invariant c.in-Some.ensures.items (c.len.ensures ∙ c.in-Some.bytes.ok.0))

use Rattle.std.proofs.Common.{◌≡◌, ℕ, List, length, take, sym, ap, ◌∙◌, inl, inr, arith}
use Rattle.std.specs.Prelude.{min}
use Rattle.std.proofs.lemmas.Bool.{cases_lt}
use Rattle.std.proofs.lemmas.List.{take_all}
use Rattle.romfs_image.proofs.rom.summed.Goals as goal

take_within : (y : List ℕ) (n : ℕ) → take (min (length y) n) y ≡ take n y
take_within y n = elim (cases_lt n (length y)) [
  | inl within ↦ ap (λ k. take k y) (let e : min (length y) n ≡ n = omega (arith, within) in e)
  | inr past ↦ take_all (min (length y) n) y (omega (arith, past)) ∙ sym (take_all n y past)
]

pub returns : goal.returns
returns c = c.split_at.ensures.front ∙ ap (λ k. take k c.args.image.now) c.min.ensures ∙ take_within c.args.image.now 512

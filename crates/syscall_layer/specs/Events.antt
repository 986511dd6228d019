-- An event over the parts of a run, and over a value beside them, as a closure.
use Rattle.std.specs.Prelude.{◌≡◌, Result, OnErr}
use Rattle.std.specs.Fn.{Once}
use Rattle.std.specs.declared.alloc.AllocError.{AllocError}
use denote.Ref.{MutBor}
use Rattle.syscall_layer.specs.Parts.{RunParts}

module _ {F C T : Type 0} (g : Once F (MutBor RunParts × (MutBor C × Unit {0})) (Result T AllocError × (MutBor RunParts × (MutBor C × Unit {0})))) (event : F) (p : RunParts) (c : C) where
  -- it may be carried out at these parts and this value
  abbrev pub TakesParts : Type 0
  TakesParts = (parts : MutBor RunParts) (beside : MutBor C) → parts.now ≡ p → beside.now ≡ c → g.pre event (parts, (beside, tt))

  -- there it may give this result, and leave both so
  pub record GivesParts (r : Result T AllocError) (p' : RunParts) (c' : C) : Type 0 where
    pub parts : MutBor RunParts
    pub beside : MutBor C
    pub shows : (parts.now ≡ p) × (beside.now ≡ c)
    pub left : MutBor RunParts × (MutBor C × Unit {0})
    pub met : g.post event (parts, (beside, tt)) (r, left)
    pub leaves : (left.0.now ≡ p') × (left.1.0.now ≡ c')

  -- out of memory it leaves both as they were
  abbrev pub KeepsParts : Type 0
  KeepsParts = (r : Result T AllocError) (p' : RunParts) (c' : C) → GivesParts r p' c' → OnErr r ((p' ≡ p) × (c' ≡ c))

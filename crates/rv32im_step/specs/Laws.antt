-- Laws of one step, over its meaning alone.
use Rattle.std.specs.Prelude.{◌≡◌, ℕ, Bool, false, is_some}
use Rattle.rv32im_step.specs.declared.regs.Regs.{Regs}
use Rattle.rv32im_step.specs.Meaning.{next, meaning}
use Rattle.byte_words.specs.ByteMap.{Bytes}

-- an instruction adds no byte to the map and takes none away
abbrev pub BytesRemain : Type 0
BytesRemain =
    (regs after : Regs) (m now : Bytes) (w : ℕ → Bool) → meaning regs m w ≡ next after now → (i : ℕ) →
    is_some (now i) ≡ is_some (m i)

-- a byte that may not be written stays as it is
abbrev pub UnwritableRemains : Type 0
UnwritableRemains =
    (regs after : Regs) (m now : Bytes) (w : ℕ → Bool) → meaning regs m w ≡ next after now → (i : ℕ) → w i ≡ false →
    now i ≡ m i

-- What up to n instructions leave, one after the other: RISC-V unprivileged ISA, "RISC-V Software Execution Environments
-- and Harts".
use Rattle.std.specs.Prelude.{ℕ, zero, suc, ◌+◌, Bool, List, [], ◌++◌}
use Rattle.byte_words.specs.ByteMap.{Bytes}
use Rattle.rv32im_step.specs.declared.regs.Regs.{Regs}
use Rattle.rv32im_step.specs.declared.stop.Stop.{Stop}
use Rattle.rv32im_step.specs.declared.stop.Stop.TheVariants.{Next, Call, Trap, Refused}
use Rattle.rv32im_step.specs.Meaning.{Meaning, next, call, trap, refused, meaning}
use Rattle.rv32im_step.specs.Asked.{Asked, asked}

-- the registers and the bytes, how many instructions were carried out, and how the last step ended
pub record Ran : Type 0 where
  pub regs : Regs
  pub bytes : Bytes
  pub done : ℕ
  pub stop : Stop

-- what was left, by its parts
abbrev pub ran : Regs → Bytes → ℕ → Stop → Ran
ran regs m done stop = record { regs = regs; bytes = m; done = done; stop = stop }

-- one more instruction was carried out before
abbrev pub one_more : Ran → Ran
one_more r = record r { done = r.done + 1 }

-- after an instruction that is carried out more may follow
abbrev pub goes_on : Regs → Bytes → (Regs → Bytes → Ran) → Meaning → Ran
goes_on regs m more (next after now) = one_more (more after now)
goes_on regs m more call = ran regs m 0 Call
goes_on regs m more (trap signal) = ran regs m 0 (Trap signal)
goes_on regs m more (refused access) = ran regs m 0 (Refused access)

-- up to n instructions over a map, of which the bytes that pass `w` may be written
unfoldable pub instructions : ℕ → (ℕ → Bool) → Regs → Bytes → Ran
instructions zero w regs m = ran regs m 0 Next
instructions (suc n) w regs m = goes_on regs m (λ after now. instructions n w after now) (meaning regs m w)

-- ---- the accesses that they make

-- nothing is asked behind an instruction that isn't carried out
abbrev pub asked_behind : (Regs → Bytes → List Asked) → Meaning → List Asked
asked_behind more (next after now) = more after now
asked_behind more call = []
asked_behind more (trap signal) = []
asked_behind more (refused access) = []

-- those of up to n instructions, in their order
unfoldable pub all_asked : ℕ → (ℕ → Bool) → Regs → Bytes → List Asked
all_asked zero w regs m = []
all_asked (suc n) w regs m = asked regs m w ++ asked_behind (λ after now. all_asked n w after now) (meaning regs m w)

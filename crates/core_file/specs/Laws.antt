-- The law of the format, the contract of a public function.
use Rattle.std.specs.Prelude.{◌≡◌, ℕ, ◌<◌, ◌^◌, length, slice_index, drop}
use Rattle.std.specs.List.{All}
use Rattle.core_file.specs.Text.{CoreValue, SegmentValue, core_text}
use Rattle.core_file.specs.Given.{FitsFile}

-- each number has its place in the file
pub record IsHeld (c : CoreValue) : Type 0 where
  pub fits : FitsFile c
  pub signal : c.signal < 2 ^ 16
  pub pid : c.pid < 2 ^ 32
  pub parent : c.parent < 2 ^ 32
  pub pc : c.regs.pc < 2 ^ 32
  pub x : All (λ n. n < 2 ^ 32) c.regs.x
  pub count : length c.regs.x ≡ 32
  pub addrs : All (λ s. s.addr < 2 ^ 32) c.segments

-- what a core file says of its process: x0, which is zero, isn't told
pub record SaySame (a b : CoreValue) : Type 0 where
  pub signal : a.signal ≡ b.signal
  pub pid : a.pid ≡ b.pid
  pub parent : a.parent ≡ b.parent
  pub pc : a.regs.pc ≡ b.regs.pc
  pub x : drop 1 a.regs.x ≡ drop 1 b.regs.x
  pub segments : a.segments ≡ b.segments

-- equal texts say the same
abbrev pub TextTells : Type 0
TextTells = (a b : CoreValue) → IsHeld a → IsHeld b → core_text a ≡ core_text b → SaySame a b

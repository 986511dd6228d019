-- What a program does in a part of memory it does in all of it, as long as it doesn't stray.
use Rattle.std.specs.Prelude.{◌≡◌, ℕ, Bool, true, false, List, Ok}
use Rattle.byte_words.specs.ByteMap.{Bytes}
use Rattle.rv32im_step.specs.declared.regs.Regs.{Regs}
use Rattle.rv32im_step.specs.declared.stop.Stop.{Stop}
use Rattle.rv32im_step.specs.declared.stop.Stop.TheVariants.{Refused}
use Rattle.rv32im_step.specs.Meaning.{Meaning, next, call, trap, refused, meaning}
use Rattle.region_watch.specs.Private.{only}
use Rattle.region_watch.specs.Instructions.{Ran, instructions}
use Rattle.call_log.specs.Notes.{GotRange}
use Rattle.call_log.specs.Sent.{sent}
use Rattle.flat_loader.specs.Alone.{put_got}

-- what may be written is in the part
abbrev pub IsWithin : (own may : ℕ → Bool) → Type 0
IsWithin own may = (a : ℕ) → may a ≡ true → own a ≡ true

-- all of memory afterwards: cut down to the part it is what the part has, and what may not be written is as before
pub record Grows (own may : ℕ → Bool) (mem : Bytes) (part all : Bytes) : Type 0 where
  pub seen : only own all ≡ part
  pub rest : (a : ℕ) → may a ≡ false → all a ≡ mem a

-- one instruction
abbrev pub Widens : (own may : ℕ → Bool) → Bytes → (small large : Meaning) → Type 0
Widens own may mem (next regs part) (next after all) = (after ≡ regs) × Grows own may mem part all
Widens own may mem call call = Unit {0}
Widens own may mem (trap signal) (trap other) = other ≡ signal
Widens own may mem (refused access) large = Unit {0}
Widens own may mem small large = ⊥

abbrev pub MeaningWidens : Type 0
MeaningWidens =
    (own may wide : ℕ → Bool) (regs : Regs) (mem : Bytes) → IsWithin own may → IsWithin wide may →
    Widens own may mem (meaning regs (only own mem) may) (meaning regs mem wide)

-- several
abbrev pub RanWider : (own may : ℕ → Bool) → Bytes → (small large : Ran) → Stop → Type 0
RanWider own may mem small large (Refused access) = Unit {0}
RanWider own may mem small large stop =
    (large.regs ≡ small.regs) × (large.done ≡ small.done) × (large.stop ≡ small.stop) × Grows own may mem small.bytes large.bytes

abbrev pub InstructionsWiden : Type 0
InstructionsWiden =
    (n : ℕ) (own may wide : ℕ → Bool) (regs : Regs) (mem : Bytes) → IsWithin own may → IsWithin wide may →
    let small = instructions n may regs (only own mem) in
    RanWider own may mem small (instructions n wide regs mem) small.stop

-- the bytes that a call reads
abbrev pub SentWidens : Type 0
SentWidens = (own : ℕ → Bool) (mem : Bytes) (number : ℕ) (args bytes : List ℕ) → sent number args (only own mem) ≡ Ok bytes → sent number args mem ≡ Ok bytes

-- and those that it writes
pub record PutWider (own may wide : ℕ → Bool) (mem part : Bytes) (got : List GotRange) : Type 0 where
  pub all : Bytes
  pub put : put_got mem wide got ≡ Ok all
  pub grows : Grows own may mem part all

abbrev pub PutWidens : Type 0
PutWidens =
    (own may wide : ℕ → Bool) (mem part : Bytes) (got : List GotRange) → IsWithin own may → IsWithin wide may →
    put_got (only own mem) may got ≡ Ok part → PutWider own may wide mem part got

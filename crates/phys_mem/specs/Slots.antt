-- Words of memory that were decoded. Each is kept in the slot of its index, modulo the number of slots: it says that the word at
-- this address is this instruction, and nothing of who owns it.
use Rattle.std.specs.Prelude.{◌≡◌, ◌≢◌, ◌⊎◌, ℕ, ◌+◌, ◌/◌, ◌%◌, ◌^◌, ◌-◌, ◌<◌, ◌≤◌, Bool, true, false, List, length, Option, Some, None, slice_get, slice_index}
use Rattle.byte_words.specs.ByteMap.{little}
use Rattle.rv32im_table.specs.declared.instr.Instr.{Instr}
use Rattle.rv32im_table.specs.Instr.{FieldsFit}
use Rattle.rv32im_table.specs.Table.{decoded}
use Rattle.phys_mem.specs.declared.slots.Slot.{Slot}
use Rattle.phys_mem.specs.Memory.{Within, place}

-- the slot of the word at an address
abbrev pub slot_of : ℕ → ℕ
slot_of at = at / 4 % 16384

-- what a slot says of the word at its address
pub record Says (bytes : List ℕ) (i : ℕ) (s : Slot) : Type 0 where
  pub whole : s.at % 4 ≡ 0
  pub index : slot_of s.at ≡ i
  pub instr : decoded (little bytes (place s.at) 4) ≡ Some s.instr
  pub fields : FieldsFit s.instr

-- the address of an empty slot isn't in memory
pub record AreSlots (bytes : List ℕ) (slots : List Slot) : Type 0 where
  pub count : length slots ≡ 16384
  pub say : (i : ℕ) (s : Slot) → slice_get slots i ≡ Some s → Within bytes s.at 4 → Says bytes i s

-- an instruction stands in a slot, or there is none
abbrev pub IsDecoded : Option Instr → List Slot → ℕ → Bool → Type 0
IsDecoded (Some instr) slots i true = (s : Slot) × (slice_get slots i ≡ Some s) × (s.instr ≡ instr) × FieldsFit instr
IsDecoded (Some instr) slots i false = ⊥
IsDecoded None slots i true = ⊥
IsDecoded None slots i false = Unit {0}

-- the word at an address stands in its slot
abbrev pub Keeps : List Slot → ℕ → Type 0
Keeps slots at = (s : Slot) × (slice_get slots (slot_of at) ≡ Some s) × (s.at ≡ at)

-- ---- what is forgotten

-- the word at an address: other slots stay, or are empty, which is to have the address 2^32 - 1
pub record Loses (at : ℕ) (old new : List Slot) : Type 0 where
  pub count : length new ≡ length old
  pub kept : (i : ℕ) (s : Slot) → slice_get new i ≡ Some s → (slice_get old i ≡ Some s) ⊎ (s.at ≡ 2 ^ 32 - 1)
  pub gone : (s : Slot) → slice_get new (slot_of at) ≡ Some s → s.at ≢ at

-- the word of a slot isn't one of these, by their indices
abbrev pub IsBeside : (first words : ℕ) → Slot → Type 0
IsBeside first words s = (s.at ≡ 2 ^ 32 - 1) ⊎ ((s.at / 4 < first) ⊎ (first + words ≤ s.at / 4))

-- those of these words that stand in the slots of the first n of them
pub record LosesAll (first words n : ℕ) (old new : List Slot) : Type 0 where
  pub count : length new ≡ length old
  pub kept : (i : ℕ) (s : Slot) → slice_get new i ≡ Some s → (slice_get old i ≡ Some s) ⊎ (s.at ≡ 2 ^ 32 - 1)
  pub gone : (k : ℕ) (s : Slot) → k < n → slice_get new ((first + k) % 16384) ≡ Some s → IsBeside first words s

-- ---- what may change

-- memory that differs from another one in a range alone
pub record SameBeside (from to : ℕ) (old new : List ℕ) : Type 0 where
  pub length : length new ≡ length old
  pub before : (k : ℕ) → k < from → slice_index new k ≡ slice_index old k
  pub behind : (k : ℕ) → to ≤ k → slice_index new k ≡ slice_index old k

-- what the slots say of memory holds of all that differs from it in the range alone, which begins and ends at these addresses
abbrev pub Forgets : (from to : ℕ) → List Slot → List Slot → Type 0
Forgets from to old new =
    (mem now : List ℕ) → length mem < 2 ^ 31 → SameBeside (place from) (place to) mem now → AreSlots mem old → AreSlots now new

-- A step by the instruction that is fetched.
use Rattle.std.proofs.Common.{◌≡◌, ℕ, Bool, List, [], ◌++◌, ◌∙◌, ap, sym, refl}
use Rattle.std.specs.Prelude.{Option, Result, Ok, Err}
use Rattle.rv32im_table.specs.declared.instr.Instr.{Instr}
use Rattle.byte_words.specs.declared.access.Access.{Access}
use Rattle.rv32im_step.specs.declared.regs.Regs.{Regs}
use Rattle.rv32im_step.specs.Asked.{Asked, reads, decoded_asked, fetched_asked, asked}
use Rattle.byte_words.specs.ByteMap.{Bytes}
use Rattle.rv32im_step.specs.Meaning.{Meaning, refused, decoded_effect, fetched_effect, decoded_word, decoded_at, meaning}
use Rattle.rv32im_step.specs.Memory.{fetch_of, loaded}

-- what is fetched means, and asks, as the instruction that it is
abbrev pub instr_effect : Result (Option Instr) Access → Regs → Bytes → (ℕ → Bool) → Meaning
instr_effect (Ok instr) regs m w = decoded_effect instr regs m w
instr_effect (Err access) regs m w = refused access

abbrev pub instr_asked : Result (Option Instr) Access → Regs → Bytes → (ℕ → Bool) → List Asked
instr_asked (Ok instr) regs m w = decoded_asked instr regs m w
instr_asked (Err access) regs m w = []

by_effect : (word : Result ℕ Access) (regs : Regs) (m : Bytes) (w : ℕ → Bool) → fetched_effect word regs m w ≡ instr_effect (decoded_word word) regs m w
by_effect (Ok word) regs m w = refl
by_effect (Err access) regs m w = refl

by_asked : (word : Result ℕ Access) (regs : Regs) (m : Bytes) (w : ℕ → Bool) → fetched_asked word regs m w ≡ instr_asked (decoded_word word) regs m w
by_asked (Ok word) regs m w = refl
by_asked (Err access) regs m w = refl

pub meaning_on : (regs : Regs) (m : Bytes) (w : ℕ → Bool) (found : Result (Option Instr) Access) → found ≡ decoded_at m (fetch_of regs.pc) → meaning regs m w ≡ instr_effect found regs m w
unfolding meaning decoded_at
meaning_on regs m w found is = by_effect (loaded m (fetch_of regs.pc)) regs m w ∙ ap (λ r. instr_effect r regs m w) (sym is)

pub asked_on : (regs : Regs) (m : Bytes) (w : ℕ → Bool) (found : Result (Option Instr) Access) → found ≡ decoded_at m (fetch_of regs.pc) → asked regs m w ≡ reads m (fetch_of regs.pc) ++ instr_asked found regs m w
unfolding asked decoded_at
asked_on regs m w found is = ap (λ (xs : List Asked). reads m (fetch_of regs.pc) ++ xs) (by_asked (loaded m (fetch_of regs.pc)) regs m w ∙ ap (λ r. instr_asked r regs m w) (sym is))

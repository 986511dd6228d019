-- How a program ends alone, and where its end is told.
use Rattle.std.proofs.Common.{◌≡◌, ℕ, zero, suc, true, List, [], ◌∷◌, refl, ap, sym, subst, ◌∙◌, arith}
use Rattle.std.specs.Prelude.{◌%◌, ◌++◌, replicate, false, Bool}
use Rattle.std.proofs.lemmas.Option.{none-some, same_Some}
use Rattle.byte_words.specs.Numbers.{number_at, byte_at}
use Rattle.byte_words.specs.Patches.{from_base}
use Rattle.rv32im_table.specs.Field.{opcode, funct3, funct7, rd, rs1, rs2}
use Rattle.rv32im_table.specs.Immediate.{imm_i}
use Rattle.rv32im_table.specs.Table.{decoded}
use Rattle.rv32im_step.specs.Memory.{loaded}
use Rattle.rv32im_step.specs.Meaning.{effect, meaning}
use Rattle.rv32im_step.specs.Registers.{register}
use Rattle.call_log.specs.declared.how.How.{How}
use Rattle.call_log.specs.declared.how.How.TheVariants.{Exit, Signal}
use Rattle.call_log.specs.Notes.{Note, call_note, load_note, end_note, stray_note}
use Rattle.flat_loader.specs.Original.{block_pages}
use Rattle.flat_loader.specs.Frame.{frame_len, frame, frame_start}
use Rattle.flat_loader.specs.Begin.{begin_space}
use Rattle.flat_loader.specs.Alone.{Runner, OwnMemory, Solo, memory_of, number_of, writable_of}
use Rattle.machine_world.specs.Event.{is_exit}
use Rattle.alone_laws.specs.Stays.{Stay}
use Rattle.end_laws.specs.Laws.{EndsSo, EndsAlone, EndsInAStay, EndsAreTold}
use Rattle.definition_samples.proofs.Exits.{regs, exit_item, space, over}
use Rattle.definition_samples.proofs.StaysSamples.{stay, alone-first, alone-one}

-- ---- it stands at its exit with code 0

abbrev at_exit : Runner
at_exit = record { pid = 1; regs = regs 0x8000_0084 93 }

abbrev own : OwnMemory
own = memory_of space.space

ends-so : EndsSo at_exit own (Exit 0)
unfolding number_at byte_at from_base decoded opcode funct3 funct7 rd rs1 rs2 imm_i loaded effect meaning register block_pages frame_len frame frame_start begin_space writable_of
ends-so = (refl, refl, refl)

-- of a code the lowest eight bits count
abbrev big : Runner
big = record at_exit { regs = record (regs 0x8000_0084 93) { x = replicate 10 0 ++ 0x307 ∷ replicate 6 0 ++ 93 ∷ replicate 14 0 } }

ends-big : EndsSo big own (Exit 7)
unfolding number_at byte_at from_base decoded opcode funct3 funct7 rd rs1 rs2 imm_i loaded effect meaning register block_pages frame_len frame frame_start begin_space writable_of
ends-big = (refl, refl, refl)

-- a word of zeros, as in front of its entry, is no instruction: signal 4
traps-so : EndsSo (record { pid = 1; regs = regs 0x8000_0040 93 }) own (Signal 4)
unfolding number_at byte_at from_base decoded opcode funct3 funct7 rd rs1 rs2 imm_i loaded effect meaning register block_pages frame_len frame frame_start begin_space writable_of
traps-so = refl

-- ---- alone it comes there by one event

ends-alone : EndsAlone (stay [] 1) 1 (Exit 0)
ends-alone = record { top = at_exit; below = []; memory = own; comes = alone-one; is = refl; ends = ends-so }

-- what is seen of the process at the head
abbrev code_at : List Runner → ℕ
code_at [] = 0
code_at (top ∷ below) = register top.regs.x 10 % 256

abbrev exits_at : List Runner → Bool
exits_at [] = false
exits_at (top ∷ below) = is_exit (number_of top.regs)

-- with no other code
refuted-code : EndsAlone (stay [] 1) 1 (Exit 1) → ⊥
unfolding register
refuted-code e =
    let code : 0 ≡ register e.top.regs.x 10 % 256 = ap (λ (s : Solo). code_at s.stack) (same_Some (record { stack = at_exit ∷ []; memory = own }) (record { stack = e.top ∷ e.below; memory = e.memory }) (sym alone-one ∙ e.comes)) in
    let other : 1 ≡ register e.top.regs.x 10 % 256 = e.ends.2 in
    omega (arith, code, other)

-- and not where it begins
refuted-begin : EndsAlone (stay [] 0) 1 (Exit 0) → ⊥
unfolding register
refuted-begin e = no_exit
    (ap (λ (s : Solo). exits_at s.stack) (same_Some (record { stack = record { pid = 1; regs = regs 0x8000_0080 0 } ∷ []; memory = own }) (record { stack = e.top ∷ e.below; memory = e.memory }) (sym alone-first ∙ e.comes)) ∙ e.ends.1)
  where
    no_exit : false ≡ true → ⊥
    no_exit is = cc

-- ---- its end, which is noted, is told in its stay as that was before its call

abbrev ended : Stay
ended = stay (exit_item ∷ []) 2

in-a-stay : EndsInAStay (ended ∷ []) 1 (Exit 0)
in-a-stay = record {
  number = 0;
  stay = ended;
  at = refl;
  early = stay [] 1;
  before = record { loading = refl; pid = refl; more = exit_item ∷ []; items = refl; events = omega arith };
  alone = ends-alone;
}

abbrev pid_in : Note → ℕ
pid_in (end_note pid how) = pid
pid_in (call_note e) = 0
pid_in (load_note l) = 0
pid_in (stray_note pid seen) = 0

abbrev how_in : Note → How
how_in (end_note pid how) = how
how_in (call_note e) = Exit 0
how_in (load_note l) = Exit 0
how_in (stray_note pid seen) = Exit 0

are-told : EndsAreTold (ended ∷ []) over.notes
are-told zero pid how is =
    let note : end_note 1 (Exit 0) ≡ end_note pid how = same_Some (end_note 1 (Exit 0)) (end_note pid how) is in
    subst (λ (h : How). EndsInAStay (ended ∷ []) pid h) (ap (λ (n : Note). how_in n) note) (subst (λ (p : ℕ). EndsInAStay (ended ∷ []) p (Exit 0)) (ap (λ (n : Note). pid_in n) note) in-a-stay)
are-told (suc zero) pid how is = absurd cc
are-told (suc (suc zero)) pid how is = absurd cc
are-told (suc (suc (suc i))) pid how is = absurd cc

-- a note of an end that isn't told: there is no stay
refuted-told : EndsAreTold [] over.notes → ⊥
refuted-told told = nowhere (told 0 1 (Exit 0) refl)
  where
    nowhere : EndsInAStay [] 1 (Exit 0) → ⊥
    nowhere e = none-some e.stay e.at

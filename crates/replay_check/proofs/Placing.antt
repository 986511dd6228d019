-- The verdict on a program that is placed, and why there is none.
use Rattle.std.proofs.Common.{◌≡◌, ◌+◌, ◌<◌, ◌≤◌, ◌⊎◌, inl, inr, Bool, true, false, Some, None, refl, sym, ap, subst, ◌∙◌}
use Rattle.std.specs.Prelude.{Result, Ok, Err, IfOk, nat_lt, ◌||◌, if◌then◌else◌}
use Rattle.std.proofs.lemmas.Bool.{false≢true, lt-ltb, le-ltb}
use Rattle.elf2flt_tool.specs.Fault.{fault}
use Rattle.elf2flt_tool.specs.declared.refusal.Refusal.{Refusal}
use Rattle.elf2flt_tool.specs.declared.refusal.Refusal.TheVariants.{Elf, Layout, Reloc, TargetOutside, WordOverlap, Memory}
use Rattle.flat_loader.specs.Original.{Original, flat_original, block_len}
use Rattle.flat_loader.specs.Frame.{frame_fits}
use Rattle.flat_loader.specs.Alone.{Solo, solo_begin, alone}
use Rattle.originals.specs.Originals.{elf_original}
use Rattle.items_text.specs.Items.{ItemsValue}
use Rattle.replay_check.specs.declared.fault.ReplayFault.{ReplayFault}
use Rattle.replay_check.specs.declared.fault.ReplayFault.TheVariants as why
use Rattle.replay_check.specs.declared.original.Original.{Original as Stored}
use Rattle.replay_check.specs.declared.original.Original.TheVariants as file
use Rattle.replay_check.specs.declared.verdict.Verdict.{Verdict}
use Rattle.replay_check.specs.Verdicts.{verdict, verdict_from, Judges}
use Rattle.replay_check.specs.Loops.{items_alone}
use Rattle.replay_check.specs.Refusals.{refused_as}
use Rattle.replay_check.specs.Replays.{original_value, program_of, loading_of, memory_end, placed_verdict, replayed, Replays}
use Rattle.replay_check.proofs.Judged.{all_judged}

module _ (o : Original) (i : ItemsValue) where
  pub no_frame : frame_fits o i.args i.env ≡ false → placed_verdict o i ≡ Err why.Args
  unfolding placed_verdict
  no_frame is = rw is refl

  module _ (fits : frame_fits o i.args i.env ≡ true) where
    pub no_place : memory_end < i.base + block_len o → placed_verdict o i ≡ Err why.Base
    unfolding placed_verdict
    no_place past = rw (fits, lt-ltb memory_end (i.base + block_len o) past) refl

    pub is_placed : i.base + block_len o ≤ memory_end → (v : Verdict) (s : Solo) → v ≡ verdict_from i.events 0 0 s (items_alone i.list) → s ≡ solo_begin (loading_of o i) i.pid → placed_verdict o i ≡ Ok v
    unfolding placed_verdict verdict
    is_placed within v s is begins =
        rw (fits, le-ltb memory_end (i.base + block_len o) within) (λ k. Ok (sym (is ∙ ap (λ (x : Solo). verdict_from i.events 0 0 x (items_alone i.list)) begins) k))

abbrev Answer : Type 0
Answer = Result Verdict ReplayFault

abbrev ok_of : Verdict → Answer
ok_of v = Ok v

abbrev err_of : ReplayFault → Answer
err_of e = Err e

ok_same : (x y : Verdict) → ok_of x ≡ ok_of y → x ≡ y
ok_same x y is = ap (λ r. by r) is
  where
    by : Result Verdict ReplayFault → Verdict
    by (Ok v) = v
    by (Err e) = x

err_not : {A : Type 0} (e : ReplayFault) (v : Verdict) → err_of e ≡ ok_of v → A
err_not e v is = absurd (let bad : false ≡ true = ap (λ r. by r) is in false≢true bad)
  where
    by : Result Verdict ReplayFault → Bool
    by (Ok x) = true
    by (Err x) = false

-- yes exactly where the run by itself isn't refuted
pub placed_judges : (o : Original) (i : ItemsValue) (result : Result Verdict ReplayFault) → Replays (placed_verdict o i) result
    → IfOk result (λ v. Judges v (alone (loading_of o i) i.pid (items_alone i.list) i.events))
unfolding placed_verdict
placed_judges o i (Err e) is = tt
placed_judges o i (Ok v) is = by (frame_fits o i.args i.env) (nat_lt memory_end (i.base + block_len o)) is
  where
    by : (fits past : Bool) → (if fits then if past then Err why.Base else Ok (verdict (loading_of o i) i.pid (items_alone i.list) i.events) else Err why.Args) ≡ Ok v
        → Judges v (alone (loading_of o i) i.pid (items_alone i.list) i.events)
    by true true is = err_not why.Base v is
    by true false is = subst (λ (x : Verdict). Judges x (alone (loading_of o i) i.pid (items_alone i.list) i.events)) (ok_same _ v is) (all_judged (loading_of o i) i.pid (items_alone i.list) i.events)
    by false past is = err_not why.Args v is

-- ---- of the code's originals

module _ (o : Stored) (i : ItemsValue) where
  module _ (bytes : _) (elf : o ≡ file.Elf bytes) where
    pub is_refused : (refusal : Refusal) → fault bytes.now ≡ Some refusal → replayed (original_value o) i ≡ Err (why.Original refusal)
    unfolding replayed
    is_refused refusal is = subst (λ x. replayed (original_value x) i ≡ Err (why.Original refusal)) (sym elf) (rw is refl)

    pub no_stack : fault bytes.now ≡ None → (nat_lt i.stack 16 || nat_lt 1048576 i.stack) ≡ true → replayed (original_value o) i ≡ Err why.Stack
    unfolding replayed
    no_stack none out = subst (λ x. replayed (original_value x) i ≡ Err why.Stack) (sym elf) (rw (none, out) refl)

    pub elf_placed : fault bytes.now ≡ None → (nat_lt i.stack 16 || nat_lt 1048576 i.stack) ≡ false → (program : Original) → program ≡ elf_original bytes.now i.stack → replayed (original_value o) i ≡ placed_verdict program i
    unfolding replayed
    elf_placed none out program is =
        subst (λ x. replayed (original_value x) i ≡ placed_verdict program i) (sym elf) (rw (none, out) (ap (λ p. placed_verdict p i) (sym is)))

    pub elf_program_is : (program : Original) → program ≡ elf_original bytes.now i.stack → program ≡ program_of (original_value o) i.stack
    elf_program_is program is = subst (λ x. program ≡ program_of (original_value x) i.stack) (sym elf) is

    -- a refusal that is told, or out of memory
    pub refused_replays : (refusal : Refusal) → ((refusal ≡ Memory) ⊎ (fault bytes.now ≡ Some refusal)) → Replays (replayed (original_value o) i) (Err (refused_as refusal))
    refused_replays refusal (inl same) = subst (λ r. Replays (replayed (original_value o) i) (Err (refused_as r))) (sym same) tt
    refused_replays refusal (inr is) = by refusal (is_refused refusal is)
      where
        by : (r : Refusal) → replayed (original_value o) i ≡ Err (why.Original r) → Replays (replayed (original_value o) i) (Err (refused_as r))
        by Memory is = tt
        by (Elf x) is = is
        by (Layout x) is = is
        by (Reloc section index x) is = is
        by (TargetOutside place) is = is
        by (WordOverlap place) is = is

  module _ (flat : _) (is_flat : o ≡ file.Flat flat) where
    pub flat_placed : placed_verdict (flat_original flat.now) i ≡ replayed (original_value o) i
    unfolding replayed
    flat_placed = subst (λ x. placed_verdict (flat_original flat.now) i ≡ replayed (original_value x) i) (sym is_flat) refl

    pub flat_program_is : flat_original flat.now ≡ program_of (original_value o) i.stack
    flat_program_is = subst (λ x. flat_original flat.now ≡ program_of (original_value x) i.stack) (sym is_flat) refl

-- The line of a fault begins with the tail of its refusal.
use Rattle.std.proofs.Common.{◌≡◌, ℕ, List, [], ◌++◌, codes, refl, sym, ap, ◌∙◌, append_assoc, append-nil}
use Rattle.std.specs.Prelude.{decimal}
use Rattle.elf2flt_tool.specs.declared.fault.Fault.{Fault}
use Rattle.elf2flt_tool.specs.declared.fault.Fault.TheVariants as every
use Rattle.elf2flt_tool.specs.Faults.{entry_at}
use Rattle.fault_texts.specs.Words.{reloc_fault_words}
use Rattle.fault_texts.specs.Lines.{where_text, found_text, layout_text, entry_words, fault_line}
use Rattle.command_laws.specs.CheckLaws.{LinesBeginWithTails}

-- a piece in front of two pairs that are the same when joined
in_front : (d m n p q : List ℕ) → m ++ p ≡ n ++ q → (d ++ m) ++ p ≡ (d ++ n) ++ q
in_front d m n p q is = append_assoc d m p ∙ ap (λ xs. d ++ xs) is ∙ sym (append_assoc d n q)

-- a section and an entry, with the words of a fault behind them
named : (i j w rest : List ℕ)
    → (i ++ (codes " entry " ++ (j ++ (codes " " ++ [])))) ++ (w ++ rest) ≡ (i ++ (codes " entry " ++ (j ++ (codes " " ++ (w ++ []))))) ++ rest
named i j w rest =
    let words : w ++ rest ≡ (w ++ []) ++ rest = ap (λ xs. xs ++ rest) (sym (append-nil w)) in
    let entry : (j ++ (codes " " ++ [])) ++ (w ++ rest) ≡ (j ++ (codes " " ++ (w ++ []))) ++ rest =
    in_front j (codes " " ++ []) (codes " " ++ (w ++ [])) (w ++ rest) rest (ap (λ xs. codes " " ++ xs) words) in
    in_front i (codes " entry " ++ (j ++ (codes " " ++ []))) (codes " entry " ++ (j ++ (codes " " ++ (w ++ [])))) (w ++ rest) rest (ap (λ xs. codes " entry " ++ xs) entry)

-- what stands behind the tail
abbrev behind : List ℕ → Fault → List ℕ
behind e (every.Elf f i j) = found_text e i f ++ codes "\n"
behind e (every.Layout f i j) = layout_text e i j f ++ codes "\n"
behind e (every.Reloc i j f) = codes " " ++ (where_text e (entry_at i j) ++ codes "\n")
behind e (every.TargetOutside p i j) = codes " " ++ (entry_words i j ++ (where_text e (entry_at i j) ++ codes "\n"))
behind e (every.WordOverlap p i j) = codes " " ++ (entry_words i j ++ (where_text e (entry_at i j) ++ codes "\n"))

pub lines_begin_with_tails : LinesBeginWithTails
unfolding fault_line
lines_begin_with_tails e (every.Elf f i j) = (behind e (every.Elf f i j), refl)
lines_begin_with_tails e (every.Layout f i j) = (behind e (every.Layout f i j), refl)
lines_begin_with_tails e (every.Reloc i j f) =
    (behind e (every.Reloc i j f), ap (λ xs. codes "reloc section " ++ xs) (named (decimal i) (decimal j) (reloc_fault_words f) (behind e (every.Reloc i j f))))
lines_begin_with_tails e (every.TargetOutside p i j) = (behind e (every.TargetOutside p i j), refl)
lines_begin_with_tails e (every.WordOverlap p i j) = (behind e (every.WordOverlap p i j), refl)

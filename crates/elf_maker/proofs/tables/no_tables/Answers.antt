use Rattle.std.proofs.Common.{[], ◌∷◌, ◌++◌, map, sym, ap, ◌∙◌, arith, Vec, Global, ℕ}
use Rattle.std.proofs.lemmas.List.{map_push}
use Rattle.std.proofs.lemmas.List.FromFn.{map-range_with_len_more}
use Rattle.elf_maker.specs.Spelling.{relas_text, relas_texts}
use Rattle.elf_maker.proofs.Texts.{no_relas}
use Rattle.elf_maker.proofs.tables.no_tables.Goals as goal

pub loop-preserved : goal.loop-preserved
loop-preserved c =
    ap (map (λ (t : Vec ℕ Global). t.items)) c.in_ok-push.ensures.items
    ∙ map_push (λ (t : Vec ℕ Global). t.items) c.loop.tables.items c.new.result
    ∙ ap (λ ts. ts ++ c.new.result.items ∷ []) c.loop.invariant
    ∙ ap (λ bs. relas_texts c.loop.counter [] ++ bs ∷ []) (c.new.ensures.items ∙ sym (no_relas c.loop.counter))
    ∙ sym (map-range_with_len_more (relas_text []) 0 c.loop.counter c.loop.counter (omega arith))

-- One subject more.
use Rattle.std.proofs.Common.{◌∙◌, ◌++◌, ◌∷◌, [], ℕ, List, sym, ap, slice_index_or}
use Rattle.fault_texts.specs.declared.counts.Subject.{Subject}
use Rattle.fault_texts.specs.declared.counts.Count.{Count}
use Rattle.fault_texts.specs.Counts.{counts_before}
use Rattle.fault_texts.proofs.Counting.{low_before, count_new, count_old, not_true, not_false}
use Rattle.fault_texts.proofs.counts.add_subject.Goals as goal

abbrev none : Subject
none = record { section = 0; table = 0; symbol = 0 }

pub is_new-requires-clause-subject : goal.is_new-requires-clause-subject
is_new-requires-clause-subject c = rw (c.split_at.ensures.front) (low_before c.args.subjects.now c.args.index none c.requires.ascending c.requires.index)

pub returns-in_ok-push : goal.returns-in_ok-push
returns-in_ok-push c = λ before.
    let ss = c.args.subjects.now in
    let i = c.args.index in
    let s : Subject = slice_index_or ss i none in
    let fresh = rw (c.split_at.ensures.front) at (sym c.if-is_new.true ∙ c.is_new.ensures) in
    c.in_ok-push.ensures.items
    ∙ ap (λ (cs : List Count). cs ++ record { subject = s; count = c.count_among.result } ∷ []) before
    ∙ ap (λ (n : ℕ). counts_before ss i ++ record { subject = s; count = n } ∷ []) c.count_among.ensures
    ∙ sym (count_new ss i none c.requires.ascending c.requires.index (not_true _ fresh))

pub returns-else-is_new : goal.returns-else-is_new
returns-else-is_new c = λ before.
    let known = rw (c.split_at.ensures.front) at (sym c.if-is_new.false ∙ c.is_new.ensures) in
    before ∙ sym (count_old c.args.subjects.now c.args.index none c.requires.index (not_false _ known))

use Rattle.std.proofs.Common.{◌≡◌, ℕ, length, replicate, sym, ap, ◌∙◌, rules}
use Rattle.std.proofs.lemmas.List.{length-replicate, drop_at}
use Rattle.bflt_format.specs.Flat.{behind_header}
use Rattle.bflt_format.proofs.Spelled.{ram_values_are, ram_fault, ram_back}
use Rattle.format_tests.proofs.flat_tests.made_anew.Goals as goal

pub of-requires-clause-no_fault : goal.of-requires-clause-no_fault
of-requires-clause-no_fault c =
    let zeros : c.in_ok-file.file.items ≡ replicate 64 0 = search rules in
    let body = ap behind_header c.in_ok-extend_from_slice.ensures.items ∙ drop_at c.in_ok-file.file.items c.body.result.now 64 (ap length zeros ∙ length-replicate {A = ℕ} 64 0) ∙ c.body.ensures.value in
    ram_fault c.args.flat.now c.flags.ensures.spells _ (ram_values_are c.args.flat.now c.entry.result c.text.result c.data_len.result c.bss.result c.stack.result (behind_header c.extend_from_slice.new.self.items) c.in_ok-records.records.items
    (sym c.flags.ensures.value ∙ c.if-flags-ne1.false) c.entry.ensures.value c.text.ensures.value c.data_len.ensures.value c.bss.ensures.value c.stack.ensures.value
    body (c.in_ok-records.ensures.items ∙ c.records.ensures.value))

pub of-requires-clause-values : goal.of-requires-clause-values
of-requires-clause-values c =
    let zeros : c.in_ok-file.file.items ≡ replicate 64 0 = search rules in
    let body = ap behind_header c.in_ok-extend_from_slice.ensures.items ∙ drop_at c.in_ok-file.file.items c.body.result.now 64 (ap length zeros ∙ length-replicate {A = ℕ} 64 0) ∙ c.body.ensures.value in
    ram_back c.args.flat.now c.flags.ensures.spells _ (ram_values_are c.args.flat.now c.entry.result c.text.result c.data_len.result c.bss.result c.stack.result (behind_header c.extend_from_slice.new.self.items) c.in_ok-records.records.items
    (sym c.flags.ensures.value ∙ c.if-flags-ne1.false) c.entry.ensures.value c.text.ensures.value c.data_len.ensures.value c.bss.ensures.value c.stack.ensures.value
    body (c.in_ok-records.ensures.items ∙ c.records.ensures.value))

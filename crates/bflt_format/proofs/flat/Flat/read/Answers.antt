use Rattle.std.proofs.Common.{◌≡◌, ◌≤◌, None, refl, sym, ap, subst, ◌∙◌, arith, inr}
use Rattle.std.proofs.lemmas.List.{length-take}
use Rattle.bflt_format.specs.Fault.{header_fault, flat_fault}
use Rattle.bflt_format.specs.Spelling.{Spells}
use Rattle.bflt_format.specs.Flat.{behind_header}
use Rattle.bflt_format.proofs.Spelled.{spells_bytes, read_fault, read_values, behind_start}
use Rattle.bflt_format.proofs.Headers.{is_header}
use Rattle.bflt_format.proofs.flat.Flat.read.Goals as goal

pub returns-in-Some-2 : goal.returns-in-Some-2
returns-in-Some-2 c =
    let y = c.args.bytes.now in
    let clear : header_fault y ≡ None = cc in
    let whole = read_fault y c.big_word-data_end.result c.big_word-bss_end.result c.deref.result.now clear c.big_word-data_end.ensures c.big_word-bss_end.ensures (c.deref.ensures.value ∙ c.in_ok-records.ensures) in
    inr (whole ∙ sym c.in_ok-fault.ensures ∙ c.in-Some-2.is)

pub slice_bounds-from_slice-end : goal.slice_bounds-from_slice-end
slice_bounds-from_slice-end c =
    let y = c.args.bytes.now in
    let clear : header_fault y ≡ None = cc in
    let header = is_header y clear in
    omega (arith, header.fits, c.big_word-data_end.ensures, length-take c.big_word-data_end.result y)

pub invariant_of-result : goal.invariant_of-result
invariant_of-result c =
    let y = c.args.bytes.now in
    let clear : header_fault y ≡ None = cc in
    let whole = read_fault y c.big_word-data_end.result c.big_word-bss_end.result c.deref.result.now clear c.big_word-data_end.ensures c.big_word-bss_end.ensures (c.deref.ensures.value ∙ c.in_ok-records.ensures) in
    let header = is_header y clear in
    let long : 64 ≤ c.big_word-data_end.result = omega (arith, header.text, header.in_order, c.big_word-data_end.ensures) in
    let body = ap behind_header c.in_ok-from_slice.ensures.items ∙ behind_start y c.big_word-data_end.result long in
    let none : flat_fault y ≡ None = whole ∙ sym c.in_ok-fault.ensures ∙ c.in_default-2.is in
    let same = read_values y c.big_word-data_start.result c.big_word-data_end.result c.big_word-bss_end.result _ c.big_word-data_start.ensures c.big_word-data_end.ensures c.big_word-bss_end.ensures
    c.big_word.ensures refl refl refl c.big_word-2.ensures c.big_word-3.ensures body c.in_ok-records.ensures in
    subst Spells (sym same) (spells_bytes y (λ i. omega (arith, c.type_inv.bytes i)) none)

pub returns : goal.returns
returns c =
    let y = c.args.bytes.now in
    let clear : header_fault y ≡ None = cc in
    let whole = read_fault y c.big_word-data_end.result c.big_word-bss_end.result c.deref.result.now clear c.big_word-data_end.ensures c.big_word-bss_end.ensures (c.deref.ensures.value ∙ c.in_ok-records.ensures) in
    let header = is_header y clear in
    let long : 64 ≤ c.big_word-data_end.result = omega (arith, header.text, header.in_order, c.big_word-data_end.ensures) in
    let body = ap behind_header c.in_ok-from_slice.ensures.items ∙ behind_start y c.big_word-data_end.result long in (
      whole ∙ sym c.in_ok-fault.ensures ∙ c.in_default-2.is,
      read_values y c.big_word-data_start.result c.big_word-data_end.result c.big_word-bss_end.result _ c.big_word-data_start.ensures c.big_word-data_end.ensures c.big_word-bss_end.ensures
          c.big_word.ensures refl refl refl c.big_word-2.ensures c.big_word-3.ensures body c.in_ok-records.ensures,
    )

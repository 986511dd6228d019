use Rattle.std.proofs.Common.{inl, inr, arith, rules}
use Rattle.std.proofs.lemmas.Result.{err_from_is_err_and}
use Rattle.elf2flt_tool.proofs.FaultOrder.{fault-elf, fault-layout, fault-relocs}
use Rattle.flat_layout.proofs.Facts.{clear_numbers, size_le}
use Rattle.elf2flt_tool.specs.Image.{IsLinkedFile}
use Rattle.elf2flt_tool.specs.Walk.{IsPrepared}
use Rattle.elf2flt_tool.proofs.Slid.{slid_linked}
use Rattle.elf2flt_tool.proofs.conversion.flat_file_in_place.Goals as goal
use Rattle.elf2flt_tool.proofs.conversion.flat_file_in_place.Goals.{in-Some+in_ok-linked-in-Some, in-None+in_ok-linked-in-None}

pub returns-in_err-elf : goal.returns-in_err-elf
returns-in_err-elf c =
    let p = err_from_is_err_and c.from_residual.result c.from_residual.ensures.1 in
    let is = rw c.deref.ensures.value at c.in_err-elf.ensures in
    rw (p.1, p.2) (inr (fault-elf c.args.bytes.items _ is))

pub returns-in_err-layout : goal.returns-in_err-layout
returns-in_err-layout c =
    let p = err_from_is_err_and c.from_residual-in_err-layout.result c.from_residual-in_err-layout.ensures.1 in
    let read = rw c.deref.ensures.value at c.in_ok-elf.ensures in
    let laid = rw read.1 at c.in_err-layout.ensures in
    rw (p.1, p.2) (inr (fault-layout c.args.bytes.items _ read.0 laid))

pub returns-in_err-placed : goal.returns-in_err-placed
returns-in_err-placed c =
    let p = err_from_is_err_and c.from_residual-in_err-placed.result c.from_residual-in_err-placed.ensures.1 in
    let read = rw c.deref.ensures.value at c.in_ok-elf.ensures in
    let laid = rw read.1 at c.in_ok-layout.ensures in
    let found = rw read.1 at c.in_err-placed.ensures in
    rw (p.1, p.2) (elim found [
      | inl memory ↦ inl memory
      | inr is ↦ inr (fault-relocs c.args.bytes.items _ read.0 laid.0 is)
    ])

pub linked_len-requires : goal.linked_len-requires
linked_len-requires c =
    let read = rw c.deref.ensures.value at c.in_ok-elf.ensures in
    let laid = rw read.1 at c.in_ok-layout.ensures in
    let small = size_le c.args.bytes.items (clear_numbers c.args.bytes.items laid.0) in
    rw laid.1 (omega arith)

pub slid_file-requires-clause-header : goal.slid_file-requires-clause-header
slid_file-requires-clause-header c =
    let read = rw c.deref.ensures.value at c.in_ok-elf.ensures in
    let are = rw c.in-Some.is at c.in_ok-slides.ensures in
    (rw read.1 at are).header

pub slid_file-requires-clause-down : goal.slid_file-requires-clause-down
slid_file-requires-clause-down c =
    let read = rw c.deref.ensures.value at c.in_ok-elf.ensures in
    let are = rw c.in-Some.is at c.in_ok-slides.ensures in
    rw c.deref-in-Some.ensures.value (rw read.1 at are).down

pub slid_file-requires-clause-fits : goal.slid_file-requires-clause-fits
slid_file-requires-clause-fits c =
    let read = rw c.deref.ensures.value at c.in_ok-elf.ensures in
    let laid = rw read.1 at c.in_ok-layout.ensures in
    let are = rw c.in-Some.is at c.in_ok-slides.ensures in
    let fits = (rw read.1 at are).fits in
    rw (c.deref-in-Some.ensures.value, c.linked_len.ensures, laid.1) fits

pub flat_of-requires-clause-prepared : goal.flat_of-requires-clause-prepared
flat_of-requires-clause-prepared c =
    let e = c.args.bytes.items in
    let read = rw c.deref.ensures.value at c.in_ok-elf.ensures in
    let laid = rw read.1 at c.in_ok-layout.ensures in
    let placed = rw read.1 at c.in_ok-placed.ensures in
    let linked : IsLinkedFile e c.match-branch-5.linked.items = elim c.match-branch-5.branch [
      | in-Some+in_ok-linked-in-Some w ↦
          let are = rw w.in-Some.is at c.in_ok-slides.ensures in
          rw w.linked-is (slid_linked e w.in_ok-linked-in-Some.linked.items c.in_ok-layout.layout w.in-Some.slides.items w.linked_len.result (rw read.1 at are) laid.1 w.linked_len.ensures
          w.in_ok-linked-in-Some.ensures.header (rw w.deref-in-Some.ensures.value at w.in_ok-linked-in-Some.ensures.image))
      | in-None+in_ok-linked-in-None w ↦ rw w.linked-is (rw read.1 at w.in_ok-linked-in-None.ensures)
    ] in
    (e, record { accepted = search rules; no_fault = laid.0; layout = laid.1; linked = linked; placed = placed })

pub returns : goal.returns
returns c =
    let e = c.args.bytes.items in
    let read = rw c.deref.ensures.value at c.in_ok-elf.ensures in
    let laid = rw read.1 at c.in_ok-layout.ensures in
    let placed = rw read.1 at c.in_ok-placed.ensures in
    let linked : IsLinkedFile e c.match-branch-5.linked.items = elim c.match-branch-5.branch [
      | in-Some+in_ok-linked-in-Some w ↦
          let are = rw w.in-Some.is at c.in_ok-slides.ensures in
          rw w.linked-is (slid_linked e w.in_ok-linked-in-Some.linked.items c.in_ok-layout.layout w.in-Some.slides.items w.linked_len.result (rw read.1 at are) laid.1 w.linked_len.ensures
          w.in_ok-linked-in-Some.ensures.header (rw w.deref-in-Some.ensures.value at w.in_ok-linked-in-Some.ensures.image))
      | in-None+in_ok-linked-in-None w ↦ rw w.linked-is (rw read.1 at w.in_ok-linked-in-None.ensures)
    ] in
    let is : IsPrepared e c.in_ok-layout.layout c.match-branch-5.linked.items c.in_ok-placed.placed =
    record { accepted = search rules; no_fault = laid.0; layout = laid.1; linked = linked; placed = placed } in
    let end = c.flat_of.ensures e is in
    search rules

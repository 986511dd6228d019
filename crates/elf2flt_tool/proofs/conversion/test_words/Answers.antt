use Rattle.std.proofs.Common.{ℕ, ◌≤◌, ◌+◌, ◌-◌, List, All, length, take, drop, map, filter, ◌≡◌, ◌∙◌, None, Some, sym, ap, subst, arith}
use Rattle.std.proofs.lemmas.List.{take_rest}
use Rattle.byte_words.specs.Patches.{bytes_below}
use Rattle.byte_words.proofs.Painting.{length-bytes_below}
use Rattle.bflt_format.specs.Flat.{behind_header}
use Rattle.flat_layout.specs.declared.layout.Layout.{Layout}
use Rattle.flat_layout.specs.Layout.{layout, size_of}
use Rattle.flat_layout.proofs.Facts.{clear_numbers, size_le}
use Rattle.elf2flt_tool.specs.declared.placed.Placed.{Placed}
use Rattle.elf2flt_tool.specs.declared.refusal.Refusal.TheVariants as refusals
use Rattle.elf2flt_tool.specs.Image.{bare}
use Rattle.elf2flt_tool.specs.Fault.{address_of}
use Rattle.elf2flt_tool.specs.Walk.{IsPrepared}
use Rattle.elf2flt_tool.specs.Word.{places, lowest, records, word_at, points_outside, target_outside}
use Rattle.elf2flt_tool.proofs.Recorded.{IsLinked, IsClear}
use Rattle.elf2flt_tool.proofs.FaultOrder.{fault-clear, fault-target, fault-overlap}
use Rattle.elf2flt_tool.proofs.Ascending.{places_inside, outside-tested}
use Rattle.elf2flt_tool.proofs.conversion.test_words.Goals as goal

is_linked_of : (e : List ℕ) (l : Layout) (file : List ℕ) (p : Placed) → IsPrepared e l file p → IsLinked e
is_linked_of e l file p is = record { elf = is.accepted.no_fault; laid = is.no_fault; relocs = is.placed.relocs }

-- the image that was linked, by the layout that was found
linked_image : (e : List ℕ) (l : Layout) (file : List ℕ) (p : Placed) → IsPrepared e l file p → behind_header file ≡ bytes_below (l.text + l.data_len) (bare e)
linked_image e l file p is = is.linked.image ∙ ap (λ (l : Layout). bytes_below (l.text + l.data_len) (bare e)) (sym is.layout)

-- the test of the recorded words is that of the definition
tested : (e : List ℕ) (l : Layout) (file : List ℕ) (p : Placed) → IsPrepared e l file p
    → lowest (places (filter (points_outside (size_of l)) (map (word_at l (behind_header file)) p.places.items))) ≡ target_outside e
tested e l file p is =
    ap (λ ps. lowest (places (filter (points_outside (size_of l)) (map (word_at l (behind_header file)) ps)))) is.placed.places
    ∙ outside-tested e l (behind_header file) is.accepted.bytes (is_linked_of e l file p is) is.layout (linked_image e l file p is)

-- what the code finds is the definition's first word that points outside
found : (e : List ℕ) (l : Layout) (file ps : List ℕ) (p : Placed) → IsPrepared e l file p → ps ≡ p.places.items
    → lowest (places (filter (points_outside (size_of l)) (map (word_at l (take (length file - 64) (drop 64 file))) ps))) ≡ target_outside e
found e l file ps p is same =
    (λ i. lowest (places (filter (points_outside (size_of l)) (map (word_at l (take_rest file 64 i)) (same i))))) ∙ tested e l file p is

pub lowest_outside-requires : goal.lowest_outside-requires
lowest_outside-requires c =
    let e = c.requires.0 in
    let is = c.requires.1 in
    let l = c.args.layout.now in
    let file = c.args.linked.now in
    let are = c.deref.ensures.value ∙ is.placed.places in
    let len : length (take (length file - 64) (drop 64 file)) ≡ (layout e).text + (layout e).data_len =
    ap length (take_rest file 64 ∙ is.linked.image) ∙ length-bytes_below ((layout e).text + (layout e).data_len) (bare e) in
    let small = size_le e (clear_numbers e is.no_fault) in
    record {
      small = rw is.layout (omega arith);
      inside = subst (λ ps. All (λ p. p + 4 ≤ length (take (length file - 64) (drop 64 file))) ps) (sym are) (subst (λ n. All (λ p. p + 4 ≤ n) (records e)) (sym len) (places_inside e is.accepted.bytes (is_linked_of e l file c.args.placed.now is)));
    }

pub returns-in-Some : goal.returns-in-Some
returns-in-Some c = λ e is.
    let l = c.args.layout.now in
    let linked = is_linked_of e l c.args.linked.now c.args.placed.now is in
    let outside = found e l c.args.linked.now c.deref.result.now c.args.placed.now is c.deref.ensures.value in
    fault-target e c.in-Some.number linked.elf linked.laid linked.relocs (sym outside ∙ sym c.lowest_outside.ensures ∙ c.in-Some.is)
    ∙ ap (λ l. Some (refusals.TargetOutside (address_of l c.in-Some.number))) (sym is.layout) ∙ ap (λ n. Some (refusals.TargetOutside n)) (sym c.address_of.ensures)

pub returns-in-Some-met : goal.returns-in-Some-met
returns-in-Some-met c = λ e is.
    let l = c.args.layout.now in
    let linked = is_linked_of e l c.args.linked.now c.args.placed.now is in
    let outside = found e l c.args.linked.now c.deref.result.now c.args.placed.now is c.deref.ensures.value in
    let inside : target_outside e ≡ None = sym outside ∙ sym c.lowest_outside.ensures ∙ c.in_default.is in
    fault-overlap e c.in-Some-met.number linked.elf linked.laid linked.relocs inside (sym is.placed.met ∙ c.in-Some-met.is)
    ∙ ap (λ l. Some (refusals.WordOverlap (address_of l c.in-Some-met.number))) (sym is.layout)
    ∙ ap (λ n. Some (refusals.WordOverlap n)) (sym c.address_of-in-Some-met.ensures)

pub returns : goal.returns
returns c = λ e is.
    let l = c.args.layout.now in
    let linked = is_linked_of e l c.args.linked.now c.args.placed.now is in
    let outside = found e l c.args.linked.now c.deref.result.now c.args.placed.now is c.deref.ensures.value in
    let clear : IsClear e = record {
      elf = linked.elf;
      laid = linked.laid;
      relocs = linked.relocs;
      targets = sym outside ∙ sym c.lowest_outside.ensures ∙ c.in_default.is;
      apart = sym is.placed.met ∙ c.in_default-met.is;
    } in
    fault-clear e clear

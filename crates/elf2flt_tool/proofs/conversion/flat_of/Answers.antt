use Rattle.std.proofs.Common.{◌≡◌, ℕ, ◌+◌, ◌*◌, ◌/◌, ◌≤◌, ◌∙◌, List, None, All, length, map, slice_index, sym, ap, subst, arith}
use Rattle.std.proofs.lemmas.Result.{err_from_is_err_and}
use Rattle.byte_words.specs.Patches.{painted, bytes_below}
use Rattle.byte_words.proofs.Painting.{length-bytes_below}
use Rattle.bflt_format.specs.Values.{ram_values}
use Rattle.bflt_format.specs.Spelling.{spell}
use Rattle.bflt_format.specs.Fault.{flat_fault}
use Rattle.bflt_format.specs.Header.{flat_values}
use Rattle.bflt_format.specs.Flat.{behind_header}
use Rattle.bflt_format.proofs.Spelled.{values_back, no_fault}
use Rattle.flat_layout.specs.declared.layout.Layout.{Layout}
use Rattle.flat_layout.specs.Layout.{layout}
use Rattle.elf2flt_tool.specs.Image.{bare}
use Rattle.elf2flt_tool.specs.Word.{records, word_at, AreApart}
use Rattle.elf2flt_tool.specs.Walk.{IsPrepared}
use Rattle.elf2flt_tool.specs.Fault.{fault}
use Rattle.elf2flt_tool.specs.declared.placed.Placed.{Placed}
use Rattle.elf2flt_tool.specs.Converted.{number_patch, converted}
use Rattle.elf2flt_tool.proofs.Recorded.{is_clear, is_linked}
use Rattle.elf2flt_tool.proofs.Ascending.{places_inside, are_apart}
use Rattle.flat_layout.proofs.Facts.{clear_numbers}
use Rattle.flat_layout.proofs.Numbers.{has_entry}
use Rattle.elf2flt_tool.proofs.Laid.{is_laid}
use Rattle.elf2flt_tool.proofs.Spelled.{spells_converted}
use Rattle.elf2flt_tool.proofs.Assembled.{assembled}
use Rattle.elf2flt_tool.proofs.conversion.flat_of.Goals as goal

-- a list of bytes that is read as a slice
as_read : (e : List ℕ) (l : Layout) (file read : List ℕ) (p : Placed) → read ≡ file → IsPrepared e l file p → IsPrepared e l read p
as_read e l file read p same is = subst (λ f. IsPrepared e l f p) (sym same) is

-- what is made are the values of the definition
made : (e : List ℕ) (l : Layout) (file : List ℕ) (p : Placed) (stack rounded : ℕ) (ps body : List ℕ) → IsPrepared e l file p → fault e ≡ None → rounded ≡ (stack + 15) / 16 * 16 → ps ≡ p.places.items
    → body ≡ bytes_below (length (behind_header file)) (painted (map number_patch (map (word_at l (behind_header file)) ps)) (slice_index (behind_header file)))
    → ram_values (64 + l.entry) l.text l.data_len l.bss rounded body p.places.items ≡ converted e stack
made e l file p stack rounded ps body is none round same written =
    let image = behind_header file in
    let linked : image ≡ bytes_below (l.text + l.data_len) (bare e) = is.linked.image ∙ ap (λ (l : Layout). bytes_below (l.text + l.data_len) (bare e)) (sym is.layout) in
    let words = ap (map (word_at l image)) (same ∙ is.placed.places) in
    assembled e l stack rounded image (map (word_at l image) ps) body p.places.items is.accepted.bytes none is.layout round linked words written is.placed.places

pub test_words-requires : goal.test_words-requires
test_words-requires c = (c.requires.prepared.0, as_read c.requires.prepared.0 c.args.layout.now c.args.linked.items c.deref.result.now c.args.placed c.deref.ensures.value c.requires.prepared.1)

pub returns-in_err-test_words : goal.returns-in_err-test_words
returns-in_err-test_words c = λ e is.
    let p = err_from_is_err_and c.from_residual.result c.from_residual.ensures.1 in
    rw (p.1, p.2) (c.in_err-test_words.ensures e (as_read e c.args.layout.now c.args.linked.items c.deref.result.now c.args.placed c.deref.ensures.value is))

pub with_numbers-file-requires-clause-inside : goal.with_numbers-file-requires-clause-inside
with_numbers-file-requires-clause-inside c =
    let e = c.requires.prepared.0 in
    let is = c.requires.prepared.1 in
    let image = behind_header c.args.linked.items in
    let len : length image ≡ (layout e).text + (layout e).data_len = ap length is.linked.image ∙ length-bytes_below ((layout e).text + (layout e).data_len) (bare e) in
    let inside = places_inside e is.accepted.bytes (is_linked e (is_clear e (c.in_ok-test_words.ensures e (as_read e c.args.layout.now c.args.linked.items c.deref.result.now c.args.placed c.deref.ensures.value is)))) in
    let are = c.deref-2.ensures.value ∙ is.placed.places in
    subst (λ ps. All (λ p. p + 4 ≤ length image) ps) (sym are) (subst (λ n. All (λ p. p + 4 ≤ n) (records e)) (sym len) inside)

pub with_numbers-file-requires-clause-apart : goal.with_numbers-file-requires-clause-apart
with_numbers-file-requires-clause-apart c =
    let e = c.requires.prepared.0 in
    let is = c.requires.prepared.1 in
    subst AreApart (sym (c.deref-2.ensures.value ∙ is.placed.places)) (are_apart e is.accepted.bytes (is_clear e (c.in_ok-test_words.ensures e (as_read e c.args.layout.now c.args.linked.items c.deref.result.now c.args.placed c.deref.ensures.value is))))

pub with_numbers-file-requires-clause-header : goal.with_numbers-file-requires-clause-header
with_numbers-file-requires-clause-header c = c.requires.prepared.1.linked.header

pub overflow_add-entry : goal.overflow_add-entry
overflow_add-entry c =
    let is = c.requires.prepared.1 in
    let laid = is_laid c.requires.prepared.0 (clear_numbers c.requires.prepared.0 is.no_fault) in
    let program = has_entry c.requires.prepared.0 is.no_fault in
    let inside = program.inside in
    let stored = laid.stored in
    let fits = laid.fits in
    let small = laid.small in
    rw is.layout (omega arith)

pub of-requires-clause-no_fault : goal.of-requires-clause-no_fault
of-requires-clause-no_fault c =
    let e = c.requires.prepared.0 in
    let is = c.requires.prepared.1 in
    let none = c.in_ok-test_words.ensures e (as_read e c.args.layout.now c.args.linked.items c.deref.result.now c.args.placed c.deref.ensures.value is) in
    subst (λ f. flat_fault (spell f) ≡ None) (sym (made e c.args.layout.now c.args.linked.items c.args.placed c.args.stack (c.div_ceil-stack.result * 16) c.deref-2.result.now (behind_header c.with_numbers-file.result.items) is none (omega (arith, c.div_ceil-stack.ensures)) c.deref-2.ensures.value c.with_numbers-file.ensures)) (no_fault (converted e c.args.stack) (spells_converted e c.args.stack is.accepted.bytes none c.requires.stack_limit))

pub of-requires-clause-values : goal.of-requires-clause-values
of-requires-clause-values c =
    let e = c.requires.prepared.0 in
    let is = c.requires.prepared.1 in
    let none = c.in_ok-test_words.ensures e (as_read e c.args.layout.now c.args.linked.items c.deref.result.now c.args.placed c.deref.ensures.value is) in
    subst (λ f. flat_values (spell f) ≡ f) (sym (made e c.args.layout.now c.args.linked.items c.args.placed c.args.stack (c.div_ceil-stack.result * 16) c.deref-2.result.now (behind_header c.with_numbers-file.result.items) is none (omega (arith, c.div_ceil-stack.ensures)) c.deref-2.ensures.value c.with_numbers-file.ensures)) (values_back (converted e c.args.stack) (spells_converted e c.args.stack is.accepted.bytes none c.requires.stack_limit))

pub returns : goal.returns
returns c = λ e is.
    let none = c.in_ok-test_words.ensures e (as_read e c.args.layout.now c.args.linked.items c.deref.result.now c.args.placed c.deref.ensures.value is) in
    (none, c.of.ensures ∙ made e c.args.layout.now c.args.linked.items c.args.placed c.args.stack (c.div_ceil-stack.result * 16) c.deref-2.result.now (behind_header c.with_numbers-file.result.items) is none (omega (arith, c.div_ceil-stack.ensures)) c.deref-2.ensures.value c.with_numbers-file.ensures)

-- The parts that the conversion makes are those of the definition.
use Rattle.std.proofs.Common.{◌≡◌, ℕ, ◌+◌, ◌*◌, ◌/◌, List, length, map, flat_map, slice_index, true, None, refl, sym, ap, ◌∙◌}
use Rattle.byte_words.specs.Numbers.{IsBytes}
use Rattle.byte_words.specs.Patches.{painted, bytes_below}
use Rattle.byte_words.proofs.Painting.{length-bytes_below}
use Rattle.bflt_format.specs.Values.{ram_values}
use Rattle.flat_layout.specs.declared.layout.Layout.{Layout}
use Rattle.flat_layout.specs.Layout.{layout}
use Rattle.flat_layout.specs.Rows.{has_numbers}
use Rattle.elf2flt_tool.specs.declared.cover.Cover.{Cover}
use Rattle.elf2flt_tool.specs.declared.word.Word.{Word}
use Rattle.elf2flt_tool.specs.Relocs.{spans_of}
use Rattle.elf2flt_tool.specs.Image.{bare}
use Rattle.elf2flt_tool.specs.Word.{records, word_at, lowest, word_overlap}
use Rattle.elf2flt_tool.specs.Cover.{recorded_of, lowest_met}
use Rattle.elf2flt_tool.specs.Walk.{IsFoundIn}
use Rattle.elf2flt_tool.specs.Fault.{relocs_fault, fault}
use Rattle.elf2flt_tool.specs.Converted.{number_patch, converted}
use Rattle.elf2flt_tool.proofs.Laid.{is_laid}
use Rattle.elf2flt_tool.proofs.Recorded.{is_clear}
use Rattle.elf2flt_tool.proofs.Ascending.{body-painted}
use Rattle.elf2flt_tool.proofs.Meeting.{met_words_covered}
use Rattle.elf2flt_tool.proofs.Shapes.{all_plain, all_entries}

-- the test of the recorded words by what is covered
pub overlap-tested : (e : List ℕ) (c : Cover) → has_numbers e ≡ true → relocs_fault e ≡ None → IsFoundIn e (spans_of e) c
    → lowest_met c (flat_map (recorded_of (layout e)) (spans_of e)) ≡ word_overlap e
unfolding word_overlap
overlap-tested e c laid none is =
    let plain = all_plain e (is_laid e laid) none in
    ap lowest (sym (met_words_covered (layout e) ((layout e).text + (layout e).data_len) (spans_of e) c (all_entries (layout e) _ (spans_of e) plain) is))

pub assembled : (e : List ℕ) (l : Layout) (stack rounded : ℕ) (image : List ℕ) (ws : List Word) (body places : List ℕ) → IsBytes e → fault e ≡ None → l ≡ layout e → rounded ≡ (stack + 15) / 16 * 16
    → image ≡ bytes_below (l.text + l.data_len) (bare e) → ws ≡ map (word_at l image) (records e)
    → body ≡ bytes_below (length image) (painted (map number_patch ws) (slice_index image)) → places ≡ records e
    → ram_values (64 + l.entry) l.text l.data_len l.bss rounded body places ≡ converted e stack
unfolding converted
assembled e l stack rounded image ws body places bytes none laid round linked words is numbers =
    let len : length image ≡ l.text + l.data_len = ap length linked ∙ length-bytes_below (l.text + l.data_len) (bare e) in
    let written = is ∙ ap (λ n. bytes_below n (painted (map number_patch ws) (slice_index image))) len ∙ body-painted e l ws image bytes (is_clear e none) laid linked words in
    rw (round, written, numbers, laid) refl

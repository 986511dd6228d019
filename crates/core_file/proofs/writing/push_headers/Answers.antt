use Rattle.std.proofs.Common.{◌≡◌, ◌+◌, ◌++◌, length, append_assoc, sym, ap, ◌∙◌}
use Rattle.std.proofs.lemmas.Result.{on_ok_weaker}
use Rattle.std.proofs.lemmas.List.{length-map}
use Rattle.core_file.specs.Text.{program_text, note_at, note_len, loads_text, headers_text}
use Rattle.core_file.specs.Code.{segment_value, segment_values}
use Rattle.core_file.proofs.writing.push_headers.Goals as goal

pub returns : goal.returns
unfolding headers_text
returns c =
    let out = c.args.out.now.items in
    let ss = segment_values c.args.segments.now in
    let at = c.note_at-at.result in
    let there : at ≡ note_at (length ss) = c.note_at-at.ensures ∙ sym (ap note_at (length-map c.args.segments.now segment_value)) in
    on_ok_weaker c.push_loads.result (λ written.
    written ∙ ap (λ o. o ++ loads_text (at + note_len) ss) c.in_ok-push_words.ensures
    ∙ append_assoc out (program_text 4 at 0 note_len 0 0 4) (loads_text (at + note_len) ss)
    ∙ ap (λ k. out ++ (program_text 4 k 0 note_len 0 0 4 ++ loads_text (k + note_len) ss)) there) c.push_loads.ensures

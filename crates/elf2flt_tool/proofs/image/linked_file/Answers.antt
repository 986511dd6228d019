use Rattle.std.proofs.Common.{◌≡◌, ◌+◌, ◌-◌, ◌∙◌, length, replicate, take, ap, arith, rules}
use Rattle.std.proofs.lemmas.List.{length-take, length-replicate, take_rest, drop-replicate}
use Rattle.byte_words.specs.Patches.{bytes_below}
use Rattle.byte_words.proofs.Painting.{length-bytes_below}
use Rattle.bflt_format.specs.Flat.{behind_header}
use Rattle.flat_layout.specs.declared.layout.Layout.{Layout}
use Rattle.flat_layout.proofs.Facts.{clear_numbers, size_le}
use Rattle.elf2flt_tool.specs.Image.{bare}
use Rattle.elf2flt_tool.proofs.Painted.{header_back, image_back}
use Rattle.elf2flt_tool.proofs.image.linked_file.Goals as goal

pub linked_len-requires : goal.linked_len-requires
linked_len-requires c =
    let small = size_le c.args.elf.now (clear_numbers c.args.elf.now c.requires.no_fault) in
    rw c.requires.layout (omega arith)

pub lay_sections-requires-clause-zeros : goal.lay_sections-requires-clause-zeros
lay_sections-requires-clause-zeros c =
    let l = c.args.layout.now in
    let zeros : c.in_ok-file.file.items ≡ replicate (64 + l.text + l.data_len) 0 = search rules in
    let less : 64 + l.text + l.data_len - 64 ≡ l.text + l.data_len = omega arith in
    take_rest c.deref_mut.result.now 64 ∙ ap behind_header (c.deref_mut.ensures.value ∙ zeros) ∙ drop-replicate 64 (64 + l.text + l.data_len) 0 ∙ ap (λ n. replicate n 0) less

pub returns : goal.returns
returns c =
    let l = c.args.layout.now in
    let file = c.deref_mut.result.now in
    let image = c.lay_sections.new.image in
    let zeros : c.in_ok-file.file.items ≡ replicate (64 + l.text + l.data_len) 0 = search rules in
    let long : length file ≡ 64 + l.text + l.data_len = ap length (c.deref_mut.ensures.value ∙ zeros) ∙ length-replicate (64 + l.text + l.data_len) 0 in
    let header : length (take 64 file) ≡ 64 = omega (arith, length-take 64 file, long) in
    let len : length image ≡ l.text + l.data_len = ap length c.lay_sections.ensures ∙ length-bytes_below (l.text + l.data_len) (bare c.args.elf.now) in
    let both : length (take 64 file) + length image ≡ c.in_ok-file.file.len = omega (arith, header, len, long, c.deref_mut.ensures.len) in
    record {
      header = header_back c.in_ok-file.file.len (take 64 file) image _ _ header both;
      image = image_back c.in_ok-file.file.len (take 64 file) image _ _ header both ∙ c.lay_sections.ensures ∙ ap (λ (l : Layout). bytes_below (l.text + l.data_len) (bare c.args.elf.now)) c.requires.layout;
    }

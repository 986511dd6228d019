use Rattle.std.proofs.Common.{◌≡◌, ◌+◌, ◌∙◌, length, take, ap, arith}
use Rattle.std.proofs.lemmas.List.{length-take, length-drop, take_rest}
use Rattle.bflt_format.specs.Flat.{behind_header}
use Rattle.elf2flt_tool.proofs.Painted.{image_back}
use Rattle.elf2flt_tool.proofs.image.with_numbers.Goals as goal

pub write_numbers-requires : goal.write_numbers-requires
write_numbers-requires c =
    let lent = take_rest c.deref_mut.result.now 64 ∙ ap behind_header c.deref_mut.ensures.value in
    record { inside = λ k d below. rw (ap length lent) (c.requires.inside k d below); apart = c.requires.apart }

pub returns : goal.returns
returns c =
    let file = c.deref_mut.result.now in
    let image = c.write_numbers.new.image in
    let lent = take_rest file 64 ∙ ap behind_header c.deref_mut.ensures.value in
    let long = ap length c.deref_mut.ensures.value in
    let header : length (take 64 file) ≡ 64 = omega (arith, length-take 64 file, long, c.requires.header) in
    let len = c.write_numbers.auto.image ∙ ap length (take_rest file 64) ∙ length-drop 64 file in
    let both : length (take 64 file) + length image ≡ c.args.file.len = omega (arith, header, len, long, c.requires.header, c.deref_mut.ensures.len) in
    image_back c.args.file.len (take 64 file) image _ _ header both ∙ (rw lent at c.write_numbers.ensures)

use Rattle.std.proofs.Common.{◌≡◌, ◌+◌, ◌-◌, ◌++◌, length, take, drop, replicate, ap, sym, ◌∙◌, arith}
use Rattle.std.proofs.lemmas.List.{length-take-le, length-drop, length-replicate, drop-drop}
use Rattle.byte_words.specs.Patches.{laid}
use Rattle.elf2flt_tool.proofs.Slid.{slid_down}
use Rattle.elf2flt_tool.proofs.sliding.slide_down.Goals as goal

pub returns : goal.returns
returns c =
    let old = c.args.file.now in
    let end = c.args.end in
    let to = c.args.slide.to in
    let width = to - end in
    let long : length (take width (drop end old)) ≡ width = length-take-le width (drop end old) (omega (arith, length-drop end old, c.requires.end, c.requires.down, c.requires.inside)) in
    let zeros : c.fill.new.self ≡ replicate width 0 = c.fill.ensures.after (λ y same. same) ∙ ap (λ n. replicate n 0) long in
    let past : end + width ≡ end + length (replicate width 0) = ap (λ n. end + n) (sym (length-replicate width 0)) in
    let cleared : take end old ++ (c.fill.new.self ++ drop width (drop end old)) ≡ laid old end (replicate width 0) =
    (λ i. take end old ++ (zeros i ++ drop-drop width end old i)) ∙ ap (λ n. take end old ++ (replicate width 0 ++ drop n old)) past in
    c.move_down.ensures
    ∙ ap (λ xs. laid xs to (take c.args.slide.len (drop c.args.slide.from xs))) cleared
    ∙ slid_down old end to c.args.slide.from c.args.slide.len c.requires.end c.requires.down c.requires.inside

use Rattle.std.proofs.Common.{◌≡◌, ℕ, ◌-◌, ◌≤◌, ◌++◌, List, length, take, drop, replicate, map, ap, ◌∙◌, arith}
use Rattle.std.proofs.lemmas.List.{take_all, drop_all, append-nil, length-take-le}
use Rattle.byte_words.specs.Patches.{painted, bytes_below}
use Rattle.bflt_format.specs.Flat.{behind_header}
use Rattle.elf2flt_tool.specs.Slides.{slid_patch}
use Rattle.elf2flt_tool.proofs.Slid.{slid_whole}
use Rattle.elf2flt_tool.proofs.sliding.slid_file.Goals as goal

-- the file as a slice was written back into its list, which was cut behind the last slide and lengthened with zeros
written_back : (old new : List ℕ) (n : ℕ) → n ≡ length old → length new ≡ length old → take n (new ++ drop (length new) old) ≡ new
written_back old new n is same =
    ap (λ xs. take n (new ++ xs)) (drop_all (length new) old (omega (arith, same))) ∙ ap (take n) (append-nil new) ∙ take_all n new (omega (arith, is, same))

whole : (c : goal.In_ok-resize) → c.resize.new.self.items ≡ take c.slide_all-end.result c.slide_all-end.new.file ++ replicate (c.args.len - c.slide_all-end.result) 0
whole c =
    let new = c.slide_all-end.new.file in
    let end = c.slide_all-end.result in
    let slid = c.slide_all-end.ensures.slid in
    let old = c.args.file.items in
    let same : length new ≡ length old = slid.len ∙ ap length c.deref_mut.ensures.value in
    let here : end ≤ length new = omega (arith, slid.len, slid.fits) in
    let long : length (take end new) ≡ end = length-take-le end new here in
    let le : length (take end new) ≤ c.args.len = omega (arith, long, c.slide_all-end.ensures.end, c.requires.fits) in
    let back : c.truncate.new.self.items ≡ take end new = c.truncate.ensures.items ∙ ap (take end) (written_back old new c.args.file.len c.args.file.ok.0 same) in
    let len : c.truncate.new.self.len ≡ end = c.truncate.new.self.ok.0 ∙ ap length back ∙ long in
    c.in_ok-resize.ensures.items
    ∙ (λ i. take c.args.len (back i) ++ replicate (c.args.len - len i) 0)
    ∙ ap (λ xs. xs ++ replicate (c.args.len - end) 0) (take_all c.args.len (take end new) le)

pub returns-clause-header : goal.returns-clause-header
returns-clause-header c =
    let e = c.deref_mut.result.now in
    let end = c.slide_all-end.result in
    let le : end ≤ c.args.len = omega (arith, c.slide_all-end.ensures.end, c.requires.fits) in
    rw (whole c) (slid_whole e c.slide_all-end.new.file end c.args.len c.args.slides.now c.slide_all-end.ensures.slid le).0

pub returns-clause-image : goal.returns-clause-image
returns-clause-image c =
    let e = c.deref_mut.result.now in
    let end = c.slide_all-end.result in
    let le : end ≤ c.args.len = omega (arith, c.slide_all-end.ensures.end, c.requires.fits) in
    ap behind_header (whole c)
    ∙ (slid_whole e c.slide_all-end.new.file end c.args.len c.args.slides.now c.slide_all-end.ensures.slid le).1
    ∙ ap (λ xs. bytes_below (c.args.len - 64) (painted (map (slid_patch xs) c.args.slides.now) (λ n. 0))) c.deref_mut.ensures.value

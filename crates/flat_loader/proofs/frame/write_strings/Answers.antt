use Rattle.std.proofs.Common.{◌≡◌, ◌+◌, ◌∙◌, ◌∷◌, [], length, drop, sym, ap, arith, rules}
use Rattle.byte_words.specs.Patches.{laid}
use Rattle.phys_mem.specs.Memory.{place}
use Rattle.flat_loader.specs.Frame.{texts, strings}
use Rattle.flat_loader.proofs.Blocks.{length-copied}
use Rattle.flat_loader.proofs.Frames.{texts_more, length-texts_more, strings_more}
use Rattle.flat_loader.proofs.frame.write_strings.Goals as goal

pub copy_in-requires : goal.copy_in-requires
copy_in-requires c =
    let less = length-texts_more c.args.strings.now c.loop-string.string-index c.string-item.result c.loop-string-test.true c.string-item.is in
    let len = ap length c.deref.ensures.value in
    let kept = c.loop-string.invariant in
    (omega arith, omega arith)

pub set8-requires : goal.set8-requires
set8-requires c =
    let less = length-texts_more c.args.strings.now c.loop-string.string-index c.string-item.result c.loop-string-test.true c.string-item.is in
    let kept = c.loop-string.invariant in
    let len = ap length c.deref.ensures.value in
    let same : c.len.result ≡ length c.string-item.result.items = search rules in
    let copied = length-copied c.loop-string.mem c.copy_in.new.self (place c.loop-string.at) c.deref.result.now (omega arith) c.copy_in.ensures in
    (omega arith, omega arith)

pub loop-string-preserved : goal.loop-string-preserved
loop-string-preserved c =
    let ss = c.args.strings.now in
    let v = c.string-item.result in
    let i = c.loop-string.string-index in
    let m = c.loop-string.mem in
    let at = c.loop-string.at in
    let kept = c.loop-string.invariant in
    let rest = strings (texts (drop (i + 1) ss)) in
    let less = length-texts_more ss i v c.loop-string-test.true c.string-item.is in
    let len : c.len.result ≡ length v.items = search rules in
    let same = ap length c.deref.ensures.value in
    let copied = length-copied m c.copy_in.new.self (place at) c.deref.result.now (omega arith) c.copy_in.ensures in
    let ended = length-copied c.copy_in.new.self c.set8.new.self (place (at + c.len.result)) (0 ∷ []) (omega arith) c.set8.ensures in
    record {
      bytes =
          ap (λ t. laid t (place (at + c.len.result + 1)) rest) c.set8.ensures
          ∙ ap (λ t. laid (laid t (place (at + c.len.result)) (0 ∷ [])) (place (at + c.len.result + 1)) rest) c.copy_in.ensures
          ∙ ap (λ t. laid (laid (laid m (place at) t) (place (at + c.len.result)) (0 ∷ [])) (place (at + c.len.result + 1)) rest) c.deref.ensures.value
          ∙ ap (λ k. laid (laid (laid m (place at) v.items) (place (at + k)) (0 ∷ [])) (place (at + k + 1)) rest) len
          ∙ strings_more m at v.items (texts (drop (i + 1) ss)) (omega arith) (omega arith)
          ∙ ap (λ ts. laid m (place at) (strings ts)) (sym (texts_more ss i v c.loop-string-test.true c.string-item.is))
          ∙ kept.bytes;
      len = ended ∙ copied ∙ kept.len;
      above = omega arith;
      at = omega arith;
    }

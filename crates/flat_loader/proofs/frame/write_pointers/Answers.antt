use Rattle.std.proofs.Common.{◌≡◌, ◌+◌, ◌≤◌, ◌∙◌, length, drop, sym, ap, arith, rules}
use Rattle.byte_words.specs.ByteMap.{little_bytes}
use Rattle.byte_words.specs.Patches.{laid}
use Rattle.byte_words.proofs.Laid.{length-laid}
use Rattle.phys_mem.specs.Memory.{place}
use Rattle.flat_loader.specs.Frame.{texts}
use Rattle.flat_loader.proofs.Frames.{texts_more, length-texts_more, pointers_more, pointer_bytes}
use Rattle.flat_loader.proofs.frame.write_pointers.Goals as goal

pub loop-string-preserved : goal.loop-string-preserved
loop-string-preserved c =
    let ss = c.args.strings.now in
    let v = c.string-item.result in
    let i = c.loop-string.string-index in
    let m = c.loop-string.mem in
    let at = c.loop-string.at in
    let p = c.loop-string.place in
    let kept = c.loop-string.invariant in
    let rest = texts (drop (i + 1) ss) in
    let len : c.len.result ≡ length v.items = search rules in
    let inside : place at + 4 ≤ length m = omega arith in
    let less = length-texts_more ss i v c.loop-string-test.true c.string-item.is in
    record {
      bytes =
          ap (λ t. laid t (place (at + 4)) (pointer_bytes (p + (c.len.result + 1)) rest)) c.set32.ensures
          ∙ ap (λ k. laid (laid m (place at) (little_bytes 4 p)) (place (at + 4)) (pointer_bytes (p + (k + 1)) rest)) len
          ∙ pointers_more m at p v.items rest (omega arith) (omega arith)
          ∙ ap (λ ts. laid m (place at) (pointer_bytes p ts)) (sym (texts_more ss i v c.loop-string-test.true c.string-item.is))
          ∙ kept.bytes;
      len = ap length c.set32.ensures ∙ length-laid m (place at) (little_bytes 4 p) inside ∙ kept.len;
      at = omega arith;
      place = omega arith;
    }

-- The word stands behind what was there.
use Rattle.std.proofs.Common.{◌≡◌, ◌+◌, ℕ, List, length, ap, ◌∙◌, arith, length-append}
use Rattle.byte_words.specs.Numbers.{low_first, number_at}
use Rattle.call_log.specs.Sent.{read_span}
use Rattle.region_watch.specs.Private.{own_bytes}
use Rattle.call_bytes.proofs.ReadRanges.{read_length}
use Rattle.call_bytes.proofs.ReadStrings.{word_added}
use Rattle.call_bytes.proofs.reading.add_word.Goals as goal

pub word-requires : goal.word-requires
word-requires c =
    let m = own_bytes c.args.owners.now c.args.mem.now in
    let old : List ℕ = c.args.into.now.items in
    let w = word_added (read_span m (record { addr = c.args.addr; len = 4 })) old c.read_range.new.into.items c.in_ok-read_range.ensures.bytes in
    let four : length w.0 ≡ 4 = read_length m (record { addr = c.args.addr; len = 4 }) w.0 w.1 in
    let all : length c.read_range.new.into.items ≡ length old + length w.0 = ap (length {A = ℕ}) w.2 ∙ length-append old w.0 in
    omega (arith, four, all, ap (length {A = ℕ}) c.deref.ensures.value)

pub returns : goal.returns
returns c =
    let m = own_bytes c.args.owners.now c.args.mem.now in
    let w = word_added (read_span m (record { addr = c.args.addr; len = 4 })) c.args.into.now.items c.read_range.new.into.items c.in_ok-read_range.ensures.bytes in
    let from : c.len-from.result ≡ length c.args.into.now.items = omega arith in (
      w.0,
      w.1,
      w.2,
      c.word.ensures ∙ ap (λ (x : List ℕ). number_at low_first 4 x c.len-from.result) c.deref.ensures.value
          ∙ ap (number_at low_first 4 c.read_range.new.into.items) from ∙ w.3,
    )

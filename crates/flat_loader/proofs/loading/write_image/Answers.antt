use Rattle.std.proofs.Common.{◌+◌, ◌∙◌, length, slice_index, replicate, ap, arith}
use Rattle.byte_words.specs.Patches.{painted, laid}
use Rattle.phys_mem.specs.Memory.{place}
use Rattle.flat_loader.specs.Original.{flat_original, block_len}
use Rattle.flat_loader.specs.Placed.{links}
use Rattle.flat_loader.proofs.Blocks.{is_laid, block_holds, body_inside, length-cleared, length-copied}
use Rattle.flat_loader.proofs.loading.write_image.Goals as goal

pub copy_in-requires : goal.copy_in-requires
copy_in-requires c =
    let m = c.args.mem.now in
    let a = place c.args.block in
    let holds = block_holds (flat_original c.args.flat.now) in
    let cleared = length-cleared m c.clear.new.self a (block_len (flat_original c.args.flat.now)) (omega arith) (c.clear.ensures ∙ ap (λ n. laid m a (replicate n 0)) c.block_len.ensures.value) in
    let header = ap length c.header_bytes.ensures in
    (omega arith, omega arith)

pub copy_in-requires-2 : goal.copy_in-requires-2
copy_in-requires-2 c =
    let m = c.args.mem.now in
    let a = place c.args.block in
    let holds = body_inside c.args.flat.now c.body.ensures.spells in
    let cleared = length-cleared m c.clear.new.self a (block_len (flat_original c.args.flat.now)) (omega arith) (c.clear.ensures ∙ ap (λ n. laid m a (replicate n 0)) c.block_len.ensures.value) in
    let header = ap length c.header_bytes.ensures in
    let copied = length-copied c.clear.new.self c.copy_in.new.self a c.header_bytes.result (omega arith) c.copy_in.ensures in
    let body = ap length c.body.ensures.value in
    (omega arith, omega arith)

pub link_words-requires-clause-memory : goal.link_words-requires-clause-memory
link_words-requires-clause-memory c =
    let m = c.args.mem.now in
    let a = place c.args.block in
    let now = is_laid c.args.flat.now c.args.block m c.clear.new.self c.copy_in.new.self c.copy_in-2.new.self c.body.ensures.spells (omega arith) (omega arith)
    (c.clear.ensures ∙ ap (λ n. laid m a (replicate n 0)) c.block_len.ensures.value)
    (c.copy_in.ensures ∙ ap (laid c.clear.new.self a) c.header_bytes.ensures)
    (c.copy_in-2.ensures ∙ ap (laid c.copy_in.new.self (place (c.args.block + 64))) c.body.ensures.value) in
    let same = now.body in
    omega arith

pub returns-clause-bytes : goal.returns-clause-bytes
returns-clause-bytes c =
    let m = c.args.mem.now in
    let a = place c.args.block in
    let f = c.args.flat.now in
    let image = c.args.block + 64 in
    let now = is_laid f c.args.block m c.clear.new.self c.copy_in.new.self c.copy_in-2.new.self c.body.ensures.spells (omega arith) (omega arith)
    (c.clear.ensures ∙ ap (λ n. laid m a (replicate n 0)) c.block_len.ensures.value)
    (c.copy_in.ensures ∙ ap (laid c.clear.new.self a) c.header_bytes.ensures)
    (c.copy_in-2.ensures ∙ ap (laid c.copy_in.new.self (place image)) c.body.ensures.value) in
    c.link_words.ensures.bytes
    ∙ ap (λ b. painted (links b image c.records.result.now) (slice_index c.copy_in-2.new.self)) c.body-2.ensures.value
    ∙ ap (λ rs. painted (links f.body image rs) (slice_index c.copy_in-2.new.self)) c.records.ensures.value
    ∙ ap (painted (links f.body image f.records)) now.picture

pub returns-clause-length : goal.returns-clause-length
returns-clause-length c =
    let m = c.args.mem.now in
    let a = place c.args.block in
    let now = is_laid c.args.flat.now c.args.block m c.clear.new.self c.copy_in.new.self c.copy_in-2.new.self c.body.ensures.spells (omega arith) (omega arith)
    (c.clear.ensures ∙ ap (λ n. laid m a (replicate n 0)) c.block_len.ensures.value)
    (c.copy_in.ensures ∙ ap (laid c.clear.new.self a) c.header_bytes.ensures)
    (c.copy_in-2.ensures ∙ ap (laid c.copy_in.new.self (place (c.args.block + 64))) c.body.ensures.value) in
    c.link_words.ensures.length ∙ now.body

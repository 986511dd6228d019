use Rattle.std.proofs.Common.{◌≡◌, ℕ, ◌+◌, ◌∙◌, replicate, ap, arith}
use Rattle.std.specs.Prelude.{slice_set}
use Rattle.rv32im_step.specs.declared.regs.Regs.{Regs}
use Rattle.flat_loader.specs.Original.{flat_original, block_len}
use Rattle.flat_loader.specs.Frame.{texts, frame_len, frame_start}
use Rattle.flat_loader.specs.Begin.{begin_regs}
use Rattle.flat_loader.proofs.Blocks.{frame_short, is_placed}
use Rattle.flat_loader.proofs.Written.{IsWritten, is_written, others_kept, header_there, own_there}
use Rattle.flat_loader.proofs.loading.load_at.Goals as goal

pub overflow_cast-frame_len : goal.overflow_cast-frame_len
overflow_cast-frame_len c =
    let short = frame_short (flat_original c.args.flat.now) (texts c.args.args.now) (texts c.args.env.now) c.requires.fits in
    omega arith

pub frame_start-sp-requires : goal.frame_start-sp-requires
frame_start-sp-requires c =
    let short = frame_short (flat_original c.args.flat.now) (texts c.args.args.now) (texts c.args.env.now) c.requires.fits in
    omega arith

-- the stack pointer, by the numbers that the code has
same_start : (block n n' len len' sp : ℕ) → sp ≡ frame_start (block + n') len' → n' ≡ n → len' ≡ len → sp ≡ frame_start (block + n) len
same_start block n n' len len' sp is same_n same_len = is ∙ ap (λ k. frame_start (block + k) len') same_n ∙ ap (frame_start (block + n)) same_len

pub write_frame-requires-clause-within : goal.write_frame-requires-clause-within
write_frame-requires-clause-within c =
    let f = c.args.flat.now in
    let args = texts c.args.args.now in
    let env = texts c.args.env.now in
    let short = frame_short (flat_original f) args env c.requires.fits in
    let sp = same_start c.args.block (block_len (flat_original f)) c.block_len.result (frame_len args env) c.frame_len.result c.frame_start-sp.result
    c.frame_start-sp.ensures.value c.block_len.ensures.value (omega arith) in
    let placed = is_placed f c.args.block args env c.requires.page c.requires.fits in
    let above = placed.above in
    let inside = placed.inside in
    (omega arith, omega arith)

written : (c : goal.After-start_regs) → IsWritten c.args.flat.now c.args.block c.frame_start-sp.result (texts c.args.args.now) (texts c.args.env.now) c.args.mem.now c.write_frame.new.mem
written c =
    let f = c.args.flat.now in
    let args = texts c.args.args.now in
    let env = texts c.args.env.now in
    let short = frame_short (flat_original f) args env c.requires.fits in
    let sp = same_start c.args.block (block_len (flat_original f)) c.block_len.result (frame_len args env) c.frame_len.result c.frame_start-sp.result
    c.frame_start-sp.ensures.value c.block_len.ensures.value (omega arith) in
    is_written f c.args.block c.frame_start-sp.result args env c.args.mem.now c.write_image.new.mem c.write_frame.new.mem
    c.entry.ensures.spells (omega arith) (omega arith) c.requires.page c.requires.fits sp
    c.write_image.ensures.length c.write_image.ensures.bytes c.write_frame.ensures.mem

pub returns-clause-regs : goal.returns-clause-regs
unfolding begin_regs
returns-clause-regs c =
    let f = c.args.flat.now in
    let args = texts c.args.args.now in
    let env = texts c.args.env.now in
    let short = frame_short (flat_original f) args env c.requires.fits in
    let sp = same_start c.args.block (block_len (flat_original f)) c.block_len.result (frame_len args env) c.frame_len.result c.frame_start-sp.result
    c.frame_start-sp.ensures.value c.block_len.ensures.value (omega arith) in
    let regs : ℕ → ℕ → Regs = λ entry sp. record { pc = c.args.block + entry; x = slice_set (replicate 32 0) 2 sp } in
    c.start_regs.ensures ∙ ap (λ e. regs e c.frame_start-sp.result) c.entry.ensures.value ∙ ap (regs f.entry) sp

pub returns-clause-stands : goal.returns-clause-stands
returns-clause-stands c = record {
  own = own_there _ _ _ _ _ _ _ (written c);
  header = header_there _ _ _ _ _ _ _ (written c);
  others = others_kept _ _ _ _ _ _ _ (written c);
  len = c.write_frame.ensures.length ∙ c.write_image.ensures.length;
}

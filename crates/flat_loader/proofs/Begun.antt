-- The parts of a space at its start.
use Rattle.std.proofs.Common.{◌≡◌, ◌≢◌, ℕ, zero, suc, ◌+◌, ◌-◌, ◌%◌, ◌≤◌, ◌<◌, List, refl, sym, ap, ◌∙◌, arith, get_or, replicate}
use Rattle.std.specs.Prelude.{Some, None, unwrap_or, slice_get, slice_set}
use Rattle.std.proofs.Math.Dec.{eqb-suc-zero}
use Rattle.std.proofs.lemmas.Bool.{lt-ltb, le-ltb, lt-leb, le-leb}
use Rattle.std.proofs.lemmas.Option.{slice_get-get_or}
use Rattle.byte_words.specs.Patches.{from_base}
use Rattle.bflt_format.specs.Values.{Values, image_size}
use Rattle.bflt_format.specs.Image.{flat_image}
use Rattle.flat_loader.specs.Original.{flat_original, block_len}
use Rattle.flat_loader.specs.Frame.{frame_len, frame, frame_start}
use Rattle.rv32im_step.specs.Registers.{register}
use Rattle.flat_loader.specs.Begin.{Loading, flat_loading, block_end, stack_pointer, begin_byte, begin_bytes, begin_space, begin_regs}
use Rattle.flat_loader.specs.Laws.{ProgramsBegin}
use Rattle.flat_loader.proofs.Frames.{length-frame}
use Rattle.flat_loader.proofs.Blocks.{block_holds, frame_short, frame_in_stack, frame_start_in, is_placed}

frame_start_whole : (end len : ℕ) → frame_start end len % 16 ≡ 0
unfolding frame_start
frame_start_whole end len = omega arith

-- an own address
own_at : (l : Loading) (a : ℕ) → l.block + 64 ≤ a → a < block_end l → begin_bytes l a ≡ Some (begin_byte l a)
own_at l a from to =
    rw (le-leb (l.block + 64) a from, lt-ltb a (l.block + 64 + (block_len l.original - 64)) (omega arith)) refl

below_frame : (f : Values) (block : ℕ) (args env : List (List ℕ)) (a : ℕ) → a < stack_pointer (flat_loading f block args env) →
    begin_byte (flat_loading f block args env) a ≡ unwrap_or (flat_image f (block + 64) a) 0
below_frame f block args env a below = rw (lt-leb (stack_pointer (flat_loading f block args env)) a below) refl

image_some : (f : Values) (b n : ℕ) → n < image_size f → Some (unwrap_or (flat_image f b (b + n)) 0) ≡ flat_image f b (b + n)
unfolding flat_image from_base
image_some f b n below = rw (le-leb b (b + n) (omega arith), lt-ltb (b + n) (b + image_size f) (omega arith)) refl

image_none : (f : Values) (b a : ℕ) → b + image_size f ≤ a → unwrap_or (flat_image f b a) 0 ≡ 0
unfolding flat_image from_base
image_none f b a past = rw (le-leb b a (omega arith), le-ltb a (b + image_size f) past) refl

on_frame : (f : Values) (block : ℕ) (args env : List (List ℕ)) (n : ℕ) → n < frame_len args env →
    Some (begin_byte (flat_loading f block args env) (stack_pointer (flat_loading f block args env) + n)) ≡ slice_get (frame (stack_pointer (flat_loading f block args env)) args env) n
on_frame f block args env n below =
    let sp = stack_pointer (flat_loading f block args env) in
    let number : sp + n - sp ≡ n = omega arith in
    rw (le-leb sp (sp + n) (omega arith), lt-ltb (sp + n) (sp + frame_len args env) (omega arith), number)
    (sym (slice_get-get_or (frame sp args env) n 0 (omega (arith, length-frame sp args env))))

-- no other one is its own
below_own : (l : Loading) (a : ℕ) → a < l.block + 64 → begin_bytes l a ≡ None
below_own l a below = rw (lt-leb (l.block + 64) a below) refl

past_own : (l : Loading) (a : ℕ) → l.block + 64 ≤ block_end l → block_end l ≤ a → begin_bytes l a ≡ None
past_own l a some past = rw (le-leb (l.block + 64) a (omega (arith, some, past)), le-ltb a (l.block + 64 + (block_len l.original - 64)) (omega (arith, some, past))) refl

behind_frame : (f : Values) (block : ℕ) (args env : List (List ℕ)) (a : ℕ) → stack_pointer (flat_loading f block args env) + frame_len args env ≤ a →
    begin_byte (flat_loading f block args env) a ≡ unwrap_or (flat_image f (block + 64) a) 0
behind_frame f block args env a past =
    let sp = stack_pointer (flat_loading f block args env) in
    rw (le-leb sp a (omega (arith, past)), le-ltb a (sp + frame_len args env) past) refl

-- a higher multiple of 16 leaves too little room
frame_start_highest : (end len a : ℕ) → a % 16 ≡ 0 → a + len ≤ end → a ≤ frame_start end len
unfolding frame_start
frame_start_highest end len a whole fits = omega (arith, whole, fits)

-- ---- the registers

zeros_at : (n r : ℕ) → get_or (replicate {A = ℕ} n 0) r 0 ≡ 0
zeros_at zero r = refl
zeros_at (suc n) zero = refl
zeros_at (suc n) (suc r) = zeros_at n r

sp_at : (sp : ℕ) → register (slice_set (replicate 32 0) 2 sp) 2 ≡ sp
unfolding register
sp_at sp = refl

register_at : (sp r : ℕ) → r ≢ 2 → register (slice_set (replicate 32 0) 2 sp) r ≡ 0
unfolding register
register_at sp zero other = refl
register_at sp (suc zero) other = refl
register_at sp (suc (suc zero)) other = absurd (other refl)
register_at sp (suc (suc (suc r))) other = rw (eqb-suc-zero (suc (suc r))) (zeros_at 29 r)

pub programs_begin : ProgramsBegin
unfolding begin_space begin_regs
programs_begin f block args env page fits =
    let l = flat_loading f block args env in
    let o = flat_original f in
    let placed = is_placed f block args env page fits in
    let above = placed.above in
    let inside = placed.inside in
    let holds = block_holds o in
    let stack = frame_in_stack o args env fits in
    let start = frame_start_in block (block_len o) (frame_len args env) page (frame_short o args env fits) in
    record {
      image = λ n below.
          own_at l (block + 64 + n) (omega arith) (omega arith)
          ∙ ap (λ b. Some b) (below_frame f block args env (block + 64 + n) (omega arith)) ∙ image_some f (block + 64) n below;
      zeros = λ a from below.
          own_at l a (omega arith) (omega arith)
          ∙ ap (λ b. Some b) (below_frame f block args env a below ∙ image_none f (block + 64) a from);
      frame_bytes = λ n below. own_at l (stack_pointer l + n) (omega arith) (omega arith) ∙ on_frame f block args env n below;
      frame_end = inside;
      behind = λ a from below.
          own_at l a (omega (arith, from, above)) below
          ∙ ap (λ b. Some b) (behind_frame f block args env a from ∙ image_none f (block + 64) a (omega (arith, from, above)));
      below = below_own l;
      past = λ a from. past_own l a (omega (arith, above, inside)) from;
      highest = frame_start_highest (block + block_len o) (frame_len args env);
      pc = refl;
      sp = sp_at (stack_pointer l);
      registers = register_at (stack_pointer l);
      aligned = frame_start_whole (block + block_len o) (frame_len args env);
      brk_low = refl;
      brk_rises = omega arith;
      brk_high = omega arith;
    }

-- What a block holds.
use Rattle.std.proofs.Common.{◌≡◌, ℕ, ◌+◌, ◌%◌, ◌^◌, ◌≤◌, true, leb, List, length, replicate, slice_index, ap, ◌∙◌, arith}
use Rattle.std.proofs.lemmas.List.{length-replicate}
use Rattle.std.proofs.lemmas.Bool.{leb-true, and_parts}
use Rattle.byte_words.specs.Patches.{Patch, patched, laid}
use Rattle.byte_words.proofs.Laid.{laid_picture, length-laid}
use Rattle.phys_mem.specs.Memory.{place}
use Rattle.bflt_format.specs.Values.{Values, image_size}
use Rattle.bflt_format.specs.Spelling.{words_text, header_words, Spells}
use Rattle.flat_loader.specs.Frame.{frame_len, frame_start, frame_fits}
use Rattle.flat_loader.specs.Original.{Original, flat_original, stack_len, block_pages, block_len}

-- header, image and stack lie in the block
pub block_holds : (o : Original) → 64 + o.size + stack_len o ≤ block_len o
unfolding block_pages
block_holds o = omega arith

pub body_inside : (f : Values) → Spells f → 64 + length f.body ≤ block_len (flat_original f)
body_inside f spells =
    let holds = block_holds (flat_original f) in
    let body = spells.body in
    omega arith

-- zeros, header and body, laid one over the other
pub record IsLaid (f : Values) (block : ℕ) (m m1 m2 m3 : List ℕ) : Type 0 where
  pub zeros : length m1 ≡ length m
  pub header : length m2 ≡ length m
  pub body : length m3 ≡ length m
  pub picture : slice_index m3 ≡
      patched (record { at = place block + 64; bytes = f.body })
      (patched (record { at = place block; bytes = words_text (header_words f) })
      (patched (record { at = place block; bytes = replicate (block_len (flat_original f)) 0 }) (slice_index m)))

pub length-cleared :
    (m m1 : List ℕ) (at n : ℕ) → at + n ≤ length m → m1 ≡ laid m at (replicate n 0) → length m1 ≡ length m
length-cleared m m1 at n fits e =
    ap length e ∙ length-laid m at (replicate n 0) (omega (arith, length-replicate {A = ℕ} n 0))

pub length-copied :
    (m m1 : List ℕ) (at : ℕ) (bytes : List ℕ) → at + length bytes ≤ length m → m1 ≡ laid m at bytes → length m1 ≡ length m
length-copied m m1 at bytes fits e = ap length e ∙ length-laid m at bytes fits

pub is_laid :
    (f : Values) (block : ℕ) (m m1 m2 m3 : List ℕ) → Spells f → 2 ^ 31 ≤ block → place block + block_len (flat_original f) ≤ length m →
    m1 ≡ laid m (place block) (replicate (block_len (flat_original f)) 0) → m2 ≡ laid m1 (place block) (words_text (header_words f)) → m3 ≡ laid m2 (place (block + 64)) f.body →
    IsLaid f block m m1 m2 m3
is_laid f block m m1 m2 m3 spells above inside e1 e2 e3 =
    let n = block_len (flat_original f) in
    let a = place block in
    let holds = body_inside f spells in
    let l1 = length-cleared m m1 a n inside e1 in
    let l2 : length m2 ≡ length m1 = length-copied m1 m2 a (words_text (header_words f)) (omega arith) e2 in
    let here : place (block + 64) ≡ a + 64 = omega arith in
    let e : m3 ≡ laid m2 (a + 64) f.body = e3 ∙ ap (λ k. laid m2 k f.body) here in
    let l3 : length m3 ≡ length m2 = length-copied m2 m3 (a + 64) f.body (omega arith) e in
    let z : Patch = record { at = a; bytes = replicate n 0 } in
    let h : Patch = record { at = a; bytes = words_text (header_words f) } in
    let b : Patch = record { at = a + 64; bytes = f.body } in
    record {
      zeros = l1;
      header = l2 ∙ l1;
      body = l3 ∙ l2 ∙ l1;
      picture =
          ap slice_index e ∙ laid_picture m2 b (omega arith)
          ∙ ap (patched b) (ap slice_index e2 ∙ laid_picture m1 h (omega arith))
          ∙ ap (λ t. patched b (patched h t)) (ap slice_index e1 ∙ laid_picture m z (omega (arith, length-replicate {A = ℕ} n 0)));
    }

-- ---- where the frame stands

pub record IsPlaced (f : Values) (block sp len : ℕ) : Type 0 where
  -- the frame begins at the stack pointer, behind the image, and ends in the block
  pub above : block + 64 + image_size f ≤ sp
  pub inside : sp + len ≤ block + block_len (flat_original f)

pub frame_start_in : (block n len : ℕ) → block % 4096 ≡ 0 → len ≤ n → frame_start (block + n) len ≡ block + frame_start n len
unfolding frame_start
frame_start_in block n len page fits = omega arith

frame_start_ends : (n len : ℕ) → len ≤ n → frame_start n len + len ≤ n
unfolding frame_start
frame_start_ends n len fits = omega arith

pub frame_short : (o : Original) (args env : List (List ℕ)) → frame_fits o args env ≡ true → frame_len args env ≤ block_len o
unfolding frame_fits
frame_short o args env fits = leb-true _ _ (and_parts (leb (frame_len args env) (block_len o)) _ fits).0

pub frame_in_stack : (o : Original) (args env : List (List ℕ)) → frame_fits o args env ≡ true → block_len o ≤ frame_start (block_len o) (frame_len args env) + stack_len o
unfolding frame_fits
frame_in_stack o args env fits = leb-true _ _ (and_parts (leb (frame_len args env) (block_len o)) _ fits).1

pub is_placed :
    (f : Values) (block : ℕ) (args env : List (List ℕ)) → block % 4096 ≡ 0 → frame_fits (flat_original f) args env ≡ true →
    IsPlaced f block (frame_start (block + block_len (flat_original f)) (frame_len args env)) (frame_len args env)
is_placed f block args env page fits =
    let o = flat_original f in
    let short = frame_short o args env fits in
    let stack = frame_in_stack o args env fits in
    let start = frame_start_in block (block_len o) (frame_len args env) page short in
    let end = frame_start_ends (block_len o) (frame_len args env) short in
    let holds = block_holds o in
    record { above = omega arith; inside = omega arith }

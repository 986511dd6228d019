-- Memory after loading, by address.
use Rattle.std.proofs.Common.{◌≡◌, ℕ, ◌+◌, ◌-◌, ◌%◌, ◌^◌, ◌≤◌, ◌<◌, Bool, true, false, leb, ltb, ◌⊎◌, inl, inr, List, ◌++◌, length, get_or, take, drop, slice_index, refl, sym, ap, ◌∙◌, arith}
use Rattle.std.specs.Prelude.{Some, None, unwrap_or, ◌&&◌, if◌then◌else◌, slice_get, slice_range}
use Rattle.std.proofs.lemmas.Bool.{cases_lt, lt-ltb, le-ltb, lt-leb, le-leb, leb-true, ltb-true, and_parts}
use Rattle.std.proofs.lemmas.List.{length-take, length-drop, get_or-take, get_or-drop, ext_get_or, take_at}
use Rattle.std.proofs.lemmas.Option.{slice_get-get_or, slice_get_past}
use Rattle.byte_words.specs.ByteMap.{byte_of}
use Rattle.byte_words.specs.Patches.{Patch, spans, patched, painted, laid}
use Rattle.byte_words.proofs.Painting.{spans_within, patched_on, patched_off, spans_below, spans_past}
use Rattle.byte_words.proofs.Laid.{laid_picture, length-laid}
use Rattle.phys_mem.specs.Memory.{place}
use Rattle.bflt_format.specs.Values.{Values}
use Rattle.bflt_format.specs.Spelling.{spell, words_text, header_words, Spells}
use Rattle.bflt_format.specs.Image.{flat_image}
use Rattle.mmap_rules.specs.Space.{in_range}
use Rattle.flat_loader.specs.Original.{flat_original, block_len}
use Rattle.flat_loader.specs.Frame.{frame_len, frame, frame_fits}
use Rattle.flat_loader.specs.Begin.{flat_loading, stack_pointer, own_range, in_block, begin_bytes}
use Rattle.flat_loader.specs.Placed.{image_patches}
use Rattle.flat_loader.proofs.Frames.{length-frame}
use Rattle.flat_loader.proofs.Blocks.{IsPlaced, is_placed}
use Rattle.flat_loader.proofs.Images.{image_own, image_header, image_outside, image_byte_is}

-- ---- an array of bytes as a map

slice_get_same : (xs ys : List ℕ) (i : ℕ) → length xs ≡ length ys → get_or xs i 0 ≡ get_or ys i 0 → slice_get xs i ≡ slice_get ys i
slice_get_same xs ys i len same = elim (cases_lt i (length ys)) [
  | inl below ↦ slice_get-get_or xs i 0 (omega arith) ∙ ap (λ b. Some b) same ∙ sym (slice_get-get_or ys i 0 below)
  | inr past ↦ slice_get_past xs i (omega arith) ∙ sym (slice_get_past ys i past)
]

pub byte_of_same : (xs ys : List ℕ) (a : ℕ) → length xs ≡ length ys → (2 ^ 31 ≤ a → get_or xs (place a) 0 ≡ get_or ys (place a) 0) → byte_of (2 ^ 31) xs a ≡ byte_of (2 ^ 31) ys a
byte_of_same xs ys a len same = elim (cases_lt a (2 ^ 31)) [
  | inl below ↦ rw (lt-leb (2 ^ 31) a below) refl
  | inr above ↦ rw (le-leb (2 ^ 31) a above) (slice_get_same xs ys (place a) len (same above))
]

byte_of_at : (xs : List ℕ) (a : ℕ) → 2 ^ 31 ≤ a → place a < length xs → byte_of (2 ^ 31) xs a ≡ Some (slice_index xs (place a))
byte_of_at xs a above inside = rw (le-leb (2 ^ 31) a above) (slice_get-get_or xs (place a) 0 inside)

-- ---- what is known of memory before and after loading

pub record IsWritten (f : Values) (block sp : ℕ) (args env : List (List ℕ)) (old now : List ℕ) : Type 0 where
  pub spells : Spells f
  pub above : 2 ^ 31 ≤ block
  pub inside : place block + block_len (flat_original f) ≤ length old
  pub placed : IsPlaced f block sp (frame_len args env)
  pub pointer : sp ≡ stack_pointer (flat_loading f block args env)
  pub len : length now ≡ length old
  pub picture : slice_index now ≡ patched (record { at = place sp; bytes = frame sp args env }) (painted (image_patches f block) (slice_index old))

-- the image is written, then the frame over it
pub is_written :
    (f : Values) (block sp : ℕ) (args env : List (List ℕ)) (old mid now : List ℕ) → Spells f → 2 ^ 31 ≤ block → place block + block_len (flat_original f) ≤ length old →
    block % 4096 ≡ 0 → frame_fits (flat_original f) args env ≡ true → sp ≡ stack_pointer (flat_loading f block args env) →
    length mid ≡ length old → slice_index mid ≡ painted (image_patches f block) (slice_index old) → now ≡ laid mid (place sp) (frame sp args env) →
    IsWritten f block sp args env old now
is_written f block sp args env old mid now spells above inside page fits pointer len image frame_is =
    let there = is_placed f block args env page fits in
    let frame_above = there.above in
    let frame_inside = there.inside in
    let p : Patch = record { at = place sp; bytes = frame sp args env } in
    let room : place sp + length (frame sp args env) ≤ length mid = omega (arith, length-frame sp args env) in
    record {
      spells = spells;
      above = above;
      inside = inside;
      placed = record { above = omega arith; inside = omega arith };
      pointer = pointer;
      len = ap length frame_is ∙ length-laid mid (place sp) (frame sp args env) room ∙ len;
      picture = ap slice_index frame_is ∙ laid_picture mid p room ∙ ap (patched p) image;
    }

abbrev frame_patch : ℕ → List (List ℕ) → List (List ℕ) → Patch
frame_patch sp args env = record { at = place sp; bytes = frame sp args env }

-- ---- outside the block

outside_byte :
    (f : Values) (block sp : ℕ) (args env : List (List ℕ)) (old now : List ℕ) (i : ℕ) → IsWritten f block sp args env old now →
    (i < place block) ⊎ (place block + block_len (flat_original f) ≤ i) → get_or now i 0 ≡ get_or old i 0
outside_byte f block sp args env old now i h outside =
    let p = frame_patch sp args env in
    let len = length-frame sp args env in
    let frame_above = h.placed.above in
    let frame_inside = h.placed.inside in
    let above = h.above in
    let off : spans p i ≡ false = elim outside [
      | inl below ↦ spans_below p i (omega arith)
      | inr past ↦ spans_past p i (omega arith)
    ] in
    ap (λ m. m i) h.picture ∙ patched_off p (painted (image_patches f block) (slice_index old)) i off
    ∙ image_outside f block (slice_index old) i h.spells h.above outside

pub outside_cases : (block n a : ℕ) → (leb block a && ltb a (block + n)) ≡ false → (a < block) ⊎ (block + n ≤ a)
outside_cases block n a out = elim (cases_lt a block) [
  | inl below ↦ inl below
  | inr from ↦ elim (cases_lt a (block + n)) [
    | inl to ↦ absurd (let on : (leb block a && ltb a (block + n)) ≡ true = rw (le-leb block a from, lt-ltb a (block + n) to) refl in let bad : true ≡ false = sym on ∙ out in cc)
    | inr past ↦ inr past
  ]
]

pub others_kept :
    (f : Values) (block sp : ℕ) (args env : List (List ℕ)) (old now : List ℕ) → IsWritten f block sp args env old now →
    (a : ℕ) → in_block (flat_loading f block args env) a ≡ false → byte_of (2 ^ 31) now a ≡ byte_of (2 ^ 31) old a
others_kept f block sp args env old now h a out =
    let above = h.above in
    byte_of_same now old a h.len (λ from. outside_byte f block sp args env old now (place a) h (elim (outside_cases block (block_len (flat_original f)) a out) [
      | inl below ↦ inl (omega arith)
      | inr past ↦ inr (omega arith)
    ]))

-- ---- the header

pub header_there :
    (f : Values) (block sp : ℕ) (args env : List (List ℕ)) (old now : List ℕ) → IsWritten f block sp args env old now →
    slice_range now (place block) (place block + 64) ≡ take 64 (spell f)
unfolding spell
header_there f block sp args env old now h =
    let header = words_text (header_words f) in
    let n = place block in
    let p = frame_patch sp args env in
    let above = h.above in
    let frame_above = h.placed.above in
    let inside = h.inside in
    let frame_inside = h.placed.inside in
    let size : n + 64 - n ≡ 64 = omega arith in
    let room : n + 64 ≤ length now = (let same = h.len in omega arith) in
    let whole : slice_range now n (n + 64) ≡ take 64 (drop n now) = ap (λ k. take k (drop n now)) size in
    let len : length (take 64 (drop n now)) ≡ 64 = omega (arith, length-take 64 (drop n now), length-drop n now) in
    whole
    ∙ ext_get_or 0 (take 64 (drop n now)) header len
    (λ k below.
    let small : k < 64 = omega arith in
    get_or-take 64 (drop n now) k 0 small ∙ get_or-drop n now k 0
    ∙ ap (λ m. m (n + k)) h.picture
    ∙ patched_off p (painted (image_patches f block) (slice_index old)) (n + k) (spans_below p (n + k) (omega arith))
    ∙ image_header f block (slice_index old) k above small)
    ∙ sym (take_at header (f.body ++ words_text f.records) 64 refl)

-- ---- the program's own bytes

own_byte :
    (f : Values) (block sp : ℕ) (args env : List (List ℕ)) (old now : List ℕ) (a : ℕ) → IsWritten f block sp args env old now →
    block + 64 ≤ a → a < block + block_len (flat_original f) →
    slice_index now (place a) ≡ (if leb sp a && ltb a (sp + frame_len args env) then slice_index (frame sp args env) (a - sp) else unwrap_or (flat_image f (block + 64) a) 0)
own_byte f block sp args env old now a h from to =
    let p = frame_patch sp args env in
    let len = length-frame sp args env in
    let above = h.above in
    let frame_above = h.placed.above in
    let i = place a in
    let image = painted (image_patches f block) (slice_index old) in
    let j = a - (block + 64) in
    let number : i ≡ place block + 64 + j = omega arith in
    let below : 64 + j < block_len (flat_original f) = omega arith in
    let image_there : image i ≡ unwrap_or (flat_image f (block + 64) a) 0 =
    ap image number ∙ image_own f block (slice_index old) j h.spells above below ∙ sym (image_byte_is f (block + 64) a h.spells from) in
    let on_frame = slice_index (frame sp args env) (a - sp) in
    let off_frame = unwrap_or (flat_image f (block + 64) a) 0 in
    let pick : Bool → ℕ = λ t. if t then on_frame else off_frame in
    ap (λ m. m i) h.picture
    ∙ elim (cases_lt a sp) as (λ _. patched p image i ≡ pick (leb sp a && ltb a (sp + frame_len args env))) [
      | inl before ↦ patched_off p image i (spans_below p i (omega arith)) ∙ image_there ∙ rw (lt-leb sp a before) refl
      | inr behind ↦ elim (cases_lt a (sp + frame_len args env)) as (λ _. patched p image i ≡ pick (leb sp a && ltb a (sp + frame_len args env))) [
        | inl on ↦
            let place_on : i - place sp ≡ a - sp = omega arith in
            patched_on p image i (spans_within p i (record { from = omega arith; to = omega arith })) ∙ ap (slice_index (frame sp args env)) place_on
            ∙ rw (le-leb sp a behind, lt-ltb a (sp + frame_len args env) on) refl
        | inr past ↦
            patched_off p image i (spans_past p i (omega arith)) ∙ image_there ∙ rw (le-leb sp a behind, le-ltb a (sp + frame_len args env) past) refl
      ]
    ]

pub own_there :
    (f : Values) (block sp : ℕ) (args env : List (List ℕ)) (old now : List ℕ) → IsWritten f block sp args env old now →
    (a : ℕ) → in_range (own_range (flat_loading f block args env)) a ≡ true → byte_of (2 ^ 31) now a ≡ begin_bytes (flat_loading f block args env) a
own_there f block sp args env old now h a own =
    let l = flat_loading f block args env in
    let n = block_len (flat_original f) in
    let both = and_parts (leb (block + 64) a) (ltb a (block + 64 + (n - 64))) own in
    let from : block + 64 ≤ a = leb-true _ _ both.0 in
    let to : a < block + 64 + (n - 64) = ltb-true _ _ both.1 in
    let above = h.above in
    let inside = h.inside in
    let len = h.len in
    let frame_above = h.placed.above in
    let frame_inside = h.placed.inside in
    let byte : ℕ → ℕ = λ s. if leb s a && ltb a (s + frame_len args env) then slice_index (frame s args env) (a - s) else unwrap_or (flat_image f (block + 64) a) 0 in
    byte_of_at now a (omega arith) (omega arith)
    ∙ ap (λ b. Some b) (own_byte f block sp args env old now a h from (omega arith) ∙ ap byte h.pointer)
    ∙ sym (ap (λ t. if t then Some (byte (stack_pointer l)) else None) own)

-- The bytes of a loaded image, by place: zeros, header, body and links, one over the other.
use Rattle.std.proofs.Common.{◌≡◌, ℕ, ◌+◌, ◌-◌, ◌^◌, ◌≤◌, ◌<◌, leb, ltb, ◌⊎◌, inl, inr, length, get_or, map, replicate, slice_index, refl, sym, ap, ◌∙◌, arith}
use Rattle.std.specs.Prelude.{Some, None, unwrap_or, ◌&&◌, if◌then◌else◌}
use Rattle.std.proofs.lemmas.Bool.{cases_lt, lt-ltb, le-ltb, le-leb}
use Rattle.std.proofs.lemmas.List.{length-replicate, get_or-replicate, get_or_past}
use Rattle.byte_words.specs.Patches.{Patch, patched, painted, from_base}
use Rattle.byte_words.proofs.Painting.{spans_within, patched_on, patched_off, painted_same, spans_below, spans_past}
use Rattle.phys_mem.specs.Memory.{place}
use Rattle.bflt_format.specs.Values.{Values, image_size}
use Rattle.bflt_format.specs.Spelling.{words_text, header_words, Spells}
use Rattle.bflt_format.specs.Image.{link, flat_image}
use Rattle.flat_loader.specs.Original.{flat_original, block_len}
use Rattle.flat_loader.specs.Placed.{links, image_patches}
use Rattle.flat_loader.proofs.Pictures.{links_past, links_below, links_moved}
use Rattle.flat_loader.proofs.Blocks.{body_inside}

abbrev zeros : Values → ℕ → Patch
zeros f block = record { at = place block; bytes = replicate (block_len (flat_original f)) 0 }

abbrev header : Values → ℕ → Patch
header f block = record { at = place block; bytes = words_text (header_words f) }

abbrev body : Values → ℕ → Patch
body f block = record { at = place block + 64; bytes = f.body }

-- below the links
abbrev base : Values → ℕ → (ℕ → ℕ) → ℕ → ℕ
base f block m = patched (body f block) (patched (header f block) (patched (zeros f block) m))

-- the image's byte of that number, links and all
abbrev pub linked : Values → ℕ → ℕ → ℕ
linked f b = painted (map (link f.body b) f.records) (slice_index f.body)

base_byte :
    (f : Values) (block : ℕ) (m : ℕ → ℕ) (j : ℕ) → Spells f → 64 + j < block_len (flat_original f) → base f block m (place block + 64 + j) ≡ slice_index f.body j
base_byte f block m j spells inside =
    let i = place block + 64 + j in
    let n = block_len (flat_original f) in
    let len = length-replicate {A = ℕ} n 0 in
    elim (cases_lt j (length f.body)) [
      | inl stored ↦
          let number : i - (place block + 64) ≡ j = omega arith in
          patched_on (body f block) (patched (header f block) (patched (zeros f block) m)) i (spans_within (body f block) i (record { from = omega arith; to = omega arith }))
          ∙ ap (λ k. get_or f.body k 0) number
      | inr past ↦
          let small : i - place block < n = omega arith in
          patched_off (body f block) (patched (header f block) (patched (zeros f block) m)) i (spans_past (body f block) i (omega arith))
          ∙ patched_off (header f block) (patched (zeros f block) m) i (spans_past (header f block) i (omega arith))
          ∙ patched_on (zeros f block) m i (spans_within (zeros f block) i (record { from = omega arith; to = omega arith }))
          ∙ get_or-replicate n (i - place block) 0 0 small
          ∙ sym (get_or_past f.body j 0 past)
    ]

base_outside :
    (f : Values) (block : ℕ) (m : ℕ → ℕ) (i : ℕ) → Spells f → (i < place block) ⊎ (place block + block_len (flat_original f) ≤ i) → base f block m i ≡ m i
base_outside f block m i spells outside =
    let len = length-replicate {A = ℕ} (block_len (flat_original f)) 0 in
    let holds = body_inside f spells in
    elim outside [
      | inl below ↦
          patched_off (body f block) (patched (header f block) (patched (zeros f block) m)) i (spans_below (body f block) i (omega arith))
          ∙ patched_off (header f block) (patched (zeros f block) m) i (spans_below (header f block) i below)
          ∙ patched_off (zeros f block) m i (spans_below (zeros f block) i below)
      | inr past ↦
          patched_off (body f block) (patched (header f block) (patched (zeros f block) m)) i (spans_past (body f block) i (omega arith))
          ∙ patched_off (header f block) (patched (zeros f block) m) i (spans_past (header f block) i (omega arith))
          ∙ patched_off (zeros f block) m i (spans_past (zeros f block) i (omega arith))
    ]

-- an address's place, where the body stands 64 bytes into the block
body_place : (block : ℕ) → 2 ^ 31 ≤ block → place (block + 64) ≡ place block + 64
body_place block above = omega arith

-- ---- after loading

pub image_own :
    (f : Values) (block : ℕ) (m : ℕ → ℕ) (j : ℕ) → Spells f → 2 ^ 31 ≤ block → 64 + j < block_len (flat_original f) →
    painted (image_patches f block) m (place block + 64 + j) ≡ linked f (block + 64) j
image_own f block m j spells above inside =
    let b = block + 64 in
    let here = body_place block above in
    let there : place b + j ≡ place block + 64 + j = omega arith in
    sym (ap (painted (links f.body b f.records) (base f block m)) there)
    ∙ links_moved f.body b f.records (base f block m) j
    ∙ painted_same (map (link f.body b) f.records) (λ k. base f block m (place b + k)) (slice_index f.body) j
    (ap (base f block m) there ∙ base_byte f block m j spells inside)

pub image_header :
    (f : Values) (block : ℕ) (m : ℕ → ℕ) (k : ℕ) → 2 ^ 31 ≤ block → k < 64 →
    painted (image_patches f block) m (place block + k) ≡ slice_index (words_text (header_words f)) k
image_header f block m k above small =
    let b = block + 64 in
    let i = place block + k in
    let here = body_place block above in
    let number : i - place block ≡ k = omega arith in
    links_below f.body b f.records (base f block m) i (omega arith)
    ∙ patched_off (body f block) (patched (header f block) (patched (zeros f block) m)) i (spans_below (body f block) i (omega arith))
    ∙ patched_on (header f block) (patched (zeros f block) m) i (spans_within (header f block) i (record { from = omega arith; to = omega arith }))
    ∙ ap (slice_index (words_text (header_words f))) number

pub image_outside :
    (f : Values) (block : ℕ) (m : ℕ → ℕ) (i : ℕ) → Spells f → 2 ^ 31 ≤ block → (i < place block) ⊎ (place block + block_len (flat_original f) ≤ i) →
    painted (image_patches f block) m i ≡ m i
image_outside f block m i spells above outside =
    let b = block + 64 in
    let here = body_place block above in
    let holds = body_inside f spells in
    elim outside [
      | inl below ↦ links_below f.body b f.records (base f block m) i (omega arith) ∙ base_outside f block m i spells (inl below)
      | inr past ↦
          let j = i - place b in
          let there : place b + j ≡ i = omega arith in
          let behind : length f.body ≤ j = omega arith in
          let body_len = spells.body in
          sym (ap (painted (links f.body b f.records) (base f block m)) there)
          ∙ links_moved f.body b f.records (base f block m) j
          ∙ links_past f.body b f.records (λ k. base f block m (place b + k)) (length f.body) j (λ k below. (let inside = spells.inside k below in omega arith)) behind
          ∙ ap (base f block m) there
          ∙ base_outside f block m i spells (inr past)
    ]

-- the definition of the image, and zeros behind it
pub image_byte_is :
    (f : Values) (b a : ℕ) → Spells f → b ≤ a → unwrap_or (flat_image f b a) 0 ≡ linked f b (a - b)
unfolding flat_image from_base
image_byte_is f b a spells from =
    let body_len = spells.body in
    elim (cases_lt a (b + image_size f)) [
      | inl to ↦ rw (le-leb b a from, lt-ltb a (b + image_size f) to) refl
      | inr past ↦
          let last : unwrap_or (if leb b a && ltb a (b + image_size f) then Some (linked f b (a - b)) else None) 0 ≡ 0 = rw (le-leb b a from, le-ltb a (b + image_size f) past) refl in
          last
          ∙ sym (links_past f.body b f.records (slice_index f.body) (length f.body) (a - b) (λ k below. (let inside = spells.inside k below in omega arith)) (omega arith)
          ∙ get_or_past f.body (a - b) 0 (omega arith))
    ]

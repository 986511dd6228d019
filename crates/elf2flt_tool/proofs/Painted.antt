-- Bytes laid over a list of bytes, as a picture.
use Rattle.std.proofs.Common.{◌≡◌, ℕ, ◌+◌, ◌≤◌, true, false, List, inl, inr, [], ◌∷◌, ◌++◌, length, get_or, replicate, take, refl, sym, ap, ◌∙◌, append_assoc, arith}
use Rattle.std.proofs.lemmas.List.{length-append, length-replicate, get_or-replicate, take_at, drop_at}
use Rattle.std.proofs.lemmas.Bool.{cases_lt, and_parts}
use Rattle.elf32_reader.specs.declared.section.Section.{Section}
use Rattle.elf32_reader.specs.Sections.{section, is_allocated, is_stored, has_content, content}
use Rattle.elf32_reader.proofs.Places.{allocated_has_content}
use Rattle.byte_words.specs.Patches.{Patch, spans, patched, painted, bytes_below, laid}
use Rattle.byte_words.proofs.Laid.{laid_picture, length-laid}
use Rattle.byte_words.proofs.Painting.{bytes_below_list, bytes_below_same, length-bytes_below, byte_below, patched_off, painted_same, spans_below, spans_past}
use Rattle.bflt_format.specs.Flat.{behind_header}
use Rattle.flat_layout.specs.Numbering.{has_bytes}
use Rattle.flat_layout.specs.Layout.{layout, off}
use Rattle.elf2flt_tool.specs.Image.{section_patch}

-- a list with a patch laid over it is the picture's bytes
pub laid-below : (old : List ℕ) (p : Patch) → p.at + length p.bytes ≤ length old
    → laid old p.at p.bytes ≡ bytes_below (length old) (patched p (λ i. get_or old i 0))
laid-below old p fits =
    sym (bytes_below_list (laid old p.at p.bytes))
    ∙ ap (λ n. bytes_below n (λ i. get_or (laid old p.at p.bytes) i 0)) (length-laid old p.at p.bytes fits)
    ∙ ap (bytes_below (length old)) (laid_picture old p fits)

spans_nothing : (at i : ℕ) → spans (record { at = at; bytes = [] }) i ≡ false
spans_nothing at i = elim (cases_lt i at) [
  | inl below ↦ spans_below (record { at = at; bytes = [] }) i below
  | inr past ↦ spans_past (record { at = at; bytes = [] }) i (omega arith)
]

-- a patch without bytes changes nothing
pub laid-nothing : (old : List ℕ) (at : ℕ) → old ≡ bytes_below (length old) (patched (record { at = at; bytes = [] }) (λ i. get_or old i 0))
laid-nothing old at =
    sym (bytes_below_list old)
    ∙ bytes_below_same (length old) (λ i. get_or old i 0) (patched (record { at = at; bytes = [] }) (λ i. get_or old i 0))
    (λ i below. sym (patched_off (record { at = at; bytes = [] }) (λ k. get_or old k 0) i (spans_nothing at i)))

pub section_patch-stored : (e : List ℕ) (i : ℕ) → has_bytes (section e i) ≡ true
    → section_patch e i ≡ record { at = off (layout e) (section e i).addr; bytes = content e (section e i) }
unfolding section_patch
section_patch-stored e i is = rw is refl

pub section_patch-other : (e : List ℕ) (i : ℕ) → has_bytes (section e i) ≡ false
    → section_patch e i ≡ record { at = off (layout e) (section e i).addr; bytes = [] }
unfolding section_patch
section_patch-other e i is = rw is refl

-- what has bytes in the image has content in the file
pub record IsStored (s : Section) : Type 0 where
  pub allocated : is_allocated s ≡ true
  pub stored : is_stored s ≡ true
  pub content : has_content s ≡ true

pub is_stored_of : (s : Section) → has_bytes s ≡ true → IsStored s
is_stored_of s is =
    let last = and_parts _ _ is in
    let first = and_parts _ _ last.0 in
    record { allocated = first.0; stored = last.1; content = allocated_has_content s first.0 last.1 }

pub painted-push : (ps : List Patch) (p : Patch) (m : ℕ → ℕ) → painted (ps ++ p ∷ []) m ≡ patched p (painted ps m)
painted-push [] p m = refl
painted-push (q ∷ qs) p m = painted-push qs p (patched q m)

-- what was painted so far, as a list of bytes, with one more patch
pub below-push : (n : ℕ) (ps : List Patch) (p : Patch) (m : ℕ → ℕ)
    → bytes_below n (patched p (λ i. get_or (bytes_below n (painted ps m)) i 0)) ≡ bytes_below n (painted (ps ++ p ∷ []) m)
below-push n ps p m =
    bytes_below_same n (patched p (λ i. get_or (bytes_below n (painted ps m)) i 0)) (patched p (painted ps m))
    (λ i below. painted_same (p ∷ []) (λ k. get_or (bytes_below n (painted ps m)) k 0) (painted ps m) i (byte_below n (painted ps m) i below))
    ∙ ap (bytes_below n) (sym (painted-push ps p m))

pub below-zeros : (n : ℕ) → replicate n 0 ≡ bytes_below n (λ i. 0)
below-zeros n =
    sym (bytes_below_list (replicate n 0))
    ∙ ap (λ k. bytes_below k (λ i. get_or (replicate n 0) i 0)) (length-replicate n 0)
    ∙ bytes_below_same n (λ i. get_or (replicate n 0) i 0) (λ i. 0) (λ i below. get_or-replicate n i 0 0 below)

-- one more patch laid over the bytes that were painted so far
pub laid-push : (n : ℕ) (ps : List Patch) (p : Patch) (m : ℕ → ℕ) → p.at + length p.bytes ≤ n
    → laid (bytes_below n (painted ps m)) p.at p.bytes ≡ bytes_below n (painted (ps ++ p ∷ []) m)
laid-push n ps p m fits =
    let len = length-bytes_below n (painted ps m) in
    laid-below (bytes_below n (painted ps m)) p (rw len fits)
    ∙ ap (λ k. bytes_below k (patched p (λ i. get_or (bytes_below n (painted ps m)) i 0))) len
    ∙ below-push n ps p m

-- a file whose image was written, behind the header as it was
file_back : (n : ℕ) (header image rest more : List ℕ) → length header + length image ≡ n → take n ((header ++ (image ++ rest)) ++ more) ≡ header ++ image
file_back n header image rest more is =
    ap (take n) (append_assoc header (image ++ rest) more ∙ ap (λ xs. header ++ xs) (append_assoc image rest more) ∙ sym (append_assoc header image (rest ++ more)))
    ∙ take_at (header ++ image) (rest ++ more) n (length-append header image ∙ is)

pub header_back : (n : ℕ) (header image rest more : List ℕ) → length header ≡ 64 → length header + length image ≡ n → 64 ≤ length (take n ((header ++ (image ++ rest)) ++ more))
header_back n header image rest more len is =
    let back = ap length (file_back n header image rest more is) ∙ length-append header image in
    omega (arith, back, len)

pub image_back : (n : ℕ) (header image rest more : List ℕ) → length header ≡ 64 → length header + length image ≡ n → behind_header (take n ((header ++ (image ++ rest)) ++ more)) ≡ image
image_back n header image rest more len is = ap behind_header (file_back n header image rest more is) ∙ drop_at header image 64 len

-- The laws of the conversion: the flat file says what the file is converted to, has no fault, and loads to the file's image.
use Rattle.std.proofs.Common.{◌≡◌, ℕ, ◌≤◌, not, List, map, filter, None, ap, sym, ◌∙◌}
use Rattle.byte_words.specs.Numbers.{IsBytes}
use Rattle.byte_words.specs.Patches.{painted, from_base}
use Rattle.bflt_format.specs.Header.{flat_values}
use Rattle.bflt_format.specs.Image.{flat_image}
use Rattle.bflt_format.proofs.Spelled.{values_back, no_fault}
use Rattle.bflt_format.proofs.Links as links
use Rattle.flat_layout.specs.Layout.{layout, off, size_of}
use Rattle.flat_layout.proofs.Facts.{clear_numbers}
use Rattle.elf2flt_tool.specs.Relocs.{fields_of}
use Rattle.elf2flt_tool.specs.Image.{bare, word_patch, overwritten, pointers, relocated, image}
use Rattle.elf2flt_tool.specs.Fault.{fault}
use Rattle.elf2flt_tool.specs.Converted.{converted, flat}
use Rattle.elf2flt_tool.specs.Laws.{ImageLaw, FlatLaw}
use Rattle.elf2flt_tool.proofs.Laid.{is_laid}
use Rattle.elf2flt_tool.proofs.Bare.{bare_fits, bare_zero}
use Rattle.elf2flt_tool.proofs.Raised.{raised}
use Rattle.elf2flt_tool.proofs.Held.{IsHeld}
use Rattle.elf2flt_tool.proofs.Stills.{overwritten_same, stills_raised, pointers_raised, each-filter}
use Rattle.elf2flt_tool.proofs.Recorded.{IsClear, is_clear, is_linked, all_held, all_raised}
use Rattle.elf2flt_tool.proofs.Listed.{target_at, places_of, addressed_are}
use Rattle.elf2flt_tool.proofs.Spelled.{stored_is, size_is, body_is, records_of_are, words_of_flat, spells_converted}

-- the fields that stay leave the linked bytes as they are
stills_same : (e : List ℕ) (d : ℕ) → IsBytes e → IsClear e → overwritten (layout e) (filter (λ f. not f.recorded) (map (raised d) (fields_of e 0))) (bare e) ≡ bare e
stills_same e d bytes clear =
    ap (λ fs. overwritten (layout e) fs (bare e)) (stills_raised d (fields_of e 0))
    ∙ overwritten_same e (filter (λ f. not f.recorded) (fields_of e 0)) (bare_fits e bytes)
    (each-filter (IsHeld e) (λ f. not f.recorded) (fields_of e 0) (all_held e bytes (is_linked e clear)))

relocated_is : (e : List ℕ) (b : ℕ) → IsBytes e → IsClear e
    → relocated (layout e) (map (raised (off (layout e) b)) (fields_of e 0)) (bare e) ≡ painted (map (links.addressed (target_at e) b) (places_of e)) (bare e)
unfolding relocated
relocated_is e b bytes clear =
    let l = layout e in
    let d = off l b in
    ap (painted (map (word_patch l) (pointers (map (raised d) (fields_of e 0))))) (stills_same e d bytes clear)
    ∙ ap (λ fs. painted (map (word_patch l) fs) (bare e)) (pointers_raised d (fields_of e 0))
    ∙ ap (λ ps. painted ps (bare e)) (addressed_are e b bytes (is_linked e clear))

-- both images are those of the addressed words on the linked bytes
image_by_words : (e : List ℕ) (b : ℕ) → IsBytes e → IsClear e
    → image e b ≡ from_base b (size_of (layout e)) (painted (map (links.addressed (target_at e) b) (places_of e)) (bare e))
unfolding image
image_by_words e b bytes clear =
    ap (λ fs. from_base b (size_of (layout e)) (relocated (layout e) fs (bare e))) (all_raised e (off (layout e) b) (is_linked e clear))
    ∙ ap (from_base b (size_of (layout e))) (relocated_is e b bytes clear)

same_image : (e : List ℕ) (stack b : ℕ) → IsBytes e → IsClear e → flat_image (converted e stack) b ≡ image e b
same_image e stack b bytes clear =
    links.same_image (target_at e) (places_of e) (bare e) b (converted e stack) (words_of_flat e stack bytes clear)
    (records_of_are e stack bytes clear)
    (rw (stored_is e stack bytes clear) (bare_zero e (is_laid e (clear_numbers e clear.laid)))) (body_is e stack bytes clear)
    ∙ ap (λ n. from_base b n (painted (map (links.addressed (target_at e) b) (places_of e)) (bare e))) (size_is e stack)
    ∙ sym (image_by_words e b bytes clear)

-- the flat file says what the file is converted to
pub values_of_flat : (e : List ℕ) (stack : ℕ) → IsBytes e → fault e ≡ None → stack ≤ 1048576 → flat_values (flat e stack) ≡ converted e stack
unfolding flat
values_of_flat e stack bytes none limit = values_back (converted e stack) (spells_converted e stack bytes none limit)

pub flat_law : FlatLaw
unfolding flat
flat_law e stack bytes none limit = no_fault (converted e stack) (spells_converted e stack bytes none limit)

pub image_law : ImageLaw
image_law e stack b bytes none limit =
    ap (λ f. flat_image f b) (values_of_flat e stack bytes none limit) ∙ same_image e stack b bytes (is_clear e none)

-- Pages of a file, byte by byte.
use Rattle.std.proofs.Common.{◌≡◌, ℕ, ◌+◌, ◌-◌, ◌*◌, ◌<◌, inl, inr, List, ◌++◌, length, take, drop, get_or, arith, refl, sym, ap, ◌∙◌}
use Rattle.std.specs.Prelude.{replicate}
use Rattle.std.proofs.lemmas.Bool.{cases_lt}
use Rattle.std.proofs.lemmas.List.{length-append, length-take, length-replicate, get_or-take, get_or-drop, get_or_append_left, get_or-append_right, get_or-replicate, get_or_past}
use Rattle.mmap_rules.specs.Mappings.{file_pages}

pub length-file_pages : (bytes : List ℕ) (first pages : ℕ) → length (file_pages bytes first pages) ≡ 4096 * pages
unfolding file_pages
length-file_pages bytes first pages =
    let front : List ℕ = take (4096 * pages) (drop (4096 * first) bytes) in
    let short = length-take (4096 * pages) (drop (4096 * first) bytes) in
    let zeros = length-replicate {A = ℕ} (4096 * pages - length front) 0 in
    length-append front (replicate (4096 * pages - length front) 0) ∙ omega (arith, short, zeros)

zeros_behind : (rest front : List ℕ) (len i : ℕ) → front ≡ take len rest → i < len →
    get_or (front ++ replicate (len - length front) 0) i 0 ≡ get_or rest i 0
zeros_behind rest front len i is less =
    let short = ap (λ (xs : List ℕ). length xs) is ∙ length-take len rest in
    elim (cases_lt i (length front)) [
      | inl inside ↦
          get_or_append_left front (replicate (len - length front) 0) 0 i inside ∙ ap (λ (xs : List ℕ). get_or xs i 0) is ∙ get_or-take len rest i 0 less
      | inr past ↦
          get_or-append_right front (replicate (len - length front) 0) (length front) i 0 refl past
          ∙ get_or-replicate (len - length front) (i - length front) 0 0 (omega (arith, past, less))
          ∙ sym (get_or_past rest i 0 (omega (arith, past, less, short)))
    ]

-- byte by byte
pub file_byte : (bytes : List ℕ) (first pages i : ℕ) → i < 4096 * pages →
    get_or (file_pages bytes first pages) i 0 ≡ get_or bytes (4096 * first + i) 0
unfolding file_pages
file_byte bytes first pages i less =
    zeros_behind (drop (4096 * first) bytes) (take (4096 * pages) (drop (4096 * first) bytes)) (4096 * pages) i refl less
    ∙ get_or-drop (4096 * first) bytes i 0

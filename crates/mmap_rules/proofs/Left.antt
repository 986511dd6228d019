-- What a mapping more leaves of a space, the regions and memory.
use Rattle.std.proofs.Common.{◌≡◌, ℕ, suc, ◌+◌, ◌-◌, ◌*◌, ◌≤◌, List, [], ◌∷◌, ◌++◌, length, take, drop, replicate, refl, sym, ap, ◌∙◌, arith}
use Rattle.std.proofs.lemmas.List.{length-append, length-take-le, length-replicate, drop-append-le, drop-replicate}
use Rattle.byte_words.specs.Patches.{laid}
use Rattle.nommu_regions.specs.declared.region.Region.{Region}
use Rattle.mmap_rules.specs.declared.mapping.Mapping.{Mapping}
use Rattle.mmap_rules.specs.Held.{Held}
use Rattle.mmap_rules.specs.Mappings.{filled}
use Rattle.mmap_rules.specs.MapState.{map_state, with_mapping}

pub sides_same : (h k : Held) (r s : List Region) (m n : List ℕ) → h ≡ k → r ≡ s → m ≡ n → map_state h r m ≡ map_state k s n
sides_same h k r s m n held regions memory = λ i. map_state (held i) (regions i) (memory i)

pub held_more : (old : Held) (maps now : List Mapping) (brk low high pages count : ℕ) (m : Mapping) →
    record { maps = maps; brk = brk; brk_low = low; brk_high = high; pages = pages } ≡ old → now ≡ maps ++ m ∷ [] → count ≡ pages →
    record { maps = now; brk = brk; brk_low = low; brk_high = high; pages = count } ≡ with_mapping old m
held_more old maps now brk low high pages count m view is len =
    let changed : ◌≡◌ {A = Held} (record { maps = now; brk = brk; brk_low = low; brk_high = high; pages = count })
    (record { maps = maps ++ m ∷ []; brk = brk; brk_low = low; brk_high = high; pages = pages }) =
    λ i. record { maps = is i; brk = brk; brk_low = low; brk_high = high; pages = len i } in
    changed ∙ ap (λ (h : Held). with_mapping h m) view

-- bytes over zeros
pub laid_filled : (mem : List ℕ) (at len : ℕ) (bytes : List ℕ) → at + len ≤ length mem → length bytes ≤ len →
    laid (laid mem at (replicate len 0)) at bytes ≡ laid mem at (filled len bytes)
laid_filled mem at len bytes inside fits =
    let zeros : List ℕ = replicate len 0 in
    let rest : List ℕ = drop (at + length zeros) mem in
    let front : List ℕ = take at mem in
    let count : length zeros ≡ len = length-replicate len 0 in
    let short : length front ≡ at = length-take-le at mem (omega arith) in
    let kept : take at (front ++ (zeros ++ rest)) ≡ front = take_front at front (zeros ++ rest) short in
    let gone : drop (at + length bytes) (front ++ (zeros ++ rest)) ≡ replicate (len - length bytes) 0 ++ rest =
    drop_front at (length bytes) front (zeros ++ rest) short ∙ (drop-append-le (length bytes) zeros rest (omega (arith, count, fits)) ∙
    ap (λ (zs : List ℕ). zs ++ rest) (drop-replicate (length bytes) len 0)) in
    let whole : length (filled len bytes) ≡ length zeros =
    length-append bytes (replicate (len - length bytes) 0) ∙ (let left = length-replicate {A = ℕ} (len - length bytes) 0 in omega (arith, left, count, fits)) in
    rw (kept, gone, whole) (ap (λ (xs : List ℕ). front ++ xs) (sym (append_assoc bytes (replicate (len - length bytes) 0) rest)))
  where
    append_assoc : (xs ys zs : List ℕ) → (xs ++ ys) ++ zs ≡ xs ++ (ys ++ zs)
    append_assoc [] ys zs = refl
    append_assoc (x ∷ xs) ys zs = ap (λ (t : List ℕ). x ∷ t) (append_assoc xs ys zs)

    take_front : (n : ℕ) (xs ys : List ℕ) → length xs ≡ n → take n (xs ++ ys) ≡ xs
    take_front n xs ys is = rw (← is) (take_all xs ys)
      where
        take_all : (xs ys : List ℕ) → take (length xs) (xs ++ ys) ≡ xs
        take_all [] ys = refl
        take_all (x ∷ xs) ys = ap (λ (t : List ℕ). x ∷ t) (take_all xs ys)

    drop_front : (n k : ℕ) (xs ys : List ℕ) → length xs ≡ n → drop (n + k) (xs ++ ys) ≡ drop k ys
    drop_front n k xs ys is = rw (← is) (drop_all xs ys)
      where
        drop_all : (xs ys : List ℕ) → drop (length xs + k) (xs ++ ys) ≡ drop k ys
        drop_all [] ys = ap (λ (n : ℕ). drop n ys) (omega arith)
        drop_all (x ∷ xs) ys = let next : length (x ∷ xs) + k ≡ suc (length xs + k) = omega arith in rw next (drop_all xs ys)

-- bytes over a run that was cleared
pub run_filled : (old cleared new : List ℕ) (first count place : ℕ) (bytes : List ℕ) → 4096 * first + 4096 * count ≤ length old → length bytes ≤ 4096 * count →
    place ≡ 4096 * first → cleared ≡ laid old (4096 * first) (replicate (4096 * count) 0) → new ≡ laid cleared place bytes →
    new ≡ laid old (4096 * first) (filled (4096 * count) bytes)
run_filled old cleared new first count place bytes inside fits there clear copied =
    copied ∙ (rw (there, clear) (laid_filled old (4096 * first) (4096 * count) bytes inside fits))

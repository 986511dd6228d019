-- The one memory before the first program, and behind the start lines.
use Rattle.std.proofs.Common.{◌≡◌, ℕ, zero, suc, ◌+◌, ◌-◌, ◌*◌, ◌^◌, inl, inr, true, false, List, [], ◌∷◌, length, refl, sym, ap, ◌∙◌, arith}
use Rattle.std.specs.Prelude.{Some, None, nat_le, nat_lt, if◌then◌else◌, replicate, slice_get}
use Rattle.std.proofs.lemmas.Bool.{cases_lt}
use Rattle.std.proofs.lemmas.Bool.Decides.{nat_tests}
use Rattle.std.proofs.lemmas.List.{length-replicate, get_or-replicate}
use Rattle.std.proofs.lemmas.Option.{slice_get-get_or}
use Rattle.bflt_format.specs.Values.{Values}
use Rattle.byte_words.specs.ByteMap.{Bytes}
use Rattle.byte_words.proofs.ByteArrays.{byte_before, byte_past}
use Rattle.region_watch.specs.Private.{physical}
use Rattle.mem_files.specs.Inodes.{Inodes}
use Rattle.fd_tables.specs.Files.{OpenFiles}
use Rattle.memory_world.specs.Physical.{Physical, showing, first_memory, opening_in}
use Rattle.kept_parts.specs.Kept.{Kept, nothing_yet}
use Rattle.region_watch.specs.Private.{in_pages}
use Rattle.kept_parts.specs.Stands.{About, live_spaces, world_of}
use Rattle.kept_parts.specs.InMemory.{header_of, headers_of, physical_of}
use Rattle.kept_parts.proofs.Common.ShownBytes.{showing_of}

-- the header of a program that is there
pub header_at : (flats : List Values) (i : ℕ) (f : Values) → slice_get flats i ≡ Some f → slice_get (headers_of flats) i ≡ Some (header_of f)
header_at [] i f is = absurd cc
header_at (g ∷ flats) zero f is = let same : g ≡ f = cc in ap (λ (h : Values). Some (header_of h)) same
header_at (g ∷ flats) (suc i) f is = header_at flats i f is

-- ---- before the first program

zeros_at : (pages a : ℕ) → physical (replicate (4096 * pages) 0) a ≡ (if in_pages pages a then Some 0 else None)
zeros_at pages a = elim (cases_lt a (2 ^ 31)) [
  | inl below ↦
      let none : physical (replicate (4096 * pages) 0) a ≡ None = byte_before (2 ^ 31) (replicate (4096 * pages) 0) a below in
      let test : in_pages pages a ≡ false = grind (arith, nat_tests) in
      none ∙ (rw test refl)
  | inr low ↦ elim (cases_lt a (2 ^ 31 + 4096 * pages)) [
    | inl within ↦
        let at : nat_le (2 ^ 31) a ≡ true = grind (arith, nat_tests) in
        let less : nat_lt a (2 ^ 31 + 4096 * pages) ≡ true = grind (arith, nat_tests) in
        let some : slice_get (replicate (4096 * pages) 0) (a - 2 ^ 31) ≡ Some 0 =
        slice_get-get_or (replicate (4096 * pages) 0) (a - 2 ^ 31) 0 (omega (arith, length-replicate {A = ℕ} (4096 * pages) 0))
        ∙ ap (λ (n : ℕ). Some n) (get_or-replicate {A = ℕ} (4096 * pages) (a - 2 ^ 31) 0 0 (omega arith)) in
        rw (at, less) some
    | inr past ↦
        let none : physical (replicate (4096 * pages) 0) a ≡ None =
        byte_past (2 ^ 31) (replicate (4096 * pages) 0) a (omega (arith, length-replicate {A = ℕ} (4096 * pages) 0)) in
        let test : in_pages pages a ≡ false = grind (arith, nat_tests) in
        none ∙ (rw test refl)
  ]
]

pub lays_none : (headers : List (List ℕ)) (a : About) (pages : ℕ) (tree : Inodes) (files : OpenFiles) (keep : ℕ)
    → physical (nothing_yet pages tree files keep).mem ≡ first_memory headers (world_of a (nothing_yet pages tree files keep))
unfolding first_memory world_of live_spaces
lays_none headers a pages tree files keep =
    let long : length (nothing_yet pages tree files keep).regions ≡ pages = length-replicate pages _ in
    λ i at. (zeros_at pages at ∙ ap (λ (n : ℕ). if in_pages n at then Some 0 else None) (sym long)) i

-- ---- behind the last

pub opened : (headers : List (List ℕ)) (a : About) (k : Kept) → physical k.mem ≡ first_memory headers (world_of a k) → physical_of headers a k ≡ opening_in headers (world_of a k)
unfolding physical_of opening_in
opened headers a k laid =
    let old : Physical = record { world = world_of a k; memory = physical k.mem; headers = headers } in
    let new : Bytes → Physical = λ m. record { world = showing m (world_of a k); memory = m; headers = headers } in
    let same : old ≡ new (physical k.mem) = rw (showing_of a k) refl in
    same ∙ ap new laid

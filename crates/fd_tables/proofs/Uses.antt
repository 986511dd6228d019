-- What an open file counts, after one descriptor more or fewer shares it.
use Rattle.std.proofs.Common.{◌≡◌, ◌≢◌, ℕ, ◌+◌, ◌-◌, ◌<◌, ◌≤◌, ◌^◌, Bool, true, false, cond, Option, Some, None, refl, sym, ap, ◌∙◌, subst, ◌⊎◌, inl, inr, eq-eqb, arith}
use Rattle.std.specs.Prelude.{nat_le}
use Rattle.std.proofs.lemmas.Bool.{cases_eq, ne_eqb, leb-true}
use Rattle.mem_files.specs.Inodes.{raised}
use Rattle.fd_tables.specs.declared.open_file.OpenFile.{OpenFile}
use Rattle.fd_tables.specs.declared.open_file.Handle.{Handle}
use Rattle.fd_tables.specs.declared.open_file.Handle.TheVariants.{Input, Output, Open}
use Rattle.fd_tables.specs.Files.{OpenFiles, at_number}
use Rattle.fd_tables.specs.Changes.{Storage, with_item, with_file, shared, let_go, dropped, dropped_file}
use Rattle.fd_tables.specs.Counts.{leads_to, uses_in}
use Rattle.fd_tables.proofs.AtNumbers.{made, item_at, item_other}
use Rattle.fd_tables.proofs.Sharing.{one}
use Rattle.fd_tables.proofs.EndCounts.{files-let_go}

abbrev pub uses_at : OpenFiles → ℕ → ℕ
uses_at fs n = uses_in (at_number fs.files n)

pub itself : (n : ℕ) → one (leads_to n (Open n)) ≡ 1
itself n = ap (λ b. cond b 1 0) (eq-eqb n n refl)

pub another : (n k : ℕ) → n ≢ k → one (leads_to n (Open k)) ≡ 0
another n k other = ap (λ b. cond b 1 0) (ne_eqb k n (λ e. other (sym e)))

-- ---- one more

one_more : (o : Option OpenFile) → 1 ≤ uses_in o → uses_in o < 2 ^ 40 → uses_in (made (λ f. Some (record f { uses = raised f.uses })) o) ≡ uses_in o + 1
one_more None there few = absurd (omega arith)
one_more (Some f) there few = omega arith

pub uses-shared : (fs : OpenFiles) (h : Handle) (n : ℕ) → (one (leads_to n h) ≤ uses_at fs n) → uses_at fs n < 2 ^ 40 → uses_at (shared fs h) n ≡ uses_at fs n + one (leads_to n h)
uses-shared fs Input n there few = omega arith
uses-shared fs Output n there few = omega arith
uses-shared fs (Open k) n there few = by (cases_eq n k)
  where
    by : (n ≡ k) ⊎ (n ≡ k → ⊥) → uses_at (shared fs (Open k)) n ≡ uses_at fs n + one (leads_to n (Open k))
    by (inl e) =
        subst (λ (j : ℕ). uses_at (shared fs (Open j)) n ≡ uses_at fs n + one (leads_to n (Open j))) e
        (ap uses_in (item_at (λ f. Some (record f { uses = raised f.uses })) fs.files n) ∙ one_more (at_number fs.files n) (let at : one (leads_to n (Open n)) ≤ uses_at fs n = subst (λ (j : ℕ). one (leads_to n (Open j)) ≤ uses_at fs n) (sym e) there in omega (arith, itself n)) few ∙ sym (ap (λ m. uses_at fs n + m) (itself n)))
    by (inr other) = omega (arith, ap uses_in (item_other (λ f. Some (record f { uses = raised f.uses })) fs.files k n other), another n k other)

-- ---- one fewer

other_by_last : (s : Storage) (k n : ℕ) (f : OpenFile) (b : Bool) → nat_le f.uses 1 ≡ b → n ≢ k → uses_at (dropped_file s k (Some f)).files n ≡ uses_at s.files n
other_by_last s k n f true e other =
    rw e (ap (λ files. uses_in (at_number files n)) (files-let_go (record s { files = with_file (λ f. None) s.files k }) f f.object) ∙ ap uses_in (item_other (λ f. None) s.files.files k n other))
other_by_last s k n f false e other = rw e (ap uses_in (item_other (λ f. Some (record f { uses = f.uses - 1 })) s.files.files k n other))

dropped_other : (s : Storage) (k n : ℕ) (o : Option OpenFile) → n ≢ k → uses_at (dropped_file s k o).files n ≡ uses_at s.files n
dropped_other s k n None other = refl
dropped_other s k n (Some f) other = other_by_last s k n f _ refl other

here_by_last : (s : Storage) (k : ℕ) (f : OpenFile) (b : Bool) → nat_le f.uses 1 ≡ b → at_number s.files.files k ≡ Some f → 1 ≤ f.uses → uses_at (dropped_file s k (Some f)).files k + 1 ≡ f.uses
here_by_last s k f true e is there =
    let gone : uses_in (at_number (with_item (λ f. None) s.files.files k) k) ≡ 0 = ap uses_in (item_at (λ f. None) s.files.files k ∙ ap (made (λ f. None)) is) in
    let left : uses_in (at_number (let_go (record s { files = with_file (λ f. None) s.files k }) f f.object).files.files k) ≡ 0 =
    ap (λ files. uses_in (at_number files k)) (files-let_go (record s { files = with_file (λ f. None) s.files k }) f f.object) ∙ gone in
    rw e (omega (arith, left, leb-true f.uses 1 e))
here_by_last s k f false e is there =
    let less : uses_in (at_number (with_item (λ f. Some (record f { uses = f.uses - 1 })) s.files.files k) k) ≡ f.uses - 1 = ap uses_in (item_at (λ f. Some (record f { uses = f.uses - 1 })) s.files.files k ∙ ap (made (λ f. Some (record f { uses = f.uses - 1 }))) is) in
    rw e (omega (arith, less))

dropped_here : (s : Storage) (k : ℕ) (o : Option OpenFile) → at_number s.files.files k ≡ o → 1 ≤ uses_in o → uses_at (dropped_file s k o).files k + 1 ≡ uses_in o
dropped_here s k None is there = absurd (omega arith)
dropped_here s k (Some f) is there = here_by_last s k f _ refl is there

pub uses-dropped : (s : Storage) (h : Handle) (n : ℕ) → (one (leads_to n h) ≤ uses_at s.files n) → uses_at (dropped s h).files n + one (leads_to n h) ≡ uses_at s.files n
uses-dropped s Input n there = omega arith
uses-dropped s Output n there = omega arith
uses-dropped s (Open k) n there = by (cases_eq n k)
  where
    by : (n ≡ k) ⊎ (n ≡ k → ⊥) → uses_at (dropped s (Open k)).files n + one (leads_to n (Open k)) ≡ uses_at s.files n
    by (inl e) =
        subst (λ (j : ℕ). uses_at (dropped s (Open j)).files n + one (leads_to n (Open j)) ≡ uses_at s.files n) e
        (let at : one (leads_to n (Open n)) ≤ uses_at s.files n = subst (λ (j : ℕ). one (leads_to n (Open j)) ≤ uses_at s.files n) (sym e) there in
        omega (arith, itself n, dropped_here s n (at_number s.files.files n) refl (omega (arith, itself n))))
    by (inr other) = omega (arith, dropped_other s k n (at_number s.files.files k) other, another n k other)

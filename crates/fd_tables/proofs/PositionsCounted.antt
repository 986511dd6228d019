-- Positions move and the console's input is taken, and the counts stay as they are.
use Rattle.std.proofs.Common.{◌≡◌, ℕ, Bool, Option, Some, None, refl, sym, ap, ◌∙◌, subst, ◌⊎◌, inl, inr, drop}
use Rattle.std.proofs.lemmas.Bool.{cases_eq}
use Rattle.fd_tables.specs.declared.open_file.OpenFile.{OpenFile}
use Rattle.fd_tables.specs.declared.open_file.Handle.{Handle}
use Rattle.fd_tables.specs.declared.open_file.Handle.TheVariants.{Input, Output, Open}
use Rattle.fd_tables.specs.declared.open_file.Descriptor.{Descriptor}
use Rattle.fd_tables.specs.Files.{at_number, descriptor}
use Rattle.fd_tables.specs.Changes.{Storage, storage, with_file, moved, moved_handle, taken}
use Rattle.fd_tables.specs.Counts.{uses_in, Counted}
use Rattle.fd_tables.proofs.AtNumbers.{made, item_at, item_other}
use Rattle.fd_tables.proofs.Uses.{uses_at}
use Rattle.fd_tables.proofs.Sound.{IsUsed, sound, sound-file}
use Rattle.fd_tables.proofs.Counting.{counted}

moving : (s : Storage) (n at : ℕ) → Counted s → Counted (storage s.nodes (with_file (λ f. Some (record f { at = at })) s.files n))
moving s n at c = counted _ (sound-file (λ f. record f { at = at }) (λ f. (refl, refl)) s n (λ f there. subst IsUsed there (c.used n)) (sound s c)) (λ k. same k ∙ c.uses k)
  where
    made_uses : (o : Option OpenFile) → uses_in (made (λ f. Some (record f { at = at })) o) ≡ uses_in o
    made_uses None = refl
    made_uses (Some f) = refl

    same : (k : ℕ) → uses_at (with_file (λ f. Some (record f { at = at })) s.files n) k ≡ uses_at s.files k
    same k = by (cases_eq k n)
      where
        by : (k ≡ n) ⊎ (k ≡ n → ⊥) → uses_at (with_file (λ f. Some (record f { at = at })) s.files n) k ≡ uses_at s.files k
        by (inl e) = subst (λ (j : ℕ). uses_at (with_file (λ f. Some (record f { at = at })) s.files n) j ≡ uses_at s.files j) (sym e) (ap uses_in (item_at (λ f. Some (record f { at = at })) s.files.files n) ∙ made_uses (at_number s.files.files n))
        by (inr other) = ap uses_in (item_other (λ f. Some (record f { at = at })) s.files.files n k other)

by_handle : (s : Storage) (at : ℕ) (h : Handle) (cloexec : Bool) → Counted s → Counted (storage s.nodes (moved_handle s.files at (Some (record { handle = h; cloexec = cloexec }))))
by_handle s at (Open n) cloexec c = moving s n at c
by_handle s at Input cloexec c = c
by_handle s at Output cloexec c = c

by_descriptor : (s : Storage) (at : ℕ) (o : Option Descriptor) → Counted s → Counted (storage s.nodes (moved_handle s.files at o))
by_descriptor s at None c = c
by_descriptor s at (Some d) c = by_handle s at d.handle d.cloexec c

pub counted-moved : (s : Storage) (t fd at : ℕ) → Counted s → Counted (storage s.nodes (moved s.files t fd at))
unfolding moved
counted-moved s t fd at c = by_descriptor s at (descriptor s.files t fd) c

pub counted-taken : (s : Storage) (n : ℕ) → Counted s → Counted (storage s.nodes (taken s.files n))
unfolding taken
counted-taken s n c = let b = sound s c in counted (storage s.nodes (record s.files { stdin = drop n s.files.stdin })) (record { used = b.used; holds = b.holds; remains = b.remains; whole = b.whole; ends = b.ends; few_files = b.few_files; few_tables = b.few_tables }) c.uses

-- Many descriptors of a table close, or all and the table goes, and the counts stay exact.
use Rattle.std.proofs.Common.{◌≡◌, ◌≢◌, ℕ, zero, suc, ◌+◌, ◌<◌, ◌≤◌, Bool, true, false, cond, List, [], ◌∷◌, length, Option, Some, None, refl, ap, subst, ◌⊎◌, inl, inr, arith}
use Rattle.std.specs.Prelude.{count_by}
use Rattle.std.specs.List.{range_with_len}
use Rattle.std.proofs.lemmas.Bool.{cases_eq}
use Rattle.std.proofs.lemmas.List.Sums.{sum_by-cons}
use Rattle.fd_tables.specs.declared.open_file.Descriptor.{Descriptor}
use Rattle.fd_tables.specs.Files.{Table, most_descriptors, at_number, table_at, descriptor_in, descriptor}
use Rattle.fd_tables.specs.Changes.{Storage, storage, with_item, all_closed, all_descriptors, exec_closed, without_table}
use Rattle.fd_tables.specs.Counts.{stands_for, shares_in, Counted}
use Rattle.fd_tables.proofs.Sharing.{one, IsWhole, shares-gone}
use Rattle.fd_tables.proofs.Sound.{sound, sound-gone_table}
use Rattle.fd_tables.proofs.Counting.{counted, counted-closed, closed_there, closed_stays}

-- ---- many close

module _ (test : Descriptor → Bool) (t : ℕ) where
  counted_by : (s : Storage) (fd : ℕ) (d : Descriptor) (b : Bool) → descriptor s.files t fd ≡ Some d → test d ≡ b → Counted s → Counted (all_closed test s t (fd ∷ []))
  counted_by s fd d true e f c = rw (e, f) (counted-closed s t fd c)
  counted_by s fd d false e f c = rw (e, f) c

  counted_one : (s : Storage) (fd : ℕ) (o : Option Descriptor) → descriptor s.files t fd ≡ o → Counted s → Counted (all_closed test s t (fd ∷ []))
  counted_one s fd None e c = rw e c
  counted_one s fd (Some d) e c = counted_by s fd d _ e refl c

  pub counted-all_closed : (fds : List ℕ) (s : Storage) → Counted s → Counted (all_closed test s t fds)
  counted-all_closed [] s c = c
  counted-all_closed (fd ∷ fds) s c = counted-all_closed fds (all_closed test s t (fd ∷ [])) (counted_one s fd _ refl c)

  stays_by : (s : Storage) (fd k : ℕ) (d : Descriptor) (b : Bool) → descriptor s.files t fd ≡ Some d → test d ≡ b → descriptor s.files t k ≡ None → descriptor (all_closed test s t (fd ∷ [])).files t k ≡ None
  stays_by s fd k d true e f empty = rw (e, f) (closed_stays s t fd k empty)
  stays_by s fd k d false e f empty = rw (e, f) empty

  stays_one : (s : Storage) (fd k : ℕ) (o : Option Descriptor) → descriptor s.files t fd ≡ o → descriptor s.files t k ≡ None → descriptor (all_closed test s t (fd ∷ [])).files t k ≡ None
  stays_one s fd k None e empty = rw e empty
  stays_one s fd k (Some d) e empty = stays_by s fd k d _ e refl empty

  stays : (fds : List ℕ) (s : Storage) (k : ℕ) → descriptor s.files t k ≡ None → descriptor (all_closed test s t fds).files t k ≡ None
  stays [] s k empty = empty
  stays (fd ∷ fds) s k empty = stays fds (all_closed test s t (fd ∷ [])) k (stays_one s fd k _ refl empty)

pub counted-exec_closed : (s : Storage) (t : ℕ) → Counted s → Counted (exec_closed s t)
unfolding exec_closed
counted-exec_closed s t c = counted-all_closed (λ d. d.cloexec) t all_descriptors s c

-- ---- a table goes, in which nothing is open any more

closes_one : (s : Storage) (t fd : ℕ) (o : Option Descriptor) → descriptor s.files t fd ≡ o → descriptor (all_closed (λ d. true) s t (fd ∷ [])).files t fd ≡ None
closes_one s t fd None e = rw e e
closes_one s t fd (Some d) e = rw e (closed_there s t fd)

module _ (t : ℕ) where
  -- the first closes, and stays so; the others by what is said of the rest
  closes_first : (n a : ℕ) (s : Storage) (fd : ℕ) → (a ≡ fd) ⊎ (a ≡ fd → ⊥) → (a ≢ fd → descriptor (all_closed (λ d. true) s t (range_with_len a (suc n))).files t fd ≡ None) →
      descriptor (all_closed (λ d. true) s t (range_with_len a (suc n))).files t fd ≡ None
  closes_first n a s fd (inl e) rest =
      stays (λ d. true) t (range_with_len (a + 1) n) (all_closed (λ d. true) s t (a ∷ [])) fd
      (subst (λ (k : ℕ). descriptor (all_closed (λ d. true) s t (a ∷ [])).files t k ≡ None) e (closes_one s t a _ refl))
  closes_first n a s fd (inr other) rest = rest other

  closes_range : (n a : ℕ) (s : Storage) (fd : ℕ) → a ≤ fd → fd < a + n → descriptor (all_closed (λ d. true) s t (range_with_len a n)).files t fd ≡ None
  closes_range zero a s fd low high = absurd (omega arith)
  closes_range (suc n) a s fd low high =
      closes_first n a s fd (cases_eq a fd) (λ other. closes_range n (a + 1) (all_closed (λ d. true) s t (a ∷ [])) fd (omega arith) (omega arith))

nothing_counts : (n : ℕ) (table : Table) → ((fd : ℕ) → fd < length table → at_number table fd ≡ None) → count_by (stands_for n) table ≡ 0
nothing_counts n [] empty = refl
nothing_counts n (o ∷ table) empty =
    let none : o ≡ None = empty 0 (omega arith) in
    omega (arith, sum_by-cons (λ o. cond (stands_for n o) 1 0) o table, ap (λ o. one (stands_for n o)) none, nothing_counts n table (λ fd inside. empty (suc fd) (omega arith)))

nothing_shares : (o : Option Table) (n : ℕ) → IsWhole o → ((fd : ℕ) → fd < most_descriptors → descriptor_in o fd ≡ None) → shares_in n o ≡ 0
nothing_shares None n whole empty = refl
nothing_shares (Some table) n whole empty = nothing_counts n table (λ fd inside. empty fd (omega (arith, whole)))

going : (s : Storage) (t : ℕ) → Counted s → ((n : ℕ) → shares_in n (table_at s.files t) ≡ 0) → Counted (storage s.nodes (record s.files { tables = with_item (λ table. None) s.files.tables t }))
going s t c none = counted _ (sound-gone_table s t (sound s c)) (λ n. omega (arith, c.uses n, none n, shares-gone s.files t n))

pub counted-without_table : (s : Storage) (t : ℕ) → Counted s → Counted (without_table s t)
unfolding without_table all_descriptors
counted-without_table s t c =
    let now : Storage = all_closed (λ d. true) s t all_descriptors in
    let c_now : Counted now = counted-all_closed (λ d. true) t all_descriptors s c in
    going now t c_now (λ n. nothing_shares (table_at now.files t) n (c_now.whole t) (λ fd low. closes_range t most_descriptors 0 s fd (omega arith) (omega arith)))

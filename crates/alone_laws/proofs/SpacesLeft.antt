-- The spaces that are left where a process leaves its own: it goes with its owner, and a lent one stays.
use Rattle.std.proofs.Common.{◌≡◌, ◌≢◌, ℕ, Bool, true, false, inl, inr, List, [], ◌++◌, append_assoc, map, Option, Some, None, refl, sym, ap, subst, ◌∙◌}
use Rattle.std.specs.Prelude.{option_map, if◌then◌else◌}
use Rattle.std.proofs.lemmas.Bool.{cases_Bool, cases_eq}
use Rattle.std.proofs.lemmas.Option.{none-some, same_Some}
use Rattle.mmap_rules.specs.declared.mapping.Mapping.{Mapping}
use Rattle.vfork_exec.specs.Keyed.{Falls, find, without}
use Rattle.vfork_exec.proofs.Keyed.{falls_without, find_gone, find_beside_without, find_map}
use Rattle.machine_world.specs.World.{Process, LiveSpace, pid_of, id_of}
use Rattle.machine_world.specs.Families.{borrows, spaces_left, left_by, all_left_by}
use Rattle.machine_world.specs.MapCalls.{all_maps}
use Rattle.alone_laws.specs.Sound.{AreApart}
use Rattle.alone_laws.proofs.Apart.{apart_under}
use Rattle.alone_laws.proofs.AllMaps.{Around, around}

module _ (p : Process) (procs : List Process) (spaces : List LiveSpace) where
  pub space_lent : borrows p procs ≡ true → spaces_left p procs spaces ≡ spaces
  unfolding spaces_left
  space_lent is = ap (λ (b : Bool). if b then spaces else without id_of p.space spaces) is

  pub space_gone : borrows p procs ≡ false → spaces_left p procs spaces ≡ without id_of p.space spaces
  unfolding spaces_left
  space_gone is = ap (λ (b : Bool). if b then spaces else without id_of p.space spaces) is

  by_left : (P : List LiveSpace → Type 0) → P spaces → P (without id_of p.space spaces) → P (spaces_left p procs spaces)
  by_left P all others = elim (cases_Bool (borrows p procs)) [
    | inl is ↦ subst P (sym (space_lent is)) all
    | inr is ↦ subst P (sym (space_gone is)) others
  ]

  pub falls_spaces : (b : ℕ) → Falls id_of b spaces → Falls id_of b (spaces_left p procs spaces)
  falls_spaces b falls = by_left (Falls id_of b) falls (falls_without id_of p.space b spaces falls)

  -- each was there
  pub space_was : (i : ℕ) (s : LiveSpace) → find id_of i (spaces_left p procs spaces) ≡ Some s → find id_of i spaces ≡ Some s
  space_was i s = by_left (λ ss. find id_of i ss ≡ Some s → find id_of i spaces ≡ Some s) (λ found. found)
      (λ found. elim (cases_eq i p.space) [
        | inl is ↦ absurd (none-some s (sym (find_gone id_of p.space spaces) ∙ ap (λ (n : ℕ). find id_of n (without id_of p.space spaces)) (sym is) ∙ found))
        | inr other ↦ sym (find_beside_without id_of p.space i other spaces) ∙ found
      ])

  -- and each other one is
  pub space_beside : (i : ℕ) → i ≢ p.space → find id_of i (spaces_left p procs spaces) ≡ find id_of i spaces
  space_beside i other = by_left (λ ss. find id_of i ss ≡ find id_of i spaces) refl (find_beside_without id_of p.space i other spaces)

  -- behind others, mappings are apart that were
  pub apart_left : (b : ℕ) (s : LiveSpace) (others : List Mapping) → Falls id_of b spaces → find id_of p.space spaces ≡ Some s → AreApart (others ++ all_maps spaces)
      → AreApart (others ++ all_maps (spaces_left p procs spaces))
  apart_left b s others falls has apart =
      by_left (λ ss. AreApart (others ++ all_maps ss)) apart
      (let r : Around p.space s spaces = around p.space b s spaces falls has in
      subst (λ (ms : List Mapping). AreApart (others ++ ms)) (sym r.gone)
      (subst AreApart (append_assoc others r.front r.back)
      (apart_under (others ++ r.front) s.space.maps [] r.back
      (subst AreApart (sym (append_assoc others r.front (s.space.maps ++ r.back))) (subst (λ (ms : List Mapping). AreApart (others ++ ms)) r.is apart))
      tt (λ j n there. absurd (none-some n there)))))

-- ---- the processes that are left

-- what is found through a map was there
pub found_through : (g : Process → Process) → ((q : Process) → (g q).pid ≡ q.pid) → (k : ℕ) (q : Process) (ps : List Process) → find pid_of k (map g ps) ≡ Some q
    → (was : Process) × (find pid_of k ps ≡ Some was) × (g was ≡ q)
found_through g same k q ps found = by (find pid_of k ps) refl
  where
    by : (o : Option Process) → find pid_of k ps ≡ o → (was : Process) × (find pid_of k ps ≡ Some was) × (g was ≡ q)
    by None is = absurd (none-some q (sym (find_map pid_of pid_of k g same ps ∙ ap (option_map g) is) ∙ found))
    by (Some was) is = (was, is, same_Some (g was) q (sym (find_map pid_of pid_of k g same ps ∙ ap (option_map g) is) ∙ found))

pub found_left : (gone : Process) (k : ℕ) (q : Process) (ps : List Process) → find pid_of k (all_left_by gone ps) ≡ Some q
    → (was : Process) × (k ≢ gone.pid) × (find pid_of k ps ≡ Some was) × (left_by gone was ≡ q)
unfolding all_left_by
found_left gone k q ps found =
    let r = found_through (left_by gone) (λ x. refl) k q (without pid_of gone.pid ps) found in
    elim (cases_eq k gone.pid) [
      | inl is ↦ absurd (none-some r.0 (sym (find_gone pid_of gone.pid ps) ∙ ap (λ (n : ℕ). find pid_of n (without pid_of gone.pid ps)) (sym is) ∙ r.1))
      | inr other ↦ (r.0, other, sym (find_beside_without pid_of gone.pid k other ps) ∙ r.1, r.2)
    ]

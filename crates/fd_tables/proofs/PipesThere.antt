-- The pipe that stands at its place, and the list behind a change there.
use Rattle.std.proofs.Common.{◌≡◌, ℕ, zero, suc, ◌<◌, ◌≤◌, Bool, true, false, cond, List, [], ◌∷◌, length, get_or, set, Option, Some, None, refl, sym, ap, subst, ◌∙◌, arith}
use Rattle.std.specs.Prelude.{◌==◌, nat_lt, is_some, IsSome}
use Rattle.std.specs.List.{remove}
use Rattle.std.proofs.Math.ListN.{length-set}
use Rattle.std.proofs.lemmas.Bool.Decides.{nat_tests}
use Rattle.vfork_exec.specs.Keyed.{find, without, place_of, Falls}
use Rattle.vfork_exec.proofs.Keyed.{is_there, change_at, without_at}
use Rattle.vfork_exec.proofs.Places.{item_at}
use Rattle.fd_tables.specs.Files.{Pipe, OpenFiles}
use Rattle.fd_tables.specs.Pipes.{pipe_id, pipe_at, marked, with_changed, changed_to, with_closed, is_closed, unless_closed, pipe_view, pipe_bytes, shown_pipe, held_in}

none_of : (o : Option Pipe) → is_some o ≡ false → o ≡ None
none_of None is = refl
none_of (Some p) is = absurd cc

not_less : (m n : ℕ) → n ≤ m → nat_lt m n ≡ false
not_less m n h = grind (arith, nat_tests)

pub here : (fs : OpenFiles) (id at : ℕ) (now : List Pipe) (p : Pipe) → now ≡ fs.pipes → at ≡ place_of pipe_id id fs.pipes → at < length now → p ≡ get_or now at p → pipe_at fs id ≡ Some p
here fs id at now p same place below is =
    item_at pipe_id id fs.pipes at p place (subst (λ (ps : List Pipe). at < length ps) same below) (is ∙ ap (λ (ps : List Pipe). get_or ps at p) same)

pub nowhere : (fs : OpenFiles) (id at : ℕ) (now : List Pipe) → now ≡ fs.pipes → at ≡ place_of pipe_id id fs.pipes → length now ≤ at → pipe_at fs id ≡ None
nowhere fs id at now same place past =
    let all : length fs.pipes ≤ place_of pipe_id id fs.pipes = omega (arith, past, place, ap (λ (ps : List Pipe). length ps) same) in
    none_of (pipe_at fs id) (sym (is_there pipe_id id fs.pipes) ∙ not_less (place_of pipe_id id fs.pipes) (length fs.pipes) all)

pub held_is : (fs : OpenFiles) (id : ℕ) → (pipe_view fs id).held ≡ length (pipe_bytes fs id)
unfolding pipe_view pipe_bytes
held_is fs id = by_pipe (pipe_at fs id)
  where
    by_pipe : (o : Option Pipe) → (shown_pipe o).held ≡ length (held_in o)
    by_pipe (Some p) = refl
    by_pipe None = refl

-- ---- a pipe changes at its place

pub place_set : (id : ℕ) (ps : List Pipe) (i : ℕ) (p d : Pipe) → (get_or ps i d).id ≡ p.id → place_of pipe_id id (set ps i p) ≡ place_of pipe_id id ps
unfolding place_of
place_set id [] i p d same = refl
place_set id (q ∷ ps) zero p d same = ap (λ n. cond (n == id) 0 (suc (place_of pipe_id id ps))) (sym same)
place_set id (q ∷ ps) (suc i) p d same = ap (λ n. cond (q.id == id) 0 (suc n)) (place_set id ps i p d same)

pub still_there : (id : ℕ) (ps : List Pipe) (at : ℕ) (p d : Pipe) → at ≡ place_of pipe_id id ps → at < length ps → (get_or ps at d).id ≡ p.id → place_of pipe_id id (set ps at p) < length (set ps at p)
still_there id ps at p d place below same = omega (arith, place_set id ps at p d same, place, below, length-set ps at p)

pub changed_is : (f : Pipe → Option Pipe) (fs : OpenFiles) (id at : ℕ) (p now : Pipe) → pipe_at fs id ≡ Some p → at ≡ place_of pipe_id id fs.pipes → f p ≡ Some now
    → marked id (record fs { pipes = set fs.pipes at now }) ≡ with_changed f fs id (pipe_at fs id)
changed_is f fs id at p now found place is =
    ap (λ i. marked id (record fs { pipes = set fs.pipes i now })) place
    ∙ ap (λ (ps : List Pipe). marked id (record fs { pipes = ps })) (change_at pipe_id id (λ q. now) fs.pipes p found)
    ∙ ap (λ (o : Option Pipe). marked id (record fs { pipes = changed_to fs id o })) (sym is)
    ∙ ap (λ (o : Option Pipe). with_changed f fs id o) (sym found)

remove_set : (ps : List Pipe) (i : ℕ) (p : Pipe) → remove (set ps i p) i ≡ remove ps i
remove_set [] i p = refl
remove_set (q ∷ ps) zero p = refl
remove_set (q ∷ ps) (suc i) p = ap (λ (qs : List Pipe). q ∷ qs) (remove_set ps i p)

pub removed : (b id at : ℕ) (ps : List Pipe) (p now : Pipe) → Falls pipe_id b ps → find pipe_id id ps ≡ Some p → at ≡ place_of pipe_id id ps → remove (set ps at now) at ≡ without pipe_id id ps
removed b id at ps p now f found place =
    remove_set ps at now ∙ ap (remove ps) place ∙ without_at pipe_id id b ps f (subst IsSome (sym found) refl)

pub gone_is : (f : Pipe → Option Pipe) (b : ℕ) (fs : OpenFiles) (id at : ℕ) (p now : Pipe) → Falls pipe_id b fs.pipes → pipe_at fs id ≡ Some p → at ≡ place_of pipe_id id fs.pipes → f p ≡ None
    → marked id (record fs { pipes = remove (set fs.pipes at now) at }) ≡ with_changed f fs id (pipe_at fs id)
gone_is f b fs id at p now falls found place is =
    ap (λ (ps : List Pipe). marked id (record fs { pipes = ps })) (removed b id at fs.pipes p now falls found place)
    ∙ ap (λ (o : Option Pipe). marked id (record fs { pipes = changed_to fs id o })) (sym is)
    ∙ ap (λ (o : Option Pipe). with_changed f fs id o) (sym found)

pub stays : (f : Pipe → Option Pipe) (fs : OpenFiles) (id : ℕ) → pipe_at fs id ≡ None → fs ≡ with_changed f fs id (pipe_at fs id)
stays f fs id none = ap (λ (o : Option Pipe). with_changed f fs id o) (sym none)

-- ---- an end closes

pub closed_id : (write : Bool) (p : Pipe) → (with_closed write p).id ≡ p.id
closed_id true p = refl
closed_id false p = refl

pub left_open : (p : Pipe) → is_closed p ≡ false → unless_closed p ≡ Some p
left_open p is = ap (λ t. cond t None (Some p)) is

pub both_closed : (p : Pipe) → is_closed p ≡ true → unless_closed p ≡ None
both_closed p is = ap (λ t. cond t None (Some p)) is

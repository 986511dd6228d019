-- One mark goes, and one pipe more at most isn't marked.
use Rattle.std.proofs.Common.{◌≡◌, ℕ, ◌+◌, ◌<◌, ◌≤◌, List, [], ◌∷◌, length, get_or, subst, sym, ◌∙◌, arith}
use Rattle.std.specs.Prelude.{◌==◌, false, vec_capacity}
use Rattle.std.specs.List.{remove}
use Rattle.std.proofs.lemmas.Bool.Decides.{nat_tests}
use Rattle.vfork_exec.specs.Keyed.{Falls}
use Rattle.fd_tables.specs.Files.{Pipe}
use Rattle.fd_tables.specs.Pipes.{pipe_id}
use Rattle.fd_tables.specs.Inside.{Rises, unmarked}
use Rattle.fd_tables.proofs.Marks.{rises_less, unmarked_next}
use Rattle.fd_tables.proofs.files.Files.next_changed.Goals as goal

some_left : (n : ℕ) (xs : List ℕ) → length xs ≡ n → (n == 0) ≡ false → 0 < length xs
some_left n xs is some = grind (arith, nat_tests)

rises_rest : (xs : List ℕ) → 0 < length xs → Rises 0 xs → Rises 0 (remove xs 0)
rises_rest [] h r = absurd (omega (arith, h))
rises_rest (x ∷ xs) h r = rises_less 0 (x + 1) xs (omega arith) r.1

few_rest : (b room : ℕ) (xs : List ℕ) (ps : List Pipe) → 0 < length xs → Falls pipe_id b ps → length xs + unmarked xs ps ≤ room → length (remove xs 0) + unmarked (remove xs 0) ps ≤ room
few_rest b room [] ps h f le = absurd (omega (arith, h))
few_rest b room (x ∷ xs) ps h f le = omega (arith, le, unmarked_next x b xs ps f)

pub invariant_of-self : goal.invariant_of-self
invariant_of-self c =
    let inv = c.self.invariant in
    let xs = c.self.inside.changed.items in
    let some : 0 < length xs = some_left c.self.inside.changed.len xs (sym c.self.inside.changed.ok.0) (sym c.is_empty.ensures ∙ c.if-is_empty.false) in
    let rest : c.remove.new.self.items ≡ remove xs 0 = c.remove.ensures.items in
    let ps = c.self.inside.pipes.items in
    record {
      input = inv.input;
      numbers = inv.numbers;
      ascending = subst (Rises 0) (sym rest) (rises_rest xs some inv.ascending);
      marks =
          let room = vec_capacity c.self.inside.changed in
          let few = few_rest (c.self.inside.made + 1) room xs ps some inv.numbers inv.marks in
          omega (arith, subst (λ ys. length ys + unmarked ys ps ≤ room) (sym rest) few, c.remove.ensures.capacity);
    }

-- those behind the first one are higher
higher : (xs : List ℕ) → 0 < length xs → (d : ℕ) → Rises 0 xs → Rises (get_or xs 0 d + 1) (remove xs 0)
higher [] some d r = absurd (omega (arith, some))
higher (x ∷ xs) some d r = r.1

pub returns-clause-lowest : goal.returns-clause-lowest
returns-clause-lowest c =
    let xs = c.self.inside.changed.items in
    let some : 0 < length xs = some_left c.self.inside.changed.len xs (sym c.self.inside.changed.ok.0) (sym c.is_empty.ensures ∙ c.if-is_empty.false) in
    let value : c.remove.result ≡ get_or xs 0 c.remove.result = c.remove.ensures.value in
    let items : c.remove.new.self.items ≡ remove xs 0 = c.remove.ensures.items in
    let behind : Rises (get_or xs 0 c.remove.result + 1) (remove xs 0) = higher xs some c.remove.result c.self.invariant.ascending in
    subst (Rises (c.remove.result + 1)) (sym items) (subst (λ (n : ℕ). Rises (n + 1) (remove xs 0)) (sym value) behind)

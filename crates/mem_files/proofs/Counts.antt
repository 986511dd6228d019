-- Entries of a folder that lead to a node or have a name, and what is left of them after one comes or goes.
use Rattle.std.proofs.Common.{◌≡◌, ℕ, ◌+◌, ◌≤◌, Bool, true, false, cond, not, List, [], ◌∷◌, ◌++◌, filter, Some, None, refl, ap, ◌∙◌, arith}
use Rattle.std.specs.Prelude.{◌==◌, bytes_eq}
use Rattle.std.proofs.lemmas.Option.{same_Some}
use Rattle.std.proofs.lemmas.List.Sums.{sum_by-cons, sum_by_push}
use Rattle.mem_files.specs.Inodes.{Entry}
use Rattle.mem_files.specs.Paths.{named}
use Rattle.mem_files.specs.Trees.{leading, having}

abbrev pub one : Bool → ℕ
one b = cond b 1 0

abbrev pub leads : ℕ → Entry → ℕ
leads id e = one (e.id == id)

abbrev pub has : List ℕ → Entry → ℕ
has name e = one (bytes_eq e.name name)

-- ---- one that comes, behind the others

pub leading-push : (id : ℕ) (es : List Entry) (e : Entry) → leading id (es ++ e ∷ []) ≡ leading id es + one (e.id == id)
leading-push id es e = sum_by_push (leads id) es e

pub having-push : (name : List ℕ) (es : List Entry) (e : Entry) → having name (es ++ e ∷ []) ≡ having name es + one (bytes_eq e.name name)
having-push name es e = sum_by_push (has name) es e

-- a name that leads to nothing is that of no entry
having_by : (name : List ℕ) (e : Entry) (es : List Entry) (b : Bool) → bytes_eq e.name name ≡ b → cond b (Some e.id) (named name es) ≡ None → (named name es ≡ None → having name es ≡ 0) → having name (e ∷ es) ≡ 0
having_by name e es true is none more = let no : ⊥ = cc in absurd no
having_by name e es false is none more = omega (arith, sum_by-cons (has name) e es, ap one is, more none)

pub having_none : (name : List ℕ) (es : List Entry) → named name es ≡ None → having name es ≡ 0
having_none name [] none = refl
having_none name (e ∷ es) none = having_by name e es (bytes_eq e.name name) refl none (having_none name es)

-- and one that leads somewhere is that of an entry
leading_by : (name : List ℕ) (id : ℕ) (e : Entry) (es : List Entry) (b : Bool) → cond b (Some e.id) (named name es) ≡ Some id → (named name es ≡ Some id → 1 ≤ leading id es) → 1 ≤ leading id (e ∷ es)
leading_by name id e es true is more =
    let same : (e.id == id) ≡ true = grind (arith, same_Some e.id id is) in omega (arith, sum_by-cons (leads id) e es, ap one same)
leading_by name id e es false is more = omega (arith, sum_by-cons (leads id) e es, more is)

pub leading_some : (name : List ℕ) (id : ℕ) (es : List Entry) → named name es ≡ Some id → 1 ≤ leading id es
leading_some name id [] is = let no : ⊥ = cc in absurd no
leading_some name id (e ∷ es) is = leading_by name id e es (bytes_eq e.name name) is (leading_some name id es)

-- ---- those of a name go

abbrev pub others : List ℕ → List Entry → List Entry
others name es = filter (λ e. not (bytes_eq e.name name)) es

others_by : (name : List ℕ) (e : Entry) (es : List Entry) (b : Bool) → bytes_eq e.name name ≡ b → others name (e ∷ es) ≡ cond b (others name es) (e ∷ others name es)
others_by name e es true is = rw is refl
others_by name e es false is = rw is refl

-- where none has the name all stay
stays_by : (name : List ℕ) (e : Entry) (es : List Entry) (b : Bool) → bytes_eq e.name name ≡ b → having name (e ∷ es) ≡ 0 → (having name es ≡ 0 → others name es ≡ es) → others name (e ∷ es) ≡ e ∷ es
stays_by name e es true is none more = absurd (omega (arith, sum_by-cons (has name) e es, ap one is, none))
stays_by name e es false is none more = others_by name e es false is ∙ ap (λ l. e ∷ l) (more (omega (arith, sum_by-cons (has name) e es, ap one is, none)))

all_stay : (name : List ℕ) (es : List Entry) → having name es ≡ 0 → others name es ≡ es
all_stay name [] none = refl
all_stay name (e ∷ es) none = stays_by name e es (bytes_eq e.name name) refl none (all_stay name es)

-- where one has it, one goes
leaves_by : (name : List ℕ) (id k : ℕ) (e : Entry) (es : List Entry) (b : Bool) → bytes_eq e.name name ≡ b → cond b (Some e.id) (named name es) ≡ Some id → having name (e ∷ es) ≤ 1
    → (named name es ≡ Some id → having name es ≤ 1 → leading k (others name es) + one (id == k) ≡ leading k es) → leading k (others name (e ∷ es)) + one (id == k) ≡ leading k (e ∷ es)
leaves_by name id k e es true is at few more =
    let none : having name es ≡ 0 = omega (arith, sum_by-cons (has name) e es, ap one is, few) in
    let rest : leading k (others name (e ∷ es)) ≡ leading k es = ap (leading k) (others_by name e es true is ∙ all_stay name es none) in
    let same : one (e.id == k) ≡ one (id == k) = ap (λ (j : ℕ). one (j == k)) (same_Some e.id id at) in
    omega (arith, rest, same, sum_by-cons (leads k) e es)
leaves_by name id k e es false is at few more =
    let rest : leading k (others name (e ∷ es)) ≡ leading k (e ∷ others name es) = ap (leading k) (others_by name e es false is) in
    omega (arith, rest, sum_by-cons (leads k) e (others name es), sum_by-cons (leads k) e es, more at (omega (arith, sum_by-cons (has name) e es, few)))

pub leading-others : (name : List ℕ) (id k : ℕ) (es : List Entry) → named name es ≡ Some id → having name es ≤ 1 → leading k (others name es) + one (id == k) ≡ leading k es
leading-others name id k [] at few = let no : ⊥ = cc in absurd no
leading-others name id k (e ∷ es) at few = leaves_by name id k e es (bytes_eq e.name name) refl at few (leading-others name id k es)

fewer_by : (name other : List ℕ) (e : Entry) (es : List Entry) (b : Bool) → bytes_eq e.name name ≡ b → having other (others name es) ≤ having other es → having other (others name (e ∷ es)) ≤ having other (e ∷ es)
fewer_by name other e es true is more = omega (arith, ap (having other) (others_by name e es true is), sum_by-cons (has other) e es, more)
fewer_by name other e es false is more = omega (arith, ap (having other) (others_by name e es false is), sum_by-cons (has other) e es, sum_by-cons (has other) e (others name es), more)

pub having-others : (name other : List ℕ) (es : List Entry) → having other (others name es) ≤ having other es
having-others name other [] = omega arith
having-others name other (e ∷ es) = fewer_by name other e es (bytes_eq e.name name) refl (having-others name other es)

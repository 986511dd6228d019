-- The number goes to its place, unless it is there.
use Rattle.std.proofs.Common.{◌≡◌, ◌≢◌, ℕ, ◌+◌, ◌<◌, ◌≤◌, cond, List, length, get_or, subst, sym, ap, ◌∙◌, arith}
use Rattle.std.specs.Prelude.{vec_capacity}
use Rattle.std.specs.List.{insert}
use Rattle.std.proofs.lemmas.List.{get_or_default}
use Rattle.vfork_exec.specs.Keyed.{place_of}
use Rattle.fd_tables.specs.Spare.{SpareFiles}
use Rattle.fd_tables.specs.Pipes.{pipe_id, with_number, marked}
use Rattle.fd_tables.specs.Inside.{Rises, unmarked, kept}
use Rattle.fd_tables.proofs.Marks.{place_in, place_is, there, put_there, rises_with, has_mark}
use Rattle.fd_tables.proofs.files.Files.mark.Goals as goal
use Rattle.fd_tables.proofs.files.Files.mark.Goals.{else-at-len-via-then-at-len+else-index-id, else-at-len-via-else-at-len}

-- what was read isn't the number
apart : (id at x : ℕ) (xs : List ℕ) → x ≡ get_or xs at x → x ≢ id → at ≡ place_in id xs → place_in id xs < length xs → get_or xs (place_in id xs) 0 ≢ id
apart id at x xs read other place inside is =
    other (read ∙ ap (λ n. get_or xs n x) place ∙ get_or_default xs (place_in id xs) x 0 inside ∙ is)

pub returns-then-index-id-clause-marked : goal.returns-then-index-id-clause-marked
returns-then-index-id-clause-marked c =
    let id = c.args.id in
    let xs = c.self.inside.changed.items in
    let at : c.unwrap_or-at.result ≡ place_in id xs =
    place_is id xs c.deref.result.now c.number_place.result c.unwrap_or-at.result c.len.result c.deref.ensures.value c.number_place.ensures (c.len.ensures ∙ c.self.inside.changed.ok.0) c.unwrap_or-at.ensures in
    let inside : place_in id xs < length xs = omega (arith, at, c.if-at-len.true, c.len-2.ensures, c.self.inside.changed.ok.0) in
    let same : with_number id xs ≡ xs = there id xs c.index.result.now inside (ap (λ n. get_or xs n c.index.result.now) (sym at) ∙ sym c.index.ensures ∙ c.if-index-id.true) in
    let old = ap (λ (k : SpareFiles). k.open_files) c.self.view_is in
    sym old ∙ ap (λ (ys : List ℕ). record (kept c.self.inside).open_files { changed = ys }) (sym same) ∙ ap (marked id) old

pub unreachable-requires : goal.unreachable-requires
unreachable-requires c =
    let id = c.args.id in
    let xs = c.self.inside.changed.items in
    let at : c.unwrap_or-at.result ≡ place_in id xs =
    place_is id xs c.deref.result.now c.number_place.result c.unwrap_or-at.result c.len.result c.deref.ensures.value c.number_place.ensures (c.len.ensures ∙ c.self.inside.changed.ok.0) c.unwrap_or-at.ensures in
    let other : place_in id xs < length xs → get_or xs (place_in id xs) 0 ≢ id = elim c.else-at-len.branch [
      | else-at-len-via-then-at-len+else-index-id w ↦ apart id c.unwrap_or-at.result w.index.result.now xs w.index.ensures w.if-index-id.false at
      | else-at-len-via-else-at-len w ↦ λ inside. absurd (omega (arith, inside, at, w.if-at-len.false, c.len-2.ensures, c.self.inside.changed.ok.0))
    ] in
    let there : place_of pipe_id id c.self.inside.pipes.items < length c.self.inside.pipes.items = subst (λ (k : SpareFiles). place_of pipe_id id k.open_files.pipes < length k.open_files.pipes) (sym c.self.view_is) c.requires in
    let h = has_mark id (vec_capacity c.self.inside.changed) xs c.self.inside.pipes.items 0 there c.self.invariant.ascending other c.self.invariant.marks in
    let ok = c.insert.ensures.succeeds (omega (arith, h.below, c.self.inside.changed.ok.0)) in
    cc (ok, c.if-is_err.ensures.negation)

pub invariant_of-self : goal.invariant_of-self
invariant_of-self c =
    let id = c.args.id in
    let xs = c.self.inside.changed.items in
    let ps = c.self.inside.pipes.items in
    let at : c.unwrap_or-at.result ≡ place_in id xs =
    place_is id xs c.deref.result.now c.number_place.result c.unwrap_or-at.result c.len.result c.deref.ensures.value c.number_place.ensures (c.len.ensures ∙ c.self.inside.changed.ok.0) c.unwrap_or-at.ensures in
    let other : place_in id xs < length xs → get_or xs (place_in id xs) 0 ≢ id = elim c.else-at-len.branch [
      | else-at-len-via-then-at-len+else-index-id w ↦ apart id c.unwrap_or-at.result w.index.result.now xs w.index.ensures w.if-index-id.false at
      | else-at-len-via-else-at-len w ↦ λ inside. absurd (omega (arith, inside, at, w.if-at-len.false, c.len-2.ensures, c.self.inside.changed.ok.0))
    ] in
    let there : place_of pipe_id id ps < length ps = subst (λ (k : SpareFiles). place_of pipe_id id k.open_files.pipes < length k.open_files.pipes) (sym c.self.view_is) c.requires in
    let room = vec_capacity c.self.inside.changed in
    let h = has_mark id room xs ps 0 there c.self.invariant.ascending other c.self.invariant.marks in
    let is : c.insert.new.self.items ≡ with_number id xs =
    c.insert.ensures.items ∙ ap (λ b. cond b (insert xs c.unwrap_or-at.result id) xs) c.if-is_err.ensures.negation ∙ ap (λ n. insert xs n id) at ∙ put_there id xs 0 other in
    record {
      input = c.self.invariant.input;
      numbers = c.self.invariant.numbers;
      ascending = subst (Rises 0) (sym is) (rises_with id 0 xs c.self.invariant.ascending (omega arith));
      marks = omega (arith, subst (λ ys. length ys + unmarked ys ps ≤ room) (sym is) h.marks, c.insert.ensures.capacity);
    }

pub returns-clause-marked : goal.returns-clause-marked
returns-clause-marked c =
    let id = c.args.id in
    let xs = c.self.inside.changed.items in
    let at : c.unwrap_or-at.result ≡ place_in id xs =
    place_is id xs c.deref.result.now c.number_place.result c.unwrap_or-at.result c.len.result c.deref.ensures.value c.number_place.ensures (c.len.ensures ∙ c.self.inside.changed.ok.0) c.unwrap_or-at.ensures in
    let other : place_in id xs < length xs → get_or xs (place_in id xs) 0 ≢ id = elim c.else-at-len.branch [
      | else-at-len-via-then-at-len+else-index-id w ↦ apart id c.unwrap_or-at.result w.index.result.now xs w.index.ensures w.if-index-id.false at
      | else-at-len-via-else-at-len w ↦ λ inside. absurd (omega (arith, inside, at, w.if-at-len.false, c.len-2.ensures, c.self.inside.changed.ok.0))
    ] in
    let is : c.insert.new.self.items ≡ with_number id xs =
    c.insert.ensures.items ∙ ap (λ b. cond b (insert xs c.unwrap_or-at.result id) xs) c.if-is_err.ensures.negation ∙ ap (λ n. insert xs n id) at ∙ put_there id xs 0 other in
    ap (λ (ys : List ℕ). record (kept c.self.inside).open_files { changed = ys }) is ∙ ap (λ (k : SpareFiles). marked id k.open_files) c.self.view_is

-- The sum is that of one list more.
use Rattle.std.proofs.Common.{◌≡◌, ◌+◌, [], ◌∷◌, ◌++◌, length, ap, ◌∙◌, arith}
use Rattle.std.proofs.lemmas.List.{map-append}
use Rattle.flat_loader.specs.Frame.{texts}
use Rattle.machine_world.specs.World.{Recording}
use Rattle.machine_world.specs.Recordings.{with_brought}
use Rattle.recordings.proofs.Weights.{beside, with_more}
use Rattle.recordings.proofs.recording.Recording.bring.Goals as goal

pub overflow_add-self : goal.overflow_add-self
overflow_add-self c =
    let lists = texts c.self.inside.brought.items in
    let n = length c.args.bytes.items in
    let len : c.len.result ≡ n = c.len.ensures ∙ c.args.bytes.ok.0 in
    let same : with_brought lists n ≡ with_brought c.args.self.now.brought n = ap (λ (r : Recording). with_brought r.brought n) c.self.view_is in
    omega (arith, c.requires, same, len, beside lists n, c.self.invariant)

pub invariant_of-self-2 : goal.invariant_of-self-2
invariant_of-self-2 c =
    let lists = texts c.self.inside.brought.items in
    let bytes = c.args.bytes in
    let len : c.len.result ≡ length bytes.items = c.len.ensures ∙ bytes.ok.0 in
    let items = c.push_reserved.ensures.items ∙ ap (λ xs. xs ++ bytes ∷ []) c.in_ok-reserve.ensures.items in
    let now : texts c.push_reserved.new.self.items ≡ lists ++ bytes.items ∷ [] = ap texts items ∙ map-append (λ s. s.items) c.self.inside.brought.items (bytes ∷ []) in
    let sum = ap (λ l. with_brought l 0) now ∙ with_more lists bytes.items 0 in
    omega (arith, len, sum, beside lists (length bytes.items + 0), c.self.invariant)

use Rattle.std.proofs.Common.{◌≡◌, ℕ, ◌+◌, ◌-◌, ◌<◌, ◌∷◌, [], length, map, take, drop, get_or, sym, ap, ◌∙◌, subst, arith}
use Rattle.std.specs.Prelude.{reverse}
use Rattle.std.proofs.lemmas.List.{reverse-append}
use Rattle.romfs_image.specs.Text.{node_len, end_at, place_at, places}
use Rattle.romfs_image.specs.Code.{node_value, HasHeads}
use Rattle.romfs_image.proofs.Lengths.{no_node, nodes_from, named_from, named_at, before_node, index_of, first_node, count_small}
use Rattle.romfs_image.proofs.making.places_of.Goals as goal

pub node_len-at-requires-clause-name : goal.node_len-at-requires-clause-name
node_len-at-requires-clause-name c =
    let xs = c.args.nodes.now in
    let j = length xs - 1 - c.loop-behind.behind in
    (named_at xs j no_node (omega arith) (named_from xs j c.requires.named)).0

pub node_len-at-requires-clause-bytes : goal.node_len-at-requires-clause-bytes
node_len-at-requires-clause-bytes c =
    let xs = c.args.nodes.now in
    let k = c.loop-behind.behind in
    let j = length xs - 1 - k in
    let here = ap (λ n. end_at 96 (map node_value (take n xs))) (index_of (length xs) k c.loop-behind-test.true) in
    omega (arith, (named_at xs j no_node (omega arith) (named_from xs j c.requires.named)).1, before_node xs j (omega arith), here, c.loop-behind.invariant.before, c.loop-behind.invariant.small)

pub overflow_sub-at : goal.overflow_sub-at
overflow_sub-at c =
    let xs = c.args.nodes.now in
    let k = c.loop-behind.behind in
    let j = length xs - 1 - k in
    let here = ap (λ n. end_at 96 (map node_value (take n xs))) (index_of (length xs) k c.loop-behind-test.true) in
    omega (arith, before_node xs j (omega arith), here, c.loop-behind.invariant.before, c.node_len-at.ensures.value)

pub overflow_cast-index : goal.overflow_cast-index
overflow_cast-index c = omega (arith, count_small c.args.nodes.now (omega (arith, c.requires.end, c.requires.fit)))

pub overflow_add-index : goal.overflow_add-index
overflow_add-index c = omega (arith, count_small c.args.nodes.now (omega (arith, c.requires.end, c.requires.fit)))

pub loop-behind-preserved : goal.loop-behind-preserved
loop-behind-preserved c =
    let xs = c.args.nodes.now in
    let headers = c.args.headers.now in
    let k = c.loop-behind.behind in
    let j = length xs - 1 - k in
    let v = node_value (get_or xs j no_node) in
    let rest = map node_value (drop (j + 1) xs) in
    let at = c.loop-behind.at in
    let then = at - c.node_len-at.result in
    let old = reverse c.loop-behind.places.items in
    let up = index_of (length xs) k c.loop-behind-test.true in
    let down = first_node (length xs) k c.loop-behind-test.true in
    let inside : j < length xs = omega (arith, up) in
    let whole : at ≡ end_at 96 (map node_value (take j xs)) + node_len v = c.loop-behind.invariant.before ∙ ap (λ n. end_at 96 (map node_value (take n xs))) up ∙ before_node xs j inside in
    let again : then + node_len v ≡ at = omega (arith, whole, c.node_len-at.ensures.value) in
    let start : then ≡ end_at 96 (map node_value (take j xs)) = omega (arith, whole, c.node_len-at.ensures.value) in
    let behind : HasHeads c.loop-behind.heads (then + node_len v) rest = subst (λ (a : ℕ). HasHeads c.loop-behind.heads a rest) (sym again) (subst (λ (n : ℕ). HasHeads c.loop-behind.heads at (map node_value (drop n xs))) up c.loop-behind.invariant.heads) in
    let both = c.in_ok-place.ensures rest behind in
    let here : map node_value (drop (length xs - (k + 1)) xs) ≡ v ∷ rest = ap (λ n. map node_value (drop n xs)) down ∙ nodes_from xs j no_node inside in
    let later : old ≡ places headers (j + 1 + 1) (then + node_len v) rest =
    c.loop-behind.invariant.placed ∙ ap (λ n. places headers (n + 1) at (map node_value (drop n xs))) up ∙ ap (λ a. places headers (j + 1 + 1) a rest) (sym again) in
    record {
      small = omega (arith, c.loop-behind.invariant.small);
      before = start ∙ sym (ap (λ n. end_at 96 (map node_value (take n xs))) down);
      placed = ap reverse c.in_ok-push.ensures.items ∙ reverse-append c.loop-behind.places.items (c.in_ok-place.place ∷ [])
          ∙ ap (λ p. p ∷ old) both.0
          ∙ ap (λ ps. place_at headers (j + 1) then v rest ∷ ps) later
          ∙ sym (ap (places headers (length xs - (k + 1) + 1) then) here ∙ ap (λ m. places headers (m + 1) then (v ∷ rest)) down);
      heads = λ folder. subst (HasHeads c.placed.new.heads then) (sym here) both.1 folder;
    }

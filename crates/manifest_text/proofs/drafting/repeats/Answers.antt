-- The items are looked through as values.
use Rattle.std.proofs.Common.{◌≡◌, Bool, List, [], ◌∷◌, map, refl, sym, ap, ◌∙◌, rules, tests}
use Rattle.std.specs.Prelude.{◌||◌}
use Rattle.std.specs.List.{list_any}
use Rattle.std.proofs.lemmas.Iterator.{YieldsList-from_slice}
use Rattle.std.proofs.lemmas.Iterator.Search.{any_from_yields_List}
use Rattle.manifest_text.specs.declared.manifest.ItemKind.{ItemKind}
use Rattle.manifest_text.specs.declared.manifest.Item.{Item as StoredItem}
use Rattle.manifest_text.specs.Values.{item_value}
use Rattle.manifest_text.specs.Manifest.{is_stdin, is_root, repeats}
use Rattle.manifest_text.proofs.drafting.repeats.Goals as goal

any_value : (is : ItemKind → Bool) (items : List StoredItem) → list_any (λ (i : StoredItem). is i.kind) items ≡ list_any (λ i. is i.kind) (map item_value items)
any_value is [] = refl
any_value is (i ∷ items) = ap (λ (b : Bool). is i.kind || b) (any_value is items)

pub returns-in-Stdin : goal.returns-in-Stdin
returns-in-Stdin c =
    let items = c.args.items.now in
    any_from_yields_List (λ (i : StoredItem). is_stdin i.kind) _ _ c.any.result c.any.ensures.ran (YieldsList-from_slice items cc) (λ x b q k. search (rules, tests))
    ∙ any_value is_stdin items
    ∙ ap (repeats (map item_value items)) (sym c.in-Stdin.is)

pub returns-in-Root : goal.returns-in-Root
returns-in-Root c =
    let items = c.args.items.now in
    any_from_yields_List (λ (i : StoredItem). is_root i.kind) _ _ c.any-in-Root.result c.any-in-Root.ensures.ran (YieldsList-from_slice items cc) (λ x b q k. search (rules, tests))
    ∙ any_value is_root items
    ∙ ap (repeats (map item_value items)) (sym c.in-Root.is)

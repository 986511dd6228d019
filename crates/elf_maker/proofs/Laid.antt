-- Sections that are added to a writer.
use Rattle.std.proofs.Common.{Vec, Global, ◌≡◌, ℕ, ◌+◌, ◌<◌, ◌≤◌, List, [], ◌∷◌, ◌++◌, length, map, take, drop, get_or, refl, sym, ap, ◌∙◌, append_assoc, arith}
use Rattle.std.specs.List.{flat_map}
use Rattle.std.proofs.lemmas.List.{length-append, length-map, length-take, take_more, take-append-drop, map_more}
use Rattle.std.proofs.lemmas.List.Concat.{flat_map-append}
use Rattle.elf_maker.specs.declared.given.Part.{Part}
use Rattle.elf_maker.specs.declared.writer.Writer.{Writer}
use Rattle.elf_maker.specs.Spelling.{Item, placed, contents, Adds, part_item, table_item, relas_items}

pub length-placed : (at : ℕ) (xs : List Item) → length (placed at xs) ≡ length xs
length-placed at [] = refl
length-placed at (x ∷ xs) = let rest = length-placed (at + length x.bytes) xs in omega arith

pub placed-append : (at : ℕ) (xs ys : List Item) → placed at (xs ++ ys) ≡ placed at xs ++ placed (at + length (contents xs)) ys
placed-append at [] ys = ap (λ n. placed n ys) (let e : at ≡ at + 0 = omega arith in e)
placed-append at (x ∷ xs) ys =
    ap (λ ss. record x.header { offset = at } ∷ ss)
    (placed-append (at + length x.bytes) xs ys
    ∙ ap (λ n. placed (at + length x.bytes) xs ++ placed n ys)
    (let e : at + length x.bytes + length (contents xs) ≡ at + length (x.bytes ++ contents xs) = omega (arith, length-append x.bytes (contents xs)) in e))

pub length-contents : (a b : Writer) (xs : List Item) → Adds a b xs → length b.body.items ≡ length a.body.items + length (contents xs)
length-contents a b xs added = ap length added.body ∙ length-append a.body.items (contents xs)

pub adds_more : (a b c : Writer) (xs ys : List Item) → Adds a b xs → Adds b c ys → Adds a c (xs ++ ys)
adds_more a b c xs ys first then_ = record {
  sections = then_.sections
      ∙ ap (λ n. b.sections.items ++ placed n ys) (let e : 52 + length b.body.items ≡ (52 + length a.body.items) + length (contents xs) = omega (arith, length-contents a b xs first) in e)
      ∙ ap (λ ss. ss ++ placed ((52 + length a.body.items) + length (contents xs)) ys) first.sections
      ∙ append_assoc a.sections.items (placed (52 + length a.body.items) xs) (placed ((52 + length a.body.items) + length (contents xs)) ys)
      ∙ ap (λ ss. a.sections.items ++ ss) (sym (placed-append (52 + length a.body.items) xs ys));
  body = then_.body
      ∙ ap (λ bs. bs ++ contents ys) first.body
      ∙ append_assoc a.body.items (contents xs) (contents ys)
      ∙ ap (λ bs. a.body.items ++ bs) (sym (flat_map-append (λ (x : Item). x.bytes) xs ys));
}

-- a prefix is no longer than all
pub flat_map_prefix : {X : Type 0} (f : X → List ℕ) (xs : List X) (i : ℕ) → length (flat_map f (take i xs)) ≤ length (flat_map f xs)
flat_map_prefix f xs i =
    omega (arith, ap (λ ys. length (flat_map f ys)) (take-append-drop i xs), ap length (flat_map-append f (take i xs) (drop i xs)), length-append (flat_map f (take i xs)) (flat_map f (drop i xs)))

pub flat_map_room : {X : Type 0} (f : X → List ℕ) (xs : List X) (i : ℕ) (d : X) → i < length xs → length (flat_map f (take i xs)) + length (f (get_or xs i d)) ≤ length (flat_map f xs)
flat_map_room f xs i d below =
    let x = get_or xs i d in
    omega (arith, flat_map_prefix f xs (i + 1), ap (λ ys. length (flat_map f ys)) (take_more xs i d below), ap length (flat_map-append f (take i xs) (x ∷ [])), length-append (flat_map f (take i xs)) (flat_map f (x ∷ [])), length-append (f x) [])

pub contents-parts : (parts : List Part) → contents (map part_item parts) ≡ flat_map (λ p. p.bytes.items) parts
contents-parts [] = refl
contents-parts (p ∷ parts) = ap (λ bs. p.bytes.items ++ bs) (contents-parts parts)

-- one part more
pub parts_more : (a b c : Writer) (parts : List Part) (i : ℕ) (p : Part) → i < length parts → p ≡ get_or parts i p → Adds a b (map part_item (take i parts)) → Adds b c (part_item p ∷ []) → Adds a c (map part_item (take (i + 1) parts))
parts_more a b c parts i p below is first then_ =
    rw (map_more part_item parts i p below, ← is) (adds_more a b c (map part_item (take i parts)) (part_item p ∷ []) first then_)

pub parts_room : (a b : Writer) (parts : List Part) (i : ℕ) → Adds a b (map part_item (take i parts)) → length b.body.items ≤ length a.body.items + length (flat_map (λ p. p.bytes.items) parts)
parts_room a b parts i added =
    omega (arith, length-contents a b (map part_item (take i parts)) added, ap length (contents-parts (take i parts)), flat_map_prefix (λ (p : Part). p.bytes.items) parts i)

-- ---- relocation sections

relas_items-append : (t i : ℕ) (xs ys : List (List ℕ)) → relas_items t i (xs ++ ys) ≡ relas_items t i xs ++ relas_items t (i + length xs) ys
relas_items-append t i [] ys = ap (λ n. relas_items t n ys) (let e : i ≡ i + 0 = omega arith in e)
relas_items-append t i ([] ∷ xs) ys =
    relas_items-append t (i + 1) xs ys
    ∙ ap (λ n. relas_items t (i + 1) xs ++ relas_items t n ys) (let e : i + 1 + length xs ≡ i + length ([] ∷ xs) = omega arith in e)
relas_items-append t i ((b ∷ bs) ∷ xs) ys =
    ap (λ items. table_item 4 (b ∷ bs) t (i + 1) 12 ∷ items)
    (relas_items-append t (i + 1) xs ys
    ∙ ap (λ n. relas_items t (i + 1) xs ++ relas_items t n ys) (let e : i + 1 + length xs ≡ i + length ((b ∷ bs) ∷ xs) = omega arith in e))

pub contents-relas : (t i : ℕ) (texts : List (List ℕ)) → contents (relas_items t i texts) ≡ flat_map (λ bs. bs) texts
contents-relas t i [] = refl
contents-relas t i ([] ∷ texts) = contents-relas t (i + 1) texts
contents-relas t i ((b ∷ bs) ∷ texts) = ap (λ cs. (b ∷ bs) ++ cs) (contents-relas t (i + 1) texts)

pub flat_map-tables : (tables : List (Vec ℕ Global)) → flat_map (λ bs. bs) (map (λ t. t.items) tables) ≡ flat_map (λ t. t.items) tables
flat_map-tables [] = refl
flat_map-tables (t ∷ tables) = ap (λ bs. t.items ++ bs) (flat_map-tables tables)

pub tables_room : (a b : Writer) (t i : ℕ) (tables : List (Vec ℕ Global)) → Adds a b (relas_items t 0 (map (λ v. v.items) (take i tables))) → (d : Vec ℕ Global) → i < length tables
    → length b.body.items + length (get_or tables i d).items ≤ length a.body.items + length (flat_map (λ v. v.items) tables)
tables_room a b t i tables added d below =
    let prefix = take i tables in
    omega (
      arith,
      length-contents a b (relas_items t 0 (map (λ (v : Vec ℕ Global). v.items) prefix)) added,
      ap length (contents-relas t 0 (map (λ (v : Vec ℕ Global). v.items) prefix)),
      ap length (flat_map-tables prefix),
      flat_map_room (λ (v : Vec ℕ Global). v.items) tables i d below,
    )

pub tables_more : (a b c : Writer) (t i : ℕ) (tables : List (Vec ℕ Global)) (v : Vec ℕ Global) → i < length tables → v ≡ get_or tables i v
    → Adds a b (relas_items t 0 (map (λ x. x.items) (take i tables))) → Adds b c (relas_items t i (v.items ∷ [])) → Adds a c (relas_items t 0 (map (λ x. x.items) (take (i + 1) tables)))
tables_more a b c t i tables v below is first then_ =
    let prefix = map (λ (x : Vec ℕ Global). x.items) (take i tables) in
    let len : 0 + length prefix ≡ i = omega (arith, length-map (take i tables) (λ (x : Vec ℕ Global). x.items), length-take i tables) in
    rw (map_more (λ (x : Vec ℕ Global). x.items) tables i v below, ← is, relas_items-append t 0 prefix (v.items ∷ []), len)
    (adds_more a b c (relas_items t 0 prefix) (relas_items t i (v.items ∷ [])) first then_)

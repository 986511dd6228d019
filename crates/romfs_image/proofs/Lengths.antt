-- Nodes one by one, and how far they reach.
use Rattle.std.proofs.Common.{◌≡◌, ℕ, zero, suc, false, ◌+◌, ◌-◌, ◌<◌, ◌≤◌, ◌==◌, List, [], ◌∷◌, ◌++◌, length, map, take, drop, get_or, subst, add-one, refl, ap, ◌∙◌, arith, inl, inr}
use Rattle.std.proofs.lemmas.Bool.{cases_Bool}
use Rattle.std.proofs.lemmas.List.{length-map, take_all, drop_all}
use Rattle.romfs_image.specs.declared.place.Place.{Place}
use Rattle.romfs_image.specs.declared.node.RomNode as code
use Rattle.romfs_image.specs.declared.node.RomKind.TheVariants.{Dir}
use Rattle.romfs_image.specs.Nodes.{RomValue}
use Rattle.romfs_image.specs.Text.{node_len, first_in, end_at, places, nodes_text, most_bytes}
use Rattle.romfs_image.specs.Code.{node_value, AreNamed, AreSmall}

-- what stands past the end of a list of nodes
abbrev pub no_node : code.RomNode
no_node = record { parent = 0; name = record { ref_ptr = (0, 0); now = [] }; kind = Dir; bytes = record { ref_ptr = (0, 0); now = [] }; exec = false }

-- the node at an index, and those behind it
pub nodes_from : (xs : List code.RomNode) (i : ℕ) (d : code.RomNode) → i < length xs → map node_value (drop i xs) ≡ node_value (get_or xs i d) ∷ map node_value (drop (i + 1) xs)
nodes_from xs i d lt = from xs i d lt ∙ ap (λ k. node_value (get_or xs i d) ∷ map node_value (drop k xs)) (let e : suc i ≡ i + 1 = omega arith in e)
  where
    from : (xs : List code.RomNode) (i : ℕ) (d : code.RomNode) → i < length xs → map node_value (drop i xs) ≡ node_value (get_or xs i d) ∷ map node_value (drop (suc i) xs)
    from [] i d lt = absurd (omega arith)
    from (y ∷ ys) zero d lt = refl
    from (y ∷ ys) (suc i) d lt = from ys i d (omega arith)

pub end_above : (at : ℕ) (ns : List RomValue) → at ≤ end_at at ns
end_above at [] = omega arith
end_above at (n ∷ ns) = omega (arith, end_above (at + node_len n) ns)

pub first_within : (folder at : ℕ) (ns : List RomValue) → first_in folder at ns ≤ end_at at ns
first_within folder at [] = omega arith
first_within folder at (n ∷ ns) = elim (cases_Bool (n.parent == folder)) [
  | inl here ↦ rw here (omega (arith, end_above (at + node_len n) ns))
  | inr later ↦ rw later (first_within folder (at + node_len n) ns)
]

-- a node ends where those from it on do, or before
pub ends_within : (xs : List code.RomNode) (i : ℕ) (d : code.RomNode) (at : ℕ) → i < length xs → at + node_len (node_value (get_or xs i d)) ≤ end_at at (map node_value (drop i xs))
ends_within xs i d at lt =
    omega (arith, ap (end_at at) (nodes_from xs i d lt), end_above (at + node_len (node_value (get_or xs i d))) (map node_value (drop (i + 1) xs)))

pub named_at : (xs : List code.RomNode) (i : ℕ) (d : code.RomNode) → i < length xs → AreNamed (map node_value (drop i xs)) → (length (get_or xs i d).name.now ≤ 255) × (length (get_or xs i d).bytes.now ≤ node_len (node_value (get_or xs i d)))
named_at xs i d lt named = let here = subst AreNamed (nodes_from xs i d lt) named in (here.0, here.1)

pub end_more : (at : ℕ) (ns : List RomValue) (n : RomValue) → end_at at (ns ++ n ∷ []) ≡ end_at at ns + node_len n
end_more at [] n = refl
end_more at (m ∷ ns) n = end_more (at + node_len m) ns n

pub nodes_more : (xs : List code.RomNode) (i : ℕ) (d : code.RomNode) → i < length xs → map node_value (take (i + 1) xs) ≡ map node_value (take i xs) ++ node_value (get_or xs i d) ∷ []
nodes_more xs i d lt = rw add-one (from xs i d lt)
  where
    from : (xs : List code.RomNode) (i : ℕ) (d : code.RomNode) → i < length xs → map node_value (take (suc i) xs) ≡ map node_value (take i xs) ++ node_value (get_or xs i d) ∷ []
    from [] i d lt = absurd (omega arith)
    from (y ∷ ys) zero d lt = refl
    from (y ∷ ys) (suc i) d lt = ap (λ ns. node_value y ∷ ns) (from ys i d (omega arith))

-- each node takes some bytes
pub count_within : (at : ℕ) (ns : List RomValue) → at + length ns ≤ end_at at ns
unfolding node_len
count_within at [] = omega arith
count_within at (n ∷ ns) = omega (arith, count_within (at + node_len n) ns)

pub end_shift : (a b : ℕ) (ns : List RomValue) → end_at (a + b) ns ≡ a + end_at b ns
end_shift a b [] = refl
end_shift a b (n ∷ ns) = ap (λ k. end_at k ns) (let e : (a + b) + node_len n ≡ a + (b + node_len n) = omega arith in e) ∙ end_shift a (b + node_len n) ns

-- where all end within the limit, places are small
pub small_places : (headers : List ℕ) (number at : ℕ) (ns : List RomValue) → end_at at ns ≤ most_bytes → AreSmall (places headers number at ns)
small_places headers number at [] fit = tt
small_places headers number at (n ∷ ns) fit =
    (omega (arith, end_above (at + node_len n) ns), omega (arith, first_within n.parent (at + node_len n) ns), small_places headers (number + 1) (at + node_len n) ns fit)

-- ---- the last node so far, going backward

pub index_of : (n k : ℕ) → k < n → n - k ≡ (n - 1 - k) + 1
index_of n k lt = omega arith

pub first_node : (n k : ℕ) → k < n → n - (k + 1) ≡ n - 1 - k
first_node n k lt = omega arith

pub before_node : (xs : List code.RomNode) (j : ℕ) → j < length xs → end_at 96 (map node_value (take (j + 1) xs)) ≡ end_at 96 (map node_value (take j xs)) + node_len (node_value (get_or xs j no_node))
before_node xs j lt = ap (end_at 96) (nodes_more xs j no_node lt) ∙ end_more 96 (map node_value (take j xs)) (node_value (get_or xs j no_node))

pub count_small : (xs : List code.RomNode) → end_at 96 (map node_value xs) ≤ most_bytes → length xs ≤ most_bytes
count_small xs fit = omega (arith, count_within 96 (map node_value xs), length-map xs node_value, fit)

pub all_before : (xs : List code.RomNode) (n : ℕ) → n ≡ length xs → map node_value (take n xs) ≡ map node_value xs
all_before xs n is = ap (λ k. map node_value (take k xs)) is ∙ ap (map node_value) (take_all (length xs) xs (omega arith))

pub none_behind : (xs : List code.RomNode) (n : ℕ) → n ≡ length xs → map node_value (drop n xs) ≡ []
none_behind xs n is = ap (λ k. map node_value (drop k xs)) is ∙ ap (map node_value) (drop_all (length xs) xs (omega arith))

pub named_from : (xs : List code.RomNode) (i : ℕ) → AreNamed (map node_value xs) → AreNamed (map node_value (drop i xs))
named_from xs zero named = named
named_from [] (suc i) named = tt
named_from (x ∷ xs) (suc i) named = named_from xs i named.2

pub no_text : (ps : List Place) → nodes_text ps [] ≡ []
no_text [] = refl
no_text (p ∷ ps) = refl

-- The nodes of an image one after the other.
use Rattle.std.proofs.Common.{◌≡◌, ℕ, ◌+◌, ◌<◌, ◌≤◌, List, ◌∷◌, length, map, drop, get_or, add-one, drop-cons, Result, Ok, Err, sym, ap, subst, ◌∙◌, inl, inr}
use Rattle.std.specs.Prelude.{◌⊎◌, ⊤}
use Rattle.std.specs.Result.{IsErr, IsErrAnd}
use Rattle.std.proofs.lemmas.List.{drop_all, drop-map}
use Rattle.romfs_image.specs.Nodes.{RomValue}
use Rattle.rom_tree.specs.Paths.{rom_path}
use Rattle.run_setup.specs.declared.fault.LineFault.{LineFault}
use Rattle.run_setup.specs.declared.bringing.RunFiles.{RunFiles}
use Rattle.run_setup.specs.Faults.{IsMemory}
use Rattle.run_setup.specs.Making.{Brings}
use Rattle.run_setup.specs.Brought.{Brought, node_brought, then_more, nodes_brought}

module _ (all : List RomValue) (index : ℕ) (b : Brought) (wanted : Result Brought LineFault) (so_far : nodes_brought all (index + 1) (drop index all) b ≡ wanted) where
  module _ (n : RomValue) (opened : drop index all ≡ n ∷ drop (index + 1) all) (r : Result Brought LineFault) (is : node_brought b (rom_path all (index + 1)) n ≡ r) where
    here : nodes_brought all (index + 1) (drop index all) b ≡ then_more r (nodes_brought all (index + 1 + 1) (drop (index + 1) all))
    unfolding nodes_brought
    here = ap (λ (ns : List RomValue). nodes_brought all (index + 1) ns b) opened ∙ ap (λ (x : Result Brought LineFault). then_more x (nodes_brought all (index + 1 + 1) (drop (index + 1) all))) is

    pub then_rest : then_more r (nodes_brought all (index + 1 + 1) (drop (index + 1) all)) ≡ wanted
    then_rest = sym here ∙ so_far

  -- behind the last node
  pub all_nodes : length all ≤ index → wanted ≡ Ok b
  unfolding nodes_brought
  all_nodes past = sym so_far ∙ ap (λ (ns : List RomValue). nodes_brought all (index + 1) ns b) (drop_all index all past)

  -- one node, at its path
  module _ (n : RomValue) (opened : drop index all ≡ n ∷ drop (index + 1) all) (path : List ℕ) (spelled : path ≡ rom_path all (index + 1)) where
    at_path : (r : Result Brought LineFault) → node_brought b path n ≡ r → node_brought b (rom_path all (index + 1)) n ≡ r
    at_path r is = ap (λ (p : List ℕ). node_brought b p n) (sym spelled) ∙ is

    pub goes_on : (now : Brought) → node_brought b path n ≡ Ok now → nodes_brought all (index + 1 + 1) (drop (index + 1) all) now ≡ wanted
    goes_on now is = then_rest n opened (Ok now) (at_path (Ok now) is)

    pub nodes_refused : (e : LineFault) → IsMemory e ⊎ (node_brought b path n ≡ Err e) → (old new : RunFiles) (r : Result ⊤ LineFault) → IsErr r → IsErrAnd r (λ x. x ≡ e) → Brings wanted old new r
    nodes_refused e why old new (Ok done) err is = absurd cc
    nodes_refused e why old new (Err x) err is =
        elim why [
          | inl memory ↦ inl (subst IsMemory (sym is) memory)
          | inr refused ↦ inr (sym (then_rest n opened (Err e) (at_path (Err e) refused)) ∙ ap (λ (y : LineFault). Err y) (sym is))
        ]

-- a list that is seen through a function, opened at one place
pub open_mapped : {A B : Type 0} (f : A → B) (xs : List A) (i : ℕ) (d : A) → i < length xs → drop i (map f xs) ≡ f (get_or xs i d) ∷ drop (i + 1) (map f xs)
open_mapped f xs i d below =
    drop-map f i xs
    ∙ ap (map f) (drop-cons xs i d below)
    ∙ ap (λ n. f (get_or xs i d) ∷ map f (drop n xs)) (sym (add-one i))
    ∙ ap (λ ys. f (get_or xs i d) ∷ ys) (sym (drop-map f (i + 1) xs))

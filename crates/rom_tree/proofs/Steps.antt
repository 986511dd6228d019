-- The walk over a tree, a step at a time.
use Rattle.std.proofs.Common.{◌≡◌, ℕ, zero, suc, ◌+◌, ◌-◌, ◌<◌, ◌≤◌, List, [], ◌∷◌, ◌++◌, map, drop, refl, sym, ap, subst, ◌∙◌, append_assoc, arith}
use Rattle.std.specs.Prelude.{Some, slice_get}
use Rattle.std.specs.List.{AllByRecursion}
use Rattle.std.proofs.lemmas.List.{reverse-append, map-append, append-nil}
use Rattle.mem_files.specs.Inodes.{Entry, Inodes, entries_of}
use Rattle.romfs_image.specs.declared.node.RomNode.{RomNode}
use Rattle.romfs_image.specs.Nodes.{RomValue}
use Rattle.romfs_image.specs.Code.{node_value}
use Rattle.rom_tree.specs.declared.nodes.Waiting.{Waiting as Stored}
use Rattle.rom_tree.specs.Nodes.{Waiting, waiting_in, node_in, walk}
use Rattle.rom_tree.specs.Code.{waiting_value, waiting_list, IsOfBytes}

pub one_more : (stack : List Stored) (w : Stored) → waiting_list (stack ++ w ∷ []) ≡ waiting_value w ∷ waiting_list stack
one_more stack w = ap (map waiting_value) (reverse-append stack (w ∷ []))

opened : (es : List Entry) (k : ℕ) (e : Entry) → slice_get es k ≡ Some e → drop k es ≡ e ∷ drop (suc k) es
opened [] k e is = absurd cc
opened (x ∷ es) zero e is = let same : x ≡ e = cc in ap (λ (y : Entry). y ∷ es) same
opened (x ∷ es) (suc k) e is = opened es k e is

-- the entry before those that wait
pub entry_waits : (es : List Entry) (number count k : ℕ) (e : Entry) (rest : List Waiting) → k < count → slice_get es (count - 1 - k) ≡ Some e
    → record { parent = number; entry = e } ∷ (waiting_in number (drop (count - k) es) ++ rest) ≡ waiting_in number (drop (count - (k + 1)) es) ++ rest
entry_waits es number count k e rest lt is =
    let same : count - 1 - k ≡ count - (k + 1) = omega arith in
    let next : suc (count - 1 - k) ≡ count - k = omega (arith, lt) in
    let here : drop (count - (k + 1)) es ≡ e ∷ drop (count - k) es = ap (λ (i : ℕ). drop i es) (sym same) ∙ opened es (count - 1 - k) e is ∙ ap (λ (i : ℕ). e ∷ drop i es) next in
    sym (ap (λ (xs : List Entry). waiting_in number xs ++ rest) here)

-- a node is taken
pub node_taken : (ns : Inodes) (most k : ℕ) (w : Waiting) (left : List Waiting) (nodes : List RomValue) → k < most
    → (nodes ++ node_in ns w ∷ []) ++ walk (most - (k + 1)) ns (k + 1 + 1) (waiting_in (k + 1) (entries_of ns w.entry.id) ++ left) ≡ nodes ++ walk (most - k) ns (k + 1) (w ∷ left)
node_taken ns most k w left nodes lt =
    let steps : suc (most - (k + 1)) ≡ most - k = omega (arith, lt) in
    append_assoc nodes (node_in ns w ∷ []) (walk (most - (k + 1)) ns (k + 1 + 1) (waiting_in (k + 1) (entries_of ns w.entry.id) ++ left))
    ∙ ap (λ (s : ℕ). nodes ++ walk s ns (k + 1) (w ∷ left)) steps

-- a node is taken off the stack, and what is in it waits
pub goes_on : (ns : Inodes) (most k : ℕ) (stack popped : List Stored) (w : Stored) (after : List Waiting) (nodes more : List RomNode) (n : RomNode) (all : List RomValue) → k < most
    → stack ≡ popped ++ w ∷ [] → more ≡ nodes ++ n ∷ [] → node_value n ≡ node_in ns (waiting_value w) → after ≡ waiting_in (k + 1) (entries_of ns w.id) ++ waiting_list popped
    → map node_value nodes ++ walk (most - k) ns (k + 1) (waiting_list stack) ≡ all → map node_value more ++ walk (most - (k + 1)) ns (k + 1 + 1) after ≡ all
goes_on ns most k stack popped w after nodes more n all lt is added value waits rest =
    let values : map node_value more ≡ map node_value nodes ++ node_in ns (waiting_value w) ∷ [] =
    ap (map node_value) added ∙ map-append node_value nodes (n ∷ []) ∙ ap (λ (v : RomValue). map node_value nodes ++ v ∷ []) value in
    ap (λ (vs : List RomValue). vs ++ walk (most - (k + 1)) ns (k + 1 + 1) after) values
    ∙ ap (λ (left : List Waiting). (map node_value nodes ++ node_in ns (waiting_value w) ∷ []) ++ walk (most - (k + 1)) ns (k + 1 + 1) left) waits
    ∙ node_taken ns most k (waiting_value w) (waiting_list popped) (map node_value nodes) lt
    ∙ ap (λ (left : List Waiting). map node_value nodes ++ walk (most - k) ns (k + 1) left) (sym (ap waiting_list is ∙ one_more popped w))
    ∙ rest

all_push : (P : RomValue → Type 0) (xs : List RomValue) (x : RomValue) → AllByRecursion P xs → P x → AllByRecursion P (xs ++ x ∷ [])
all_push P [] x all is = (is, tt)
all_push P (y ∷ ys) x all is = (all.0, all_push P ys x all.1 is)

pub bytes_more : (nodes more : List RomNode) (n : RomNode) → more ≡ nodes ++ n ∷ [] → AllByRecursion IsOfBytes (map node_value nodes) → IsOfBytes (node_value n) → AllByRecursion IsOfBytes (map node_value more)
bytes_more nodes more n added all is =
    subst (λ (vs : List RomValue). AllByRecursion IsOfBytes vs) (sym (ap (map node_value) added ∙ map-append node_value nodes (n ∷ []))) (all_push IsOfBytes (map node_value nodes) (node_value n) all is)

-- nothing waits
walk_ends : (ns : Inodes) (steps number : ℕ) → walk steps ns number [] ≡ []
walk_ends ns zero number = refl
walk_ends ns (suc steps) number = refl

pub ended : (ns : Inodes) (steps number : ℕ) (stack : List Stored) (nodes all : List RomValue) → stack ≡ [] → nodes ++ walk steps ns number (waiting_list stack) ≡ all → nodes ≡ all
ended ns steps number stack nodes all none rest =
    sym (append-nil nodes) ∙ ap (λ (vs : List RomValue). nodes ++ vs) (sym (ap (λ (xs : List Stored). walk steps ns number (waiting_list xs)) none ∙ walk_ends ns steps number)) ∙ rest

-- all steps are taken
pub all_taken : (ns : Inodes) (most k number : ℕ) (left : List Waiting) (nodes all : List RomValue) → most ≤ k → nodes ++ walk (most - k) ns number left ≡ all → nodes ≡ all
all_taken ns most k number left nodes all past rest =
    let none : most - k ≡ 0 = omega (arith, past) in
    sym (append-nil nodes) ∙ ap (λ (vs : List RomValue). nodes ++ vs) (sym (ap (λ (s : ℕ). walk s ns number left) none)) ∙ rest

-- The paths of an image's nodes have no zero byte.
use Rattle.std.proofs.Common.{◌≡◌, ℕ, zero, suc, ◌+◌, Bool, true, false, cond, not, List, [], ◌∷◌, ◌++◌, map, length, take, drop, Option, Some, None, Result, Ok, Err, refl, sym, subst, arith}
use Rattle.std.specs.Prelude.{◌==◌, ◌&&◌, slice_get, option_map}
use Rattle.std.specs.Option.{unwrap_or}
use Rattle.std.specs.List.{AllByRecursion, list_any, list_all, before_first, prefix_len, flat_map}
use Rattle.mem_files.specs.Paths.{slash}
use Rattle.romfs_image.specs.declared.fault.RomFault.{RomFault}
use Rattle.romfs_image.specs.declared.fault.RomFault.TheVariants as rom
use Rattle.romfs_image.specs.declared.level.Level.{Level}
use Rattle.romfs_image.specs.Header.{name_at, name_end, header_at}
use Rattle.romfs_image.specs.Fault.{image_of, super_fault, is_node}
use Rattle.romfs_image.specs.Walk.{Entry, levels_behind, entries_behind, unless, fault_at, walk, walked}
use Rattle.romfs_image.specs.Nodes.{RomValue}
use Rattle.romfs_image.specs.Reading.{is_dangling, file_of, folder_of, node_of, linked, nodes_of, unless_fault, rom_read}
use Rattle.romfs_image.specs.Paths.{numbered, names_to}
use Rattle.rom_tree.specs.Names.{IsClear}
use Rattle.rom_tree.specs.Paths.{rom_path}

by_test : {R : Type 0} (P : R → Type 0) (b : Bool) (x y : R) → (b ≡ true → P x) → (b ≡ false → P y) → P (cond b x y)
by_test P true x y if_true if_false = if_true refl
by_test P false x y if_true if_false = if_false refl

both_true : (a b : Bool) → a ≡ true → b ≡ true → (a && b) ≡ true
both_true true true p q = refl
both_true true false p q = absurd cc
both_true false b p q = absurd cc

-- ---- names

before_zero : (bytes : List ℕ) → IsClear (before_first (λ b. b == 0) bytes)
before_zero [] = refl
before_zero (b ∷ bytes) =
    let k = prefix_len (λ x. not (x == 0)) bytes in
    let more : 1 + k ≡ suc k = omega arith in
    by_test (λ (n : ℕ). IsClear (take n (b ∷ bytes))) (not (b == 0)) (1 + k) 0
    (λ other. subst (λ (n : ℕ). IsClear (take n (b ∷ bytes))) (sym more) (both_true (not (b == 0)) (list_all (λ b. not (b == 0)) (before_first (λ b. b == 0) bytes)) other (before_zero bytes))) (λ hit. refl)

header_clear : (y : List ℕ) (at : ℕ) → IsClear (header_at y at).name
unfolding header_at name_at
header_clear y at = before_zero (drop (at + 16) y)

abbrev HasClearName : Entry → Type 0
HasClearName e = IsClear e.header.name

abbrev ok : List Entry → Result (List Entry) RomFault
ok entries = Ok entries

same_ok : (x y : List Entry) → ok x ≡ ok y → x ≡ y
same_ok x y is = cc

all_push : {A : Type 0} (P : A → Type 0) (xs : List A) (x : A) → AllByRecursion P xs → P x → AllByRecursion P (xs ++ x ∷ [])
all_push P [] x all is = (is, tt)
all_push P (y ∷ ys) x all is = (all.0, all_push P ys x all.1 is)

behind_clear : (y : List ℕ) (level : Level) (found : List Entry) → AllByRecursion HasClearName found → AllByRecursion HasClearName (entries_behind (header_at y level.at) level found)
behind_clear y level found all =
    by_test (AllByRecursion HasClearName) (is_node (header_at y level.at)) (found ++ record { folder = level.folder; at = level.at; header = header_at y level.at } ∷ []) found
    (λ hit. all_push HasClearName found (record { folder = level.folder; at = level.at; header = header_at y level.at }) all (header_clear y level.at)) (λ other. all)

unless_clear : (o : Option RomFault) (r : Result (List Entry) RomFault) (entries : List Entry) → unless o r ≡ Ok entries → (r ≡ Ok entries → AllByRecursion HasClearName entries) → AllByRecursion HasClearName entries
unless_clear None r entries is more = more is
unless_clear (Some f) r entries is more = absurd cc

walk_clear : (steps : ℕ) (y : List ℕ) (before : ℕ) (levels : List Level) (found entries : List Entry) → AllByRecursion HasClearName found → walk steps y before levels found ≡ Ok entries → AllByRecursion HasClearName entries
walk_clear zero y before [] found entries all is = subst (AllByRecursion HasClearName) (same_ok found entries is) all
walk_clear zero y before (level ∷ levels) found entries all is = subst (AllByRecursion HasClearName) (same_ok found entries is) all
walk_clear (suc steps) y before [] found entries all is = subst (AllByRecursion HasClearName) (same_ok found entries is) all
walk_clear (suc steps) y before (level ∷ levels) found entries all is =
    unless_clear (fault_at y before level found) _ entries is
    (λ more. walk_clear steps y level.at (levels_behind (header_at y level.at) level.folder (length found + 1) levels) (entries_behind (header_at y level.at) level found) entries (behind_clear y level found all) more)

walked_clear : (y : List ℕ) (entries : List Entry) → walked y ≡ Ok entries → AllByRecursion HasClearName entries
unfolding walked
walked_clear y entries is = walk_clear (length y) y 0 (record { at = name_end y 0; folder = 0 } ∷ []) [] entries tt is

-- ---- nodes

abbrev IsClearNode : RomValue → Type 0
IsClearNode n = IsClear n.name

node_clear : (y : List ℕ) (e : Entry) → HasClearName e → IsClearNode (node_of y e)
unfolding node_of
node_clear y e is =
    by_test IsClearNode (e.header.kind == 1) (folder_of e) (cond (e.header.kind == 0) (file_of y e (header_at y e.header.info)) (file_of y e e.header)) (λ hit. is)
    (λ other. by_test IsClearNode (e.header.kind == 0) (file_of y e (header_at y e.header.info)) (file_of y e e.header) (λ hit. is) (λ plain. is))

nodes_clear : (y : List ℕ) (entries : List Entry) → AllByRecursion HasClearName entries → AllByRecursion IsClearNode (map (node_of y) entries)
nodes_clear y [] all = tt
nodes_clear y (e ∷ entries) all = (node_clear y e all.0, nodes_clear y entries all.1)

abbrev ok_nodes : List RomValue → Result (List RomValue) RomFault
ok_nodes nodes = Ok nodes

same_nodes : (x y : List RomValue) → ok_nodes x ≡ ok_nodes y → x ≡ y
same_nodes x y is = cc

linked_by : (y : List ℕ) (entries : List Entry) (nodes : List RomValue) (dangles : Bool) → cond dangles (Err rom.Link) (Ok (map (node_of y) entries)) ≡ Ok nodes → AllByRecursion HasClearName entries → AllByRecursion IsClearNode nodes
linked_by y entries nodes true is all = absurd cc
linked_by y entries nodes false is all = subst (AllByRecursion IsClearNode) (same_nodes (map (node_of y) entries) nodes is) (nodes_clear y entries all)

linked_clear : (y : List ℕ) (r : Result (List Entry) RomFault) (nodes : List RomValue) → walked y ≡ r → nodes_of y r ≡ Ok nodes → AllByRecursion IsClearNode nodes
unfolding linked
linked_clear y (Ok entries) nodes found is = linked_by y entries nodes (list_any (is_dangling entries) entries) is (walked_clear y entries found)
linked_clear y (Err f) nodes found is = absurd cc

read_by : (y : List ℕ) (o : Option RomFault) (nodes : List RomValue) → unless_fault o (nodes_of (image_of y) (walked (image_of y))) ≡ Ok nodes → AllByRecursion IsClearNode nodes
read_by y None nodes is = linked_clear (image_of y) (walked (image_of y)) nodes refl is
read_by y (Some f) nodes is = absurd cc

read_clear : (y : List ℕ) (nodes : List RomValue) → rom_read y ≡ Ok nodes → AllByRecursion IsClearNode nodes
unfolding rom_read
read_clear y nodes is = read_by y (super_fault y) nodes is

-- ---- paths

got_clear : (nodes : List RomValue) (i : ℕ) (n : RomValue) → AllByRecursion IsClearNode nodes → slice_get nodes i ≡ Some n → IsClear n.name
got_clear [] i n all is = absurd cc
got_clear (x ∷ nodes) zero n all is = let same : x ≡ n = cc in subst IsClearNode same all.0
got_clear (x ∷ nodes) (suc i) n all is = got_clear nodes i n all.1 is

numbered_clear : (nodes : List RomValue) (number : ℕ) (b : Bool) (n : RomValue) (i : ℕ) → AllByRecursion IsClearNode nodes → cond b None (slice_get nodes i) ≡ Some n → IsClear n.name
numbered_clear nodes number true n i all is = absurd cc
numbered_clear nodes number false n i all is = got_clear nodes i n all is

names_clear : (nodes : List RomValue) → AllByRecursion IsClearNode nodes → (steps number : ℕ) → AllByRecursion IsClear (names_to steps nodes number)
names_clear nodes all zero number = tt
names_clear nodes all (suc steps) number = by (numbered nodes number) (λ n is. numbered_clear nodes number (number == 0) n _ all is) (λ n. names_clear nodes all steps n.parent)
  where
    by : (o : Option RomValue) → ((n : RomValue) → o ≡ Some n → IsClear n.name) → ((n : RomValue) → AllByRecursion IsClear (names_to steps nodes n.parent))
        → AllByRecursion IsClear (unwrap_or (option_map (λ (n : RomValue). names_to steps nodes n.parent ++ n.name ∷ []) o) [])
    by None each more = tt
    by (Some n) each more = all_push IsClear (names_to steps nodes n.parent) n.name (more n) (each n refl)

clear_append : (xs ys : List ℕ) → IsClear xs → IsClear ys → IsClear (xs ++ ys)
clear_append [] ys p q = q
clear_append (x ∷ xs) ys p q = by (not (x == 0)) (list_all (λ b. not (b == 0)) xs) p (clear_append xs ys)
  where
    by : (a b : Bool) → (a && b) ≡ true → (b ≡ true → IsClear ys → IsClear (xs ++ ys)) → (a && list_all (λ b. not (b == 0)) (xs ++ ys)) ≡ true
    by true true h more = more refl q
    by true false h more = absurd cc
    by false b h more = absurd cc

path_clear : (names : List (List ℕ)) → AllByRecursion IsClear names → IsClear (flat_map (λ name. slash ∷ name) names)
path_clear [] all = refl
path_clear (name ∷ names) all = clear_append (slash ∷ name) (flat_map (λ name. slash ∷ name) names) all.0 (path_clear names all.1)

pub image_paths : (y : List ℕ) (nodes : List RomValue) → rom_read y ≡ Ok nodes → (number : ℕ) → IsClear (rom_path nodes number)
image_paths y nodes is number = path_clear (names_to number nodes number) (names_clear nodes (read_clear y nodes is) number number)

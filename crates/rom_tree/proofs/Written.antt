-- A tree that is made at paths without a zero has names that an image can have.
use Rattle.std.proofs.Common.{◌≡◌, ℕ, zero, suc, ◌<◌, Bool, true, false, cond, not, List, [], ◌∷◌, ◌++◌, length, Option, Some, None, Result, Ok, Err, refl, sym, ap, subst, arith}
use Rattle.std.specs.Prelude.{◌==◌, ◌&&◌, ◌||◌, nat_lt, nat_le, bytes_eq, codes, filter, slice_get, slice_set}
use Rattle.std.specs.List.{AllByRecursion, list_any, list_all}
use Rattle.std.proofs.lemmas.Bool.Decides.{nat_tests}
use Rattle.byte_words.specs.Pieces.{in_front, pieces}
use Rattle.call_log.specs.declared.errno.Errno.{Errno}
use Rattle.call_log.specs.declared.errno.Errno.TheVariants.{Enoent, Enametoolong}
use Rattle.mem_files.specs.Inodes.{Entry, Content, file, folder, Inode, Inodes, new_inode, opening, inode_at, content_in, entries_in}
use Rattle.mem_files.specs.Paths.{Place, start, names, is_too_long, named, looked_up, next_place, then_walked, walked, place_of}
use Rattle.mem_files.specs.Changes.{with_entries, with_entry, with_new, with_folder, with_file}
use Rattle.mem_files.proofs.TreesKept.{made_leaves}
use Rattle.romfs_image.specs.Fault.{is_dots}
use Rattle.rom_tree.specs.Names.{IsClear, can_be_written, CanBeWritten}

-- ---- tests

by_test : {R : Type 0} (P : R → Type 0) (b : Bool) (x y : R) → (b ≡ true → P x) → (b ≡ false → P y) → P (cond b x y)
by_test P true x y if_true if_false = if_true refl
by_test P false x y if_true if_false = if_false refl

both_of : (a b : Bool) → (a && b) ≡ true → (a ≡ true) × (b ≡ true)
both_of true true p = (refl, refl)
both_of true false p = absurd cc
both_of false b p = absurd cc

neither : (a b : Bool) → (a || b) ≡ false → (a ≡ false) × (b ≡ false)
neither false false h = (refl, refl)
neither false true h = absurd cc
neither true b h = absurd cc

four : (a b c d : Bool) → a ≡ true → b ≡ true → c ≡ true → d ≡ true → (a && b && c && d) ≡ true
four true true true true p q r s = refl
four true true true false p q r s = absurd cc
four true true false d p q r s = absurd cc
four true false c d p q r s = absurd cc
four false b c d p q r s = absurd cc

three : (a b c : Bool) → a ≡ true → b ≡ false → c ≡ true → ((a && not b) && c) ≡ true
three true false true p q r = refl
three true false false p q r = absurd cc
three true true c p q r = absurd cc
three false b c p q r = absurd cc

-- ---- the names of a path

abbrev IsGood : List ℕ → Type 0
IsGood name = list_all (λ b. not (b == 0) && not (b == 47)) name ≡ true

front_good : (b : ℕ) (ps : List (List ℕ)) → not (b == 0) ≡ true → (b == 47) ≡ false → AllByRecursion IsGood ps → AllByRecursion IsGood (in_front b ps)
front_good b [] clear other all = (three (not (b == 0)) (b == 47) true clear other refl, tt)
front_good b (p ∷ ps) clear other all = (three (not (b == 0)) (b == 47) (list_all (λ b. not (b == 0) && not (b == 47)) p) clear other all.0, all.1)

pieces_good : (path : List ℕ) → IsClear path → AllByRecursion IsGood (pieces 47 path)
unfolding pieces
pieces_good [] clear = (refl, tt)
pieces_good (b ∷ bs) clear =
    let p = both_of (not (b == 0)) (list_all (λ b. not (b == 0)) bs) clear in
    by_test (AllByRecursion IsGood) (b == 47) ([] ∷ pieces 47 bs) (in_front b (pieces 47 bs))
    (λ hit. (refl, pieces_good bs p.1)) (λ other. front_good b (pieces 47 bs) p.0 other (pieces_good bs p.1))

record IsNamed (name : List ℕ) : Type 0 where
  good : IsGood name
  some : 0 < length name

some_of : (n : ℕ) → not (n == 0) ≡ true → 0 < n
some_of n is = grind (arith, nat_tests)

kept_named : (ps : List (List ℕ)) → AllByRecursion IsGood ps → AllByRecursion IsNamed (filter (λ piece. not (length piece == 0)) ps)
kept_named [] all = tt
kept_named (p ∷ ps) all =
    by_test (AllByRecursion IsNamed) (not (length p == 0)) (p ∷ filter (λ piece. not (length piece == 0)) ps) (filter (λ piece. not (length piece == 0)) ps)
    (λ some. (record { good = all.0; some = some_of (length p) some }, kept_named ps all.1)) (λ none. kept_named ps all.1)

names_named : (path : List ℕ) → IsClear path → AllByRecursion IsNamed (names path)
unfolding names
names_named path clear = kept_named (pieces 47 path) (pieces_good path clear)

can_of : (name : List ℕ) → IsNamed name → nat_lt 255 (length name) ≡ false → is_dots name ≡ false → can_be_written name ≡ true
unfolding can_be_written
can_of name is short other =
    let some : nat_lt 0 (length name) ≡ true = (let lt = is.some in grind (arith, nat_tests)) in
    let few : nat_le (length name) 255 ≡ true = grind (arith, nat_tests) in
    four (nat_lt 0 (length name)) (nat_le (length name) 255) (list_all (λ b. not (b == 0) && not (b == 47)) name) (not (is_dots name)) some few is.good (ap not other)

-- ---- where a walk ends

-- what isn't there has a name that can be written
abbrev IsFine : Place → Type 0
IsFine p = p.id ≡ None → can_be_written p.name ≡ true

abbrev ok : Place → Result Place Errno
ok p = Ok p

same_ok : (p q : Place) → ok p ≡ ok q → p ≡ q
same_ok p q e = cc

no_dots : (here above : Bool) (at parent : ℕ) (o : Option ℕ) → cond here (Some at) (cond above (Some parent) o) ≡ None → (here || above) ≡ false
no_dots true above at parent o e = absurd (let f : ⊥ = cc in f)
no_dots false true at parent o e = absurd (let f : ⊥ = cc in f)
no_dots false false at parent o e = refl

dots_by : (name : List ℕ) → (bytes_eq name (codes ".") || bytes_eq name (codes "..")) ≡ false → is_dots name ≡ false
unfolding is_dots
dots_by name none = none

looked : (at : ℕ) (name : List ℕ) → IsNamed name → nat_lt 255 (length name) ≡ false → (content : Content) (q : Place) → looked_up at name content ≡ Ok q → IsFine q
looked at name is short (file bytes) q e = absurd (let f : ⊥ = cc in f)
looked at name is short (folder parent entries) q e =
    subst IsFine (same_ok _ q e) (λ none. can_of name is short (dots_by name (no_dots (bytes_eq name (codes ".")) (bytes_eq name (codes "..")) at parent (named name entries) none)))

stepped : (ns : Inodes) (name : List ℕ) → IsNamed name → nat_lt 255 (length name) ≡ false → (o : Option ℕ) (q : Place) → next_place ns name o ≡ Ok q → IsFine q
stepped ns name is short None q e = absurd (let f : ⊥ = cc in f)
stepped ns name is short (Some at) q e = looked at name is short (content_in (inode_at ns at)) q e

then_fine : (r : Result Place Errno) (more : Place → Result Place Errno) (q : Place) → then_walked r more ≡ Ok q → ((p : Place) → r ≡ Ok p → more p ≡ Ok q → IsFine q) → IsFine q
then_fine (Ok p) more q e f = f p refl e
then_fine (Err errno) more q e f = absurd (let g : ⊥ = cc in g)

walked_fine : (ns : Inodes) (ls : List (List ℕ)) → AllByRecursion IsNamed ls → list_any (λ name. nat_lt 255 (length name)) ls ≡ false → (p q : Place) → walked ns ls p ≡ Ok q → IsFine p → IsFine q
unfolding walked
walked_fine ns [] all short p q e s = subst IsFine (same_ok p q e) s
walked_fine ns (name ∷ more) all short p q e s =
    let few = neither (nat_lt 255 (length name)) (list_any (λ name. nat_lt 255 (length name)) more) short in
    then_fine (next_place ns name p.id) (walked ns more) q e (λ p2 is e2. walked_fine ns more all.1 few.1 p2 q e2 (stepped ns name all.0 few.0 p.id p2 is))

by_tests : (ns : Inodes) (path : List ℕ) (q : Place) → IsClear path → (long empty : Bool) → is_too_long path ≡ long → cond long (Err Enametoolong) (cond empty (Err Enoent) (walked ns (names path) start)) ≡ Ok q → IsFine q
unfolding is_too_long
by_tests ns path q clear true empty is e = absurd (let f : ⊥ = cc in f)
by_tests ns path q clear false true is e = absurd (let f : ⊥ = cc in f)
by_tests ns path q clear false false is e =
    walked_fine ns (names path) (names_named path clear) (neither (nat_lt 4095 (length path)) (list_any (λ name. nat_lt 255 (length name)) (names path)) is).1 start q e (λ none. absurd (let f : ⊥ = cc in f))

place_fine : (ns : Inodes) (path : List ℕ) (q : Place) → IsClear path → place_of ns path ≡ Ok q → IsFine q
unfolding place_of
place_fine ns path q clear e = by_tests ns path q clear (is_too_long path) (length path == 0) refl e

-- ---- a new node

abbrev Can : Entry → Type 0
Can e = can_be_written e.name ≡ true

abbrev AllCan : Inodes → Type 0
AllCan ns = AllByRecursion (λ (o : Option Inode). AllByRecursion Can (entries_in (content_in o))) ns

from_each : (ns : Inodes) → CanBeWritten ns → AllCan ns
from_each [] each = tt
from_each (o ∷ ns) each = (each zero, from_each ns (λ id. each (suc id)))

to_each : (ns : Inodes) → AllCan ns → CanBeWritten ns
to_each [] all id = tt
to_each (o ∷ ns) all zero = all.0
to_each (o ∷ ns) all (suc id) = to_each ns all.1 id

set_can : (ns : Inodes) (id : ℕ) (o : Option Inode) → AllCan ns → AllByRecursion Can (entries_in (content_in o)) → AllCan (slice_set ns id o)
set_can [] id o all is = tt
set_can (x ∷ ns) zero o all is = (is, all.1)
set_can (x ∷ ns) (suc id) o all is = (all.0, set_can ns id o all.1 is)

push_can : (ns : Inodes) (o : Option Inode) → AllCan ns → AllByRecursion Can (entries_in (content_in o)) → AllCan (ns ++ o ∷ [])
push_can [] o all is = (is, tt)
push_can (x ∷ ns) o all is = (all.0, push_can ns o all.1 is)

more_can : (es : List Entry) (e : Entry) → AllByRecursion Can es → Can e → AllByRecursion Can (es ++ e ∷ [])
more_can [] e all is = (is, tt)
more_can (x ∷ es) e all is = (all.0, more_can es e all.1 is)

entries_can : (n : Inode) (e : Entry) → AllByRecursion Can (entries_in n.content) → Can e → AllByRecursion Can (entries_in (with_entries (λ es. es ++ e ∷ []) n).content)
entries_can n e all is = by n.content refl
  where
    by : (x : Content) → n.content ≡ x → AllByRecursion Can (entries_in (with_entries (λ es. es ++ e ∷ []) n).content)
    by (file bytes) same = let h = rw same at all in rw same tt
    by (folder parent entries) same = let h = rw same at all in rw same (more_can entries e h is)

entered_can : (ns : Inodes) (at : ℕ) (name : List ℕ) (id : ℕ) → CanBeWritten ns → can_be_written name ≡ true → (o : Option (Option Inode)) → slice_get ns at ≡ o → AllCan (with_entry ns at name id)
entered_can ns at name id each is None at_is = rw at_is (from_each ns each)
entered_can ns at name id each is (Some None) at_is = rw at_is (from_each ns each)
entered_can ns at name id each is (Some (Some n)) at_is =
    let here = each at in
    let h = rw at_is at here in
    rw at_is (set_can ns at (Some (with_entries (λ es. es ++ record { name = name; id = id } ∷ []) n)) (from_each ns each) (entries_can n (record { name = name; id = id }) h is))

new_can : (ns : Inodes) (p : Place) (content : Content) (program : Option ℕ) → entries_in content ≡ [] → CanBeWritten ns → can_be_written p.name ≡ true → CanBeWritten (with_new ns p.folder p.name (new_inode content program))
new_can ns p content program none each is =
    to_each (with_new ns p.folder p.name (new_inode content program))
    (push_can (with_entry ns p.folder p.name (length ns)) (Some (new_inode content program)) (entered_can ns p.folder p.name (length ns) each is (slice_get ns p.folder) refl)
    (subst (λ (es : List Entry). AllByRecursion Can es) (sym none) tt))

pub file_can : (ns new : Inodes) (path bytes : List ℕ) (program : Option ℕ) → IsClear path → with_file ns path bytes program ≡ Ok new → CanBeWritten ns → CanBeWritten new
unfolding with_file
file_can ns new path bytes program clear is each =
    made_leaves CanBeWritten (λ parent. file bytes) program ns (place_of ns path) (λ p at none. new_can ns p (file bytes) program refl each (place_fine ns path p clear at none)) new is

pub folder_can : (ns new : Inodes) (path : List ℕ) → IsClear path → with_folder ns path ≡ Ok new → CanBeWritten ns → CanBeWritten new
unfolding with_folder
folder_can ns new path clear is each =
    made_leaves CanBeWritten (λ parent. folder parent []) None ns (place_of ns path) (λ p at none. new_can ns p (folder p.folder []) None refl each (place_fine ns path p clear at none)) new is

pub opening_can : CanBeWritten opening
opening_can = to_each opening (tt, (tt, tt))

-- What a change of one node leaves of the others, and of their numbers and bytes.
use Rattle.std.proofs.Common.{◌≡◌, ℕ, zero, suc, ◌+◌, ◌≤◌, Bool, false, cond, List, [], ◌∷◌, length, get_or, Option, None, Some, is_some, slice_get, slice_set, nat_lt, refl, sym, ap, ◌∙◌, arith}
use Rattle.std.specs.Prelude.{◌||◌}
use Rattle.std.proofs.lemmas.Option.{slice_get-get_or, slice_get_within, get_or_from_slice_get}
use Rattle.std.proofs.lemmas.List.{set-set, length-set, get_or-set_same}
use Rattle.std.proofs.lemmas.List.Sums.{sum_by-set}
use Rattle.mem_files.specs.Inodes.{Entry, Inode, Inodes, Content, file, folder, bytes_in, bytes_at, inode_at, node_count, byte_count, Fits}
use Rattle.mem_files.specs.Changes.{with_change, with_bytes, with_entries, kept}

-- taken out of its place
abbrev out_of : Inodes → ℕ → Inodes
out_of ns id = slice_set ns id None

none_to_none : (ns : Inodes) (id : ℕ) → slice_get ns id ≡ Some None → slice_set ns id None ≡ ns
none_to_none [] id is = refl
none_to_none (n ∷ ns) zero is = ap (λ m. m ∷ ns) (let e : None ≡ n = cc in e)
none_to_none (n ∷ ns) (suc id) is = ap (λ ms. n ∷ ms) (none_to_none ns id is)

past : (ns : Inodes) (id : ℕ) → slice_get ns id ≡ None → slice_set ns id None ≡ ns
past [] id is = refl
past (n ∷ ns) zero is = absurd (let e : ⊥ = cc in e)
past (n ∷ ns) (suc id) is = ap (λ ms. n ∷ ms) (past ns id is)

-- where there is no node, nothing is taken out
pub out_of_none : (ns : Inodes) (id : ℕ) → inode_at ns id ≡ None → slice_set ns id None ≡ ns
out_of_none ns id none = by (slice_get ns id) refl
  where
    by : (at : Option (Option Inode)) → slice_get ns id ≡ at → slice_set ns id None ≡ ns
    by None is = past ns id is
    by (Some None) is = none_to_none ns id is
    by (Some (Some n)) is = let e = rw is at none in absurd (cc)

-- a node that is there stands in its place
pub there : (ns : Inodes) (id : ℕ) (n : Inode) → inode_at ns id ≡ Some n → slice_get ns id ≡ Some (Some n)
there ns id n some = by (slice_get ns id) refl
  where
    by : (at : Option (Option Inode)) → slice_get ns id ≡ at → slice_get ns id ≡ Some (Some n)
    by None is = let e = rw is at some in absurd (cc)
    by (Some None) is = let e = rw is at some in absurd (cc)
    by (Some (Some m)) is = let e = rw is at some in is ∙ ap Some e

-- a change where there is no node
pub changed_none : (f : Inode → Option Inode) (ns : Inodes) (id : ℕ) → inode_at ns id ≡ None → slice_set ns id None ≡ with_change f ns id
changed_none f ns id none = out_of_none ns id none ∙ by (slice_get ns id) refl
  where
    by : (at : Option (Option Inode)) → slice_get ns id ≡ at → ns ≡ with_change f ns id
    by None is = rw is refl
    by (Some None) is = rw is refl
    by (Some (Some n)) is = let e = rw is at none in absurd (cc)

-- a change of a node that was taken out and put back
pub changed_there : (f : Inode → Option Inode) (ns : Inodes) (id : ℕ) (n : Inode) → inode_at ns id ≡ Some n → slice_set (slice_set ns id None) id (f n) ≡ with_change f ns id
changed_there f ns id n is = set-set ns id None (f n) ∙ sym (rw (there ns id n is) refl)

-- its place is empty then
pub empty_place : (ns : Inodes) (id : ℕ) (n : Inode) → inode_at ns id ≡ Some n → slice_get (slice_set ns id None) id ≡ Some None
empty_place ns id n is =
    let within = slice_get_within ns id (Some n) (there ns id n is) in
    slice_get-get_or (slice_set ns id None) id None (omega (arith, length-set ns id None, within)) ∙ ap Some (get_or-set_same ns id None None within)

-- the count where one node takes another's place
pub node_count-set : (ns : Inodes) (id : ℕ) (n m : Option Inode) → slice_get ns id ≡ Some n → node_count (slice_set ns id m) + cond (is_some n) 1 0 ≡ node_count ns + cond (is_some m) 1 0
node_count-set ns id n m is =
    let at : get_or ns id n ≡ n = get_or_from_slice_get ns id n n is in
    let sum = sum_by-set (λ x. cond (is_some x) 1 0) ns id m n (slice_get_within ns id n is) in
    ap (λ o. node_count (slice_set ns id m) + cond (is_some o) 1 0) (sym at) ∙ sum

-- and the bytes
pub byte_count-set : (ns : Inodes) (id : ℕ) (n m : Option Inode) → slice_get ns id ≡ Some n → byte_count (slice_set ns id m) + bytes_at n ≡ byte_count ns + bytes_at m
byte_count-set ns id n m is =
    let at : get_or ns id n ≡ n = get_or_from_slice_get ns id n n is in
    let sum = sum_by-set bytes_at ns id m n (slice_get_within ns id n is) in
    ap (λ o. byte_count (slice_set ns id m) + bytes_at o) (sym at) ∙ sum

-- a node with no more bytes fits in its old place
pub fits_back : (ns : Inodes) (id : ℕ) (n m : Inode) → inode_at ns id ≡ Some n → length (bytes_in m.content) ≤ length (bytes_in n.content) → Fits ns → Fits (slice_set (slice_set ns id None) id (Some m))
fits_back ns id n m is less fits =
    let at = there ns id n is in
    let same : slice_set (slice_set ns id None) id (Some m) ≡ slice_set ns id (Some m) = set-set ns id None (Some m) in
    let nodes : node_count (slice_set ns id (Some m)) + 1 ≡ node_count ns + 1 = node_count-set ns id (Some n) (Some m) at in
    let bytes : byte_count (slice_set ns id (Some m)) + length (bytes_in n.content) ≡ byte_count ns + length (bytes_in m.content) = byte_count-set ns id (Some n) (Some m) at in
    rw same (record { nodes = omega (arith, fits.nodes, nodes); bytes = omega (arith, fits.bytes, bytes) })

-- a node that isn't kept is not put back
pub not_put : (ns : Inodes) (id : ℕ) (n : Inode) → slice_get ns id ≡ Some None → (n.linked || nat_lt 0 n.holds) ≡ false → ns ≡ slice_set ns id (kept n)
not_put ns id n place gone = sym (ap (λ (b : Bool). slice_set ns id (cond b (Some n) None)) gone ∙ none_to_none ns id place)

-- a node with no more bytes, or none, fits in the place from which a node was taken
module _ (ns new : Inodes) (id : ℕ) (r : Option Inode) (node : r ≡ inode_at ns id) (rest : new ≡ slice_set ns id None) where
  pub unchanged : (f : Inode → Option Inode) → r ≡ None → new ≡ with_change f ns id
  unchanged f none = rest ∙ changed_none f ns id (sym node ∙ none)

  pub place : (n : Inode) → r ≡ Some n → slice_get new id ≡ Some None
  place n is = ap (λ ms. slice_get ms id) rest ∙ empty_place ns id n (sym node ∙ is)

  pub fits : (n m : Inode) → r ≡ Some n → length (bytes_in m.content) ≤ length (bytes_in n.content) → Fits ns → Fits (slice_set new id (Some m))
  fits n m is less fit = rw rest (fits_back ns id n m (sym node ∙ is) less fit)

  pub changed : (f : Inode → Option Inode) (n : Inode) (put : Option Inode) → r ≡ Some n → put ≡ f n → slice_set new id put ≡ with_change f ns id
  changed f n put is made =
      ap (λ ms. slice_set ms id put) rest ∙ ap (slice_set (slice_set ns id None) id) made ∙ changed_there f ns id n (sym node ∙ is)

-- ---- what a change makes of one node's content

pub written_file : (f : List ℕ → List ℕ) (n : Inode) (bytes : List ℕ) → n.content ≡ file bytes → bytes_in (with_bytes f n).content ≡ f bytes
written_file f n bytes is = rw is refl

pub written_folder : (f : List ℕ → List ℕ) (n : Inode) (parent : ℕ) (entries : List Entry) → n.content ≡ folder parent entries → with_bytes f n ≡ n
written_folder f n parent entries is = rw is refl

pub emptied : (n : Inode) → length (bytes_in (with_bytes (λ bytes. []) n).content) ≤ length (bytes_in n.content)
emptied n = by n.content refl
  where
    by : (x : Content) → n.content ≡ x → length (bytes_in (with_bytes (λ bytes. []) n).content) ≤ length (bytes_in n.content)
    by (file bytes) is = rw is (omega arith)
    by (folder parent entries) is = rw is (omega arith)

pub same_bytes : (f : List Entry → List Entry) (n : Inode) → bytes_in (with_entries f n).content ≡ bytes_in n.content
same_bytes f n = by n.content refl
  where
    by : (x : Content) → n.content ≡ x → bytes_in (with_entries f n).content ≡ bytes_in n.content
    by (file bytes) is = rw is refl
    by (folder parent entries) is = rw is refl

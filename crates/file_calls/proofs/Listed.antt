-- getdents64: records, and how many of them fit.
use Rattle.std.proofs.Common.{◌≡◌, ℕ, zero, suc, ◌+◌, ◌-◌, ◌<◌, ◌≤◌, ◌⊎◌, inl, inr, Bool, true, false, min, List, [], ◌∷◌, ◌++◌, length, take, drop, replicate, Some, None, Result, Ok, Err, refl, sym, ap, ◌∙◌, arith, append_assoc, length-append, add-one}
use Rattle.std.specs.Prelude.{IfOk, nat_le, nat_lt, slice_get, slice_index}
use Rattle.std.proofs.lemmas.Bool.{cases_lt, leb-true}
use Rattle.std.proofs.lemmas.List.{drop_all, take-replicate, length-replicate}
use Rattle.std.proofs.lemmas.Bool.Decides.{nat_tests}
use Rattle.std.specs.declared.alloc.AllocError.{AllocError}
use Rattle.std.specs.Int.{bytes_low_first}
use Rattle.byte_words.proofs.LowestFirst.{little_bytes_are}
use Rattle.byte_words.specs.ByteMap.{little_bytes}
use Rattle.mem_files.specs.declared.node.Node.TheVariants.{Dir, File}
use Rattle.mem_files.specs.Inodes.{Entry, Inodes, Content, file, folder, content_in, inode_at, kind_of, kind_in, size_of, size_in, entries_of, entries_in}
use Rattle.call_log.specs.declared.errno.Errno.TheVariants.{Ebadf, Enotdir}
use Rattle.fd_tables.specs.declared.view.View.{View}
use Rattle.fd_tables.specs.declared.view.Target.{Target}
use Rattle.fd_tables.specs.declared.view.Target.TheVariants.{Console, Node, Pipe}
use Rattle.fd_tables.specs.Files.{OpenFiles, view}
use Rattle.machine_world.specs.Asks.{Ask, arg, refuses}
use Rattle.machine_world.specs.Descriptors.{Listing, record_len, type_of, dirent, is_short, listing, listed, list_row, folder_row, dents_row, getdents_row, got_at}
use Rattle.file_calls.specs.declared.call.Call.{Call}
use Rattle.file_calls.specs.declared.outcome.Outcome.{Outcome}
use Rattle.file_calls.specs.declared.outcome.Then.{Then}
use Rattle.file_calls.specs.declared.outcome.Then.TheVariants.{Nothing, Move, Take, TakePipe, MakePipe}
use Rattle.file_calls.specs.Calls.{MadeBy, got_of, Gives}
use Rattle.file_calls.specs.Outcomes.{GivesRow, IsMove, HasEnds}
use Rattle.file_calls.specs.Listings.{nothing_listed}
use Rattle.file_calls.proofs.Asked.{arg_is, at_closed, at_open, gives_made}

-- ---- a folder's size is that of its entries

pub size_of_folder : (ns : Inodes) (id : ℕ) → kind_of ns id ≡ Dir → size_of ns id ≡ length (entries_of ns id)
size_of_folder ns id is = by (content_in (inode_at ns id)) is
  where
    by : (content : Content) → kind_in content ≡ Dir → size_in content ≡ length (entries_in content)
    by (file bytes) is = absurd (let e : ⊥ = cc in e)
    by (folder parent entries) is = refl

-- ---- listings

-- records behind others
abbrev pub followed : Listing → Listing → Listing
followed l m = record { bytes = l.bytes ++ m.bytes; count = l.count + m.count }

le_false : (m n : ℕ) → n < m → nat_le m n ≡ false
le_false m n h = grind (arith, nat_tests)

-- what is left from a place on
from_place : (es : List Entry) (k : ℕ) (e : Entry) → Some e ≡ slice_get es k → drop k es ≡ e ∷ drop (suc k) es
from_place [] k e is = absurd (let f : ⊥ = cc in f)
from_place (x ∷ xs) zero e is = ap (λ y. y ∷ xs) (let f : x ≡ e = cc in f)
from_place (x ∷ xs) (suc k) e is = from_place xs k e is

pub entry_there : (es : List Entry) (k : ℕ) (e : Entry) → Some e ≡ slice_get es k → drop k es ≡ e ∷ drop (k + 1) es
entry_there es k e is = from_place es k e is ∙ ap (λ n. e ∷ drop n es) (sym (add-one k))

pub entry_past : (es : List Entry) (k : ℕ) → None ≡ slice_get es k → drop k es ≡ []
entry_past [] zero is = refl
entry_past [] (suc k) is = refl
entry_past (x ∷ xs) zero is = absurd (let f : ⊥ = cc in f)
entry_past (x ∷ xs) (suc k) is = entry_past xs k is

pub listing_ends : (ns : Inodes) (room at : ℕ) (left : List Entry) → left ≡ [] → listing ns room at left ≡ nothing_listed
listing_ends ns room at left none = ap (listing ns room at) none

pub listing_stops : (ns : Inodes) (room at : ℕ) (e : Entry) (es left : List Entry) → left ≡ e ∷ es → room < record_len (length e.name) → listing ns room at left ≡ nothing_listed
listing_stops ns room at e es left is long = rw (is, le_false (record_len (length e.name)) room long) refl

pub is_short_there : (room len : ℕ) (e : Entry) (es left : List Entry) → left ≡ e ∷ es → len ≡ record_len (length e.name) → nat_lt room len ≡ is_short room left
is_short_there room len e es left is long = ap (nat_lt room) long ∙ sym (ap (is_short room) is)

-- ---- one record

pub two_bytes : (len n : ℕ) → len ≡ n → take 2 (bytes_low_first 0 8 len) ≡ little_bytes 2 n
two_bytes len n is = ap (take 2) (sym (little_bytes_are 8 len)) ∙ ap (little_bytes 2) is

-- at most eight zeros stand behind a name
pub zeros_behind : (len name : ℕ) → len ≡ record_len name → take {A = ℕ} (len - (19 + name)) (replicate 8 0) ≡ replicate (record_len name - (19 + name)) 0
zeros_behind len name is =
    let few : len - (19 + name) ≤ 8 = omega arith in
    take-replicate (len - (19 + name)) 8 0 few ∙ ap (λ n. replicate (n - (19 + name)) 0) is

-- its parts, one behind the other
pub record_pushed : (ns : Inodes) (next : ℕ) (e : Entry) (old s1 s2 s3 s4 s5 p1 p2 p3 p6 : List ℕ) (t : ℕ) →
    s1 ≡ old ++ p1 → s2 ≡ s1 ++ p2 → s3 ≡ s2 ++ p3 → s4 ≡ s3 ++ t ∷ [] → s5 ≡ s4 ++ e.name →
    p1 ≡ little_bytes 8 e.id → p2 ≡ little_bytes 8 next → p3 ≡ little_bytes 2 (record_len (length e.name)) → t ≡ type_of (kind_of ns e.id) →
    p6 ≡ replicate (record_len (length e.name) - (19 + length e.name)) 0 → s5 ++ p6 ≡ old ++ dirent ns next e
unfolding dirent
record_pushed ns next e old s1 s2 s3 s4 s5 p1 p2 p3 p6 t e1 e2 e3 e4 e5 h1 h2 h3 h4 h6 =
    let all : s5 ++ p6 ≡ (((((old ++ p1) ++ p2) ++ p3) ++ t ∷ []) ++ e.name) ++ p6 =
    ap (λ s. s ++ p6) (e5 ∙ ap (λ s. s ++ e.name) (e4 ∙ ap (λ s. s ++ t ∷ []) (e3 ∙ ap (λ s. s ++ p3) (e2 ∙ ap (λ s. s ++ p2) e1)))) in
    let regrouped : (((((old ++ p1) ++ p2) ++ p3) ++ t ∷ []) ++ e.name) ++ p6 ≡ old ++ (p1 ++ (p2 ++ (p3 ++ (t ∷ (e.name ++ p6))))) = simp append_assoc in
    all ∙ regrouped ∙ (λ i. old ++ (h1 i ++ (h2 i ++ (h3 i ++ (h4 i ∷ (e.name ++ h6 i))))))

length-dirent : (ns : Inodes) (next : ℕ) (e : Entry) → length (dirent ns next e) ≡ record_len (length e.name)
unfolding dirent
length-dirent ns next e =
    let zeros : length {A = ℕ} (replicate (record_len (length e.name) - (19 + length e.name)) 0) ≡ record_len (length e.name) - (19 + length e.name) = length-replicate (record_len (length e.name) - (19 + length e.name)) 0 in
    let behind = length-append e.name (replicate (record_len (length e.name) - (19 + length e.name)) 0) in
    omega (arith, zeros, behind)

-- ---- how much is listed

pub listing_fits : (ns : Inodes) (room at : ℕ) (es : List Entry) → length (listing ns room at es).bytes ≤ room
listing_fits ns room at [] = omega arith
listing_fits ns room at (e ∷ es) = by (listing_fits ns (room - record_len (length e.name)) (at + 1) es) (nat_le (record_len (length e.name)) room) refl
  where
    rest : Listing
    rest = listing ns (room - record_len (length e.name)) (at + 1) es

    by : length rest.bytes ≤ room - record_len (length e.name) → (b : Bool) → nat_le (record_len (length e.name)) room ≡ b → length (listing ns room at (e ∷ es)).bytes ≤ room
    by less true is =
        let fits : record_len (length e.name) ≤ room = leb-true (record_len (length e.name)) room is in
        rw is (omega (arith, length-append (dirent ns (at + 1) e) rest.bytes, length-dirent ns (at + 1) e))
    by less false is = rw is (omega arith)

-- the records so far have room
pub front_fits : (ns : Inodes) (room from : ℕ) (es : List Entry) (l m : Listing) → followed l m ≡ listing ns room from es → length l.bytes ≤ room
front_fits ns room from es l m is =
    let all : length (l.bytes ++ m.bytes) ≡ length (listing ns room from es).bytes = ap (λ (n : Listing). length n.bytes) is in
    omega (arith, all, length-append l.bytes m.bytes, listing_fits ns room from es)

-- a position past the end is as one at the end
pub from_least : (es : List Entry) (at from : ℕ) (A : Type 0) (f : ℕ → List Entry → A) → ((n : ℕ) → f n [] ≡ f at []) → from ≡ min at (length es) → f from (drop from es) ≡ f at (drop at es)
from_least es at from A f alike is = by (cases_lt (length es) at)
  where
    by : (length es < at) ⊎ (at ≤ length es) → f from (drop from es) ≡ f at (drop at es)
    by (inl past) = ap (f from) (drop_all from es (omega arith)) ∙ alike from ∙ sym (ap (f at) (drop_all at es (omega arith)))
    by (inr within) = ap (λ n. f n (drop n es)) (let e : from ≡ at = omega arith in e)

-- ---- the rows

module _ (a : Ask) (tree : Inodes) (same_tree : a.rest.tree ≡ tree) (v : View) (left : List Entry) (room : ℕ) where
  pub list_gives : (call : Call) → MadeBy call a → (at : ℕ) → v.at ≡ at → (l : Listing) → is_short room left ≡ false → l ≡ listing tree room at left → (o : Outcome) →
      o.value ≡ length l.bytes → got_of o ≡ got_at (slice_index call.args 1) l.bytes → o.then ≡ Move (slice_index call.args 0) (at + l.count) →
      Gives a (list_row a v left room) o
  list_gives call made at at_is l long is o value got moved =
      let all : listing a.rest.tree room v.at left ≡ l = (λ i. listing (same_tree i) room (at_is i) left) ∙ sym is in
      rw long
      (ap (listed a v) all
      ∙ gives_made a o (length l.bytes) (got_at (arg a 1) l.bytes) (Move (arg a 0) (v.at + l.count)) value
      (got ∙ ap (λ to. got_at to l.bytes) (sym (arg_is call a made 1)))
      (moved ∙ sym (λ i. Move (arg_is call a made 0 i) (at_is i + l.count))))

module _ (call : Call) (a : Ask) (made : MadeBy call a) (files : OpenFiles) (same : a.rest.files ≡ files) where
  pub dents_closed : view files call.table (slice_index call.args 0) ≡ None → getdents_row a ≡ refuses a Ebadf
  unfolding getdents_row
  dents_closed none = at_closed call a made files same (λ v. dents_row a v v.target) none

  module _ (v : View) (shown : view files call.table (slice_index call.args 0) ≡ Some v) where
    dents_open : getdents_row a ≡ dents_row a v v.target
    unfolding getdents_row
    dents_open = at_open call a made files same (λ w. dents_row a w w.target) v shown

    pub dents_other : (t : Target) → v.target ≡ t → ((node : ℕ) → t ≡ Node node → ⊥) → getdents_row a ≡ refuses a Enotdir
    dents_other Console leads other = dents_open ∙ ap (dents_row a v) leads
    dents_other (Pipe id write) leads other = dents_open ∙ ap (dents_row a v) leads
    dents_other (Node node) leads other = absurd (other node refl)

    module _ (node : ℕ) (leads : v.target ≡ Node node) (tree : Inodes) (same_tree : a.rest.tree ≡ tree) where
      dents_node : getdents_row a ≡ folder_row a v node (kind_of tree node)
      dents_node = dents_open ∙ ap (dents_row a v) leads ∙ (λ i. folder_row a v node (kind_of (same_tree i) node))

      pub dents_file : kind_of tree node ≡ File → getdents_row a ≡ refuses a Enotdir
      dents_file kind = dents_node ∙ ap (folder_row a v node) kind

      pub dents_folder : kind_of tree node ≡ Dir → getdents_row a ≡ list_row a v (drop v.at (entries_of tree node)) (slice_index call.args 2)
      dents_folder kind =
          dents_node ∙ ap (folder_row a v node) kind
          ∙ (λ i. list_row a v (drop v.at (entries_of (same_tree i) node)) (arg_is call a made 2 i))

-- what a folder lists is what the row gives
pub dents_given : (call : Call) (tree : Inodes) (files : OpenFiles) (r : Result Outcome AllocError) (v : View) → view files call.table (slice_index call.args 0) ≡ Some v →
    (node : ℕ) → v.target ≡ Node node → kind_of tree node ≡ Dir →
    IfOk r (λ o. (a : Ask) → MadeBy call a → a.rest.tree ≡ tree → (w : View) → w.at ≡ v.at → Gives a (list_row a w (drop v.at (entries_of tree node)) (slice_index call.args 2)) o) →
    IfOk r (GivesRow getdents_row call tree files)
dents_given call tree files (Ok o) v shown node leads kind gives = λ a made same_tree same.
    dents_folder call a made files same v shown node leads tree same_tree kind ∙ gives a made same_tree v refl
dents_given call tree files (Err error) v shown node leads kind gives = gives

-- no pipe is made where at most a position changes
no_ends : (files : OpenFiles) (table : ℕ) (t : Then) → IsMove t → HasEnds files table t
no_ends files table Nothing none = tt
no_ends files table (Move fd at) none = tt
no_ends files table (Take n) none = absurd none
no_ends files table (TakePipe id n) none = absurd none
no_ends files table (MakePipe ends cloexec) none = absurd none

pub have_no_ends : (files : OpenFiles) (table : ℕ) (r : Result Outcome AllocError) → IfOk r (λ o. IsMove o.then) → IfOk r (λ o. HasEnds files table o.then)
have_no_ends files table (Ok o) none = no_ends files table o.then none
have_no_ends files table (Err error) none = none

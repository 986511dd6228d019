-- The ranges that a call gives are ranges that an access can have.
use Rattle.std.proofs.Common.{◌≡◌, ℕ, ◌+◌, ◌*◌, ◌^◌, ◌<◌, min, length, take, drop, map, Bool, true, false, List, [], ◌∷◌, Option, Some, None, inl, inr, arith, refl, sym, ap, subst, ◌∙◌, length-take, length-drop, length-append}
use Rattle.std.specs.Prelude.{◌==◌, ◌||◌, not, slice_index, nat_lt, sum, All, if◌then◌else◌}
use Rattle.std.specs.List.{range_with_len}
use Rattle.std.proofs.lemmas.Bool.{false≢true}
use Rattle.std.proofs.lemmas.List.Elements.{All-nil, All-cons}
use Rattle.byte_words.specs.ByteMap.{little_bytes}
use Rattle.byte_words.proofs.ByteArrays.{length-little_bytes}
use Rattle.call_log.specs.declared.errno.Errno.TheVariants.{Ebadf, Einval}
use Rattle.call_log.specs.Notes.{GotRange}
use Rattle.call_log.specs.Sent.{Span, piece_at}
use Rattle.mem_files.specs.declared.node.Node.{Node}
use Rattle.mem_files.specs.declared.node.Node.TheVariants.{Dir, File}
use Rattle.mem_files.specs.Inodes.{Inodes, Entry, kind_of, entries_of, bytes_of}
use Rattle.fd_tables.specs.declared.view.View.{View}
use Rattle.fd_tables.specs.declared.view.Target.{Target}
use Rattle.fd_tables.specs.declared.view.Target.TheVariants.{Console, Node as a_node, Pipe}
use Rattle.fd_tables.specs.declared.pipe_view.Ends.{Ends}
use Rattle.fd_tables.specs.Files.{OpenFiles, two_free}
use Rattle.fd_tables.specs.Pipes.{pipe_view, pipe_bytes}
use Rattle.vfork_exec.specs.declared.family.State.TheVariants.{Ready, OnPipe}
use Rattle.machine_world.specs.Asks.{Ask, arg, Row, replies, waits, refuses, view_of, with_view}
use Rattle.machine_world.specs.Descriptors.{table_of, close_on_exec, ends_bytes, opens_pipe, pipe2_row, position_from, base_of, sought, seek_row, llseek_row, listing, got_at, is_short, listed, list_row, folder_row, dents_row, getdents_row}
use Rattle.machine_world.specs.Transfers.{scattered, moved_bytes, read_waits, taken_read, pipe_read, node_read, target_read, read_into, read_row, readv_row}
use Rattle.machine_world.specs.Rows.{row}
use Rattle.page_runs.specs.declared.place.Kind.TheVariants.{First}
use Rattle.file_calls.specs.declared.call.Call.{Call}
use Rattle.file_calls.specs.declared.outcome.Outcome.{Outcome}
use Rattle.file_calls.specs.Calls.{MadeBy, IsOutput, is_output, got_of}
use Rattle.file_calls.specs.Outcomes.{GivesRow}
use Rattle.file_calls.proofs.Listed.{listing_fits}
use Rattle.call_bytes.specs.Puts.{IsRange}
use Rattle.call_bytes.proofs.Places.{decide}
use Rattle.kept_parts.proofs.Common.UseCounts.{eqb_is}

-- every range of a reply, if there is one
abbrev pub Ranged : Row → Type 0
Ranged (replies r) = All IsRange r.got
Ranged (waits state) = Unit {0}

none_ranged : All IsRange []
none_ranged = All-nil IsRange

more_ranged : (w : GotRange) (ws : List GotRange) → IsRange w → All IsRange ws → All IsRange (w ∷ ws)
more_ranged w ws first rest = All-cons IsRange w ws first rest

ranged_view : (a : Ask) (v : Option View) (rows : View → Row) → ((x : View) → Ranged (rows x)) → Ranged (with_view a v rows)
ranged_view a (Some v) rows each = each v
ranged_view a None rows each = none_ranged

ranged_if : (b : Bool) (x y : Row) → Ranged x → Ranged y → Ranged (if b then x else y)
ranged_if true x y is other = is
ranged_if false x y other is = is

-- ---- bytes filled into pieces

-- nothing is left for a piece, or it is of no length
filled_none : (bytes : List ℕ) (span : Span) (spans : List Span) → take span.len bytes ≡ [] → scattered bytes (span ∷ spans) ≡ scattered (drop span.len bytes) spans
filled_none bytes span spans none = rw none refl

filled_some : (bytes : List ℕ) (span : Span) (spans : List Span) → 0 < length (take span.len bytes) →
    scattered bytes (span ∷ spans) ≡ record { addr = span.addr; bytes = take span.len bytes } ∷ scattered (drop span.len bytes) spans
filled_some bytes span spans some = by (take span.len bytes) refl
  where
    by : (front : List ℕ) → take span.len bytes ≡ front → scattered bytes (span ∷ spans) ≡ record { addr = span.addr; bytes = take span.len bytes } ∷ scattered (drop span.len bytes) spans
    by [] is = absurd (let e : 0 < 0 = rw is at some in omega arith)
    by (b ∷ front) is = rw is refl

-- ---- llseek

ranged_sought : (a : Ask) (at : Option ℕ) → Ranged (sought a at)
ranged_sought a None = none_ranged
ranged_sought a (Some at) =
    more_ranged (record { addr = arg a 3; bytes = little_bytes 8 at }) []
    (let len = length-little_bytes 8 at in (omega (arith, len), omega (arith, len))) none_ranged

ranged_seek : (a : Ask) (v : View) (t : Target) → Ranged (seek_row a v t)
ranged_seek a v Console = none_ranged
ranged_seek a v (Pipe id write) = none_ranged
ranged_seek a v (a_node node) =
    ranged_if (nat_lt 2 (arg a 4)) (refuses a Einval) (sought a (position_from (base_of a v node (arg a 4)) (arg a 1 * 2 ^ 32 + arg a 2))) none_ranged
    (ranged_sought a (position_from (base_of a v node (arg a 4)) (arg a 1 * 2 ^ 32 + arg a 2)))

ranged_llseek : (a : Ask) → Ranged (llseek_row a)
unfolding llseek_row
ranged_llseek a = ranged_view a (view_of a (arg a 0)) (λ v. seek_row a v v.target) (λ v. ranged_seek a v v.target)

-- ---- pipe2

ranged_ends : (a : Ask) (cloexec : Bool) (ends : Option Ends) → Ranged (opens_pipe a cloexec ends)
ranged_ends a cloexec None = none_ranged
ranged_ends a cloexec (Some ends) =
    let len : length (ends_bytes ends) ≡ 8 = omega (arith, length-append (little_bytes 4 ends.read) (little_bytes 4 ends.write), length-little_bytes 4 ends.read, length-little_bytes 4 ends.write) in
    more_ranged (record { addr = arg a 0; bytes = ends_bytes ends }) [] (omega (arith, len), omega (arith, len)) none_ranged

ranged_pipe2 : (a : Ask) → Ranged (pipe2_row a)
unfolding pipe2_row
ranged_pipe2 a =
    ranged_if (not (arg a 1 == 0 || arg a 1 == close_on_exec)) (refuses a Einval) (opens_pipe a (arg a 1 == close_on_exec) (two_free a.rest.files (table_of a))) none_ranged
    (ranged_ends a (arg a 1 == close_on_exec) (two_free a.rest.files (table_of a)))

-- ---- getdents64

ranged_at : (addr : ℕ) (bytes : List ℕ) → length bytes < 2 ^ 32 → All IsRange (got_at addr bytes)
ranged_at addr [] few = none_ranged
ranged_at addr (b ∷ bytes) few = more_ranged (record { addr = addr; bytes = b ∷ bytes }) [] (omega arith, few) none_ranged

ranged_list : (a : Ask) (v : View) (left : List Entry) → arg a 2 < 2 ^ 32 → Ranged (list_row a v left (arg a 2))
ranged_list a v left small =
    let l = listing a.rest.tree (arg a 2) v.at left in
    ranged_if (is_short (arg a 2) left) (refuses a Einval) (listed a v l) none_ranged
    (ranged_at (arg a 1) l.bytes (omega (arith, listing_fits a.rest.tree (arg a 2) v.at left, small)))

ranged_folder : (a : Ask) (v : View) (node : ℕ) (kind : Node) → arg a 2 < 2 ^ 32 → Ranged (folder_row a v node kind)
ranged_folder a v node File small = none_ranged
ranged_folder a v node Dir small = ranged_list a v (drop v.at (entries_of a.rest.tree node)) small

ranged_dents : (a : Ask) (v : View) (t : Target) → arg a 2 < 2 ^ 32 → Ranged (dents_row a v t)
ranged_dents a v Console small = none_ranged
ranged_dents a v (Pipe id write) small = none_ranged
ranged_dents a v (a_node node) small = ranged_folder a v node (kind_of a.rest.tree node) small

ranged_getdents : (a : Ask) → arg a 2 < 2 ^ 32 → Ranged (getdents_row a)
unfolding getdents_row
ranged_getdents a small = ranged_view a (view_of a (arg a 0)) (λ v. dents_row a v v.target) (λ v. ranged_dents a v v.target small)

-- ---- read and readv

ranged_filled : (bytes : List ℕ) (spans : List Span) → length bytes < 2 ^ 32 → All IsRange (scattered bytes spans)
ranged_filled bytes [] few = none_ranged
ranged_filled bytes (span ∷ spans) few =
    by (ranged_filled (drop span.len bytes) spans (omega (arith, length-drop span.len bytes, few))) (take span.len bytes) refl
  where
    by : All IsRange (scattered (drop span.len bytes) spans) → (front : List ℕ) → take span.len bytes ≡ front → All IsRange (scattered bytes (span ∷ spans))
    by rest [] is = subst (All IsRange) (sym (filled_none bytes span spans is)) rest
    by rest (b ∷ front) is =
        let some : 0 < length (take span.len bytes) = omega (arith, ap (length {A = ℕ}) is) in
        subst (All IsRange) (sym (filled_some bytes span spans some))
        (more_ranged (record { addr = span.addr; bytes = take span.len bytes }) (scattered (drop span.len bytes) spans)
        (some, omega (arith, length-take span.len bytes, few)) rest)

moved_few : (spans : List Span) (left : List ℕ) → length (moved_bytes spans left) < 2 ^ 32
moved_few spans left = let n = sum (map (λ (span : Span). span.len) spans) in omega (arith, length-take (min n 16777216) left)

ranged_pipe : (a : Ask) (id : ℕ) (spans : List Span) → Ranged (pipe_read a id spans)
ranged_pipe a id spans =
    let bytes = pipe_bytes a.rest.files id in
    ranged_if (read_waits spans (pipe_view a.rest.files id)) (waits (OnPipe id)) (taken_read a id spans (moved_bytes spans bytes)) tt
    (ranged_filled (moved_bytes spans bytes) spans (moved_few spans bytes))

ranged_target : (a : Ask) (v : View) (spans : List Span) (t : Target) → Ranged (target_read a v spans t)
ranged_target a v spans Console = ranged_filled (moved_bytes spans a.rest.files.stdin) spans (moved_few spans a.rest.files.stdin)
ranged_target a v spans (Pipe id write) = ranged_pipe a id spans
ranged_target a v spans (a_node node) = by (kind_of a.rest.tree node)
  where
    by : (kind : Node) → Ranged (node_read a v spans node kind)
    by Dir = none_ranged
    by File = ranged_filled (moved_bytes spans (drop v.at (bytes_of a.rest.tree node))) spans (moved_few spans (drop v.at (bytes_of a.rest.tree node)))

ranged_into : (a : Ask) (spans : List Span) → Ranged (read_into a spans)
ranged_into a spans =
    ranged_view a (view_of a (arg a 0)) (λ v. if v.way.read then target_read a v spans v.target else refuses a Ebadf)
    (λ v. ranged_if v.way.read (target_read a v spans v.target) (refuses a Ebadf) (ranged_target a v spans v.target) none_ranged)

ranged_read : (a : Ask) → Ranged (read_row a)
unfolding read_row
ranged_read a = ranged_into a (record { addr = arg a 1; len = arg a 2 } ∷ [])

ranged_readv : (a : Ask) → Ranged (readv_row a)
unfolding readv_row
ranged_readv a =
    ranged_if (nat_lt 1024 (arg a 2)) (refuses a Einval) (read_into a (map (piece_at a.sent) (range_with_len 0 (arg a 2)))) none_ranged
    (ranged_into a (map (piece_at a.sent) (range_with_len 0 (arg a 2))))

-- ---- the rows of all outputs

module _ (a : Ask) where
  ranged_59 : a.number ≡ 59 → Ranged (row a)
  unfolding row
  ranged_59 is = rw is (ranged_pipe2 (record a { number = 59 }))

  ranged_61 : a.number ≡ 61 → arg a 2 < 2 ^ 32 → Ranged (row a)
  unfolding row
  ranged_61 is small = rw is (ranged_getdents (record a { number = 61 }) small)

  ranged_62 : a.number ≡ 62 → Ranged (row a)
  unfolding row
  ranged_62 is = rw is (ranged_llseek (record a { number = 62 }))

  ranged_63 : a.number ≡ 63 → Ranged (row a)
  unfolding row
  ranged_63 is = rw is (ranged_read (record a { number = 63 }))

  ranged_65 : a.number ≡ 65 → Ranged (row a)
  unfolding row
  ranged_65 is = rw is (ranged_readv (record a { number = 65 }))

  no_other : (a.number == 59) ≡ false → (a.number == 61) ≡ false → (a.number == 62) ≡ false → (a.number == 63) ≡ false → (a.number == 65) ≡ false → is_output a.number ≡ false
  no_other n59 n61 n62 n63 n65 = rw (n59, n61, n62, n63, n65) refl

  pub ranged_row : IsOutput a.number → arg a 2 < 2 ^ 32 → Ranged (row a)
  ranged_row output small = elim (decide (a.number == 59)) [
    | inl is ↦ ranged_59 (eqb_is a.number 59 is)
    | inr n59 ↦ elim (decide (a.number == 61)) [
      | inl is ↦ ranged_61 (eqb_is a.number 61 is) small
      | inr n61 ↦ elim (decide (a.number == 62)) [
        | inl is ↦ ranged_62 (eqb_is a.number 62 is)
        | inr n62 ↦ elim (decide (a.number == 63)) [
          | inl is ↦ ranged_63 (eqb_is a.number 63 is)
          | inr n63 ↦ elim (decide (a.number == 65)) [
            | inl is ↦ ranged_65 (eqb_is a.number 65 is)
            | inr n65 ↦ absurd (false≢true (sym (no_other n59 n61 n62 n63 n65) ∙ output))
          ]
        ]
      ]
    ]
  ]

-- ---- what was made of a call

-- the call as any world with these files has it
abbrev asked_of : Call → Inodes → OpenFiles → Ask
asked_of call tree files = record {
  process = record { pid = call.pid; parent = call.parent; regs = record { pc = 0; x = [] }; space = 0; table = call.table; state = Ready };
  space = record { maps = []; brk = 0; brk_low = 0; brk_high = 0; bytes = λ at. None };
  spaces = [];
  rest = record { pages = 0; kind = First; programs = []; tree = tree; files = files; console = []; keep = 0 };
  number = call.number;
  args = call.args;
  sent = call.sent.items;
}

pub ranges_of : (call : Call) (tree : Inodes) (files : OpenFiles) (o : Outcome) → IsOutput call.number → slice_index call.args 2 < 2 ^ 32 → GivesRow row call tree files o → All IsRange (got_of o)
ranges_of call tree files o output small rows =
    let a = asked_of call tree files in
    let made : MadeBy call a = record { pid = refl; parent = refl; table = refl; number = refl; args = refl; sent = refl } in
    subst Ranged (rows a made refl refl) (ranged_row a output small)

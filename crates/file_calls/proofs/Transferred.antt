-- read and readv: what they read into, and their pieces.
use Rattle.std.proofs.Common.{◌≡◌, ℕ, ◌+◌, ◌*◌, ◌<◌, ◌≤◌, List, [], ◌∷◌, ◌++◌, map, None, Result, Ok, Err, refl, sym, ap, subst, ◌∙◌, arith}
use Rattle.std.specs.Prelude.{IfOk, slice_index}
use Rattle.std.specs.List.{range_with_len}
use Rattle.std.specs.declared.alloc.AllocError.{AllocError}
use Rattle.std.proofs.lemmas.List.FromFn.{map-range_with_len_more}
use Rattle.std.proofs.lemmas.List.{map-append}
use Rattle.byte_words.specs.Numbers.{low_first, number_at}
use Rattle.call_log.specs.declared.errno.Errno.TheVariants.{Einval}
use Rattle.call_log.specs.Sent.{Span, most_pieces, piece_at}
use Rattle.mem_files.specs.Inodes.{Inodes}
use Rattle.fd_tables.specs.Files.{OpenFiles}
use Rattle.machine_world.specs.Asks.{Ask, Row, refuses}
use Rattle.machine_world.specs.Transfers.{read_into, read_row, readv_row}
use Rattle.file_calls.specs.declared.call.Call.{Call}
use Rattle.file_calls.specs.declared.piece.Piece.{Piece}
use Rattle.file_calls.specs.declared.outcome.Outcome.{Outcome}
use Rattle.file_calls.specs.Calls.{MadeBy, WaitsOn}
use Rattle.file_calls.specs.Outcomes.{GivesRow, GivesUnlessWaits, span_of}
use Rattle.file_calls.proofs.Asked.{arg_is, lt_true, lt_false}

-- ---- the rows

abbrev pub one_span : ℕ → ℕ → List Span
one_span addr len = record { addr = addr; len = len } ∷ []

abbrev pub pieces_of : List ℕ → ℕ → List Span
pieces_of bytes count = map (piece_at bytes) (range_with_len 0 count)

module _ (call : Call) (a : Ask) (made : MadeBy call a) where
  pub read_row_is : read_row a ≡ read_into a (one_span (slice_index call.args 1) (slice_index call.args 2))
  unfolding read_row
  read_row_is = λ i. read_into a (one_span (slice_index (made.args i) 1) (slice_index (made.args i) 2))

  pub readv_many : most_pieces < slice_index call.args 2 → readv_row a ≡ refuses a Einval
  unfolding readv_row
  readv_many many = rw (arg_is call a made 2, lt_true most_pieces (slice_index call.args 2) many) refl

  pub readv_row_is : slice_index call.args 2 ≤ most_pieces → readv_row a ≡ read_into a (map (piece_at call.sent.items) (range_with_len 0 (slice_index call.args 2)))
  unfolding readv_row
  readv_row_is few =
      rw (arg_is call a made 2, lt_false most_pieces (slice_index call.args 2) few)
      (λ i. read_into a (map (piece_at (made.sent i)) (range_with_len 0 (slice_index call.args 2))))

-- one row for another
pub rows_same : (row other : Ask → Row) (call : Call) (tree : Inodes) (files : OpenFiles) (r : Result Outcome AllocError) →
    ((a : Ask) → MadeBy call a → row a ≡ other a) → IfOk r (GivesRow other call tree files) → IfOk r (GivesRow row call tree files)
rows_same row other call tree files (Ok o) same gives = λ a made same_tree same_files. same a made ∙ gives a made same_tree same_files
rows_same row other call tree files (Err error) same gives = gives

-- one row for another, where the call doesn't wait
pub waits_same : (row other : Ask → Row) (call : Call) (tree : Inodes) (files : OpenFiles) (r : Result Outcome AllocError) →
    ((a : Ask) → MadeBy call a → row a ≡ other a) → IfOk r (GivesUnlessWaits other call tree files) → IfOk r (GivesUnlessWaits row call tree files)
waits_same row other call tree files (Ok o) same gives = λ a made same_tree same_files replies.
    same a made ∙ gives a made same_tree same_files (subst (λ (r : Row). WaitsOn r None) (same a made) replies)
waits_same row other call tree files (Err error) same gives = gives

-- a call that doesn't wait
pub replies_same : (row other : Ask → Row) (call : Call) (tree : Inodes) (files : OpenFiles) (r : Result Outcome AllocError) →
    ((a : Ask) → MadeBy call a → row a ≡ other a) → ((a : Ask) → MadeBy call a → a.rest.files ≡ files → WaitsOn (row a) None) →
    IfOk r (GivesUnlessWaits other call tree files) → IfOk r (GivesRow row call tree files)
replies_same row other call tree files (Ok o) same replies gives = λ a made same_tree same_files.
    same a made ∙ gives a made same_tree same_files (subst (λ (r : Row). WaitsOn r None) (same a made) (replies a made same_files))
replies_same row other call tree files (Err error) same replies gives = gives

-- one piece more
pub pieces_more : (pieces before : List Piece) (piece : Piece) (bytes : List ℕ) (i : ℕ) → pieces ≡ before ++ piece ∷ [] →
    piece.addr ≡ number_at low_first 4 bytes (8 * i) → piece.len ≡ number_at low_first 4 bytes (8 * i + 4) →
    map span_of before ≡ map (piece_at bytes) (range_with_len 0 i) → map span_of pieces ≡ map (piece_at bytes) (range_with_len 0 (i + 1))
pieces_more pieces before piece bytes i all addr len so_far =
    let here : span_of piece ≡ piece_at bytes i = λ k. record { addr = addr k; len = len k } in
    ap (map span_of) all ∙ map-append span_of before (piece ∷ [])
    ∙ (λ k. so_far k ++ here k ∷ [])
    ∙ sym (map-range_with_len_more (piece_at bytes) 0 i i (omega arith))

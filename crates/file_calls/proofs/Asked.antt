-- The calls that give bytes: what the code has is what the world asks, and what the code makes is what the row gives.
use Rattle.std.proofs.Common.{◌≡◌, ℕ, ◌<◌, ◌≤◌, true, false, List, [], ◌∷◌, ◌++◌, map, Option, Some, None, Result, Ok, Err, refl, sym, ap, ◌∙◌, arith}
use Rattle.std.specs.Prelude.{nat_lt, slice_index}
use Rattle.std.proofs.lemmas.Bool.Decides.{nat_tests}
use Rattle.call_log.specs.declared.errno.Errno.{Errno}
use Rattle.call_log.specs.declared.errno.Errno.TheVariants.{Ebadf}
use Rattle.call_log.specs.declared.note.Got.{Got}
use Rattle.call_log.specs.Errno.{refusal}
use Rattle.call_log.specs.Notes.{GotRange}
use Rattle.call_log.specs.Values.{got_value}
use Rattle.fd_tables.specs.declared.view.View.{View}
use Rattle.fd_tables.specs.Files.{OpenFiles, view}
use Rattle.fd_tables.specs.Calls.{view_or_errno}
use Rattle.machine_world.specs.Asks.{Ask, Row, arg, gives, refuses, view_of, with_view, with_files}
use Rattle.file_calls.specs.declared.call.Call.{Call}
use Rattle.file_calls.specs.declared.outcome.Outcome.{Outcome}
use Rattle.file_calls.specs.declared.outcome.Then.{Then}
use Rattle.file_calls.specs.declared.outcome.Then.TheVariants.{Nothing}
use Rattle.file_calls.specs.Calls.{MadeBy, after, got_of, Gives}

pub lt_true : (m n : ℕ) → m < n → nat_lt m n ≡ true
lt_true m n h = grind (arith, nat_tests)

pub lt_false : (m n : ℕ) → n ≤ m → nat_lt m n ≡ false
lt_false m n h = grind (arith, nat_tests)

-- ---- what `view` answers

pub closed : (x : Option View) (r : Result View Errno) (errno : Errno) → r ≡ view_or_errno x → r ≡ Err errno → (x ≡ None) × (errno ≡ Ebadf)
closed None r errno says is = (refl, (cc))
closed (Some v) r errno says is = absurd (cc)

pub is_open : (x : Option View) (r : Result View Errno) (v : View) → r ≡ view_or_errno x → r ≡ Ok v → x ≡ Some v
is_open None r v says is = absurd (cc)
is_open (Some w) r v says is = cc

-- ---- what is made

-- the parts of an outcome
pub gives_made : (a : Ask) (o : Outcome) (value : ℕ) (got : List GotRange) (next : Then) → o.value ≡ value → got_of o ≡ got → o.then ≡ next →
    Gives a (gives a value got (with_files a.rest (after next a.process.table a.rest.files))) o
gives_made a o value got next v g t = sym (λ i. gives a (v i) (g i) (with_files a.rest (after (t i) a.process.table a.rest.files)))

pub gives_refused : (a : Ask) (o : Outcome) (errno : Errno) → o.value ≡ refusal errno → o.got.items ≡ [] → o.then ≡ Nothing → Gives a (refuses a errno) o
gives_refused a o errno v g t = gives_made a o (refusal errno) [] Nothing v (ap (map got_value) g) t

-- one range of bytes is given
pub written_one : (got front : List Got) (g : Got) (addr : ℕ) (bytes : List ℕ) → got ≡ front ++ g ∷ [] → front ≡ [] → g.addr ≡ addr → g.bytes.items ≡ bytes →
    map got_value got ≡ record { addr = addr; bytes = bytes } ∷ []
written_one got front g addr bytes all none at is =
    let one : got ≡ g ∷ [] = all ∙ ap (λ xs. xs ++ g ∷ []) none in
    ap (map got_value) one ∙ (λ i. record { addr = at i; bytes = is i } ∷ [])

-- ---- what is asked

module _ (call : Call) (a : Ask) (made : MadeBy call a) where
  pub arg_is : (i : ℕ) → arg a i ≡ slice_index call.args i
  arg_is i = ap (λ xs. slice_index xs i) made.args

  module _ (files : OpenFiles) (same : a.rest.files ≡ files) where
    pub view_is : view_of a (arg a 0) ≡ view files call.table (slice_index call.args 0)
    view_is = λ i. view (same i) (made.table i) (slice_index (made.args i) 0)

    pub at_closed : (row : View → Row) → view files call.table (slice_index call.args 0) ≡ None → with_view a (view_of a (arg a 0)) row ≡ refuses a Ebadf
    at_closed row none = ap (λ x. with_view a x row) (view_is ∙ none)

    pub at_open : (row : View → Row) (v : View) → view files call.table (slice_index call.args 0) ≡ Some v → with_view a (view_of a (arg a 0)) row ≡ row v
    at_open row v some = ap (λ x. with_view a x row) (view_is ∙ some)

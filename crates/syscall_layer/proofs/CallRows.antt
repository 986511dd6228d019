-- The row of each call that touches neither files nor memory, and the effect that the code gives it.
use Rattle.std.proofs.Common.{◌≡◌, ◌≢◌, ℕ, Bool, true, false, Option, Some, None, Ok, Err, refl, sym, ap, ◌∙◌}
use Rattle.std.specs.Prelude.{◌==◌, slice_index, Result}
use Rattle.call_log.specs.declared.errno.Errno.{Errno}
use Rattle.call_log.specs.declared.errno.Errno.TheVariants.{Enosys, Enotty}
use Rattle.call_log.specs.Errno.{refusal}
use Rattle.fd_tables.specs.declared.view.View.{View}
use Rattle.fd_tables.specs.Files.{OpenFiles, view}
use Rattle.fd_tables.specs.Calls.{view_or_errno}
use Rattle.std.proofs.lemmas.Bool.{false≢true}
use Rattle.vfork_exec.proofs.Keyed.{eqb_other}
use Rattle.machine_world.specs.Asks.{Ask, arg, replies, answers, refuses, view_of, with_view}
use Rattle.machine_world.specs.Descriptors.{ioctl_row}
use Rattle.machine_world.specs.Rows.{yield_row, brk_row, asks_pid, row}
use Rattle.file_calls.specs.declared.call.Call.{Call}
use Rattle.file_calls.specs.Calls.{MadeBy, is_change, is_output}
use Rattle.kept_parts.specs.declared.effect.Effect.TheVariants.{Answer, Yield, Break}
use Rattle.kept_parts.specs.Calls.{reply_of}
use Rattle.kept_parts.specs.MapsIn.{is_mapping}
use Rattle.kept_parts.proofs.Common.UseCounts.{eqb_is}

-- ---- ioctl

ioctl_by : (a : Ask) (v : Option View) → view_of a (arg a 0) ≡ v → ioctl_row a ≡ with_view a v (λ x. refuses a Enotty)
unfolding ioctl_row
ioctl_by a v is = ap (λ (x : Option View). with_view a x (λ y. refuses a Enotty)) is

module _ (a : Ask) (table fd : ℕ) (files : OpenFiles) (t : a.process.table ≡ table) (at : arg a 0 ≡ fd) (open_now : a.rest.files ≡ files) where
  seen : view_of a (arg a 0) ≡ view files table fd
  seen = λ i. view (open_now i) (t i) (at i)

  pub ioctl_open : (v : View) (value : ℕ) → Ok v ≡ view_or_errno (view files table fd) → value ≡ refusal Enotty → ioctl_row a ≡ answers a value
  ioctl_open v value found says = by_view (view files table fd) refl found
    where
      by_view : (o : Option View) → view files table fd ≡ o → Ok v ≡ view_or_errno o → ioctl_row a ≡ answers a value
      by_view (Some x) is found = ioctl_by a (Some x) (seen ∙ is) ∙ ap (answers a) (sym says)
      by_view None is found = absurd cc

  pub ioctl_closed : (errno : Errno) (value : ℕ) → Err errno ≡ view_or_errno (view files table fd) → value ≡ refusal errno → ioctl_row a ≡ answers a value
  ioctl_closed errno value found says = by_view (view files table fd) refl found
    where
      by_view : (o : Option View) → view files table fd ≡ o → Err errno ≡ view_or_errno o → ioctl_row a ≡ answers a value
      by_view (Some x) is found = absurd cc
      by_view None is found = ioctl_by a None (seen ∙ is) ∙ ap (λ (e : Errno). answers a (refusal e)) (same_errno _ _ (sym found)) ∙ ap (answers a) (sym says)
        where
          same_errno : (x y : Errno) → ◌≡◌ {A = Result View Errno} (Err x) (Err y) → x ≡ y
          same_errno x y e = cc

-- ---- each number

-- a number of no change, of no output and of no mapping is none of theirs
record Plain (n : ℕ) : Type 0 where
  n23 : (n == 23) ≡ false
  n24 : (n == 24) ≡ false
  n34 : (n == 34) ≡ false
  n35 : (n == 35) ≡ false
  n56 : (n == 56) ≡ false
  n57 : (n == 57) ≡ false
  n59 : (n == 59) ≡ false
  n61 : (n == 61) ≡ false
  n62 : (n == 62) ≡ false
  n63 : (n == 63) ≡ false
  n64 : (n == 64) ≡ false
  n65 : (n == 65) ≡ false
  n66 : (n == 66) ≡ false
  n215 : (n == 215) ≡ false
  n222 : (n == 222) ≡ false

plain : (n : ℕ) → is_change n ≡ false → is_output n ≡ false → is_mapping n ≡ false → Plain n
plain n change output mapping = record {
  n23 = none (n == 23) (λ is. let e : n ≡ 23 = eqb_is n 23 is in change_not n 23 e refl change);
  n24 = none (n == 24) (λ is. let e : n ≡ 24 = eqb_is n 24 is in change_not n 24 e refl change);
  n34 = none (n == 34) (λ is. let e : n ≡ 34 = eqb_is n 34 is in change_not n 34 e refl change);
  n35 = none (n == 35) (λ is. let e : n ≡ 35 = eqb_is n 35 is in change_not n 35 e refl change);
  n56 = none (n == 56) (λ is. let e : n ≡ 56 = eqb_is n 56 is in change_not n 56 e refl change);
  n57 = none (n == 57) (λ is. let e : n ≡ 57 = eqb_is n 57 is in change_not n 57 e refl change);
  n59 = none (n == 59) (λ is. let e : n ≡ 59 = eqb_is n 59 is in output_not n 59 e refl output);
  n61 = none (n == 61) (λ is. let e : n ≡ 61 = eqb_is n 61 is in output_not n 61 e refl output);
  n62 = none (n == 62) (λ is. let e : n ≡ 62 = eqb_is n 62 is in output_not n 62 e refl output);
  n63 = none (n == 63) (λ is. let e : n ≡ 63 = eqb_is n 63 is in output_not n 63 e refl output);
  n64 = none (n == 64) (λ is. let e : n ≡ 64 = eqb_is n 64 is in change_not n 64 e refl change);
  n65 = none (n == 65) (λ is. let e : n ≡ 65 = eqb_is n 65 is in output_not n 65 e refl output);
  n66 = none (n == 66) (λ is. let e : n ≡ 66 = eqb_is n 66 is in change_not n 66 e refl change);
  n215 = none (n == 215) (λ is. let e : n ≡ 215 = eqb_is n 215 is in mapping_not n 215 e refl mapping);
  n222 = none (n == 222) (λ is. let e : n ≡ 222 = eqb_is n 222 is in mapping_not n 222 e refl mapping);
}
  where
    none : (b : Bool) → (b ≡ true → ⊥) → b ≡ false
    none true never = absurd (never refl)
    none false never = refl

    change_not : (x y : ℕ) → x ≡ y → is_change y ≡ true → is_change x ≡ false → ⊥
    change_not x y same holds fails = false≢true (sym fails ∙ ap is_change same ∙ holds)

    output_not : (x y : ℕ) → x ≡ y → is_output y ≡ true → is_output x ≡ false → ⊥
    output_not x y same holds fails = false≢true (sym fails ∙ ap is_output same ∙ holds)

    mapping_not : (x y : ℕ) → x ≡ y → is_mapping y ≡ true → is_mapping x ≡ false → ⊥
    mapping_not x y same holds fails = false≢true (sym fails ∙ ap is_mapping same ∙ holds)

module _ (call : Call) (a : Ask) (made : MadeBy call a) where
  at_arg : (i : ℕ) → arg a i ≡ slice_index call.args i
  at_arg i = ap (λ xs. slice_index xs i) made.args

  pub row_ioctl : (value : ℕ) → call.number ≡ 29 → ((b : Ask) → b.process.table ≡ call.table → arg b 0 ≡ slice_index call.args 0 → b.rest.files ≡ a.rest.files → ioctl_row b ≡ answers b value) →
      row a ≡ replies (reply_of a (Answer value))
  unfolding row
  row_ioctl value is answers_so = rw (made.number, is) (answers_so (record a { number = 29 }) made.table (at_arg 0) refl)

  pub row_yield : call.number ≡ 124 → row a ≡ replies (reply_of a Yield)
  unfolding row yield_row
  row_yield is = rw (made.number, is) refl

  pub row_parent : call.number ≡ 173 → row a ≡ replies (reply_of a (Answer call.parent))
  unfolding row
  row_parent is = rw (made.number, is, made.parent) refl

  pub row_brk : call.number ≡ 214 → row a ≡ replies (reply_of a (Break (slice_index call.args 0)))
  unfolding row brk_row
  row_brk is = rw (made.number, is, at_arg 0) refl

  module _ (change : is_change call.number ≡ false) (output : is_output call.number ≡ false) (mapping : is_mapping call.number ≡ false) where
    pub row_pid : call.number ≢ 29 → asks_pid call.number ≡ true → row a ≡ replies (reply_of a (Answer call.pid))
    unfolding row
    row_pid n29 is =
        let p = plain call.number change output mapping in
        rw (made.number, p.n23, p.n24, eqb_other call.number 29 n29, p.n34, p.n35, p.n56, p.n57, p.n59, p.n61, p.n62, p.n63, p.n64, p.n65, p.n66, is, made.pid) refl

    pub row_other : (value : ℕ) → call.number ≢ 29 → asks_pid call.number ≡ false → call.number ≢ 124 → call.number ≢ 173 → call.number ≢ 214 → value ≡ refusal Enosys →
        row a ≡ replies (reply_of a (Answer value))
    unfolding row
    row_other value n29 others n124 n173 n214 says =
        let p = plain call.number change output mapping in
        rw (
          made.number,
          p.n23,
          p.n24,
          eqb_other call.number 29 n29,
          p.n34,
          p.n35,
          p.n56,
          p.n57,
          p.n59,
          p.n61,
          p.n62,
          p.n63,
          p.n64,
          p.n65,
          p.n66,
          others,
          eqb_other call.number 124 n124,
          eqb_other call.number 173 n173,
          eqb_other call.number 214 n214,
          p.n215,
          p.n222,
          says,
        ) refl

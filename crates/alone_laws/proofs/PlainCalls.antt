-- Calls that are refused, and those that leave the space's mappings, are followed alone.
use Rattle.std.proofs.Common.{◌≡◌, ℕ, Bool, true, false, List, [], ◌∷◌, Some, Ok, refl, sym, ap, ◌∙◌, arith}
use Rattle.std.specs.Prelude.{◌==◌, ◌||◌, ◌&&◌, if◌then◌else◌}
use Rattle.std.proofs.lemmas.Bool.Decides.{nat_tests}
use Rattle.byte_words.specs.ByteMap.{Bytes}
use Rattle.call_log.specs.declared.errno.Errno.{Errno}
use Rattle.call_log.specs.Errno.{refusal}
use Rattle.mmap_rules.specs.Space.{Space, writable_in}
use Rattle.flat_loader.specs.Alone.{Runner, Solo, Item, memory_of, number_of, replied, put_got, is_errno, leaves_space, solo_mapped, solo_unmapped, solo_forked, solo_effect, solo_answered, solo_put}
use Rattle.machine_world.specs.World.{Process, World}
use Rattle.machine_world.specs.Asks.{Ask, Row, replies, waits, refuses}
use Rattle.machine_world.specs.Rows.{row}
use Rattle.machine_world.specs.Event.{ask_of, entry_of, item_of, is_exit}
use Rattle.machine_world.proofs.Refused.{is_refused}
use Rattle.machine_world.proofs.States.{with_regs}
use Rattle.alone_laws.specs.Stays.{runner_of}
use Rattle.alone_laws.proofs.Frame.{ranges_of}
use Rattle.alone_laws.proofs.Lists.{if_yes, if_no}
use Rattle.alone_laws.proofs.RowSpaces.{LeavesSpace, row_leaves}
use Rattle.alone_laws.proofs.EventStays.{Follows}

pub if_either : {A : Type 0} (b : Bool) (x y z : A) → x ≡ z → y ≡ z → (if b then x else y) ≡ z
if_either true x y z hx hy = hx
if_either false x y z hx hy = hy

and_no : (b c : Bool) → c ≡ false → (b && c) ≡ false
and_no true c is = is
and_no false c is = refl

pub zero_isnt : is_errno 0 ≡ false
unfolding is_errno
zero_isnt = refl

eqb_zero : (n : ℕ) → (n == 0) ≡ true → n ≡ 0
eqb_zero n h = grind (arith, nat_tests)

errno_isnt_zero : (v : ℕ) → is_errno v ≡ true → (v == 0) ≡ false
errno_isnt_zero v is = by (v == 0) refl
  where
    by : (b : Bool) → (v == 0) ≡ b → b ≡ false
    by false h = refl
    by true h = let none = ap is_errno (eqb_zero v h) ∙ zero_isnt in absurd (let e : true ≡ false = sym is ∙ none in cc)

module _ (w : World) (p : Process) (below : List Runner) (s : Space) (bytes : List ℕ) where
  abbrev a : Ask
  a = ask_of w p s bytes

  abbrev n : ℕ
  n = number_of p.regs

  -- the process with its reply, over these bytes
  abbrev pub now : ℕ → Bytes → Solo
  now value m = record { stack = runner_of (with_regs p (replied p.regs value)) ∷ below; memory = record (memory_of s) { bytes = m } }

  -- it doesn't leave the space
  pub answered_here : (i : Item) (m : Bytes) → leaves_space i.entry ≡ false → solo_answered (runner_of p) below (memory_of s) i m
      ≡ (if is_errno i.entry.reply then Some (now i.entry.reply m) else solo_effect (now i.entry.reply m) p.regs i)
  answered_here i m stays =
      if_no (leaves_space i.entry) (Some (record { stack = below; memory = record (memory_of s) { bytes = m } }))
      (if is_errno i.entry.reply then Some (now i.entry.reply m) else solo_effect (now i.entry.reply m) p.regs i) stays

  -- ---- a refused call

  pub follows_refused : is_exit n ≡ false → (e : Errno) → Follows p below s a (refuses a e)
  follows_refused stays e = λ m wrote.
      let same : s.bytes ≡ m = cc in
      let i : Item = item_of (entry_of a (refusal e) []) m in
      let is : is_errno (refusal e) ≡ true = is_refused e in
      let here : leaves_space i.entry ≡ false = let none = and_no (n == 221) (refusal e == 0) (errno_isnt_zero (refusal e) is) in (λ j. stays j || none j) in
      answered_here i s.bytes here
      ∙ if_yes (is_errno (refusal e)) (Some (now (refusal e) s.bytes)) (solo_effect (now (refusal e) s.bytes) p.regs i) is
      ∙ ap (λ b. Some (now (refusal e) b)) same

  -- ---- a call that leaves mappings and bytes, but for its output

  module _ (stays : is_exit n ≡ false) (no_munmap : (n == 215) ≡ false) (no_mmap2 : (n == 222) ≡ false) (no_clone : (n == 220) ≡ false) (no_execve : (n == 221) ≡ false) where
    no_effect : (t : Solo) (i : Item) → i.entry.call ≡ n → solo_effect t p.regs i ≡ Some t
    no_effect t i same =
        let is : (k : ℕ) → (n == k) ≡ false → (i.entry.call == k) ≡ false = λ k h. ap (λ (c : ℕ). c == k) same ∙ h in
        if_no (i.entry.call == 222) (solo_mapped t i) _ (is 222 no_mmap2)
        ∙ if_no (i.entry.call == 215) (solo_unmapped t i.entry) _ (is 215 no_munmap)
        ∙ if_no (i.entry.call == 220) (Some (solo_forked t p.regs i.entry)) (Some t) (is 220 no_clone)

    pub follows_same : (r : Row) → LeavesSpace s r → Follows p below s a r
    follows_same (waits state) same = tt
    follows_same (replies r) same = λ m wrote.
        let i : Item = item_of (entry_of a r.value r.got) m in
        let put : put_got s.bytes (writable_in s.maps) r.got ≡ Ok m = (λ j. put_got (sym same.bytes j) (writable_in (sym same.maps j)) r.got) ∙ wrote in
        let here : leaves_space i.entry ≡ false = (λ j. stays j || (no_execve j && (r.value == 0))) in
        ap (solo_put (runner_of p) below (memory_of s) i) put
        ∙ answered_here i m here
        ∙ if_either (is_errno r.value) (Some (now r.value m)) (solo_effect (now r.value m) p.regs i) (Some (now r.value m)) refl (no_effect (now r.value m) i refl)
        ∙ ap (λ maps. Some (record { stack = runner_of (with_regs p (replied p.regs r.value)) ∷ below; memory = record { ranges = ranges_of maps; bytes = m } })) (sym same.maps)

    pub follows_plain : Follows p below s a (row a)
    follows_plain = follows_same (row a) (row_leaves a no_munmap no_mmap2)

  -- ---- mmap2 and munmap

  pub answers_map : n ≡ 222 → (i : Item) → i.entry.call ≡ n → is_errno i.entry.reply ≡ false
      → solo_put (runner_of p) below (memory_of s) i (Ok s.bytes) ≡ solo_mapped (now i.entry.reply s.bytes) i
  answers_map is i same granted =
      let call : i.entry.call ≡ 222 = same ∙ is in
      let here : leaves_space i.entry ≡ false = ap (λ (c : ℕ). c == 93 || c == 94 || (c == 221 && (i.entry.reply == 0))) call in
      answered_here i s.bytes here
      ∙ if_no (is_errno i.entry.reply) (Some (now i.entry.reply s.bytes)) (solo_effect (now i.entry.reply s.bytes) p.regs i) granted
      ∙ if_yes (i.entry.call == 222) (solo_mapped (now i.entry.reply s.bytes) i) _ (ap (λ (c : ℕ). c == 222) call)

  pub answers_unmap : n ≡ 215 → (i : Item) → i.entry.call ≡ n → is_errno i.entry.reply ≡ false
      → solo_put (runner_of p) below (memory_of s) i (Ok s.bytes) ≡ solo_unmapped (now i.entry.reply s.bytes) i.entry
  answers_unmap is i same granted =
      let call : i.entry.call ≡ 215 = same ∙ is in
      let here : leaves_space i.entry ≡ false = ap (λ (c : ℕ). c == 93 || c == 94 || (c == 221 && (i.entry.reply == 0))) call in
      answered_here i s.bytes here
      ∙ if_no (is_errno i.entry.reply) (Some (now i.entry.reply s.bytes)) (solo_effect (now i.entry.reply s.bytes) p.regs i) granted
      ∙ if_no (i.entry.call == 222) (solo_mapped (now i.entry.reply s.bytes) i) _ (ap (λ (c : ℕ). c == 222) call)
      ∙ if_yes (i.entry.call == 215) (solo_unmapped (now i.entry.reply s.bytes) i.entry) _ (ap (λ (c : ℕ). c == 215) call)

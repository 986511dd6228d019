-- The numbers at the front of a line, spelled and read.
use Rattle.std.proofs.Common.{◌≡◌, ℕ, ◌^◌, ◌<◌, Bool, true, cond, List, [], ◌∷◌, ◌++◌, length, Some, None, refl, ap, ◌∙◌, subst, append_assoc, arith}
use Rattle.std.specs.Prelude.{codes, decimal}
use Rattle.std.specs.List.{AllByRecursion, flat_map}
use Rattle.std.proofs.lemmas.Bool.Decides.{nat_tests}
use Rattle.std.proofs.lemmas.Option.{same_Some}
use Rattle.call_log.specs.Lines.{word_digits, arg_text}
use Rattle.items_text.specs.declared.heads.SpaceHead.{SpaceHead}
use Rattle.items_text.specs.declared.heads.CallHead.{CallHead}
use Rattle.items_text.specs.Items.{IsBase}
use Rattle.items_text.specs.Pieces.{behind, cut_at, number_at, most_word, most_count}
use Rattle.items_text.specs.Reading.{space_text, space_numbers, is_base, space_at, head_text, call_numbers, head_at}
use Rattle.items_text.proofs.Cuts.{lacks_by, bind_some, bind_then, bind_is, by_test, behind_found, behind_again, cut_again}
use Rattle.items_text.proofs.Spelled.{decimal_again, word_again, number_bound, space_mark, line_mark}
use Rattle.items_text.proofs.Strings.{joined_onto}

-- ---- the first line

pub record HoldsSpace (h : SpaceHead) : Type 0 where
  pub stack : h.stack < 2 ^ 32
  pub base : h.base < 2 ^ 32
  pub pid : h.pid < 2 ^ 32
  pub events : h.events < 2 ^ 64

base_by_test : (base : ℕ) → is_base base ≡ true → IsBase base
base_by_test base is = record { on_page = grind (arith, nat_tests); from = grind (arith, nat_tests); to = grind (arith, nat_tests) }

test_by_base : (base : ℕ) → IsBase base → is_base base ≡ true
test_by_base base is =
    let on_page = is.on_page in
    let from = is.from in
    let to = is.to in
    grind (arith, nat_tests)

space_numbers_again : (h : SpaceHead) (rest : List ℕ) → HoldsSpace h → space_numbers (space_text h ++ rest) ≡ Some h
unfolding space_numbers
space_numbers_again h rest held =
    let t8 : List ℕ = decimal h.events ++ 10 ∷ rest in
    let t7 : List ℕ = codes "events" ++ 32 ∷ t8 in
    let t6 : List ℕ = decimal h.pid ++ 32 ∷ t7 in
    let t5 : List ℕ = codes "pid" ++ 32 ∷ t6 in
    let t4 : List ℕ = word_digits h.base ++ 32 ∷ t5 in
    let t3 : List ℕ = codes "base 0" ++ 120 ∷ t4 in
    let t2 : List ℕ = decimal h.stack ++ 32 ∷ t3 in
    let t1 : List ℕ = codes "stack" ++ 32 ∷ t2 in
    ap space_numbers (joined_onto (codes "space stack " ∷ decimal h.stack ∷ codes " base 0x" ∷ word_digits h.base ∷ codes " pid " ∷ decimal h.pid ∷ codes " events " ∷ decimal h.events ∷ codes "\n" ∷ []) rest)
    ∙ bind_is (cut_at 32 (codes "space" ++ 32 ∷ t1)) _ (codes "space", t1) (cut_again 32 (codes "space") t1 (lacks_by 32 (codes "space") refl))
    ∙ bind_is (cut_at 32 t1) _ (codes "stack", t2) (cut_again 32 (codes "stack") t2 (lacks_by 32 (codes "stack") refl))
    ∙ bind_is (number_at 10 most_word 32 t2) _ (h.stack, t3) (decimal_again most_word 32 h.stack t3 space_mark (omega (arith, held.stack)) (omega (arith, held.stack)))
    ∙ bind_is (cut_at 120 t3) _ (codes "base 0", t4) (cut_again 120 (codes "base 0") t4 (lacks_by 120 (codes "base 0") refl))
    ∙ bind_is (number_at 16 most_word 32 t4) _ (h.base, t5) (word_again 32 h.base t5 space_mark held.base)
    ∙ bind_is (cut_at 32 t5) _ (codes "pid", t6) (cut_again 32 (codes "pid") t6 (lacks_by 32 (codes "pid") refl))
    ∙ bind_is (number_at 10 most_word 32 t6) _ (h.pid, t7) (decimal_again most_word 32 h.pid t7 space_mark (omega (arith, held.pid)) (omega (arith, held.pid)))
    ∙ bind_is (cut_at 32 t7) _ (codes "events", t8) (cut_again 32 (codes "events") t8 (lacks_by 32 (codes "events") refl))
    ∙ bind_is (number_at 10 most_count 10 t8) _ (h.events, rest) (decimal_again most_count 10 h.events rest line_mark held.events (omega (arith, held.events)))

pub space_again : (h : SpaceHead) (rest : List ℕ) → HoldsSpace h → IsBase h.base → space_at (space_text h ++ rest) ≡ Some (h, rest)
unfolding space_at
space_again h rest held base =
    bind_is (space_numbers (space_text h ++ rest)) _ h (space_numbers_again h rest held)
    ∙ bind_is (behind (space_text h) (space_text h ++ rest)) _ rest (behind_again (space_text h) rest)
    ∙ ap (λ (b : Bool). cond b (Some (h, rest)) None) (test_by_base h.base base)

space_bounds : (text : List ℕ) (h : SpaceHead) → space_numbers text ≡ Some h → HoldsSpace h
unfolding space_numbers
space_bounds text h e =
    let w0 = bind_some (cut_at 32 text) _ h e in
    let w1 = bind_some (cut_at 32 w0.0.1) _ h w0.2 in
    let stack = bind_some (number_at 10 most_word 32 w1.0.1) _ h w1.2 in
    let w2 = bind_some (cut_at 120 stack.0.1) _ h stack.2 in
    let base = bind_some (number_at 16 most_word 32 w2.0.1) _ h w2.2 in
    let w3 = bind_some (cut_at 32 base.0.1) _ h base.2 in
    let pid = bind_some (number_at 10 most_word 32 w3.0.1) _ h w3.2 in
    let w4 = bind_some (cut_at 32 pid.0.1) _ h pid.2 in
    let events = bind_some (number_at 10 most_count 10 w4.0.1) _ h w4.2 in
    let same : ◌≡◌ {A = SpaceHead} (record { stack = stack.0.0; base = base.0.0; pid = pid.0.0; events = events.0.0 }) h = same_Some _ h events.2 in
    subst HoldsSpace same (record {
      stack = omega (arith, number_bound 10 most_word 32 w1.0.1 stack.0 stack.1);
      base = omega (arith, number_bound 16 most_word 32 w2.0.1 base.0 base.1);
      pid = omega (arith, number_bound 10 most_word 32 w3.0.1 pid.0 pid.1);
      events = omega (arith, number_bound 10 most_count 10 w4.0.1 events.0 events.1);
    })

pub record SpaceFound (text : List ℕ) (h : SpaceHead) (rest : List ℕ) : Type 0 where
  pub held : HoldsSpace h
  pub base : IsBase h.base
  pub spelled : text ≡ space_text h ++ rest

pub space_found : (text : List ℕ) (h : SpaceHead) (rest : List ℕ) → space_at text ≡ Some (h, rest) → SpaceFound text h rest
unfolding space_at
space_found text h rest e =
    let numbers = bind_some (space_numbers text) _ (h, rest) e in
    let left = bind_some (behind (space_text numbers.0) text) _ (h, rest) numbers.2 in
    let test = by_test (is_base numbers.0.base) (numbers.0, left.0) (h, rest) left.2 in
    let found : SpaceFound text numbers.0 left.0 = record {
      held = space_bounds text numbers.0 numbers.1;
      base = base_by_test numbers.0.base test.0;
      spelled = behind_found (space_text numbers.0) text left.0 left.1;
    } in
    subst (λ (p : SpaceHead × List ℕ). SpaceFound text p.0 p.1) test.1 found

-- ---- a call's line

pub record HoldsHead (h : CallHead) : Type 0 where
  pub pid : h.pid < 2 ^ 32
  pub call : h.call < 2 ^ 32
  pub args : AllByRecursion (λ a. a < 2 ^ 32) h.args
  pub six : length h.args ≡ 6
  pub reply : h.reply < 2 ^ 32

words_onto : List ℕ → List ℕ → List ℕ
words_onto [] rest = rest
words_onto (a ∷ more) rest = 32 ∷ (word_digits a ++ words_onto more rest)

words_are : (words rest : List ℕ) → flat_map arg_text words ++ rest ≡ words_onto words rest
unfolding words_onto
words_are [] rest = refl
words_are (a ∷ more) rest = append_assoc (arg_text a) (flat_map arg_text more) rest ∙ ap (λ t. arg_text a ++ t) (words_are more rest)

call_numbers_again : (pid call a0 a1 a2 a3 a4 a5 reply : ℕ) (rest : List ℕ) → HoldsHead (record { pid = pid; call = call; args = a0 ∷ a1 ∷ a2 ∷ a3 ∷ a4 ∷ a5 ∷ []; reply = reply })
    → call_numbers (head_text (record { pid = pid; call = call; args = a0 ∷ a1 ∷ a2 ∷ a3 ∷ a4 ∷ a5 ∷ []; reply = reply }) ++ rest) ≡ Some (record { pid = pid; call = call; args = a0 ∷ a1 ∷ a2 ∷ a3 ∷ a4 ∷ a5 ∷ []; reply = reply })
unfolding call_numbers words_onto
call_numbers_again pid call a0 a1 a2 a3 a4 a5 reply rest held =
    let words : List ℕ = a0 ∷ a1 ∷ a2 ∷ a3 ∷ a4 ∷ a5 ∷ [] in
    let b1 = held.args.1 in
    let b2 = b1.1 in
    let b3 = b2.1 in
    let b4 = b3.1 in
    let b5 = b4.1 in
    let t9 : List ℕ = codes "sent " ++ rest in
    let t8 : List ℕ = word_digits reply ++ 32 ∷ t9 in
    let t7 : List ℕ = codes "=" ++ 32 ∷ t8 in
    let t6 : List ℕ = word_digits a5 ++ 32 ∷ t7 in
    let t5 : List ℕ = word_digits a4 ++ 32 ∷ t6 in
    let t4 : List ℕ = word_digits a3 ++ 32 ∷ t5 in
    let t3 : List ℕ = word_digits a2 ++ 32 ∷ t4 in
    let t2 : List ℕ = word_digits a1 ++ 32 ∷ t3 in
    let t1 : List ℕ = word_digits a0 ++ 32 ∷ t2 in
    let tc : List ℕ = decimal call ++ 32 ∷ t1 in
    let tp : List ℕ = decimal pid ++ 32 ∷ tc in
    ap call_numbers (joined_onto (codes "call " ∷ decimal pid ∷ codes " " ∷ decimal call ∷ flat_map arg_text words ∷ codes " = " ∷ word_digits reply ∷ codes " sent " ∷ []) rest)
    ∙ ap (λ t. call_numbers (codes "call " ++ (decimal pid ++ 32 ∷ (decimal call ++ t)))) (words_are words (32 ∷ t7))
    ∙ bind_is (cut_at 32 (codes "call" ++ 32 ∷ tp)) _ (codes "call", tp) (cut_again 32 (codes "call") tp (lacks_by 32 (codes "call") refl))
    ∙ bind_is (number_at 10 most_word 32 tp) _ (pid, tc) (decimal_again most_word 32 pid tc space_mark (omega (arith, held.pid)) (omega (arith, held.pid)))
    ∙ bind_is (number_at 10 most_word 32 tc) _ (call, t1) (decimal_again most_word 32 call t1 space_mark (omega (arith, held.call)) (omega (arith, held.call)))
    ∙ bind_is (number_at 16 most_word 32 t1) _ (a0, t2) (word_again 32 a0 t2 space_mark held.args.0)
    ∙ bind_is (number_at 16 most_word 32 t2) _ (a1, t3) (word_again 32 a1 t3 space_mark b1.0)
    ∙ bind_is (number_at 16 most_word 32 t3) _ (a2, t4) (word_again 32 a2 t4 space_mark b2.0)
    ∙ bind_is (number_at 16 most_word 32 t4) _ (a3, t5) (word_again 32 a3 t5 space_mark b3.0)
    ∙ bind_is (number_at 16 most_word 32 t5) _ (a4, t6) (word_again 32 a4 t6 space_mark b4.0)
    ∙ bind_is (number_at 16 most_word 32 t6) _ (a5, t7) (word_again 32 a5 t7 space_mark b5.0)
    ∙ bind_is (cut_at 32 t7) _ (codes "=", t8) (cut_again 32 (codes "=") t8 (lacks_by 32 (codes "=") refl))
    ∙ bind_is (number_at 16 most_word 32 t8) _ (reply, t9) (word_again 32 reply t9 space_mark held.reply)

with_six : (pid call reply : ℕ) (words rest : List ℕ) → HoldsHead (record { pid = pid; call = call; args = words; reply = reply }) → call_numbers (head_text (record { pid = pid; call = call; args = words; reply = reply }) ++ rest) ≡ Some (record { pid = pid; call = call; args = words; reply = reply })
with_six pid call reply (a0 ∷ a1 ∷ a2 ∷ a3 ∷ a4 ∷ a5 ∷ []) rest held = call_numbers_again pid call a0 a1 a2 a3 a4 a5 reply rest held
with_six pid call reply [] rest held = absurd (omega (arith, held.six))
with_six pid call reply (a0 ∷ []) rest held = absurd (omega (arith, held.six))
with_six pid call reply (a0 ∷ a1 ∷ []) rest held = absurd (omega (arith, held.six))
with_six pid call reply (a0 ∷ a1 ∷ a2 ∷ []) rest held = absurd (omega (arith, held.six))
with_six pid call reply (a0 ∷ a1 ∷ a2 ∷ a3 ∷ []) rest held = absurd (omega (arith, held.six))
with_six pid call reply (a0 ∷ a1 ∷ a2 ∷ a3 ∷ a4 ∷ []) rest held = absurd (omega (arith, held.six))
with_six pid call reply (a0 ∷ a1 ∷ a2 ∷ a3 ∷ a4 ∷ a5 ∷ a6 ∷ more) rest held = absurd (omega (arith, held.six))

pub head_again : (h : CallHead) (rest : List ℕ) → HoldsHead h → head_at (head_text h ++ rest) ≡ Some (h, rest)
unfolding head_at
head_again h rest held =
    bind_is (call_numbers (head_text h ++ rest)) _ h (with_six h.pid h.call h.reply h.args rest held)
    ∙ bind_is (behind (head_text h) (head_text h ++ rest)) _ rest (behind_again (head_text h) rest)

word_bound : (text : List ℕ) (p : ℕ × List ℕ) → number_at 16 most_word 32 text ≡ Some p → p.0 < 2 ^ 32
word_bound text p is = omega (arith, number_bound 16 most_word 32 text p is)

head_bounds : (text : List ℕ) (h : CallHead) → call_numbers text ≡ Some h → HoldsHead h
unfolding call_numbers
head_bounds text h e =
    bind_then (cut_at 32 text) _ h e (λ w0 is_w0 e0.
    bind_then (number_at 10 most_word 32 w0.1) _ h e0 (λ pid is_pid e1.
    bind_then (number_at 10 most_word 32 pid.1) _ h e1 (λ call is_call e2.
    bind_then (number_at 16 most_word 32 call.1) _ h e2 (λ a0 is_a0 e3.
    bind_then (number_at 16 most_word 32 a0.1) _ h e3 (λ a1 is_a1 e4.
    bind_then (number_at 16 most_word 32 a1.1) _ h e4 (λ a2 is_a2 e5.
    bind_then (number_at 16 most_word 32 a2.1) _ h e5 (λ a3 is_a3 e6.
    bind_then (number_at 16 most_word 32 a3.1) _ h e6 (λ a4 is_a4 e7.
    bind_then (number_at 16 most_word 32 a4.1) _ h e7 (λ a5 is_a5 e8.
    bind_then (cut_at 32 a5.1) _ h e8 (λ w1 is_w1 e9.
    bind_then (number_at 16 most_word 32 w1.1) _ h e9 (λ reply is_reply e10.
    subst HoldsHead (same_Some (record { pid = pid.0; call = call.0; args = a0.0 ∷ a1.0 ∷ a2.0 ∷ a3.0 ∷ a4.0 ∷ a5.0 ∷ []; reply = reply.0 }) h e10) (record {
      pid = omega (arith, number_bound 10 most_word 32 w0.1 pid is_pid);
      call = omega (arith, number_bound 10 most_word 32 pid.1 call is_call);
      args = (word_bound call.1 a0 is_a0, (word_bound a0.1 a1 is_a1, (word_bound a1.1 a2 is_a2, (word_bound a2.1 a3 is_a3, (word_bound a3.1 a4 is_a4, (word_bound a4.1 a5 is_a5, tt))))));
      six = refl;
      reply = word_bound w1.1 reply is_reply;
    }))))))))))))

pub head_found : (text : List ℕ) (h : CallHead) (rest : List ℕ) → head_at text ≡ Some (h, rest) → HoldsHead h × (text ≡ head_text h ++ rest)
unfolding head_at
head_found text h rest e =
    let numbers = bind_some (call_numbers text) _ (h, rest) e in
    let left = bind_some (behind (head_text numbers.0) text) _ (h, rest) numbers.2 in
    let same : ◌≡◌ {A = CallHead × List ℕ} (numbers.0, left.0) (h, rest) = same_Some _ (h, rest) left.2 in
    subst (λ (p : CallHead × List ℕ). HoldsHead p.0 × (text ≡ head_text p.0 ++ p.1)) same (head_bounds text numbers.0 numbers.1, behind_found (head_text numbers.0) text left.0 left.1)

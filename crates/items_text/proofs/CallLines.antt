-- Calls' lines, spelled and read.
use Rattle.std.proofs.Common.{◌≡◌, ◌≢◌, ℕ, ◌==◌, Bool, true, cond, inl, inr, List, [], ◌∷◌, ◌++◌, Some, None, refl, sym, ap, ◌∙◌, subst}
use Rattle.std.specs.Prelude.{codes}
use Rattle.std.specs.List.{AllByRecursion}
use Rattle.std.proofs.lemmas.Bool.{cases_Bool, eqb-true, eqb-false}
use Rattle.call_log.specs.Notes.{GotRange}
use Rattle.call_log.specs.Lines.{joined, sent_text, got_text}
use Rattle.call_log.specs.Numbers as numbers
use Rattle.items_text.specs.declared.heads.CallHead.{CallHead}
use Rattle.items_text.specs.Items.{ItemValue, IsItem, HoldsGot, HoldsItem}
use Rattle.items_text.specs.Lines.{item_line}
use Rattle.items_text.specs.Pieces.{behind, cut_at, number_at, bytes_at}
use Rattle.items_text.specs.Reading.{head_text, head_at, range_of, ranges_at, may_bring, item_from, item_at}
use Rattle.items_text.proofs.Cuts.{lacks_by, bind_some, bind_is, by_test, behind_found, behind_again}
use Rattle.items_text.proofs.Fronts.{HoldsHead, head_again, head_found}
use Rattle.items_text.proofs.Many.{Consumes}
use Rattle.items_text.proofs.Ranges.{IsRange, ranges_onto, got_onto, no_range, ranges_again, ranges_found}
use Rattle.items_text.proofs.Strings.{joined_onto, bytes_again, bytes_found, cut_longer, line_end, word_end}

-- an item that has a text
abbrev pub IsHeldItem : ItemValue → Type 0
IsHeldItem i = HoldsItem i × IsItem i

both_of : (ws : List GotRange) → AllByRecursion HoldsGot ws → AllByRecursion (λ (w : GotRange). w.bytes ≢ []) ws → AllByRecursion IsRange ws
both_of [] held some = tt
both_of (w ∷ ws) held some = ((held.0, some.0), both_of ws held.1 some.1)

held_of : (ws : List GotRange) → AllByRecursion IsRange ws → AllByRecursion HoldsGot ws
held_of [] all = tt
held_of (w ∷ ws) all = (all.0.0, held_of ws all.1)

some_of : (ws : List GotRange) → AllByRecursion IsRange ws → AllByRecursion (λ (w : GotRange). w.bytes ≢ []) ws
some_of [] all = tt
some_of (w ∷ ws) all = (all.0.1, some_of ws all.1)

-- ---- what was brought

brings : (call : ℕ) (brought : List ℕ) → (call ≢ numbers.mmap2 → brought ≡ []) → may_bring call brought ≡ true
brings call [] h = refl
brings call (b ∷ bs) h = elim (cases_Bool (call == numbers.mmap2)) [
  | inl is ↦ is
  | inr other ↦ let none : b ∷ bs ≡ [] = h (eqb-false call numbers.mmap2 other) in absurd cc
]

brought_by : (call : ℕ) (brought : List ℕ) → may_bring call brought ≡ true → call ≢ numbers.mmap2 → brought ≡ []
brought_by call [] h other = refl
brought_by call (b ∷ bs) h other = absurd (other (eqb-true call numbers.mmap2 h))

-- ---- the line

brought_of : range_of (codes "brought") ≡ None
unfolding range_of number_at cut_at
brought_of = refl

abbrev head_of : ItemValue → CallHead
head_of i = record { pid = i.entry.pid; call = i.entry.call; args = i.entry.args; reply = i.entry.reply }

-- what stands behind the numbers
abbrev behind_head : ItemValue → List ℕ → List ℕ
behind_head i rest = sent_text i.entry.sent ++ 32 ∷ (codes "got " ++ ranges_onto i.entry.got (codes "brought " ++ (sent_text i.brought ++ 10 ∷ rest)))

line_is : (i : ItemValue) (rest : List ℕ) → item_line i ++ rest ≡ head_text (head_of i) ++ behind_head i rest
line_is i rest =
    joined_onto (head_text (head_of i) ∷ sent_text i.entry.sent ∷ codes " got" ∷ got_text i.entry.got ∷ codes " brought " ∷ sent_text i.brought ∷ codes "\n" ∷ []) rest
    ∙ ap (λ t. head_text (head_of i) ++ (sent_text i.entry.sent ++ 32 ∷ (codes "got" ++ t))) (got_onto i.entry.got (codes "brought " ++ (sent_text i.brought ++ 10 ∷ rest)))

pub item_again : (i : ItemValue) (rest : List ℕ) → IsHeldItem i → item_at (item_line i ++ rest) ≡ Some (i, rest)
unfolding item_at
item_again i rest is =
    let t3 : List ℕ = sent_text i.brought ++ 10 ∷ rest in
    let t2 : List ℕ = codes "brought " ++ t3 in
    let t1 : List ℕ = ranges_onto i.entry.got t2 in
    let held : HoldsHead (head_of i) = record { pid = is.0.pid; call = is.0.call; args = is.0.args; six = is.1.args; reply = is.0.reply } in
    let ranges = both_of i.entry.got is.0.got is.1.got in
    ap item_at (line_is i rest)
    ∙ bind_is (head_at (head_text (head_of i) ++ behind_head i rest)) _ (head_of i, behind_head i rest) (head_again (head_of i) (behind_head i rest) held)
    ∙ bind_is (bytes_at 32 (behind_head i rest)) _ (i.entry.sent, codes "got " ++ t1) (bytes_again 32 i.entry.sent (codes "got " ++ t1) word_end is.0.sent)
    ∙ bind_is (behind (codes "got ") (codes "got " ++ t1)) _ t1 (behind_again (codes "got ") t1)
    ∙ bind_is (ranges_at t1) _ (i.entry.got, t2) (ranges_again i.entry.got t2 ranges (no_range (codes "brought") t3 (lacks_by 32 (codes "brought") refl) brought_of))
    ∙ bind_is (behind (codes "brought ") t2) _ t3 (behind_again (codes "brought ") t3)
    ∙ bind_is (bytes_at 10 t3) _ (i.brought, rest) (bytes_again 10 i.brought rest line_end is.0.brought)
    ∙ ap (λ (b : Bool). cond b (Some (i, rest)) None) (brings i.entry.call i.brought is.1.brought)

pub item_found : (text rest : List ℕ) (i : ItemValue) → item_at text ≡ Some (i, rest) → IsHeldItem i × (text ≡ item_line i ++ rest)
unfolding item_at
item_found text rest i h =
    let head = bind_some (head_at text) _ (i, rest) h in
    let sent = bind_some (bytes_at 32 head.0.1) _ (i, rest) head.2 in
    let left = bind_some (behind (codes "got ") sent.0.1) _ (i, rest) sent.2 in
    let got = bind_some (ranges_at left.0) _ (i, rest) left.2 in
    let more = bind_some (behind (codes "brought ") got.0.1) _ (i, rest) got.2 in
    let brought = bind_some (bytes_at 10 more.0) _ (i, rest) more.2 in
    let found : ItemValue = item_from head.0.0 sent.0.0 got.0.0 brought.0.0 in
    let test = by_test (may_bring head.0.0.call brought.0.0) (found, brought.0.1) (i, rest) brought.2 in
    let f_head = head_found text head.0.0 head.0.1 head.1 in
    let f_sent = bytes_found 32 head.0.1 sent.0.0 sent.0.1 sent.1 in
    let f_got = ranges_found left.0 got.0.0 got.0.1 got.1 in
    let f_brought = bytes_found 10 more.0 brought.0.0 brought.0.1 brought.1 in
    let t2 : left.0 ≡ ranges_onto got.0.0 (codes "brought " ++ (sent_text brought.0.0 ++ 10 ∷ brought.0.1)) =
    f_got.1 ∙ ap (ranges_onto got.0.0) (behind_found (codes "brought ") got.0.1 more.0 more.1 ∙ ap (λ t. codes "brought " ++ t) f_brought.1) in
    let t1 : head.0.1 ≡ behind_head found brought.0.1 =
    f_sent.1 ∙ ap (λ t. sent_text sent.0.0 ++ 32 ∷ t) (behind_found (codes "got ") sent.0.1 left.0 left.1 ∙ ap (λ t. codes "got " ++ t) t2) in
    let whole : text ≡ item_line found ++ brought.0.1 =
    f_head.1 ∙ ap (λ t. head_text head.0.0 ++ t) t1 ∙ sym (line_is found brought.0.1) in
    let is : IsHeldItem found = (
      record { pid = f_head.0.pid; call = f_head.0.call; args = f_head.0.args; sent = f_sent.0; reply = f_head.0.reply; got = held_of got.0.0 f_got.0; brought = f_brought.0 },
      record { args = f_head.0.six; got = some_of got.0.0 f_got.0; brought = brought_by head.0.0.call brought.0.0 test.0 },
    ) in
    subst (λ (p : ItemValue × List ℕ). IsHeldItem p.0 × (text ≡ item_line p.0 ++ p.1)) test.1 (is, whole)

-- the line's end stands behind more
pub item_less : Consumes item_at
item_less text rest i h =
    let found = item_found text rest i h in
    let front : List ℕ = joined (head_text (head_of i) ∷ sent_text i.entry.sent ∷ codes " got" ∷ got_text i.entry.got ∷ codes " brought " ∷ sent_text i.brought ∷ []) in
    let line : text ≡ front ++ 10 ∷ rest =
    found.1
    ∙ joined_onto (head_text (head_of i) ∷ sent_text i.entry.sent ∷ codes " got" ∷ got_text i.entry.got ∷ codes " brought " ∷ sent_text i.brought ∷ codes "\n" ∷ []) rest
    ∙ sym (joined_onto (head_text (head_of i) ∷ sent_text i.entry.sent ∷ codes " got" ∷ got_text i.entry.got ∷ codes " brought " ∷ sent_text i.brought ∷ []) (10 ∷ rest)) in
    cut_longer 10 front text rest line

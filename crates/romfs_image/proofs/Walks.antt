-- One step of the walk.
use Rattle.std.proofs.Common.{◌≡◌, ℕ, suc, ◌+◌, ◌-◌, ◌<◌, ◌≤◌, false, nat_lt, nat_eq, List, [], ◌∷◌, ◌++◌, length, refl, sym, ap, ◌∙◌, arith, inl, inr}
use Rattle.std.specs.Prelude.{None, Some, Err, reverse}
use Rattle.std.specs.List.{list_any}
use Rattle.std.proofs.lemmas.Bool.{ltb-false, or_cases, cases_Bool, eqb-true, ne_eqb, and_parts}
use Rattle.std.proofs.lemmas.List.{reverse-append}
use Rattle.std.proofs.lemmas.List.Folds.{list_any-append}
use Rattle.romfs_image.specs.declared.fault.RomFault.{RomFault}
use Rattle.romfs_image.specs.declared.fault.RomFault.TheVariants as fault
use Rattle.romfs_image.specs.declared.level.Level.{Level}
use Rattle.romfs_image.specs.Header.{Header, name_end, header_at}
use Rattle.romfs_image.specs.Fault.{is_node, header_fault}
use Rattle.romfs_image.specs.Walk.{Entry, pending, levels_behind, entries_behind, repeat_fault, or_else, unless, fault_at, walk, walked}
use Rattle.romfs_image.specs.Reading.{is_file_at, FilesFit}

-- the words of a header without a fault lie in the image
pub words_fit : (y : List ℕ) (before at : ℕ) → header_fault y before at ≡ None → at + 16 ≤ length y
unfolding header_fault name_end
words_fit y before at none =
    elim (cases_Bool (nat_lt (length y) (name_end y at))) [
      | inl past ↦ let some : header_fault y before at ≡ Some fault.Header = rw past refl in absurd (cc)
      | inr within ↦ let fits : name_end y at ≤ length y = ltb-false (length y) (name_end y at) within in omega arith
    ]

pub one_left : (n k : ℕ) → k < n → n - k ≡ suc (n - (k + 1))
one_left n k lt = omega arith

pub last_first : (levels rest : List Level) (level : Level) → levels ≡ rest ++ level ∷ [] → reverse levels ≡ level ∷ reverse rest
last_first levels rest level is = ap reverse is ∙ reverse-append rest (level ∷ [])

pub walk_stopped : (n : ℕ) (y : List ℕ) (before : ℕ) (level : Level) (levels : List Level) (entries : List Entry) (f : RomFault)
    → fault_at y before level entries ≡ Some f → walk (suc n) y before (level ∷ levels) entries ≡ Err f
walk_stopped n y before level levels entries f is =
    ap (λ o. unless o (walk n y level.at (levels_behind (header_at y level.at) level.folder (length entries + 1) levels) (entries_behind (header_at y level.at) level entries))) is

pub walk_taken : (n : ℕ) (y : List ℕ) (before : ℕ) (level : Level) (levels : List Level) (entries : List Entry)
    → fault_at y before level entries ≡ None
    → walk (suc n) y before (level ∷ levels) entries ≡ walk n y level.at (levels_behind (header_at y level.at) level.folder (length entries + 1) levels) (entries_behind (header_at y level.at) level entries)
walk_taken n y before level levels entries is =
    ap (λ o. unless o (walk n y level.at (levels_behind (header_at y level.at) level.folder (length entries + 1) levels) (entries_behind (header_at y level.at) level entries))) is

-- the walk where a level is taken from the end of a list
pub at_last : (y : List ℕ) (k before : ℕ) (levels rest : List Level) (level : Level) (entries : List Entry) → k < length y → levels ≡ rest ++ level ∷ []
    → walk (length y - k) y before (reverse levels) entries ≡ walked y → walk (suc (length y - (k + 1))) y before (level ∷ reverse rest) entries ≡ walked y
at_last y k before levels rest level entries lt is all =
    sym (ap (λ n. walk n y before (level ∷ reverse rest) entries) (one_left (length y) k lt)) ∙ sym (ap (λ ls. walk (length y - k) y before ls entries) (last_first levels rest level is)) ∙ all

pub no_fault : (y : List ℕ) (before : ℕ) (level : Level) (entries : List Entry) (h : Header) → h ≡ header_at y level.at → header_fault y before level.at ≡ None
    → repeat_fault level.folder h entries ≡ None → fault_at y before level entries ≡ None
no_fault y before level entries h is sound new =
    ap (λ o. or_else o (repeat_fault level.folder (header_at y level.at) entries)) sound ∙ ap (λ g. repeat_fault level.folder g entries) (sym is) ∙ new

pub second_fault : (y : List ℕ) (before : ℕ) (level : Level) (entries : List Entry) (h : Header) (f : RomFault) → h ≡ header_at y level.at → header_fault y before level.at ≡ None
    → repeat_fault level.folder h entries ≡ Some f → fault_at y before level entries ≡ Some f
second_fault y before level entries h f is sound old =
    ap (λ o. or_else o (repeat_fault level.folder (header_at y level.at) entries)) sound ∙ ap (λ g. repeat_fault level.folder g entries) (sym is) ∙ old

pub first_fault : (y : List ℕ) (before : ℕ) (level : Level) (entries : List Entry) (f : RomFault) → header_fault y before level.at ≡ Some f → fault_at y before level entries ≡ Some f
first_fault y before level entries f is = ap (λ o. or_else o (repeat_fault level.folder (header_at y level.at) entries)) is

-- one more entry, whose words lie in the image
files_more : (y : List ℕ) (entries : List Entry) (e : Entry) → e.at + 16 ≤ length y → FilesFit y entries → FilesFit y (entries ++ e ∷ [])
unfolding is_file_at
files_more y entries e fits fit = λ at found. elim (or_cases (list_any (is_file_at at) entries) (list_any (is_file_at at) (e ∷ [])) (sym (list_any-append (is_file_at at) entries (e ∷ [])) ∙ found)) [
  | inl early ↦ fit at early
  | inr here ↦ elim (or_cases (is_file_at at e) false here) [
    | inl is ↦ let same : e.at ≡ at = eqb-true e.at at ((and_parts (nat_eq e.at at) (nat_eq e.header.kind 2) is).0) in omega (arith, same)
    | inr nothing ↦ absurd cc
  ]
]

pub fit_behind : (y : List ℕ) (h : Header) (level : Level) (entries : List Entry) → level.at + 16 ≤ length y → FilesFit y entries → FilesFit y (entries_behind h level entries)
fit_behind y h level entries fits fit = elim (cases_Bool (is_node h)) [
  | inl node ↦ rw node (files_more y entries (record { folder = level.folder; at = level.at; header = h }) fits fit)
  | inr passed ↦ rw passed fit
]

pub walk_begins : (y : List ℕ) (start : ℕ) (levels : List Level) (entries : List Entry) → start ≡ name_end y 0 → 32 ≤ start → levels ≡ pending start 0 [] → entries ≡ []
    → walk (length y - 0) y 0 levels entries ≡ walked y
unfolding walked
walk_begins y start levels entries is some all none =
    rw (all, none, ne_eqb start 0 (λ e. absurd (omega (arith, e)))) (ap (λ n. walk n y 0 (record { at = start; folder = 0 } ∷ []) []) (let e : length y - 0 ≡ length y = omega arith in e)
    ∙ ap (λ at. walk (length y) y 0 (record { at = at; folder = 0 } ∷ []) []) is)

pub files_none : (y : List ℕ) (entries : List Entry) → entries ≡ [] → FilesFit y entries
files_none y entries none = rw none (λ at there. absurd cc)

-- where the header that the walk takes has a fault, the walk ends with it
pub stopped : (y : List ℕ) (k before : ℕ) (levels rest : List Level) (level : Level) (entries : List Entry) (f : RomFault) → k < length y → levels ≡ rest ++ level ∷ []
    → walk (length y - k) y before (reverse levels) entries ≡ walked y → fault_at y before level entries ≡ Some f → walked y ≡ Err f
stopped y k before levels rest level entries f lt is all bad =
    sym (at_last y k before levels rest level entries lt is all) ∙ walk_stopped (length y - (k + 1)) y before level (reverse rest) entries f bad

-- else it goes on behind the header
pub taken_on : (y : List ℕ) (k before : ℕ) (levels rest : List Level) (level : Level) (entries : List Entry) (h : Header) (number : ℕ) (levels_then : List Level) (entries_then : List Entry)
    → k < length y → levels ≡ rest ++ level ∷ [] → walk (length y - k) y before (reverse levels) entries ≡ walked y → h ≡ header_at y level.at → fault_at y before level entries ≡ None
    → number ≡ length entries + 1 → levels_then ≡ levels_behind h level.folder number (reverse rest) → entries_then ≡ entries_behind h level entries
    → walk (length y - (k + 1)) y level.at levels_then entries_then ≡ walked y
taken_on y k before levels rest level entries h number levels_then entries_then lt is all same good count ls es =
    ap (λ l. walk (length y - (k + 1)) y level.at l entries_then) (ls ∙ ap (λ n. levels_behind h level.folder n (reverse rest)) count ∙ ap (λ g. levels_behind g level.folder (length entries + 1) (reverse rest)) same)
    ∙ ap (λ e. walk (length y - (k + 1)) y level.at (levels_behind (header_at y level.at) level.folder (length entries + 1) (reverse rest)) e) (es ∙ ap (λ g. entries_behind g level entries) same)
    ∙ sym (walk_taken (length y - (k + 1)) y before level (reverse rest) entries good)
    ∙ at_last y k before levels rest level entries lt is all

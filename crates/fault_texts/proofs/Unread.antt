-- The faults of a file that can't be read: of its header or of its section headers, and of no entry.
use Rattle.std.proofs.Common.{◌≡◌, ◌∙◌, ℕ, ◌<◌, ◌+◌, inl, inr, Bool, true, false, List, [], ◌∷◌, ◌++◌, map, take, length, slice_get, Option, Some, None, refl, sym, ap, subst, arith}
use Rattle.std.specs.Prelude.{codes, decimal}
use Rattle.std.specs.List.{flat_map, range_with_len, AllByRecursion as Each}
use Rattle.std.specs.Option.{is_none, option_or}
use Rattle.std.proofs.lemmas.Bool.{cases_Bool}
use Rattle.std.proofs.lemmas.List.{append-nil, append_assoc}
use Rattle.elf32_reader.specs.declared.fault.ElfFault.{ElfFault}
use Rattle.elf32_reader.specs.Header.{count_of}
use Rattle.elf32_reader.specs.Faults.{header_fault, section_fault, elf_fault}
use Rattle.elf32_reader.specs.Heads as heads
use Rattle.elf2flt_tool.specs.declared.fault.Fault.{Fault}
use Rattle.elf2flt_tool.specs.Faults.{elf_in, row_of, section_faults, sections_with, faults}
use Rattle.elf2flt_tool.proofs.Members.{each-map, each-range, each-weaker}
use Rattle.elf2flt_tool.proofs.NotedSteps.{header_only, sections_only, section_list, faults_unread}
use Rattle.fault_texts.specs.Lines.{fault_line}
use Rattle.fault_texts.specs.Counts.{counts_of, kind_lines}
use Rattle.fault_texts.specs.InFile.{IsOfHeads, AreOfHeads}
use Rattle.fault_texts.specs.Listing.{most_lines, faulty_entries, listing}
use Rattle.fault_texts.proofs.Elements.{each_there, each_kept, there_taken}

-- ---- which they are

pub header_is : (e : List ℕ) (f : ElfFault) → elf_fault e ≡ Some f → false ≡ is_none (header_fault e) → header_fault e ≡ Some f
unfolding elf_fault
header_is e f is none = by (header_fault e) is none
  where
    by : (o : Option ElfFault) → option_or o (section_fault e) ≡ Some f → false ≡ is_none o → o ≡ Some f
    by None is none = absurd cc
    by (Some g) is none = is

of_header : (e : List ℕ) (f : ElfFault) (fs : List Fault) → elf_fault e ≡ Some f → fs ≡ faults e → false ≡ is_none (header_fault e) → fs ≡ elf_in f 0 ∷ []
of_header e f fs is are none = are ∙ sym (faults_unread e f is) ∙ sym (header_only e f is none)

of_heads : (e : List ℕ) (f : ElfFault) (fs : List Fault) → elf_fault e ≡ Some f → fs ≡ faults e → true ≡ is_none (header_fault e) → fs ≡ section_faults e (Some f)
of_heads e f fs is are none = are ∙ sym (faults_unread e f is) ∙ sym (section_list e f is none)

sections_in : (e : List ℕ) (f : ElfFault) → section_fault e ≡ Some f → Each (IsOfHeads e) (section_faults e (Some f))
sections_in e f is =
    let test : ℕ → Bool = heads.row_holds (row_of f) e in
    let all : Each (λ i. i < count_of e) (range_with_len 0 (count_of e)) = each-range (λ i. i < count_of e) 0 (count_of e) (λ i low high. omega arith) in
    each-map (IsOfHeads e) (elf_in f) (sections_with test e)
    (each-weaker (λ i. i < count_of e) (λ i. IsOfHeads e (elf_in f i)) (λ i below. (is, below)) (sections_with test e)
    (each_kept (λ i. i < count_of e) test (range_with_len 0 (count_of e)) all))

-- those of section headers that are written
pub heads_in : (d e : List ℕ) (f : ElfFault) (fs gs : List Fault) → d ≡ e → elf_fault e ≡ Some f → fs ≡ faults e → true ≡ is_none (header_fault e) → gs ≡ take most_lines fs
    → AreOfHeads d gs
heads_in d e f fs gs same is are none written k g there =
    let all : Each (IsOfHeads e) fs = subst (Each (IsOfHeads e)) (sym (of_heads e f fs is are none)) (sections_in e f (sections_only e f is none)) in
    subst (λ (b : List ℕ). IsOfHeads b g) (sym same)
    (each_there (IsOfHeads e) fs all k g (there_taken most_lines fs k g (subst (λ (hs : List Fault). slice_get hs k ≡ Some g) written there)))

-- ---- their text

no_entry : (f : ElfFault) (is : List ℕ) → faulty_entries (map (elf_in f) is) ≡ []
no_entry f [] = refl
no_entry f (i ∷ is) = no_entry f is

no_entries : (e : List ℕ) (f : ElfFault) (fs : List Fault) → elf_fault e ≡ Some f → fs ≡ faults e → faulty_entries fs ≡ []
no_entries e f fs is are = elim (cases_Bool (is_none (header_fault e))) [
  | inl none ↦ ap faulty_entries (of_heads e f fs is are (sym none)) ∙ no_entry f (sections_with (heads.row_holds (row_of f) e) e)
  | inr some ↦ ap faulty_entries (of_header e f fs is are (sym some)) ∙ no_entry f (0 ∷ [])
]

abbrev pub numbers : List Fault → List ℕ
numbers fs = kind_lines fs ++ (codes "faults " ++ (decimal (length fs) ++ codes "\n"))

no_counts : (e : List ℕ) (fs : List Fault) → faulty_entries fs ≡ [] → listing e fs ≡ flat_map (fault_line e) (take most_lines fs) ++ numbers fs
unfolding listing counts_of
no_counts e fs none = rw none refl

pub heads_listed : (e : List ℕ) (f : ElfFault) (fs : List Fault) → elf_fault e ≡ Some f → fs ≡ faults e → listing e fs ≡ flat_map (fault_line e) (take most_lines fs) ++ numbers fs
heads_listed e f fs is are = no_counts e fs (no_entries e f fs is are)

pub header_listed : (e : List ℕ) (f : ElfFault) (fs : List Fault) → elf_fault e ≡ Some f → fs ≡ faults e → false ≡ is_none (header_fault e)
    → listing e fs ≡ fault_line e (elf_in f 0) ++ numbers fs
header_listed e f fs is are none =
    heads_listed e f fs is are
    ∙ ap (λ (gs : List Fault). flat_map (fault_line e) (take most_lines gs) ++ numbers fs) (of_header e f fs is are none)
    ∙ one (fault_line e (elf_in f 0))
  where
    one : (text : List ℕ) → (text ++ []) ++ numbers fs ≡ text ++ numbers fs
    one text = simp append-nil

abbrev pub with_numbers : List ℕ → List Fault → List ℕ
with_numbers text fs = (((text ++ kind_lines fs) ++ codes "faults ") ++ decimal (length fs)) ++ codes "\n"

regroup : (a b c d e : List ℕ) → (((a ++ b) ++ c) ++ d) ++ e ≡ a ++ (b ++ (c ++ (d ++ e)))
regroup a b c d e = simp append_assoc

grouped : (text : List ℕ) (fs : List Fault) → with_numbers text fs ≡ text ++ numbers fs
grouped text fs = regroup text (kind_lines fs) (codes "faults ") (decimal (length fs)) (codes "\n")

-- behind the lines of section headers
pub heads_text : (d e : List ℕ) (f : ElfFault) (fs gs : List Fault) (old new : List ℕ) → d ≡ e → elf_fault e ≡ Some f → fs ≡ faults e → gs ≡ take most_lines fs
    → new ≡ old ++ flat_map (fault_line d) gs → with_numbers new fs ≡ old ++ listing e fs
heads_text d e f fs gs old new same is are written text =
    grouped new fs
    ∙ ap (λ (t : List ℕ). t ++ numbers fs) (text ∙ ap (λ (b : List ℕ). old ++ flat_map (fault_line b) gs) same ∙ ap (λ (hs : List Fault). old ++ flat_map (fault_line e) hs) written)
    ∙ behind old (flat_map (fault_line e) (take most_lines fs)) (numbers fs)
    ∙ ap (λ (t : List ℕ). old ++ t) (sym (heads_listed e f fs is are))
  where
    behind : (a b c : List ℕ) → (a ++ b) ++ c ≡ a ++ (b ++ c)
    behind a b c = simp append_assoc

-- and behind that of the header
pub header_text : (e : List ℕ) (f : ElfFault) (fs : List Fault) (old new : List ℕ) → elf_fault e ≡ Some f → fs ≡ faults e → false ≡ is_none (header_fault e)
    → new ≡ old ++ fault_line e (elf_in f 0) → with_numbers new fs ≡ old ++ listing e fs
header_text e f fs old new is are none text =
    grouped new fs
    ∙ ap (λ (t : List ℕ). t ++ numbers fs) text
    ∙ behind old (fault_line e (elf_in f 0)) (numbers fs)
    ∙ ap (λ (t : List ℕ). old ++ t) (sym (header_listed e f fs is are none))
  where
    behind : (a b c : List ℕ) → (a ++ b) ++ c ≡ a ++ (b ++ c)
    behind a b c = simp append_assoc

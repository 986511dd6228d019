use Rattle.std.proofs.Common.{◌≡◌, ℕ, ◌<◌, List, [], ◌∷◌, length, map, refl, sym, ap, ◌∙◌, arith}
use Rattle.std.proofs.lemmas.List.{length-append}
use Rattle.std.proofs.lemmas.Result.{IfOk-weaker}
use Rattle.elf_maker.specs.declared.given.Part.{Part}
use Rattle.elf_maker.specs.declared.given.MakeSymbol.{MakeSymbol}
use Rattle.elf_maker.specs.declared.given.MakeRela.{MakeRela}
use Rattle.elf_maker.specs.Given.{IsPart, total}
use Rattle.elf_maker.specs.Spelling.{words_text}
use Rattle.elf_maker.specs.Values.{PartValue, SymbolValue, part_value, symbol_value, file_bytes}
use Rattle.elf_maker.specs.Demo.{text_start, text_part, data_part, letter_symbol, pair_symbol, loop_symbol, demo_relas, demo_file}
use Rattle.elf_maker.proofs.programs.demo.Goals as goal

kind_is : (p : Part) (v : PartValue) → part_value p ≡ v → p.kind ≡ v.kind
kind_is p v e = ap (λ (x : PartValue). x.kind) e

size_is : (p : Part) (v : PartValue) → part_value p ≡ v → p.size ≡ v.size
size_is p v e = ap (λ (x : PartValue). x.size) e

bytes_are : (p : Part) (v : PartValue) → part_value p ≡ v → p.bytes.items ≡ v.bytes
bytes_are p v e = ap (λ (x : PartValue). x.bytes) e

name_is : (s : MakeSymbol) (v : SymbolValue) → symbol_value s ≡ v → s.name.items ≡ v.name
name_is s v e = ap (λ (x : SymbolValue). x.name) e

-- a part with all its bytes
stored_part : (p : Part) (v : PartValue) → part_value p ≡ v → v.kind ≡ 1 → length v.bytes ≡ v.size → IsPart p
stored_part p v e kind size =
    let kind_one : p.kind ≡ 1 = kind_is p v e ∙ kind in
    let sized : length p.bytes.items ≡ p.size = ap length (bytes_are p v e) ∙ size ∙ (sym (size_is p v e)) in
    record {
      not_null = λ zero. absurd (omega arith);
      not_symtab = λ two. absurd (omega arith);
      rela = λ four. absurd (omega arith);
      rel = λ nine. absurd (omega arith);
      stored = λ _. sized;
      nobits = λ eight. absurd (omega arith);
    }

text_len : (i : ℕ) → length (text_part i).bytes ≡ 48
unfolding words_text
text_len i = refl

data_len : (i : ℕ) → length (data_part i).bytes ≡ 8
unfolding words_text
data_len i = refl

pub make-requires-clause-parts : goal.make-requires-clause-parts
make-requires-clause-parts c = (
  stored_part c.in_ok-text.text (text_part c.args.i) c.in_ok-text.ensures.value refl (text_len c.args.i),
  (stored_part c.in_ok-data.data (data_part c.args.i) c.in_ok-data.ensures.value refl (data_len c.args.i), tt),
)

few : (text stored : Part) (letter pair begin : MakeSymbol)
    → length text.bytes.items ≡ 48 → length stored.bytes.items ≡ 8
    → length letter.name.items ≡ 6 → length pair.name.items ≡ 4 → length begin.name.items ≡ 4
    → total (text ∷ stored ∷ []) (letter ∷ pair ∷ begin ∷ []) < 16777216
few text stored letter pair begin t d l p b = grind (arith, length-append)

pub make-requires-clause-few_bytes : goal.make-requires-clause-few_bytes
make-requires-clause-few_bytes c =
    few c.in_ok-text.text c.in_ok-data.data c.in_ok-letter.letter c.in_ok-pair.pair c.in_ok-begin.begin
    (ap length (bytes_are c.in_ok-text.text (text_part c.args.i) c.in_ok-text.ensures.value) ∙ text_len c.args.i)
    (ap length (bytes_are c.in_ok-data.data (data_part c.args.i) c.in_ok-data.ensures.value) ∙ data_len c.args.i)
    (ap length (name_is c.in_ok-letter.letter letter_symbol c.in_ok-letter.ensures))
    (ap length (name_is c.in_ok-pair.pair pair_symbol c.in_ok-pair.ensures))
    (ap length (name_is c.in_ok-begin.begin loop_symbol c.in_ok-begin.ensures))

these : (i : ℕ) (text stored : Part) (letter pair begin : MakeSymbol) (high low branch word : MakeRela) (bytes : List ℕ)
    → bytes ≡ file_bytes (map part_value (text ∷ stored ∷ [])) (map symbol_value (letter ∷ pair ∷ begin ∷ [])) (high ∷ low ∷ branch ∷ word ∷ []) text_start
    → part_value text ≡ text_part i → part_value stored ≡ data_part i
    → symbol_value letter ≡ letter_symbol → symbol_value pair ≡ pair_symbol → symbol_value begin ≡ loop_symbol
    → (high ∷ low ∷ branch ∷ word ∷ []) ≡ demo_relas
    → bytes ≡ demo_file i
unfolding demo_file
these i text stored letter pair begin high low branch word bytes is t d l p b r = cc

four : (a b c d w x y z : MakeRela) → w ≡ a → x ≡ b → y ≡ c → z ≡ d → (w ∷ x ∷ y ∷ z ∷ []) ≡ (a ∷ b ∷ c ∷ d ∷ [])
four a b c d w x y z e f g h = cc

pub returns-clause-bytes : goal.returns-clause-bytes
returns-clause-bytes c =
    let relas = four _ _ _ _ _ _ _ _ c.rela.ensures c.rela-2.ensures c.rela-3.ensures c.rela-4.ensures in
    IfOk-weaker c.make.result _ _ (λ file is.
    these c.args.i c.in_ok-text.text c.in_ok-data.data c.in_ok-letter.letter c.in_ok-pair.pair c.in_ok-begin.begin
    c.rela.result c.rela-2.result c.rela-3.result c.rela-4.result file.items is
    c.in_ok-text.ensures.value c.in_ok-data.ensures.value c.in_ok-letter.ensures c.in_ok-pair.ensures c.in_ok-begin.ensures relas) c.make.ensures.bytes

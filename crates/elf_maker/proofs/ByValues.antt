-- The bytes of a file are those of the values that it was given.
use Rattle.std.proofs.Common.{◌≡◌, ℕ, ◌+◌, List, [], ◌∷◌, ◌++◌, length, map, refl, sym, ap, ◌∙◌}
use Rattle.std.specs.List.{flat_map}
use Rattle.std.proofs.lemmas.List.{length-map}
use Rattle.elf_maker.specs.declared.given.Part.{Part}
use Rattle.elf_maker.specs.declared.given.MakeSymbol.{MakeSymbol}
use Rattle.elf_maker.specs.declared.given.MakeRela.{MakeRela}
use Rattle.elf_maker.specs.Spelling.{Item, part_item, part_header, symbol_text, symbols_text, name_text, symtab_text, strtab_text, table_item, relas_items, relas_texts, all_items, spelled, file_text, null_section, placed, contents, no_symbol}
use Rattle.elf_maker.specs.Values.{part_value, symbol_value, item_of, name_bytes, symbol_bytes, symbols_bytes, symtab_bytes, strtab_bytes, items_of, file_bytes}

parts_are : (parts : List Part) → map part_item parts ≡ map item_of (map part_value parts)
unfolding part_header
parts_are [] = refl
parts_are (p ∷ parts) = ap (λ items. part_item p ∷ items) (parts_are parts)

symbol_is : (at : ℕ) (s : MakeSymbol) → symbol_text at s ≡ symbol_bytes at (symbol_value s)
unfolding symbol_text symbol_bytes
symbol_is at s = refl

symbols_are : (at : ℕ) (symbols : List MakeSymbol) → symbols_text at symbols ≡ symbols_bytes at (map symbol_value symbols)
symbols_are at [] = refl
symbols_are at (s ∷ symbols) =
    ap (λ text. text ++ symbols_text (at + length (name_text s)) symbols) (symbol_is at s)
    ∙ ap (λ rest. symbol_bytes at (symbol_value s) ++ rest) (symbols_are (at + length (name_text s)) symbols)

symtab_is : (symbols : List MakeSymbol) → symtab_text symbols ≡ symtab_bytes (map symbol_value symbols)
unfolding symtab_text
symtab_is symbols = ap (λ text. no_symbol ++ text) (symbols_are 1 symbols)

names_are : (symbols : List MakeSymbol) → flat_map name_text symbols ≡ flat_map name_bytes (map symbol_value symbols)
names_are [] = refl
names_are (s ∷ symbols) = ap (λ rest. name_text s ++ rest) (names_are symbols)

strtab_is : (symbols : List MakeSymbol) → strtab_text symbols ≡ strtab_bytes (map symbol_value symbols)
unfolding strtab_text
strtab_is symbols = ap (λ text. 0 ∷ text) (names_are symbols)

tail_of : (n : ℕ) (symtab strtab : List ℕ) (relas : List MakeRela) → List Item
tail_of n symtab strtab relas =
    table_item 2 symtab (n + 2) 1 16 ∷ table_item 3 strtab 0 0 0 ∷ relas_items (n + 1) 0 (relas_texts n relas)

items_are : (parts : List Part) (symbols : List MakeSymbol) (relas : List MakeRela)
    → all_items parts symbols relas ≡ items_of (map part_value parts) (map symbol_value symbols) relas
unfolding all_items items_of tail_of
items_are parts symbols relas =
    ap (λ items. items ++ tail_of (length parts) (symtab_text symbols) (strtab_text symbols) relas) (parts_are parts)
    ∙ ap (λ text. map item_of (map part_value parts) ++ tail_of (length parts) text (strtab_text symbols) relas) (symtab_is symbols)
    ∙ ap (λ text. map item_of (map part_value parts) ++ tail_of (length parts) (symtab_bytes (map symbol_value symbols)) text relas) (strtab_is symbols)
    ∙ ap (λ n. map item_of (map part_value parts) ++ tail_of n (symtab_bytes (map symbol_value symbols)) (strtab_bytes (map symbol_value symbols)) relas) (sym (length-map parts part_value))

pub spelled_is : (parts : List Part) (symbols : List MakeSymbol) (relas : List MakeRela) (entry : ℕ)
    → spelled parts symbols relas entry ≡ file_bytes (map part_value parts) (map symbol_value symbols) relas entry
unfolding spelled file_bytes
spelled_is parts symbols relas entry = ap (λ items. file_text entry (null_section ∷ placed 52 items) (contents items)) (items_are parts symbols relas)

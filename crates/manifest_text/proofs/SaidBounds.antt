-- What a line says is bounded.
use Rattle.std.proofs.Common.{◌≡◌, ℕ, zero, suc, ◌+◌, ◌-◌, ◌^◌, ◌<◌, ◌≤◌, Bool, true, false, cond, List, [], ◌∷◌, map, Option, Some, None, Result, Ok, Err, refl, sym, arith, lit≤}
use Rattle.std.specs.Prelude.{not, ◌&&◌, ◌||◌, ◌==◌, nat_le, nat_lt, slice_index}
use Rattle.std.specs.List.{AllByRecursion, filter, list_all, list_any}
use Rattle.std.specs.Str.{IsAscii}
use Rattle.std.proofs.lemmas.Bool.Decides.{nat_tests}
use Rattle.manifest_text.specs.declared.fault.ManifestFault.{ManifestFault}
use Rattle.manifest_text.specs.declared.fault.ManifestFault.TheVariants.{BadByte, BadNumber, BadPath}
use Rattle.manifest_text.specs.declared.keyword.Keyword.{Keyword}
use Rattle.manifest_text.specs.declared.keyword.Keyword.TheVariants as keyword
use Rattle.manifest_text.specs.declared.manifest.ItemKind.{ItemKind}
use Rattle.manifest_text.specs.declared.manifest.ItemKind.TheVariants.{Elf, Flat, File, Dir, Stdin, Root}
use Rattle.manifest_text.specs.Pieces.{Text, in_front, pieces, space, is_empty, words}
use Rattle.manifest_text.specs.Numbers.{decimal_value, is_number, is_number_in, number_in, address, colon, is_pair, is_quantum, pair_value, quantum_value}
use Rattle.manifest_text.specs.Paths.{is_path}
use Rattle.manifest_text.specs.Lines.{Line, Said, nothing, memory, item, start, quanta, repeat, dump, watch, is_bad_byte, judged, item_said, stacked_said, memory_said, elf_said, flat_said, file_said, dir_said, named_said, start_said, quanta_said, repeat_said, dump_of, dump_said, watch_of, watch_said, keyword_said, keyword_of, hash, words_said, line_said}
use Rattle.manifest_text.specs.Laws.{HasStack, IsItem, HasClearPath, HasArgument, IsShort, IsWatch}

-- a word: its bytes are those of ASCII, and none is zero
record IsText (text : Text) : Type 0 where
  ascii : IsAscii text
  clear : list_all (λ b. not (b == 0)) text ≡ true

abbrev pub IsSaid : Said → Type 0
IsSaid nothing = Unit {0}
IsSaid (memory pages) = (1 ≤ pages) × (pages ≤ 16384)
IsSaid (item i) = IsItem i × HasClearPath i
IsSaid (start s) = HasArgument s
IsSaid (quanta qs) = AllByRecursion IsShort qs
IsSaid (repeat count) = count ≤ 1000000
IsSaid (dump d) = Unit {0}
IsSaid (watch w) = IsWatch w

abbrev pub Bounds : Result Said ManifestFault → Type 0
Bounds (Ok said) = IsSaid said
Bounds (Err fault) = Unit {0}

-- by a test
by_test : {R : Type 0} (P : R → Type 0) (b : Bool) (x y : R) → (b ≡ true → P x) → (b ≡ false → P y) → P (cond b x y)
by_test P true x y if_true if_false = if_true refl
by_test P false x y if_true if_false = if_false refl

-- one row
one_row : (b : Bool) (fault : ManifestFault) (said : Said) → (b ≡ false → IsSaid said) → Bounds (judged ((b, fault) ∷ []) said)
one_row true fault said is = tt
one_row false fault said is = is refl

not_false : (b : Bool) → not b ≡ false → b ≡ true
not_false true h = refl
not_false false h = sym h

both : (a b : Bool) → (a && b) ≡ true → (a ≡ true) × (b ≡ true)
both true true h = (refl, refl)
both true false h = absurd cc
both false b h = absurd cc

neither : (a b : Bool) → (a || b) ≡ false → (a ≡ false) × (b ≡ false)
neither false false h = (refl, refl)
neither false true h = absurd cc
neither true b h = absurd cc

-- ---- numbers

abbrev IsIn : ℕ → ℕ → ℕ → Type 0
IsIn least most n = (least ≤ n) × (n ≤ most)

bounded : (least most : ℕ) (text : Text) → is_number_in least most text ≡ true → IsIn least most (decimal_value text)
unfolding is_number_in
bounded least most text is =
    let p = both (is_number text && nat_le least (decimal_value text)) (nat_le (decimal_value text) most) is in
    let q = both (is_number text) (nat_le least (decimal_value text)) p.0 in
    let low : nat_le least (decimal_value text) ≡ true = q.1 in
    let high : nat_le (decimal_value text) most ≡ true = p.1 in
    (grind (arith, nat_tests), grind (arith, nat_tests))

abbrev IsInOption : ℕ → ℕ → Option ℕ → Type 0
IsInOption least most None = Unit {0}
IsInOption least most (Some n) = IsIn least most n

number_bounded : (least most : ℕ) (text : Text) → IsInOption least most (number_in least most text)
number_bounded least most text =
    by_test (IsInOption least most) (is_number_in least most text) (Some (decimal_value text)) None (bounded least most text) (λ no. tt)

-- ---- lines

item_bounded : (line : ℕ) (kind : ItemKind) (path name : Text) (stack : ℕ) → list_all (λ b. not (b == 0)) path ≡ true → IsAscii name → HasStack kind stack → Bounds (item_said line kind path name stack)
item_bounded line kind path name stack clear ascii has =
    one_row (not (is_path path)) BadPath (item (record { line = line; kind = kind; path = path; name = name; stack = stack })) (λ no. (record { name = ascii; stack = has }, clear))

stacked_bounded : (line : ℕ) (path name : Text) (o : Option ℕ) → list_all (λ b. not (b == 0)) path ≡ true → IsAscii name → IsInOption 16 1048576 o → Bounds (stacked_said line path name o)
stacked_bounded line path name None clear ascii is = tt
stacked_bounded line path name (Some stack) clear ascii is = item_bounded line Elf path name stack clear ascii is

elf_bounded : (line : ℕ) (args : List Text) → AllByRecursion IsText args → Bounds (elf_said line args)
unfolding elf_said
elf_bounded line [] all = tt
elf_bounded line (path ∷ []) all = tt
elf_bounded line (path ∷ name ∷ []) all = item_bounded line Elf path name 4096 all.0.clear all.1.0.ascii (lit≤ tt, lit≤ tt)
elf_bounded line (path ∷ name ∷ stack ∷ []) all = stacked_bounded line path name (number_in 16 1048576 stack) all.0.clear all.1.0.ascii (number_bounded 16 1048576 stack)
elf_bounded line (path ∷ name ∷ stack ∷ more ∷ rest) all = tt

flat_bounded : (line : ℕ) (args : List Text) → AllByRecursion IsText args → Bounds (flat_said line args)
unfolding flat_said
flat_bounded line [] all = tt
flat_bounded line (path ∷ []) all = tt
flat_bounded line (path ∷ name ∷ []) all = item_bounded line Flat path name 0 all.0.clear all.1.0.ascii refl
flat_bounded line (path ∷ name ∷ more ∷ rest) all = tt

file_bounded : (line : ℕ) (args : List Text) → AllByRecursion IsText args → Bounds (file_said line args)
unfolding file_said
file_bounded line [] all = tt
file_bounded line (path ∷ []) all = tt
file_bounded line (path ∷ name ∷ []) all = item_bounded line File path name 0 all.0.clear all.1.0.ascii refl
file_bounded line (path ∷ name ∷ more ∷ rest) all = tt

empty_ascii : IsAscii []
empty_ascii i = omega arith

dir_bounded : (line : ℕ) (args : List Text) → AllByRecursion IsText args → Bounds (dir_said line args)
unfolding dir_said
dir_bounded line [] all = tt
dir_bounded line (path ∷ []) all = item_bounded line Dir path [] 0 all.0.clear empty_ascii refl
dir_bounded line (path ∷ more ∷ rest) all = tt

named_bounded : (line : ℕ) (kind : ItemKind) (args : List Text) → HasStack kind 0 → AllByRecursion IsText args → Bounds (named_said line kind args)
unfolding named_said
named_bounded line kind [] has all = tt
named_bounded line kind (name ∷ []) has all = (record { name = all.0.ascii; stack = has }, refl)
named_bounded line kind (name ∷ more ∷ rest) has all = tt

memory_bounded : (args : List Text) → Bounds (memory_said args)
unfolding memory_said
memory_bounded [] = tt
memory_bounded (pages ∷ []) =
    one_row (not (is_number_in 1 16384 pages)) BadNumber (memory (decimal_value pages)) (λ no. bounded 1 16384 pages (not_false (is_number_in 1 16384 pages) no))
memory_bounded (pages ∷ more ∷ rest) = tt

start_bounded : (line : ℕ) (args : List Text) → Bounds (start_said line args)
unfolding start_said
start_bounded line [] = tt
start_bounded line (path ∷ args) = one_row (not (is_path path)) BadPath (start (record { line = line; args = path ∷ args })) (λ no. omega arith)

pair_bounded : (parts : List Text) → is_pair parts ≡ true → IsShort (pair_value parts)
pair_bounded [] is = absurd cc
pair_bounded (pick ∷ []) is = absurd cc
pair_bounded (pick ∷ count ∷ []) is = (bounded 1 1000000 count (both (is_number_in 0 (2 ^ 32 - 1) pick) (is_number_in 1 1000000 count) is).1).1
pair_bounded (pick ∷ count ∷ more ∷ rest) is = absurd cc

quanta_short : (qs : List Text) → list_all is_quantum qs ≡ true → AllByRecursion IsShort (map quantum_value qs)
unfolding is_quantum quantum_value
quanta_short [] is = tt
quanta_short (q ∷ qs) is =
    let p = both (is_quantum q) (list_all is_quantum qs) is in
    (pair_bounded (pieces colon q) p.0, quanta_short qs p.1)

quanta_bounded : (args : List Text) → Bounds (quanta_said args)
unfolding quanta_said
quanta_bounded [] = tt
quanta_bounded (q ∷ qs) =
    one_row (not (list_all is_quantum (q ∷ qs))) BadNumber (quanta (map quantum_value (q ∷ qs))) (λ no. quanta_short (q ∷ qs) (not_false (list_all is_quantum (q ∷ qs)) no))

repeat_bounded : (args : List Text) → Bounds (repeat_said args)
unfolding repeat_said
repeat_bounded [] = tt
repeat_bounded (count ∷ []) =
    one_row (not (is_number_in 1 1000000 count)) BadNumber (repeat (decimal_value count)) (λ no. (bounded 1 1000000 count (not_false (is_number_in 1 1000000 count) no)).1)
repeat_bounded (count ∷ more ∷ rest) = tt

dump_of_bounded : (pid addr len : Option ℕ) → Bounds (dump_of pid addr len)
dump_of_bounded None addr len = tt
dump_of_bounded (Some pid) None len = tt
dump_of_bounded (Some pid) (Some addr) None = tt
dump_of_bounded (Some pid) (Some addr) (Some len) = tt

dump_bounded : (args : List Text) → Bounds (dump_said args)
unfolding dump_said
dump_bounded [] = tt
dump_bounded (pid ∷ []) = tt
dump_bounded (pid ∷ addr ∷ []) = tt
dump_bounded (pid ∷ addr ∷ len ∷ []) = dump_of_bounded (number_in 1 1000000 pid) (address addr) (number_in 1 4096 len)
dump_bounded (pid ∷ addr ∷ len ∷ more ∷ rest) = tt

ends_in : (addr len : ℕ) → nat_lt (2 ^ 32) (addr + len) ≡ false → addr + len ≤ 2 ^ 32
ends_in addr len fits = grind (arith, nat_tests)

watch_of_bounded : (addr len : Option ℕ) → IsInOption 1 (2 ^ 32 - 1) len → Bounds (watch_of addr len)
watch_of_bounded None len is = tt
watch_of_bounded (Some addr) None is = tt
watch_of_bounded (Some addr) (Some len) is =
    one_row (nat_lt (2 ^ 32) (addr + len)) BadNumber (watch (record { addr = addr; len = len })) (λ no. record { some = is.0; ends = ends_in addr len no })

watch_bounded : (args : List Text) → Bounds (watch_said args)
unfolding watch_said
watch_bounded [] = tt
watch_bounded (addr ∷ []) = tt
watch_bounded (addr ∷ len ∷ []) = watch_of_bounded (address addr) (number_in 1 (2 ^ 32 - 1) len) (number_bounded 1 (2 ^ 32 - 1) len)
watch_bounded (addr ∷ len ∷ more ∷ rest) = tt

keyword_bounded : (line : ℕ) (k : Option Keyword) (args : List Text) → AllByRecursion IsText args → Bounds (keyword_said line k args)
unfolding keyword_said
keyword_bounded line None args all = tt
keyword_bounded line (Some keyword.Memory) args all = memory_bounded args
keyword_bounded line (Some keyword.Elf) args all = elf_bounded line args all
keyword_bounded line (Some keyword.Flat) args all = flat_bounded line args all
keyword_bounded line (Some keyword.File) args all = file_bounded line args all
keyword_bounded line (Some keyword.Dir) args all = dir_bounded line args all
keyword_bounded line (Some keyword.Stdin) args all = named_bounded line Stdin args refl all
keyword_bounded line (Some keyword.Root) args all = named_bounded line Root args refl all
keyword_bounded line (Some keyword.Start) args all = start_bounded line args
keyword_bounded line (Some keyword.Quanta) args all = quanta_bounded args
keyword_bounded line (Some keyword.Repeat) args all = repeat_bounded args
keyword_bounded line (Some keyword.Dump) args all = dump_bounded args
keyword_bounded line (Some keyword.Watch) args all = watch_bounded args

-- ---- the bytes of words

abbrev Each : Text → Type 0
Each text = AllByRecursion (λ b. (0 < b) × (b < 128)) text

ascii_of : (text : Text) → Each text → IsAscii text
ascii_of [] all i = empty_ascii i
ascii_of (b ∷ bs) all zero = all.0.1
ascii_of (b ∷ bs) all (suc i) = ascii_of bs all.1 i

not_zero : (b : ℕ) → 0 < b → not (b == 0) ≡ true
not_zero b some = grind (arith, nat_tests)

both_true : (a b : Bool) → a ≡ true → b ≡ true → (a && b) ≡ true
both_true true true p q = refl
both_true true false p q = absurd cc
both_true false b p q = absurd cc

clear_of : (text : Text) → Each text → list_all (λ b. not (b == 0)) text ≡ true
clear_of [] all = refl
clear_of (b ∷ bs) all = both_true (not (b == 0)) (list_all (λ b. not (b == 0)) bs) (not_zero b all.0.0) (clear_of bs all.1)

good : (text : Text) → list_any is_bad_byte text ≡ false → Each text
good [] none = tt
good (b ∷ bs) none =
    let p = neither (is_bad_byte b) (list_any is_bad_byte bs) none in
    let q = both (nat_le 32 b) (nat_le b 126) (not_false (nat_le 32 b && nat_le b 126) p.0) in
    let high : nat_le b 126 ≡ true = q.1 in
    let low : nat_le 32 b ≡ true = q.0 in
    ((grind (arith, nat_tests), grind (arith, nat_tests)), good bs p.1)

front_each : (b : ℕ) (ps : List Text) → (0 < b) × (b < 128) → AllByRecursion Each ps → AllByRecursion Each (in_front b ps)
front_each b [] is all = ((is, tt), tt)
front_each b (p ∷ ps) is all = ((is, all.0), all.1)

pieces_each : (at : ℕ) (text : Text) → Each text → AllByRecursion Each (pieces at text)
unfolding pieces
pieces_each at [] all = (tt, tt)
pieces_each at (b ∷ bs) all =
    by_test (AllByRecursion Each) (b == at) ([] ∷ pieces at bs) (in_front b (pieces at bs))
    (λ yes. (tt, pieces_each at bs all.1)) (λ no. front_each b (pieces at bs) all.0 (pieces_each at bs all.1))

filtered : (p : Text → Bool) (ts : List Text) → AllByRecursion Each ts → AllByRecursion IsText (filter p ts)
filtered p [] all = tt
filtered p (t ∷ ts) all =
    by_test (AllByRecursion IsText) (p t) (t ∷ filter p ts) (filter p ts) (λ yes. (record { ascii = ascii_of t all.0; clear = clear_of t all.0 }, filtered p ts all.1)) (λ no. filtered p ts all.1)

words_ascii : (text : Text) → list_any is_bad_byte text ≡ false → AllByRecursion IsText (words text)
unfolding words
words_ascii text none = filtered (λ piece. not (is_empty piece)) (pieces space text) (pieces_each space text (good text none))

words_bounded : (line : Line) (ws : List Text) → (list_any is_bad_byte line.text ≡ false → AllByRecursion IsText ws) → Bounds (words_said line ws)
unfolding words_said
words_bounded line [] all = tt
words_bounded line (word ∷ args) all =
    by_test Bounds (slice_index word 0 == hash) (Ok nothing) (cond (list_any is_bad_byte line.text) (Err BadByte) (keyword_said line.number (keyword_of word) args)) (λ yes. tt)
    (λ no. by_test Bounds (list_any is_bad_byte line.text) (Err BadByte) (keyword_said line.number (keyword_of word) args) (λ yes. tt) (λ none. keyword_bounded line.number (keyword_of word) args (all none).1))

pub line_bounded : (line : Line) → Bounds (line_said line)
unfolding line_said
line_bounded line = words_bounded line (words line.text) (words_ascii line.text)

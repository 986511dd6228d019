-- No argument of a manifest's start line has a zero byte.
use Rattle.std.proofs.Common.{◌≡◌, ℕ, ◌+◌, ◌-◌, ◌^◌, ◌<◌, Bool, true, false, cond, List, [], ◌∷◌, map, length, Option, Some, None, Result, Ok, Err, refl, subst, arith}
use Rattle.std.specs.Prelude.{not, ◌&&◌, ◌||◌, ◌==◌, nat_le, nat_lt, slice_index}
use Rattle.std.specs.List.{AllByRecursion, filter, filter_map, list_all, list_any}
use Rattle.std.proofs.lemmas.Bool.Decides.{nat_tests}
use Rattle.manifest_text.specs.declared.fault.ManifestFault.{ManifestFault}
use Rattle.manifest_text.specs.declared.fault.ManifestFault.TheVariants.{BadByte, BadNumber, BadPath}
use Rattle.manifest_text.specs.declared.keyword.Keyword.{Keyword}
use Rattle.manifest_text.specs.declared.keyword.Keyword.TheVariants as keyword
use Rattle.manifest_text.specs.declared.manifest.ItemKind.{ItemKind}
use Rattle.manifest_text.specs.declared.manifest.ItemKind.TheVariants.{Elf, Flat, File, Dir, Stdin, Root}
use Rattle.manifest_text.specs.Pieces.{Text, in_front, pieces, space, is_empty, words}
use Rattle.manifest_text.specs.Numbers.{decimal_value, is_number_in, number_in, address, is_quantum, quantum_value}
use Rattle.manifest_text.specs.Paths.{is_path}
use Rattle.manifest_text.specs.Values.{Start, Manifest}
use Rattle.manifest_text.specs.Lines.{Line, Said, nothing, memory, item, start, quanta, repeat, dump, watch, is_bad_byte, judged, stacked_said, memory_said, elf_said, flat_said, file_said, dir_said, named_said, start_said, quanta_said, repeat_said, dump_of, dump_said, watch_of, watch_said, keyword_said, keyword_of, hash, words_said, line_said}
use Rattle.manifest_text.specs.Manifest.{Fault, Draft, start_in, draft_of, ok_said, all_said, first_fault, manifest_by, whole, judged_lines, lines_of, manifest_of}
use Rattle.manifest_text.specs.Laws.{IsClear, HasClearArguments, StartsAreClear}

abbrev ClearSaid : Said → Type 0
ClearSaid nothing = Unit {0}
ClearSaid (memory pages) = Unit {0}
ClearSaid (item i) = Unit {0}
ClearSaid (start s) = HasClearArguments s
ClearSaid (quanta qs) = Unit {0}
ClearSaid (repeat count) = Unit {0}
ClearSaid (dump d) = Unit {0}
ClearSaid (watch w) = Unit {0}

abbrev Clear : Result Said ManifestFault → Type 0
Clear (Ok said) = ClearSaid said
Clear (Err fault) = Unit {0}

-- ---- the bytes of words

by_test : {R : Type 0} (P : R → Type 0) (b : Bool) (x y : R) → (b ≡ true → P x) → (b ≡ false → P y) → P (cond b x y)
by_test P true x y if_true if_false = if_true refl
by_test P false x y if_true if_false = if_false refl

neither : (a b : Bool) → (a || b) ≡ false → (a ≡ false) × (b ≡ false)
neither false false h = (refl, refl)
neither false true h = absurd cc
neither true b h = absurd cc

both : (a b : Bool) → a ≡ true → b ≡ true → (a && b) ≡ true
both true b is other = other
both false b is other = absurd cc

not_bad : (b : ℕ) → is_bad_byte b ≡ false → 0 < b
not_bad b is = low (nat_le 32 b) (nat_le b 126) refl is
  where
    low : (x y : Bool) → nat_le 32 b ≡ x → not (x && y) ≡ false → 0 < b
    low true y least h = grind (arith, nat_tests)
    low false y least h = absurd cc

not_zero : (b : ℕ) → 0 < b → not (b == 0) ≡ true
not_zero b some = grind (arith, nat_tests)

abbrev Each : Text → Type 0
Each text = AllByRecursion (λ b. 0 < b) text

good : (text : Text) → list_any is_bad_byte text ≡ false → Each text
good [] none = tt
good (b ∷ bs) none = let p = neither (is_bad_byte b) (list_any is_bad_byte bs) none in (not_bad b p.0, good bs p.1)

clear_of : (text : Text) → Each text → IsClear text
clear_of [] all = refl
clear_of (b ∷ bs) all = both (not (b == 0)) (list_all (λ n. not (n == 0)) bs) (not_zero b all.0) (clear_of bs all.1)

front_each : (b : ℕ) (ps : List Text) → 0 < b → AllByRecursion Each ps → AllByRecursion Each (in_front b ps)
front_each b [] is all = ((is, tt), tt)
front_each b (p ∷ ps) is all = ((is, all.0), all.1)

pieces_each : (at : ℕ) (text : Text) → Each text → AllByRecursion Each (pieces at text)
unfolding pieces
pieces_each at [] all = (tt, tt)
pieces_each at (b ∷ bs) all =
    by_test (AllByRecursion Each) (b == at) ([] ∷ pieces at bs) (in_front b (pieces at bs)) (λ yes. (tt, pieces_each at bs all.1))
    (λ no. front_each b (pieces at bs) all.0 (pieces_each at bs all.1))

filtered : (p : Text → Bool) (ts : List Text) → AllByRecursion Each ts → AllByRecursion IsClear (filter p ts)
filtered p [] all = tt
filtered p (t ∷ ts) all = by_test (AllByRecursion IsClear) (p t) (t ∷ filter p ts) (filter p ts) (λ yes. (clear_of t all.0, filtered p ts all.1)) (λ no. filtered p ts all.1)

clear_words : (text : Text) → list_any is_bad_byte text ≡ false → AllByRecursion IsClear (words text)
unfolding words
clear_words text none = filtered (λ piece. not (is_empty piece)) (pieces space text) (pieces_each space text (good text none))

-- ---- what a line says

one_row : (b : Bool) (fault : ManifestFault) (said : Said) → ClearSaid said → Clear (judged ((b, fault) ∷ []) said)
one_row true fault said is = tt
one_row false fault said is = is

clear_stacked : (line : ℕ) (path name : Text) (o : Option ℕ) → Clear (stacked_said line path name o)
clear_stacked line path name None = tt
clear_stacked line path name (Some stack) = one_row (not (is_path path)) BadPath (item (record { line = line; kind = Elf; path = path; name = name; stack = stack })) tt

clear_elf : (line : ℕ) (args : List Text) → Clear (elf_said line args)
unfolding elf_said
clear_elf line [] = tt
clear_elf line (path ∷ []) = tt
clear_elf line (path ∷ name ∷ []) = one_row (not (is_path path)) BadPath (item (record { line = line; kind = Elf; path = path; name = name; stack = 4096 })) tt
clear_elf line (path ∷ name ∷ stack ∷ []) = clear_stacked line path name (number_in 16 1048576 stack)
clear_elf line (path ∷ name ∷ stack ∷ more ∷ rest) = tt

clear_flat : (line : ℕ) (args : List Text) → Clear (flat_said line args)
unfolding flat_said
clear_flat line [] = tt
clear_flat line (path ∷ []) = tt
clear_flat line (path ∷ name ∷ []) = one_row (not (is_path path)) BadPath (item (record { line = line; kind = Flat; path = path; name = name; stack = 0 })) tt
clear_flat line (path ∷ name ∷ more ∷ rest) = tt

clear_file : (line : ℕ) (args : List Text) → Clear (file_said line args)
unfolding file_said
clear_file line [] = tt
clear_file line (path ∷ []) = tt
clear_file line (path ∷ name ∷ []) = one_row (not (is_path path)) BadPath (item (record { line = line; kind = File; path = path; name = name; stack = 0 })) tt
clear_file line (path ∷ name ∷ more ∷ rest) = tt

clear_dir : (line : ℕ) (args : List Text) → Clear (dir_said line args)
unfolding dir_said
clear_dir line [] = tt
clear_dir line (path ∷ []) = one_row (not (is_path path)) BadPath (item (record { line = line; kind = Dir; path = path; name = []; stack = 0 })) tt
clear_dir line (path ∷ more ∷ rest) = tt

clear_named : (line : ℕ) (kind : ItemKind) (args : List Text) → Clear (named_said line kind args)
unfolding named_said
clear_named line kind [] = tt
clear_named line kind (name ∷ []) = tt
clear_named line kind (name ∷ more ∷ rest) = tt

clear_memory : (args : List Text) → Clear (memory_said args)
unfolding memory_said
clear_memory [] = tt
clear_memory (pages ∷ []) = one_row (not (is_number_in 1 16384 pages)) BadNumber (memory (decimal_value pages)) tt
clear_memory (pages ∷ more ∷ rest) = tt

clear_start : (line : ℕ) (args : List Text) → AllByRecursion IsClear args → Clear (start_said line args)
unfolding start_said
clear_start line [] all = tt
clear_start line (path ∷ args) all = one_row (not (is_path path)) BadPath (start (record { line = line; args = path ∷ args })) all

clear_quanta : (args : List Text) → Clear (quanta_said args)
unfolding quanta_said
clear_quanta [] = tt
clear_quanta (q ∷ qs) = one_row (not (list_all is_quantum (q ∷ qs))) BadNumber (quanta (map quantum_value (q ∷ qs))) tt

clear_repeat : (args : List Text) → Clear (repeat_said args)
unfolding repeat_said
clear_repeat [] = tt
clear_repeat (count ∷ []) = one_row (not (is_number_in 1 1000000 count)) BadNumber (repeat (decimal_value count)) tt
clear_repeat (count ∷ more ∷ rest) = tt

clear_dump_of : (pid addr len : Option ℕ) → Clear (dump_of pid addr len)
clear_dump_of None addr len = tt
clear_dump_of (Some pid) None len = tt
clear_dump_of (Some pid) (Some addr) None = tt
clear_dump_of (Some pid) (Some addr) (Some len) = tt

clear_dump : (args : List Text) → Clear (dump_said args)
unfolding dump_said
clear_dump [] = tt
clear_dump (pid ∷ []) = tt
clear_dump (pid ∷ addr ∷ []) = tt
clear_dump (pid ∷ addr ∷ len ∷ []) = clear_dump_of (number_in 1 1000000 pid) (address addr) (number_in 1 4096 len)
clear_dump (pid ∷ addr ∷ len ∷ more ∷ rest) = tt

clear_watch_of : (addr len : Option ℕ) → Clear (watch_of addr len)
clear_watch_of None len = tt
clear_watch_of (Some addr) None = tt
clear_watch_of (Some addr) (Some len) = one_row (nat_lt (2 ^ 32) (addr + len)) BadNumber (watch (record { addr = addr; len = len })) tt

clear_watch : (args : List Text) → Clear (watch_said args)
unfolding watch_said
clear_watch [] = tt
clear_watch (addr ∷ []) = tt
clear_watch (addr ∷ len ∷ []) = clear_watch_of (address addr) (number_in 1 (2 ^ 32 - 1) len)
clear_watch (addr ∷ len ∷ more ∷ rest) = tt

clear_keyword : (line : ℕ) (k : Option Keyword) (args : List Text) → AllByRecursion IsClear args → Clear (keyword_said line k args)
unfolding keyword_said
clear_keyword line None args all = tt
clear_keyword line (Some keyword.Memory) args all = clear_memory args
clear_keyword line (Some keyword.Elf) args all = clear_elf line args
clear_keyword line (Some keyword.Flat) args all = clear_flat line args
clear_keyword line (Some keyword.File) args all = clear_file line args
clear_keyword line (Some keyword.Dir) args all = clear_dir line args
clear_keyword line (Some keyword.Stdin) args all = clear_named line Stdin args
clear_keyword line (Some keyword.Root) args all = clear_named line Root args
clear_keyword line (Some keyword.Start) args all = clear_start line args all
clear_keyword line (Some keyword.Quanta) args all = clear_quanta args
clear_keyword line (Some keyword.Repeat) args all = clear_repeat args
clear_keyword line (Some keyword.Dump) args all = clear_dump args
clear_keyword line (Some keyword.Watch) args all = clear_watch args

clear_said : (line : Line) (ws : List Text) → (list_any is_bad_byte line.text ≡ false → AllByRecursion IsClear ws) → Clear (words_said line ws)
unfolding words_said
clear_said line [] all = tt
clear_said line (word ∷ args) all =
    by_test Clear (slice_index word 0 == hash) (Ok nothing) (cond (list_any is_bad_byte line.text) (Err BadByte) (keyword_said line.number (keyword_of word) args)) (λ yes. tt)
    (λ no. by_test Clear (list_any is_bad_byte line.text) (Err BadByte) (keyword_said line.number (keyword_of word) args) (λ yes. tt) (λ none. clear_keyword line.number (keyword_of word) args (all none).1))

clear_line : (line : Line) → Clear (line_said line)
unfolding line_said
clear_line line = clear_said line (words line.text) (clear_words line.text)

-- ---- all lines

abbrev ClearOption : Option Said → Type 0
ClearOption None = Unit {0}
ClearOption (Some said) = ClearSaid said

clear_ok : (r : Result Said ManifestFault) → Clear r → ClearOption (ok_said r)
clear_ok (Ok said) is = is
clear_ok (Err fault) is = tt

kept : {A B : Type 0} (f : A → Option B) (Q : B → Type 0) (x : A) (xs : List A) → ((b : B) → f x ≡ Some b → Q b) → AllByRecursion Q (filter_map f xs) → AllByRecursion Q (filter_map f (x ∷ xs))
kept f Q x xs each more = by (f x) refl
  where
    by : (o : Option _) → f x ≡ o → AllByRecursion Q (filter_map f (x ∷ xs))
    by None is = rw is more
    by (Some b) is = rw is (each b is, more)

clear_all : (lines : List Line) → AllByRecursion ClearSaid (all_said lines)
unfolding all_said
clear_all [] = tt
clear_all (line ∷ lines) =
    kept (λ l. ok_said (line_said l)) ClearSaid line lines (λ said is. subst ClearOption is (clear_ok (line_said line) (clear_line line))) (clear_all lines)

clear_starts : (saids : List Said) → AllByRecursion ClearSaid saids → AllByRecursion HasClearArguments (filter_map start_in saids)
clear_starts [] all = tt
clear_starts (said ∷ saids) all = kept start_in HasClearArguments said saids (by said all.0) (clear_starts saids all.1)
  where
    by : (said : Said) → ClearSaid said → (s : Start) → start_in said ≡ Some s → HasClearArguments s
    by (start t) is s says = let same : t ≡ s = cc in subst HasClearArguments same is
    by nothing is s says = absurd cc
    by (memory pages) is s says = absurd cc
    by (item i) is s says = absurd cc
    by (quanta qs) is s says = absurd cc
    by (repeat count) is s says = absurd cc
    by (dump d) is s says = absurd cc
    by (watch w) is s says = absurd cc

clear_draft : (lines : List Line) → AllByRecursion HasClearArguments (draft_of (all_said lines)).starts
unfolding draft_of
clear_draft lines = clear_starts (all_said lines) (clear_all lines)

whole_is : (d : Draft) (m : Manifest) → whole d ≡ Ok m → manifest_by d ≡ m
whole_is d m is = by_tests (nat_lt 0 (length d.starts) && length d.quanta == 0) (length d.starts == 0) refl refl
  where
    by_tests : (a b : Bool) → (nat_lt 0 (length d.starts) && length d.quanta == 0) ≡ a → (length d.starts == 0) ≡ b → manifest_by d ≡ m
    by_tests true b no_quanta no_start = let h = rw no_quanta at is in absurd cc
    by_tests false true no_quanta no_start = let h = rw (no_quanta, no_start) at is in absurd cc
    by_tests false false no_quanta no_start = let h = rw (no_quanta, no_start) at is in cc

clear_judged : (lines : List Line) (o : Option Fault) (m : Manifest) → judged_lines lines o ≡ Ok m → AllByRecursion HasClearArguments m.starts
clear_judged lines (Some fault) m is = absurd cc
clear_judged lines None m is = subst (λ (x : Manifest). AllByRecursion HasClearArguments x.starts) (whole_is (draft_of (all_said lines)) m is) (clear_draft lines)

-- of each manifest that is read
pub starts_are_clear : StartsAreClear
unfolding manifest_of
starts_are_clear text m is = clear_judged (lines_of text) (first_fault [] (lines_of text)) m is

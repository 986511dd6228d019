-- The manifest of a demo.
use Rattle.std.proofs.Common.{◌≡◌, ℕ, zero, suc, ◌+◌, ◌%◌, ◌^◌, ◌≤◌, ◌<◌, Bool, true, false, not, ◌&&◌, List, [], ◌∷◌, ◌++◌, length, map, refl, sym, ap, ◌∙◌, subst, arith, rules, add-one, length-append}
use Rattle.std.specs.Prelude.{◌==◌, decimal}
use Rattle.std.specs.List.{AllByRecursion, list_all}
use Rattle.std.proofs.lemmas.Bool.{ne_eqb}
use Rattle.std.proofs.lemmas.Fmt.{decimal_by_steps}
use Rattle.std.proofs.lemmas.List.{map-append}
use Rattle.manifest_text.specs.Values.{Manifest}
use Rattle.manifest_text.specs.Laws.{IsItem, HasClearPath, HasArgument, Reasonable}
use Rattle.elf_maker.specs.Demo.{demo_file}
use Rattle.suite_top.specs.Telling.{Demo}
use Rattle.host_io.specs.Host.{Told}
use Rattle.file_commands.specs.Ending.{Ending}
use Rattle.file_commands.specs.Observed.{Observed}
use Rattle.file_commands.specs.HostCourse.{Performs}
use Rattle.suite_top.specs.Run.{files_outcome}
use Rattle.suite_top.specs.Demo.{each_of, demo_item, demo_start, demo_manifest, demo_run}

module _ {A : Type 0} (of : ℕ → A) where
  pub none_yet : each_of of 0 ≡ []
  unfolding each_of
  none_yet = refl

  pub one_more : (n : ℕ) → each_of of (n + 1) ≡ each_of of n ++ of (n + 1) ∷ []
  unfolding each_of
  one_more n = rw add-one refl

  pub length-each_of : (n : ℕ) → length (each_of of n) ≡ n
  unfolding each_of
  length-each_of zero = refl
  length-each_of (suc n) = omega (arith, length-append (each_of of n) (of (suc n) ∷ []), length-each_of n)

  all_append : (P : A → Type 0) (xs : List A) (x : A) → AllByRecursion P xs → P x → AllByRecursion P (xs ++ x ∷ [])
  all_append P [] x all is = (is, tt)
  all_append P (y ∷ ys) x all is = (all.0, all_append P ys x all.1 is)

  pub all_each_of : (P : A → Type 0) → ((i : ℕ) → P (of i)) → (n : ℕ) → AllByRecursion P (each_of of n)
  unfolding each_of
  all_each_of P each zero = tt
  all_each_of P each (suc n) = all_append P (each_of of n) (of (suc n)) (all_each_of P each n) (each (suc n))

  -- with one more element behind what a vector holds
  pub pushed : {B : Type 0} (value : B → A) (items more : List B) (item : B) (n : ℕ) → map value items ≡ each_of of n → value item ≡ of (n + 1)
      → more ≡ items ++ item ∷ [] → map value more ≡ each_of of (n + 1)
  pushed value items more item n are is grown =
      ap (map value) grown ∙ map-append value items (item ∷ []) ∙ ap (λ xs. xs ++ value item ∷ []) are ∙ ap (λ x. each_of of n ++ x ∷ []) is ∙ sym (one_more n)

-- the same of the numbers up to n alone
all_up_to : {A : Type 0} (of : ℕ → A) (P : A → Type 0) (n : ℕ) → ((i : ℕ) → i ≤ n → P (of i)) → AllByRecursion P (each_of of n)
unfolding each_of
all_up_to of P zero each = tt
all_up_to of P (suc n) each = all_append of P (each_of of n) (of (suc n)) (all_up_to of P n (λ i le. each i (omega arith))) (each (suc n) (omega arith))

abbrev is_clear : List ℕ → Bool
is_clear text = list_all (λ b. not (b == 0)) text

digit_clear : (d : ℕ) → not (48 + d == 0) ≡ true
digit_clear d = ap not (ne_eqb (48 + d) 0 (λ e. omega (arith, e)))

clear_more : (text : List ℕ) (b : ℕ) → is_clear text ≡ true → not (b == 0) ≡ true → is_clear (text ++ b ∷ []) ≡ true
clear_more [] b text one = ap (λ (c : Bool). c && true) one
clear_more (x ∷ xs) b text one = by (not (x == 0)) text (λ rest. clear_more xs b rest one)
  where
    by : (c : Bool) → (c && is_clear xs) ≡ true → (is_clear xs ≡ true → is_clear (xs ++ b ∷ []) ≡ true) → (c && is_clear (xs ++ b ∷ [])) ≡ true
    by true rest more = more rest
    by false rest more = absurd cc

number_clear : (n : ℕ) → n < 2 ^ 64 → is_clear (decimal n) ≡ true
number_clear = decimal_by_steps (λ n text. is_clear text ≡ true) (λ n lt. ap (λ (c : Bool). c && true) (digit_clear n)) (λ n text le is. clear_more text (48 + n % 10) is (digit_clear (n % 10)))

has_clear_path : (i : ℕ) → i ≤ 64 → HasClearPath (demo_item i)
has_clear_path i few = number_clear i (omega arith)

is_item : (i : ℕ) → IsItem (demo_item i)
is_item i = record { name = search rules; stack = (omega arith, omega arith) }

pub reasonable : (n : ℕ) → n ≤ 64 → Reasonable (demo_manifest n)
unfolding demo_manifest
reasonable n few = record {
  some_pages = omega arith;
  most_pages = omega arith;
  items = omega (arith, length-each_of demo_item n);
  each_item = all_each_of demo_item IsItem is_item n;
  each_path = all_up_to demo_item HasClearPath n (λ i le. has_clear_path i (omega arith));
  starts = omega (arith, length-each_of demo_start n);
  each_start = all_each_of demo_start HasArgument (λ i. omega arith) n;
  quanta = omega arith;
  each_quantum = search rules;
  repeat = omega arith;
  watches = omega arith;
  each_watch = tt;
}

pub items_are : (n : ℕ) → (demo_manifest n).items ≡ each_of demo_item n
unfolding demo_manifest
items_are n = refl

-- there are as many files as lines
pub as_many : (n : ℕ) (m : Manifest) (files : List (List ℕ)) → m ≡ demo_manifest n → files ≡ each_of demo_file n → length files ≡ length m.items
as_many n m files manifest are =
    ap length are ∙ length-each_of demo_file n
    ∙ sym (ap (λ (x : Manifest). length x.items) manifest ∙ ap length (items_are n) ∙ length-each_of demo_item n)

-- what was run is the demo
pub is_demo : (n : ℕ) (m : Manifest) (files : List (List ℕ)) (old new : Observed Told) (ending : Ending) → m ≡ demo_manifest n → files ≡ each_of demo_file n
    → Performs old new (files_outcome (Demo n) m files) ending → Performs old new (demo_run n) ending
unfolding demo_run
is_demo n m files old new ending manifest are ends =
    subst (λ (fs : List (List ℕ)). Performs old new (files_outcome (Demo n) (demo_manifest n) fs) ending) are
    (subst (λ (x : Manifest). Performs old new (files_outcome (Demo n) x files) ending) manifest ends)

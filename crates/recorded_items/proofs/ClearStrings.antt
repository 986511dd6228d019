-- The strings that an execve reads have no zero byte.
use Rattle.std.proofs.Common.{◌≡◌, ℕ, zero, suc, Bool, true, false, not, List, [], ◌∷◌, length, drop, Option, Some, None, refl, sym, subst}
use Rattle.std.specs.Prelude.{◌==◌, ◌&&◌, nat_lt, if◌then◌else◌}
use Rattle.std.specs.List.{AllByRecursion}
use Rattle.std.proofs.lemmas.List.Sums.{take_while-cons}
use Rattle.byte_words.specs.Numbers.{low_first, number_at}
use Rattle.call_log.specs.Sent.{has_zero}
use Rattle.call_log.specs.Strings.{before_zero, behind_zero, Strings, string_more, strings_in, strings_of, ProgramStrings, with_env, env_behind, program_strings}
use Rattle.items_text.specs.Items.{is_string, IsString}

both : (b c : Bool) → b ≡ true → c ≡ true → (b && c) ≡ true
both true c is other = other
both false c is other = absurd cc

clear_front : (bytes : List ℕ) → IsString (before_zero bytes)
unfolding is_string
clear_front [] = refl
clear_front (b ∷ bytes) = subst IsString (sym (take_while-cons (λ n. not (n == 0)) b bytes)) (by (clear_front bytes) (not (b == 0)) refl)
  where
    by : IsString (before_zero bytes) → (c : Bool) → not (b == 0) ≡ c → IsString (if c then b ∷ before_zero bytes else [])
    by more true is = both (not (b == 0)) _ is more
    by more false is = refl

abbrev AreClear : List (List ℕ) → Type 0
AreClear strings = AllByRecursion IsString strings

abbrev Clear : Option Strings → Type 0
Clear None = Unit {0}
Clear (Some s) = AreClear s.strings

by_if : (b : Bool) (x y : Option Strings) → Clear x → Clear y → Clear (if b then x else y)
by_if true x y hx hy = hx
by_if false x y hx hy = hy

clear_more : (string : List ℕ) (o : Option Strings) → IsString string → Clear o → Clear (string_more string o)
clear_more string None is more = tt
clear_more string (Some s) is more = (is, more)

clear_in : (most : ℕ) (bytes : List ℕ) → Clear (strings_in most bytes)
unfolding strings_in
clear_in zero bytes = tt
clear_in (suc most) bytes =
    by_if (nat_lt (length bytes) 4) None _ tt
    (by_if (number_at low_first 4 bytes 0 == 0) (Some (record { strings = []; behind = drop 4 bytes })) _ tt
    (by_if (has_zero (drop 4 bytes)) (string_more (before_zero (drop 4 bytes)) (strings_in most (behind_zero (drop 4 bytes)))) None
    (clear_more (before_zero (drop 4 bytes)) (strings_in most (behind_zero (drop 4 bytes))) (clear_front (drop 4 bytes)) (clear_in most (behind_zero (drop 4 bytes)))) tt))

clear_of : (at : ℕ) (bytes : List ℕ) → Clear (strings_of at bytes)
clear_of at bytes = by_if (at == 0) (Some (record { strings = []; behind = bytes })) (strings_in (length bytes) bytes) tt (clear_in (length bytes) bytes)

abbrev pub ClearProgram : Option ProgramStrings → Type 0
ClearProgram None = Unit {0}
ClearProgram (Some s) = AllByRecursion IsString s.args × AllByRecursion IsString s.env

clear_env : (args : List (List ℕ)) (o : Option Strings) → AreClear args → Clear o → ClearProgram (with_env args o)
clear_env args None is more = tt
clear_env args (Some s) is more = (is, more)

clear_behind : (env : ℕ) (o : Option Strings) → Clear o → ClearProgram (env_behind env o)
clear_behind env None is = tt
clear_behind env (Some s) is = clear_env s.strings (strings_of env s.behind) is (clear_of env s.behind)

pub clear_program : (bytes : List ℕ) (args env : ℕ) → ClearProgram (program_strings bytes args env)
unfolding program_strings
clear_program bytes args env = clear_behind env (strings_of args (behind_zero bytes)) (clear_of args (behind_zero bytes))

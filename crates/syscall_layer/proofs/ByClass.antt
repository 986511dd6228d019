-- What the class of a call says of its number.
use Rattle.std.proofs.Common.{◌≡◌, ◌≢◌, ℕ, Bool, true, false, Some, refl, sym, ap, subst, ◌∙◌}
use Rattle.std.specs.Prelude.{◌==◌, ◌||◌}
use Rattle.std.proofs.lemmas.Bool.{false≢true}
use Rattle.vfork_exec.proofs.Keyed.{eqb_other}
use Rattle.machine_world.specs.Asks.{Ask}
use Rattle.machine_world.specs.Event.{is_exit}
use Rattle.machine_world.specs.Rows.{row}
use Rattle.file_calls.specs.Calls.{WaitsOn, is_change, is_output}
use Rattle.syscall_layer.specs.declared.classes.Class.{Class}
use Rattle.syscall_layer.specs.Classes.{IsOf}

pub of_class : (number : ℕ) (class found : Class) → IsOf class number → class ≡ found → IsOf found number
of_class number class found of is = subst (λ (c : Class). IsOf c number) is of

goes_by : (n : ℕ) → n ≢ 93 → n ≢ 94 → is_exit n ≡ false
goes_by n n93 n94 = ap (λ (b : Bool). b || (n == 94)) (eqb_other n 93 n93) ∙ eqb_other n 94 n94

isnt : (test : ℕ → Bool) (n m : ℕ) → test n ≡ true → test m ≡ false → n ≢ m
isnt test n m holds fails same = false≢true (sym fails ∙ ap test (sym same) ∙ holds)

pub change_goes : (n : ℕ) → is_change n ≡ true → is_exit n ≡ false
change_goes n is = goes_by n (isnt is_change n 93 is refl) (isnt is_change n 94 is refl)

pub output_goes : (n : ℕ) → is_output n ≡ true → is_exit n ≡ false
output_goes n is = goes_by n (isnt is_output n 93 is refl) (isnt is_output n 94 is refl)

-- an exit waits on no pipe
module _ (a : Ask) (pipe : ℕ) (is : WaitsOn (row a) (Some pipe)) where
  waits_at : (n : ℕ) → a.number ≡ n → WaitsOn (row (record a { number = n })) (Some pipe)
  waits_at n same = subst (λ (m : ℕ). WaitsOn (row (record a { number = m })) (Some pipe)) same is

  pub wait_goes : is_exit a.number ≡ false
  unfolding row
  wait_goes = goes_by a.number (λ same. waits_at 93 same) (λ same. waits_at 94 same)

-- The items of a space as plain values, and what a text of them asks for.
use Rattle.std.specs.Prelude.{◌≡◌, ◌≢◌, ℕ, ◌%◌, ◌^◌, ◌<◌, ◌≤◌, Bool, true, not, ◌==◌, List, [], length}
use Rattle.std.specs.List.{list_all, AllByRecursion}
use Rattle.call_log.specs.Notes.{GotRange, CallEntry}
use Rattle.call_log.specs.Numbers as numbers

-- a call as it was answered, and the bytes that its mapping of a file brought
pub record ItemValue : Type 0 where
  pub entry : CallEntry
  pub brought : List ℕ

-- a space: its program's stack, the first address of its block, whom it was loaded for, how many events there were, its
-- arguments and environment strings, and its calls in order
pub record ItemsValue : Type 0 where
  pub stack : ℕ
  pub base : ℕ
  pub pid : ℕ
  pub events : ℕ
  pub args : List (List ℕ)
  pub env : List (List ℕ)
  pub list : List ItemValue

-- ---- what the grammar asks for

-- the first page and the last one where a block may begin
abbrev pub lowest_base : ℕ
lowest_base = 0x80000000

abbrev pub highest_base : ℕ
highest_base = 0x83fff000

abbrev pub page_size : ℕ
page_size = 4096

pub record IsBase (base : ℕ) : Type 0 where
  pub on_page : base % page_size ≡ 0
  pub from : lowest_base ≤ base
  pub to : base ≤ highest_base

-- no zero byte
unfoldable pub is_string : List ℕ → Bool
is_string bytes = list_all (λ b. not (b == 0)) bytes

abbrev pub IsString : List ℕ → Type 0
IsString bytes = is_string bytes ≡ true

-- six arguments, no range of output that is empty, and bytes brought by mmap2 alone
pub record IsItem (i : ItemValue) : Type 0 where
  pub args : length i.entry.args ≡ 6
  pub got : AllByRecursion (λ (w : GotRange). w.bytes ≢ []) i.entry.got
  pub brought : i.entry.call ≢ numbers.mmap2 → i.brought ≡ []

-- such items have a text
pub record AreSpelled (i : ItemsValue) : Type 0 where
  pub base : IsBase i.base
  pub args : AllByRecursion IsString i.args
  pub env : AllByRecursion IsString i.env
  pub list : AllByRecursion IsItem i.list

-- ---- what the code's types hold

abbrev pub AreBytes : List ℕ → Type 0
AreBytes bytes = AllByRecursion (λ b. b < 2 ^ 8) bytes

pub record HoldsGot (w : GotRange) : Type 0 where
  pub addr : w.addr < 2 ^ 32
  pub bytes : AreBytes w.bytes

pub record HoldsItem (i : ItemValue) : Type 0 where
  pub pid : i.entry.pid < 2 ^ 32
  pub call : i.entry.call < 2 ^ 32
  pub args : AllByRecursion (λ a. a < 2 ^ 32) i.entry.args
  pub sent : AreBytes i.entry.sent
  pub reply : i.entry.reply < 2 ^ 32
  pub got : AllByRecursion HoldsGot i.entry.got
  pub brought : AreBytes i.brought

-- numbers and bytes of these sizes: what any `Items` of the code has
pub record AreHeld (i : ItemsValue) : Type 0 where
  pub stack : i.stack < 2 ^ 32
  pub base : i.base < 2 ^ 32
  pub pid : i.pid < 2 ^ 32
  pub events : i.events < 2 ^ 64
  pub args : AllByRecursion AreBytes i.args
  pub env : AllByRecursion AreBytes i.env
  pub list : AllByRecursion HoldsItem i.list

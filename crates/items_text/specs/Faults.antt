-- The first line of a text that isn't of the grammar, or isn't in its order.
use Rattle.std.specs.Prelude.{◌≡◌, ◌≢◌, ℕ, zero, suc, ◌+◌, ◌^◌, ◌<◌, List, [], ◌++◌, ◌⊎◌}
use Rattle.items_text.specs.Items.{ItemValue, IsBase, IsString, IsItem, AreBytes, HoldsItem}
use Rattle.items_text.specs.Lines.{space_line, arg_line, env_line, item_line, end_line}

-- ---- a line is of the grammar where something is spelled so

abbrev pub IsSpaceLine : List ℕ → Type 0
IsSpaceLine line =
    (stack base pid events : ℕ) × (stack < 2 ^ 32) × IsBase base × (pid < 2 ^ 32) × (events < 2 ^ 64) × (line ≡ space_line stack base pid events)

abbrev pub IsArgLine : List ℕ → Type 0
IsArgLine line = (bytes : List ℕ) × AreBytes bytes × IsString bytes × (line ≡ arg_line bytes)

abbrev pub IsEnvLine : List ℕ → Type 0
IsEnvLine line = (bytes : List ℕ) × AreBytes bytes × IsString bytes × (line ≡ env_line bytes)

abbrev pub IsItemLine : List ℕ → Type 0
IsItemLine line = (i : ItemValue) × HoldsItem i × IsItem i × (line ≡ item_line i)

-- ---- their order

-- where a line stands: it is the first one; or behind the first one or an argument, a string of the environment, a call, or
-- the last line
pub data Place : Type 0 where
  heading : Place
  args : Place
  envs : Place
  calls : Place
  over : Place

-- a line, and where the next one stands
abbrev pub CallOrEnd : List ℕ → Place → Type 0
CallOrEnd line next = ((next ≡ calls) × IsItemLine line) ⊎ ((next ≡ over) × (line ≡ end_line))

abbrev pub EnvOrLater : List ℕ → Place → Type 0
EnvOrLater line next = ((next ≡ envs) × IsEnvLine line) ⊎ CallOrEnd line next

abbrev pub ArgOrLater : List ℕ → Place → Type 0
ArgOrLater line next = ((next ≡ args) × IsArgLine line) ⊎ EnvOrLater line next

-- the line may stand at this place
abbrev pub Follows : Place → List ℕ → Place → Type 0
Follows heading line next = (next ≡ args) × IsSpaceLine line
Follows args line next = ArgOrLater line next
Follows envs line next = EnvOrLater line next
Follows calls line next = CallOrEnd line next
Follows over line next = ⊥

-- from this place on the text begins with so many lines, each at a place where it may stand; what is behind them, and at which
-- place
abbrev pub Begins : ℕ → Place → (text rest : List ℕ) → Place → Type 0
Begins zero place text rest last = (text ≡ rest) × (place ≡ last)
Begins (suc n) place text rest last = (line more : List ℕ) × (next : Place) × Follows place line next × (text ≡ line ++ more) × Begins n next more rest last

-- no line that may stand here begins the text
abbrev pub NoLine : Place → List ℕ → Type 0
NoLine place text = (line more : List ℕ) (next : Place) → Follows place line next → text ≡ line ++ more → ⊥

-- the lines before this one stand where they may; it doesn't, or isn't there, and the text isn't over
pub record IsFault (line : ℕ) (text : List ℕ) : Type 0 where
  pub before : ℕ
  pub rest : List ℕ
  pub place : Place
  pub behind : line ≡ before + 1
  pub begins : Begins before heading text rest place
  pub none : NoLine place rest
  pub more : place ≡ over → rest ≢ []

-- Which free run a request for `need` pages is cut from. First: the lowest run that fits. Best: the
-- smallest one that fits, the lowest of equal ones. Last: the highest that fits.
use Rattle.std.specs.Prelude.{ℕ, suc, ◌≡◌, ◌<◌, ◌≤◌, ◌⊎◌, Bool, true, false, nat_le, nat_lt, ◌||◌, ◌&&◌, if◌then◌else◌, List, [], ◌∷◌, Option, Some, None, slice_get, option_map}
use Rattle.page_runs.specs.declared.place.Kind.{Kind}
use Rattle.page_runs.specs.declared.place.Kind.TheVariants.{First, Best, Last}
use Rattle.page_runs.specs.declared.run.Run.{Run}

-- of two runs that fit, the one at i is to be taken rather than the one at j
abbrev pub Before : Kind → ℕ → Run → ℕ → Run → Type 0
Before First i run j other = i ≤ j
Before Best i run j other = (run.count < other.count) ⊎ ((run.count ≡ other.count) × (i ≤ j))
Before Last i run j other = j ≤ i

-- the run at i fits, and is to be taken before all others that fit
pub record IsPlace (kind : Kind) (runs : List Run) (need i : ℕ) : Type 0 where
  pub run : Run
  pub there : slice_get runs i ≡ Some run
  pub fits : need ≤ run.count
  pub before : (j : ℕ) (other : Run) → slice_get runs j ≡ Some other → need ≤ other.count → Before kind i run j other

-- what `place` answers: such a run, or none where no run fits
abbrev pub Placed : Kind → List Run → ℕ → Option ℕ → Type 0
Placed kind runs need None = (j : ℕ) (other : Run) → slice_get runs j ≡ Some other → other.count < need
Placed kind runs need (Some i) = IsPlace kind runs need i

-- an earlier run that fits is taken rather than a later one
abbrev pub prefers : Kind → Run → Option Run → Bool
prefers First run other = true
prefers Best run (Some other) = nat_le run.count other.count
prefers Best run None = true
prefers Last run other = false

abbrev pub place_or : Kind → Run → List Run → Bool → Option ℕ → Option ℕ
place_or kind run runs true None = Some 0
place_or kind run runs false None = None
place_or kind run runs fits (Some i) = if fits && prefers kind run (slice_get runs i) then Some 0 else Some (suc i)

-- the index of the run that is taken
unfoldable pub place : Kind → List Run → ℕ → Option ℕ
place kind [] need = None
place kind (run ∷ runs) need = place_or kind run runs (nat_le need run.count) (place kind runs need)

-- the first page of the run at an index
abbrev pub first_of : List Run → Option ℕ → Option ℕ
first_of runs None = None
first_of runs (Some i) = option_map (λ run. run.first) (slice_get runs i)

-- the run that is taken for a request begins at this page
pub record BeginsAt (kind : Kind) (runs : List Run) (need first : ℕ) : Type 0 where
  pub i : ℕ
  pub place : IsPlace kind runs need i
  pub begins : place.run.first ≡ first

-- what a request gets: the first page of the run that is taken, or none where every run is shorter
abbrev pub Gets : Kind → List Run → ℕ → Option ℕ → Type 0
Gets kind runs need None = (j : ℕ) (other : Run) → slice_get runs j ≡ Some other → other.count < need
Gets kind runs need (Some first) = BeginsAt kind runs need first

-- for a private function: the better one of the best run so far, by its index and its pages, and the next
abbrev pub better : Option (ℕ × ℕ) → ℕ → ℕ → ℕ → Option (ℕ × ℕ)
better None i count need = if nat_lt count need then None else Some (i, count)
better (Some best) i count need = if nat_lt count need || nat_le best.1 count then Some best else Some (i, count)

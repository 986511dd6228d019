-- Laws of the hits among accesses, and of those that are kept.
use Rattle.std.specs.Prelude.{◌≡◌, ℕ, min, List, [], ◌++◌, take, length}
use Rattle.rv32im_step.specs.Asked.{Asked}
use Rattle.watch_points.specs.declared.span.Span.{Span}
use Rattle.watch_points.specs.declared.point.PointKind.{PointKind}
use Rattle.watch_points.specs.declared.hits.Hit.{Hit}
use Rattle.watch_points.specs.Points.{Found, hits_in, last_total, none_found, with_hits}

-- the hits of accesses, one list behind the other
abbrev pub HitsJoin : Type 0
HitsJoin = (kind : PointKind) (spans : List Span) (pid : ℕ) (xs ys : List Asked) →
    hits_in kind spans pid (xs ++ ys) ≡ hits_in kind spans pid xs ++ hits_in kind spans pid ys

-- where nothing is watched nothing hits
abbrev pub NoneWithoutSpans : Type 0
NoneWithoutSpans = (kind : PointKind) (pid : ℕ) (xs : List Asked) → hits_in kind [] pid xs ≡ []

-- what is kept of hits, one list behind the other
abbrev pub FoundJoins : Type 0
FoundJoins = (found : Found) (xs ys : List Hit) → with_hits found (xs ++ ys) ≡ with_hits (with_hits found xs) ys

-- no more hits change nothing
abbrev pub NoneAdds : Type 0
NoneAdds = (found : Found) → with_hits found [] ≡ found

-- of all hits the first are kept, and all are counted up to where the total stands still
abbrev pub AreFirst : Type 0
AreFirst = (most : ℕ) (hits : List Hit) → with_hits (none_found most) hits ≡ record { list = take most hits; total = min (length hits) last_total; most = most }

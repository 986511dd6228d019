-- The lines of hits: of a load that touches two bytes that are watched, and of a store that strays and of one that doesn't.
use Rattle.std.proofs.Common.{◌≡◌, ℕ, Bool, true, false, List, [], ◌∷◌, ◌++◌, Some, None, refl}
use Rattle.std.specs.Prelude.{codes}
use Rattle.std.specs.Fmt.{digits}
use Rattle.byte_words.specs.declared.access.AccessKind.{AccessKind}
use Rattle.byte_words.specs.declared.access.AccessKind.TheVariants.{Fetch, Load, Store}
use Rattle.rv32im_step.specs.Asked.{Asked}
use Rattle.manifest_text.specs.declared.manifest.WatchLine.{WatchLine}
use Rattle.watch_points.specs.declared.point.PointKind.{PointKind}
use Rattle.watch_points.specs.declared.point.PointKind.TheVariants.{Touch, Within}
use Rattle.watch_points.specs.declared.span.Span.{Span}
use Rattle.watch_points.specs.declared.hits.Hit.{Hit}
use Rattle.watch_points.specs.Points.{hit, hits_in}
use Rattle.suite_top.specs.Watched.{watched_text}

abbrev asked : AccessKind → (pc addr len : ℕ) → (done : Bool) → Asked
asked kind pc addr len done = record { access = record { pc = pc; addr = addr; len = len; kind = kind }; done = done }

-- what process 1 asks for: the instruction, and its data
abbrev those_of : List Asked → PointKind → List Span → List Hit
those_of asked kind spans = hits_in kind spans 1 asked

abbrev watched : (addr len : ℕ) → List WatchLine
watched addr len = record { addr = addr; len = len } ∷ []

-- `watch-hi-load`
abbrev loads : List Asked
loads = asked Fetch 0x8000_0084 0x8000_0084 4 true ∷ asked Load 0x8000_0084 0x8000_00a8 4 true ∷ []

touches : watched_text (Some Touch) (watched 0x8000_00a8 2) (those_of loads) ≡ codes "hit 1 pc 0x80000084 addr 0x800000a8 len 4 load\nhits 1\n"
unfolding digits hit hits_in
touches = refl

lies-outside : watched_text (Some Within) (watched 0x8000_00a8 2) (those_of loads) ≡ codes "hits 0\n"
unfolding digits hit hits_in
lies-outside = refl

-- the same bytes as two ranges side by side, and as one
lies-in-two : watched_text (Some Within) (watched 0x8000_00a8 2 ++ watched 0x8000_00aa 2) (those_of loads) ≡ codes "hits 0\n"
unfolding digits hit hits_in
lies-in-two = refl

lies-in-one : watched_text (Some Within) (watched 0x8000_00a8 4) (those_of loads) ≡ codes "hit 1 pc 0x80000084 addr 0x800000a8 len 4 load\nhits 1\n"
unfolding digits hit hits_in
lies-in-one = refl

-- `watch-stray-store`: the store isn't carried out, or is with `--go-on`
abbrev stores : (done : Bool) → List Asked
stores done = asked Fetch 0x8000_0088 0x8000_0088 4 true ∷ asked Store 0x8000_0088 0x8000_2040 1 done ∷ []

strays : watched_text (Some Within) (watched 0x8000_2040 1) (those_of (stores false)) ≡ codes "hits 0\n"
unfolding digits hit hits_in
strays = refl

goes-on : watched_text (Some Within) (watched 0x8000_2040 1) (those_of (stores true)) ≡ codes "hit 1 pc 0x80000088 addr 0x80002040 len 1 store\nhits 1\n"
unfolding digits hit hits_in
goes-on = refl

-- where no hits are asked for, nothing is told
nothing : watched_text None (watched 0x8000_00a8 2) (those_of loads) ≡ []
nothing = refl

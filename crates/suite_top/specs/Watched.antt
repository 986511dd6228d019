-- The hits of a run that is watched, as lines of its report.
use Rattle.std.specs.Prelude.{ℕ, List, [], ◌∷◌, ◌++◌, map, codes, decimal, Option, Some, None}
use Rattle.std.specs.List.{flat_map}
use Rattle.call_log.specs.Lines.{kind_text}
use Rattle.manifest_text.specs.declared.manifest.WatchLine.{WatchLine}
use Rattle.watch_points.specs.declared.point.PointKind.{PointKind}
use Rattle.watch_points.specs.declared.span.Span.{Span}
use Rattle.watch_points.specs.declared.hits.Hit.{Hit}
use Rattle.watch_points.specs.Points.{Found, most_hits, none_found, with_hits}
use Rattle.file_commands.specs.Texts.{joined, address_words}

-- the range of a watch line
abbrev pub span_of : WatchLine → Span
span_of l = record { addr = l.addr; len = l.len }

-- `hit PID pc 0xPC addr 0xADDR len LEN KIND`
abbrev pub hit_line : Hit → List ℕ
hit_line h = joined
    (codes "hit " ∷ decimal h.pid ∷ codes " pc " ∷ address_words h.access.pc ∷ codes " addr " ∷ address_words h.access.addr
    ∷ codes " len " ∷ decimal h.access.len ∷ codes " " ∷ kind_text h.access.kind ∷ codes "\n" ∷ [])

-- `hits TOTAL`
abbrev pub total_line : ℕ → List ℕ
total_line total = joined (codes "hits " ∷ decimal total ∷ codes "\n" ∷ [])

-- a line for each hit that is kept, and how many there were
abbrev pub found_text : Found → List ℕ
found_text found = flat_map hit_line found.list ++ total_line found.total

-- the hits of this kind that are kept of a run, whose hits in the ranges of the manifest's watch lines are these; or nothing, where none
-- are asked for
abbrev pub watched_text : Option PointKind → List WatchLine → (hits : PointKind → List Span → List Hit) → List ℕ
watched_text None watches hits = []
watched_text (Some kind) watches hits = found_text (with_hits (none_found most_hits) (hits kind (map span_of watches)))

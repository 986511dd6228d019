-- What is told of the hits of a run.
use Rattle.std.proofs.Common.{◌≡◌, ℕ, zero, suc, List, [], ◌∷◌, map, Option, Some, None, sym, ap, ◌∙◌, arith}
use Rattle.manifest_text.specs.declared.manifest.WatchLine.{WatchLine}
use Rattle.manifest_text.specs.Laws.{AreWatches}
use Rattle.watch_points.specs.declared.point.PointKind.{PointKind}
use Rattle.watch_points.specs.declared.span.Span.{Span}
use Rattle.watch_points.specs.declared.hits.Hit.{Hit}
use Rattle.watch_points.specs.Points.{AreSpans, Found, most_hits, none_found, with_hits}
use Rattle.suite_top.specs.Watched.{span_of, found_text, watched_text}

-- nothing, where none are asked for
pub none_told : (watch : Option PointKind) (watches : List WatchLine) (hits : PointKind → List Span → List Hit) → watch ≡ None → watched_text watch watches hits ≡ []
none_told watch watches hits none = ap (λ (o : Option PointKind). watched_text o watches hits) none

-- and else what was found, from none on
pub some_told : (watch : Option PointKind) (kind : PointKind) (watches : List WatchLine) (hits : PointKind → List Span → List Hit) (spans : List Span) (before after : Found) (text : List ℕ)
    → watch ≡ Some kind → spans ≡ map span_of watches → before ≡ none_found most_hits → after ≡ with_hits before (hits kind spans) → text ≡ found_text after → watched_text watch watches hits ≡ text
some_told watch kind watches hits spans before after text some are none found told =
    ap (λ (o : Option PointKind). watched_text o watches hits) some
    ∙ ap (λ (ss : List Span). found_text (with_hits (none_found most_hits) (hits kind ss))) (sym are)
    ∙ ap (λ (f : Found). found_text (with_hits f (hits kind spans))) (sym none)
    ∙ ap found_text (sym found)
    ∙ sym told

-- a watch line says a span
pub are_spans : (watches : List WatchLine) → AreWatches watches → AreSpans (map span_of watches)
are_spans [] are k d less = absurd (grind arith)
are_spans (w ∷ ws) are zero d less = record { some = are.0.some; bound = are.0.ends }
are_spans (w ∷ ws) are (suc k) d less = are_spans ws are.1 k d (grind arith)

-- The definitions at worked examples, which compute.
use Rattle.std.proofs.Common.{◌≡◌, ℕ, Bool, true, false, List, [], ◌∷◌, refl}
use Rattle.byte_words.specs.declared.access.Access.{Access}
use Rattle.rv32im_step.specs.Asked.{Asked}
use Rattle.rv32im_step.specs.Memory.{fetch_of, load_of, store_of}
use Rattle.watch_points.specs.declared.hits.Hit.{Hit}
use Rattle.watch_points.specs.declared.near.Near.{Near}
use Rattle.watch_points.specs.declared.span.Span.{Span}
use Rattle.watch_points.specs.declared.point.PointKind.{PointKind}
use Rattle.watch_points.specs.declared.point.PointKind.TheVariants.{Touch, Within}
use Rattle.watch_points.specs.Points.{hit, hits_in, none_found, with_hits}
use Rattle.watch_points.specs.Near.{near_to}

-- bytes 8 to 11, bytes 12 to 15 behind them, and the last byte of all
spans : List Span
spans = record { addr = 8; len = 4 } ∷ record { addr = 12; len = 4 } ∷ record { addr = 0xffff_ffff; len = 1 } ∷ []

-- before a span, into its first byte, all of it, over two spans, behind them, and the last byte
asks : PointKind → List Bool
asks kind = hit kind spans 4 4 ∷ hit kind spans 5 4 ∷ hit kind spans 8 4 ∷ hit kind spans 10 4 ∷ hit kind spans 16 4 ∷ hit kind spans 0xffff_ffff 1 ∷ []

touch : asks Touch ≡ false ∷ true ∷ true ∷ true ∷ false ∷ true ∷ []
unfolding asks spans hit
touch = refl

within : asks Within ≡ false ∷ false ∷ true ∷ false ∷ false ∷ true ∷ []
unfolding asks spans hit
within = refl

carried_out : Access → Asked
carried_out access = record { access = access; done = true }

-- a fetch in a span, a load and a store that hit, a store that was refused, and a load elsewhere
accesses : List Asked
accesses =
    carried_out (fetch_of 8) ∷ carried_out (load_of 8 9 1) ∷ carried_out (store_of 12 5 4) ∷
    record { access = store_of 16 8 4; done = false } ∷ carried_out (load_of 20 16 2) ∷ []

hits : hits_in Touch spans 3 accesses ≡ record { pid = 3; access = load_of 8 9 1 } ∷ record { pid = 3; access = store_of 12 5 4 } ∷ []
unfolding accesses carried_out spans hits_in hit
hits = refl

hits_within : hits_in Within spans 3 accesses ≡ record { pid = 3; access = load_of 8 9 1 } ∷ []
unfolding accesses carried_out spans hits_in hit
hits_within = refl

-- ---- what is kept: room for two

one : ℕ → Hit
one pid = record { pid = pid; access = load_of 0 8 1 }

kept : with_hits (none_found 2) (one 1 ∷ one 2 ∷ one 3 ∷ []) ≡ record { list = one 1 ∷ one 2 ∷ []; total = 3; most = 2 }
kept = refl

-- the total stands still at 2^64 - 1
full : with_hits (record { list = []; total = 0xffff_ffff_ffff_fffe; most = 0 }) (one 1 ∷ one 2 ∷ []) ≡ record { list = []; total = 0xffff_ffff_ffff_ffff; most = 0 }
full = refl

-- ---- near bytes 8 to 15: from 5 on

near : Near
near = record { low = 5; last = 10 }

close : near_to near 4 ∷ near_to near 5 ∷ near_to near 15 ∷ near_to near 16 ∷ near_to near 0xffff_ffff ∷ [] ≡ false ∷ true ∷ true ∷ false ∷ false ∷ []
unfolding near
close = refl

-- Which data accesses are told, and what is kept of them. The words are this project's; RISC-V debug specification, "Trigger
-- Module", has triggers that fire on loads and stores by their addresses.
use Rattle.std.specs.Prelude.{ℕ, zero, suc, ◌+◌, ◌-◌, ◌^◌, ◌≡◌, ◌<◌, ◌≤◌, Bool, true, false, ◌&&◌, ◌||◌, nat_le, nat_lt, min, List, [], ◌++◌, map, filter, take, length}
use Rattle.std.specs.Borrow.{Bor}
use Rattle.std.specs.List.{All, list_any}
use Rattle.byte_words.specs.declared.access.AccessKind.{AccessKind}
use Rattle.byte_words.specs.declared.access.AccessKind.TheVariants.{Load, Store}
use Rattle.rv32im_step.specs.Asked.{Asked}
use Rattle.mmap_rules.specs.Space.{all_pass}
use Rattle.watch_points.specs.declared.span.Span.{Span}
use Rattle.watch_points.specs.declared.point.PointKind.{PointKind}
use Rattle.watch_points.specs.declared.point.PointKind.TheVariants.{Touch, Within}
use Rattle.watch_points.specs.declared.point.WatchPoint.{WatchPoint}
use Rattle.watch_points.specs.declared.hits.Hit.{Hit}

-- a span has a byte, and doesn't pass 2^32
pub record IsSpan (span : Span) : Type 0 where
  pub some : 0 < span.len
  pub bound : span.addr + span.len ≤ 2 ^ 32

abbrev pub AreSpans : List Span → Type 0
AreSpans spans = All IsSpan spans

-- address a is in the span
abbrev pub in_span : Span → ℕ → Bool
in_span span a = nat_le span.addr a && nat_lt a (span.addr + span.len)

-- one of the `len` addresses from `addr` on passes a test, as `all_pass` says of all of them
abbrev pub any_pass : (ℕ → Bool) → ℕ → ℕ → Bool
any_pass test addr zero = false
any_pass test addr (suc len) = test addr || any_pass test (addr + 1) len

-- the `len` bytes at `addr` hit: for Touch one of them is in a span, for Within all of them are in one span
unfoldable pub hit : PointKind → List Span → ℕ → ℕ → Bool
hit Touch spans addr len = list_any (λ span. any_pass (in_span span) addr len) spans
hit Within spans addr len = list_any (λ span. all_pass (in_span span) addr len) spans

-- ---- closures. What a closure may be called on and what it gives is known only by the bound of the code that has it, so
-- these facts take both

-- 1 to 4 bytes that don't pass 2^32
pub record IsShort (addr len : ℕ) : Type 0 where
  pub some : 1 ≤ len
  pub few : len ≤ 4
  pub bound : addr + len ≤ 2 ^ 32

-- `pick` may be called on all spans and each such range, and answers `hit`
pub record Answers {F : Type 0} (can : F → Bor (List Span) → ℕ → ℕ → Type 0) (gives : F → Bor (List Span) → ℕ → ℕ → Bool → Type 0) (kind : PointKind) (pick : F) : Type 0 where
  pub callable : (spans : Bor (List Span)) (addr len : ℕ) → AreSpans spans.now → IsShort addr len → can pick spans addr len
  pub answers : (spans : Bor (List Span)) (addr len : ℕ) (answer : Bool) → AreSpans spans.now → IsShort addr len → gives pick spans addr len answer → answer ≡ hit kind spans.now addr len

-- the same of a watch point
abbrev pub IsPoint : {F : Type 0} → (F → Bor (List Span) → ℕ → ℕ → Type 0) → (F → Bor (List Span) → ℕ → ℕ → Bool → Type 0) → WatchPoint F → Type 0
IsPoint can gives point = Answers can gives point.kind point.pick

-- the kind that a watch point answers
abbrev pub kind_of_point : {F : Type 0} → WatchPoint F → PointKind
kind_of_point point = point.kind

-- ---- hits

abbrev pub is_data : AccessKind → Bool
is_data Load = true
is_data Store = true
is_data other = false

-- a load or store that was carried out, and hits
abbrev pub is_hit : PointKind → List Span → Asked → Bool
is_hit kind spans one = is_data one.access.kind && one.done && hit kind spans one.access.addr one.access.len

-- those among the accesses of a process, in their order
unfoldable pub hits_in : PointKind → List Span → ℕ → List Asked → List Hit
hits_in kind spans pid asked = map (λ one. record { pid = pid; access = one.access }) (filter (is_hit kind spans) asked)

-- ---- what is kept of them

-- the first `most` hits, and how many there were
pub record Found : Type 0 where
  pub list : List Hit
  pub total : ℕ
  pub most : ℕ

-- how many hits a run that is watched keeps
abbrev pub most_hits : ℕ
most_hits = 65536

-- where the total stands still
abbrev pub last_total : ℕ
last_total = 2 ^ 64 - 1

-- no hit yet
abbrev pub none_found : ℕ → Found
none_found most = record { list = []; total = 0; most = most }

-- with more hits behind: as many as there is room for are kept, and all are counted
abbrev pub with_hits : Found → List Hit → Found
with_hits found more = record found {
  list = found.list ++ take (found.most - length found.list) more;
  total = found.total + min (length more) (last_total - found.total);
}

-- Hits among accesses, and those that are kept.
use Rattle.std.proofs.Common.{◌≡◌, ℕ, zero, suc, ◌+◌, ◌-◌, ◌<◌, ◌≤◌, Bool, true, false, ◌&&◌, List, [], ◌∷◌, ◌++◌, take, length, refl, sym, ap, ◌∙◌, arith}
use Rattle.std.specs.Prelude.{min, filter, cond, ◌==◌}
use Rattle.std.proofs.lemmas.Bool.Decides.{nat_tests}
use Rattle.std.proofs.lemmas.List.{map-append, length-append, append-nil, append_assoc, length-take}
use Rattle.std.proofs.lemmas.List.Elements.{filter-append}
use Rattle.rv32im_step.specs.Asked.{Asked}
use Rattle.watch_points.specs.declared.span.Span.{Span}
use Rattle.watch_points.specs.declared.point.PointKind.{PointKind}
use Rattle.watch_points.specs.declared.point.PointKind.TheVariants.{Touch, Within}
use Rattle.watch_points.specs.declared.hits.Hit.{Hit}
use Rattle.watch_points.specs.Points.{Found, is_data, is_hit, hit, hits_in, last_total, none_found, with_hits}

pub hits_in-append : (kind : PointKind) (spans : List Span) (pid : ℕ) (xs ys : List Asked) → hits_in kind spans pid (xs ++ ys) ≡ hits_in kind spans pid xs ++ hits_in kind spans pid ys
unfolding hits_in
hits_in-append kind spans pid xs ys = rw (filter-append (is_hit kind spans) xs ys) (map-append _ (filter (is_hit kind spans) xs) (filter (is_hit kind spans) ys))

pub hits_in-nil : (kind : PointKind) (spans : List Span) (pid : ℕ) → hits_in kind spans pid [] ≡ []
unfolding hits_in
hits_in-nil kind spans pid = refl

no_hit : (kind : PointKind) (addr len : ℕ) → hit kind [] addr len ≡ false
unfolding hit
no_hit Touch addr len = refl
no_hit Within addr len = refl

none_pass : (kind : PointKind) (xs : List Asked) → filter (is_hit kind []) xs ≡ []
none_pass kind [] = refl
none_pass kind (x ∷ xs) = by (is_data x.access.kind) x.done (none_pass kind xs)
  where
    by : (loads done : Bool) → filter (is_hit kind []) xs ≡ [] → cond (loads && done && hit kind [] x.access.addr x.access.len) (x ∷ filter (is_hit kind []) xs) (filter (is_hit kind []) xs) ≡ []
    by true true rest = rw (no_hit kind x.access.addr x.access.len) rest
    by true false rest = rest
    by false done rest = rest

pub hits_in-unwatched : (kind : PointKind) (pid : ℕ) (xs : List Asked) → hits_in kind [] pid xs ≡ []
unfolding hits_in
hits_in-unwatched kind pid xs = rw (none_pass kind xs) refl

-- ---- what is kept

abbrev no_hits : List Hit
no_hits = []

take_none : (k : ℕ) → take k no_hits ≡ no_hits
take_none zero = refl
take_none (suc k) = refl

take_both : (k : ℕ) (xs ys : List Hit) → take k (xs ++ ys) ≡ take k xs ++ take (k - length xs) ys
take_both zero xs ys = let none : 0 - length xs ≡ 0 = omega arith in rw none refl
take_both (suc k) [] ys = let all : suc k - 0 ≡ suc k = omega arith in rw all refl
take_both (suc k) (x ∷ xs) ys = let left : suc k - suc (length xs) ≡ k - length xs = omega arith in rw left (ap (λ (zs : List Hit). x ∷ zs) (take_both k xs ys))

room_left : (most : ℕ) (list xs : List Hit) → most - length (list ++ take (most - length list) xs) ≡ most - length list - length xs
room_left most list xs = rw (length-append list (take (most - length list) xs), length-take (most - length list) xs) (omega arith)

found_same : (found : Found) (list more : List Hit) (total sum : ℕ) → list ≡ more → total ≡ sum
    → record found { list = list; total = total } ≡ record found { list = more; total = sum }
found_same found list more total sum p q = rw (p, q) refl

pub with_hits-nil : (found : Found) → with_hits found [] ≡ found
with_hits-nil found =
    found_same found _ found.list _ found.total (ap (λ (zs : List Hit). found.list ++ zs) (take_none (found.most - length found.list)) ∙ append-nil found.list) (omega arith)

pub with_hits-append : (found : Found) (xs ys : List Hit) → with_hits found (xs ++ ys) ≡ with_hits (with_hits found xs) ys
with_hits-append found xs ys = found_same found _ _ _ _ lists (rw (length-append xs ys) (omega arith))
  where
    room : ℕ
    room = found.most - length found.list

    lists : found.list ++ take room (xs ++ ys) ≡ (found.list ++ take room xs) ++ take (found.most - length (found.list ++ take room xs)) ys
    lists = rw (room_left found.most found.list xs, take_both room xs ys) (sym (append_assoc found.list (take room xs) (take (room - length xs) ys)))

pub with_hits-first : (most : ℕ) (hits : List Hit) → with_hits (none_found most) hits ≡ record { list = take most hits; total = min (length hits) last_total; most = most }
with_hits-first most hits =
    let all : most - 0 ≡ most = omega arith in
    found_same (none_found most) _ _ _ _ (rw all refl) (omega arith)

-- where nothing is watched nothing is added
no_spans : (spans : List Span) → (length spans == 0) ≡ true → spans ≡ []
no_spans [] is = refl
no_spans (span ∷ spans) is = let zero : suc (length spans) ≡ 0 = grind (arith, nat_tests, is) in absurd (omega (arith, zero))

pub unwatched : (found : Found) (kind : PointKind) (spans : List Span) (pid : ℕ) (xs : List Asked) → (length spans == 0) ≡ true → found ≡ with_hits found (hits_in kind spans pid xs)
unwatched found kind spans pid xs is = rw (no_spans spans is) (sym (ap (with_hits found) (hits_in-unwatched kind pid xs) ∙ with_hits-nil found))

-- one more is kept where there is room, and counted up to where the total stands still
pub one_kept : (found : Found) (one : Hit) (total : ℕ) → length found.list < found.most → total ≡ found.total + min 1 (last_total - found.total)
    → record found { list = found.list ++ one ∷ []; total = total } ≡ with_hits found (one ∷ [])
one_kept found one total less is =
    let room : found.most - length found.list ≡ suc (found.most - length found.list - 1) = omega arith in
    found_same found _ _ _ _ (rw (room, take_none (found.most - length found.list - 1)) refl) is

pub one_counted : (found : Found) (one : Hit) (total : ℕ) → found.most ≤ length found.list → total ≡ found.total + min 1 (last_total - found.total)
    → record found { total = total } ≡ with_hits found (one ∷ [])
one_counted found one total full is =
    let room : found.most - length found.list ≡ 0 = omega arith in
    found_same found found.list _ _ _ (rw room (sym (append-nil found.list))) is

pub ruleset kept = (one_kept, one_counted)

-- A group's number at addresses that are raised, against the counts of the group.
use Rattle.std.proofs.Common.{◌≡◌, ℕ, zero, suc, ◌+◌, ◌-◌, ◌*◌, ◌%◌, ◌^◌, ◌<◌, ◌==◌, not, Bool, true, false, List, [], ◌∷◌, ◌++◌, ◌&&◌, ◌||◌, ◌≢◌, if◌then◌else◌, Some, None, refl, sym, ap, ◌∙◌, arith}
use Rattle.std.proofs.lemmas.Bool.{eqb-true, eqb-false}
use Rattle.std.specs.List.{AllByRecursion as Each}
use Rattle.byte_words.specs.Search.{first}
use Rattle.std.proofs.Math.Nat.{mod-eq_of_lt}
use Rattle.std.proofs.lemmas.Nat.{pow_pos, mod_below}
use Rattle.elf32_reader.specs.Relas.{rela_count}
use Rattle.psabi_relocs.specs.declared.reloc.Reloc.{Reloc}
use Rattle.psabi_relocs.specs.declared.row.Row.{Row}
use Rattle.psabi_relocs.specs.declared.row.Row.TheVariants.{Group}
use Rattle.psabi_relocs.specs.declared.row.Width.{Width}
use Rattle.psabi_relocs.specs.declared.row.Step.{Step}
use Rattle.psabi_relocs.specs.declared.row.Step.TheVariants.{Add, Sub, Set}
use Rattle.psabi_relocs.specs.declared.group.Sum.{Sum}
use Rattle.psabi_relocs.specs.declared.fault.RelocFault.{RelocFault}
use Rattle.psabi_relocs.specs.declared.fault.RelocFault.TheVariants as faults
use Rattle.psabi_relocs.specs.Class.{is_moving}
use Rattle.psabi_relocs.specs.Row.{is_same, is_mark, is_unknown, is_got_hi20, is_absolute, is_relative}
use Rattle.psabi_relocs.specs.Reloc.{reloc}
use Rattle.psabi_relocs.specs.Field.{moved, is_mismatch}
use Rattle.std.specs.Option.{is_none}
use Rattle.psabi_relocs.specs.Pair.{low_of}
use Rattle.psabi_relocs.specs.Group.{count, stepped, row_step, sum_below, is_balanced}
use Rattle.psabi_relocs.specs.Fault.{is_bad, is_undefined, is_weak, is_fixed, is_place_outside, is_lone_low, is_unbalanced, is_unpaired, first_fault, reloc_fault}
use Rattle.psabi_relocs.specs.Difference.{bits, computed, row_number, number_below, group_number}
use Rattle.psabi_relocs.specs.Laws.{group_sum, BalancedLaw, UnbalancedLaw, SameCountsLaw, AcceptedGroupLaw, UnpairedGroupLaw}
use Rattle.psabi_relocs.proofs.Congruence.{IsAs, as_itself, as_back, as_both, as_rest, as_more, as_lack, as_less}

-- the number is raised by d as often as the sum counts: nd at raised addresses, n0 at linked ones
record IsRaised (m d nd n0 : ℕ) (s : Sum) : Type 0 where
  counted : IsAs m (nd + s.minus * d) (n0 + s.plus * d)
  raised_fits : nd < m
  fits : n0 < m

-- ---- one step; `c` is how often its symbol counts

add_step : (m d nd n0 sd s0 c plus minus : ℕ) → 0 < m → sd ≡ s0 + c * d → IsAs m (nd + minus * d) (n0 + plus * d)
    → IsAs m ((nd + sd) % m + minus * d) ((n0 + s0) % m + (plus + c) * d)
add_step m d nd n0 sd s0 c plus minus above is before =
    let left = as_more m _ _ (minus * d) (as_rest m (nd + sd)) in
    let more = as_more m _ _ sd before in
    let right = as_more m _ _ ((plus + c) * d) (as_rest m (n0 + s0)) in
    let first : (nd + sd) + minus * d ≡ (nd + minus * d) + sd = omega arith in
    let second : (n0 + plus * d) + sd ≡ (n0 + s0) + (plus + c) * d = omega arith in
    as_both m _ _ _ left (as_both m _ _ _ (as_itself m _ _ first) (as_both m _ _ _ more (as_both m _ _ _ (as_itself m _ _ second) (as_back m _ _ right))))

sub_step : (m d nd n0 sd s0 c plus minus : ℕ) → 0 < m → sd ≡ s0 + c * d → IsAs m (nd + minus * d) (n0 + plus * d)
    → IsAs m ((nd + (m - sd % m)) % m + (minus + c) * d) ((n0 + (m - s0 % m)) % m + plus * d)
sub_step m d nd n0 sd s0 c plus minus above is before =
    let raised = m - sd % m in
    let linked = m - s0 % m in
    let left = as_more m _ _ ((minus + c) * d) (as_rest m (nd + raised)) in
    let right = as_more m _ _ (plus * d) (as_rest m (n0 + linked)) in
    let first : ((nd + raised) + (minus + c) * d) + s0 ≡ (nd + minus * d) + (sd + raised) = omega arith in
    let second : ((n0 + linked) + plus * d) + s0 ≡ (n0 + plus * d) + (s0 + linked) = omega arith in
    let one = as_both m _ _ _ (as_itself m _ _ first) (as_lack m (nd + minus * d) sd above) in
    let other = as_both m _ _ _ (as_itself m _ _ second) (as_lack m (n0 + plus * d) s0 above) in
    let middle = as_less m ((nd + raised) + (minus + c) * d) ((n0 + linked) + plus * d) s0 above (as_both m _ _ _ one (as_both m _ _ _ before (as_back m _ _ other))) in
    as_both m _ _ _ left (as_both m _ _ _ middle (as_back m _ _ right))

set_step : (m d sd s0 c : ℕ) → sd ≡ s0 + c * d → IsAs m (sd % m + 0 * d) (s0 % m + c * d)
set_step m d sd s0 c is =
    let left = as_more m _ _ (0 * d) (as_rest m sd) in
    let right = as_more m _ _ (c * d) (as_rest m s0) in
    let middle : sd + 0 * d ≡ s0 + c * d = omega arith in
    as_both m _ _ _ left (as_both m _ _ _ (as_itself m _ _ middle) (as_back m _ _ right))

one_step : (m d nd n0 sd s0 : ℕ) (step : Step) (moves : Bool) (s : Sum) → 0 < m → sd ≡ s0 + count moves * d → IsRaised m d nd n0 s
    → IsRaised m d (computed step m sd nd) (computed step m s0 n0) (stepped step moves s)
one_step m d nd n0 sd s0 Add moves s above is h = record {
  counted = add_step m d nd n0 sd s0 (count moves) s.plus s.minus above is h.counted;
  raised_fits = mod_below (nd + sd) m above;
  fits = mod_below (n0 + s0) m above;
}
one_step m d nd n0 sd s0 Sub moves s above is h = record {
  counted = sub_step m d nd n0 sd s0 (count moves) s.plus s.minus above is h.counted;
  raised_fits = mod_below (nd + (m - sd % m)) m above;
  fits = mod_below (n0 + (m - s0 % m)) m above;
}
one_step m d nd n0 sd s0 Set moves s above is h = record {
  counted = set_step m d sd s0 (count moves) is;
  raised_fits = mod_below sd m above;
  fits = mod_below s0 m above;
}

-- ---- the entries of a section

one_if : (m d nd n0 md m0 : ℕ) (b : Bool) (new s : Sum) → IsRaised m d nd n0 s → IsRaised m d md m0 new
    → IsRaised m d (if b then md else nd) (if b then m0 else n0) (if b then new else s)
one_if m d nd n0 md m0 true new s h k = k
one_if m d nd n0 md m0 false new s h k = h

one_row : (width : Width) (m d nd n0 sd s0 : ℕ) (row : Row) (moves : Bool) (s : Sum) → 0 < m → sd ≡ s0 + count moves * d → IsRaised m d nd n0 s
    → IsRaised m d (row_number width m row sd nd) (row_number width m row s0 n0) (row_step width row moves s)
one_row width m d nd n0 sd s0 (Group own step) moves s above is h =
    one_if m d nd n0 (computed step m sd nd) (computed step m s0 n0) (is_same own width) (stepped step moves s) s h (one_step m d nd n0 sd s0 step moves s above is h)
one_row width m d nd n0 sd s0 _ moves s above is h = h

raised_by : (d value addend : ℕ) (moves : Bool) → (value + (if moves then d else 0)) + addend ≡ ((value + (if moves then 0 else 0)) + addend) + count moves * d
raised_by d value addend true = omega arith
raised_by d value addend false = omega arith

raised_below : (e : List ℕ) (i q : ℕ) (width : Width) (m d v n : ℕ) → v < m
    → IsRaised m d (number_below e i q width m d v n) (number_below e i q width m 0 v n) (sum_below e i q width n)
unfolding sum_below number_below
raised_below e i q width m d v zero fits =
    let same : v + 0 * d ≡ v + 0 * d = refl in record { counted = as_itself m _ _ same; raised_fits = fits; fits = fits }
raised_below e i q width m d v (suc n) fits =
    let h = raised_below e i q width m d v n fits in
    let r = reloc e i n in
    let raised = number_below e i q width m d v n in
    let linked = number_below e i q width m 0 v n in
    let s = sum_below e i q width n in
    let above : 0 < m = omega arith in
    one_if m d raised linked _ _ (r.place == q) (row_step width r.row (is_moving r.class) s) s h
    (one_row width m d raised linked (moved d r + r.addend) (moved 0 r + r.addend) r.row (is_moving r.class) s above (raised_by d r.value r.addend (is_moving r.class)) h)

raised_group : (e : List ℕ) (i q : ℕ) (width : Width) (bytes d v : ℕ) → v < 2 ^ bits width bytes
    → IsRaised (2 ^ bits width bytes) d (group_number e i q width bytes d v) (group_number e i q width bytes 0 v) (group_sum e i q width)
unfolding group_number
raised_group e i q width bytes d v fits = raised_below e i q width (2 ^ bits width bytes) d v (rela_count e i) fits

-- ---- the laws of sums

small_same : (m a b : ℕ) → IsAs m a b → a < m → b < m → a ≡ b
small_same m a b is left right = sym (mod-eq_of_lt left) ∙ is.same ∙ mod-eq_of_lt right

same_of_equal : (m d nd n0 : ℕ) (s : Sum) → s.plus ≡ s.minus → IsRaised m d nd n0 s → nd ≡ n0
same_of_equal m d nd n0 s equal h =
    let above : 0 < m = omega (arith, h.fits) in
    small_same m nd n0 (as_less m nd n0 (s.minus * d) above (as_both m _ _ _ h.counted (as_itself m _ _ (ap (λ k. n0 + k * d) equal)))) h.raised_fits h.fits

pub balanced_law : BalancedLaw
balanced_law e i q width bytes balanced d v fits =
    same_of_equal (2 ^ bits width bytes) d _ _ (group_sum e i q width) (eqb-true _ _ balanced) (raised_group e i q width bytes d v fits)

counts_of_same : (m nd n0 : ℕ) (s : Sum) → nd ≡ n0 → IsRaised m 1 nd n0 s → IsAs m s.plus s.minus
counts_of_same m nd n0 s same h =
    let above : 0 < m = omega (arith, h.fits) in
    let left : s.plus + n0 ≡ n0 + s.plus * 1 = omega arith in
    let right : nd + s.minus * 1 ≡ s.minus + n0 = omega arith in
    as_less m s.plus s.minus n0 above (as_both m _ _ _ (as_itself m _ _ left) (as_both m _ _ _ (as_back m _ _ h.counted) (as_itself m _ _ right)))

pub same_counts_law : SameCountsLaw
same_counts_law e i q width bytes same =
    let fits : 0 < 2 ^ bits width bytes = pow_pos (bits width bytes) in
    (counts_of_same (2 ^ bits width bytes) _ _ (group_sum e i q width) (same 1 0 fits) (raised_group e i q width bytes 1 0 fits)).same

unbalanced_counts : (s : Sum) → is_balanced s ≡ false → s.plus ≡ s.minus → ⊥
unbalanced_counts s unbalanced same = eqb-false s.plus s.minus unbalanced same

pub unbalanced_law : UnbalancedLaw
unbalanced_law e i q width bytes small unbalanced v fits same =
    let s = group_sum e i q width in
    unbalanced_counts s unbalanced (small_same (2 ^ bits width bytes) s.plus s.minus (counts_of_same (2 ^ bits width bytes) _ _ s same (raised_group e i q width bytes 1 v fits)) small.0 small.1)

-- ---- the laws of faults

true_from_not_false : (b : Bool) → not b ≡ false → b ≡ true
true_from_not_false true is = refl
true_from_not_false false is = absurd (cc)

false_from_not_true : (b : Bool) → not b ≡ true → b ≡ false
false_from_not_true true is = absurd (cc)
false_from_not_true false is = refl

-- the rows of the fault table before the ninth
abbrev earlier : List ℕ → ℕ → Reloc → List (Bool × RelocFault)
earlier e i r =
    (is_unknown r.row, faults.UnknownType)
    ∷ (is_bad r.class, faults.BadSymbol)
    ∷ (is_undefined r.class, faults.Undefined)
    ∷ (is_place_outside e i r, faults.PlaceOutside)
    ∷ (is_absolute r.row && is_moving r.class, faults.AbsoluteCode)
    ∷ (is_relative r.row && is_weak r.class, faults.WeakPcrel)
    ∷ (is_relative r.row && is_fixed r.class, faults.AbsPcrel)
    ∷ (is_lone_low e i r, faults.LoneLow)
    ∷ []

-- the ninth row decides, as far as none before it holds, and none before it is the same fault
ninth_none : {F : Type 0} (before : List (Bool × F)) (b : Bool) (f : F) (rest : List (Bool × F)) → first (before ++ ((b, f) ∷ rest)) ≡ None → b ≡ false
ninth_none [] true f rest none = absurd (cc)
ninth_none [] false f rest none = refl
ninth_none ((true, g) ∷ before) b f rest none = absurd (cc)
ninth_none ((false, g) ∷ before) b f rest none = ninth_none before b f rest none

ninth_some : {F : Type 0} (before : List (Bool × F)) (b c : Bool) (f g : F) → Each (λ row. row.1 ≢ f) before → g ≢ f → first (before ++ ((b, f) ∷ (c, g) ∷ [])) ≡ Some f → b ≡ true
ninth_some [] true c f g others other some = refl
ninth_some [] false true f g others other some = absurd (other (let same : g ≡ f = cc in same))
ninth_some [] false false f g others other some = absurd (cc)
ninth_some ((true, h) ∷ before) b c f g others other some = absurd (others.0 (let same : h ≡ f = cc in same))
ninth_some ((false, h) ∷ before) b c f g others other some = ninth_some before b c f g others.1 other some

plain_group : (row : Row) (width : Width) (step : Step) → row ≡ Group width step → is_mark row ≡ false
plain_group row width step is = ap is_mark is

group_unpaired : (e : List ℕ) (i : ℕ) (r : Reloc) (width : Width) (step : Step) → r.row ≡ Group width step → is_unpaired e i r ≡ not (is_balanced (group_sum e i r.place width))
unfolding is_unpaired
group_unpaired e i r width step is = ap (λ row. (is_got_hi20 row && is_none (low_of e i r.place)) || is_unbalanced row e i r.place) is

accepted_unpaired : (e : List ℕ) (i j : ℕ) → is_mark (reloc e i j).row ≡ false → reloc_fault e i j ≡ None → is_unpaired e i (reloc e i j) ≡ false
unfolding reloc_fault first_fault
accepted_unpaired e i j plain none =
    let r = reloc e i j in
    ninth_none (earlier e i r) (is_unpaired e i r) faults.Unpaired ((is_mismatch e i r, faults.FieldMismatch) ∷ []) (rw plain at none)

refused_unpaired : (e : List ℕ) (i j : ℕ) → is_mark (reloc e i j).row ≡ false → reloc_fault e i j ≡ Some faults.Unpaired → is_unpaired e i (reloc e i j) ≡ true
unfolding reloc_fault first_fault
refused_unpaired e i j plain some =
    let r = reloc e i j in
    ninth_some (earlier e i r) (is_unpaired e i r) (is_mismatch e i r) faults.Unpaired faults.FieldMismatch
    ((λ same. cc), ((λ same. cc), ((λ same. cc), ((λ same. cc), ((λ same. cc), ((λ same. cc), ((λ same. cc), ((λ same. cc), tt))))))))
    (λ same. cc) (rw plain at some)

pub accepted_group_law : AcceptedGroupLaw
accepted_group_law e i j width step bytes is none =
    let r = reloc e i j in
    let unpaired = accepted_unpaired e i j (plain_group r.row width step is) none in
    balanced_law e i r.place width bytes (true_from_not_false _ (sym (group_unpaired e i r width step is) ∙ unpaired))

pub unpaired_group_law : UnpairedGroupLaw
unpaired_group_law e i j width step bytes is small some =
    let r = reloc e i j in
    let unpaired = refused_unpaired e i j (plain_group r.row width step is) some in
    unbalanced_law e i r.place width bytes small (false_from_not_true _ (sym (group_unpaired e i r width step is) ∙ unpaired))

-- The manifest so far, with one more line.
use Rattle.std.proofs.Common.{◌≡◌, ℕ, zero, suc, ◌+◌, ◌<◌, Bool, true, false, cond, List, [], ◌∷◌, ◌++◌, map, length, get_or, take, drop, add-zero, add-one, drop-cons, Some, None, Result, Ok, Err, refl, sym, ap, ◌∙◌, arith}
use Rattle.std.specs.Prelude.{nat_lt, ◌&&◌}
use Rattle.std.specs.List.{list_all, filter_map, flat_map}
use Rattle.std.proofs.lemmas.Bool.Decides.{nat_tests}
use Rattle.std.proofs.lemmas.List.{append-nil, drop-map}
use Rattle.std.proofs.lemmas.Grind.{flat_map-append}
use Rattle.std.proofs.lemmas.List.Elements.{filter_map-append}
use Rattle.manifest_text.specs.declared.fault.ManifestFault.{ManifestFault}
use Rattle.manifest_text.specs.declared.fault.ManifestFault.TheVariants.{Repeated}
use Rattle.manifest_text.specs.Lines.{Line, Said, nothing, memory, item, start, quanta, repeat, dump, watch, line_said}
use Rattle.manifest_text.specs.Manifest.{Draft, pages_in, item_in, start_in, quanta_in, count_in, dump_in, watch_in, draft_of, late_fault, fault_in, ok_said, all_said, or_later, first_fault, numbered}
use Rattle.manifest_text.specs.declared.fault.ManifestRefusal.{ManifestRefusal}
use Rattle.manifest_text.specs.declared.fault.ManifestRefusal.TheVariants.{At, Memory}
use Rattle.manifest_text.specs.Pieces.{Text}
use Rattle.manifest_text.specs.Reading.{added, added_line, AddsLine, Drafts}

-- the draft of more lines, by its parts
module _ (saids : List Said) (said : Said) where
  with_parts : Draft
  with_parts = record {
    pages = filter_map pages_in saids ++ filter_map pages_in (said ∷ []);
    items = filter_map item_in saids ++ filter_map item_in (said ∷ []);
    starts = filter_map start_in saids ++ filter_map start_in (said ∷ []);
    quanta = flat_map quanta_in saids ++ flat_map quanta_in (said ∷ []);
    counts = filter_map count_in saids ++ filter_map count_in (said ∷ []);
    dumps = filter_map dump_in saids ++ filter_map dump_in (said ∷ []);
    watches = filter_map watch_in saids ++ filter_map watch_in (said ∷ []);
  }

  in_parts : draft_of (saids ++ said ∷ []) ≡ with_parts
  unfolding draft_of with_parts
  in_parts = rw (
    filter_map-append pages_in saids (said ∷ []),
    filter_map-append item_in saids (said ∷ []),
    filter_map-append start_in saids (said ∷ []),
    flat_map-append quanta_in saids (said ∷ []),
    filter_map-append count_in saids (said ∷ []),
    filter_map-append dump_in saids (said ∷ []),
    filter_map-append watch_in saids (said ∷ []),
  ) refl

and_false : (b : Bool) → (b && false) ≡ false
and_false true = refl
and_false false = refl

none_yet : (xs : List ℕ) → cond (nat_lt 0 (length xs)) (Some Repeated) None ≡ None → xs ≡ []
none_yet [] h = refl
none_yet (x ∷ xs) h =
    let more : nat_lt 0 (length (x ∷ xs)) ≡ true = grind (arith, nat_tests) in
    absurd (let e : Some Repeated ≡ None = ap (λ (b : Bool). cond b (Some Repeated) None) (sym more) ∙ h in cc)

pub draft_more : (saids : List Said) (said : Said) → late_fault (draft_of saids) said ≡ None → draft_of (saids ++ said ∷ []) ≡ added (draft_of saids) said
unfolding draft_of late_fault with_parts
draft_more saids nothing h = in_parts saids nothing ∙ rw (append-nil (filter_map pages_in saids), append-nil (filter_map item_in saids), append-nil (filter_map start_in saids), append-nil (flat_map quanta_in saids), append-nil (filter_map count_in saids), append-nil (filter_map dump_in saids), append-nil (filter_map watch_in saids)) refl
draft_more saids (memory pages) h = in_parts saids (memory pages) ∙ rw (none_yet (filter_map pages_in saids) h, append-nil (filter_map item_in saids), append-nil (filter_map start_in saids), append-nil (flat_map quanta_in saids), append-nil (filter_map count_in saids), append-nil (filter_map dump_in saids), append-nil (filter_map watch_in saids)) refl
draft_more saids (item i) h = in_parts saids (item i) ∙ rw (append-nil (filter_map pages_in saids), append-nil (filter_map start_in saids), append-nil (flat_map quanta_in saids), append-nil (filter_map count_in saids), append-nil (filter_map dump_in saids), append-nil (filter_map watch_in saids)) refl
draft_more saids (start s) h = in_parts saids (start s) ∙ rw (append-nil (filter_map pages_in saids), append-nil (filter_map item_in saids), append-nil (flat_map quanta_in saids), append-nil (filter_map count_in saids), append-nil (filter_map dump_in saids), append-nil (filter_map watch_in saids)) refl
draft_more saids (quanta qs) h = in_parts saids (quanta qs) ∙ rw (append-nil (filter_map pages_in saids), append-nil (filter_map item_in saids), append-nil (filter_map start_in saids), append-nil qs, append-nil (filter_map count_in saids), append-nil (filter_map dump_in saids), append-nil (filter_map watch_in saids)) refl
draft_more saids (repeat n) h = in_parts saids (repeat n) ∙ rw (append-nil (filter_map pages_in saids), append-nil (filter_map item_in saids), append-nil (filter_map start_in saids), append-nil (flat_map quanta_in saids), none_yet (filter_map count_in saids) h, append-nil (filter_map dump_in saids), append-nil (filter_map watch_in saids)) refl
draft_more saids (dump d) h = in_parts saids (dump d) ∙ rw (append-nil (filter_map pages_in saids), append-nil (filter_map item_in saids), append-nil (filter_map start_in saids), append-nil (flat_map quanta_in saids), append-nil (filter_map count_in saids), append-nil (filter_map watch_in saids)) refl
draft_more saids (watch w) h = in_parts saids (watch w) ∙ rw (append-nil (filter_map pages_in saids), append-nil (filter_map item_in saids), append-nil (filter_map start_in saids), append-nil (flat_map quanta_in saids), append-nil (filter_map count_in saids), append-nil (filter_map dump_in saids)) refl

-- ---- one more line

said_more : (before : List Line) (line : Line) (r : Result Said ManifestFault) → line_said line ≡ r → all_said (before ++ line ∷ []) ≡ all_said before ++ filter_map ok_said (r ∷ [])
unfolding all_said
said_more before line r is = filter_map-append (λ l. ok_said (line_said l)) before (line ∷ []) ∙ ap (λ x. filter_map (λ l. ok_said (line_said l)) before ++ filter_map ok_said (x ∷ [])) is

pub line_more : (before : List Line) (line : Line) (d : Draft) (r : Result Said ManifestFault) → line_said line ≡ r → d ≡ draft_of (all_said before) → fault_in d r ≡ None → added_line d r ≡ draft_of (all_said (before ++ line ∷ []))
line_more before line d (Ok said) is same none =
    ap (λ x. added x said) same
    ∙ sym (draft_more (all_said before) said (ap (λ x. late_fault x said) (sym same) ∙ none))
    ∙ ap draft_of (sym (said_more before line (Ok said) is))
line_more before line d (Err fault) is same none = absurd cc

pub fault_later : (before : List Line) (line : Line) (lines : List Line) (d : Draft) → d ≡ draft_of (all_said before) → fault_in d (line_said line) ≡ None → first_fault before (line ∷ lines) ≡ first_fault (before ++ line ∷ []) lines
unfolding first_fault
fault_later before line lines d same none =
    ap (λ o. or_later line.number o (first_fault (before ++ line ∷ []) lines)) (ap (λ x. fault_in x (line_said line)) (sym same) ∙ none)

pub fault_here : (before : List Line) (line : Line) (lines : List Line) (d : Draft) (fault : ManifestFault) → d ≡ draft_of (all_said before) → fault_in d (line_said line) ≡ Some fault → first_fault before (line ∷ lines) ≡ Some (record { line = line.number; fault = fault })
unfolding first_fault
fault_here before line lines d fault same is =
    ap (λ o. or_later line.number o (first_fault (before ++ line ∷ []) lines)) (ap (λ x. fault_in x (line_said line)) (sym same) ∙ is)

pub no_fault : (before : List Line) → first_fault before [] ≡ None
unfolding first_fault
no_fault before = refl

-- ---- a list, opened at a place

pub take_open : {A : Type 0} (xs : List A) (i : ℕ) (x : A) (rest : List A) → drop i xs ≡ x ∷ rest → take (suc i) xs ≡ take i xs ++ x ∷ []
take_open [] zero x rest h = absurd cc
take_open [] (suc i) x rest h = absurd cc
take_open (y ∷ ys) zero x rest h = let same : y ≡ x = cc in ap (λ z. z ∷ []) same
take_open (y ∷ ys) (suc i) x rest h = ap (λ zs. y ∷ zs) (take_open ys i x rest h)

drop_numbered : (n i : ℕ) (ts : List Text) → drop i (numbered n ts) ≡ numbered (n + i) (drop i ts)
drop_numbered n zero ts = ap (λ k. numbered k ts) (sym (add-zero n))
drop_numbered n (suc i) [] = refl
drop_numbered n (suc i) (t ∷ ts) =
    let place : n + 1 + i ≡ n + suc i = omega arith in
    drop_numbered (n + 1) i ts ∙ ap (λ k. numbered k (drop i ts)) place

-- the line at a place
pub line_at : (ts : List Text) (i : ℕ) (t : Text) → drop i ts ≡ t ∷ drop (i + 1) ts → drop i (numbered 1 ts) ≡ record { number = i + 1; text = t } ∷ drop (i + 1) (numbered 1 ts)
line_at ts i t h =
    let here : 1 + i ≡ i + 1 = omega arith in
    let next : 1 + i + 1 ≡ 1 + (i + 1) = omega arith in
    drop_numbered 1 i ts
    ∙ ap (numbered (1 + i)) h
    ∙ ap (λ k. record { number = k; text = t } ∷ numbered (1 + i + 1) (drop (i + 1) ts)) here
    ∙ ap (λ ls. record { number = i + 1; text = t } ∷ ls) (ap (λ k. numbered k (drop (i + 1) ts)) next ∙ sym (drop_numbered 1 (i + 1) ts))

pub length_numbered : (n : ℕ) (ts : List Text) → length (numbered n ts) ≡ length ts
length_numbered n [] = refl
length_numbered n (t ∷ ts) = ap suc (length_numbered (n + 1) ts)

-- ---- the loop over all lines

module _ (lines : List Line) (i : ℕ) (line : Line) (d : Draft) (open_at : drop i lines ≡ line ∷ drop (i + 1) lines) (same : d ≡ draft_of (all_said (take i lines))) (so_far : first_fault (take i lines) (drop i lines) ≡ first_fault [] lines) where
  more : take (i + 1) lines ≡ take i lines ++ line ∷ []
  more = ap (λ n. take n lines) (add-one i) ∙ take_open lines i line (drop (i + 1) lines) open_at

  pub draft_goes_on : (later : Draft) → fault_in d (line_said line) ≡ None → later ≡ added_line d (line_said line) → later ≡ draft_of (all_said (take (i + 1) lines))
  draft_goes_on later none is =
      is ∙ line_more (take i lines) line d (line_said line) refl same none ∙ ap (λ ls. draft_of (all_said ls)) (sym more)

  pub fault_goes_on : fault_in d (line_said line) ≡ None → first_fault (take (i + 1) lines) (drop (i + 1) lines) ≡ first_fault [] lines
  fault_goes_on none =
      ap (λ ls. first_fault ls (drop (i + 1) lines)) more
      ∙ sym (fault_later (take i lines) line (drop (i + 1) lines) d same none)
      ∙ ap (first_fault (take i lines)) (sym open_at)
      ∙ so_far

  pub fault_ends : (later : Draft) (e : ManifestRefusal) → AddsLine d line later (Err e) → Drafts lines (Err e)
  fault_ends later Memory h = tt
  fault_ends later (At n fault) h =
      sym so_far
      ∙ ap (first_fault (take i lines)) open_at
      ∙ fault_here (take i lines) line (drop (i + 1) lines) d fault same h.1
      ∙ ap (λ k. Some (record { line = k; fault = fault })) (sym h.0)

-- one that fails the test is enough
pub one_fails : {A B : Type 0} (p : B → Bool) (f : A → B) (xs : List A) (i : ℕ) (d : A) → i < length xs → p (f (get_or xs i d)) ≡ false → list_all p (map f xs) ≡ false
one_fails p f [] i d below h = absurd (omega (arith, below))
one_fails p f (x ∷ xs) zero d below h = ap (λ (b : Bool). b && list_all p (map f xs)) h
one_fails p f (x ∷ xs) (suc i) d below h = ap (λ (b : Bool). p (f x) && b) (one_fails p f xs i d (omega (arith, below)) h) ∙ and_false (p (f x))

pub open_mapped : {A B : Type 0} (f : A → B) (xs : List A) (i : ℕ) (d : A) → i < length xs → drop i (map f xs) ≡ f (get_or xs i d) ∷ drop (i + 1) (map f xs)
open_mapped f xs i d below =
    drop-map f i xs
    ∙ ap (map f) (drop-cons xs i d below)
    ∙ ap (λ n. f (get_or xs i d) ∷ map f (drop n xs)) (sym (add-one i))
    ∙ ap (λ ys. f (get_or xs i d) ∷ ys) (sym (drop-map f (i + 1) xs))

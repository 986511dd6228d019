-- What is read of the text of nodes.
use Rattle.std.proofs.Common.{◌≡◌, ℕ, zero, suc, ◌+◌, ◌-◌, ◌*◌, ◌%◌, ◌<◌, ◌≤◌, true, false, ◌||◌, ◌&&◌, ◌==◌, List, [], ◌∷◌, ◌++◌, length, map, take, drop, replicate, append_assoc, refl, sym, ap, ◌∙◌, subst, arith, inl, inr, bytes_eq}
use Rattle.std.specs.Prelude.{Ok}
use Rattle.std.specs.List.{list_any}
use Rattle.std.proofs.lemmas.Bool.{cases_Bool, or_from, not-true, and_parts, eqb-true}
use Rattle.std.proofs.lemmas.List.{length_push, append-nil, take_at, nil_from_length}
use Rattle.std.proofs.lemmas.List.Folds.{list_any-append}
use Rattle.romfs_image.specs.declared.level.Level.{Level}
use Rattle.romfs_image.specs.declared.place.Place.{Place}
use Rattle.romfs_image.specs.declared.node.RomKind.{RomKind}
use Rattle.romfs_image.specs.declared.node.RomKind.TheVariants.{Dir, File}
use Rattle.romfs_image.specs.Words.{padded}
use Rattle.romfs_image.specs.Header.{file_bytes}
use Rattle.romfs_image.specs.Walk.{Entry, pending, is_named, walk}
use Rattle.romfs_image.specs.Nodes.{RomValue}
use Rattle.romfs_image.specs.Reading.{is_dangling, node_of, linked}
use Rattle.romfs_image.specs.Text.{with_padding, header_text, header_len, node_len, file_bits, node_text, nodes_text, first_in, end_at, place_at, places, most_bytes}
use Rattle.romfs_image.specs.Given.{is_plain, is_new, from_folder, folders_behind, are_in_order}
use Rattle.romfs_image.proofs.Lengths.{end_above, first_within}
use Rattle.romfs_image.proofs.TextLengths.{length-header_text, length-node_text, plain_fits}
use Rattle.romfs_image.proofs.Written.{name_is, behind_front}
use Rattle.romfs_image.proofs.Open.{levels_in, outside, Falls, in_order, falls_from, falls_behind, stack_at, stack_behind, stack_none}
use Rattle.romfs_image.proofs.Passes.{header_of, entry_of, IsPlace, file_taken, folder_taken}

-- the entries of nodes
abbrev pub entries_of : (headers : List ℕ) → (number at : ℕ) → List RomValue → List Entry
entries_of headers number at [] = []
entries_of headers number at (n ∷ ns) = entry_of (place_at headers number at n ns) n ∷ entries_of headers (number + 1) (at + node_len n) ns

-- ---- where nodes stand

pub node_len_16 : (n : RomValue) (kind : RomKind) → n.kind ≡ kind → node_len n % 16 ≡ 0
unfolding node_len
node_len_16 n Dir is = rw is (omega arith)
node_len_16 n File is = rw is (omega arith)

pub node_least : (n : RomValue) (kind : RomKind) → n.kind ≡ kind → 32 ≤ node_len n
unfolding node_len
node_least n Dir is = rw is (omega arith)
node_least n File is = rw is (omega arith)

folder_len : (n : RomValue) → n.kind ≡ Dir → node_len n ≡ header_len n.name + 64
unfolding node_len
folder_len n is = rw is refl

pub first_16 : (folder at : ℕ) (ns : List RomValue) → at % 16 ≡ 0 → first_in folder at ns % 16 ≡ 0
first_16 folder at [] even = refl
first_16 folder at (n ∷ ns) even = elim (cases_Bool (n.parent == folder)) [
  | inl here ↦ rw here even
  | inr later ↦ rw later (first_16 folder (at + node_len n) ns (omega (arith, even, node_len_16 n n.kind refl)))
]

pub is_place : (headers : List ℕ) (number at : ℕ) (n : RomValue) (ns : List RomValue) → at % 16 ≡ 0 → end_at at (n ∷ ns) ≤ most_bytes → is_plain n.kind n ≡ true → IsPlace (place_at headers number at n ns) n
is_place headers number at n ns even fit plain =
    let then = at + node_len n in
    let end = end_above then ns in
    let even_then : then % 16 ≡ 0 = omega (arith, even, node_len_16 n n.kind refl) in
    record {
      at = even;
      next = first_16 n.parent then ns even_then;
      first = first_16 number then ns even_then;
      few_at = omega (arith, end, fit);
      few_next = omega (arith, first_within n.parent then ns, fit);
      few_first = omega (arith, first_within number then ns, fit);
      few_bytes = omega (arith, end, fit, plain_fits n n.kind refl plain);
    }

-- ---- names so far

-- the entries have the folders and names of these nodes
abbrev pub AreAlike : List Entry → List RomValue → Type 0
AreAlike found earlier = (folder : ℕ) (name : List ℕ) → list_any (is_named folder name) found ≡ list_any (λ e. (e.parent == folder) && bytes_eq e.name name) earlier

alike_more : (found : List Entry) (earlier : List RomValue) (p : Place) (n : RomValue) (kind : RomKind) → n.kind ≡ kind → AreAlike found earlier → AreAlike (found ++ entry_of p n ∷ []) (earlier ++ n ∷ [])
unfolding is_named
alike_more found earlier p n kind is alike = λ folder name.
    list_any-append (is_named folder name) found (entry_of p n ∷ [])
    ∙ ap (λ k. list_any (is_named folder name) found || ((n.parent == folder) && bytes_eq (header_of k p n).name name || false)) is
    ∙ named kind folder name
    ∙ ap (λ b. b || ((n.parent == folder) && bytes_eq n.name name || false)) (alike folder name)
    ∙ sym (list_any-append (λ e. (e.parent == folder) && bytes_eq e.name name) earlier (n ∷ []))
  where
    named : (kind : RomKind) (folder : ℕ) (name : List ℕ) → (list_any (is_named folder name) found || ((n.parent == folder) && bytes_eq (header_of kind p n).name name || false)) ≡ (list_any (is_named folder name) found || ((n.parent == folder) && bytes_eq n.name name || false))
    named Dir folder name = refl
    named File folder name = refl

new_name : (found : List Entry) (earlier : List RomValue) (n : RomValue) → AreAlike found earlier → is_new earlier n ≡ true → list_any (is_named n.parent n.name) found ≡ false
unfolding is_new
new_name found earlier n alike new = alike n.parent n.name ∙ not-true _ new

-- ---- the walk

-- where the walk stands behind some nodes
pub record Walking (y headers : List ℕ) (before number at : ℕ) (within : List ℕ) (earlier : List RomValue) (found : List Entry) (ns : List RomValue) : Type 0 where
  pub here : drop at y ≡ nodes_text (places headers number at ns) ns
  pub count : number ≡ length earlier + 1
  pub many : length found ≡ length earlier
  pub later : before < at
  pub even : at % 16 ≡ 0
  pub fit : end_at at ns ≤ most_bytes
  pub order : are_in_order within earlier ns ≡ true
  pub falls : Falls number within
  pub alike : AreAlike found earlier

-- behind one node more
walking_on : (y headers : List ℕ) (before then number at : ℕ) (within : List ℕ) (earlier : List RomValue) (found : List Entry) (n : RomValue) (ns : List RomValue) (kind : RomKind) → n.kind ≡ kind
    → Walking y headers before number at within earlier found (n ∷ ns) → then < at + node_len n
    → Walking y headers then (number + 1) (at + node_len n) (folders_behind kind number (from_folder n.parent within)) (earlier ++ n ∷ []) (found ++ entry_of (place_at headers number at n ns) n ∷ []) ns
walking_on y headers before then number at within earlier found n ns kind is w behind =
    let p = place_at headers number at n ns in
    let o = in_order within earlier n ns w.order in
    record {
      here = behind_front y (node_text p n) (nodes_text (places headers (number + 1) (at + node_len n) ns) ns) at (node_len n) (length-node_text p n n.kind refl) w.here;
      count = omega (arith, w.count, length_push earlier n);
      many = omega (arith, w.many, length_push earlier n, length_push found (entry_of p n));
      later = behind;
      even = omega (arith, w.even, node_len_16 n n.kind refl);
      fit = w.fit;
      order = subst (λ (k : RomKind). are_in_order (folders_behind k number (from_folder n.parent within)) (earlier ++ n ∷ []) ns ≡ true) is
          (subst (λ (k : ℕ). are_in_order (folders_behind n.kind k (from_folder n.parent within)) (earlier ++ n ∷ []) ns ≡ true) (sym w.count) o.rest);
      falls = falls_behind kind number (from_folder n.parent within) (falls_from number n.parent within w.falls);
      alike = alike_more found earlier p n n.kind refl w.alike;
    }

-- what the walk over the nodes behind one gives
abbrev pub GoesOn : (y headers : List ℕ) → (number at : ℕ) → List RomValue → Type 0
GoesOn y headers number at ns =
    (k b : ℕ) (v : List ℕ) (e : List RomValue) (f : List Entry) → Walking y headers b number at v e f ns → 3 * length ns ≤ k
    → walk k y b (levels_in v at ns) f ≡ Ok (f ++ entries_of headers number at ns)

over_file : (y headers : List ℕ) (n : RomValue) (ns : List RomValue) (steps before number at : ℕ) (within : List ℕ) (earlier : List RomValue) (found : List Entry)
    → Walking y headers before number at within earlier found (n ∷ ns) → 3 * length (n ∷ ns) ≤ steps → GoesOn y headers (number + 1) (at + node_len n) ns → n.kind ≡ File
    → walk steps y before (levels_in within at (n ∷ ns)) found ≡ Ok (found ++ entries_of headers number at (n ∷ ns))
over_file y headers n ns steps before number at within earlier found w enough goes_on is =
    let o = in_order within earlier n ns w.order in
    let p = place_at headers number at n ns in
    let then = at + node_len n in
    let levels = levels_in (outside n.parent within) then ns in
    let more = found ++ entry_of p n ∷ [] in
    let level : Level = record { at = at; folder = n.parent } in
    let one : steps ≡ suc (steps - 1) = omega (arith, enough) in
    ap (λ ls. walk steps y before ls found) (stack_at within earlier n ns at (subst (λ (k : ℕ). Falls k within) w.count w.falls) (omega (arith, w.later)) o)
    ∙ ap (λ k. walk k y before (level ∷ levels) found) one
    ∙ file_taken (steps - 1) y before p n (nodes_text (places headers (number + 1) then ns) ns) levels found is (is_place headers number at n ns w.even w.fit o.plain) (name_is n.name o.named)
    (new_name found earlier n w.alike o.new) w.here w.later
    ∙ ap (λ ls. walk (steps - 1) y at ls more) (sym (stack_behind within n.parent then ns o.there))
    ∙ goes_on (steps - 1) at (from_folder n.parent within) (earlier ++ n ∷ []) more (walking_on y headers before at number at within earlier found n ns File is w (omega (arith, node_least n n.kind refl))) (omega (arith, enough))
    ∙ ap (λ (es : List Entry). Ok es) (append_assoc found (entry_of p n ∷ []) (entries_of headers (number + 1) then ns))

over_folder : (y headers : List ℕ) (n : RomValue) (ns : List RomValue) (steps before number at : ℕ) (within : List ℕ) (earlier : List RomValue) (found : List Entry)
    → Walking y headers before number at within earlier found (n ∷ ns) → 3 * length (n ∷ ns) ≤ steps → GoesOn y headers (number + 1) (at + node_len n) ns → n.kind ≡ Dir
    → walk steps y before (levels_in within at (n ∷ ns)) found ≡ Ok (found ++ entries_of headers number at (n ∷ ns))
over_folder y headers n ns steps before number at within earlier found w enough goes_on is =
    let o = in_order within earlier n ns w.order in
    let p = place_at headers number at n ns in
    let then = at + node_len n in
    let last = at + header_len n.name + 32 in
    let levels = levels_in (outside n.parent within) then ns in
    let more = found ++ entry_of p n ∷ [] in
    let level : Level = record { at = at; folder = n.parent } in
    let three : steps ≡ suc (suc (suc (steps - 3))) = omega (arith, enough) in
    let counted : length found + 1 ≡ number = omega (arith, w.many, w.count) in
    ap (λ ls. walk steps y before ls found) (stack_at within earlier n ns at (subst (λ (k : ℕ). Falls k within) w.count w.falls) (omega (arith, w.later)) o)
    ∙ ap (λ k. walk k y before (level ∷ levels) found) three
    ∙ folder_taken (steps - 3) y before p n (nodes_text (places headers (number + 1) then ns) ns) levels found is (is_place headers number at n ns w.even w.fit o.plain) (name_is n.name o.named)
    (new_name found earlier n w.alike o.new) w.here w.later
    ∙ ap (λ k. walk (steps - 3) y last (pending p.first k (pending p.next n.parent levels)) more) counted
    ∙ ap (λ ls. walk (steps - 3) y last (pending p.first number ls) more) (sym (stack_behind within n.parent then ns o.there))
    ∙ goes_on (steps - 3) last (number ∷ from_folder n.parent within) (earlier ++ n ∷ []) more (walking_on y headers before last number at within earlier found n ns Dir is w (omega (arith, folder_len n is))) (omega (arith, enough))
    ∙ ap (λ (es : List Entry). Ok es) (append_assoc found (entry_of p n ∷ []) (entries_of headers (number + 1) then ns))

-- the walk goes over all nodes, and finds them
pub walk_over : (y headers : List ℕ) (number at : ℕ) (ns : List RomValue) → GoesOn y headers number at ns
walk_over y headers number at [] = λ steps before within earlier found w enough.
    ap (λ ls. walk steps y before ls found) (stack_none within at) ∙ done steps before found ∙ ap (λ (es : List Entry). Ok es) (sym (append-nil found))
  where
    done : (steps before : ℕ) (found : List Entry) → walk steps y before [] found ≡ Ok found
    done zero before found = refl
    done (suc steps) before found = refl
walk_over y headers number at (n ∷ ns) = λ steps before within earlier found w enough.
    by (walk_over y headers (number + 1) (at + node_len n) ns) steps before within earlier found w enough n.kind refl
  where
    by : GoesOn y headers (number + 1) (at + node_len n) ns → (steps before : ℕ) (within : List ℕ) (earlier : List RomValue) (found : List Entry) → Walking y headers before number at within earlier found (n ∷ ns)
        → 3 * length (n ∷ ns) ≤ steps → (kind : RomKind) → n.kind ≡ kind → walk steps y before (levels_in within at (n ∷ ns)) found ≡ Ok (found ++ entries_of headers number at (n ∷ ns))
    by goes_on steps before within earlier found w enough Dir is = over_folder y headers n ns steps before number at within earlier found w enough goes_on is
    by goes_on steps before within earlier found w enough File is = over_file y headers n ns steps before number at within earlier found w enough goes_on is

-- ---- the nodes of the entries

not_dangling : (entries : List Entry) (p : Place) (n : RomValue) (kind : RomKind) → is_dangling entries (record { folder = n.parent; at = p.at; header = header_of kind p n }) ≡ false
unfolding is_dangling
not_dangling entries p n Dir = refl
not_dangling entries p n File = refl

none_dangles : (entries : List Entry) (headers : List ℕ) (number at : ℕ) (ns : List RomValue) → list_any (is_dangling entries) (entries_of headers number at ns) ≡ false
none_dangles entries headers number at [] = refl
none_dangles entries headers number at (n ∷ ns) =
    or_from _ _ (not_dangling entries (place_at headers number at n ns) n n.kind) (none_dangles entries headers (number + 1) (at + node_len n) ns)

node_back : (y : List ℕ) (p : Place) (n : RomValue) (rest : List ℕ) (kind : RomKind) → n.kind ≡ kind → is_plain kind n ≡ true → drop p.at y ≡ node_text p n ++ rest
    → node_of y (record { folder = n.parent; at = p.at; header = header_of kind p n }) ≡ n
unfolding node_of node_text file_bytes
node_back y p n rest Dir is plain here =
    let parts = and_parts n.exec (length n.bytes == 0) plain in
    let none : n.bytes ≡ [] = nil_from_length n.bytes (eqb-true (length n.bytes) 0 parts.1) in
    λ i. record { parent = n.parent; name = n.name; kind = sym is i; bytes = sym none i; exec = sym parts.0 i }
node_back y p n rest File is plain here =
    let header = header_text (p.next + file_bits n.exec) 0 (length n.bytes) n.name in
    let zeros = replicate (padded (length n.bytes) - length n.bytes) 0 in
    let text : drop p.at y ≡ header ++ (with_padding n.bytes ++ rest) = here ∙ rw is (append_assoc header (with_padding n.bytes) rest) in
    let behind : drop (p.at + header_len n.name) y ≡ n.bytes ++ (zeros ++ rest) =
    behind_front y header (with_padding n.bytes ++ rest) p.at (header_len n.name) (length-header_text (p.next + file_bits n.exec) 0 (length n.bytes) n.name) text ∙ append_assoc n.bytes zeros rest in
    let bytes : take (length n.bytes) (drop (p.at + header_len n.name) y) ≡ n.bytes = ap (take (length n.bytes)) behind ∙ take_at n.bytes (zeros ++ rest) (length n.bytes) refl in
    λ i. record { parent = n.parent; name = n.name; kind = sym is i; bytes = bytes i; exec = n.exec }

nodes_back : (y headers : List ℕ) (number at : ℕ) (within : List ℕ) (earlier ns : List RomValue) → drop at y ≡ nodes_text (places headers number at ns) ns → are_in_order within earlier ns ≡ true
    → map (node_of y) (entries_of headers number at ns) ≡ ns
nodes_back y headers number at within earlier [] here order = refl
nodes_back y headers number at within earlier (n ∷ ns) here order =
    let o = in_order within earlier n ns order in
    let p = place_at headers number at n ns in
    let rest = nodes_text (places headers (number + 1) (at + node_len n) ns) ns in
    let first = node_back y p n rest n.kind refl o.plain here in
    let behind = behind_front y (node_text p n) rest at (node_len n) (length-node_text p n n.kind refl) here in
    let others = nodes_back y headers (number + 1) (at + node_len n) (folders_behind n.kind (length earlier + 1) (from_folder n.parent within)) (earlier ++ n ∷ []) ns behind o.rest in
    λ i. first i ∷ others i

-- the entries say the nodes
pub linked_back : (y headers : List ℕ) (number at : ℕ) (within : List ℕ) (earlier ns : List RomValue) → drop at y ≡ nodes_text (places headers number at ns) ns → are_in_order within earlier ns ≡ true
    → linked y (entries_of headers number at ns) ≡ Ok ns
unfolding linked
linked_back y headers number at within earlier ns here order =
    rw (none_dangles (entries_of headers number at ns) headers number at ns) (ap (λ (vs : List RomValue). Ok vs) (nodes_back y headers number at within earlier ns here order))

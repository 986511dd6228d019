-- What `.` and `..` name in the text of nodes.
use Rattle.std.proofs.Common.{◌≡◌, ℕ, zero, suc, ◌+◌, ◌/◌, ◌*◌, ◌%◌, ◌^◌, ◌<◌, ◌≤◌, true, List, [], ◌∷◌, ◌++◌, length, map, drop, refl, sym, ap, ◌∙◌, subst, arith}
use Rattle.std.specs.Prelude.{codes, slice_index}
use Rattle.std.specs.List.{All}
use Rattle.std.proofs.lemmas.Bool.{ne_eqb}
use Rattle.std.proofs.lemmas.List.Elements.{All-cons}
use Rattle.romfs_image.specs.declared.place.Place.{Place}
use Rattle.romfs_image.specs.declared.node.RomKind.{RomKind}
use Rattle.romfs_image.specs.declared.node.RomKind.TheVariants.{Dir, File}
use Rattle.romfs_image.specs.Header.{Header, header_at}
use Rattle.romfs_image.specs.Walk.{Entry}
use Rattle.romfs_image.specs.Nodes.{RomValue}
use Rattle.romfs_image.specs.Text.{header_text, header_len, node_len, node_text, first_in, positions, end_at, place_at, places, headers_of, nodes_text, rom_text, most_bytes}
use Rattle.romfs_image.specs.Given.{AreNodes, from_folder, folders_behind, are_in_order}
use Rattle.romfs_image.specs.Laws.{IsLink, HasDots, IsRoot, headers_in, AreLed, DotsLead}
use Rattle.romfs_image.proofs.Lengths.{end_above, first_within}
use Rattle.romfs_image.proofs.TextLengths.{length-node_text, length-rom_text}
use Rattle.romfs_image.proofs.Written.{IsName, name_is, behind_front, header_back}
use Rattle.romfs_image.proofs.Open.{in_order}
use Rattle.romfs_image.proofs.Passes.{IsDots, one_dot, two_dots, header_of, IsPlace, folder_text, folder_read, folder_stands}
use Rattle.romfs_image.proofs.Returns.{entries_of, node_len_16, first_16, is_place}
use Rattle.romfs_image.proofs.Inverse.{root_here, root_second, root_behind, root_end, root_walked}

-- ---- headers by number

headers_16 : (at i : ℕ) (ns : List RomValue) → at % 16 ≡ 0 → slice_index (positions at ns) i % 16 ≡ 0
headers_16 at i [] even = refl
headers_16 at zero (n ∷ ns) even = even
headers_16 at (suc i) (n ∷ ns) even = headers_16 (at + node_len n) i ns (omega (arith, even, node_len_16 n n.kind refl))

headers_within : (at i : ℕ) (ns : List RomValue) → slice_index (positions at ns) i ≤ end_at at ns
headers_within at i [] = omega arith
headers_within at zero (n ∷ ns) = end_above at (n ∷ ns)
headers_within at (suc i) (n ∷ ns) = headers_within (at + node_len n) i ns

-- positions of headers in an image that isn't too large
AreHeaders : List ℕ → Type 0
AreHeaders headers = (i : ℕ) → (slice_index headers i % 16 ≡ 0) × (slice_index headers i ≤ most_bytes)

all_headers : (ns : List RomValue) → end_at 96 ns ≤ most_bytes → AreHeaders (headers_of ns)
unfolding AreHeaders
all_headers ns fit zero = (refl, omega arith)
all_headers ns fit (suc i) = (headers_16 96 i ns refl, omega (arith, headers_within 96 i ns, fit))

-- ---- one folder

link_back : (y : List ℕ) (at word info : ℕ) (name rest : List ℕ) → IsDots name → drop at y ≡ header_text word info 0 name ++ rest → word % 16 ≡ 0 → word < 2 ^ 32 → info % 16 ≡ 0 → info < 2 ^ 32
    → IsLink y at name info × ((header_at y at).next ≡ word)
link_back y at word info name rest is here even small even_info small_info =
    let h = header_back y at word info 0 name rest (record { here = here; small_word = small; small_size = omega arith; ended = is.ended }) in (
      record {
        kind = ap (λ (g : Header). g.kind) h ∙ (let e : word % 8 ≡ 0 = omega (arith, even) in e);
        exec = ap (λ (g : Header). g.exec) h ∙ ne_eqb (word / 8 % 2) 1 (λ e. absurd (omega (arith, e, even)));
        named = ap (λ (g : Header). g.name) h;
        info = ap (λ (g : Header). g.info) h ∙ (let e : info % 2 ^ 32 / 16 * 16 ≡ info = omega (arith, even_info, small_info) in e);
      },
      ap (λ (g : Header). g.next) h ∙ (let e : word / 16 * 16 ≡ word = omega (arith, even) in e),
    )

folder_led : (y : List ℕ) (p : Place) (n : RomValue) (rest : List ℕ) → n.kind ≡ Dir → IsPlace p n → IsName n.name → p.parent % 16 ≡ 0 → p.parent ≤ most_bytes → drop p.at y ≡ node_text p n ++ rest
    → HasDots y p.at p.parent
folder_led y p n rest kind place name even within here =
    let list = p.at + header_len n.name in
    let two = header_text p.first p.parent 0 (codes "..") in
    let text = folder_text y p n rest kind here in
    let own : (header_at y p.at).info ≡ list = ap (λ (g : Header). g.info) (header_back y p.at (p.next + 9) list 0 n.name _ (folder_stands y p n rest place name text) ∙ folder_read p n place name.few) in
    let first = link_back y list (list + 32) p.at (codes ".") (two ++ rest) one_dot text.one (omega (arith, place.at)) (omega (arith, place.few_at, name.few)) place.at (omega (arith, place.few_at)) in
    let second = link_back y (list + 32) p.first p.parent (codes "..") rest two_dots text.two place.first (omega (arith, place.few_first)) even (omega (arith, within)) in
    record {
      one = subst (λ (a : ℕ). IsLink y a (codes ".") p.at) (sym own) first.0;
      two = subst (λ (a : ℕ). IsLink y a (codes "..") p.parent) (sym (ap (λ a. (header_at y a).next) own ∙ first.1)) second.0;
    }

-- ---- all of them

IsLed : List ℕ → List ℕ → Entry → Type 0
IsLed y headers e = e.header.kind ≡ 1 → HasDots y e.at (slice_index headers e.folder)

entry_led : (y headers : List ℕ) (p : Place) (n : RomValue) (rest : List ℕ) (kind : RomKind) → n.kind ≡ kind → IsPlace p n → IsName n.name → AreHeaders headers → p.parent ≡ slice_index headers n.parent
    → drop p.at y ≡ node_text p n ++ rest → IsLed y headers (record { folder = n.parent; at = p.at; header = header_of kind p n })
unfolding IsLed AreHeaders
entry_led y headers p n rest Dir is place name all parent here = λ folder.
    subst (HasDots y p.at) parent (folder_led y p n rest is place name (ap (λ a. a % 16) parent ∙ (all n.parent).0) (omega (arith, parent, (all n.parent).1)) here)
entry_led y headers p n rest File is place name all parent here = λ folder. absurd (omega (arith, folder))

all_led : (y headers : List ℕ) (number at : ℕ) (within : List ℕ) (earlier ns : List RomValue) → drop at y ≡ nodes_text (places headers number at ns) ns → are_in_order within earlier ns ≡ true → at % 16 ≡ 0
    → end_at at ns ≤ most_bytes → AreHeaders headers → All (IsLed y headers) (entries_of headers number at ns)
all_led y headers number at within earlier [] here order even fit all = λ k d lt. absurd (omega (arith, lt))
all_led y headers number at within earlier (n ∷ ns) here order even fit all =
    let o = in_order within earlier n ns order in
    let p = place_at headers number at n ns in
    let rest = nodes_text (places headers (number + 1) (at + node_len n) ns) ns in
    let behind = behind_front y (node_text p n) rest at (node_len n) (length-node_text p n n.kind refl) here in
    All-cons (IsLed y headers) _ (entries_of headers (number + 1) (at + node_len n) ns)
    (entry_led y headers p n rest n.kind refl (is_place headers number at n ns even fit o.plain) (name_is n.name o.named) all refl here)
    (all_led y headers (number + 1) (at + node_len n) (folders_behind n.kind (length earlier + 1) (from_folder n.parent within)) (earlier ++ n ∷ []) ns behind o.rest
    (omega (arith, even, node_len_16 n n.kind refl)) fit all)

entries_at : (headers : List ℕ) (number at : ℕ) (ns : List RomValue) → map (λ (e : Entry). e.at) (entries_of headers number at ns) ≡ positions at ns
entries_at headers number at [] = refl
entries_at headers number at (n ∷ ns) = ap (λ ats. at ∷ ats) (entries_at headers (number + 1) (at + node_len n) ns)

root_led : (ns : List RomValue) → end_at 96 ns ≤ most_bytes → IsRoot (rom_text ns) 32
root_led ns fit =
    let y = rom_text ns in
    let first = first_in 0 96 ns in
    let text = nodes_text (places (headers_of ns) 1 96 ns) ns in
    let h = header_back y 32 73 32 0 (codes ".") (header_text first 32 0 (codes "..") ++ text) (record { here = root_here ns; small_word = omega arith; small_size = omega arith; ended = refl }) in
    let second = link_back y 64 first 32 (codes "..") text two_dots (root_second ns) (first_16 0 96 ns refl) (omega (arith, first_within 0 96 ns, fit)) refl (omega arith) in
    record {
      kind = ap (λ (g : Header). g.kind) h;
      exec = ap (λ (g : Header). g.exec) h;
      named = ap (λ (g : Header). g.name) h;
      info = ap (λ (g : Header). g.info) h;
      two = subst (λ (a : ℕ). IsLink y a (codes "..") 32) (sym (ap (λ (g : Header). g.next) h)) second.0;
    }

text_led : (ns : List RomValue) → AreNodes ns → length (rom_text ns) ≤ most_bytes → AreLed (rom_text ns) (entries_of (headers_of ns) 1 96 ns)
unfolding IsLed
text_led ns nodes fit =
    let y = rom_text ns in
    let entries = entries_of (headers_of ns) 1 96 ns in
    let within : end_at 96 ns ≤ most_bytes = omega (arith, length-rom_text ns, fit) in
    let numbers : headers_in y entries ≡ headers_of ns = (λ i. root_end ns i ∷ entries_at (headers_of ns) 1 96 ns i) in
    record {
      root = subst (IsRoot y) (sym (root_end ns)) (root_led ns within);
      folders = subst (λ (hs : List ℕ). All (IsLed y hs) entries) (sym numbers) (all_led y (headers_of ns) 1 96 (0 ∷ []) [] ns (root_behind ns) nodes refl within (all_headers ns within));
    }

pub dots_lead : DotsLead
dots_lead = λ ns entries nodes fit is.
    let same : entries_of (headers_of ns) 1 96 ns ≡ entries = (let both = sym (root_walked ns nodes fit) ∙ is in cc) in
    subst (AreLed (rom_text ns)) same (text_led ns nodes fit)

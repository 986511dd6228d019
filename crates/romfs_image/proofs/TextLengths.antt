-- How many bytes the text of nodes has, and what the condition on nodes says of their lengths.
use Rattle.std.proofs.Common.{◌≡◌, ℕ, true, not, inl, inr, take, ◌+◌, ◌-◌, ◌≤◌, ◌&&◌, ◌==◌, List, [], ◌∷◌, ◌++◌, length, replicate, refl, sym, ap, ◌∙◌, arith}
use Rattle.std.specs.Prelude.{codes, nat_lt, nat_le, min}
use Rattle.std.specs.List.{list_all}
use Rattle.std.proofs.lemmas.Bool.{and_parts, leb-true, eqb-true, cases_lt}
use Rattle.std.proofs.lemmas.List.{length-append, length-replicate, take_all}
use Rattle.romfs_image.specs.declared.node.RomKind.{RomKind}
use Rattle.romfs_image.specs.declared.node.RomKind.TheVariants.{Dir, File}
use Rattle.romfs_image.specs.declared.place.Place.{Place}
use Rattle.romfs_image.specs.Words.{padded}
use Rattle.romfs_image.specs.Fault.{is_dots}
use Rattle.romfs_image.specs.Nodes.{RomValue}
use Rattle.romfs_image.specs.Given.{is_name, is_plain, is_new, from_folder, folders_behind, are_in_order}
use Rattle.romfs_image.specs.Code.{AreNamed}
use Rattle.romfs_image.specs.Text.{with_padding, name_text, header_text, header_len, node_len, dots_text, node_text, nodes_text, place_at, places, headers_of, file_bits, end_at, first_in, list_text, image_text, rom_text}

pub length-with_padding : (bytes : List ℕ) → length (with_padding bytes) ≡ padded (length bytes)
length-with_padding bytes =
    omega (arith, length-append bytes (replicate (padded (length bytes) - length bytes) 0), length-replicate {A = ℕ} (padded (length bytes) - length bytes) 0)

length-name_text : (name : List ℕ) → length (name_text name) ≡ padded (length name + 1)
length-name_text name = length-with_padding (name ++ 0 ∷ []) ∙ ap padded (length-append name (0 ∷ []))

pub length-header_text : (next info size : ℕ) (name : List ℕ) → length (header_text next info size name) ≡ header_len name
unfolding header_text
length-header_text next info size name = omega (arith, length-name_text name)

pub length-node_text : (p : Place) (n : RomValue) (kind : RomKind) → n.kind ≡ kind → length (node_text p n) ≡ node_len n
unfolding node_text node_len dots_text
length-node_text p n Dir is =
    rw is (omega (
      arith,
      length-append (header_text (p.next + 9) (p.at + header_len n.name) 0 n.name) (dots_text (p.at + header_len n.name) p.at p.parent p.first),
      length-header_text (p.next + 9) (p.at + header_len n.name) 0 n.name,
      length-append (header_text (p.at + header_len n.name + 32) p.at 0 (codes ".")) (header_text p.first p.parent 0 (codes "..")),
      length-header_text (p.at + header_len n.name + 32) p.at 0 (codes "."),
      length-header_text p.first p.parent 0 (codes ".."),
    ))
length-node_text p n File is =
    rw is (omega (
      arith,
      length-append (header_text (p.next + file_bits n.exec) 0 (length n.bytes) n.name) (with_padding n.bytes),
      length-header_text (p.next + file_bits n.exec) 0 (length n.bytes) n.name,
      length-with_padding n.bytes,
    ))

length-nodes_text : (headers : List ℕ) (number at : ℕ) (ns : List RomValue) → at + length (nodes_text (places headers number at ns) ns) ≡ end_at at ns
length-nodes_text headers number at [] = omega arith
length-nodes_text headers number at (n ∷ ns) =
    omega (
      arith,
      length-append (node_text (place_at headers number at n ns) n) (nodes_text (places headers (number + 1) (at + node_len n) ns) ns),
      length-node_text (place_at headers number at n ns) n n.kind refl,
      length-nodes_text headers (number + 1) (at + node_len n) ns,
    )

pub length-list_text : (ns : List RomValue) → 32 + length (list_text ns) ≡ end_at 96 ns
unfolding list_text
length-list_text ns =
    let nodes = nodes_text (places (headers_of ns) 1 96 ns) ns in
    let second = header_text (first_in 0 96 ns) 32 0 (codes "..") in
    omega (
      arith,
      length-append (header_text (64 + 9) 32 0 (codes ".")) (second ++ nodes),
      length-header_text (64 + 9) 32 0 (codes "."),
      length-append second nodes,
      length-header_text (first_in 0 96 ns) 32 0 (codes ".."),
      length-nodes_text (headers_of ns) 1 96 ns,
    )

pub length-rom_text : (ns : List RomValue) → length (rom_text ns) ≡ end_at 96 ns
unfolding rom_text image_text
length-rom_text ns = omega (arith, length-list_text ns)

-- ---- what the condition says of lengths

pub plain_fits : (n : RomValue) (kind : RomKind) → n.kind ≡ kind → is_plain kind n ≡ true → length n.bytes ≤ node_len n
unfolding node_len
plain_fits n Dir is plain = rw is (omega (arith, eqb-true (length n.bytes) 0 (and_parts n.exec (length n.bytes == 0) plain).1))
plain_fits n File is plain = rw is (omega arith)

name_fits : (name : List ℕ) → is_name name ≡ true → length name ≤ 255
unfolding is_name
name_fits name is =
    let sized = nat_lt 0 (length name) && nat_le (length name) 255 in
    let bytes = list_all (λ b. nat_lt b 256 && not (b == 0) && not (b == 47)) name in
    let front = and_parts (sized && bytes) (not (is_dots name)) is in
    leb-true (length name) 255 (and_parts (nat_lt 0 (length name)) (nat_le (length name) 255) (and_parts sized bytes front.0).0).1

pub named_nodes : (within : List ℕ) (earlier ns : List RomValue) → are_in_order within earlier ns ≡ true → AreNamed ns
named_nodes within earlier [] order = tt
named_nodes within earlier (n ∷ ns) order =
    let there = nat_lt 0 (length (from_folder n.parent within)) in
    let rest = are_in_order (folders_behind n.kind (length earlier + 1) (from_folder n.parent within)) (earlier ++ n ∷ []) ns in
    let first = and_parts (there && is_name n.name && is_plain n.kind n && is_new earlier n) rest order in
    let second = and_parts (there && is_name n.name && is_plain n.kind n) (is_new earlier n) first.0 in
    let third = and_parts (there && is_name n.name) (is_plain n.kind n) second.0 in
    (name_fits n.name (and_parts there (is_name n.name) third.0).1, plain_fits n n.kind refl third.1, named_nodes (folders_behind n.kind (length earlier + 1) (from_folder n.parent within)) (earlier ++ n ∷ []) ns first.1)

pub take_within : (y : List ℕ) (n : ℕ) → take (min (length y) n) y ≡ take n y
take_within y n = elim (cases_lt n (length y)) [
  | inl within ↦ ap (λ k. take k y) (let e : min (length y) n ≡ n = omega (arith, within) in e)
  | inr past ↦ take_all (min (length y) n) y (omega (arith, past)) ∙ sym (take_all n y past)
]

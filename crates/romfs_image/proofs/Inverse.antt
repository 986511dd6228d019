-- The text of nodes is read as these nodes.
use Rattle.std.proofs.Common.{◌≡◌, ℕ, suc, ◌+◌, ◌-◌, ◌*◌, ◌/◌, ◌^◌, ◌<◌, ◌≤◌, List, [], ◌∷◌, ◌++◌, length, drop, refl, ap, ◌∙◌, arith}
use Rattle.std.specs.Prelude.{Ok, codes}
use Rattle.romfs_image.specs.Header.{name_end}
use Rattle.romfs_image.specs.Walk.{pending, walk, walked}
use Rattle.romfs_image.specs.Nodes.{RomValue}
use Rattle.romfs_image.specs.Reading.{rom_read}
use Rattle.romfs_image.specs.Text.{header_text, node_len, first_in, places, headers_of, nodes_text, list_text, end_at, image_text, rom_text, most_bytes}
use Rattle.romfs_image.specs.Given.{AreNodes}
use Rattle.romfs_image.specs.Laws.{TextReads}
use Rattle.romfs_image.proofs.Lengths.{first_within}
use Rattle.romfs_image.proofs.TextLengths.{length-header_text, length-rom_text}
use Rattle.romfs_image.proofs.Written.{behind_front}
use Rattle.romfs_image.proofs.Passes.{one_dot, two_dots, dots_taken}
use Rattle.romfs_image.proofs.Returns.{entries_of, node_least, first_16, Walking, walk_over, linked_back}
use Rattle.romfs_image.proofs.Supers.{text_end, length-text, text_behind, text_image, text_sound}

three_each : (at : ℕ) (ns : List RomValue) → at + 3 * length ns ≤ end_at at ns
three_each at [] = omega arith
three_each at (n ∷ ns) = omega (arith, three_each (at + node_len n) ns, node_least n n.kind refl)

-- where the root's list stands
pub root_here : (ns : List RomValue) → drop 32 (rom_text ns) ≡ header_text 73 32 0 (codes ".") ++ (header_text (first_in 0 96 ns) 32 0 (codes "..") ++ nodes_text (places (headers_of ns) 1 96 ns) ns)
unfolding rom_text list_text
root_here ns = text_behind (list_text ns)

pub root_second : (ns : List RomValue) → drop 64 (rom_text ns) ≡ header_text (first_in 0 96 ns) 32 0 (codes "..") ++ nodes_text (places (headers_of ns) 1 96 ns) ns
root_second ns =
    behind_front (rom_text ns) (header_text 73 32 0 (codes ".")) (header_text (first_in 0 96 ns) 32 0 (codes "..") ++ nodes_text (places (headers_of ns) 1 96 ns) ns) 32 32
    (length-header_text 73 32 0 (codes ".")) (root_here ns)

pub root_behind : (ns : List RomValue) → drop 96 (rom_text ns) ≡ nodes_text (places (headers_of ns) 1 96 ns) ns
root_behind ns =
    behind_front (rom_text ns) (header_text (first_in 0 96 ns) 32 0 (codes "..")) (nodes_text (places (headers_of ns) 1 96 ns) ns) 64 32 (length-header_text (first_in 0 96 ns) 32 0 (codes "..")) (root_second ns)

pub root_end : (ns : List RomValue) → name_end (rom_text ns) 0 ≡ 32
unfolding rom_text
root_end ns = text_end (list_text ns)

pub root_walked : (ns : List RomValue) → AreNodes ns → length (rom_text ns) ≤ most_bytes → walked (rom_text ns) ≡ Ok (entries_of (headers_of ns) 1 96 ns)
unfolding walked
root_walked ns nodes fit =
    let y = rom_text ns in
    let first = first_in 0 96 ns in
    let two = header_text first 32 0 (codes "..") in
    let text = nodes_text (places (headers_of ns) 1 96 ns) ns in
    let len = length-rom_text ns in
    let steps : length y ≡ suc (suc (length y - 2)) = omega (arith, len, three_each 96 ns) in
    let even = first_16 0 96 ns refl in
    let within : end_at 96 ns ≤ most_bytes = omega (arith, len, fit) in
    let begin : Walking y (headers_of ns) 64 1 96 (0 ∷ []) [] [] ns = record {
      here = root_behind ns;
      count = refl;
      many = refl;
      later = omega arith;
      even = refl;
      fit = within;
      order = nodes;
      falls = (omega arith, tt);
      alike = λ folder name. refl;
    } in
    ap (λ at. walk (length y) y 0 (record { at = at; folder = 0 } ∷ []) []) (root_end ns)
    ∙ ap (λ k. walk k y 0 (record { at = 32; folder = 0 } ∷ []) []) steps
    ∙ dots_taken (suc (length y - 2)) y 0 32 73 32 (codes ".") (two ++ text) 0 [] [] one_dot (root_here ns) (omega arith) (omega arith) (omega arith)
    ∙ dots_taken (length y - 2) y 32 64 first 32 (codes "..") text 0 [] [] two_dots (root_second ns) (omega (arith, first_within 0 96 ns, within)) (omega (arith, even)) (omega arith)
    ∙ ap (λ at. walk (length y - 2) y 64 (pending at 0 []) []) (let e : first / 16 * 16 ≡ first = omega (arith, even) in e)
    ∙ walk_over y (headers_of ns) 1 96 ns (length y - 2) 64 (0 ∷ []) [] [] begin (omega (arith, len, three_each 96 ns))

pub text_reads : TextReads
unfolding rom_read rom_text
text_reads = λ ns nodes fit.
    let list = list_text ns in
    let small : 32 + length list < 2 ^ 32 = omega (arith, length-text list, fit) in
    let y = image_text list in
    rw (text_sound list small, text_image list small, root_walked ns nodes fit) (linked_back y (headers_of ns) 1 96 (0 ∷ []) [] ns (root_behind ns) nodes)

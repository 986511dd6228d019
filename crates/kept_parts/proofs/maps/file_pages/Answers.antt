-- The front of the pages, as far as the file goes, and zeros behind it.
use Rattle.std.proofs.Common.{◌≡◌, ℕ, ◌-◌, ◌*◌, List, ◌++◌, length, take, drop, ap, ◌∙◌, arith, rules}
use Rattle.std.specs.Prelude.{replicate}
use Rattle.std.proofs.lemmas.List.{length-take, take_all}
use Rattle.mmap_rules.specs.Mappings.{file_pages}
use Rattle.kept_parts.proofs.maps.file_pages.Goals as goal

filled : (made front rest : List ℕ) (size wide len : ℕ) → front ≡ take size rest → wide ≡ size → len ≡ length front → made ≡ take wide front ++ replicate (wide - len) 0
    → made ≡ take size rest ++ replicate (size - length (take size rest)) 0
filled made front rest size wide len is same all made_is =
    let short = length-take size rest in
    made_is
    ∙ (λ i. take (same i) (is i) ++ replicate (same i - (all ∙ ap length is) i) 0)
    ∙ ap (λ (l : List ℕ). l ++ replicate (size - length (take size rest)) 0) (take_all size (take size rest) (omega (arith, short)))

pub returns-clause-bytes : goal.returns-clause-bytes
unfolding file_pages
returns-clause-bytes c =
    let front = c.extend_from_slice.new.self in
    let all : front.items ≡ c.page_bytes.result.now = c.in_ok-extend_from_slice.ensures.items ∙ ap (λ (l : List ℕ). l ++ c.page_bytes.result.now) c.in_ok-made.ensures.items in
    let wide : c.from.result * c.from-2.result ≡ 4096 * c.args.pages = search rules in
    filled _ front.items (drop (4096 * c.args.first) c.args.bytes.now) (4096 * c.args.pages) _ _ (all ∙ c.page_bytes.ensures) wide front.ok.0 c.in_ok-resize.ensures.items

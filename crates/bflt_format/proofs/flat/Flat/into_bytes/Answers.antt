use Rattle.std.proofs.Common.{◌≡◌, ◌*◌, ◌++◌, ◌∙◌, length, drop, refl, ap, append_assoc, arith}
use Rattle.std.proofs.Math.Seq.{take-append_seam}
use Rattle.bflt_format.specs.Values.{Values}
use Rattle.bflt_format.specs.Spelling.{words_text, spell}
use Rattle.bflt_format.proofs.Spelled.{header_fits}
use Rattle.bflt_format.proofs.flat.Flat.into_bytes.Goals as goal

pub put_header-requires : goal.put_header-requires
put_header-requires c =
    let fits = header_fits _ c.self.inside.file.items c.self.invariant refl in
    let len : length c.header-header.result ≡ 16 = ap length c.header-header.ensures in
    omega (arith, fits, len, ap length c.deref_mut.ensures.value)

pub returns : goal.returns
unfolding spell
returns c =
    let s = c.self.inside in
    let f = c.args.self in
    let len : length c.header-header.result ≡ 16 = ap length c.header-header.ensures in
    let whole : length c.put_header.new.file ≡ s.file.len = c.put_header.auto.file ∙ c.deref_mut.ensures.len in
    let body : drop (4 * length c.header-header.result) c.deref_mut.result.now ≡ f.body =
    ap (λ n. drop (4 * n) c.deref_mut.result.now) len ∙ ap (drop 64) c.deref_mut.ensures.value ∙ ap (λ (f : Values). f.body) c.self.view_is in
    let records : c.deref.result.now ≡ f.records = c.deref.ensures.value ∙ ap (λ (f : Values). f.records) c.self.view_is in
    c.in_ok-push_words.ensures
    ∙ ap (λ y. y ++ words_text c.deref.result.now) (rw (← whole) (take-append_seam c.put_header.new.file _) ∙ c.put_header.ensures)
    ∙ append_assoc (words_text c.header-header.result) _ _
    ∙ rw (body, records, c.header-header.ensures) refl

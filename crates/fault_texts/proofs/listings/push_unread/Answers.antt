-- The faults are those of its header or of its section headers.
use Rattle.std.proofs.Common.{◌≡◌, ◌∙◌, ℕ, List, Vec, Global, ap, subst}
use Rattle.std.specs.Prelude.{IfOk}
use Rattle.fault_texts.proofs.Unread.{header_is, heads_in, heads_text, header_text}
use Rattle.fault_texts.proofs.listings.push_unread.Goals as goal
use Rattle.fault_texts.proofs.listings.push_unread.Goals.{in-Some+in_ok-push_head_lines-in-Some, in-None+in_ok-push_header_line-in-None}

pub push_head_lines-requires : goal.push_head_lines-requires
push_head_lines-requires c =
    heads_in c.in-Some.heads c.args.bytes.now c.args.fault c.args.found.now c.written.result.now c.in-Some.ensures.value c.requires.fault c.requires.found c.in-Some.ensures.there c.written.ensures

pub push_header_line-requires : goal.push_header_line-requires
push_header_line-requires c = header_is c.args.bytes.now c.args.fault c.requires.fault c.in-None.ensures.there

pub returns : goal.returns
returns c =
    let e = c.args.bytes.now in
    let fs = c.args.found.now in
    let old = c.args.text.now.items in
    elim c.match-of.branch [
      | in-Some+in_ok-push_head_lines-in-Some w ↦
          subst (λ (t : List ℕ). IfOk c.push_numbers.result (λ _. c.push_numbers.new.text.items ≡ t))
          (heads_text w.in-Some.heads e c.args.fault fs w.written.result.now old c.match-of.text.items w.in-Some.ensures.value c.requires.fault c.requires.found w.written.ensures
          (ap (λ (t : Vec ℕ Global). t.items) w.text-is ∙ w.in_ok-push_head_lines-in-Some.ensures))
          c.push_numbers.ensures
      | in-None+in_ok-push_header_line-in-None w ↦
          subst (λ (t : List ℕ). IfOk c.push_numbers.result (λ _. c.push_numbers.new.text.items ≡ t))
          (header_text e c.args.fault fs old c.match-of.text.items c.requires.fault c.requires.found w.in-None.ensures.there
          (ap (λ (t : Vec ℕ Global). t.items) w.text-is ∙ w.in_ok-push_header_line-in-None.ensures))
          c.push_numbers.ensures
    ]

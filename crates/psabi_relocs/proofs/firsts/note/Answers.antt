use Rattle.std.proofs.Common.{◌∙◌, ap}
use Rattle.psabi_relocs.specs.Firsts.{first_at}
use Rattle.psabi_relocs.proofs.FirstNotes.{first_more}
use Rattle.psabi_relocs.proofs.firsts.note.Goals as goal

pub returns : goal.returns
returns g c = λ q. ap (λ ns. first_at ns q) c.in_ok-push.ensures.items ∙ first_more c.args.notes.now.items (c.args.address, c.args.what) q

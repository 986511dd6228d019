use Rattle.romfs_image.proofs.Inverse as inverse
use Rattle.romfs_image.proofs.laws.text_reads.Goals as goal

pub returns : goal.returns
returns c = inverse.text_reads

-- Each law by its proof over plain values.
use Rattle.command_laws.proofs.ReplayLaws.{replay_asks_its_files, replay_is_done, replay_is_refuted, replay_is_refused, replay_completes}
use Rattle.command_laws.proofs.file_laws.replay_law.Goals as goal

pub returns : goal.returns
returns c = record { loads = replay_asks_its_files; done = replay_is_done; refuted = replay_is_refuted; refused = replay_is_refused; complete = replay_completes }

-- The digits of its bytes.
use Rattle.std.proofs.Common.{rules}
use Rattle.call_log.proofs.DigitLemmas.{word_bytes}
use Rattle.call_log.proofs.digits.push_word.Goals as goal

pub returns : goal.returns
returns c = search (rules, word_bytes)

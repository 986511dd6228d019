-- Each call writes the digits in front of its last one.
use Rattle.call_log.proofs.digits.+push_decimal.Given as goal

abbrev pub decreases-push_decimal : goal.decreases-push_decimal
decreases-push_decimal l = l.number

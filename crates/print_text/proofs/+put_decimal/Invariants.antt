-- `put_decimal`, which calls itself with a tenth of the number: the measure is the number.
use Rattle.print_text.proofs.+put_decimal.Given as goal

abbrev pub decreases-put_decimal : goal.decreases-put_decimal
decreases-put_decimal l = l.x

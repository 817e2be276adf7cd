-- `write_numeral` writes the digits before the last by a call of itself, so its measure is the number.
use Rattle.writers.proofs.+write_numeral.Given as goal

abbrev pub decreases-write_numeral : goal.decreases-write_numeral
decreases-write_numeral l = l.n

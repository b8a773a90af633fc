use Rattle.circuit.proofs.SigParts.{bit_of_part, bits_of_part, constants_of_part, number_of_part, part_fits, width_of_part}
use Rattle.circuit.proofs.laws.law_of_sig_part.Goals as goal

pub returns-clause-width : goal.returns-clause-width
returns-clause-width c = width_of_part

pub returns-clause-number : goal.returns-clause-number
returns-clause-number c = λ d at width ps small below. number_of_part d small at width ps below

pub returns-clause-bit : goal.returns-clause-bit
returns-clause-bit c = λ d at width i ps small below lt. bit_of_part d small at width i ps below lt

pub returns-clause-constants : goal.returns-clause-constants
returns-clause-constants c = constants_of_part

pub returns-clause-some : goal.returns-clause-some
returns-clause-some c = bits_of_part

pub returns-clause-fits : goal.returns-clause-fits
returns-clause-fits c = part_fits

use Rattle.std.proofs.Common.{arith}
use Rattle.records.proofs.Bits.{no_bit}
use Rattle.records.proofs.bit.Goals as goal

pub returns-else-i-lt16 : goal.returns-else-i-lt16
returns-else-i-lt16 c = no_bit c.args.bits c.args.i (omega (arith, c.ranges.bits.fits)) (omega arith)

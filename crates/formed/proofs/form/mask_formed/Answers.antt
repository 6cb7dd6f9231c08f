use Rattle.std.proofs.Common.{arith}
use Rattle.formed.proofs.Masks.{mask_wide, mask_narrow}
use Rattle.formed.proofs.form.mask_formed.Goals as goal

pub returns-then-variables-ge16 : goal.returns-then-variables-ge16
returns-then-variables-ge16 c = mask_wide c.args.mask c.args.variables (omega (arith, c.ranges.mask.fits)) c.if-variables-ge16.true

pub returns-else-variables-ge16 : goal.returns-else-variables-ge16
returns-else-variables-ge16 c = mask_narrow c.args.mask c.args.variables

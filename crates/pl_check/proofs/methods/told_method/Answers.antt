use Rattle.std.proofs.Common.{sym}
use Rattle.pl_check.specs.Made.{terms_of}
use Rattle.pl_check.specs.Seen.{value_of, all_written}
use Rattle.pl_check.proofs.Told.{mask-of-stands}
use Rattle.pl_check.proofs.methods.told_method.Goals as goal

pub told_of-requires-clause-mask : goal.told_of-requires-clause-mask
told_of-requires-clause-mask c = mask-of-stands c.args.operation (all_written c.args.written.now) (value_of c.in-Some.mask) (terms_of c.args.terms.now).graph (sym c.in-Some.ensures) c.requires.written

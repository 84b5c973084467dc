use Rattle.std.proofs.Common.{arith}
use Rattle.pl_records.proofs.Places.{places_more}
use Rattle.pl_records.proofs.plain.put_field.Goals as goal

pub returns : goal.returns
returns c = places_more c.args.fields.now c.args.count _ (omega (arith, c.requires))

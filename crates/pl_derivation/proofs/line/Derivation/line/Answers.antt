use Rattle.std.proofs.Common.{sym}
use Rattle.pl_spec.proofs.Each.{each_at}
use Rattle.pl_derivation.specs.Listed.{line_of}
use Rattle.pl_derivation.specs.Texts.{IsWritable}
use Rattle.pl_derivation.proofs.Printing.{line_at}
use Rattle.pl_derivation.proofs.line.Derivation.line.Goals as goal

pub returns-clause-writable : goal.returns-clause-writable
returns-clause-writable c = each_at IsWritable _ c.args.i (line_of c.index.result.now) c.self.invariant.0 (line_at c.self.inside.lines.items c.args.i c.index.result.now c.index.ensures (rw (sym c.self.view_is) at c.requires))

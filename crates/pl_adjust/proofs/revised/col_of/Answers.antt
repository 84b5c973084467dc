use Rattle.std.proofs.Common.{◌∙◌, sym}
use Rattle.pl_lifetimes.proofs.SidColumns.{no_col_found}
use Rattle.pl_adjust.proofs.revised.col_of.Goals as goal

pub unreachable-requires : goal.unreachable-requires
unreachable-requires c = no_col_found c.args.assets.now c.args.sid (sym c.col_of.ensures.exact ∙ c.in-None.is) c.requires.0 c.requires.1

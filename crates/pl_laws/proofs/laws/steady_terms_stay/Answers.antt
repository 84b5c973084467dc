use Rattle.pl_pipeline.proofs.Steady.{steady-own}
use Rattle.pl_laws.proofs.laws.steady_terms_stay.Goals as goal

pub returns : goal.returns
returns c w names t h = steady-own w names t h

use Rattle.pl_laws.proofs.Reaches.{reach-value}
use Rattle.pl_pipeline.specs.Term.{term_at}
use Rattle.pl_terms.specs.Checked.{pipeline_of}
use Rattle.pl_terms.proofs.Windowed.{windowed}
use Rattle.pl_world.proofs.laws.early_bars_change_nothing.Goals as goal

pub returns : goal.returns
returns c w bars low same t inside a d h =
    let p = pipeline_of c.args.checked.now in
    reach-value w bars low same p.names (term_at p.graph t) (windowed p c.is_checked.ensures t) a d h

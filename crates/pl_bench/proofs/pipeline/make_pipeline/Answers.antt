use Rattle.pl_bench.proofs.Means.{means-as, keeps-rules}
use Rattle.pl_bench.proofs.pipeline.make_pipeline.Goals as goal

pub returns-in-Ok : goal.returns-in-Ok
returns-in-Ok c = means-as _ _ c.in_ok-script.ensures c.in-Ok.ensures.value

pub unreachable-requires : goal.unreachable-requires
unreachable-requires c = keeps-rules _ c.in-Err-Fault.field-0 _ _ c.in_ok-script.ensures c.in-Err-Fault.field-0-is c.in-Err-Fault.ensures.value

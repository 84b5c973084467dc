use Rattle.pl_bench.specs.Pipeline.{bench_text}
use Rattle.pl_bench.proofs.Texts.{script-is, error-is}
use Rattle.pl_bench.proofs.pipeline.read_script.Goals as goal

pub parser_memory-requires : goal.parser_memory-requires
unfolding bench_text
parser_memory-requires c = error-is c.in-Err.error c.in-Err.ensures.only

pub returns-in-Ok : goal.returns-in-Ok
unfolding bench_text
returns-in-Ok c = script-is c.in-Ok.script c.in-Ok.ensures.only

use Rattle.pl_bench.proofs.Texts.{text-spells}
use Rattle.pl_bench.proofs.Means.{script-means}
use Rattle.pl_bench.proofs.laws.text_means_the_pipeline.Goals as goal

pub returns : goal.returns
returns c = record { spells = text-spells; means = script-means }

use Rattle.std.proofs.Common.{map, string_bytes}
use Rattle.pl_words.proofs.Chunks.{chunks-fit}
use Rattle.pl_words.proofs.read.read_words.Goals as goal

pub returns-in-Some-clause-chunk : goal.returns-in-Some-clause-chunk
returns-in-Some-clause-chunk c = chunks-fit (map (λ s. string_bytes s) c.args.words.now)

use Rattle.pl_lookahead.proofs.Same.{same-files-same-bytes}
use Rattle.pl_lookahead.proofs.laws.same_files_same_bytes.Goals as goal

pub returns : goal.returns
returns c = same-files-same-bytes

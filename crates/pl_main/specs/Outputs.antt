-- What standard output took, where it could be begun.
use Rattle.std.specs.Prelude.{ℕ, List, [], Result, Ok, Err}
use Rattle.pl_edge.specs.declared.stream.Stream.{Stream}

abbrev pub taken_by : {W E : Type 0} → Result (Stream W) E → List ℕ
taken_by (Ok out) = out.log.bytes
taken_by (Err error) = []

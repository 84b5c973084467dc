use Rattle.std.proofs.Common.{◌≡◌, ◌<◌, map, ℕ}
use Rattle.pl_records.specs.Reading.{field}
use Rattle.pl_records.proofs.Records.has_fields.Given as goal

abbrev pub invariant-loop-i : goal.invariant-loop-i
invariant-loop-i l = (k : ℕ) → k < l.i → field l.self.fields k ≡ field (map (λ n. n.now) l.names) k

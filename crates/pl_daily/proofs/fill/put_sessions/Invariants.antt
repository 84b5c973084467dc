use Rattle.std.proofs.Common.{◌≡◌, ℕ, ◌<◌, length, get_or}
use Rattle.pl_daily.specs.Steps.{sessions_of}
use Rattle.pl_daily.proofs.fill.put_sessions.Given as goal

abbrev pub invariant-loop-k : goal.invariant-loop-k
invariant-loop-k l = record {
  long : length l.sessions ≡ length l.fn.sessions;
  each : (j : ℕ) → j < l.k → get_or l.sessions j 0 ≡ get_or (sessions_of l.starts) j 0;
}

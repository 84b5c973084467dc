use Rattle.pl_windows.proofs.Replay.{rows_replay}
use Rattle.pl_windows.proofs.laws.rows_replay_to_windows.Goals as goal

pub returns : goal.returns
returns c = rows_replay

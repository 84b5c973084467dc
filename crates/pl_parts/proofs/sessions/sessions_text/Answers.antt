use Rattle.std.proofs.Common.{◌≡◌, ◌≤◌, ◌++◌, [], length, arith}
use Rattle.pl_parts.specs.Texts.{session_line, sessions_text}
use Rattle.pl_parts.proofs.KeptRows.{more, all-end}
use Rattle.pl_parts.proofs.sessions.sessions_text.Goals as goal

pub loop-i-preserved : goal.loop-i-preserved
loop-i-preserved c = more (session_line) (c.args.world.now.sessions.now) c.loop-i.i [] _ _ c.loop-i.invariant c.in_ok-put_session.ensures

pub returns : goal.returns
unfolding sessions_text
returns c =
    let end : length (c.args.world.now.sessions.now) ≤ c.loop-i.i = omega (arith, c.loop-i-test.false, c.len-i-end.ensures.length) in
    all-end session_line (c.args.world.now.sessions.now) c.loop-i.i [] _ end c.loop-i.invariant

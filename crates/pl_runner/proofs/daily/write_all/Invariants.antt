use Rattle.std.proofs.Common.{◌≡◌, ◌≤◌, ◌+◌, ◌++◌, ℕ, length}
use Rattle.pl_outside.specs.Taken.{IsWrittenIn}
use Rattle.pl_outside.proofs.Pieces.{Writing}
use Rattle.pl_table.specs.Asked.{asked_pipeline, asked_table, asked_world}
use Rattle.pl_table.specs.Outcomes.{lines}
use Rattle.pl_runner.specs.States.{IsState}
use Rattle.pl_runner.proofs.Values.{rows_left}
use Rattle.pl_runner.proofs.Work.{steps_below}
use Rattle.pl_runner.proofs.daily.write_all.Given as goal

abbrev pub invariant-loop-session : goal.invariant-loop-session
invariant-loop-session g l =
    let out = g.O.Sink in
    let w = asked_world l.asked in
    let p = asked_pipeline l.asked in
    record {
      state : IsState l.asked.world p l.session l.state;
      within : l.session ≤ l.asked.plan.now.to + 1;
      pieces : (n : ℕ) × IsWrittenIn out.whole out.calls l.fn.out l.out n × (n + length (rows_left w p l.asked.plan.now.from l.asked.plan.now.to l.session) ≡ 1 + length (asked_table l.asked));
      writing : Writing out.taken out.faults out.sound out.room l.fn.out l.out (l.header ++ lines w p l.asked.format (asked_table l.asked)) (lines w p l.asked.format (rows_left w p l.asked.plan.now.from l.asked.plan.now.to l.session));
      steps : l.steps ≡ l.fn.steps + steps_below w p l.session;
    }

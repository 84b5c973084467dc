use Rattle.pl_cli.proofs.top.run_program.Goals as goal

pub returns : goal.returns
returns g c =
    let w = c.work_on-outcome.ensures in
    rw c.status-status.ensures
    (record {
      run = (_, _, w.run, c.tell.ensures.told);
      usage = w.usage;
      refused = w.refused;
      read = w.read;
      store = w.store;
      write = w.write;
      kept = w.kept;
      alone = w.alone;
      shelf = w.shelf;
      keeper = w.keeper;
      out = w.out;
      err = c.tell.ensures.err;
    })

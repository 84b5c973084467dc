use Rattle.pl_load.proofs.line.write_sid.Goals as goal

pub returns : goal.returns
returns g c = rw (← c.format.ensures.text) c.write_named.ensures

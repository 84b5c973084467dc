use Rattle.pl_outside.proofs.Keepers.{same_rows}
use Rattle.pl_outside.proofs.memory_keeper.MemoryKeeperAdjustKeeper.load.Goals as goal

pub returns-in_err-take_call-clause-after : goal.returns-in_err-take_call-clause-after
returns-in_err-take_call-clause-after c = rw (← c.self.view_is, c.take_call.ensures.after) (same_rows _ _ _ _ _ _ _ _ _ _ _ _)

pub returns-in_err-extend_from_slice-clause-after : goal.returns-in_err-extend_from_slice-clause-after
returns-in_err-extend_from_slice-clause-after c = rw (← c.self.view_is, c.take_call.ensures.after) (same_rows _ _ _ _ _ _ _ _ _ _ _ _)

pub returns-clause-after : goal.returns-clause-after
returns-clause-after c = rw (← c.self.view_is, c.take_call.ensures.after) (same_rows _ _ _ _ _ _ _ _ _ _ _ _)

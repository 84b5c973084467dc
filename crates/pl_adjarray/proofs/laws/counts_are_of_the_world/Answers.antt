use Rattle.pl_adjarray.proofs.Worlds as worlds
use Rattle.pl_adjarray.proofs.laws.counts_are_of_the_world.Goals as goal

pub returns-clause-counts : goal.returns-clause-counts
returns-clause-counts c = worlds.counts_are_of_the_world

pub returns-clause-whole : goal.returns-clause-whole
returns-clause-whole c = worlds.whole_counts

use Rattle.pl_lookahead.proofs.Explained.{later-data-change-no-derivation}
use Rattle.pl_lookahead.proofs.Texts.{later-data-change-no-byte}
use Rattle.pl_lookahead.proofs.laws.later_data_change_no_byte.Goals as goal

pub returns-clause-tables : goal.returns-clause-tables
returns-clause-tables c = later-data-change-no-byte

pub returns-clause-derivations : goal.returns-clause-derivations
returns-clause-derivations c = later-data-change-no-derivation

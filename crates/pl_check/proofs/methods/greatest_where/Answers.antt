use Rattle.std.proofs.Common.{[]}
use Rattle.pl_pipeline.specs.declared.Summary.TheVariants.{Greatest}
use Rattle.pl_terms.specs.Nodes.{interned}
use Rattle.pl_check.specs.declared.operation.Operation.TheVariants.{Summarize}
use Rattle.pl_check.specs.Seen.{value_of, all_written}
use Rattle.pl_check.specs.Typed.{method_of}
use Rattle.pl_check.proofs.Told.{after-where, finds-then}
use Rattle.pl_check.proofs.methods.greatest_where.Goals as goal

pub called_on-requires-clause-stands : goal.called_on-requires-clause-stands
called_on-requires-clause-stands c = (after-where c.args.place (value_of c.args.object) (value_of c.args.filter) c.requires.object c.requires.filter c.requires.sound c.in_ok-kept.ensures).0

pub called_on-requires-clause-written : goal.called_on-requires-clause-written
unfolding all_written
called_on-requires-clause-written c = tt

pub called_on-requires-clause-sound : goal.called_on-requires-clause-sound
called_on-requires-clause-sound c = (after-where c.args.place (value_of c.args.object) (value_of c.args.filter) c.requires.object c.requires.filter c.requires.sound c.in_ok-kept.ensures).2

pub returns : goal.returns
unfolding all_written
returns c = finds-then c.called_on.new.terms c.called_on.result (λ r. method_of interned c.args.place r.value [] r.terms (Summarize Greatest)) c.in_ok-kept.ensures c.called_on.ensures

use Rattle.std.proofs.Common.{rules, false, sym, ◌∙◌, []}
use Rattle.pl_check.specs.declared.operation.Operation.TheVariants.{Window}
use Rattle.pl_pipeline.specs.declared.WindowKind.TheVariants.{Latest}
use Rattle.pl_check.proofs.Tables.{taken-at, passed-at, none-left}
use Rattle.pl_check.proofs.operation.operation_in.Goals as goal

pub returns-then-is_word : goal.returns-then-is_word
returns-then-is_word c =
    sym (c.loop-known.invariant ∙ taken-at c.args.version c.args.name.now c.args.table.now c.loop-known.known-index _ (search rules) (search rules))

pub loop-known-preserved : goal.loop-known-preserved
loop-known-preserved c =
    c.loop-known.invariant ∙ passed-at c.args.version c.args.name.now c.args.table.now c.loop-known.known-index (record { ref_ptr = (0, 0); now = [] }, 0, Window Latest false) (search rules) (search rules)

pub returns : goal.returns
returns c = sym (c.loop-known.invariant ∙ none-left c.args.version c.args.name.now c.args.table.now c.loop-known.known-index (search rules))

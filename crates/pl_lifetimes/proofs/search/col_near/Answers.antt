use Rattle.std.proofs.Common.{Some, option_map, ap, sym, ◌∙◌}
use Rattle.std.proofs.lemmas.Option.{slice_get-get_or}
use Rattle.pl_spec.proofs.Columns.{no_asset}
use Rattle.pl_lifetimes.specs.Assets.{sid_of}
use Rattle.pl_lifetimes.proofs.SidColumns.{sid_first}
use Rattle.pl_lifetimes.proofs.search.col_near.Goals as goal

pub returns-then-rows-same-clause-exact : goal.returns-then-rows-same-clause-exact
returns-then-rows-same-clause-exact c =
    sym (sid_first c.args.rows.now c.args.sid _ c.requires.ascend c.if-same-rows.true
    (ap (option_map sid_of) (slice_get-get_or c.args.rows.now _ no_asset c.if-same-rows.true) ∙ ap Some c.if-rows-same.true))

pub returns-then-rows-next-clause-exact : goal.returns-then-rows-next-clause-exact
returns-then-rows-next-clause-exact c =
    sym (sid_first c.args.rows.now c.args.sid _ c.requires.ascend c.if-next-rows.true
    (ap (option_map sid_of) (slice_get-get_or c.args.rows.now _ no_asset c.if-next-rows.true) ∙ ap Some c.if-rows-next.true))

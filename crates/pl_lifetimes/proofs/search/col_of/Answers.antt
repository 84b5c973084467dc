use Rattle.std.proofs.Common.{rules, nat_lt, sym, arith}
use Rattle.std.proofs.lemmas.List.Sorted.{IsPartitionPoint-from_clause}
use Rattle.pl_spec.proofs.Places.{key_found, key_other, parted_by}
use Rattle.pl_spec.proofs.Columns.{no_asset}
use Rattle.pl_lifetimes.specs.Assets.{sid_of}
use Rattle.pl_lifetimes.proofs.search.col_of.Goals as goal
use Rattle.pl_lifetimes.proofs.search.col_of.Goals.{else-i-rows-via-then-i-rows+else-rows-i, else-i-rows-via-else-i-rows}

pub returns-then-rows-i-clause-exact : goal.returns-then-rows-i-clause-exact
returns-then-rows-i-clause-exact c =
    sym (key_found sid_of c.args.sid c.args.rows.now c.partition_point-i.result no_asset c.if-i-rows.true
    (IsPartitionPoint-from_clause (λ x. nat_lt (sid_of x) c.args.sid) _ _ c.partition_point-i.ensures.partitioned (parted_by sid_of c.args.sid c.args.rows.now c.requires.ascend) (λ a r q k. search rules))
    c.if-rows-i.true)

pub returns-else-i-rows-clause-exact : goal.returns-else-i-rows-clause-exact
returns-else-i-rows-clause-exact c =
    sym (key_other sid_of c.args.sid c.args.rows.now c.partition_point-i.result no_asset c.requires.ascend
    (IsPartitionPoint-from_clause (λ x. nat_lt (sid_of x) c.args.sid) _ _ c.partition_point-i.ensures.partitioned (parted_by sid_of c.args.sid c.args.rows.now c.requires.ascend) (λ a r q k. search rules))
    (λ inside. elim c.else-i-rows.branch [ else-i-rows-via-then-i-rows+else-rows-i w ↦ w.if-rows-i.false | else-i-rows-via-else-i-rows w ↦ λ e. omega (arith, w.if-i-rows.false) ]))

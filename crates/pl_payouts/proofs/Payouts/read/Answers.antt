use Rattle.pl_records.specs.Records.{csv_records}
use Rattle.pl_payouts.proofs.PayoutsRead.{Kept-read}
use Rattle.pl_payouts.proofs.Payouts.read.Goals as goal

pub invariant_of-result : goal.invariant_of-result
invariant_of-result c = (Kept-read c.args.assets.now c.in_ok-rows.ensures.assets (csv_records c.args.bytes.now) c.in_ok-rows.rows.items c.in_ok-rows.ensures.exact).0

pub returns-clause-payouts : goal.returns-clause-payouts
returns-clause-payouts c = (Kept-read c.args.assets.now c.in_ok-rows.ensures.assets (csv_records c.args.bytes.now) c.in_ok-rows.rows.items c.in_ok-rows.ensures.exact).0

pub returns-clause-known : goal.returns-clause-known
returns-clause-known c = (Kept-read c.args.assets.now c.in_ok-rows.ensures.assets (csv_records c.args.bytes.now) c.in_ok-rows.rows.items c.in_ok-rows.ensures.exact).1

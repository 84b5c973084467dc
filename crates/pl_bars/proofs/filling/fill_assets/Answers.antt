use Rattle.std.proofs.Common.{◌≡◌, ◌+◌, ◌*◌, ◌≤◌, length, get_or, arith}
use Rattle.pl_spec.specs.Rounding.{IsCell}
use Rattle.pl_bars.specs.Bars.{cell_at}
use Rattle.pl_bars.proofs.BarFilling.{part_within, part_length, part_written}
use Rattle.pl_bars.proofs.filling.fill_assets.Goals as goal

pub loop-i-preserved : goal.loop-i-preserved
loop-i-preserved c =
    let within : (c.loop-i.i + 1) * c.args.rows ≤ length c.loop-i.into =
    omega (arith, part_within c.loop-i.i (length c.args.cols.now) c.args.rows c.loop-i-test.true) in
    let part = part_length c.loop-i.into c.loop-i.i c.args.rows within in
    let long : length c.fill_asset.new.into ≡ c.args.rows = omega (arith, part) in
    record {
      values = part_written (λ j k v. v ≡ cell_at c.args.bars.now (get_or c.args.cols.now j 0) c.args.column (c.args.first + k)) c.loop-i.into c.fill_asset.new.into c.loop-i.i c.args.rows _ within long
          c.loop-i.invariant.values (λ k h. c.fill_asset.ensures.values k (omega (arith, part)));
      cells = part_written (λ j k v. IsCell v) c.loop-i.into c.fill_asset.new.into c.loop-i.i c.args.rows _ within long
          c.loop-i.invariant.cells (λ k h. c.fill_asset.ensures.cells k (omega (arith, part)));
    }

use Rattle.std.proofs.Common.{◌<◌, ◌+◌, ◌∙◌, ℕ, ap, ap₂, sym, length, sum_by, arith}
use Rattle.std.proofs.lemmas.List.{take_all}
use Rattle.std.proofs.lemmas.List.Sums.{sum_by_more}
use Rattle.pl_spec.specs.declared.AssetRow.{AssetRow}
use Rattle.pl_spec.proofs.Columns.{no_asset, sid_at-row}
use Rattle.pl_world.specs.Present.{known_on}
use Rattle.pl_world.specs.Worlds.{world_of}
use Rattle.pl_world.proofs.present.present_under.Goals as goal

pub loop-col-preserved : goal.loop-col-preserved
loop-col-preserved c =
    let w = world_of c.args.world.now in
    let assets = c.args.world.now.assets.now in
    let col = c.loop-col.col in
    let inside : col < length assets = omega arith in
    let own = c.present_of-count.ensures.count ∙ ap (known_on w c.args.figure c.args.from c.args.to c.args.name.now) (sid_at-row assets col no_asset inside) in
    record {
      count = ap₂ (λ (a b : ℕ). a + b) c.loop-col.invariant.count own ∙ sym (sum_by_more (λ (x : AssetRow). known_on w c.args.figure c.args.from c.args.to c.args.name.now x.sid) assets col no_asset inside);
      few = omega arith;
    }

pub returns-clause-count : goal.returns-clause-count
returns-clause-count c =
    let assets = c.args.world.now.assets.now in
    c.loop-col.invariant.count
    ∙ ap (sum_by (λ (x : AssetRow). known_on (world_of c.args.world.now) c.args.figure c.args.from c.args.to c.args.name.now x.sid))
    (take_all c.loop-col.col assets (omega arith))

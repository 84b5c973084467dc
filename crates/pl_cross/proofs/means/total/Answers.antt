use Rattle.std.proofs.Common.{pos, List, refl, ap, ◌∙◌, arith}
use Rattle.std.specs.Int.{w128}
use Rattle.std.proofs.lemmas.Int.{to_z-of_z}
use Rattle.std.proofs.lemmas.List.{take_all}
use Rattle.pl_spec.specs.Cells.{total}
use Rattle.pl_pipeline.specs.Cross.{values}
use Rattle.pl_cross.specs.declared.listing.Listed.{Listed}
use Rattle.pl_cross.specs.Listing.{entries_of}
use Rattle.pl_cross.proofs.Centers.{next-total, value-cast}
use Rattle.pl_cross.proofs.means.total.Goals as goal

pub loop-asset-init : goal.loop-asset-init
loop-asset-init c = record { value = refl; size = omega arith }

pub loop-asset-preserved : goal.loop-asset-preserved
loop-asset-preserved c =
    let i = c.loop-asset.asset-index in
    let blank : Listed = record { value = pos 0; place = 0 } in
    let small = c.requires.cells i blank c.loop-asset-test.true in
    let next = next-total c.args.group.now i blank _ _ c.loop-asset-test.true c.requires.few small c.loop-asset.invariant.value c.loop-asset.invariant.size (value-cast _ small) in
    record { value = to_z-of_z w128 _ next.1 ∙ next.0.value; size = rw (to_z-of_z w128 _ next.1) next.0.size }

pub overflow_add-sum : goal.overflow_add-sum
overflow_add-sum c =
    let i = c.loop-asset.asset-index in
    let blank : Listed = record { value = pos 0; place = 0 } in
    let small = c.requires.cells i blank c.loop-asset-test.true in
    (next-total c.args.group.now i blank _ _ c.loop-asset-test.true c.requires.few small c.loop-asset.invariant.value c.loop-asset.invariant.size (value-cast _ small)).1

pub returns : goal.returns
returns c =
    let group = c.args.group.now in
    let whole = take_all c.loop-asset.asset-index group c.loop-asset-test.false in
    record {
      value = c.loop-asset.invariant.value ∙ ap (λ (g : List Listed). total (values (entries_of g))) whole;
      size = omega (arith, c.loop-asset.invariant.size, c.loop-asset.auto.asset-index-end);
    }

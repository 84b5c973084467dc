use Rattle.std.proofs.Common.{◌≡◌, ◌-◌, ◌++◌, ◌∷◌, [], ◌∙◌, ap, map, arith, length, FitsSigned, w32, rules}
use Rattle.pl_spec.specs.declared.AssetRow.{AssetRow}
use Rattle.std.specs.List.{range_with_len}
use Rattle.std.proofs.lemmas.Int.{to_z-of_z}
use Rattle.pl_bench.specs.StatedWorld.{asset}
use Rattle.pl_bench.proofs.Days.{length-stated_days}
use Rattle.pl_bench.proofs.Grids.{map-more}
use Rattle.pl_bench.proofs.Assets.{are_assets, asset-from, assets-all}
use Rattle.pl_bench.proofs.sessions.make_assets.Goals as goal

pub day-start-requires : goal.day-start-requires
day-start-requires c = omega (arith, ap length c.requires, length-stated_days)

pub loop-col-preserved : goal.loop-col-preserved
loop-col-preserved c =
    let start : FitsSigned w32 c.day-start.result = search rules in
    let end : FitsSigned w32 c.day-end.result = search rules in
    let last : c.len.result - 1 ≡ 599 = omega (arith, c.len.ensures.length, ap length c.requires, length-stated_days) in
    let rows = c.in_ok-push.ensures.items in
    rw (rows, c.loop-col.invariant, to_z-of_z w32 _ start, to_z-of_z w32 _ end, map-more asset c.loop-col.col)
    (ap (λ (r : AssetRow). map asset (range_with_len 0 c.loop-col.col) ++ r ∷ [])
    (asset-from c.loop-col.col c.args.sessions.now (c.len.result - 1) _ _ c.requires last c.day-start.ensures.exact c.day-end.ensures.exact))

pub from_rows-requires : goal.from_rows-requires
from_rows-requires c =
    let all : c.loop-col.col ≡ 400 = omega arith in
    rw (c.loop-col.invariant, all, assets-all) are_assets

pub returns : goal.returns
returns c =
    let all : c.loop-col.col ≡ 400 = omega arith in
    c.from_rows.ensures ∙ c.loop-col.invariant ∙ ap (λ n. map asset (range_with_len 0 n)) all ∙ assets-all

use Rattle.std.proofs.Common.{ℕ, ◌+◌, List, ◌++◌, ◌∙◌, drop, flat_map, sym, ap, arith}
use Rattle.std.proofs.lemmas.List.{at_drop_more}
use Rattle.std.proofs.lemmas.Option.{get_or_from_slice_get}
use Rattle.pl_spec.specs.declared.AssetRow.{AssetRow}
use Rattle.pl_packed.specs.Packed.{four_bytes}
use Rattle.pl_packed.proofs.Pushes.{push-more}
use Rattle.pl_packed.proofs.head.put_sids.Goals as goal

abbrev sid_bytes : List AssetRow → List ℕ
sid_bytes assets = flat_map (λ (a : AssetRow). four_bytes a.sid) assets

pub sids-preserved : goal.sids-preserved
sids-preserved c =
    let assets = c.args.assets.now in
    let i = c.sids.i in
    let row = c.row.result in
    let next = at_drop_more sid_bytes assets i row (omega (arith, c.sids-test.true, c.len-count.ensures.length)) in
    let left = ap (λ (a : AssetRow). four_bytes a.sid ++ sid_bytes (drop (i + 1) assets)) (get_or_from_slice_get assets i row row c.row.ensures) in
    push-more c.sids.head.items _ c.four_bytes-in-sids.result (sid_bytes (drop (i + 1) assets)) (sid_bytes (drop i assets)) _
    c.in_ok-extend_from_slice-2.ensures.items (next ∙ left ∙ ap (λ s. s ++ sid_bytes (drop (i + 1) assets)) (sym c.four_bytes-in-sids.ensures)) c.sids.invariant

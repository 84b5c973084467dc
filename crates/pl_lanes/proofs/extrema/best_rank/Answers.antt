use Rattle.std.proofs.Common.{◌≡◌, ◌+◌, ◌≤◌, length, map, drop, arith, ap, sym, ◌∙◌}
use Rattle.std.proofs.lemmas.Simd.{length-chunk}
use Rattle.std.proofs.lemmas.List.{length-map, drop-map}
use Rattle.pl_lanes.specs.Heights.{peak, rank}
use Rattle.pl_lanes.proofs.Bits.{tail}
use Rattle.pl_lanes.proofs.Heights.{peak-more, peak-split}
use Rattle.pl_lanes.proofs.extrema.best_rank.Goals as goal

pub eights-preserved : goal.eights-preserved
eights-preserved c =
    let at = c.eights.at in
    let hs = map (rank c.args.low) c.args.x.now in
    let room : at + 8 ≤ length c.args.x.now = omega arith in
    let eight : length c.ranks.result ≡ 8 = rw c.ranks.ensures (length-chunk at 8 hs (rw length-map room)) in
    record {
      within = room;
      best = rw c.higher-best.ensures (peak-more at c.eights.best c.ranks.result hs (c.eights.auto.best.0 ∙ sym eight) c.ranks.ensures c.eights.invariant.best);
    }

pub returns : goal.returns
returns c =
    let xs = c.args.x.now in
    let at = c.eights.at in
    let rest : c.best_plainly.result ≡ peak (drop at (map (rank c.args.low) xs)) = rw drop-map (c.best_plainly.ensures ∙ ap (λ l. peak (map (rank c.args.low) l)) (tail at xs)) in
    omega (arith, c.max.ensures, c.lane_peak.ensures, rest, c.eights.invariant.best, peak-split at (map (rank c.args.low) xs))

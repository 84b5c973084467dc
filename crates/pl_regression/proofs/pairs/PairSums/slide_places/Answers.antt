use Rattle.std.proofs.Common.{◌≡◌, ◌+◌, ◌-◌, ℤ, pos, length, drop, get_or, arith, ap, ap₂, sym, ◌∙◌}
use Rattle.std.proofs.lemmas.List.{length-take}
use Rattle.std.proofs.lemmas.List.Elements.{All-take}
use Rattle.pl_lanes.proofs.Bits.{at-exact}
use Rattle.pl_spec.specs.Rounding.{IsCell, is_missing}
use Rattle.pl_spec.specs.Limits.{most_window}
use Rattle.pl_pipeline.specs.Formula.{PairSums, pair_sums, places, trend_sums}
use Rattle.pl_regression.specs.Sums.{removed, lowered}
use Rattle.pl_regression.proofs.Adding.{next_pairs, some_pair, sums_within, within_more, after_within}
use Rattle.pl_regression.proofs.Placing.{place-at, place-cast, placed_small, placed_whole, places-cells, places-long, lowered_places, next_small}
use Rattle.pl_regression.proofs.pairs.PairSums.slide_places.Goals as goal

pub add-requires-clause-sums : goal.add-requires-clause-sums
add-requires-clause-sums c =
    let ys = c.args.ys.now in
    let n = length ys - 1 in
    rw c.requires.stands (placed_small _ (All-take IsCell n ys c.requires.cells) (omega (arith, length-take n ys, c.requires.few)))

pub remove-requires-clause-sums : goal.remove-requires-clause-sums
remove-requires-clause-sums c =
    let ys = c.args.ys.now in
    let all : c.add.new.self ≡ pair_sums (places ys) ys =
    placed_whole ys c.args.self.now _ _ _ c.requires.some c.requires.stands (place-cast (length ys - 1) (omega (arith, c.requires.few))) (at-exact ys (length ys - 1) c.requires.cells) c.add.ensures in
    let long = places-long ys in
    rw all (within_more (length (places ys)) (most_window + 1) _ (omega (arith, long, c.requires.few)) (sums_within (places ys) ys (places-cells ys c.requires.few) c.requires.cells))

pub remove-requires-clause-some : goal.remove-requires-clause-some
remove-requires-clause-some c =
    let ys = c.args.ys.now in
    let all : c.add.new.self ≡ pair_sums (places ys) ys =
    placed_whole ys c.args.self.now _ _ _ c.requires.some c.requires.stands (place-cast (length ys - 1) (omega (arith, c.requires.few))) (at-exact ys (length ys - 1) c.requires.cells) c.add.ensures in
    λ e f. rw all (some_pair (places ys) ys (omega (arith, places-long ys, c.requires.some)) (sym (places-long ys))
    (ap is_missing (place-at ys 0 c.requires.some) ∙ e) (ap is_missing (sym (at-exact ys 0 c.requires.cells)) ∙ f))

pub lower-requires : goal.lower-requires
lower-requires c =
    let ys = c.args.ys.now in
    let all : c.add.new.self ≡ pair_sums (places ys) ys =
    placed_whole ys c.args.self.now _ _ _ c.requires.some c.requires.stands (place-cast (length ys - 1) (omega (arith, c.requires.few))) (at-exact ys (length ys - 1) c.requires.cells) c.add.ensures in
    let next : c.remove.new.self ≡ pair_sums (drop 1 (places ys)) (drop 1 ys) =
    c.remove.ensures ∙ ap₂ (λ (u v : ℤ). removed c.add.new.self u v) (sym (place-at ys 0 c.requires.some)) (at-exact ys 0 c.requires.cells)
    ∙ ap (λ (s : PairSums). removed s (get_or (places ys) 0 (pos 0)) (get_or ys 0 (pos 0))) all
    ∙ next_pairs (places ys) ys (omega (arith, places-long ys, c.requires.some)) (sym (places-long ys)) in
    rw next (after_within (places ys) ys (places-cells ys c.requires.few) c.requires.cells (omega (arith, places-long ys, c.requires.few)))

pub returns-clause-value : goal.returns-clause-value
returns-clause-value c =
    let ys = c.args.ys.now in
    let all : c.add.new.self ≡ pair_sums (places ys) ys =
    placed_whole ys c.args.self.now _ _ _ c.requires.some c.requires.stands (place-cast (length ys - 1) (omega (arith, c.requires.few))) (at-exact ys (length ys - 1) c.requires.cells) c.add.ensures in
    let next : c.remove.new.self ≡ pair_sums (drop 1 (places ys)) (drop 1 ys) =
    c.remove.ensures ∙ ap₂ (λ (u v : ℤ). removed c.add.new.self u v) (sym (place-at ys 0 c.requires.some)) (at-exact ys 0 c.requires.cells)
    ∙ ap (λ (s : PairSums). removed s (get_or (places ys) 0 (pos 0)) (get_or ys 0 (pos 0))) all
    ∙ next_pairs (places ys) ys (omega (arith, places-long ys, c.requires.some)) (sym (places-long ys)) in
    c.lower.ensures ∙ ap lowered next ∙ lowered_places ys c.requires.some

pub returns-clause-small : goal.returns-clause-small
returns-clause-small c =
    let ys = c.args.ys.now in
    let all : c.add.new.self ≡ pair_sums (places ys) ys =
    placed_whole ys c.args.self.now _ _ _ c.requires.some c.requires.stands (place-cast (length ys - 1) (omega (arith, c.requires.few))) (at-exact ys (length ys - 1) c.requires.cells) c.add.ensures in
    let next : c.remove.new.self ≡ pair_sums (drop 1 (places ys)) (drop 1 ys) =
    c.remove.ensures ∙ ap₂ (λ (u v : ℤ). removed c.add.new.self u v) (sym (place-at ys 0 c.requires.some)) (at-exact ys 0 c.requires.cells)
    ∙ ap (λ (s : PairSums). removed s (get_or (places ys) 0 (pos 0)) (get_or ys 0 (pos 0))) all
    ∙ next_pairs (places ys) ys (omega (arith, places-long ys, c.requires.some)) (sym (places-long ys)) in
    let value : c.lower.new.self ≡ trend_sums (drop 1 ys) = c.lower.ensures ∙ ap lowered next ∙ lowered_places ys c.requires.some in
    rw value (next_small ys c.requires.cells c.requires.few)

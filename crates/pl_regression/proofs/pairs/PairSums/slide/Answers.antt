use Rattle.std.proofs.Common.{◌≡◌, ◌+◌, ◌-◌, ◌≤◌, ℤ, pos, List, length, take, drop, get_or, w64, to_z, of_z, arith, ap, ap₂, sym, ◌∙◌}
use Rattle.pl_lanes.proofs.Bits.{at-exact}
use Rattle.pl_spec.specs.Rounding.{IsCell, is_missing}
use Rattle.std.specs.List.{All}
use Rattle.pl_spec.specs.Limits.{most_window}
use Rattle.pl_pipeline.specs.Formula.{PairSums, pair_sums}
use Rattle.pl_regression.specs.Sums.{added, removed, AreWithin}
use Rattle.pl_regression.proofs.Adding.{all_by_last, next_pairs, some_pair, front_within, sums_within, within_more, after_within}
use Rattle.pl_regression.proofs.pairs.PairSums.slide.Goals as goal

-- all pairs of the two lists
whole : (xs ys : List ℤ) (old all : PairSums) → All IsCell xs → All IsCell ys → 1 ≤ length xs → length ys ≡ length xs
    → old ≡ pair_sums (take (length xs - 1) xs) (take (length ys - 1) ys)
    → all ≡ added old (to_z w64 (of_z w64 (get_or xs (length xs - 1) (pos 0)))) (to_z w64 (of_z w64 (get_or ys (length xs - 1) (pos 0))))
    → all ≡ pair_sums xs ys
whole xs ys old all p q some long stands e =
    e ∙ ap₂ (λ (u v : ℤ). added old u v) (at-exact xs (length xs - 1) p) (at-exact ys (length xs - 1) q)
    ∙ ap (λ (s : PairSums). added s (get_or xs (length xs - 1) (pos 0)) (get_or ys (length xs - 1) (pos 0))) stands
    ∙ all_by_last xs ys some long

pub add-requires-clause-sums : goal.add-requires-clause-sums
add-requires-clause-sums c =
    let xs = c.args.xs.now in
    let ys = c.args.ys.now in
    let m : length ys - 1 ≡ length xs - 1 = omega arith in
    let stands = rw m at c.requires.stands in
    rw stands (front_within xs ys (length xs - 1) c.requires.cells c.requires.others (omega arith))

pub remove-requires-clause-sums : goal.remove-requires-clause-sums
remove-requires-clause-sums c =
    let xs = c.args.xs.now in
    let ys = c.args.ys.now in
    let all = whole xs ys _ _ c.requires.cells c.requires.others c.requires.some c.requires.paired c.requires.stands c.add.ensures in
    rw all (within_more (length xs) (most_window + 1) _ c.requires.few (sums_within xs ys c.requires.cells c.requires.others))

pub remove-requires-clause-some : goal.remove-requires-clause-some
remove-requires-clause-some c =
    let xs = c.args.xs.now in
    let ys = c.args.ys.now in
    let all = whole xs ys _ _ c.requires.cells c.requires.others c.requires.some c.requires.paired c.requires.stands c.add.ensures in
    λ e f. rw all (some_pair xs ys c.requires.some c.requires.paired
    (ap is_missing (sym (at-exact xs 0 c.requires.cells)) ∙ e) (ap is_missing (sym (at-exact ys 0 c.requires.others)) ∙ f))

pub returns : goal.returns
returns c =
    let xs = c.args.xs.now in
    let ys = c.args.ys.now in
    let all = whole xs ys _ _ c.requires.cells c.requires.others c.requires.some c.requires.paired c.requires.stands c.add.ensures in
    let next : c.remove.new.self ≡ pair_sums (drop 1 xs) (drop 1 ys) =
    c.remove.ensures ∙ ap₂ (λ (u v : ℤ). removed c.add.new.self u v) (at-exact xs 0 c.requires.cells) (at-exact ys 0 c.requires.others)
    ∙ ap (λ (s : PairSums). removed s (get_or xs 0 (pos 0)) (get_or ys 0 (pos 0))) all ∙ next_pairs xs ys c.requires.some c.requires.paired in
    let small : AreWithin most_window c.remove.new.self = rw next (after_within xs ys c.requires.cells c.requires.others c.requires.few) in
    record { value = next; small = small }

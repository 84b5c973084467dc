use Rattle.std.proofs.Common.{◌≡◌, ℤ, ◌+◌, ◌*◌, ◌≤◌, ◌+ℤ◌, ◌-ℤ◌, pos, unsigned_abs, arith, refl, ap₂, ◌∙◌}
use Rattle.std.specs.Int.{w128}
use Rattle.std.proofs.lemmas.Int.{to_z_pos}
use Rattle.pl_spec.specs.Limits.{most_window}
use Rattle.pl_spec.specs.Rounding.{LIMIT}
use Rattle.pl_factors.specs.Terms.{MOST_SUM}
use Rattle.pl_factors.proofs.Central.{limited, apart, room, wide_is, less_apart}
use Rattle.pl_factors.proofs.moments.fourth_of.Goals as goal

pub times-square-requires : goal.times-square-requires
times-square-requires c =
    let n : c.new-n.result ≡ pos c.args.number = c.new-n.ensures ∙ to_z_pos w128 c.args.number (omega (arith, c.requires.number)) in
    let bn : unsigned_abs c.new-n.result ≤ most_window = rw n c.requires.number in
    let m : c.new-m.result ≡ c.args.first = wide_is _ _ c.ranges.first c.new-m.ensures in
    let bm : unsigned_abs c.new-m.result ≤ MOST_SUM = rw m c.requires.first in
    room c.new-m.result c.new-m.result MOST_SUM MOST_SUM bm bm (omega arith)

pub times-requires : goal.times-requires
times-requires c =
    let n : c.new-n.result ≡ pos c.args.number = c.new-n.ensures ∙ to_z_pos w128 c.args.number (omega (arith, c.requires.number)) in
    let bn : unsigned_abs c.new-n.result ≤ most_window = rw n c.requires.number in
    let m : c.new-m.result ≡ c.args.first = wide_is _ _ c.ranges.first c.new-m.ensures in
    let bm : unsigned_abs c.new-m.result ≤ MOST_SUM = rw m c.requires.first in
    let bsquare = limited c.new-m.result c.new-m.result c.times-square.result MOST_SUM MOST_SUM c.times-square.ensures bm bm in
    room c.new-n.result c.new-n.result most_window most_window bn bn (omega arith)

pub times-requires-2 : goal.times-requires-2
times-requires-2 c =
    let n : c.new-n.result ≡ pos c.args.number = c.new-n.ensures ∙ to_z_pos w128 c.args.number (omega (arith, c.requires.number)) in
    let bn : unsigned_abs c.new-n.result ≤ most_window = rw n c.requires.number in
    let m : c.new-m.result ≡ c.args.first = wide_is _ _ c.ranges.first c.new-m.ensures in
    let bm : unsigned_abs c.new-m.result ≤ MOST_SUM = rw m c.requires.first in
    let bsquare = limited c.new-m.result c.new-m.result c.times-square.result MOST_SUM MOST_SUM c.times-square.ensures bm bm in
    let bnn = limited c.new-n.result c.new-n.result c.times.result most_window most_window c.times.ensures bn bn in
    room c.times.result c.new-n.result (most_window * most_window) most_window bnn bn (omega arith)

pub times-high-requires : goal.times-high-requires
times-high-requires c =
    let n : c.new-n.result ≡ pos c.args.number = c.new-n.ensures ∙ to_z_pos w128 c.args.number (omega (arith, c.requires.number)) in
    let bn : unsigned_abs c.new-n.result ≤ most_window = rw n c.requires.number in
    let m : c.new-m.result ≡ c.args.first = wide_is _ _ c.ranges.first c.new-m.ensures in
    let bm : unsigned_abs c.new-m.result ≤ MOST_SUM = rw m c.requires.first in
    let bsquare = limited c.new-m.result c.new-m.result c.times-square.result MOST_SUM MOST_SUM c.times-square.ensures bm bm in
    let bnn = limited c.new-n.result c.new-n.result c.times.result most_window most_window c.times.ensures bn bn in
    let bnnn = limited c.times.result c.new-n.result c.times-2.result (most_window * most_window) most_window c.times-2.ensures bnn bn in
    room c.times-2.result c.args.fourth.now ((most_window * most_window) * most_window) (most_window * (LIMIT * LIMIT * (LIMIT * LIMIT))) bnnn c.requires.fourth (omega arith)

pub times-requires-3 : goal.times-requires-3
times-requires-3 c =
    let n : c.new-n.result ≡ pos c.args.number = c.new-n.ensures ∙ to_z_pos w128 c.args.number (omega (arith, c.requires.number)) in
    let bn : unsigned_abs c.new-n.result ≤ most_window = rw n c.requires.number in
    let m : c.new-m.result ≡ c.args.first = wide_is _ _ c.ranges.first c.new-m.ensures in
    let bm : unsigned_abs c.new-m.result ≤ MOST_SUM = rw m c.requires.first in
    let bsquare = limited c.new-m.result c.new-m.result c.times-square.result MOST_SUM MOST_SUM c.times-square.ensures bm bm in
    let bnn = limited c.new-n.result c.new-n.result c.times.result most_window most_window c.times.ensures bn bn in
    let bnnn = limited c.times.result c.new-n.result c.times-2.result (most_window * most_window) most_window c.times-2.ensures bnn bn in
    let bhigh = limited c.times-2.result c.args.fourth.now c.times-high.result ((most_window * most_window) * most_window) (most_window * (LIMIT * LIMIT * (LIMIT * LIMIT))) c.times-high.ensures bnnn c.requires.fourth in
    room c.new-n.result c.new-n.result most_window most_window bn bn (omega arith)

pub times-requires-4 : goal.times-requires-4
times-requires-4 c =
    let n : c.new-n.result ≡ pos c.args.number = c.new-n.ensures ∙ to_z_pos w128 c.args.number (omega (arith, c.requires.number)) in
    let bn : unsigned_abs c.new-n.result ≤ most_window = rw n c.requires.number in
    let m : c.new-m.result ≡ c.args.first = wide_is _ _ c.ranges.first c.new-m.ensures in
    let bm : unsigned_abs c.new-m.result ≤ MOST_SUM = rw m c.requires.first in
    let bsquare = limited c.new-m.result c.new-m.result c.times-square.result MOST_SUM MOST_SUM c.times-square.ensures bm bm in
    let bnn = limited c.new-n.result c.new-n.result c.times.result most_window most_window c.times.ensures bn bn in
    let bnnn = limited c.times.result c.new-n.result c.times-2.result (most_window * most_window) most_window c.times-2.ensures bnn bn in
    let bhigh = limited c.times-2.result c.args.fourth.now c.times-high.result ((most_window * most_window) * most_window) (most_window * (LIMIT * LIMIT * (LIMIT * LIMIT))) c.times-high.ensures bnnn c.requires.fourth in
    let bnn2 = limited c.new-n.result c.new-n.result c.times-3.result most_window most_window c.times-3.ensures bn bn in
    room c.times-3.result c.new-m.result (most_window * most_window) MOST_SUM bnn2 bm (omega arith)

pub times-cubes-requires : goal.times-cubes-requires
times-cubes-requires c =
    let n : c.new-n.result ≡ pos c.args.number = c.new-n.ensures ∙ to_z_pos w128 c.args.number (omega (arith, c.requires.number)) in
    let bn : unsigned_abs c.new-n.result ≤ most_window = rw n c.requires.number in
    let m : c.new-m.result ≡ c.args.first = wide_is _ _ c.ranges.first c.new-m.ensures in
    let bm : unsigned_abs c.new-m.result ≤ MOST_SUM = rw m c.requires.first in
    let bsquare = limited c.new-m.result c.new-m.result c.times-square.result MOST_SUM MOST_SUM c.times-square.ensures bm bm in
    let bnn = limited c.new-n.result c.new-n.result c.times.result most_window most_window c.times.ensures bn bn in
    let bnnn = limited c.times.result c.new-n.result c.times-2.result (most_window * most_window) most_window c.times-2.ensures bnn bn in
    let bhigh = limited c.times-2.result c.args.fourth.now c.times-high.result ((most_window * most_window) * most_window) (most_window * (LIMIT * LIMIT * (LIMIT * LIMIT))) c.times-high.ensures bnnn c.requires.fourth in
    let bnn2 = limited c.new-n.result c.new-n.result c.times-3.result most_window most_window c.times-3.ensures bn bn in
    let bnnm = limited c.times-3.result c.new-m.result c.times-4.result (most_window * most_window) MOST_SUM c.times-4.ensures bnn2 bm in
    room c.times-4.result c.args.third.now ((most_window * most_window) * MOST_SUM) (most_window * (LIMIT * (LIMIT * LIMIT))) bnnm c.requires.third (omega arith)

pub times-requires-5 : goal.times-requires-5
times-requires-5 c =
    let n : c.new-n.result ≡ pos c.args.number = c.new-n.ensures ∙ to_z_pos w128 c.args.number (omega (arith, c.requires.number)) in
    let bn : unsigned_abs c.new-n.result ≤ most_window = rw n c.requires.number in
    let m : c.new-m.result ≡ c.args.first = wide_is _ _ c.ranges.first c.new-m.ensures in
    let bm : unsigned_abs c.new-m.result ≤ MOST_SUM = rw m c.requires.first in
    let bsquare = limited c.new-m.result c.new-m.result c.times-square.result MOST_SUM MOST_SUM c.times-square.ensures bm bm in
    let bnn = limited c.new-n.result c.new-n.result c.times.result most_window most_window c.times.ensures bn bn in
    let bnnn = limited c.times.result c.new-n.result c.times-2.result (most_window * most_window) most_window c.times-2.ensures bnn bn in
    let bhigh = limited c.times-2.result c.args.fourth.now c.times-high.result ((most_window * most_window) * most_window) (most_window * (LIMIT * LIMIT * (LIMIT * LIMIT))) c.times-high.ensures bnnn c.requires.fourth in
    let bnn2 = limited c.new-n.result c.new-n.result c.times-3.result most_window most_window c.times-3.ensures bn bn in
    let bnnm = limited c.times-3.result c.new-m.result c.times-4.result (most_window * most_window) MOST_SUM c.times-4.ensures bnn2 bm in
    let bcubes = limited c.times-4.result c.args.third.now c.times-cubes.result ((most_window * most_window) * MOST_SUM) (most_window * (LIMIT * (LIMIT * LIMIT))) c.times-cubes.ensures bnnm c.requires.third in
    room c.new-n.result c.times-square.result most_window (MOST_SUM * MOST_SUM) bn bsquare (omega arith)

pub times-squares-requires : goal.times-squares-requires
times-squares-requires c =
    let n : c.new-n.result ≡ pos c.args.number = c.new-n.ensures ∙ to_z_pos w128 c.args.number (omega (arith, c.requires.number)) in
    let bn : unsigned_abs c.new-n.result ≤ most_window = rw n c.requires.number in
    let m : c.new-m.result ≡ c.args.first = wide_is _ _ c.ranges.first c.new-m.ensures in
    let bm : unsigned_abs c.new-m.result ≤ MOST_SUM = rw m c.requires.first in
    let bsquare = limited c.new-m.result c.new-m.result c.times-square.result MOST_SUM MOST_SUM c.times-square.ensures bm bm in
    let bnn = limited c.new-n.result c.new-n.result c.times.result most_window most_window c.times.ensures bn bn in
    let bnnn = limited c.times.result c.new-n.result c.times-2.result (most_window * most_window) most_window c.times-2.ensures bnn bn in
    let bhigh = limited c.times-2.result c.args.fourth.now c.times-high.result ((most_window * most_window) * most_window) (most_window * (LIMIT * LIMIT * (LIMIT * LIMIT))) c.times-high.ensures bnnn c.requires.fourth in
    let bnn2 = limited c.new-n.result c.new-n.result c.times-3.result most_window most_window c.times-3.ensures bn bn in
    let bnnm = limited c.times-3.result c.new-m.result c.times-4.result (most_window * most_window) MOST_SUM c.times-4.ensures bnn2 bm in
    let bcubes = limited c.times-4.result c.args.third.now c.times-cubes.result ((most_window * most_window) * MOST_SUM) (most_window * (LIMIT * (LIMIT * LIMIT))) c.times-cubes.ensures bnnm c.requires.third in
    let bnsq = limited c.new-n.result c.times-square.result c.times-5.result most_window (MOST_SUM * MOST_SUM) c.times-5.ensures bn bsquare in
    let es : c.new.result ≡ c.args.second = wide_is _ _ c.ranges.second c.new.ensures in
    let bs : unsigned_abs c.new.result ≤ (most_window * (LIMIT * LIMIT)) = rw es c.requires.second in
    room c.times-5.result c.new.result (most_window * (MOST_SUM * MOST_SUM)) (most_window * (LIMIT * LIMIT)) bnsq bs (omega arith)

pub times-rest-requires : goal.times-rest-requires
times-rest-requires c =
    let n : c.new-n.result ≡ pos c.args.number = c.new-n.ensures ∙ to_z_pos w128 c.args.number (omega (arith, c.requires.number)) in
    let bn : unsigned_abs c.new-n.result ≤ most_window = rw n c.requires.number in
    let m : c.new-m.result ≡ c.args.first = wide_is _ _ c.ranges.first c.new-m.ensures in
    let bm : unsigned_abs c.new-m.result ≤ MOST_SUM = rw m c.requires.first in
    let bsquare = limited c.new-m.result c.new-m.result c.times-square.result MOST_SUM MOST_SUM c.times-square.ensures bm bm in
    let bnn = limited c.new-n.result c.new-n.result c.times.result most_window most_window c.times.ensures bn bn in
    let bnnn = limited c.times.result c.new-n.result c.times-2.result (most_window * most_window) most_window c.times-2.ensures bnn bn in
    let bhigh = limited c.times-2.result c.args.fourth.now c.times-high.result ((most_window * most_window) * most_window) (most_window * (LIMIT * LIMIT * (LIMIT * LIMIT))) c.times-high.ensures bnnn c.requires.fourth in
    let bnn2 = limited c.new-n.result c.new-n.result c.times-3.result most_window most_window c.times-3.ensures bn bn in
    let bnnm = limited c.times-3.result c.new-m.result c.times-4.result (most_window * most_window) MOST_SUM c.times-4.ensures bnn2 bm in
    let bcubes = limited c.times-4.result c.args.third.now c.times-cubes.result ((most_window * most_window) * MOST_SUM) (most_window * (LIMIT * (LIMIT * LIMIT))) c.times-cubes.ensures bnnm c.requires.third in
    let bnsq = limited c.new-n.result c.times-square.result c.times-5.result most_window (MOST_SUM * MOST_SUM) c.times-5.ensures bn bsquare in
    let es : c.new.result ≡ c.args.second = wide_is _ _ c.ranges.second c.new.ensures in
    let bs : unsigned_abs c.new.result ≤ (most_window * (LIMIT * LIMIT)) = rw es c.requires.second in
    let bsquares = limited c.times-5.result c.new.result c.times-squares.result (most_window * (MOST_SUM * MOST_SUM)) (most_window * (LIMIT * LIMIT)) c.times-squares.ensures bnsq bs in
    room c.times-square.result c.times-square.result (MOST_SUM * MOST_SUM) (MOST_SUM * MOST_SUM) bsquare bsquare (omega arith)

pub times-requires-6 : goal.times-requires-6
times-requires-6 c =
    let n : c.new-n.result ≡ pos c.args.number = c.new-n.ensures ∙ to_z_pos w128 c.args.number (omega (arith, c.requires.number)) in
    let bn : unsigned_abs c.new-n.result ≤ most_window = rw n c.requires.number in
    let m : c.new-m.result ≡ c.args.first = wide_is _ _ c.ranges.first c.new-m.ensures in
    let bm : unsigned_abs c.new-m.result ≤ MOST_SUM = rw m c.requires.first in
    let bsquare = limited c.new-m.result c.new-m.result c.times-square.result MOST_SUM MOST_SUM c.times-square.ensures bm bm in
    let bnn = limited c.new-n.result c.new-n.result c.times.result most_window most_window c.times.ensures bn bn in
    let bnnn = limited c.times.result c.new-n.result c.times-2.result (most_window * most_window) most_window c.times-2.ensures bnn bn in
    let bhigh = limited c.times-2.result c.args.fourth.now c.times-high.result ((most_window * most_window) * most_window) (most_window * (LIMIT * LIMIT * (LIMIT * LIMIT))) c.times-high.ensures bnnn c.requires.fourth in
    let bnn2 = limited c.new-n.result c.new-n.result c.times-3.result most_window most_window c.times-3.ensures bn bn in
    let bnnm = limited c.times-3.result c.new-m.result c.times-4.result (most_window * most_window) MOST_SUM c.times-4.ensures bnn2 bm in
    let bcubes = limited c.times-4.result c.args.third.now c.times-cubes.result ((most_window * most_window) * MOST_SUM) (most_window * (LIMIT * (LIMIT * LIMIT))) c.times-cubes.ensures bnnm c.requires.third in
    let bnsq = limited c.new-n.result c.times-square.result c.times-5.result most_window (MOST_SUM * MOST_SUM) c.times-5.ensures bn bsquare in
    let es : c.new.result ≡ c.args.second = wide_is _ _ c.ranges.second c.new.ensures in
    let bs : unsigned_abs c.new.result ≤ (most_window * (LIMIT * LIMIT)) = rw es c.requires.second in
    let bsquares = limited c.times-5.result c.new.result c.times-squares.result (most_window * (MOST_SUM * MOST_SUM)) (most_window * (LIMIT * LIMIT)) c.times-squares.ensures bnsq bs in
    let brest = limited c.times-square.result c.times-square.result c.times-rest.result (MOST_SUM * MOST_SUM) (MOST_SUM * MOST_SUM) c.times-rest.ensures bsquare bsquare in
    let bfour : unsigned_abs c.new-2.result ≤ 4 = rw c.new-2.ensures (omega arith) in
    room c.new-2.result c.times-cubes.result 4 (((most_window * most_window) * MOST_SUM) * (most_window * (LIMIT * (LIMIT * LIMIT)))) bfour bcubes (omega arith)

pub minus-above-requires : goal.minus-above-requires
minus-above-requires c =
    let n : c.new-n.result ≡ pos c.args.number = c.new-n.ensures ∙ to_z_pos w128 c.args.number (omega (arith, c.requires.number)) in
    let bn : unsigned_abs c.new-n.result ≤ most_window = rw n c.requires.number in
    let m : c.new-m.result ≡ c.args.first = wide_is _ _ c.ranges.first c.new-m.ensures in
    let bm : unsigned_abs c.new-m.result ≤ MOST_SUM = rw m c.requires.first in
    let bsquare = limited c.new-m.result c.new-m.result c.times-square.result MOST_SUM MOST_SUM c.times-square.ensures bm bm in
    let bnn = limited c.new-n.result c.new-n.result c.times.result most_window most_window c.times.ensures bn bn in
    let bnnn = limited c.times.result c.new-n.result c.times-2.result (most_window * most_window) most_window c.times-2.ensures bnn bn in
    let bhigh = limited c.times-2.result c.args.fourth.now c.times-high.result ((most_window * most_window) * most_window) (most_window * (LIMIT * LIMIT * (LIMIT * LIMIT))) c.times-high.ensures bnnn c.requires.fourth in
    let bnn2 = limited c.new-n.result c.new-n.result c.times-3.result most_window most_window c.times-3.ensures bn bn in
    let bnnm = limited c.times-3.result c.new-m.result c.times-4.result (most_window * most_window) MOST_SUM c.times-4.ensures bnn2 bm in
    let bcubes = limited c.times-4.result c.args.third.now c.times-cubes.result ((most_window * most_window) * MOST_SUM) (most_window * (LIMIT * (LIMIT * LIMIT))) c.times-cubes.ensures bnnm c.requires.third in
    let bnsq = limited c.new-n.result c.times-square.result c.times-5.result most_window (MOST_SUM * MOST_SUM) c.times-5.ensures bn bsquare in
    let es : c.new.result ≡ c.args.second = wide_is _ _ c.ranges.second c.new.ensures in
    let bs : unsigned_abs c.new.result ≤ (most_window * (LIMIT * LIMIT)) = rw es c.requires.second in
    let bsquares = limited c.times-5.result c.new.result c.times-squares.result (most_window * (MOST_SUM * MOST_SUM)) (most_window * (LIMIT * LIMIT)) c.times-squares.ensures bnsq bs in
    let brest = limited c.times-square.result c.times-square.result c.times-rest.result (MOST_SUM * MOST_SUM) (MOST_SUM * MOST_SUM) c.times-rest.ensures bsquare bsquare in
    let bfour : unsigned_abs c.new-2.result ≤ 4 = rw c.new-2.ensures (omega arith) in
    let bc4 = limited c.new-2.result c.times-cubes.result c.times-6.result 4 (((most_window * most_window) * MOST_SUM) * (most_window * (LIMIT * (LIMIT * LIMIT)))) c.times-6.ensures bfour bcubes in
    omega (arith, bhigh, bc4)

pub times-requires-7 : goal.times-requires-7
times-requires-7 c =
    let n : c.new-n.result ≡ pos c.args.number = c.new-n.ensures ∙ to_z_pos w128 c.args.number (omega (arith, c.requires.number)) in
    let bn : unsigned_abs c.new-n.result ≤ most_window = rw n c.requires.number in
    let m : c.new-m.result ≡ c.args.first = wide_is _ _ c.ranges.first c.new-m.ensures in
    let bm : unsigned_abs c.new-m.result ≤ MOST_SUM = rw m c.requires.first in
    let bsquare = limited c.new-m.result c.new-m.result c.times-square.result MOST_SUM MOST_SUM c.times-square.ensures bm bm in
    let bnn = limited c.new-n.result c.new-n.result c.times.result most_window most_window c.times.ensures bn bn in
    let bnnn = limited c.times.result c.new-n.result c.times-2.result (most_window * most_window) most_window c.times-2.ensures bnn bn in
    let bhigh = limited c.times-2.result c.args.fourth.now c.times-high.result ((most_window * most_window) * most_window) (most_window * (LIMIT * LIMIT * (LIMIT * LIMIT))) c.times-high.ensures bnnn c.requires.fourth in
    let bnn2 = limited c.new-n.result c.new-n.result c.times-3.result most_window most_window c.times-3.ensures bn bn in
    let bnnm = limited c.times-3.result c.new-m.result c.times-4.result (most_window * most_window) MOST_SUM c.times-4.ensures bnn2 bm in
    let bcubes = limited c.times-4.result c.args.third.now c.times-cubes.result ((most_window * most_window) * MOST_SUM) (most_window * (LIMIT * (LIMIT * LIMIT))) c.times-cubes.ensures bnnm c.requires.third in
    let bnsq = limited c.new-n.result c.times-square.result c.times-5.result most_window (MOST_SUM * MOST_SUM) c.times-5.ensures bn bsquare in
    let es : c.new.result ≡ c.args.second = wide_is _ _ c.ranges.second c.new.ensures in
    let bs : unsigned_abs c.new.result ≤ (most_window * (LIMIT * LIMIT)) = rw es c.requires.second in
    let bsquares = limited c.times-5.result c.new.result c.times-squares.result (most_window * (MOST_SUM * MOST_SUM)) (most_window * (LIMIT * LIMIT)) c.times-squares.ensures bnsq bs in
    let brest = limited c.times-square.result c.times-square.result c.times-rest.result (MOST_SUM * MOST_SUM) (MOST_SUM * MOST_SUM) c.times-rest.ensures bsquare bsquare in
    let bfour : unsigned_abs c.new-2.result ≤ 4 = rw c.new-2.ensures (omega arith) in
    let bc4 = limited c.new-2.result c.times-cubes.result c.times-6.result 4 (((most_window * most_window) * MOST_SUM) * (most_window * (LIMIT * (LIMIT * LIMIT)))) c.times-6.ensures bfour bcubes in
    let babove = apart c.times-high.result c.times-6.result c.minus-above.result (((most_window * most_window) * most_window) * (most_window * (LIMIT * LIMIT * (LIMIT * LIMIT)))) (4 * (((most_window * most_window) * MOST_SUM) * (most_window * (LIMIT * (LIMIT * LIMIT))))) c.minus-above.ensures bhigh bc4 in
    let bthree : unsigned_abs c.new-3.result ≤ 3 = rw c.new-3.ensures (omega arith) in
    room c.new-3.result c.times-rest.result 3 ((MOST_SUM * MOST_SUM) * (MOST_SUM * MOST_SUM)) bthree brest (omega arith)

pub times-requires-8 : goal.times-requires-8
times-requires-8 c =
    let n : c.new-n.result ≡ pos c.args.number = c.new-n.ensures ∙ to_z_pos w128 c.args.number (omega (arith, c.requires.number)) in
    let bn : unsigned_abs c.new-n.result ≤ most_window = rw n c.requires.number in
    let m : c.new-m.result ≡ c.args.first = wide_is _ _ c.ranges.first c.new-m.ensures in
    let bm : unsigned_abs c.new-m.result ≤ MOST_SUM = rw m c.requires.first in
    let bsquare = limited c.new-m.result c.new-m.result c.times-square.result MOST_SUM MOST_SUM c.times-square.ensures bm bm in
    let bnn = limited c.new-n.result c.new-n.result c.times.result most_window most_window c.times.ensures bn bn in
    let bnnn = limited c.times.result c.new-n.result c.times-2.result (most_window * most_window) most_window c.times-2.ensures bnn bn in
    let bhigh = limited c.times-2.result c.args.fourth.now c.times-high.result ((most_window * most_window) * most_window) (most_window * (LIMIT * LIMIT * (LIMIT * LIMIT))) c.times-high.ensures bnnn c.requires.fourth in
    let bnn2 = limited c.new-n.result c.new-n.result c.times-3.result most_window most_window c.times-3.ensures bn bn in
    let bnnm = limited c.times-3.result c.new-m.result c.times-4.result (most_window * most_window) MOST_SUM c.times-4.ensures bnn2 bm in
    let bcubes = limited c.times-4.result c.args.third.now c.times-cubes.result ((most_window * most_window) * MOST_SUM) (most_window * (LIMIT * (LIMIT * LIMIT))) c.times-cubes.ensures bnnm c.requires.third in
    let bnsq = limited c.new-n.result c.times-square.result c.times-5.result most_window (MOST_SUM * MOST_SUM) c.times-5.ensures bn bsquare in
    let es : c.new.result ≡ c.args.second = wide_is _ _ c.ranges.second c.new.ensures in
    let bs : unsigned_abs c.new.result ≤ (most_window * (LIMIT * LIMIT)) = rw es c.requires.second in
    let bsquares = limited c.times-5.result c.new.result c.times-squares.result (most_window * (MOST_SUM * MOST_SUM)) (most_window * (LIMIT * LIMIT)) c.times-squares.ensures bnsq bs in
    let brest = limited c.times-square.result c.times-square.result c.times-rest.result (MOST_SUM * MOST_SUM) (MOST_SUM * MOST_SUM) c.times-rest.ensures bsquare bsquare in
    let bfour : unsigned_abs c.new-2.result ≤ 4 = rw c.new-2.ensures (omega arith) in
    let bc4 = limited c.new-2.result c.times-cubes.result c.times-6.result 4 (((most_window * most_window) * MOST_SUM) * (most_window * (LIMIT * (LIMIT * LIMIT)))) c.times-6.ensures bfour bcubes in
    let babove = apart c.times-high.result c.times-6.result c.minus-above.result (((most_window * most_window) * most_window) * (most_window * (LIMIT * LIMIT * (LIMIT * LIMIT)))) (4 * (((most_window * most_window) * MOST_SUM) * (most_window * (LIMIT * (LIMIT * LIMIT))))) c.minus-above.ensures bhigh bc4 in
    let bthree : unsigned_abs c.new-3.result ≤ 3 = rw c.new-3.ensures (omega arith) in
    let br3 = limited c.new-3.result c.times-rest.result c.times-7.result 3 ((MOST_SUM * MOST_SUM) * (MOST_SUM * MOST_SUM)) c.times-7.ensures bthree brest in
    let bsix : unsigned_abs c.new-4.result ≤ 6 = rw c.new-4.ensures (omega arith) in
    room c.new-4.result c.times-squares.result 6 ((most_window * (MOST_SUM * MOST_SUM)) * (most_window * (LIMIT * LIMIT))) bsix bsquares (omega arith)

pub minus-requires : goal.minus-requires
minus-requires c =
    let n : c.new-n.result ≡ pos c.args.number = c.new-n.ensures ∙ to_z_pos w128 c.args.number (omega (arith, c.requires.number)) in
    let bn : unsigned_abs c.new-n.result ≤ most_window = rw n c.requires.number in
    let m : c.new-m.result ≡ c.args.first = wide_is _ _ c.ranges.first c.new-m.ensures in
    let bm : unsigned_abs c.new-m.result ≤ MOST_SUM = rw m c.requires.first in
    let bsquare = limited c.new-m.result c.new-m.result c.times-square.result MOST_SUM MOST_SUM c.times-square.ensures bm bm in
    let bnn = limited c.new-n.result c.new-n.result c.times.result most_window most_window c.times.ensures bn bn in
    let bnnn = limited c.times.result c.new-n.result c.times-2.result (most_window * most_window) most_window c.times-2.ensures bnn bn in
    let bhigh = limited c.times-2.result c.args.fourth.now c.times-high.result ((most_window * most_window) * most_window) (most_window * (LIMIT * LIMIT * (LIMIT * LIMIT))) c.times-high.ensures bnnn c.requires.fourth in
    let bnn2 = limited c.new-n.result c.new-n.result c.times-3.result most_window most_window c.times-3.ensures bn bn in
    let bnnm = limited c.times-3.result c.new-m.result c.times-4.result (most_window * most_window) MOST_SUM c.times-4.ensures bnn2 bm in
    let bcubes = limited c.times-4.result c.args.third.now c.times-cubes.result ((most_window * most_window) * MOST_SUM) (most_window * (LIMIT * (LIMIT * LIMIT))) c.times-cubes.ensures bnnm c.requires.third in
    let bnsq = limited c.new-n.result c.times-square.result c.times-5.result most_window (MOST_SUM * MOST_SUM) c.times-5.ensures bn bsquare in
    let es : c.new.result ≡ c.args.second = wide_is _ _ c.ranges.second c.new.ensures in
    let bs : unsigned_abs c.new.result ≤ (most_window * (LIMIT * LIMIT)) = rw es c.requires.second in
    let bsquares = limited c.times-5.result c.new.result c.times-squares.result (most_window * (MOST_SUM * MOST_SUM)) (most_window * (LIMIT * LIMIT)) c.times-squares.ensures bnsq bs in
    let brest = limited c.times-square.result c.times-square.result c.times-rest.result (MOST_SUM * MOST_SUM) (MOST_SUM * MOST_SUM) c.times-rest.ensures bsquare bsquare in
    let bfour : unsigned_abs c.new-2.result ≤ 4 = rw c.new-2.ensures (omega arith) in
    let bc4 = limited c.new-2.result c.times-cubes.result c.times-6.result 4 (((most_window * most_window) * MOST_SUM) * (most_window * (LIMIT * (LIMIT * LIMIT)))) c.times-6.ensures bfour bcubes in
    let babove = apart c.times-high.result c.times-6.result c.minus-above.result (((most_window * most_window) * most_window) * (most_window * (LIMIT * LIMIT * (LIMIT * LIMIT)))) (4 * (((most_window * most_window) * MOST_SUM) * (most_window * (LIMIT * (LIMIT * LIMIT))))) c.minus-above.ensures bhigh bc4 in
    let bthree : unsigned_abs c.new-3.result ≤ 3 = rw c.new-3.ensures (omega arith) in
    let br3 = limited c.new-3.result c.times-rest.result c.times-7.result 3 ((MOST_SUM * MOST_SUM) * (MOST_SUM * MOST_SUM)) c.times-7.ensures bthree brest in
    let bsix : unsigned_abs c.new-4.result ≤ 6 = rw c.new-4.ensures (omega arith) in
    let bs6 = limited c.new-4.result c.times-squares.result c.times-8.result 6 ((most_window * (MOST_SUM * MOST_SUM)) * (most_window * (LIMIT * LIMIT))) c.times-8.ensures bsix bsquares in
    omega (arith, br3, bs6)

pub minus-requires-2 : goal.minus-requires-2
minus-requires-2 c =
    let n : c.new-n.result ≡ pos c.args.number = c.new-n.ensures ∙ to_z_pos w128 c.args.number (omega (arith, c.requires.number)) in
    let bn : unsigned_abs c.new-n.result ≤ most_window = rw n c.requires.number in
    let m : c.new-m.result ≡ c.args.first = wide_is _ _ c.ranges.first c.new-m.ensures in
    let bm : unsigned_abs c.new-m.result ≤ MOST_SUM = rw m c.requires.first in
    let bsquare = limited c.new-m.result c.new-m.result c.times-square.result MOST_SUM MOST_SUM c.times-square.ensures bm bm in
    let bnn = limited c.new-n.result c.new-n.result c.times.result most_window most_window c.times.ensures bn bn in
    let bnnn = limited c.times.result c.new-n.result c.times-2.result (most_window * most_window) most_window c.times-2.ensures bnn bn in
    let bhigh = limited c.times-2.result c.args.fourth.now c.times-high.result ((most_window * most_window) * most_window) (most_window * (LIMIT * LIMIT * (LIMIT * LIMIT))) c.times-high.ensures bnnn c.requires.fourth in
    let bnn2 = limited c.new-n.result c.new-n.result c.times-3.result most_window most_window c.times-3.ensures bn bn in
    let bnnm = limited c.times-3.result c.new-m.result c.times-4.result (most_window * most_window) MOST_SUM c.times-4.ensures bnn2 bm in
    let bcubes = limited c.times-4.result c.args.third.now c.times-cubes.result ((most_window * most_window) * MOST_SUM) (most_window * (LIMIT * (LIMIT * LIMIT))) c.times-cubes.ensures bnnm c.requires.third in
    let bnsq = limited c.new-n.result c.times-square.result c.times-5.result most_window (MOST_SUM * MOST_SUM) c.times-5.ensures bn bsquare in
    let es : c.new.result ≡ c.args.second = wide_is _ _ c.ranges.second c.new.ensures in
    let bs : unsigned_abs c.new.result ≤ (most_window * (LIMIT * LIMIT)) = rw es c.requires.second in
    let bsquares = limited c.times-5.result c.new.result c.times-squares.result (most_window * (MOST_SUM * MOST_SUM)) (most_window * (LIMIT * LIMIT)) c.times-squares.ensures bnsq bs in
    let brest = limited c.times-square.result c.times-square.result c.times-rest.result (MOST_SUM * MOST_SUM) (MOST_SUM * MOST_SUM) c.times-rest.ensures bsquare bsquare in
    let bfour : unsigned_abs c.new-2.result ≤ 4 = rw c.new-2.ensures (omega arith) in
    let bc4 = limited c.new-2.result c.times-cubes.result c.times-6.result 4 (((most_window * most_window) * MOST_SUM) * (most_window * (LIMIT * (LIMIT * LIMIT)))) c.times-6.ensures bfour bcubes in
    let babove = apart c.times-high.result c.times-6.result c.minus-above.result (((most_window * most_window) * most_window) * (most_window * (LIMIT * LIMIT * (LIMIT * LIMIT)))) (4 * (((most_window * most_window) * MOST_SUM) * (most_window * (LIMIT * (LIMIT * LIMIT))))) c.minus-above.ensures bhigh bc4 in
    let bthree : unsigned_abs c.new-3.result ≤ 3 = rw c.new-3.ensures (omega arith) in
    let br3 = limited c.new-3.result c.times-rest.result c.times-7.result 3 ((MOST_SUM * MOST_SUM) * (MOST_SUM * MOST_SUM)) c.times-7.ensures bthree brest in
    let bsix : unsigned_abs c.new-4.result ≤ 6 = rw c.new-4.ensures (omega arith) in
    let bs6 = limited c.new-4.result c.times-squares.result c.times-8.result 6 ((most_window * (MOST_SUM * MOST_SUM)) * (most_window * (LIMIT * LIMIT))) c.times-8.ensures bsix bsquares in
    let binner = apart c.times-7.result c.times-8.result c.minus.result (3 * ((MOST_SUM * MOST_SUM) * (MOST_SUM * MOST_SUM))) (6 * ((most_window * (MOST_SUM * MOST_SUM)) * (most_window * (LIMIT * LIMIT)))) c.minus.ensures br3 bs6 in
    omega (arith, babove, binner)

pub returns-clause-small : goal.returns-clause-small
returns-clause-small c =
    let n : c.new-n.result ≡ pos c.args.number = c.new-n.ensures ∙ to_z_pos w128 c.args.number (omega (arith, c.requires.number)) in
    let bn : unsigned_abs c.new-n.result ≤ most_window = rw n c.requires.number in
    let m : c.new-m.result ≡ c.args.first = wide_is _ _ c.ranges.first c.new-m.ensures in
    let bm : unsigned_abs c.new-m.result ≤ MOST_SUM = rw m c.requires.first in
    let bsquare = limited c.new-m.result c.new-m.result c.times-square.result MOST_SUM MOST_SUM c.times-square.ensures bm bm in
    let bnn = limited c.new-n.result c.new-n.result c.times.result most_window most_window c.times.ensures bn bn in
    let bnnn = limited c.times.result c.new-n.result c.times-2.result (most_window * most_window) most_window c.times-2.ensures bnn bn in
    let bhigh = limited c.times-2.result c.args.fourth.now c.times-high.result ((most_window * most_window) * most_window) (most_window * (LIMIT * LIMIT * (LIMIT * LIMIT))) c.times-high.ensures bnnn c.requires.fourth in
    let bnn2 = limited c.new-n.result c.new-n.result c.times-3.result most_window most_window c.times-3.ensures bn bn in
    let bnnm = limited c.times-3.result c.new-m.result c.times-4.result (most_window * most_window) MOST_SUM c.times-4.ensures bnn2 bm in
    let bcubes = limited c.times-4.result c.args.third.now c.times-cubes.result ((most_window * most_window) * MOST_SUM) (most_window * (LIMIT * (LIMIT * LIMIT))) c.times-cubes.ensures bnnm c.requires.third in
    let bnsq = limited c.new-n.result c.times-square.result c.times-5.result most_window (MOST_SUM * MOST_SUM) c.times-5.ensures bn bsquare in
    let es : c.new.result ≡ c.args.second = wide_is _ _ c.ranges.second c.new.ensures in
    let bs : unsigned_abs c.new.result ≤ (most_window * (LIMIT * LIMIT)) = rw es c.requires.second in
    let bsquares = limited c.times-5.result c.new.result c.times-squares.result (most_window * (MOST_SUM * MOST_SUM)) (most_window * (LIMIT * LIMIT)) c.times-squares.ensures bnsq bs in
    let brest = limited c.times-square.result c.times-square.result c.times-rest.result (MOST_SUM * MOST_SUM) (MOST_SUM * MOST_SUM) c.times-rest.ensures bsquare bsquare in
    let bfour : unsigned_abs c.new-2.result ≤ 4 = rw c.new-2.ensures (omega arith) in
    let bc4 = limited c.new-2.result c.times-cubes.result c.times-6.result 4 (((most_window * most_window) * MOST_SUM) * (most_window * (LIMIT * (LIMIT * LIMIT)))) c.times-6.ensures bfour bcubes in
    let babove = apart c.times-high.result c.times-6.result c.minus-above.result (((most_window * most_window) * most_window) * (most_window * (LIMIT * LIMIT * (LIMIT * LIMIT)))) (4 * (((most_window * most_window) * MOST_SUM) * (most_window * (LIMIT * (LIMIT * LIMIT))))) c.minus-above.ensures bhigh bc4 in
    let bthree : unsigned_abs c.new-3.result ≤ 3 = rw c.new-3.ensures (omega arith) in
    let br3 = limited c.new-3.result c.times-rest.result c.times-7.result 3 ((MOST_SUM * MOST_SUM) * (MOST_SUM * MOST_SUM)) c.times-7.ensures bthree brest in
    let bsix : unsigned_abs c.new-4.result ≤ 6 = rw c.new-4.ensures (omega arith) in
    let bs6 = limited c.new-4.result c.times-squares.result c.times-8.result 6 ((most_window * (MOST_SUM * MOST_SUM)) * (most_window * (LIMIT * LIMIT))) c.times-8.ensures bsix bsquares in
    let binner = apart c.times-7.result c.times-8.result c.minus.result (3 * ((MOST_SUM * MOST_SUM) * (MOST_SUM * MOST_SUM))) (6 * ((most_window * (MOST_SUM * MOST_SUM)) * (most_window * (LIMIT * LIMIT)))) c.minus.ensures br3 bs6 in
    let ball = apart c.minus-above.result c.minus.result c.minus-2.result ((((most_window * most_window) * most_window) * (most_window * (LIMIT * LIMIT * (LIMIT * LIMIT)))) + (4 * (((most_window * most_window) * MOST_SUM) * (most_window * (LIMIT * (LIMIT * LIMIT)))))) ((3 * ((MOST_SUM * MOST_SUM) * (MOST_SUM * MOST_SUM))) + (6 * ((most_window * (MOST_SUM * MOST_SUM)) * (most_window * (LIMIT * LIMIT))))) c.minus-2.ensures babove binner in
    omega (arith, ball)

pub returns-clause-value : goal.returns-clause-value
returns-clause-value c =
    let n : c.new-n.result ≡ pos c.args.number = c.new-n.ensures ∙ to_z_pos w128 c.args.number (omega (arith, c.requires.number)) in
    let m : c.new-m.result ≡ c.args.first = wide_is _ _ c.ranges.first c.new-m.ensures in
    let s : c.new.result ≡ c.args.second = wide_is _ _ c.ranges.second c.new.ensures in
    let turned : c.minus-2.result ≡ c.times-high.result -ℤ c.times-6.result +ℤ c.times-8.result -ℤ c.times-7.result =
    c.minus-2.ensures ∙ ap₂ (λ (u v : ℤ). u -ℤ v) c.minus-above.ensures c.minus.ensures ∙ less_apart c.times-high.result c.times-6.result c.times-8.result c.times-7.result in
    rw (turned, c.times-8.ensures, c.times-7.ensures, c.times-6.ensures, c.times-rest.ensures, c.times-squares.ensures, c.times-5.ensures, c.times-cubes.ensures, c.times-4.ensures, c.times-3.ensures, c.times-high.ensures, c.times-2.ensures, c.times.ensures, c.times-square.ensures, c.new-2.ensures, c.new-3.ensures, c.new-4.ensures, n, m, s) refl

use Rattle.std.proofs.Common.{◌≡◌, ℤ, ◌+◌, ◌*◌, ◌≤◌, ◌+ℤ◌, ◌-ℤ◌, pos, unsigned_abs, arith, refl, ap, ◌∙◌}
use Rattle.std.specs.Int.{w128}
use Rattle.std.proofs.lemmas.Int.{to_z_pos}
use Rattle.pl_spec.specs.Limits.{most_window}
use Rattle.pl_spec.specs.Rounding.{LIMIT}
use Rattle.pl_factors.specs.Terms.{MOST_SUM}
use Rattle.pl_factors.proofs.Central.{limited, apart, room, wide_is, less_less}
use Rattle.pl_factors.proofs.moments.third_of.Goals as goal

pub times-requires : goal.times-requires
times-requires c =
    let n : c.new-n.result ≡ pos c.args.number = c.new-n.ensures ∙ to_z_pos w128 c.args.number (omega (arith, c.requires.number)) in
    let bn : unsigned_abs c.new-n.result ≤ most_window = rw n c.requires.number in
    let m : c.new-m.result ≡ c.args.first = wide_is _ _ c.ranges.first c.new-m.ensures in
    let bm : unsigned_abs c.new-m.result ≤ MOST_SUM = rw m c.requires.first in
    room c.new-n.result c.new-n.result most_window most_window bn bn (omega arith)

pub times-cubes-requires : goal.times-cubes-requires
times-cubes-requires c =
    let n : c.new-n.result ≡ pos c.args.number = c.new-n.ensures ∙ to_z_pos w128 c.args.number (omega (arith, c.requires.number)) in
    let bn : unsigned_abs c.new-n.result ≤ most_window = rw n c.requires.number in
    let m : c.new-m.result ≡ c.args.first = wide_is _ _ c.ranges.first c.new-m.ensures in
    let bm : unsigned_abs c.new-m.result ≤ MOST_SUM = rw m c.requires.first in
    let bnn = limited c.new-n.result c.new-n.result c.times.result most_window most_window c.times.ensures bn bn in
    room c.times.result c.args.third.now (most_window * most_window) (most_window * (LIMIT * (LIMIT * LIMIT))) bnn c.requires.third (omega arith)

pub times-requires-2 : goal.times-requires-2
times-requires-2 c =
    let n : c.new-n.result ≡ pos c.args.number = c.new-n.ensures ∙ to_z_pos w128 c.args.number (omega (arith, c.requires.number)) in
    let bn : unsigned_abs c.new-n.result ≤ most_window = rw n c.requires.number in
    let m : c.new-m.result ≡ c.args.first = wide_is _ _ c.ranges.first c.new-m.ensures in
    let bm : unsigned_abs c.new-m.result ≤ MOST_SUM = rw m c.requires.first in
    let bnn = limited c.new-n.result c.new-n.result c.times.result most_window most_window c.times.ensures bn bn in
    let bcubes = limited c.times.result c.args.third.now c.times-cubes.result (most_window * most_window) (most_window * (LIMIT * (LIMIT * LIMIT))) c.times-cubes.ensures bnn c.requires.third in
    room c.new-n.result c.new-m.result most_window MOST_SUM bn bm (omega arith)

pub times-mixed-requires : goal.times-mixed-requires
times-mixed-requires c =
    let n : c.new-n.result ≡ pos c.args.number = c.new-n.ensures ∙ to_z_pos w128 c.args.number (omega (arith, c.requires.number)) in
    let bn : unsigned_abs c.new-n.result ≤ most_window = rw n c.requires.number in
    let m : c.new-m.result ≡ c.args.first = wide_is _ _ c.ranges.first c.new-m.ensures in
    let bm : unsigned_abs c.new-m.result ≤ MOST_SUM = rw m c.requires.first in
    let bnn = limited c.new-n.result c.new-n.result c.times.result most_window most_window c.times.ensures bn bn in
    let bcubes = limited c.times.result c.args.third.now c.times-cubes.result (most_window * most_window) (most_window * (LIMIT * (LIMIT * LIMIT))) c.times-cubes.ensures bnn c.requires.third in
    let bnm = limited c.new-n.result c.new-m.result c.times-2.result most_window MOST_SUM c.times-2.ensures bn bm in
    let es : c.new.result ≡ c.args.second = wide_is _ _ c.ranges.second c.new.ensures in
    let bs : unsigned_abs c.new.result ≤ (most_window * (LIMIT * LIMIT)) = rw es c.requires.second in
    room c.times-2.result c.new.result (most_window * MOST_SUM) (most_window * (LIMIT * LIMIT)) bnm bs (omega arith)

pub times-requires-3 : goal.times-requires-3
times-requires-3 c =
    let n : c.new-n.result ≡ pos c.args.number = c.new-n.ensures ∙ to_z_pos w128 c.args.number (omega (arith, c.requires.number)) in
    let bn : unsigned_abs c.new-n.result ≤ most_window = rw n c.requires.number in
    let m : c.new-m.result ≡ c.args.first = wide_is _ _ c.ranges.first c.new-m.ensures in
    let bm : unsigned_abs c.new-m.result ≤ MOST_SUM = rw m c.requires.first in
    let bnn = limited c.new-n.result c.new-n.result c.times.result most_window most_window c.times.ensures bn bn in
    let bcubes = limited c.times.result c.args.third.now c.times-cubes.result (most_window * most_window) (most_window * (LIMIT * (LIMIT * LIMIT))) c.times-cubes.ensures bnn c.requires.third in
    let bnm = limited c.new-n.result c.new-m.result c.times-2.result most_window MOST_SUM c.times-2.ensures bn bm in
    let es : c.new.result ≡ c.args.second = wide_is _ _ c.ranges.second c.new.ensures in
    let bs : unsigned_abs c.new.result ≤ (most_window * (LIMIT * LIMIT)) = rw es c.requires.second in
    let bmixed = limited c.times-2.result c.new.result c.times-mixed.result (most_window * MOST_SUM) (most_window * (LIMIT * LIMIT)) c.times-mixed.ensures bnm bs in
    room c.new-m.result c.new-m.result MOST_SUM MOST_SUM bm bm (omega arith)

pub times-rest-requires : goal.times-rest-requires
times-rest-requires c =
    let n : c.new-n.result ≡ pos c.args.number = c.new-n.ensures ∙ to_z_pos w128 c.args.number (omega (arith, c.requires.number)) in
    let bn : unsigned_abs c.new-n.result ≤ most_window = rw n c.requires.number in
    let m : c.new-m.result ≡ c.args.first = wide_is _ _ c.ranges.first c.new-m.ensures in
    let bm : unsigned_abs c.new-m.result ≤ MOST_SUM = rw m c.requires.first in
    let bnn = limited c.new-n.result c.new-n.result c.times.result most_window most_window c.times.ensures bn bn in
    let bcubes = limited c.times.result c.args.third.now c.times-cubes.result (most_window * most_window) (most_window * (LIMIT * (LIMIT * LIMIT))) c.times-cubes.ensures bnn c.requires.third in
    let bnm = limited c.new-n.result c.new-m.result c.times-2.result most_window MOST_SUM c.times-2.ensures bn bm in
    let es : c.new.result ≡ c.args.second = wide_is _ _ c.ranges.second c.new.ensures in
    let bs : unsigned_abs c.new.result ≤ (most_window * (LIMIT * LIMIT)) = rw es c.requires.second in
    let bmixed = limited c.times-2.result c.new.result c.times-mixed.result (most_window * MOST_SUM) (most_window * (LIMIT * LIMIT)) c.times-mixed.ensures bnm bs in
    let bmm = limited c.new-m.result c.new-m.result c.times-3.result MOST_SUM MOST_SUM c.times-3.ensures bm bm in
    room c.times-3.result c.new-m.result (MOST_SUM * MOST_SUM) MOST_SUM bmm bm (omega arith)

pub times-requires-4 : goal.times-requires-4
times-requires-4 c =
    let n : c.new-n.result ≡ pos c.args.number = c.new-n.ensures ∙ to_z_pos w128 c.args.number (omega (arith, c.requires.number)) in
    let bn : unsigned_abs c.new-n.result ≤ most_window = rw n c.requires.number in
    let m : c.new-m.result ≡ c.args.first = wide_is _ _ c.ranges.first c.new-m.ensures in
    let bm : unsigned_abs c.new-m.result ≤ MOST_SUM = rw m c.requires.first in
    let bnn = limited c.new-n.result c.new-n.result c.times.result most_window most_window c.times.ensures bn bn in
    let bcubes = limited c.times.result c.args.third.now c.times-cubes.result (most_window * most_window) (most_window * (LIMIT * (LIMIT * LIMIT))) c.times-cubes.ensures bnn c.requires.third in
    let bnm = limited c.new-n.result c.new-m.result c.times-2.result most_window MOST_SUM c.times-2.ensures bn bm in
    let es : c.new.result ≡ c.args.second = wide_is _ _ c.ranges.second c.new.ensures in
    let bs : unsigned_abs c.new.result ≤ (most_window * (LIMIT * LIMIT)) = rw es c.requires.second in
    let bmixed = limited c.times-2.result c.new.result c.times-mixed.result (most_window * MOST_SUM) (most_window * (LIMIT * LIMIT)) c.times-mixed.ensures bnm bs in
    let bmm = limited c.new-m.result c.new-m.result c.times-3.result MOST_SUM MOST_SUM c.times-3.ensures bm bm in
    let brest = limited c.times-3.result c.new-m.result c.times-rest.result (MOST_SUM * MOST_SUM) MOST_SUM c.times-rest.ensures bmm bm in
    let bthree : unsigned_abs c.new-2.result ≤ 3 = rw c.new-2.ensures (omega arith) in
    room c.new-2.result c.times-mixed.result 3 ((most_window * MOST_SUM) * (most_window * (LIMIT * LIMIT))) bthree bmixed (omega arith)

pub times-requires-5 : goal.times-requires-5
times-requires-5 c =
    let n : c.new-n.result ≡ pos c.args.number = c.new-n.ensures ∙ to_z_pos w128 c.args.number (omega (arith, c.requires.number)) in
    let bn : unsigned_abs c.new-n.result ≤ most_window = rw n c.requires.number in
    let m : c.new-m.result ≡ c.args.first = wide_is _ _ c.ranges.first c.new-m.ensures in
    let bm : unsigned_abs c.new-m.result ≤ MOST_SUM = rw m c.requires.first in
    let bnn = limited c.new-n.result c.new-n.result c.times.result most_window most_window c.times.ensures bn bn in
    let bcubes = limited c.times.result c.args.third.now c.times-cubes.result (most_window * most_window) (most_window * (LIMIT * (LIMIT * LIMIT))) c.times-cubes.ensures bnn c.requires.third in
    let bnm = limited c.new-n.result c.new-m.result c.times-2.result most_window MOST_SUM c.times-2.ensures bn bm in
    let es : c.new.result ≡ c.args.second = wide_is _ _ c.ranges.second c.new.ensures in
    let bs : unsigned_abs c.new.result ≤ (most_window * (LIMIT * LIMIT)) = rw es c.requires.second in
    let bmixed = limited c.times-2.result c.new.result c.times-mixed.result (most_window * MOST_SUM) (most_window * (LIMIT * LIMIT)) c.times-mixed.ensures bnm bs in
    let bmm = limited c.new-m.result c.new-m.result c.times-3.result MOST_SUM MOST_SUM c.times-3.ensures bm bm in
    let brest = limited c.times-3.result c.new-m.result c.times-rest.result (MOST_SUM * MOST_SUM) MOST_SUM c.times-rest.ensures bmm bm in
    let bthree : unsigned_abs c.new-2.result ≤ 3 = rw c.new-2.ensures (omega arith) in
    let bm3 = limited c.new-2.result c.times-mixed.result c.times-4.result 3 ((most_window * MOST_SUM) * (most_window * (LIMIT * LIMIT))) c.times-4.ensures bthree bmixed in
    let btwo : unsigned_abs c.new-3.result ≤ 2 = rw c.new-3.ensures (omega arith) in
    room c.new-3.result c.times-rest.result 2 ((MOST_SUM * MOST_SUM) * MOST_SUM) btwo brest (omega arith)

pub minus-requires : goal.minus-requires
minus-requires c =
    let n : c.new-n.result ≡ pos c.args.number = c.new-n.ensures ∙ to_z_pos w128 c.args.number (omega (arith, c.requires.number)) in
    let bn : unsigned_abs c.new-n.result ≤ most_window = rw n c.requires.number in
    let m : c.new-m.result ≡ c.args.first = wide_is _ _ c.ranges.first c.new-m.ensures in
    let bm : unsigned_abs c.new-m.result ≤ MOST_SUM = rw m c.requires.first in
    let bnn = limited c.new-n.result c.new-n.result c.times.result most_window most_window c.times.ensures bn bn in
    let bcubes = limited c.times.result c.args.third.now c.times-cubes.result (most_window * most_window) (most_window * (LIMIT * (LIMIT * LIMIT))) c.times-cubes.ensures bnn c.requires.third in
    let bnm = limited c.new-n.result c.new-m.result c.times-2.result most_window MOST_SUM c.times-2.ensures bn bm in
    let es : c.new.result ≡ c.args.second = wide_is _ _ c.ranges.second c.new.ensures in
    let bs : unsigned_abs c.new.result ≤ (most_window * (LIMIT * LIMIT)) = rw es c.requires.second in
    let bmixed = limited c.times-2.result c.new.result c.times-mixed.result (most_window * MOST_SUM) (most_window * (LIMIT * LIMIT)) c.times-mixed.ensures bnm bs in
    let bmm = limited c.new-m.result c.new-m.result c.times-3.result MOST_SUM MOST_SUM c.times-3.ensures bm bm in
    let brest = limited c.times-3.result c.new-m.result c.times-rest.result (MOST_SUM * MOST_SUM) MOST_SUM c.times-rest.ensures bmm bm in
    let bthree : unsigned_abs c.new-2.result ≤ 3 = rw c.new-2.ensures (omega arith) in
    let bm3 = limited c.new-2.result c.times-mixed.result c.times-4.result 3 ((most_window * MOST_SUM) * (most_window * (LIMIT * LIMIT))) c.times-4.ensures bthree bmixed in
    let btwo : unsigned_abs c.new-3.result ≤ 2 = rw c.new-3.ensures (omega arith) in
    let br2 = limited c.new-3.result c.times-rest.result c.times-5.result 2 ((MOST_SUM * MOST_SUM) * MOST_SUM) c.times-5.ensures btwo brest in
    omega (arith, bm3, br2)

pub minus-requires-2 : goal.minus-requires-2
minus-requires-2 c =
    let n : c.new-n.result ≡ pos c.args.number = c.new-n.ensures ∙ to_z_pos w128 c.args.number (omega (arith, c.requires.number)) in
    let bn : unsigned_abs c.new-n.result ≤ most_window = rw n c.requires.number in
    let m : c.new-m.result ≡ c.args.first = wide_is _ _ c.ranges.first c.new-m.ensures in
    let bm : unsigned_abs c.new-m.result ≤ MOST_SUM = rw m c.requires.first in
    let bnn = limited c.new-n.result c.new-n.result c.times.result most_window most_window c.times.ensures bn bn in
    let bcubes = limited c.times.result c.args.third.now c.times-cubes.result (most_window * most_window) (most_window * (LIMIT * (LIMIT * LIMIT))) c.times-cubes.ensures bnn c.requires.third in
    let bnm = limited c.new-n.result c.new-m.result c.times-2.result most_window MOST_SUM c.times-2.ensures bn bm in
    let es : c.new.result ≡ c.args.second = wide_is _ _ c.ranges.second c.new.ensures in
    let bs : unsigned_abs c.new.result ≤ (most_window * (LIMIT * LIMIT)) = rw es c.requires.second in
    let bmixed = limited c.times-2.result c.new.result c.times-mixed.result (most_window * MOST_SUM) (most_window * (LIMIT * LIMIT)) c.times-mixed.ensures bnm bs in
    let bmm = limited c.new-m.result c.new-m.result c.times-3.result MOST_SUM MOST_SUM c.times-3.ensures bm bm in
    let brest = limited c.times-3.result c.new-m.result c.times-rest.result (MOST_SUM * MOST_SUM) MOST_SUM c.times-rest.ensures bmm bm in
    let bthree : unsigned_abs c.new-2.result ≤ 3 = rw c.new-2.ensures (omega arith) in
    let bm3 = limited c.new-2.result c.times-mixed.result c.times-4.result 3 ((most_window * MOST_SUM) * (most_window * (LIMIT * LIMIT))) c.times-4.ensures bthree bmixed in
    let btwo : unsigned_abs c.new-3.result ≤ 2 = rw c.new-3.ensures (omega arith) in
    let br2 = limited c.new-3.result c.times-rest.result c.times-5.result 2 ((MOST_SUM * MOST_SUM) * MOST_SUM) c.times-5.ensures btwo brest in
    let binner = apart c.times-4.result c.times-5.result c.minus.result (3 * ((most_window * MOST_SUM) * (most_window * (LIMIT * LIMIT)))) (2 * ((MOST_SUM * MOST_SUM) * MOST_SUM)) c.minus.ensures bm3 br2 in
    omega (arith, bcubes, binner)

pub returns-clause-small : goal.returns-clause-small
returns-clause-small c =
    let n : c.new-n.result ≡ pos c.args.number = c.new-n.ensures ∙ to_z_pos w128 c.args.number (omega (arith, c.requires.number)) in
    let bn : unsigned_abs c.new-n.result ≤ most_window = rw n c.requires.number in
    let m : c.new-m.result ≡ c.args.first = wide_is _ _ c.ranges.first c.new-m.ensures in
    let bm : unsigned_abs c.new-m.result ≤ MOST_SUM = rw m c.requires.first in
    let bnn = limited c.new-n.result c.new-n.result c.times.result most_window most_window c.times.ensures bn bn in
    let bcubes = limited c.times.result c.args.third.now c.times-cubes.result (most_window * most_window) (most_window * (LIMIT * (LIMIT * LIMIT))) c.times-cubes.ensures bnn c.requires.third in
    let bnm = limited c.new-n.result c.new-m.result c.times-2.result most_window MOST_SUM c.times-2.ensures bn bm in
    let es : c.new.result ≡ c.args.second = wide_is _ _ c.ranges.second c.new.ensures in
    let bs : unsigned_abs c.new.result ≤ (most_window * (LIMIT * LIMIT)) = rw es c.requires.second in
    let bmixed = limited c.times-2.result c.new.result c.times-mixed.result (most_window * MOST_SUM) (most_window * (LIMIT * LIMIT)) c.times-mixed.ensures bnm bs in
    let bmm = limited c.new-m.result c.new-m.result c.times-3.result MOST_SUM MOST_SUM c.times-3.ensures bm bm in
    let brest = limited c.times-3.result c.new-m.result c.times-rest.result (MOST_SUM * MOST_SUM) MOST_SUM c.times-rest.ensures bmm bm in
    let bthree : unsigned_abs c.new-2.result ≤ 3 = rw c.new-2.ensures (omega arith) in
    let bm3 = limited c.new-2.result c.times-mixed.result c.times-4.result 3 ((most_window * MOST_SUM) * (most_window * (LIMIT * LIMIT))) c.times-4.ensures bthree bmixed in
    let btwo : unsigned_abs c.new-3.result ≤ 2 = rw c.new-3.ensures (omega arith) in
    let br2 = limited c.new-3.result c.times-rest.result c.times-5.result 2 ((MOST_SUM * MOST_SUM) * MOST_SUM) c.times-5.ensures btwo brest in
    let binner = apart c.times-4.result c.times-5.result c.minus.result (3 * ((most_window * MOST_SUM) * (most_window * (LIMIT * LIMIT)))) (2 * ((MOST_SUM * MOST_SUM) * MOST_SUM)) c.minus.ensures bm3 br2 in
    let ball = apart c.times-cubes.result c.minus.result c.minus-2.result ((most_window * most_window) * (most_window * (LIMIT * (LIMIT * LIMIT)))) ((3 * ((most_window * MOST_SUM) * (most_window * (LIMIT * LIMIT)))) + (2 * ((MOST_SUM * MOST_SUM) * MOST_SUM))) c.minus-2.ensures bcubes binner in
    omega (arith, ball)

pub returns-clause-value : goal.returns-clause-value
returns-clause-value c =
    let n : c.new-n.result ≡ pos c.args.number = c.new-n.ensures ∙ to_z_pos w128 c.args.number (omega (arith, c.requires.number)) in
    let m : c.new-m.result ≡ c.args.first = wide_is _ _ c.ranges.first c.new-m.ensures in
    let s : c.new.result ≡ c.args.second = wide_is _ _ c.ranges.second c.new.ensures in
    let turned : c.minus-2.result ≡ c.times-cubes.result -ℤ c.times-4.result +ℤ c.times-5.result =
    c.minus-2.ensures ∙ ap (λ (v : ℤ). c.times-cubes.result -ℤ v) c.minus.ensures ∙ less_less c.times-cubes.result c.times-4.result c.times-5.result in
    rw (turned, c.times-5.ensures, c.times-4.ensures, c.times-rest.ensures, c.times-3.ensures, c.times-mixed.ensures, c.times-2.ensures, c.times-cubes.ensures, c.times.ensures, c.new-2.ensures, c.new-3.ensures, n, m, s) refl

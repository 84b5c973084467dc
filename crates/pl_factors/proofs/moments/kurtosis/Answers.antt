use Rattle.std.proofs.Common.{◌+◌, ◌*◌, ◌≤◌, unsigned_abs, FitsSigned, w64, rules, arith, refl}
use Rattle.std.proofs.lemmas.Int.{to_z-of_z}
use Rattle.pl_pipeline.specs.Formula.{kurtosis}
use Rattle.pl_factors.specs.Terms.{MOST_SUM}
use Rattle.pl_factors.proofs.Central.{apart, limited, room}
use Rattle.pl_factors.proofs.moments.kurtosis.Goals as goal

pub times-square-requires : goal.times-square-requires
times-square-requires c =
    let t = c.second_moment-second.ensures.small in
    room c.second_moment-second.result c.second_moment-second.result (2 * (MOST_SUM * MOST_SUM)) (2 * (MOST_SUM * MOST_SUM)) t t (omega arith)

pub times-requires : goal.times-requires
times-requires c =
    let t = c.second_moment-second.ensures.small in
    let square = limited c.second_moment-second.result c.second_moment-second.result c.times-square.result (2 * (MOST_SUM * MOST_SUM)) (2 * (MOST_SUM * MOST_SUM)) c.times-square.ensures t t in
    let three : unsigned_abs c.new.result ≤ 3 = rw c.new.ensures (omega arith) in
    room c.new.result c.times-square.result 3 ((2 * (MOST_SUM * MOST_SUM)) * (2 * (MOST_SUM * MOST_SUM))) three square (omega arith)

pub minus-above-requires : goal.minus-above-requires
minus-above-requires c =
    let t = c.second_moment-second.ensures.small in
    let square = limited c.second_moment-second.result c.second_moment-second.result c.times-square.result (2 * (MOST_SUM * MOST_SUM)) (2 * (MOST_SUM * MOST_SUM)) c.times-square.ensures t t in
    let three : unsigned_abs c.new.result ≤ 3 = rw c.new.ensures (omega arith) in
    let more = limited c.new.result c.times-square.result c.times.result 3 ((2 * (MOST_SUM * MOST_SUM)) * (2 * (MOST_SUM * MOST_SUM))) c.times.ensures three square in
    omega (arith, more, c.fourth_moment.ensures.small)

pub times-requires-2 : goal.times-requires-2
times-requires-2 c =
    let t = c.second_moment-second.ensures.small in
    let square = limited c.second_moment-second.result c.second_moment-second.result c.times-square.result (2 * (MOST_SUM * MOST_SUM)) (2 * (MOST_SUM * MOST_SUM)) c.times-square.ensures t t in
    let three : unsigned_abs c.new.result ≤ 3 = rw c.new.ensures (omega arith) in
    let more = limited c.new.result c.times-square.result c.times.result 3 ((2 * (MOST_SUM * MOST_SUM)) * (2 * (MOST_SUM * MOST_SUM))) c.times.ensures three square in
    let all = apart c.fourth_moment.result c.times.result c.minus-above.result (14 * (MOST_SUM * MOST_SUM * (MOST_SUM * MOST_SUM))) (3 * ((2 * (MOST_SUM * MOST_SUM)) * (2 * (MOST_SUM * MOST_SUM)))) c.minus-above.ensures c.fourth_moment.ensures.small more in
    let million : unsigned_abs c.new-2.result ≤ 1000000 = rw c.new-2.ensures (omega arith) in
    room c.minus-above.result c.new-2.result ((14 * (MOST_SUM * MOST_SUM * (MOST_SUM * MOST_SUM))) + 3 * ((2 * (MOST_SUM * MOST_SUM)) * (2 * (MOST_SUM * MOST_SUM)))) 1000000 all million (omega arith)

pub quot-requires-clause-dividend : goal.quot-requires-clause-dividend
quot-requires-clause-dividend c =
    let t = c.second_moment-second.ensures.small in
    let square = limited c.second_moment-second.result c.second_moment-second.result c.times-square.result (2 * (MOST_SUM * MOST_SUM)) (2 * (MOST_SUM * MOST_SUM)) c.times-square.ensures t t in
    let three : unsigned_abs c.new.result ≤ 3 = rw c.new.ensures (omega arith) in
    let more = limited c.new.result c.times-square.result c.times.result 3 ((2 * (MOST_SUM * MOST_SUM)) * (2 * (MOST_SUM * MOST_SUM))) c.times.ensures three square in
    let all = apart c.fourth_moment.result c.times.result c.minus-above.result (14 * (MOST_SUM * MOST_SUM * (MOST_SUM * MOST_SUM))) (3 * ((2 * (MOST_SUM * MOST_SUM)) * (2 * (MOST_SUM * MOST_SUM)))) c.minus-above.ensures c.fourth_moment.ensures.small more in
    let million : unsigned_abs c.new-2.result ≤ 1000000 = rw c.new-2.ensures (omega arith) in
    let p = limited c.minus-above.result c.new-2.result c.times-2.result ((14 * (MOST_SUM * MOST_SUM * (MOST_SUM * MOST_SUM))) + 3 * ((2 * (MOST_SUM * MOST_SUM)) * (2 * (MOST_SUM * MOST_SUM)))) 1000000 c.times-2.ensures all million in
    omega (arith, p)

pub quot-requires-clause-divisor : goal.quot-requires-clause-divisor
quot-requires-clause-divisor c =
    let t = c.second_moment-second.ensures.small in
    let square = limited c.second_moment-second.result c.second_moment-second.result c.times-square.result (2 * (MOST_SUM * MOST_SUM)) (2 * (MOST_SUM * MOST_SUM)) c.times-square.ensures t t in
    omega (arith, square)

pub returns-clause-value : goal.returns-clause-value
unfolding kurtosis
returns-clause-value c =
    let fits : FitsSigned w64 c.quot.result = search rules in
    rw (to_z-of_z w64 _ fits, c.quot.ensures.value, c.times-2.ensures, c.minus-above.ensures, c.times.ensures, c.new.ensures, c.new-2.ensures, c.times-square.ensures, c.fourth_moment.ensures.value, c.second_moment-second.ensures.value) refl

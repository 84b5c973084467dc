use Rattle.std.proofs.Common.{rules, ◌≡◌, ◌+◌, ◌-◌, subst, ℕ, pos, get_or, take, drop, arith, FitsSigned, w64}
use Rattle.pl_table.specs.Tiles.{in_row, IsTileRow}
use Rattle.pl_table.proofs.Tiles as tiles
use Rattle.pl_table.proofs.tile.row_at.Goals as goal

pub returns-then-row-eq1 : goal.returns-then-row-eq1
returns-then-row-eq1 c =
    let o = c.args.outcome.now in
    let j = c.args.session - c.args.first in
    let m = c.start_of-at.result + c.width_of.result - c.start_of-at.result in
    let session : c.args.first + j ≡ c.args.session = omega (arith, c.requires.first) in
    let row = subst (λ (s : ℕ). IsTileRow o s c.args.place (in_row o c.args.tile.now j c.args.place)) session (c.requires.rows j c.args.place (omega (arith, c.requires.near)) (omega (arith, session, c.requires.session.to)) c.requires.place) in
    let wide : m ≡ tiles.width_of o = omega (arith, c.width_of.ensures.value) in
    let fits : FitsSigned w64 (get_or (take m (drop c.start_of-at.result c.args.tile.now)) 0 (pos 0)) = search rules in
    let there = tiles.row-there o c.args.tile.now j c.args.place c.start_of-at.result m c.args.session c.start_of-at.ensures.value wide row fits c.if-row-eq1.true in
    record {
      some = there;
      cells = tiles.row-cells o c.args.tile.now j c.args.place c.start_of-at.result m c.args.session c.start_of-at.ensures.value wide row c.start_of-at.ensures.end there;
      none = search rules;
    }

pub returns-else-row-eq1-clause-none : goal.returns-else-row-eq1-clause-none
returns-else-row-eq1-clause-none c =
    let o = c.args.outcome.now in
    let j = c.args.session - c.args.first in
    let m = c.start_of-at.result + c.width_of.result - c.start_of-at.result in
    let session : c.args.first + j ≡ c.args.session = omega (arith, c.requires.first) in
    let row = subst (λ (s : ℕ). IsTileRow o s c.args.place (in_row o c.args.tile.now j c.args.place)) session (c.requires.rows j c.args.place (omega (arith, c.requires.near)) (omega (arith, session, c.requires.session.to)) c.requires.place) in
    let wide : m ≡ tiles.width_of o = omega (arith, c.width_of.ensures.value) in
    let fits : FitsSigned w64 (get_or (take m (drop c.start_of-at.result c.args.tile.now)) 0 (pos 0)) = search rules in
    tiles.row-not-there o c.args.tile.now j c.args.place c.start_of-at.result m c.args.session c.start_of-at.ensures.value wide row fits c.if-row-eq1.false

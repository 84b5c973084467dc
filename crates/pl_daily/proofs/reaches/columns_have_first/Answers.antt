use Rattle.std.proofs.Common.{◌≡◌, true, false, sym, map, arith, rules}
use Rattle.pl_terms.specs.Checked.{columns_of}
use Rattle.pl_daily.specs.Ready.{has_first}
use Rattle.pl_daily.proofs.Firsts.{one-unready, column-at, columns-long, more-ready, all-places}
use Rattle.pl_daily.proofs.reaches.columns_have_first.Goals as goal

pub returns-then-not-has_first : goal.returns-then-not-has_first
returns-then-not-has_first c =
    let unready : has_first c.args.since.now c.column_term.result.0 ≡ false = search rules in
    sym (one-unready (has_first c.args.since.now) (map (λ c. c.term) (columns_of c.args.checked.now.columns)) c.loop-i.i c.column_term.result.0
    (column-at c.args.checked.now.columns c.loop-i.i c.column_term.result c.column_term.ensures) unready)

pub loop-i-preserved : goal.loop-i-preserved
loop-i-preserved c =
    let ready : has_first c.args.since.now c.column_term.result.0 ≡ true = search rules in
    more-ready (has_first c.args.since.now) (map (λ c. c.term) (columns_of c.args.checked.now.columns)) c.loop-i.i c.column_term.result.0 c.loop-i.invariant
    (column-at c.args.checked.now.columns c.loop-i.i c.column_term.result c.column_term.ensures) ready

pub returns : goal.returns
returns c =
    let t = c.loop-i-test.false in
    let n = c.columns-i-end.ensures in
    let long = columns-long c.args.checked.now.columns in
    sym (all-places (has_first c.args.since.now) (map (λ c. c.term) (columns_of c.args.checked.now.columns)) c.loop-i.i c.loop-i.invariant (omega arith))

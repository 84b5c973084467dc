use Rattle.std.proofs.Common.{◌<◌, ◌^◌, sym, arith}
use Rattle.pl_numbers.proofs.NumberSearch.{known_by_then, no_newest, none_before, newest_found, other_before}
use Rattle.pl_numbers.proofs.search.newest_before.Goals as goal
use Rattle.pl_numbers.proofs.search.newest_before.Goals.{else-place-name-via-then-place-name+else-place-col, else-place-name-via-else-place-name}

pub returns-then-end-eq0-clause-newest : goal.returns-then-end-eq0-clause-newest
returns-then-end-eq0-clause-newest c = λ day fits point.
    let small : c.args.col < 2 ^ 64 = c.ranges.col.fits in
    no_newest c.args.rows.now c.requires.table c.args.name c.args.col day c.requires.name small fits
    (none_before c.args.rows.now c.requires.table c.args.name c.args.col day c.requires.name small fits c.args.end c.requires.within point c.if-end-eq0.true)

pub returns-then-place-col-clause-newest : goal.returns-then-place-col-clause-newest
returns-then-place-col-clause-newest c = λ day fits point.
    let small : c.args.col < 2 ^ 64 = c.ranges.col.fits in
    let some : 0 < c.args.end = grind (arith, c.if-end-eq0.false) in
    newest_found c.args.rows.now c.requires.table c.args.name c.args.col day c.requires.name small fits c.args.end c.requires.within point
    c.index-place.result.now some (sym c.index-place.ensures) c.if-place-name.true c.if-place-col.true

pub returns-else-place-name-clause-newest : goal.returns-else-place-name-clause-newest
returns-else-place-name-clause-newest c = λ day fits point.
    let small : c.args.col < 2 ^ 64 = c.ranges.col.fits in
    let some : 0 < c.args.end = grind (arith, c.if-end-eq0.false) in
    no_newest c.args.rows.now c.requires.table c.args.name c.args.col day c.requires.name small fits
    (other_before c.args.rows.now c.requires.table c.args.name c.args.col day c.requires.name small fits c.args.end c.requires.within point
    c.index-place.result.now some (sym c.index-place.ensures) (λ same_name same_col. elim c.else-place-name.branch [
      | else-place-name-via-then-place-name+else-place-col w ↦ w.if-place-col.false same_col
      | else-place-name-via-else-place-name w ↦ w.if-place-name.false same_name
    ]))

pub returns-then-place-col-clause-by_then : goal.returns-then-place-col-clause-by_then
returns-then-place-col-clause-by_then c = λ day fits point.
    let small : c.args.col < 2 ^ 64 = c.ranges.col.fits in
    let some : 0 < c.args.end = grind (arith, c.if-end-eq0.false) in
    known_by_then c.args.rows.now c.requires.table c.args.name c.args.col day c.requires.name small fits c.args.end c.requires.within point
    c.index-place.result.now some (sym c.index-place.ensures) c.if-place-name.true c.if-place-col.true

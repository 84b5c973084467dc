use Rattle.std.proofs.Common.{◌≡◌, ◌∙◌, None, Some, pos, get_or, arith, rules, w64, FitsSigned}
use Rattle.std.proofs.lemmas.Int.{to_z-of_z}
use Rattle.pl_explain.specs.Looking.{row_at}
use Rattle.pl_explain.specs.Given.{IsKeptRow}
use Rattle.pl_explain.proofs.Given.{some-holds}
use Rattle.pl_explain.proofs.Kept.{kept-long, kept-cell, none-kept, row-now, rows-have, rows-stay}
use Rattle.pl_explain.proofs.sections.section_stated.Goals as goal

-- ---- a row that was kept

pub bounds-row-col : goal.bounds-row-col
bounds-row-col c =
    let e : row_at c.args.rows.now c.args.t.0 c.args.session ≡ Some c.in-Some.row.now = search rules in
    let long = kept-long c.args.basis.now c.args.t.0 c.args.session c.in-Some.row.now (c.requires.rows c.args.t.0 c.args.session c.in-Some.row.now e) in
    omega (arith, long, c.requires.kept.at.column)

pub returns-in-Some-clause-given : goal.returns-in-Some-clause-given
returns-in-Some-clause-given c =
    let row = c.in-Some.row.now in
    let e : row_at c.args.rows.now c.args.t.0 c.args.session ≡ Some row = search rules in
    let fits : FitsSigned w64 (get_or row c.args.col (pos 0)) = search rules in
    kept-cell c.requires.kept c.requires.kind row (pos 0) _ (c.requires.rows c.args.t.0 c.args.session row e) (to_z-of_z w64 _ fits)

pub returns-in-Some-clause-rows : goal.returns-in-Some-clause-rows
returns-in-Some-clause-rows c = c.requires.rows

pub returns-in-Some-clause-kept : goal.returns-in-Some-clause-kept
returns-in-Some-clause-kept c =
    let e : row_at c.args.rows.now c.args.t.0 c.args.session ≡ Some c.in-Some.row.now = search rules in
    (c.in-Some.row.now, e)

-- ---- a row that was not there

pub returns-in-None-clause-given : goal.returns-in-None-clause-given
returns-in-None-clause-given c = none-kept c.requires.kept c.requires.kind c.in_ok-whole_row.field-0 c.in-None.is c.in_ok-whole_row.ensures.none

pub index-cell-requires : goal.index-cell-requires
index-cell-requires c =
    let b = c.args.basis.now in
    let kept = some-holds (λ v. IsKeptRow b.world b.checked.now b.stated.now c.args.t.0 c.args.session v.items) c.in_ok-whole_row.field-0 c.in-Some-2.row c.in-Some-2.is c.in_ok-whole_row.ensures.row in
    let long = kept-long b c.args.t.0 c.args.session c.in-Some-2.row.items kept in
    omega (arith, long, c.in-Some-2.row.ok.0, c.requires.kept.at.column)

pub returns-in_ok-keep-in-Some-2-clause-given : goal.returns-in_ok-keep-in-Some-2-clause-given
returns-in_ok-keep-in-Some-2-clause-given c =
    let b = c.args.basis.now in
    let kept = some-holds (λ v. IsKeptRow b.world b.checked.now b.stated.now c.args.t.0 c.args.session v.items) c.in_ok-whole_row.field-0 c.in-Some-2.row c.in-Some-2.is c.in_ok-whole_row.ensures.row in
    let fits : FitsSigned w64 c.index-cell.result.now = search rules in
    kept-cell c.requires.kept c.requires.kind c.in-Some-2.row.items c.index-cell.result.now _ kept (to_z-of_z w64 _ fits ∙ c.index-cell.ensures)

pub returns-in_ok-keep-in-Some-2-clause-rows : goal.returns-in_ok-keep-in-Some-2-clause-rows
returns-in_ok-keep-in-Some-2-clause-rows c =
    let b = c.args.basis.now in
    let kept = some-holds (λ v. IsKeptRow b.world b.checked.now b.stated.now c.args.t.0 c.args.session v.items) c.in_ok-whole_row.field-0 c.in-Some-2.row c.in-Some-2.is c.in_ok-whole_row.ensures.row in
    rows-have c.args.rows.now c.keep.new.self c.args.t.0 c.args.session c.in-Some-2.row.items c.in_ok-keep-in-Some-2.ensures (IsKeptRow b.world b.checked.now b.stated.now) c.requires.rows kept

pub returns-in_ok-keep-in-Some-2-clause-kept : goal.returns-in_ok-keep-in-Some-2-clause-kept
returns-in_ok-keep-in-Some-2-clause-kept c = (c.in-Some-2.row.items, row-now c.args.rows.now c.keep.new.self c.args.t.0 c.args.session c.in-Some-2.row.items c.in_ok-keep-in-Some-2.ensures)

pub returns-in_ok-keep-in-Some-2-clause-stays : goal.returns-in_ok-keep-in-Some-2-clause-stays
returns-in_ok-keep-in-Some-2-clause-stays c =
    let none : row_at c.args.rows.now c.args.t.0 c.args.session ≡ None = search rules in
    rows-stay c.args.rows.now c.keep.new.self c.args.t.0 c.args.session c.in-Some-2.row.items c.in_ok-keep-in-Some-2.ensures none

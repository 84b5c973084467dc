use Rattle.std.proofs.Common.{◌∙◌, All, subst, pos, ap, sym, rules, w32, w64, FitsSigned}
use Rattle.std.specs.Ordering.{int_eq}
use Rattle.std.specs.Cmp.Lexicographic.{pointwise}
use Rattle.std.proofs.lemmas.Int.{to_z-of_z}
use Rattle.pl_spec.specs.Rounding.{IsCell}
use Rattle.pl_derivation.specs.Right.{last_cell, seen_cells}
use Rattle.pl_derivation.proofs.Truths.{last_seen}
use Rattle.pl_world.specs.Worlds.{world_of}
use Rattle.pl_explain.proofs.Given.{none-of, none-holds}
use Rattle.pl_explain.proofs.Lines.{bar-unknown, bar-no-session, bar-no-day, bar-late, bar-other, bar-right, last-cell}
use Rattle.pl_explain.proofs.judge.is_right_bar.Goals as goal

pub returns-in_default : goal.returns-in_default
returns-in_default g c =
    let l = c.args.line.now in
    bar-unknown c.requires.table l.column l.sid l.bar_day l.day l.cells.now (none-holds c.col_of.result c.in_default.not-Some c.col_of.ensures.none)

pub returns-in_default-index_of : goal.returns-in_default-index_of
returns-in_default-index_of g c =
    let l = c.args.line.now in
    let bar_day : FitsSigned w32 c.args.line.now.bar_day = search rules in
    bar-no-session c.requires.table l.column l.sid l.bar_day l.day l.cells.now (sym (simp to_z-of_z at c.index_of.ensures.exact) ∙ none-of c.index_of.result c.in_default-index_of.not-Some)

pub returns-in_default-index_of-2 : goal.returns-in_default-index_of-2
returns-in_default-index_of-2 g c =
    let l = c.args.line.now in
    let day : FitsSigned w32 c.args.line.now.day = search rules in
    bar-no-day c.requires.table l.column l.sid l.bar_day l.day l.cells.now (sym (simp to_z-of_z at c.index_of-2.ensures.exact) ∙ none-of c.index_of-2.result c.in_default-index_of-2.not-Some)

pub returns-then-bar-session : goal.returns-then-bar-session
returns-then-bar-session g c =
    let l = c.args.line.now in
    let bar_day : FitsSigned w32 c.args.line.now.bar_day = search rules in
    let day : FitsSigned w32 c.args.line.now.day = search rules in
    let bar_is = sym (simp to_z-of_z at c.in-Some-index_of.ensures.exact) in
    let day_is = sym (simp to_z-of_z at c.in-Some-index_of-2.ensures.exact) in
    bar-late c.requires.table l.column l.sid l.bar_day l.day l.cells.now c.in-Some-index_of.bar c.in-Some-index_of-2.session bar_is day_is c.if-bar-session.true

pub returns-then-not-same_cells : goal.returns-then-not-same_cells
returns-then-not-same_cells g c =
    let l = c.args.line.now in
    let bar_day : FitsSigned w32 c.args.line.now.bar_day = search rules in
    let day : FitsSigned w32 c.args.line.now.day = search rules in
    let bar_is = sym (simp to_z-of_z at c.in-Some-index_of.ensures.exact) in
    let day_is = sym (simp to_z-of_z at c.in-Some-index_of-2.ensures.exact) in
    let place = c.in-Some.ensures.some in
    let s = c.in-Some-index_of.bar in
    let d = c.in-Some-index_of-2.session in
    let cells = c.deref.ensures.value ∙ c.in_ok-seen.ensures.value ∙ ap (λ a. seen_cells (world_of c.args.world.now) a l.column (pos s) (pos d)) place.sid_is in
    bar-other c.requires.table l.column l.sid l.bar_day l.day l.cells.now s d bar_is day_is place.known c.if-bar-session.false
    (sym c.if-not-same_cells.true ∙ c.same_cells.ensures ∙ ap (pointwise int_eq l.cells.now) cells)

pub returns : goal.returns
returns g c =
    let l = c.args.line.now in
    let bar_day : FitsSigned w32 c.args.line.now.bar_day = search rules in
    let day : FitsSigned w32 c.args.line.now.day = search rules in
    let bar_is = sym (simp to_z-of_z at c.in-Some-index_of.ensures.exact) in
    let day_is = sym (simp to_z-of_z at c.in-Some-index_of-2.ensures.exact) in
    let place = c.in-Some.ensures.some in
    let s = c.in-Some-index_of.bar in
    let d = c.in-Some-index_of-2.session in
    let seen = c.in_ok-seen.ensures.value ∙ ap (λ a. seen_cells (world_of c.args.world.now) a l.column (pos s) (pos d)) place.sid_is in
    let fits : FitsSigned w64 c.last_of.result = search rules in
    let states = simp to_z-of_z at c.in_ok-insert.ensures in
    let number = c.last_of.ensures ∙ ap last_cell (c.deref-2.ensures.value ∙ seen) ∙ last_seen (world_of c.args.world.now) l.sid l.column (pos s) (pos d) in
    let cell : IsCell c.last_of.result = subst IsCell (sym c.last_of.ensures) (last-cell c.deref-2.result.now (subst (All IsCell) (sym c.deref-2.ensures.value) c.in_ok-seen.ensures.cells)) in
    bar-right c.requires.table l.column l.sid l.bar_day l.day l.cells.now s d bar_is day_is place.known c.if-bar-session.false
    (sym c.if-not-same_cells.false ∙ c.same_cells.ensures ∙ ap (pointwise int_eq l.cells.now) (c.deref.ensures.value ∙ seen)) c.last_of.result c.insert.new.self states number cell

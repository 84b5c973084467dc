use Rattle.std.proofs.Common.{◌≡◌, ◌<◌, length, subst, sym, ◌∙◌, ap, arith, rules, vec_len, FitsSigned, w64, Some, slice_get}
use Rattle.std.proofs.lemmas.Int.{to_z-of_z}
use Rattle.pl_spec.specs.Parts.{sid_at}
use Rattle.pl_pipeline.specs.Table.{in_array, value_of}
use Rattle.pl_terms.specs.Checked.{columns_of}
use Rattle.pl_terms.proofs.Graphs.{columns-long}
use Rattle.pl_daily.specs.Days.{last_session}
use Rattle.pl_daily.specs.Daily.{Held, HasBeenFed, world_in}
use Rattle.pl_daily.proofs.Shown.{col_row, is_cell, is_value, term_in}
use Rattle.pl_daily.proofs.daily.Daily.value.Goals as goal

pub column_term-term-requires : goal.column_term-term-requires
column_term-term-requires c =
    let cs = c.self.inside.checked.now.columns in
    let r : c.args.column < length (columns_of cs) = subst (λ (h : Held). c.args.column < length h.pipeline.columns) (sym c.self.view_is) c.requires.column in
    let e = columns-long cs in
    omega (arith, r, e)

pub index-requires : goal.index-requires
index-requires c =
    let d = c.self.inside in
    let inside = term_in d c.self.invariant c.args.column c.column_term-term.result c.column_term-term.ensures in
    let v : vec_len d.terms ≡ length d.terms.items = search rules in
    omega (arith, inside, v)

pub index-requires-2 : goal.index-requires-2
index-requires-2 c =
    let d = c.self.inside in
    let known : c.args.i < length d.kept.items = subst (λ (h : Held). c.args.i < length h.kept) (sym c.self.view_is) c.requires.kept in
    let inside = col_row d c.self.invariant c.args.column c.column_term-term.result c.column_term-term.ensures c.index.result.now c.index.ensures c.args.i c.index-col.result.now known c.index-col.ensures in
    let v : vec_len c.index.result.now.row ≡ length c.index.result.now.row.items = search rules in
    omega (arith, inside, v)

pub returns-clause-cell : goal.returns-clause-cell
returns-clause-cell c =
    let d = c.self.inside in
    let fits : FitsSigned w64 c.index-2.result.now = search rules in
    let known : c.args.i < length d.kept.items = subst (λ (h : Held). c.args.i < length h.kept) (sym c.self.view_is) c.requires.kept in
    rw (to_z-of_z w64 _ fits)
    (is_cell d c.self.invariant c.args.column c.column_term-term.result c.column_term-term.ensures c.index.result.now c.index.ensures c.args.i c.index-col.result.now known c.index-col.ensures c.index-2.result.now c.index-2.ensures)

pub returns-clause-value : goal.returns-clause-value
returns-clause-value c =
    let d = c.self.inside in
    let fits : FitsSigned w64 c.index-2.result.now = search rules in
    let known : c.args.i < length d.kept.items = subst (λ (h : Held). c.args.i < length h.kept) (sym c.self.view_is) c.requires.kept in
    λ days column a stands at_c at_a.
    to_z-of_z w64 _ fits
    ∙ is_value d c.self.invariant c.args.column c.column_term-term.result c.column_term-term.ensures c.index.result.now c.index.ensures c.args.i c.index-col.result.now known c.index-col.ensures c.index-2.result.now c.index-2.ensures days column a
    (subst (λ (h : Held). HasBeenFed h days) (sym c.self.view_is) stands)
    (subst (λ (h : Held). slice_get h.pipeline.columns c.args.column ≡ Some column) (sym c.self.view_is) at_c)
    (subst (λ (h : Held). slice_get h.kept c.args.i ≡ Some a) (sym c.self.view_is) at_a)
    ∙ ap (λ (h : Held). in_array h.labels.texts (value_of (world_in h days) h.pipeline column.term (sid_at h.assets a) (last_session days))) c.self.view_is

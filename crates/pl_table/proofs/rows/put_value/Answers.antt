use Rattle.std.proofs.Common.{rules, get_or, ◌≡◌, ◌∙◌, ap, sym, subst, refl, ◌++◌, if◌then◌else◌, ℤ, pos, arith, FitsSigned, w64, to_z, of_z, Some}
use Rattle.std.specs.Prelude.{slice_get}
use Rattle.std.specs.Int.{w128}
use Rattle.std.proofs.lemmas.Int.{to_z-of_z}
use Rattle.pl_spec.specs.Rounding.{is_missing}
use Rattle.pl_pipeline.specs.Table.{NamedColumn}
use Rattle.pl_terms.proofs.Graphs.{columns-long}
use Rattle.pl_values.specs.Families.{IsCode}
use Rattle.pl_cross.specs.Arrays.{sid_in}
use Rattle.pl_table.specs.declared.writing.Writing.TheVariants.{Cell}
use Rattle.pl_table.specs.Outcomes.{pipeline_in, sids_in, world_in}
use Rattle.pl_table.specs.Fields.{cell_field, field_part}
use Rattle.pl_table.specs.Rows.{IsPut}
use Rattle.pl_table.proofs.Outputs.{has-column}
use Rattle.pl_table.proofs.Sorted.{code-of-cell}
use Rattle.pl_table.proofs.Puts.{put-is}
use Rattle.pl_table.proofs.Lengths.{is-missing, not-missing, present-is}
use Rattle.pl_table.proofs.rows.put_value.Goals as goal
use Rattle.pl_table.proofs.rows.put_value.Goals.{After-put_cell}

pub put_cell-requires-clause-cell : goal.put_cell-requires-clause-cell
put_cell-requires-clause-cell c =
    let fr : FitsSigned w64 (get_or c.args.cells.now.values.now c.args.column (pos 0)) = search rules in
    rw (to_z-of_z w64 _ fr) (c.requires.cells.cells.cell c.args.column c.requires.column)

pub put_cell-requires-clause-code : goal.put_cell-requires-clause-code
put_cell-requires-clause-code c =
    let r = c.args.cells.now in
    let o = r.outcome.now in
    let x = get_or r.values.now c.args.column (pos 0) in
    let fr : FitsSigned w64 x = search rules in
    let d = has-column o.asked.checked.now.columns c.args.column (omega (arith, c.requires.column, columns-long o.asked.checked.now.columns)) in
    λ label. subst (IsCode o.asked.world.labels.now.texts) (sym (to_z-of_z w64 x fr))
    (code-of-cell (world_in o) (pipeline_in o) c.requires.cells.outcome.asked.checked c.requires.cells.outcome.asked.texts (sids_in o) d.0.term r.place r.session (get_or r.writings.now c.args.column Cell) x
    (c.requires.cells.writings.each c.args.column d.0 d.1) label (c.requires.cells.cells.each c.args.column d.0 d.1))

-- the field of the cell was put, and x is its summand
put : (c : After-put_cell) (x : ℤ) → x ≡ (if is_missing (get_or c.args.cells.now.values.now c.args.column (pos 0)) then pos 0 else get_or c.args.cells.now.values.now c.args.column (pos 0))
    → (d : NamedColumn) → slice_get (pipeline_in c.args.cells.now.outcome.now).columns c.args.column ≡ Some d
    → IsPut (world_in c.args.cells.now.outcome.now) (pipeline_in c.args.cells.now.outcome.now) c.args.cells.now.outcome.now.asked.format (sid_in (sids_in c.args.cells.now.outcome.now) c.args.cells.now.place) (pos c.args.cells.now.session) d c.args.line.now c.put_cell.new.line x
put c x e d at =
    let r = c.args.cells.now in
    let o = r.outcome.now in
    let y = get_or r.values.now c.args.column (pos 0) in
    let fr : FitsSigned w64 y = search rules in
    let writing = get_or r.writings.now c.args.column Cell in
    let text = subst (λ (z : ℤ). c.put_cell.new.line ≡ c.args.line.now ++ field_part o.asked.format (cell_field o.asked.format o.asked.world.labels.now.texts writing z)) (to_z-of_z w64 y fr) c.put_cell.ensures.text in
    put-is (world_in o) (pipeline_in o) c.requires.cells.outcome.asked.checked c.requires.cells.outcome.asked.texts o.asked.format (sids_in o) d.term r.place r.session writing y x c.args.line.now c.put_cell.new.line
    (c.requires.cells.writings.each c.args.column d at) (c.requires.cells.cells.each c.args.column d at) text e d refl

pub returns-then-cell-clause-value : goal.returns-then-cell-clause-value
returns-then-cell-clause-value c =
    let y = get_or c.args.cells.now.values.now c.args.column (pos 0) in
    let fr : FitsSigned w64 y = search rules in
    let none = is-missing y fr c.if-cell.true in
    put c.before (pos 0) (sym (ap (λ (z : ℤ). if is_missing z then pos 0 else z) none))

pub returns-else-cell-clause-value : goal.returns-else-cell-clause-value
returns-else-cell-clause-value c =
    let y = get_or c.args.cells.now.values.now c.args.column (pos 0) in
    let fr : FitsSigned w64 y = search rules in
    let wide : FitsSigned w128 y = search rules in
    let there = not-missing y fr c.if-cell.false in
    let own = c.from.ensures ∙ to_z-of_z w64 y fr in
    let x = ap (λ (z : ℤ). to_z w128 (of_z w128 z)) own ∙ to_z-of_z w128 y wide in
    put c.before.before _ (x ∙ present-is y there)

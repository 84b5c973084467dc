use Rattle.std.proofs.Common.{rules, None, Some, ℕ, ◌≡◌, ◌+◌, ◌-◌, ◌<◌, ◌≤◌, ◌++◌, ◌∷◌, [], ◌∙◌, length, sym, ap, subst, arith, inl, inr, w64, FitsSigned}
use Rattle.std.proofs.lemmas.Int.{to_z-of_z}
use Rattle.std.proofs.lemmas.Result.{IfOk-weaker}
use Rattle.pl_spec.specs.Rounding.{IsCell}
use Rattle.pl_pipeline.specs.Term.{term_at}
use Rattle.pl_pipeline.specs.Value.{number_of as number_in, empty, sort_kind}
use Rattle.pl_spec.specs.Parts.{sid_at}
use Rattle.pl_spec.proofs.Columns.{no_asset, sid-there}
use Rattle.pl_terms.specs.declared.node.Input.{Input}
use Rattle.pl_terms.specs.declared.node.Input.TheVariants as input
use Rattle.pl_terms.specs.Kinds.{kind_of}
use Rattle.pl_terms.specs.Nodes.{graph_of}
use Rattle.pl_cross.specs.Arrays.{HasTexts}
use Rattle.pl_values.specs.Families.{IsOf, IsCode}
use Rattle.pl_values.specs.Views.{seen_of}
use Rattle.pl_values.proofs.Texts.{texts-coded}
use Rattle.pl_world.specs.Worlds.{world_of}
use Rattle.pl_world.specs.Evaluations.{IsAsked, cell_in}
use Rattle.pl_model.specs.Costs.{cost_in}
use Rattle.pl_model.specs.Requests.{asset_of}
use Rattle.pl_world.specs.Views.{seen_in}
use Rattle.pl_world.proofs.Views.{earlier, own-cell}
use Rattle.pl_model.proofs.Views.{bars-read, if-ok}
use Rattle.pl_world.proofs.Evaluated.{sid-of, not-windowed, label-named, number-named}
use Rattle.pl_world.proofs.Windowing.{cells-more, steps-more, cells-all, steps-all, all-more, row-more, row-steps-more, row-all, row-steps-all}
use Rattle.pl_model.proofs.Rows.{row-cell, row-long}
use Rattle.pl_model.proofs.Parts.{seen-window, seen-operand, own-request, section-stays, asked-of, window-ready, plain-ready, start-ready, mask-ready, mask-row-ready, group-row-ready, section-ready, kept-ready, held, lacks, unmasked, masked, barred, passed, rows-taken, constant-read, label-read, number-read, sid-read, code-read, test-read, start-read, windows-read, points-read}
use Rattle.pl_model.proofs.evaluation.+evaluation.Goals as goal

-- ---- a cell, and its mask

pub cell-is_kept-requires : goal.cell-is_kept-requires
cell-is_kept-requires g t c =
    λ κs lives. (omega arith, (lives, asked-of c.args.ask c.node-node.result.now _ c.requires.asked c.graph-graph.ensures.value c.node-node.ensures))

pub cell-given-requires : goal.cell-given-requires
cell-given-requires g t c =
    let asked = asked-of c.args.ask c.node-node.result.now _ c.requires.asked c.graph-graph.ensures.value c.node-node.ensures in
    λ κs lives. (omega arith, (lives, (asked, kept-ready c.args.ask c.node-node.result.now asked (sym c.in_ok-kept.ensures.value ∙ c.if-kept.true))))

pub cell-returns-then-kept : goal.cell-returns-then-kept
cell-returns-then-kept g t c =
    let asked = asked-of c.args.ask c.node-node.result.now _ c.requires.asked c.graph-graph.ensures.value c.node-node.ensures in
    IfOk-weaker c.given.result _ _ (λ x h. passed c.args.ask c.node-node.result.now asked x _ _ _ _ c.in_ok-kept.ensures c.if-kept.true h) c.given.ensures

pub cell-returns-else-kept : goal.cell-returns-else-kept
cell-returns-else-kept g t c =
    let asked = asked-of c.args.ask c.node-node.result.now _ c.requires.asked c.graph-graph.ensures.value c.node-node.ensures in
    let fits : FitsSigned w64 c.empty_value.result = search rules in
    let none = c.empty_value.ensures ∙ ap (λ m. number_in (empty (sort_kind (term_at (graph_of m) c.args.ask.term.0)))) c.graph-graph.ensures.value in
    held _ _ _ _ _ fits (barred c.args.ask c.node-node.result.now asked c.empty_value.result _ _ _ c.in_ok-kept.ensures c.if-kept.false none)

pub is_kept-cell-requires : goal.is_kept-cell-requires
is_kept-cell-requires g t c =
    let may = mask-ready c.args.ask c.args.node.now c.requires.asked c.in-Some.mask c.in-Some.is in
    let request = c.requires.asked.request in
    λ κs lives. (omega (arith, may.1), (lives, record { may = may.0; checked = request.checked; col = request.col; seen = tt }))

pub is_kept-returns-then-not-exists : goal.is_kept-returns-then-not-exists
is_kept-returns-then-not-exists g t c = lacks c.args.ask c.args.node.now c.requires.asked c.args.steps.now (sym c.exists.ensures.value ∙ c.if-not-exists.true)

pub is_kept-returns-in-None : goal.is_kept-returns-in-None
is_kept-returns-in-None g t c = unmasked c.args.ask c.args.node.now c.requires.asked c.args.steps.now (sym c.exists.ensures.value ∙ c.if-not-exists.false) c.in-None.is

pub is_kept-returns-in_ok-flag-in-Some : goal.is_kept-returns-in_ok-flag-in-Some
is_kept-returns-in_ok-flag-in-Some g t c =
    let fits : FitsSigned w64 c.in_ok-flag-in-Some.flag = search rules in
    let told = simp to_z-of_z at c.is_true.ensures in
    masked c.args.ask c.args.node.now c.requires.asked c.in-Some.mask c.in_ok-flag-in-Some.flag _ _ _ (sym c.exists.ensures.value ∙ c.if-not-exists.false) c.in-Some.is c.in_ok-flag-in-Some.ensures told

-- ---- what a kind gives

pub given-label_cell-requires-clause-name : goal.given-label_cell-requires-clause-name
given-label_cell-requires-clause-name g t c =
    let r = c.args.ask in
    let n = c.args.node.now in
    let kind = subst (IsOf (kind_of n.kind)) c.in-Label.is c.family_of.ensures in
    label-named r.world.now r.checked.now c.requires.asked.request.checked r.term.0 n c.requires.asked.node (asset_of r) r.session c.requires.kept c.in-Label.name kind

pub given-number_cell-requires-clause-name : goal.given-number_cell-requires-clause-name
given-number_cell-requires-clause-name g t c =
    let r = c.args.ask in
    let n = c.args.node.now in
    let kind = subst (IsOf (kind_of n.kind)) c.in-Number.is c.family_of.ensures in
    number-named r.world.now r.checked.now c.requires.asked.request.checked r.term.0 n c.requires.asked.node (asset_of r) r.session c.requires.kept c.in-Number.figure c.in-Number.name kind

pub given-returns-in-Constant : goal.given-returns-in-Constant
given-returns-in-Constant g t c =
    let kind = subst (IsOf (kind_of c.args.node.now.kind)) c.in-Constant.is c.family_of.ensures in
    let fits : FitsSigned w64 c.in-Constant.value = search rules in
    held _ _ _ _ _ fits (constant-read c.args.ask c.args.node.now c.requires.asked c.requires.kept c.in-Constant.value c.args.steps.now kind)

pub given-returns-in-Label : goal.given-returns-in-Label
given-returns-in-Label g t c =
    let kind = subst (IsOf (kind_of c.args.node.now.kind)) c.in-Label.is c.family_of.ensures in
    let fits : FitsSigned w64 c.label_cell.result = search rules in
    held _ _ _ _ _ fits (label-read c.args.ask c.args.node.now c.requires.asked c.requires.kept c.in-Label.name c.label_cell.result c.args.steps.now kind c.label_cell.ensures.value c.label_cell.ensures.cell)

pub given-returns-in-Number : goal.given-returns-in-Number
given-returns-in-Number g t c =
    let kind = subst (IsOf (kind_of c.args.node.now.kind)) c.in-Number.is c.family_of.ensures in
    let fits : FitsSigned w64 c.number_cell.result = search rules in
    held _ _ _ _ _ fits (number-read c.args.ask c.args.node.now c.requires.asked c.requires.kept c.in-Number.figure c.in-Number.name c.number_cell.result c.args.steps.now kind c.number_cell.ensures.value c.number_cell.ensures.cell)

pub given-returns-in-Sids : goal.given-returns-in-Sids
given-returns-in-Sids g t c =
    let kind = subst (IsOf (kind_of c.args.node.now.kind)) c.in-Sids.is c.family_of.ensures in
    let fits : FitsSigned w64 c.sids_value.result = search rules in
    let sid = sid-of c.args.ask.world.now.assets.now c.args.ask.col c.sid.result c.sid.ensures in
    held _ _ _ _ _ fits (sid-read c.args.ask c.args.node.now c.requires.asked c.requires.kept c.sid.result c.sids_value.result c.args.steps.now kind sid c.sids_value.ensures)

pub given-input_cell-requires : goal.given-input_cell-requires
given-input_cell-requires g t c =
    let n = c.args.node.now in
    let kind = subst (IsOf (kind_of n.kind)) c.in-LabelTest.is c.family_of.ensures in
    let may = plain-ready c.args.ask n c.requires.asked 0 (omega arith) (not-windowed (kind_of n.kind) (inl kind)) _ c.input_at-input.ensures in
    λ κs lives. (omega (arith, may.1), (lives, (own-request c.args.ask n c.requires.asked, (may.0, tt))))

pub given-label_test_value-requires-clause-code : goal.given-label_test_value-requires-clause-code
given-label_test_value-requires-clause-code g t c =
    let w = c.args.ask.world.now in
    let kind = subst (IsOf (kind_of c.args.node.now.kind)) c.in-LabelTest.is c.family_of.ensures in
    let fits : FitsSigned w64 c.in_ok-code-in-LabelTest.code = search rules in
    let texts : HasTexts (world_of w) = texts-coded w.sessions.now w.assets.now w.labels.now w.bars.now w.adjustments.now w.numbers.now.rows c.len-rows.ensures.labels in
    subst (IsCode w.labels.now.texts) (sym (to_z-of_z w64 _ fits)) (code-read c.args.ask c.args.node.now c.requires.asked c.requires.kept _ c.input_at-input.ensures _ c.args.steps.now c.args.steps.now texts kind c.in_ok-code-in-LabelTest.ensures.value)

pub given-returns-in_ok-code-in-LabelTest : goal.given-returns-in_ok-code-in-LabelTest
given-returns-in_ok-code-in-LabelTest g t c =
    let w = c.args.ask.world.now in
    let kind = subst (IsOf (kind_of c.args.node.now.kind)) c.in-LabelTest.is c.family_of.ensures in
    let fx : FitsSigned w64 c.in_ok-code-in-LabelTest.code = search rules in
    let fits : FitsSigned w64 c.label_test_value.result = search rules in
    let tested = simp to_z-of_z at c.label_test_value.ensures in
    let texts : HasTexts (world_of w) = texts-coded w.sessions.now w.assets.now w.labels.now w.bars.now w.adjustments.now w.numbers.now.rows c.len-rows.ensures.labels in
    held _ _ _ _ _ fits (test-read c.args.ask c.args.node.now c.requires.asked c.requires.kept _ c.input_at-input.ensures _ _ _ c.label_test_value.result texts kind c.in_ok-code-in-LabelTest.ensures tested)

pub given-input_cell-requires-in-Downsample : goal.given-input_cell-requires-in-Downsample
given-input_cell-requires-in-Downsample g t c =
    let kind = subst (IsOf (kind_of c.args.node.now.kind)) c.in-Downsample.is c.family_of.ensures in
    let may = start-ready c.args.ask c.args.node.now c.requires.asked c.in-Downsample.frequency c.period_start-start.result _ kind c.period_start-start.ensures.within c.period_start-start.ensures.exact c.input_at-input-in-Downsample.ensures in
    λ κs lives. (omega (arith, may.1), (lives, (own-request c.args.ask c.args.node.now c.requires.asked, (may.0, tt))))

pub given-returns-in-Downsample : goal.given-returns-in-Downsample
given-returns-in-Downsample g t c =
    let kind = subst (IsOf (kind_of c.args.node.now.kind)) c.in-Downsample.is c.family_of.ensures in
    let read = start-read c.args.ask c.args.node.now c.requires.asked c.requires.kept _ c.input_at-input-in-Downsample.ensures in
    IfOk-weaker c.input_cell-in-Downsample.result _ _ (λ x h. read x _ _ c.in-Downsample.frequency c.period_start-start.result kind c.period_start-start.ensures.exact h) c.input_cell-in-Downsample.ensures

-- ---- windows

pub window_cell-input_window-requires : goal.window_cell-input_window-requires
window_cell-input_window-requires g t c =
    let may = window-ready c.args.ask c.args.node.now c.requires.asked 0 (omega arith) _ c.input_at-first.ensures in
    let seen = seen-window c.args.ask c.args.node.now c.requires.asked _ c.window_view-from.ensures in
    λ κs lives. (omega (arith, may.1), (lives, (seen, may.0)))

pub window_cell-input_window-requires-2 : goal.window_cell-input_window-requires-2
window_cell-input_window-requires-2 g t c =
    let may = window-ready c.args.ask c.args.node.now c.requires.asked 1 (omega arith) _ c.input_at-second.ensures in
    let seen = seen-window c.args.ask c.args.node.now c.requires.asked _ c.window_view-from.ensures in
    λ κs lives. (omega (arith, may.1), (lives, (seen, may.0)))

pub window_cell-input_window-requires-3 : goal.window_cell-input_window-requires-3
window_cell-input_window-requires-3 g t c =
    let may = window-ready c.args.ask c.args.node.now c.requires.asked 2 (omega arith) _ c.input_at-third.ensures in
    let seen = seen-window c.args.ask c.args.node.now c.requires.asked _ c.window_view-from.ensures in
    λ κs lives. (omega (arith, may.1), (lives, (seen, may.0)))

pub window_cell-window_value-requires : goal.window_cell-window_value-requires
window_cell-window_value-requires g t c =
    let read = windows-read c.args.ask c.args.node.now c.requires.asked c.requires.kept _ _ _ c.input_at-first.ensures c.input_at-second.ensures c.input_at-third.ensures _ _ _ _ _ c.window_view-from.ensures _ _ _ c.requires.kind c.in_ok-a.ensures c.in_ok-b.ensures c.in_ok-c.ensures in
    rw (c.deref.ensures.value, c.deref-2.ensures.value, c.deref-3.ensures.value) read.0

pub window_cell-returns : goal.window_cell-returns
window_cell-returns g t c =
    let read = windows-read c.args.ask c.args.node.now c.requires.asked c.requires.kept _ _ _ c.input_at-first.ensures c.input_at-second.ensures c.input_at-third.ensures _ _ _ _ _ c.window_view-from.ensures _ _ _ c.requires.kind c.in_ok-a.ensures c.in_ok-b.ensures c.in_ok-c.ensures in
    let given = rw (c.deref.ensures.value, c.deref-2.ensures.value, c.deref-3.ensures.value) at c.window_value.ensures.value in
    let fits : FitsSigned w64 c.window_value.result = search rules in
    held _ _ _ _ _ fits (record { value = given ∙ read.1; cell = c.window_value.ensures.cell; cost = read.2 })

pub input_window-returns-in-Some-Column : goal.input_window-returns-in-Some-Column
input_window-returns-in-Some-Column g t c =
    let r = c.args.ask in
    let e = c.bars_before.ensures in
    let column : c.in-Some-Column.field-0 ≡ input.Column c.in-Some-Column.column = rw c.in-Some-Column.is at c.in-Some-Column.field-0-is in
    let at : c.args.input ≡ Some c.in-Some-Column.field-0 = c.in-Some-Column.is in
    let is : c.args.input ≡ Some (input.Column c.in-Some-Column.column) = at ∙ ap (λ (x : Input). Some x) column in
    if-ok c.bars_before.result _ _ _ _ e.value e.cells e.cost
    (λ v f q h. bars-read r.world.now r.checked.now c.in-Some-Column.column c.args.size (asset_of r) r.session c.unwrap_or.result r.view c.args.input is c.unwrap_or.ensures c.args.steps.now c.bars_before.new.steps v.items f q h)

-- ---- operations

pub point_cell-input_cell-requires : goal.point_cell-input_cell-requires
point_cell-input_cell-requires g t c =
    let n = c.args.node.now in
    let plain = not-windowed (kind_of n.kind) (inr (inl (c.requires.kind n c.requires.asked.node))) in
    let may = plain-ready c.args.ask n c.requires.asked 0 (omega arith) plain _ c.input_at-first.ensures in
    let seen = seen-operand c.args.ask n c.requires.asked _ c.operand_view-view.ensures in
    λ κs lives. (omega (arith, may.1), (lives, (seen, (may.0, seen.seen))))

pub point_cell-input_cell-requires-2 : goal.point_cell-input_cell-requires-2
point_cell-input_cell-requires-2 g t c =
    let n = c.args.node.now in
    let plain = not-windowed (kind_of n.kind) (inr (inl (c.requires.kind n c.requires.asked.node))) in
    let may = plain-ready c.args.ask n c.requires.asked 1 (omega arith) plain _ c.input_at-second.ensures in
    let seen = seen-operand c.args.ask n c.requires.asked _ c.operand_view-view.ensures in
    λ κs lives. (omega (arith, may.1), (lives, (seen, (may.0, seen.seen))))

pub point_cell-input_cell-requires-3 : goal.point_cell-input_cell-requires-3
point_cell-input_cell-requires-3 g t c =
    let n = c.args.node.now in
    let plain = not-windowed (kind_of n.kind) (inr (inl (c.requires.kind n c.requires.asked.node))) in
    let may = plain-ready c.args.ask n c.requires.asked 2 (omega arith) plain _ c.input_at-third.ensures in
    let seen = seen-operand c.args.ask n c.requires.asked _ c.operand_view-view.ensures in
    λ κs lives. (omega (arith, may.1), (lives, (seen, (may.0, seen.seen))))

pub point_cell-point_value-requires-clause-kind : goal.point_cell-point_value-requires-clause-kind
point_cell-point_value-requires-clause-kind g t c =
    let read = points-read c.args.ask c.args.node.now c.requires.asked c.requires.kept _ _ _ c.input_at-first.ensures c.input_at-second.ensures c.input_at-third.ensures _ _ _ _ _ c.operand_view-view.ensures _ _ _ c.requires.kind c.in_ok-x.ensures c.in_ok-y.ensures c.in_ok-z.ensures in
    read.0.0

pub point_cell-point_value-requires-clause-operands : goal.point_cell-point_value-requires-clause-operands
point_cell-point_value-requires-clause-operands g t c =
    let fx : FitsSigned w64 c.in_ok-x.x = search rules in
    let fy : FitsSigned w64 c.in_ok-y.y = search rules in
    let fz : FitsSigned w64 c.in_ok-z.z = search rules in
    let read = points-read c.args.ask c.args.node.now c.requires.asked c.requires.kept _ _ _ c.input_at-first.ensures c.input_at-second.ensures c.input_at-third.ensures _ _ _ _ _ c.operand_view-view.ensures _ _ _ c.requires.kind c.in_ok-x.ensures c.in_ok-y.ensures c.in_ok-z.ensures in
    rw (to_z-of_z w64 _ fx, to_z-of_z w64 _ fy, to_z-of_z w64 _ fz) read.0.1

pub point_cell-returns : goal.point_cell-returns
point_cell-returns g t c =
    let fx : FitsSigned w64 c.in_ok-x.x = search rules in
    let fy : FitsSigned w64 c.in_ok-y.y = search rules in
    let fz : FitsSigned w64 c.in_ok-z.z = search rules in
    let read = points-read c.args.ask c.args.node.now c.requires.asked c.requires.kept _ _ _ c.input_at-first.ensures c.input_at-second.ensures c.input_at-third.ensures _ _ _ _ _ c.operand_view-view.ensures _ _ _ c.requires.kind c.in_ok-x.ensures c.in_ok-y.ensures c.in_ok-z.ensures in
    let given = simp to_z-of_z at c.point_value.ensures.value in
    let fits : FitsSigned w64 c.point_value.result = search rules in
    held _ _ _ _ _ fits (record { value = given ∙ read.1; cell = c.point_value.ensures.cell; cost = read.2 })

-- ---- cross-sections

pub section_cell-term_row-requires : goal.section_cell-term_row-requires
section_cell-term_row-requires g t c =
    let n = c.args.node.now in
    let plain = not-windowed (kind_of n.kind) (inr (inr (c.requires.kind n c.requires.asked.node))) in
    let may = section-ready c.args.ask n c.requires.asked c.section_input-input.result plain (c.section_input-input.ensures n c.requires.asked.node) in
    λ κs lives. (omega (arith, may.1), (lives, (c.requires.asked.request, may.0)))

pub section_cell-optional_row-requires : goal.section_cell-optional_row-requires
section_cell-optional_row-requires g t c =
    let may = mask-row-ready c.args.ask c.args.node.now c.requires.asked in
    λ κs lives. (omega (arith, may.1), (lives, (c.requires.asked.request, may.0)))

pub section_cell-optional_row-requires-2 : goal.section_cell-optional_row-requires-2
section_cell-optional_row-requires-2 g t c =
    let may = group-row-ready c.args.ask c.args.node.now c.requires.asked in
    λ κs lives. (omega (arith, may.1), (lives, (c.requires.asked.request, may.0)))

pub section_cell-index-requires : goal.section_cell-index-requires
section_cell-index-requires g t c =
    let r = c.args.ask in
    let long = row-long (λ (a : ℕ). cell_in r.world.now r.checked.now r.term.0 a r.session) r.world.now.assets.now c.in_ok-row.row.items c.in_ok-row.ensures.row in
    omega (arith, long, c.in_ok-row.row.ok.0, c.requires.asked.request.col)

pub section_cell-returns : goal.section_cell-returns
section_cell-returns g t c =
    let r = c.args.ask in
    let n = c.args.node.now in
    let f = λ (a : ℕ). cell_in r.world.now r.checked.now r.term.0 a r.session in
    let col = c.requires.asked.request.col in
    let long = row-long f r.world.now.assets.now c.in_ok-row.row.items c.in_ok-row.ensures.row in
    let own = c.section_input-input.ensures n c.requires.asked.node in
    let fits : FitsSigned w64 c.index.result.now = search rules in
    held _ _ _ _ _ fits (record {
      value = c.index.ensures ∙ row-cell f r.world.now.assets.now c.in_ok-row.row.items r.col c.index.result.now c.in_ok-row.ensures.row col ∙ section-stays r n c.requires.asked (c.requires.kind n c.requires.asked.node);
      cell = subst IsCell (sym c.index.ensures) (c.in_ok-row.ensures.cells r.col c.index.result.now (omega (arith, long, col)));
      cost = rows-taken r n c.requires.asked _ _ _ _ c.section_input-input.result c.requires.kind own c.in_ok-values.ensures.cost c.in_ok-mask.ensures.cost c.in_ok-groups.ensures.cost;
    })

-- ---- cells of several sessions, and of all assets

pub cells_up_to-cell-requires : goal.cells_up_to-cell-requires
cells_up_to-cell-requires g t c =
    let r = c.args.ask in
    let e = c.loop-session.session in
    let size = c.requires.input.0 in
    let back : r.session - e < c.args.size = omega (arith, c.loop-session.invariant.from, c.loop-session-test.true, size) in
    let at : r.session - (r.session - e) ≡ e = omega (arith, c.loop-session-test.true) in
    let may = subst (IsAsked r.world.now r.checked.now c.args.u.0) at (c.requires.input.1 (r.session - e) back) in
    λ κs lives. (omega arith, (lives, record { may = may; checked = c.requires.asked.checked; col = c.requires.asked.col; seen = earlier r.world.now r.view r.session e (omega (arith, c.loop-session-test.true)) c.requires.asked.seen }))

pub cells_up_to-returns : goal.cells_up_to-returns
unfolding seen_of
cells_up_to-returns g t c =
    let r = c.args.ask in
    let size = c.requires.input.0 in
    let l = c.loop-session in
    let end : l.session ≡ r.session + 1 = omega (arith, c.loop-session-test.false, l.invariant.to) in
    record {
      value = cells-all (λ k. seen_in r.world.now r.checked.now c.args.u.0 r.view (asset_of r) k) c.args.size r.session l.session l.cells.items size end l.invariant.cells;
      cells = l.invariant.all;
      cost = steps-all (λ k. cost_in r.world.now r.checked.now c.args.u.0 r.view (asset_of r) k) c.args.size r.session l.session c.args.steps.now l.steps size end l.invariant.cost;
    }

pub cells_up_to-loop-session-preserved : goal.cells_up_to-loop-session-preserved
cells_up_to-loop-session-preserved g t c =
    let r = c.args.ask in
    let f = λ (k : ℕ). seen_in r.world.now r.checked.now c.args.u.0 r.view (asset_of r) k in
    let k = λ (k : ℕ). cost_in r.world.now r.checked.now c.args.u.0 r.view (asset_of r) k in
    let first = r.session + 1 - c.args.size in
    let e = c.loop-session.session in
    let so_far = c.loop-session.invariant in
    let read = c.in_ok-cell.ensures in
    let fits : FitsSigned w64 c.in_ok-cell.field-0 = search rules in
    let pushed : c.push.new.self.items ≡ c.loop-session.cells.items ++ c.in_ok-cell.field-0 ∷ [] = search rules in
    record {
      from = omega (arith, so_far.from);
      to = omega (arith, c.loop-session-test.true);
      cells = cells-more f k first e so_far.from c.loop-session.cells.items c.push.new.self.items c.in_ok-cell.field-0 pushed so_far.cells read.value;
      all = all-more IsCell c.loop-session.cells.items c.push.new.self.items c.in_ok-cell.field-0 pushed so_far.all read.cell;
      cost = steps-more f k first e so_far.from c.args.steps.now c.loop-session.steps c.cell.new.steps so_far.cost read.cost;
    }

pub term_row-returns : goal.term_row-returns
term_row-returns g t c =
    let r = c.args.ask in
    let l = c.loop-col in
    let end : length r.world.now.assets.now ≤ l.col = omega (arith, c.loop-col-test.false, c.len-col-end.ensures.length) in
    record {
      value = row-all (λ b. cell_in r.world.now r.checked.now c.args.u.0 b.sid r.session) r.world.now.assets.now l.col l.row.items end l.invariant.cells;
      cells = l.invariant.all;
      cost = row-steps-all (λ b. cost_in r.world.now r.checked.now c.args.u.0 None b.sid r.session) r.world.now.assets.now l.col c.args.steps.now l.steps end l.invariant.cost;
    }

pub term_row-loop-col-preserved : goal.term_row-loop-col-preserved
term_row-loop-col-preserved g t c =
    let r = c.args.ask in
    let f = λ (a : ℕ). cell_in r.world.now r.checked.now c.args.u.0 a r.session in
    let k = λ (a : ℕ). cost_in r.world.now r.checked.now c.args.u.0 None a r.session in
    let assets = r.world.now.assets.now in
    let i = c.loop-col.col in
    let inside : i < length assets = omega (arith, c.loop-col-test.true, c.len-col-end.ensures.length) in
    let so_far = c.loop-col.invariant in
    let read = c.in_ok-cell.ensures in
    let fits : FitsSigned w64 c.in_ok-cell.field-0 = search rules in
    let pushed : c.push.new.self.items ≡ c.loop-col.row.items ++ c.in_ok-cell.field-0 ∷ [] = search rules in
    let sid = sid-there assets i inside in
    record {
      cells = row-more (λ b. f b.sid) (λ b. k b.sid) assets i no_asset inside c.loop-col.row.items c.push.new.self.items c.in_ok-cell.field-0 pushed so_far.cells (read.value ∙ own-cell r.world.now r.checked.now c.args.u.0 (sid_at assets i) r.session ∙ ap f sid);
      all = all-more IsCell c.loop-col.row.items c.push.new.self.items c.in_ok-cell.field-0 pushed so_far.all read.cell;
      cost = row-steps-more (λ b. f b.sid) (λ b. k b.sid) assets i no_asset inside c.args.steps.now c.loop-col.steps c.cell.new.steps so_far.cost (read.cost ∙ ap (λ a. c.loop-col.steps + k a) sid);
    }

use Rattle.std.proofs.Common.{◌≡◌, ◌∙◌, ap, sym, subst, true, pos, slice_get}
use Rattle.std.proofs.lemmas.Result.{IfOk-weaker}
use Rattle.pl_spec.specs.Parts.{sid_at}
use Rattle.pl_terms.specs.Kinds.{kind_of}
use Rattle.pl_terms.specs.Sorts.{is_windowed}
use Rattle.pl_terms.specs.Nodes.{node_of}
use Rattle.pl_values.specs.Families.{IsOf, is_point}
use Rattle.pl_pipeline.specs.Value.{From}
use Rattle.pl_terms.specs.Checked.{pipeline_of}
use Rattle.pl_derivation.specs.Facts.{facts_now, over_inputs, window_facts}
use Rattle.pl_world.specs.Views.{view_at}
use Rattle.pl_world.proofs.Asked.{first-asked, second-asked, third-asked}
use Rattle.pl_world.proofs.Evaluated.{sid-of}
use Rattle.pl_explain.proofs.Behind.{roomy}
use Rattle.pl_explain.proofs.Values.{inputs-within, read-windows, read-point}
use Rattle.pl_explain.proofs.reads.facts_read.Goals as goal

pub windows_read-requires : goal.windows_read-requires
windows_read-requires c =
    let w = c.args.world.now in
    let p = c.args.checked.now in
    let s = c.args.session in
    let n = c.node_in-node.result.now in
    let ok = c.requires.ready.checked in
    record {
      inputs = inputs-within p ok c.args.t.0 n c.node_in-node.ensures;
      first = roomy w p (slice_get n.inputs 0) n.window s (first-asked w p ok c.args.t.0 s c.requires.asked n c.node_in-node.ensures);
      second = roomy w p (slice_get n.inputs 1) n.window s (second-asked w p ok c.args.t.0 s c.requires.asked n c.node_in-node.ensures);
      third = roomy w p (slice_get n.inputs 2) n.window s (third-asked w p ok c.args.t.0 s c.requires.asked n c.node_in-node.ensures);
    }

pub returns-in-Window : goal.returns-in-Window
returns-in-Window c =
    let w = c.args.world.now in
    let p = c.args.checked.now in
    let s = c.args.session in
    let n = c.node_in-node.result.now in
    let from = c.window_view-from.result in
    let kind : is_windowed (kind_of n.kind) ≡ true = subst (IsOf (kind_of n.kind)) c.in-Window.is c.family_of.ensures in
    let sid = sid-of w.assets.now c.args.col c.sid-sid.result c.sid-sid.ensures in
    IfOk-weaker c.windows_read.result _ _ (λ v h. h
    ∙ ap (λ a. over_inputs (window_facts (pipeline_of p).graph (From (pos from)) n.window a (pos s)) (node_of n)) sid
    ∙ sym (read-windows w p c.requires.ready.checked c.args.t.0 n c.node_in-node.ensures (sid_at w.assets.now c.args.col) s c.args.view kind from c.window_view-from.ensures)) c.windows_read.ensures

pub inputs_read-requires : goal.inputs_read-requires
inputs_read-requires c = inputs-within c.args.checked.now c.requires.ready.checked c.args.t.0 c.node_in-node.result.now c.node_in-node.ensures

pub inputs_read-requires-in-LabelTest : goal.inputs_read-requires-in-LabelTest
inputs_read-requires-in-LabelTest c = inputs-within c.args.checked.now c.requires.ready.checked c.args.t.0 c.node_in-node.result.now c.node_in-node.ensures

pub inputs_read-requires-in-Downsample : goal.inputs_read-requires-in-Downsample
inputs_read-requires-in-Downsample c = inputs-within c.args.checked.now c.requires.ready.checked c.args.t.0 c.node_in-node.result.now c.node_in-node.ensures

pub section_read-requires-clause-inputs : goal.section_read-requires-clause-inputs
section_read-requires-clause-inputs c = inputs-within c.args.checked.now c.requires.ready.checked c.args.t.0 c.node_in-node.result.now c.node_in-node.ensures

pub returns-in-Point : goal.returns-in-Point
returns-in-Point c =
    let w = c.args.world.now in
    let p = c.args.checked.now in
    let s = c.args.session in
    let n = c.node_in-node.result.now in
    let from = c.operand_view-from.result in
    let kind : is_point (kind_of n.kind) ≡ true = subst (IsOf (kind_of n.kind)) c.in-Point.is c.family_of.ensures in
    let sid = sid-of w.assets.now c.args.col c.sid-sid.result c.sid-sid.ensures in
    IfOk-weaker c.inputs_read.result _ _ (λ v h. h
    ∙ ap (λ a. over_inputs (facts_now (pipeline_of p).graph (view_at from) a (pos s)) (node_of n)) sid
    ∙ sym (read-point w p c.requires.ready.checked c.args.t.0 n c.node_in-node.ensures (sid_at w.assets.now c.args.col) s c.args.view kind from c.operand_view-from.ensures)) c.inputs_read.ensures

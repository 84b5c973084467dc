use Rattle.std.proofs.Common.{◌≤◌, ◌∙◌, take, length, is_some, ap, refl, sym, arith}
use Rattle.pl_terms.specs.Checked.{pipeline_of}
use Rattle.pl_derivation.specs.Right.{is_stated}
use Rattle.pl_derivation.proofs.Truths.{sound}
use Rattle.pl_derivation.specs.Listed.{line_of}
use Rattle.pl_world.specs.Worlds.{world_of}
use Rattle.pl_derivation.proofs.Printing.{lines_more}
use Rattle.pl_explain.proofs.Passing.{pass, stop, whole}
use Rattle.pl_explain.proofs.Judging.{judged-right, stated-behind}
use Rattle.pl_explain.proofs.Standing.{table-first}
use Rattle.pl_explain.proofs.judge.first_wrong.Goals as goal

pub loop-i-init : goal.loop-i-init
loop-i-init g c = record {
  none = refl;
  stated = λ f. ap is_some (c.new-stated.ensures f);
  table = table-first c.args.world.now c.args.checked.now c.new-stated.result c.new-rows.result c.new-stated.ensures c.new-rows.ensures c.parts_are_ready.ensures;
}

pub is_right-requires-clause-table : goal.is_right-requires-clause-table
is_right-requires-clause-table g c = c.loop-i.invariant.table

pub returns-then-not-branch-clause-exact : goal.returns-then-not-branch-clause-exact
returns-then-not-branch-clause-exact g c =
    let w = c.args.world.now in
    let p = c.args.checked.now in
    let lines = c.args.derivation.now in
    let so_far = c.loop-i.invariant in
    let l = line_of c.line-line.result.now in
    let judged = judged-right (world_of w) (pipeline_of p) c.parts_are_ready.ensures.texts c.parts_are_ready.ensures.checked.graph c.loop-i.stated (take c.loop-i.i lines) so_far.none so_far.stated l in
    sym (stop (world_of w) (pipeline_of p) lines c.loop-i.i l c.line-line.ensures.line so_far.none (sym judged ∙ sym c.in_ok-is_right.ensures.exact ∙ c.if-not-branch.true))

pub loop-i-preserved : goal.loop-i-preserved
loop-i-preserved g c =
    let w = c.args.world.now in
    let p = c.args.checked.now in
    let lines = c.args.derivation.now in
    let so_far = c.loop-i.invariant in
    let i = c.loop-i.i in
    let l = line_of c.line-line.result.now in
    let judged = judged-right (world_of w) (pipeline_of p) c.parts_are_ready.ensures.texts c.parts_are_ready.ensures.checked.graph c.loop-i.stated (take i lines) so_far.none so_far.stated l in
    let more = c.in_ok-is_right.ensures.stated c.if-not-branch.false in
    record {
      none = pass (world_of w) (pipeline_of p) lines i l c.line-line.ensures.line so_far.none (sym judged ∙ sym c.in_ok-is_right.ensures.exact ∙ c.if-not-branch.false);
      stated = λ f. stated-behind (world_of w) c.loop-i.stated c.is_right.new.stated (take i lines) l so_far.stated more f ∙ ap (λ ls. is_stated (world_of w) ls f) (sym (lines_more lines i l c.line-line.ensures.line));
      table = c.in_ok-is_right.ensures.table;
    }

pub returns-clause-exact : goal.returns-clause-exact
returns-clause-exact g c =
    let lines = c.args.derivation.now in
    let end : length lines ≤ c.loop-i.i = omega (arith, c.loop-i-test.false, c.len-i-end.ensures.length) in
    sym (whole (world_of c.args.world.now) (pipeline_of c.args.checked.now) lines c.loop-i.i end c.loop-i.invariant.none)

pub returns-clause-truth : goal.returns-clause-truth
returns-clause-truth g c =
    let w = c.args.world.now in
    let p = c.args.checked.now in
    let lines = c.args.derivation.now in
    let end : length lines ≤ c.loop-i.i = omega (arith, c.loop-i-test.false, c.len-i-end.ensures.length) in
    λ _ i l at. sound (world_of w) (pipeline_of p) c.parts_are_ready.ensures.texts c.parts_are_ready.ensures.checked.graph lines (whole (world_of w) (pipeline_of p) lines c.loop-i.i end c.loop-i.invariant.none) i l at

use Rattle.std.proofs.Common.{ap, ◌∙◌, ◌≡◌, ◌-◌, arith, List, length, option_map}
use Rattle.std.proofs.lemmas.List.{length-replicate}
use Rattle.pl_terms.specs.Checked.{pipeline_of}
use Rattle.pl_terms.specs.Nodes.{node_of, number_of}
use Rattle.pl_planner.specs.Asked.{wanted}
use Rattle.pl_planner.specs.declared.uses.Use.{Use}
use Rattle.pl_planner.specs.Uses.{unused, all_marked}
use Rattle.pl_planner.proofs.Pipelines.{window-is}
use Rattle.pl_planner.proofs.Marks.{wanted-pipeline}
use Rattle.pl_planner.proofs.Passes.{pass_begun, pass_room, pass_step, pass_skip, pass_lower, pass_ended}
use Rattle.pl_planner.proofs.uses.ask_down.Goals as goal

pub mark_wanted-requires : goal.mark_wanted-requires
mark_wanted-requires c = record {
  checked = c.requires.asked.checked;
  only = c.requires.only;
  long = ap (λ (us : List Use). length us) c.requires.unused ∙ length-replicate (length (pipeline_of c.args.checked.now).graph) unused;
}

pub loop-k-init : goal.loop-k-init
loop-k-init c =
    let ok = wanted-pipeline c.args.checked.now c.requires.asked.checked c.args.only c.requires.only in
    record {
      gathered = pass_begun c.requires.asked.days.ascend c.args.session ok c.mark_wanted.new.uses c.count-k.result c.count-k.ensures.count
          (c.mark_wanted.ensures ∙ ap (λ us. all_marked us c.count-k.result (wanted (pipeline_of c.args.checked.now) (option_map number_of c.args.only))) c.requires.unused);
      within = (let e = c.count-k.ensures.count in omega arith);
    }

pub ask_all-requires : goal.ask_all-requires
ask_all-requires c =
    let ok = wanted-pipeline c.args.checked.now c.requires.asked.checked c.args.only c.requires.only in
    let n = node_of c.node_at-node.result.now in
    let w = ok.windows (c.loop-k.k - 1) n c.node_at-node.ensures in
    let e = window-is c.node_at-node.result.now in
    let r = pass_room c.requires.asked.days.ascend c.args.session ok c.requires.asked.few c.loop-k.uses c.loop-k.k (c.loop-k.k - 1) n.kind c.loop-k.invariant.gathered c.if-own.true in
    record {
      within = c.requires.within;
      window = omega (arith, w.0, e);
      room = omega (arith, w.1, e, r, c.requires.asked.days.few, c.requires.within);
      lower = pass_lower c.requires.asked.days.ascend c.args.session ok c.loop-k.uses c.loop-k.k (c.loop-k.k - 1) n c.loop-k.invariant.gathered c.node_at-node.ensures;
    }

pub loop-k-preserved-then-own : goal.loop-k-preserved-then-own
loop-k-preserved-then-own c =
    let ok = wanted-pipeline c.args.checked.now c.requires.asked.checked c.args.only c.requires.only in
    record {
      gathered = pass_step c.requires.asked.days.ascend c.args.session ok c.loop-k.uses c.ask_all.new.uses c.loop-k.k (node_of c.node_at-node.result.now) c.loop-k.invariant.gathered c.loop-k-test.true c.node_at-node.ensures
          c.if-own.true c.ask_all.ensures;
      within = (let l = c.loop-k.invariant.within in omega arith);
    }

pub loop-k-preserved : goal.loop-k-preserved
loop-k-preserved c =
    let ok = wanted-pipeline c.args.checked.now c.requires.asked.checked c.args.only c.requires.only in
    record {
      gathered = pass_skip c.requires.asked.days.ascend c.args.session ok c.loop-k.uses c.loop-k.k c.loop-k.invariant.gathered c.if-own.false;
      within = (let l = c.loop-k.invariant.within in omega arith);
    }

pub returns : goal.returns
returns c =
    let ok = wanted-pipeline c.args.checked.now c.requires.asked.checked c.args.only c.requires.only in
    let zero_left : c.loop-k.k ≡ 0 = omega (arith, c.loop-k-test.false) in
    let ended = pass_ended c.requires.asked.days.ascend c.args.session ok c.loop-k.uses (rw zero_left at c.loop-k.invariant.gathered) in
    record { uses = ended.0; extras = ended.1 }

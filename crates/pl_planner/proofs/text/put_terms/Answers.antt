use Rattle.std.proofs.Common.{◌≡◌, ◌++◌, length, ap, ◌∙◌, arith}
use Rattle.std.proofs.lemmas.List.{append_assoc}
use Rattle.pl_terms.specs.Checked.{pipeline_of}
use Rattle.pl_terms.proofs.Graphs.{graph-long}
use Rattle.pl_planner.specs.Plans.{extra}
use Rattle.pl_planner.specs.Text.{used_line}
use Rattle.pl_planner.proofs.Lines.{lines_below, one-more, all-lines}
use Rattle.pl_planner.proofs.text.put_terms.Goals as goal

pub loop-k-preserved : goal.loop-k-preserved
loop-k-preserved c =
    let put : c.put_term.new.out.items ≡ c.loop-k.out.items ++ used_line (pipeline_of c.args.checked.now) (extra c.args.plan.now) c.loop-k.k = c.in_ok-put_term.ensures in
    put ∙ ap (λ l. l ++ used_line (pipeline_of c.args.checked.now) (extra c.args.plan.now) c.loop-k.k) c.loop-k.invariant
    ∙ append_assoc c.args.out.now.items (lines_below (pipeline_of c.args.checked.now) (extra c.args.plan.now) c.loop-k.k) (used_line (pipeline_of c.args.checked.now) (extra c.args.plan.now) c.loop-k.k)
    ∙ ap (λ l. c.args.out.now.items ++ l) (one-more (pipeline_of c.args.checked.now) (extra c.args.plan.now) c.loop-k.k)

pub returns : goal.returns
returns c =
    let v = c.len-k-end.ensures.value in
    let t = c.loop-k-test.false in
    let a = c.loop-k.auto.k-end in
    let e : length c.graph.result.now ≡ length c.args.checked.now.graph = ap (λ ns. length ns) c.graph.ensures.value in
    let g = graph-long c.args.checked.now.graph in
    let end : c.loop-k.k ≡ length (pipeline_of c.args.checked.now).graph = omega arith in
    c.loop-k.invariant ∙ ap (λ n. c.args.out.now.items ++ lines_below (pipeline_of c.args.checked.now) (extra c.args.plan.now) n) end
    ∙ ap (λ l. c.args.out.now.items ++ l) (all-lines (pipeline_of c.args.checked.now) (extra c.args.plan.now))

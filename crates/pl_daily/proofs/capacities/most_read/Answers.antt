use Rattle.std.proofs.Common.{rules, ◌∙◌, ap, max, fold, map, ◌≡◌, length, arith}
use Rattle.std.specs.List.{range_with_len}
use Rattle.pl_terms.specs.Checked.{pipeline_of}
use Rattle.pl_terms.specs.Nodes.{input_of}
use Rattle.pl_planner.proofs.Counting.{most_more}
use Rattle.pl_daily.specs.Inside.{used_sessions}
use Rattle.pl_daily.proofs.Greatest.{most-is}
use Rattle.pl_daily.proofs.capacities.most_read.Goals as goal

pub loop-k-preserved : goal.loop-k-preserved
loop-k-preserved c =
    let m : c.max-most.result ≡ max c.loop-k.most c.sessions_by.result = search rules in
    omega (arith, m, c.loop-k.invariant, c.sessions_by.ensures, most_more (used_sessions (input_of c.args.input) (pipeline_of c.args.checked.now)) c.loop-k.k)

pub returns : goal.returns
returns c =
    let t = c.loop-k-test.false in
    let a = c.loop-k.auto.k-end in
    let n = c.count-k-end.ensures.count in
    let end : c.loop-k.k ≡ length (pipeline_of c.args.checked.now).graph = omega arith in
    c.loop-k.invariant ∙ ap (λ n. fold max 0 (map (used_sessions (input_of c.args.input) (pipeline_of c.args.checked.now)) (range_with_len 0 n))) end
    ∙ most-is (input_of c.args.input) (pipeline_of c.args.checked.now)

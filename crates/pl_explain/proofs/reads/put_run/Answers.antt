use Rattle.std.proofs.Common.{◌≡◌, ℕ, ◌-◌, ◌≤◌, ◌++◌, ◌∷◌, [], ◌∙◌, pos, map, ap, sym, subst, Some, arith, rules}
use Rattle.std.specs.List.{range_with_len}
use Rattle.pl_terms.specs.Nodes.{input_of}
use Rattle.pl_pipeline.specs.Value.{From}
use Rattle.pl_terms.specs.Checked.{pipeline_of}
use Rattle.pl_derivation.specs.Facts.{window_facts}
use Rattle.pl_explain.specs.Reading.{fact_at, is_steady_input, ArePut}
use Rattle.pl_explain.proofs.Facts.{window-run}
use Rattle.pl_explain.proofs.Behind.{put-one, run-more, run-all}
use Rattle.pl_explain.proofs.reads.put_run.Goals as goal

pub loop-earlier-preserved : goal.loop-earlier-preserved
loop-earlier-preserved c =
    let k = c.loop-earlier.earlier in
    let first = c.end_of-end.result - c.args.span.size in
    let f = λ (j : ℕ). fact_at (is_steady_input (pipeline_of c.args.checked.now).graph (input_of c.args.input)) (input_of c.args.input) c.args.span.sid (pos j) (pos c.args.span.view) in
    let so_far = c.loop-earlier.invariant in
    let pushed : c.push.new.self.items ≡ c.loop-earlier.facts.items ++ c.fact_at.result ∷ [] = search rules in
    let put : ArePut c.loop-earlier.facts.items c.push.new.self.items (f k ∷ []) = subst (λ x. ArePut c.loop-earlier.facts.items c.push.new.self.items (x ∷ [])) (c.fact_at.ensures ∙ ap (λ q. fact_at q (input_of c.args.input) c.args.span.sid (pos k) (pos c.args.span.view)) c.is_steady_input-steady.ensures) (put-one c.loop-earlier.facts.items c.push.new.self.items c.fact_at.result pushed) in
    record {
      from = omega (arith, so_far.from);
      to = omega (arith, c.loop-earlier-test.true);
      facts = run-more f first k so_far.from c.args.facts.now.items c.loop-earlier.facts.items c.push.new.self.items so_far.facts put;
    }

pub returns : goal.returns
returns c =
    let s = c.args.span.session in
    let k = c.loop-earlier.earlier in
    let i = input_of c.args.input in
    let end = c.end_of-end.result in
    let f = λ (j : ℕ). fact_at (is_steady_input (pipeline_of c.args.checked.now).graph i) i c.args.span.sid (pos j) (pos c.args.span.view) in
    let room : c.args.span.size ≤ end = subst (λ n. c.args.span.size ≤ n) (sym c.end_of-end.ensures.end) c.requires.room in
    let long : k - (end - c.args.span.size) ≡ c.args.span.size = omega (arith, room, c.loop-earlier-test.false, c.loop-earlier.invariant.to) in
    run-all f (end - c.args.span.size) k c.args.span.size c.args.facts.now.items c.loop-earlier.facts.items (window_facts (pipeline_of c.args.checked.now).graph (From (pos c.args.span.view)) c.args.span.size c.args.span.sid (pos s) (Some i)) long
    (window-run (pipeline_of c.args.checked.now).graph i c.args.span.sid s c.args.span.view c.args.span.size c.requires.room ∙ ap (λ n. map f (range_with_len (n - c.args.span.size) c.args.span.size)) (sym c.end_of-end.ensures.end)) c.loop-earlier.invariant.facts

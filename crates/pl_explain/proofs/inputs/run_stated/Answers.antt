use Rattle.std.proofs.Common.{◌≡◌, ℕ, ◌-◌, ◌<◌, ◌≤◌, ◌++◌, ◌∷◌, [], ◌∙◌, None, Some, pos, map, ap, sym, refl, subst, arith, rules, w64, FitsSigned}
use Rattle.std.specs.List.{range_with_len}
use Rattle.pl_spec.specs.Rounding.{IsCell}
use Rattle.pl_terms.specs.Checked.{pipeline_of}
use Rattle.pl_terms.specs.Nodes.{input_of}
use Rattle.pl_pipeline.specs.Value.{From}
use Rattle.pl_derivation.specs.Facts.{number_in, window_facts}
use Rattle.pl_world.specs.Worlds.{world_of}
use Rattle.pl_world.specs.Views.{window_seen_in}
use Rattle.pl_world.proofs.Evaluated.{sid-of}
use Rattle.pl_world.proofs.Windowing.{cells-more, all-more}
use Rattle.pl_explain.specs.Keys.{fact_of}
use Rattle.pl_explain.specs.Looking.{look}
use Rattle.pl_explain.specs.Given.{sid_in}
use Rattle.pl_explain.specs.Reading.{end_of, fact_at, is_steady_input}
use Rattle.pl_explain.proofs.Given.{refused, accepted, has-none, has-some}
use Rattle.pl_explain.proofs.Facts.{window-run, window-numbers, window-early, run-stated, run-lacks, run-more}
use Rattle.pl_explain.proofs.inputs.run_stated.Goals as goal

pub returns-then-size-end : goal.returns-then-size-end
returns-then-size-end c =
    let b = c.args.basis.now in
    let i = input_of c.args.input in
    let a = sid_in b c.args.col in
    let facts = window_facts (pipeline_of b.checked.now).graph (From (pos c.args.view)) c.args.size a (pos c.args.session) (Some i) in
    let short : end_of i c.args.session < c.args.size = subst (λ n. n < c.args.size) c.end_of-end.ensures.end c.if-size-end.true in
    refused b.stated.now facts facts (window_seen_in b.world b.checked.now c.args.size (Some c.args.input) (Some c.args.view) a c.args.session) None refl (window-early b.stated.now (pipeline_of b.checked.now).graph i a c.args.session c.args.view c.args.size short) refl

pub returns-in-None : goal.returns-in-None
returns-in-None c =
    let b = c.args.basis.now in
    let i = input_of c.args.input in
    let s = c.args.session in
    let v = c.args.view in
    let steady = is_steady_input (pipeline_of b.checked.now).graph i in
    let a = sid_in b c.args.col in
    let k = c.loop-earlier.earlier in
    let size = c.args.size in
    let end = c.end_of-end.result in
    let f = λ (j : ℕ). fact_at steady i a (pos j) (pos v) in
    let room : size ≤ end = c.if-size-end.false in
    let fits : size ≤ end_of i s = subst (λ n. size ≤ n) c.end_of-end.ensures.end room in
    let at = sid-of b.world.assets.now c.args.col c.sid-sid.result c.sid-sid.ensures in
    let same : fact_of c.fact_at.result ≡ f k = c.fact_at.ensures ∙ ap (λ q. fact_at q i c.sid-sid.result (pos k) (pos v)) c.is_steady_input-steady.ensures ∙ ap (λ x. fact_at steady i x (pos k) (pos v)) at in
    let none : look b.stated.now (f k) ≡ None = ap (look b.stated.now) (sym same) ∙ sym c.in-None.ensures in
    let lacks = run-lacks b.stated.now f (end - size) size k c.loop-earlier.invariant.from (omega (arith, c.loop-earlier-test.true, room)) (has-none b.stated.now (f k) none) in
    let run = window-run (pipeline_of b.checked.now).graph i a s v size fits ∙ ap (λ n. map f (range_with_len (n - size) size)) (sym c.end_of-end.ensures.end) in
    refused b.stated.now (map f (range_with_len (end - size) size)) (window_facts (pipeline_of b.checked.now).graph (From (pos v)) size a (pos s) (Some i)) (window_seen_in b.world b.checked.now size (Some c.args.input) (Some v) a s) None run lacks refl

pub loop-earlier-preserved : goal.loop-earlier-preserved
loop-earlier-preserved c =
    let b = c.args.basis.now in
    let i = input_of c.args.input in
    let s = c.args.session in
    let v = c.args.view in
    let steady = is_steady_input (pipeline_of b.checked.now).graph i in
    let a = sid_in b c.args.col in
    let k = c.loop-earlier.earlier in
    let first = c.end_of-end.result - c.args.size in
    let f = λ (j : ℕ). fact_at steady i a (pos j) (pos v) in
    let so_far = c.loop-earlier.invariant in
    let at = sid-of b.world.assets.now c.args.col c.sid-sid.result c.sid-sid.ensures in
    let same : fact_of c.fact_at.result ≡ f k = c.fact_at.ensures ∙ ap (λ q. fact_at q i c.sid-sid.result (pos k) (pos v)) c.is_steady_input-steady.ensures ∙ ap (λ x. fact_at steady i x (pos k) (pos v)) at in
    let fits : FitsSigned w64 c.in-Some.cell = search rules in
    let some : look b.stated.now (f k) ≡ Some c.in-Some.cell = ap (look b.stated.now) (sym same) ∙ sym c.in-Some.ensures in
    let true_cell = c.requires.at.on.truth (f k) c.in-Some.cell some in
    let pushed : c.push.new.self.items ≡ c.loop-earlier.cells.items ++ c.in-Some.cell ∷ [] = search rules in
    record {
      from = omega (arith, so_far.from);
      to = omega (arith, c.loop-earlier-test.true);
      cells = cells-more (λ j. number_in (world_of b.world) (pipeline_of b.checked.now) (f j)) (λ j. 0) first k so_far.from c.loop-earlier.cells.items c.push.new.self.items c.in-Some.cell pushed so_far.cells true_cell.0;
      all = all-more IsCell c.loop-earlier.cells.items c.push.new.self.items c.in-Some.cell pushed so_far.all true_cell.1;
      stated = run-more b.stated.now f first k so_far.stated (has-some b.stated.now (f k) c.in-Some.cell some);
    }

pub returns : goal.returns
returns c =
    let b = c.args.basis.now in
    let i = input_of c.args.input in
    let s = c.args.session in
    let v = c.args.view in
    let steady = is_steady_input (pipeline_of b.checked.now).graph i in
    let a = sid_in b c.args.col in
    let size = c.args.size in
    let end = c.end_of-end.result in
    let f = λ (j : ℕ). fact_at steady i a (pos j) (pos v) in
    let g = λ (j : ℕ). number_in (world_of b.world) (pipeline_of b.checked.now) (f j) in
    let room : size ≤ end = c.if-size-end.false in
    let fits : size ≤ end_of i s = subst (λ n. size ≤ n) c.end_of-end.ensures.end room in
    let last : c.loop-earlier.earlier ≡ end = omega (arith, c.loop-earlier-test.false, c.loop-earlier.invariant.to) in
    let long : c.loop-earlier.earlier - (end - size) ≡ size = omega (arith, last, room) in
    let all = run-stated b.stated.now f (end - size) size (λ k l m. c.loop-earlier.invariant.stated k l (omega (arith, m, last, room))) in
    let run = window-run (pipeline_of b.checked.now).graph i a s v size fits ∙ ap (λ n. map f (range_with_len (n - size) size)) (sym c.end_of-end.ensures.end) in
    accepted b.stated.now (map f (range_with_len (end - size) size)) (window_facts (pipeline_of b.checked.now).graph (From (pos v)) size a (pos s) (Some i)) (window_seen_in b.world b.checked.now size (Some c.args.input) (Some v) a s) c.loop-earlier.cells.items run all
    (c.loop-earlier.invariant.cells ∙ ap (λ n. map g (range_with_len (end - size) n)) long ∙ ap (λ n. map g (range_with_len (n - size) size)) c.end_of-end.ensures.end
    ∙ window-numbers b.world b.checked.now c.args.input a s v size fits) c.loop-earlier.invariant.all

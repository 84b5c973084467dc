use Rattle.std.proofs.Common.{◌≡◌, ◌-◌, ◌≤◌, ◌++◌, map, pos}
use Rattle.std.specs.List.{range_with_len}
use Rattle.pl_terms.specs.Checked.{pipeline_of}
use Rattle.pl_terms.specs.Nodes.{input_of}
use Rattle.pl_explain.specs.Keys.{fact_of}
use Rattle.pl_explain.specs.Reading.{fact_at, is_steady_input}
use Rattle.pl_explain.proofs.reads.put_run.Given as goal

-- the sessions that have been passed
abbrev pub invariant-loop-earlier : goal.invariant-loop-earlier
invariant-loop-earlier l =
    let first = l.end - l.span.size in
    record {
      from : first ≤ l.earlier;
      to : l.earlier ≤ l.end;
      facts : map fact_of l.facts.items
          ≡ map fact_of l.fn.facts.items ++ map (λ k. fact_at (is_steady_input (pipeline_of l.checked).graph (input_of l.input)) (input_of l.input) l.span.sid (pos k) (pos l.span.view)) (range_with_len first (l.earlier - first));
    }

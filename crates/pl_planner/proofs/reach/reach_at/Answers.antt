use Rattle.std.proofs.Common.{rules, arith, ◌∷◌, ◌∙◌, [], pos}
use Rattle.pl_terms.specs.Nodes.{graph_of}
use Rattle.pl_terms.proofs.Graphs.{graph-long}
use Rattle.pl_planner.proofs.Lows.{reach-alone}
use Rattle.pl_planner.proofs.reach.reach_at.Goals as goal

pub gather-requires-clause-only : goal.gather-requires-clause-only
gather-requires-clause-only c = omega (arith, c.requires.term, graph-long c.args.checked.now.graph)

pub reach_of-requires : goal.reach_of-requires
reach_of-requires c = rw c.deref.ensures.value (record {
  asked = c.are_asked.ensures;
  uses = record { outputs = c.args.t.0 ∷ []; are = c.in_ok-uses.ensures.uses; have = c.in_ok-uses.ensures.extras };
  within = c.requires.session;
})

pub returns : goal.returns
returns c =
    let reached = rw c.deref.ensures.value at c.reach_of.ensures in
    let own = reached (c.args.t.0 ∷ []) c.in_ok-uses.ensures.uses c.in_ok-uses.ensures.extras
    ∙ reach-alone c.args.sessions.now (graph_of c.args.checked.now.graph) c.args.t.0 (pos c.args.session) in
    search (rules, own)

use Rattle.std.proofs.Common.{◌<◌, option_map, sym, ap, subst, ◌∙◌}
use Rattle.pl_terms.specs.declared.row.Sort.TheVariants.{Factors}
use Rattle.pl_terms.specs.Kinds.{kind_of}
use Rattle.pl_terms.specs.Nodes.{graph_of}
use Rattle.pl_terms.proofs.Graphs.{graph-long}
use Rattle.pl_check.specs.declared.value.Value.TheVariants as code
use Rattle.pl_check.specs.Typed as spec
use Rattle.pl_check.specs.Made.{terms_of}
use Rattle.pl_check.specs.Seen.{value_of}
use Rattle.pl_check.specs.Standing.{IsInGraph}
use Rattle.pl_check.proofs.Aged.{named-term, sorted-stands}
use Rattle.pl_check.proofs.ages.number_named.Goals as goal

pub node-node-requires : goal.node-node-requires
node-node-requires c =
    let g = graph_of c.args.terms.now.graph in
    let t = c.in-Factor.term.0 in
    let stands : IsInGraph g (value_of (code.Factor c.in-Factor.term c.in-Factor.safe)) = subst (λ v. IsInGraph g (value_of v)) c.in-Factor.is c.requires in
    subst (λ n. t < n) (graph-long c.args.terms.now.graph) (sorted-stands g t Factors stands.0)

pub returns-in-Factor : goal.returns-in-Factor
returns-in-Factor c =
    let named = c.name_of_kind.ensures ∙ ap (λ ns. spec.name_of_kind ns (kind_of c.node-node.result.now.kind)) c.deref.ensures.value in
    named-term c.args.terms.now.graph c.args.terms.now.names.items c.in-Factor.term.0 c.node-node.result.now (option_map (λ n. n.now) c.name_of_kind.result) c.node-node.ensures named
    ∙ ap (λ v. spec.number_named (terms_of c.args.terms.now) (value_of v)) (sym c.in-Factor.is)

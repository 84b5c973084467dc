use Rattle.std.proofs.Common.{◌≡◌, ◌<◌, ◌∙◌, IfSome, IfNone, sym, subst, rules, arith}
use Rattle.std.proofs.lemmas.Option.{slice_get_within}
use Rattle.pl_terms.specs.Kinds.{kind_of}
use Rattle.pl_pipeline.specs.Kind.{Kind}
use Rattle.pl_spec.specs.Rounding.{MISSING}
use Rattle.pl_pipeline.specs.Kind.Kind.{Constant}
use Rattle.pl_terms.proofs.TermSorts.{own-there, input-below, input-there, none-there}
use Rattle.pl_terms.proofs.sorting.+sorting_kind.Goals as goal

pub returns-then-not-is_downsampled-clause-some : goal.returns-then-not-is_downsampled-clause-some
returns-then-not-is_downsampled-clause-some t c =
    own-there c.args.graph.now c.args.t.0 c.node-node.result.now c.node-node.ensures (sym c.is_downsampled.ensures ∙ c.if-not-is_downsampled.true)

pub sorting_kind-requires : goal.sorting_kind-requires
sorting_kind-requires t c =
    let below = input-below c.args.graph.now c.args.t.0 c.node-node.result.now c.node-node.ensures c.first_term.result c.in-Some.input c.len-terms.ensures.graph c.first_term.ensures c.in-Some.is in
    let within : c.args.t.0 < _ = slice_get_within c.args.graph.now c.args.t.0 c.node-node.result.now c.node-node.ensures in
    (search (rules, below), omega arith)

pub returns-in-Some-clause-some : goal.returns-in-Some-clause-some
returns-in-Some-clause-some t c =
    subst (λ (k : Kind). IfSome c.sorting_kind.result (λ kind. kind_of kind.now ≡ k))
    (input-there c.args.graph.now c.args.t.0 c.node-node.result.now c.node-node.ensures c.first_term.result c.in-Some.input c.len-terms.ensures.graph (sym c.is_downsampled.ensures ∙ c.if-not-is_downsampled.false) c.first_term.ensures c.in-Some.is)
    c.sorting_kind.ensures.some

pub returns-in-Some-clause-none : goal.returns-in-Some-clause-none
returns-in-Some-clause-none t c =
    subst (λ (k : Kind). IfNone c.sorting_kind.result (k ≡ Constant MISSING))
    (input-there c.args.graph.now c.args.t.0 c.node-node.result.now c.node-node.ensures c.first_term.result c.in-Some.input c.len-terms.ensures.graph (sym c.is_downsampled.ensures ∙ c.if-not-is_downsampled.false) c.first_term.ensures c.in-Some.is)
    c.sorting_kind.ensures.none

pub returns-in-None-clause-none : goal.returns-in-None-clause-none
returns-in-None-clause-none t c =
    none-there c.args.graph.now c.args.t.0 c.node-node.result.now c.node-node.ensures c.first_term.result (sym c.is_downsampled.ensures ∙ c.if-not-is_downsampled.false) c.first_term.ensures c.in-None.is

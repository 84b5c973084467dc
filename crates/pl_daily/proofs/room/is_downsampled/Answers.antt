use Rattle.std.proofs.Common.{◌≡◌, ◌∙◌, sym, ap}
use Rattle.std.proofs.lemmas.Option.{same_Some}
use Rattle.pl_pipeline.specs.Term.{Node}
use Rattle.pl_pipeline.specs.Kind.Kind.{Downsample}
use Rattle.pl_terms.specs.Kinds.{kind_of}
use Rattle.pl_terms.specs.Nodes.{node_of}
use Rattle.pl_daily.proofs.Begun.{some_of}
use Rattle.pl_daily.proofs.Downsampled.{kind_is}
use Rattle.pl_daily.proofs.room.is_downsampled.Goals as goal

pub returns : goal.returns
returns c =
    let n = c.node_at-node.result.now in
    λ f u down.
    let same : down.node ≡ node_of n = same_Some down.node (node_of n) (sym down.at ∙ c.node_at-node.ensures) in
    let kind : kind_of n.kind ≡ Downsample f = sym (kind_is n) ∙ ap (λ (m : Node). m.kind) (sym same) ∙ down.kind in
    c.is_some.ensures ∙ some_of c.frequency_of.result (kind_of n.kind) f c.frequency_of.ensures.none kind

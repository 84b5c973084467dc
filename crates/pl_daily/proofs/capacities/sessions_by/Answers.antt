use Rattle.std.proofs.Common.{◌∙◌, sym, subst, ◌<◌, ◌^◌}
use Rattle.pl_terms.specs.Checked.{pipeline_of}
use Rattle.pl_terms.specs.Nodes.{input_of}
use Rattle.pl_daily.proofs.Depths.{deepest-small}
use Rattle.pl_daily.proofs.Greatest.{own-sessions}
use Rattle.pl_daily.proofs.capacities.sessions_by.Goals as goal

pub sessions_read-requires : goal.sessions_read-requires
sessions_read-requires c =
    let n = c.requires.number in
    subst (λ d. d < 2 ^ 32) (sym (c.requires.depths.each c.args.k n.within)) (deepest-small (pipeline_of c.args.checked.now) n.checked c.args.k n.few)

pub returns-then-is_used : goal.returns-then-is_used
returns-then-is_used c =
    let n = c.requires.number in
    c.sessions_read.ensures
    ∙ own-sessions (input_of c.args.input) (pipeline_of c.args.checked.now) c.args.k _ _ c.node_at.ensures (sym c.is_used.ensures ∙ c.if-is_used.true) (c.requires.depths.each c.args.k n.within)

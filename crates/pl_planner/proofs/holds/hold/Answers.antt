use Rattle.std.proofs.Common.{◌≡◌, ◌++◌, ◌∙◌, ap, sym, subst, length, take, drop}
use Rattle.std.proofs.Math.Seq.{take-append_seam}
use Rattle.pl_terms.specs.Nodes.{graph_of}
use Rattle.pl_planner.specs.Uses.{AreUses}
use Rattle.pl_planner.proofs.holds.hold.Goals as goal

pub returns : goal.returns
returns c = λ outputs are.
    let new = c.hold_borders.new.uses in
    let rest = drop (length new) c.args.uses.now.items in
    let long : c.args.uses.now.len ≡ length new = sym c.deref_mut.ensures.len ∙ sym c.hold_borders.auto.uses in
    let back = ap (λ n. take n (new ++ rest)) long ∙ take-append_seam new rest in
    rw back (c.hold_borders.ensures outputs (subst (AreUses (graph_of c.args.graph.now) outputs) (sym c.deref_mut.ensures.value) are))

use Rattle.std.proofs.Common.{◌≡◌, Some, slice_get, ◌∙◌, sym, ap}
use Rattle.pl_terms.specs.declared.node.Input.TheVariants as input
use Rattle.pl_world.proofs.Evaluated.{section-term}
use Rattle.pl_world.proofs.parts.section_input.Goals as goal

pub unreachable-requires : goal.unreachable-requires
unreachable-requires c =
    let n = c.node.result.now in
    let is : slice_get c.args.checked.now.graph c.args.t.0 ≡ Some n = ap (λ ns. slice_get ns c.args.t.0) (sym c.graph.ensures.value) ∙ c.node.ensures in
    let u = section-term c.args.checked.now c.graph.ensures.checked c.args.t.0 n is (c.requires.kind n is) in
    let no : Some c.in-Some-Column.field-0 ≡ Some (input.Term u.0) = sym c.in-Some-Column.is ∙ c.input_at.ensures ∙ u.1 in
    let column : c.in-Some-Column.field-0 ≡ input.Column c.in-Some-Column.field-0-0 = c.in-Some-Column.field-0-is in
    absurd (cc)

pub unreachable-requires-in-None : goal.unreachable-requires-in-None
unreachable-requires-in-None c =
    let n = c.node.result.now in
    let is : slice_get c.args.checked.now.graph c.args.t.0 ≡ Some n = ap (λ ns. slice_get ns c.args.t.0) (sym c.graph.ensures.value) ∙ c.node.ensures in
    let u = section-term c.args.checked.now c.graph.ensures.checked c.args.t.0 n is (c.requires.kind n is) in
    let no = sym c.in-None.is ∙ c.input_at.ensures ∙ u.1 in
    absurd (cc)

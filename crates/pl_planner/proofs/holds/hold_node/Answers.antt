use Rattle.std.proofs.Common.{◌∙◌, ap, sym, List, ℕ, filter, filter_map, get_or, map, option_map, option_to_list, false}
use Rattle.std.proofs.lemmas.List.Sums.{fold-append}
use Rattle.pl_pipeline.specs.Graph.{input_number}
use Rattle.pl_terms.specs.Nodes.{node_of, input_of, number_of}
use Rattle.pl_planner.specs.Holds.{held, all_held}
use Rattle.pl_planner.proofs.holds.hold_node.Goals as goal

pub returns : goal.returns
unfolding node_of
returns c =
    let n = c.args.node.now in
    let inputs : List ℕ = filter (λ u. get_or c.args.steady.now u false) (filter_map input_number (map input_of n.inputs)) in
    let mask : List ℕ = option_to_list (option_map number_of n.mask) in
    c.hold_mask.ensures ∙ ap (λ us. all_held us c.args.by mask) (c.hold_inputs.ensures ∙ ap (λ is. all_held c.args.uses.now c.args.by (filter (λ u. get_or c.args.steady.now u false) (filter_map input_number (map input_of is)))) c.as_slice.ensures.value)
    ∙ sym (fold-append (held c.args.by) c.args.uses.now inputs mask)

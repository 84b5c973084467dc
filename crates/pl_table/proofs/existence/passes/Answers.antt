use Rattle.std.proofs.Common.{rules, ◌∙◌, ap, sym, FitsSigned, w64}
use Rattle.pl_terms.specs.Nodes.{number_of}
use Rattle.pl_table.specs.Outcomes.{pipeline_in, sids_in, world_in}
use Rattle.std.specs.Prelude.{option_map}
use Rattle.pl_table.proofs.Lengths.{one-is}
use Rattle.pl_table.proofs.Sorted.{passes-is}
use Rattle.pl_table.proofs.existence.passes.Goals as goal

pub returns-in-Some : goal.returns-in-Some
returns-in-Some c =
    let o = c.args.outcome.now in
    let fits : FitsSigned w64 c.cell_at.result = search rules in
    let screen = ap (option_map number_of) (sym c.screen.ensures ∙ c.in-Some.is) in
    one-is c.cell_at.result fits
    ∙ passes-is (world_in o) (pipeline_in o) c.requires.outcome.asked.checked c.requires.outcome.asked.texts (sids_in o) c.in-Some.term.0 c.args.place c.args.session c.cell_at.result screen c.cell_at.ensures.value

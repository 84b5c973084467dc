use Rattle.std.proofs.Common.{◌≡◌, ◌∙◌, ap, map, sym, length, arith}
use Rattle.pl_terms.specs.Checked.{columns_of}
use Rattle.pl_planner.proofs.Marks.{screen-within, long-marked}
use Rattle.pl_planner.proofs.uses.mark_outputs.Goals as goal

pub mark-requires : goal.mark-requires
mark-requires c =
    let l = screen-within c.args.checked.now c.requires.checked c.in-Some.screen (sym c.screen.ensures ∙ c.in-Some.is) in
    let s : length c.mark_columns.new.uses ≡ length c.args.uses.now = ap length c.mark_columns.ensures ∙ long-marked c.args.uses.now c.args.terms (map (λ x. x.term) (columns_of c.args.checked.now.columns)) in
    let r = c.requires.long in
    record { within = omega arith }

use Rattle.std.proofs.Common.{◌∙◌, sym, map, option_map, option_to_list}
use Rattle.pl_terms.specs.Checked.{columns_of, pipeline_of}
use Rattle.pl_terms.specs.Nodes.{number_of}
use Rattle.pl_daily.specs.Ready.{has_first}
use Rattle.pl_daily.proofs.Firsts.{ready-is, both-ready, first-unready}
use Rattle.pl_daily.proofs.reaches.is_ready.Goals as goal

pub returns-then-columns_have_first : goal.returns-then-columns_have_first
returns-then-columns_have_first c earlier day rise firsts =
    c.screen_has_first.ensures
    ∙ sym (both-ready (has_first c.args.since.now) (map (λ c. c.term) (columns_of c.args.checked.now.columns)) (option_to_list (option_map number_of c.args.checked.now.screen)) (sym c.columns_have_first.ensures ∙ c.if-columns_have_first.true))
    ∙ ready-is (pipeline_of c.args.checked.now) c.requires c.args.since.now earlier day rise firsts

pub returns-else-columns_have_first : goal.returns-else-columns_have_first
returns-else-columns_have_first c earlier day rise firsts =
    c.if-columns_have_first.false
    ∙ sym (first-unready (has_first c.args.since.now) (map (λ c. c.term) (columns_of c.args.checked.now.columns)) (option_to_list (option_map number_of c.args.checked.now.screen)) (sym c.columns_have_first.ensures ∙ c.if-columns_have_first.false))
    ∙ ready-is (pipeline_of c.args.checked.now) c.requires c.args.since.now earlier day rise firsts

use Rattle.std.proofs.Common.{ℤ, pos, List, length, get_or, slice_index_or, ◌+◌, ◌∙◌, ap, sym}
use Rattle.std.proofs.lemmas.List.{get_or-replicate}
use Rattle.pl_spec.specs.Rounding.{MISSING}
use Rattle.pl_numbers.specs.Numbers.{number_on}
use Rattle.pl_numbers.proofs.NumberNames.{name-behind, no-name}
use Rattle.pl_numbers.proofs.Numbers.fill_under.Goals as goal

pub returns-in-Some-clause-values : goal.returns-in-Some-clause-values
returns-in-Some-clause-values c k h =
    c.fill.ensures.values k h
    ∙ ap (λ m. number_on c.args.figure c.args.self.now.rows m c.args.col (slice_index_or c.args.sessions.now (c.args.first + k) (pos 0)))
    (name-behind c.args.name.now c.args.self.now.names c.in-Some.number (sym c.name_of.ensures.exact ∙ c.in-Some.is))

pub returns-in-None-clause-values : goal.returns-in-None-clause-values
returns-in-None-clause-values c k h =
    ap (λ (l : List ℤ). get_or l k (pos 0)) (c.fill-in-None.ensures.after (λ y same. same))
    ∙ get_or-replicate (length c.args.into.now) k MISSING (pos 0) h
    ∙ no-name c.args.name.now c.args.self.now.names c.args.self.now.rows c.len-rows.ensures.numbers.named (sym c.name_of.ensures.exact ∙ c.in-None.is) c.args.figure c.args.col
    (slice_index_or c.args.sessions.now (c.args.first + k) (pos 0))

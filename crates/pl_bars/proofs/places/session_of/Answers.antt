use Rattle.std.proofs.Common.{rules, ◌≡◌, ap, sym, ◌∙◌, Some, arith, FitsSigned, w32, to_z}
use Rattle.std.proofs.lemmas.Int.{to_z-of_z}
use Rattle.pl_bars.proofs.FirstPlaces.{day_first}
use Rattle.pl_bars.proofs.places.session_of.Goals as goal

pub returns-then-day-clause-exact : goal.returns-then-day-clause-exact
returns-then-day-clause-exact c =
    let fd : FitsSigned w32 c.args.fields.now.day = search rules in
    let fr : FitsSigned w32 c.day.result = search rules in
    let same : c.day.result ≡ c.args.fields.now.day = sym (to_z-of_z w32 _ fr) ∙ ap (to_z w32) c.if-day.true ∙ to_z-of_z w32 _ fd in
    sym (day_first c.args.sessions.now c.args.fields.now.day _ c.len.ensures.days.ascend (omega (arith, c.if-next-len.true, c.len.ensures.length)) (c.day.ensures.exact ∙ ap Some same))

pub returns-then-day-2-clause-exact : goal.returns-then-day-2-clause-exact
returns-then-day-2-clause-exact c =
    let fd : FitsSigned w32 c.args.fields.now.day = search rules in
    let fr : FitsSigned w32 c.day-then-same-len.result = search rules in
    let same : c.day-then-same-len.result ≡ c.args.fields.now.day = sym (to_z-of_z w32 _ fr) ∙ ap (to_z w32) c.if-day-2.true ∙ to_z-of_z w32 _ fd in
    sym (day_first c.args.sessions.now c.args.fields.now.day _ c.len.ensures.days.ascend (omega (arith, c.if-same-len.true, c.len-in-len1-up.ensures.length)) (c.day-then-same-len.ensures.exact ∙ ap Some same))

pub returns-clause-exact : goal.returns-clause-exact
returns-clause-exact c =
    let fits : FitsSigned w32 c.args.fields.now.day = search rules in
    simp to_z-of_z at c.index_of.ensures.exact

use Rattle.std.proofs.Common.{rules, ◌≡◌, filter, ap, subst, ◌∙◌, sym, FitsSigned, w32, option_map, slice_get}
use Rattle.std.proofs.lemmas.Int.{to_z-of_z}
use Rattle.pl_spec.specs.World.{Event}
use Rattle.pl_spec.specs.Window.{is_between}
use Rattle.pl_adjarray.specs.Buffered.{Buffered}
use Rattle.pl_adjarray.specs.Inside.{buffered_of}
use Rattle.pl_adjarray.specs.Stillness.{effective_within}
use Rattle.pl_adjarray.proofs.ColumnWorlds.{own_events}
use Rattle.pl_adjarray.proofs.Stretches.{by_days, first_day}
use Rattle.pl_adjarray.proofs.stillness.first_change.Goals as goal

pub returns : goal.returns
returns c =
    let b = buffered_of c.array.inside in
    let today : FitsSigned w32 c.day-today.result = search rules in
    let last : FitsSigned w32 c.day-last.result = search rules in
    let between = simp to_z-of_z at c.events_between-events.ensures.events in
    let listed = between ∙ sym (ap (filter (is_between c.day-today.result c.day-last.result)) (own_events b.days b.bars b.adjustments c.args.col)) in
    let first = first_day _ c.events_between-events.result.now c.first.result listed c.first.ensures.value in
    let found = by_days b c.args.session c.args.most c.args.col _ _ c.day_of.result c.day-today.ensures.exact c.day-last.ensures.exact (c.day_of.ensures ∙ first) in
    subst (λ (x : Buffered). c.day_of.result ≡ option_map (λ (e : Event). e.day) (slice_get (effective_within x c.args.session c.args.most c.args.col) 0)) c.array.view_is found

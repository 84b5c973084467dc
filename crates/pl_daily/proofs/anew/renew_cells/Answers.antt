use Rattle.std.proofs.Common.{◌≡◌, ◌<◌, ◌-◌, ◌∙◌, ap, sym, rules, arith, length, length-set, FitsSigned, w64}
use Rattle.std.proofs.lemmas.Int.{to_z-of_z}
use Rattle.std.proofs.lemmas.List.Elements.{All-set}
use Rattle.pl_spec.specs.Rounding.{IsCell}
use Rattle.pl_daily.specs.TermDays.{earlier_cell}
use Rattle.pl_daily.proofs.Cells.{begun_more}
use Rattle.pl_daily.proofs.Renewed.{all_renewed, next_renewed}
use Rattle.pl_daily.proofs.anew.renew_cells.Goals as goal

pub seen_back-requires-clause-held : goal.seen_back-requires-clause-held
seen_back-requires-clause-held c = (
  c.requires.held.0,
  c.requires.held.1,
  c.requires.held.2 (c.saturating_sub-newest.result - c.loop-place.place) (omega (arith, c.loop-place-test.true, c.saturating_sub-newest.ensures)),
)

pub loop-place-preserved : goal.loop-place-preserved
loop-place-preserved c =
    let t = c.args.term_day.now in
    let place = c.loop-place.place in
    let size = length c.args.cells.now in
    let l = c.loop-place.invariant in
    let fits : FitsSigned w64 c.seen_back.result = search rules in
    let value = c.seen_back.ensures.value in
    let inside : place < size = omega (arith, c.loop-place-test.true, c.saturating_sub-newest.ensures) in
    let after : c.saturating_sub-newest.result - place ≡ size - 1 - place = omega (arith, c.saturating_sub-newest.ensures) in
    let low : place < size - 1 = omega (arith, c.loop-place-test.true, c.saturating_sub-newest.ensures) in
    rw (to_z-of_z w64 _ fits)
    (record {
      begun = λ v is held.
          begun_more _ place c.args.cells.now c.loop-place.cells c.seen_back.result (l.begun v is held) inside
          (value v is (held (c.saturating_sub-newest.result - place) (omega (arith, c.loop-place-test.true, c.saturating_sub-newest.ensures)))
          ∙ ap (earlier_cell t v t.term.0 c.args.i) after
          ∙ next_renewed t v c.args.i size place low);
      long = length-set c.loop-place.cells place c.seen_back.result ∙ l.long;
      cells = All-set IsCell c.loop-place.cells place c.seen_back.result c.seen_back.ensures.cell l.cells;
      first = c.seen_back.ensures.first ∙ l.first;
      second = c.seen_back.ensures.second ∙ l.second;
      third = c.seen_back.ensures.third ∙ l.third;
    })

pub returns-clause-renewed : goal.returns-clause-renewed
returns-clause-renewed c =
    let t = c.args.term_day.now in
    let last : c.loop-place.place ≡ length c.args.cells.now - 1 = omega (arith, c.loop-place-test.false, c.loop-place.auto.place-end, c.saturating_sub-newest.ensures) in
    let l = c.loop-place.invariant in
    all_renewed t c.args.fed c.args.i c.args.cells.now c.loop-place.cells l.long (λ v is held. rw (sym last) (l.begun v is held))

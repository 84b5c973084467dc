use Rattle.std.proofs.Common.{rules, ◌-◌, ◌++◌, ◌∷◌, [], ◌∙◌, ap, map, sym, arith, List}
use Rattle.std.specs.List.{range_with_len}
use Rattle.std.proofs.lemmas.List.FromFn.{map-range_with_len_more}
use Rattle.pl_daily.specs.declared.day.DayBar.{DayBar}
use Rattle.pl_runner.specs.Days.{bar_at}
use Rattle.pl_runner.proofs.news.fill_bars.Goals as goal

pub loop-col-preserved : goal.loop-col-preserved
loop-col-preserved c =
    let f = bar_at c.args.world.now.bars.now (c.args.session - 1) in
    let items = rw c.unwrap.ensures at c.push.ensures.items in
    let long = rw c.unwrap.ensures at c.push.ensures.len in
    record {
      bars = items
          ∙ ap (λ (l : List DayBar). l ++ c.bar_at-bar.result ∷ []) c.loop-col.invariant.bars
          ∙ ap (λ (b : DayBar). map f (range_with_len 0 c.loop-col.col) ++ b ∷ []) c.bar_at-bar.ensures
          ∙ sym (map-range_with_len_more f 0 c.loop-col.col c.loop-col.col (omega arith));
      places = search rules;
      few = omega (arith, long, c.loop-col.invariant.few);
      room = omega (arith, c.push.ensures.capacity, c.loop-col.invariant.room);
    }

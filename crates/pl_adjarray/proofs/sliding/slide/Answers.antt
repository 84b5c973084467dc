use Rattle.std.proofs.Common.{◌+◌, ◌∙◌, ap, drop}
use Rattle.pl_spec.specs.Window.{after_all}
use Rattle.pl_adjust.specs.Events.{effects_of}
use Rattle.pl_adjust.proofs.Folds.{put_at, seen_more, count_more}
use Rattle.pl_adjarray.specs.Buffered.{cell_at}
use Rattle.pl_adjarray.proofs.Changes.{cost_more, tally_more}
use Rattle.pl_adjarray.proofs.sliding.slide.Goals as goal

pub loop-event-preserved : goal.loop-event-preserved
loop-event-preserved g c =
    let column = c.args.column in
    let events = c.args.events.now in
    let i = c.loop-event.event-index in
    let event = c.event-item.result in
    let so_far = c.loop-event.invariant in
    record {
      moved = λ bar j h day. ap (λ v. after_all v (effects_of column bar (drop (i + 1) events))) (c.change.ensures.moved bar j h day)
          ∙ seen_more column bar (cell_at c.loop-event.cells (c.args.part.at + j)) events i event c.loop-event-test.true c.event-item.is
          ∙ so_far.moved bar j h day;
      before = λ k h. c.change.ensures.before k h ∙ so_far.before k h;
      behind = λ k h. c.change.ensures.behind k h ∙ so_far.behind k h;
      cells = c.change.ensures.cells;
      cost = λ bar. cost_more _ _ c.args.part.count _ _ _ _ (c.change.ensures.cost bar) (count_more column bar events i event c.loop-event-test.true c.event-item.is) (so_far.cost bar);
      tally = λ bar. tally_more c.loop-event.applied c.change.new.applied c.args.part.count _ _ _ _ (c.change.ensures.tally bar) (count_more column bar events i event c.loop-event-test.true c.event-item.is) (so_far.tally bar);
    }

pub change-requires-clause-puts : goal.change-requires-clause-puts
change-requires-clause-puts g c = put_at c.args.events.now c.loop-event.event-index c.event-item.result c.requires.puts c.loop-event-test.true c.event-item.is

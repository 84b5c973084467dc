use Rattle.std.proofs.Common.{◌<◌, ◌∙◌, length, get_or, sym, ap, arith}
use Rattle.std.proofs.lemmas.Option.{slice_get-get_or}
use Rattle.pl_daily.specs.declared.starts.StartCells.{StartCells}
use Rattle.pl_daily.specs.Terms.{assets_at, pipeline_at}
use Rattle.pl_daily.proofs.Followed.{all_done, comes_to, none_more, one_more, starts_more}
use Rattle.pl_daily.proofs.terms.advance_terms.Goals as goal
use Rattle.pl_daily.proofs.terms.advance_terms.Goals.{then-is_used, else-is_used}
use Rattle.pl_terms.proofs.Graphs.{graph-long}

pub bounds-starts-k : goal.bounds-starts-k
bounds-starts-k c =
    let many = c.len-k-end.ensures.value ∙ ap length c.graph-graph.ensures.value ∙ sym (graph-long c.args.lent.now.checked.now.graph) in
    omega (arith, c.loop-k-test.true, many, c.loop-k.invariant.starts.many)

pub advance_term-requires-clause-placed : goal.advance_term-requires-clause-placed
advance_term-requires-clause-placed c =
    let many = c.len-k-end.ensures.value ∙ ap length c.graph-graph.ensures.value ∙ sym (graph-long c.args.lent.now.checked.now.graph) in
    let starts = c.loop-k.starts in
    let k = c.loop-k.k in
    let inside : k < length starts = omega (arith, c.loop-k-test.true, many, c.loop-k.invariant.starts.many) in
    let s : StartCells = get_or starts k c.index-starts-k.result in
    let is = slice_get-get_or starts k c.index-starts-k.result inside in
    let next = c.requires.placed.0 in
    let days = c.requires.placed.1 in
    (next, days, comes_to c.args.lent.now c.args.terms.now c.args.starts.now c.loop-k.terms starts k s next days c.loop-k.invariant.follow is c.requires.placed.2)

pub advance_term-requires-clause-start : goal.advance_term-requires-clause-start
advance_term-requires-clause-start c =
    let many = c.len-k-end.ensures.value ∙ ap length c.graph-graph.ensures.value ∙ sym (graph-long c.args.lent.now.checked.now.graph) in
    let starts = c.loop-k.starts in
    let k = c.loop-k.k in
    let inside : k < length starts = omega (arith, c.loop-k-test.true, many, c.loop-k.invariant.starts.many) in
    c.loop-k.invariant.starts.full k (get_or starts k c.index-starts-k.result) (slice_get-get_or starts k c.index-starts-k.result inside)

pub loop-k-preserved : goal.loop-k-preserved
loop-k-preserved c =
    let l = c.args.lent.now in
    let i = c.loop-k.invariant in
    let many = c.len-k-end.ensures.value ∙ ap length c.graph-graph.ensures.value ∙ sym (graph-long c.args.lent.now.checked.now.graph) in
    let starts = c.loop-k.starts in
    let k = c.loop-k.k in
    let inside : k < length starts = omega (arith, c.loop-k-test.true, many, i.starts.many) in
    elim c.if-is_used.branch [
      | then-is_used w ↦
          let s : StartCells = get_or starts k w.index-starts-k.result in
          let is = slice_get-get_or starts k w.index-starts-k.result inside in
          let e = w.advance_term.ensures in
          let new = w.advance_term.new in
          rw (w.terms-is, w.starts-is, w.room-is) (record {
            follow = one_more l c.args.terms.now c.args.starts.now c.loop-k.terms new.terms starts k s new.start i.follow is inside e.follow;
            terms = e.terms;
            starts = starts_more (assets_at l) (pipeline_at l) starts k new.start i.starts inside e.start;
            rooms = e.rooms ∙ i.rooms;
            room = e.room;
          })
      | else-is_used w ↦
          rw (w.terms-is, w.starts-is, w.room-is) (record {
            follow = none_more l c.args.terms.now c.args.starts.now c.loop-k.terms starts k i.follow (sym c.is_used.ensures ∙ w.if-is_used.false);
            terms = i.terms;
            starts = i.starts;
            rooms = i.rooms;
            room = i.room;
          })
    ]

pub returns-clause-follow : goal.returns-clause-follow
returns-clause-follow c =
    let i = c.loop-k.invariant in
    let many = c.len-k-end.ensures.value ∙ ap length c.graph-graph.ensures.value ∙ sym (graph-long c.args.lent.now.checked.now.graph) in
    all_done c.args.lent.now c.args.terms.now c.args.starts.now c.loop-k.terms c.loop-k.starts c.loop-k.k i.follow (omega (arith, c.loop-k-test.false, many, i.terms.many)) (omega (arith, c.loop-k-test.false, many, i.starts.many))

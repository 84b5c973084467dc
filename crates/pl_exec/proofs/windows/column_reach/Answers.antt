use Rattle.std.proofs.Common.{◌≡◌, ℕ, ◌<◌, ◌≤◌, ◌+◌, sym, subst, length, take, drop}
use Rattle.pl_adjarray.specs.Stillness.{IsStill}
use Rattle.pl_adjarray.specs.Traversals.{Traversal}
use Rattle.pl_adjarray.specs.Worlds.{IsWindow}
use Rattle.pl_exec.specs.ChunkInputs.{AreStill, AreStillNow, HasBars, HasBarsAt, IsColumnAt, bars_now, node_at, one_col}
use Rattle.pl_exec.proofs.Bars.{column_begun, column_one, column_reached, column_still}
use Rattle.pl_exec.proofs.windows.column_reach.Goals as goal

pub reach-requires-clause-begun : goal.reach-requires-clause-begun
reach-requires-clause-begun c =
    let has : HasBarsAt c.args.term_session.now.chunk.now c.args.term_session.now.term.0 (node_at c.args.term_session.now) (one_col c.args.term_session.now.chunk.now c.args.i) c.args.term_session.now.session c.in-Some.bars.now
    = subst (λ o. HasBars c.args.term_session.now.chunk.now c.args.term_session.now.term.0 (node_at c.args.term_session.now) (one_col c.args.term_session.now.chunk.now c.args.i) c.args.term_session.now.session (bars_now o)) c.in-Some.is c.requires.bars in
    let l : IsColumnAt c.args.term_session.now c.args.q = c.requires.lent in
    subst (λ (v : Traversal). v.array.first + v.window ≤ v.session) (sym c.windows_in.ensures)
    (column_begun c.args.term_session.now c.requires.term_session c.args.i c.requires.asset c.in-Some.bars.now has l.1.0 l.0 l.1.1.0 c.args.q l.1.1.1)

pub reach-requires-clause-asset : goal.reach-requires-clause-asset
reach-requires-clause-asset c =
    let has : HasBarsAt c.args.term_session.now.chunk.now c.args.term_session.now.term.0 (node_at c.args.term_session.now) (one_col c.args.term_session.now.chunk.now c.args.i) c.args.term_session.now.session c.in-Some.bars.now
    = subst (λ o. HasBars c.args.term_session.now.chunk.now c.args.term_session.now.term.0 (node_at c.args.term_session.now) (one_col c.args.term_session.now.chunk.now c.args.i) c.args.term_session.now.session (bars_now o)) c.in-Some.is c.requires.bars in
    let l : IsColumnAt c.args.term_session.now c.args.q = c.requires.lent in
    subst (λ (v : Traversal). 0 < length v.array.cols) (sym c.windows_in.ensures)
    (column_one c.args.term_session.now c.requires.term_session c.args.i c.requires.asset c.in-Some.bars.now has l.1.0 l.0 l.1.1.0 c.args.q l.1.1.1)

pub reach-requires-clause-still : goal.reach-requires-clause-still
reach-requires-clause-still c =
    let still : AreStill c.in-Some.bars.now c.args.more = subst (λ o. AreStillNow (bars_now o) c.args.more) c.in-Some.is c.requires.still in
    subst (λ (v : Traversal). IsStill v.array v.session c.args.more) (sym c.windows_in.ensures) (column_still c.in-Some.bars.now c.args.more still c.args.q)

pub returns-clause-value : goal.returns-clause-value
returns-clause-value c p column input among =
    let has : HasBarsAt c.args.term_session.now.chunk.now c.args.term_session.now.term.0 (node_at c.args.term_session.now) (one_col c.args.term_session.now.chunk.now c.args.i) c.args.term_session.now.session c.in-Some.bars.now
    = subst (λ o. HasBars c.args.term_session.now.chunk.now c.args.term_session.now.term.0 (node_at c.args.term_session.now) (one_col c.args.term_session.now.chunk.now c.args.i) c.args.term_session.now.session (bars_now o)) c.in-Some.is c.requires.bars in
    column_reached c.args.term_session.now c.requires.term_session c.args.i c.requires.asset c.in-Some.bars.now has column p input c.args.q among c.args.more c.reach.result.now
    (subst (λ (v : Traversal). (m : ℕ) → m ≤ c.args.more → IsWindow v.array v.window 0 (v.session + m) (take v.window (drop m c.reach.result.now))) c.windows_in.ensures c.reach.ensures.windows)
    (subst (λ (v : Traversal). length c.reach.result.now ≡ v.window + c.args.more) c.windows_in.ensures c.reach.ensures.long)

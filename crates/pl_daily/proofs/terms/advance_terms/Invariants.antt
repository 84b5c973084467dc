use Rattle.std.proofs.Common.{◌≡◌, length}
use Rattle.pl_daily.specs.Room.{IsRoom}
use Rattle.pl_daily.specs.Terms.{AreStarts, AreTerms, FollowBelow, assets_at, pipeline_at, rooms}
use Rattle.pl_daily.proofs.terms.advance_terms.Given as goal

abbrev pub invariant-loop-k : goal.invariant-loop-k
invariant-loop-k l = record {
  follow : FollowBelow l.lent l.fn.terms l.fn.starts l.k l.terms l.starts;
  terms : AreTerms (assets_at l.lent) (pipeline_at l.lent) l.lent.bars.now l.terms;
  starts : AreStarts (assets_at l.lent) (pipeline_at l.lent) l.starts;
  rooms : rooms l.terms ≡ rooms l.fn.terms;
  room : IsRoom (assets_at l.lent) (length (pipeline_at l.lent).graph) l.room;
}

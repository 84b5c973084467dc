use Rattle.std.proofs.Common.{◌+◌, ◌*◌, map, take}
use Rattle.pl_derivation.specs.Walks.{depth_of}
use Rattle.pl_explain.specs.Keys.{fact_of}
use Rattle.pl_explain.specs.Walking.{HoldsSoFar, Finishes}
use Rattle.pl_explain.proofs.walk.+walk.Given as goal

abbrev pub decreases-finish : goal.decreases-finish
decreases-finish g l = 8 * depth_of (fact_of l.fact) + 6

abbrev pub decreases-finish_value : goal.decreases-finish_value
decreases-finish_value g l = 8 * (l.term + 2) + 4

abbrev pub decreases-finish_premises : goal.decreases-finish_premises
decreases-finish_premises g l = 8 * (l.t.0 + 2) + 2

abbrev pub decreases-finish_kind : goal.decreases-finish_kind
decreases-finish_kind g l = 8 * (l.t.0 + 2) + 1

abbrev pub decreases-finish_all : goal.decreases-finish_all
decreases-finish_all g l = 8 * (l.t.0 + 1) + 7

-- the facts that have been passed are finished
abbrev pub invariant-finish_all-loop-fact : goal.invariant-finish_all-loop-fact
invariant-finish_all-loop-fact g l = record {
  stands : HoldsSoFar l.source.world l.source.checked.now l.walk;
  finished : Finishes l.source.world l.source.checked.now (l.fn.t.0 + 1) l.fn.walk l.walk (map fact_of (take l.fact-index l.facts));
}

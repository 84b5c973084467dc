use Rattle.pl_terms.proofs.sorting.+sorting_kind.Given as goal

abbrev pub decreases-sorting_kind : goal.decreases-sorting_kind
decreases-sorting_kind l = l.t.0

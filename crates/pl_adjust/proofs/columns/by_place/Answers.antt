use Rattle.std.proofs.Common.{rules}
use Rattle.std.proofs.lemmas.List.Sorted.{answers_always}
use Rattle.pl_adjust.proofs.RowOrder.{by_place, place_of}
use Rattle.pl_adjust.proofs.columns.by_place.Goals as goal

pub returns : goal.returns
returns c =
    by_place c.args.rows.items c.sort_by_key.new.self.items c.in_ok-sort_by_key.ensures.permutation
    (c.in_ok-sort_by_key.ensures.sorted place_of (answers_always _ _ _ (λ f a r g h. search rules)))
    (c.in_ok-sort_by_key.ensures.stable place_of (answers_always _ _ _ (λ f a r g h. search rules)))

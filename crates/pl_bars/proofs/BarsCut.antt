-- Bars of earlier sessions stand as bars do.
use Rattle.std.proofs.Common.{ℕ, nat_lt, IsTrue, List, All, arith}
use Rattle.std.proofs.lemmas.List.Elements.{All-filter}
use Rattle.std.proofs.lemmas.List.Kept.{AllPairs-filter}
use Rattle.std.proofs.lemmas.List.Sums.{length-filter, count_by-le-length}
use Rattle.pl_spec.specs.AsOf.{bars_before}
use Rattle.pl_spec.specs.declared.BarRow.{BarRow}
use Rattle.pl_bars.specs.Bars.{AreBars, is_bar_cell, is_before}

pub are_bars-before : (sessions : ℕ) (rows : List BarRow) → AreBars rows → AreBars (bars_before sessions rows)
are_bars-before sessions rows h = record {
  ascend = AllPairs-filter (λ a b. IsTrue (is_before b.col b.session a)) (λ b. nat_lt b.session sessions) rows h.ascend;
  few = (let few = h.few in omega (arith, length-filter (λ (b : BarRow). nat_lt b.session sessions) rows, count_by-le-length (λ (b : BarRow). nat_lt b.session sessions) rows));
  cells = All-filter (λ b. nat_lt b.session sessions) (λ b. All (λ v. IsTrue (is_bar_cell v)) b.cells) rows h.cells;
}

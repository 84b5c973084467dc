use Rattle.std.proofs.Common.{◌≡◌, ◌≤◌, length, vec_len, vec_capacity}
use Rattle.std.specs.Prelude.{filter}
use Rattle.std.specs.List.{range_with_len}
use Rattle.pl_cross.specs.Listing.{labels_in}
use Rattle.pl_daily.specs.Rows.{is_kept_by}
use Rattle.pl_daily.proofs.kept.put_kept.Given as goal

abbrev pub invariant-loop-col : goal.invariant-loop-col
invariant-loop-col l =
    record {
      kept : l.kept.items ≡ filter (is_kept_by l.assets l.fn.day (labels_in l.screen)) (range_with_len 0 l.col);
      few : vec_len l.kept ≤ l.col;
      room : length l.assets ≤ vec_capacity l.kept;
    }

-- The tables of two pieces of a range, one after the other, are the table of the range.
use Rattle.std.proofs.Common.{◌≡◌, ℕ, suc, ◌+◌, ◌-◌, ◌≤◌, pos, ◌++◌, arith}
use Rattle.std.proofs.lemmas.Grind.{flat_map-append}
use Rattle.std.specs.List.{range_with_len}
use Rattle.pl_spec.specs.World.{World}
use Rattle.pl_pipeline.specs.Table.{Pipeline, session_rows, table}
use Rattle.pl_spec.proofs.Ranges.{range-split}

pub table-split : (w : World) (p : Pipeline) (from mid to : ℕ) → from ≤ suc mid → mid ≤ to → table w p from to ≡ table w p from mid ++ table w p (suc mid) to
table-split w p from mid to low high =
    let whole : suc to - from ≡ (suc mid - from) + (suc to - suc mid) = omega arith in
    let start : from + (suc mid - from) ≡ suc mid = omega arith in
    rw (whole, range-split from (suc mid - from) (suc to - suc mid), start)
    (flat_map-append (λ d. session_rows w p (pos d)) (range_with_len from (suc mid - from)) (range_with_len (suc mid) (suc to - suc mid)))

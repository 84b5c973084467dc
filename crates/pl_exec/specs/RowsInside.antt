-- The rows are of one length.
use Rattle.std.specs.Prelude.{◌≡◌, length}
use Rattle.pl_exec.specs.declared.rows.Rows.TheInside.{Inside}

pub record AreRows (r : Inside) : Type 0 where
  pub first : length r.first.items ≡ length r.keep.items
  pub second : length r.second.items ≡ length r.keep.items
  pub results : length r.results.items ≡ length r.keep.items

-- Adjustments by place, as the readers make them of tables and revisions.
use Rattle.std.proofs.Common.{◌≡◌, ℕ, ◌<◌, ◌==◌, ℤ, pos, List, [], ◌++◌, map, filter, length, get_or, All, AllPairs, sym, ◌∙◌, ap, arith}
use Rattle.std.proofs.lemmas.List.{map-append}
use Rattle.std.proofs.lemmas.List.Elements.{All-map}
use Rattle.pl_spec.specs.declared.AssetRow.{AssetRow}
use Rattle.pl_spec.specs.declared.BarRow.{BarRow}
use Rattle.pl_spec.specs.Order.{by_day}
use Rattle.pl_spec.specs.Parts.{ColumnAdjustment, ColumnLabel, ColumnNumber, world_of}
use Rattle.pl_spec.specs.World.{Adjustment, events_of}
use Rattle.pl_adjust.specs.declared.revisions.Revision.{Revision}
use Rattle.pl_adjust.specs.Columns.{AreByDay, by_place, in_column}
use Rattle.pl_adjust.specs.Revised.{revised, revised_by}
use Rattle.pl_adjust.proofs.ByPlace.{by_place-kept}
use Rattle.pl_adjust.proofs.Made.{place_known}
use Rattle.pl_adjust.proofs.RevisedColumns.{cols_with, days_with}
use Rattle.pl_adjust.proofs.Sids.{Known, by_sid, parts_events}

module _ (assets : List AssetRow) where
  -- the adjustments in the columns of their assets, by place
  abbrev pub placed : List Adjustment → List ColumnAdjustment
  placed zs = by_place (map (in_column assets) zs)

  pub placed-revised : (ts : List Adjustment) (rows : List Revision) → revised_by assets (placed ts) rows ≡ placed (ts ++ map revised rows)
  placed-revised ts rows =
      by_place-kept (map (in_column assets) ts) (map (in_column assets) (map revised rows))
      ∙ ap by_place (sym (map-append (in_column assets) ts (map revised rows)))

  pub placed-in : (zs : List Adjustment) → All (Known assets) zs → All (λ x. x.col < length assets) (placed zs)
  placed-in zs known =
      cols_with assets [] (map (in_column assets) zs)
      (All-map (λ (x : ColumnAdjustment). x.col < length assets) (in_column assets) zs (λ k d h. place_known (pos (get_or zs k d).sid) assets (known k d h)))
      (λ k d h. absurd (omega arith))

  pub placed-by_day : (zs : List Adjustment) → AreByDay (placed zs)
  placed-by_day zs = days_with (map (in_column assets) zs)

  pub placed-events : AllPairs (λ a b. a.sid < b.sid) assets → (zs : List Adjustment) → All (Known assets) zs
      → (days : List ℤ) (labels : List ColumnLabel) (texts : List (List ℕ)) (bars : List BarRow) (numbers : List ColumnNumber) (sid : ℕ)
      → events_of (world_of days assets labels texts bars (placed zs) numbers) sid ≡ map (λ x. x.event) (filter (λ x. x.sid == sid) (by_day zs))
  placed-events up zs known days labels texts bars numbers sid =
      parts_events days assets labels texts bars (placed zs) numbers up sid ∙ by_sid assets up zs known sid

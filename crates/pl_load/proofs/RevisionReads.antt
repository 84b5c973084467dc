-- The revisions of a file among adjustments.
use Rattle.std.proofs.Common.{◌≡◌, ℤ, List, Option, Some, None, IfSome, Result, Ok, Err, refl}
use Rattle.pl_records.specs.Reading.{Record, Fault, ◌>>=◌}
use Rattle.pl_spec.specs.declared.AssetRow.{AssetRow}
use Rattle.pl_spec.specs.Parts.{ColumnAdjustment}
use Rattle.pl_adjust.specs.Revised.{revised_by, revised_in}
use Rattle.pl_adjust.specs.declared.revisions.Revision.{Revision}
use Rattle.pl_adjust.specs.Revisions.{DataFault, revisions_of}

-- adjustments with the revisions of records are those of the file's reading
pub record AreAdded (assets : List AssetRow) (old new : List ColumnAdjustment) (reading : Result (List Revision) (Fault DataFault)) : Type 0 where
  pub rows : List Revision
  pub read : reading ≡ Ok rows
  pub added : revised_by assets old rows ≡ new

added : (assets : List AssetRow) (old new : List ColumnAdjustment) (reading : Result (List Revision) (Fault DataFault))
    → (reading >>= λ rows. Ok (revised_by assets old rows)) ≡ Ok new → AreAdded assets old new reading
added assets old new (Ok rows) e = record { rows = rows; read = refl; added = cc }
added assets old new (Err f) e = absurd (cc)

pub are-added : (days : List ℤ) (assets : List AssetRow) (old new : List ColumnAdjustment) (records : List Record)
    → revised_in days assets old records ≡ Ok new → AreAdded assets old new (revisions_of days assets records)
unfolding revised_in
are-added days assets old new records e = added assets old new (revisions_of days assets records) e

-- and their fault is its fault
refused : (assets : List AssetRow) (old : List ColumnAdjustment) (reading : Result (List Revision) (Fault DataFault)) (f : Fault DataFault)
    → (reading >>= λ rows. Ok (revised_by assets old rows)) ≡ Err f → reading ≡ Err f
refused assets old (Ok rows) f e = absurd (cc)
refused assets old (Err g) f e = let same : g ≡ f = cc in rw same refl

pub are-refused : (days : List ℤ) (assets : List AssetRow) (old : List ColumnAdjustment) (records : List Record) (o : Option (Fault DataFault))
    → IfSome o (λ f. revised_in days assets old records ≡ Err f) → IfSome o (λ f. revisions_of days assets records ≡ Err f)
unfolding revised_in
are-refused days assets old records None e = tt
are-refused days assets old records (Some f) e = refused assets old (revisions_of days assets records) f e

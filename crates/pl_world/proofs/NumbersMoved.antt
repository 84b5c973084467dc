-- Numbers whose records stand in another order show the same.
use Rattle.std.proofs.Common.{◌≡◌, ◌<◌, ℤ, List, [], ◌∷◌, length, map, All, AllPairs, IsPermutation, Result, Ok, Err, refl}
use Rattle.std.proofs.lemmas.List.Sorted.{Contains-permutation, IsPermutation-map, IsPermutation-sym}
use Rattle.pl_records.specs.Reading.{Record, Fault, ◌>>=◌}
use Rattle.pl_records.proofs.Sorts.{sorted-permutes}
use Rattle.pl_spec.specs.declared.AssetRow.{AssetRow}
use Rattle.pl_spec.specs.declared.BarRow.{BarRow}
use Rattle.pl_spec.specs.Numbers.{NumberRow, NumbersOnce}
use Rattle.pl_spec.specs.Parts as parts
use Rattle.pl_spec.specs.Parts.{ColumnAdjustment, ColumnNumber, number_of}
use Rattle.pl_spec.specs.Permuted.{AgreeInAll}
use Rattle.pl_spec.specs.World.{World, IsWorld}
use Rattle.pl_spec.proofs.Numbers.{numbers_look_back}
use Rattle.pl_assets.specs.Labels.{LabelTable}
use Rattle.pl_numbers.specs.Numbers.{DataFault, NumberTable, key_in, names_of, number_rows_in, numbers_of, table_of}
use Rattle.pl_numbers.proofs.NumbersMoved.{numbers-moved}
use Rattle.pl_numbers.proofs.NumbersRead as numbers_read
use Rattle.pl_adjust.specs.Columns.{AreByDay}
use Rattle.pl_world.specs.Laws.{ShowAlike}
use Rattle.pl_world.specs.Records.{AreMoved, NumbersInAnyOrder}
use Rattle.pl_world.proofs.Made.{AreParts, is_world, numbers-once}
use Rattle.pl_world.proofs.Moved.{AreParts-read, show-alike}

once-moved : (rows others : List NumberRow) → IsPermutation rows others → NumbersOnce rows → NumbersOnce others
once-moved rows others moved once r q first second =
    let back = IsPermutation-sym rows others moved in
    once r q (Contains-permutation others rows r back first) (Contains-permutation others rows q back second)

-- the numbers of a table that was read stand once each
pub table-once : (assets : List AssetRow) → AllPairs (λ a b. a.sid < b.sid) assets → (records : List Record) (table : NumberTable)
    → numbers_of assets records ≡ Ok table → NumbersOnce (map (number_of assets) table.rows)
unfolding numbers_of
table-once assets up records table e = here (number_rows_in assets records) refl e
  where
    here : (x : Result (List ColumnNumber) (Fault DataFault)) → number_rows_in assets records ≡ x → (x >>= λ rows. Ok (table_of rows)) ≡ Ok table → NumbersOnce (map (number_of assets) table.rows)
    here (Ok rows) was f =
        let same : table_of rows ≡ table = cc in
        let read = numbers_read.AreRead-read assets records rows was in
        let sorted = (table_of rows).rows in
        rw (← same)
        (once-moved (map (number_of assets) rows) (map (number_of assets) sorted)
        (IsPermutation-map (number_of assets) rows sorted (sorted-permutes (key_in (names_of rows)) rows)) (numbers-once assets rows up read.cols read.once))
    here (Err fault) was f = absurd (cc)

others-read : (assets : List AssetRow) (records others : List Record) → AreMoved records others → (table : NumberTable) → numbers_of assets records ≡ Ok table
    → (other : NumberTable) × (numbers_of assets others ≡ Ok other) × IsPermutation table.rows other.rows
others-read assets [] others m table e = (table, rw m e, record { moves = []; below = tt; is = refl })
others-read assets (r ∷ rs) [] m table e = absurd m
others-read assets (r ∷ rs) (q ∷ qs) m table e = rw m.0 at (numbers-moved assets r rs qs m.1 table e)

module _ (days : List ℤ) (assets : List AssetRow) (labels : LabelTable) (bars : List BarRow) (are : AreParts days assets labels.rows bars)
    (adjustments : List ColumnAdjustment) (adjustments_in : All (λ x. x.col < length assets) adjustments) (in_order : AreByDay adjustments) where
  abbrev whole : List ColumnNumber → World
  whole numbers = parts.world_of days assets labels.rows labels.texts bars adjustments numbers

  made : (numbers : List ColumnNumber) → IsWorld (whole numbers)
  made numbers = is_world days assets labels.rows labels.texts bars are adjustments adjustments_in in_order numbers

  agree : (numbers others : List ColumnNumber) → NumbersOnce (map (number_of assets) numbers) → IsPermutation numbers others → AgreeInAll (whole numbers) (whole others)
  agree numbers others once moved = record {
    days = refl;
    bars = λ a c s. refl;
    adjustments = λ a. refl;
    lifetimes = λ a s. refl;
    labels = λ name a s. refl;
    numbers = numbers_look_back.in_any_order (map (number_of assets) numbers) (map (number_of assets) others) once (IsPermutation-map (number_of assets) numbers others moved);
  }

  shown : (numbers others : List ColumnNumber) → NumbersOnce (map (number_of assets) numbers) → IsPermutation numbers others → ShowAlike (whole numbers) (whole others)
  shown numbers others once moved = show-alike (whole numbers) (whole others) (made numbers) (made others) (agree numbers others once moved)

pub numbers-in-any-order : NumbersInAnyOrder
numbers-in-any-order files days assets labels bars are records others m table e =
    let parts_are = AreParts-read files days assets labels bars are in
    let found = others-read assets records others m table e in (
      found.0,
      found.1,
      found.2,
      λ adjustments adjustments_in in_order. shown days assets labels bars parts_are adjustments adjustments_in in_order table.rows found.0.rows
          (table-once assets parts_are.sids_up records table e) found.2,
    )

-- One more row of a table.
use Rattle.std.proofs.Common.{◌≡◌, ℕ, suc, ◌+◌, ◌<◌, ◌≤◌, true, false, List, [], ◌∷◌, ◌++◌, map, length, drop, get_or, Option, Some, None, refl, sym, ◌∙◌, ap, arith, unsigned_abs, IfSome, IsErrAnd, Result, pos, append_assoc, add-zero, zero-add, length-append}
use Rattle.std.proofs.lemmas.List.{append-nil, at_drop_more, at_drop_all, map-append, length-map}
use Rattle.std.specs.Option.{option_or}
use Rattle.std.proofs.lemmas.Option.{IfSome_then}
use Rattle.std.proofs.lemmas.Result.{err_from_is_err_and}
use Rattle.pl_spec.specs.declared.AdjustmentKind.{AdjustmentKind}
use Rattle.pl_spec.specs.declared.AssetRow.{AssetRow}
use Rattle.pl_spec.specs.declared.RawAdjust.{RawAdjust}
use Rattle.pl_spec.specs.Order.{adjustment_in, is_of, of_table}
use Rattle.pl_spec.specs.Parts.{ColumnAdjustment}
use Rattle.pl_adjust.specs.declared.adjust.Adjust.{Adjust}
use Rattle.pl_adjust.specs.declared.columns.Row.{Row}
use Rattle.pl_outside.specs.declared.keeper.Table.{Table}
use Rattle.pl_outside.specs.declared.keeper.Table.TheVariants.{Splits, Mergers, Dividends}
use Rattle.pl_adjust.specs.declared.error.AdjustError.{AdjustError}
use Rattle.pl_adjust.specs.Events.{event_of}
use Rattle.pl_adjust.specs.Faults.{MeetsFault, fault_of}
use Rattle.pl_adjust.specs.Columns.{col_in, in_column}
use Rattle.pl_adjust.specs.Rows.{row_of}
use Rattle.pl_adjust.specs.Walk.{Fault, TableRow, fault_at, first_fault, in_table, walk}
use Rattle.pl_adjust.specs.Tables.{of_rows}

-- where a row is past the end
abbrev pub blank : RawAdjust
blank = record { id = pos 0; effective = pos 0; num = pos 0; den = pos 0; sid = pos 0 }

next_row : (before i : ℕ) → before + (i + 1) ≡ suc (before + i)
next_row before i = omega arith

pub fault_more : (before i : ℕ) (table : Table) (raw : List RawAdjust) (d : RawAdjust) → i < length raw → fault_at (before + i) (record { table = table; row = get_or raw i d }) ≡ None
    → first_fault (before + (i + 1)) (in_table table (drop (i + 1) raw)) ≡ first_fault (before + i) (in_table table (drop i raw))
unfolding first_fault
fault_more before i table raw d within none =
    ap (λ n. first_fault n (in_table table (drop (i + 1) raw))) (next_row before i)
    ∙ sym (at_drop_more (λ rows. first_fault (before + i) (in_table table rows)) raw i d within ∙ (rw none refl))

pub fault_stops : (before i : ℕ) (table : Table) (raw : List RawAdjust) (d : RawAdjust) (f : Fault) → i < length raw → fault_at (before + i) (record { table = table; row = get_or raw i d }) ≡ Some f
    → first_fault (before + i) (in_table table (drop i raw)) ≡ Some f
unfolding first_fault
fault_stops before i table raw d f within some =
    at_drop_more (λ rows. first_fault (before + i) (in_table table rows)) raw i d within ∙ (rw some refl)

pub fault_ends : (before i : ℕ) (table : Table) (raw : List RawAdjust) → length raw ≤ i → first_fault (before + i) (in_table table (drop i raw)) ≡ None
unfolding first_fault
fault_ends before i table raw past = at_drop_all (λ rows. first_fault (before + i) (in_table table rows)) raw i past

pub row_known : (assets : List AssetRow) (kind : AdjustmentKind) (raw : List RawAdjust) (i : ℕ) (d : RawAdjust) (rows : List Row) (x : Row) → i < length raw
    → is_of assets (get_or raw i d) ≡ true → row_of x ≡ in_column assets (adjustment_in kind (get_or raw i d))
    → map row_of (rows ++ x ∷ []) ++ map (in_column assets) (of_table assets kind (drop (i + 1) raw)) ≡ map row_of rows ++ map (in_column assets) (of_table assets kind (drop i raw))
row_known assets kind raw i d rows x within known is =
    ap (λ l. l ++ of_rows assets kind (drop (i + 1) raw)) (map-append row_of rows (x ∷ []))
    ∙ append_assoc (map row_of rows) (row_of x ∷ []) (of_rows assets kind (drop (i + 1) raw))
    ∙ ap (λ y. map row_of rows ++ (y ∷ of_rows assets kind (drop (i + 1) raw))) is
    ∙ sym (at_drop_more (λ l. map row_of rows ++ of_rows assets kind l) raw i d within ∙ (rw known refl))

pub row_unknown : (assets : List AssetRow) (kind : AdjustmentKind) (raw : List RawAdjust) (i : ℕ) (d : RawAdjust) (rows : List Row) → i < length raw → is_of assets (get_or raw i d) ≡ false
    → map row_of rows ++ map (in_column assets) (of_table assets kind (drop (i + 1) raw)) ≡ map row_of rows ++ map (in_column assets) (of_table assets kind (drop i raw))
row_unknown assets kind raw i d rows within other = sym (at_drop_more (λ l. map row_of rows ++ of_rows assets kind l) raw i d within ∙ (rw other refl))

pub rows_end : (assets : List AssetRow) (kind : AdjustmentKind) (raw : List RawAdjust) (i : ℕ) (rows all : List ColumnAdjustment) → length raw ≤ i
    → rows ++ map (in_column assets) (of_table assets kind (drop i raw)) ≡ all → rows ≡ all
rows_end assets kind raw i rows all past is = sym (append-nil rows) ∙ sym (at_drop_all (λ l. rows ++ of_rows assets kind l) raw i past) ∙ is

-- a row's adjustment by column, from its parts
pub row_parts : (assets : List AssetRow) (kind : AdjustmentKind) (r : RawAdjust) (col : ℕ) (a : Adjust) → col ≡ col_in assets (unsigned_abs r.sid) → event_of a ≡ (adjustment_in kind r).event
    → row_of (record { col = col; adjust = a }) ≡ in_column assets (adjustment_in kind r)
row_parts assets kind r col a place event = cc

-- ---- one table after the other

pub first_fault-append : (n : ℕ) (xs ys : List TableRow) → first_fault n (xs ++ ys) ≡ option_or (first_fault n xs) (first_fault (n + length xs) ys)
unfolding first_fault
first_fault-append n [] ys = ap (λ k. first_fault k ys) (sym (add-zero n))
first_fault-append n (x ∷ xs) ys = here (fault_at n x) (first_fault-append (suc n) xs ys ∙ ap (λ k. option_or (first_fault (suc n) xs) (first_fault k ys)) (next n (length xs)))
  where
    next : (n m : ℕ) → suc n + m ≡ n + suc m
    next n m = omega arith

    here : (o : Option Fault) → first_fault (suc n) (xs ++ ys) ≡ option_or (first_fault (suc n) xs) (first_fault (n + suc (length xs)) ys)
        → option_or o (first_fault (suc n) (xs ++ ys)) ≡ option_or (option_or o (first_fault (suc n) xs)) (first_fault (n + suc (length xs)) ys)
    here None e = e
    here (Some f) e = refl

length-in_table : (table : Table) (raw : List RawAdjust) → length (in_table table raw) ≡ length raw
length-in_table table raw = length-map raw (λ r. record { table = table; row = r })

pub walk-faults : (splits mergers dividends : List RawAdjust) → first_fault 0 (walk splits mergers dividends)
    ≡ option_or (option_or (first_fault 0 (in_table Splits splits)) (first_fault (length splits) (in_table Mergers mergers))) (first_fault (length splits + length mergers) (in_table Dividends dividends))
walk-faults splits mergers dividends =
    let long : length (in_table Splits splits) ≡ length splits = length-in_table Splits splits in
    let both : length (in_table Splits splits ++ in_table Mergers mergers) ≡ length splits + length mergers
    = length-append (in_table Splits splits) (in_table Mergers mergers) ∙ ap (λ n. n + length (in_table Mergers mergers)) long ∙ ap (λ n. length splits + n) (length-in_table Mergers mergers) in
    first_fault-append 0 (in_table Splits splits ++ in_table Mergers mergers) (in_table Dividends dividends)
    ∙ ap (λ n. option_or (first_fault 0 (in_table Splits splits ++ in_table Mergers mergers)) (first_fault n (in_table Dividends dividends))) (zero-add _ ∙ both)
    ∙ ap (λ o. option_or o (first_fault (length splits + length mergers) (in_table Dividends dividends)))
    (first_fault-append 0 (in_table Splits splits) (in_table Mergers mergers)
    ∙ ap (λ n. option_or (first_fault 0 (in_table Splits splits)) (first_fault n (in_table Mergers mergers))) (zero-add _ ∙ long))

-- an error that tells a fault tells what follows from it
pub tells_then : {A : Type 0} (result : Result A AdjustError) (error : AdjustError) {part all : Option Fault}
    → IsErrAnd result (λ e. e ≡ error) → IfSome (fault_of error) (λ f. part ≡ Some f)
    → ((f : Fault) → part ≡ Some f → all ≡ Some f) → MeetsFault result all
tells_then result error is told follows =
    let err = err_from_is_err_and result is in rw (err.1, err.2) (IfSome_then (fault_of error) told follows)

-- The text of each part of a world, in the form of the file of that part.
use Rattle.std.specs.Prelude.{ℕ, ◌+◌, Bool, true, false, ◌&&◌, if◌then◌else◌, ℤ, pos, neg_ℤ, ◌*ℤ◌, List, [], ◌∷◌, ◌++◌, map, filter, flat_map, codes, decimal, slice_index_or}
use Rattle.std.specs.Fmt.{signed_decimal}
use Rattle.std.specs.Int.RustNames.{int_le}
use Rattle.pl_spec.specs.declared.AssetRow.{AssetRow}
use Rattle.pl_spec.specs.declared.AdjustmentKind.{AdjustmentKind}
use Rattle.pl_spec.specs.declared.AdjustmentKind.TheVariants.{Split, Merger, Dividend, Revision}
use Rattle.pl_spec.specs.Dates.{date_text}
use Rattle.pl_spec.specs.Decimals.{cell_text}
use Rattle.pl_spec.specs.Lines.{quote}
use Rattle.pl_spec.specs.Names.{column_name}
use Rattle.pl_spec.specs.Numbers.{NumberRow}
use Rattle.pl_spec.specs.World.{World, LabelRow, Bar, Change, Event, Adjustment, events_of}
use Rattle.pl_spec.specs.World.Change.{Scale, Overwrite}

-- ---- fields

-- a further field of a line
abbrev pub behind_comma : List ℕ → List ℕ
behind_comma text = 44 ∷ text

abbrev pub line_end : List ℕ
line_end = 10 ∷ []

-- of the years 1900 to 2199
abbrev pub has_date : ℤ → Bool
has_date day = int_le (neg_ℤ (pos 25567)) day && int_le day (pos 84005)

-- a day as its date; one of another year, which no file has, as its number
unfoldable pub day_text : ℤ → List ℕ
day_text day = if has_date day then date_text day else signed_decimal day

-- ---- lines

abbrev pub session_line : ℤ → List ℕ
session_line day = day_text day ++ line_end

-- the sid, the start and the end
abbrev pub asset_line : AssetRow → List ℕ
asset_line a = decimal a.sid ++ behind_comma (day_text a.start) ++ behind_comma (day_text a.end) ++ line_end

-- the name, the sid, the start and the label
abbrev pub label_line : LabelRow → List ℕ
label_line r = r.name ++ behind_comma (decimal r.sid) ++ behind_comma (day_text r.start) ++ behind_comma (quote r.text) ++ line_end

-- the name, the sid, the day from which on it is known, and the value
abbrev pub number_line : NumberRow → List ℕ
number_line r = r.name ++ behind_comma (decimal r.sid) ++ behind_comma (day_text r.known) ++ behind_comma (cell_text r.value) ++ line_end

abbrev pub prices_text : Bar → List ℕ
prices_text b =
    behind_comma (cell_text b.open_price) ++ behind_comma (cell_text b.high) ++ behind_comma (cell_text b.low)
    ++ behind_comma (cell_text b.close)

-- the sid, the day of the session, and the five cells
abbrev pub bar_line : List ℤ → Bar → List ℕ
bar_line days b =
    decimal b.sid ++ behind_comma (day_text (slice_index_or days b.session (pos 0))) ++ prices_text b
    ++ behind_comma (cell_text b.volume) ++ line_end

-- the numerator and the denominator
abbrev pub ratio_text : Change → List ℕ
ratio_text (Scale f) = behind_comma (decimal f.num) ++ behind_comma (decimal f.den)
ratio_text (Overwrite _ _ _) = behind_comma [] ++ behind_comma []

-- a number, the seconds from 1970-01-01 to the day, the ratio and the sid
abbrev pub ratio_line : ℕ → Adjustment → List ℕ
ratio_line n x =
    decimal n ++ behind_comma (signed_decimal (x.event.day *ℤ pos 86400)) ++ ratio_text x.event.change
    ++ behind_comma (decimal x.sid) ++ line_end

-- the session, the bar column and the value that a revision gives
abbrev pub revised_text : Change → List ℕ
revised_text (Overwrite bar_day column value) =
    behind_comma (day_text bar_day) ++ behind_comma (column_name column) ++ behind_comma (cell_text value)
revised_text (Scale f) = behind_comma [] ++ behind_comma [] ++ behind_comma []

-- the sid, the cell that is revised and its value, and the day from which on that is known
abbrev pub revision_line : Adjustment → List ℕ
revision_line x = decimal x.sid ++ revised_text x.event.change ++ behind_comma (day_text x.event.day) ++ line_end

-- ---- adjustments of a kind

abbrev pub is_kind : AdjustmentKind → AdjustmentKind → Bool
is_kind Split Split = true
is_kind Merger Merger = true
is_kind Dividend Dividend = true
is_kind Revision Revision = true
is_kind kind other = false

abbrev pub of_sid : ℕ → Event → Adjustment
of_sid sid e = record { sid = sid; event = e }

-- those of an asset, in the order in which they act
abbrev pub rows_of : AdjustmentKind → World → ℕ → List Adjustment
rows_of kind w a = map (of_sid a) (filter (λ e. is_kind kind e.kind) (events_of w a))

-- those of all assets, one asset after the other
abbrev pub rows_in : AdjustmentKind → World → List Adjustment
rows_in kind w = flat_map (λ a. rows_of kind w a.sid) w.assets

-- their lines, with numbers that begin with n
abbrev pub lines_from : ℕ → List Adjustment → List ℕ
lines_from n [] = []
lines_from n (x ∷ xs) = ratio_line n x ++ lines_from (n + 1) xs

-- ---- the texts

abbrev pub assets_header : List ℕ
assets_header = codes "sid,start,end" ++ line_end

abbrev pub labels_header : List ℕ
labels_header = codes "name,sid,start,label" ++ line_end

abbrev pub numbers_header : List ℕ
numbers_header = codes "name,sid,known,value" ++ line_end

abbrev pub bars_header : List ℕ
bars_header = codes "sid,session,open,high,low,close,volume" ++ line_end

abbrev pub ratios_header : List ℕ
ratios_header = codes "id,effective_date,num,den,sid" ++ line_end

abbrev pub revisions_header : List ℕ
revisions_header = codes "sid,session,column,value,known" ++ line_end

unfoldable pub sessions_text : World → List ℕ
sessions_text w = flat_map session_line w.days

unfoldable pub assets_text : World → List ℕ
assets_text w = assets_header ++ flat_map asset_line w.assets

unfoldable pub labels_text : World → List ℕ
labels_text w = labels_header ++ flat_map label_line w.labels

unfoldable pub numbers_text : World → List ℕ
numbers_text w = numbers_header ++ flat_map number_line w.numbers

unfoldable pub bars_text : World → List ℕ
bars_text w = bars_header ++ flat_map (bar_line w.days) w.bars

-- a table of splits, mergers or dividends: its rows have numbers from 1
unfoldable pub ratios_text : AdjustmentKind → World → List ℕ
ratios_text kind w = ratios_header ++ lines_from 1 (rows_in kind w)

unfoldable pub revisions_text : World → List ℕ
revisions_text w = revisions_header ++ flat_map revision_line (rows_in Revision w)

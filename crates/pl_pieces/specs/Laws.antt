-- What the files of a cut say: read again they are the cut, and a run over them prints the rows of the whole.
use Rattle.std.specs.Prelude.{◌≡◌, ◌≢◌, ℕ, ◌==◌, ℤ, List, ◌++◌, map, filter, IsPermutation, Some, None, Ok}
use Rattle.std.specs.Option.{ForSome}
use Rattle.pl_spec.specs.declared.AdjustmentKind.{AdjustmentKind}
use Rattle.pl_spec.specs.declared.AdjustmentKind.TheVariants.{Split, Merger, Dividend, Revision}
use Rattle.pl_spec.specs.declared.BarRow.{BarRow}
use Rattle.pl_spec.specs.declared.RawAdjust.{RawAdjust}
use Rattle.pl_spec.specs.Order.{by_day, of_table}
use Rattle.pl_spec.specs.Parts.{bar_of, label_of, number_of}
use Rattle.pl_spec.specs.World.{World, IsWorld, events_of}
use Rattle.pl_records.specs.Records.{csv_records}
use Rattle.pl_calendar.specs.Days.{sessions_of}
use Rattle.pl_lifetimes.specs.Assets.{assets_of}
use Rattle.pl_assets.specs.Labels.{LabelTable, labels_of}
use Rattle.pl_bars.specs.Bars.{bars_of}
use Rattle.pl_numbers.specs.Numbers.{NumberTable, numbers_of}
use Rattle.pl_adjust.specs.declared.revisions.Revision.{Revision as Read}
use Rattle.pl_adjust.specs.Revised.{revised}
use Rattle.pl_adjust.specs.Revisions.{revisions_of}
use Rattle.pl_cut.specs.Cuts.{Span, cut}
use Rattle.pl_cut.specs.Laws.{Covers}
use Rattle.pl_parts.specs.Texts.{sessions_text, assets_text, labels_text, numbers_text, bars_text, ratios_text, revisions_text, rows_in}
use Rattle.pl_outside.specs.declared.keeper.Table.TheVariants.{Splits, Mergers, Dividends}
use Rattle.pl_terms.specs.Checked.{IsChecked}
use Rattle.pl_words.specs.declared.request.InputFile.TheVariants as files
use Rattle.pl_words.specs.declared.request.WorldPart.{WorldPart}
use Rattle.pl_words.specs.declared.request.WorldPart.TheVariants as parts
use Rattle.pl_words.specs.Request.{Request, Cut, RunRequest, WorldNames, numbers_named}
use Rattle.pl_load.specs.Contents.{Contents}
use Rattle.pl_load.specs.Held.{pipeline_held, days_held, world_held}
use Rattle.pl_load.specs.Range.{index_of}
use Rattle.pl_cli.specs.Texts.{span_for, text_of}
use Rattle.pl_lookahead.specs.Agreement.{AgreeUpTo}
use Rattle.pl_lookahead.specs.Laws.{AskAlike, AskSame, AsksTable, HasNoFault}
use Rattle.pl_pieces.specs.Readable.{FilesCanHold}
use Rattle.pl_pieces.specs.Tables.{IsTableOf}

-- ---- texts that are read again

-- The readers over the texts of a world that files can hold give its parts: the same sessions and assets,
-- bars and labels in the same order, the numbers in some order. Whoever loads a table of its text has the
-- adjustments of that kind. The revisions are its own, where no reader refuses them. Put together by day, the
-- rows act on each asset as the adjustments of the world do.
pub record TextsReadBack (w : World) : Type 0 where
  pub sessions : sessions_of (csv_records (sessions_text w)) ≡ Ok w.days
  pub assets : assets_of (csv_records (assets_text w)) ≡ Ok w.assets
  pub bars : (rows : List BarRow) × (bars_of w.days w.assets (csv_records (bars_text w)) ≡ Ok rows)
      × (map (bar_of w.assets) rows ≡ w.bars)
  pub labels : (table : LabelTable) × (labels_of w.assets (csv_records (labels_text w)) ≡ Ok table)
      × (map (label_of w.assets) table.rows ≡ w.labels)
  pub numbers : (table : NumberTable) × (numbers_of w.assets (csv_records (numbers_text w)) ≡ Ok table)
      × IsPermutation w.numbers (map (number_of w.assets) table.rows)
  pub tables : (kind : AdjustmentKind) → kind ≢ Revision
      → ((rows : List RawAdjust) × IsTableOf (ratios_text kind w) rows)
      × ((rows : List RawAdjust) → IsTableOf (ratios_text kind w) rows
      → of_table w.assets kind rows ≡ rows_in kind w)
  pub revisions : (rows : List Read)
      → revisions_of w.days w.assets (csv_records (revisions_text w)) ≡ Ok rows
      → map revised rows ≡ rows_in Revision w
  pub acting : (a : ℕ) → map (λ x. x.event) (filter (λ x. x.sid == a)
      (by_day (rows_in Split w ++ rows_in Merger w ++ rows_in Dividend w ++ rows_in Revision w)))
      ≡ events_of w a

abbrev pub PartsReadBack : Type 0
PartsReadBack = (w : World) → IsWorld w → FilesCanHold w → TextsReadBack w

-- ---- the cut of what was read

-- what was read without a fault can be held by files, and so can its cut for each span
pub record CutsCanBeHeld : Type 0 where
  pub whole : (held : Contents) (asked : Request) (q : RunRequest) → AsksTable asked q → HasNoFault held asked
      → FilesCanHold (world_held held q.world)
  pub part : (w : World) (span : Span) → FilesCanHold w → FilesCanHold (cut w span)

-- ---- the command

abbrev pub first_of : Contents → RunRequest → ℕ
first_of held q = index_of (days_held held) q.from.day

abbrev pub last_of : Contents → RunRequest → ℕ
last_of held q = index_of (days_held held) q.to.day

-- the span of the command cut for the table of a run
abbrev pub span_of : Contents → RunRequest → Span
span_of held q = span_for (days_held held) (pipeline_held held) (first_of held q) (last_of held q)

-- it covers the range
abbrev pub CommandsCoverTheRange : Type 0
CommandsCoverTheRange = (held : Contents) (q : RunRequest) (part : WorldPart)
    → HasNoFault held (Cut (record { table = q; part = part }))
    → Covers (days_held held) (pipeline_held held) (span_of held q) (first_of held q) (last_of held q)

-- what the command cut writes of a part
abbrev pub part_of : Contents → RunRequest → WorldPart → List ℕ
part_of held q part = text_of held (Some (Cut (record { table = q; part = part })))

-- The run over a piece asks for the numbers of both files as those of one, since the command cut writes them
-- as one part.
abbrev pub piece_world : WorldNames → WorldNames
piece_world w = record w { numbers = numbers_named w; results = None }

abbrev pub piece_run : RunRequest → RunRequest
piece_run q = record q { world = piece_world q.world }

-- A run that names no results is its own run over a piece.
abbrev pub RunsWithoutResultsStay : Type 0
RunsWithoutResultsStay = (q : RunRequest) → q.world.results ≡ None → piece_run q ≡ q

-- A piece: contents whose files are what the command cut writes of each part that the run asks for, whose
-- tables have the rows of the texts, and whose pipeline is the same.
pub record IsPieceOf (held piece : Contents) (q : RunRequest) : Type 0 where
  pub pipeline : pipeline_held piece ≡ pipeline_held held
  pub sessions : piece.file files.Sessions ≡ Some (part_of held q parts.Sessions)
  pub assets : piece.file files.Assets ≡ Some (part_of held q parts.Assets)
  pub bars : piece.file files.Bars ≡ Some (part_of held q parts.Bars)
  pub labels : ForSome q.world.labels (λ name.
      piece.file files.Labels ≡ Some (part_of held q parts.Labels))
  pub numbers : ForSome (numbers_named q.world) (λ name.
      piece.file files.Numbers ≡ Some (part_of held q parts.Numbers))
  pub splits : ForSome q.world.adjustments (λ name.
      IsTableOf (part_of held q parts.Splits) (piece.rows Splits))
  pub mergers : ForSome q.world.adjustments (λ name.
      IsTableOf (part_of held q parts.Mergers) (piece.rows Mergers))
  pub dividends : ForSome q.world.adjustments (λ name.
      IsTableOf (part_of held q parts.Dividends) (piece.rows Dividends))
  pub revisions : ForSome q.world.revisions (λ name.
      piece.file files.Revisions ≡ Some (part_of held q parts.Revisions))

-- A run over the files that the command cut writes prints the bytes that the run over the whole prints for
-- the range, by `run` and by `daily`, in both formats and for all sizes of chunks, where neither has a fault.
abbrev pub CutFilesHaveTheRows : Type 0
CutFilesHaveTheRows = (held piece : Contents) (a b : Request) (q r : RunRequest)
    → AsksTable a q → AsksTable b r → AskSame (piece_run q) r → q.options.as_of ≡ None
    → IsChecked (pipeline_held held) → IsPieceOf held piece q → HasNoFault held a → HasNoFault piece b
    → text_of piece (Some b) ≡ text_of held (Some a)

-- What comes later changes no byte of a run over the files of a cut either: where the contents that are cut
-- agree up to a session, the tables up to it over their pieces are the same bytes.
abbrev pub LaterDataChangeNoPiece : Type 0
LaterDataChangeNoPiece = (one other piece piece' : Contents) (a b x y : Request) (q r : RunRequest)
    → (d : ℕ) (day : ℤ)
    → AsksTable a q → AsksTable b r → AsksTable x (piece_run q) → AsksTable y (piece_run r) → AskAlike q r day
    → q.options.as_of ≡ None → r.options.as_of ≡ None → IsChecked (pipeline_held one)
    → AgreeUpTo one other q.world r.world d day → IsPieceOf one piece q → IsPieceOf other piece' r
    → HasNoFault one a → HasNoFault other b → HasNoFault piece x → HasNoFault piece' y
    → text_of piece (Some x) ≡ text_of piece' (Some y)

-- The world of a piece shows what the cut shows.
use Rattle.std.proofs.Common.{◌≡◌, ◌≢◌, ℕ, ◌==◌, ◌&&◌, false, ℤ, pos, negsuc, List, [], map, filter, All, IsPermutation, Option, Some, None, Ok, refl, sym, ◌∙◌, ap, ap₂}
use Rattle.std.specs.Option.{ForSome, option_or}
use Rattle.std.specs.Result.{result_unwrap_or}
use Rattle.std.proofs.lemmas.List.Sorted.{IsPermutation-refl, IsPermutation-sym}
use Rattle.pl_spec.specs.Numbers.{NumberRow}
use Rattle.pl_spec.specs.Order.{by_day, of_table}
use Rattle.pl_spec.specs.Parts.{bar_of, label_of, number_of}
use Rattle.pl_spec.specs.Permuted.{AgreeInAll}
use Rattle.pl_spec.specs.World.{World, IsWorld, Adjustment, Bar, LabelRow, bar_cell, cell_in, events_of, exists, label_at}
use Rattle.pl_spec.specs.declared.AdjustmentKind.{AdjustmentKind}
use Rattle.pl_spec.specs.declared.AdjustmentKind.TheVariants.{Split, Merger, Dividend, Revision}
use Rattle.pl_spec.specs.declared.AssetRow.{AssetRow}
use Rattle.pl_spec.specs.declared.Column.{Column}
use Rattle.pl_spec.proofs.Numbers.{numbers_look_back}
use Rattle.pl_records.specs.Records.{csv_records}
use Rattle.pl_calendar.specs.Days.{sessions_of}
use Rattle.pl_lifetimes.specs.Assets.{assets_of}
use Rattle.pl_assets.specs.Labels.{LabelTable, no_labels}
use Rattle.pl_numbers.specs.Numbers.{NumberTable}
use Rattle.pl_adjust.specs.Revised.{revised}
use Rattle.pl_adjust.specs.Revisions.{revisions_of}
use Rattle.pl_adjust.specs.declared.revisions.Revision.{Revision as Read}
use Rattle.pl_cut.specs.Cuts.{Span, cut, is_label_in, is_number_in, is_of}
use Rattle.pl_cut.proofs.Cuts.{is-world}
use Rattle.pl_parts.specs.Texts.{is_kind, bars_text, labels_text, numbers_text, ratios_text, revisions_text, rows_in}
use Rattle.pl_outside.specs.declared.keeper.Table.{Table}
use Rattle.pl_outside.specs.declared.keeper.Table.TheVariants.{Splits, Mergers, Dividends}
use Rattle.pl_words.specs.declared.request.InputFile.TheVariants as files
use Rattle.pl_words.specs.declared.request.WorldPart.{WorldPart}
use Rattle.pl_words.specs.declared.request.WorldPart.TheVariants as parts
use Rattle.pl_words.specs.Request.{RunRequest, numbers_named}
use Rattle.pl_world.specs.Laws.{ShowAlike}
use Rattle.pl_world.proofs.Moved.{show-alike}
use Rattle.pl_load.specs.Contents.{Contents}
use Rattle.pl_load.specs.Held.{assets_held, assets_in, bars_held, bars_in, bytes_in, days_held, days_in, labels_asked, labels_in, no_numbers, numbers_asked, numbers_in, results_asked, revisions_in, world_held}
use Rattle.pl_cli.specs.Texts.{text_of, text_of_part}
use Rattle.pl_lookahead.specs.Agreement.{of_table_asked, revisions_asked}
use Rattle.pl_lookahead.proofs.Held.{held-events, held-once}
use Rattle.pl_lookahead.proofs.Readable.{AreRead, records_in}
use Rattle.pl_pieces.specs.Laws.{IsPieceOf, part_of, piece_world, span_of}
use Rattle.pl_pieces.specs.Readable.{FilesCanHold}
use Rattle.pl_pieces.specs.Tables.{IsTableOf}
use Rattle.pl_pieces.proofs.Acting.{acting, four-same}
use Rattle.pl_pieces.proofs.Assets.{assets-back}
use Rattle.pl_pieces.proofs.Bars.{bars-back}
use Rattle.pl_pieces.proofs.HeldWorlds.{files-can-hold, without-revisions, without-tables}
use Rattle.pl_pieces.proofs.Labels.{labels-back}
use Rattle.pl_pieces.proofs.Numbers.{numbers-back}
use Rattle.pl_pieces.proofs.OfCuts.{events-hold, of-cut}
use Rattle.pl_pieces.proofs.Revisions.{revisions-back}
use Rattle.pl_pieces.proofs.Sessions.{sessions-back}
use Rattle.pl_pieces.proofs.TableTexts.{no-rows, table-back}

module _ (held piece : Contents) (q : RunRequest) (read : AreRead held q.world) (read' : AreRead piece (piece_world q.world)) (is : IsPieceOf held piece q) (whole : q.options.as_of ≡ None) (ok : IsWorld (world_held held q.world)) where
  abbrev w : World
  w = world_held held q.world

  abbrev span : Span
  span = span_of held q

  abbrev part : World
  part = cut w span

  abbrev v : World
  v = world_held piece (piece_world q.world)

  part-held : FilesCanHold part
  part-held = of-cut w span (files-can-hold held q.world read)

  text-is : (p : WorldPart) → part_of held q p ≡ text_of_part p part
  unfolding text_of
  text-is p = rw whole refl

  -- ---- sessions, assets and bars

  days-same : days_held piece ≡ part.days
  unfolding days_in
  days-same =
      ap (λ (f : Option (List ℕ)). result_unwrap_or (sessions_of (csv_records (bytes_in f))) []) (is.sessions ∙ ap Some (text-is parts.Sessions))
      ∙ ap (λ r. result_unwrap_or r []) (sessions-back part part-held.days)

  assets-same : assets_held piece ≡ part.assets
  unfolding assets_in
  assets-same =
      ap (λ (f : Option (List ℕ)). result_unwrap_or (assets_of (csv_records (bytes_in f))) []) (is.assets ∙ ap Some (text-is parts.Assets))
      ∙ ap (λ r. result_unwrap_or r []) (assets-back part part-held.assets part-held.lifetimes)

  bars-same : v.bars ≡ part.bars
  unfolding bars_in
  bars-same =
      let it = bars-back part part-held.days part-held.assets part-held.bars in
      let file : piece.file files.Bars ≡ Some (bars_text part) = is.bars ∙ ap Some (text-is parts.Bars) in
      let rows : bars_held piece ≡ it.0 =
      ap (λ (ds : List ℤ). bars_in ds (assets_held piece) (piece.file files.Bars)) days-same
      ∙ ap (λ (cols : List AssetRow). bars_in part.days cols (piece.file files.Bars)) assets-same
      ∙ ap (bars_in part.days part.assets) file
      ∙ ap (λ r. result_unwrap_or r []) it.1 in
      ap (λ (cols : List AssetRow). map (bar_of cols) (bars_held piece)) assets-same ∙ ap (map (bar_of part.assets)) rows ∙ it.2

  -- ---- labels and numbers, where they are asked for

  labels-same : (o : Option (List ℕ)) → q.world.labels ≡ o → v.labels ≡ part.labels
  unfolding labels_in
  labels-same None e =
      let none : w.labels ≡ [] = ap (λ (n : Option (List ℕ)). map (label_of w.assets) (labels_asked w.assets n (held.file files.Labels)).rows) e in
      ap (λ (n : Option (List ℕ)). map (label_of (assets_held piece)) (labels_asked (assets_held piece) n (piece.file files.Labels)).rows) e
      ∙ sym (ap (filter (λ (r : LabelRow). is_of w span r.sid && is_label_in w.labels span r)) none)
  labels-same (Some n) e =
      let it = labels-back part part-held.assets part-held.labels in
      let file : piece.file files.Labels ≡ Some (labels_text part) = is.labels n e ∙ ap Some (text-is parts.Labels) in
      let table : labels_in (assets_held piece) (piece.file files.Labels) ≡ it.0 =
      ap (λ (cols : List AssetRow). labels_in cols (piece.file files.Labels)) assets-same
      ∙ ap (labels_in part.assets) file
      ∙ ap (λ r. result_unwrap_or r no_labels) it.1 in
      ap (λ (m : Option (List ℕ)). map (label_of (assets_held piece)) (labels_asked (assets_held piece) m (piece.file files.Labels)).rows) e
      ∙ ap (λ (t : LabelTable). map (label_of (assets_held piece)) t.rows) table
      ∙ ap (λ (cols : List AssetRow). map (label_of cols) it.0.rows) assets-same
      ∙ it.2

  none-same : q.world.numbers ≡ None → q.world.results ≡ None → IsPermutation part.numbers v.numbers
  none-same e f =
      let none : w.numbers ≡ [] =
      ap₂ (λ (n m : Option (List ℕ)). map (number_of w.assets) (results_asked w.assets (numbers_asked w.assets n (held.file files.Numbers)) m (held.file files.Results)).rows) e f in
      let here : part.numbers ≡ [] = ap (filter (λ (r : NumberRow). is_of w span r.sid && is_number_in w.numbers span r)) none in
      let there : v.numbers ≡ [] =
      ap₂ (λ (n m : Option (List ℕ)). map (number_of (assets_held piece)) (numbers_asked (assets_held piece) (option_or n m) (piece.file files.Numbers)).rows) e f in
      rw (here, there) (IsPermutation-refl [])

  some-same : (n : List ℕ) → numbers_named q.world ≡ Some n → IsPermutation part.numbers v.numbers
  unfolding numbers_in
  some-same n e =
      let it = numbers-back part part-held.assets part-held.numbers in
      let file : piece.file files.Numbers ≡ Some (numbers_text part) = is.numbers n e ∙ ap Some (text-is parts.Numbers) in
      let table : numbers_in (assets_held piece) (piece.file files.Numbers) ≡ it.0 =
      ap (λ (cols : List AssetRow). numbers_in cols (piece.file files.Numbers)) assets-same
      ∙ ap (numbers_in part.assets) file
      ∙ ap (λ r. result_unwrap_or r no_numbers) it.1 in
      let rows : v.numbers ≡ map (number_of part.assets) it.0.rows =
      ap (λ (m : Option (List ℕ)). map (number_of (assets_held piece)) (numbers_asked (assets_held piece) m (piece.file files.Numbers)).rows) e
      ∙ ap (λ (t : NumberTable). map (number_of (assets_held piece)) t.rows) table
      ∙ ap (λ (cols : List AssetRow). map (number_of cols) it.0.rows) assets-same in
      rw rows it.2

  numbers-same : (n m : Option (List ℕ)) → q.world.numbers ≡ n → q.world.results ≡ m → IsPermutation part.numbers v.numbers
  numbers-same None None e f = none-same e f
  numbers-same None (Some m) e f = some-same m (ap₂ option_or e f)
  numbers-same (Some n) m e f = some-same n (ap (λ o. option_or o q.world.results) e)

  -- ---- adjustments and revisions

  -- no rows of tables are asked for: the cut has none
  none-cut : (kind : AdjustmentKind) → ((a : ℕ) → All (λ e. is_kind kind e.kind ≡ false) (events_of w a)) → rows_in kind part ≡ []
  none-cut kind h = no-rows part kind (events-hold w span (files-can-hold held q.world read) (λ e. is_kind kind e.kind ≡ false) h)

  table-same : (kind : AdjustmentKind) (table : Table) → kind ≢ Revision → is_kind kind Revision ≡ false
      → ((cols : List AssetRow) → of_table_asked cols (Some []) piece.rows table ≡ of_table cols kind (piece.rows table))
      → (o : Option (List ℕ)) → q.world.adjustments ≡ o → ((n : List ℕ) → o ≡ Some n → IsTableOf (ratios_text kind part) (piece.rows table))
      → of_table_asked (assets_held piece) o piece.rows table ≡ rows_in kind part
  table-same kind table tabled other named None e text = sym (none-cut kind (without-tables held q.world read e kind other))
  table-same kind table tabled other named (Some n) e text =
      named (assets_held piece)
      ∙ ap (λ (cols : List AssetRow). of_table cols kind (piece.rows table)) assets-same
      ∙ table-back part part-held.assets part-held.adjustments kind tabled (piece.rows table) (text n refl)

  revisions-same : (o : Option (List ℕ)) → q.world.revisions ≡ o → map revised (revisions_asked (days_held piece) (assets_held piece) o (piece.file files.Revisions)) ≡ rows_in Revision part
  revisions-same None e = sym (none-cut Revision (without-revisions held q.world read e))
  revisions-same (Some n) e =
      let file : piece.file files.Revisions ≡ Some (revisions_text part) = is.revisions n e ∙ ap Some (text-is parts.Revisions) in
      let found : List Read = revisions_in (days_held piece) (assets_held piece) (piece.file files.Revisions) in
      let as_read : revisions_of part.days part.assets (csv_records (revisions_text part)) ≡ Ok found =
      sym (ap (λ (ds : List ℤ). revisions_of ds (assets_held piece) (records_in (piece.file files.Revisions))) days-same
      ∙ ap (λ (cols : List AssetRow). revisions_of part.days cols (records_in (piece.file files.Revisions))) assets-same
      ∙ ap (λ (f : Option (List ℕ)). revisions_of part.days part.assets (records_in f)) file)
      ∙ read'.revisions n e in
      revisions-back part part-held.days part-held.assets part-held.adjustments found as_read

  text-of-table : (p : WorldPart) (kind : AdjustmentKind) (table : Table) → text_of_part p part ≡ ratios_text kind part
      → ForSome q.world.adjustments (λ name. IsTableOf (part_of held q p) (piece.rows table))
      → (o : Option (List ℕ)) → q.world.adjustments ≡ o → (n : List ℕ) → o ≡ Some n → IsTableOf (ratios_text kind part) (piece.rows table)
  text-of-table p kind table same h o e n f =
      let it = h n (e ∙ f) in
      let text : part_of held q p ≡ ratios_text kind part = text-is p ∙ same in
      record { records = ap csv_records (sym text) ∙ it.records; whole = it.whole }

  events-same : (a : ℕ) → events_of v a ≡ events_of part a
  events-same a =
      let named = q.world.adjustments in
      let splits = table-same Split Splits (λ e. cc e) refl (λ cols. refl) named refl (text-of-table parts.Splits Split Splits refl is.splits named refl) in
      let mergers = table-same Merger Mergers (λ e. cc e) refl (λ cols. refl) named refl (text-of-table parts.Mergers Merger Mergers refl is.mergers named refl) in
      let dividends = table-same Dividend Dividends (λ e. cc e) refl (λ cols. refl) named refl (text-of-table parts.Dividends Dividend Dividends refl is.dividends named refl) in
      held-events piece (piece_world q.world) read' a
      ∙ ap (λ (xs : List Adjustment). map (λ (x : Adjustment). x.event) (filter (λ x. x.sid == a) (by_day xs))) (four-same splits mergers dividends (revisions-same q.world.revisions refl))
      ∙ acting part (is-world w span ok) part-held.assets part-held.adjustments a

  -- ---- all that is looked up

  agree : AgreeInAll v part
  agree =
      let v-once = held-once piece (piece_world q.world) read' in
      let labels : v.labels ≡ part.labels = labels-same q.world.labels refl in
      record {
        days = days-same;
        bars = λ a c s. cells a c s;
        adjustments = events-same;
        lifetimes = λ a s. lives a s;
        labels = λ name a s. labelled name a s labels;
        numbers = numbers_look_back.in_any_order v.numbers part.numbers v-once.numbers (IsPermutation-sym part.numbers v.numbers (numbers-same q.world.numbers q.world.results refl refl));
      }
    where
      cells : (a : ℕ) (c : Column) (s : ℤ) → bar_cell v a c s ≡ bar_cell part a c s
      cells a c (pos s) = ap (λ (bs : List Bar). cell_in bs a c s) bars-same
      cells a c (negsuc s) = refl

      lives : (a : ℕ) (s : ℤ) → exists v a s ≡ exists part a s
      lives a s =
          ap (λ (ds : List ℤ). exists (record v { days = ds }) a s) days-same
          ∙ ap (λ (cols : List AssetRow). exists (record v { days = part.days; assets = cols }) a s) assets-same

      labelled : (name : List ℕ) (a : ℕ) (s : ℤ) → v.labels ≡ part.labels → label_at v name a s ≡ label_at part name a s
      labelled name a s e =
          ap (λ (ds : List ℤ). label_at (record v { days = ds }) name a s) days-same
          ∙ ap (λ (ls : List LabelRow). label_at (record v { days = part.days; labels = ls }) name a s) e

  pub piece-days : days_held piece ≡ days_held held
  piece-days = days-same

  pub piece-shows : ShowAlike v part
  piece-shows = show-alike v part (held-once piece (piece_world q.world) read').world (is-world w span ok) agree

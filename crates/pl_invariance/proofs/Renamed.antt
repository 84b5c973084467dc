-- A world with other sids in the same order shows the same.
use Rattle.std.proofs.Common.{◌≡◌, ℕ, ◌&&◌, ◌==◌, ℤ, pos, negsuc, List, [], map, filter, find, Option, Some, None, option_map, option_and_then, unwrap_or, bytes_eq, refl, sym, ◌∙◌, ap}
use Rattle.std.specs.List.{list_all}
use Rattle.std.specs.Int.RustNames.{int_le}
use Rattle.std.proofs.Math.Path.{fun_ext}
use Rattle.pl_spec.specs.declared.AssetRow.{AssetRow}
use Rattle.pl_spec.specs.declared.Column.{Column}
use Rattle.pl_spec.specs.declared.Column.TheVariants.{OpenPrice, High, Low, Close, Volume}
use Rattle.pl_spec.specs.Numbers.{NumberRow, last_known, is_number_of, read_of, number_at}
use Rattle.pl_spec.specs.Rounding.{MISSING}
use Rattle.pl_spec.specs.Window.{effects, effects_from, after_all, seen_cell}
use Rattle.pl_spec.specs.World.{World, LabelRow, Bar, Adjustment, day_of, lives_on, events_of, cell_of, bar_cell, last_started, nonempty, is_label_of, label_at, known_number}
use Rattle.pl_spec.proofs.Lists.{filter-map}
use Rattle.pl_spec.specs.declared.Figure.{Figure}
use Rattle.pl_spec.specs.declared.Figure.TheVariants as figure
use Rattle.pl_invariance.specs.Renamed.{Rises, renamed_world, SidsAreNames}
use Rattle.pl_invariance.proofs.Lists.{find-map, all-map, maps}
use Rattle.pl_invariance.proofs.Renaming.{ShowTheSame, same_sid, tables_same}

module _ (f : ℕ → ℕ) (rises : Rises f) (w : World) where
  abbrev asset : AssetRow → AssetRow
  asset x = record x { sid = f x.sid }

  abbrev label : LabelRow → LabelRow
  label x = record x { sid = f x.sid }

  abbrev bar : Bar → Bar
  bar x = record x { sid = f x.sid }

  abbrev adjustment : Adjustment → Adjustment
  adjustment x = record x { sid = f x.sid }

  abbrev number : NumberRow → NumberRow
  number x = record x { sid = f x.sid }

  -- ---- lifetimes

  living_on : (o : Option ℤ) → unwrap_or (option_map (λ day. map (λ (x : AssetRow). x.sid) (filter (lives_on day) (map asset w.assets))) o) []
      ≡ map f (unwrap_or (option_map (λ day. map (λ (x : AssetRow). x.sid) (filter (lives_on day) w.assets)) o) [])
  living_on None = refl
  living_on (Some day) =
      ap (map (λ (x : AssetRow). x.sid)) (filter-map (lives_on day) asset w.assets)
      ∙ maps (λ (x : AssetRow). x.sid) asset (filter (lives_on day) w.assets)
      ∙ sym (maps f (λ (x : AssetRow). x.sid) (filter (lives_on day) w.assets))

  -- ---- bars and adjustments

  cell_same : (c : Column) (b : Bar) → cell_of c (bar b) ≡ cell_of c b
  cell_same OpenPrice b = refl
  cell_same High b = refl
  cell_same Low b = refl
  cell_same Close b = refl
  cell_same Volume b = refl

  found_same : (c : Column) (o : Option Bar) → option_map (cell_of c) (option_map bar o) ≡ option_map (cell_of c) o
  found_same c None = refl
  found_same c (Some b) = ap Some (cell_same c b)

  bar_same : (a : ℕ) (c : Column) (s : ℤ) → bar_cell (renamed_world f w) (f a) c s ≡ bar_cell w a c s
  bar_same a c (negsuc s) = refl
  bar_same a c (pos s) =
      ap (λ o. unwrap_or (option_map (cell_of c) o) MISSING) (find-map (λ (b : Bar). b.sid == f a && b.session == s) bar w.bars)
      ∙ ap (λ o. unwrap_or o MISSING) (found_same c (find (λ (b : Bar). f b.sid == f a && b.session == s) w.bars))
      ∙ ap (λ p. unwrap_or (option_map (cell_of c) (find p w.bars)) MISSING) (fun_ext (λ (b : Bar). ap (λ t. t && b.session == s) (same_sid f rises b.sid a)))

  events_same : (a : ℕ) → events_of (renamed_world f w) (f a) ≡ events_of w a
  events_same a =
      ap (map (λ (x : Adjustment). x.event)) (filter-map (λ (x : Adjustment). x.sid == f a) adjustment w.adjustments)
      ∙ maps (λ (x : Adjustment). x.event) adjustment (filter (λ (x : Adjustment). f x.sid == f a) w.adjustments)
      ∙ ap (λ p. map (λ (x : Adjustment). x.event) (filter p w.adjustments)) (fun_ext (λ (x : Adjustment). same_sid f rises x.sid a))

  seen_same : (a : ℕ) (c : Column) (s d : ℤ) → seen_cell (renamed_world f w) (f a) c s d ≡ seen_cell w a c s d
  unfolding seen_cell
  seen_same a c s d =
      ap (λ x. after_all x (effects (renamed_world f w) (f a) c s d)) (bar_same a c s)
      ∙ ap (λ es. after_all (bar_cell w a c s) (effects_from c (day_of w s) (day_of w d) es)) (events_same a)

  -- ---- labels

  abbrev labels_of : List ℕ → ℕ → ℤ → List LabelRow
  labels_of name a day = filter (is_label_of name a day) w.labels

  label_row : (name : List ℕ) (a : ℕ) (day : ℤ) → filter (is_label_of name (f a) day) (map label w.labels) ≡ map label (labels_of name a day)
  label_row name a day =
      filter-map (is_label_of name (f a) day) label w.labels
      ∙ ap (λ p. map label (filter p w.labels)) (fun_ext (λ (r : LabelRow). ap (λ t. bytes_eq r.name name && t && int_le r.start day) (same_sid f rises r.sid a)))

  last_label : (rows : List LabelRow) → last_started (map label rows) ≡ option_map label (last_started rows)
  last_label rows =
      find-map (λ (r : LabelRow). list_all (λ (q : LabelRow). int_le q.start r.start) (map label rows)) label rows
      ∙ ap (λ p. option_map label (find p rows)) (fun_ext (λ (r : LabelRow). all-map (λ (q : LabelRow). int_le q.start r.start) label rows))

  text_same : (o : Option LabelRow) → option_and_then (λ (r : LabelRow). nonempty r.text) (option_map label o) ≡ option_and_then (λ (r : LabelRow). nonempty r.text) o
  text_same None = refl
  text_same (Some r) = refl

  label_on : (name : List ℕ) (a : ℕ) (day : ℤ)
      → option_and_then (λ (r : LabelRow). nonempty r.text) (last_started (filter (is_label_of name (f a) day) (map label w.labels)))
      ≡ option_and_then (λ (r : LabelRow). nonempty r.text) (last_started (labels_of name a day))
  label_on name a day =
      ap (λ rows. option_and_then (λ (r : LabelRow). nonempty r.text) (last_started rows)) (label_row name a day)
      ∙ ap (option_and_then (λ (r : LabelRow). nonempty r.text)) (last_label (labels_of name a day))
      ∙ text_same (last_started (labels_of name a day))

  label_same : (name : List ℕ) (a : ℕ) (d : ℤ) → label_at (renamed_world f w) name (f a) d ≡ label_at w name a d
  label_same name a d = ap (λ g. option_and_then g (day_of w d)) (fun_ext (label_on name a))

  -- ---- numbers

  number_row : (name : List ℕ) (a : ℕ) (day : ℤ) → filter (is_number_of name (f a) day) (map number w.numbers) ≡ map number (filter (is_number_of name a day) w.numbers)
  number_row name a day =
      filter-map (is_number_of name (f a) day) number w.numbers
      ∙ ap (λ p. map number (filter p w.numbers)) (fun_ext (λ (r : NumberRow). ap (λ t. bytes_eq r.name name && t && int_le r.known day) (same_sid f rises r.sid a)))

  last_number : (rows : List NumberRow) → last_known (map number rows) ≡ option_map number (last_known rows)
  last_number rows =
      find-map (λ (r : NumberRow). list_all (λ (q : NumberRow). int_le q.known r.known) (map number rows)) number rows
      ∙ ap (λ p. option_map number (find p rows)) (fun_ext (λ (r : NumberRow). all-map (λ (q : NumberRow). int_le q.known r.known) number rows))

  read_same : (fig : Figure) (day : ℤ) (r : NumberRow) → read_of fig day (number r) ≡ read_of fig day r
  read_same figure.Value day r = refl
  read_same figure.Days day r = refl
  read_same figure.BusinessDays day r = refl

  value_same : (fig : Figure) (day : ℤ) (o : Option NumberRow) → option_map (read_of fig day) (option_map number o) ≡ option_map (read_of fig day) o
  value_same fig day None = refl
  value_same fig day (Some r) = ap Some (read_same fig day r)

  number_on : (fig : Figure) (name : List ℕ) (a : ℕ) (day : ℤ) → number_at fig (map number w.numbers) name (f a) day ≡ number_at fig w.numbers name a day
  number_on fig name a day =
      ap (λ rows. unwrap_or (option_map (read_of fig day) (last_known rows)) MISSING) (number_row name a day)
      ∙ ap (λ o. unwrap_or (option_map (read_of fig day) o) MISSING) (last_number (filter (is_number_of name a day) w.numbers))
      ∙ ap (λ o. unwrap_or o MISSING) (value_same fig day (last_known (filter (is_number_of name a day) w.numbers)))

  number_same : (fig : Figure) (name : List ℕ) (a : ℕ) (d : ℤ) → known_number (renamed_world f w) fig name (f a) d ≡ known_number w fig name a d
  number_same fig name a d = ap (λ g. unwrap_or (option_map g (day_of w d)) MISSING) (fun_ext (number_on fig name a))

  pub shows : ShowTheSame f w (renamed_world f w)
  shows = record {
    days = refl;
    living = λ d. living_on (day_of w d);
    seen = λ a lives c s d. seen_same a c s d;
    labels = λ a lives name d. label_same name a d;
    numbers = λ a lives fig name d. number_same fig name a d;
  }

pub sids-are-names : SidsAreNames
sids-are-names f rises w p from to = tables_same f rises w (renamed_world f w) (shows f rises w) p from to

-- The cut of a world shows what the whole shows.
use Rattle.std.proofs.Common.{◌≡◌, ℕ, suc, ◌++◌, ◌≤◌, true, false, ◌&&◌, ◌<◌, ◌==◌, nat_le, nat_lt, ℤ, pos, negsuc, ◌<ℤ◌, ◌≤ℤ◌, List, [], map, filter, Option, Some, None, option_map, option_and_then, unwrap_or, refl, sym, ◌∙◌, ap, arith}
use Rattle.std.specs.List.{list_any}
use Rattle.std.specs.Int.RustNames.{int_le, int_lt}
use Rattle.std.specs.Ordering.{int_eq}
use Rattle.std.proofs.lemmas.Bool.{and_parts, eqb-true, true≢false}
use Rattle.std.proofs.lemmas.Bool.Decides.{nat_tests}
use Rattle.std.proofs.lemmas.Int.{ints}
use Rattle.std.proofs.lemmas.List.Kept.{AllPairs-filter}
use Rattle.pl_spec.specs.declared.AssetRow.{AssetRow}
use Rattle.pl_spec.specs.declared.Column.{Column}
use Rattle.pl_spec.specs.Numbers.{NumberRow, read_of, number_at}
use Rattle.pl_spec.specs.Rounding.{MISSING}
use Rattle.pl_spec.specs.Window.{change_effect, effect, is_between, effects_in, effects_from, effects, after_all, seen_cell}
use Rattle.pl_spec.specs.World.{World, IsWorld, LabelRow, Bar, Change, Event, Adjustment, events_of, day_of, lives_on, living_sids, exists, cell_of, bar_cell, last_started, nonempty, is_label_of, label_at, known_number}
use Rattle.pl_spec.specs.World.Change.{Scale, Overwrite}
use Rattle.pl_spec.proofs.Lists.{filter-filter, filter-map}
use Rattle.pl_spec.specs.declared.Figure.{Figure}
use Rattle.pl_pipeline.specs.Table.{table}
use Rattle.pl_laws.proofs.Chunks.{table-split}
use Rattle.pl_laws.proofs.Alike.{day_of-days}
use Rattle.pl_laws.proofs.Law.{day_by}
use Rattle.pl_cut.specs.Cuts.{Span, IsSpan, lives_in, is_of, is_bar_in, is_change_in, is_event_in, cut}
use Rattle.pl_cut.specs.Within.{AgreeWithin}
use Rattle.pl_cut.specs.Laws.{CutsAgree, CutsHaveTheRows, PiecesMakeTheTable}
use Rattle.pl_cut.proofs.Rows.{filter-by, find-kept, answers-kept, any-kept, any-map}
use Rattle.pl_cut.proofs.Newest.{newest_same}
use Rattle.pl_cut.proofs.Tables.{share_tables}

-- ---- tests of plain variables

alive_in : (start end day first last : ℤ) → first ≤ℤ day → day ≤ℤ last → (int_lt start day && int_le day end) ≡ true → (int_lt start last && int_le first end) ≡ true
alive_in start end day first last h l e = grind (arith, ints)

within : (low high first last bar : ℤ) → first ≤ℤ low → high ≤ℤ last → (int_lt low bar && int_le bar high) ≡ true → (int_lt first bar && int_le bar last) ≡ true
within low high first last bar h l e = grind (arith, ints)

before_last : (low high last bar : ℤ) → high ≤ℤ last → (int_lt low bar && int_le bar high) ≡ true → low <ℤ last
before_last low high last bar l e = grind (arith, ints)

unlike_day : (bar other first last : ℤ) → first ≤ℤ bar → bar <ℤ last → (int_le first other && int_lt other last) ≡ false → int_eq other bar ≡ false
unlike_day bar other first last h l e = grind (arith, ints)

read_in : (s first last session : ℕ) → pos first ≤ℤ pos s → pos s <ℤ pos last → session ≡ s → (nat_le first session && nat_lt session last) ≡ true
read_in s first last session h l e = grind (arith, ints, nat_tests)

module _ (w : World) (span : Span) where
  abbrev part : World
  part = cut w span

  -- ---- adjustments

  -- of a kept asset those remain that act on bars that are read, and of others none
  events-of : (a : ℕ) → events_of part a ≡ filter (λ e. is_of w span a && is_event_in span e) (events_of w a)
  events-of a =
      ap (map (λ (x : Adjustment). x.event))
      (filter-by (λ x. x.sid == a) (λ x. is_of w span x.sid && is_event_in span x.event) (λ x. is_of w span a && is_event_in span x.event)
      (λ x e. ap (λ b. is_of w span b && is_event_in span x.event) (eqb-true x.sid a e)) w.adjustments)
      ∙ sym (filter-map (λ e. is_of w span a && is_event_in span e) (λ (x : Adjustment). x.event) (filter (λ x. x.sid == a) w.adjustments))

  pub events-kept : (a : ℕ) → is_of w span a ≡ true → events_of part a ≡ filter (is_event_in span) (events_of w a)
  events-kept a of = events-of a ∙ ap (λ b. filter (λ e. b && is_event_in span e) (events_of w a)) of

  pub is-world : IsWorld w → IsWorld part
  is-world ok = record {
    days_ascend = ok.days_ascend;
    sids_ascend = AllPairs-filter (λ a b. a.sid < b.sid) (lives_in span) w.assets ok.sids_ascend;
    events_in_order = λ a.
        rw (events-of a) (AllPairs-filter (λ e f. e.day ≤ℤ f.day) (λ e. is_of w span a && is_event_in span e) (events_of w a) (ok.events_in_order a));
  }

  -- ---- days of the span

  module _ (ok : IsWorld w) (is : IsSpan w.days span) where
    from_first : (d day : ℤ) → pos span.first ≤ℤ d → day_of w d ≡ Some day → span.first_day ≤ℤ day
    from_first d day h e = day_by w ok (pos span.first) d span.first_day day h is.first e

    by_last : (d day : ℤ) → d ≤ℤ pos span.last → day_of w d ≡ Some day → day ≤ℤ span.last_day
    by_last d day h e = day_by w ok d (pos span.last) day span.last_day h e is.last

    same_days : (d : ℤ) → day_of w d ≡ day_of part d
    same_days d = day_of-days w part refl d

    -- ---- assets

    abbrev sids_on : World → Option ℤ → List ℕ
    sids_on u o = unwrap_or (option_map (λ day. map (λ a. a.sid) (filter (lives_on day) u.assets)) o) []

    alive : (day : ℤ) → span.first_day ≤ℤ day → day ≤ℤ span.last_day → filter (lives_on day) part.assets ≡ filter (lives_on day) w.assets
    alive day h l = filter-filter (lives_on day) (lives_in span) (λ a e. alive_in a.start a.end day span.first_day span.last_day h l e) w.assets

    assets-kept : (d : ℤ) → pos span.first ≤ℤ d → d ≤ℤ pos span.last → living_sids w d ≡ living_sids part d
    assets-kept d h l = on_day (day_of w d) refl ∙ ap (sids_on part) (same_days d)
      where
        on_day : (o : Option ℤ) → day_of w d ≡ o → sids_on w o ≡ sids_on part o
        on_day None e = refl
        on_day (Some day) e = ap (map (λ (a : AssetRow). a.sid)) (sym (alive day (from_first d day h e) (by_last d day l e)))

    -- an asset that exists on a session of the span is kept
    of_alive : (a : ℕ) (d : ℤ) → pos span.first ≤ℤ d → d ≤ℤ pos span.last → exists w a d ≡ true → is_of w span a ≡ true
    of_alive a d h l e = on_day (day_of part d) (sym (ap (list_any (λ x. x == a)) (assets-kept d h l)) ∙ e)
      where
        on_day : (o : Option ℤ) → list_any (λ x. x == a) (sids_on part o) ≡ true → is_of w span a ≡ true
        on_day None f = absurd (true≢false (sym f))
        on_day (Some day) f =
            any-kept (λ (b : AssetRow). b.sid == a) (lives_on day) part.assets
            (sym (any-map (λ x. x == a) (λ (b : AssetRow). b.sid) (filter (lives_on day) part.assets)) ∙ f)

    -- ---- bars, as they are seen

    module _ (a : ℕ) (of : is_of w span a ≡ true) where
      bars-kept : (c : Column) (s : ℤ) → pos span.first ≤ℤ s → s <ℤ pos span.last → bar_cell w a c s ≡ bar_cell part a c s
      bars-kept c (negsuc s) h l = refl
      bars-kept c (pos s) h l =
          ap (λ o. unwrap_or (option_map (cell_of c) o) MISSING)
          (sym (find-kept (λ b. b.sid == a && b.session == s) (λ b. is_of w span b.sid && is_bar_in span b) w.bars (λ b there e. read b e)))
        where
          read : (b : Bar) → (b.sid == a && b.session == s) ≡ true → (is_of w span b.sid && is_bar_in span b) ≡ true
          read b e =
              let parts = and_parts _ _ e in
              let there : is_of w span b.sid ≡ true = ap (is_of w span) (eqb-true b.sid a parts.0) ∙ of in
              rw (there, read_in s span.first span.last b.session h l (eqb-true b.session s parts.1)) refl

      -- what is left out does nothing to a bar that is read
      idle : (c : Column) (bar high : ℤ) → span.first_day ≤ℤ bar → high ≤ℤ span.last_day
          → (e : Event) → is_between bar high e ≡ true → is_event_in span e ≡ false → effect c bar e ≡ None
      idle c bar high h m e between out = of_change e.change (rw (within bar high span.first_day span.last_day e.day h m between) at out)
        where
          of_change : (x : Change) → is_change_in span x ≡ false → change_effect c bar e.kind x ≡ None
          of_change (Scale ratio) f = absurd (true≢false f)
          of_change (Overwrite day k value) f = rw (unlike_day bar day span.first_day span.last_day h (before_last bar high span.last_day e.day m between) f) refl

      changes-kept : (c : Column) (s d : ℤ) → pos span.first ≤ℤ s → s <ℤ d → d ≤ℤ pos span.last → effects w a c s d ≡ effects part a c s d
      changes-kept c s d h l m =
          on_days (day_of w s) (day_of w d) refl refl
          ∙ ap (λ o. effects_from c o (day_of w d) (events_of part a)) (same_days s)
          ∙ ap (λ o. effects_from c (day_of part s) o (events_of part a)) (same_days d)
        where
          on_days : (x y : Option ℤ) → day_of w s ≡ x → day_of w d ≡ y → effects_from c x y (events_of w a) ≡ effects_from c x y (events_of part a)
          on_days None None e f = refl
          on_days None (Some y) e f = refl
          on_days (Some x) None e f = refl
          on_days (Some x) (Some y) e f =
              sym
              (ap (λ es. effects_in c x x y es) (events-kept a of)
              ∙ answers-kept (effect c x) (is_between x y) (is_event_in span) (idle c x y (from_first s x h e) (by_last d y m f)) (events_of w a))

      cells-kept : (c : Column) (s d : ℤ) → pos span.first ≤ℤ s → s <ℤ d → d ≤ℤ pos span.last → seen_cell w a c s d ≡ seen_cell part a c s d
      unfolding seen_cell
      cells-kept c s d h l m =
          ap (λ x. after_all x (effects w a c s d)) (bars-kept c s h (omega (arith, ints)))
          ∙ ap (after_all (bar_cell part a c s)) (changes-kept c s d h l m)

      -- ---- labels and numbers

      labels-kept : (name : List ℕ) (d : ℤ) → pos span.first ≤ℤ d → d ≤ℤ pos span.last → label_at w name a d ≡ label_at part name a d
      labels-kept name d h l = on_day (day_of w d) refl ∙ ap (label_on part.labels) (same_days d)
        where
          label_on : List LabelRow → Option ℤ → Option (List ℕ)
          label_on rows o = option_and_then (λ day. option_and_then (λ r. nonempty r.text) (last_started (filter (is_label_of name a day) rows))) o

          on_day : (o : Option ℤ) → day_of w d ≡ o → label_on w.labels o ≡ label_on part.labels o
          on_day None e = refl
          on_day (Some day) e =
              ap (option_and_then (λ (r : LabelRow). nonempty r.text))
              (sym (newest_same (λ (r : LabelRow). r.name) (λ r. r.sid) (λ r. r.start) w.labels (is_of w span) span.first_day span.last_day name a day of (from_first d day h e) (by_last d day l e)))

      numbers-kept : (f : Figure) (name : List ℕ) (d : ℤ) → pos span.first ≤ℤ d → d ≤ℤ pos span.last → known_number w f name a d ≡ known_number part f name a d
      numbers-kept f name d h l = on_day (day_of w d) refl ∙ ap (λ o. unwrap_or (option_map (number_at f part.numbers name a) o) MISSING) (same_days d)
        where
          on_day : (o : Option ℤ) → day_of w d ≡ o
              → unwrap_or (option_map (number_at f w.numbers name a) o) MISSING ≡ unwrap_or (option_map (number_at f part.numbers name a) o) MISSING
          on_day None e = refl
          on_day (Some day) e =
              ap (λ o. unwrap_or (option_map (read_of f day) o) MISSING)
              (sym (newest_same (λ (r : NumberRow). r.name) (λ r. r.sid) (λ r. r.known) w.numbers (is_of w span) span.first_day span.last_day name a day of (from_first d day h e) (by_last d day l e)))

    pub agrees : AgreeWithin w part (pos span.first) (pos span.last)
    agrees = record {
      days = λ d l. same_days d;
      assets = assets-kept;
      cells = λ a c s d h l m e. cells-kept a (of_alive a d (omega (arith, ints)) m e) c s d h l m;
      labels = λ name a d h l e. labels-kept a (of_alive a d h l e) name d h l;
      numbers = λ f name a d h l e. numbers-kept a (of_alive a d h l e) f name d h l;
    }

pub cuts_agree : CutsAgree
cuts_agree w span ok is = (is-world w span ok, agrees w span ok is)

pub cuts_have_the_rows : CutsHaveTheRows
cuts_have_the_rows w span ok p checked from to covers =
    let by : to ≤ span.last = covers.last in
    share_tables.tables w (cut w span) ok (pos span.first) (pos span.last) (agrees w span ok covers.sessions) p checked from to covers.first (omega (arith, ints))

pub pieces_make_the_table : PiecesMakeTheTable
pieces_make_the_table w one two ok p checked from mid to low high before behind =
    table-split w p from mid to low high
    ∙ ap (λ rows. rows ++ table w p (suc mid) to) (cuts_have_the_rows w one ok p checked from mid before).rows
    ∙ ap (λ rows. table (cut w one) p from mid ++ rows) (cuts_have_the_rows w two ok p checked (suc mid) to behind).rows

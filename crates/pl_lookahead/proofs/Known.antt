-- Worlds of which the same rows are known by a session are seen alike up to it, and write the same text.
use Rattle.std.proofs.Common.{◌≡◌, ℕ, suc, ◌≤◌, ℤ, pos, negsuc, ◌≤ℤ◌, ◌++◌, flat_map, Some, refl, sym, ◌∙◌, ap, arith, slice_get}
use Rattle.std.proofs.lemmas.Int.{ints}
use Rattle.pl_spec.specs.declared.Column.{Column}
use Rattle.pl_spec.specs.declared.Format.{Format}
use Rattle.pl_spec.specs.World.{World, IsWorld, events_of, day_of, bar_cell, exists}
use Rattle.pl_spec.specs.Numbers.{NumberRow, NumbersOnce, numbers_by}
use Rattle.pl_spec.specs.Lookups.{BarsOnce, LabelsOnce}
use Rattle.pl_spec.specs.Agree.{Agree}
use Rattle.pl_spec.specs.AsOf.{as_of, has_started}
use Rattle.pl_spec.specs.Window.{effects_in}
use Rattle.pl_spec.proofs.Finds.{filter-contains}
use Rattle.pl_spec.proofs.Numbers.{numbers_look_back}
use Rattle.std.proofs.Math.Path.{fun_ext}
use Rattle.std.specs.Int.RustNames.{int_le}
use Rattle.std.specs.Prelude.{unwrap_or}
use Rattle.pl_spec.specs.Lines.{day_field, line_text, sid_field}
use Rattle.pl_spec.proofs.Labels.{labels-of_days}
use Rattle.pl_pipeline.specs.Table.{Pipeline, Row, table}
use Rattle.pl_pipeline.specs.Text.{header, row_fields, row_line, text}
use Rattle.pl_laws.proofs.Alike.{day_of-days}
use Rattle.pl_laws.proofs.AsOf as as_of
use Rattle.pl_laws.proofs.Law.{SeenAlike, agree-seen}
use Rattle.pl_laws.proofs.Permuted.{order-changes-nothing}
use Rattle.pl_laws.proofs.TableLaw.{table_same}
use Rattle.pl_laws.proofs.Texts.{text_same}
use Rattle.pl_lookahead.specs.Agreement.{SameRowsUpTo, is_before}

-- each bar, each label row and each number of a world is there once
pub record HasEachOnce (w : World) : Type 0 where
  pub world : IsWorld w
  pub bars : BarsOnce w
  pub labels : LabelsOnce w
  pub numbers : NumbersOnce w.numbers

module _ (w v : World) (d : ℕ) (day : ℤ) (ok : HasEachOnce w) (ok' : IsWorld v) (same : SameRowsUpTo w v d day)
    (changes : (sid : ℕ) (c : Column) (bar low high : ℤ) → high ≤ℤ day → effects_in c bar low high (events_of w sid) ≡ effects_in c bar low high (events_of v sid)) where
  then_is_day : slice_get v.days d ≡ Some day
  then_is_day =
      sym (as_of.slice_get-take v.days (suc d) d (omega arith))
      ∙ ap (λ days. slice_get days d) (sym same.sessions)
      ∙ as_of.slice_get-take w.days (suc d) d (omega arith)
      ∙ same.is_day

  -- each agrees with what is known of it
  first : Agree (as_of w d day) w (pos d) day
  first = as_of.agrees w d day ok.world same.is_day

  second : Agree (as_of v d day) v (pos d) day
  second = as_of.agrees v d day ok' then_is_day

  bars_once : BarsOnce (as_of w d day)
  bars_once b c in_b in_c =
      ok.bars b c (filter-contains (is_before d) w.bars b in_b).0 (filter-contains (is_before d) w.bars c in_c).0

  labels_once : LabelsOnce (as_of w d day)
  labels_once r q in_r in_q =
      ok.labels r q (filter-contains (has_started day) w.labels r in_r).0 (filter-contains (has_started day) w.labels q in_q).0

  numbers_once : NumbersOnce (numbers_by day w.numbers)
  numbers_once r q in_r in_q =
      ok.numbers r q (filter-contains (λ (r : NumberRow). int_le r.known day) w.numbers r in_r).0 (filter-contains (λ (r : NumberRow). int_le r.known day) w.numbers q in_q).0

  lifetimes : (a : ℕ) (s : ℤ) → s ≤ℤ pos d → exists w a s ≡ exists v a s
  lifetimes a (pos s) h = same.lifetimes a s (omega (arith, ints))
  lifetimes a (negsuc s) h = refl

  days : (s : ℤ) → s ≤ℤ pos d → day_of w s ≡ day_of v s
  days s h = sym (first.days s h) ∙ day_of-days (as_of w d day) (as_of v d day) same.sessions s ∙ second.days s h

  pub seen-alike : SeenAlike w v (pos d) day
  seen-alike = record {
    is_day = same.is_day;
    days = days;
    bars = λ a c s h. sym (first.bars a c s h) ∙ order-changes-nothing.bars (as_of w d day) (as_of v d day) bars_once same.bars a c s ∙ second.bars a c s h;
    changes = changes;
    lifetimes = lifetimes;
    labels = λ name a s h.
        sym (first.labels name a s h)
        ∙ order-changes-nothing.labels (as_of w d day) (as_of v d day) labels_once same.sessions same.labels name a s
        ∙ second.labels name a s h;
    numbers = λ f name a x h.
        sym (numbers_look_back.without w.numbers day f name a x h)
        ∙ numbers_look_back.in_any_order (numbers_by day w.numbers) (numbers_by day v.numbers) numbers_once same.numbers f name a x
        ∙ numbers_look_back.without v.numbers day f name a x h;
  }

  -- the first world with the sessions of the second, which names them by the same days
  abbrev dated : World
  dated = record w { days = v.days }

  dated-ok : IsWorld dated
  dated-ok = record { days_ascend = ok'.days_ascend; sids_ascend = ok.world.sids_ascend; events_in_order = ok.world.events_in_order }

  dated-agrees : Agree w dated (pos d) day
  dated-agrees = record {
    is_day = same.is_day;
    days = days;
    bars = λ a c s h. on_bars a c s;
    adjustments = λ a. refl;
    lifetimes = λ a s h. rw (days s h) refl;
    labels = λ name a s h. labels-of_days w dated refl name a s (days s h);
    numbers = λ f name a x h. refl;
  }
    where
      on_bars : (a : ℕ) (c : Column) (s : ℤ) → bar_cell w a c s ≡ bar_cell dated a c s
      on_bars a c (pos s) = refl
      on_bars a c (negsuc s) = refl

  pub texts-same : (p : Pipeline) (format : Format) (from to : ℕ) → to ≤ d → text w p format (table w p from to) ≡ text v p format (table v p from to)
  unfolding text
  texts-same p format from to h =
      text_same w dated (pos d) day dated-agrees p format ok.world dated-ok from to (omega (arith, ints))
      ∙ lines-of_days
      ∙ ap (text v p format) (sym (table_same w dated (pos d) day ok.world dated-ok (agree-seen w dated (pos d) day dated-agrees) p from to (omega (arith, ints))) ∙ table_same w v (pos d) day ok.world ok' seen-alike p from to (omega (arith, ints)))
    where
      lines-of_days : text dated p format (table dated p from to) ≡ text v p format (table dated p from to)
      lines-of_days = ap (λ f. header p format ++ flat_map f (table dated p from to)) (fun_ext same_line)
        where
          same_line : (r : Row) → row_line dated p format r ≡ row_line v p format r
          same_line r = ap (λ o. line_text format (day_field format (unwrap_or o (pos 0))) (sid_field format r.sid) (row_fields p format p.columns r.values)) (day_of-days dated v refl r.session)

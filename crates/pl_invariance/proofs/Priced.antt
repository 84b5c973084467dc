-- Prices times a ratio are seen times the ratio.
use Rattle.std.proofs.Common.{◌≡◌, ℕ, suc, ◌<◌, Bool, true, false, ◌&&◌, ◌==◌, if◌then◌else◌, ℤ, pos, negsuc, List, map, filter, filter_map, find, Option, Some, None, option_map, unwrap_or, refl, sym, ◌∙◌, ap}
use Rattle.std.specs.Ordering.{int_eq}
use Rattle.std.proofs.Math.Path.{fun_ext}
use Rattle.std.proofs.lemmas.Bool.{eqb-true, true≢false}
use Rattle.pl_spec.specs.declared.AdjustmentKind.{AdjustmentKind}
use Rattle.pl_spec.specs.declared.Column.{Column}
use Rattle.pl_spec.specs.declared.Column.TheVariants.{OpenPrice, High, Low, Close, Volume}
use Rattle.pl_spec.specs.Rounding.{MISSING, Fraction, scaled}
use Rattle.pl_spec.specs.World.{World, Bar, Change, Event, Adjustment, day_of, events_of, cell_of, bar_cell}
use Rattle.pl_spec.specs.Window.{factor, same_column, change_effect, effect, is_between, effects_from, effects, after_all, seen_cell, before, downward, bar_window}
use Rattle.pl_spec.specs.Window.Effect.{Scale, Put}
use Rattle.pl_spec.proofs.Columns.{column_number-one}
use Rattle.pl_spec.proofs.Each.{map_each}
use Rattle.pl_spec.proofs.Lists.{filter-map}
use Rattle.pl_invariance.specs.Exact.{AllDivide}
use Rattle.pl_invariance.specs.Priced.{is_price, priced_bar, priced_change, priced_event, priced_world, PricesHaveUnits}
use Rattle.pl_invariance.proofs.Lists.{find-map, maps, picked-map, picked-after, each-below}
use Rattle.pl_invariance.proofs.Exact.{after_ratio, first_or_last, missing_stays}

module _ (r : Fraction) (w : World) where
  -- ---- bars

  cell_priced : (c : Column) → is_price c ≡ true → (b : Bar) → cell_of c (priced_bar r b) ≡ scaled r (cell_of c b)
  cell_priced OpenPrice p b = refl
  cell_priced High p b = refl
  cell_priced Low p b = refl
  cell_priced Close p b = refl
  cell_priced Volume p b = absurd (true≢false (sym p))

  found_priced : (c : Column) → is_price c ≡ true → (o : Option Bar) → unwrap_or (option_map (cell_of c) (option_map (priced_bar r) o)) MISSING ≡ scaled r (unwrap_or (option_map (cell_of c) o) MISSING)
  found_priced c p None = sym (missing_stays r)
  found_priced c p (Some b) = cell_priced c p b

  bar_priced : (a : ℕ) (c : Column) → is_price c ≡ true → (s : ℤ) → bar_cell (priced_world r w) a c s ≡ scaled r (bar_cell w a c s)
  bar_priced a c p (negsuc s) = sym (missing_stays r)
  bar_priced a c p (pos s) =
      ap (λ o. unwrap_or (option_map (cell_of c) o) MISSING) (find-map (λ (b : Bar). b.sid == a && b.session == s) (priced_bar r) w.bars)
      ∙ found_priced c p (find (λ (b : Bar). b.sid == a && b.session == s) w.bars)

  found_volume : (o : Option Bar) → unwrap_or (option_map (cell_of Volume) (option_map (priced_bar r) o)) MISSING ≡ unwrap_or (option_map (cell_of Volume) o) MISSING
  found_volume None = refl
  found_volume (Some b) = refl

  volume_same : (a : ℕ) (s : ℤ) → bar_cell (priced_world r w) a Volume s ≡ bar_cell w a Volume s
  volume_same a (negsuc s) = refl
  volume_same a (pos s) =
      ap (λ o. unwrap_or (option_map (cell_of Volume) o) MISSING) (find-map (λ (b : Bar). b.sid == a && b.session == s) (priced_bar r) w.bars)
      ∙ found_volume (find (λ (b : Bar). b.sid == a && b.session == s) w.bars)

  -- ---- events

  abbrev adjustment : Adjustment → Adjustment
  adjustment x = record x { event = priced_event r x.event }

  events_priced : (a : ℕ) → events_of (priced_world r w) a ≡ map (priced_event r) (events_of w a)
  events_priced a =
      ap (map (λ (x : Adjustment). x.event)) (filter-map (λ (x : Adjustment). x.sid == a) adjustment w.adjustments)
      ∙ maps (λ (x : Adjustment). x.event) adjustment (filter (λ (x : Adjustment). x.sid == a) w.adjustments)
      ∙ sym (maps (priced_event r) (λ (x : Adjustment). x.event) (filter (λ (x : Adjustment). x.sid == a) w.adjustments))

  column_is : (column c : Column) → same_column column c ≡ true → column ≡ c
  column_is column c e = column_number-one column c (eqb-true _ _ e)

  scale_same : (o : Option Fraction) → option_map Scale o ≡ option_map (after_ratio r) (option_map Scale o)
  scale_same None = refl
  scale_same (Some f) = refl

  change_priced : (c : Column) → is_price c ≡ true → (bar : ℤ) (kind : AdjustmentKind) (x : Change) → change_effect c bar kind (priced_change r x) ≡ option_map (after_ratio r) (change_effect c bar kind x)
  change_priced c p bar kind (Change.Scale f) = scale_same (factor c kind f)
  change_priced c p bar kind (Change.Overwrite day column value) = step (int_eq day bar) (same_column column c) refl
    where
      step : (e b : Bool) → same_column column c ≡ b
          → (if e && b then Some (Put (if is_price column then scaled r value else value)) else None) ≡ option_map (after_ratio r) (if e && b then Some (Put value) else None)
      step true true is = let priced : is_price column ≡ true = ap is_price (column_is column c is) ∙ p in rw priced refl
      step true false is = refl
      step false b is = refl

  change_volume : (bar : ℤ) (kind : AdjustmentKind) (x : Change) → change_effect Volume bar kind (priced_change r x) ≡ change_effect Volume bar kind x
  change_volume bar kind (Change.Scale f) = refl
  change_volume bar kind (Change.Overwrite day column value) = step (int_eq day bar) (same_column column Volume) refl
    where
      step : (e b : Bool) → same_column column Volume ≡ b
          → (if e && b then Some (Put (if is_price column then scaled r value else value)) else None) ≡ (if e && b then Some (Put value) else None)
      step true true is = let other : is_price column ≡ false = ap is_price (column_is column Volume is) in rw other refl
      step true false is = refl
      step false b is = refl

  between_priced : (c : Column) → is_price c ≡ true → (bar day : Option ℤ) (es : List Event) → effects_from c bar day (map (priced_event r) es) ≡ map (after_ratio r) (effects_from c bar day es)
  between_priced c p (Some bar) (Some day) es =
      ap (filter_map (effect c bar)) (filter-map (is_between bar day) (priced_event r) es)
      ∙ picked-map (effect c bar) (priced_event r) (filter (is_between bar day) es)
      ∙ ap (λ g. filter_map g (filter (is_between bar day) es)) (fun_ext (λ (e : Event). change_priced c p bar e.kind e.change))
      ∙ picked-after (after_ratio r) (effect c bar) (filter (is_between bar day) es)
  between_priced c p (Some bar) None es = refl
  between_priced c p None (Some day) es = refl
  between_priced c p None None es = refl

  between_volume : (bar day : Option ℤ) (es : List Event) → effects_from Volume bar day (map (priced_event r) es) ≡ effects_from Volume bar day es
  between_volume (Some bar) (Some day) es =
      ap (filter_map (effect Volume bar)) (filter-map (is_between bar day) (priced_event r) es)
      ∙ picked-map (effect Volume bar) (priced_event r) (filter (is_between bar day) es)
      ∙ ap (λ g. filter_map g (filter (is_between bar day) es)) (fun_ext (λ (e : Event). change_volume bar e.kind e.change))
  between_volume (Some bar) None es = refl
  between_volume None (Some day) es = refl
  between_volume None None es = refl

  -- ---- what is seen

  pub seen_priced : (a : ℕ) (c : Column) → is_price c ≡ true → (s d : ℤ) → AllDivide r (bar_cell w a c s) (effects w a c s d) → seen_cell (priced_world r w) a c s d ≡ scaled r (seen_cell w a c s d)
  unfolding seen_cell
  seen_priced a c p s d h =
      ap (λ x. after_all x (effects (priced_world r w) a c s d)) (bar_priced a c p s)
      ∙ ap (λ es. after_all (scaled r (bar_cell w a c s)) (effects_from c (day_of w s) (day_of w d) es)) (events_priced a)
      ∙ ap (after_all (scaled r (bar_cell w a c s))) (between_priced c p (day_of w s) (day_of w d) (events_of w a))
      ∙ first_or_last r (bar_cell w a c s) (effects w a c s d) h

  pub seen_volume : (a : ℕ) (s d : ℤ) → seen_cell (priced_world r w) a Volume s d ≡ seen_cell w a Volume s d
  unfolding seen_cell
  seen_volume a s d =
      ap (λ x. after_all x (effects (priced_world r w) a Volume s d)) (volume_same a s)
      ∙ ap (λ es. after_all (bar_cell w a Volume s) (effects_from Volume (day_of w s) (day_of w d) es)) (events_priced a)
      ∙ ap (after_all (bar_cell w a Volume s)) (between_volume (day_of w s) (day_of w d) (events_of w a))

  pub window_priced : (a : ℕ) (c : Column) → is_price c ≡ true → (size : ℕ) (d : ℤ)
      → ((n : ℕ) → n < size → AllDivide r (bar_cell w a c (before d (suc n))) (effects w a c (before d (suc n)) d))
      → bar_window (priced_world r w) c size a d ≡ map (scaled r) (bar_window w c size a d)
  window_priced a c p size d h =
      map_each (λ n. seen_cell (priced_world r w) a c (before d (suc n)) d) (λ n. scaled r (seen_cell w a c (before d (suc n)) d)) (downward size)
      (each-below (λ n. seen_cell (priced_world r w) a c (before d (suc n)) d ≡ scaled r (seen_cell w a c (before d (suc n)) d)) size (λ n l. seen_priced a c p (before d (suc n)) d (h n l)))
      ∙ sym (maps (scaled r) (λ n. seen_cell w a c (before d (suc n)) d) (downward size))

  pub window_volume : (a size : ℕ) (d : ℤ) → bar_window (priced_world r w) Volume size a d ≡ bar_window w Volume size a d
  window_volume a size d = ap (λ g. map g (downward size)) (fun_ext (λ n. seen_volume a (before d (suc n)) d))

pub prices-have-units : PricesHaveUnits
prices-have-units = record {
  cells = λ r w a c p s d h. seen_priced r w a c p s d h;
  windows = λ r w a c p size d h. window_priced r w a c p size d h;
  volumes = λ r w a size d. window_volume r w a size d;
}

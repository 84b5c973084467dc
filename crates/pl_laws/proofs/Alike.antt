-- Worlds in which whatever is looked up is the same, or does the same to each cell, have the same tables.
use Rattle.std.proofs.Common.{◌≡◌, ℕ, suc, ◌-◌, false, ◌==◌, ℤ, pos, negsuc, ◌≤ℤ◌, List, [], ◌++◌, map, filter, flat_map, Option, Some, None, option_map, unwrap_or, refl, sym, ◌∙◌, ap, arith, slice_get}
use Rattle.std.specs.List.{list_any}
use Rattle.std.proofs.Math.Path.{fun_ext}
use Rattle.std.proofs.lemmas.Int.{ints}
use Rattle.pl_spec.specs.declared.Format.{Format}
use Rattle.pl_spec.specs.declared.Column.{Column}
use Rattle.pl_spec.specs.Numbers.{number_at}
use Rattle.pl_spec.specs.Permuted.{AgreeInAll}
use Rattle.pl_spec.specs.Window.{effects_in}
use Rattle.pl_spec.specs.World.{World, IsWorld, bar_cell, day_of, events_of, exists, label_at, living_sids, lives_on}
use Rattle.pl_pipeline.specs.Term.{Term}
use Rattle.pl_pipeline.specs.Term.Term.{absent, column, node}
use Rattle.pl_pipeline.specs.Value.{empty, sort_kind, seen, value}
use Rattle.pl_pipeline.specs.Table.{Pipeline, Row, is_kept, table_row, session_rows, table}
use Rattle.pl_pipeline.specs.Text.{header, row_fields, row_line, text}
use Rattle.pl_spec.specs.Lines.{day_field, line_text, sid_field}
use Rattle.pl_spec.specs.declared.Figure.{Figure}
use Rattle.pl_laws.specs.PermutedLaws.{AgreeingWorldsAreAlike}
use Rattle.pl_laws.proofs.Law as law
use Rattle.pl_laws.proofs.Law.{SeenAlike}
use Rattle.pl_laws.proofs.TableLaw as tables

pub day_of-days : (w v : World) → w.days ≡ v.days → (s : ℤ) → day_of w s ≡ day_of v s
day_of-days w v e (pos s) = ap (λ days. slice_get days s) e
day_of-days w v e (negsuc s) = refl

-- on no session nothing exists
none_living : (w : World) (s : ℤ) → day_of w s ≡ None → living_sids w s ≡ []
none_living w s e = ap (λ o. unwrap_or (option_map (λ day. map (λ a. a.sid) (filter (lives_on day) w.assets)) o) []) e

not_there : (w : World) (a : ℕ) (s : ℤ) → day_of w s ≡ None → exists w a s ≡ false
not_there w a s e = ap (list_any (λ x. x == a)) (none_living w s e)

-- so a term is worth nothing there
empty_there : (w : World) (names : List (List ℕ)) (t : Term) (a : ℕ) (s : ℤ) → day_of w s ≡ None → value w names t a s ≡ empty (sort_kind t)
unfolding value seen
empty_there w names absent a s e = refl
empty_there w names (column c) a s e = refl
empty_there w names (node k size x y z m g) a s e = rw (not_there w a s e) refl

no_rows : (w : World) (p : Pipeline) (s : ℤ) → day_of w s ≡ None → session_rows w p s ≡ []
no_rows w p s e = ap (λ l. map (table_row w p s) (filter (is_kept w p p.screen s) l)) (none_living w s e)

-- The worlds show the same on each session: whatever is looked up is the same, and of adjustments what they
-- do to each cell.
pub record SeenInAll (w v : World) : Type 0 where
  pub days : w.days ≡ v.days
  pub bars : (a : ℕ) (c : Column) (s : ℤ) → bar_cell w a c s ≡ bar_cell v a c s
  pub changes : (a : ℕ) (c : Column) (bar low high : ℤ) → effects_in c bar low high (events_of w a) ≡ effects_in c bar low high (events_of v a)
  pub lifetimes : (a : ℕ) (s : ℤ) → exists w a s ≡ exists v a s
  pub labels : (name : List ℕ) (a : ℕ) (s : ℤ) → label_at w name a s ≡ label_at v name a s
  pub numbers : (f : Figure) (name : List ℕ) (a : ℕ) (day : ℤ)
      → number_at f w.numbers name a day ≡ number_at f v.numbers name a day

agree-all : (w v : World) → AgreeInAll w v → SeenInAll w v
agree-all w v all =
    record {
      days = all.days;
      bars = all.bars;
      changes = λ a c bar low high. ap (effects_in c bar low high) (all.adjustments a);
      lifetimes = all.lifetimes;
      labels = all.labels;
      numbers = all.numbers;
    }

module _ (w v : World) (ok : IsWorld w) (ok' : IsWorld v) (all : SeenInAll w v) where
  same-day : (s : ℤ) → day_of w s ≡ day_of v s
  same-day = day_of-days w v all.days

  up_to : (d day : ℤ) → day_of w d ≡ Some day → SeenAlike w v d day
  up_to d day e = record {
    is_day = e;
    days = λ s l. same-day s;
    bars = λ a c s l. all.bars a c s;
    changes = λ a c bar low high h. all.changes a c bar low high;
    lifetimes = λ a s l. all.lifetimes a s;
    labels = λ name a s l. all.labels name a s;
    numbers = λ f name a x l. all.numbers f name a x;
  }

  here : (s : ℤ) → s ≤ℤ s
  here s = omega (arith, ints)

  values_same : (names : List (List ℕ)) (t : Term) (a : ℕ) (s : ℤ) → value w names t a s ≡ value v names t a s
  values_same names t a s = on_day (day_of w s) refl
    where
      on_day : (o : Option ℤ) → day_of w s ≡ o → value w names t a s ≡ value v names t a s
      on_day (Some day) e = law.values_agree w v s day ok ok' (up_to s day e) names t a s (here s)
      on_day None e = empty_there w names t a s e ∙ sym (empty_there v names t a s (sym (same-day s) ∙ e))

  rows_same : (p : Pipeline) (s : ℤ) → session_rows w p s ≡ session_rows v p s
  rows_same p s = on_day (day_of w s) refl
    where
      on_day : (o : Option ℤ) → day_of w s ≡ o → session_rows w p s ≡ session_rows v p s
      on_day (Some day) e = tables.rows_same w v s day ok ok' (up_to s day e) p s (here s)
      on_day None e = no_rows w p s e ∙ sym (no_rows v p s (sym (same-day s) ∙ e))

  pub table_same : (p : Pipeline) (from to : ℕ) → table w p from to ≡ table v p from to
  table_same p from to =
      tables.range_same (λ s. session_rows w p (pos s)) (λ s. session_rows v p (pos s)) (suc to - from) from (λ k m h. rows_same p (pos k))

  line_same : (p : Pipeline) (format : Format) (r : Row) → row_line w p format r ≡ row_line v p format r
  line_same p format r =
      ap (λ o. line_text format (day_field format (unwrap_or o (pos 0))) (sid_field format r.sid) (row_fields p format p.columns r.values)) (same-day r.session)

  pub text_same : (p : Pipeline) (format : Format) (from to : ℕ) → text w p format (table w p from to) ≡ text v p format (table v p from to)
  unfolding text
  text_same p format from to =
      ap (λ rows. header p format ++ flat_map (row_line w p format) rows) (table_same p from to)
      ∙ ap (λ f. header p format ++ flat_map f (table v p from to)) (fun_ext (line_same p format))

pub alike : AgreeingWorldsAreAlike
alike =
    record {
      values = λ w v ok ok' all. values_same w v ok ok' (agree-all w v all);
      rows = λ w v ok ok' all. table_same w v ok ok' (agree-all w v all);
      texts = λ w v ok ok' all. text_same w v ok ok' (agree-all w v all);
    }

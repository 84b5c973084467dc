-- Worlds that show the same from a session to another have the same tables there, which are written alike.
use Rattle.std.proofs.Common.{◌≡◌, ℕ, zero, suc, ◌+◌, ◌-◌, ◌<◌, ◌≤◌, ℤ, pos, ◌<ℤ◌, ◌≤ℤ◌, List, [], ◌∷◌, ◌++◌, AllPairs, map, filter, flat_map, option_to_list, unwrap_or, Option, Some, None, refl, ◌∙◌, ap, arith}
use Rattle.std.proofs.Math.Path.{fun_ext}
use Rattle.std.specs.List.{range_with_len}
use Rattle.std.proofs.lemmas.Int.{ints}
use Rattle.pl_spec.specs.declared.Format.{Format}
use Rattle.pl_spec.specs.Lines.{day_field, line_text, sid_field}
use Rattle.pl_spec.specs.World.{World, living_sids}
use Rattle.pl_spec.proofs.Each.{Each, each_more, each_all, each_in_map, each_in_flat, map_each}
use Rattle.pl_pipeline.specs.Graph.{reach}
use Rattle.pl_pipeline.specs.Table.{NamedColumn, Pipeline, Row, value_of, is_kept, kept_sids, table_row, session_rows, table}
use Rattle.pl_pipeline.specs.Term.{term_at}
use Rattle.pl_pipeline.specs.Text.{header, row_fields, row_line, text}
use Rattle.pl_pipeline.specs.Value.{Value, holds}
use Rattle.pl_laws.proofs.Lows.{reach-rises}
use Rattle.pl_laws.proofs.Reaches.{AllFrom, below_least}
use Rattle.pl_laws.proofs.TableLaw.{range_same}
use Rattle.pl_terms.specs.Checked.{IsChecked}
use Rattle.pl_terms.specs.Uses.{outputs}
use Rattle.pl_terms.proofs.Windowed.{windowed}
use Rattle.pl_cut.specs.Within.{AgreeWithin}
use Rattle.pl_cut.specs.Laws.{ReachesFrom, HaveOneTable, AgreeingWorldsShareTables}
use Rattle.pl_cut.proofs.Values.{values_same}

-- ---- lists

-- what holds of each output holds of each column's term, and of the screen
columns_from : (first : ℤ) (f : ℕ → ℤ) (cs : List NamedColumn) (ss : List ℕ) → AllFrom first (map f (map (λ c. c.term) cs ++ ss))
    → Each (λ c. first ≤ℤ f c.term) cs × AllFrom first (map f ss)
columns_from first f [] ss h = (tt, h)
columns_from first f (c ∷ cs) ss h = let rest = columns_from first f cs ss h.1 in ((h.0, rest.0), rest.1)

flat_map_each : {X Y : Type 0} (f g : X → List Y) (xs : List X) → Each (λ x. f x ≡ g x) xs → flat_map f xs ≡ flat_map g xs
flat_map_each f g [] h = refl
flat_map_each f g (x ∷ xs) h = ap (λ l. l ++ flat_map f xs) h.0 ∙ ap (λ l. g x ++ l) (flat_map_each f g xs h.1)

each_of_range : (P : ℕ → Type 0) (n from : ℕ) → ((k : ℕ) → from ≤ k → k < from + n → P k) → Each P (range_with_len from n)
each_of_range P zero from h = tt
each_of_range P (suc n) from h = (h from (omega arith) (omega arith), each_of_range P n (from + 1) (λ k m l. h k (omega arith) (omega arith)))

module _ (w v : World) (rise : AllPairs (λ a b. a <ℤ b) w.days) (first last : ℤ) (same : AgreeWithin w v first last) (p : Pipeline) (checked : IsChecked p)
    (from to : ℕ) (deep : ReachesFrom w.days p from first) (by : pos to ≤ℤ last) where
  reach_of : ℕ → ℤ
  reach_of t = reach w.days (term_at p.graph t) (pos from)

  outputs_from : Each (λ c. first ≤ℤ reach_of c.term) p.columns × AllFrom first (map reach_of (option_to_list p.screen))
  unfolding reach_of
  outputs_from = columns_from first reach_of p.columns (option_to_list p.screen) (below_least first (pos from) (map reach_of (outputs p)) deep).1

  -- an output is worth the same on each session of the range
  worth_same : (t : ℕ) → first ≤ℤ reach_of t → (a d : ℕ) → from ≤ d → d ≤ to → value_of w p t a (pos d) ≡ value_of v p t a (pos d)
  unfolding reach_of
  worth_same t h a d l m =
      let later : reach_of t ≤ℤ reach w.days (term_at p.graph t) (pos d) = reach-rises w.days rise (term_at p.graph t) (pos from) (pos d) (omega (arith, ints)) in
      values_same w v first last same p.names (term_at p.graph t) (windowed p checked t) a (pos d) (omega (arith, ints)) (omega (arith, ints))

  screened : (o : Option ℕ) → AllFrom first (map reach_of (option_to_list o)) → (d : ℕ) → from ≤ d → d ≤ to → is_kept w p o (pos d) ≡ is_kept v p o (pos d)
  screened None h d l m = refl
  screened (Some t) h d l m = fun_ext (λ a. ap holds (worth_same t h.0 a d l m))

  first_before : first ≤ℤ pos from
  unfolding reach_of
  first_before = (below_least first (pos from) (map reach_of (outputs p)) deep).0

  kept_same : (d : ℕ) → from ≤ d → d ≤ to → kept_sids w p (pos d) ≡ kept_sids v p (pos d)
  kept_same d l m =
      let start : first ≤ℤ pos from = first_before in
      ap (λ q. filter q (living_sids w (pos d))) (screened p.screen outputs_from.1 d l m)
      ∙ ap (filter (is_kept v p p.screen (pos d))) (same.assets (pos d) (omega (arith, ints)) (omega (arith, ints)))

  row_same : (d : ℕ) → from ≤ d → d ≤ to → table_row w p (pos d) ≡ table_row v p (pos d)
  row_same d l m = fun_ext (λ a. ap (made a) (map_each (λ c. value_of w p c.term a (pos d)) (λ c. value_of v p c.term a (pos d)) p.columns (each_more _ _ p.columns (λ c h. worth_same c.term h a d l m) outputs_from.0)))
    where
      made : ℕ → List Value → Row
      made a vs = record { session = pos d; sid = a; values = vs }

  rows_same : (d : ℕ) → from ≤ d → d ≤ to → session_rows w p (pos d) ≡ session_rows v p (pos d)
  rows_same d l m = ap (λ f. map f (kept_sids w p (pos d))) (row_same d l m) ∙ ap (map (table_row v p (pos d))) (kept_same d l m)

  table_same : table w p from to ≡ table v p from to
  table_same = range_same (λ d. session_rows w p (pos d)) (λ d. session_rows v p (pos d)) (suc to - from) from (λ d l m. rows_same d l (omega arith))

  -- a row's line shows of the world the day of its session alone
  lines_same : (format : Format) → Each (λ r. row_line w p format r ≡ row_line v p format r) (table v p from to)
  lines_same format =
      each_in_flat _ (λ d. session_rows v p (pos d)) (range_with_len from (suc to - from))
      (each_of_range _ (suc to - from) from (λ d l m. each_in_map _ (table_row v p (pos d)) (kept_sids v p (pos d)) (each_all _ (kept_sids v p (pos d)) (λ a. dated d a (omega (arith, ints))))))
    where
      dated : (d a : ℕ) → pos d ≤ℤ last → row_line w p format (table_row v p (pos d) a) ≡ row_line v p format (table_row v p (pos d) a)
      dated d a l = ap (λ o. line_text format (day_field format (unwrap_or o (pos 0))) (sid_field format a) (row_fields p format p.columns (table_row v p (pos d) a).values)) (same.days (pos d) l)

  pub one_table : HaveOneTable w v p from to
  unfolding text
  one_table = record {
    rows = table_same;
    texts = λ format.
        ap (λ rows. header p format ++ flat_map (row_line w p format) rows) table_same
        ∙ ap (λ body. header p format ++ body) (flat_map_each (row_line w p format) (row_line v p format) (table v p from to) (lines_same format));
  }

pub share_tables : AgreeingWorldsShareTables
share_tables = record {
  values = λ w v ok first last same names t wide a d h l. values_same w v first last same names t wide a d h l;
  tables = λ w v ok first last same p checked from to deep by. one_table w v ok.days_ascend first last same p checked from to deep by;
}

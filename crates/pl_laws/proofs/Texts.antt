-- What came to be known later doesn't change the text of a table.
use Rattle.std.proofs.Common.{◌≡◌, ℕ, zero, suc, ◌+◌, ◌-◌, ◌<◌, ◌≤◌, ℤ, pos, ◌≤ℤ◌, List, [], ◌∷◌, ◌++◌, map, flat_map, unwrap_or, refl, sym, ◌∙◌, ap, arith}
use Rattle.std.specs.List.{range_with_len}
use Rattle.std.proofs.lemmas.Grind.{flat_map-append}
use Rattle.std.proofs.lemmas.Int.{ints}
use Rattle.pl_spec.specs.declared.Format.{Format}
use Rattle.pl_spec.specs.World.{World, IsWorld}
use Rattle.pl_spec.specs.Agree.{Agree}
use Rattle.pl_pipeline.specs.Table.{Pipeline, Row, kept_sids, table_row, session_rows, table}
use Rattle.pl_pipeline.specs.Text.{header, row_fields, row_line, text}
use Rattle.pl_spec.specs.Lines.{day_field, line_text, sid_field}
use Rattle.pl_laws.proofs.Law.{agree-seen}
use Rattle.pl_laws.proofs.TableLaw.{table_same}

module _ (w v : World) (d day : ℤ) (agree : Agree w v d day) (p : Pipeline) (format : Format) where
  lines_same : (s : ℤ) → s ≤ℤ d → (sids : List ℕ) → flat_map (row_line w p format) (map (table_row v p s) sids) ≡ flat_map (row_line v p format) (map (table_row v p s) sids)
  lines_same s l [] = refl
  lines_same s l (a ∷ more) =
      ap (λ o. line_text format (day_field format (unwrap_or o (pos 0))) (sid_field format a) (row_fields p format p.columns (table_row v p s a).values) ++ flat_map (row_line w p format) (map (table_row v p s) more)) (agree.days s l)
      ∙ ap (λ ls. row_line v p format (table_row v p s a) ++ ls) (lines_same s l more)

  abbrev rows_from : ℕ → ℕ → List Row
  rows_from from n = flat_map (λ s. session_rows v p (pos s)) (range_with_len from n)

  sessions_same : (n from : ℕ) → ((k : ℕ) → from ≤ k → k < from + n → pos k ≤ℤ d) → flat_map (row_line w p format) (rows_from from n) ≡ flat_map (row_line v p format) (rows_from from n)
  sessions_same zero from h = refl
  sessions_same (suc n) from h =
      let first = session_rows v p (pos from) in
      let rest = rows_from (from + 1) n in
      flat_map-append (row_line w p format) first rest
      ∙ ap (λ l. l ++ flat_map (row_line w p format) rest) (lines_same (pos from) (h from (omega arith) (omega arith)) (kept_sids v p (pos from)))
      ∙ ap (λ l. flat_map (row_line v p format) first ++ l) (sessions_same n (from + 1) (λ k m l. h k (omega arith) (omega arith)))
      ∙ sym (flat_map-append (row_line v p format) first rest)

  pub text_same : IsWorld w → IsWorld v → (from to : ℕ) → pos to ≤ℤ d → text w p format (table w p from to) ≡ text v p format (table v p from to)
  unfolding text
  text_same ok ok' from to l =
      ap (λ rows. header p format ++ flat_map (row_line w p format) rows) (table_same w v d day ok ok' (agree-seen w v d day agree) p from to l)
      ∙ ap (λ body. header p format ++ body) (sessions_same (suc to - from) from (λ k m h. omega (arith, ints)))

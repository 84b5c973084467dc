-- The value of a column for an asset that is kept.
use Rattle.std.proofs.Common.{◌≡◌, ℕ, ◌<◌, true, ℤ, pos, List, length, get_or, Some, option_map, slice_get, refl, sym, ◌∙◌, ap, subst, arith}
use Rattle.std.proofs.lemmas.Option.{get_or_from_slice_get, slice_get-get_or, slice_get-map, slice_get_read, same_Some}
use Rattle.pl_spec.specs.Parts.{sid_at}
use Rattle.pl_spec.specs.Rounding.{IsCell}
use Rattle.pl_pipeline.specs.Table.{NamedColumn, Pipeline, in_array, value_of}
use Rattle.pl_spec.specs.World.{World}
use Rattle.pl_cross.specs.Arrays.{sid_in}
use Rattle.pl_terms.specs.Checked.{pipeline_of}
use Rattle.pl_terms.specs.Uses.{is_used}
use Rattle.pl_terms.specs.declared.checked.NamedColumn as code
use Rattle.pl_terms.specs.declared.node.TermId.{TermId}
use Rattle.pl_planner.proofs.Marks.{column-within}
use Rattle.pl_daily.specs.Days.{Start, FedDay, fed, last_session}
use Rattle.pl_daily.specs.declared.term_day.TermCells.{TermCells}
use Rattle.pl_daily.specs.Held.{AreTermCells}
use Rattle.pl_daily.specs.Rows.{sids_of}
use Rattle.pl_daily.proofs.DayByDay.{fed_texts}
use Rattle.pl_daily.specs.declared.daily.Daily.TheInside.{Inside}
use Rattle.pl_daily.specs.Daily.{HasBeenFed, start_in, world_in}
use Rattle.pl_daily.specs.View.{IsInside, held_of}
use Rattle.pl_daily.proofs.Firsts.{column-at}
use Rattle.pl_daily.proofs.KeptPlaces.{sid_is}
use Rattle.pl_daily.proofs.Outputs.{column-term-used}

module _ (d : Inside) (i : IsInside d) (column : ℕ) (t : TermId) (named : option_map (λ (c : code.NamedColumn). c.term) (slice_get d.checked.now.columns column) ≡ Some t) where
  abbrev p : Pipeline
  p = pipeline_of d.checked.now

  used : is_used p t.0 ≡ true
  used = column-term-used d.checked.now i.checked column t named

  pub term_in : t.0 < length d.terms.items
  term_in = let l = column-within d.checked.now i.checked column t named in omega (arith, l, i.terms.many)

  module _ (x : TermCells) (is : x ≡ get_or d.terms.items t.0 x) where
    at : slice_get d.terms.items t.0 ≡ Some x
    at = slice_get_read d.terms.items (length d.terms.items) t.0 x refl term_in is

    cells : AreTermCells (length d.assets.now) x
    cells = i.terms.room.full t.0 x used at

    module _ (k col : ℕ) (known : k < length d.kept.items) (col_is : col ≡ get_or d.kept.items k col) where
      col_in : col < length d.assets.now
      col_in = let h : get_or d.kept.items k col < length d.assets.now = i.kept k col known in omega (arith, h, col_is)

      pub col_row : col < length x.row.items
      col_row = omega (arith, col_in, cells.row)

      module _ (cell : ℤ) (cell_is : cell ≡ get_or x.row.items col cell) where
        pub is_cell : IsCell cell
        is_cell = subst IsCell (sym cell_is) (cells.cells col cell col_row)

        pub is_value : (days : List FedDay) (c : NamedColumn) (a : ℕ) → HasBeenFed (held_of d) days → slice_get p.columns column ≡ Some c → slice_get d.kept.items k ≡ Some a
            → cell ≡ in_array d.labels.now.texts (value_of (world_in (held_of d) days) p c.term (sid_at d.assets.now a) (last_session days))
        is_value days c a stands at_c at_a =
            let g : Start = start_in (held_of d) in
            let w : World = fed g days in
            let term_of : NamedColumn → ℕ = λ x. x.term in
            let same : t.0 ≡ c.term = same_Some t.0 c.term (sym (column-at d.checked.now.columns column t named) ∙ slice_get-map term_of p.columns column ∙ ap (option_map term_of) at_c) in
            let here : col ≡ a = col_is ∙ get_or_from_slice_get d.kept.items k a col at_a in
            let first : get_or x.row.items col cell ≡ get_or x.row.items col (pos 0) = get_or_from_slice_get x.row.items col (get_or x.row.items col (pos 0)) cell (slice_get-get_or x.row.items col (pos 0) col_row) in
            cell_is ∙ first ∙ (stands.terms t.0 x used at).row col col_in
            ∙ ap (λ texts. in_array texts (value_of w p t.0 (sid_in (sids_of d.assets.now) col) (last_session days))) (fed_texts g days)
            ∙ ap (λ s. in_array d.labels.now.texts (value_of w p t.0 s (last_session days))) (sid_is d.assets.now col col_in ∙ ap (sid_at d.assets.now) here)
            ∙ ap (λ u. in_array d.labels.now.texts (value_of w p u (sid_at d.assets.now a) (last_session days))) same

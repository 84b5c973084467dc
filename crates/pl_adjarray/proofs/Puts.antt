-- A cell that is put into the row of its day.
use Rattle.std.proofs.Common.{◌≡◌, ◌≢◌, ℕ, ◌+◌, ◌-◌, ◌<◌, ◌≤◌, ◌&&◌, Bool, true, false, cond, ℤ, pos, List, length, slice_get, Option, Some, None, position, refl, sym, ◌∙◌, ap, arith}
use Rattle.std.specs.Prelude.{option_to_list}
use Rattle.std.specs.Ordering.{int_eq}
use Rattle.std.proofs.Math.ListN.{set}
use Rattle.std.proofs.lemmas.Int.{ints}
use Rattle.std.proofs.lemmas.List.{get_or-set_same, get_or-set_other}
use Rattle.pl_spec.specs.declared.Column.{Column}
use Rattle.pl_spec.specs.Window.{after_all, same_column}
use Rattle.pl_spec.specs.Window.Effect.{Put}
use Rattle.pl_calendar.specs.Days.{AreDays}
use Rattle.pl_bars.proofs.BarsSaid.{day_form}
use Rattle.pl_adjarray.specs.Buffered.{cell_at}

-- ---- the session of a day

module _ (days : List ℤ) (up : AreDays days) (day : ℤ) (o : Option ℕ) (e : o ≡ position (λ d. int_eq d day) days) where
  pub found_day : (s : ℕ) → o ≡ Some s → slice_get days s ≡ Some day
  found_day s f = (day_form days up day s).0 (sym e ∙ f)

  pub found_at : (s k : ℕ) → o ≡ Some s → slice_get days k ≡ Some day → s ≡ k
  found_at s k f at = let both : Some s ≡ Some k = sym f ∙ e ∙ (day_form days up day k).1 at in cc

  pub found_none : (k : ℕ) → o ≡ None → slice_get days k ≡ Some day → ⊥
  found_none k f at = let bad : None ≡ Some k = sym f ∙ e ∙ (day_form days up day k).1 at in cc

  -- ---- the cell in its row, and those in others

  pub put_own : (cells : List ℤ) (at first session j : ℕ) (value : ℤ) → o ≡ Some session → slice_get days (first + j) ≡ Some day → at + j < length cells
      → cell_at (set cells (at + (session - first)) value) (at + j) ≡ value
  put_own cells at first session j value f there inside =
      let same : session ≡ first + j = found_at session (first + j) f there in
      let place : at + (session - first) ≡ at + j = omega (arith, same) in
      rw place (get_or-set_same cells (at + j) value (pos 0) inside)

  pub put_other : (cells : List ℤ) (at first session j : ℕ) (bar value : ℤ) → o ≡ Some session → first ≤ session → slice_get days (first + j) ≡ Some bar → bar ≢ day
      → cell_at (set cells (at + (session - first)) value) (at + j) ≡ cell_at cells (at + j)
  put_other cells at first session j bar value f low there other =
      get_or-set_other cells (at + (session - first)) (at + j) value (pos 0)
      (λ same.
      let it : first + j ≡ session = omega (arith, same) in
      let both : Some bar ≡ Some day = sym there ∙ ap (slice_get days) it ∙ found_day session f in
      let is : bar ≡ day = cc in other is)

-- ---- what an overwriting does

pub put_effect : (c own : Column) (day bar value old new : ℤ) → same_column own c ≡ true → (bar ≡ day → new ≡ value) → (bar ≢ day → new ≡ old)
    → new ≡ after_all old (option_to_list (cond (int_eq day bar && same_column own c) (Some (Put value)) None))
put_effect c own day bar value old new same put kept = here (int_eq day bar) refl
  where
    here : (b : Bool) → int_eq day bar ≡ b → new ≡ after_all old (option_to_list (cond (b && same_column own c) (Some (Put value)) None))
    here true t = let is : bar ≡ day = grind (arith, ints) in rw same (put is)
    here false t = kept (λ is. absurd (grind (arith, ints)))

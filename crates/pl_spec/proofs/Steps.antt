-- What an event does to one bar and to another.
use Rattle.std.proofs.Common.{◌≡◌, ℕ, ◌+◌, Bool, true, false, ◌&&◌, cond, ℤ, List, [], ◌∷◌, Option, Some, None, refl, sym, ◌∙◌, ap, zero-add, filter, filter_map}
use Rattle.std.proofs.lemmas.List.Sums.{sum_by-cons}
use Rattle.std.specs.Ordering.{int_eq}
use Rattle.pl_spec.specs.declared.Column.{Column}
use Rattle.pl_spec.specs.World.{Event, Change}
use Rattle.pl_spec.specs.World.Change.{Scale, Overwrite}
use Rattle.pl_spec.specs.Window.{Effect, change_effect, effect, is_between, same_column, step_of, step_count}
use Rattle.pl_spec.specs.Buffered.{BarsAreAlike}

-- the steps of one effect, or of none
steps_of : Option Effect → ℕ
steps_of None = 0
steps_of (Some f) = step_of f

first_steps : (h : Event → Option Effect) (e : Event) (es : List Event) → step_count (filter_map h (e ∷ es)) ≡ steps_of (h e) + step_count (filter_map h es)
unfolding steps_of
first_steps h e es = here (h e) refl
  where
    here : (o : Option Effect) → h e ≡ o → step_count (filter_map h (e ∷ es)) ≡ steps_of o + step_count (filter_map h es)
    here None q = rw q (sym (zero-add (step_count (filter_map h es))))
    here (Some f) q = rw q (sum_by-cons step_of f (filter_map h es))

put_none : (b : Bool) (value : ℤ) → steps_of (cond b (Some (Effect.Put value)) None) ≡ 0
unfolding steps_of
put_none true value = refl
put_none false value = refl

alike : (c : Column) (bar other : ℤ) (e : Event) → steps_of (effect c bar e) ≡ steps_of (effect c other e)
unfolding steps_of
alike c bar other e = here e.change refl
  where
    here : (change : Change) → e.change ≡ change → steps_of (change_effect c bar e.kind e.change) ≡ steps_of (change_effect c other e.kind e.change)
    here (Scale ratio) q = rw q refl
    here (Overwrite day k value) q = rw q (put_none (int_eq day bar && same_column k c) value ∙ sym (put_none (int_eq day other && same_column k c) value))

steps-alike : (c : Column) (bar other : ℤ) (es : List Event) → step_count (filter_map (effect c bar) es) ≡ step_count (filter_map (effect c other) es)
steps-alike c bar other [] = refl
steps-alike c bar other (e ∷ es) =
    first_steps (effect c bar) e es
    ∙ ap (λ n. n + step_count (filter_map (effect c bar) es)) (alike c bar other e)
    ∙ ap (λ n. steps_of (effect c other e) + n) (steps-alike c bar other es)
    ∙ sym (first_steps (effect c other) e es)

pub bars-alike : BarsAreAlike
bars-alike = record {
  ratios = λ c bar other e ratio q. rw q refl;
  steps = λ c bar other low high es. steps-alike c bar other (filter (is_between low high) es);
}

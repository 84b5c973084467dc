use Rattle.std.proofs.Common.{◌≡◌, ℕ, ◌<◌, ◌≤◌, ◌∙◌, Bor, List, Option, Some, None, IfSome, MatchOption, length, get_or, slice_get, option_copied, ap, refl, sym}
use Rattle.std.specs.List.{HoldsAt}
use Rattle.std.proofs.lemmas.Option.{slice_get_past, slice_get_read}
use Rattle.pl_world.proofs.parts.input_at.Goals as goal

got : {X : Type 0} (r : Option (Bor X)) (xs : List X) (i : ℕ) → IfSome r (λ x. x.now ≡ get_or xs i x.now)
    → MatchOption r (length xs ≤ i) (λ x. (i < length xs) × HoldsAt (λ y. x.now ≡ y) xs i) → option_copied r ≡ slice_get xs i
got None xs i read there = sym (slice_get_past xs i there)
got (Some x) xs i read there = sym (slice_get_read xs (length xs) i x.now refl there.0 read)

pub returns : goal.returns
returns c =
    let found = c.get.ensures.lookup in
    c.copied.ensures ∙ got c.get.result c.as_slice.result.now c.args.place found.1 found.3 ∙ ap (λ xs. slice_get xs c.args.place) c.as_slice.ensures.value

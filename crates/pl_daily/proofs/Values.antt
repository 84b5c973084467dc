-- What terms were worth stays.
use Rattle.std.proofs.Common.{◌≡◌, ℕ, pos, negsuc, ◌≤ℤ◌, List, [], ◌∷◌, length, refl, sym, ◌∙◌, ap, arith}
use Rattle.std.proofs.lemmas.Int.{ints}
use Rattle.pl_spec.specs.Rounding.{MISSING}
use Rattle.pl_pipeline.specs.Term.{Term}
use Rattle.pl_pipeline.specs.Term.Term.{absent, column, node}
use Rattle.pl_pipeline.specs.Value.{Value, empty, sort_over, sort_kind, seen, value}
use Rattle.pl_pipeline.specs.Value.Value.{Number}
use Rattle.pl_spec.specs.Window.{before}
use Rattle.pl_spec.specs.World.{World}
use Rattle.pl_laws.proofs.Law.{agree-seen, values_agree}
use Rattle.pl_daily.specs.Days.{fed}
use Rattle.pl_daily.specs.Laws.{ValuesStay}
use Rattle.pl_daily.proofs.Fed.{agrees, fed_is_a_world}
use Rattle.pl_daily.proofs.Moves.{below_none}

-- what stands where there is no session
abbrev pub nobody : Term → Value
nobody absent = Number MISSING
nobody (column c) = Number MISSING
nobody (node k n x y z m p) = empty (sort_over k (sort_kind x))

pub value_below : (w : World) (names : List (List ℕ)) (t : Term) (a s : ℕ) → value w names t a (negsuc s) ≡ nobody t
unfolding value seen
value_below w names absent a s = refl
value_below w names (column c) a s = refl
value_below w names (node k n x y z m p) a s = refl

pub values_stay : ValuesStay
values_stay g next [] start are names t a n =
    ap (value (fed g (next ∷ [])) names t a) (below_none n) ∙ value_below (fed g (next ∷ [])) names t a n
    ∙ sym (ap (value (fed g []) names t a) (below_none n) ∙ value_below (fed g []) names t a n)
values_stay g next (now ∷ earlier) start are names t a n =
    sym (values_agree (fed g (now ∷ earlier)) (fed g (next ∷ now ∷ earlier)) (pos (length earlier)) now.day (fed_is_a_world g (now ∷ earlier) start are.0) (fed_is_a_world g (next ∷ now ∷ earlier) start are)
    (agree-seen (fed g (now ∷ earlier)) (fed g (next ∷ now ∷ earlier)) (pos (length earlier)) now.day (agrees g now next earlier start are)) names t a (before (pos (length earlier)) n) (by_it (length earlier) n))
  where
    by_it : (s n : ℕ) → before (pos s) n ≤ℤ pos s
    by_it s n = omega (arith, ints)

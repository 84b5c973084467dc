-- A mask that every existing asset passes changes no value.
use Rattle.std.proofs.Common.{◌≡◌, ℕ, Bool, true, false, ◌&&◌, ◌==◌, cond, ℤ, List, [], ◌∷◌, map, filter, refl, ap}
use Rattle.std.specs.List.{list_any}
use Rattle.std.proofs.lemmas.Bool.{eq-eqb, or_left, or_right}
use Rattle.pl_spec.specs.Rounding.{is_present}
use Rattle.pl_spec.specs.World.{World, exists, living_sids}
use Rattle.pl_pipeline.specs.Kind.{Kind, CrossKind}
use Rattle.pl_pipeline.specs.Kind.Kind.{Cross}
use Rattle.pl_pipeline.specs.Term.{Term}
use Rattle.pl_pipeline.specs.Term.Term.{absent, column, node}
use Rattle.pl_pipeline.specs.Value.{Operands, part_of, number_of, holds, value_of_part, passes, in_group, entry, counts_for, eligible, group_of, sort_over, sort_kind, empty, kind_value, View, Own, seen_operands, seen, value}
use Rattle.pl_pipeline.specs.Value.Part.{Nothing}

-- two tests that agree on what stands in a list leave the same of it
filter-agree : (p q : ℕ → Bool) (xs : List ℕ) → ((b : ℕ) → list_any (λ x. x == b) xs ≡ true → p b ≡ q b) → filter p xs ≡ filter q xs
filter-agree p q [] h = refl
filter-agree p q (x ∷ xs) h =
    let front : p x ≡ q x = h x (or_left (x == x) (list_any (λ y. y == x) xs) (eq-eqb x x refl)) in
    let rest : filter p xs ≡ filter q xs = filter-agree p q xs (λ b e. h b (or_right (x == b) (list_any (λ y. y == b) xs) e)) in
    rw (front, rest) refl

module _ (w : World) (names : List (List ℕ)) (o : Operands) (d : ℤ) (open_to_all : (b : ℕ) → exists w b d ≡ true → passes o.mask b d ≡ true) where
  abbrev unmasked : Operands
  unmasked = record o { mask = Nothing }

  eligible-open : (k : CrossKind) (a : ℕ) → eligible w k o a d ≡ eligible w k unmasked a d
  eligible-open k a =
      ap (map (entry o.first d))
      (filter-agree (counts_for k o a d) (counts_for k unmasked a d) (living_sids w d)
      (λ b e. ap (λ t. t && is_present (number_of (value_of_part o.first b d)) && in_group (group_of k o.first o.group) a d b) (open_to_all b e)))

  step-open : (kind : Kind) (size a : ℕ) → kind_value w names kind size o a d ≡ kind_value w names kind size unmasked a d
  unfolding kind_value
  step-open (Cross k) size a = rw (eligible-open k a) refl
  step-open kind size a = refl

module _ (w : World) (names : List (List ℕ)) where
  -- every existing asset passes the term as a mask
  abbrev pub IsOpen : Term → Type 0
  IsOpen mask = (b : ℕ) (s : ℤ) → exists w b s ≡ true → holds (value w names mask b s) ≡ true

  passes-open : (mask : Term) → IsOpen mask → (b : ℕ) (s : ℤ) → exists w b s ≡ true → passes (part_of mask (value w names mask)) b s ≡ true
  unfolding value seen
  passes-open absent open_to_all b s e = refl
  passes-open (column c) open_to_all b s e = open_to_all b s e
  passes-open (node k size x y z m g) open_to_all b s e = open_to_all b s e

  pub seen-open : (kind : Kind) (size : ℕ) (x y z mask group : Term) → IsOpen mask → (view : View) (a : ℕ) (d : ℤ)
      → seen w names (node kind size x y z mask group) view a d ≡ seen w names (node kind size x y z absent group) view a d
  unfolding value seen
  seen-open kind size x y z mask group open_to_all view a d = here (exists w a d) refl
    where
      here : (b : Bool) → exists w a d ≡ b
          → cond (b && passes (part_of mask (value w names mask)) a d) (kind_value w names kind size (seen_operands w names (node kind size x y z mask group) view d) a d) (empty (sort_over kind (sort_kind x)))
          ≡ cond (b && true) (kind_value w names kind size (seen_operands w names (node kind size x y z absent group) view d) a d) (empty (sort_over kind (sort_kind x)))
      here false e = refl
      here true e = rw (passes-open mask open_to_all a d e) (step-open w names (seen_operands w names (node kind size x y z mask group) view d) d (λ b f. passes-open mask open_to_all b d f) kind size a)

  pub value-open : (kind : Kind) (size : ℕ) (x y z mask group : Term) → IsOpen mask → (a : ℕ) (d : ℤ)
      → value w names (node kind size x y z mask group) a d ≡ value w names (node kind size x y z absent group) a d
  unfolding value
  value-open kind size x y z mask group open_to_all a d = seen-open kind size x y z mask group open_to_all Own a d

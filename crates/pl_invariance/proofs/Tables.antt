-- Tables over prices in another unit.
use Rattle.std.proofs.Common.{◌≡◌, ℕ, suc, ◌-◌, Bool, true, false, cond, ℤ, pos, List, [], ◌∷◌, ◌++◌, map, filter, Option, Some, None, refl, sym, ◌∙◌, ap}
use Rattle.std.specs.List.{flat_map, range_with_len}
use Rattle.std.proofs.lemmas.Bool.{true≢false}
use Rattle.pl_spec.specs.Rounding.{Fraction}
use Rattle.pl_spec.specs.World.{World, living_sids}
use Rattle.pl_spec.proofs.Each.{Each, each_more}
use Rattle.pl_pipeline.specs.Term.{term_at}
use Rattle.pl_pipeline.specs.Value.{Value, Own, value, holds}
use Rattle.pl_pipeline.specs.Table.{NamedColumn, Pipeline, Row, value_of, is_kept, kept_sids, table_row, session_rows, table}
use Rattle.pl_invariance.specs.Pipelines.{Measure, HasMeasure, NothingIsRounded, in_unit, HaveMeasures, HasNoUnit, HasMeasures, AreUnrounded, IsScreenUnrounded, IsSessionUnrounded, in_units, priced_row, TablesHaveUnits}
use Rattle.pl_invariance.specs.Priced.{priced_world}
use Rattle.pl_invariance.specs.Units.{IsRatio}
use Rattle.pl_invariance.proofs.Lists.{maps, flat-map}
use Rattle.pl_invariance.proofs.Pipelines.{priced}

-- what is kept is the same, and of it f is g
kept-same : {X Y : Type 0} (f g : X → Y) (p q : X → Bool) (xs : List X) → Each (λ x. (p x ≡ q x) × (q x ≡ true → f x ≡ g x)) xs → map f (filter p xs) ≡ map g (filter q xs)
kept-same f g p q [] h = refl
kept-same {X} {Y} f g p q (x ∷ xs) h = step (p x) (q x) h.0.0 h.0.1 (kept-same f g p q xs h.1)
  where
    step : (b c : Bool) → b ≡ c → (c ≡ true → f x ≡ g x) → map f (filter p xs) ≡ map g (filter q xs) → map f (cond b (x ∷ filter p xs) (filter p xs)) ≡ map g (cond c (x ∷ filter q xs) (filter q xs))
    step true true e same rest = ap (λ y. y ∷ map f (filter p xs)) (same refl) ∙ ap (λ l. g x ∷ l) rest
    step false false e same rest = rest
    step true false e same rest = absurd (true≢false e)
    step false true e same rest = absurd (true≢false (sym e))

itself : {X : Type 0} (xs : List X) → map (λ x. x) xs ≡ xs
itself [] = refl
itself (x ∷ xs) = ap (λ l. x ∷ l) (itself xs)

flat-each : {X Y : Type 0} (f g : X → List Y) (xs : List X) → Each (λ x. f x ≡ g x) xs → flat_map f xs ≡ flat_map g xs
flat-each f g [] h = refl
flat-each f g (x ∷ xs) h = ap (λ l. l ++ flat_map f xs) h.0 ∙ ap (λ l. g x ++ l) (flat-each f g xs h.1)

module _ (r : Fraction) (ratio : IsRatio r) (w : World) (p : Pipeline) where
  abbrev other : World
  other = priced_world r w

  term-in : (t : ℕ) {u : Measure} (h : HasMeasure (term_at p.graph t) u) (a : ℕ) (d : ℤ) → NothingIsRounded r w p.names h Own a d → value_of other p t a d ≡ in_unit r u (value_of w p t a d)
  unfolding value
  term-in t h a d e = priced r ratio w p.names h Own a d e

  kept-in : (o : Option ℕ) (h : HasNoUnit p.graph o) (d : ℤ) (a : ℕ) → IsScreenUnrounded r w p.names p.graph o h a d → is_kept other p o d a ≡ is_kept w p o d a
  kept-in None h d a e = refl
  kept-in (Some t) h d a e = ap holds (term-in t h a d e)

  columns-in : (cs : List NamedColumn) (us : List Measure) (h : HaveMeasures p.graph cs us) (a : ℕ) (d : ℤ) → AreUnrounded r w p.names p.graph cs us h a d
      → map (λ (c : NamedColumn). value_of other p c.term a d) cs ≡ in_units r us (map (λ (c : NamedColumn). value_of w p c.term a d) cs)
  columns-in [] [] h a d e = refl
  columns-in [] (u ∷ us) h a d e = absurd h
  columns-in (c ∷ cs) [] h a d e = absurd h
  columns-in (c ∷ cs) (u ∷ us) h a d e =
      ap (λ v. v ∷ map (λ (c : NamedColumn). value_of other p c.term a d) cs) (term-in c.term h.0 a d e.0)
      ∙ ap (λ l. in_unit r u (value_of w p c.term a d) ∷ l) (columns-in cs us h.1 a d e.1)

  module _ (us : List Measure) (h : HasMeasures p us) where
    row-in : (d : ℤ) (a : ℕ) → AreUnrounded r w p.names p.graph p.columns us h.columns a d → table_row other p d a ≡ priced_row r us (table_row w p d a)
    row-in d a e = ap made (columns-in p.columns us h.columns a d e)
      where
        made : List Value → Row
        made vs = record { session = d; sid = a; values = vs }

    sids-in : (d : ℤ) → IsSessionUnrounded r w p us h d → kept_sids other p d ≡ kept_sids w p d
    sids-in d e =
        sym (itself (kept_sids other p d))
        ∙ kept-same (λ a. a) (λ a. a) (is_kept other p p.screen d) (is_kept w p p.screen d) (living_sids w d)
        (each_more _ _ (living_sids w d) (λ a i. (kept-in p.screen h.screen d a i.0, λ kept. refl)) e)
        ∙ itself (kept_sids w p d)

    rows-in : (d : ℤ) → IsSessionUnrounded r w p us h d → session_rows other p d ≡ map (priced_row r us) (session_rows w p d)
    rows-in d e =
        kept-same (table_row other p d) (λ a. priced_row r us (table_row w p d a)) (is_kept other p p.screen d) (is_kept w p p.screen d) (living_sids w d)
        (each_more _ _ (living_sids w d) (λ a i. (kept-in p.screen h.screen d a i.0, λ kept. row-in d a (i.1 kept))) e)
        ∙ sym (maps (priced_row r us) (table_row w p d) (kept_sids w p d))

    tables-in : (from to : ℕ) → Each (λ d. IsSessionUnrounded r w p us h (pos d)) (range_with_len from (suc to - from)) → table other p from to ≡ map (priced_row r us) (table w p from to)
    tables-in from to e =
        flat-each (λ d. session_rows other p (pos d)) (λ d. map (priced_row r us) (session_rows w p (pos d))) (range_with_len from (suc to - from))
        (each_more _ _ (range_with_len from (suc to - from)) (λ d i. rows-in (pos d) i) e)
        ∙ sym (flat-map (priced_row r us) (λ d. session_rows w p (pos d)) (range_with_len from (suc to - from)))

pub tables-have-units : TablesHaveUnits
tables-have-units = record {
  sids = λ r w p us ratio h d e. sids-in r ratio w p us h d e;
  rows = λ r w p us ratio h from to e. tables-in r ratio w p us h from to e;
}

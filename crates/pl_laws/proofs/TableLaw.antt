-- What came to be known later doesn't change a row.
use Rattle.std.proofs.Common.{◌≡◌, ℕ, zero, suc, ◌+◌, ◌-◌, ◌<◌, ◌≤◌, ℤ, pos, ◌≤ℤ◌, List, ◌++◌, map, Option, Some, None, refl, ◌∙◌, ap, arith, filter, flat_map}
use Rattle.std.proofs.Math.Path.{fun_ext}
use Rattle.std.specs.List.{range_with_len}
use Rattle.std.proofs.lemmas.Int.{ints}
use Rattle.pl_spec.specs.World.{World, IsWorld, living_sids}
use Rattle.pl_pipeline.specs.Value.{Value, holds}
use Rattle.pl_pipeline.specs.Table.{Pipeline, Row, is_kept, kept_sids, table_row, session_rows, table}
use Rattle.pl_laws.proofs.Law as law
use Rattle.pl_laws.proofs.Law.{SeenAlike}

pub range_same : {X : Type 0} (f g : ℕ → List X) (n a : ℕ) → ((k : ℕ) → a ≤ k → k < a + n → f k ≡ g k) → flat_map f (range_with_len a n) ≡ flat_map g (range_with_len a n)
range_same f g zero a h = refl
range_same f g (suc n) a h =
    let rest : flat_map f (range_with_len (a + 1) n) ≡ flat_map g (range_with_len (a + 1) n) = range_same f g n (a + 1) (λ k m l. h k (omega arith) (omega arith)) in
    let here : f a ≡ g a = h a (omega arith) (omega arith) in
    ap (λ l. l ++ flat_map f (range_with_len (a + 1) n)) here ∙ ap (λ l. g a ++ l) rest

module _ (w v : World) (d day : ℤ) (ok : IsWorld w) (ok' : IsWorld v) (agree : SeenAlike w v d day) (p : Pipeline) where
  kept_same : (s : ℤ) → s ≤ℤ d → kept_sids w p s ≡ kept_sids v p s
  kept_same s l = ap (λ q. filter q (living_sids w s)) (screened p.screen) ∙ ap (filter (is_kept v p p.screen s)) (law.living_same w v d day ok ok' agree s l)
    where
      screened : (o : Option ℕ) → is_kept w p o s ≡ is_kept v p o s
      screened None = refl
      screened (Some t) = fun_ext (λ a. ap holds (law.values_agree w v d day ok ok' agree p.names _ a s l))

  row_same : (s : ℤ) → s ≤ℤ d → table_row w p s ≡ table_row v p s
  row_same s l = fun_ext (λ a. ap (λ vs. made a vs) (ap (λ f. map f p.columns) (fun_ext (λ c. law.values_agree w v d day ok ok' agree p.names _ a s l))))
    where
      made : ℕ → List Value → Row
      made a vs = record { session = s; sid = a; values = vs }

  pub rows_same : (s : ℤ) → s ≤ℤ d → session_rows w p s ≡ session_rows v p s
  rows_same s l = ap (λ f. map f (kept_sids w p s)) (row_same s l) ∙ ap (map (table_row v p s)) (kept_same s l)

  pub table_same : (from to : ℕ) → pos to ≤ℤ d → table w p from to ≡ table v p from to
  table_same from to l = range_same (λ s. session_rows w p (pos s)) (λ s. session_rows v p (pos s)) (suc to - from) from (λ k m h. rows_same (pos k) (omega (arith, ints)))

-- A walk only puts facts after those that are finished.
use Rattle.std.proofs.Common.{◌≡◌, ℕ, zero, suc, Bool, true, false, List, [], ◌∷◌, ◌++◌, fold, refl, sym, ◌∙◌, ap, append_assoc, append-nil}
use Rattle.pl_spec.specs.World.{World}
use Rattle.pl_pipeline.specs.Table.{Pipeline}
use Rattle.pl_derivation.specs.Facts.{Fact, number_in, premises}
use Rattle.pl_derivation.specs.Walks.{is_in, finish}

module _ (w : World) (p : Pipeline) where
  abbrev Grows : ℕ → Type 0
  Grows depth = (done : List Fact) (f : Fact) → (more : List Fact) × (finish w p depth done f ≡ done ++ more)

  grow_all : (depth : ℕ) → Grows depth → (done : List Fact) (fs : List Fact) → (more : List Fact) × (fold (finish w p depth) done fs ≡ done ++ more)
  grow_all depth one done [] = ([], sym (append-nil done))
  grow_all depth one done (f ∷ fs) =
      let first : (more : List Fact) × (finish w p depth done f ≡ done ++ more) = one done f in
      let rest : (more : List Fact) × (fold (finish w p depth) (finish w p depth done f) fs ≡ finish w p depth done f ++ more) = grow_all depth one (finish w p depth done f) fs in
      (first.0 ++ rest.0, rest.1 ∙ ap (λ l. l ++ rest.0) first.1 ∙ append_assoc done first.0 rest.0)

  pub grow : (depth : ℕ) → Grows depth
  grow zero done f = ([], sym (append-nil done))
  grow (suc depth) done f = step (is_in done f) refl (grow_all depth (grow depth) done (premises w p (number_in w p) f))
    where
      step : (b : Bool) → is_in done f ≡ b → ((more : List Fact) × (fold (finish w p depth) done (premises w p (number_in w p) f) ≡ done ++ more))
          → (more : List Fact) × (finish w p (suc depth) done f ≡ done ++ more)
      step true e all = ([], rw e (sym (append-nil done)))
      step false e all = (all.0 ++ f ∷ [], rw e (ap (λ l. l ++ f ∷ []) all.1 ∙ append_assoc done all.0 (f ∷ [])))

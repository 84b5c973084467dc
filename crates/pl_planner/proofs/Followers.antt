-- A plan without cones is that of a pipeline whose windows hold bars and what is steady.
use Rattle.std.proofs.Common.{◌≡◌, ℕ, suc, ◌+◌, ◌-◌, ◌<◌, ◌↔◌, Bool, true, false, not, nat_lt, ℤ, List, [], ◌∷◌, length, map, get_or, refl, sym, ◌∙◌, ap, subst, arith, All}
use Rattle.std.specs.List.{list_any, range_with_len}
use Rattle.std.proofs.lemmas.Bool.{true≢false}
use Rattle.std.proofs.lemmas.Bool.Decides.{nat_tests}
use Rattle.std.proofs.lemmas.List.Folds.{list_any_at, list_any_none}
use Rattle.std.proofs.lemmas.List.FromFn.{get_or-map-range_with_len, length-map-range_with_len}
use Rattle.std.proofs.lemmas.Option.{slice_get_within}
use Rattle.pl_pipeline.specs.Term.{Graph, term_at}
use Rattle.pl_pipeline.specs.Value.{is_steady}
use Rattle.pl_pipeline.specs.NodeValue.{AllReadSteady}
use Rattle.pl_pipeline.specs.Cones.{moves_at, is_windowed, Follows, HasDepth, cone_depths}
use Rattle.pl_pipeline.specs.Table.{Pipeline}
use Rattle.pl_laws.proofs.ConeDepths.{depths-greatest}
use Rattle.pl_laws.proofs.ConeLists.{no-cone-at}
use Rattle.pl_terms.specs.Checked.{IsChecked}
use Rattle.pl_planner.specs.Plans.{Planned, IsPlanOf, has_cones}
use Rattle.pl_planner.specs.Laws.{ConesTellFollowers}

abbrev some : List (ℕ × ℕ) → Bool
some c = nat_lt 0 (length c)

none-some : (c : List (ℕ × ℕ)) → some c ≡ false → (u m : ℕ) → HasDepth u m c → ⊥
none-some [] e u m h = h
none-some (x ∷ c) e u m h = (let l : nat_lt 0 (suc (length c)) ≡ true = grind (arith, nat_tests) in true≢false (sym l ∙ e))

no-terms : (c : List (ℕ × ℕ)) → map (λ (q : ℕ × ℕ). q.0) c ≡ [] → some c ≡ false
no-terms [] e = refl
no-terms (x ∷ c) e = absurd (let l = ap (λ (us : List ℕ). length us) e in omega (arith, l))

module _ (g : Graph) where
  abbrev cones : List (List (ℕ × ℕ))
  cones = map (cone_depths g) (range_with_len 0 (length g))

  cone-at : (t : ℕ) → t < length g → get_or cones t [] ≡ cone_depths g t
  cone-at t h = get_or-map-range_with_len (cone_depths g) 0 (length g) t t [] h (let z : 0 + t ≡ t = omega arith in z)

  long : length cones ≡ length g
  long = length-map-range_with_len (cone_depths g) 0 (length g)

  none-at : list_any some cones ≡ false → (t : ℕ) → t < length g → some (cone_depths g t) ≡ false
  none-at e t h = here (some (cone_depths g t)) refl
    where
      here : (b : Bool) → some (cone_depths g t) ≡ b → some (cone_depths g t) ≡ false
      here false f = f
      here true f = absurd (true≢false (sym (list_any_at some cones t [] (let l = long in omega (arith, l)) (ap some (cone-at t h) ∙ f)) ∙ e))

  pub no-cones : AllReadSteady g → list_any some cones ≡ false
  no-cones steady = list_any_none some cones each
    where
      each : All (λ c. some c ≡ false) cones
      each t d h =
          let inside : t < length g = let l = long in omega (arith, l) in
          subst (λ c. some c ≡ false) (sym (get_or_default' t d inside)) (no-terms (cone_depths g t) (no-cone-at g steady t))
        where
          get_or_default' : (t : ℕ) (d : List (ℕ × ℕ)) → t < length g → get_or cones t d ≡ cone_depths g t
          get_or_default' t d h = get_or-map-range_with_len (cone_depths g) 0 (length g) t t d h (let z : 0 + t ≡ t = omega arith in z)

module _ (days : List ℤ) (p : Pipeline) (checked : IsChecked p) (plan : Planned) (is : IsPlanOf days p plan) where
  all-steady : has_cones plan ≡ false → AllReadSteady p.graph
  all-steady e k n at f kind i j input = here (is_steady (term_at p.graph j)) refl
    where
      here : (b : Bool) → is_steady (term_at p.graph j) ≡ b → is_steady (term_at p.graph j) ≡ true
      here true s = s
      here false s =
          let moves : moves_at p.graph j ≡ true = ap not s in
          let windowed : is_windowed n.kind ≡ true = ap is_windowed kind in
          let follows : Follows p.graph k j (n.window - 1) = Follows.input n i at windowed input moves in
          let found = depths-greatest p.graph checked.graph k j (n.window - 1) follows in
          let none = none-at p.graph (sym (ap (list_any some) is.cones) ∙ e) k (slice_get_within p.graph k n at) in
          absurd (none-some (cone_depths p.graph k) none j found.0 found.1)

  pub told : (has_cones plan ≡ false) ↔ AllReadSteady p.graph
  told = (all-steady, λ steady. ap (list_any some) is.cones ∙ no-cones p.graph steady)

pub cones-tell : ConesTellFollowers
cones-tell days p checked plan is = told days p checked plan is

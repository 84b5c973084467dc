-- Places under other names that ascend as they do.
use Rattle.std.proofs.Common.{◌≡◌, ℕ, ◌*◌, ◌&&◌, ℤ, pos, List, map, refl, sym, ◌∙◌, ap, nat_lt, nat_le}
use Rattle.std.specs.Ordering.{int_eq}
use Rattle.std.proofs.lemmas.Simd.{map-map}
use Rattle.std.proofs.lemmas.List.{length-map}
use Rattle.pl_spec.specs.Rounding.{MILLION}
use Rattle.pl_spec.specs.Cells.{truth}
use Rattle.pl_pipeline.specs.declared.RankMethod.{RankMethod}
use Rattle.pl_pipeline.specs.declared.RankMethod.TheVariants.{Ordinal}
use Rattle.pl_pipeline.specs.declared.RankOrder.{RankOrder}
use Rattle.pl_pipeline.specs.declared.RankOrder.TheVariants.{Ascending, Descending}
use Rattle.pl_pipeline.specs.Kind.{CrossKind}
use Rattle.pl_pipeline.specs.Kind.CrossKind.{Rank, Top, Bottom, PeerCount}
use Rattle.pl_pipeline.specs.Cross.{Entry, values, earlier_same, ordinal, rank, cross}
use Rattle.pl_spec.proofs.Counts.{count-agree, count-map}
use Rattle.pl_spec.proofs.Members.{In}

-- the values of some places, each under its name
abbrev pub named : (ℕ → ℕ) → (ℕ → ℤ) → List ℕ → List Entry
named name f js = map (λ j. (name j, f j)) js

abbrev pub placed : (ℕ → ℤ) → List ℕ → List Entry
placed f js = named (λ j. j) f js

module _ (name : ℕ → ℕ) (f : ℕ → ℤ) (js : List ℕ) (a : ℕ) (rising : (j : ℕ) → In j js → nat_lt (name j) (name a) ≡ nat_lt j a) where
  values-named : values (named name f js) ≡ values (placed f js)
  values-named = map-map (λ (e : Entry). e.1) (λ j. (let e : Entry = (name j, f j) in e)) js ∙ sym (map-map (λ (e : Entry). e.1) (λ j. (let e : Entry = (j, f j) in e)) js)

  earlier-named : (x : ℤ) → earlier_same (name a) x (named name f js) ≡ earlier_same a x (placed f js)
  earlier-named x =
      count-map (λ (e : Entry). int_eq x e.1 && nat_lt e.0 (name a)) (λ j. (let e : Entry = (name j, f j) in e)) js
      ∙ count-agree (λ j. int_eq x (f j) && nat_lt (name j) (name a)) (λ j. int_eq x (f j) && nat_lt j a) js (λ j i. ap (λ b. int_eq x (f j) && b) (rising j i))
      ∙ sym (count-map (λ (e : Entry). int_eq x e.1 && nat_lt e.0 a) (λ j. (let e : Entry = (j, f j) in e)) js)

  ordinal-named : (order : RankOrder) (x : ℤ) → ordinal order (named name f js) (name a) x ≡ ordinal order (placed f js) a x
  ordinal-named order x = rw (values-named, earlier-named x) refl

  rank-named : (m : RankMethod) (order : RankOrder) (x : ℤ) → rank m order (named name f js) (name a) x ≡ rank m order (placed f js) a x
  rank-named Ordinal order x = ap (λ n. n * MILLION) (ordinal-named order x)
  rank-named m order x = rw (values-named) refl

  pub cross-named : (k : CrossKind) (x : ℤ) → cross k (named name f js) (name a) x ≡ cross k (placed f js) a x
  unfolding cross
  cross-named (Rank m order) x = ap pos (rank-named m order x)
  cross-named (Top n) x = ap (λ r. truth (nat_le r n)) (ordinal-named Descending x)
  cross-named (Bottom n) x = ap (λ r. truth (nat_le r n)) (ordinal-named Ascending x)
  cross-named PeerCount x = ap (λ n. pos (n * MILLION)) (length-map js (λ j. (let e : Entry = (name j, f j) in e)) ∙ sym (length-map js (λ j. (let e : Entry = (j, f j) in e))))
  cross-named k x = rw (values-named) refl

-- Two calendars that are the same up to a session: what terms reach and are computed from for a session up to
-- it.
use Rattle.std.proofs.Common.{◌≡◌, ℕ, ◌-◌, ℤ, pos, ◌≤ℤ◌, List, [], ◌∷◌, map, slice_get, refl, sym, ◌∙◌, ap, subst, arith}
use Rattle.std.proofs.lemmas.Int.{ints}
use Rattle.pl_spec.specs.Window.{before, downward}
use Rattle.pl_pipeline.specs.Kind.{Kind}
use Rattle.pl_pipeline.specs.Kind.Kind.{Downsample}
use Rattle.pl_pipeline.specs.Term.{Term, Node, Graph, term_at}
use Rattle.pl_pipeline.specs.Term.Term.{absent, column, node}
use Rattle.pl_pipeline.specs.Graph.{least_of, part_reach, reads_at, reach}
use Rattle.pl_pipeline.specs.Lows.{Reads, Needs, IsLow, least_reach}
use Rattle.pl_pipeline.specs.Lows.Reads.{input, mask, group}
use Rattle.pl_pipeline.specs.Lows.Needs.{output, read}
use Rattle.pl_laws.proofs.Starts.{start-same}
use Rattle.pl_laws.proofs.Lows.{reads_at-within}

-- up to session k
abbrev pub SameDays : List ℤ → List ℤ → ℤ → Type 0
SameDays days other k = (i : ℕ) → pos i ≤ℤ k → slice_get days i ≡ slice_get other i

module _ (days other : List ℤ) (k : ℤ) (same : SameDays days other k) where
  pub reads_at-same : (q : Kind) (d : ℤ) → d ≤ℤ k → reads_at days q d ≡ reads_at other q d
  reads_at-same (Downsample f) d h = start-same f days other d (λ i l. same i (omega (arith, ints)))
  reads_at-same q d h = refl

  part-same : (t : Term) (f g : ℤ → ℤ) → ((d : ℤ) → d ≤ℤ k → f d ≡ g d) → (size : ℕ) (d : ℤ) → d ≤ℤ k → part_reach t f size d ≡ part_reach t g size d
  part-same absent f g e size d h = refl
  part-same (column c) f g e size d h = refl
  part-same (node q n x y z m p) f g e size d h = ap (λ l. least_of l d) (each (downward size))
    where
      each : (ns : List ℕ) → map (λ i. f (before d i)) ns ≡ map (λ i. g (before d i)) ns
      each [] = refl
      each (n ∷ ns) = ap (λ z. z ∷ map (λ i. f (before d i)) ns) (e (before d n) (omega (arith, ints))) ∙ ap (λ l. g (before d n) ∷ l) (each ns)

  pub reach-same : (t : Term) (d : ℤ) → d ≤ℤ k → reach days t d ≡ reach other t d
  unfolding reach
  reach-same absent d h = refl
  reach-same (column c) d h = refl
  reach-same (node q size x y z m g) d h =
      let s = reads_at days q d in
      let within : s ≤ℤ k = omega (arith, ints, reads_at-within days q d) in
      ap (λ v. least_of (v ∷ part_reach y (reach days y) size s ∷ part_reach z (reach days z) size s ∷ part_reach m (reach days m) 1 d ∷ part_reach g (reach days g) 1 d ∷ []) d)
      (part-same x (reach days x) (reach other x) (reach-same x) size s within)
      ∙ ap (λ v. least_of (part_reach x (reach other x) size s ∷ v ∷ part_reach z (reach days z) size s ∷ part_reach m (reach days m) 1 d ∷ part_reach g (reach days g) 1 d ∷ []) d)
      (part-same y (reach days y) (reach other y) (reach-same y) size s within)
      ∙ ap (λ v. least_of (part_reach x (reach other x) size s ∷ part_reach y (reach other y) size s ∷ v ∷ part_reach m (reach days m) 1 d ∷ part_reach g (reach days g) 1 d ∷ []) d)
      (part-same z (reach days z) (reach other z) (reach-same z) size s within)
      ∙ ap (λ v. least_of (part_reach x (reach other x) size s ∷ part_reach y (reach other y) size s ∷ part_reach z (reach other z) size s ∷ v ∷ part_reach g (reach days g) 1 d ∷ []) d)
      (part-same m (reach days m) (reach other m) (reach-same m) 1 d h)
      ∙ ap (λ v. least_of (part_reach x (reach other x) size s ∷ part_reach y (reach other y) size s ∷ part_reach z (reach other z) size s ∷ part_reach m (reach other m) 1 d ∷ v ∷ []) d)
      (part-same g (reach days g) (reach other g) (reach-same g) 1 d h)
      ∙ ap (λ s. least_of (part_reach x (reach other x) size s ∷ part_reach y (reach other y) size s ∷ part_reach z (reach other z) size s ∷ part_reach m (reach other m) 1 d ∷ part_reach g (reach other g) 1 d ∷ []) d)
      (reads_at-same q d h)

  pub least_reach-same : (g : Graph) (outputs : List ℕ) (d : ℤ) → d ≤ℤ k → least_reach days g outputs d ≡ least_reach other g outputs d
  least_reach-same g outputs d h = ap (λ l. least_of l d) (each outputs)
    where
      each : (ts : List ℕ) → map (λ t. reach days (term_at g t) d) ts ≡ map (λ t. reach other (term_at g t) d) ts
      each [] = refl
      each (t ∷ ts) = ap (λ z. z ∷ map (λ t. reach days (term_at g t) d) ts) (reach-same (term_at g t) d h) ∙ ap (λ l. reach other (term_at g t) d ∷ l) (each ts)

  reads-same : (n : Node) (s : ℤ) (t : ℕ) (r : ℤ) → s ≤ℤ k → Reads days n s t r → Reads other n s t r × (r ≤ℤ s)
  reads-same n s t r h (input i e) =
      (subst (λ z. Reads other n s t (before z (n.window - 1))) (sym (reads_at-same n.kind s h)) (input i e), omega (arith, ints, reads_at-within days n.kind s))
  reads-same n s t r h (mask e) = (mask e, omega (arith, ints))
  reads-same n s t r h (group e) = (group e, omega (arith, ints))

  pub needs-same : (g : Graph) (outputs : List ℕ) (from : ℤ) → from ≤ℤ k → (t : ℕ) (r : ℤ) → Needs days g outputs from t r → Needs other g outputs from t r × (r ≤ℤ from)
  needs-same g outputs from h t r (output e) = (output e, omega (arith, ints))
  needs-same g outputs from h t r (read u n s before_it at reads) =
      let there = needs-same g outputs from h u s before_it in
      let one = reads-same n s t r (omega (arith, ints, there.1)) reads in
      (read u n s there.0 at one.0, omega (arith, ints, there.1, one.1))

-- so the sessions from which on terms are computed are the same
pub lows-same : (days other : List ℤ) (k : ℤ) → SameDays days other k → (g : Graph) (outputs : List ℕ) (from : ℤ) → from ≤ℤ k → (t : ℕ) (low : ℤ)
    → IsLow days g outputs from t low → IsLow other g outputs from t low
lows-same days other k same g outputs from h t low is =
    record {
      needed = (needs-same days other k same g outputs from h t low is.needed).0;
      least = λ s needs. is.least s (needs-same other days k (λ i l. sym (same i l)) g outputs from h t s needs).0;
    }

-- What cones read is computed.
use Rattle.std.proofs.Common.{◌≡◌, ℕ, ◌+◌, ◌-◌, true, not, ℤ, List, Some, refl, sym, ◌∙◌, ap, subst, arith, slice_get}
use Rattle.std.proofs.lemmas.Bool.{true≢false}
use Rattle.std.proofs.lemmas.Int.{ints}
use Rattle.pl_spec.specs.Window.{before}
use Rattle.pl_pipeline.specs.Kind.{Kind}
use Rattle.pl_pipeline.specs.Kind.Kind.{Downsample}
use Rattle.pl_pipeline.specs.Term.{Term, node, Node, Graph, IsGraph}
use Rattle.pl_pipeline.specs.Graph.{reads_at}
use Rattle.pl_pipeline.specs.Lows.{Reads, Needs}
use Rattle.pl_pipeline.specs.Value.{is_steady}
use Rattle.pl_pipeline.specs.Cones.{moves_at, is_windowed, Follows, Borders}
use Rattle.pl_pipeline.proofs.Trees.{term_at-node}

-- what moves, and what has a window, reads its inputs up to its own session
reads_here : (days : List ℤ) (k : Kind) (size : ℕ) (x y z m p : Term) (s : ℤ) → not (is_steady (node k size x y z m p)) ≡ true → reads_at days k s ≡ s
reads_here days (Downsample f) size x y z m p s h = absurd (true≢false (sym h))
reads_here days k size x y z m p s h = refl

windowed_here : (days : List ℤ) (k : Kind) (s : ℤ) → is_windowed k ≡ true → reads_at days k s ≡ s
windowed_here days (Downsample f) s h = absurd (true≢false (sym h))
windowed_here days k s h = refl

before_twice : (s : ℤ) (m n : ℕ) → before (before s m) n ≡ before s (m + n)
before_twice s m n = omega (arith, ints)

module _ (days : List ℤ) (g : Graph) (outputs : List ℕ) (from : ℤ) (ok : IsGraph g) where
  abbrev IsNeeded : ℕ → ℤ → Type 0
  IsNeeded t s = Needs days g outputs from t s

  -- the node of a term that moves reads on the session itself
  moving_here : (v : ℕ) (n : Node) → slice_get g v ≡ Some n → moves_at g v ≡ true → (s : ℤ) → reads_at days n.kind s ≡ s
  moving_here v n e h s = reads_here days n.kind n.window _ _ _ _ _ s (ap (λ t. not (is_steady t)) (sym (term_at-node g v n ok e)) ∙ h)

  follows-moves : (t : ℕ) {u m : ℕ} → Follows g t u m → moves_at g u ≡ true
  follows-moves t (Follows.input n i e w at h) = h
  follows-moves t (Follows.through v m n i f e at h) = h

  pub cone-needed : (t : ℕ) (s : ℤ) → IsNeeded t s → {u m : ℕ} → Follows g t u m → IsNeeded u (before s m)
  cone-needed t s need {u} {m} (Follows.input n i e w at h) =
      Needs.read t n s need e (subst (λ r. Reads days n s u (before r (n.window - 1))) (windowed_here days n.kind s w) (Reads.input i at))
  cone-needed t s need {u} {m} (Follows.through v k n i f e at h) =
      subst (λ r. IsNeeded u r) (before_twice s k (n.window - 1))
      (Needs.read v n (before s k) (cone-needed t s need f) e
      (subst (λ r. Reads days n (before s k) u (before r (n.window - 1))) (moving_here v n e (follows-moves t f) (before s k)) (Reads.input i at)))

  pub border-needed : (t : ℕ) (s : ℤ) → IsNeeded t s → {b m : ℕ} → Borders g t b m → IsNeeded b (before s m)
  border-needed t s need {b} {m} (Borders.input v k n i f e at h) =
      subst (λ r. IsNeeded b r) (before_twice s k (n.window - 1))
      (Needs.read v n (before s k) (cone-needed t s need f) e
      (subst (λ r. Reads days n (before s k) b (before r (n.window - 1))) (moving_here v n e (follows-moves t f) (before s k)) (Reads.input i at)))
  border-needed t s need {b} {m} (Borders.mask v k n f e at) = Needs.read v n (before s m) (cone-needed t s need f) e (Reads.mask at)

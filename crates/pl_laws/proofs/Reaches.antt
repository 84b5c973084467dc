-- No bar before a term's reach counts for its value.
use Rattle.std.proofs.Common.{◌≡◌, ℕ, zero, suc, ◌<◌, ◌≤◌, ℤ, ◌≤ℤ◌, List, [], ◌∷◌, map, refl, ap, arith, inl, inr}
use Rattle.std.specs.Int.{int_min}
use Rattle.std.proofs.lemmas.Bool.{cases_lt}
use Rattle.std.proofs.lemmas.Int.{ints}
use Rattle.pl_spec.specs.declared.Column.{Column}
use Rattle.pl_spec.specs.World.{World, Bar}
use Rattle.pl_spec.specs.Window.{effects, after_all, seen_cell, before, downward}
use Rattle.pl_pipeline.specs.Term.{Term}
use Rattle.pl_pipeline.specs.Term.Term.{absent, column, node}
use Rattle.pl_pipeline.specs.Value.{Meaning, View, Own, seen_from, part_from, number_of, view_of, seen_operands, seen, value}
use Rattle.pl_pipeline.specs.Graph.{least_of, part_reach, reads_at, reach}
use Rattle.pl_pipeline.specs.Reaching.{HasWindows, SameBarsFrom}
use Rattle.pl_spec.proofs.Windows.{map-downward, before-zero}
use Rattle.pl_pipeline.proofs.SameOperands.{SamePart, SameReads, passes_alike, step_alike}

-- ---- the least of sessions

abbrev pub AllFrom : ℤ → List ℤ → Type 0
AllFrom low [] = Unit {0}
AllFrom low (s ∷ ss) = (low ≤ℤ s) × AllFrom low ss

below_min : (low x y : ℤ) → low ≤ℤ int_min x y → (low ≤ℤ x) × (low ≤ℤ y)
below_min low x y h = (grind (arith, ints), grind (arith, ints))

pub below_least : (low d : ℤ) (ss : List ℤ) → low ≤ℤ least_of ss d → (low ≤ℤ d) × AllFrom low ss
below_least low d [] h = (h, tt)
below_least low d (s ∷ ss) h =
    let rest = below_least low (int_min d s) ss h in
    let both = below_min low d s rest.0 in
    (both.0, (both.1, rest.1))

-- ---- windows

-- what holds of each of the sessions of a window
pub at_downward : (low : ℤ) (f : ℕ → ℤ) (size : ℕ) → AllFrom low (map f (downward size)) → (n : ℕ) → n < size → low ≤ℤ f n
at_downward low f (suc size) h n l = elim (cases_lt n size) [
  | inl below ↦ at_downward low f size h.1 n below
  | inr last ↦ let same : size ≡ n = omega arith in rw same at h.0
]
at_downward low f zero h n l = absurd (omega arith)

module _ (w : World) (bars : List Bar) (low : ℤ) (same : SameBarsFrom w (record w { bars = bars }) low) where
  abbrev other : World
  other = record w { bars = bars }

  seen_same : (a : ℕ) (c : Column) (s d : ℤ) → low ≤ℤ s → seen_cell w a c s d ≡ seen_cell other a c s d
  unfolding seen_cell
  seen_same a c s d h = ap (λ x. after_all x (effects w a c s d)) (same a c s h)

  -- a term is worth the same wherever it reaches no farther back
  abbrev SameWithin : Term → Meaning → Meaning → Type 0
  SameWithin t f g = (a : ℕ) (d : ℤ) → low ≤ℤ reach w.days t d → f a d ≡ g a d

  part_same : (view : View) (t : Term) (f g : Meaning) (size : ℕ) (d : ℤ) → 1 ≤ size → SameWithin t f g → low ≤ℤ part_reach t (reach w.days t) size d
      → SamePart w other size (part_from view t f) (part_from view t g) d
  part_same view absent f g size d some e h = record { now = λ b. record { value = refl; nothing = refl }; window = λ b. refl }
  part_same view (column c) f g size d some e h = record {
    now = λ b. record { value = refl; nothing = refl };
    window = λ b. map-downward _ _ size (λ n l. seen_same b c (before d (suc n)) (seen_from view d) (omega (arith, ints)));
  }
  part_same view (node k i x y z m p) f g size d some e h =
      let from = at_downward low (λ s. reach w.days (node k i x y z m p) (before d s)) size (below_least low d _ h).1 in
      let now = from 0 (omega arith) in
      record {
        now = λ b. record { value = e b d (rw (before-zero d) at now); nothing = refl };
        window = λ b. map-downward _ _ size (λ n l. ap number_of (e b (before d n) (from n l)));
      }

  -- The law: a value stays where the bars from the term's reach on do, from wherever it is seen.
  pub reach-enough : (names : List (List ℕ)) (t : Term) → HasWindows t → (view : View) → SameWithin t (seen w names t view) (seen other names t view)
  unfolding value seen reach
  reach-enough names absent ok view a d h = refl
  reach-enough names (column c) ok view a d h = refl
  reach-enough names (node k size x y z m p) ok view a d h =
      let t : Term = node k size x y z m p in
      let read : ℤ = reads_at w.days k d in
      let inner : View = view_of k view d in
      let parts = below_least low d (part_reach x (reach w.days x) size read ∷ part_reach y (reach w.days y) size read ∷ part_reach z (reach w.days z) size read ∷ part_reach m (reach w.days m) 1 d ∷ part_reach p (reach w.days p) 1 d ∷ []) h in
      let same : SameReads w other k size (seen_operands w names t view d) (seen_operands other names t view d) a d = record {
        labels = λ name. refl;
        numbers = λ f name. refl;
        living = refl;
        reads = refl;
        first = part_same inner x _ _ size read ok.0 (reach-enough names x ok.1 inner) parts.1.0;
        second = part_same inner y _ _ size read ok.0 (reach-enough names y ok.2 inner) parts.1.1.0;
        third = part_same inner z _ _ size read ok.0 (reach-enough names z ok.3 inner) parts.1.1.1.0;
        mask = (part_same Own m _ _ 1 d (omega arith) (reach-enough names m ok.4 Own) parts.1.1.1.1.0).now;
        group = (part_same Own p _ _ 1 d (omega arith) (reach-enough names p ok.5 Own) parts.1.1.1.1.1.0).now;
      } in
      rw (passes_alike _ _ a d (same.mask a), step_alike w other names size _ _ a d k same) refl

  pub reach-value : (names : List (List ℕ)) (t : Term) → HasWindows t → SameWithin t (value w names t) (value other names t)
  unfolding value
  reach-value names t ok = reach-enough names t ok Own

-- What is kept of the windows of one kind, and its formula, where more than a name is asked.
use Rattle.std.proofs.Common.{◌≡◌, Bool, ◌↔◌, ◌⊎◌, true, false, nat_le, ℤ, List, length, inl, inr, ◌∙◌}
use Rattle.std.specs.List.{All, count_by}
use Rattle.pl_spec.specs.Rounding.{IsCell, is_missing}
use Rattle.pl_pipeline.specs.Formula.{formula}
use Rattle.pl_spec.specs.Cells.{count, truth, is_true}
use Rattle.pl_pipeline.proofs.Filters.{filters-count}
use Rattle.pl_terms.specs.declared.kind.TermKind.{TermKind}
use Rattle.pl_terms.specs.declared.kind.TermKind.TheVariants as kind
use Rattle.pl_terms.specs.Kinds.{kind_of}
use Rattle.pl_factors.specs.Kinds.{formula_of}
use Rattle.pl_lanes.proofs.Heights.{best-known}
use Rattle.pl_factors.specs.Kept.{Kept, kept_of, kept_best, range, placed_best}
use Rattle.pl_factors.proofs.Peaks.{best-cell}

-- ---- filters that are counts of what is true

pub all-is : (t : TermKind) (x : ℤ) (a b c : List ℤ) → t ≡ kind.All → x ≡ truth (nat_le (length a) (count_by is_true a)) → x ≡ formula_of (kind_of t) a b c
unfolding kind_of formula
all-is t x a b c e v = rw e (v ∙ (filters-count a b c).1)

pub any-is : (t : TermKind) (x : ℤ) (a b c : List ℤ) → t ≡ kind.Any → x ≡ truth (nat_le 1 (count_by is_true a)) → x ≡ formula_of (kind_of t) a b c
unfolding kind_of formula
any-is t x a b c e v = rw e (v ∙ (filters-count a b c).0)

-- ---- extremes are cells, and missing where no cell is present

main-has : (P : ℤ → Type 0) (k kept : Kept) → k ≡ kept → P kept.main → P k.main
main-has P k kept e p = rw e p

pub extreme-cell : (t : TermKind) (k : Kept) (a b c : List ℤ) → All IsCell a → (t ≡ kind.WindowMax) ⊎ (t ≡ kind.WindowMin) → k ≡ kept_of (kind_of t) a b c → IsCell k.main
unfolding kind_of kept_of
extreme-cell t k a b c cells h s = elim h [
  | inl e ↦ main-has IsCell k (kept_best false a) (rw e at s) (best-cell false a cells)
  | inr e ↦ main-has IsCell k (kept_best true a) (rw e at s) (best-cell true a cells)
]

-- a kind that keeps the first place of the least or of the greatest cell
placed-by : (t : TermKind) (k : Kept) (a b c : List ℤ) → (t ≡ kind.AroonUp) ⊎ (t ≡ kind.AroonDown) → k ≡ kept_of (kind_of t) a b c → (low : Bool) × (k ≡ placed_best low a)
unfolding kind_of kept_of
placed-by t k a b c (inl e) s = (false, rw e at s)
placed-by t k a b c (inr e) s = (true, rw e at s)

numbered-by : (t : TermKind) (k : Kept) (a b c : List ℤ) → (t ≡ kind.WindowArgMax) ⊎ (t ≡ kind.WindowArgMin) → k ≡ kept_of (kind_of t) a b c → (low : Bool) × (k ≡ placed_best low a)
unfolding kind_of kept_of
numbered-by t k a b c (inl e) s = (false, rw e at s)
numbered-by t k a b c (inr e) s = (true, rw e at s)

best-there : (k : Kept) (a : List ℤ) → All IsCell a → (low : Bool) × (k ≡ placed_best low a) → IsCell k.main
best-there k a cells p = main-has IsCell k (placed_best p.0 a) p.1 (best-cell p.0 a cells)

best-told : (k : Kept) (a : List ℤ) → All IsCell a → (low : Bool) × (k ≡ placed_best low a) → (is_missing k.main ≡ true) ↔ (count a ≡ 0)
best-told k a cells p = main-has (λ x. (is_missing x ≡ true) ↔ (count a ≡ 0)) k (placed_best p.0 a) p.1 (best-known p.0 a cells)

pub placed-cell : (t : TermKind) (k : Kept) (a b c : List ℤ) → All IsCell a → (t ≡ kind.AroonUp) ⊎ (t ≡ kind.AroonDown) → k ≡ kept_of (kind_of t) a b c → IsCell k.main
placed-cell t k a b c cells h s = best-there k a cells (placed-by t k a b c h s)

pub placed-known : (t : TermKind) (k : Kept) (a b c : List ℤ) → All IsCell a → (t ≡ kind.AroonUp) ⊎ (t ≡ kind.AroonDown) → k ≡ kept_of (kind_of t) a b c → (is_missing k.main ≡ true) ↔ (count a ≡ 0)
placed-known t k a b c cells h s = best-told k a cells (placed-by t k a b c h s)

pub numbered-cell : (t : TermKind) (k : Kept) (a b c : List ℤ) → All IsCell a → (t ≡ kind.WindowArgMax) ⊎ (t ≡ kind.WindowArgMin) → k ≡ kept_of (kind_of t) a b c → IsCell k.main
numbered-cell t k a b c cells h s = best-there k a cells (numbered-by t k a b c h s)

pub numbered-known : (t : TermKind) (k : Kept) (a b c : List ℤ) → All IsCell a → (t ≡ kind.WindowArgMax) ⊎ (t ≡ kind.WindowArgMin) → k ≡ kept_of (kind_of t) a b c → (is_missing k.main ≡ true) ↔ (count a ≡ 0)
numbered-known t k a b c cells h s = best-told k a cells (numbered-by t k a b c h s)

pub range-cells : (t : TermKind) (k : Kept) (a b c : List ℤ) → All IsCell b → All IsCell c → t ≡ kind.FastStochasticOscillator → k ≡ kept_of (kind_of t) a b c → IsCell k.main × IsCell k.beside
unfolding kind_of kept_of
range-cells t k a b c low high e s =
    let is : k ≡ range b c = rw e at s in
    rw is (best-cell true b low, best-cell false c high)

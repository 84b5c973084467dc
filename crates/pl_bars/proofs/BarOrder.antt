-- Bars that are read in the order of columns and sessions.
use Rattle.std.proofs.Common.{◌≡◌, ℕ, ◌+◌, ◌-◌, ◌<◌, nat_lt, true, List, [], ◌∷◌, ◌++◌, length, get_or, sym, ◌∙◌, ap, arith, inl, inr}
use Rattle.std.proofs.lemmas.Bool.{cases_lt}
use Rattle.std.proofs.lemmas.Bool.Decides.{nat_tests}
use Rattle.std.proofs.lemmas.List.{get_or_default}
use Rattle.std.proofs.lemmas.List.Quantifiers.{all_pairs_push}
use Rattle.pl_spec.specs.declared.BarRow.{BarRow}
use Rattle.pl_bars.specs.Bars.{key_of}
use Rattle.pl_bars.specs.BarPoint.{IsAfter, Rise}

pub rise_empty : (rows : List BarRow) → rows ≡ [] → Rise rows
rise_empty rows e i j d h l = let none : length rows ≡ 0 = ap length e in absurd (omega arith)

pub last_after : (rows : List BarRow) (b : BarRow) (n : ℕ) (d : BarRow) → n + 1 ≡ length rows → nat_lt (key_of (get_or rows n d)) (key_of b) ≡ true → IsAfter b rows
last_after rows b n d e t k x f =
    let same : n ≡ k = omega arith in
    let own : get_or rows k x ≡ get_or rows n d = ap (λ i. get_or rows i x) (sym same) ∙ get_or_default rows n x d (omega arith) in
    let lt : key_of (get_or rows n d) < key_of b = below _ _ t in
    rw own lt
  where
    below : (x y : ℕ) → nat_lt x y ≡ true → x < y
    below x y t = grind (arith, nat_tests)

-- bars rise with one more after their last
pub rise_more : (rows : List BarRow) (b : BarRow) → Rise rows → IsAfter b rows → Rise (rows ++ b ∷ [])
rise_more rows b up after = all_pairs_push (λ a x. key_of a < key_of x) rows b up below
  where
    below : (i : ℕ) (d : BarRow) → i < length rows → key_of (get_or rows i d) < key_of b
    below i d m = elim (cases_lt (i + 1) (length rows)) [
      | inl more ↦
          let n : ℕ = length rows - 1 in
          let end : n + 1 ≡ length rows = omega arith in
          omega (arith, up i n d (omega arith) (omega arith), after n d end)
      | inr ge ↦ after i d (omega arith)
    ]

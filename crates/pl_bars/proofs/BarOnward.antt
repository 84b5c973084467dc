-- A point by the bars beside it.
use Rattle.std.proofs.Common.{◌≡◌, ℕ, ◌+◌, ◌<◌, ◌≤◌, Bool, true, false, List, length, get_or, refl, sym, ◌∙◌, ap, arith}
use Rattle.std.proofs.lemmas.Bool.Decides.{nat_tests}
use Rattle.std.proofs.lemmas.List.{get_or_default}
use Rattle.pl_spec.specs.declared.BarRow.{BarRow}
use Rattle.pl_bars.specs.Bars.{is_at, is_before, AreBars}
use Rattle.pl_bars.specs.BarPoint.{AllBefore, BarPoint, NoneBefore}
use Rattle.pl_bars.proofs.BarSearch.{parted}

-- where a bar stands before, all up to it do
pub before_one : (col session : ℕ) (rows : List BarRow) (n : ℕ) (d : BarRow) → AreBars rows → n < length rows → is_before col session (get_or rows n d) ≡ true → AllBefore col session rows (n + 1)
before_one col session rows n d up inside before k x h =
    parted col session rows up k n x (omega (arith, h)) inside (ap (is_before col session) (get_or_default rows n x d inside) ∙ before)

-- where a bar does not, none after it does
pub behind_one : (col session : ℕ) (rows : List BarRow) (n : ℕ) (d : BarRow) → AreBars rows → n < length rows → is_before col session (get_or rows n d) ≡ false → NoneBefore col session rows n
behind_one col session rows n d up inside behind k x h l = here (is_before col session (get_or rows k x)) refl
  where
    here : (t : Bool) → is_before col session (get_or rows k x) ≡ t → t ≡ false
    here true e =
        let first : is_before col session (get_or rows n x) ≡ true = parted col session rows up n k x h l e in
        sym first ∙ ap (is_before col session) (get_or_default rows n x d inside) ∙ behind
    here false e = refl

not_before_itself : (col session : ℕ) (b : BarRow) → is_at col session b ≡ true → is_before col session b ≡ false
not_before_itself col session b here = grind (arith, nat_tests)

before_it : (col session : ℕ) (a b : BarRow) → is_before b.col b.session a ≡ true → is_at col session b ≡ true → is_before col session a ≡ true
before_it col session a b before here = grind (arith, nat_tests)

-- a bar stands at its point
pub here_is_point : (col session : ℕ) (rows : List BarRow) (n : ℕ) (d : BarRow) → AreBars rows → n < length rows → is_at col session (get_or rows n d) ≡ true → BarPoint col session rows n
here_is_point col session rows n d up inside here = (before, behind_one col session rows n d up inside (not_before_itself col session (get_or rows n d) here))
  where
    before : (k : ℕ) (x : BarRow) → 0 ≤ k → k < n → is_before col session (get_or rows k x) ≡ true
    before k x z h =
        before_it col session (get_or rows k x) (get_or rows n x) (up.ascend k n x h inside)
        (ap (is_at col session) (get_or_default rows n x d inside) ∙ here)

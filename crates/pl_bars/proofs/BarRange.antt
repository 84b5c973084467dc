-- The point among the bars between two places.
use Rattle.std.proofs.Common.{◌≡◌, ℕ, ◌+◌, ◌-◌, ◌<◌, ◌≤◌, true, false, List, length, take, drop, get_or, sym, ◌∙◌, ap, arith, inl, inr, length-drop}
use Rattle.std.proofs.lemmas.Bool.{cases_lt}
use Rattle.std.proofs.lemmas.List.{length-take, get_or-take, get_or-drop}
use Rattle.pl_spec.specs.declared.BarRow.{BarRow}
use Rattle.pl_bars.specs.Bars.{is_before, AreBars}
use Rattle.pl_bars.specs.BarPoint.{AllBefore, BarPoint, NoneBefore}

module _ (rows : List BarRow) (low count : ℕ) (within : low + count ≤ length rows) where
  abbrev part : List BarRow
  part = take count (drop low rows)

  pub long : length part ≡ count
  long = omega (arith, within, length-take count (drop low rows), length-drop low rows)

  own : (k : ℕ) (d : BarRow) → k < count → get_or part k d ≡ get_or rows (low + k) d
  own k d h = get_or-take count (drop low rows) k d h ∙ get_or-drop low rows k d

  pub part_bars : AreBars rows → AreBars part
  part_bars up = record {
    ascend = λ i j d h l.
        let m : j < count = omega (arith, long, l) in
        let both = up.ascend (low + i) (low + j) d (omega arith) (omega (arith, within)) in
        rw (own i d (omega arith), own j d m) both;
    few = (let few = up.few in omega (arith, long, within));
    cells = λ k d h. (let m : k < count = omega (arith, long, h) in rw (own k d m) (up.cells (low + k) d (omega (arith, within))));
  }

  pub part_point : (col session n : ℕ) → AllBefore col session rows low → NoneBefore col session rows (low + count) → n ≤ count → BarPoint col session part n
      → BarPoint col session rows (low + n)
  part_point col session n before behind most point = (under, over)
    where
      under : (k : ℕ) (d : BarRow) → 0 ≤ k → k < low + n → is_before col session (get_or rows k d) ≡ true
      under k d z h = elim (cases_lt k low) [
        | inl lt ↦ before k d lt
        | inr ge ↦
            let same : low + (k - low) ≡ k = omega arith in
            let it : get_or part (k - low) d ≡ get_or rows k d = own (k - low) d (omega arith) ∙ ap (λ i. get_or rows i d) same in
            ap (is_before col session) (sym it) ∙ point.0 (k - low) d (omega arith) (omega arith)
      ]

      over : (k : ℕ) (d : BarRow) → low + n ≤ k → k < length rows → is_before col session (get_or rows k d) ≡ false
      over k d h l = elim (cases_lt k (low + count)) [
        | inl lt ↦
            let same : low + (k - low) ≡ k = omega arith in
            let it : get_or part (k - low) d ≡ get_or rows k d = own (k - low) d (omega arith) ∙ ap (λ i. get_or rows i d) same in
            ap (is_before col session) (sym it) ∙ point.1 (k - low) d (omega arith) (omega (arith, long))
        | inr ge ↦ behind k d ge l
      ]

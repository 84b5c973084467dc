-- The day of a number's record is found by what was known, whatever comes later, and in whatever order.
use Rattle.std.proofs.Common.{◌≡◌, ℕ, Bool, ℤ, ◌≤ℤ◌, List, filter, find, option_map, IsPermutation, ◌∙◌, ap}
use Rattle.std.specs.Int.RustNames.{int_le}
use Rattle.std.proofs.Math.Path.{fun_ext}
use Rattle.pl_spec.specs.Numbers.{NumberRow, last_known, is_number_of, known_at, numbers_by, NumbersOnce}
use Rattle.pl_spec.proofs.Lists.{filter-filter}
use Rattle.pl_spec.proofs.Numbers.{is_last, known_by, one_last}
use Rattle.pl_spec.proofs.Permuted.{filter-permuted, find-permuted, list_all-permuted}

-- rows of a name and an asset that were known by a day
module _ (name : List ℕ) (a : ℕ) where
  abbrev ours : ℤ → NumberRow → Bool
  ours day r = is_number_of name a day r

  -- rows that were known later do not count
  pub known-without : (rows : List NumberRow) (day d : ℤ) → d ≤ℤ day → known_at (numbers_by day rows) name a d ≡ known_at rows name a d
  known-without rows day d h =
      ap (λ l. option_map (λ (x : NumberRow). x.known) (last_known l))
      (filter-filter (ours d) (λ (r : NumberRow). int_le r.known day) (known_by name a d day h) rows)

  -- nor does the order
  pub known-permuted : (rows others : List NumberRow) → NumbersOnce rows → IsPermutation rows others → (day : ℤ) → known_at rows name a day ≡ known_at others name a day
  known-permuted rows others once moved day =
      let us = filter (ours day) rows in
      let vs = filter (ours day) others in
      let still : IsPermutation us vs = filter-permuted (ours day) rows others moved in
      ap (λ o. option_map (λ (x : NumberRow). x.known) o)
      (find-permuted (is_last us) us vs still (one_last rows once name a day)
      ∙ ap (λ p. find p vs) (fun_ext (λ r. list_all-permuted (λ q. int_le q.known r.known) us vs still)))

-- The sid of a column.
use Rattle.std.proofs.Common.{◌≡◌, ℕ, ◌<◌, ◌==◌, List, length, get_or, sym, ◌∙◌, ap, arith, inl, inr, eq-eqb, eqb-true}
use Rattle.std.specs.Cmp.{both_ways}
use Rattle.std.specs.List.{AllPairs}
use Rattle.std.proofs.lemmas.Bool.{cases_lt}
use Rattle.pl_spec.specs.Parts.{sid_at}
use Rattle.pl_spec.specs.declared.AssetRow.{AssetRow}
use Rattle.pl_spec.proofs.Columns.{no_asset, sid_at-row}

-- columns have sids of their own
pub one_col : (assets : List AssetRow) → AllPairs (λ a b. a.sid < b.sid) assets → (c d : ℕ) → c < length assets → d < length assets → sid_at assets c ≡ sid_at assets d → c ≡ d
one_col assets up c d h l e =
    let same : (get_or assets c no_asset).sid ≡ (get_or assets d no_asset).sid = sym (sid_at-row assets c no_asset h) ∙ e ∙ sid_at-row assets d no_asset l in
    elim (cases_lt c d) [
      | inl lt ↦ absurd (let below : (get_or assets c no_asset).sid < (get_or assets d no_asset).sid = up c d no_asset lt l in omega arith)
      | inr ge ↦ elim (cases_lt d c) [
        | inl lt ↦ absurd (let below : (get_or assets d no_asset).sid < (get_or assets c no_asset).sid = up d c no_asset lt h in omega arith)
        | inr le ↦ omega arith
      ]
    ]

pub same_col : (assets : List AssetRow) → AllPairs (λ a b. a.sid < b.sid) assets → (c d : ℕ) → c < length assets → d < length assets → (sid_at assets c == sid_at assets d) ≡ (c == d)
same_col assets up c d h l = both_ways _ _ (λ t. eq-eqb c d (one_col assets up c d h l (eqb-true _ _ t))) (λ t. eq-eqb _ _ (ap (sid_at assets) (eqb-true c d t)))

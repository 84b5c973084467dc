-- What is stated of facts, and the rows that are kept.
use Rattle.std.specs.Prelude.{◌≡◌, ℕ, ◌+◌, ◌*◌, if◌then◌else◌, ℤ, List, Option, Some, None, option_map, option_and_then, nat_eq}
use Rattle.std.specs.HashMap.{get}
use Rattle.pl_derivation.specs.Facts.{Fact, same_fact}
use Rattle.pl_explain.specs.declared.fact_numbers.FactNumbers.{FactNumbers}
use Rattle.pl_explain.specs.declared.rows.Rows.{Rows}
use Rattle.pl_explain.specs.Keys.{is_small, fact_key}

-- the number that is stated of a fact
unfoldable pub look : FactNumbers → Fact → Option ℤ
look stated f = option_and_then (get nat_eq stated.numbers) (fact_key f)

-- the number of a fact is stated besides those before
abbrev pub IsInsertionOf : Fact → ℤ → FactNumbers → FactNumbers → Type 0
IsInsertionOf f x old new = (g : Fact) → look new g ≡ (if same_fact f g then Some x else look old g)

abbrev pub row_key : ℕ → ℕ → Option ℕ
row_key t d = if is_small d then Some (t * 4294967296 + d) else None

-- the row of a term on a session
unfoldable pub row_at : Rows → ℕ → ℕ → Option (List ℤ)
row_at rows t d = option_map (λ v. v.items) (option_and_then (get nat_eq rows.rows) (row_key t d))

-- A value that is not read is no integer.
use Rattle.std.proofs.Common.{◌≡◌, ◌≢◌, ◌<◌, ◌≤◌, ℕ, zero, suc, [], ◌∷◌, length, refl, sym, ap, ◌∙◌, inl, inr, arith}
use Rattle.std.proofs.lemmas.Bool.{cases_lt}
use Rattle.sqlite.specs.declared.error.Error.{Error}
use Rattle.sqlite.specs.declared.error.Error.TheVariants.{SqliteFailure}
use Rattle.sqlite.specs.declared.error.ErrorCode.TheVariants.{OutOfMemory}
use Rattle.sqlite_value.specs.Order.{Row, column}
use Rattle.sqlite_value.specs.declared.value.Value.TheVariants.{Null}
use Rattle.pl_adjust_sql.specs.declared.refusal.TableError.TheVariants.{Refused}
use Rattle.pl_adjust_sql.specs.Refusals.{table_error}
use Rattle.pl_adjust_sql.specs.Rows.{IsInteger}

past : (row : Row) (place : ℕ) → length row ≤ place → column row place ≡ Null
past [] place far = refl
past (v ∷ row) zero far = absurd (omega arith)
past (v ∷ row) (suc place) far = past row place (omega arith)

pub no_integer : (row : Row) (place : ℕ) (e : Error) → table_error e ≡ Refused → (e ≢ SqliteFailure OutOfMemory → place < length row → ¬ IsInteger (column row place))
    → ¬ IsInteger (column row place)
no_integer row place e refused kind is = elim (cases_lt place (length row)) [
  | inl within ↦ kind (λ same. let bad = sym (ap table_error same) ∙ refused in cc) within is
  | inr far ↦ let same = sym (past row place far) ∙ is.1 in cc
]

-- The names of the columns of bars.
use Rattle.std.specs.Prelude.{ℕ, List, [], ◌∷◌, Option, find, bytes_eq}
use Rattle.pl_spec.specs.declared.Column.{Column}
use Rattle.pl_spec.specs.declared.Column.TheVariants.{OpenPrice, High, Low, Close, Volume}
use Rattle.pl_spec.specs.Names.{column_name}

-- the column that has the name
unfoldable pub column_in : List ℕ → Option Column
column_in text = find (λ c. bytes_eq text (column_name c)) (OpenPrice ∷ High ∷ Low ∷ Close ∷ Volume ∷ [])

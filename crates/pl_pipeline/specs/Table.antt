-- The rows that a run writes, and the numbers that it reports.
use Rattle.std.specs.Prelude.{ℕ, suc, ◌-◌, ◌^◌, Bool, true, if◌then◌else◌, ℤ, pos, List, map, filter, flat_map, fold, ◌+ℤ◌, Option, Some, None, unwrap_or, position, bytes_eq}
use Rattle.std.specs.List.{range_with_len}
use Rattle.pl_spec.specs.Rounding.{is_missing}
use Rattle.std.specs.Int.{int_rem_euclid}
use Rattle.pl_spec.specs.World.{World, living_sids}
use Rattle.pl_pipeline.specs.Term.{Graph, term_at}
use Rattle.pl_pipeline.specs.Value.{Value, value, holds}
use Rattle.pl_pipeline.specs.Value.Value.{Number, Text}

pub record NamedColumn : Type 0 where
  pub name : List ℕ
  pub term : ℕ

-- a checked pipeline: its terms, its columns, its screen and the names of its labels and numbers
pub record Pipeline : Type 0 where
  pub graph : Graph
  pub columns : List NamedColumn
  pub screen : Option ℕ
  pub names : List (List ℕ)

-- the value of term number t
abbrev pub value_of : World → Pipeline → ℕ → ℕ → ℤ → Value
value_of w p t a d = value w p.names (term_at p.graph t) a d

abbrev pub is_kept : World → Pipeline → Option ℕ → ℤ → ℕ → Bool
is_kept w p None d a = true
is_kept w p (Some t) d a = holds (value_of w p t a d)

-- the sids that exist on session d and that the screen keeps, ascending
abbrev pub kept_sids : World → Pipeline → ℤ → List ℕ
kept_sids w p d = filter (is_kept w p p.screen d) (living_sids w d)

pub record Row : Type 0 where
  pub session : ℤ
  pub sid : ℕ
  pub values : List Value

abbrev pub table_row : World → Pipeline → ℤ → ℕ → Row
table_row w p d a = record { session = d; sid = a; values = map (λ c. value_of w p c.term a d) p.columns }

abbrev pub session_rows : World → Pipeline → ℤ → List Row
session_rows w p d = map (table_row w p d) (kept_sids w p d)

-- the rows of the sessions from .. to
abbrev pub table : World → Pipeline → ℕ → ℕ → List Row
table w p from to = flat_map (λ d. session_rows w p (pos d)) (range_with_len from (suc to - from))

-- a value as arrays hold it: a label's text is its code, its place among the texts
abbrev pub in_array : List (List ℕ) → Value → ℤ
in_array texts (Number x) = x
in_array texts (Text t) = pos (unwrap_or (position (bytes_eq t) texts) 0)

-- the values of term t, asset by asset, each over the sessions low .. to, as an array holds them
abbrev pub array_of : World → Pipeline → List ℕ → ℕ → ℕ → ℕ → List ℤ
array_of w p sids low to t =
    flat_map (λ a. map (λ s. in_array w.texts (value_of w p t a (pos s))) (range_with_len low (suc to - low))) sids

-- the sum of the values of all cells modulo 2 ^ 64; missing values count 0
abbrev pub summand : List (List ℕ) → Value → ℤ
summand texts v = let x = in_array texts v in if is_missing x then pos 0 else x

abbrev pub sum_of_cells : List (List ℕ) → List Row → ℤ
sum_of_cells texts rows = int_rem_euclid (fold (λ n r. n +ℤ fold (λ m v. m +ℤ summand texts v) (pos 0) r.values) (pos 0) rows) (pos (2 ^ 64))

-- The fields and lines of a text, in each form.
use Rattle.std.specs.Prelude.{ℕ, ◌-◌, Bool, ◌||◌, if◌then◌else◌, ◌==◌, ℤ, pos, List, [], ◌∷◌, ◌++◌, length, map, flat_map, replicate, decimal}
use Rattle.std.specs.List.{list_any, join_by}
use Rattle.std.specs.Int.{w32, w64, to_le_bytes, cast_unsigned}
use Rattle.pl_spec.specs.declared.Format.{Format}
use Rattle.pl_spec.specs.declared.Format.TheVariants.{Csv, Fixed, Cells}
use Rattle.pl_spec.specs.Dates.{date_text}
use Rattle.pl_spec.specs.Limits.{most_label_bytes}

-- a comma, a quote, or an end of a line
abbrev pub calls_for_quotes : ℕ → Bool
calls_for_quotes b = b == 44 || b == 34 || b == 13 || b == 10

-- a byte in a quoted field
abbrev pub quoted_byte : ℕ → List ℕ
quoted_byte b = if b == 34 then 34 ∷ 34 ∷ [] else b ∷ []

-- a field as CSV has it
abbrev pub quote : List ℕ → List ℕ
quote t = if list_any calls_for_quotes t then 34 ∷ flat_map quoted_byte t ++ 34 ∷ [] else t

abbrev pub label_text : Format → List ℕ → List ℕ
label_text Csv t = quote t
label_text Fixed t = t
label_text Cells t = t ++ replicate (most_label_bytes - length t) 0

-- spaces before a text, or after it, up to a width; a longer text stays whole
abbrev pub right_in : ℕ → List ℕ → List ℕ
right_in width t = replicate (width - length t) 32 ++ t

abbrev pub left_in : ℕ → List ℕ → List ℕ
left_in width t = t ++ replicate (width - length t) 32

-- a number's bytes, low ones first, below 0 as two's complement: four of them, and eight
abbrev pub four_bytes : ℤ → List ℕ
four_bytes x = to_le_bytes w32 (cast_unsigned w32 x)

abbrev pub eight_bytes : ℤ → List ℕ
eight_bytes x = to_le_bytes w64 (cast_unsigned w64 x)

-- a day, and a sid, as they stand in a row
abbrev pub day_field : Format → ℤ → List ℕ
day_field Csv day = date_text day
day_field Fixed day = date_text day
day_field Cells day = four_bytes day

abbrev pub sid_field : Format → ℕ → List ℕ
sid_field Csv sid = decimal sid
sid_field Fixed sid = decimal sid
sid_field Cells sid = to_le_bytes w32 sid

-- a line of the date's field, the sid's field and the others
abbrev pub line_text : Format → List ℕ → List ℕ → List (List ℕ) → List ℕ
line_text Csv date sid fields = join_by (λ f. f) (44 ∷ []) (date ∷ sid ∷ fields) ++ 10 ∷ []
line_text Fixed date sid fields = join_by (λ f. f) (32 ∷ []) (left_in 10 date ∷ right_in 10 sid ∷ map (right_in 20) fields) ++ 10 ∷ []
line_text Cells date sid fields = date ++ sid ++ flat_map (λ f. f) fields

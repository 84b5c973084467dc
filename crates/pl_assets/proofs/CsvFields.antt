-- The field of a text is that of csv.
use Rattle.std.proofs.Common.{◌≡◌, ℕ, ◌==◌, ◌||◌, Bool, true, false, if◌then◌else◌, List, [], ◌∷◌, ◌++◌, get_or, refl, ◌∙◌, ap, arith}
use Rattle.std.specs.List.{flat_map, list_any}
use Rattle.std.proofs.lemmas.Bool.Decides.{nat_tests}
use Rattle.csv.specs.Writing.{default_writer, escaped, field_text, needs_byte}
use Rattle.pl_lifetimes.proofs.Filters.{any-same}
use Rattle.pl_spec.specs.Lines.{calls_for_quotes, quote, quoted_byte}

same_need : (b : ℕ) → calls_for_quotes b ≡ needs_byte default_writer b
same_need b = here (b == 44) (b == 34) (b == 13) (b == 10)
  where
    here : (x y z w : Bool) → (x || y || z || w) ≡ (x || y || (z || w) || false || false)
    here true y z w = refl
    here false true z w = refl
    here false false true w = refl
    here false false false true = refl
    here false false false false = refl

same_bytes : (text : List ℕ) → flat_map quoted_byte text ≡ escaped default_writer text
unfolding escaped
same_bytes [] = refl
same_bytes (b ∷ text) = here (b == 34) refl ∙ ap (λ l. if b == 34 then 34 ∷ b ∷ l else b ∷ l) (same_bytes text)
  where
    here : (t : Bool) → (b == 34) ≡ t → (if t then 34 ∷ 34 ∷ [] else b ∷ []) ++ flat_map quoted_byte text ≡ (if t then 34 ∷ b ∷ flat_map quoted_byte text else b ∷ flat_map quoted_byte text)
    here true e = let same : 34 ≡ b = grind (arith, nat_tests) in ap (λ c. 34 ∷ c ∷ flat_map quoted_byte text) same
    here false e = refl

pub field_of_csv : (text : List ℕ) → quote text ≡ field_text default_writer text
field_of_csv text =
    ap (λ b. if b then 34 ∷ flat_map quoted_byte text ++ 34 ∷ [] else text) (any-same calls_for_quotes (needs_byte default_writer) text (λ k d h. same_need (get_or text k d)))
    ∙ ap (λ l. if list_any (needs_byte default_writer) text then 34 ∷ (l ++ 34 ∷ []) else text) (same_bytes text)

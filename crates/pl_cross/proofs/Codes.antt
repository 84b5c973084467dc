-- Codes tell labels apart.
use Rattle.std.proofs.Common.{◌≡◌, ◌⊎◌, ℕ, ◌&&◌, Bool, true, false, ℤ, pos, List, [], get_or, Option, Some, None, unwrap_or, position, bytes_eq, refl, sym, ◌∙◌, ap, inl, inr, true≢false, Contains}
use Rattle.std.specs.Ordering.{int_eq}
use Rattle.std.proofs.lemmas.Bool.Decides.{Decides-int_eq}
use Rattle.std.proofs.lemmas.Slice.Eq.{bytes_eq-Decides}
use Rattle.std.proofs.lemmas.List.Quantifiers.{position-Some}
use Rattle.pl_spec.specs.Rounding.{MISSING, is_present}
use Rattle.pl_pipeline.specs.Value.{Value, number_of, is_same}
use Rattle.pl_pipeline.specs.Value.Value.{Number, Text}
use Rattle.pl_pipeline.specs.Table.{in_array}
use Rattle.pl_spec.proofs.Places.{nowhere}

-- after a text's code stands the text
behind : (texts : List (List ℕ)) (t : List ℕ) → Contains texts t → get_or texts (unwrap_or (position (bytes_eq t) texts) 0) [] ≡ t
behind texts t own = here (position (bytes_eq t) texts) refl
  where
    here : (o : Option ℕ) → position (bytes_eq t) texts ≡ o → get_or texts (unwrap_or (position (bytes_eq t) texts) 0) [] ≡ t
    here (Some n) e =
        let it = position-Some (bytes_eq t) texts n [] e in
        ap (λ o. get_or texts (unwrap_or o 0) []) e ∙ sym ((bytes_eq-Decides t (get_or texts n [])).0 it.1)
    here None e =
        absurd (true≢false (sym ((bytes_eq-Decides t (get_or texts own.0 t)).1 (sym own.2)) ∙ nowhere (bytes_eq t) texts e own.0 t own.1))

same_codes : (texts : List (List ℕ)) (s t : List ℕ) → Contains texts s → Contains texts t → is_same (Text s) (Text t) ≡ int_eq (in_array texts (Text s)) (in_array texts (Text t))
same_codes texts s t has_s has_t = here (bytes_eq s t) refl (int_eq (in_array texts (Text s)) (in_array texts (Text t))) refl
  where
    here : (b : Bool) → bytes_eq s t ≡ b → (e : Bool) → int_eq (in_array texts (Text s)) (in_array texts (Text t)) ≡ e → bytes_eq s t ≡ int_eq (in_array texts (Text s)) (in_array texts (Text t))
    here true p e q = p ∙ sym ((Decides-int_eq (in_array texts (Text s)) (in_array texts (Text t))).1 (ap (λ x. in_array texts (Text x)) ((bytes_eq-Decides s t).0 p)))
    here false p false q = p ∙ sym q
    here false p true q =
        let codes : in_array texts (Text s) ≡ in_array texts (Text t) = (Decides-int_eq (in_array texts (Text s)) (in_array texts (Text t))).0 q in
        let one : s ≡ t = sym (behind texts s has_s) ∙ ap (λ n. get_or texts n []) (numbers codes) ∙ behind texts t has_t in
        absurd (true≢false (sym ((bytes_eq-Decides s t).1 one) ∙ p))
      where
        numbers : {m n : ℕ} → pos m ≡ pos n → m ≡ n
        numbers e = cc

-- whether a value is present is told by what stands for it
pub present_code : (texts : List (List ℕ)) (v : Value) → is_present (number_of v) ≡ is_present (in_array texts v)
present_code texts (Number x) = refl
present_code texts (Text t) = refl

-- a label of the texts, or none
abbrev pub IsCoded : List (List ℕ) → Value → Type 0
IsCoded texts v = (v ≡ Number MISSING) ⊎ ((t : List ℕ) × (v ≡ Text t) × Contains texts t)

abbrev pub IsNumber : Value → Type 0
IsNumber v = (x : ℤ) × (v ≡ Number x)

pub same_numbers : (texts : List (List ℕ)) (u v : Value) → IsNumber u → IsNumber v
    → (is_present (number_of u) && is_same u v) ≡ (is_present (in_array texts u) && int_eq (in_array texts u) (in_array texts v))
same_numbers texts u v a b = rw (a.1, b.1) refl

pub same_labels : (texts : List (List ℕ)) (u v : Value) → IsCoded texts u → IsCoded texts v
    → (is_present (number_of u) && is_same u v) ≡ (is_present (in_array texts u) && int_eq (in_array texts u) (in_array texts v))
same_labels texts u v (inl a) b = rw a refl
same_labels texts u v (inr a) (inl b) = rw (a.1, b) refl
same_labels texts u v (inr a) (inr b) = rw (a.1, b.1) (same_codes texts a.0 b.0 a.2 b.2)

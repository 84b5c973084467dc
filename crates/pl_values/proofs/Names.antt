-- Labels under a name, and their codes.
use Rattle.std.proofs.Common.{◌≡◌, ℕ, Bool, true, false, ℤ, pos, List, [], ◌∷◌, Option, Some, None, map, filter, position, unwrap_or, option_and_then, bytes_eq, get_or, slice_index_or, refl, sym, ◌∙◌, ap, inl, inr, Contains, IfSome, true≢false}
use Rattle.std.proofs.lemmas.Slice.Eq.{bytes_eq-Decides}
use Rattle.std.proofs.lemmas.List.Quantifiers.{position-Some}
use Rattle.pl_spec.specs.Rounding.{MISSING}
use Rattle.pl_spec.specs.World.{is_label_of}
use Rattle.pl_spec.specs.Parts.{ColumnLabel}
use Rattle.pl_spec.proofs.Members.{In, in-contains, map-in}
use Rattle.pl_spec.proofs.Places.{nowhere}
use Rattle.pl_assets.specs.Labels.{label_on, by_column, names_of}
use Rattle.pl_values.specs.Families.{label_code, code_cell}
use Rattle.pl_values.proofs.Texts.{seen-in}

-- a name that no row has
unnamed : (name : List ℕ) (col : ℕ) (day : ℤ) (rows : List ColumnLabel) → ((r : ColumnLabel) → In r rows → bytes_eq r.name name ≡ false)
    → filter (is_label_of name col day) (map by_column rows) ≡ []
unnamed name col day [] h = refl
unnamed name col day (r ∷ rs) h = let e : bytes_eq r.name name ≡ false = h r (inl refl) in rw e (unnamed name col day rs (λ q i. h q (inr i)))

other-name : (name : List ℕ) (rows : List ColumnLabel) → position (bytes_eq name) (names_of rows) ≡ None → (r : ColumnLabel) → In r rows → bytes_eq r.name name ≡ false
other-name name rows e r i = here (bytes_eq r.name name) refl
  where
    there : Contains (names_of rows) r.name
    there = in-contains (names_of rows) r.name (seen-in (map (λ (q : ColumnLabel). q.name) rows) r.name (map-in (λ (q : ColumnLabel). q.name) rows r i))

    here : (b : Bool) → bytes_eq r.name name ≡ b → b ≡ false
    here false g = refl
    here true g =
        let same : r.name ≡ name = (bytes_eq-Decides r.name name).0 g in
        let place : get_or (names_of rows) there.0 r.name ≡ name = there.2 ∙ same in
        absurd (true≢false (sym ((bytes_eq-Decides name (get_or (names_of rows) there.0 r.name)).1 (sym place)) ∙ nowhere (bytes_eq name) (names_of rows) e there.0 r.name there.1))

pub no-name : (name : List ℕ) (rows : List ColumnLabel) (texts : List (List ℕ)) (col : ℕ) (day : ℤ) → position (bytes_eq name) (names_of rows) ≡ None
    → MISSING ≡ label_code texts (label_on rows name col day)
unfolding label_on
no-name name rows texts col day e = rw (unnamed name col day rows (other-name name rows e)) refl

-- the name of a number
pub name-behind : (name : List ℕ) (names : List (List ℕ)) (n : ℕ) → position (bytes_eq name) names ≡ Some n → slice_index_or names n [] ≡ name
name-behind name names n e = let it = position-Some (bytes_eq name) names n [] e in sym ((bytes_eq-Decides name (get_or names n [])).0 it.1)

-- a label's code as a cell
pub code-is : (texts : List (List ℕ)) (o : Option (List ℕ)) → IfSome o (Contains texts) → code_cell (option_and_then (λ t. position (bytes_eq t) texts) o) ≡ label_code texts o
code-is texts None h = refl
code-is texts (Some t) h = here (position (bytes_eq t) texts) refl
  where
    here : (o : Option ℕ) → position (bytes_eq t) texts ≡ o → code_cell (position (bytes_eq t) texts) ≡ pos (unwrap_or (position (bytes_eq t) texts) 0)
    here (Some n) e = rw e refl
    here None e = absurd (true≢false (sym ((bytes_eq-Decides t (get_or texts h.0 t)).1 (sym h.2)) ∙ nowhere (bytes_eq t) texts e h.0 t h.1))

-- the code that was found under the name's number is that of the label under the name
pub code-given : (rows : List ColumnLabel) (texts : List (List ℕ)) (name : List ℕ) (number col : ℕ) (day : ℤ) (code : Option ℕ) → position (bytes_eq name) (names_of rows) ≡ Some number
    → code ≡ option_and_then (λ t. position (bytes_eq t) texts) (label_on rows (slice_index_or (names_of rows) number []) col day)
    → IfSome (label_on rows (slice_index_or (names_of rows) number []) col day) (Contains texts)
    → code_cell code ≡ label_code texts (label_on rows name col day)
code-given rows texts name number col day code e is known =
    ap code_cell is ∙ code-is texts (label_on rows (slice_index_or (names_of rows) number []) col day) known
    ∙ ap (λ m. label_code texts (label_on rows m col day)) (name-behind name (names_of rows) number e)

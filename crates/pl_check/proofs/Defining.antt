-- What a map of names has at a name, and what one name more makes of it.
use Rattle.std.proofs.Common.{◌≡◌, ℕ, Bool, true, false, cond, List, [], ◌∷◌, ◌++◌, map, Option, Some, None, option_map, bytes_eq, refl, ap, Bor}
use Rattle.std.specs.Map.{lookup}
use Rattle.indexmap.specs.IndexMap.{insert_entry}
use Rattle.pl_check.specs.declared.value.Value as code
use Rattle.pl_check.specs.Typed.{defined}
use Rattle.pl_check.specs.Seen.{value_of, definition_of}

abbrev Entry : Type 0
Entry = Bor (List ℕ) × code.Value

abbrev at_name : List Entry → List ℕ → Option code.Value
at_name es n = lookup (λ (k : Bor (List ℕ)). bytes_eq n k.now) es

abbrev with_entry : List Entry → Bor (List ℕ) → code.Value → List Entry
with_entry es n v = insert_entry (λ (x y : Bor (List ℕ)). bytes_eq x.now y.now) es n v

pub looked_up : (es : List Entry) (n : List ℕ) → option_map value_of (at_name es n) ≡ defined (map definition_of es) n
unfolding defined
looked_up [] n = refl
looked_up (e ∷ es) n = here (bytes_eq n e.0.now) (looked_up es n)
  where
    here : (b : Bool) → option_map value_of (at_name es n) ≡ defined (map definition_of es) n
        → option_map value_of (cond b (Some e.1) (at_name es n)) ≡ cond b (Some (value_of e.1)) (defined (map definition_of es) n)
    here true rest = refl
    here false rest = rest

pub defined_behind : (es : List Entry) (n : Bor (List ℕ)) (v : code.Value) → defined (map definition_of es) n.now ≡ None
    → map definition_of (with_entry es n v) ≡ map definition_of es ++ definition_of (n, v) ∷ []
unfolding defined
defined_behind [] n v h = refl
defined_behind (e ∷ es) n v h = here (bytes_eq n.now e.0.now) h (λ k. defined_behind es n v k)
  where
    here : (b : Bool) → cond b (Some (value_of e.1)) (defined (map definition_of es) n.now) ≡ None
        → (defined (map definition_of es) n.now ≡ None → map definition_of (with_entry es n v) ≡ map definition_of es ++ definition_of (n, v) ∷ [])
        → map definition_of (cond b ((e.0, v) ∷ es) (e ∷ with_entry es n v)) ≡ definition_of e ∷ (map definition_of es ++ definition_of (n, v) ∷ [])
    here true k rest = absurd (let no : Some (value_of e.1) ≡ None = k in cc)
    here false k rest = ap (λ z. definition_of e ∷ z) (rest k)

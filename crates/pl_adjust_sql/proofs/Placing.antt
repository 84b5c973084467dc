-- The five columns of a table that has them, and where they are.
use Rattle.std.proofs.Common.{◌≡◌, ◌+◌, ◌∙◌, ℕ, suc, List, [], ◌∷◌, codes, slice_get, Bool, true, false, cond, None, Some, Option, refl, sym, ap, arith}
use Rattle.std.specs.Prelude.{option_map}
use Rattle.std.specs.List.{position_from}
use Rattle.std.proofs.lemmas.Option.{option_and_then_some}
use Rattle.sqlite.specs.Table.{Table}
use Rattle.sqlite_schema.specs.Names.{same_name, column_named, place_of}
use Rattle.sqlite_schema.specs.Rules.{places_named}
use Rattle.pl_adjust_sql.specs.Tables.{columns}
use Rattle.pl_adjust_sql.proofs.Resolving.{HasColumn}

abbrev There : {X : Type 0} → List X → ℕ → ℕ → Type 0
There {X} xs from k = (j : ℕ) × (from + j ≡ k) × (x : X) × (slice_get xs j ≡ Some x)

there : {X : Type 0} (p : X → Bool) (xs : List X) (from k : ℕ) → position_from p from xs ≡ Some k → There xs from k
there p [] from k e = absurd cc
there {X} p (x ∷ xs) from k e = elim (p x) as (λ b. cond b (Some from) (position_from p (from + 1) xs) ≡ Some k → There (x ∷ xs) from k) [
  | true ↦ λ here. (0, (let same : from ≡ k = cc in omega arith), x, refl)
  | false ↦ λ later. let r = there p xs (from + 1) k later in (suc r.0, (let at = r.1 in omega arith), r.2, r.3)
] e

has_column : (t : Table) (name : List ℕ) (k : ℕ) → column_named t name ≡ Some k → HasColumn t name
has_column t name k e =
    let r = there (λ c. same_name c.name name) t.columns 0 k e in
    let same : r.0 ≡ k = (let at = r.1 in omega arith) in
    record { place = k; column = r.2; named = e; is = sym (ap (slice_get t.columns) same) ∙ r.3 }

abbrev Split : Table → List ℕ → List (List ℕ) → List ℕ → Type 0
Split t name names places = (c : HasColumn t name) × (more : List ℕ) × (places_named t names ≡ Some more) × (places ≡ place_of t c.place ∷ more)

after : (k : ℕ) (o : Option (List ℕ)) (places : List ℕ) → option_map (λ ps. k ∷ ps) o ≡ Some places → (more : List ℕ) × (o ≡ Some more) × (places ≡ k ∷ more)
after k None places e = absurd cc
after k (Some more) places e = (more, refl, cc)

split : (t : Table) (name : List ℕ) (names : List (List ℕ)) (places : List ℕ) → places_named t (name ∷ names) ≡ Some places → Split t name names places
unfolding has_column
split t name names places e = option_and_then_some {P = Split t name names places} (λ at. option_map (λ ps. place_of t at ∷ ps) (places_named t names)) (column_named t name) places e
    (λ at is rest. let r = after (place_of t at) (places_named t names) places rest in (has_column t name at is, r.0, r.1, r.2))

in_turn : (places p q r s : List ℕ) (a b c d e : ℕ) → places ≡ a ∷ p → p ≡ b ∷ q → q ≡ c ∷ r → r ≡ d ∷ s → s ≡ e ∷ [] → places ≡ a ∷ b ∷ c ∷ d ∷ e ∷ []
in_turn places p q r s a b c d e is_a is_b is_c is_d is_e = cc

the_last : (places more : List ℕ) (k : ℕ) → places ≡ k ∷ more → more ≡ [] → places ≡ k ∷ []
the_last places more k is none = cc

pub record HasFive (t : Table) (places : List ℕ) : Type 0 where
  pub id : HasColumn t (codes "id")
  pub effective : HasColumn t (codes "effective_date")
  pub num : HasColumn t (codes "num")
  pub den : HasColumn t (codes "den")
  pub sid : HasColumn t (codes "sid")
  pub are : places ≡ place_of t id.place ∷ place_of t effective.place ∷ place_of t num.place ∷ place_of t den.place ∷ place_of t sid.place ∷ []

pub five : (t : Table) (places : List ℕ) → places_named t columns ≡ Some places → HasFive t places
five t places e =
    let a = split t (codes "id") (codes "effective_date" ∷ codes "num" ∷ codes "den" ∷ codes "sid" ∷ []) places e in
    let b = split t (codes "effective_date") (codes "num" ∷ codes "den" ∷ codes "sid" ∷ []) a.1 a.2 in
    let c = split t (codes "num") (codes "den" ∷ codes "sid" ∷ []) b.1 b.2 in
    let d = split t (codes "den") (codes "sid" ∷ []) c.1 c.2 in
    let f = split t (codes "sid") [] d.1 d.2 in
    let none : f.1 ≡ [] = (let last = f.2 in cc) in
    record {
      id = a.0;
      effective = b.0;
      num = c.0;
      den = d.0;
      sid = f.0;
      are = in_turn places a.1 b.1 c.1 d.1 _ _ _ _ _ a.3 b.3 c.3 d.3 (the_last d.1 f.1 _ f.3 none);
    }

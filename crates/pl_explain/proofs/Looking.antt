-- One fact more that is stated, and one row more that is kept.
use Rattle.std.proofs.Common.{◌≡◌, ℕ, ◌+◌, ◌*◌, Bool, true, false, ◌&&◌, if◌then◌else◌, cond, ℤ, Option, Some, None, option_map, refl, sym, ◌∙◌, ap, nat_eq, ◌==◌, Vec, Global}
use Rattle.std.specs.Option.{option_and_then}
use Rattle.std.specs.HashMap.{get}
use Rattle.std.proofs.lemmas.Bool.{true≢false, eqb-true, eq-eqb, and_parts, and_from}
use Rattle.std.proofs.lemmas.Option.{none-some}
use Rattle.pl_derivation.specs.Facts.{Fact, same_fact}
use Rattle.pl_derivation.proofs.Truths.{same_is, is_same}
use Rattle.pl_explain.specs.declared.fact_numbers.FactNumbers.{FactNumbers}
use Rattle.pl_explain.specs.declared.rows.Rows.{Rows}
use Rattle.pl_explain.specs.Keys.{is_small, fact_key}
use Rattle.pl_explain.specs.Looking.{look, row_key, row_at}
use Rattle.pl_explain.proofs.Keys.{small-is, digits, some-if, key-same}

pub stated-more : (old new : FactNumbers) (f : Fact) (k : ℕ) (x : ℤ) → fact_key f ≡ Some k → ((q : ℕ) → get nat_eq new.numbers q ≡ cond (nat_eq k q) (Some x) (get nat_eq old.numbers q))
    → (g : Fact) → look new g ≡ (if same_fact f g then Some x else look old g)
unfolding look
stated-more old new f k x e updates g = here (fact_key g) refl
  where
    none : (b : Bool) → same_fact f g ≡ b → fact_key g ≡ None → None ≡ (if b then Some x else None)
    none false i h = refl
    none true i h = let same : f ≡ g = same_is f g i in absurd (none-some k (sym h ∙ ap fact_key (sym same) ∙ e))

    some : (q : ℕ) → fact_key g ≡ Some q → (b c : Bool) → nat_eq k q ≡ b → same_fact f g ≡ c → cond b (Some x) (get nat_eq old.numbers q) ≡ (if c then Some x else get nat_eq old.numbers q)
    some q h true true i j = refl
    some q h false false i j = refl
    some q h true false i j =
        let same : k ≡ q = eqb-true k q i in
        let fact : f ≡ g = key-same f g q (e ∙ ap Some same) h in
        absurd (true≢false (sym (is_same f) ∙ ap (same_fact f) fact ∙ j))
    some q h false true i j =
        let fact : f ≡ g = same_is f g j in
        let keys : Some k ≡ Some q = sym e ∙ ap fact_key fact ∙ h in
        let same : k ≡ q = cc in
        absurd (true≢false (sym (eq-eqb k q same) ∙ i))

    here : (o : Option ℕ) → fact_key g ≡ o → option_and_then (get nat_eq new.numbers) (fact_key g) ≡ (if same_fact f g then Some x else option_and_then (get nat_eq old.numbers) (fact_key g))
    here None h = rw h (none (same_fact f g) refl h)
    here (Some q) h = rw h (updates q ∙ some q h (nat_eq k q) (same_fact f g) refl refl)

pub row-more : (old new : Rows) (t d k : ℕ) (x : Vec ℤ Global) → row_key t d ≡ Some k → ((q : ℕ) → get nat_eq new.rows q ≡ cond (nat_eq k q) (Some x) (get nat_eq old.rows q))
    → (u s : ℕ) → row_at new u s ≡ (if t == u && d == s then Some x.items else row_at old u s)
unfolding row_at
row-more old new t d k x e updates u s = here (row_key u s) refl
  where
    own : (t * 4294967296 + d) ≡ k
    own = (some-if (is_small d) (t * 4294967296 + d) k e).1

    small : is_small d ≡ true
    small = (some-if (is_small d) (t * 4294967296 + d) k e).0

    test : Bool
    test = t == u && d == s

    key-is : (b : Bool) → (t == u && d == s) ≡ b → b ≡ true → row_key u s ≡ Some k
    key-is b i h =
        let both = and_parts (t == u) (d == s) (i ∙ h) in
        let term : t ≡ u = eqb-true t u both.0 in
        let session : d ≡ s = eqb-true d s both.1 in
        rw (sym term, sym session) e

    none : (b : Bool) → (t == u && d == s) ≡ b → row_key u s ≡ None → None ≡ (if b then Some x.items else None)
    none false i h = refl
    none true i h = absurd (none-some k (sym h ∙ key-is true i refl))

    some : (q : ℕ) → row_key u s ≡ Some q → (b c : Bool) → nat_eq k q ≡ b → (t == u && d == s) ≡ c
        → option_map (λ v. v.items) (cond b (Some x) (get nat_eq old.rows q)) ≡ (if c then Some x.items else option_map (λ v. v.items) (get nat_eq old.rows q))
    some q h true true i j = refl
    some q h false false i j = refl
    some q h true false i j =
        let same : k ≡ q = eqb-true k q i in
        let other = some-if (is_small s) (u * 4294967296 + s) q h in
        let parts = digits t d u s (small-is d small) (small-is s other.0) (own ∙ same ∙ sym other.1) in
        absurd (true≢false (sym (and_from (t == u) (d == s) (eq-eqb t u parts.0) (eq-eqb d s parts.1)) ∙ j))
    some q h false true i j =
        let keys : Some k ≡ Some q = sym (key-is true j refl) ∙ h in
        let same : k ≡ q = cc in
        absurd (true≢false (sym (eq-eqb k q same) ∙ i))

    here : (o : Option ℕ) → row_key u s ≡ o
        → option_map (λ v. v.items) (option_and_then (get nat_eq new.rows) (row_key u s)) ≡ (if t == u && d == s then Some x.items else option_map (λ v. v.items) (option_and_then (get nat_eq old.rows) (row_key u s)))
    here None h = rw h (none (t == u && d == s) refl h)
    here (Some q) h = rw h (ap (option_map (λ v. v.items)) (updates q) ∙ some q h (nat_eq k q) (t == u && d == s) refl refl)

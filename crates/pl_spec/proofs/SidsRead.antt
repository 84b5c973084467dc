-- A text is read as a sid exactly where it is the text of a number of 32 bits.
use Rattle.std.proofs.Common.{◌≡◌, ℕ, ◌<◌, ◌^◌, nat_lt, List, true, Some, refl, ◌∙◌, ap, arith, bytes_eq}
use Rattle.std.specs.Fmt.{decimal}
use Rattle.std.specs.Str.Parse.{digits_value}
use Rattle.std.proofs.lemmas.Bool.Decides.{nat_tests}
use Rattle.std.proofs.lemmas.Bool.{and_parts}
use Rattle.std.proofs.lemmas.Option.{cond_some}
use Rattle.std.proofs.lemmas.Slice.Eq.{bytes_eq-Decides}
use Rattle.std.proofs.lemmas.Fmt.{decimal_is_IsNumeral}
use Rattle.pl_spec.specs.Decimals.{sid_in}

pub sid_in-decimal : (text : List ℕ) (sid : ℕ) → sid < 2 ^ 32 → text ≡ decimal sid → sid_in text ≡ Some sid
unfolding sid_in
sid_in-decimal text sid h e =
    let v : digits_value 10 text ≡ sid = rw e (decimal_is_IsNumeral sid (omega arith)).1 in
    let t : nat_lt sid (2 ^ 32) ≡ true = grind (arith, nat_tests) in
    let s : bytes_eq text (decimal sid) ≡ true = (bytes_eq-Decides text (decimal sid)).1 e in
    rw (v, t, s) refl

pub decimal-sid_in : (text : List ℕ) (sid : ℕ) → sid_in text ≡ Some sid → (sid < 2 ^ 32) × (text ≡ decimal sid)
unfolding sid_in
decimal-sid_in text sid e =
    let p = cond_some _ _ _ e in
    let q = and_parts _ _ p.0 in
    let t : nat_lt (digits_value 10 text) (2 ^ 32) ≡ true = q.0 in
    let small : digits_value 10 text < 2 ^ 32 = grind (arith, nat_tests) in
    let v : digits_value 10 text ≡ sid = p.1 in
    (omega arith, (bytes_eq-Decides text (decimal (digits_value 10 text))).0 q.1 ∙ ap decimal v)

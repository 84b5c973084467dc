-- The records of a text, one at a time.
use Rattle.std.proofs.Common.{◌≡◌, ℕ, ◌<◌, ◌≤◌, List, [], ◌∷◌, length, Bool, true, false, refl, ap, arith, Option, Some, None, zero, suc, if◌then◌else◌}
use Rattle.std.proofs.lemmas.Grind.{common_steps}
use Rattle.csv.specs.Machine.{step, is_end, ends_at_end, next_record, Read, fields_after, field_after}
use Rattle.csv.specs.Reading.{default_config, records_from, records_next}
use Rattle.csv.specs.declared.parser.State.{State}
use Rattle.csv.specs.declared.parser.State.TheVariants as st

pub step-ends : (s : State) (c : ℕ) → is_end (step default_config s c).1 ≡ true → ends_at_end (step default_config s c).0 ≡ false
step-ends st.StartRecord c e = grind (arith, common_steps)
step-ends st.StartField c e = grind (arith, common_steps)
step-ends st.InField c e = grind (arith, common_steps)
step-ends st.InQuoted c e = grind (arith, common_steps)
step-ends st.InEscape c e = grind (arith, common_steps)
step-ends st.AfterQuote c e = grind (arith, common_steps)
step-ends st.InComment c e = grind (arith, common_steps)
step-ends st.AfterCr c e = grind (arith, common_steps)

-- what a record leaves
pub record Leaves (s : State) (xs : List ℕ) (p : Read) : Type 0 where
  pub between : ends_at_end p.1 ≡ false
  pub no_longer : length p.2 ≤ length xs
  pub shorter : ends_at_end s ≡ false → length p.2 < length xs

end-leaves : (s : State) (b : Bool) (r p : Read) → ends_at_end s ≡ b → r.1 ≡ st.StartRecord → r.2 ≡ []
    → (if b then Some r else None) ≡ Some p → Leaves s [] p
end-leaves s true r p k u v e =
    let same : r ≡ p = cc in
    record {
      between = rw (← same, u) refl;
      no_longer = rw (← same, v) (omega arith);
      shorter = λ f. let bad : true ≡ false = cc in absurd (let b : Bool = true in cc);
    }
end-leaves s false r p k u v e = absurd (cc)

char-leaves : (s s2 : State) (c : ℕ) (rest : List ℕ) (b : Bool) (r p : Read) (o : Option Read)
    → (b ≡ true → ends_at_end s2 ≡ false) → r.1 ≡ s2 → r.2 ≡ rest → (o ≡ Some p → Leaves s2 rest p)
    → (if b then Some r else o) ≡ Some p → Leaves s (c ∷ rest) p
char-leaves s s2 c rest true r p o h u v more e =
    let same : r ≡ p = cc in
    record {
      between = rw (← same, u) (h refl);
      no_longer = rw (← same, v) (omega arith);
      shorter = λ f. rw (← same, v) (omega arith);
    }
char-leaves s s2 c rest false r p o h u v more e =
    let it : Leaves s2 rest p = more e in
    record {
      between = it.between;
      no_longer = omega (arith, it.no_longer);
      shorter = λ f. omega (arith, it.no_longer);
    }

pub next-leaves : (s : State) (fields : List (List ℕ)) (field xs : List ℕ) (p : Read) → next_record default_config s fields field xs ≡ Some p → Leaves s xs p
unfolding next_record
next-leaves s fields field [] p e = end-leaves s (ends_at_end s) _ p refl refl refl e
next-leaves s fields field (c ∷ rest) p e =
    char-leaves s _ c rest _ _ p _ (step-ends s c) refl refl
    (next-leaves (step default_config s c).0 (fields_after (step default_config s c).1 fields field) (field_after (step default_config s c).1 c field) rest p) e

-- with fuel enough the fuel doesn't matter
next-same : (n m : ℕ) (s : State) (xs : List ℕ) (o : Option Read) → next_record default_config s [] [] xs ≡ o → ends_at_end s ≡ false
    → ((p : Read) → ends_at_end p.1 ≡ false → length p.2 < length xs → records_from default_config n p.1 p.2 ≡ records_from default_config m p.1 p.2)
    → records_next (records_from default_config n) o ≡ records_next (records_from default_config m) o
next-same n m s xs None e k more = refl
next-same n m s xs (Some p) e k more =
    let it : Leaves s xs p = next-leaves s [] [] xs p e in
    ap (λ rest. p.0 ∷ rest) (more p it.between (it.shorter k))

pub fuel-same : (n m : ℕ) (s : State) (xs : List ℕ) → ends_at_end s ≡ false → length xs < n → length xs < m
    → records_from default_config n s xs ≡ records_from default_config m s xs
unfolding records_from
fuel-same zero m s xs e h k = absurd (omega arith)
fuel-same (suc n) zero s xs e h k = absurd (omega arith)
fuel-same (suc n) (suc m) s xs e h k =
    next-same n m s xs (next_record default_config s [] [] xs) refl e
    (λ p between shorter. fuel-same n m p.1 p.2 between (omega arith) (omega arith))

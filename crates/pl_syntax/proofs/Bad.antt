-- No token begins where a gap does, and a bad byte is found as one.
use Rattle.std.proofs.Common.{◌≡◌, ℕ, suc, ◌+◌, ◌<◌, ◌≤◌, true, false, ◌&&◌, List, [], ◌∷◌, ◌++◌, length, drop, refl, ap, ◌∙◌, arith, length-append}
use Rattle.std.specs.Prelude.{◌==◌, nat_le}
use Rattle.std.proofs.lemmas.Bool.Decides.{nat_tests}
use Rattle.std.proofs.lemmas.Bool.{or_left, cond-false, cond-true, lt-leb}
use Rattle.pl_syntax.specs.declared.front.Form.{Form}
use Rattle.pl_syntax.specs.declared.front.Found.TheVariants.{Bad}
use Rattle.pl_syntax.specs.Bytes.{Stops, is_text_byte, pairs, is_sign, begins_gap}
use Rattle.pl_spec.specs.Names.{is_word_byte, is_digit, starts_word}
use Rattle.pl_syntax.specs.Tokens.{Front, a_word, a_whole, a_decimal, a_text, a_pair, a_sign}
use Rattle.pl_syntax.specs.Front.{word_front, text_end, sign_front, front}
use Rattle.pl_syntax.specs.Text.{IsBad, bad_word, bad_text, bad_sign, IsUnquoted}
use Rattle.pl_syntax.proofs.Longest.{longest, run_length, drop_front, not_both_of}

word_no_gap : (c : ℕ) → starts_word c ≡ true → begins_gap c ≡ false
word_no_gap c h = grind (arith, nat_tests)

digit_no_gap : (c : ℕ) → is_digit c ≡ true → begins_gap c ≡ false
digit_no_gap c h = grind (arith, nat_tests)

pair_no_gap : (c : ℕ) → pairs c ≡ true → begins_gap c ≡ false
pair_no_gap c h = grind (arith, nat_tests)

sign_no_gap : (c : ℕ) → is_sign c ≡ true → begins_gap c ≡ false
sign_no_gap c h = grind (arith, nat_tests)

-- a token has a byte, and begins no gap
pub front_no_gap : {xs rest : List ℕ} {f : Form} → Front xs rest f → Stops begins_gap (xs ++ rest)
front_no_gap (a_word c cs h s few z) = word_no_gap c h
front_no_gap (a_whole c cs h all s) = digit_no_gap c h
front_no_gap (a_decimal c cs f fs h all g more s) = digit_no_gap c h
front_no_gap (a_text cs h) = refl
front_no_gap (a_pair c h) = pair_no_gap c h
front_no_gap (a_sign c h s) = sign_no_gap c h

pub front_some : {xs rest : List ℕ} {f : Form} → Front xs rest f → 0 < length xs
front_some (a_word c cs h s few z) = omega arith
front_some (a_whole c cs h all s) = omega arith
front_some (a_decimal c cs f fs h all g more s) = omega arith
front_some (a_text cs h) = omega arith
front_some (a_pair c h) = omega arith
front_some (a_sign c h s) = omega arith

pub bad_no_gap : {bs : List ℕ} {k : ℕ} → IsBad bs k → Stops begins_gap bs
bad_no_gap (bad_word c cs rest h all s many) = word_no_gap c h
bad_no_gap (bad_text cs rest all s q) = refl
bad_no_gap (bad_sign c rest g u v w x y) = g

-- a bad byte is in the text or at its end
pub bad_within : {bs : List ℕ} {k : ℕ} → IsBad bs k → (0 < length bs) × (k ≤ length bs)
bad_within (bad_word c cs rest h all s many) = (omega arith, omega (arith, length-append cs rest))
bad_within (bad_text cs rest all s q) = (omega arith, omega (arith, length-append cs rest))
bad_within (bad_sign c rest g u v w x y) = (omega arith, omega arith)

unquoted : (n : ℕ) (rest : List ℕ) → IsUnquoted rest → text_end n rest ≡ Bad n
unquoted n [] q = refl
unquoted n (b ∷ bs) q = cond-false (b == 34) _ _ q

no_pair : (c : ℕ) (rest : List ℕ) → is_sign c ≡ false → (pairs c ≡ true → Stops (λ b. b == 61) rest) → sign_front c rest ≡ Bad 0
no_pair c [] x y = cond-false (is_sign c) _ _ x
no_pair c (b ∷ bs) x y = cond-false (pairs c && (b == 61)) _ _ (not_both_of (pairs c) (b == 61) y) ∙ cond-false (is_sign c) _ _ x

pub bad_only : {bs : List ℕ} {k : ℕ} → IsBad bs k → front bs ≡ Bad k
unfolding front
bad_only (bad_word c cs rest h all s many) =
    cond-true (starts_word c) _ _ h ∙ (ap word_front (run_length is_word_byte c cs rest (or_left (starts_word c) (is_digit c) h) all s)
    ∙ cond-false (nat_le (suc (length cs)) 32) _ _ (lt-leb (suc (length cs)) 32 (omega arith)))
bad_only (bad_text cs rest all s q) =
    ap (λ n. text_end (length n + 1) (drop (length n) (cs ++ rest))) (longest is_text_byte cs rest all s)
    ∙ (ap (text_end (length cs + 1)) (drop_front cs rest) ∙ unquoted (length cs + 1) rest q)
bad_only (bad_sign c rest g u v w x y) =
    cond-false (starts_word c) _ _ u ∙ (cond-false (is_digit c) _ _ v ∙ (cond-false (c == 34) _ _ w ∙ no_pair c rest x y))

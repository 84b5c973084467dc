-- What is at the front of a text, by its first byte.
use Rattle.std.proofs.Common.{◌≡◌, ℕ, ◌+◌, ◌-◌, ◌≤◌, true, false, List, [], ◌∷◌, length, take, drop, get_or, sym, ap, ◌∙◌, arith, length-drop}
use Rattle.std.proofs.lemmas.Bool.{cond-false, cond-true}
use Rattle.std.proofs.lemmas.List.{take_all}
use Rattle.std.proofs.lemmas.Bool.Decides.{nat_tests}
use Rattle.std.specs.Prelude.{◌==◌}
use Rattle.std.specs.List.{take_while}
use Rattle.pl_spec.specs.Names.{is_digit, starts_word, is_word_byte}
use Rattle.pl_syntax.specs.Bytes.{is_text_byte}
use Rattle.pl_syntax.specs.Front.{word_front, fraction_behind, text_end, sign_front, front}

-- from an index on
whole : (n : ℕ) (xs : List ℕ) → take (length xs - n) (drop n xs) ≡ drop n xs
whole n xs = take_all (length xs - n) (drop n xs) (omega (arith, length-drop n xs))

not_quote : (b : ℕ) → (b ≡ 34 → ⊥) → (b == 34) ≡ false
not_quote b h = grind (arith, nat_tests)

pub front_word : (bs : List ℕ) → 1 ≤ length bs → starts_word (get_or bs 0 0) ≡ true → front bs ≡ word_front (length (take_while is_word_byte bs))
unfolding front
front_word [] h w = absurd (omega arith)
front_word (c ∷ cs) h w = cond-true (starts_word c) _ _ w

pub front_number : (bs : List ℕ) (n : ℕ) → 1 ≤ length bs → starts_word (get_or bs 0 0) ≡ false → is_digit (get_or bs 0 0) ≡ true → n ≡ length (take_while is_digit bs) → front bs ≡ fraction_behind n (take (length bs - n) (drop n bs))
unfolding front
front_number [] n h w d e = absurd (omega arith)
front_number (c ∷ cs) n h w d e =
    cond-false (starts_word c) _ _ w ∙ (cond-true (is_digit c) _ _ d
    ∙ (ap (λ k. fraction_behind k (drop k (c ∷ cs))) (sym e) ∙ ap (fraction_behind n) (sym (whole n (c ∷ cs)))))

pub front_text : (bs rest : List ℕ) (n : ℕ) → 1 ≤ length bs → rest ≡ take (length bs - 1) (drop 1 bs) → starts_word (get_or bs 0 0) ≡ false → is_digit (get_or bs 0 0) ≡ false → get_or bs 0 0 ≡ 34 → n ≡ length (take_while is_text_byte rest) → front bs ≡ text_end (n + 1) (take (length rest - n) (drop n rest))
unfolding front
front_text [] rest n h r w d q e = absurd (omega arith)
front_text (c ∷ cs) rest n h r w d q e =
    cond-false (starts_word c) _ _ w ∙ (cond-false (is_digit c) _ _ d ∙ (cond-true (c == 34) _ _ (ap (λ z. z == 34) q)
    ∙ (ap (λ z. text_end (length (take_while is_text_byte z) + 1) (drop (length (take_while is_text_byte z)) z)) (sym (r ∙ whole 1 (c ∷ cs)))
    ∙ (ap (λ k. text_end (k + 1) (drop k rest)) (sym e) ∙ ap (text_end (n + 1)) (sym (whole n rest))))))

pub front_sign : (bs : List ℕ) → 1 ≤ length bs → starts_word (get_or bs 0 0) ≡ false → is_digit (get_or bs 0 0) ≡ false → (get_or bs 0 0 ≡ 34 → ⊥) → front bs ≡ sign_front (get_or bs 0 0) (take (length bs - 1) (drop 1 bs))
unfolding front
front_sign [] h w d q = absurd (omega arith)
front_sign (c ∷ cs) h w d q =
    cond-false (starts_word c) _ _ w ∙ (cond-false (is_digit c) _ _ d ∙ (cond-false (c == 34) _ _ (not_quote c q)
    ∙ ap (sign_front c) (sym (whole 1 (c ∷ cs)))))

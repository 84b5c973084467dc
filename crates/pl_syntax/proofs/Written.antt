-- What is read as tokens can be written as tokens.
use Rattle.std.proofs.Common.{◌≡◌, ℕ, pos, suc, ◌+◌, ◌-◌, ◌*◌, ◌/◌, ◌^◌, ◌<◌, Bool, true, false, cond, ◌&&◌, ◌||◌, List, [], ◌∷◌, ◌++◌, length, take, drop, refl, ap, ap₂, ◌∙◌, arith, lt-ltb}
use Rattle.std.specs.Prelude.{◌==◌, not, nat_lt, nat_le, codes, bytes_eq}
use Rattle.std.specs.List.{list_all}
use Rattle.std.specs.Str.Parse.{digits_value}
use Rattle.std.proofs.lemmas.Bool.Decides.{nat_tests}
use Rattle.std.proofs.Math.Seq.{take-append_seam}
use Rattle.pl_spec.specs.Rounding.{LIMIT, MILLION, div_round}
use Rattle.pl_grammar.specs.declared.Place.{Place}
use Rattle.pl_grammar.specs.declared.BinarySign.TheVariants.{Or, And, Less, LessEqual, Greater, GreaterEqual, Equal, NotEqual, Add, Sub, Mul, Div}
use Rattle.pl_grammar.specs.Tree as t
use Rattle.pl_grammar.specs.Tree.{Token, Lexeme}
use Rattle.pl_grammar.specs.Faults.{Tail}
use Rattle.pl_grammar.specs.Whole.{tokens_pass}
use Rattle.pl_syntax.specs.declared.front.Form.{Form}
use Rattle.pl_syntax.specs.Bytes.{is_text_byte}
use Rattle.pl_spec.specs.Names.{starts_word, is_word_byte, is_keyword}
use Rattle.pl_syntax.specs.Tokens.{Front, a_word, a_whole, a_decimal, a_text, a_pair, a_sign, token_in, word_token, one_token, two_token, number_token}
use Rattle.pl_syntax.specs.Sound.{is_written}
use Rattle.pl_syntax.specs.Text.{Read, at_text_end, at_bad_byte, a_blank, a_comment, a_token}

choose : (b : Bool) (x y : Token) → is_written x ≡ true → is_written y ≡ true → is_written (cond b x y) ≡ true
choose true x y h k = h
choose false x y h k = k

one_written : (c : ℕ) → is_written (one_token c) ≡ true
one_written c =
    choose (c == 38) (t.Operator And) _ refl (choose (c == 40) t.Open _ refl (choose (c == 41) t.Close _ refl (choose (c == 42) (t.Operator Mul) _ refl (choose (c == 43) (t.Operator Add) _ refl
    (choose (c == 44) t.Comma _ refl (choose (c == 45) (t.Operator Sub) _ refl (choose (c == 46) t.Dot _ refl (choose (c == 47) (t.Operator Div) _ refl (choose (c == 59) t.Semicolon _ refl
    (choose (c == 60) (t.Operator Less) _ refl (choose (c == 61) t.Assign _ refl (choose (c == 62) (t.Operator Greater) _ refl (choose (c == 124) (t.Operator Or) t.Tilde refl refl)))))))))))))

two_written : (c : ℕ) → is_written (two_token c) ≡ true
two_written c = choose (c == 60) (t.Operator LessEqual) _ refl (choose (c == 61) (t.Operator Equal) _ refl (choose (c == 62) (t.Operator GreaterEqual) (t.Operator NotEqual) refl refl))

not_above : (a b : ℕ) → nat_lt b a ≡ false → nat_le a b ≡ true
not_above a b h = grind (arith, nat_tests)

word_written : (c : ℕ) (cs : List ℕ) → starts_word c ≡ true → list_all is_word_byte cs ≡ true → length cs < 32 → is_written (word_token (c ∷ cs)) ≡ true
word_written c cs h k few = by_tests (bytes_eq (c ∷ cs) (codes "pipeline")) (bytes_eq (c ∷ cs) (codes "let")) (bytes_eq (c ∷ cs) (codes "column")) (bytes_eq (c ∷ cs) (codes "screen")) refl
  where
    front : (starts_word c && (list_all is_word_byte cs && nat_lt (length cs) 32)) ≡ true
    front = ap₂ (λ x y. x && y) h (ap₂ (λ x y. x && y) k (lt-ltb (length cs) 32 few))

    by_tests : (p l o s : Bool) → is_keyword (c ∷ cs) ≡ (p || (l || (o || s))) → is_written (cond p t.PipelineWord (cond l t.LetWord (cond o t.ColumnWord (cond s t.ScreenWord (t.Name (c ∷ cs)))))) ≡ true
    by_tests true l o s e = refl
    by_tests false true o s e = refl
    by_tests false false true s e = refl
    by_tests false false false true e = refl
    by_tests false false false false e = ap₂ (λ x y. x && not y) front e

whole_number : (whole fraction : List ℕ) → is_written (number_token whole fraction) ≡ true
unfolding div_round
whole_number whole fraction =
    let m = digits_value 10 (whole ++ fraction) * MILLION in
    let b = 10 ^ length fraction in
    by_tests (nat_lt 18 (length fraction)) (nat_lt LIMIT ((2 * m + b) / (2 * b))) ((2 * m + b) / (2 * b)) refl
  where
    by_tests : (a b : Bool) (n : ℕ) → nat_lt LIMIT n ≡ b → is_written (cond (a || b) t.LargeNumber (t.Number (pos n))) ≡ true
    by_tests true b n e = refl
    by_tests false true n e = refl
    by_tests false false n e = not_above n LIMIT e

text_inside : (cs : List ℕ) → take (length cs + 2 - 2) (drop 1 (34 ∷ (cs ++ (34 ∷ [])))) ≡ cs
text_inside cs = let e : length cs + 2 - 2 ≡ length cs = omega arith in ap (λ n. take n (cs ++ (34 ∷ []))) e ∙ take-append_seam cs (34 ∷ [])

front_written : {xs rest : List ℕ} {f : Form} → Front xs rest f → is_written (token_in f xs) ≡ true
front_written (a_word c cs h s few z) = word_written c cs h s z
front_written (a_whole c cs h all s) = whole_number (take (suc (length cs)) (c ∷ cs)) (drop (suc (length cs) + 1) (c ∷ cs))
front_written (a_decimal c cs f fs h all g more s) = let xs : List ℕ = c ∷ (cs ++ (46 ∷ (f ∷ fs))) in whole_number (take (suc (length cs)) xs) (drop (suc (length cs) + 1) xs)
front_written (a_text cs h) = ap (list_all is_text_byte) (text_inside cs) ∙ h
front_written (a_pair c h) = two_written c
front_written (a_sign c h s) = one_written c

pub read_written : {p : Place} {bs : List ℕ} {ts : List Lexeme} {tail : Tail} → Read p bs ts tail → tokens_pass is_written ts ≡ true
unfolding tokens_pass
read_written at_text_end = refl
read_written (at_bad_byte k x) = refl
read_written (a_blank h x) = read_written x
read_written (a_comment cs bs all s x) = read_written x
read_written (a_token xs bs {f = f} y x) = ap₂ (λ a b. a && b) (front_written y) (read_written x)

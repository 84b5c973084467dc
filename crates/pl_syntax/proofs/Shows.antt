-- A text that is written token by token is read as these tokens, at whatever places they come to stand.
use Rattle.std.proofs.Common.{◌≡◌, ℕ, ℤ, pos, negsuc, suc, ◌+◌, ◌-◌, ◌*◌, ◌/◌, ◌%◌, ◌^◌, ◌<◌, ◌≤◌, Bool, true, false, cond, ◌&&◌, ◌||◌, List, [], ◌∷◌, ◌++◌, length, take, reverse, refl, sym, ap, ap₂, ◌∙◌, arith, subst, append_assoc, append-nil, length-append, ltb-true}
use Rattle.std.specs.Prelude.{◌==◌, not, nat_lt, codes, bytes_eq, unsigned_abs}
use Rattle.std.specs.List.{list_all}
use Rattle.std.specs.Fmt.{decimal}
use Rattle.std.specs.Char.{digit_value}
use Rattle.std.specs.Str.Parse.{AllDigits, digits_value, digits_value_after}
use Rattle.std.proofs.Math.Nat.{mul_assoc}
use Rattle.std.proofs.Math.Seq.{take-append_seam, take-length}
use Rattle.std.proofs.lemmas.Bool.Decides.{nat_tests}
use Rattle.std.proofs.lemmas.Fmt.{decimal_is_IsNumeral}
use Rattle.std.proofs.lemmas.List.{reverse-append, reverse-reverse, length-reverse}
use Rattle.std.proofs.lemmas.List.Folds.{list_all-append}
use Rattle.std.proofs.lemmas.Nat.{div-add-mod', mod_below, pow-add}
use Rattle.std.proofs.lemmas.Str.Parse.{digit_from_value}
use Rattle.std.proofs.lemmas.Bool.{and_parts, leb-true, le-ltb}
use Rattle.pl_spec.specs.Rounding.{LIMIT, MILLION, div_round}
use Rattle.pl_spec.specs.Dates.{digits}
use Rattle.pl_spec.specs.Decimals.{point_text}
use Rattle.pl_fixed.proofs.DigitLemmas.{AllDigits-digits, digits_value-append, digits_value-digits, length-digits, power_pos}
use Rattle.pl_fixed.proofs.RoundingLemmas.{div_round-multiple}
use Rattle.pl_grammar.specs.declared.Place.{Place}
use Rattle.pl_grammar.specs.Tree as t
use Rattle.pl_grammar.specs.Tree.{Token, Lexeme, mark}
use Rattle.pl_grammar.specs.Places.{SameTokens, same_none, same_next}
use Rattle.pl_grammar.specs.Faults.{AtEnd}
use Rattle.pl_syntax.specs.declared.front.Form.{Form}
use Rattle.pl_syntax.specs.declared.front.Form.TheVariants.{Number}
use Rattle.pl_syntax.specs.Bytes.{is_text_byte, may_pair, pairs, is_sign, is_blank, Stops}
use Rattle.pl_spec.specs.Names.{is_digit, starts_word, is_word_byte, is_name}
use Rattle.pl_syntax.specs.Tokens.{Front, a_word, a_whole, a_decimal, a_text, a_pair, a_sign, NoDecimals, token_in, word_token, one_token, two_token, decimal_token, number_token}
use Rattle.pl_syntax.specs.Sound.{is_number}
use Rattle.pl_syntax.specs.Numerals.{is_zero, trimmed, fraction_of, number_text}
use Rattle.pl_syntax.specs.Text.{after, Read, at_text_end, a_blank, a_token}
use Rattle.pl_syntax.proofs.Longest.{run_of, stops_at}
use Rattle.pl_syntax.proofs.Numbers.{past, behind}

pub record Reading (q : Place) (bs : List ℕ) (us : List Lexeme) : Type 0 where
  pub tokens : List Lexeme
  pub end : Place
  pub reads : Read q bs tokens (AtEnd end)
  pub same : SameTokens us tokens

-- from any place on the text is read as these tokens, places aside
pub record Shows (bs : List ℕ) (us : List Lexeme) : Type 0 where
  pub from : (q : Place) → Reading q bs us

pub end_shows : Shows [] []
end_shows = record { from = λ q. record { tokens = []; end = q; reads = at_text_end; same = same_none } }

pub token_shows : (xs rest : List ℕ) (f : Form) (us : List Lexeme) (p : Place) (x : Token) → Front xs rest f → token_in f xs ≡ x → Shows rest us → Shows (xs ++ rest) (mark p x ∷ us)
token_shows xs rest f us p x front e k =
    subst (λ z. Shows (xs ++ rest) (mark p z ∷ us)) e
    (record { from = λ q. let r = k.from (after xs q) in record { tokens = mark q (token_in f xs) ∷ r.tokens; end = r.end; reads = a_token xs rest front r.reads; same = same_next q r.same } })

pub blank_shows : (b : ℕ) (rest : List ℕ) (us : List Lexeme) → is_blank b ≡ true → Shows rest us → Shows (b ∷ rest) us
blank_shows b rest us h k = record { from = λ q. let r = k.from (after (b ∷ []) q) in record { tokens = r.tokens; end = r.end; reads = a_blank h r.reads; same = r.same } }

pub sign_shows : (c : ℕ) (rest : List ℕ) (us : List Lexeme) (p : Place) → is_sign c ≡ true → (may_pair c ≡ true → Stops (λ b. b == 61) rest) → Shows rest us → Shows (c ∷ rest) (mark p (one_token c) ∷ us)
sign_shows c rest us p h s k = token_shows (c ∷ []) rest _ us p (one_token c) (a_sign c h s) refl k

not_keyword : (p l o s : Bool) (w : List ℕ) → not (p || (l || (o || s))) ≡ true → cond p t.PipelineWord (cond l t.LetWord (cond o t.ColumnWord (cond s t.ScreenWord (t.Name w)))) ≡ t.Name w
not_keyword true l o s w h = cc
not_keyword false true o s w h = cc
not_keyword false false true s w h = cc
not_keyword false false false true w h = cc
not_keyword false false false false w h = refl

pub name_shows : (w rest : List ℕ) (us : List Lexeme) (p : Place) → is_name w ≡ true → Stops is_word_byte rest → Shows rest us → Shows (w ++ rest) (mark p (t.Name w) ∷ us)
name_shows [] rest us p h s k = cc
name_shows (c ∷ cs) rest us p h s k =
    let a = and_parts (starts_word c && (list_all is_word_byte cs && nat_lt (length cs) 32)) _ h in
    let b = and_parts (starts_word c) _ a.0 in
    let d = and_parts (list_all is_word_byte cs) _ b.1 in
    token_shows (c ∷ cs) rest _ us p (t.Name (c ∷ cs)) (a_word c cs b.0 d.0 s (ltb-true (length cs) 32 d.1)) (not_keyword (bytes_eq (c ∷ cs) (codes "pipeline")) (bytes_eq (c ∷ cs) (codes "let")) (bytes_eq (c ∷ cs) (codes "column")) (bytes_eq (c ∷ cs) (codes "screen")) (c ∷ cs) a.1) k

pub text_shows : (cs rest : List ℕ) (us : List Lexeme) (p : Place) → list_all is_text_byte cs ≡ true → Shows rest us → Shows (34 ∷ (cs ++ (34 ∷ rest))) (mark p (t.Text cs) ∷ us)
text_shows cs rest us p h k =
    let e : length cs + 2 - 2 ≡ length cs = omega arith in
    subst (λ z. Shows (34 ∷ z) (mark p (t.Text cs) ∷ us)) (append_assoc cs (34 ∷ []) rest)
    (token_shows (34 ∷ (cs ++ (34 ∷ []))) rest _ us p (t.Text cs) (a_text cs h) (ap t.Text (ap (λ n. take n (cs ++ (34 ∷ []))) e ∙ take-append_seam cs (34 ∷ []))) k)

-- numbers

zero_value : (zs : List ℕ) → list_all is_zero zs ≡ true → digits_value_after 10 0 zs ≡ 0
zero_value [] h = refl
zero_value (z ∷ zs) h =
    let a = and_parts (is_zero z) (list_all is_zero zs) h in
    let e : 0 * 10 + digit_value z ≡ 0 = zero_digit z a.0 in
    ap (λ n. digits_value_after 10 n zs) e ∙ zero_value zs a.1
  where
    zero_digit : (z : ℕ) → is_zero z ≡ true → 0 * 10 + digit_value z ≡ 0
    zero_digit z h = grind (arith, nat_tests)

zeros_reverse : (zs : List ℕ) → list_all is_zero zs ≡ true → list_all is_zero (reverse zs) ≡ true
zeros_reverse [] h = refl
zeros_reverse (z ∷ zs) h =
    let a = and_parts (is_zero z) (list_all is_zero zs) h in
    ap (list_all is_zero) (reverse-append (z ∷ []) zs) ∙ (list_all-append is_zero (reverse zs) (z ∷ []) ∙ ap₂ (λ x y. x && y) (zeros_reverse zs a.1) (ap (λ b. b && true) a.0))

record Trim (ds : List ℕ) : Type 0 where
  zeros : List ℕ
  whole : ds ≡ trimmed ds ++ zeros
  all : list_all is_zero zeros ≡ true

trim : (ds : List ℕ) → Trim ds
trim ds =
    let r = run_of is_zero (reverse ds) in
    let parts : ds ≡ reverse r.rest ++ reverse r.own = sym (reverse-reverse ds) ∙ (ap reverse r.whole ∙ reverse-append r.own r.rest) in
    let size : length ds - length r.own ≡ length (reverse r.rest) = omega (arith, ap length parts, length-append (reverse r.rest) (reverse r.own), length-reverse r.own) in
    let kept : trimmed ds ≡ reverse r.rest = ap (λ z. take (length ds - length z) ds) r.taken ∙ (ap (λ n. take n ds) size ∙ (ap (take (length (reverse r.rest))) parts ∙ take-append_seam (reverse r.rest) (reverse r.own))) in
    record { zeros = reverse r.own; whole = parts ∙ ap (λ z. z ++ reverse r.own) (sym kept); all = zeros_reverse r.own r.all }

front_digits : (xs ys : List ℕ) → AllDigits 10 (xs ++ ys) → AllDigits 10 xs
front_digits [] ys h = tt
front_digits (x ∷ xs) ys h = (h.0, front_digits xs ys h.1)

test_digit : (c : ℕ) → digit_value c < 10 → is_digit c ≡ true
test_digit c h = let p = digit_from_value c h in grind (arith, nat_tests)

test_digits : (ds : List ℕ) → AllDigits 10 ds → list_all is_digit ds ≡ true
test_digits [] h = refl
test_digits (c ∷ cs) h = ap₂ (λ x y. x && y) (test_digit c h.0) (test_digits cs h.1)

-- the value of a number's text
text_value : (n V k l : ℕ) → n ≡ V * 10 ^ k → l + k ≡ 6 → div_round (pos (V * MILLION)) (10 ^ l) ≡ pos n
text_value n V k l e size =
    let power : MILLION ≡ 10 ^ k * 10 ^ l = ap (λ m. 10 ^ m) (sym (add_comm' l k ∙ size)) ∙ pow-add 10 k l in
    let product : V * MILLION ≡ n * 10 ^ l = ap (λ m. V * m) power ∙ (sym (mul_assoc V (10 ^ k) (10 ^ l)) ∙ ap (λ m. m * 10 ^ l) (sym e)) in
    ap (λ m. div_round (pos m) (10 ^ l)) product ∙ div_round-multiple n (10 ^ l) (power_pos l)
  where
    add_comm' : (a b : ℕ) → b + a ≡ a + b
    add_comm' a b = omega arith

-- the bytes xs are a number with these digits before its point and after it
record NumberFrontOf (xs ws fs rest : List ℕ) : Type 0 where
  form : Form
  front : Front xs rest form
  token : token_in form xs ≡ decimal_token (record { negative = false; whole = ws; fraction = fs })

abbrev token_of_parts : List ℕ → List ℕ → Token
token_of_parts ws fs = decimal_token (record { negative = false; whole = ws; fraction = fs })

number_front : (ws fs rest : List ℕ) → 0 < length ws → AllDigits 10 ws → AllDigits 10 fs → NoDecimals rest → NumberFrontOf (ws ++ point_text fs) ws fs rest
number_front [] fs rest some w f h = absurd (omega arith)
number_front (c ∷ cs) [] rest some w f h =
    let all = test_digits cs w.1 in
    let bare : NumberFrontOf (c ∷ cs) (c ∷ cs) [] rest = record { form = Number (suc (length cs)) 0; front = a_whole c cs (test_digit c w.0) all h; token = ap₂ token_of_parts (take-length (c ∷ cs)) (past (c ∷ cs)) } in
    let same : c ∷ (cs ++ []) ≡ c ∷ cs = ap (λ z. c ∷ z) (append-nil cs) in
    subst (λ z. NumberFrontOf z (c ∷ cs) [] rest) (sym same) bare
number_front (c ∷ cs) (f ∷ fs) rest some w g h =
    record {
      form = Number (suc (length cs)) (suc (length fs));
      front = a_decimal c cs f fs (test_digit c w.0) (test_digits cs w.1) (test_digit f g.0) (test_digits fs g.1) (stops_at rest h);
      token = ap₂ token_of_parts (take-append_seam (c ∷ cs) (46 ∷ (f ∷ fs))) (behind (c ∷ cs) (f ∷ fs) 46);
    }

small_token : (ws fs : List ℕ) (n : ℕ) → length fs ≤ 6 → n ≤ LIMIT → div_round (pos (digits_value 10 (ws ++ fs) * MILLION)) (10 ^ length fs) ≡ pos n → token_of_parts ws fs ≡ t.Number (pos n)
small_token ws fs n few low e =
    let a : nat_lt 18 (length fs) ≡ false = le-ltb 18 (length fs) (omega (arith, few)) in
    let b : nat_lt LIMIT n ≡ false = le-ltb LIMIT n low in
    ap (λ m. cond (nat_lt 18 (length fs) || nat_lt LIMIT (unsigned_abs m)) t.LargeNumber (t.Number m)) e
    ∙ ap₂ (λ x y. cond (x || y) t.LargeNumber (t.Number (pos n))) a b

pub number_shows : (v : ℤ) (rest : List ℕ) (us : List Lexeme) (p : Place) → is_number v ≡ true → NoDecimals rest → Shows rest us → Shows (number_text v ++ rest) (mark p (t.Number v) ∷ us)
unfolding number_text fraction_of
number_shows (pos n) rest us p h s k =
    let small : n ≤ LIMIT = leb-true n LIMIT h in
    let q = n / MILLION in
    let r = n % MILLION in
    let ds = digits 6 r in
    let x : Trim ds = trim ds in
    let fs = trimmed ds in
    let parts = div-add-mod' n MILLION in
    let low : r < 10 ^ 6 = mod_below n MILLION (omega arith) in
    let whole = decimal_is_IsNumeral q (omega arith) in
    let value : digits_value 10 (decimal q ++ ds) ≡ n = digits_value-append (decimal q) ds ∙ rw (length-digits 6 r, whole.1, digits_value-digits 6 r low) parts in
    let size : length fs + length x.zeros ≡ 6 = sym (length-append fs x.zeros) ∙ (ap length (sym x.whole) ∙ length-digits 6 r) in
    let regrouped : decimal q ++ ds ≡ (decimal q ++ fs) ++ x.zeros = ap (λ z. decimal q ++ z) x.whole ∙ sym (append_assoc (decimal q) fs x.zeros) in
    let total : n ≡ digits_value 10 (decimal q ++ fs) * 10 ^ length x.zeros = sym value ∙ (ap (digits_value 10) regrouped ∙ (digits_value-append (decimal q ++ fs) x.zeros ∙ (ap (λ m. digits_value 10 (decimal q ++ fs) * 10 ^ length x.zeros + m) (zero_value x.zeros x.all) ∙ plus_zero (digits_value 10 (decimal q ++ fs) * 10 ^ length x.zeros)))) in
    let digits_ok : AllDigits 10 fs = front_digits fs x.zeros (subst (λ z. AllDigits 10 z) x.whole (AllDigits-digits 6 r)) in
    let f = number_front (decimal q) fs rest whole.0.0 whole.0.1 digits_ok s in
    token_shows (decimal q ++ point_text fs) rest f.form us p (t.Number (pos n)) f.front (f.token ∙ small_token (decimal q) fs n (omega (arith, size)) small (text_value n (digits_value 10 (decimal q ++ fs)) (length x.zeros) (length fs) total size)) k
  where
    plus_zero : (a : ℕ) → a + 0 ≡ a
    plus_zero a = omega arith
number_shows (negsuc n) rest us p h s k = cc

pub pair_shows : (c : ℕ) (rest : List ℕ) (us : List Lexeme) (p : Place) → pairs c ≡ true → Shows rest us → Shows (c ∷ (61 ∷ rest)) (mark p (two_token c) ∷ us)
pair_shows c rest us p h k = token_shows (c ∷ (61 ∷ [])) rest _ us p (two_token c) (a_pair c h) refl k

-- a keyword
pub word_shows : (c : ℕ) (cs rest : List ℕ) (us : List Lexeme) (p : Place) (x : Token) → starts_word c ≡ true → list_all is_word_byte cs ≡ true → length cs < 32 → Stops is_word_byte rest → word_token (c ∷ cs) ≡ x → Shows rest us → Shows ((c ∷ cs) ++ rest) (mark p x ∷ us)
word_shows c cs rest us p x h all few s e k = token_shows (c ∷ cs) rest _ us p x (a_word c cs h all s few) e k

-- a number of one digit
pub digit_shows : (d : ℕ) (x : Token) (rest : List ℕ) (us : List Lexeme) (p : Place) → is_digit d ≡ true → number_token (d ∷ []) [] ≡ x → NoDecimals rest → Shows rest us → Shows (d ∷ rest) (mark p x ∷ us)
digit_shows d x rest us p h e s k = token_shows (d ∷ []) rest (Number 1 0) us p x (a_whole d [] h refl s) e k

-- A token's form decides what is found at the front of a text, and what is found there has its form.
use Rattle.std.proofs.Common.{◌≡◌, ℕ, suc, ◌+◌, Bool, true, false, cond, ◌&&◌, ◌||◌, List, [], ◌∷◌, ◌++◌, length, drop, refl, sym, ap, ap₂, ◌∙◌, arith, append_assoc, subst, leb-false, leb-true}
use Rattle.std.specs.List.{take_while, list_all}
use Rattle.std.proofs.lemmas.List.Sums.{take_while-cons}
use Rattle.std.proofs.lemmas.Bool.Decides.{nat_tests}
use Rattle.std.proofs.Math.Seq.{drop-append_seam}
use Rattle.std.specs.Prelude.{◌==◌, nat_le}
use Rattle.std.specs.Cmp.{first_so, second_so}
use Rattle.std.proofs.lemmas.Bool.{or_left, cond-false, cond-true, eqb-true, le-leb}
use Rattle.pl_syntax.specs.declared.front.Form.{Form}
use Rattle.pl_syntax.specs.declared.front.Form.TheVariants.{Word, Number, Text, One, Two}
use Rattle.pl_syntax.specs.declared.front.Found.{Found}
use Rattle.pl_syntax.specs.declared.front.Found.TheVariants.{End, Bad, Token}
use Rattle.pl_syntax.specs.Bytes.{Stops, is_text_byte, may_pair, pairs, is_sign, begins_gap}
use Rattle.pl_spec.specs.Names.{is_word_byte, is_digit, starts_word}
use Rattle.pl_syntax.specs.Tokens.{NoDecimals, Front, a_word, a_whole, a_decimal, a_text, a_pair, a_sign}
use Rattle.pl_syntax.specs.Front.{word_front, fraction_behind, text_end, sign_front, front}
use Rattle.pl_syntax.specs.Text.{IsBad, bad_word, bad_text, bad_sign}

-- the run that a test stops is the longest
pub longest : (p : ℕ → Bool) (xs rest : List ℕ) → list_all p xs ≡ true → Stops p rest → take_while p (xs ++ rest) ≡ xs
longest p [] [] h s = refl
longest p [] (b ∷ bs) h s = take_while-cons p b bs ∙ ap (λ t. cond t (b ∷ take_while p bs) []) s
longest p (x ∷ xs) rest h s =
    take_while-cons p x (xs ++ rest) ∙ (ap (λ t. cond t (x ∷ take_while p (xs ++ rest)) []) (first_so (p x) (list_all p xs) h) ∙ ap (λ z. x ∷ z) (longest p xs rest (second_so (p x) (list_all p xs) h) s))

all_of : (p : ℕ → Bool) (c : ℕ) (cs : List ℕ) → p c ≡ true → list_all p cs ≡ true → list_all p (c ∷ cs) ≡ true
all_of p c cs h k = ap₂ (λ a b. a && b) h k

pub run_length : (p : ℕ → Bool) (c : ℕ) (cs rest : List ℕ) → p c ≡ true → list_all p cs ≡ true → Stops p rest → length (take_while p (c ∷ (cs ++ rest))) ≡ suc (length cs)
run_length p c cs rest h k s = ap length (longest p (c ∷ cs) rest (all_of p c cs h k) s)

digit_starts_none : (c : ℕ) → is_digit c ≡ true → starts_word c ≡ false
digit_starts_none c h = grind (arith, nat_tests)

pub drop_front : (xs ys : List ℕ) → drop (length xs) (xs ++ ys) ≡ ys
drop_front xs ys = drop-append_seam xs ys

pairs_apart : (c : ℕ) → pairs c ≡ true → (starts_word c ≡ false) × (is_digit c ≡ false) × ((c == 34) ≡ false)
pairs_apart c h = (grind (arith, nat_tests), grind (arith, nat_tests), grind (arith, nat_tests))

sign_apart : (c : ℕ) → is_sign c ≡ true → (starts_word c ≡ false) × (is_digit c ≡ false) × ((c == 34) ≡ false)
sign_apart c h = (grind (arith, nat_tests), grind (arith, nat_tests), grind (arith, nat_tests))

bang_no_sign : (c : ℕ) → is_sign c ≡ true → (c == 33) ≡ false
bang_no_sign c h = grind (arith, nat_tests)

whole_only : (n : ℕ) (rest : List ℕ) → NoDecimals rest → fraction_behind n rest ≡ Token (Number n 0)
whole_only n [] h = refl
whole_only n (b ∷ bs) h = by_test (b == 46) (λ k. no_digits bs (h.1 (eqb-true b 46 k)))
  where
    no_digits : (bs : List ℕ) → Stops is_digit bs → length (take_while is_digit bs) ≡ 0
    no_digits [] s = refl
    no_digits (c ∷ cs) s = ap length (take_while-cons is_digit c cs ∙ ap (λ t. cond t (c ∷ take_while is_digit cs) []) s)

    by_test : (t : Bool) → (t ≡ true → length (take_while is_digit bs) ≡ 0) → cond t (Token (Number n (length (take_while is_digit bs)))) (Token (Number n 0)) ≡ Token (Number n 0)
    by_test true k = ap (λ x. Token (Number n x)) (k refl)
    by_test false k = refl

pub stops_at : (rest : List ℕ) → NoDecimals rest → Stops is_digit rest
stops_at [] n = tt
stops_at (b ∷ bs) n = n.0

-- where the one excludes the other, they are not both
pub not_both_of : (t u : Bool) → (t ≡ true → u ≡ false) → (t && u) ≡ false
not_both_of true u g = g refl
not_both_of false u g = refl

pub front_only : {xs rest : List ℕ} {f : Form} → Front xs rest f → front (xs ++ rest) ≡ Token f
unfolding front
front_only {rest = rest} (a_word c cs h k s few) =
    cond-true (starts_word c) _ _ h ∙ (ap word_front (run_length is_word_byte c cs rest (or_left (starts_word c) (is_digit c) h) k s)
    ∙ cond-true (nat_le (suc (length cs)) 32) _ _ (le-leb (suc (length cs)) 32 few))
front_only {rest = rest} (a_whole c cs h k s) =
    cond-false (starts_word c) _ _ (digit_starts_none c h) ∙ (cond-true (is_digit c) _ _ h
    ∙ (ap (λ n. fraction_behind n (drop n (c ∷ (cs ++ rest)))) (run_length is_digit c cs rest h k (stops_at rest s))
    ∙ (ap (fraction_behind (suc (length cs))) (drop_front (c ∷ cs) rest) ∙ whole_only (suc (length cs)) rest s)))
front_only {rest = rest} (a_decimal c cs f fs h k h' k' s) =
    let behind : List ℕ = 46 ∷ (f ∷ (fs ++ rest)) in
    let regrouped : (cs ++ (46 ∷ (f ∷ fs))) ++ rest ≡ cs ++ behind = append_assoc cs (46 ∷ (f ∷ fs)) rest in
    ap (λ z. front (c ∷ z)) regrouped
    ∙ (cond-false (starts_word c) _ _ (digit_starts_none c h) ∙ (cond-true (is_digit c) _ _ h
    ∙ (ap (λ n. fraction_behind n (drop n (c ∷ (cs ++ behind)))) (run_length is_digit c cs behind h k refl)
    ∙ (ap (fraction_behind (suc (length cs))) (drop_front (c ∷ cs) behind)
    ∙ ap (λ n. Token (Number (suc (length cs)) n)) (run_length is_digit f fs rest h' k' s)))))
front_only {rest = rest} (a_text cs k) =
    let behind : List ℕ = 34 ∷ rest in
    let run : take_while is_text_byte (cs ++ behind) ≡ cs = longest is_text_byte cs behind k refl in
    ap (λ z. front (34 ∷ z)) (append_assoc cs (34 ∷ []) rest)
    ∙ (ap (λ n. text_end (length n + 1) (drop (length n) (cs ++ behind))) run
    ∙ (ap (text_end (length cs + 1)) (drop_front cs behind) ∙ ap (λ n. Token (Text n)) (omega arith)))
front_only {rest = rest} (a_pair c k) =
    let apart = pairs_apart c k in
    cond-false (starts_word c) _ _ apart.0 ∙ (cond-false (is_digit c) _ _ apart.1 ∙ (cond-false (c == 34) _ _ apart.2
    ∙ cond-true (pairs c && true) _ _ (ap (λ t. t && true) k)))
front_only {rest = rest} (a_sign c h k) =
    let apart = sign_apart c h in
    cond-false (starts_word c) _ _ apart.0 ∙ (cond-false (is_digit c) _ _ apart.1 ∙ (cond-false (c == 34) _ _ apart.2
    ∙ one rest k))
  where
    no_bang : (t u : Bool) → u ≡ false → (t || u) ≡ t
    no_bang true u g = refl
    no_bang false u g = g

    one : (rest : List ℕ) → (may_pair c ≡ true → Stops (λ b. b == 61) rest) → sign_front c rest ≡ Token (One c)
    one [] g = cond-true (is_sign c) _ _ h
    one (b ∷ bs) g =
        cond-false (pairs c && (b == 61)) _ _ (ap (λ t. t && (b == 61)) (no_bang (may_pair c) (c == 33) (bang_no_sign c h)) ∙ not_both_of (may_pair c) (b == 61) g)
        ∙ cond-true (is_sign c) _ _ h

not_point : (b : ℕ) → b ≡ 46 → (b == 46) ≡ false → ⊥
not_point b q e = grind (arith, nat_tests)

not_both : (a b t : Bool) → ((a || b) && t) ≡ false → (a || b) ≡ true → t ≡ false
not_both true b t h k = h
not_both false true t h k = h
not_both false false t h k = cc

-- the other direction: what the reader finds has its form

pub record Run (p : ℕ → Bool) (bs : List ℕ) : Type 0 where
  pub own : List ℕ
  pub rest : List ℕ
  pub whole : bs ≡ own ++ rest
  pub all : list_all p own ≡ true
  pub stops : Stops p rest
  pub taken : take_while p bs ≡ own

pub run_of : (p : ℕ → Bool) (bs : List ℕ) → Run p bs
run_of p [] = record { own = []; rest = []; whole = refl; all = refl; stops = tt; taken = refl }
run_of p (b ∷ bs) = by_test (p b) refl (run_of p bs)
  where
    by_test : (t : Bool) → p b ≡ t → Run p bs → Run p (b ∷ bs)
    by_test true e r = record {
      own = b ∷ r.own;
      rest = r.rest;
      whole = ap (λ z. b ∷ z) r.whole;
      all = all_of p b r.own e r.all;
      stops = r.stops;
      taken = take_while-cons p b bs ∙ (ap (λ t. cond t (b ∷ take_while p bs) []) e ∙ ap (λ z. b ∷ z) r.taken);
    }
    by_test false e r = record { own = []; rest = b ∷ bs; whole = refl; all = refl; stops = e; taken = take_while-cons p b bs ∙ ap (λ t. cond t (b ∷ take_while p bs) []) e }

pub record TokenAt (bs : List ℕ) (f : Form) : Type 0 where
  pub own : List ℕ
  pub rest : List ℕ
  pub whole : bs ≡ own ++ rest
  pub form : Front own rest f

-- a bad byte is found after so many bytes
abbrev pub FoundAt : List ℕ → Found → Type 0
FoundAt bs End = bs ≡ []
FoundAt bs (Bad k) = IsBad bs k
FoundAt bs (Token f) = TokenAt bs f

word_found : (c : ℕ) (bs : List ℕ) → starts_word c ≡ true → FoundAt (c ∷ bs) (word_front (length (take_while is_word_byte (c ∷ bs))))
word_found c bs h =
    let r = run_of is_word_byte bs in
    let n : length (take_while is_word_byte (c ∷ bs)) ≡ suc (length r.own) = ap length (take_while-cons is_word_byte c bs ∙ (ap (λ t. cond t (c ∷ take_while is_word_byte bs) []) (or_left (starts_word c) (is_digit c) h) ∙ ap (λ z. c ∷ z) r.taken)) in
    subst (λ k. FoundAt (c ∷ bs) (word_front k)) (sym n) (subst (λ z. FoundAt (c ∷ z) (word_front (suc (length r.own)))) (sym r.whole) (by_length r.own r.rest r.all r.stops (nat_le (suc (length r.own)) 32) refl))
  where
    by_length : (own rest : List ℕ) → list_all is_word_byte own ≡ true → Stops is_word_byte rest → (t : Bool) → nat_le (suc (length own)) 32 ≡ t → FoundAt (c ∷ (own ++ rest)) (cond t (Token (Word (suc (length own)))) (Bad 32))
    by_length own rest k s true e = record { own = c ∷ own; rest = rest; whole = refl; form = a_word c own h k s (omega (arith, leb-true (suc (length own)) 32 e)) }
    by_length own rest k s false e = bad_word c own rest h k s (omega (arith, leb-false (suc (length own)) 32 e))

fraction_found : (c : ℕ) (cs rest : List ℕ) → is_digit c ≡ true → list_all is_digit cs ≡ true → Stops is_digit rest → FoundAt (c ∷ (cs ++ rest)) (fraction_behind (suc (length cs)) rest)
fraction_found c cs [] h k s = record { own = c ∷ cs; rest = []; whole = refl; form = a_whole c cs h k tt }
fraction_found c cs (b ∷ bs) h k s = by_point (b == 46) refl
  where
    by_run : (r : Run is_digit bs) (own : List ℕ) → r.own ≡ own → b ≡ 46 → FoundAt (c ∷ (cs ++ (b ∷ bs))) (Token (Number (suc (length cs)) (length own)))
    by_run r [] e p = record { own = c ∷ cs; rest = b ∷ bs; whole = refl; form = a_whole c cs h k (s, λ q. subst (λ z. Stops is_digit z) (sym (r.whole ∙ ap (λ z. z ++ r.rest) e)) r.stops) }
    by_run r (f ∷ fs) e p =
        let all : list_all is_digit (f ∷ fs) ≡ true = ap (list_all is_digit) (sym e) ∙ r.all in
        record {
          own = c ∷ (cs ++ (46 ∷ (f ∷ fs)));
          rest = r.rest;
          whole = ap (λ z. c ∷ (cs ++ z)) (ap₂ (λ x y. x ∷ y) p (r.whole ∙ ap (λ z. z ++ r.rest) e)) ∙ ap (λ z. c ∷ z) (sym (append_assoc cs (46 ∷ (f ∷ fs)) r.rest));
          form = a_decimal c cs f fs h k (first_so (is_digit f) (list_all is_digit fs) all) (second_so (is_digit f) (list_all is_digit fs) all) r.stops;
        }

    by_point : (t : Bool) → (b == 46) ≡ t → FoundAt (c ∷ (cs ++ (b ∷ bs))) (cond t (Token (Number (suc (length cs)) (length (take_while is_digit bs)))) (Token (Number (suc (length cs)) 0)))
    by_point true e = let r = run_of is_digit bs in subst (λ z. FoundAt (c ∷ (cs ++ (b ∷ bs))) (Token (Number (suc (length cs)) (length z)))) (sym r.taken) (by_run r r.own refl (eqb-true b 46 e))
    by_point false e = record { own = c ∷ cs; rest = b ∷ bs; whole = refl; form = a_whole c cs h k (s, λ q. absurd (not_point b q e)) }

number_found : (c : ℕ) (bs : List ℕ) → is_digit c ≡ true → FoundAt (c ∷ bs) (fraction_behind (length (take_while is_digit (c ∷ bs))) (drop (length (take_while is_digit (c ∷ bs))) (c ∷ bs)))
number_found c bs h =
    let r = run_of is_digit bs in
    let n : length (take_while is_digit (c ∷ bs)) ≡ suc (length r.own) = ap length (take_while-cons is_digit c bs ∙ (ap (λ t. cond t (c ∷ take_while is_digit bs) []) h ∙ ap (λ z. c ∷ z) r.taken)) in
    let d : drop (suc (length r.own)) (c ∷ bs) ≡ r.rest = ap (λ z. drop (suc (length r.own)) (c ∷ z)) r.whole ∙ drop_front (c ∷ r.own) r.rest in
    subst (λ k. FoundAt (c ∷ bs) (fraction_behind k (drop k (c ∷ bs)))) (sym n)
    (subst (λ z. FoundAt (c ∷ bs) (fraction_behind (suc (length r.own)) z)) (sym d)
    (subst (λ z. FoundAt (c ∷ z) (fraction_behind (suc (length r.own)) r.rest)) (sym r.whole) (fraction_found c r.own r.rest h r.all r.stops)))

text_found : (cs rest : List ℕ) → list_all is_text_byte cs ≡ true → Stops is_text_byte rest → FoundAt (34 ∷ (cs ++ rest)) (text_end (length cs + 1) rest)
text_found cs [] k s = bad_text cs [] k s tt
text_found cs (b ∷ bs) k s = by_quote (b == 34) refl
  where
    by_quote : (t : Bool) → (b == 34) ≡ t → FoundAt (34 ∷ (cs ++ (b ∷ bs))) (cond t (Token (Text (length cs + 1 + 1))) (Bad (length cs + 1)))
    by_quote true e =
        let two : length cs + 1 + 1 ≡ length cs + 2 = omega arith in
        subst (λ n. TokenAt (34 ∷ (cs ++ (b ∷ bs))) (Text n)) (sym two)
        (record { own = 34 ∷ (cs ++ (34 ∷ [])); rest = bs; whole = ap (λ z. 34 ∷ (cs ++ (z ∷ bs))) (eqb-true b 34 e) ∙ ap (λ z. 34 ∷ z) (sym (append_assoc cs (34 ∷ []) bs)); form = a_text cs k })
    by_quote false e = bad_text cs (b ∷ bs) k s e

sign_found : (c : ℕ) (bs : List ℕ) → begins_gap c ≡ false → starts_word c ≡ false → is_digit c ≡ false → (c == 34) ≡ false → FoundAt (c ∷ bs) (sign_front c bs)
sign_found c [] g u v w = by_sign (is_sign c) refl
  where
    by_sign : (t : Bool) → is_sign c ≡ t → FoundAt (c ∷ []) (cond t (Token (One c)) (Bad 0))
    by_sign true e = record { own = c ∷ []; rest = []; whole = refl; form = a_sign c e (λ q. tt) }
    by_sign false e = bad_sign c [] g u v w e (λ q. tt)
sign_found c (b ∷ bs) g u v w = by_pair (pairs c && (b == 61)) refl
  where
    by_sign : (t : Bool) → is_sign c ≡ t → (pairs c && (b == 61)) ≡ false → FoundAt (c ∷ (b ∷ bs)) (cond t (Token (One c)) (Bad 0))
    by_sign true e q = record { own = c ∷ []; rest = b ∷ bs; whole = refl; form = a_sign c e (λ m. not_both (may_pair c) (c == 33) (b == 61) q (or_left (may_pair c) (c == 33) m)) }
    by_sign false e q = bad_sign c (b ∷ bs) g u v w e (λ m. not_both (may_pair c) (c == 33) (b == 61) q m)

    by_pair : (t : Bool) → (pairs c && (b == 61)) ≡ t → FoundAt (c ∷ (b ∷ bs)) (cond t (Token (Two c)) (cond (is_sign c) (Token (One c)) (Bad 0)))
    by_pair true e = record { own = c ∷ (61 ∷ []); rest = bs; whole = ap (λ z. c ∷ (z ∷ bs)) (eqb-true b 61 (second_so (pairs c) (b == 61) e)); form = a_pair c (first_so (pairs c) (b == 61) e) }
    by_pair false e = by_sign (is_sign c) refl e

pub front_found : (bs : List ℕ) → Stops begins_gap bs → FoundAt bs (front bs)
unfolding front
front_found [] gap = refl
front_found (c ∷ bs) gap = by_word (starts_word c) refl
  where
    by_quote : (t : Bool) → (c == 34) ≡ t → starts_word c ≡ false → is_digit c ≡ false → FoundAt (c ∷ bs) (cond t (text_end (length (take_while is_text_byte bs) + 1) (drop (length (take_while is_text_byte bs)) bs)) (sign_front c bs))
    by_quote true e u v =
        let r = run_of is_text_byte bs in
        let d : drop (length r.own) bs ≡ r.rest = ap (drop (length r.own)) r.whole ∙ drop_front r.own r.rest in
        subst (λ z. FoundAt (z ∷ bs) (text_end (length (take_while is_text_byte bs) + 1) (drop (length (take_while is_text_byte bs)) bs))) (sym (eqb-true c 34 e))
        (subst (λ z. FoundAt (34 ∷ bs) (text_end (length z + 1) (drop (length z) bs))) (sym r.taken)
        (subst (λ z. FoundAt (34 ∷ bs) (text_end (length r.own + 1) z)) (sym d)
        (subst (λ z. FoundAt (34 ∷ z) (text_end (length r.own + 1) r.rest)) (sym r.whole) (text_found r.own r.rest r.all r.stops))))
    by_quote false e u v = sign_found c bs gap u v e

    by_digit : (t : Bool) → is_digit c ≡ t → starts_word c ≡ false → FoundAt (c ∷ bs) (cond t (fraction_behind (length (take_while is_digit (c ∷ bs))) (drop (length (take_while is_digit (c ∷ bs))) (c ∷ bs))) (cond (c == 34) (text_end (length (take_while is_text_byte bs) + 1) (drop (length (take_while is_text_byte bs)) bs)) (sign_front c bs)))
    by_digit true e u = number_found c bs e
    by_digit false e u = by_quote (c == 34) refl u e

    by_word : (t : Bool) → starts_word c ≡ t → FoundAt (c ∷ bs) (cond t (word_front (length (take_while is_word_byte (c ∷ bs)))) (cond (is_digit c) (fraction_behind (length (take_while is_digit (c ∷ bs))) (drop (length (take_while is_digit (c ∷ bs))) (c ∷ bs))) (cond (c == 34) (text_end (length (take_while is_text_byte bs) + 1) (drop (length (take_while is_text_byte bs)) bs)) (sign_front c bs))))
    by_word true e = word_found c bs e
    by_word false e = by_digit (is_digit c) refl e

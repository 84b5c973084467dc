-- Each text is read, and in one way.
use Rattle.std.proofs.Common.{◌≡◌, ℕ, zero, suc, ◌+◌, ◌<◌, Bool, true, false, ◌||◌, List, [], ◌∷◌, ◌++◌, length, take, drop, refl, sym, ap, ap₂, ◌∙◌, arith, length-append, subst}
use Rattle.std.specs.Prelude.{◌==◌}
use Rattle.std.specs.List.{list_all}
use Rattle.std.proofs.Math.Seq.{take-append_seam}
use Rattle.std.proofs.lemmas.Bool.{or_parts, cond-false, cond-true, eqb-true}
use Rattle.pl_grammar.specs.declared.Place.{Place}
use Rattle.pl_grammar.specs.Tree.{Lexeme, mark}
use Rattle.pl_grammar.specs.Faults.{Tail, AtEnd, AtBad}
use Rattle.pl_syntax.specs.declared.front.Form.{Form}
use Rattle.pl_syntax.specs.declared.front.Found.{Found}
use Rattle.pl_syntax.specs.declared.front.Found.TheVariants.{End, Bad, Token}
use Rattle.pl_syntax.specs.Bytes.{Stops, is_blank, no_line_end, begins_gap}
use Rattle.pl_syntax.specs.Tokens.{Front, a_word, a_whole, a_decimal, a_text, a_pair, a_sign, token_in, form_length}
use Rattle.pl_syntax.specs.Front.{front}
use Rattle.pl_syntax.specs.Text.{start, after, after_byte, Read, at_text_end, at_bad_byte, a_blank, a_comment, a_token}
use Rattle.pl_syntax.specs.Reading.{Whole, with_token, at_found, reading, whole}
use Rattle.pl_syntax.proofs.Longest.{longest, drop_front, front_only, front_found, FoundAt, run_of}
use Rattle.pl_syntax.proofs.Bad.{front_no_gap, front_some, bad_no_gap, bad_within, bad_only}

pub form_whole : {xs rest : List ℕ} {f : Form} → Front xs rest f → form_length f ≡ length xs
form_whole (a_word c cs h s few z) = refl
form_whole (a_whole c cs h all s) = refl
form_whole (a_decimal c cs f fs h all g more s) = omega (arith, length-append cs (46 ∷ (f ∷ fs)))
form_whole (a_text cs h) = omega (arith, length-append cs (34 ∷ []))
form_whole (a_pair c h) = refl
form_whole (a_sign c h s) = refl

-- without a gap it is what is found at the front
at_front : (n : ℕ) (p : Place) (bs : List ℕ) → 0 < length bs → Stops begins_gap bs → reading (suc n) p bs ≡ at_found p bs (reading n) (front bs)
unfolding reading
at_front n p [] some gap = absurd (omega arith)
at_front n p (b ∷ bs) some gap =
    let k = or_parts (is_blank b) (b == 35) gap in cond-false (is_blank b) _ _ k.0 ∙ cond-false (b == 35) _ _ k.1

token_step : (n : ℕ) (p : Place) (xs bs : List ℕ) (f : Form) → Front xs bs f → reading (suc n) p (xs ++ bs) ≡ with_token p (token_in f xs) (reading n (after xs p) bs)
token_step n p xs bs f x =
    let some = front_some x in
    let size = form_whole x in
    at_front n p (xs ++ bs) (omega (arith, length-append xs bs)) (front_no_gap x)
    ∙ (ap (at_found p (xs ++ bs) (reading n)) (front_only x)
    ∙ ap₂ (λ ys zs. with_token p (token_in f ys) (reading n (after ys p) zs)) (ap (λ m. take m (xs ++ bs)) size ∙ take-append_seam xs bs) (ap (λ m. drop m (xs ++ bs)) size ∙ drop_front xs bs))

comment_step : (n : ℕ) (p : Place) (cs bs : List ℕ) → list_all no_line_end cs ≡ true → Stops no_line_end bs → reading (suc n) p (35 ∷ (cs ++ bs)) ≡ reading n (after (35 ∷ cs) p) bs
unfolding reading
comment_step n p cs bs all s =
    ap (λ z. reading n (after (35 ∷ z) p) (drop (length z) (cs ++ bs))) (longest no_line_end cs bs all s)
    ∙ ap (reading n (after (35 ∷ cs) p)) (drop_front cs bs)

-- what is read is so
pub read_only : (n : ℕ) {p : Place} {bs : List ℕ} {ts : List Lexeme} {tail : Tail} → Read p bs ts tail → length bs < n → reading n p bs ≡ (ts, tail)
unfolding reading
read_only zero x few = absurd (omega arith)
read_only (suc n) at_text_end few = refl
read_only (suc n) {p = p} {bs = bs} (at_bad_byte k x) few =
    at_front n p bs (bad_within x).0 (bad_no_gap x) ∙ ap (at_found p bs (reading n)) (bad_only x)
read_only (suc n) {p = p} (a_blank {b = b} {bs = bs} h x) few = cond-true (is_blank b) _ _ h ∙ read_only n x (omega arith)
read_only (suc n) {p = p} (a_comment cs bs all s x) few =
    comment_step n p cs bs all s ∙ read_only n x (omega (arith, length-append cs bs))
read_only (suc n) {p = p} (a_token xs bs {f = f} y x) few =
    let some = front_some y in
    token_step n p xs bs f y ∙ ap (with_token p (token_in f xs)) (read_only n x (omega (arith, length-append xs bs)))

pub one_way : (p : Place) (bs : List ℕ) (ts us : List Lexeme) (x y : Tail) → Read p bs ts x → Read p bs us y → (ts ≡ us) × (x ≡ y)
one_way p bs ts us x y a b =
    let n : ℕ = length bs + 1 in
    let same : (ts, x) ≡ (us, y) = sym (read_only n a (omega arith)) ∙ read_only n b (omega arith) in
    (ap (λ (r : Whole). r.0) same, ap (λ (r : Whole). r.1) same)

-- each text is read

pub record IsRead (p : Place) (bs : List ℕ) : Type 0 where
  pub tokens : List Lexeme
  pub tail : Tail
  pub reads : Read p bs tokens tail

read_within : (n : ℕ) (p : Place) (bs : List ℕ) → length bs < n → IsRead p bs
read_within zero p bs few = absurd (omega arith)
read_within (suc n) p [] few = record { tokens = []; tail = AtEnd p; reads = at_text_end }
read_within (suc n) p (b ∷ bs) few = by_blank (is_blank b) refl (read_within n)
  where
    rests : (own rest : List ℕ) → b ∷ bs ≡ own ++ rest → 0 < length own → length rest < n
    rests own rest whole some = omega (arith, ap length whole, length-append own rest)

    of_front : (f : Found) → FoundAt (b ∷ bs) f → ((q : Place) (cs : List ℕ) → length cs < n → IsRead q cs) → IsRead p (b ∷ bs)
    of_front End x k = absurd (no_end x)
      where
        no_end : b ∷ bs ≡ [] → ⊥
        no_end e = cc
    of_front (Bad m) x k = record { tokens = []; tail = AtBad (after (take m (b ∷ bs)) p); reads = at_bad_byte m x }
    of_front (Token f) x k =
        let r = k (after x.own p) x.rest (rests x.own x.rest x.whole (front_some x.form)) in
        subst (λ z. IsRead p z) (sym x.whole) (record { tokens = mark p (token_in f x.own) ∷ r.tokens; tail = r.tail; reads = a_token x.own x.rest x.form r.reads })

    by_comment : (t : Bool) → (b == 35) ≡ t → is_blank b ≡ false → ((q : Place) (cs : List ℕ) → length cs < n → IsRead q cs) → IsRead p (b ∷ bs)
    by_comment true e h k =
        let r = run_of no_line_end bs in
        let x = k (after (35 ∷ r.own) p) r.rest (omega (arith, ap length r.whole, length-append r.own r.rest)) in
        subst (λ z. IsRead p (z ∷ bs)) (sym (eqb-true b 35 e)) (subst (λ z. IsRead p (35 ∷ z)) (sym r.whole)
        (record { tokens = x.tokens; tail = x.tail; reads = a_comment r.own r.rest r.all r.stops x.reads }))
    by_comment false e h k = of_front (front (b ∷ bs)) (front_found (b ∷ bs) (ap₂ (λ t u. t || u) h e)) k

    by_blank : (t : Bool) → is_blank b ≡ t → ((q : Place) (cs : List ℕ) → length cs < n → IsRead q cs) → IsRead p (b ∷ bs)
    by_blank true h k = let r = k (after_byte b p) bs (omega arith) in record { tokens = r.tokens; tail = r.tail; reads = a_blank h r.reads }
    by_blank false h k = by_comment (b == 35) refl h k

pub is_read : (p : Place) (bs : List ℕ) → IsRead p bs
is_read p bs = read_within (length bs + 1) p bs (omega arith)

-- the tokens that are found are those of the text
pub whole_read : (bs : List ℕ) → Read start bs (whole bs).0 (whole bs).1
whole_read bs =
    let r = is_read start bs in
    let same : whole bs ≡ (r.tokens, r.tail) = read_only (length bs + 1) r.reads (omega arith) in
    subst (λ (x : Whole). Read start bs x.0 x.1) (sym same) r.reads

pub whole_only : (bs : List ℕ) (ts : List Lexeme) (tail : Tail) → Read start bs ts tail → whole bs ≡ (ts, tail)
whole_only bs ts tail x = read_only (length bs + 1) x (omega arith)

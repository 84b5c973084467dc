-- Steps over a text: places after bytes, and gaps.
use Rattle.std.proofs.Common.{◌≡◌, ℕ, suc, ◌+◌, ◌<◌, ◌≤◌, Bool, true, false, cond, ◌||◌, List, [], ◌∷◌, ◌++◌, length, take, drop, get_or, refl, sym, ap, ap₂, ◌∙◌, arith, length-append, length-take, length-drop, subst}
use Rattle.std.specs.Prelude.{◌==◌}
use Rattle.std.specs.List.{take_while}
use Rattle.std.proofs.lemmas.Bool.{eqb-true}
use Rattle.std.proofs.lemmas.List.{take_more, take-append-drop}
use Rattle.std.proofs.Math.Seq.{take-append_seam, drop-append_seam}
use Rattle.pl_grammar.specs.declared.Place.{Place}
use Rattle.pl_grammar.specs.Tree.{Lexeme, mark}
use Rattle.pl_grammar.specs.Faults.{Tail, AtEnd}
use Rattle.pl_syntax.specs.declared.front.Form.{Form}
use Rattle.pl_syntax.specs.declared.front.Found.{Found}
use Rattle.pl_syntax.specs.declared.front.Found.TheVariants.{Token}
use Rattle.pl_syntax.specs.Tokens.{Front, token_in, form_length}
use Rattle.pl_syntax.specs.Bytes.{Stops, is_blank, no_line_end, begins_gap}
use Rattle.pl_syntax.specs.Front.{gap_front, front}
use Rattle.pl_syntax.specs.Text.{after, after_byte, Read, at_text_end, a_blank, a_comment, a_token}
use Rattle.pl_syntax.specs.Code.{HasRoom}
use Rattle.pl_syntax.proofs.Longest.{run_of, front_found, FoundAt, TokenAt}
use Rattle.pl_syntax.proofs.Bad.{front_some}
use Rattle.pl_syntax.proofs.Reading.{form_whole}

pub after-append : (xs ys : List ℕ) (p : Place) → after (xs ++ ys) p ≡ after ys (after xs p)
after-append [] ys p = refl
after-append (x ∷ xs) ys p = after-append xs ys (after_byte x p)

byte_near : (b : ℕ) (p : Place) → ((after_byte b p).line ≤ p.line + 1) × ((after_byte b p).col ≤ p.col + 1)
byte_near b p = by_test (b == 10)
  where
    next : Bool → Place
    next t = cond t (record { line = p.line + 1; col = 1 }) (record { line = p.line; col = p.col + 1 })

    by_test : (t : Bool) → ((next t).line ≤ p.line + 1) × ((next t).col ≤ p.col + 1)
    by_test true = (omega arith, omega arith)
    by_test false = (omega arith, omega arith)

-- lines and columns grow by no more than the bytes
pub after_near : (bs : List ℕ) (p : Place) → ((after bs p).line ≤ p.line + length bs) × ((after bs p).col ≤ p.col + length bs)
after_near [] p = (omega arith, omega arith)
after_near (b ∷ bs) p =
    let rest = after_near bs (after_byte b p) in
    let one = byte_near b p in
    (omega (arith, rest.0, one.0), omega (arith, rest.1, one.1))

-- one byte more
pub after_more : (bs : List ℕ) (i : ℕ) (p : Place) → i < length bs → after (take (i + 1) bs) p ≡ after_byte (get_or bs i 0) (after (take i bs) p)
after_more bs i p h = ap (λ z. after z p) (take_more bs i 0 h) ∙ after-append (take i bs) (get_or bs i 0 ∷ []) p

-- the text goes on with room
pub room_behind : (p : Place) (bs : List ℕ) (n : ℕ) → HasRoom p bs → n ≤ length bs → HasRoom (after (take n bs) p) (drop n bs)
room_behind p bs n h k = record {
  line = omega (arith, (after_near (take n bs) p).0, h.line, length-take n bs, length-drop n bs);
  col = omega (arith, (after_near (take n bs) p).1, h.col, length-take n bs, length-drop n bs);
}

-- gaps

pub record Gap (p : Place) (bs : List ℕ) (n : ℕ) : Type 0 where
  pub within : n ≤ length bs
  pub reads : 0 < n → (ts : List Lexeme) (tail : Tail) → Read (after (take n bs) p) (drop n bs) ts tail → Read p bs ts tail
  pub tight : n ≡ 0 → Stops begins_gap bs

pub gap : (p : Place) (bs : List ℕ) → Gap p bs (gap_front bs)
gap p [] = record { within = omega arith; reads = λ some ts tail x. absurd (omega arith); tight = λ e. tt }
gap p (b ∷ bs) = by_blank (is_blank b) refl
  where
    by_comment : (t : Bool) → (b == 35) ≡ t → is_blank b ≡ false → Gap p (b ∷ bs) (cond t (length (take_while no_line_end bs) + 1) 0)
    by_comment true e h =
        let r = run_of no_line_end bs in
        let cs = r.own in
        subst (λ z. Gap p (b ∷ bs) (length z + 1)) (sym r.taken)
        (subst (λ z. Gap p (z ∷ bs) (length cs + 1)) (sym (eqb-true b 35 e)) (subst (λ z. Gap p (35 ∷ z) (length cs + 1)) (sym r.whole)
        (record {
          within = omega (arith, length-append cs r.rest);
          reads = λ some ts tail x.
              let y : Read (after (35 ∷ cs) p) r.rest ts tail = subst (λ z. Read (after z p) r.rest ts tail) (one_more cs r.rest) (subst (λ z. Read (after (take (length cs + 1) (35 ∷ (cs ++ r.rest))) p) z ts tail) (rest_of cs r.rest) x) in
              a_comment cs r.rest r.all r.stops y;
          tight = λ z. absurd (omega arith);
        })))
      where
        suc_one : (n : ℕ) → n + 1 ≡ suc n
        suc_one n = omega arith

        one_more : (cs rest : List ℕ) → take (length cs + 1) (35 ∷ (cs ++ rest)) ≡ 35 ∷ cs
        one_more cs rest = ap (λ n. take n (35 ∷ (cs ++ rest))) (suc_one (length cs)) ∙ ap (λ z. 35 ∷ z) (take-append_seam cs rest)

        rest_of : (cs rest : List ℕ) → drop (length cs + 1) (35 ∷ (cs ++ rest)) ≡ rest
        rest_of cs rest = ap (λ n. drop n (35 ∷ (cs ++ rest))) (suc_one (length cs)) ∙ drop-append_seam cs rest
    by_comment false e h = record { within = omega arith; reads = λ some ts tail x. absurd (omega arith); tight = λ z. ap₂ (λ t u. t || u) h e }

    by_blank : (t : Bool) → is_blank b ≡ t → Gap p (b ∷ bs) (cond t 1 (cond (b == 35) (length (take_while no_line_end bs) + 1) 0))
    by_blank true h = record { within = omega arith; reads = λ some ts tail x. a_blank h x; tight = λ z. absurd (omega arith) }
    by_blank false h = by_comment (b == 35) refl h

-- a token at the front

pub record IsToken (bs : List ℕ) (f : Form) : Type 0 where
  pub within : form_length f ≤ length bs
  pub some : 0 < form_length f
  pub front : Front (take (form_length f) bs) (drop (form_length f) bs) f

pub found : (bs : List ℕ) (f : Found) → Stops begins_gap bs → f ≡ front bs → FoundAt bs f
found bs f tight e = subst (λ z. FoundAt bs z) (sym e) (front_found bs tight)

pub token_found : (bs : List ℕ) (f : Form) → Stops begins_gap bs → Token f ≡ front bs → IsToken bs f
token_found bs f tight e =
    let r : TokenAt bs f = found bs (Token f) tight e in
    let n : form_length f ≡ length r.own = form_whole r.form in
    let own : take (form_length f) bs ≡ r.own = ap₂ take n r.whole ∙ take-append_seam r.own r.rest in
    let rest : drop (form_length f) bs ≡ r.rest = ap₂ drop n r.whole ∙ drop-append_seam r.own r.rest in
    record {
      within = omega (arith, n, ap length r.whole, length-append r.own r.rest);
      some = omega (arith, n, front_some r.form);
      front = subst (λ z. Front z (drop (form_length f) bs) f) (sym own) (subst (λ z. Front r.own z f) (sym rest) r.form);
    }

pub token_reads : (p : Place) (bs : List ℕ) (f : Form) → IsToken bs f → (ts : List Lexeme) (tail : Tail) → Read (after (take (form_length f) bs) p) (drop (form_length f) bs) ts tail → Read p bs (mark p (token_in f (take (form_length f) bs)) ∷ ts) tail
token_reads p bs f h ts tail x =
    let n = form_length f in
    subst (λ z. Read p z (mark p (token_in f (take n bs)) ∷ ts) tail) (take-append-drop n bs) (a_token (take n bs) (drop n bs) h.front x)

pub end_reads : (p : Place) (bs : List ℕ) → bs ≡ [] → Read p bs [] (AtEnd p)
end_reads p bs e = subst (λ z. Read p z [] (AtEnd p)) (sym e) at_text_end

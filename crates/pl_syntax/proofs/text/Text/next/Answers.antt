use Rattle.std.proofs.Common.{◌≡◌, length, take, drop, arith, sym, ap, subst, ◌∙◌, length-take, length-drop, [], ◌∷◌}
use Rattle.pl_grammar.specs.Tree.{mark}
use Rattle.pl_grammar.specs.Faults.{AtBad}
use Rattle.pl_syntax.specs.Text.{after, Read, at_bad_byte}
use Rattle.pl_syntax.specs.Tokens.{Front, form_length, token_in}
use Rattle.pl_syntax.specs.Code.{token_of}
use Rattle.pl_syntax.proofs.Bad.{bad_within}
use Rattle.pl_syntax.specs.declared.front.Found.TheVariants.{Bad, End}
use Rattle.pl_syntax.proofs.Steps.{found, token_found, token_reads, end_reads}
use Rattle.pl_syntax.proofs.text.Text.next.Goals as goal

pub skip-requires-clause-within : goal.skip-requires-clause-within
skip-requires-clause-within c = (bad_within (found c.skip_gap.new.self.bytes.now (Bad c.in-Bad.index) c.skip_gap.ensures.tight c.in-Bad.ensures)).1

pub length_of-count-requires : goal.length_of-count-requires
length_of-count-requires c =
    let here = token_found c.skip_gap.new.self.bytes.now c.in-Token.form c.skip_gap.ensures.tight c.in-Token.ensures in
    omega (arith, here.within, c.skip_gap.ensures.room.line)

pub slice_bounds-token_from-end : goal.slice_bounds-token_from-end
slice_bounds-token_from-end c =
    let bs = c.skip_gap.new.self.bytes.now in
    let here = token_found bs c.in-Token.form c.skip_gap.ensures.tight c.in-Token.ensures in
    omega (arith, here.within, c.length_of-count.ensures, length-take c.length_of-count.result bs)

pub token_from-requires : goal.token_from-requires
token_from-requires c =
    let bs = c.skip_gap.new.self.bytes.now in
    let f = c.in-Token.form in
    let here = token_found bs f c.skip_gap.ensures.tight c.in-Token.ensures in
    (drop (form_length f) bs, subst (λ k. Front (take k bs) (drop (form_length f) bs) f) (sym c.length_of-count.ensures) here.front)

pub skip-requires-in-Token-clause-within : goal.skip-requires-in-Token-clause-within
skip-requires-in-Token-clause-within c =
    let here = token_found c.skip_gap.new.self.bytes.now c.in-Token.form c.skip_gap.ensures.tight c.in-Token.ensures in
    omega (arith, here.within, c.length_of-count.ensures)

pub returns-in-End : goal.returns-in-End
returns-in-End c = c.skip_gap.ensures.reads _ _ (end_reads c.skip_gap.new.self.place _ (found c.skip_gap.new.self.bytes.now End c.skip_gap.ensures.tight c.in-End.ensures))

pub returns-in-Bad : goal.returns-in-Bad
returns-in-Bad c =
    let p = c.skip_gap.new.self.place in
    let bs = c.skip_gap.new.self.bytes.now in
    let bad = found bs (Bad c.in-Bad.index) c.skip_gap.ensures.tight c.in-Bad.ensures in
    c.skip_gap.ensures.reads [] (AtBad c.skip.new.self.place) (subst (λ z. Read p bs [] (AtBad z)) (sym c.skip.ensures.place) (at_bad_byte c.in-Bad.index bad))

pub returns-in_ok-token-in-Token : goal.returns-in_ok-token-in-Token
returns-in_ok-token-in-Token c =
    let p = c.skip_gap.new.self.place in
    let bs = c.skip_gap.new.self.bytes.now in
    let q = c.skip-in-Token.new.self.place in
    let rest = c.skip-in-Token.new.self.bytes.now in
    let f = c.in-Token.form in
    let n = c.length_of-count.result in
    let size : n ≡ form_length f = c.length_of-count.ensures in
    let here = token_found bs f c.skip_gap.ensures.tight c.in-Token.ensures in
    let place : q ≡ after (take (form_length f) bs) p = c.skip-in-Token.ensures.place ∙ ap (λ k. after (take k bs) p) size in
    let bytes : rest ≡ drop (form_length f) bs = c.skip-in-Token.ensures.bytes ∙ ap (λ k. drop k bs) size in
    let token : token_of c.in_ok-token-in-Token.token ≡ token_in f (take (form_length f) bs) = c.in_ok-token-in-Token.ensures ∙ ap (λ k. token_in f (take k bs)) size in
    record {
      reads = λ ts tail x.
          let y : Read (after (take (form_length f) bs) p) (drop (form_length f) bs) ts tail = subst (λ z. Read z (drop (form_length f) bs) ts tail) place (subst (λ z. Read q z ts tail) bytes x) in
          c.skip_gap.ensures.reads (mark p (token_of c.in_ok-token-in-Token.token) ∷ ts) tail
          (subst (λ z. Read p bs (mark p z ∷ ts) tail) (sym token) (token_reads p bs f here ts tail y));
      fewer = omega (arith, here.within, here.some, ap length bytes, length-drop (form_length f) bs, c.skip_gap.ensures.fewer);
      room = c.skip-in-Token.ensures.room;
    }

-- Tokens at other places derive the same tree at other places.
use Rattle.std.proofs.Common.{◌≡◌, ℕ, List, [], ◌∷◌, ◌++◌, Option, refl, sym, ap, ap₂, subst, ◌∙◌}
use Rattle.pl_grammar.specs.declared.Place.{Place}
use Rattle.pl_grammar.specs.Tree.{Token, Name, Operator, Open, Close, Dot, Comma, Lexeme, mark, Tree, number, text, name, call, prefix, binary, member, method, Args, no_args, arg}
use Rattle.pl_grammar.specs.Grammar.{Derives, a_number, a_text, a_name, a_call, a_group, a_prefix, a_binary, a_member, a_method, ArgsDerive, none, some, OneArg, bare, named, MoreArgs, end, more}
use Rattle.pl_grammar.specs.Printed.{nowhere}
use Rattle.pl_grammar.specs.Places.{SameTokens, same_none, same_next, bare as bared, bare_args}

pub record Cut (xs ys us : List Lexeme) : Type 0 where
  pub front : List Lexeme
  pub back : List Lexeme
  pub whole : us ≡ front ++ back
  pub front_same : SameTokens xs front
  pub back_same : SameTokens ys back

pub cut : (xs ys us : List Lexeme) → SameTokens (xs ++ ys) us → Cut xs ys us
cut [] ys us h = record { front = []; back = us; whole = refl; front_same = same_none; back_same = h }
cut (mark p t ∷ xs) ys _ (same_next {us = us} q h) =
    let c = cut xs ys us h in
    record { front = mark q t ∷ c.front; back = c.back; whole = ap (λ z. mark q t ∷ z) c.whole; front_same = same_next q c.front_same; back_same = c.back_same }

-- a last token
record Last (xs : List Lexeme) (t : Token) (us : List Lexeme) : Type 0 where
  front : List Lexeme
  place : Place
  whole : us ≡ front ++ (mark place t ∷ [])
  front_same : SameTokens xs front

cut_last : (xs : List Lexeme) (p : Place) (t : Token) (us : List Lexeme) → SameTokens (xs ++ (mark p t ∷ [])) us → Last xs t us
cut_last xs p t us h =
    let c = cut xs (mark p t ∷ []) us h in
    of_back c.front c.back c.whole c.front_same c.back_same
  where
    of_back : (fs bs : List Lexeme) → us ≡ fs ++ bs → SameTokens xs fs → SameTokens (mark p t ∷ []) bs → Last xs t us
    of_back fs _ e f (same_next q same_none) = record { front = fs; place = q; whole = e; front_same = f }

-- a first token
pub record Next (t : Token) (xs us : List Lexeme) : Type 0 where
  pub place : Place
  pub rest : List Lexeme
  pub whole : us ≡ mark place t ∷ rest
  pub same : SameTokens xs rest

pub next_of : {p : Place} {t : Token} {xs us : List Lexeme} → SameTokens (mark p t ∷ xs) us → Next t xs us
next_of (same_next {us = us} q h) = record { place = q; rest = us; whole = refl; same = h }

nothing_of : {us : List Lexeme} → SameTokens [] us → us ≡ []
nothing_of same_none = refl

pub record Replaced (d l : ℕ) (us : List Lexeme) (e : Tree) : Type 0 where
  pub tree : Tree
  pub derives : Derives d l us tree
  pub same : bared tree ≡ bared e

record ArgsReplaced (d : ℕ) (us : List Lexeme) (ps : Args) : Type 0 where
  args : Args
  derives : ArgsDerive d us args
  same : bare_args args ≡ bare_args ps

record MoreReplaced (d : ℕ) (us : List Lexeme) (ps : Args) : Type 0 where
  args : Args
  derives : MoreArgs d us args
  same : bare_args args ≡ bare_args ps

record OneReplaced (d : ℕ) (us : List Lexeme) (n : Option (List ℕ)) (e : Tree) : Type 0 where
  tree : Tree
  derives : OneArg d us n tree
  same : bared tree ≡ bared e

-- with the tokens written another way
moved : {d l : ℕ} {us vs : List Lexeme} {e : Tree} → us ≡ vs → Replaced d l vs e → Replaced d l us e
moved {d = d} {l = l} {e = e} h r = subst (λ z. Replaced d l z e) (sym h) r

mutual
  unfolding bared bare_args

  pub replaced : {d l : ℕ} {ts : List Lexeme} {e : Tree} → Derives d l ts e → (us : List Lexeme) → SameTokens ts us → Replaced d l us e
  replaced (a_number {v = v} h) _ (same_next q same_none) = record { tree = number q v; derives = a_number h; same = refl }
  replaced (a_text {t = t} h) _ (same_next q same_none) = record { tree = text q t; derives = a_text h; same = refl }
  replaced (a_name {n = n} h) _ (same_next q same_none) = record { tree = name q n; derives = a_name h; same = refl }
  replaced (a_call {q = o} r {n = n} {ts = ts} h i) _ (same_next q (same_next {us = us} k s)) =
      let c = cut_last ts r Close us s in
      let x = replaced_args i c.front c.front_same in
      moved (ap (λ z. mark q (Name n) ∷ (mark k Open ∷ z)) c.whole) (record { tree = call q n x.args; derives = a_call c.place h x.derives; same = ap (call nowhere n) x.same })
  replaced (a_group r {ts = ts} h i) _ (same_next {us = us} q s) =
      let c = cut_last ts r Close us s in
      let x = replaced i c.front c.front_same in
      moved (ap (λ z. mark q Open ∷ z) c.whole) (record { tree = x.tree; derives = a_group c.place h x.derives; same = x.same })
  replaced (a_prefix s h i) _ (same_next {us = us} q k) =
      let x = replaced i us k in
      record { tree = prefix q s x.tree; derives = a_prefix s h x.derives; same = ap (prefix nowhere s) x.same }
  replaced {d = d} {l = l} (a_binary {p = p} {xs = xs} {ys = ys} {a = a} {b = b} o h i j) us k =
      let c = cut xs (mark p (Operator o) ∷ ys) us k in
      let x = replaced i c.front c.front_same in
      let n = next_of c.back_same in
      let y = replaced j n.rest n.same in
      moved (c.whole ∙ ap (λ z. c.front ++ z) n.whole) (record { tree = binary n.place o x.tree y.tree; derives = a_binary o h x.derives y.derives; same = ap₂ (binary nowhere o) x.same y.same })
  replaced (a_member {p = p} q {n = n} {ts = ts} h i) us k =
      let c = cut ts (mark q Dot ∷ (mark p (Name n) ∷ [])) us k in
      let x = replaced i c.front c.front_same in
      let a = next_of c.back_same in
      let b = next_of a.same in
      let e = nothing_of b.same in
      moved (c.whole ∙ ap (λ z. c.front ++ z) (a.whole ∙ ap (λ z. mark a.place Dot ∷ z) (b.whole ∙ ap (λ z. mark b.place (Name n) ∷ z) e)))
      (record { tree = member b.place x.tree n; derives = a_member a.place h x.derives; same = ap (λ z. member nowhere z n) x.same })
  replaced (a_method {p = p} q r t {n = n} {ts = ts} {us = vs} h i j) us k =
      let c = cut ts (mark q Dot ∷ (mark p (Name n) ∷ (mark r Open ∷ (vs ++ (mark t Close ∷ []))))) us k in
      let x = replaced i c.front c.front_same in
      let a = next_of c.back_same in
      let b = next_of a.same in
      let o = next_of b.same in
      let z = cut_last vs t Close o.rest o.same in
      let y = replaced_args j z.front z.front_same in
      moved (c.whole ∙ ap (λ w. c.front ++ w) (a.whole ∙ ap (λ w. mark a.place Dot ∷ w) (b.whole ∙ ap (λ w. mark b.place (Name n) ∷ w) (o.whole ∙ ap (λ w. mark o.place Open ∷ w) z.whole))))
      (record { tree = method b.place x.tree n y.args; derives = a_method a.place o.place z.place h x.derives y.derives; same = ap₂ (λ u w. method nowhere u n w) x.same y.same })

  replaced_args : {d : ℕ} {ts : List Lexeme} {ps : Args} → ArgsDerive d ts ps → (us : List Lexeme) → SameTokens ts us → ArgsReplaced d us ps
  replaced_args none _ same_none = record { args = no_args; derives = none; same = refl }
  replaced_args {d = d} (some {ts = ts} {us = vs} {n = n} {e = e} {ps = ps} one rest) us k =
      let c = cut ts vs us k in
      let x = replaced_arg one c.front c.front_same in
      let y = replaced_more rest c.back c.back_same in
      subst (λ z. ArgsReplaced d z (arg n e ps)) (sym c.whole) (record { args = arg n x.tree y.args; derives = some x.derives y.derives; same = ap₂ (arg n) x.same y.same })

  replaced_arg : {d : ℕ} {ts : List Lexeme} {n : Option (List ℕ)} {e : Tree} → OneArg d ts n e → (us : List Lexeme) → SameTokens ts us → OneReplaced d us n e
  replaced_arg (bare i) us k = let x = replaced i us k in record { tree = x.tree; derives = bare x.derives; same = x.same }
  replaced_arg (named i) _ (same_next p (same_next {us = us} q k)) = let x = replaced i us k in record { tree = x.tree; derives = named x.derives; same = x.same }

  replaced_more : {d : ℕ} {ts : List Lexeme} {ps : Args} → MoreArgs d ts ps → (us : List Lexeme) → SameTokens ts us → MoreReplaced d us ps
  replaced_more end _ same_none = record { args = no_args; derives = end; same = refl }
  replaced_more {d = d} (more {ts = ts} {us = vs} {n = n} {e = e} {ps = ps} one rest) _ (same_next {us = us} p k) =
      let c = cut ts vs us k in
      let x = replaced_arg one c.front c.front_same in
      let y = replaced_more rest c.back c.back_same in
      subst (λ z. MoreReplaced d (mark p Comma ∷ z) (arg n e ps)) (sym c.whole) (record { args = arg n x.tree y.args; derives = more x.derives y.derives; same = ap₂ (arg n) x.same y.same })

-- Of all tokens that derive a tree the canonical ones are the fewest, and none of them ends a statement.
use Rattle.std.proofs.Common.{◌≡◌, ℕ, ◌+◌, ◌≤◌, Bool, true, false, ◌&&◌, leb, List, [], ◌∷◌, ◌++◌, length, Option, refl, sym, ap, ◌∙◌, arith, length-append}
use Rattle.std.proofs.lemmas.Bool.{le-leb, and_from, and_parts}
use Rattle.pl_grammar.specs.declared.PrefixSign.{PrefixSign}
use Rattle.pl_grammar.specs.declared.PrefixSign.TheVariants.{Minus, Not}
use Rattle.pl_grammar.specs.Tree.{Token, Name, Number, LargeNumber, Text, Operator, Dot, Open, Close, Comma, Assign, Semicolon, Lexeme, mark, Tree, Args, sign_token, left_level, right_level}
use Rattle.pl_grammar.specs.Grammar.{Derives, a_number, a_text, a_name, a_call, a_group, a_prefix, a_binary, a_member, a_method, ArgsDerive, none, some, OneArg, bare, named, MoreArgs, end, more}
use Rattle.pl_grammar.specs.Printed.{here, tree_level, placed, name_tokens, tokens, args_tokens, more_tokens, printed}
use Rattle.pl_grammar.specs.Whole.{tokens_pass, name_passes, tree_passes, args_pass}

-- what may stand within a statement
abbrev pub is_inner : Token → Bool
is_inner Semicolon = false
is_inner LargeNumber = false
is_inner t = true

pub tokens_pass-append : (p : Token → Bool) (xs ys : List Lexeme) → tokens_pass p (xs ++ ys) ≡ (tokens_pass p xs && tokens_pass p ys)
unfolding tokens_pass
tokens_pass-append p [] ys = refl
tokens_pass-append p (mark q t ∷ xs) ys = ap (λ b. p t && b) (tokens_pass-append p xs ys) ∙ sym (and_assoc (p t) (tokens_pass p xs) (tokens_pass p ys))
  where
    and_assoc : (a b c : Bool) → ((a && b) && c) ≡ (a && (b && c))
    and_assoc true b c = refl
    and_assoc false b c = refl

pub join : (p : Token → Bool) (xs ys : List Lexeme) → tokens_pass p xs ≡ true → tokens_pass p ys ≡ true → tokens_pass p (xs ++ ys) ≡ true
join p xs ys h k = tokens_pass-append p xs ys ∙ and_from (tokens_pass p xs) (tokens_pass p ys) h k

pub part : (p : Token → Bool) (xs ys : List Lexeme) → tokens_pass p (xs ++ ys) ≡ true → (tokens_pass p xs ≡ true) × (tokens_pass p ys ≡ true)
part p xs ys h = and_parts (tokens_pass p xs) (tokens_pass p ys) (sym (tokens_pass-append p xs ys) ∙ h)

sign_inner : (s : PrefixSign) → is_inner (sign_token s) ≡ true
sign_inner Minus = refl
sign_inner Not = refl

mutual
  unfolding tokens_pass

  pub inner : {d l : ℕ} {ts : List Lexeme} {e : Tree} → Derives d l ts e → tokens_pass is_inner ts ≡ true
  inner (a_number h) = refl
  inner (a_text h) = refl
  inner (a_name h) = refl
  inner (a_call r {ts = ts} h i) = join is_inner ts (mark r Close ∷ []) (inner_args i) refl
  inner (a_group r {ts = ts} h i) = join is_inner ts (mark r Close ∷ []) (inner i) refl
  inner (a_prefix {ts = ts} s h i) = and_from (is_inner (sign_token s)) (tokens_pass is_inner ts) (sign_inner s) (inner i)
  inner (a_binary {p = p} {xs = xs} {ys = ys} o h i j) = join is_inner xs (mark p (Operator o) ∷ ys) (inner i) (inner j)
  inner (a_member {p = p} q {n = n} {ts = ts} h i) = join is_inner ts (mark q Dot ∷ (mark p (Name n) ∷ [])) (inner i) refl
  inner (a_method {p = p} q r t {n = n} {ts = ts} {us = us} h i j) = join is_inner ts (mark q Dot ∷ (mark p (Name n) ∷ (mark r Open ∷ (us ++ (mark t Close ∷ []))))) (inner i) (join is_inner us (mark t Close ∷ []) (inner_args j) refl)

  inner_args : {d : ℕ} {ts : List Lexeme} {ps : Args} → ArgsDerive d ts ps → tokens_pass is_inner ts ≡ true
  inner_args none = refl
  inner_args (some {ts = ts} {us = us} one rest) = join is_inner ts us (inner_arg one) (inner_more rest)

  inner_arg : {d : ℕ} {ts : List Lexeme} {n : Option (List ℕ)} {e : Tree} → OneArg d ts n e → tokens_pass is_inner ts ≡ true
  inner_arg (bare i) = inner i
  inner_arg (named i) = inner i

  inner_more : {d : ℕ} {ts : List Lexeme} {ps : Args} → MoreArgs d ts ps → tokens_pass is_inner ts ≡ true
  inner_more end = refl
  inner_more (more {ts = ts} {us = us} one rest) = join is_inner ts us (inner_arg one) (inner_more rest)

-- what each token passes, the parts of the tree pass
mutual
  unfolding tokens_pass tree_passes args_pass

  pub passes : (p : Token → Bool) {d l : ℕ} {ts : List Lexeme} {e : Tree} → Derives d l ts e → tokens_pass p ts ≡ true → tree_passes p e ≡ true
  passes p (a_number {v = v} h) k = (and_parts (p (Number v)) true k).0
  passes p (a_text {t = t} h) k = (and_parts (p (Text t)) true k).0
  passes p (a_name {n = n} h) k = (and_parts (p (Name n)) true k).0
  passes p (a_call {q = q} r {n = n} {ts = ts} {ps = ps} h i) k =
      let a = and_parts (p (Name n)) (p Open && tokens_pass p (ts ++ (mark r Close ∷ []))) k in
      let b = and_parts (p Open) (tokens_pass p (ts ++ (mark r Close ∷ []))) a.1 in
      and_from (p (Name n)) (args_pass p ps) a.0 (passes_args p i (part p ts (mark r Close ∷ []) b.1).0)
  passes p (a_group r {ts = ts} h i) k = passes p i (part p ts (mark r Close ∷ []) (and_parts (p Open) (tokens_pass p (ts ++ (mark r Close ∷ []))) k).1).0
  passes p (a_prefix {ts = ts} s h i) k = passes p i (and_parts (p (sign_token s)) (tokens_pass p ts) k).1
  passes p (a_binary {p = q} {xs = xs} {ys = ys} {a = a} {b = b} o h i j) k =
      let c = part p xs (mark q (Operator o) ∷ ys) k in
      and_from (tree_passes p a) (tree_passes p b) (passes p i c.0) (passes p j (and_parts (p (Operator o)) (tokens_pass p ys) c.1).1)
  passes p (a_member {p = r} q {n = n} {ts = ts} {e = e} h i) k =
      let c = part p ts (mark q Dot ∷ (mark r (Name n) ∷ [])) k in
      let a = and_parts (p Dot) (p (Name n) && true) c.1 in
      and_from (tree_passes p e) (p (Name n)) (passes p i c.0) (and_parts (p (Name n)) true a.1).0
  passes p (a_method {p = z} q r t {n = n} {ts = ts} {us = us} {e = e} {ps = ps} h i j) k =
      let c = part p ts (mark q Dot ∷ (mark z (Name n) ∷ (mark r Open ∷ (us ++ (mark t Close ∷ []))))) k in
      let a = and_parts (p Dot) (p (Name n) && (p Open && tokens_pass p (us ++ (mark t Close ∷ [])))) c.1 in
      let b = and_parts (p (Name n)) (p Open && tokens_pass p (us ++ (mark t Close ∷ []))) a.1 in
      let o = and_parts (p Open) (tokens_pass p (us ++ (mark t Close ∷ []))) b.1 in
      and_from (tree_passes p e) (p (Name n) && args_pass p ps) (passes p i c.0) (and_from (p (Name n)) (args_pass p ps) b.0 (passes_args p j (part p us (mark t Close ∷ []) o.1).0))

  passes_args : (p : Token → Bool) {d : ℕ} {ts : List Lexeme} {ps : Args} → ArgsDerive d ts ps → tokens_pass p ts ≡ true → args_pass p ps ≡ true
  passes_args p none k = refl
  passes_args p (some {ts = ts} {us = us} {n = n} {e = e} {ps = ps} one rest) k =
      let c = part p ts us k in
      let o = passes_arg p one c.0 in
      and_from (name_passes p n) (tree_passes p e && args_pass p ps) o.0 (and_from (tree_passes p e) (args_pass p ps) o.1 (passes_more p rest c.1))

  passes_arg : (p : Token → Bool) {d : ℕ} {ts : List Lexeme} {n : Option (List ℕ)} {e : Tree} → OneArg d ts n e → tokens_pass p ts ≡ true → (name_passes p n ≡ true) × (tree_passes p e ≡ true)
  passes_arg p (bare i) k = (refl, passes p i k)
  passes_arg p (named {n = n} {ts = ts} i) k =
      let a = and_parts (p (Name n)) (p Assign && tokens_pass p ts) k in
      (a.0, passes p i (and_parts (p Assign) (tokens_pass p ts) a.1).1)

  passes_more : (p : Token → Bool) {d : ℕ} {ts : List Lexeme} {ps : Args} → MoreArgs d ts ps → tokens_pass p ts ≡ true → args_pass p ps ≡ true
  passes_more p end k = refl
  passes_more p (more {ts = ts} {us = us} {n = n} {e = e} {ps = ps} one rest) k =
      let c = part p ts us (and_parts (p Comma) (tokens_pass p (ts ++ us)) k).1 in
      let o = passes_arg p one c.0 in
      and_from (name_passes p n) (tree_passes p e && args_pass p ps) o.0 (and_from (tree_passes p e) (args_pass p ps) o.1 (passes_more p rest c.1))

-- the canonical tokens are the fewest

placed_size : (b : Bool) (ts : List Lexeme) → length (placed b ts) ≤ length ts + 2
placed_size true ts = omega arith
placed_size false ts = omega (arith, length-append ts (here Close ∷ []))

unplaced_size : (b : Bool) (ts : List Lexeme) → length ts ≤ length (placed b ts)
unplaced_size true ts = omega arith
unplaced_size false ts = omega (arith, length-append ts (here Close ∷ []))

pub own_size : (l : ℕ) (e : Tree) → l ≤ tree_level e → length (printed l e) ≡ length (tokens e)
own_size l e h = ap (λ b. length (placed b (tokens e))) (le-leb l (tree_level e) h)

mutual
  unfolding tokens args_tokens more_tokens

  pub fewest : {d l : ℕ} {ts : List Lexeme} {e : Tree} → Derives d l ts e → length (printed l e) ≤ length ts
  fewest {l = l} {e = e} (a_number h) = omega (arith, own_size l e h)
  fewest {l = l} {e = e} (a_text h) = omega (arith, own_size l e h)
  fewest {l = l} {e = e} (a_name h) = omega (arith, own_size l e h)
  fewest {l = l} {e = e} (a_call r {ts = ts} {ps = ps} h i) = omega (arith, own_size l e h, fewest_args i, length-append ts (mark r Close ∷ []), length-append (args_tokens ps) (here Close ∷ []))
  fewest {l = l} {e = e} (a_group r {ts = ts} h i) = omega (arith, placed_size (leb l (tree_level e)) (tokens e), unplaced_size (leb 1 (tree_level e)) (tokens e), fewest i, length-append ts (mark r Close ∷ []))
  fewest {l = l} {e = e} (a_prefix s h i) = omega (arith, own_size l e h, fewest i)
  fewest {l = l} {e = e} (a_binary {p = p} {xs = xs} {ys = ys} {a = a} {b = b} o h i j) = omega (arith, own_size l e h, fewest i, fewest j, length-append xs (mark p (Operator o) ∷ ys), length-append (printed (left_level o) a) (mark p (Operator o) ∷ printed (right_level o) b))
  fewest {l = l} {e = e} (a_member {p = p} q {n = n} {ts = ts} {e = x} h i) = omega (arith, own_size l e h, fewest i, length-append ts (mark q Dot ∷ (mark p (Name n) ∷ [])), length-append (printed 8 x) (here Dot ∷ (mark p (Name n) ∷ [])))
  fewest {l = l} {e = e} (a_method {p = p} q r t {n = n} {ts = ts} {us = us} {e = x} {ps = ps} h i j) =
      omega (
        arith,
        own_size l e h,
        fewest i,
        fewest_args j,
        length-append ts (mark q Dot ∷ (mark p (Name n) ∷ (mark r Open ∷ (us ++ (mark t Close ∷ []))))),
        length-append us (mark t Close ∷ []),
        length-append (printed 8 x) (here Dot ∷ (mark p (Name n) ∷ (here Open ∷ (args_tokens ps ++ (here Close ∷ []))))),
        length-append (args_tokens ps) (here Close ∷ []),
      )

  fewest_args : {d : ℕ} {ts : List Lexeme} {ps : Args} → ArgsDerive d ts ps → length (args_tokens ps) ≤ length ts
  fewest_args none = omega arith
  fewest_args (some {ts = ts} {us = us} {n = n} {e = e} {ps = ps} one rest) = omega (arith, fewest_arg one, fewest_more rest, length-append ts us, length-append (name_tokens n ++ tokens e) (more_tokens ps))

  fewest_arg : {d : ℕ} {ts : List Lexeme} {n : Option (List ℕ)} {e : Tree} → OneArg d ts n e → length (name_tokens n ++ tokens e) ≤ length ts
  fewest_arg {e = e} (bare i) = omega (arith, fewest i, unplaced_size (leb 1 (tree_level e)) (tokens e))
  fewest_arg {e = e} (named i) = omega (arith, fewest i, unplaced_size (leb 1 (tree_level e)) (tokens e))

  fewest_more : {d : ℕ} {ts : List Lexeme} {ps : Args} → MoreArgs d ts ps → length (more_tokens ps) ≤ length ts
  fewest_more end = omega arith
  fewest_more (more {ts = ts} {us = us} {n = n} {e = e} {ps = ps} one rest) = omega (arith, fewest_arg one, fewest_more rest, length-append ts us, length-append (name_tokens n ++ tokens e) (more_tokens ps))

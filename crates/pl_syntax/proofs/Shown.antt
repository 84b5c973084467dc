-- The canonical text of a script is read as its canonical tokens.
use Rattle.std.proofs.Common.{◌≡◌, ℕ, ℤ, pos, negsuc, ◌+◌, ◌<◌, ◌≤◌, Bool, true, false, cond, leb, List, [], ◌∷◌, ◌++◌, length, Option, Some, None, refl, sym, ap, ◌∙◌, inl, inr, arith, subst, append_assoc, append-nil}
use Rattle.std.specs.Prelude.{codes, ◌==◌, nat_le, ◌/◌}
use Rattle.std.specs.Fmt.{decimal}
use Rattle.std.specs.Str.Parse.{AllDigits}
use Rattle.std.specs.Char.{digit_value}
use Rattle.std.proofs.lemmas.Bool.Decides.{nat_tests}
use Rattle.std.proofs.lemmas.Fmt.{decimal_digit, decimal_is_IsNumeral}
use Rattle.std.proofs.lemmas.Str.Parse.{digit_from_value}
use Rattle.std.proofs.lemmas.Bool.{and_parts}
use Rattle.pl_spec.specs.Rounding.{LIMIT, MILLION, div_round}
use Rattle.pl_grammar.specs.declared.Place.{Place}
use Rattle.pl_grammar.specs.declared.PrefixSign.{PrefixSign}
use Rattle.pl_grammar.specs.declared.PrefixSign.TheVariants.{Minus, Not}
use Rattle.pl_grammar.specs.declared.BinarySign.{BinarySign}
use Rattle.pl_grammar.specs.declared.BinarySign.TheVariants.{Or, And, Less, LessEqual, Greater, GreaterEqual, Equal, NotEqual, Add, Sub, Mul, Div}
use Rattle.pl_grammar.specs.Tree as t
use Rattle.pl_grammar.specs.Tree.{Lexeme, mark, Tree, number, text, name, call, prefix, binary, member, method, Args, no_args, arg, sign_token, prefix_level, left_level, right_level}
use Rattle.pl_grammar.specs.Printed.{here, tree_level, placed, name_tokens, tokens, args_tokens, more_tokens}
use Rattle.pl_grammar.specs.Script.{Head, LetHead, ColumnHead, ScreenHead, Statement, is_known}
use Rattle.pl_grammar.specs.Whole.{version_number, tree_passes, args_pass, name_passes, head_passes, head_tokens, statements_tokens, script_tokens, is_sound, are_sound}
use Rattle.pl_grammar.proofs.Scripts.{parts, version_cases}
use Rattle.pl_syntax.specs.Bytes.{Stops}
use Rattle.pl_spec.specs.Names.{is_digit, starts_word, is_word_byte, is_name}
use Rattle.pl_syntax.specs.Tokens.{NoDecimals, number_token}
use Rattle.pl_syntax.specs.Numerals.{number_text}
use Rattle.pl_syntax.specs.Sound.{is_number, is_written}
use Rattle.pl_syntax.proofs.Shows.{Shows, end_shows, pair_shows, word_shows, digit_shows, blank_shows, sign_shows, name_shows, text_shows, number_shows}
use Rattle.pl_syntax.specs.Canonical.{prefix_text, binary_text, placed_text, name_text, comma_text, in_parentheses, tree_text, list_text, head_text, statements_text, version_text, script_text}

-- what may follow an operand: nothing that a name or a number before it would take
abbrev Clear : List ℕ → Type 0
Clear rest = Stops is_word_byte rest × NoDecimals rest

no_point : (b : ℕ) → (b == 46) ≡ false → b ≡ 46 → ⊥
no_point b h e = grind (arith, nat_tests)

clear_at : (b : ℕ) (rest : List ℕ) → is_word_byte b ≡ false → is_digit b ≡ false → (b == 46) ≡ false → Clear (b ∷ rest)
clear_at b rest w d p = (w, (d, λ e. absurd (no_point b p e)))

letter_no_digit : (c : ℕ) → starts_word c ≡ true → is_digit c ≡ false
letter_no_digit c h = grind (arith, nat_tests)

letter_no_equals : (c : ℕ) → starts_word c ≡ true → (c == 61) ≡ false
letter_no_equals c h = grind (arith, nat_tests)

digit_no_equals : (c : ℕ) → digit_value c < 10 → (c == 61) ≡ false
digit_no_equals c h = let p = digit_from_value c h in grind (arith, nat_tests)

name_begins : (w rest : List ℕ) → is_name w ≡ true → Stops is_digit (w ++ rest)
name_begins [] rest h = cc
name_begins (c ∷ cs) rest h = letter_no_digit c (and_parts (starts_word c) _ (and_parts _ _ h).0).0

name_no_equals : (w rest : List ℕ) → is_name w ≡ true → Stops (λ b. b == 61) (w ++ rest)
name_no_equals [] rest h = cc
name_no_equals (c ∷ cs) rest h = letter_no_equals c (and_parts (starts_word c) _ (and_parts _ _ h).0).0

digits_no_equals : (ws rest : List ℕ) → 0 < length ws → AllDigits 10 ws → Stops (λ b. b == 61) (ws ++ rest)
digits_no_equals [] rest some h = absurd (omega arith)
digits_no_equals (c ∷ cs) rest some h = digit_no_equals c h.0

number_no_equals : (v : ℤ) (rest : List ℕ) → is_number v ≡ true → Stops (λ b. b == 61) (number_text v ++ rest)
unfolding number_text
number_no_equals (pos n) rest h =
    let low : n ≤ LIMIT = within n h in
    let whole = decimal_is_IsNumeral (n / MILLION) (omega arith) in
    subst (λ z. Stops (λ b. b == 61) z) (sym (append_assoc (decimal (n / MILLION)) _ rest)) (digits_no_equals (decimal (n / MILLION)) _ whole.0.0 whole.0.1)
  where
    within : (n : ℕ) → nat_le n LIMIT ≡ true → n ≤ LIMIT
    within n h = grind (arith, nat_tests)
number_no_equals (negsuc n) rest h = cc

placed_no_equals : (b : Bool) (xs ys rest : List ℕ) → ((x : List ℕ) → Stops (λ c. c == 61) (xs ++ x)) → Stops (λ c. c == 61) ((placed_text b xs ++ ys) ++ rest)
placed_no_equals true xs ys rest f = subst (λ z. Stops (λ c. c == 61) z) (sym (append_assoc (xs ++ []) ys rest ∙ append_assoc xs [] (ys ++ rest))) (f (ys ++ rest))
placed_no_equals false xs ys rest f = refl

-- no operand begins with `=`
tree_no_equals : (e : Tree) → tree_passes is_written e ≡ true → (rest : List ℕ) → Stops (λ b. b == 61) (tree_text e ++ rest)
unfolding tree_text tree_passes
tree_no_equals (number p v) h rest = number_no_equals v rest h
tree_no_equals (text p x) h rest = refl
tree_no_equals (name p n) h rest = name_no_equals n rest h
tree_no_equals (call p n ps) h rest = let a = and_parts (is_name n) _ h in subst (λ z. Stops (λ b. b == 61) z) (sym (append_assoc n (in_parentheses (list_text true ps)) rest)) (name_no_equals n _ a.0)
tree_no_equals (prefix p Minus e) h rest = refl
tree_no_equals (prefix p Not e) h rest = refl
tree_no_equals (binary p o a b) h rest = placed_no_equals _ (tree_text a) _ rest (tree_no_equals a (and_parts (tree_passes is_written a) _ h).0)
tree_no_equals (member p e n) h rest = placed_no_equals _ (tree_text e) _ rest (tree_no_equals e (and_parts (tree_passes is_written e) _ h).0)
tree_no_equals (method p e n ps) h rest = placed_no_equals _ (tree_text e) _ rest (tree_no_equals e (and_parts (tree_passes is_written e) _ h).0)

-- signs

operator_shows : (o : BinarySign) (rest : List ℕ) (us : List Lexeme) (p : Place) → Shows rest us → Shows (binary_text o ++ rest) (mark p (t.Operator o) ∷ us)
operator_shows LessEqual rest us p k = blank_shows 32 _ _ refl (pair_shows 60 (32 ∷ rest) us p refl (blank_shows 32 rest us refl k))
operator_shows Equal rest us p k = blank_shows 32 _ _ refl (pair_shows 61 (32 ∷ rest) us p refl (blank_shows 32 rest us refl k))
operator_shows GreaterEqual rest us p k = blank_shows 32 _ _ refl (pair_shows 62 (32 ∷ rest) us p refl (blank_shows 32 rest us refl k))
operator_shows NotEqual rest us p k = blank_shows 32 _ _ refl (pair_shows 33 (32 ∷ rest) us p refl (blank_shows 32 rest us refl k))
operator_shows o rest us p k = blank_shows 32 _ _ refl (sign_shows _ (32 ∷ rest) us p refl (λ m. refl) (blank_shows 32 rest us refl k))

plain_sign : (rest : List ℕ) → false ≡ true → Stops (λ b. b == 61) rest
plain_sign rest h = cc

open_shows : (rest : List ℕ) (us : List Lexeme) → Shows rest us → Shows (40 ∷ rest) (here t.Open ∷ us)
open_shows rest us k = sign_shows 40 rest us _ refl (plain_sign rest) k

close_shows : (rest : List ℕ) (us : List Lexeme) → Shows rest us → Shows (41 ∷ rest) (here t.Close ∷ us)
close_shows rest us k = sign_shows 41 rest us _ refl (plain_sign rest) k

prefix_shows : (s : PrefixSign) (rest : List ℕ) (us : List Lexeme) (p : Place) → Shows rest us → Shows (prefix_text s ++ rest) (mark p (sign_token s) ∷ us)
prefix_shows Minus rest us p k = sign_shows 45 rest us p refl (plain_sign rest) k
prefix_shows Not rest us p k = sign_shows 126 rest us p refl (plain_sign rest) k

regroup : (bs cs : List ℕ) (us vs : List Lexeme) → bs ≡ cs → us ≡ vs → Shows cs vs → Shows bs us
regroup bs cs us vs e f k = subst (λ z. Shows z us) (sym e) (subst (λ z. Shows cs z) (sym f) k)

-- an operand is shown before what may follow it
abbrev Operand : List ℕ → List Lexeme → Type 0
Operand xs ts = (rest : List ℕ) (us : List Lexeme) → Clear rest → Shows rest us → Shows (xs ++ rest) (ts ++ us)

-- what stands in parentheses
parens_show : (xs : List ℕ) (ts : List Lexeme) → Operand xs ts → (rest : List ℕ) (us : List Lexeme) → Shows rest us → Shows (in_parentheses xs ++ rest) ((here t.Open ∷ (ts ++ (here t.Close ∷ []))) ++ us)
parens_show xs ts f rest us k =
    regroup (40 ∷ ((xs ++ (41 ∷ [])) ++ rest)) (40 ∷ (xs ++ (41 ∷ rest))) (here t.Open ∷ ((ts ++ (here t.Close ∷ [])) ++ us)) (here t.Open ∷ (ts ++ (here t.Close ∷ us)))
    (ap (λ z. 40 ∷ z) (append_assoc xs (41 ∷ []) rest)) (ap (λ z. here t.Open ∷ z) (append_assoc ts (here t.Close ∷ []) us))
    (open_shows (xs ++ (41 ∷ rest)) (ts ++ (here t.Close ∷ us)) (f (41 ∷ rest) (here t.Close ∷ us) (clear_at 41 rest refl refl refl) (close_shows rest us k)))

placed_shows : (b : Bool) (xs : List ℕ) (ts : List Lexeme) → Operand xs ts → Operand (placed_text b xs) (placed b ts)
placed_shows true xs ts f rest us c k = regroup ((xs ++ []) ++ rest) (xs ++ rest) (ts ++ us) (ts ++ us) (ap (λ z. z ++ rest) (append-nil xs)) refl (f rest us c k)
placed_shows false xs ts f rest us c k = parens_show xs ts f rest us k

-- the tokens of arguments, the first of them or more after a comma
abbrev list_tokens : Bool → Args → List Lexeme
list_tokens true ps = args_tokens ps
list_tokens false ps = more_tokens ps

clear_more : (ps : Args) (rest : List ℕ) → Clear rest → Clear (list_text false ps ++ rest)
unfolding list_text
clear_more no_args rest c = c
clear_more (arg n e ps) rest c = clear_at 44 (32 ∷ ((name_text n ++ (tree_text e ++ list_text false ps)) ++ rest)) refl refl refl

named_shows : (n : Option (List ℕ)) (xs : List ℕ) (ts : List Lexeme) → name_passes is_written n ≡ true → ((rest : List ℕ) → Stops (λ b. b == 61) (xs ++ rest)) → Operand xs ts → Operand (name_text n ++ xs) (name_tokens n ++ ts)
named_shows None xs ts h s f rest us c k = f rest us c k
named_shows (Some n) xs ts h s f rest us c k =
    regroup (((n ++ (61 ∷ [])) ++ xs) ++ rest) (n ++ (61 ∷ (xs ++ rest))) _ _
    (append_assoc (n ++ (61 ∷ [])) xs rest ∙ append_assoc n (61 ∷ []) (xs ++ rest)) refl
    (name_shows n (61 ∷ (xs ++ rest)) (here t.Assign ∷ (ts ++ us)) _ h refl (sign_shows 61 (xs ++ rest) (ts ++ us) _ refl (λ m. s rest) (f rest us c k)))

comma_shows : (first : Bool) (rest : List ℕ) (us : List Lexeme) → Shows rest us → Shows (comma_text first ++ rest) (cond first us (here t.Comma ∷ us))
comma_shows true rest us k = k
comma_shows false rest us k = sign_shows 44 (32 ∷ rest) us _ refl (plain_sign (32 ∷ rest)) (blank_shows 32 rest us refl k)

-- a member's name after its dot
dot_shows : (n rest : List ℕ) (us : List Lexeme) (p : Place) → is_name n ≡ true → Stops is_word_byte rest → Shows rest us → Shows (46 ∷ (n ++ rest)) (here t.Dot ∷ (mark p (t.Name n) ∷ us))
dot_shows n rest us p h s k = sign_shows 46 (n ++ rest) _ _ refl (plain_sign (n ++ rest)) (name_shows n rest us p h s k)

clear_dot : (n rest : List ℕ) → is_name n ≡ true → Clear (46 ∷ (n ++ rest))
clear_dot n rest h = (refl, (refl, λ e. name_begins n rest h))

member_shows : (xs : List ℕ) (ts : List Lexeme) (p : Place) (n : List ℕ) → Operand xs ts → is_name n ≡ true → Operand (xs ++ (codes "." ++ n)) (ts ++ (here t.Dot ∷ (mark p (t.Name n) ∷ [])))
member_shows xs ts p n f h rest us c k =
    regroup ((xs ++ (46 ∷ n)) ++ rest) (xs ++ (46 ∷ (n ++ rest))) ((ts ++ (here t.Dot ∷ (mark p (t.Name n) ∷ []))) ++ us) (ts ++ (here t.Dot ∷ (mark p (t.Name n) ∷ us)))
    (append_assoc xs (46 ∷ n) rest) (append_assoc ts (here t.Dot ∷ (mark p (t.Name n) ∷ [])) us)
    (f (46 ∷ (n ++ rest)) (here t.Dot ∷ (mark p (t.Name n) ∷ us)) (clear_dot n rest h) (dot_shows n rest us p h c.0 k))

method_shows : (xs ys : List ℕ) (ts vs : List Lexeme) (p : Place) (n : List ℕ) → Operand xs ts → is_name n ≡ true → Operand ys vs → Operand (xs ++ (codes "." ++ (n ++ in_parentheses ys))) (ts ++ (here t.Dot ∷ (mark p (t.Name n) ∷ (here t.Open ∷ (vs ++ (here t.Close ∷ []))))))
method_shows xs ys ts vs p n f h g rest us c k =
    let parens = in_parentheses ys in
    let bs : List Lexeme = here t.Open ∷ (vs ++ (here t.Close ∷ [])) in
    regroup ((xs ++ (46 ∷ (n ++ parens))) ++ rest) (xs ++ (46 ∷ (n ++ (parens ++ rest)))) ((ts ++ (here t.Dot ∷ (mark p (t.Name n) ∷ bs))) ++ us) (ts ++ (here t.Dot ∷ (mark p (t.Name n) ∷ (bs ++ us))))
    (append_assoc xs (46 ∷ (n ++ parens)) rest ∙ ap (λ z. xs ++ (46 ∷ z)) (append_assoc n parens rest)) (append_assoc ts (here t.Dot ∷ (mark p (t.Name n) ∷ bs)) us)
    (f (46 ∷ (n ++ (parens ++ rest))) (here t.Dot ∷ (mark p (t.Name n) ∷ (bs ++ us))) (clear_dot n (parens ++ rest) h) (dot_shows n (parens ++ rest) (bs ++ us) p h refl (parens_show ys vs g rest us k)))

binary_shows : (o : BinarySign) (p : Place) (xs ys : List ℕ) (ts vs : List Lexeme) → Operand xs ts → Operand ys vs → Operand (xs ++ (binary_text o ++ ys)) (ts ++ (mark p (t.Operator o) ∷ vs))
binary_shows o p xs ys ts vs f g rest us c k =
    regroup ((xs ++ (binary_text o ++ ys)) ++ rest) (xs ++ (binary_text o ++ (ys ++ rest))) ((ts ++ (mark p (t.Operator o) ∷ vs)) ++ us) (ts ++ (mark p (t.Operator o) ∷ (vs ++ us)))
    (append_assoc xs (binary_text o ++ ys) rest ∙ ap (λ z. xs ++ z) (append_assoc (binary_text o) ys rest)) (append_assoc ts (mark p (t.Operator o) ∷ vs) us)
    (f (binary_text o ++ (ys ++ rest)) (mark p (t.Operator o) ∷ (vs ++ us)) (blank_first o (ys ++ rest)) (operator_shows o (ys ++ rest) (vs ++ us) p (g rest us c k)))
  where
    blank_first : (o : BinarySign) (x : List ℕ) → Clear (binary_text o ++ x)
    blank_first Or x = (refl, (refl, λ e. absurd (no_point 32 refl e)))
    blank_first o x = (refl, (refl, λ e. absurd (no_point 32 refl e)))

prefixed_shows : (s : PrefixSign) (p : Place) (xs : List ℕ) (ts : List Lexeme) → Operand xs ts → Operand (prefix_text s ++ xs) (mark p (sign_token s) ∷ ts)
prefixed_shows s p xs ts f rest us c k = regroup ((prefix_text s ++ xs) ++ rest) (prefix_text s ++ (xs ++ rest)) _ _ (append_assoc (prefix_text s) xs rest) refl (prefix_shows s (xs ++ rest) (ts ++ us) p (f rest us c k))

call_shows : (p : Place) (n ys : List ℕ) (vs : List Lexeme) → is_name n ≡ true → Operand ys vs → Operand (n ++ in_parentheses ys) (mark p (t.Name n) ∷ (here t.Open ∷ (vs ++ (here t.Close ∷ []))))
call_shows p n ys vs h g rest us c k = regroup ((n ++ in_parentheses ys) ++ rest) (n ++ (in_parentheses ys ++ rest)) _ _ (append_assoc n (in_parentheses ys) rest) refl (name_shows n (in_parentheses ys ++ rest) _ p h refl (parens_show ys vs g rest us k))

quoted_shows : (p : Place) (x : List ℕ) → is_written (t.Text x) ≡ true → Operand (codes "\"" ++ (x ++ codes "\"")) (mark p (t.Text x) ∷ [])
quoted_shows p x h rest us c k = regroup (34 ∷ ((x ++ (34 ∷ [])) ++ rest)) (34 ∷ (x ++ (34 ∷ rest))) _ _ (ap (λ z. 34 ∷ z) (append_assoc x (34 ∷ []) rest)) refl (text_shows x rest us p h k)

args_show : (first : Bool) (n : Option (List ℕ)) (xs ms : List ℕ) (ts vs : List Lexeme) → ((rest : List ℕ) → Clear rest → Clear (ms ++ rest)) → Operand (name_text n ++ xs) (name_tokens n ++ ts) → Operand ms vs → Operand (comma_text first ++ (name_text n ++ (xs ++ ms))) (cond first ((name_tokens n ++ ts) ++ vs) (here t.Comma ∷ ((name_tokens n ++ ts) ++ vs)))
args_show first n xs ms ts vs clear f g rest us c k =
    regroup ((comma_text first ++ (name_text n ++ (xs ++ ms))) ++ rest) (comma_text first ++ ((name_text n ++ xs) ++ (ms ++ rest))) _ (cond first ((name_tokens n ++ ts) ++ (vs ++ us)) (here t.Comma ∷ ((name_tokens n ++ ts) ++ (vs ++ us))))
    (texts (comma_text first) (name_text n) xs ms rest) (marks first (name_tokens n ++ ts) vs us)
    (comma_shows first ((name_text n ++ xs) ++ (ms ++ rest)) ((name_tokens n ++ ts) ++ (vs ++ us)) (f (ms ++ rest) (vs ++ us) (clear rest c) (g rest us c k)))
  where
    texts : (a b c d r : List ℕ) → (a ++ (b ++ (c ++ d))) ++ r ≡ a ++ ((b ++ c) ++ (d ++ r))
    texts a b c d r = simp append_assoc refl

    marks : (first : Bool) (a b u : List Lexeme) → cond first (a ++ b) (here t.Comma ∷ (a ++ b)) ++ u ≡ cond first (a ++ (b ++ u)) (here t.Comma ∷ (a ++ (b ++ u)))
    marks true a b u = append_assoc a b u
    marks false a b u = ap (λ z. here t.Comma ∷ z) (append_assoc a b u)

mutual
  unfolding tree_text list_text tokens args_tokens more_tokens tree_passes args_pass

  tree_shows : (e : Tree) → tree_passes is_written e ≡ true → Operand (tree_text e) (tokens e)
  tree_shows (number p v) h = λ rest us c k. number_shows v rest us p h c.1 k
  tree_shows (text p x) h = quoted_shows p x h
  tree_shows (name p n) h = λ rest us c k. name_shows n rest us p h c.0 k
  tree_shows (call p n ps) h = let a = and_parts (is_name n) _ h in call_shows p n (list_text true ps) (args_tokens ps) a.0 (list_shows true ps a.1)
  tree_shows (prefix p s e) h = prefixed_shows s p _ _ (placed_shows (leb (prefix_level s) (tree_level e)) (tree_text e) (tokens e) (tree_shows e h))
  tree_shows (binary p o a b) h =
      let x = and_parts (tree_passes is_written a) (tree_passes is_written b) h in
      binary_shows o p _ _ _ _ (placed_shows (leb (left_level o) (tree_level a)) (tree_text a) (tokens a) (tree_shows a x.0)) (placed_shows (leb (right_level o) (tree_level b)) (tree_text b) (tokens b) (tree_shows b x.1))
  tree_shows (member p e n) h =
      let x = and_parts (tree_passes is_written e) (is_name n) h in
      member_shows _ _ p n (placed_shows (leb 8 (tree_level e)) (tree_text e) (tokens e) (tree_shows e x.0)) x.1
  tree_shows (method p e n ps) h =
      let x = and_parts (tree_passes is_written e) _ h in
      let y = and_parts (is_name n) _ x.1 in
      method_shows _ (list_text true ps) _ (args_tokens ps) p n (placed_shows (leb 8 (tree_level e)) (tree_text e) (tokens e) (tree_shows e x.0)) y.0 (list_shows true ps y.1)

  list_shows : (first : Bool) (ps : Args) → args_pass is_written ps ≡ true → Operand (list_text first ps) (list_tokens first ps)
  list_shows true no_args h = λ rest us c k. k
  list_shows false no_args h = λ rest us c k. k
  list_shows true (arg n e ps) h =
      let x = and_parts (name_passes is_written n) _ h in
      let y = and_parts (tree_passes is_written e) _ x.1 in
      args_show true n (tree_text e) (list_text false ps) (tokens e) (more_tokens ps) (clear_more ps) (named_shows n (tree_text e) (tokens e) x.0 (tree_no_equals e y.0) (tree_shows e y.0)) (list_shows false ps y.1)
  list_shows false (arg n e ps) h =
      let x = and_parts (name_passes is_written n) _ h in
      let y = and_parts (tree_passes is_written e) _ x.1 in
      args_show false n (tree_text e) (list_text false ps) (tokens e) (more_tokens ps) (clear_more ps) (named_shows n (tree_text e) (tokens e) x.0 (tree_no_equals e y.0) (tree_shows e y.0)) (list_shows false ps y.1)

-- statements and scripts

head_shows : (h : Head) → head_passes is_written h ≡ true → (rest : List ℕ) (us : List Lexeme) → Shows rest us → Shows (head_text h ++ rest) (head_tokens h ++ us)
head_shows (LetHead p n) h rest us k =
    regroup (codes "let " ++ (n ++ codes " = ") ++ rest) (codes "let" ++ (32 ∷ (n ++ (32 ∷ (61 ∷ (32 ∷ rest)))))) _ _ (append_assoc (codes "let ") (n ++ codes " = ") rest ∙ ap (λ z. codes "let " ++ z) (append_assoc n (codes " = ") rest)) refl
    (word_shows 108 (101 ∷ (116 ∷ [])) (32 ∷ (n ++ (32 ∷ (61 ∷ (32 ∷ rest))))) _ _ t.LetWord refl refl (omega arith) refl refl (blank_shows 32 _ _ refl (name_shows n (32 ∷ (61 ∷ (32 ∷ rest))) _ p h refl (blank_shows 32 _ _ refl (sign_shows 61 (32 ∷ rest) us _ refl (λ m. refl) (blank_shows 32 rest us refl k))))))
head_shows (ColumnHead p n) h rest us k =
    regroup (codes "column " ++ (n ++ codes " = ") ++ rest) (codes "column" ++ (32 ∷ (n ++ (32 ∷ (61 ∷ (32 ∷ rest)))))) _ _ (append_assoc (codes "column ") (n ++ codes " = ") rest ∙ ap (λ z. codes "column " ++ z) (append_assoc n (codes " = ") rest)) refl
    (word_shows 99 (codes "olumn") (32 ∷ (n ++ (32 ∷ (61 ∷ (32 ∷ rest))))) _ _ t.ColumnWord refl refl (omega arith) refl refl (blank_shows 32 _ _ refl (name_shows n (32 ∷ (61 ∷ (32 ∷ rest))) _ p h refl (blank_shows 32 _ _ refl (sign_shows 61 (32 ∷ rest) us _ refl (λ m. refl) (blank_shows 32 rest us refl k))))))
head_shows (ScreenHead p) h rest us k =
    word_shows 115 (codes "creen") (32 ∷ rest) us p t.ScreenWord refl refl (omega arith) refl refl (blank_shows 32 rest us refl k)

statements_show : (ss : List Statement) → are_sound is_written ss ≡ true → Shows (statements_text ss) (statements_tokens ss)
unfolding are_sound statements_text statements_tokens
statements_show [] h = end_shows
statements_show (s ∷ ss) h =
    let a = and_parts (is_sound is_written s) (are_sound is_written ss) h in
    let x = parts is_written s a.0 in
    let rest = statements_text ss in
    let us = statements_tokens ss in
    regroup ((head_text s.head ++ (tree_text s.tree ++ codes ";\n")) ++ rest) (head_text s.head ++ (tree_text s.tree ++ (59 ∷ (10 ∷ rest)))) _ _
    (append_assoc (head_text s.head) (tree_text s.tree ++ codes ";\n") rest ∙ ap (λ z. head_text s.head ++ z) (append_assoc (tree_text s.tree) (codes ";\n") rest)) refl
    (head_shows s.head x.head (tree_text s.tree ++ (59 ∷ (10 ∷ rest))) (tokens s.tree ++ (here t.Semicolon ∷ us))
    (tree_shows s.tree x.tree (59 ∷ (10 ∷ rest)) (here t.Semicolon ∷ us) (clear_at 59 (10 ∷ rest) refl refl refl)
    (sign_shows 59 (10 ∷ rest) us _ refl (plain_sign (10 ∷ rest)) (blank_shows 10 rest us refl (statements_show ss a.1)))))

number_line : (n : ℕ) → is_known n ≡ true → (rest : List ℕ) (us : List Lexeme) (p : Place) → NoDecimals rest → Shows rest us → Shows (decimal n ++ rest) (mark p (t.Number (version_number n)) ∷ us)
unfolding div_round
number_line n h rest us p s k = elim (version_cases n h) [
  | inl e ↦ at 1 (omega arith) refl refl e
  | inr f ↦ elim f [ inl e ↦ at 2 (omega arith) refl refl e | inr g ↦ elim g [ inl e ↦ at 3 (omega arith) refl refl e | inr e ↦ at 4 (omega arith) refl refl e ] ]
]
  where
    at : (m : ℕ) → m < 10 → is_digit (48 + m) ≡ true → number_token ((48 + m) ∷ []) [] ≡ t.Number (version_number m) → n ≡ m → Shows (decimal n ++ rest) (mark p (t.Number (version_number n)) ∷ us)
    at m low d v e =
        subst (λ x. Shows (decimal x ++ rest) (mark p (t.Number (version_number x)) ∷ us)) (sym e)
        (subst (λ ds. Shows (ds ++ rest) (mark p (t.Number (version_number m)) ∷ us)) (sym (decimal_digit m low)) (digit_shows (48 + m) _ rest us p d v s k))

pub script_shows : (n : ℕ) (ss : List Statement) → is_known n ≡ true → are_sound is_written ss ≡ true → Shows (script_text n ss) (script_tokens n ss)
unfolding script_tokens script_text version_text
script_shows n ss known h =
    let rest = statements_text ss in
    let us = statements_tokens ss in
    regroup ((codes "pipeline " ++ (decimal n ++ codes ";\n")) ++ rest) (codes "pipeline" ++ (32 ∷ (decimal n ++ (59 ∷ (10 ∷ rest))))) _ _
    (append_assoc (codes "pipeline ") (decimal n ++ codes ";\n") rest ∙ ap (λ z. codes "pipeline " ++ z) (append_assoc (decimal n) (codes ";\n") rest)) refl
    (word_shows 112 (codes "ipeline") (32 ∷ (decimal n ++ (59 ∷ (10 ∷ rest)))) _ _ t.PipelineWord refl refl (omega arith) refl refl
    (blank_shows 32 _ _ refl (number_line n known (59 ∷ (10 ∷ rest)) (here t.Semicolon ∷ us) _ (clear_at 59 (10 ∷ rest) refl refl refl).1
    (sign_shows 59 (10 ∷ rest) us _ refl (plain_sign (10 ∷ rest)) (blank_shows 10 rest us refl (statements_show ss h))))))

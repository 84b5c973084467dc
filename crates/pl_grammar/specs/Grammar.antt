-- The grammar's rules by cases.
use Rattle.std.specs.Prelude.{ℕ, suc, ◌≤◌, ℤ, List, [], ◌∷◌, ◌++◌, Option, Some, None}
use Rattle.pl_grammar.specs.declared.Place.{Place}
use Rattle.pl_grammar.specs.declared.PrefixSign.{PrefixSign}
use Rattle.pl_grammar.specs.declared.BinarySign.{BinarySign}
use Rattle.pl_grammar.specs.Tree.{Name, Number, Text, Operator, Dot, Open, Close, Comma, Assign, Lexeme, mark, Tree, number, text, name, call, prefix, binary, member, method, Args, no_args, arg, sign_token, prefix_level, level, left_level, right_level}

-- Derives d l ts e: the tokens spell e where an operand of level l or above is asked, and open at most d
-- constructs inside one another. ArgsDerive d ts ps: they are what stands between a call's parentheses;
-- OneArg is an argument, and MoreArgs are arguments that each begin with a comma.
mutual
  pub data Derives : ℕ → ℕ → List Lexeme → Tree → Type 0 where
    a_number : {d l : ℕ} {p : Place} {v : ℤ} → l ≤ 9 → Derives d l (mark p (Number v) ∷ []) (number p v)
    a_text : {d l : ℕ} {p : Place} {t : List ℕ} → l ≤ 9 → Derives d l (mark p (Text t) ∷ []) (text p t)
    a_name : {d l : ℕ} {p : Place} {n : List ℕ} → l ≤ 9 → Derives d l (mark p (Name n) ∷ []) (name p n)
    a_call : {d l : ℕ} {p q : Place} (r : Place) {n : List ℕ} {ts : List Lexeme} {ps : Args} → l ≤ 9
        → ArgsDerive d ts ps
        → Derives (suc d) l (mark p (Name n) ∷ (mark q Open ∷ (ts ++ (mark r Close ∷ [])))) (call p n ps)
    a_group : {d l : ℕ} {q : Place} (r : Place) {ts : List Lexeme} {e : Tree} → l ≤ 9 → Derives d 1 ts e
        → Derives (suc d) l (mark q Open ∷ (ts ++ (mark r Close ∷ []))) e
    a_prefix : {d l : ℕ} {p : Place} {ts : List Lexeme} {e : Tree} (s : PrefixSign) → l ≤ prefix_level s
        → Derives d (prefix_level s) ts e → Derives (suc d) l (mark p (sign_token s) ∷ ts) (prefix p s e)
    a_binary : {d l : ℕ} {p : Place} {xs ys : List Lexeme} {a b : Tree} (o : BinarySign) → l ≤ level o
        → Derives d (left_level o) xs a → Derives d (right_level o) ys b
        → Derives d l (xs ++ (mark p (Operator o) ∷ ys)) (binary p o a b)
    a_member : {d l : ℕ} {p : Place} (q : Place) {n : List ℕ} {ts : List Lexeme} {e : Tree} → l ≤ 8
        → Derives d 8 ts e → Derives d l (ts ++ (mark q Dot ∷ (mark p (Name n) ∷ []))) (member p e n)
    a_method : {d l : ℕ} {p : Place} (q r t : Place) {n : List ℕ} {ts us : List Lexeme} {e : Tree} {ps : Args}
        → l ≤ 8 → Derives (suc d) 8 ts e → ArgsDerive d us ps
        → Derives (suc d) l
        (ts ++ (mark q Dot ∷ (mark p (Name n) ∷ (mark r Open ∷ (us ++ (mark t Close ∷ []))))))
        (method p e n ps)

  pub data ArgsDerive : ℕ → List Lexeme → Args → Type 0 where
    none : {d : ℕ} → ArgsDerive d [] no_args
    some : {d : ℕ} {ts us : List Lexeme} {n : Option (List ℕ)} {e : Tree} {ps : Args} → OneArg d ts n e
        → MoreArgs d us ps → ArgsDerive d (ts ++ us) (arg n e ps)

  pub data OneArg : ℕ → List Lexeme → Option (List ℕ) → Tree → Type 0 where
    bare : {d : ℕ} {ts : List Lexeme} {e : Tree} → Derives d 1 ts e → OneArg d ts None e
    named : {d : ℕ} {p q : Place} {n : List ℕ} {ts : List Lexeme} {e : Tree} → Derives d 1 ts e
        → OneArg d (mark p (Name n) ∷ (mark q Assign ∷ ts)) (Some n) e

  pub data MoreArgs : ℕ → List Lexeme → Args → Type 0 where
    end : {d : ℕ} → MoreArgs d [] no_args
    more : {d : ℕ} {p : Place} {ts us : List Lexeme} {n : Option (List ℕ)} {e : Tree} {ps : Args}
        → OneArg d ts n e → MoreArgs d us ps → MoreArgs d (mark p Comma ∷ (ts ++ us)) (arg n e ps)

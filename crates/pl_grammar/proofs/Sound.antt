-- What the machine reads, the grammar derives.
use Rattle.std.proofs.Common.{◌≡◌, ℕ, zero, suc, ◌+◌, ◌≤◌, ◌<◌, Bool, true, false, cond, leb, List, [], ◌∷◌, ◌++◌, Option, Some, None, refl, sym, ap, subst, ◌∙◌, arith, append_assoc, append-nil, leb-false}
use Rattle.std.specs.Option.{IfSome}
use Rattle.std.proofs.lemmas.Bool.{leb-true}
use Rattle.pl_grammar.specs.declared.Place.{Place}
use Rattle.pl_grammar.specs.declared.PrefixSign.{PrefixSign}
use Rattle.pl_grammar.specs.declared.BinarySign.{BinarySign}
use Rattle.pl_grammar.specs.declared.PrefixSign.TheVariants.{Minus, Not}
use Rattle.pl_grammar.specs.declared.BinarySign.TheVariants.{Sub}
use Rattle.pl_grammar.specs.Tree.{Name, Number, Text, Operator, Tilde, Dot, Open, Close, Comma, Assign, Lexeme, mark, Tree, number, text, prefix, binary, method, sign_token, prefix_level, level, left_level, right_level}
use Rattle.pl_grammar.specs.Grammar.{Derives, a_number, a_text, a_name, a_call, a_group, a_prefix, a_binary, a_member, a_method, ArgsDerive, none, some, OneArg, bare, named, MoreArgs, end, more}
use Rattle.pl_grammar.specs.Machine.{Frame, Prefixed, Behind, Group, Call, Mode, Wanted, ArgWanted, Named, ArgNamed, Membered, Given, Dotted, State, Closed, Arg, Callee, function, method_of, operand, is_wanted, callee, args_of, applied, asked, depth, close, move, literal, named_move, sign_move, minus_move, operator_move, dot_move, open_move, close_move, comma_move, assign_move, shut, shut_empty, next_arg}
use Rattle.pl_grammar.proofs.Levels.{levels, prefix_most}

pub weaken : {d k : ℕ} {ts : List Lexeme} {e : Tree} → Derives d k ts e → (l : ℕ) → l ≤ k → Derives d l ts e
weaken (a_number p) l h = a_number (omega arith)
weaken (a_text p) l h = a_text (omega arith)
weaken (a_name p) l h = a_name (omega arith)
weaken (a_call r p i) l h = a_call r (omega arith) i
weaken (a_group r p i) l h = a_group r (omega arith) i
weaken (a_prefix s p i) l h = a_prefix s (omega arith) i
weaken (a_binary o p i j) l h = a_binary o (omega arith) i j
weaken (a_member q p i) l h = a_member q (omega arith) i
weaken (a_method q r t p i j) l h = a_method q r t (omega arith) i j

pub asked_most : (fs : List Frame) → asked fs ≤ 7
asked_most [] = omega arith
asked_most (Prefixed p s ∷ fs) = prefix_most s
asked_most (Behind p o a ∷ fs) = (levels o).most
asked_most (Group ∷ fs) = omega arith
asked_most (Call c ps n ∷ fs) = omega arith

-- the tokens that a callee, the arguments before this one, and its name were read from
pub data CalleeRead : ℕ → List Lexeme → Callee → Type 0 where
  function_read : {d : ℕ} {p : Place} {n : List ℕ} → CalleeRead d (mark p (Name n) ∷ []) (function p n)
  method_read : {d : ℕ} (q : Place) {p : Place} {n : List ℕ} {ts : List Lexeme} {e : Tree} → Derives d 8 ts e → CalleeRead d (ts ++ (mark q Dot ∷ (mark p (Name n) ∷ []))) (method_of p e n)

pub data ArgsRead : ℕ → List Lexeme → List Arg → Type 0 where
  no_arg_read : {d : ℕ} → ArgsRead d [] []
  arg_read : {d : ℕ} (q : Place) {us ts : List Lexeme} {acc : List Arg} {n : Option (List ℕ)} {e : Tree} → ArgsRead d us acc → OneArg d ts n e → ArgsRead d (us ++ (ts ++ (mark q Comma ∷ []))) (acc ++ (record { name = n; tree = e } ∷ []))

pub data NameRead : List Lexeme → Option (List ℕ) → Type 0 where
  no_name_read : NameRead [] None
  name_read : {p q : Place} {n : List ℕ} → NameRead (mark p (Name n) ∷ (mark q Assign ∷ [])) (Some n)

-- the tokens that open the frames; d more constructs may be opened
pub data Opens (most : ℕ) : ℕ → List Frame → List Lexeme → Type 0 where
  opens_nothing : {d : ℕ} {us : List Lexeme} → d ≡ most → us ≡ [] → Opens most d [] us
  opens_prefix : {d : ℕ} {p : Place} {fs : List Frame} {ts us : List Lexeme} (s : PrefixSign) → Opens most (suc d) fs ts → asked fs ≤ prefix_level s → us ≡ ts ++ (mark p (sign_token s) ∷ []) → Opens most d (Prefixed p s ∷ fs) us
  opens_behind : {d : ℕ} {p : Place} {fs : List Frame} {ts xs us : List Lexeme} {a : Tree} (o : BinarySign) → Opens most d fs ts → Derives d (left_level o) xs a → asked fs ≤ level o → us ≡ ts ++ (xs ++ (mark p (Operator o) ∷ [])) → Opens most d (Behind p o a ∷ fs) us
  opens_group : {d : ℕ} (q : Place) {fs : List Frame} {ts us : List Lexeme} → Opens most (suc d) fs ts → us ≡ ts ++ (mark q Open ∷ []) → Opens most d (Group ∷ fs) us
  opens_call : {d : ℕ} (q : Place) {fs : List Frame} {ts cs vs ns us : List Lexeme} {c : Callee} {acc : List Arg} {n : Option (List ℕ)} → Opens most (suc d) fs ts → CalleeRead (suc d) cs c → ArgsRead d vs acc → NameRead ns n → us ≡ ts ++ (cs ++ (mark q Open ∷ (vs ++ ns))) → Opens most d (Call c acc n ∷ fs) us

-- the tokens that the machine read
pub data Has (most : ℕ) : Mode → List Frame → List Lexeme → Type 0 where
  has_wanted : {d : ℕ} {fs : List Frame} {us : List Lexeme} → Opens most d fs us → Has most Wanted fs us
  has_arg_wanted : {d : ℕ} {fs : List Frame} {c : Callee} {acc : List Arg} {us : List Lexeme} → Opens most d (Call c acc None ∷ fs) us → Has most ArgWanted (Call c acc None ∷ fs) us
  has_named : {d : ℕ} {p : Place} {fs : List Frame} {n : List ℕ} {ts us : List Lexeme} → Opens most d fs ts → us ≡ ts ++ (mark p (Name n) ∷ []) → Has most (Named p n) fs us
  has_arg_named : {d : ℕ} {p : Place} {fs : List Frame} {n : List ℕ} {c : Callee} {acc : List Arg} {ts us : List Lexeme} → Opens most d (Call c acc None ∷ fs) ts → us ≡ ts ++ (mark p (Name n) ∷ []) → Has most (ArgNamed p n) (Call c acc None ∷ fs) us
  has_member : {d : ℕ} {p : Place} (q : Place) {fs : List Frame} {n : List ℕ} {e : Tree} {ts xs us : List Lexeme} → Opens most d fs ts → Derives d 8 xs e → us ≡ ts ++ (xs ++ (mark q Dot ∷ (mark p (Name n) ∷ []))) → Has most (Membered p e n) fs us
  has_given : {d : ℕ} {fs : List Frame} {e : Tree} {ts xs us : List Lexeme} → Opens most d fs ts → Derives d 8 xs e → us ≡ ts ++ xs → Has most (Given e) fs us
  has_dotted : {d : ℕ} (q : Place) {fs : List Frame} {e : Tree} {ts xs us : List Lexeme} → Opens most d fs ts → Derives d 8 xs e → us ≡ ts ++ (xs ++ (mark q Dot ∷ [])) → Has most (Dotted e) fs us

-- how many may still be opened
pub budget : {most d : ℕ} {fs : List Frame} {us : List Lexeme} → Opens most d fs us → d + depth fs ≡ most
budget (opens_nothing h e) = omega arith
budget (opens_prefix s o p e) = omega (arith, budget o)
budget (opens_behind s o x p e) = budget o
budget (opens_group q o e) = omega (arith, budget o)
budget (opens_call q o c v n e) = omega (arith, budget o)

-- what closing leaves
abbrev pub Stopped : ℕ → List Frame → Type 0
Stopped m [] = Unit {0}
Stopped m (Prefixed p s ∷ fs) = prefix_level s < m
Stopped m (Behind p o a ∷ fs) = level o < m
Stopped m (Group ∷ fs) = Unit {0}
Stopped m (Call c ps n ∷ fs) = Unit {0}

pub record HasClosed (most m : ℕ) (c : Closed) (us : List Lexeme) : Type 0 where
  pub spare : ℕ
  pub before : List Lexeme
  pub own : List Lexeme
  pub opens : Opens most spare c.frames before
  pub derives : Derives spare c.height own c.tree
  pub whole : us ≡ before ++ own
  pub fits : asked c.frames ≤ c.height
  pub stopped : Stopped m c.frames

cond_has : {most m : ℕ} {x y : Closed} {us : List Lexeme} (b : Bool) → (b ≡ true → HasClosed most m x us) → (b ≡ false → HasClosed most m y us) → HasClosed most m (cond b x y) us
cond_has true h k = h refl
cond_has false h k = k refl

pub close_has : {most d : ℕ} {fs : List Frame} {ts : List Lexeme} → Opens most d fs ts → (m h : ℕ) (e : Tree) (xs us : List Lexeme) → Derives d h xs e → asked fs ≤ h → us ≡ ts ++ xs → HasClosed most m (close m h e fs) us
close_has {d = d} {ts = ts} (opens_nothing p q) m h e xs us x fits whole =
    record { spare = d; before = ts; own = xs; opens = opens_nothing p q; derives = x; whole = whole; fits = fits; stopped = tt }
close_has {d = d} {ts = vs} (opens_prefix {p = z} {ts = ts} s o p q) m h e xs us x fits whole =
    cond_has (leb m (prefix_level s))
    (λ t. close_has o m (prefix_level s) (prefix z s e) (mark z (sign_token s) ∷ xs) us (a_prefix s (omega arith) (weaken x (prefix_level s) fits)) p (whole ∙ (ap (λ z. z ++ xs) q ∙ append_assoc ts (mark z (sign_token s) ∷ []) xs)))
    (λ t. record { spare = d; before = vs; own = xs; opens = opens_prefix s o p q; derives = x; whole = whole; fits = fits; stopped = leb-false m (prefix_level s) t })
close_has {d = d} {ts = vs} (opens_behind {p = z} {ts = ts} {xs = ls} {a = a} s o l p q) m h e xs us x fits whole =
    cond_has (leb m (level s))
    (λ t. close_has o m (level s) (binary z s a e) (ls ++ (mark z (Operator s) ∷ xs)) us (a_binary s (omega arith) l (weaken x (right_level s) fits)) p
    (whole ∙ (ap (λ z. z ++ xs) q ∙ (append_assoc ts (ls ++ (mark z (Operator s) ∷ [])) xs ∙ ap (λ y. ts ++ y) (append_assoc ls (mark z (Operator s) ∷ []) xs)))))
    (λ t. record { spare = d; before = vs; own = xs; opens = opens_behind s o l p q; derives = x; whole = whole; fits = fits; stopped = leb-false m (level s) t })
close_has {d = d} {ts = ts} (opens_group g o q) m h e xs us x fits whole =
    record { spare = d; before = ts; own = xs; opens = opens_group g o q; derives = x; whole = whole; fits = fits; stopped = tt }
close_has {d = d} {ts = ts} (opens_call g o c v n q) m h e xs us x fits whole =
    record { spare = d; before = ts; own = xs; opens = opens_call g o c v n q; derives = x; whole = whole; fits = fits; stopped = tt }

-- the place after what was closed by a binary sign allows that sign
asked_by : (o : BinarySign) (fs : List Frame) → Stopped (level o) fs → asked fs ≤ level o
asked_by o [] h = (levels o).low
asked_by o (Prefixed p s ∷ fs) h = omega arith
asked_by o (Behind p s a ∷ fs) h = omega (arith, (levels s).right)
asked_by o (Group ∷ fs) h = (levels o).low
asked_by o (Call c ps n ∷ fs) h = (levels o).low

-- what a mode gives
pub record HasOperand (most : ℕ) (e : Tree) (fs : List Frame) (us : List Lexeme) : Type 0 where
  pub spare : ℕ
  pub before : List Lexeme
  pub own : List Lexeme
  pub opens : Opens most spare fs before
  pub derives : Derives spare 8 own e
  pub whole : us ≡ before ++ own

abbrev pub IfOperand : ℕ → Option Tree → List Frame → List Lexeme → Type 0
IfOperand most o fs us = IfSome o (λ e. HasOperand most e fs us)

pub has_operand : {most : ℕ} {m : Mode} {fs : List Frame} {us : List Lexeme} → Has most m fs us → IfOperand most (operand m) fs us
has_operand (has_wanted o) = tt
has_operand (has_arg_wanted o) = tt
has_operand (has_named {p = p} {n = n} {ts = ts} o q) = record { spare = _; before = ts; own = mark p (Name n) ∷ []; opens = o; derives = a_name (omega arith); whole = q }
has_operand (has_arg_named {p = p} {n = n} {ts = ts} o q) = record { spare = _; before = ts; own = mark p (Name n) ∷ []; opens = o; derives = a_name (omega arith); whole = q }
has_operand (has_member {p = p} z {n = n} {ts = ts} {xs = xs} o x q) = record { spare = _; before = ts; own = xs ++ (mark z Dot ∷ (mark p (Name n) ∷ [])); opens = o; derives = a_member z (omega arith) x; whole = q }
has_operand (has_given {ts = ts} {xs = xs} o x q) = record { spare = _; before = ts; own = xs; opens = o; derives = x; whole = q }
has_operand (has_dotted z o x q) = tt

record HasOpens (most : ℕ) (fs : List Frame) (us : List Lexeme) : Type 0 where
  spare : ℕ
  opens : Opens most spare fs us

abbrev IfWanted : ℕ → Bool → List Frame → List Lexeme → Type 0
IfWanted most true fs us = HasOpens most fs us
IfWanted most false fs us = Unit {0}

has_wants : {most : ℕ} {m : Mode} {fs : List Frame} {us : List Lexeme} → Has most m fs us → IfWanted most (is_wanted m) fs us
has_wants (has_wanted o) = record { spare = _; opens = o }
has_wants (has_arg_wanted o) = record { spare = _; opens = o }
has_wants h = tt

record HasCallee (most : ℕ) (c : Callee) (fs : List Frame) (us : List Lexeme) : Type 0 where
  spare : ℕ
  before : List Lexeme
  own : List Lexeme
  opens : Opens most spare fs before
  read : CalleeRead spare own c
  whole : us ≡ before ++ own

abbrev IfCallee : ℕ → Option Callee → List Frame → List Lexeme → Type 0
IfCallee most o fs us = IfSome o (λ c. HasCallee most c fs us)

has_callee : {most : ℕ} {m : Mode} {fs : List Frame} {us : List Lexeme} → Has most m fs us → IfCallee most (callee m) fs us
has_callee (has_named {p = p} {n = n} {ts = ts} o q) = record { spare = _; before = ts; own = mark p (Name n) ∷ []; opens = o; read = function_read; whole = q }
has_callee (has_arg_named {p = p} {n = n} {ts = ts} o q) = record { spare = _; before = ts; own = mark p (Name n) ∷ []; opens = o; read = function_read; whole = q }
has_callee (has_member {p = p} z {n = n} {ts = ts} {xs = xs} o x q) = record { spare = _; before = ts; own = xs ++ (mark z Dot ∷ (mark p (Name n) ∷ [])); opens = o; read = method_read z x; whole = q }
has_callee h = tt

-- each token's move keeps the tokens

abbrev pub Keeps : ℕ → Option State → List Lexeme → Type 0
Keeps most o us = IfSome o (λ s. depth s.frames ≤ most → Has most s.mode s.frames us)

cond_then : (b : Bool) (s : State) (P : State → Type 0) → (b ≡ true → P s) → IfSome (cond b (Some s) None) P
cond_then true s P h = h refl
cond_then false s P h = tt

record HasMore (most : ℕ) (fs : List Frame) (us : List Lexeme) : Type 0 where
  spare : ℕ
  opens : Opens most (suc spare) fs us

has_more : {most d : ℕ} {fs : List Frame} {us : List Lexeme} → Opens most d fs us → suc (depth fs) ≤ most → HasMore most fs us
has_more {d = zero} o h = absurd (omega (arith, budget o))
has_more {d = suc d} o h = record { spare = d; opens = o }

literal_keeps : (most : ℕ) (fs : List Frame) (us : List Lexeme) (e : Tree) (t : Lexeme) → ((d : ℕ) → Derives d 8 (t ∷ []) e) → (b : Bool) → IfWanted most b fs us → Keeps most (literal e b fs) (us ++ (t ∷ []))
literal_keeps most fs us e t x true w = λ room. has_given w.opens (x w.spare) refl
literal_keeps most fs us e t x false w = tt

sign_keeps : (most : ℕ) (fs : List Frame) (us : List Lexeme) (p : Place) (s : PrefixSign) (b : Bool) → IfWanted most b fs us → Keeps most (sign_move p s b fs) (us ++ (mark p (sign_token s) ∷ []))
sign_keeps most fs us p s true w =
    cond_then (leb (asked fs) (prefix_level s)) _ _ (λ t room. let o = has_more w.opens room in has_wanted (opens_prefix s o.opens (leb-true (asked fs) (prefix_level s) t) refl))
sign_keeps most fs us p s false w = tt

minus_keeps : (most : ℕ) (fs : List Frame) (us : List Lexeme) (p : Place) (o : BinarySign) (b : Bool) → IfWanted most b fs us → Keeps most (minus_move p o b fs) (us ++ (mark p (Operator o) ∷ []))
minus_keeps most fs us p Sub b w = sign_keeps most fs us p Minus b w
minus_keeps most fs us p o b w = tt

longer : (us bs os rest : List Lexeme) → us ≡ bs ++ os → us ++ rest ≡ bs ++ (os ++ rest)
longer us bs os rest h = ap (λ z. z ++ rest) h ∙ append_assoc bs os rest

operator_keeps : (most : ℕ) (fs : List Frame) (us : List Lexeme) (p : Place) (o : BinarySign) (x : Option Tree) (b : Bool) → IfOperand most x fs us → IfWanted most b fs us → Keeps most (operator_move p o x b fs) (us ++ (mark p (Operator o) ∷ []))
operator_keeps most fs us p o (Some e) b r w =
    let c = close_has r.opens (level o) 8 e r.own us r.derives (omega (arith, asked_most fs)) r.whole in
    let k = close (level o) 8 e fs in
    cond_then (leb (left_level o) k.height) _ _ (λ t room. has_wanted (opens_behind o c.opens (weaken c.derives (left_level o) (leb-true (left_level o) k.height t)) (asked_by o k.frames c.stopped) (longer us c.before c.own (mark p (Operator o) ∷ []) c.whole)))
operator_keeps most fs us p o None b r w = minus_keeps most fs us p o b w

dot_keeps : (most : ℕ) (fs : List Frame) (us : List Lexeme) (q : Place) (x : Option Tree) → IfOperand most x fs us → Keeps most (dot_move x fs) (us ++ (mark q Dot ∷ []))
dot_keeps most fs us q (Some e) r = λ room. has_dotted q r.opens r.derives (longer us r.before r.own (mark q Dot ∷ []) r.whole)
dot_keeps most fs us q None r = tt

call_keeps : (q : Place) {most d : ℕ} {fs : List Frame} {bs os us : List Lexeme} {c : Callee} → Opens most d fs bs → CalleeRead d os c → us ≡ bs ++ os → suc (depth fs) ≤ most → Has most ArgWanted (Call c [] None ∷ fs) (us ++ (mark q Open ∷ []))
call_keeps q {d = zero} o r h room = absurd (omega (arith, budget o))
call_keeps q {d = suc d} {bs = bs} {os = os} {us = us} o r h room = has_arg_wanted (opens_call q o r no_arg_read no_name_read (longer us bs os (mark q Open ∷ []) h))

open_keeps : (most : ℕ) (fs : List Frame) (us : List Lexeme) (q : Place) (b : Bool) (x : Option Callee) → IfWanted most b fs us → IfCallee most x fs us → Keeps most (open_move b x fs) (us ++ (mark q Open ∷ []))
open_keeps most fs us q true x w r = λ room. has_wanted (opens_group q (has_more w.opens room).opens refl)
open_keeps most fs us q false (Some c) w r = λ room. call_keeps q r.opens r.read r.whole room
open_keeps most fs us q false None w r = tt

one_arg : {d : ℕ} {ns xs : List Lexeme} {n : Option (List ℕ)} {e : Tree} → NameRead ns n → Derives d 1 xs e → OneArg d (ns ++ xs) n e
one_arg no_name_read x = bare x
one_arg name_read x = named x

build : {d : ℕ} {vs ts ws : List Lexeme} {acc : List Arg} {n : Option (List ℕ)} {e : Tree} → ArgsRead d vs acc → OneArg d ts n e → (l : List Arg) → MoreArgs d ws (args_of l) → ArgsDerive d (vs ++ (ts ++ ws)) (args_of (acc ++ (record { name = n; tree = e } ∷ l)))
build no_arg_read one l rest = some one rest
build {d = d} {ts = ts} {ws = ws} {n = n} {e = e} (arg_read q {us = vs} {ts = ks} {acc = acc} {n = k} {e = x} r was) one l rest =
    let a : Arg = record { name = n; tree = e } in
    let b : Arg = record { name = k; tree = x } in
    let whole = build r was (a ∷ l) (more one rest) in
    subst (λ z. ArgsDerive d ((vs ++ (ks ++ (mark q Comma ∷ []))) ++ (ts ++ ws)) (args_of z)) (sym (append_assoc acc (b ∷ []) (a ∷ l)))
    (subst (λ z. ArgsDerive d z (args_of (acc ++ (b ∷ (a ∷ l))))) (sym (append_assoc vs (ks ++ (mark q Comma ∷ [])) (ts ++ ws) ∙ ap (λ z. vs ++ z) (append_assoc ks (mark q Comma ∷ []) (ts ++ ws)))) whole)

applied_derives : (z o : Place) {d : ℕ} {cs vs : List Lexeme} {c : Callee} → CalleeRead (suc d) cs c → (l : List Arg) → ArgsDerive d vs (args_of l) → Derives (suc d) 8 (cs ++ (mark o Open ∷ (vs ++ (mark z Close ∷ [])))) (applied c l)
applied_derives z o function_read l x = a_call z (omega arith) x
applied_derives z r {d = d} {vs = vs} (method_read q {p = p} {n = n} {ts = ts} {e = e} o) l x =
    subst (λ y. Derives (suc d) 8 y (method p e n (args_of l))) (sym (append_assoc ts (mark q Dot ∷ (mark p (Name n) ∷ [])) (mark r Open ∷ (vs ++ (mark z Close ∷ []))))) (a_method q r z (omega arith) o x)

shut_keeps : (c : Place) {most d : ℕ} {fs : List Frame} {bs : List Lexeme} → Opens most d fs bs → (h : ℕ) (e : Tree) (os us : List Lexeme) → Derives d h os e → asked fs ≤ h → us ≡ bs ++ os → Keeps most (shut e fs) (us ++ (mark c Close ∷ []))
shut_keeps z (opens_nothing p q) h e os us x fits whole = tt
shut_keeps z (opens_prefix s o p q) h e os us x fits whole = tt
shut_keeps z (opens_behind s o l p q) h e os us x fits whole = tt
shut_keeps z (opens_group y {ts = ts} o q) h e os us x fits whole =
    λ room. has_given o (a_group {q = y} z (omega arith) (weaken x 1 fits)) (ap (λ y. y ++ (mark z Close ∷ [])) (whole ∙ ap (λ z. z ++ os) q) ∙ simp append_assoc refl)
shut_keeps z (opens_call y {ts = ts} {cs = cs} {vs = vs} {ns = ns} {c = c} {acc = acc} {n = n} o cr v nr q) h e os us x fits whole =
    λ room. has_given o (applied_derives z y cr (acc ++ (record { name = n; tree = e } ∷ [])) (build v (one_arg nr (weaken x 1 fits)) [] end)) (ap (λ y. y ++ (mark z Close ∷ [])) (whole ∙ ap (λ z. z ++ os) q) ∙ simp (append_assoc, append-nil) refl)

next_arg_keeps : (c : Place) {most d : ℕ} {fs : List Frame} {bs : List Lexeme} → Opens most d fs bs → (h : ℕ) (e : Tree) (os us : List Lexeme) → Derives d h os e → asked fs ≤ h → us ≡ bs ++ os → Keeps most (next_arg e fs) (us ++ (mark c Comma ∷ []))
next_arg_keeps z (opens_nothing p q) h e os us x fits whole = tt
next_arg_keeps z (opens_prefix s o p q) h e os us x fits whole = tt
next_arg_keeps z (opens_behind s o l p q) h e os us x fits whole = tt
next_arg_keeps z (opens_group y {ts = ts} o q) h e os us x fits whole = tt
next_arg_keeps z (opens_call y {ts = ts} {cs = cs} {vs = vs} {ns = ns} {c = c} {acc = acc} {n = n} o cr v nr q) h e os us x fits whole =
    λ room. has_arg_wanted (opens_call y o cr (arg_read z v (one_arg nr (weaken x 1 fits))) no_name_read (ap (λ y. y ++ (mark z Comma ∷ [])) (whole ∙ ap (λ z. z ++ os) q) ∙ simp (append_assoc, append-nil) refl))

comma_keeps : (most : ℕ) (fs : List Frame) (us : List Lexeme) (c : Place) (x : Option Tree) → IfOperand most x fs us → Keeps most (comma_move x fs) (us ++ (mark c Comma ∷ []))
comma_keeps most fs us z (Some e) r =
    let c = close_has r.opens 0 8 e r.own us r.derives (omega (arith, asked_most fs)) r.whole in
    let k = close 0 8 e fs in
    next_arg_keeps z c.opens k.height k.tree c.own us c.derives c.fits c.whole
comma_keeps most fs us z None r = tt

not_empty : (ps : List Arg) (a : Arg) → ps ++ (a ∷ []) ≡ [] → ⊥
not_empty [] a h = cc
not_empty (b ∷ ps) a h = cc

no_args_read : {d : ℕ} {vs : List Lexeme} {acc : List Arg} → ArgsRead d vs acc → acc ≡ [] → vs ≡ []
no_args_read no_arg_read h = refl
no_args_read (arg_read q {acc = acc} r one) h = absurd (not_empty acc _ h)

no_name_in : {ns : List Lexeme} → NameRead ns None → ns ≡ []
no_name_in no_name_read = refl

empty_keeps : (c : Place) {most d : ℕ} {fs : List Frame} {us : List Lexeme} {k : Callee} (acc : List Arg) → Opens most d (Call k acc None ∷ fs) us → Keeps most (shut_empty ArgWanted (Call k acc None ∷ fs)) (us ++ (mark c Close ∷ []))
empty_keeps z [] (opens_call y {ts = ts} {cs = cs} {vs = vs} {ns = ns} o cr v nr q) =
    let e = no_args_read v refl in
    let f = no_name_in nr in
    λ room. has_given o (applied_derives z y cr [] none) (ap (λ y. y ++ (mark z Close ∷ [])) (q ∙ (ap (λ x. ts ++ (cs ++ (mark y Open ∷ (x ++ ns)))) e ∙ ap (λ x. ts ++ (cs ++ (mark y Open ∷ x))) f)) ∙ simp append_assoc refl)
empty_keeps z (a ∷ acc) o = tt

close_keeps : (most : ℕ) (fs : List Frame) (us : List Lexeme) (c : Place) (x : Option Tree) (m : Mode) → IfOperand most x fs us → Has most m fs us → Keeps most (close_move x m fs) (us ++ (mark c Close ∷ []))
close_keeps most fs us z (Some e) m r h =
    let c = close_has r.opens 0 8 e r.own us r.derives (omega (arith, asked_most fs)) r.whole in
    let k = close 0 8 e fs in
    shut_keeps z c.opens k.height k.tree c.own us c.derives c.fits c.whole
close_keeps most fs us z None m r (has_arg_wanted {acc = acc} o) = empty_keeps z acc o
close_keeps most fs us z None m r h = tt

named_arg : (p c : Place) {most d : ℕ} {fs : List Frame} {ts : List Lexeme} {k : Callee} {acc : List Arg} → Opens most d (Call k acc None ∷ fs) ts → (n : List ℕ) (us : List Lexeme) → us ≡ ts ++ (mark p (Name n) ∷ []) → Opens most d (Call k acc (Some n) ∷ fs) (us ++ (mark c Assign ∷ []))
named_arg p z (opens_call y {ts = ts} {cs = cs} {vs = vs} {ns = ns} o cr v nr q) n us h =
    let f = no_name_in nr in
    opens_call y o cr v (name_read {p = p} {q = z}) (ap (λ x. x ++ (mark z Assign ∷ [])) (h ∙ ap (λ x. x ++ (mark p (Name n) ∷ [])) (q ∙ ap (λ x. ts ++ (cs ++ (mark y Open ∷ (vs ++ x)))) f)) ∙ simp (append_assoc, append-nil) refl)

assign_keeps : (c : Place) {most : ℕ} {m : Mode} {fs : List Frame} {us : List Lexeme} → Has most m fs us → Keeps most (assign_move m fs) (us ++ (mark c Assign ∷ []))
assign_keeps z {us = us} (has_arg_named {p = p} {n = n} o q) = λ room. has_wanted (named_arg p z o n us q)
assign_keeps z h = tt

name_keeps : (p : Place) {most : ℕ} {m : Mode} {fs : List Frame} {us : List Lexeme} (n : List ℕ) → Has most m fs us → Keeps most (named_move p n m fs) (us ++ (mark p (Name n) ∷ []))
name_keeps p n (has_wanted o) = λ room. has_named o refl
name_keeps p n (has_arg_wanted o) = λ room. has_arg_named o refl
name_keeps p {us = us} n (has_dotted y {ts = ts} {xs = xs} o x q) = λ room. has_member y o x (longer us ts (xs ++ (mark y Dot ∷ [])) (mark p (Name n) ∷ []) q ∙ ap (λ z. ts ++ z) (append_assoc xs (mark y Dot ∷ []) (mark p (Name n) ∷ [])))
name_keeps p n h = tt

pub move_keeps : {most : ℕ} {m : Mode} {fs : List Frame} {us : List Lexeme} (t : Lexeme) → Has most m fs us → Keeps most (move t m fs) (us ++ (t ∷ []))
move_keeps (mark p (Name n)) h = name_keeps p n h
move_keeps {most = most} {m = m} {fs = fs} {us = us} (mark p (Number v)) h = literal_keeps most fs us (number p v) (mark p (Number v)) (λ d. a_number (omega arith)) (is_wanted m) (has_wants h)
move_keeps {most = most} {m = m} {fs = fs} {us = us} (mark p (Text v)) h = literal_keeps most fs us (text p v) (mark p (Text v)) (λ d. a_text (omega arith)) (is_wanted m) (has_wants h)
move_keeps {most = most} {m = m} {fs = fs} {us = us} (mark p (Operator o)) h = operator_keeps most fs us p o (operand m) (is_wanted m) (has_operand h) (has_wants h)
move_keeps {most = most} {m = m} {fs = fs} {us = us} (mark p Tilde) h = sign_keeps most fs us p Not (is_wanted m) (has_wants h)
move_keeps {most = most} {m = m} {fs = fs} {us = us} (mark p Dot) h = dot_keeps most fs us p (operand m) (has_operand h)
move_keeps {most = most} {m = m} {fs = fs} {us = us} (mark p Open) h = open_keeps most fs us p (is_wanted m) (callee m) (has_wants h) (has_callee h)
move_keeps {most = most} {m = m} {fs = fs} {us = us} (mark p Close) h = close_keeps most fs us p (operand m) m (has_operand h) h
move_keeps {most = most} {m = m} {fs = fs} {us = us} (mark p Comma) h = comma_keeps most fs us p (operand m) (has_operand h)
move_keeps (mark p Assign) h = assign_keeps p h
move_keeps t h = tt

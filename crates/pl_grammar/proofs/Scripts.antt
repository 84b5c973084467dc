-- Whole scripts: what is read has a canonical text within the limits, and that text derives it.
use Rattle.std.proofs.Common.{◌≡◌, ℕ, suc, ◌+◌, ◌≤◌, ◌==◌, Bool, true, false, ◌&&◌, ◌||◌, ◌⊎◌, inl, inr, leb, List, [], ◌∷◌, ◌++◌, length, refl, sym, ap, ap₂, subst, ◌∙◌, arith, length-append}
use Rattle.std.proofs.lemmas.Bool.{le-leb, leb-true, and_from, and_parts, or_cases, eqb-true}
use Rattle.pl_grammar.specs.Tree.{Token, Name, Number, LargeNumber, Assign, Semicolon, PipelineWord, LetWord, ColumnWord, Lexeme, mark, Tree}
use Rattle.pl_grammar.specs.Script.{Head, LetHead, ColumnHead, ScreenHead, Statement, HeadRead, let_read, column_read, screen_read, Statements, no_statement, statement, version_of, is_known, token_version, version_or, first_version, Script, script}
use Rattle.pl_grammar.specs.Faults.{most_depth, most_tokens, token_counted, token_too_large, IsShort}
use Rattle.pl_grammar.specs.Printed.{nowhere, here, tree_level, tokens, tree_depth}
use Rattle.pl_grammar.specs.Places.{SameTokens, same_none, same_next}
use Rattle.pl_grammar.specs.Whole.{head_tokens, statements_tokens, version_number, script_tokens, bare_head, bare_script, tokens_pass, tree_passes, head_passes, is_sound, are_sound}
use Rattle.pl_grammar.proofs.Sound.{weaken}
use Rattle.pl_grammar.proofs.ScriptRead.{known_first}
use Rattle.pl_grammar.proofs.Reprint.{level_least}
use Rattle.pl_grammar.proofs.Canonical.{canonical, shallow, least_place}
use Rattle.pl_grammar.proofs.Replace.{cut, next_of, replaced}
use Rattle.pl_grammar.proofs.Fewest.{is_inner, inner, passes, fewest, own_size, part}

-- counting

counted_inner : (n : ℕ) (t : Token) → is_inner t ≡ true → token_counted n t ≡ suc n
counted_inner n Semicolon h = cc
counted_inner n t h = refl

inner_small : (t : Token) → is_inner t ≡ true → token_too_large t ≡ false
inner_small LargeNumber h = cc
inner_small t h = refl

short_part : (n : ℕ) (xs ys : List Lexeme) → tokens_pass is_inner xs ≡ true → IsShort n (xs ++ ys) → IsShort (n + length xs) ys
unfolding IsShort tokens_pass
short_part n [] ys h k = let e : n ≡ n + 0 = omega arith in subst (λ m. IsShort m ys) e k
short_part n (mark q t ∷ xs) ys h k =
    let b = and_parts (is_inner t) (tokens_pass is_inner xs) h in
    let e : suc n + length xs ≡ n + suc (length xs) = omega arith in
    subst (λ m. IsShort m ys) e (short_part (suc n) xs ys b.1 (subst (λ m. IsShort m (xs ++ ys)) (counted_inner n t b.0) k.2))

short_join : (n : ℕ) (xs ys : List Lexeme) → tokens_pass is_inner xs ≡ true → n + length xs ≤ most_tokens → IsShort (n + length xs) ys → IsShort n (xs ++ ys)
unfolding IsShort tokens_pass
short_join n [] ys h few k = let e : n + 0 ≡ n = omega arith in subst (λ m. IsShort m ys) e k
short_join n (mark q t ∷ xs) ys h few k =
    let b = and_parts (is_inner t) (tokens_pass is_inner xs) h in
    let e : n + suc (length xs) ≡ suc n + length xs = omega arith in
    (omega arith, inner_small t b.0, subst (λ m. IsShort m (xs ++ ys)) (sym (counted_inner n t b.0)) (short_join (suc n) xs ys b.1 (omega arith) (subst (λ m. IsShort m ys) e k)))

head_inner : {hs : List Lexeme} {h : Head} → HeadRead hs h → tokens_pass is_inner hs ≡ true
unfolding tokens_pass
head_inner let_read = refl
head_inner column_read = refl
head_inner screen_read = refl

head_size : {hs : List Lexeme} {h : Head} → HeadRead hs h → length (head_tokens h) ≡ length hs
head_size let_read = refl
head_size column_read = refl
head_size screen_read = refl

pub head_is_read : (h : Head) → HeadRead (head_tokens h) h
head_is_read (LetHead p n) = let_read
head_is_read (ColumnHead p n) = column_read
head_is_read (ScreenHead p) = screen_read

head_passes_read : (p : Token → Bool) {hs : List Lexeme} {h : Head} → HeadRead hs h → tokens_pass p hs ≡ true → head_passes p h ≡ true
unfolding tokens_pass
head_passes_read p (let_read {n = n}) k = let a = and_parts (p LetWord) (p (Name n) && (p Assign && true)) k in (and_parts (p (Name n)) (p Assign && true) a.1).0
head_passes_read p (column_read {n = n}) k = let a = and_parts (p ColumnWord) (p (Name n) && (p Assign && true)) k in (and_parts (p (Name n)) (p Assign && true) a.1).0
head_passes_read p screen_read k = refl

-- what is read is sound

statements_sound : (p : Token → Bool) {ts : List Lexeme} {ss : List Statement} → Statements most_depth ts ss → IsShort 0 ts → tokens_pass p ts ≡ true → are_sound p ss ≡ true
unfolding IsShort tokens_pass are_sound
statements_sound p no_statement short k = refl
statements_sound p (statement q {hs = hs} {ts = xs} {us = us} {h = h} {e = e} {ss = ss} head x rest) short k =
    let a = part p hs (xs ++ (mark q Semicolon ∷ us)) k in
    let b = part p xs (mark q Semicolon ∷ us) a.1 in
    let c = and_parts (p Semicolon) (tokens_pass p us) b.1 in
    let s = short_part (0 + length hs) xs (mark q Semicolon ∷ us) (inner x) (short_part 0 hs (xs ++ (mark q Semicolon ∷ us)) (head_inner head) short) in
    let deep : leb (tree_depth e) most_depth ≡ true = le-leb (tree_depth e) most_depth (omega (arith, shallow x, least_place (leb 1 (tree_level e)) (tree_depth e))) in
    let few : leb (suc (length (head_tokens h ++ tokens e))) most_tokens ≡ true = le-leb (suc (length (head_tokens h ++ tokens e))) most_tokens (omega (arith, s.0, head_size head, own_size 1 e (level_least e), fewest x, length-append (head_tokens h) (tokens e))) in
    and_from (is_sound p (record { head = h; tree = e })) (are_sound p ss)
    (and_from (head_passes p h) _ (head_passes_read p head a.0) (and_from (tree_passes p e) _ (passes p x b.0) (and_from _ _ deep few)))
    (statements_sound p rest s.2 c.1)

pub script_sound : (p : Token → Bool) {ts : List Lexeme} {ss : List Statement} → Script most_depth ts ss → IsShort 0 ts → tokens_pass p ts ≡ true → are_sound p ss ≡ true
unfolding IsShort tokens_pass
script_sound p (script {v = v} {ts = ts} h x) short k =
    let a = and_parts (p PipelineWord) (p (Number v) && (p Semicolon && tokens_pass p ts)) k in
    let b = and_parts (p (Number v)) (p Semicolon && tokens_pass p ts) a.1 in
    let c = and_parts (p Semicolon) (tokens_pass p ts) b.1 in
    statements_sound p x short.2.2.2 c.1

-- what is sound is derived by its canonical tokens, within the limits

pub record Parts (p : Token → Bool) (s : Statement) : Type 0 where
  pub head : head_passes p s.head ≡ true
  pub tree : tree_passes p s.tree ≡ true
  pub depth : tree_depth s.tree ≤ most_depth
  pub few : suc (length (head_tokens s.head ++ tokens s.tree)) ≤ most_tokens

pub parts : (p : Token → Bool) (s : Statement) → is_sound p s ≡ true → Parts p s
parts p s h =
    let a = and_parts (head_passes p s.head) _ h in
    let b = and_parts (tree_passes p s.tree) _ a.1 in
    let c = and_parts (leb (tree_depth s.tree) most_depth) _ b.1 in
    record { head = a.0; tree = b.0; depth = leb-true (tree_depth s.tree) most_depth c.0; few = leb-true (suc (length (head_tokens s.head ++ tokens s.tree))) most_tokens c.1 }

statements_derive : (p : Token → Bool) (ss : List Statement) → are_sound p ss ≡ true → Statements most_depth (statements_tokens ss) ss
unfolding statements_tokens are_sound
statements_derive p [] h = no_statement
statements_derive p (s ∷ ss) h =
    let a = and_parts (is_sound p s) (are_sound p ss) h in
    let x = parts p s a.0 in
    statement nowhere (head_is_read s.head) (weaken (canonical s.tree most_depth x.depth) 1 (level_least s.tree)) (statements_derive p ss a.1)

-- the versions, and that a version's number tells it
pub version_cases : (n : ℕ) → is_known n ≡ true → (n ≡ 1) ⊎ ((n ≡ 2) ⊎ ((n ≡ 3) ⊎ (n ≡ 4)))
version_cases n h = elim (or_cases (n == 1) ((n == 2) || ((n == 3) || (n == 4))) h) [
  | inl e ↦ inl (eqb-true n 1 e)
  | inr f ↦ elim (or_cases (n == 2) ((n == 3) || (n == 4)) f) [
    | inl e ↦ inr (inl (eqb-true n 2 e))
    | inr g ↦ elim (or_cases (n == 3) (n == 4) g) [ inl e ↦ inr (inr (inl (eqb-true n 3 e))) | inr e ↦ inr (inr (inr (eqb-true n 4 e))) ]
  ]
]

pub number_told : (n : ℕ) → is_known n ≡ true → version_of (version_number n) ≡ n
number_told n h = elim (version_cases n h) [
  | inl e ↦ rw e refl
  | inr f ↦ elim f [ inl e ↦ rw e refl | inr g ↦ elim g [ inl e ↦ rw e refl | inr e ↦ rw e refl ] ]
]

pub script_derives : (p : Token → Bool) (n : ℕ) (ss : List Statement) → is_known n ≡ true → are_sound p ss ≡ true → Script most_depth (script_tokens n ss) ss
unfolding script_tokens
script_derives p n ss k h = script (ap is_known (number_told n k) ∙ k) (statements_derive p ss h)

pub script_told : (n : ℕ) (ss : List Statement) → is_known n ≡ true → first_version (script_tokens n ss) ≡ n
unfolding script_tokens first_version
script_told n ss k = ap (λ m. version_or m (first_version (here Semicolon ∷ statements_tokens ss))) (number_told n k) ∙ known_first n _ k

statements_short : (p : Token → Bool) (ss : List Statement) → are_sound p ss ≡ true → IsShort 0 (statements_tokens ss)
unfolding statements_tokens are_sound IsShort
statements_short p [] h = tt
statements_short p (s ∷ ss) h =
    let a = and_parts (is_sound p s) (are_sound p ss) h in
    let x = parts p s a.0 in
    let hs = head_tokens s.head in
    let xs = tokens s.tree in
    let n = length-append hs xs in
    let few : suc (length hs + length xs) ≤ most_tokens = omega (arith, x.few, n) in
    short_join 0 hs (xs ++ (here Semicolon ∷ statements_tokens ss)) (head_inner (head_is_read s.head)) (omega (arith, few))
    (short_join (0 + length hs) xs (here Semicolon ∷ statements_tokens ss) (inner (canonical s.tree most_depth x.depth)) (omega (arith, few)) (omega (arith, few), refl, statements_short p ss a.1))

pub script_short : (p : Token → Bool) (n : ℕ) (ss : List Statement) → are_sound p ss ≡ true → IsShort 0 (script_tokens n ss)
unfolding script_tokens IsShort
script_short p n ss h = (omega arith, refl, (omega arith, refl, (omega arith, refl, statements_short p ss h)))

-- the same tokens at other places

pub same_told : {ts us : List Lexeme} → SameTokens ts us → first_version us ≡ first_version ts
unfolding first_version
same_told same_none = refl
same_told (same_next {t = t} q s) = ap (version_or (token_version t)) (same_told s)

pub same_short : {ts us : List Lexeme} → SameTokens ts us → (n : ℕ) → IsShort n ts → IsShort n us
unfolding IsShort
same_short same_none n k = tt
same_short (same_next {t = t} q s) n k = (k.0, k.1, same_short s (token_counted n t) k.2)

record HeadReplaced (us : List Lexeme) (h : Head) : Type 0 where
  head : Head
  reads : HeadRead us head
  same : bare_head head ≡ bare_head h

replaced_head : {hs : List Lexeme} {h : Head} → HeadRead hs h → (us : List Lexeme) → SameTokens hs us → HeadReplaced us h
replaced_head (let_read {n = n}) _ (same_next a (same_next p (same_next c same_none))) = record { head = LetHead p n; reads = let_read; same = refl }
replaced_head (column_read {n = n}) _ (same_next a (same_next p (same_next c same_none))) = record { head = ColumnHead p n; reads = column_read; same = refl }
replaced_head screen_read _ (same_next p same_none) = record { head = ScreenHead p; reads = screen_read; same = refl }

record StatementsReplaced (d : ℕ) (us : List Lexeme) (ss : List Statement) : Type 0 where
  statements : List Statement
  derives : Statements d us statements
  same : bare_script statements ≡ bare_script ss

abbrev made : Head → Tree → Statement
made h e = record { head = h; tree = e }

replaced_statements : {d : ℕ} {ts : List Lexeme} {ss : List Statement} → Statements d ts ss → (us : List Lexeme) → SameTokens ts us → StatementsReplaced d us ss
unfolding bare_script
replaced_statements no_statement _ same_none = record { statements = []; derives = no_statement; same = refl }
replaced_statements {d = d} (statement p {hs = hs} {ts = xs} {us = ys} {h = h} {e = e} {ss = ss} head x rest) us k =
    let a = cut hs (xs ++ (mark p Semicolon ∷ ys)) us k in
    let b = cut xs (mark p Semicolon ∷ ys) a.back a.back_same in
    let c = next_of b.back_same in
    let g = replaced_head head a.front a.front_same in
    let t = replaced x b.front b.front_same in
    let r = replaced_statements rest c.rest c.same in
    let whole : us ≡ a.front ++ (b.front ++ (mark c.place Semicolon ∷ c.rest)) = a.whole ∙ ap (λ z. a.front ++ z) (b.whole ∙ ap (λ z. b.front ++ z) c.whole) in
    subst (λ z. StatementsReplaced d z (made h e ∷ ss)) (sym whole) (record {
      statements = made g.head t.tree ∷ r.statements;
      derives = statement c.place g.reads t.derives r.derives;
      same = ap₂ (λ (z : Statement) zs. z ∷ zs) (ap₂ made g.same t.same) r.same;
    })

pub record ScriptReplaced (d : ℕ) (us : List Lexeme) (ss : List Statement) : Type 0 where
  pub statements : List Statement
  pub derives : Script d us statements
  pub same : bare_script statements ≡ bare_script ss

pub replaced_script : {d : ℕ} {ts : List Lexeme} {ss : List Statement} → Script d ts ss → (us : List Lexeme) → SameTokens ts us → ScriptReplaced d us ss
replaced_script (script h x) _ (same_next a (same_next b (same_next {us = us} c k))) =
    let r = replaced_statements x us k in
    record { statements = r.statements; derives = script h r.derives; same = r.same }

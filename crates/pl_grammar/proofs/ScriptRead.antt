-- Scripts: what the grammar derives the machine reads, what it reads the grammar derives, and it goes on
-- exactly while some continuation is a script.
use Rattle.std.proofs.Common.{◌≡◌, ℕ, zero, suc, ℤ, pos, ◌≤◌, ◌==◌, Bool, true, false, cond, leb, List, [], ◌∷◌, ◌++◌, Option, Some, None, Result, Ok, Err, refl, sym, ap, subst, ◌∙◌, arith, append_assoc, append-nil}
use Rattle.std.specs.Option.{IfSome}
use Rattle.std.specs.Result.{IfOk}
use Rattle.std.proofs.lemmas.Bool.{leb-true}
use Rattle.std.proofs.lemmas.Option.{same_Some, none-some}
use Rattle.std.proofs.lemmas.Bool.Decides.{nat_tests}
use Rattle.pl_grammar.specs.declared.Place.{Place}
use Rattle.pl_grammar.specs.Tree.{Token, Name, Number, Assign, Semicolon, PipelineWord, LetWord, ColumnWord, ScreenWord, Lexeme, mark, Tree}
use Rattle.pl_grammar.specs.Grammar.{Derives}
use Rattle.pl_grammar.specs.Machine.{State, Stop, Deep, first, move, depth, state_depth, step, allowed, then_run, run_by, run, finish}
use Rattle.pl_grammar.specs.Script.{Head, LetHead, ColumnHead, ScreenHead, Statement, HeadRead, let_read, column_read, screen_read, Statements, no_statement, statement, version_of, is_known, is_version, version_or, first_version, Script, script, Viable, Stage, Opening, VersionWanted, VersionGiven, Between, LetWanted, ColumnWanted, AssignWanted, Within, if_version, opening_move, version_move, given_move, between_move, name_move, assign_head, ended, within_move, script_move, stage_depth, script_step, script_run, script_finish}
use Rattle.pl_grammar.proofs.Sound.{Has, move_keeps, Keeps}
use Rattle.pl_grammar.proofs.Runs.{same_ok, no_ok, run-append, run_on, run_step, run_nil, allowed_some, bound_ok}
use Rattle.pl_grammar.proofs.Viable.{some_name, derives_finish, CanEnd, can_end, has_finish, nothing_read}
use Rattle.pl_grammar.specs.Printed.{nowhere}

pub script_next : (most : ℕ) (x : Lexeme) (ys : List Lexeme) (s t : Stage) (r : Result Stage Stop) → script_move x s ≡ Some t → stage_depth t ≤ most → script_run most ys t ≡ r → script_run most (x ∷ ys) s ≡ r
script_next most x ys s t r h room k = run_step (script_step most) x ys s t r (allowed_some stage_depth most (script_move x s) t h room) k

-- a run of the expression's machine is a run within the statement

stage_ok : (ss : List Statement) (h : Head) (most : ℕ) (e : Option Tree) (t : Token) (o : Option State) (r : State) → allowed state_depth most o ≡ Ok r → allowed stage_depth most (within_move ss h e t o) ≡ Ok (Within ss h r)
stage_ok ss h most e t (Some x) r k = by_test (leb (depth x.frames) most) k
  where
    by_test : (b : Bool) → cond b (Ok x) (Err Deep) ≡ Ok r → cond b (Ok (Within ss h x)) (Err Deep) ≡ Ok (Within ss h r)
    by_test true k = ap (λ y. Ok (Within ss h y)) (same_ok k)
    by_test false k = absurd (no_ok k)
stage_ok ss h most e t None r k = absurd (no_ok k)

within_step : (ss : List Statement) (h : Head) (most : ℕ) (t : Lexeme) (s r : State) → step most t s ≡ Ok r → script_step most t (Within ss h s) ≡ Ok (Within ss h r)
unfolding script_move
within_step ss h most (mark p t) s r k = stage_ok ss h most (finish s) t (move (mark p t) s.mode s.frames) r k

within_run : (ss : List Statement) (h : Head) (most : ℕ) (ts : List Lexeme) (s r : State) → run most ts s ≡ Ok r → script_run most ts (Within ss h s) ≡ Ok (Within ss h r)
unfolding run_by
within_run ss h most [] s r k = ap (λ y. Ok (Within ss h y)) (same_ok k)
within_run ss h most (t ∷ ts) s r k =
    let b = bound_ok (run most ts) (step most t s) r k in
    ap (then_run (script_run most ts)) (within_step ss h most t s b.0 b.1) ∙ within_run ss h most ts b.0 r b.2

-- what ends a statement
ends_statement : (ss : List Statement) (h : Head) (p : Place) (s : State) (e : Tree) → finish s ≡ Some e → script_move (mark p Semicolon) (Within ss h s) ≡ Some (Between (ss ++ (record { head = h; tree = e } ∷ [])))
unfolding script_move
ends_statement ss h p s e k = ap (λ y. ended ss h y Semicolon) k

head_reads : {hs : List Lexeme} {h : Head} → HeadRead hs h → (most : ℕ) (ss : List Statement) (ys : List Lexeme) (r : Result Stage Stop) → script_run most ys (Within ss h first) ≡ r → script_run most (hs ++ ys) (Between ss) ≡ r
unfolding script_move
head_reads (let_read {a = a} {p = p} {c = c} {n = n}) most ss ys r k =
    script_next most (mark a LetWord) _ (Between ss) (LetWanted ss) r refl (omega arith)
    (script_next most (mark p (Name n)) _ (LetWanted ss) (AssignWanted ss (LetHead p n)) r refl (omega arith)
    (script_next most (mark c Assign) ys (AssignWanted ss (LetHead p n)) (Within ss (LetHead p n) first) r refl (omega arith) k))
head_reads (column_read {a = a} {p = p} {c = c} {n = n}) most ss ys r k =
    script_next most (mark a ColumnWord) _ (Between ss) (ColumnWanted ss) r refl (omega arith)
    (script_next most (mark p (Name n)) _ (ColumnWanted ss) (AssignWanted ss (ColumnHead p n)) r refl (omega arith)
    (script_next most (mark c Assign) ys (AssignWanted ss (ColumnHead p n)) (Within ss (ColumnHead p n) first) r refl (omega arith) k))
head_reads (screen_read {p = p}) most ss ys r k =
    script_next most (mark p ScreenWord) ys (Between ss) (Within ss (ScreenHead p) first) r refl (omega arith) k

statements_read : {d : ℕ} {ts : List Lexeme} {ss : List Statement} → Statements d ts ss → (ps : List Statement) → script_run d ts (Between ps) ≡ Ok (Between (ps ++ ss))
statements_read {d = d} no_statement ps = run_nil (script_step d) (Between ps) ∙ ap (λ y. Ok (Between y)) (sym (append-nil ps))
statements_read {d = d} (statement p {hs = hs} {ts = ts} {us = us} {h = h} {e = e} {ss = ss} head tree rest) ps =
    let f = derives_finish d ts e tree in
    let one : Statement = record { head = h; tree = e } in
    head_reads head d ps (ts ++ (mark p Semicolon ∷ us)) _
    (run_on (script_step d) ts (mark p Semicolon ∷ us) (Within ps h first) (Within ps h f.0) _ (within_run ps h d ts first f.0 f.1)
    (script_next d (mark p Semicolon) us (Within ps h f.0) (Between (ps ++ (one ∷ []))) _ (ends_statement ps h p f.0 e f.2) (omega arith)
    (statements_read rest (ps ++ (one ∷ [])) ∙ ap (λ y. Ok (Between y)) (append_assoc ps (one ∷ []) ss))))

version_goes : (p : Place) (v : ℤ) → is_version v ≡ true → script_move (mark p (Number v)) VersionWanted ≡ Some VersionGiven
unfolding script_move
version_goes p v h = ap if_version h

-- what the grammar derives, the machine reads
pub script_reads : {d : ℕ} {ts : List Lexeme} {ss : List Statement} → Script d ts ss → script_run d ts Opening ≡ Ok (Between ss)
unfolding script_move
script_reads {d = d} (script {a = a} {b = b} {c = c} {v = v} {ts = ts} {ss = ss} h rest) =
    script_next d (mark a PipelineWord) _ Opening VersionWanted _ refl (omega arith)
    (script_next d (mark b (Number v)) _ VersionWanted VersionGiven _ (version_goes b v h) (omega arith)
    (script_next d (mark c Semicolon) ts VersionGiven (Between []) _ refl (omega arith) (statements_read rest [])))

-- a version of the language is told before what comes after it
pub known_first : (n m : ℕ) → is_known n ≡ true → version_or n m ≡ n
known_first zero m h = absurd (let bad : false ≡ true = h in cc)
known_first (suc n) m h = let some : (suc n == 0) ≡ false = grind (arith, nat_tests) in rw some refl

-- the version that a script tells is one of the language
pub script_known : {d : ℕ} {ts : List Lexeme} {ss : List Statement} → Script d ts ss → is_known (first_version ts) ≡ true
unfolding first_version
script_known (script {v = v} h rest) = ap is_known (known_first (version_of v) _ h) ∙ h

-- the tokens that the machine has read

data Started : List Lexeme → Type 0 where
  started : {a b c : Place} {v : ℤ} → is_version v ≡ true → Started (mark a PipelineWord ∷ (mark b (Number v) ∷ (mark c Semicolon ∷ [])))

data HasStage (most : ℕ) : Stage → List Lexeme → Type 0 where
  has_nothing : {us : List Lexeme} → us ≡ [] → HasStage most Opening us
  has_pipeline : {a : Place} {us : List Lexeme} → us ≡ mark a PipelineWord ∷ [] → HasStage most VersionWanted us
  has_version : {a b : Place} {v : ℤ} {us : List Lexeme} → is_version v ≡ true → us ≡ mark a PipelineWord ∷ (mark b (Number v) ∷ []) → HasStage most VersionGiven us
  has_statements : {bs ts us : List Lexeme} {ss : List Statement} → Started bs → Statements most ts ss → us ≡ bs ++ ts → HasStage most (Between ss) us
  has_let : (a : Place) {bs ts us : List Lexeme} {ss : List Statement} → Started bs → Statements most ts ss → us ≡ bs ++ (ts ++ (mark a LetWord ∷ [])) → HasStage most (LetWanted ss) us
  has_column : (a : Place) {bs ts us : List Lexeme} {ss : List Statement} → Started bs → Statements most ts ss → us ≡ bs ++ (ts ++ (mark a ColumnWord ∷ [])) → HasStage most (ColumnWanted ss) us
  has_let_name : (a p : Place) {n : List ℕ} {bs ts us : List Lexeme} {ss : List Statement} → Started bs → Statements most ts ss → us ≡ bs ++ (ts ++ (mark a LetWord ∷ (mark p (Name n) ∷ []))) → HasStage most (AssignWanted ss (LetHead p n)) us
  has_column_name : (a p : Place) {n : List ℕ} {bs ts us : List Lexeme} {ss : List Statement} → Started bs → Statements most ts ss → us ≡ bs ++ (ts ++ (mark a ColumnWord ∷ (mark p (Name n) ∷ []))) → HasStage most (AssignWanted ss (ColumnHead p n)) us
  has_within : {bs ts hs xs us : List Lexeme} {ss : List Statement} {h : Head} {s : State} → Started bs → Statements most ts ss → HeadRead hs h → Has most s.mode s.frames xs → us ≡ bs ++ (ts ++ (hs ++ xs)) → HasStage most (Within ss h s) us

then_statement : {d : ℕ} {ts : List Lexeme} {ss : List Statement} → Statements d ts ss → (p : Place) {hs xs : List Lexeme} {h : Head} {e : Tree} → HeadRead hs h → Derives d 1 xs e → Statements d (ts ++ (hs ++ (xs ++ (mark p Semicolon ∷ [])))) (ss ++ (record { head = h; tree = e } ∷ []))
then_statement no_statement p head x = statement p head x no_statement
then_statement {d = d} (statement q {hs = hs} {ts = ts} {us = us} {h = h} {e = e} {ss = ss} k y rest) p {hs = gs} {xs = xs} {h = g} {e = f} head x =
    let all = statement q k y (then_statement rest p head x) in
    let tail : List Lexeme = gs ++ (xs ++ (mark p Semicolon ∷ [])) in
    subst (λ z. Statements d z (record { head = h; tree = e } ∷ (ss ++ (record { head = g; tree = f } ∷ [])))) (sym (append_assoc hs (ts ++ (mark q Semicolon ∷ us)) tail ∙ ap (λ z. hs ++ z) (append_assoc ts (mark q Semicolon ∷ us) tail))) all

-- each move keeps the tokens

abbrev StageKeeps : ℕ → Option Stage → List Lexeme → Type 0
StageKeeps most o us = IfSome o (λ s. stage_depth s ≤ most → HasStage most s us)

opening_keeps : (most : ℕ) (us : List Lexeme) (p : Place) (t : Token) → us ≡ [] → StageKeeps most (opening_move t) (us ++ (mark p t ∷ []))
opening_keeps most us p PipelineWord q = λ room. has_pipeline (ap (λ z. z ++ (mark p PipelineWord ∷ [])) q)
opening_keeps most us p t q = tt

version_keeps : (most : ℕ) (us : List Lexeme) (a p : Place) (t : Token) → us ≡ mark a PipelineWord ∷ [] → StageKeeps most (version_move t) (us ++ (mark p t ∷ []))
version_keeps most us a p (Number v) q = by_test (is_version v) (λ h. h)
  where
    by_test : (b : Bool) → (b ≡ true → is_version v ≡ true) → StageKeeps most (if_version b) (us ++ (mark p (Number v) ∷ []))
    by_test true h = λ room. has_version (h refl) (ap (λ z. z ++ (mark p (Number v) ∷ [])) q)
    by_test false h = tt
version_keeps most us a p t q = tt

given_keeps : (most : ℕ) (us : List Lexeme) (a b p : Place) (v : ℤ) (t : Token) → is_version v ≡ true → us ≡ mark a PipelineWord ∷ (mark b (Number v) ∷ []) → StageKeeps most (given_move t) (us ++ (mark p t ∷ []))
given_keeps most us a b p v Semicolon h q = λ room. has_statements (started {a = a} {b = b} {c = p} h) no_statement (ap (λ z. z ++ (mark p Semicolon ∷ [])) q)
given_keeps most us a b p v t h q = tt

more_behind : (us bs ts cs : List Lexeme) (x : Lexeme) → us ≡ bs ++ (ts ++ cs) → us ++ (x ∷ []) ≡ bs ++ (ts ++ (cs ++ (x ∷ [])))
more_behind us bs ts cs x q = ap (λ z. z ++ (x ∷ [])) q ∙ simp append_assoc refl

between_keeps : (most : ℕ) (p : Place) (t : Token) {bs ts us : List Lexeme} {ss : List Statement} → Started bs → Statements most ts ss → us ≡ bs ++ ts → StageKeeps most (between_move ss p t) (us ++ (mark p t ∷ []))
between_keeps most p LetWord {bs = bs} {ts = ts} st k q = λ room. has_let p st k (ap (λ z. z ++ (mark p LetWord ∷ [])) q ∙ append_assoc bs ts (mark p LetWord ∷ []))
between_keeps most p ColumnWord {bs = bs} {ts = ts} st k q = λ room. has_column p st k (ap (λ z. z ++ (mark p ColumnWord ∷ [])) q ∙ append_assoc bs ts (mark p ColumnWord ∷ []))
between_keeps most p ScreenWord {bs = bs} {ts = ts} st k q = λ room. has_within st k (screen_read {p = p}) (nothing_read most) (ap (λ z. z ++ (mark p ScreenWord ∷ [])) q ∙ append_assoc bs ts (mark p ScreenWord ∷ []))
between_keeps most p t st k q = tt

let_keeps : (most : ℕ) (a p : Place) (t : Token) {bs ts us : List Lexeme} {ss : List Statement} → Started bs → Statements most ts ss → us ≡ bs ++ (ts ++ (mark a LetWord ∷ [])) → StageKeeps most (name_move (λ n. AssignWanted ss (LetHead p n)) t) (us ++ (mark p t ∷ []))
let_keeps most a p (Name n) {bs = bs} {ts = ts} {us = us} st k q = λ room. has_let_name a p st k (more_behind us bs ts (mark a LetWord ∷ []) (mark p (Name n)) q)
let_keeps most a p t st k q = tt

column_keeps : (most : ℕ) (a p : Place) (t : Token) {bs ts us : List Lexeme} {ss : List Statement} → Started bs → Statements most ts ss → us ≡ bs ++ (ts ++ (mark a ColumnWord ∷ [])) → StageKeeps most (name_move (λ n. AssignWanted ss (ColumnHead p n)) t) (us ++ (mark p t ∷ []))
column_keeps most a p (Name n) {bs = bs} {ts = ts} {us = us} st k q = λ room. has_column_name a p st k (more_behind us bs ts (mark a ColumnWord ∷ []) (mark p (Name n)) q)
column_keeps most a p t st k q = tt

assign_keeps : (most : ℕ) (p : Place) (t : Token) (cs : List Lexeme) {bs ts us : List Lexeme} {ss : List Statement} (h : Head) → Started bs → Statements most ts ss → HeadRead (cs ++ (mark p Assign ∷ [])) h → us ≡ bs ++ (ts ++ cs) → StageKeeps most (assign_head ss h t) (us ++ (mark p t ∷ []))
assign_keeps most p Assign cs {bs = bs} {ts = ts} {us = us} h st k head q = λ room. has_within st k head (nothing_read most) (more_behind us bs ts cs (mark p Assign) q ∙ ap (λ z. bs ++ (ts ++ z)) (sym (append-nil (cs ++ (mark p Assign ∷ [])))))
assign_keeps most p t cs h st k head q = tt

ended_keeps : (most : ℕ) (p : Place) (t : Token) (e : Option Tree) {bs ts hs xs us : List Lexeme} {ss : List Statement} {h : Head} → ((x : Tree) → e ≡ Some x → Derives most 1 xs x) → Started bs → Statements most ts ss → HeadRead hs h → us ≡ bs ++ (ts ++ (hs ++ xs)) → StageKeeps most (ended ss h e t) (us ++ (mark p t ∷ []))
ended_keeps most p Semicolon (Some x) {bs = bs} {ts = ts} {hs = hs} {xs = xs} {us = us} d st k head q =
    λ room. has_statements st (then_statement k p head (d x refl)) (more_behind us bs ts (hs ++ xs) (mark p Semicolon) q ∙ ap (λ z. bs ++ (ts ++ z)) (append_assoc hs xs (mark p Semicolon ∷ [])))
ended_keeps most p t (Some x) d st k head q = tt
ended_keeps most p t None d st k head q = tt

within_keeps : (most : ℕ) (p : Place) (t : Token) (e : Option Tree) (o : Option State) {bs ts hs xs us : List Lexeme} {ss : List Statement} {h : Head} → ((x : Tree) → e ≡ Some x → Derives most 1 xs x) → Keeps most o (xs ++ (mark p t ∷ [])) → Started bs → Statements most ts ss → HeadRead hs h → us ≡ bs ++ (ts ++ (hs ++ xs)) → StageKeeps most (within_move ss h e t o) (us ++ (mark p t ∷ []))
within_keeps most p t e (Some s) {bs = bs} {ts = ts} {hs = hs} {xs = xs} {us = us} d keeps st k head q =
    λ room. has_within st k head (keeps room) (more_behind us bs ts (hs ++ xs) (mark p t) q ∙ ap (λ z. bs ++ (ts ++ z)) (append_assoc hs xs (mark p t ∷ [])))
within_keeps most p t e None d keeps st k head q = ended_keeps most p t e d st k head q

script_keeps : {most : ℕ} {s : Stage} {us : List Lexeme} (t : Lexeme) → HasStage most s us → StageKeeps most (script_move t s) (us ++ (t ∷ []))
unfolding script_move
script_keeps {most = most} {us = us} (mark p t) (has_nothing q) = opening_keeps most us p t q
script_keeps {most = most} {us = us} (mark p t) (has_pipeline {a = a} q) = version_keeps most us a p t q
script_keeps {most = most} {us = us} (mark p t) (has_version {a = a} {b = b} {v = v} h q) = given_keeps most us a b p v t h q
script_keeps {most = most} (mark p t) (has_statements st k q) = between_keeps most p t st k q
script_keeps {most = most} (mark p t) (has_let a st k q) = let_keeps most a p t st k q
script_keeps {most = most} (mark p t) (has_column a st k q) = column_keeps most a p t st k q
script_keeps {most = most} (mark p t) (has_let_name a b {n = n} st k q) = assign_keeps most p t _ (LetHead b n) st k (let_read {a = a} {p = b} {c = p}) q
script_keeps {most = most} (mark p t) (has_column_name a b {n = n} st k q) = assign_keeps most p t _ (ColumnHead b n) st k (column_read {a = a} {p = b} {c = p}) q
script_keeps {most = most} (mark p t) (has_within {xs = xs} {s = s} st k head has q) = within_keeps most p t (finish s) (move (mark p t) s.mode s.frames) (λ x h. has_finish most s xs x has h) (move_keeps (mark p t) has) st k head q

-- a run keeps the tokens

stage_keeps : (most : ℕ) (o : Option Stage) (us : List Lexeme) → StageKeeps most o us → IfOk (allowed stage_depth most o) (λ s. HasStage most s us)
stage_keeps most None us k = tt
stage_keeps most (Some s) us k = by_test (leb (stage_depth s) most) (λ t. k (leb-true (stage_depth s) most t))
  where
    by_test : (b : Bool) → (b ≡ true → HasStage most s us) → IfOk (cond b (Ok s) (Err Deep)) (λ s. HasStage most s us)
    by_test true f = f refl
    by_test false f = tt

script_run_has : (most : ℕ) (ts : List Lexeme) (s : Stage) (us : List Lexeme) → HasStage most s us → IfOk (script_run most ts s) (λ s. HasStage most s (us ++ ts))
unfolding run_by
script_run_has most [] s us h = subst (λ z. HasStage most s z) (sym (append-nil us)) h
script_run_has most (t ∷ ts) s us h = on_step (script_step most t s) (stage_keeps most (script_move t s) (us ++ (t ∷ [])) (script_keeps t h)) (λ x k. script_run_has most ts x (us ++ (t ∷ [])) k)
  where
    on_step : (r : Result Stage Stop) → IfOk r (λ s. HasStage most s (us ++ (t ∷ []))) → ((x : Stage) → HasStage most x (us ++ (t ∷ [])) → IfOk (script_run most ts x) (λ s. HasStage most s ((us ++ (t ∷ [])) ++ ts))) → IfOk (then_run (script_run most ts) r) (λ s. HasStage most s (us ++ (t ∷ ts)))
    on_step (Ok x) k f = subst (λ z. IfOk (script_run most ts x) (λ s. HasStage most s z)) (append_assoc us (t ∷ []) ts) (f x k)
    on_step (Err e) k f = tt

script_has : (most : ℕ) (ts : List Lexeme) (s : Stage) → script_run most ts Opening ≡ Ok s → HasStage most s ts
script_has most ts s h = subst (λ z. IfOk z (λ s. HasStage most s ts)) h (script_run_has most ts Opening [] (has_nothing refl))

started_script : {d : ℕ} {bs ts us : List Lexeme} {ss : List Statement} → Started bs → Statements d ts ss → us ≡ bs ++ ts → Script d us ss
started_script {d = d} {ss = ss} (started h) k q = subst (λ z. Script d z ss) (sym q) (script h k)

has_script : {most : ℕ} {us : List Lexeme} {s : Stage} (ss : List Statement) → HasStage most s us → script_finish s ≡ Some ss → Script most us ss
has_script {most = most} {us = us} ss (has_statements st k q) e = subst (λ z. Script most us z) (same_Some _ _ e) (started_script st k q)
has_script ss h e = absurd (none-some _ e)

-- what the machine reads, the grammar derives
pub script_derives : (most : ℕ) (ts : List Lexeme) (s : Stage) (ss : List Statement) → script_run most ts Opening ≡ Ok s → script_finish s ≡ Some ss → Script most ts ss
script_derives most ts s ss h done = has_script ss (script_has most ts s h) done

-- whatever was read can be ended

record StageEnds (most : ℕ) (s : Stage) : Type 0 where
  rest : List Lexeme
  scripts : List Statement
  goes : script_run most rest s ≡ Ok (Between scripts)

stage_joined : (most : ℕ) (x : Lexeme) (s t : Stage) → script_move x s ≡ Some t → stage_depth t ≤ most → StageEnds most t → StageEnds most s
stage_joined most x s t h room e = record { rest = x ∷ e.rest; scripts = e.scripts; goes = script_next most x e.rest s t (Ok (Between e.scripts)) h room e.goes }

within_ends : (most : ℕ) (ss : List Statement) (h : Head) (s : State) → CanEnd most s → StageEnds most (Within ss h s)
within_ends most ss h s c =
    let n = c.ends in
    let done : List Statement = ss ++ (record { head = h; tree = n.tree } ∷ []) in
    record {
      rest = c.rest ++ (mark nowhere Semicolon ∷ []);
      scripts = done;
      goes = run_on (script_step most) c.rest (mark nowhere Semicolon ∷ []) (Within ss h s) (Within ss h n.last) (Ok (Between done)) (within_run ss h most c.rest s n.last n.goes)
          (script_next most (mark nowhere Semicolon) [] (Within ss h n.last) (Between done) _ (ends_statement ss h nowhere n.last n.tree n.done) (omega arith) (run_nil (script_step most) (Between done)));
    }

assign_ends : (most : ℕ) (ss : List Statement) (h : Head) → StageEnds most (AssignWanted ss h)
unfolding script_move
assign_ends most ss h = stage_joined most (mark nowhere Assign) (AssignWanted ss h) (Within ss h first) refl (omega arith) (within_ends most ss h first (can_end (nothing_read most)))

between_ends : (most : ℕ) (ss : List Statement) → StageEnds most (Between ss)
between_ends most ss = record { rest = []; scripts = ss; goes = run_nil (script_step most) (Between ss) }

given_ends : (most : ℕ) → StageEnds most VersionGiven
unfolding script_move
given_ends most = stage_joined most (mark nowhere Semicolon) VersionGiven (Between []) refl (omega arith) (between_ends most [])

version_ends : (most : ℕ) → StageEnds most VersionWanted
version_ends most = stage_joined most (mark nowhere (Number (pos 1000000))) VersionWanted VersionGiven (version_goes nowhere (pos 1000000) refl) (omega arith) (given_ends most)

stage_ends : {most : ℕ} {us : List Lexeme} {s : Stage} → HasStage most s us → StageEnds most s
unfolding script_move
stage_ends {most = most} (has_nothing q) = stage_joined most (mark nowhere PipelineWord) Opening VersionWanted refl (omega arith) (version_ends most)
stage_ends {most = most} (has_pipeline q) = version_ends most
stage_ends {most = most} (has_version h q) = given_ends most
stage_ends {most = most} (has_statements {ss = ss} st k q) = between_ends most ss
stage_ends {most = most} (has_let a {ss = ss} st k q) = stage_joined most (mark nowhere (Name some_name)) (LetWanted ss) (AssignWanted ss (LetHead nowhere some_name)) refl (omega arith) (assign_ends most ss (LetHead nowhere some_name))
stage_ends {most = most} (has_column a {ss = ss} st k q) = stage_joined most (mark nowhere (Name some_name)) (ColumnWanted ss) (AssignWanted ss (ColumnHead nowhere some_name)) refl (omega arith) (assign_ends most ss (ColumnHead nowhere some_name))
stage_ends {most = most} (has_let_name a p {n = n} {ss = ss} st k q) = assign_ends most ss (LetHead p n)
stage_ends {most = most} (has_column_name a p {n = n} {ss = ss} st k q) = assign_ends most ss (ColumnHead p n)
stage_ends {most = most} (has_within {ss = ss} {h = h} {s = s} st k head has q) = within_ends most ss h s (can_end has)

-- the theorems

pub script_viable : (most : ℕ) (ts : List Lexeme) (s : Stage) → script_run most ts Opening ≡ Ok s → Viable most ts
script_viable most ts s h =
    let e = stage_ends (script_has most ts s h) in
    (e.rest, e.scripts, script_derives most (ts ++ e.rest) (Between e.scripts) e.scripts (run_on (script_step most) ts e.rest Opening s (Ok (Between e.scripts)) h e.goes) refl)

pub viable_script : (most : ℕ) (ts : List Lexeme) → Viable most ts → (s : Stage) × (script_run most ts Opening ≡ Ok s)
viable_script most ts v =
    let b = bound_ok (script_run most v.0) (script_run most ts Opening) (Between v.1) (sym (run-append (script_step most) ts v.0 Opening) ∙ script_reads v.2) in
    (b.0, b.1)

pub one_script : (d : ℕ) (ts : List Lexeme) (a b : List Statement) → Script d ts a → Script d ts b → a ≡ b
one_script d ts a b x y = same_Some _ _ (ap script_finish (same_ok (sym (script_reads x) ∙ script_reads y)))

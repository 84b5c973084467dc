-- What the grammar derives, the machine reads.
use Rattle.std.proofs.Common.{◌≡◌, ℕ, suc, ◌+◌, ◌≤◌, Bool, true, false, leb, List, [], ◌∷◌, ◌++◌, Option, Some, None, Result, Ok, refl, sym, ap, ◌∙◌, arith, append_assoc}
use Rattle.std.proofs.lemmas.Bool.{le-leb, cond-true}
use Rattle.pl_grammar.specs.declared.Place.{Place}
use Rattle.pl_grammar.specs.declared.BinarySign.{BinarySign}
use Rattle.pl_grammar.specs.declared.PrefixSign.TheVariants.{Minus, Not}
use Rattle.pl_grammar.specs.Tree.{Name, Number, Text, Operator, Dot, Open, Close, Comma, Assign, Lexeme, mark, Tree, number, text, name, call, member, method, Args, no_args, arg, sign_token, prefix_level, level, left_level}
use Rattle.pl_grammar.specs.Grammar.{Derives, a_number, a_text, a_name, a_call, a_group, a_prefix, a_binary, a_member, a_method, ArgsDerive, none, some, OneArg, bare, named, MoreArgs, end, more}
use Rattle.pl_grammar.specs.Machine.{Frame, Prefixed, Behind, Group, Call, Mode, Wanted, ArgWanted, Named, ArgNamed, Membered, Given, Dotted, State, Closed, Stop, Arg, Callee, function, method_of, operand, is_wanted, args_of, applied, asked, depth, close, closed, at, move, state_depth, step, run_by, run, behind, operator_move, dot_move, close_move, comma_move, shut, next_arg}
use Rattle.pl_grammar.proofs.Levels.{levels, prefix_most, stays, stays_at_dot}
use Rattle.pl_grammar.proofs.Runs.{run_on, run_step, run_nil, allowed_some}

-- an operand may begin here: anywhere, or at the beginning of an argument
abbrev pub start : Bool → Mode
start true = Wanted
start false = ArgWanted

-- after the tokens the machine has read e, up to ending what e ends
pub record Reads (most : ℕ) (s : State) (ts : List Lexeme) (l : ℕ) (e : Tree) (fs : List Frame) : Type 0 where
  pub mode : Mode
  pub frames : List Frame
  pub tree : Tree
  pub height : ℕ
  pub goes : run most ts s ≡ Ok (at mode frames)
  pub given : operand mode ≡ Some tree
  pub high : l ≤ height
  pub same : (m : ℕ) → m ≤ l → closed m tree frames ≡ close m height e fs

abbrev pub list_of : Args → List Arg
list_of no_args = []
list_of (arg n e ps) = record { name = n; tree = e } ∷ list_of ps

pub args_of-list_of : (ps : Args) → args_of (list_of ps) ≡ ps
args_of-list_of no_args = refl
args_of-list_of (arg n e ps) = ap (arg n e) (args_of-list_of ps)

-- single moves

wanted_literal : (w : Bool) (p : Place) (v : _) (fs : List Frame) → move (mark p (Number v)) (start w) fs ≡ Some (at (Given (number p v)) fs)
wanted_literal true p v fs = refl
wanted_literal false p v fs = refl

wanted_text : (w : Bool) (p : Place) (t : List ℕ) (fs : List Frame) → move (mark p (Text t)) (start w) fs ≡ Some (at (Given (text p t)) fs)
wanted_text true p v fs = refl
wanted_text false p v fs = refl

wanted_open : (w : Bool) (q : Place) (fs : List Frame) → move (mark q Open) (start w) fs ≡ Some (at Wanted (Group ∷ fs))
wanted_open true q fs = refl
wanted_open false q fs = refl

wanted_sign : (w : Bool) (p : Place) (s : _) (fs : List Frame) → asked fs ≤ prefix_level s → move (mark p (sign_token s)) (start w) fs ≡ Some (at Wanted (Prefixed p s ∷ fs))
wanted_sign true p Minus fs h = cond-true (leb (asked fs) 7) _ _ (le-leb (asked fs) 7 h)
wanted_sign false p Minus fs h = cond-true (leb (asked fs) 7) _ _ (le-leb (asked fs) 7 h)
wanted_sign true p Not fs h = cond-true (leb (asked fs) 3) _ _ (le-leb (asked fs) 3 h)
wanted_sign false p Not fs h = cond-true (leb (asked fs) 3) _ _ (le-leb (asked fs) 3 h)

abbrev name_mode : Bool → Place → List ℕ → Mode
name_mode true p n = Named p n
name_mode false p n = ArgNamed p n

wanted_name : (w : Bool) (p : Place) (n : List ℕ) (fs : List Frame) → move (mark p (Name n)) (start w) fs ≡ Some (at (name_mode w p n) fs)
wanted_name true p n fs = refl
wanted_name false p n fs = refl

name_given : (w : Bool) (p : Place) (n : List ℕ) → operand (name_mode w p n) ≡ Some (name p n)
name_given true p n = refl
name_given false p n = refl

name_open : (w : Bool) (p q : Place) (n : List ℕ) (fs : List Frame) → move (mark q Open) (name_mode w p n) fs ≡ Some (at ArgWanted (Call (function p n) [] None ∷ fs))
name_open true p q n fs = refl
name_open false p q n fs = refl

-- an operand after which the token t ends what the operand ends
behind_operand : (p : Place) (o : BinarySign) (mode : Mode) (frames : List Frame) (tree : Tree) (h : ℕ) (e : Tree) (fs : List Frame) → operand mode ≡ Some tree → closed (level o) tree frames ≡ close (level o) h e fs → asked fs ≤ level o → left_level o ≤ h → move (mark p (Operator o)) mode frames ≡ Some (at Wanted (Behind p o e ∷ fs))
behind_operand p o mode frames tree h e fs given same fits high =
    ap (λ x. operator_move p o x (is_wanted mode) frames) given
    ∙ (ap (behind p o) (same ∙ stays o h e fs fits)
    ∙ cond-true (leb (left_level o) h) _ _ (le-leb (left_level o) h high))

pub shut_operand : (q : Place) (mode : Mode) (frames : List Frame) (tree : Tree) (c : Closed) → operand mode ≡ Some tree → closed 0 tree frames ≡ c → move (mark q Close) mode frames ≡ shut c.tree c.frames
shut_operand q mode frames tree c given same = ap (λ x. close_move x mode frames) given ∙ ap (λ (x : Closed). shut x.tree x.frames) same

comma_operand : (q : Place) (mode : Mode) (frames : List Frame) (tree : Tree) (c : Closed) → operand mode ≡ Some tree → closed 0 tree frames ≡ c → move (mark q Comma) mode frames ≡ next_arg c.tree c.frames
comma_operand q mode frames tree c given same = ap (λ x. comma_move x frames) given ∙ ap (λ (x : Closed). next_arg x.tree x.frames) same

-- single steps are runs
run_one : (most : ℕ) (t : Lexeme) (m : Mode) (fs : List Frame) (s : State) → move t m fs ≡ Some s → depth s.frames ≤ most → run most (t ∷ []) (at m fs) ≡ Ok s
unfolding run_by
run_one most t m fs s h k = run_step (step most) t [] (at m fs) s (Ok s) (allowed_some state_depth most (move t m fs) s h k) refl

-- an operand of one token or one that ended by a parenthesis
whole : (most l : ℕ) (s : State) (ts : List Lexeme) (m : Mode) (e : Tree) (fs : List Frame) → l ≤ 8 → run most ts s ≡ Ok (at m fs) → operand m ≡ Some e → Reads most s ts l e fs
whole most l s ts m e fs low goes given = record { mode = m; frames = fs; tree = e; height = 8; goes = goes; given = given; high = low; same = λ m h. refl }

-- an object of a member is read whole
record ReadsObject (most : ℕ) (s : State) (ts : List Lexeme) (e : Tree) (fs : List Frame) : Type 0 where
  mode : Mode
  goes : run most ts s ≡ Ok (at mode fs)
  given : operand mode ≡ Some e

object_of : (most : ℕ) (s : State) (ts : List Lexeme) (e : Tree) (fs : List Frame) → Reads most s ts 8 e fs → ReadsObject most s ts e fs
object_of most s ts e fs r =
    let same : (record { height = 8; tree = r.tree; frames = r.frames }) ≡ record { height = r.height; tree = e; frames = fs } = sym (stays_at_dot 8 r.tree r.frames) ∙ (r.same 8 (omega arith) ∙ stays_at_dot r.height e fs) in
    record {
      mode = r.mode;
      goes = r.goes ∙ ap (λ (x : Closed). Ok (at r.mode x.frames)) same;
      given = r.given ∙ ap (λ (x : Closed). Some x.tree) same;
    }

dot_operand : (most : ℕ) (q p : Place) (m : Mode) (e : Tree) (n : List ℕ) (ys : List Lexeme) (fs : List Frame) (r : Result State Stop) → operand m ≡ Some e → depth fs ≤ most → run most ys (at (Membered p e n) fs) ≡ r → run most (mark q Dot ∷ (mark p (Name n) ∷ ys)) (at m fs) ≡ r
dot_operand most q p m e n ys fs r given room k =
    run_step (step most) (mark q Dot) (mark p (Name n) ∷ ys) (at m fs) (at (Dotted e) fs) r (allowed_some state_depth most (move (mark q Dot) m fs) _ (ap (λ x. dot_move x fs) given) room)
    (run_step (step most) (mark p (Name n)) ys (at (Dotted e) fs) (at (Membered p e n) fs) r (allowed_some state_depth most (move (mark p (Name n)) (Dotted e) fs) _ refl room) k)

member_open : (p r : Place) (e : Tree) (n : List ℕ) (fs : List Frame) → move (mark r Open) (Membered p e n) fs ≡ Some (at ArgWanted (Call (method_of p e n) [] None ∷ fs))
member_open p r e n fs = refl

close_empty : (q : Place) (c : Callee) (fs : List Frame) → move (mark q Close) ArgWanted (Call c [] None ∷ fs) ≡ Some (at (Given (applied c [])) fs)
close_empty q c fs = refl

assign_name : (p q : Place) (c : Callee) (acc : List Arg) (n : List ℕ) (fs : List Frame) → move (mark q Assign) (ArgNamed p n) (Call c acc None ∷ fs) ≡ Some (at Wanted (Call c acc (Some n) ∷ fs))
assign_name p q c acc n fs = refl

mutual
  pub reads : {d l : ℕ} {ts : List Lexeme} {e : Tree} → Derives d l ts e → (most : ℕ) (w : Bool) (fs : List Frame) → asked fs ≤ l → l ≤ 8 → depth fs + d ≤ most → Reads most (at (start w) fs) ts l e fs
  reads {l = l} (a_number {p = p} {v = v} _) most w fs fits low room =
      whole most l _ _ (Given (number p v)) (number p v) fs low (run_one most (mark p (Number v)) (start w) fs _ (wanted_literal w p v fs) (omega arith)) refl
  reads {l = l} (a_text {p = p} {t = t} _) most w fs fits low room =
      whole most l _ _ (Given (text p t)) (text p t) fs low (run_one most (mark p (Text t)) (start w) fs _ (wanted_text w p t fs) (omega arith)) refl
  reads {l = l} (a_name {p = p} {n = n} _) most w fs fits low room =
      whole most l _ _ (name_mode w p n) (name p n) fs low (run_one most (mark p (Name n)) (start w) fs _ (wanted_name w p n fs) (omega arith)) (name_given w p n)
  reads {l = l} (a_call {d = d} {p = p} {q = q} r {n = n} {ts = ts} {ps = ps} _ inside) most w fs fits low room =
      whole most l _ _ (Given (call p n ps)) (call p n ps) fs low
      (run_step (step most) (mark p (Name n)) (mark q Open ∷ (ts ++ (mark r Close ∷ []))) _ (at (name_mode w p n) fs) _ (allowed_some state_depth most _ _ (wanted_name w p n fs) (omega arith))
      (run_step (step most) (mark q Open) (ts ++ (mark r Close ∷ [])) _ (at ArgWanted (Call (function p n) [] None ∷ fs)) _ (allowed_some state_depth most _ _ (name_open w p q n fs) (omega arith))
      (reads_args inside most r (function p n) fs (omega arith) ∙ ap (λ x. Ok (at (Given (call p n x)) fs)) (args_of-list_of ps))))
      refl
  reads {l = l} (a_group {d = d} {q = q} c {ts = ts} {e = e} _ inside) most w fs fits low room =
      let r = reads inside most true (Group ∷ fs) (omega arith) (omega arith) (omega arith) in
      whole most l _ _ (Given e) e fs low
      (run_step (step most) (mark q Open) (ts ++ (mark c Close ∷ [])) _ (at Wanted (Group ∷ fs)) _ (allowed_some state_depth most _ _ (wanted_open w q fs) (omega arith))
      (run_on (step most) ts (mark c Close ∷ []) _ _ _ r.goes
      (run_one most (mark c Close) r.mode r.frames _ (shut_operand c r.mode r.frames r.tree _ r.given (r.same 0 (omega arith))) (omega arith))))
      refl
  reads {l = l} (a_prefix {d = d} {p = q} {ts = ts} {e = e} s p inside) most w fs fits low room =
      let r = reads inside most true (Prefixed q s ∷ fs) (omega arith) (omega (arith, prefix_most s)) (omega arith) in
      record {
        mode = r.mode;
        frames = r.frames;
        tree = r.tree;
        height = prefix_level s;
        goes = run_step (step most) (mark q (sign_token s)) ts _ (at Wanted (Prefixed q s ∷ fs)) _ (allowed_some state_depth most _ _ (wanted_sign w q s fs (omega arith)) (omega arith)) r.goes;
        given = r.given;
        high = p;
        same = λ m h. r.same m (omega arith) ∙ cond-true (leb m (prefix_level s)) _ _ (le-leb m (prefix_level s) (omega arith));
      }
  reads {l = l} (a_binary {d = d} {p = q} {xs = xs} {ys = ys} {a = a} {b = b} o p left right) most w fs fits low room =
      let lv = levels o in
      let lo = lv.left in
      let lm = lv.left_most in
      let ri = lv.right in
      let mo = lv.most in
      let ra = reads left most w fs (omega arith) (omega arith) room in
      let rb = reads right most true (Behind q o a ∷ fs) (omega arith) (omega arith) room in
      record {
        mode = rb.mode;
        frames = rb.frames;
        tree = rb.tree;
        height = level o;
        goes = run_on (step most) xs (mark q (Operator o) ∷ ys) _ _ _ ra.goes
            (run_step (step most) (mark q (Operator o)) ys _ (at Wanted (Behind q o a ∷ fs)) _
            (allowed_some state_depth most _ _ (behind_operand q o ra.mode ra.frames ra.tree ra.height a fs ra.given (ra.same (level o) lo) (omega arith) ra.high) (omega arith))
            rb.goes);
        given = rb.given;
        high = p;
        same = λ m h. rb.same m (omega arith) ∙ cond-true (leb m (level o)) _ _ (le-leb m (level o) (omega arith));
      }
  reads {l = l} (a_member {p = p} q {n = n} {ts = ts} {e = e} h object) most w fs fits low room =
      let r = object_of most _ ts e fs (reads object most w fs (omega arith) (omega arith) room) in
      whole most l _ _ (Membered p e n) (member p e n) fs low
      (run_on (step most) ts (mark q Dot ∷ (mark p (Name n) ∷ [])) _ _ _ r.goes (dot_operand most q p r.mode e n [] fs _ r.given (omega arith) (run_nil (step most) _)))
      refl
  reads {l = l} (a_method {d = d} {p = p} q o c {n = n} {ts = ts} {us = us} {e = e} {ps = ps} h object inside) most w fs fits low room =
      let r = object_of most _ ts e fs (reads object most w fs (omega arith) (omega arith) room) in
      whole most l _ _ (Given (method p e n ps)) (method p e n ps) fs low
      (run_on (step most) ts _ _ _ _ r.goes (dot_operand most q p r.mode e n (mark o Open ∷ (us ++ (mark c Close ∷ []))) fs _ r.given (omega arith)
      (run_step (step most) (mark o Open) (us ++ (mark c Close ∷ [])) _ (at ArgWanted (Call (method_of p e n) [] None ∷ fs)) _ (allowed_some state_depth most _ _ (member_open p o e n fs) (omega arith))
      (reads_args inside most c (method_of p e n) fs (omega arith) ∙ ap (λ x. Ok (at (Given (method p e n x)) fs)) (args_of-list_of ps)))))
      refl

  pub reads_args : {d : ℕ} {us : List Lexeme} {ps : Args} → ArgsDerive d us ps → (most : ℕ) (z : Place) (c : Callee) (fs : List Frame) → suc (depth fs) + d ≤ most → run most (us ++ (mark z Close ∷ [])) (at ArgWanted (Call c [] None ∷ fs)) ≡ Ok (at (Given (applied c (list_of ps))) fs)
  reads_args none most z c fs room = run_one most (mark z Close) ArgWanted (Call c [] None ∷ fs) _ (close_empty z c fs) (omega arith)
  reads_args (some {ts = ts} {us = us} {n = n} {e = e} one rest) most z c fs room =
      let r = reads_arg one most c [] fs room in
      ap (λ x. run most x (at ArgWanted (Call c [] None ∷ fs))) (append_assoc ts us (mark z Close ∷ []))
      ∙ run_on (step most) ts (us ++ (mark z Close ∷ [])) _ _ _ r.goes (reads_more rest most z c [] n e fs r.mode r.frames r.tree r.height r.given (r.same 0 (omega arith)) room)

  pub reads_arg : {d : ℕ} {ts : List Lexeme} {n : Option (List ℕ)} {e : Tree} → OneArg d ts n e → (most : ℕ) (c : Callee) (acc : List Arg) (fs : List Frame) → suc (depth fs) + d ≤ most → Reads most (at ArgWanted (Call c acc None ∷ fs)) ts 1 e (Call c acc n ∷ fs)
  reads_arg (bare inside) most c acc fs room = reads inside most false (Call c acc None ∷ fs) (omega arith) (omega arith) room
  reads_arg (named {p = p} {q = q} {n = n} {ts = ts} inside) most c acc fs room =
      let r = reads inside most true (Call c acc (Some n) ∷ fs) (omega arith) (omega arith) room in
      record {
        mode = r.mode;
        frames = r.frames;
        tree = r.tree;
        height = r.height;
        given = r.given;
        high = r.high;
        same = r.same;
        goes = run_step (step most) (mark p (Name n)) (mark q Assign ∷ ts) _ (at (ArgNamed p n) (Call c acc None ∷ fs)) _ (allowed_some state_depth most _ _ (wanted_name false p n (Call c acc None ∷ fs)) (omega arith))
            (run_step (step most) (mark q Assign) ts _ (at Wanted (Call c acc (Some n) ∷ fs)) _ (allowed_some state_depth most _ _ (assign_name p q c acc n fs) (omega arith)) r.goes);
      }

  pub reads_more : {d : ℕ} {us : List Lexeme} {ps : Args} → MoreArgs d us ps → (most : ℕ) (z : Place) (c : Callee) (acc : List Arg) (n : Option (List ℕ)) (e : Tree) (fs : List Frame) (m : Mode) (frames : List Frame) (tree : Tree) (h : ℕ) → operand m ≡ Some tree → closed 0 tree frames ≡ record { height = h; tree = e; frames = Call c acc n ∷ fs } → suc (depth fs) + d ≤ most → run most (us ++ (mark z Close ∷ [])) (at m frames) ≡ Ok (at (Given (applied c (acc ++ (record { name = n; tree = e } ∷ list_of ps)))) fs)
  reads_more end most z c acc n e fs m frames tree h given same room =
      run_one most (mark z Close) m frames _ (shut_operand z m frames tree _ given same) (omega arith)
  reads_more (more {p = p} {ts = ts} {us = us} {n = k} {e = x} {ps = ps} one rest) most z c acc n e fs m frames tree h given same room =
      let here : Arg = record { name = n; tree = e } in
      let next : Arg = record { name = k; tree = x } in
      let r = reads_arg one most c (acc ++ (here ∷ [])) fs room in
      run_step (step most) (mark p Comma) ((ts ++ us) ++ (mark z Close ∷ [])) _ (at ArgWanted (Call c (acc ++ (here ∷ [])) None ∷ fs)) _
      (allowed_some state_depth most _ _ (comma_operand p m frames tree _ given same) (omega arith))
      (ap (λ y. run most y (at ArgWanted (Call c (acc ++ (here ∷ [])) None ∷ fs))) (append_assoc ts us (mark z Close ∷ []))
      ∙ (run_on (step most) ts (us ++ (mark z Close ∷ [])) _ _ _ r.goes (reads_more rest most z c (acc ++ (here ∷ [])) k x fs r.mode r.frames r.tree r.height r.given (r.same 0 (omega arith)) room)
      ∙ ap (λ y. Ok (at (Given (applied c y)) fs)) (append_assoc acc (here ∷ []) (next ∷ list_of ps))))

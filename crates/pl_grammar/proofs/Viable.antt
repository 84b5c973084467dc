-- The machine goes on exactly while some continuation is an expression.
use Rattle.std.proofs.Common.{◌≡◌, ℕ, ◌≤◌, true, leb, List, [], ◌∷◌, ◌++◌, Option, Some, None, Ok, refl, sym, ap, subst, ◌∙◌, arith}
use Rattle.std.proofs.lemmas.Bool.{le-leb, cond-true}
use Rattle.std.proofs.lemmas.Option.{same_Some, none-some}
use Rattle.pl_grammar.specs.Tree.{Name, Close, Lexeme, mark, Tree, name, prefix, binary, member, prefix_level, level}
use Rattle.pl_grammar.specs.Grammar.{Derives}
use Rattle.pl_grammar.specs.Machine.{Frame, Prefixed, Behind, Group, Call, Mode, Wanted, ArgWanted, Named, ArgNamed, Membered, Given, Dotted, State, Closed, operand, applied, asked, depth, close, closed, at, move, state_depth, step, run_by, run, first, outermost, finish, finished}
use Rattle.pl_grammar.proofs.Runs.{run_step, allowed_some}
use Rattle.pl_grammar.proofs.Complete.{reads, shut_operand}
use Rattle.pl_grammar.proofs.Sound.{Opens, opens_nothing, Has, has_wanted, has_arg_wanted, has_named, has_arg_named, has_member, has_given, has_dotted, IfOperand, has_operand, close_has, asked_most, budget, weaken}
use Rattle.pl_grammar.specs.Printed.{nowhere}

-- the tokens from s on end an expression
pub record Ends (most : ℕ) (ts : List Lexeme) (s : State) : Type 0 where
  pub last : State
  pub tree : Tree
  pub goes : run most ts s ≡ Ok last
  pub done : finish last ≡ Some tree

pub derives_finish : (most : ℕ) (ts : List Lexeme) (e : Tree) → Derives most 1 ts e → (s : State) × (run most ts first ≡ Ok s) × (finish s ≡ Some e)
derives_finish most ts e x =
    let r = reads x most true [] (omega arith) (omega arith) (omega arith) in
    (at r.mode r.frames, r.goes, ap (λ y. finished y r.frames) r.given ∙ ap (λ (c : Closed). outermost c.tree c.frames) (r.same 0 (omega arith)))

outermost_derives : {most d : ℕ} {fs : List Frame} {bs : List Lexeme} → Opens most d fs bs → (h : ℕ) (e x : Tree) (os us : List Lexeme) → Derives d h os e → asked fs ≤ h → us ≡ bs ++ os → outermost e fs ≡ Some x → Derives most 1 us x
outermost_derives {most = most} {d = d} (opens_nothing p q) h e x os us y fits whole done =
    let same = whole ∙ ap (λ z. z ++ os) q in
    subst (λ z. Derives z 1 us x) p (subst (λ z. Derives d 1 us z) (same_Some _ _ done) (subst (λ z. Derives d 1 z e) (sym same) (weaken y 1 fits)))
outermost_derives o h e x os us y fits whole done = absurd (none-some _ done)

finished_derives : (most : ℕ) (o : Option Tree) (fs : List Frame) (us : List Lexeme) (x : Tree) → IfOperand most o fs us → finished o fs ≡ Some x → Derives most 1 us x
finished_derives most (Some e) fs us x r done =
    let c = close_has r.opens 0 8 e r.own us r.derives (omega (arith, asked_most fs)) r.whole in
    let k = close 0 8 e fs in
    outermost_derives c.opens k.height k.tree x c.own us c.derives c.fits c.whole done
finished_derives most None fs us x r done = absurd (none-some _ done)

pub nothing_read : (most : ℕ) → Has most Wanted [] []
nothing_read most = has_wanted (opens_nothing refl refl)

pub has_finish : (most : ℕ) (s : State) (ts : List Lexeme) (e : Tree) → Has most s.mode s.frames ts → finish s ≡ Some e → Derives most 1 ts e
has_finish most s ts e h done = finished_derives most (operand s.mode) s.frames ts e (has_operand h) done

abbrev closing : List Frame → List Lexeme
closing [] = []
closing (Prefixed p s ∷ fs) = closing fs
closing (Behind p o a ∷ fs) = closing fs
closing (Group ∷ fs) = mark nowhere Close ∷ closing fs
closing (Call c acc n ∷ fs) = mark nowhere Close ∷ closing fs

joined : {most : ℕ} {x : Lexeme} {ts : List Lexeme} {s t : State} → step most x s ≡ Ok t → Ends most ts t → Ends most (x ∷ ts) s
joined {most = most} {x = x} {ts = ts} {s = s} {t = t} h e = record { last = e.last; tree = e.tree; goes = run_step (step most) x ts s t (Ok e.last) h e.goes; done = e.done }

closes : (most : ℕ) (fs : List Frame) (m : Mode) (frames : List Frame) (tree : Tree) (h : ℕ) (e : Tree) → operand m ≡ Some tree → closed 0 tree frames ≡ close 0 h e fs → depth fs ≤ most → Ends most (closing fs) (at m frames)
unfolding run_by
closes most [] m frames tree h e given same room =
    record { last = at m frames; tree = e; goes = refl; done = ap (λ y. finished y frames) given ∙ ap (λ (c : Closed). outermost c.tree c.frames) same }
closes most (Prefixed p s ∷ fs) m frames tree h e given same room =
    closes most fs m frames tree (prefix_level s) (prefix p s e) given (same ∙ cond-true (leb 0 (prefix_level s)) _ _ (le-leb 0 (prefix_level s) (omega arith))) (omega arith)
closes most (Behind p o a ∷ fs) m frames tree h e given same room =
    closes most fs m frames tree (level o) (binary p o a e) given (same ∙ cond-true (leb 0 (level o)) _ _ (le-leb 0 (level o) (omega arith))) (omega arith)
closes most (Group ∷ fs) m frames tree h e given same room =
    joined (allowed_some state_depth most _ _ (shut_operand nowhere m frames tree _ given same) (omega arith)) (closes most fs (Given e) fs e 8 e refl refl (omega arith))
closes most (Call c acc n ∷ fs) m frames tree h e given same room =
    joined (allowed_some state_depth most _ _ (shut_operand nowhere m frames tree _ given same) (omega arith))
    (let x = applied c (acc ++ (record { name = n; tree = e } ∷ [])) in closes most fs (Given x) fs x 8 x refl refl (omega arith))

-- whatever the machine has read can be ended
pub record CanEnd (most : ℕ) (s : State) : Type 0 where
  pub rest : List Lexeme
  pub ends : Ends most rest s

abbrev pub some_name : List ℕ
some_name = 120 ∷ []

wanted_end : {most d : ℕ} {fs : List Frame} {us : List Lexeme} → Opens most d fs us → CanEnd most (at Wanted fs)
wanted_end {most = most} {fs = fs} o = record { rest = mark nowhere (Name some_name) ∷ closing fs; ends = joined (allowed_some state_depth most (move (mark nowhere (Name some_name)) Wanted fs) (at (Named nowhere some_name) fs) refl (omega (arith, budget o))) (closes most fs (Named nowhere some_name) fs (name nowhere some_name) 8 (name nowhere some_name) refl refl (omega (arith, budget o))) }

arg_wanted_end : {most d : ℕ} {fs : List Frame} {us : List Lexeme} → Opens most d fs us → CanEnd most (at ArgWanted fs)
arg_wanted_end {most = most} {fs = fs} o = record { rest = mark nowhere (Name some_name) ∷ closing fs; ends = joined (allowed_some state_depth most (move (mark nowhere (Name some_name)) ArgWanted fs) (at (ArgNamed nowhere some_name) fs) refl (omega (arith, budget o))) (closes most fs (ArgNamed nowhere some_name) fs (name nowhere some_name) 8 (name nowhere some_name) refl refl (omega (arith, budget o))) }

dotted_end : {most d : ℕ} {fs : List Frame} {us : List Lexeme} (e : Tree) → Opens most d fs us → CanEnd most (at (Dotted e) fs)
dotted_end {most = most} {fs = fs} e o = record { rest = mark nowhere (Name some_name) ∷ closing fs; ends = joined (allowed_some state_depth most (move (mark nowhere (Name some_name)) (Dotted e) fs) (at (Membered nowhere e some_name) fs) refl (omega (arith, budget o))) (closes most fs (Membered nowhere e some_name) fs (member nowhere e some_name) 8 (member nowhere e some_name) refl refl (omega (arith, budget o))) }

operand_end : {most d : ℕ} {fs : List Frame} {us : List Lexeme} (m : Mode) (e : Tree) → Opens most d fs us → operand m ≡ Some e → CanEnd most (at m fs)
operand_end {most = most} {fs = fs} m e o h = record { rest = closing fs; ends = closes most fs m fs e 8 e h refl (omega (arith, budget o)) }

pub can_end : {most : ℕ} {m : Mode} {fs : List Frame} {us : List Lexeme} → Has most m fs us → CanEnd most (at m fs)
can_end (has_wanted o) = wanted_end o
can_end (has_arg_wanted o) = arg_wanted_end o
can_end (has_named {p = p} {n = n} o q) = operand_end (Named p n) (name p n) o refl
can_end (has_arg_named {p = p} {n = n} o q) = operand_end (ArgNamed p n) (name p n) o refl
can_end (has_member {p = p} z {n = n} {e = e} o x q) = operand_end (Membered p e n) (member p e n) o refl
can_end (has_given {e = e} o x q) = operand_end (Given e) e o refl
can_end (has_dotted z {e = e} o x q) = dotted_end e o

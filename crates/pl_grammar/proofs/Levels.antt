-- What holds of the levels, by cases on the signs.
use Rattle.std.proofs.Common.{◌≡◌, ℕ, suc, ◌≤◌, ◌<◌, leb, List, [], ◌∷◌, refl, arith}
use Rattle.std.proofs.lemmas.Bool.{cond-false, lt-leb}
use Rattle.pl_grammar.specs.declared.PrefixSign.{PrefixSign}
use Rattle.pl_grammar.specs.declared.BinarySign.{BinarySign}
use Rattle.pl_grammar.specs.declared.PrefixSign.TheVariants.{Minus, Not}
use Rattle.pl_grammar.specs.declared.BinarySign.TheVariants.{Or, And}
use Rattle.pl_grammar.specs.Tree.{Tree, prefix_level, level, left_level, right_level}
use Rattle.pl_grammar.specs.Machine.{Frame, Prefixed, Behind, Group, Call, asked, close}

pub record Levels (o : BinarySign) : Type 0 where
  pub low : 1 ≤ level o
  pub left : level o ≤ left_level o
  pub left_most : left_level o ≤ right_level o
  pub right : right_level o ≡ suc (level o)
  pub most : right_level o ≤ 7

pub levels : (o : BinarySign) → Levels o
levels Or = record { low = omega arith; left = omega arith; left_most = omega arith; right = omega arith; most = omega arith }
levels o = record { low = omega arith; left = omega arith; left_most = omega arith; right = omega arith; most = omega arith }

-- no binary sign is of the level of a prefix sign
pub apart : (s : PrefixSign) (o : BinarySign) → prefix_level s ≤ level o → prefix_level s < level o
apart Minus o h = absurd (omega (arith, (levels o).most, (levels o).right))
apart Not Or h = absurd (omega arith)
apart Not And h = absurd (omega arith)
apart Not o h = omega arith

pub prefix_least : (s : PrefixSign) → 3 ≤ prefix_level s
prefix_least Minus = omega arith
prefix_least Not = omega arith

pub prefix_most : (s : PrefixSign) → prefix_level s ≤ 7
prefix_most Minus = omega arith
prefix_most Not = omega arith

-- an operator of a level that its place allows ends nothing of its surroundings
pub stays : (o : BinarySign) (h : ℕ) (e : Tree) (fs : List Frame) → asked fs ≤ level o → close (level o) h e fs ≡ record { height = h; tree = e; frames = fs }
stays o h e [] p = refl
stays o h e (Prefixed q s ∷ fs) p = cond-false (leb (level o) (prefix_level s)) _ _ (lt-leb (level o) (prefix_level s) (apart s o p))
stays o h e (Behind r q a ∷ fs) p = cond-false (leb (level o) (level q)) _ _ (lt-leb (level o) (level q) (omega (arith, (levels q).right)))
stays o h e (Group ∷ fs) p = refl
stays o h e (Call c ps n ∷ fs) p = refl

-- a dot ends nothing
pub stays_at_dot : (h : ℕ) (e : Tree) (fs : List Frame) → close 8 h e fs ≡ record { height = h; tree = e; frames = fs }
stays_at_dot h e [] = refl
stays_at_dot h e (Prefixed p s ∷ fs) = cond-false (leb 8 (prefix_level s)) _ _ (lt-leb 8 (prefix_level s) (omega (arith, prefix_most s)))
stays_at_dot h e (Behind p q a ∷ fs) = cond-false (leb 8 (level q)) _ _ (lt-leb 8 (level q) (omega (arith, (levels q).right, (levels q).most)))
stays_at_dot h e (Group ∷ fs) = refl
stays_at_dot h e (Call c ps n ∷ fs) = refl

-- Where trees are the same, places aside, their nodes are of one kind.
use Rattle.std.proofs.Common.{◌≡◌, Box, Global, Option, Some, None, refl, sym, ap, ◌∙◌, subst}
use lib.IntN.{ℤ}
use Rattle.pl_grammar.specs.declared.Place.{Place}
use Rattle.pl_grammar.specs.declared.PrefixSign.{PrefixSign}
use Rattle.pl_grammar.specs.declared.BinarySign.{BinarySign}
use Rattle.pl_grammar.specs.Tree.{Tree, number, text, name, call, prefix, binary, member, method}
use Rattle.pl_grammar.specs.Places.{bare}
use Rattle.pl_syntax.specs.Plain.{plain, tree_of}
use Rattle.pl_syntax.specs.declared.tree.Expr.{Expr}
use Rattle.pl_syntax.specs.declared.tree.ArgList.{ArgList}
use Rattle.pl_syntax.specs.declared.tree.ExprNode.{ExprNode, None', Some'}
use Rattle.pl_syntax.specs.declared.tree.ExprNode.TheVariants.{Number, Text, Name, Call, Prefix, Prefix', Binary, Binary', Member, Member'}
use Rattle.pl_syntax.specs.declared.word.Word.{Word}

abbrev pub IsMember : ExprNode → Type 0
IsMember n = (e : Box Expr Global) × ((w : Word) × ((ps : Option ArgList) × (n ≡ Member e w ps)))

-- the node is of the tree's kind
abbrev pub IsLike : Tree → ExprNode → Type 0
IsLike (number p v) n = (x : ℤ) × (n ≡ Number x)
IsLike (text p t) n = (w : Word) × (n ≡ Text w)
IsLike (name p t) n = (w : Word) × (n ≡ Name w)
IsLike (call p t ps) n = (w : Word) × ((qs : ArgList) × (n ≡ Call w qs))
IsLike (prefix p s e) n = (z : PrefixSign) × ((d : Box Expr Global) × (n ≡ Prefix z d))
IsLike (binary p o a b) n = (z : BinarySign) × ((l : Box Expr Global) × ((r : Box Expr Global) × (n ≡ Binary z l r)))
IsLike (member p e t) n = IsMember n
IsLike (method p e t ps) n = IsMember n

itself : (n : ExprNode) (q : Place) → IsLike (bare (tree_of n q)) n
unfolding bare
itself (Number x) q = (x, refl)
itself (Text w) q = (w, refl)
itself (Name w) q = (w, refl)
itself (Call w ps) q = (w, (ps, refl))
itself (Prefix' s b p e) q = (s, (record { ptr = b.ptr; alloc = b.alloc; value = record { place = p; node = e } }, refl))
itself (Binary' s b p l c r e) q =
    (s, (record { ptr = b.ptr; alloc = b.alloc; value = record { place = p; node = l } }, (record { ptr = c.ptr; alloc = c.alloc; value = record { place = r; node = e } }, refl)))
itself (Member' b p e w None') q = (record { ptr = b.ptr; alloc = b.alloc; value = record { place = p; node = e } }, (w, (None, refl)))
itself (Member' b p e w (Some' ps)) q = (record { ptr = b.ptr; alloc = b.alloc; value = record { place = p; node = e } }, (w, (Some ps, refl)))

-- the second node is of the first one's kind
pub like : (a b : Expr) (n : ExprNode) → a.node ≡ n → bare (plain a) ≡ bare (plain b) → IsLike (bare (tree_of n a.place)) b.node
like a b n e h = subst (λ t. IsLike t b.node) (sym h ∙ ap (λ m. bare (tree_of m a.place)) e) (itself b.node b.place)

pub like_member : (e : Box Expr Global) (w : Word) (ps : Option ArgList) (p : Place) (m : ExprNode) → IsLike (bare (tree_of (Member e w ps) p)) m → IsMember m
unfolding bare
like_member e w None p m h = h
like_member e w (Some ps) p m h = h

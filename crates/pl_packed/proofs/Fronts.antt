-- Whether bytes begin with a front.
use Rattle.std.proofs.Common.{◌≡◌, ℕ, Bool, true, false, List, length, drop, sym, subst, ◌∙◌, ◌==◌}
use Rattle.std.specs.List.{starts_with}
use Rattle.std.proofs.lemmas.Bool.Decides.{Decides-eqb}
use Rattle.std.proofs.lemmas.Slice.Eq.{starts_is}
use Rattle.pl_packed.specs.Says.{Begins}

pub begins-yes : (bytes front : List ℕ) (r : Bool) → r ≡ starts_with ◌==◌ bytes front → r ≡ true → Begins front bytes
begins-yes bytes front r e t = (drop (length front) bytes, (starts_is Decides-eqb bytes front r e).0 t)

pub begins-no : (bytes front : List ℕ) (r : Bool) → r ≡ starts_with ◌==◌ bytes front → r ≡ false → ¬ Begins front bytes
begins-no bytes front r e f h =
    let t = (starts_is Decides-eqb bytes front r e).1 h.0 h.1 in
    let bad : false ≡ true = sym f ∙ t in
    cc

pub begins-is : (bytes : List ℕ) {front other : List ℕ} → front ≡ other → Begins front bytes → Begins other bytes
begins-is bytes {front} {other} e h = subst (λ s. Begins s bytes) e h

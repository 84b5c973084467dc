-- A text that is taken in pieces.
use Rattle.std.proofs.Common.{◌≡◌, ◌≤◌, ◌+◌, ◌-◌, ◌++◌, ℕ, List, [], Option, Some, None, length, take, drop, arith, append_assoc, refl, sym, ap, take-add}
use Rattle.std.proofs.lemmas.Grind.{common_steps}
use Rattle.std.proofs.lemmas.List.{append-nil}
use Rattle.pl_outside.specs.Taken.{TakesAll}

pub takes-none : (a : Option (List ℕ)) → TakesAll a a []
takes-none None = refl
takes-none (Some old) = ap Some (sym (append-nil old))

pub takes-more : (a b c : Option (List ℕ)) (xs ys : List ℕ) → TakesAll a b xs → TakesAll b c ys → TakesAll a c (xs ++ ys)
takes-more None b c xs ys first second = rw (second, first) refl
takes-more (Some old) b c xs ys first second = rw (second, first) (ap Some (append_assoc old xs ys))

-- the next piece of a text is taken from what is left after the first d bytes
pub take-more : (d n : ℕ) (text : List ℕ) → n ≤ length text - d → take (d + n) text ≡ take d text ++ take n (take (length text - d) (drop d text))
take-more d n text h = grind (arith, common_steps, take-add d n text)

pub takes-next : (a b c : Option (List ℕ)) (d n : ℕ) (text : List ℕ) → n ≤ length text - d
    → TakesAll a b (take d text) → TakesAll b c (take n (take (length text - d) (drop d text))) → TakesAll a c (take (d + n) text)
takes-next a b c d n text h first second = rw (take-more d n text h) (takes-more a b c _ _ first second)

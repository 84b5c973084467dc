-- What is found by one member after another.
use Rattle.std.proofs.Common.{◌≡◌, List, [], ◌∷◌, length, Some, None, Result, Ok, Err, refl, sym, subst, arith}
use Rattle.std.proofs.lemmas.Result.{IfOk-at_ok}
use Rattle.pl_pipeline.specs.Term.{Graph}
use Rattle.pl_grammar.specs.declared.Place.{Place}
use Rattle.pl_terms.specs.Nodes.{interned}
use Rattle.pl_check.specs.declared.operation.Operation.TheVariants as op
use Rattle.pl_check.specs.declared.operation.Operation.{Operation}
use Rattle.pl_check.specs.declared.fault.CheckError.{CheckError}
use Rattle.pl_check.specs.declared.terms.Terms as declared
use Rattle.pl_check.specs.declared.value.Value as code
use Rattle.pl_check.specs.declared.value.Written as cw
use Rattle.pl_check.specs.declared.fault.CheckFault.TheVariants.{BadArgument}
use Rattle.pl_check.specs.Seen.{value_of, all_written}
use Rattle.pl_check.specs.Answers.{Finds}
use Rattle.pl_check.specs.Faults.{Broken, ◌>>=◌}
use Rattle.pl_check.specs.Values.{Value}
use Rattle.pl_check.specs.Rules.{Written}
use Rattle.pl_check.specs.Typed.{Terms, Found, found, called, written, kept_where, greatest_where, one_asset, mask_of}
use Rattle.pl_check.specs.Standing.{IsInGraph, WrittenAreInGraph, IsSound, Kept}
use Rattle.pl_check.proofs.Listed.{few-none}
use Rattle.pl_check.proofs.Walk.{called-kept, method-kept, mask-stands}

-- what is left after a part that was found
pub finds-then : (after : declared.Terms) (res : Result code.Value CheckError) {r : Result (Found Value) Broken} {x : Found Value} (g : Found Value → Result (Found Value) Broken) → r ≡ Ok x
    → Finds value_of after res (g x) → Finds value_of after res (r >>= g)
finds-then after res {r = r} {x = x} g e h = subst (λ q. Finds value_of after res (q >>= g)) (sym e) h

pub after-where : (p : Place) (v f : Value) {s t : Terms} {x : Value} → IsInGraph s.graph v → IsInGraph s.graph f → IsSound s → kept_where interned p v f s ≡ Ok (found x t) → Kept s (found x t)
after-where p v f {s = s} i k sound h = IfOk-at_ok (Kept s) h (method-kept p v (written None f ∷ []) s op.Where i (k, tt) sound)

pub after-filter : (p : Place) (ws : List Written) {s t : Terms} {x : Value} → WrittenAreInGraph s.graph ws → IsSound s → called interned p op.StaticSids [] ws s ≡ Ok (found x t) → Kept s (found x t)
after-filter p ws {s = s} g sound h = IfOk-at_ok (Kept s) h (called-kept p op.StaticSids [] ws s refl (few-none op.StaticSids) tt g sound)

-- one argument is asked, and no more
pub not-one : (p : Place) (v : Value) (ws : List cw.Written) (s : Terms) → (length ws ≡ 1 → ⊥) → one_asset interned p v (all_written ws) s ≡ Err (record { fault = BadArgument; place = p })
unfolding all_written
not-one p v [] s h = refl
not-one p v (w ∷ []) s h = absurd (h refl)
not-one p v (w ∷ (x ∷ ws)) s h = refl

pub one-is : (p : Place) (v : Value) (ws : List cw.Written) (s : Terms) → length ws ≡ 1 → one_asset interned p v (all_written ws) s ≡ (called interned p op.StaticSids [] (all_written ws) s >>= λ f. greatest_where interned p v f.value f.terms)
unfolding all_written
one-is p v [] s h = absurd (omega (arith, h))
one-is p v (w ∷ []) s h = refl
one-is p v (w ∷ (x ∷ ws)) s h = absurd (omega (arith, h))

pub mask-of-stands : (o : Operation) (ws : List Written) (f : Value) (g : Graph) → mask_of o ws ≡ Some f → WrittenAreInGraph g ws → IsInGraph g f
mask-of-stands (op.Summarize told) ws f g h k = mask-stands ws f g h k
mask-of-stands o ws f g h k = absurd (let no : None ≡ Some f = h in cc)

-- What each token does to a text that is viable so far.
use Rattle.std.proofs.Common.{◌≡◌, ℕ, ◌≤◌, ◌<◌, Bool, true, false, cond, leb, List, [], ◌∷◌, ◌++◌, Option, Some, None, Ok, Err, refl, sym, ap, subst, ◌∙◌, arith}
use Rattle.std.proofs.lemmas.Bool.{leb-true}
use Rattle.pl_grammar.specs.Tree.{Lexeme}
use Rattle.pl_grammar.specs.Machine.{Deep, allowed, run_by}
use Rattle.pl_grammar.specs.Script.{Statement, Script, Viable, Stage, Opening, script_move, stage_depth, script_step, script_run, script_finish}
use Rattle.std.proofs.lemmas.Option.{same_Some, none-some}
use Rattle.pl_grammar.proofs.Runs.{same_ok, no_ok, run-append, run_on, run_nil, bound_ok}
use Rattle.pl_grammar.proofs.ScriptRead.{script_next, script_viable, viable_script, script_reads}

step_move : (most : ℕ) (t : Lexeme) (s x : Stage) → script_step most t s ≡ Ok x → (script_move t s ≡ Some x) × (stage_depth x ≤ most)
step_move most t s x h = of_option (script_move t s) h
  where
    by_test : (y : Stage) (b : Bool) → leb (stage_depth y) most ≡ b → cond b (Ok y) (Err Deep) ≡ Ok x → (Some y ≡ Some x) × (stage_depth x ≤ most)
    by_test y true e k =
        let same = same_ok k in
        (ap (λ z. Some z) same, subst (λ z. stage_depth z ≤ most) same (leb-true (stage_depth y) most e))
    by_test y false e k = absurd (no_ok k)

    of_option : (o : Option Stage) → allowed stage_depth most o ≡ Ok x → (o ≡ Some x) × (stage_depth x ≤ most)
    of_option (Some y) k = by_test y (leb (stage_depth y) most) refl k
    of_option None k = absurd (no_ok k)

-- the limit has no say in where the machine comes to
same_run : (most d : ℕ) (ts : List Lexeme) (a s x : Stage) → script_run most ts a ≡ Ok s → script_run d ts a ≡ Ok x → s ≡ x
unfolding run_by
same_run most d [] a s x h k = sym (same_ok h) ∙ same_ok k
same_run most d (t ∷ ts) a s x h k =
    let b = bound_ok (script_run most ts) (script_step most t a) s h in
    let c = bound_ok (script_run d ts) (script_step d t a) x k in
    let here = step_move most t a b.0 b.1 in
    let there = step_move d t a c.0 c.1 in
    let same : b.0 ≡ c.0 = same_Some _ _ (sym here.0 ∙ there.0) in
    same_run most d ts c.0 s x (subst (λ z. script_run most ts z ≡ Ok s) same b.2) c.2

-- a higher limit stops nothing
raised : (most d : ℕ) → most ≤ d → (ts : List Lexeme) (a s : Stage) → script_run most ts a ≡ Ok s → script_run d ts a ≡ Ok s
unfolding run_by
raised most d le [] a s h = h
raised most d le (t ∷ ts) a s h =
    let b = bound_ok (script_run most ts) (script_step most t a) s h in
    let here = step_move most t a b.0 b.1 in
    script_next d t ts a b.0 (Ok s) here.0 (omega (arith, here.1)) (raised most d le ts b.0 s b.2)

-- a token for which there is no move ends all hope, whatever the limit
pub stuck_never : (most : ℕ) (ts : List Lexeme) (t : Lexeme) (s : Stage) → script_run most ts Opening ≡ Ok s → script_move t s ≡ None → (d : ℕ) → Viable d (ts ++ (t ∷ [])) → ⊥
unfolding run_by
stuck_never most ts t s h none d v =
    let r = viable_script d (ts ++ (t ∷ [])) v in
    let b = bound_ok (script_run d (t ∷ [])) (script_run d ts Opening) r.0 (sym (run-append (script_step d) ts (t ∷ []) Opening) ∙ r.1) in
    let same = same_run most d ts Opening s b.0 h b.1 in
    let c = bound_ok (script_run d []) (script_step d t b.0) r.0 b.2 in
    let e = step_move d t b.0 c.0 c.1 in
    none-some _ (sym none ∙ (ap (script_move t) same ∙ e.0))

-- a token whose construct is one too many: it is viable but for the limit
pub deep_viable : (most : ℕ) (ts : List Lexeme) (t : Lexeme) (s x : Stage) → script_run most ts Opening ≡ Ok s → script_move t s ≡ Some x → most < stage_depth x → ((d : ℕ) × Viable d (ts ++ (t ∷ []))) × (Viable most (ts ++ (t ∷ [])) → ⊥)
unfolding run_by
deep_viable most ts t s x h some over = (
  (stage_depth x, script_viable (stage_depth x) (ts ++ (t ∷ [])) x (run_on (script_step (stage_depth x)) ts (t ∷ []) Opening s (Ok x) (raised most (stage_depth x) (omega arith) ts Opening s h) (script_next (stage_depth x) t [] s x (Ok x) some (omega arith) (run_nil (script_step (stage_depth x)) x)))),
  λ v.
      let r = viable_script most (ts ++ (t ∷ [])) v in
      let b = bound_ok (script_run most (t ∷ [])) (script_run most ts Opening) r.0 (sym (run-append (script_step most) ts (t ∷ []) Opening) ∙ r.1) in
      let same = same_ok (sym h ∙ b.1) in
      let c = bound_ok (script_run most []) (script_step most t b.0) r.0 b.2 in
      let e = step_move most t b.0 c.0 c.1 in
      let there : x ≡ c.0 = same_Some _ _ (sym some ∙ (ap (script_move t) same ∙ e.0)) in
      let low : stage_depth x ≤ most = subst (λ z. stage_depth z ≤ most) (sym there) e.1 in
      omega arith,
)

-- the tokens as they are derive no script where the machine can't end
pub unfinished : (most : ℕ) (ts : List Lexeme) (s : Stage) → script_run most ts Opening ≡ Ok s → script_finish s ≡ None → (d : ℕ) (ss : List Statement) → Script d ts ss → ⊥
unfinished most ts s h none d ss x =
    let same = same_run most d ts Opening s _ h (script_reads x) in
    none-some _ (sym none ∙ ap script_finish same)

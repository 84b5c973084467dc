-- What a walk leaves, and what it has put down at the end.
use Rattle.std.proofs.Common.{◌≡◌, ℕ, suc, ◌+◌, ◌<◌, ◌≤◌, true, false, ℤ, pos, List, [], ◌∷◌, ◌++◌, length, map, fold, is_some, None, sym, ◌∙◌, ap, subst, arith}
use Rattle.std.proofs.lemmas.List.{map-append}
use Rattle.pl_spec.specs.Limits.{most_lines}
use Rattle.pl_spec.specs.Rounding.{IsCell}
use Rattle.pl_terms.specs.Checked.{Parts, pipeline_of}
use Rattle.pl_world.specs.declared.world.World.{World}
use Rattle.pl_world.specs.Worlds.{world_of}
use Rattle.pl_spec.proofs.Each.{each_both}
use Rattle.pl_derivation.specs.declared.line.Line.{Line}
use Rattle.pl_derivation.specs.Listed.{line_of}
use Rattle.pl_derivation.specs.Texts.{AreWritable, IsWritable}
use Rattle.pl_derivation.specs.Facts.{Fact, number_in, premises}
use Rattle.pl_derivation.specs.Facts.Fact.{TermValue}
use Rattle.pl_derivation.specs.Right.{is_fitting}
use Rattle.pl_derivation.specs.Walks.{finish, facts_for, line_for, derivation}
use Rattle.pl_explain.specs.Looking.{look, row_at, IsInsertionOf}
use Rattle.pl_explain.specs.Given.{has, IsReady}
use Rattle.pl_explain.specs.declared.fact_numbers.FactNumbers.{FactNumbers}
use Rattle.pl_explain.specs.declared.rows.Rows.{Rows}
use Rattle.pl_explain.specs.declared.walk.Walk.{Walk}
use Rattle.pl_explain.specs.Judging.{IsTable}
use Rattle.pl_explain.specs.Walking.{HasWalked, HoldsSoFar, Finishes, IsTooLong}
use Rattle.pl_explain.proofs.Judging.{table-more}
use Rattle.pl_explain.proofs.Walks.{walk-more}

module _ (w : World) (c : Parts) where
  -- a walk that has put down one fact more stands
  pub stands-more : (most : ℕ) (f : Fact) (old mid new : Walk) (line : Line) (x : ℤ) → HoldsSoFar w c old → has old.stated f ≡ false
      → Finishes w c most old mid (premises (world_of w) (pipeline_of c) (number_in (world_of w) (pipeline_of c)) f)
      → HoldsSoFar w c mid → IsInsertionOf f x mid.stated new.stated → new.lines.items ≡ mid.lines.items ++ line ∷ []
      → line_of line ≡ line_for (world_of w) (pipeline_of c) f → IsWritable (line_of line) → IsTable w c mid.stated new.rows
      → x ≡ number_in (world_of w) (pipeline_of c) f → IsCell x → is_fitting (world_of w) (pipeline_of c) f ≡ true → length new.lines.items ≤ most_lines
      → HoldsSoFar w c new
  stands-more most f old mid new line x from fresh first stands states put is text table value cell fits few = record {
    facts = fold (finish (world_of w) (pipeline_of c) (suc most)) from.facts (f ∷ []);
    walked = walk-more w c most f old fresh mid new line x states put is first from.facts from.walked (suc most) (omega arith);
    table = table-more f x mid.stated new.stated states w c new.rows table value cell fits;
    writable = subst AreWritable (sym (ap (map line_of) put ∙ map-append line_of mid.lines.items (line ∷ []))) (each_both IsWritable (map line_of mid.lines.items) (line_of line ∷ []) stands.writable (text, tt));
    few = few;
  }

  -- where nothing is stated and no row is kept
  pub table-first : (stated : FactNumbers) (rows : Rows) → ((f : Fact) → look stated f ≡ None) → ((t d : ℕ) → row_at rows t d ≡ None) → IsReady w c → IsTable w c stated rows
  table-first stated rows none no_row ready = record {
    ready = ready;
    truth = λ f x e. absurd (let bad = sym (none f) ∙ e in cc);
    fits = λ f e. absurd (let bad = sym (ap is_some (none f)) ∙ e in cc);
    kept = λ t d row e. absurd (let bad = sym (no_row t d) ∙ e in cc);
  }

  -- before the first fact
  module _ (walk : Walk) (stated : (f : Fact) → look walk.stated f ≡ None) (rows : (t d : ℕ) → row_at walk.rows t d ≡ None) (none : walk.lines.items ≡ []) where
    pub walked-none : HasWalked w c walk []
    walked-none = record { stated = λ f. ap is_some (stated f); lines = ap (map line_of) none }

    pub stands-first : IsReady w c → HoldsSoFar w c walk
    stands-first ready = record {
      facts = [];
      walked = walked-none;
      table = table-first walk.stated walk.rows stated rows ready;
      writable = subst (λ ls. AreWritable (map line_of ls)) (sym none) tt;
      few = (let e = ap (λ (ls : List Line). length ls) none in omega (arith, e));
    }

    -- at the end the lines are the derivation
    pub derived : (t a d : ℕ) (new : Walk) → Finishes w c (t + 2) walk new (TermValue t a (pos d) ∷ []) → map line_of new.lines.items ≡ derivation (world_of w) (pipeline_of c) t a (pos d)
    derived t a d new done =
        let deep : t + 2 ≡ suc (suc t) = omega arith in
        (done [] walked-none (t + 2) (omega arith)).lines ∙ ap (λ k. map (line_for (world_of w) (pipeline_of c)) (finish (world_of w) (pipeline_of c) k [] (TermValue t a (pos d)))) deep

    pub derived-long : (t a d : ℕ) → IsTooLong w c (t + 2) walk (TermValue t a (pos d) ∷ []) → most_lines < length (facts_for (world_of w) (pipeline_of c) (TermValue t a (pos d)))
    derived-long t a d long =
        let deep : t + 2 ≡ suc (suc t) = omega arith in
        subst (λ k. most_lines < length (finish (world_of w) (pipeline_of c) k [] (TermValue t a (pos d)))) deep (long [] walked-none (t + 2) (omega arith))

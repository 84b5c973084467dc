-- Walks, one after the other.
use Rattle.std.proofs.Common.{◌≡◌, ℕ, zero, suc, ◌+◌, ◌<◌, ◌≤◌, Bool, true, false, ◌||◌, if◌then◌else◌, ℤ, List, [], ◌∷◌, ◌++◌, length, length-append, map, fold, refl, sym, ◌∙◌, ap, subst, arith}
use Rattle.std.specs.List.{list_all}
use Rattle.std.proofs.Math.Path.{fun_ext}
use Rattle.std.proofs.Math.Bool.{or-false}
use Rattle.std.proofs.lemmas.Bool.{and_from, and_parts, or_left}
use Rattle.std.proofs.lemmas.List.{map-append, length-map}
use Rattle.std.proofs.lemmas.List.Folds.{list_any-append}
use Rattle.std.proofs.lemmas.List.Sums.{fold-append}
use Rattle.pl_spec.specs.Limits.{most_lines}
use Rattle.pl_terms.specs.Checked.{Parts, pipeline_of}
use Rattle.pl_world.specs.declared.world.World.{World}
use Rattle.pl_world.specs.Worlds.{world_of}
use Rattle.pl_derivation.specs.declared.line.Line.{Line}
use Rattle.pl_derivation.specs.Listed.{line_of}
use Rattle.pl_derivation.specs.Facts.{Fact, same_fact, number_in, premises}
use Rattle.pl_derivation.specs.Walks.{is_in, finish, line_for}
use Rattle.pl_derivation.proofs.Growing.{grow}
use Rattle.pl_derivation.proofs.Walking.{in_last}
use Rattle.pl_explain.specs.declared.fact_numbers.FactNumbers.{FactNumbers}
use Rattle.pl_explain.specs.Looking.{IsInsertionOf}
use Rattle.pl_explain.specs.Given.{has, has_all}
use Rattle.pl_explain.specs.declared.walk.Walk.{Walk}
use Rattle.pl_explain.specs.Walking.{HasWalked, HoldsSoFar, Finishes, IsTooLong}
use Rattle.pl_explain.proofs.Judging.{has-more}

module _ (w : World) (c : Parts) where
  abbrev walked_by : ℕ → List Fact → List Fact → List Fact
  walked_by depth done fs = fold (finish (world_of w) (pipeline_of c) depth) done fs

  abbrev own : Fact → List Fact
  own f = premises (world_of w) (pipeline_of c) (number_in (world_of w) (pipeline_of c)) f

  -- a list that is walked is at least as long as what was finished
  longer : (depth : ℕ) (done fs : List Fact) → length done ≤ length (walked_by depth done fs)
  longer depth done [] = omega arith
  longer depth done (f ∷ fs) =
      let more = grow (world_of w) (pipeline_of c) depth done f in
      let size : length (finish (world_of w) (pipeline_of c) depth done f) ≡ length done + length more.0 = ap (λ (l : List Fact). length l) more.1 ∙ length-append done more.0 in
      let rest = longer depth (finish (world_of w) (pipeline_of c) depth done f) fs in
      omega (arith, size, rest)

  -- what is finished stays so
  stays : (depth : ℕ) (done : List Fact) (f g : Fact) → is_in done g ≡ true → is_in (finish (world_of w) (pipeline_of c) depth done f) g ≡ true
  stays depth done f g e =
      let more = grow (world_of w) (pipeline_of c) depth done f in
      ap (λ l. is_in l g) more.1 ∙ list_any-append (same_fact g) done more.0 ∙ or_left (is_in done g) (is_in more.0 g) e

  stays-all : (depth : ℕ) (fs done : List Fact) (g : Fact) → is_in done g ≡ true → is_in (walked_by depth done fs) g ≡ true
  stays-all depth [] done g e = e
  stays-all depth (f ∷ fs) done g e = stays-all depth fs (finish (world_of w) (pipeline_of c) depth done f) g (stays depth done f g e)

  -- a fact that is walked to is finished
  finished-in : (depth : ℕ) (done : List Fact) (f : Fact) → is_in (finish (world_of w) (pipeline_of c) (suc depth) done f) f ≡ true
  finished-in depth done f = here (is_in done f) refl
    where
      here : (b : Bool) → is_in done f ≡ b → is_in (if b then done else walked_by depth done (own f) ++ f ∷ []) f ≡ true
      here true e = e
      here false e = in_last (walked_by depth done (own f)) f

  all-in : (depth : ℕ) (fs done : List Fact) → list_all (is_in (walked_by (suc depth) done fs)) fs ≡ true
  all-in depth [] done = refl
  all-in depth (f ∷ fs) done =
      let first : is_in (walked_by (suc depth) (finish (world_of w) (pipeline_of c) (suc depth) done f) fs) f ≡ true =
      stays-all (suc depth) fs (finish (world_of w) (pipeline_of c) (suc depth) done f) f (finished-in depth done f) in
      and_from _ _ first (all-in depth fs (finish (world_of w) (pipeline_of c) (suc depth) done f))

  -- facts that are finished are not finished again
  one-again : (depth : ℕ) (done : List Fact) (f : Fact) → is_in done f ≡ true → finish (world_of w) (pipeline_of c) depth done f ≡ done
  one-again zero done f e = refl
  one-again (suc depth) done f e = ap (λ b. if b then done else walked_by depth done (own f) ++ f ∷ []) e

  all-again : (depth : ℕ) (fs done : List Fact) → list_all (is_in done) fs ≡ true → walked_by depth done fs ≡ done
  all-again depth [] done e = refl
  all-again depth (f ∷ fs) done e =
      let both = and_parts (is_in done f) (list_all (is_in done) fs) e in
      ap (λ l. walked_by depth l fs) (one-again depth done f both.0) ∙ all-again depth fs done both.1

  same-stated : (stated : FactNumbers) (facts fs : List Fact) → ((f : Fact) → has stated f ≡ is_in facts f) → has_all stated fs ≡ list_all (is_in facts) fs
  same-stated stated facts fs h = ap (λ test. list_all test fs) (fun_ext h)

  module _ (most : ℕ) where
    pub walk-none : (old : Walk) → Finishes w c most old old []
    walk-none old facts h depth l = h

    pub walk-stated : (old : Walk) (fs : List Fact) → has_all old.stated fs ≡ true → Finishes w c most old old fs
    walk-stated old fs e facts h depth l = subst (HasWalked w c old) (sym (all-again depth fs facts (sym (same-stated old.stated facts fs h.stated) ∙ e))) h

    pub walk-both : (old mid new : Walk) (fs gs : List Fact) → Finishes w c most old mid fs → Finishes w c most mid new gs → Finishes w c most old new (fs ++ gs)
    walk-both old mid new fs gs first second facts h depth l =
        subst (HasWalked w c new) (sym (fold-append (finish (world_of w) (pipeline_of c) depth) facts fs gs))
        (second (walked_by depth facts fs) (first facts h depth l) depth l)

    pub long-front : (old : Walk) (fs gs : List Fact) → IsTooLong w c most old fs → IsTooLong w c most old (fs ++ gs)
    long-front old fs gs long facts h depth l =
        let front = long facts h depth l in
        let more = longer depth (walked_by depth facts fs) gs in
        let same = ap (λ (x : List Fact). length x) (fold-append (finish (world_of w) (pipeline_of c) depth) facts fs gs) in
        omega (arith, front, more, same)

    pub long-back : (old mid : Walk) (fs gs : List Fact) → Finishes w c most old mid fs → IsTooLong w c most mid gs → IsTooLong w c most old (fs ++ gs)
    long-back old mid fs gs first long facts h depth l =
        subst (λ x. most_lines < length x) (sym (fold-append (finish (world_of w) (pipeline_of c) depth) facts fs gs))
        (long (walked_by depth facts fs) (first facts h depth l) depth l)

    -- what a walk has finished is stated
    pub walk-states : (old new : Walk) (fs : List Fact) → HoldsSoFar w c old → Finishes w c (suc most) old new fs → has_all new.stated fs ≡ true
    walk-states old new fs stands finished =
        let all = finished stands.facts stands.walked (suc most) (omega arith) in
        same-stated new.stated (walked_by (suc most) stands.facts fs) fs all.stated ∙ all-in most fs stands.facts

    -- ---- a fact after its premises

    module _ (f : Fact) (old : Walk) (fresh : has old.stated f ≡ false) where
      -- it is put after them
      anew : (facts : List Fact) → HasWalked w c old facts → (depth : ℕ) → finish (world_of w) (pipeline_of c) (suc depth) facts f ≡ walked_by depth facts (own f) ++ f ∷ []
      anew facts h depth = ap (λ b. if b then facts else walked_by depth facts (own f) ++ f ∷ []) (sym (h.stated f) ∙ fresh)

      module _ (mid new : Walk) (line : Line) (x : ℤ) (states : IsInsertionOf f x mid.stated new.stated) (put : new.lines.items ≡ mid.lines.items ++ line ∷ [])
          (is : line_of line ≡ line_for (world_of w) (pipeline_of c) f) where
        walked-more : (facts : List Fact) → HasWalked w c mid facts → HasWalked w c new (facts ++ f ∷ [])
        walked-more facts h = record {
          stated = λ g. has-more f x mid.stated new.stated states g ∙ ap (λ b. b || same_fact g f) (h.stated g) ∙ ap (λ b. is_in facts g || b) (sym (or-false (same_fact g f)))
              ∙ sym (list_any-append (same_fact g) facts (f ∷ []));
          lines = ap (map line_of) put ∙ map-append line_of mid.lines.items (line ∷ []) ∙ ap (λ ls. ls ++ line_of line ∷ []) h.lines
              ∙ ap (λ l. map (line_for (world_of w) (pipeline_of c)) facts ++ l ∷ []) is ∙ sym (map-append (line_for (world_of w) (pipeline_of c)) facts (f ∷ []));
        }

        pub walk-more : Finishes w c most old mid (own f) → Finishes w c (suc most) old new (f ∷ [])
        walk-more first facts h zero l = absurd (omega (arith, l))
        walk-more first facts h (suc depth) l = subst (HasWalked w c new) (sym (anew facts h depth)) (walked-more (walked_by depth facts (own f)) (first facts h depth (omega (arith, l))))

      -- where there is no room for it
      pub long-last : (mid : Walk) → Finishes w c most old mid (own f) → length mid.lines.items ≡ most_lines → IsTooLong w c (suc most) old (f ∷ [])
      long-last mid first full facts h zero l = absurd (omega (arith, l))
      long-last mid first full facts h (suc depth) l =
          let done = walked_by depth facts (own f) in
          let walked = first facts h depth (omega (arith, l)) in
          let lines = sym (length-map mid.lines.items line_of) ∙ ap (λ (ls : List _). length ls) walked.lines ∙ length-map done (line_for (world_of w) (pipeline_of c)) in
          let size = ap (λ (ls : List Fact). length ls) (anew facts h depth) ∙ length-append done (f ∷ []) in
          omega (arith, full, lines, size)

      -- or none for its premises
      pub long-first : IsTooLong w c most old (own f) → IsTooLong w c (suc most) old (f ∷ [])
      long-first long facts h zero l = absurd (omega (arith, l))
      long-first long facts h (suc depth) l =
          let done = walked_by depth facts (own f) in
          let more = long facts h depth (omega (arith, l)) in
          let size = ap (λ (ls : List Fact). length ls) (anew facts h depth) ∙ length-append done (f ∷ []) in
          omega (arith, more, size)

  -- a greater bound on the depth asks for no more
  pub deeper : (a b : ℕ) (old new : Walk) (fs : List Fact) → a ≤ b → Finishes w c a old new fs → Finishes w c b old new fs
  deeper a b old new fs le h facts s depth l = h facts s depth (omega (arith, le, l))

  pub deeper-long : (a b : ℕ) (old : Walk) (fs : List Fact) → a ≤ b → IsTooLong w c a old fs → IsTooLong w c b old fs
  deeper-long a b old fs le h facts s depth l = h facts s depth (omega (arith, le, l))

-- What is judged of a line of a bar, and of one of a value.
use Rattle.std.proofs.Common.{◌≡◌, ℕ, ◌<◌, ◌≤◌, Bool, true, false, not, ◌&&◌, if◌then◌else◌, ℤ, pos, List, Option, Some, None, option_map, refl, sym, ◌∙◌, ap, subst, arith, [], ◌∷◌, suc, fold, All, inl}
use Rattle.std.specs.Option.{option_and_then, option_eq}
use Rattle.std.specs.Ordering.{int_eq}
use Rattle.std.specs.Int.RustNames.{int_lt}
use Rattle.std.specs.Cmp.Lexicographic.{pointwise}
use Rattle.std.proofs.lemmas.Int.{ints}
use Rattle.std.proofs.lemmas.Bool.{true≢false, and_from}
use Rattle.std.proofs.lemmas.Bool.Decides.{Decides-int_eq}
use Rattle.std.proofs.Math.Bool.{and-false, and-true}
use Rattle.pl_spec.specs.Rounding.{IsCell, MISSING}
use Rattle.pl_spec.specs.declared.Column.{Column}
use Rattle.pl_spec.specs.World.{World as SpecWorld}
use Rattle.pl_pipeline.specs.Table.{Pipeline}
use Rattle.pl_pipeline.specs.Term.{term_at}
use Rattle.pl_pipeline.specs.Value.{is_steady}
use Rattle.pl_terms.specs.Checked.{Parts, pipeline_of}
use Rattle.pl_terms.specs.Uses.{is_used}
use Rattle.pl_derivation.specs.Lines.{Line}
use Rattle.pl_derivation.specs.Lines.Line.{SeenLine, ValueLine, SeenValueLine}
use Rattle.pl_derivation.specs.Facts.{Fact, known_day, number_in}
use Rattle.pl_derivation.specs.Facts.Fact.{Seen, TermValue, SeenValue}
use Rattle.pl_derivation.specs.Right.{session_of, fact_of, has_sid, is_fitting, seen_cells, last_cell}
use Rattle.pl_world.specs.declared.world.World.{World}
use Rattle.pl_world.specs.Worlds.{world_of}
use Rattle.pl_world.specs.Views.{seen_in}
use Rattle.pl_world.proofs.Views.{own-cell}
use Rattle.pl_explain.specs.declared.fact_numbers.FactNumbers.{FactNumbers}
use Rattle.pl_explain.specs.declared.rows.Rows.{Rows}
use Rattle.pl_explain.specs.Looking.{look, IsInsertionOf}
use Rattle.pl_explain.specs.Given.{has, has_all, own_facts, IsGiven, KeepsRows}
use Rattle.pl_explain.specs.Judging.{judged_about, judged, IsJudgement, IsTable}
use Rattle.pl_explain.proofs.Given.{got, lacked, has-none, has-some}
use Rattle.pl_explain.proofs.Judging.{not-right, table-more, states-again, states-line, other-rows}

less-not : (s d : ℕ) → d ≤ s → int_lt (pos s) (pos d) ≡ false
less-not s d h = grind (arith, ints)

less-is : (s d : ℕ) → s < d → int_lt (pos s) (pos d) ≡ true
less-is s d h = grind (arith, ints)

-- where one of four tests fails, all four do
second-fails : (a b c d : Bool) → b ≡ false → (a && b && c && d) ≡ false
second-fails true b c d e = rw e refl
second-fails false b c d e = refl

third-fails : (a b c d : Bool) → c ≡ false → (a && b && c && d) ≡ false
third-fails true true c d e = rw e refl
third-fails true false c d e = refl
third-fails false b c d e = refl

fourth-fails : (a b c d : Bool) → d ≡ false → (a && b && c && d) ≡ false
fourth-fails true true true d e = e
fourth-fails true true false d e = refl
fourth-fails true false c d e = refl
fourth-fails false b c d e = refl

module _ {w : World} {c : Parts} {stated : FactNumbers} {rows : Rows} (table : IsTable w c stated rows) where
  abbrev v : SpecWorld
  v = world_of w

  abbrev p : Pipeline
  p = pipeline_of c

  -- ---- a bar

  module _ (k : Column) (sid : ℕ) (bar_day day : ℤ) (cells : List ℤ) where
    abbrev bar : Line
    bar = SeenLine k sid bar_day day cells

    wrong : false ≡ judged v p stated bar → IsJudgement w c bar stated stated rows false
    wrong e = not-right w c bar stated rows table e

    pub bar-unknown : has_sid v sid ≡ false → IsJudgement w c bar stated stated rows false
    bar-unknown e = wrong (here (session_of v bar_day) (session_of v day))
      where
        here : (o q : Option ℕ) → false ≡ judged_about v p stated bar (option_and_then (λ s. option_map (λ d. Seen k sid (pos s) (pos d)) q) o)
        here None q = refl
        here (Some s) None = refl
        here (Some s) (Some d) = rw e refl

    pub bar-no-session : session_of v bar_day ≡ None → IsJudgement w c bar stated stated rows false
    bar-no-session e = wrong (rw e refl)

    pub bar-no-day : session_of v day ≡ None → IsJudgement w c bar stated stated rows false
    bar-no-day e = wrong (here (session_of v bar_day))
      where
        here : (o : Option ℕ) → false ≡ judged_about v p stated bar (option_and_then (λ s. option_map (λ d. Seen k sid (pos s) (pos d)) (session_of v day)) o)
        here None = refl
        here (Some s) = rw e refl

    module _ (s d : ℕ) (bar_is : session_of v bar_day ≡ Some s) (day_is : session_of v day ≡ Some d) where
      bar-fact : fact_of v bar ≡ Some (Seen k sid (pos s) (pos d))
      bar-fact = rw (bar_is, day_is) refl

      pub bar-late : d ≤ s → IsJudgement w c bar stated stated rows false
      bar-late l = wrong (sym (ap (judged_about v p stated bar) bar-fact ∙ rw (less-not s d l, and-false (has_sid v sid)) refl))

      module _ (known : has_sid v sid ≡ true) (early : s < d) where
        exact : (b : Bool) → b ≡ pointwise int_eq cells (seen_cells v sid k (pos s) (pos d)) → b ≡ judged v p stated bar
        exact b e = e ∙ sym (ap (judged_about v p stated bar) bar-fact ∙ step)
          where
            step : judged_about v p stated bar (Some (Seen k sid (pos s) (pos d))) ≡ pointwise int_eq cells (seen_cells v sid k (pos s) (pos d))
            step = rw (known, less-is s d early) refl

        pub bar-other : false ≡ pointwise int_eq cells (seen_cells v sid k (pos s) (pos d)) → IsJudgement w c bar stated stated rows false
        bar-other e = wrong (exact false e)

        pub bar-right : true ≡ pointwise int_eq cells (seen_cells v sid k (pos s) (pos d)) → (x : ℤ) (new : FactNumbers) → IsInsertionOf (Seen k sid (pos s) (pos d)) x stated new
            → x ≡ number_in v p (Seen k sid (pos s) (pos d)) → IsCell x → IsJudgement w c bar stated new rows true
        bar-right e x new states number cell = record {
          exact = exact true e;
          table = table-more (Seen k sid (pos s) (pos d)) x stated new states w c rows table number cell (and_from (has_sid v sid) (int_lt (pos s) (pos d)) known (less-is s d early));
          stated = λ _. states-line (Seen k sid (pos s) (pos d)) x stated new states v bar bar-fact;
        }

  -- ---- a value

  module _ (t sid : ℕ) (day x : ℤ) (known : Option ℤ) where
    abbrev value : Line
    value = ValueLine t sid day x known

    -- the day of the record is stated
    abbrev states_day : ℕ → Bool
    states_day d = option_eq int_eq known (known_day v p (TermValue t sid (pos d)))

    -- and the number is
    abbrev states_both : ℕ → Bool
    states_both d = int_eq x (number_in v p (TermValue t sid (pos d))) && states_day d

    -- a fact that fits nowhere is not stated either
    unfit : (has_sid v sid && is_used p t) ≡ false → IsJudgement w c value stated stated rows false
    unfit e = not-right w c value stated rows table (here (session_of v day))
      where
        there : (d : ℕ) (b : Bool) → has stated (TermValue t sid (pos d)) ≡ b
            → false ≡ (if b then states_both d else is_fitting v p (TermValue t sid (pos d)) && has_all stated (own_facts w c t sid d None) && states_both d)
        there d true h = absurd (true≢false (sym (table.fits (TermValue t sid (pos d)) h) ∙ e))
        there d false h = rw e refl

        here : (o : Option ℕ) → false ≡ judged_about v p stated value (option_map (λ d. TermValue t sid (pos d)) o)
        here None = refl
        here (Some d) = there d (has stated (TermValue t sid (pos d))) refl

    pub value-unknown : has_sid v sid ≡ false → IsJudgement w c value stated stated rows false
    value-unknown e = unfit (ap (λ b. b && is_used p t) e)

    pub value-unused : is_used p t ≡ false → IsJudgement w c value stated stated rows false
    value-unused e = unfit (ap (λ b. has_sid v sid && b) e ∙ and-false (has_sid v sid))

    pub value-no-day : session_of v day ≡ None → IsJudgement w c value stated stated rows false
    value-no-day e = not-right w c value stated rows table (rw e refl)

    -- of the session, and of a term and an asset that are the line's own
    module _ (d : ℕ) (day_is : session_of v day ≡ Some d) (u a : ℕ) (term : u ≡ t) where
      fact-is : fact_of v value ≡ Some (TermValue t sid (pos d))
      fact-is = rw day_is refl

      -- what the judgement computes to, where the fact is stated already and where not
      judged-as : (b : Bool) → has stated (TermValue t sid (pos d)) ≡ b
          → judged v p stated value ≡ (if b then states_both d else is_fitting v p (TermValue t sid (pos d)) && has_all stated (own_facts w c t sid d None) && states_both d)
      judged-as b h = ap (judged_about v p stated value) fact-is
          ∙ ap (λ r. if r then states_both d else is_fitting v p (TermValue t sid (pos d)) && has_all stated (own_facts w c t sid d None) && states_both d) h

      -- the day of the record of that term and that asset
      own-day : a ≡ sid → (b : Bool) → b ≡ option_eq int_eq known (known_day v p (TermValue u a (pos d))) → states_day d ≡ b
      own-day place b e = sym (e ∙ ap (λ i. option_eq int_eq known (known_day v p (TermValue i a (pos d)))) term ∙ ap (λ i. option_eq int_eq known (known_day v p (TermValue t i (pos d)))) place)

      -- another day is stated
      pub value-other-day : a ≡ sid → false ≡ option_eq int_eq known (known_day v p (TermValue u a (pos d))) → IsJudgement w c value stated stated rows false
      value-other-day place e = not-right w c value stated rows table (sym (judged-as (has stated (TermValue t sid (pos d))) refl ∙ here (has stated (TermValue t sid (pos d)))))
        where
          none : states_both d ≡ false
          none = ap (λ b. int_eq x (number_in v p (TermValue t sid (pos d))) && b) (own-day place false e) ∙ and-false (int_eq x (number_in v p (TermValue t sid (pos d))))

          here : (b : Bool) → (if b then states_both d else is_fitting v p (TermValue t sid (pos d)) && has_all stated (own_facts w c t sid d None) && states_both d) ≡ false
          here true = none
          here false = ap (λ b. is_fitting v p (TermValue t sid (pos d)) && has_all stated (own_facts w c t sid d None) && b) none
              ∙ and-false (is_fitting v p (TermValue t sid (pos d)) && has_all stated (own_facts w c t sid d None))

      -- the record's own day
      module _ (place : a ≡ sid) (since : true ≡ option_eq int_eq known (known_day v p (TermValue u a (pos d)))) where
        number-alone : states_both d ≡ int_eq x (number_in v p (TermValue t sid (pos d)))
        number-alone = ap (λ b. int_eq x (number_in v p (TermValue t sid (pos d))) && b) (own-day place true since) ∙ and-true (int_eq x (number_in v p (TermValue t sid (pos d))))

        pub value-repeat : (y : ℤ) → look stated (TermValue u sid (pos d)) ≡ Some y → (b : Bool) → b ≡ int_eq x y → IsJudgement w c value stated stated rows b
        value-repeat y at b e =
            let own : look stated (TermValue t sid (pos d)) ≡ Some y = ap (λ t. look stated (TermValue t sid (pos d))) (sym term) ∙ at in
            let there = has-some stated (TermValue t sid (pos d)) y own in
            record {
              exact = e ∙ ap (int_eq x) (table.truth (TermValue t sid (pos d)) y own).0 ∙ sym (judged-as true there ∙ number-alone);
              table = table;
              stated = λ _. states-again v stated value (TermValue t sid (pos d)) fact-is there;
            }

        module _ (fresh : look stated (TermValue u sid (pos d)) ≡ None) (known_sid : has_sid v sid ≡ true) (used : is_used p t ≡ true) (after : Rows) (kept : KeepsRows w c stated after) where
          fits : is_fitting v p (TermValue t sid (pos d)) ≡ true
          fits = and_from (has_sid v sid) (is_used p t) known_sid used

          judged-anew : judged v p stated value ≡ (has_all stated (own_facts w c u a d None) && int_eq x (number_in v p (TermValue t sid (pos d))))
          judged-anew =
              let none : look stated (TermValue t sid (pos d)) ≡ None = ap (λ t. look stated (TermValue t sid (pos d))) (sym term) ∙ fresh in
              judged-as false (has-none stated (TermValue t sid (pos d)) none)
              ∙ ap (λ r. is_fitting v p (TermValue t sid (pos d)) && has_all stated (own_facts w c t sid d None) && r) number-alone
              ∙ ap (λ r. r && has_all stated (own_facts w c t sid d None) && int_eq x (number_in v p (TermValue t sid (pos d)))) fits
              ∙ ap (λ a. has_all stated (own_facts w c t a d None) && int_eq x (number_in v p (TermValue t sid (pos d)))) (sym place)
              ∙ ap (λ t'. has_all stated (own_facts w c t' a d None) && int_eq x (number_in v p (TermValue t sid (pos d)))) (sym term)

          -- one of its premises is not stated
          pub value-lacks : IsGiven IsCell stated (own_facts w c u a d None) (seen_in w c u None a d) None → IsJudgement w c value stated stated after false
          value-lacks h = not-right w c value stated after (other-rows w c stated rows after table kept)
              (sym (judged-anew ∙ ap (λ r. r && int_eq x (number_in v p (TermValue t sid (pos d)))) (lacked stated None h refl)))

          module _ (y : ℤ) (h : IsGiven IsCell stated (own_facts w c u a d None) (seen_in w c u None a d) (Some y)) where
            is : y ≡ number_in v p (TermValue t sid (pos d))
            is = (got stated (Some y) y h refl).1 ∙ own-cell w c u a d ∙ ap (λ t. number_in v p (TermValue t a (pos d))) term ∙ ap (λ a. number_in v p (TermValue t a (pos d))) place

            exact-as : (b : Bool) → b ≡ int_eq x y → b ≡ judged v p stated value
            exact-as b e = e ∙ ap (int_eq x) is ∙ sym (judged-anew ∙ ap (λ r. r && int_eq x (number_in v p (TermValue t sid (pos d)))) (got stated (Some y) y h refl).0)

            pub value-other : false ≡ int_eq x y → IsJudgement w c value stated stated after false
            value-other e = not-right w c value stated after (other-rows w c stated rows after table kept) (exact-as false e)

            pub value-right : true ≡ int_eq x y → IsCell x → (new : FactNumbers) → IsInsertionOf (TermValue u sid (pos d)) x stated new → IsJudgement w c value stated new after true
            value-right e cell new states =
                let own : IsInsertionOf (TermValue t sid (pos d)) x stated new = subst (λ t. IsInsertionOf (TermValue t sid (pos d)) x stated new) term states in
                record {
                  exact = exact-as true e;
                  table = table-more (TermValue t sid (pos d)) x stated new own w c after (other-rows w c stated rows after table kept) ((Decides-int_eq x y).0 (sym e) ∙ is) cell fits;
                  stated = λ _. states-line (TermValue t sid (pos d)) x stated new own v value fact-is;
                }

  -- ---- a value as it is seen from a later session

  module _ (t sid : ℕ) (own day x : ℤ) where
    abbrev told : Line
    told = SeenValueLine t sid own day x

    -- a fact that fits nowhere
    told-unfit : ((s d : ℕ) → is_fitting v p (SeenValue t sid (pos s) (pos d)) ≡ false) → IsJudgement w c told stated stated rows false
    told-unfit e = not-right w c told stated rows table (here (session_of v own) (session_of v day))
      where
        here : (o q : Option ℕ) → false ≡ judged_about v p stated told (option_and_then (λ s. option_map (λ d. SeenValue t sid (pos s) (pos d)) q) o)
        here None q = refl
        here (Some s) None = refl
        here (Some s) (Some d) = rw (e s d) refl

    pub told-unknown : has_sid v sid ≡ false → IsJudgement w c told stated stated rows false
    told-unknown e = told-unfit (λ s d. rw e refl)

    pub told-unused : is_used p t ≡ false → IsJudgement w c told stated stated rows false
    told-unused e = told-unfit (λ s d. second-fails (has_sid v sid) (is_used p t) (not (is_steady (term_at p.graph t))) (int_lt (pos s) (pos d)) e)

    -- the value of a steady term is told on its own session alone
    pub told-steady : (u : ℕ) → u ≡ t → is_steady (term_at p.graph u) ≡ true → IsJudgement w c told stated stated rows false
    told-steady u term e =
        let stays : not (is_steady (term_at p.graph t)) ≡ false = ap (λ u. not (is_steady (term_at p.graph u))) (sym term) ∙ ap not e in
        told-unfit (λ s d. third-fails (has_sid v sid) (is_used p t) (not (is_steady (term_at p.graph t))) (int_lt (pos s) (pos d)) stays)

    pub told-no-session : session_of v own ≡ None → IsJudgement w c told stated stated rows false
    told-no-session e = not-right w c told stated rows table (rw e refl)

    pub told-no-day : session_of v day ≡ None → IsJudgement w c told stated stated rows false
    told-no-day e = not-right w c told stated rows table (here (session_of v own))
      where
        here : (o : Option ℕ) → false ≡ judged_about v p stated told (option_and_then (λ s. option_map (λ d. SeenValue t sid (pos s) (pos d)) (session_of v day)) o)
        here None = refl
        here (Some s) = rw e refl

    module _ (s d : ℕ) (own_is : session_of v own ≡ Some s) (day_is : session_of v day ≡ Some d) where
      abbrev fact : Fact
      fact = SeenValue t sid (pos s) (pos d)

      told-fact : fact_of v told ≡ Some fact
      told-fact = rw (own_is, day_is) refl

      judged-so : judged v p stated told ≡ (is_fitting v p fact && has_all stated (own_facts w c t sid s (Some d)) && int_eq x (number_in v p fact))
      judged-so = ap (judged_about v p stated told) told-fact

      pub told-late : d ≤ s → IsJudgement w c told stated stated rows false
      told-late l =
          let none : is_fitting v p fact ≡ false = fourth-fails (has_sid v sid) (is_used p t) (not (is_steady (term_at p.graph t))) (int_lt (pos s) (pos d)) (less-not s d l) in
          not-right w c told stated rows table (sym (judged-so ∙ ap (λ b. b && has_all stated (own_facts w c t sid s (Some d)) && int_eq x (number_in v p fact)) none))

      module _ (u a : ℕ) (term : u ≡ t) (place : a ≡ sid) (known : has_sid v sid ≡ true) (used : is_used p t ≡ true) (moves : is_steady (term_at p.graph u) ≡ false) (early : s < d)
          (after : Rows) (kept : KeepsRows w c stated after) where
        told-fits : is_fitting v p fact ≡ true
        told-fits =
            let moving : not (is_steady (term_at p.graph t)) ≡ true = ap (λ u. not (is_steady (term_at p.graph u))) (sym term) ∙ ap not moves in
            rw (known, used, moving, less-is s d early) refl

        judged-told : judged v p stated told ≡ (has_all stated (own_facts w c u a s (Some d)) && int_eq x (number_in v p fact))
        judged-told =
            judged-so
            ∙ ap (λ r. r && has_all stated (own_facts w c t sid s (Some d)) && int_eq x (number_in v p fact)) told-fits
            ∙ ap (λ a. has_all stated (own_facts w c t a s (Some d)) && int_eq x (number_in v p fact)) (sym place)
            ∙ ap (λ t. has_all stated (own_facts w c t a s (Some d)) && int_eq x (number_in v p fact)) (sym term)

        -- one of its premises is not stated
        pub told-lacks : IsGiven IsCell stated (own_facts w c u a s (Some d)) (seen_in w c u (Some d) a s) None → IsJudgement w c told stated stated after false
        told-lacks h = not-right w c told stated after (other-rows w c stated rows after table kept)
            (sym (judged-told ∙ ap (λ r. r && int_eq x (number_in v p fact)) (lacked stated None h refl)))

        module _ (y : ℤ) (h : IsGiven IsCell stated (own_facts w c u a s (Some d)) (seen_in w c u (Some d) a s) (Some y)) where
          told-is : y ≡ number_in v p fact
          told-is = (got stated (Some y) y h refl).1 ∙ ap (λ t. number_in v p (SeenValue t a (pos s) (pos d))) term ∙ ap (λ a. number_in v p (SeenValue t a (pos s) (pos d))) place

          told-as : (b : Bool) → b ≡ int_eq x y → b ≡ judged v p stated told
          told-as b e = e ∙ ap (int_eq x) told-is ∙ sym (judged-told ∙ ap (λ r. r && int_eq x (number_in v p fact)) (got stated (Some y) y h refl).0)

          pub told-other : false ≡ int_eq x y → IsJudgement w c told stated stated after false
          told-other e = not-right w c told stated after (other-rows w c stated rows after table kept) (told-as false e)

          pub told-right : true ≡ int_eq x y → IsCell x → (new : FactNumbers) → IsInsertionOf (SeenValue u sid (pos s) (pos d)) x stated new → IsJudgement w c told stated new after true
          told-right e cell new states =
              let own : IsInsertionOf fact x stated new = subst (λ t. IsInsertionOf (SeenValue t sid (pos s) (pos d)) x stated new) term states in
              record {
                exact = told-as true e;
                table = table-more fact x stated new own w c after (other-rows w c stated rows after table kept) ((Decides-int_eq x y).0 (sym e) ∙ told-is) cell told-fits;
                stated = λ _. states-line fact x stated new own v told told-fact;
              }

last-from : (z : ℤ) → IsCell z → (xs : List ℤ) → All IsCell xs → IsCell (fold (λ x y. y) z xs)
last-from z h [] all = h
last-from z h (x ∷ xs) all = last-from x (all 0 x (omega arith)) xs (λ k d l. all (suc k) d (omega (arith, l)))

-- the last of cells is one
pub last-cell : (xs : List ℤ) → All IsCell xs → IsCell (last_cell xs)
last-cell xs all = last-from MISSING (inl refl) xs all

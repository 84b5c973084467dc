-- What a node reads is what it mentions.
use Rattle.std.proofs.Common.{◌≡◌, ℕ, suc, ◌<◌, true, ℤ, List, [], ◌∷◌, ◌++◌, Option, Some, None, filter_map, option_to_list, slice_get, length, refl, sym, ◌∙◌, ap, inl, inr, ◌==◌, ◌⊎◌}
use Rattle.std.proofs.lemmas.Bool.{or_cases, eqb-true, true≢false}
use Rattle.std.proofs.lemmas.List.Folds.{list_any-append}
use Rattle.std.proofs.lemmas.Option.{slice_get_within}
use Rattle.pl_pipeline.specs.Term.{Input, Node, Graph, MentionsBelow}
use Rattle.pl_pipeline.specs.Term.Input.{BarColumn, TermInput}
use Rattle.pl_pipeline.specs.Graph.{contains, input_number, mentions, mentions_at, Used}
use Rattle.pl_pipeline.specs.Lows.{Reads, Needs}
use Rattle.pl_pipeline.proofs.Contained.{in-front, in-back, in-alone, input-in, option-in}

pub in-number : (is : List Input) (t : ℕ) → contains (filter_map input_number is) t ≡ true
    → (i : ℕ) × (slice_get is i ≡ Some (TermInput t))
in-number [] t h = absurd (true≢false (sym h))
in-number (BarColumn c ∷ is) t h = let r = in-number is t h in (suc r.0, r.1)
in-number (TermInput k ∷ is) t h = elim (or_cases (k == t) (contains (filter_map input_number is) t) h) [
  | inl e ↦ (0, ap (λ j. Some (TermInput j)) (eqb-true k t e))
  | inr f ↦ (let r = in-number is t f in (suc r.0, r.1))
]

pub option-is : (o : Option ℕ) (t : ℕ) → contains (option_to_list o) t ≡ true → o ≡ Some t
option-is None t h = absurd (true≢false (sym h))
option-is (Some u) t h = ap Some (in-alone u t h)

module _ (days : List ℤ) (n : Node) (s : ℤ) where
  abbrev inputs : List ℕ
  inputs = filter_map input_number n.inputs

  abbrev mask : List ℕ
  mask = option_to_list n.mask

  abbrev group : List ℕ
  group = option_to_list n.group

  pub reads-mention : (t : ℕ) (r : ℤ) → Reads days n s t r → contains (mentions n) t ≡ true
  reads-mention t r (Reads.input i e) =
      in-front (inputs ++ mask) group t (in-front inputs mask t (input-in n.inputs i t e))
  reads-mention t r (Reads.mask e) =
      in-front (inputs ++ mask) group t (in-back inputs mask t (option-in n.mask t e))
  reads-mention t r (Reads.group e) = in-back (inputs ++ mask) group t (option-in n.group t e)

  in-either : (xs ys : List ℕ) (t : ℕ) → contains (xs ++ ys) t ≡ true
      → (contains xs t ≡ true) ⊎ (contains ys t ≡ true)
  in-either xs ys t h =
      or_cases (contains xs t) (contains ys t) (sym (list_any-append (λ x. x == t) xs ys) ∙ h)

  pub mention-read : (t : ℕ) → contains (mentions n) t ≡ true → (r : ℤ) × Reads days n s t r
  mention-read t h = elim (in-either (inputs ++ mask) group t h) [
    | inr g ↦ (s, Reads.group (option-is n.group t g))
    | inl f ↦ elim (in-either inputs mask t f) [
      | inl i ↦ (let at = in-number n.inputs t i in (_, Reads.input at.0 at.1))
      | inr m ↦ (s, Reads.mask (option-is n.mask t m))
    ]
  ]

  pub read-lower : (u t : ℕ) (r : ℤ) → MentionsBelow n u → Reads days n s t r → t < u
  read-lower u t r low (Reads.input i e) = low.inputs i t e
  read-lower u t r low (Reads.mask e) = low.mask t e
  read-lower u t r low (Reads.group e) = low.group t e

-- a term that mentions another has a node
pub mentioning : (g : Graph) (u t : ℕ) → contains (mentions_at g u) t ≡ true
    → (n : Node) × (slice_get g u ≡ Some n) × (contains (mentions n) t ≡ true)
mentioning g u t h = here (slice_get g u) refl
  where
    here : (o : Option Node) → slice_get g u ≡ o
        → (n : Node) × (slice_get g u ≡ Some n) × (contains (mentions n) t ≡ true)
    here None e = let none = rw e at h in absurd (true≢false (sym none))
    here (Some n) e = (n, e, rw e at h)

pub mentioning-within : (g : Graph) (u t : ℕ) → contains (mentions_at g u) t ≡ true → u < length g
mentioning-within g u t h = let n = mentioning g u t h in slice_get_within g u n.0 n.1

-- what is needed is used
pub needs-used : (days : List ℤ) (g : Graph) (outs : List ℕ) (d : ℤ) (t : ℕ) (s : ℤ)
    → Needs days g outs d t s → Used g outs t
needs-used days g outs d t s (Needs.output h) = Used.output h
needs-used days g outs d t s (Needs.read u n q needs at reads) =
    Used.mentioned u (needs-used days g outs d u q needs) (rw at (reads-mention days n q t s reads))

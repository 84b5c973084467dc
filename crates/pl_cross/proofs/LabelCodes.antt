-- The labels of a world whose texts all have codes.
use Rattle.std.proofs.Common.{◌≡◌, ◌⊎◌, ℕ, Bool, true, false, ◌&&◌, cond, if◌then◌else◌, ℤ, List, [], ◌∷◌, filter, find, Option, Some, None, option_and_then, refl, sym, ◌∙◌, ap, subst, inl, inr, Contains}
use Rattle.pl_spec.specs.Rounding.{MISSING}
use Rattle.pl_spec.specs.World.{World, LabelRow, day_of, exists, last_started, is_label_of, nonempty, label_at}
use Rattle.pl_pipeline.specs.Kind.Kind.{Label}
use Rattle.pl_pipeline.specs.Term.{Term}
use Rattle.pl_pipeline.specs.Term.Term.{node}
use Rattle.pl_pipeline.specs.Value.{passes, part_of, name_at, label_value, kind_value, seen, value}
use Rattle.pl_pipeline.specs.Value.Value.{Number}
use Rattle.pl_spec.proofs.Members.{In, in-contains}
use Rattle.pl_cross.specs.Arrays.{HasTexts}
use Rattle.pl_cross.proofs.Members.{in-filter}
use Rattle.pl_cross.proofs.Codes.{IsCoded}

found-in : {A : Type 0} (p : A → Bool) (xs : List A) (x : A) → find p xs ≡ Some x → In x xs
found-in p [] x e = absurd (let bad : None ≡ Some x = e in cc)
found-in {A} p (y ∷ ys) x e = here (p y) e (found-in p ys x)
  where
    here : (b : Bool) → cond b (Some y) (find p ys) ≡ Some x → (find p ys ≡ Some x → In x ys) → (x ≡ y) ⊎ In x ys
    here true e more = inl (let same : Some y ≡ Some x = e in cc)
    here false e more = inr (more e)

module _ (w : World) (texts : HasTexts w) where
  text-coded : (r : LabelRow) → Contains w.labels r → IsCoded w.texts (label_value (nonempty r.text))
  text-coded r own = here r.text refl
    where
      here : (s : List ℕ) → r.text ≡ s → IsCoded w.texts (label_value (nonempty r.text))
      here [] e = inl (ap (λ t. label_value (nonempty t)) e)
      here (b ∷ bs) e = inr (b ∷ bs, ap (λ t. label_value (nonempty t)) e, subst (Contains w.texts) e (texts r own (λ none. let bad : [] ≡ b ∷ bs = sym none ∙ e in cc)))

  label-coded : (name : List ℕ) (a : ℕ) (d : ℤ) → IsCoded w.texts (label_value (label_at w name a d))
  label-coded name a d = here (day_of w d) refl
    where
      rows : ℤ → List LabelRow
      rows day = filter (is_label_of name a day) w.labels

      last : (day : ℤ) (o : Option LabelRow) → last_started (filter (is_label_of name a day) w.labels) ≡ o → IsCoded w.texts (label_value (option_and_then (λ r. nonempty r.text) (last_started (filter (is_label_of name a day) w.labels))))
      last day None e = inl (ap (λ o. label_value (option_and_then (λ (r : LabelRow). nonempty r.text) o)) e)
      last day (Some r) e =
          let own = in-filter (is_label_of name a day) w.labels r (found-in _ (filter (is_label_of name a day) w.labels) r e) in
          subst (λ o. IsCoded w.texts (label_value (option_and_then (λ (q : LabelRow). nonempty q.text) o))) (sym e) (text-coded r (in-contains w.labels r own.0))

      here : (o : Option ℤ) → day_of w d ≡ o → IsCoded w.texts (label_value (label_at w name a d))
      here None e = inl (ap (λ o. label_value (option_and_then (λ day. option_and_then (λ (r : LabelRow). nonempty r.text) (last_started (filter (is_label_of name a day) w.labels))) o)) e)
      here (Some day) e =
          subst (λ o. IsCoded w.texts (label_value (option_and_then (λ day. option_and_then (λ (r : LabelRow). nonempty r.text) (last_started (filter (is_label_of name a day) w.labels))) o))) (sym e)
          (last day (last_started (filter (is_label_of name a day) w.labels)) refl)

  pub labels-coded : (names : List (List ℕ)) (n size : ℕ) (x y z mask group : Term) (a : ℕ) (d : ℤ) → IsCoded w.texts (value w names (node (Label n) size x y z mask group) a d)
  unfolding value seen kind_value
  labels-coded names n size x y z mask group a d = here (exists w a d && passes (part_of mask (value w names mask)) a d)
    where
      here : (b : Bool) → IsCoded w.texts (if b then label_value (label_at w (name_at names n) a d) else Number MISSING)
      here true = label-coded (name_at names n) a d
      here false = inl refl

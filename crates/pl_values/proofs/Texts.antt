-- The texts of a table of labels.
use Rattle.std.proofs.Common.{◌≡◌, ◌≢◌, ◌⊎◌, ℕ, Bool, true, false, not, List, [], ◌∷◌, map, filter, IfSome, refl, sym, ◌∙◌, ap, subst, inl, inr, bytes_eq, Contains}
use Rattle.std.proofs.lemmas.Slice.Eq.{bytes_eq-Decides}
use Rattle.pl_spec.specs.World.{LabelRow, nonempty}
use Rattle.pl_spec.specs.Parts.{ColumnLabel, label_of}
use Rattle.pl_spec.proofs.Members.{In, in-contains, contains-in, in-map, filter-in}
use Rattle.pl_assets.specs.Labels.{first_seen}
use Rattle.pl_values.specs.Laws.{TextsHaveCodes}

-- a text is among those that each stand once
pub seen-in : (xs : List (List ℕ)) (x : List ℕ) → In x xs → In x (first_seen xs)
unfolding first_seen
seen-in [] x i = absurd i
seen-in (y ∷ ys) x (inl e) = inl e
seen-in (y ∷ ys) x (inr i) = here (bytes_eq y x) refl (seen-in ys x i)
  where
    here : (b : Bool) → bytes_eq y x ≡ b → In x (first_seen ys) → (x ≡ y) ⊎ In x (filter (λ z. not (bytes_eq y z)) (first_seen ys))
    here true e j = inl (sym ((bytes_eq-Decides y x).0 e))
    here false e j = inr (filter-in (λ z. not (bytes_eq y z)) (first_seen ys) x j (ap not e))

text-there : (texts : List (List ℕ)) (x : List ℕ) → x ≢ [] → IfSome (nonempty x) (Contains texts) → Contains texts x
text-there texts [] h k = absurd (h refl)
text-there texts (b ∷ bs) h k = k

pub texts-coded : TextsHaveCodes
texts-coded days assets t bars adjustments numbers own r there full =
    let made = in-map (label_of assets) t.rows r (contains-in (map (label_of assets) t.rows) r there) in
    let same : r.text ≡ made.0.text = ap (λ (q : LabelRow). q.text) made.2 in
    let at = in-contains t.rows made.0 made.1 in
    let known : IfSome (nonempty made.0.text) (Contains t.texts) = subst (λ (q : ColumnLabel). IfSome (nonempty q.text) (Contains t.texts)) at.2 (own.coded at.0 made.0 at.1) in
    subst (Contains t.texts) (sym same) (text-there t.texts made.0.text (λ e. full (same ∙ e)) known)

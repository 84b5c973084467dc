-- A record against the names that it is to have.
use Rattle.std.proofs.Common.{◌≡◌, ℕ, zero, suc, ◌<◌, List, [], ◌∷◌, length, map, Bool, true, false, not, bytes_eq, refl, sym, ◌∙◌, ap, arith, get_or, Bor}
use Rattle.std.proofs.lemmas.Slice.Eq.{bytes_eq-Decides}
use lib.Pointwise.{pointwise}
use Rattle.pl_records.specs.Reading.{Record, field}
use Rattle.pl_records.proofs.Readings.{same_record-true, same_record-false}

abbrev pub texts : List (Bor (List ℕ)) → Record
texts ns = map (λ n. n.now) ns

named_length : (ns : List (Bor (List ℕ))) → length (texts ns) ≡ length ns
named_length [] = refl
named_length (n ∷ ns) = ap suc (named_length ns)

pub field_named : (ns : List (Bor (List ℕ))) (i : ℕ) (d : Bor (List ℕ)) → d.now ≡ [] → field (texts ns) i ≡ (get_or ns i d).now
field_named [] i d e = sym e
field_named (n ∷ ns) zero d e = refl
field_named (n ∷ ns) (suc i) d e = field_named ns i d e

pub differs : (r : Record) (ns : List (Bor (List ℕ))) (i : ℕ) (d : Bor (List ℕ)) (text : List ℕ) (b : Bool) → d.now ≡ [] → text ≡ field r i
    → b ≡ not (bytes_eq text (get_or ns i d).now) → b ≡ true → false ≡ pointwise bytes_eq r (texts ns)
differs r ns i d text b e f t u =
    same_record-false r (texts ns) (λ same.
    let equal : text ≡ (get_or ns i d).now = f ∙ ap (λ x. field x i) same ∙ field_named ns i d e in
    let yes : bytes_eq text (get_or ns i d).now ≡ true = (bytes_eq-Decides text (get_or ns i d).now).1 equal in
    let no : not true ≡ true = sym (ap not yes) ∙ sym t ∙ u in absurd (let bad : false ≡ true = no in cc))

pub agrees : (r : Record) (ns : List (Bor (List ℕ))) (i : ℕ) (d : Bor (List ℕ)) (text : List ℕ) (b : Bool) → d.now ≡ [] → text ≡ field r i
    → b ≡ not (bytes_eq text (get_or ns i d).now) → b ≡ false → field r i ≡ field (texts ns) i
agrees r ns i d text b e f t u =
    let yes : bytes_eq text (get_or ns i d).now ≡ true = from_not _ (sym t ∙ u) in
    sym f ∙ (bytes_eq-Decides text (get_or ns i d).now).0 yes ∙ sym (field_named ns i d e)
  where
    from_not : (x : Bool) → not x ≡ false → x ≡ true
    from_not true h = refl
    from_not false h = sym h

pub all_agree : (r : Record) (ns : List (Bor (List ℕ))) → length r ≡ length ns → ((k : ℕ) → k < length ns → field r k ≡ field (texts ns) k) → true ≡ pointwise bytes_eq r (texts ns)
all_agree r ns n h = same_record-true r (texts ns) (n ∙ sym (named_length ns)) (λ k l. h k (omega (arith, named_length ns)))

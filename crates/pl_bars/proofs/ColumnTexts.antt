-- A column has its name, and no other column has it.
use Rattle.std.proofs.Common.{◌≡◌, ◌↔◌, ℕ, List, [], ◌∷◌, Some, None, refl, ap, ◌∙◌, Bool, true, false, cond}
use Rattle.std.specs.List.{find}
use Rattle.std.specs.Str.{bytes_eq}
use Rattle.std.proofs.lemmas.Slice.Eq.{bytes_eq-Decides}
use Rattle.pl_spec.specs.declared.Column.{Column}
use Rattle.pl_spec.specs.declared.Column.TheVariants.{OpenPrice, High, Low, Close, Volume}
use Rattle.pl_spec.specs.Names.{column_name}
use Rattle.pl_bars.specs.ColumnNames.{column_in}

-- what is found passes the test
found : (p : Column → Bool) (cs : List Column) (c : Column) → find p cs ≡ Some c → p c ≡ true
found p [] c e = absurd (let bad : None ≡ Some c = e in cc)
found p (d ∷ ds) c e = here (p d) refl e (found p ds c)
  where
    here : (b : Bool) → p d ≡ b → cond b (Some d) (find p ds) ≡ Some c → (find p ds ≡ Some c → p c ≡ true) → p c ≡ true
    here true t e rest = let same : Some d ≡ Some c = e in let is : d ≡ c = cc in rw (← is) t
    here false t e rest = rest e

named : (text : List ℕ) (c : Column) → column_in text ≡ Some c → text ≡ column_name c
unfolding column_in
named text c e = (bytes_eq-Decides text (column_name c)).0 (found (λ d. bytes_eq text (column_name d)) (OpenPrice ∷ High ∷ Low ∷ Close ∷ Volume ∷ []) c e)

name_back : (c : Column) → column_in (column_name c) ≡ Some c
unfolding column_in
name_back OpenPrice = refl
name_back High = refl
name_back Low = refl
name_back Close = refl
name_back Volume = refl

pub column_form : (text : List ℕ) (c : Column) → (column_in text ≡ Some c) ↔ (text ≡ column_name c)
column_form text c = (named text c, λ e. ap column_in e ∙ name_back c)

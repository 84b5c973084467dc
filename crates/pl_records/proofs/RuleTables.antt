-- A judgement by a table of rules names the first rule that is broken.
use Rattle.std.proofs.Common.{◌≡◌, ◌↔◌, if◌then◌else◌, Bool, true, false, List, [], ◌∷◌, Option, Some, None, option_map, option_and_then, Any, Result, Ok, Err, refl, sym, ◌∙◌, ap, inl, inr, ◌⊎◌}
use Rattle.std.specs.Prelude.{⊤}
use Rattle.std.specs.Bool.{Decides}
use Rattle.std.specs.List.{list_any}
use Rattle.std.specs.Option.{ok_or}
use Rattle.std.specs.Result.{result_ok}
use Rattle.std.proofs.lemmas.List.Folds.{Any-from_list_any, list_any-from_Any}
use Rattle.pl_records.specs.Reading.{Record, Judges}
use Rattle.pl_records.specs.RuleTable.{first_broken, IsFirstBroken, KeepsAll, lacks, has}

-- a test that cannot pass fails
pub not_true : (b : Bool) → (b ≡ true → ⊥) → b ≡ false
not_true true f = absurd (f refl)
not_true false f = refl

module _ {R : Type 0} (broken : R → Bool) (Breaks : R → Type 0) (tells : (q : R) → Decides (broken q) (Breaks q)) where
  not_both : (b : Bool) → b ≡ true → b ≡ false → ⊥
  not_both b t f = let bad : true ≡ false = sym t ∙ f in cc

  kept : (q : R) → broken q ≡ false → ¬ Breaks q
  kept q f b = not_both (broken q) ((tells q).1 b) f

  kept-false : (q : R) → ¬ Breaks q → broken q ≡ false
  kept-false q keeps = not_true (broken q) (λ t. keeps ((tells q).0 t))

  pub all-kept : {A : Type 0} (rules : List R) (right : Result A R) → KeepsAll rules Breaks → first_broken rules broken right ≡ right
  all-kept [] right k = refl
  all-kept (q ∷ qs) right k = rw (kept-false q k.0) (all-kept qs right k.1)

  pub first-found : {A : Type 0} (rules : List R) (right : Result A R) (rule : R) → IsFirstBroken rules Breaks rule → first_broken rules broken right ≡ Err rule
  first-found [] right rule h = absurd h
  first-found (q ∷ qs) right rule (inl h) = rw ((tells q).1 h.1) (ap Err h.0)
  first-found (q ∷ qs) right rule (inr h) = rw (kept-false q h.0) (first-found qs right rule h.1)

  pub judged : {A : Type 0} (rules : List R) (right said : Result A R) → first_broken rules broken right ≡ said
      → (KeepsAll rules Breaks × (right ≡ said)) ⊎ ((rule : R) × (said ≡ Err rule) × IsFirstBroken rules Breaks rule)
  judged [] right said e = inl (tt, e)
  judged {A} (q ∷ qs) right said e = here (broken q) refl (λ f. judged qs right said f) e
    where
      here : (b : Bool) → broken q ≡ b
          → (first_broken qs broken right ≡ said → (KeepsAll qs Breaks × (right ≡ said)) ⊎ ((rule : R) × (said ≡ Err rule) × IsFirstBroken qs Breaks rule))
          → (if b then Err q else first_broken qs broken right) ≡ said
          → (KeepsAll (q ∷ qs) Breaks × (right ≡ said)) ⊎ ((rule : R) × (said ≡ Err rule) × IsFirstBroken (q ∷ qs) Breaks rule)
      here true t more e = inr (q, sym e, inl (refl, (tells q).0 t))
      here false t more e = elim (more e) [
        | inl h ↦ inl ((kept q t, h.0), h.1)
        | inr h ↦ inr (h.0, h.1, inr (kept q t, h.2))
      ]

-- no test finds its rule broken
abbrev pub NoneFound : {R : Type 0} → List R → (R → Bool) → Type 0
NoneFound [] broken = ⊤
NoneFound (q ∷ qs) broken = (broken q ≡ false) × NoneFound qs broken

pub told_ok : {A R : Type 0} (rules : List R) (broken : R → Bool) (right : Result A R) (x : A) → first_broken rules broken right ≡ Ok x → NoneFound rules broken × (right ≡ Ok x)
told_ok [] broken right x e = (tt, e)
told_ok {A} {R} (q ∷ qs) broken right x e = here (broken q) refl (told_ok qs broken right x) e
  where
    here : (b : Bool) → broken q ≡ b → (first_broken qs broken right ≡ Ok x → NoneFound qs broken × (right ≡ Ok x))
        → (if b then Err q else first_broken qs broken right) ≡ Ok x → NoneFound (q ∷ qs) broken × (right ≡ Ok x)
    here true t more e = absurd (let bad : Err q ≡ Ok x = e in cc)
    here false t more e = let it = more e in ((t, it.0), it.1)

pub none-broken : {A R : Type 0} (rules : List R) (broken : R → Bool) (right : Result A R) → NoneFound rules broken → first_broken rules broken right ≡ right
none-broken [] broken right h = refl
none-broken (q ∷ qs) broken right h = rw h.0 (none-broken qs broken right h.1)

pub ok_or-Ok : {A R : Type 0} (o : Option A) (bad : R) (x : A) → ok_or o bad ≡ Ok x → o ≡ Some x
ok_or-Ok None bad x e = absurd (let other : Err bad ≡ Ok x = e in cc)
ok_or-Ok (Some y) bad x e = let same : Ok y ≡ Ok x = e in let s : y ≡ x = cc in ap (λ z. Some z) s

pub result_ok-Ok : {A E : Type 0} (r : Result A E) (x : A) → result_ok r ≡ Some x → r ≡ Ok x
result_ok-Ok (Ok y) x e = let same : Some y ≡ Some x = e in ap Ok (let it : y ≡ x = cc in it)
result_ok-Ok (Err f) x e = absurd (let bad : None ≡ Some x = e in cc)

-- ---- what a form finds is what is there

-- an option that came out of two
pub and_then_some : {A B : Type 0} (o : Option A) (f : A → Option B) (y : B) → option_and_then f o ≡ Some y → (x : A) × (o ≡ Some x) × (f x ≡ Some y)
and_then_some None f y e = absurd (let bad : None ≡ Some y = e in cc)
and_then_some (Some x) f y e = (x, refl, e)

pub map_some : {A B : Type 0} (o : Option A) (f : A → B) (y : B) → option_map f o ≡ Some y → (x : A) × (o ≡ Some x) × (f x ≡ y)
map_some None f y e = absurd (let bad : None ≡ Some y = e in cc)
map_some (Some x) f y e = (x, refl, (let same : Some (f x) ≡ Some y = e in cc))

-- one that is there where a test holds
pub when_some : {A : Type 0} (b : Bool) (o : Option A) (x : A) → (if b then o else None) ≡ Some x → (b ≡ true) × (o ≡ Some x)
when_some true o x e = (refl, e)
when_some false o x e = absurd (let bad : None ≡ Some x = e in cc)

-- one that is not lacking
pub lacks-none : {A : Type 0} (o : Option A) → lacks o ≡ false → (x : A) × (o ≡ Some x)
lacks-none None e = absurd (let bad : true ≡ false = e in cc)
lacks-none (Some x) e = (x, refl)

-- one of them that a test finds
pub any-tells : {A : Type 0} (test : A → Bool) (P : A → Type 0) → ((x : A) → Decides (test x) (P x)) → (xs : List A) → Decides (list_any test xs) (Any P xs)
any-tells test P decides xs = (
  λ e. (let it = Any-from_list_any test xs e in (it.0, it.1, it.2, it.3, (decides it.1).0 it.4)),
  λ any. list_any-from_Any test xs (any.0, any.1, any.2, any.3, (decides any.1).1 any.4),
)

module _ {X Y : Type 0} (form : X → Option Y) (Is : X → Y → Type 0) (tells : (x : X) (y : Y) → (form x ≡ Some y) ↔ Is x y) where
  -- there is none
  pub lacks-tells : (x : X) → Decides (lacks (form x)) ((y : Y) → ¬ Is x y)
  lacks-tells x = here (form x) refl
    where
      here : (o : Option Y) → form x ≡ o → Decides (lacks o) ((y : Y) → ¬ Is x y)
      here None e = (λ t y h. absurd (let bad : None ≡ Some y = sym e ∙ (tells x y).1 h in cc), λ none. refl)
      here (Some y) e = (λ t. absurd (let bad : false ≡ true = t in cc), λ none. absurd (none y ((tells x y).0 e)))

  -- there is one that a test finds
  pub has-tells : (test : Y → Bool) (P : Y → Type 0) → ((y : Y) → Decides (test y) (P y)) → (x : X) → Decides (has test (form x)) ((y : Y) × Is x y × P y)
  has-tells test P decides x = here (form x) refl
    where
      here : (o : Option Y) → form x ≡ o → Decides (has test o) ((y : Y) × Is x y × P y)
      here None e = (λ t. absurd (let bad : false ≡ true = t in cc), λ h. absurd (let bad : None ≡ Some h.0 = sym e ∙ (tells x h.0).1 h.1 in cc))
      here (Some y) e = (
        λ t. (y, (tells x y).0 e, (decides y).0 t),
        λ h. (let one : Some h.0 ≡ Some y = sym ((tells x h.0).1 h.1) ∙ e in let same : h.0 ≡ y = cc in (decides y).1 (rw same at h.2)),
      )

-- ---- a judgement by a table

module _ {Row : Type 0} (form : Record → Option Row) (IsRecord : Record → Row → Type 0) (tells : (r : Record) (row : Row) → (form r ≡ Some row) ↔ IsRecord r row) where
  -- The judgement by the table says exactly the rows that break no rule, and of each other record exactly the
  -- first rule that it breaks, where one of the rules is that there is such a row.
  pub Judges-table : {R : Type 0} (rules : List R) (bad : R) (broken : List Row → Record → R → Bool) (Breaks : List Row → Record → R → Type 0)
      → ((before : List Row) (r : Record) (q : R) → Decides (broken before r q) (Breaks before r q))
      → ((before : List Row) (r : Record) → KeepsAll rules (Breaks before r) → ((row : Row) → ¬ IsRecord r row) → ⊥)
      → Judges (λ before r row. IsRecord r row × KeepsAll rules (Breaks before r)) (λ before r. IsFirstBroken rules (Breaks before r))
      (λ before r. first_broken rules (broken before r) (ok_or (form r) bad))
  Judges-table {R} rules bad broken Breaks decides some =
      record { row = λ before r row. (is_row before r row, row_is before r row); rule = λ before r rule. (is_rule before r rule, rule_is before r rule) }
    where
      is_row : (before : List Row) (r : Record) (row : Row) → first_broken rules (broken before r) (ok_or (form r) bad) ≡ Ok row → IsRecord r row × KeepsAll rules (Breaks before r)
      is_row before r row e = elim (judged (broken before r) (Breaks before r) (decides before r) rules (ok_or (form r) bad) (Ok row) e) [
        | inl h ↦ ((tells r row).0 (ok_or-Ok (form r) bad row h.1), h.0)
        | inr h ↦ absurd (let bad : Ok row ≡ Err h.0 = h.1 in cc)
      ]

      row_is : (before : List Row) (r : Record) (row : Row) → IsRecord r row × KeepsAll rules (Breaks before r) → first_broken rules (broken before r) (ok_or (form r) bad) ≡ Ok row
      row_is before r row h = all-kept (broken before r) (Breaks before r) (decides before r) rules (ok_or (form r) bad) h.1 ∙ ap (λ o. ok_or o bad) ((tells r row).1 h.0)

      is_rule : (before : List Row) (r : Record) (rule : R) → first_broken rules (broken before r) (ok_or (form r) bad) ≡ Err rule → IsFirstBroken rules (Breaks before r) rule
      is_rule before r rule e = elim (judged (broken before r) (Breaks before r) (decides before r) rules (ok_or (form r) bad) (Err rule) e) [
        | inl h ↦ absurd (none (form r) refl h.1 h.0)
        | inr h ↦ (let same : Err rule ≡ Err h.0 = h.1 in let s : rule ≡ h.0 = cc in rw s h.2)
      ]
        where
          none : (o : Option Row) → form r ≡ o → ok_or o bad ≡ Err rule → KeepsAll rules (Breaks before r) → ⊥
          none None e f k = some before r k ((lacks-tells form IsRecord tells r).0 (ap lacks e))
          none (Some x) e f k = absurd (let bad : Ok x ≡ Err rule = f in cc)

      rule_is : (before : List Row) (r : Record) (rule : R) → IsFirstBroken rules (Breaks before r) rule → first_broken rules (broken before r) (ok_or (form r) bad) ≡ Err rule
      rule_is before r rule h = first-found (broken before r) (Breaks before r) (decides before r) rules (ok_or (form r) bad) rule h

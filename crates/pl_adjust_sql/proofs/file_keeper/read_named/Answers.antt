use Rattle.std.proofs.Common.{◌≡◌, Option, Some, None, Result, Ok, Err, OnOk, IfSome, string_bytes, refl, subst}
use Rattle.pl_adjust_sql.specs.declared.file_keeper.Copied.{Copied}
use Rattle.pl_adjust_sql.specs.Copies.{IsOpened, IsOther}
use Rattle.pl_adjust_sql.proofs.file_keeper.read_named.Goals as goal

on_ok : {T E A : Type 0} (r : Result T E) → A → OnOk r A
on_ok (Ok x) a = a
on_ok (Err e) a = tt

-- what is said of a clean disk, beside what is said of any
on_clean : {T E A B Clean : Type 0} (r : Result T E) → (Clean → OnOk r A) → ((Clean → A) → B) → OnOk r B
on_clean (Ok x) told with = with told
on_clean (Err e) told with = tt

once : {X : Type 0} (E : Type 0) (P : X → Type 0) (o : Option X) (x : X) → IfSome o (λ k. P k → ◌≡◌ {A = Result X E} (Ok x) (Ok k))
    → IfSome o (λ k. P k → x ≡ k)
once E P None x h = tt
once E P (Some k) x h = λ p. let e = h p in cc

pub returns-clause-statement : goal.returns-clause-statement
returns-clause-statement c =
    let x = c.in_ok-copied.copied in
    let name = c.args.name.now in
    let IsNamed : Copied → Type 0 = λ k. string_bytes k.name ≡ name in
    let kept = subst (λ o. IfSome o (λ (k : Copied). IsNamed k → x ≡ k)) c.take.ensures.value (once _ IsNamed c.take.result x c.in_ok-copied.ensures.once) in
    let fresh = subst (λ o. IsOther o name → IsOpened name x) c.take.ensures.value c.in_ok-copied.ensures.opened in
    on_clean c.read_table-answer.result c.read_table-answer.ensures.statement (λ reads. record { copy = x; named = c.in_ok-copied.ensures.name; once = kept; opened = fresh; answer = reads })

pub returns-clause-kept : goal.returns-clause-kept
returns-clause-kept c = on_ok c.read_table-answer.result refl

-- What holds of an answer that comes after others, where there is one.
use Rattle.std.proofs.Common.{◌≡◌, Bool, true, false, cond, Option, Some, None, Result, Ok, Err, refl}
use Rattle.std.specs.Result.{IfOk}
use Rattle.pl_grammar.specs.declared.Place.{Place}
use Rattle.pl_check.specs.declared.fault.CheckFault.{CheckFault}
use Rattle.pl_check.specs.Faults.{Broken, ◌>>=◌, or_fault, unless}
use Rattle.pl_check.specs.Typed.{require}

pub then-ok : {A B : Type 0} (P : A → Type 0) (Q : B → Type 0) (r : Result A Broken) (f : A → Result B Broken) → IfOk r P → ((x : A) → P x → IfOk (f x) Q) → IfOk (r >>= f) Q
then-ok P Q (Ok x) f h k = k x h
then-ok P Q (Err e) f h k = tt

-- what is looked up, and what comes after it
pub some-ok : {A : Type 0} (P : A → Type 0) (f : CheckFault) (p : Place) (o : Option A) → ((x : A) → o ≡ Some x → P x) → IfOk (or_fault f p o) P
some-ok P f p None h = tt
some-ok P f p (Some x) h = h x refl

pub found-ok : {A B : Type 0} (Q : B → Type 0) (k : CheckFault) (p : Place) (o : Option A) (f : A → Result B Broken) → ((x : A) → o ≡ Some x → IfOk (f x) Q) → IfOk (or_fault k p o >>= f) Q
found-ok Q k p o f h = then-ok (λ x. o ≡ Some x) Q (or_fault k p o) f (some-ok _ k p o (λ x e. e)) h

pub unless-ok : {A : Type 0} (P : A → Type 0) (b : Option CheckFault) (p : Place) (r : Result A Broken) → (b ≡ None → IfOk r P) → IfOk (unless b p r) P
unless-ok P (Some f) p r h = tt
unless-ok P None p r h = h refl

pub require-ok : {A : Type 0} (P : A → Type 0) (b : Bool) (f : CheckFault) (p : Place) (r : Result A Broken) → (b ≡ true → IfOk r P) → IfOk (require b f p r) P
require-ok P true f p r h = h refl
require-ok P false f p r h = tt

pub either-ok : {A : Type 0} (P : A → Type 0) (b : Bool) (r q : Result A Broken) → (b ≡ true → IfOk r P) → (b ≡ false → IfOk q P) → IfOk (cond b r q) P
either-ok P true r q h k = h refl
either-ok P false r q h k = k refl

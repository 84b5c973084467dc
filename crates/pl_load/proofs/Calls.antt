-- One call of a part after another.
use Rattle.std.proofs.Common.{◌≡◌, ℕ, ◌+◌, ◌≤◌, Bool, List, [], ◌++◌, Option, Some, None, Result, Ok, Err, IfErr, refl, sym, ap, ◌∙◌, le_trans, append_assoc, append-nil, arith}
use Rattle.pl_outside.specs.Counts.{Rose, count_plus}
use Rattle.pl_outside.specs.Files.{BeginsAll}
use Rattle.pl_outside.specs.Left.{Leaves}
use Rattle.pl_outside.proofs.Counting.{Rose-later}
use Rattle.pl_load.specs.declared.fault.Fault.{Fault}
use Rattle.pl_load.specs.declared.fault.Fault.TheVariants.{Usage, Unread, Unloaded, Unwritten}
use Rattle.pl_load.specs.Stages.{IsRisen}
use Rattle.pl_load.specs.Views.{ShelfView, KeeperView, change, ShelfLeft, KeeperLeft, KeeperAlone}

-- ---- no call

pub shelf-same : (a : ShelfView) → ShelfLeft (change a a)
shelf-same a = record { keeps = refl; stays = refl; later = omega arith }

pub keeper-same : (k : KeeperView) → KeeperLeft (change k k)
keeper-same k = record { keeps = refl; stays = refl; later = omega arith }

pub alone-same : (k : KeeperView) → KeeperAlone (change k k)
alone-same k = record { no_fault = refl; no_call = refl }

pub begins-none : (a : Option (List (List ℕ))) → BeginsAll a a []
begins-none a = λ now is. rw is (ap Some (append-nil now))

pub plus-none : (n : ℕ) → n ≡ count_plus n 0
plus-none n = omega arith

-- ---- two calls

pub leaves-on : {S A : Type 0} (tells : S → Option A) (sound : S → Bool) (faults : S → ℕ) (a b c : S) → Leaves tells sound faults a b → Leaves tells sound faults b c
    → Leaves tells sound faults a c
leaves-on tells sound faults a b c h k = record { keeps = k.keeps ∙ h.keeps; stays = k.stays ∙ h.stays; later = le_trans h.later k.later }

pub alone-on : (a b c : KeeperView) → KeeperAlone (change a b) → KeeperAlone (change b c) → KeeperAlone (change a c)
alone-on a b c h k = record { no_fault = k.no_fault ∙ h.no_fault; no_call = k.no_call ∙ h.no_call }

pub begins-on : (a b c : Option (List (List ℕ))) (xs ys : List (List ℕ)) → BeginsAll a b xs → BeginsAll b c ys → BeginsAll a c (xs ++ ys)
begins-on a None c xs ys h k = λ now is. absurd (let e = k now is in cc)
begins-on None (Some mid) c xs ys h k = λ now is. absurd (let e = h mid refl in cc)
begins-on (Some old) (Some mid) c xs ys h k = λ now is.
    let first : old ++ xs ≡ mid = (let e = h mid refl in cc) in
    ap Some (sym (append_assoc old xs ys) ∙ ap (λ t. t ++ ys) first) ∙ k now is

pub plus-plus : (a m n : ℕ) → count_plus (count_plus a m) n ≡ count_plus a (m + n)
plus-plus a m n = omega arith

pub calls-on : (a b c m n : ℕ) → b ≡ count_plus a m → c ≡ count_plus b n → c ≡ count_plus a (m + n)
calls-on a b c m n h k = k ∙ ap (λ x. count_plus x n) h ∙ plus-plus a m n

pub risen-on : (a b c : ℕ) (k l m : ℕ) (f : Fault) → a ≤ b → k ≤ l → IsRisen (Rose b c) (Rose l m) f → IsRisen (Rose a c) (Rose k m) f
risen-on a b c k l m Usage s t h = absurd h
risen-on a b c k l m (Unread file) s t h = Rose-later a b c s h
risen-on a b c k l m (Unloaded table) s t h = Rose-later k l m t h
risen-on a b c k l m Unwritten s t h = absurd h
risen-on a b c k l m f s t h = tt

-- ---- a stage that uses fewer parts

risen-so : (s k t l : Type 0) (f : Fault) → (s → t) → (k → l) → IsRisen s k f → IsRisen t l f
risen-so s k t l Usage p q h = absurd h
risen-so s k t l (Unread file) p q h = p h
risen-so s k t l (Unloaded table) p q h = q h
risen-so s k t l Unwritten p q h = absurd h
risen-so s k t l f p q h = tt

pub risen-by : {T : Type 0} (s k t l : Type 0) (r : Result T Fault) → (s → t) → (k → l) → IfErr r (IsRisen s k) → IfErr r (IsRisen t l)
risen-by s k t l (Ok x) p q h = tt
risen-by s k t l (Err f) p q h = risen-so s k t l f p q h

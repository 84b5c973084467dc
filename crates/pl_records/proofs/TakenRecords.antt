-- What a read of a record takes from what is left.
use Rattle.std.proofs.Common.{◌≡◌, ℕ, ◌+◌, List, [], ◌∷◌, length, Bool, true, false, refl, arith, Option, Some, None, ◌∙◌, if◌then◌else◌, Bor, add-one, inl}
use Rattle.csv.specs.Machine.{ends_at_end, next_record, Read}
use Rattle.csv.specs.Reading.{default_config, records_from, NextIs, ReadsNext, ReadRecord, has_failed, took_first, pending_of}
use Rattle.csv.specs.declared.parser.State.{State}
use Rattle.csv.specs.declared.reader.Reader.{Reader}
use Rattle.pl_records.specs.QuotedInside.{records_left, unread, IsAtRecord}
use Rattle.pl_records.proofs.Facts.{next-leaves, fuel-same, Leaves}

-- the record, and what is left after it
pub record Took (s s2 : State) (y : List ℕ) (after : Option (List ℕ)) (fields : List (List ℕ)) : Type 0 where
  pub left : records_left s (Some y) ≡ fields ∷ records_left s2 after
  pub between : ends_at_end s2 ≡ false

pub took-go : (s s2 : State) (y z : List ℕ) (fields : List (List ℕ)) (o : Option Read) → next_record default_config s [] [] y ≡ o → ends_at_end s ≡ false
    → NextIs o true fields s2 z → Took s s2 y (Some z) fields
unfolding records_from
took-go s s2 y z fields None e k h = absurd (cc)
took-go s s2 y z fields (Some p) e k h =
    let it : Leaves s y p = next-leaves s [] [] y p e in
    let same : records_from default_config (length y) p.1 p.2 ≡ records_from default_config (length p.2 + 1) p.1 p.2 =
    fuel-same (length y) (length p.2 + 1) p.1 p.2 it.between (it.shorter k) (omega arith) in
    record {
      left = rw (add-one (length y), e, same, h.1, h.2, h.3) refl;
      between = rw h.2 it.between;
    }

took : (s s2 : State) (y : List ℕ) (after : Option (List ℕ)) (fields : List (List ℕ)) → ends_at_end s ≡ false
    → ReadsNext default_config s (Some y) after true fields s2 → Took s s2 y after fields
took s s2 y None fields k h = absurd h
took s s2 y (Some z) fields k h = took-go s s2 y z fields _ refl k h

ended-go : (s s2 : State) (y z : List ℕ) (fields : List (List ℕ)) (o : Option Read) → next_record default_config s [] [] y ≡ o
    → NextIs o false fields s2 z → records_left s (Some y) ≡ []
unfolding records_from
ended-go s s2 y z fields None e h = rw (add-one (length y), e) refl
ended-go s s2 y z fields (Some p) e h = absurd (cc)

ended : (s s2 : State) (y : List ℕ) (after : Option (List ℕ)) (fields : List (List ℕ))
    → ReadsNext default_config s (Some y) after false fields s2 → records_left s (Some y) ≡ []
ended s s2 y None fields h = absurd h
ended s s2 y (Some z) fields h = ended-go s s2 y z fields _ refl h

-- what a reader over a slice that has not failed has left is known
known-if : (b : Bool) (x y : List ℕ) → (z : List ℕ) × ((if b then Some x else Some y) ≡ Some z)
known-if true x y = (x, refl)
known-if false x y = (y, refl)

unread-known : (a : Reader (Bor (List ℕ))) → has_failed a ≡ false → (y : List ℕ) × (unread a ≡ Some y)
unread-known a f = rw f (known-if _ _ _)

pub record Gives (a b : Reader (Bor (List ℕ))) (fields : List (List ℕ)) : Type 0 where
  pub left : records_left a.state (unread a) ≡ fields ∷ records_left b.state (unread b)
  pub ready : IsAtRecord b

pub gives-more : (a b : Reader (Bor (List ℕ))) (fields : List (List ℕ)) → IsAtRecord a → has_failed a ≡ false → took_first b ≡ true → b.flexible ≡ a.flexible
    → ReadRecord (λ s. Some s.now) a b true fields → Gives a b fields
gives-more a b fields at f first any r =
    let y = unread-known a f in
    let same : pending_of (Some b.rdr.now) b ≡ unread b = rw r.1 refl in
    let it : Took a.state b.state y.0 (unread b) fields = took a.state b.state y.0 (unread b) fields at.between (rw (at.config, y.1, same) at r.0) in
    record {
      left = rw y.1 it.left;
      ready = record { any_length = any ∙ at.any_length; trim = r.3 ∙ at.trim; ready = inl first; config = r.2 ∙ at.config; between = it.between };
    }

pub gives-none : (a b : Reader (Bor (List ℕ))) (fields : List (List ℕ)) (failed : Bool) → has_failed a ≡ failed → IsAtRecord a
    → ReadRecord (λ s. Some s.now) a b false fields → records_left a.state (unread a) ≡ []
gives-none a b fields true f at r = rw f refl
gives-none a b fields false f at r =
    let y = unread-known a f in
    rw y.1 (ended a.state b.state y.0 _ fields (rw (at.config, y.1) at r.0))

-- How the ends of the stages make the end of the work.
use Rattle.std.proofs.Common.{◌≡◌, inl, inr, List, [], ◌∷◌, ◌++◌, Bool, true, IsTrue, Option, Some, None, Result, Ok, Err, refl, subst}
use Rattle.std.specs.Option.{option_or}
use Rattle.pl_load.specs.declared.fault.Fault.{Fault}
use Rattle.pl_load.specs.declared.fault.Fault.TheVariants.{Usage, Unread, Unloaded, Unwritten, Memory}
use Rattle.pl_load.specs.Steps.{Source, WorkStep, first_fault, ReachesRead}
use Rattle.pl_load.specs.Steps.Source.{Input, Load}
use Rattle.pl_load.specs.Stages.{StopsOutside, IsStop, IsRisen, StageEnds}

or-none : {A : Type 0} (o p : Option A) → option_or o p ≡ None → (o ≡ None) × (p ≡ None)
or-none None p h = (refl, h)
or-none (Some x) p h = absurd (cc)

or-same : {A : Type 0} (o p q : Option A) (x : A) → option_or o p ≡ Some x → (p ≡ Some x → q ≡ Some x) → option_or o q ≡ Some x
or-same None p q x h k = k h
or-same (Some y) p q x h k = h

first-none : (ss ts : List WorkStep) → first_fault ss ≡ None → first_fault (ss ++ ts) ≡ first_fault ts
first-none [] ts h = refl
first-none (s ∷ ss) ts h =
    let p = or-none s.fault (first_fault ss) h in
    rw p.0 (first-none ss ts p.1)

first-some : (ss ts : List WorkStep) (f : Fault) → first_fault ss ≡ Some f → first_fault (ss ++ ts) ≡ Some f
first-some [] ts f h = absurd (cc)
first-some (s ∷ ss) ts f h = or-same s.fault (first_fault ss) (first_fault (ss ++ ts)) f h (first-some ss ts f)

reaches-front : (ss ts : List WorkStep) (source : Source) → ReachesRead ss source → ReachesRead (ss ++ ts) source
reaches-front [] ts source h = absurd h
reaches-front (s ∷ ss) ts source h = elim h [ inl p ↦ inl p | inr q ↦ inr (q.0, reaches-front ss ts source q.1) ]

reaches-behind : (ss ts : List WorkStep) (source : Source) → first_fault ss ≡ None → ReachesRead ts source → ReachesRead (ss ++ ts) source
reaches-behind [] ts source h k = k
reaches-behind (s ∷ ss) ts source h k =
    let p = or-none s.fault (first_fault ss) h in
    inr (p.0, reaches-behind ss ts source p.1 k)

outside-front : (shelf keeper : Bool) (ss ts : List WorkStep) (f : Fault) → StopsOutside shelf keeper ss f → StopsOutside shelf keeper (ss ++ ts) f
outside-front shelf keeper ss ts (Unread file) h = (reaches-front ss ts (Input file) h.0, h.1)
outside-front shelf keeper ss ts (Unloaded table) h = (reaches-front ss ts (Load table) h.0, h.1)
outside-front shelf keeper ss ts Memory h = tt
outside-front shelf keeper ss ts f h = absurd h

outside-behind : (shelf keeper : Bool) (ss ts : List WorkStep) (f : Fault) → first_fault ss ≡ None → StopsOutside shelf keeper ts f → StopsOutside shelf keeper (ss ++ ts) f
outside-behind shelf keeper ss ts (Unread file) e h = (reaches-behind ss ts (Input file) e h.0, h.1)
outside-behind shelf keeper ss ts (Unloaded table) e h = (reaches-behind ss ts (Load table) e h.0, h.1)
outside-behind shelf keeper ss ts Memory e h = tt
outside-behind shelf keeper ss ts f e h = absurd h

stop-front : (shelf keeper : Bool) (ss ts : List WorkStep) (f : Fault) → IsStop shelf keeper ss f → IsStop shelf keeper (ss ++ ts) f
stop-front shelf keeper ss ts f h = elim h [ inl p ↦ inl (first-some ss ts f p) | inr q ↦ inr (outside-front shelf keeper ss ts f q) ]

stop-behind : (shelf keeper : Bool) (ss ts : List WorkStep) (f : Fault) → first_fault ss ≡ None → IsStop shelf keeper ts f → IsStop shelf keeper (ss ++ ts) f
stop-behind shelf keeper ss ts f e h = elim h [ inl p ↦ inl (rw (first-none ss ts e) p) | inr q ↦ inr (outside-behind shelf keeper ss ts f e q) ]

-- a stage that stops, stops the work
pub stage-stops : {T U : Type 0} {shelf keeper : Bool} {ss : List WorkStep} {stop : Fault} (ts : List WorkStep)
    → StageEnds {T = T} shelf keeper ss (Err stop) → StageEnds {T = U} shelf keeper (ss ++ ts) (Err stop)
stage-stops {shelf = shelf} {keeper = keeper} {ss = ss} {stop = stop} ts h = record { passed = tt; stopped = stop-front shelf keeper ss ts stop h.stopped }

-- a stage that has ended well leaves the end to the others
pub stage-goes_on : {T U : Type 0} {shelf keeper s k : Bool} {ss ts : List WorkStep} {x : T} {r : Result U Fault}
    → StageEnds s k ss (Ok x) → StageEnds shelf keeper ts r → StageEnds shelf keeper (ss ++ ts) r
stage-goes_on {ss = ss} {ts = ts} {r = Ok y} h k = record { passed = rw (first-none ss ts h.passed) k.passed; stopped = tt }
stage-goes_on {shelf = shelf} {keeper = keeper} {ss = ss} {ts = ts} {r = Err stop} h k = record { passed = tt; stopped = stop-behind shelf keeper ss ts stop h.passed k.stopped }

-- the last stage's answer is of another type
pub stage-done : {T U : Type 0} {shelf keeper s k : Bool} {ss : List WorkStep} {x : T} {y : U} → StageEnds s k ss (Ok x) → StageEnds shelf keeper ss (Ok y)
stage-done h = record { passed = h.passed; stopped = tt }

-- the parts are sound where those of the stage are; a stage that doesn't use a part speaks of a sound one
outside-weaker : (shelf keeper s k : Bool) (ss : List WorkStep) (f : Fault) → (IsTrue shelf → IsTrue s) → (IsTrue keeper → IsTrue k) → StopsOutside s k ss f → StopsOutside shelf keeper ss f
outside-weaker shelf keeper s k ss (Unread file) a b h = (h.0, λ t. h.1 (a t))
outside-weaker shelf keeper s k ss (Unloaded table) a b h = (h.0, λ t. h.1 (b t))
outside-weaker shelf keeper s k ss Memory a b h = tt
outside-weaker shelf keeper s k ss f a b h = absurd h

pub stop-weaker : (shelf keeper s k : Bool) (ss : List WorkStep) (f : Fault) → (IsTrue shelf → IsTrue s) → (IsTrue keeper → IsTrue k) → IsStop s k ss f → IsStop shelf keeper ss f
stop-weaker shelf keeper s k ss f a b h = elim h [ inl p ↦ inl p | inr q ↦ inr (outside-weaker shelf keeper s k ss f a b q) ]

pub stage-weaker : {T U : Type 0} {shelf keeper s k : Bool} {ss : List WorkStep} {stop : Fault} → (IsTrue shelf → IsTrue s) → (IsTrue keeper → IsTrue k)
    → StageEnds {T = T} s k ss (Err stop) → StageEnds {T = U} shelf keeper ss (Err stop)
stage-weaker {shelf = shelf} {keeper = keeper} {s = s} {k = k} {ss = ss} {stop = stop} a b h = record { passed = tt; stopped = stop-weaker shelf keeper s k ss stop a b h.stopped }

pub always : {t : Bool} → IsTrue t → IsTrue true
always h = refl

pub stage-over : {T : Type 0} {shelf keeper : Bool} {ss ts : List WorkStep} {r : Result T Fault} → ss ≡ ts → StageEnds shelf keeper ss r → StageEnds shelf keeper ts r
stage-over {shelf = shelf} {keeper = keeper} {r = r} e h = subst (λ xs. StageEnds shelf keeper xs r) e h

-- a fault that is none of the outside has no cause to show there
pub risen-inside : (shelf keeper : Type 0) (f : Fault) → IsRisen ⊥ ⊥ f → IsRisen shelf keeper f
risen-inside shelf keeper Usage h = absurd h
risen-inside shelf keeper (Unread file) h = absurd h
risen-inside shelf keeper (Unloaded table) h = absurd h
risen-inside shelf keeper Unwritten h = absurd h
risen-inside shelf keeper f h = tt

-- Groups that are given their answers, one after the other.
use Rattle.std.proofs.Common.{◌≡◌, ◌≢◌, ℕ, ◌+◌, ◌-◌, ◌<◌, ◌≤◌, Bool, true, false, ◌||◌, ℤ, pos, List, length, get_or, refl, sym, ◌∙◌, ap, subst, arith, inl, inr, IsPermutation}
use Rattle.std.proofs.lemmas.Bool.{cases_lt}
use Rattle.std.proofs.lemmas.List.{get_or_default}
use Rattle.std.proofs.lemmas.List.Elements.{Contains-get_or}
use Rattle.std.proofs.lemmas.List.Sorted.{Contains-permutation, IsPermutation-sym}
use Rattle.pl_spec.specs.Rounding.{is_present}
use Rattle.pl_pipeline.specs.declared.RankOrder.{RankOrder}
use Rattle.pl_pipeline.specs.declared.RankOrder.TheVariants.{Ascending}
use Rattle.pl_pipeline.specs.declared.Summary.{Summary}
use Rattle.pl_pipeline.specs.Kind.{CrossKind}
use Rattle.pl_pipeline.specs.Kind.CrossKind.{Summarize}
use Rattle.pl_pipeline.specs.Cross.{array_at, values, summary, cross, is_for_all}
use Rattle.pl_cross.specs.declared.listing.Listed.{Listed}
use Rattle.pl_cross.specs.declared.listing.Member.{Member}
use Rattle.pl_cross.specs.declared.listing.Session.{Session}
use Rattle.pl_cross.specs.declared.section.Section.{Section}
use Rattle.pl_cross.specs.declared.section.Section.TheVariants as code
use Rattle.pl_cross.specs.Section.{cross_of, order_of, upright, turned}
use Rattle.pl_cross.specs.Listing.{labels_in, belongs, enrolled_in, mates, AreGrouped, HaveOwnSeats, listed_at, gathered, entry_of, entries_of, answer_at, AreAnswers}
use Rattle.pl_cross.specs.Giving.{gives, is_given, given, none_at}
use Rattle.pl_cross.proofs.Grouping.{IsBetweenGroups, part, length-part, part-at, mates-part}
use Rattle.pl_cross.proofs.Sums.{one-sum-map, one-sum-permuted, one-cross}
use Rattle.pl_cross.proofs.Members.{member-is, member-there, gathered-is, gathered-there, given-is, not-given, none-is}

blank : Member
blank = record { group = pos 0; place = 0 }

-- what is no summary has a list of its own
pub not-for-all : (s : Section) → ((told : Summary) → s ≡ code.Summarize told → ⊥) → is_for_all (cross_of s) ≡ false
not-for-all (code.Summarize told) h = absurd (h told refl)
not-for-all s h = refl

-- ---- one group

module _ (k : CrossKind) (s : Session) (members : List Member) where
  -- each member that is given something has it
  abbrev pub HaveAnswers : List ℤ → Type 0
  HaveAnswers out = (j : ℕ) (d : Member) → j < length members → is_given k s (get_or members j d).place ≡ true → array_at out (get_or members j d).place ≡ given k s members (get_or members j d).place

  -- and other places are as they were
  abbrev pub KeepOthers : List ℤ → List ℤ → Type 0
  KeepOthers old out = (i : ℕ) → ((j : ℕ) (d : Member) → j < length members → is_given k s (get_or members j d).place ≡ true → (get_or members j d).place ≢ i) → array_at out i ≡ array_at old i

module _ (k : CrossKind) (s : Session) (members : List Member) (order : RankOrder) (listed : List Listed) (old out : List ℤ) (same : order ≡ order_of k) (made : listed ≡ gathered order s.values.now members) (own-list : is_for_all k ≡ false) where
  has-value : (i : ℕ) → is_given k s i ≡ true → is_present (array_at s.values.now i) ≡ true
  has-value i t = sym (ap (λ b. b || is_present (array_at s.values.now i)) own-list) ∙ t

  is-given : (i : ℕ) → is_present (array_at s.values.now i) ≡ true → is_given k s i ≡ true
  is-given i t = ap (λ b. b || is_present (array_at s.values.now i)) own-list ∙ t

  pub listed-given : ((j : ℕ) (d : Listed) → j < length listed → array_at out (get_or listed j d).place ≡ gives k listed (get_or listed j d)) → HaveAnswers k s members out
  listed-given h j d l t =
      let m : Member = get_or members j d in
      let e : Listed = listed_at order s.values.now m in
      let there = gathered-there order s.values.now members j e d l (has-value m.place t) in
      let one : get_or listed there.0 e ≡ e = ap (λ xs. get_or xs there.0 e) made ∙ there.2 in
      subst (λ (f : Listed). array_at out f.place ≡ gives k listed f) one (h there.0 e (omega (arith, there.1, ap length made)))
      ∙ ap (λ xs. gives k xs e) made
      ∙ ap (λ o. cross (upright k) (entries_of (gathered o s.values.now members)) m.place (turned o (array_at s.values.now m.place))) same

  pub listed-others : ((i : ℕ) → ((j : ℕ) (d : Listed) → j < length listed → (get_or listed j d).place ≢ i) → array_at out i ≡ array_at old i) → KeepOthers k s members old out
  listed-others h i none =
      h i (λ j d l e.
      let inside : j < length (gathered order s.values.now members) = omega (arith, l, ap length made) in
      let own = gathered-is order s.values.now members j d blank inside in
      let place : (get_or listed j d).place ≡ (get_or members own.0 blank).place = ap (λ xs. (get_or xs j d).place) made ∙ ap (λ (f : Listed). f.place) own.3 in
      none own.0 blank own.1 (is-given (get_or members own.0 blank).place own.2) (sym place ∙ e))

module _ (told : Summary) (s : Session) (members : List Member) (listed : List Listed) (old out : List ℤ) (v : ℤ) (made : listed ≡ gathered Ascending s.values.now members) where
  pub told-given : v ≡ summary told (values (entries_of listed)) → ((j : ℕ) (d : Member) → j < length members → array_at out (get_or members j d).place ≡ v) → HaveAnswers (Summarize told) s members out
  unfolding cross
  told-given e h j d l t = h j d l ∙ e ∙ ap (λ xs. summary told (values (entries_of xs))) made

  pub told-others : ((i : ℕ) → ((j : ℕ) (d : Member) → j < length members → (get_or members j d).place ≢ i) → array_at out i ≡ array_at old i) → KeepOthers (Summarize told) s members old out
  told-others h i none = h i (λ j d l. none j d l refl)

-- what is written of a group that was put into another order
module _ (k : CrossKind) (group ordered : List Listed) (answers old out : List ℤ) (moved : IsPermutation group ordered) where
  pub scattered : AreAnswers (upright k) (λ e. entries_of ordered) ordered answers
      → ((j : ℕ) (d : Listed) → j < length ordered → array_at out (get_or ordered j d).place ≡ array_at answers j)
      → (j : ℕ) (d : Listed) → j < length group → array_at out (get_or group j d).place ≡ gives k group (get_or group j d)
  scattered answered written j d l =
      let e : Listed = get_or group j d in
      let there = Contains-permutation group ordered e moved (Contains-get_or group j d l) in
      let one : get_or ordered there.0 e ≡ e = there.2 in
      subst (λ (f : Listed). array_at out f.place ≡ cross (upright k) (entries_of ordered) f.place f.value) one (written there.0 e there.1 ∙ answered there.0 e there.1)
      ∙ one-cross (upright k) (entries_of ordered) (entries_of group) e.place e.value (one-sum-map entry_of ordered group (one-sum-permuted group ordered moved))

  pub left : ((i : ℕ) → ((j : ℕ) (d : Listed) → j < length ordered → (get_or ordered j d).place ≢ i) → array_at out i ≡ array_at old i)
      → (i : ℕ) → ((j : ℕ) (d : Listed) → j < length group → (get_or group j d).place ≢ i) → array_at out i ≡ array_at old i
  left written i none =
      written i (λ j d l e.
      let f : Listed = get_or ordered j d in
      let there = Contains-permutation ordered group f (IsPermutation-sym group ordered moved) (Contains-get_or ordered j d l) in
      none there.0 f there.1 (ap (λ (x : Listed). x.place) there.2 ∙ e))

-- ---- group after group

module _ (k : CrossKind) (s : Session) (members : List Member) where
  -- each of the first n members that is given something has it
  abbrev pub HaveOwn : List ℤ → ℕ → Type 0
  HaveOwn out n =
      (j : ℕ) (d : Member) → j < n → is_given k s (get_or members j d).place ≡ true
      → array_at out (get_or members j d).place ≡ given k s (mates (get_or members j d).group members) (get_or members j d).place

  abbrev pub KeepRest : List ℤ → List ℤ → ℕ → Type 0
  KeepRest old out n = (i : ℕ) → ((j : ℕ) (d : Member) → j < n → is_given k s (get_or members j d).place ≡ true → (get_or members j d).place ≢ i) → array_at out i ≡ array_at old i

module _ (k : CrossKind) (s : Session) (members : List Member) (a e : ℕ) (some : a < e) (inside : e ≤ length members) (out new : List ℤ)
    (others : KeepOthers k s (part a (e - a) members) out new) where
  long : length (part a (e - a) members) ≡ e - a
  long = length-part a (e - a) members (omega arith)

  seat : (j : ℕ) (d : Member) → j < length (part a (e - a) members) → get_or (part a (e - a) members) j d ≡ get_or members (a + j) d
  seat j d l = part-at a (e - a) members j d (omega (arith, long))

  pub own-next : HaveOwnSeats members → AreGrouped members → IsBetweenGroups members a
      → ((i : ℕ) (d : Member) → a ≤ i → i < e → (get_or members i d).group ≡ (get_or members a d).group)
      → ((d : Member) → e < length members → (get_or members e d).group ≡ (get_or members a d).group → ⊥)
      → HaveAnswers k s (part a (e - a) members) new → HaveOwn k s members out a → HaveOwn k s members new e
  own-next own up between same other now before j d h t = elim (cases_lt j a) [
    | inl lt ↦
        others (get_or members j d).place (λ i f l g bad.
        let there : get_or (part a (e - a) members) i f ≡ get_or members (a + i) f = seat i f l in
        own.apart j (a + i) f (omega arith) (omega (arith, l, long))
        (ap (λ (m : Member). m.place) (get_or_default members j f d (omega arith)) ∙ sym bad ∙ ap (λ (m : Member). m.place) there))
        ∙ before j d lt t
    | inr ge ↦
        let size : a + (e - a) ≡ e = omega arith in
        let within : j - a < length (part a (e - a) members) = omega (arith, long) in
        let there : get_or (part a (e - a) members) (j - a) d ≡ get_or members j d = seat (j - a) d within ∙ (let back : a + (j - a) ≡ j = omega arith in ap (λ i. get_or members i d) back) in
        let group : mates (get_or members j d).group members ≡ part a (e - a) members =
        mates-part members a (e - a) (omega arith) (omega arith) (λ i d l m. same i d l (omega arith)) j d ge (omega arith) up between
        (λ d l m. other d (omega arith) (ap (λ i. (get_or members i d).group) (sym size) ∙ m)) in
        subst (λ (m : Member). array_at new m.place ≡ given k s (part a (e - a) members) m.place) there
        (now (j - a) d within (subst (λ (m : Member). is_given k s m.place ≡ true) (sym there) t))
        ∙ ap (λ xs. given k s xs (get_or members j d).place) (sym group)
  ]

  pub rest-next : (old : List ℤ) → KeepRest k s members old out a → KeepRest k s members old new e
  rest-next old before i none =
      others i (λ j d l t bad.
      let there : get_or (part a (e - a) members) j d ≡ get_or members (a + j) d = seat j d l in
      none (a + j) d (omega (arith, l, long)) (subst (λ (m : Member). is_given k s m.place ≡ true) there t) (sym (ap (λ (m : Member). m.place) there) ∙ bad))
      ∙ before i (λ j d l t. none j d (omega arith) t)

-- ---- all places

none-empty : (k : CrossKind) (empty : ℤ) (keep : List ℤ) (i : ℕ) → is_for_all k ≡ false → none_at k empty keep i ≡ empty
none-empty (Summarize told) empty keep i e = absurd (let bad : true ≡ false = e in cc)
none-empty k empty keep i e = refl

pub all-is : (k : CrossKind) (empty : ℤ) (s : Session) (members : List Member) (old out : List ℤ) → IsPermutation (enrolled_in s (length s.values.now)) members
    → HaveOwn k s members out (length members) → KeepRest k s members old out (length members) → ((i : ℕ) → i < length s.values.now → array_at old i ≡ none_at k empty s.keep.now i)
    → (i : ℕ) → i < length s.values.now → array_at out i ≡ answer_at k empty s i
all-is k empty s members old out moved own rest cleared i h = here (belongs s.keep.now (labels_in s.groups) i) refl
  where
    here : (b : Bool) → belongs s.keep.now (labels_in s.groups) i ≡ b → array_at out i ≡ answer_at k empty s i
    here true t = some (is_given k s i) refl
      where
        some : (b : Bool) → is_given k s i ≡ b → array_at out i ≡ answer_at k empty s i
        some true g =
            let there = member-there s.keep.now (labels_in s.groups) (length s.values.now) members moved i blank h t in
            subst (λ (m : Member). array_at out m.place ≡ given k s (mates m.group members) m.place) there.2
            (own there.0 blank there.1 (ap (λ (m : Member). is_given k s m.place) there.2 ∙ g))
            ∙ given-is k empty s.values.now s.keep.now (labels_in s.groups) i members h moved t g
        some false g =
            rest i (λ j d l u same. let bad : true ≡ false = sym u ∙ ap (is_given k s) same ∙ g in absurd (cc))
            ∙ cleared i h ∙ none-empty k empty s.keep.now i (first (is_for_all k) (is_present (array_at s.values.now i)) g)
            ∙ sym (not-given k empty s.values.now s.keep.now (labels_in s.groups) i t g)
          where
            first : (a b : Bool) → (a || b) ≡ false → a ≡ false
            first true b e = e
            first false b e = refl
    here false f =
        rest i (λ j d l u same.
        let own = member-is s.keep.now (labels_in s.groups) (length s.values.now) members moved j d l in
        let one : own.0 ≡ i = sym (ap (λ (m : Member). m.place) own.3) ∙ same in
        let bad : true ≡ false = sym own.2 ∙ ap (belongs s.keep.now (labels_in s.groups)) one ∙ f in absurd (cc))
        ∙ cleared i h ∙ none-is k empty s.values.now s.keep.now (labels_in s.groups) i f

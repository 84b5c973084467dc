-- Worlds that show the same from a session to another have the same values there.
use Rattle.std.proofs.Common.{◌≡◌, ℕ, suc, ◌≤◌, Bool, true, false, ◌&&◌, ◌==◌, cond, ℤ, pos, ◌≤ℤ◌, List, refl, sym, ◌∙◌, ap, arith}
use Rattle.std.specs.List.{list_any}
use Rattle.std.proofs.lemmas.Int.{ints}
use Rattle.std.proofs.lemmas.Bool.{and_parts}
use Rattle.pl_spec.specs.World.{World, exists}
use Rattle.pl_spec.specs.Window.{before}
use Rattle.pl_spec.proofs.Windows.{map-downward, before-zero}
use Rattle.pl_pipeline.specs.Graph.{part_reach, reads_at, reach}
use Rattle.pl_pipeline.specs.Kind.{Kind}
use Rattle.pl_pipeline.specs.Kind.Kind.{Window, Point}
use Rattle.pl_pipeline.specs.Reaching.{HasWindows}
use Rattle.pl_pipeline.specs.Term.{Term}
use Rattle.pl_pipeline.specs.Term.Term.{absent, column, node}
use Rattle.pl_pipeline.specs.Value.{Meaning, View, Own, From, seen_from, part_from, part_of, number_of, seen_operands, window_of, passes, keeps_point, keeps_window, view_of, kind_value, empty, sort_over, sort_kind, seen, value}
use Rattle.pl_pipeline.proofs.SameOperands.{Alike, passes_alike}
use Rattle.pl_laws.proofs.Reaches.{below_least, at_downward}
use Rattle.pl_laws.proofs.Lows.{reaches_of, reads_at-within}
use Rattle.pl_laws.proofs.Calendars.{reads_at-same}
use Rattle.pl_cut.specs.Within.{AgreeWithin}
use Rattle.pl_cut.proofs.OneAsset.{Counts, SameForAsset, kind_same}

-- a choice is the same where it is the same if the test holds
chosen_same : {X : Type 0} (b : Bool) (x y z : X) → (b ≡ true → x ≡ y) → cond b x z ≡ cond b y z
chosen_same true x y z h = h refl
chosen_same false x y z h = refl

module _ (w v : World) (first last : ℤ) (same : AgreeWithin w v first last) where
  pub exists_same : (a : ℕ) (d : ℤ) → first ≤ℤ d → d ≤ℤ last → exists w a d ≡ exists v a d
  exists_same a d h l = ap (list_any (λ x. x == a)) (same.assets d h l)

  -- ---- views

  -- the session from which all is seen has the asset
  abbrev IsAliveFrom : View → ℕ → Type 0
  IsAliveFrom Own a = Unit {0}
  IsAliveFrom (From u) a = exists w a u ≡ true

  -- What asset a is worth on session d is seen from that session or a later one, which is no later than the last.
  record IsShown (view : View) (a : ℕ) (d : ℤ) : Type 0 where
    from : d ≤ℤ seen_from view d
    by : seen_from view d ≤ℤ last
    alive : IsAliveFrom view a

  shown_by : (view : View) (a : ℕ) (d : ℤ) → IsShown view a d → d ≤ℤ last
  shown_by view a d s = let low : d ≤ℤ seen_from view d = s.from in let high : seen_from view d ≤ℤ last = s.by in omega (arith, ints)

  shown_own : (a : ℕ) (d : ℤ) → d ≤ℤ last → IsShown Own a d
  shown_own a d l = record { from = omega (arith, ints); by = l; alive = tt }

  shown_earlier : (view : View) (a : ℕ) (d r : ℤ) → r ≤ℤ d → IsShown view a d → IsShown view a r
  shown_earlier Own a d r h s = let high : d ≤ℤ last = s.by in shown_own a r (omega (arith, ints))
  shown_earlier (From u) a d r h s = let low : d ≤ℤ u = s.from in record { from = omega (arith, ints); by = s.by; alive = s.alive }

  alive_there : (view : View) (a : ℕ) (d : ℤ) → IsShown view a d → exists w a d ≡ true → exists w a (seen_from view d) ≡ true
  alive_there Own a d s alive = alive
  alive_there (From u) a d s alive = s.alive

  -- so are the values that a kind is of, where the asset exists
  inner_shown : (k : Kind) (view : View) (a : ℕ) (d : ℤ) → IsShown view a d → exists w a d ≡ true
      → (b : ℕ) → Counts k a b → IsShown (view_of k view d) b (reads_at w.days k d)
  inner_shown (Window f) view a d s alive b e = rw e (window (keeps_window f))
    where
      window : (keeps : Bool) → IsShown (From (cond keeps d (seen_from view d))) a d
      window true = record { from = omega (arith, ints); by = shown_by view a d s; alive = alive }
      window false = record { from = s.from; by = s.by; alive = alive_there view a d s alive }
  inner_shown (Point f) view a d s alive b e = rw e (operation (keeps_point f))
    where
      operation : (keeps : Bool) → IsShown (cond keeps Own view) a d
      operation true = shown_own a d (shown_by view a d s)
      operation false = s
  inner_shown k view a d s alive b e =
      let within : reads_at w.days k d ≤ℤ d = reads_at-within w.days k d in
      let by : d ≤ℤ last = shown_by view a d s in
      shown_own b (reads_at w.days k d) (omega (arith, ints))

  -- ---- values

  -- a term is worth the same wherever it reaches no farther back than the first session
  abbrev SameThere : View → Term → Meaning → Meaning → Type 0
  SameThere view t f g = (a : ℕ) (d : ℤ) → first ≤ℤ reach w.days t d → IsShown view a d → f a d ≡ g a d

  now_same : (view : View) (t : Term) (f g : Meaning) (size : ℕ) (d : ℤ) → 1 ≤ size → SameThere view t f g → first ≤ℤ part_reach t (reach w.days t) size d
      → (b : ℕ) → IsShown view b d → Alike (part_from view t f) (part_from view t g) b d
  now_same view absent f g size d some e h b s = record { value = refl; nothing = refl }
  now_same view (column c) f g size d some e h b s = record { value = refl; nothing = refl }
  now_same view (node k i x y z m p) f g size d some e h b s =
      let from = at_downward first (λ s. reach w.days (node k i x y z m p) (before d s)) size (below_least first d _ h).1 in
      let now = from 0 (omega arith) in
      record { value = e b d (rw (before-zero d) at now) s; nothing = refl }

  window_same : (view : View) (t : Term) (f g : Meaning) (size a : ℕ) (d : ℤ) → SameThere view t f g → first ≤ℤ part_reach t (reach w.days t) size d
      → IsShown view a d → exists w a (seen_from view d) ≡ true
      → window_of w size (part_from view t f) a d ≡ window_of v size (part_from view t g) a d
  window_same view absent f g size a d e h s alive = refl
  window_same view (column c) f g size a d e h s alive =
      let low : d ≤ℤ seen_from view d = s.from in
      map-downward _ _ size (λ n below. same.cells a c (before d (suc n)) (seen_from view d) (omega (arith, ints)) (omega (arith, ints)) s.by alive)
  window_same view (node k i x y z m p) f g size a d e h s alive =
      let from = at_downward first (λ s. reach w.days (node k i x y z m p) (before d s)) size (below_least first d _ h).1 in
      map-downward _ _ size (λ n below. ap number_of (e a (before d n) (from n below) (shown_earlier view a d (before d n) (omega (arith, ints)) s)))

  -- what a term reads for an asset that exists is the same
  abbrev SameForAliveAsset : List (List ℕ) → Term → View → ℕ → ℤ → Type 0
  SameForAliveAsset names (node k size x y z m p) view a d =
      exists w a d ≡ true
      → SameForAsset w v k size (seen_operands w names (node k size x y z m p) view d) (seen_operands v names (node k size x y z m p) view d) a d
  SameForAliveAsset names t view a d = Unit {0}

  seen_same : (names : List (List ℕ)) (t : Term) → HasWindows t → (view : View) → SameThere view t (seen w names t view) (seen v names t view)
  unfolding value seen reach
  seen_same names absent ok view a d h s = refl
  seen_same names (column c) ok view a d h s = refl
  seen_same names (node k size x y z m p) ok view a d h s =
      let t : Term = node k size x y z m p in
      let inner : View = view_of k view d in
      let read : ℤ = reads_at w.days k d in
      let l : d ≤ℤ last = shown_by view a d s in
      let parts = below_least first d (reaches_of w.days k size x y z m p d) h in
      let from : first ≤ℤ d = parts.0 in
      let mask : (b : ℕ) → Alike (part_of m (seen w names m Own)) (part_of m (seen v names m Own)) b d
      = λ b. now_same Own m _ _ 1 d (omega arith) (seen_same names m ok.4 Own) parts.1.1.1.1.0 b (shown_own b d l) in
      let reads : SameForAliveAsset names t view a d = λ alive. record {
        labels = λ name. same.labels name a d from l alive;
        numbers = λ f name. same.numbers f name a d from l alive;
        living = same.assets d from l;
        reads = reads_at-same w.days v.days last (λ i near. same.days (pos i) near) k d l;
        first = λ b e. now_same inner x _ _ size read ok.0 (seen_same names x ok.1 inner) parts.1.0 b (inner_shown k view a d s alive b e);
        second = λ b e. now_same inner y _ _ size read ok.0 (seen_same names y ok.2 inner) parts.1.1.0 b (inner_shown k view a d s alive b e);
        third = λ b e. now_same inner z _ _ size read ok.0 (seen_same names z ok.3 inner) parts.1.1.1.0 b (inner_shown k view a d s alive b e);
        windows = λ f e.
            let now : read ≡ d = ap (λ q. reads_at w.days q d) e in
            let mine : Counts k a a = rw e refl in
            let shown : IsShown inner a read = inner_shown k view a d s alive a mine in
            let here : IsShown inner a d = rw now at shown in
            let there : exists w a (seen_from inner d) ≡ true = alive_there inner a d here alive in
            record {
              first = window_same inner x _ _ size a d (seen_same names x ok.1 inner) (rw now at parts.1.0) here there;
              second = window_same inner y _ _ size a d (seen_same names y ok.2 inner) (rw now at parts.1.1.0) here there;
              third = window_same inner z _ _ size a d (seen_same names z ok.3 inner) (rw now at parts.1.1.1.0) here there;
            };
        mask = mask;
        group = λ b. now_same Own p _ _ 1 d (omega arith) (seen_same names p ok.5 Own) parts.1.1.1.1.1.0 b (shown_own b d l);
      } in
      rw (exists_same a d from l, passes_alike _ _ a d (mask a))
      (chosen_same (exists v a d && passes (part_of m (seen v names m Own)) a d) (kind_value w names k size (seen_operands w names t view d) a d) (kind_value v names k size (seen_operands v names t view d) a d)
      (empty (sort_over k (sort_kind x))) (λ both. kind_same w v names size _ _ a d k (reads (exists_same a d from l ∙ (and_parts (exists v a d) _ both).0))))

  pub values_same : (names : List (List ℕ)) (t : Term) → HasWindows t → (a : ℕ) (d : ℤ) → first ≤ℤ reach w.days t d → d ≤ℤ last → value w names t a d ≡ value v names t a d
  unfolding value
  values_same names t ok a d h l = seen_same names t ok Own a d h (shown_own a d l)

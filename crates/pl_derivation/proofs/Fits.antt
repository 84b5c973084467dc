-- The premises of a fact that may stand in a derivation may stand in it too, and are of a lower depth.
use Rattle.std.proofs.Common.{◌≡◌, ℕ, zero, suc, ◌<◌, ◌≤◌, Bool, true, false, not, ◌&&◌, ◌||◌, if◌then◌else◌, cond, ℤ, pos, negsuc, ◌≤ℤ◌, ◌<ℤ◌, List, [], ◌∷◌, ◌++◌, length, map, filter, filter_map, Option, Some, None, option_map, unwrap_or, option_to_list, refl, arith, slice_get, get_or, ◌==◌}
use Rattle.std.specs.List.{list_any}
use Rattle.std.specs.Ordering.{int_eq}
use Rattle.std.specs.Int.RustNames.{int_lt}
use Rattle.std.proofs.lemmas.Int.{ints}
use Rattle.std.proofs.lemmas.Bool.{or_left, or_right, and_from, and_parts, eq-eqb}
use Rattle.std.proofs.lemmas.Option.{slice_get_within, slice_get-get_or}
use Rattle.pl_spec.specs.declared.Column.{Column}
use Rattle.pl_spec.specs.declared.AssetRow.{AssetRow}
use Rattle.pl_spec.specs.declared.Frequency.{Frequency}
use Rattle.pl_spec.specs.World.{World, day_of, lives_on, living_sids, exists}
use Rattle.pl_spec.specs.Window.{before, downward}
use Rattle.pl_spec.specs.Periods.{first_session, period_start}
use Rattle.pl_pipeline.specs.Kind.{Kind}
use Rattle.pl_pipeline.specs.Kind.Kind.{Window, Point, LabelTest, Cross, Downsample}
use Rattle.pl_pipeline.specs.Term.{Term, Graph, Input, Node, IsGraph, input_tree, number_tree, tree_over, trees, term_at}
use Rattle.pl_pipeline.specs.Term.Term.{absent, column, node}
use Rattle.pl_pipeline.specs.Term.Input.{BarColumn, TermInput}
use Rattle.pl_pipeline.specs.Value.{View, Own, From, seen_from, view_of, keeps_window, keeps_point, passes, is_steady}
use Rattle.pl_pipeline.specs.Graph.{part_reach, reads_at, reach, input_number, mentions, contains}
use Rattle.pl_pipeline.specs.Graph.Used.{mentioned}
use Rattle.pl_pipeline.specs.Table.{Pipeline}
use Rattle.pl_pipeline.proofs.Trees.{term_at-node}
use Rattle.pl_pipeline.proofs.Unfolds.{past}
use Rattle.pl_laws.proofs.Uses.{used_terms-sound, used_terms-complete}
use Rattle.pl_laws.proofs.Reaches.{below_least, at_downward}
use Rattle.pl_laws.proofs.Starts.{start-within}
use Rattle.pl_terms.specs.Uses.{outputs, is_used}
use Rattle.pl_spec.proofs.Each.{Each, each_both, each_in_map, each_in_flat, each_more}
use Rattle.pl_spec.proofs.Signed.{lt-int_lt}
use Rattle.pl_pipeline.proofs.Contained.{in-front, in-back, option-in, input-in}
use Rattle.pl_spec.proofs.Windows.{before-zero, before-less}
use Rattle.pl_derivation.specs.Facts.{Fact, Reading, value_fact, told_fact, window_facts, facts_now, number_facts, over_inputs, entry_facts, kind_facts, number_read, node_facts, value_facts, premises}
use Rattle.pl_derivation.specs.Facts.Fact.{Seen, TermValue, SeenValue}
use Rattle.pl_derivation.specs.Right.{has_sid, is_fitting}
use Rattle.pl_derivation.specs.Walks.{depth_of}
use Rattle.pl_derivation.proofs.Truths.{and4}

-- ---- sessions that are reached

-- each window of the graph holds a session
abbrev pub HasSessions : Graph → Type 0
HasSessions g = (k : ℕ) (n : Node) → slice_get g k ≡ Some n → 1 ≤ n.window

-- three lists, one after the other
three_each : {X : Type 0} (P : X → Type 0) (xs ys zs : List X) → Each P xs → Each P ys → Each P zs → Each P (xs ++ ys ++ zs)
three_each P xs ys zs x y z = each_both P (xs ++ ys) zs (each_both P xs ys x y) z

each_downward : (P : ℕ → Type 0) (size : ℕ) → ((n : ℕ) → n < size → P n) → Each P (downward size)
each_downward P zero h = tt
each_downward P (suc size) h = (h size (omega arith), each_downward P size (λ n l. h n (omega arith)))

-- no term reaches later than its session
late : (days : List ℤ) (low : ℤ) (t : Term) (d : ℤ) → low ≤ℤ reach days t d → low ≤ℤ d
unfolding reach
late days low absent d h = h
late days low (column c) d h = h
late days low (node k size x y z m g) d h =
    (below_least low d (part_reach x (reach days x) size (reads_at days k d) ∷ part_reach y (reach days y) size (reads_at days k d) ∷ part_reach z (reach days z) size (reads_at days k d) ∷ part_reach m (reach days m) 1 d ∷ part_reach g (reach days g) 1 d ∷ []) h).0

-- the first session of a period is one
start-from : (f : Frequency) (days : List ℤ) (m : ℕ) → pos 0 ≤ℤ period_start f days (pos m)
unfolding period_start
start-from f days m = here (slice_get days m)
  where
    here : (o : Option ℤ) → pos 0 ≤ℤ unwrap_or (option_map (λ day. pos (first_session f days day)) o) (pos m)
    here None = omega (arith, ints)
    here (Some day) = omega (arith, ints)

before-least : (d : ℤ) (size n : ℕ) → n < size → pos 0 ≤ℤ before d size → pos 0 ≤ℤ before d (suc n)
before-least d size n l h = omega (arith, ints)

before-most : (d : ℤ) (n : ℕ) → before d n ≤ℤ d
before-most d n = omega (arith, ints)

-- ---- sessions

le-itself : (d : ℤ) → d ≤ℤ d
le-itself d = omega (arith, ints)

less-of : (s v : ℤ) → s ≤ℤ v → int_eq s v ≡ false → s <ℤ v
less-of s v l h = grind (arith, ints)

int_lt-lt : (s d : ℤ) → int_lt s d ≡ true → s <ℤ d
int_lt-lt s d h = grind (arith, ints)

-- there is such a session
abbrev pub IsSession : World → ℤ → Type 0
IsSession w d = (n : ℕ) × (day : ℤ) × (d ≡ pos n) × (day_of w (pos n) ≡ Some day)

-- what is seen for session s is seen from there, or from a later session
abbrev pub IsSeenFrom : World → View → ℤ → Type 0
IsSeenFrom w Own s = Unit {0}
IsSeenFrom w (From v) s = IsSession w v × (s ≤ℤ v)

-- a window sees its inputs from a session that is no earlier than its own
window-seen : (w : World) (b : Bool) (view : View) (d : ℤ) → IsSession w d → IsSeenFrom w view d → IsSeenFrom w (From (cond b d (seen_from view d))) d
window-seen w true view d now seen = (now, le-itself d)
window-seen w false Own d now seen = (now, le-itself d)
window-seen w false (From v) d now seen = seen

point-seen : (w : World) (b : Bool) (view : View) (d : ℤ) → IsSeenFrom w view d → IsSeenFrom w (cond b Own view) d
point-seen w true view d seen = tt
point-seen w false view d seen = seen

-- the sessions before are seen from there too
seen-before : (w : World) (view : View) (s d : ℤ) → s ≤ℤ d → IsSeenFrom w view d → IsSeenFrom w view s
seen-before w Own s d l seen = tt
seen-before w (From v) s d l seen = (seen.0, let le : d ≤ℤ v = seen.1 in omega (arith, ints))

get_before : {X : Type 0} (xs : List X) (m n : ℕ) (x : X) → m ≤ n → slice_get xs n ≡ Some x → (y : X) × (slice_get xs m ≡ Some y)
get_before xs m n x l e = let within = slice_get_within xs n x e in (get_or xs m x, slice_get-get_or xs m x (omega arith))

pub session_before : (w : World) (s d : ℤ) → IsSession w d → pos 0 ≤ℤ s → s ≤ℤ d → IsSession w s
session_before w (pos m) d h low l =
    let same : d ≡ pos h.0 = h.2 in
    let le : m ≤ h.0 = omega (arith, ints) in
    let at : (y : ℤ) × (slice_get w.days m ≡ Some y) = get_before w.days m h.0 h.1 le h.3 in
    (m, at.0, refl, at.1)
session_before w (negsuc m) d h low l = absurd (omega (arith, ints))

-- ---- sids

living_known : (w : World) (d : ℤ) → Each (λ b. has_sid w b ≡ true) (living_sids w d)
living_known w d = on (day_of w d)
  where
    sid_in : (day : ℤ) (rows all : List AssetRow) → ((b : ℕ) → list_any (λ x. x.sid == b) rows ≡ true → list_any (λ x. x.sid == b) all ≡ true)
        → Each (λ b. list_any (λ x. x.sid == b) all ≡ true) (map (λ a. a.sid) (filter (lives_on day) rows))
    sid_in day [] all h = tt
    sid_in day (r ∷ rows) all h =
        here (lives_on day r) (sid_in day rows all (λ b e. h b (or_right (r.sid == b) (list_any (λ x. x.sid == b) rows) e)))
      where
        here : (t : Bool) → Each (λ b. list_any (λ x. x.sid == b) all ≡ true) (map (λ a. a.sid) (filter (lives_on day) rows))
            → Each (λ b. list_any (λ x. x.sid == b) all ≡ true) (map (λ a. a.sid) (cond t (r ∷ filter (lives_on day) rows) (filter (lives_on day) rows)))
        here true rest = (h r.sid (or_left (r.sid == r.sid) (list_any (λ x. x.sid == r.sid) rows) (eq-eqb r.sid r.sid refl)), rest)
        here false rest = rest

    on : (o : Option ℤ) → Each (λ b. has_sid w b ≡ true) (unwrap_or (option_map (λ day. map (λ a. a.sid) (filter (lives_on day) w.assets)) o) [])
    on None = tt
    on (Some day) = sid_in day w.assets w.assets (λ b e. e)

-- ---- mentioned terms

module _ (w : World) (p : Pipeline) (ok : IsGraph p.graph) (windows : HasSessions p.graph) where
  abbrev g : Graph
  g = p.graph

  -- a fact that may stand in a derivation: it fits, and what it reaches to has days
  abbrev pub Fits : Fact → Type 0
  Fits (Seen c a s d) = (is_fitting w p (Seen c a s d) ≡ true) × IsSession w s × IsSession w d
  Fits (TermValue t a d) = (is_fitting w p (TermValue t a d) ≡ true) × IsSession w d × (pos 0 ≤ℤ reach w.days (term_at g t) d)
  Fits (SeenValue t a s d) = (is_fitting w p (SeenValue t a s d) ≡ true) × IsSession w s × IsSession w d × (pos 0 ≤ℤ reach w.days (term_at g t) s)

  -- and of a lower depth
  abbrev pub Ready : ℕ → Fact → Type 0
  Ready depth f = Fits f × (depth_of f ≤ depth)

  module _ (k : ℕ) (n : Node) (at : slice_get g k ≡ Some n) (used : is_used p k ≡ true) where
    used_too : (t : ℕ) → t < k → contains (mentions n) t ≡ true → is_used p t ≡ true
    used_too t l h =
        let here : k < length g = slice_get_within g k n at in
        used_terms-complete g (outputs p) ok t (omega arith)
        (mentioned k (used_terms-sound g (outputs p) ok k used) (rw at h))

    -- a term that the node mentions
    record Lower (t : ℕ) : Type 0 where
      below : t < k
      read : is_used p t ≡ true

    input_lower : (i t : ℕ) → slice_get n.inputs i ≡ Some (TermInput t) → Lower t
    input_lower i t e =
        let l : t < k = (ok.lower k n at).inputs i t e in
        record {
          below = l;
          read = used_too t l
              (in-front (filter_map input_number n.inputs ++ option_to_list n.mask) (option_to_list n.group) t
              (in-front (filter_map input_number n.inputs) (option_to_list n.mask) t (input-in n.inputs i t e)));
        }

    mask_lower : (t : ℕ) → n.mask ≡ Some t → Lower t
    mask_lower t e =
        let l : t < k = (ok.lower k n at).mask t e in
        record {
          below = l;
          read = used_too t l
              (in-front (filter_map input_number n.inputs ++ option_to_list n.mask) (option_to_list n.group) t
              (in-back (filter_map input_number n.inputs) (option_to_list n.mask) t (option-in n.mask t e)));
        }

    group_lower : (t : ℕ) → n.group ≡ Some t → Lower t
    group_lower t e =
        let l : t < k = (ok.lower k n at).group t e in
        record {
          below = l;
          read = used_too t l (in-back (filter_map input_number n.inputs ++ option_to_list n.mask) (option_to_list n.group) t (option-in n.group t e));
        }

    -- the reach of a term in a window
    term_reach : (t : ℕ) → t < k → (size : ℕ) (d : ℤ) → pos 0 ≤ℤ part_reach (term_at g t) (reach w.days (term_at g t)) size d
        → (i : ℕ) → i < size → pos 0 ≤ℤ reach w.days (term_at g t) (before d i)
    term_reach t l size d h i below =
        let here : k < length g = slice_get_within g k n at in
        found (slice_get g t) refl
      where
        found : (o : Option Node) → slice_get g t ≡ o → pos 0 ≤ℤ reach w.days (term_at g t) (before d i)
        found None e = let here : k < length g = slice_get_within g k n at in absurd (past g t (omega arith) e)
        found (Some m) e =
            let tree : term_at g t ≡ tree_over (trees g) m = term_at-node g t m ok e in
            let low : pos 0 ≤ℤ part_reach (tree_over (trees g) m) (reach w.days (tree_over (trees g) m)) size d = rw tree at h in
            let at_i = at_downward (pos 0) (λ i. reach w.days (tree_over (trees g) m) (before d i)) size (below_least (pos 0) d _ low).1 i below in
            rw tree at_i

    module _ (a : ℕ) (d : ℤ) (sid : has_sid w a ≡ true) (now : IsSession w d) where
      worth_ready : (t : ℕ) (s : ℤ) → Lower t → IsSession w s → pos 0 ≤ℤ reach w.days (term_at g t) s → Ready (suc k) (TermValue t a s)
      worth_ready t s lower at_s low = let l : t < k = lower.below in ((and_from _ _ sid lower.read, at_s, low), omega arith)

      -- a term's value, as it is told of it in a view
      told_ready : (t : ℕ) (s : ℤ) (view : View) → Lower t → IsSession w s → IsSeenFrom w view s → pos 0 ≤ℤ reach w.days (term_at g t) s → Ready (suc k) (told_fact g t a s view)
      told_ready t s Own lower at_s seen low = worth_ready t s lower at_s low
      told_ready t s (From v) lower at_s seen low = by_term (is_steady (term_at g t)) refl
        where
          by_session : (b : Bool) → int_eq s v ≡ b → is_steady (term_at g t) ≡ false → Ready (suc k) (told_fact g t a s (From v))
          by_session true e moves = rw (moves, e) (worth_ready t s lower at_s low)
          by_session false e moves =
              let l : t < k = lower.below in
              let fit : is_fitting w p (SeenValue t a s v) ≡ true = rw (sid, lower.read, moves, lt-int_lt s v (less-of s v seen.1 e)) refl in
              rw (moves, e) ((fit, at_s, seen.0, low), omega arith)

          by_term : (b : Bool) → is_steady (term_at g t) ≡ b → Ready (suc k) (told_fact g t a s (From v))
          by_term true e = rw e (worth_ready t s lower at_s low)
          by_term false e = by_session (int_eq s v) refl e

      bar_ready : (c : Column) (s v : ℤ) → s <ℤ d → IsSeenFrom w (From v) d → pos 0 ≤ℤ s → Ready (suc k) (Seen c a s v)
      bar_ready c s v l seen low =
          let le : d ≤ℤ v = seen.1 in
          let less : s <ℤ v = omega (arith, ints) in
          ((and_from _ _ sid (lt-int_lt s v less), session_before w s d now low (omega (arith, ints)), seen.0), omega arith)

      now_ready : (i : ℕ) (view : View) (size : ℕ) → IsSeenFrom w view d → 1 ≤ size → pos 0 ≤ℤ part_reach (input_tree (trees g) (slice_get n.inputs i)) (reach w.days (input_tree (trees g) (slice_get n.inputs i))) size d
          → Each (Ready (suc k)) (facts_now g view a d (slice_get n.inputs i))
      now_ready i view size seen some low = found (slice_get n.inputs i) refl low
        where
          found : (o : Option Input) → slice_get n.inputs i ≡ o → pos 0 ≤ℤ part_reach (input_tree (trees g) o) (reach w.days (input_tree (trees g) o)) size d → Each (Ready (suc k)) (facts_now g view a d o)
          found None e low = tt
          found (Some (BarColumn c)) e low = tt
          found (Some (TermInput t)) e low =
              let lower : Lower t = input_lower i t e in
              let at_zero = term_reach t lower.below size d low 0 (omega arith) in
              (told_ready t d view lower now seen (rw (before-zero d) at at_zero), tt)

      number_ready : (o : Option ℕ) → ((t : ℕ) → o ≡ Some t → Lower t) → pos 0 ≤ℤ part_reach (number_tree (trees g) o) (reach w.days (number_tree (trees g) o)) 1 d
          → Each (Ready (suc k)) (number_facts a d o)
      number_ready None lower low = tt
      number_ready (Some t) lower low =
          let l : Lower t = lower t refl in
          let at_zero = term_reach t l.below 1 d low 0 (omega arith) in
          (worth_ready t d l now (rw (before-zero d) at at_zero), tt)

      window_ready : (i : ℕ) (v : ℤ) (size : ℕ) → IsSeenFrom w (From v) d → pos 0 ≤ℤ part_reach (input_tree (trees g) (slice_get n.inputs i)) (reach w.days (input_tree (trees g) (slice_get n.inputs i))) size d
          → Each (Ready (suc k)) (window_facts g (From v) size a d (slice_get n.inputs i))
      window_ready i v size seen low = found (slice_get n.inputs i) refl low
        where
          found : (o : Option Input) → slice_get n.inputs i ≡ o → pos 0 ≤ℤ part_reach (input_tree (trees g) o) (reach w.days (input_tree (trees g) o)) size d → Each (Ready (suc k)) (window_facts g (From v) size a d o)
          found None e low = tt
          found (Some (BarColumn c)) e low =
              each_in_map (Ready (suc k)) _ (downward size) (each_downward _ size (λ j l. bar_ready c (before d (suc j)) v (before-less d j) seen (before-least d size j l low)))
          found (Some (TermInput t)) e low =
              let lower : Lower t = input_lower i t e in
              each_in_map (Ready (suc k)) _ (downward size) (each_downward _ size (λ j l.
              let reaches : pos 0 ≤ℤ reach w.days (term_at g t) (before d j) = term_reach t lower.below size d low j l in
              told_ready t (before d j) (From v) lower (session_before w (before d j) d now (late w.days (pos 0) (term_at g t) (before d j) reaches) (before-most d j))
              (seen-before w (From v) (before d j) d (before-most d j) seen) reaches))

    abbrev reached : Term → ℕ → ℤ → Type 0
    reached x size d = pos 0 ≤ℤ part_reach x (reach w.days x) size d

    -- the inputs are reached for session s, and the mask and the group for d
    record Reached (s d : ℤ) : Type 0 where
      first : reached (input_tree (trees g) (slice_get n.inputs 0)) n.window s
      second : reached (input_tree (trees g) (slice_get n.inputs 1)) n.window s
      third : reached (input_tree (trees g) (slice_get n.inputs 2)) n.window s
      mask : reached (number_tree (trees g) n.mask) 1 d
      group : reached (number_tree (trees g) n.group) 1 d

    abbrev inputs_at : ℤ → ℤ
    inputs_at d = reads_at w.days n.kind d

    node_reached : (d : ℤ) → pos 0 ≤ℤ reach w.days (tree_over (trees g) n) d → Reached (inputs_at d) d
    unfolding reach
    node_reached d h =
        let s : ℤ = reads_at w.days n.kind d in
        let x = input_tree (trees g) (slice_get n.inputs 0) in
        let y = input_tree (trees g) (slice_get n.inputs 1) in
        let z = input_tree (trees g) (slice_get n.inputs 2) in
        let m = number_tree (trees g) n.mask in
        let q = number_tree (trees g) n.group in
        let parts = (below_least (pos 0) d (part_reach x (reach w.days x) n.window s ∷ part_reach y (reach w.days y) n.window s ∷ part_reach z (reach w.days z) n.window s ∷ part_reach m (reach w.days m) 1 d ∷ part_reach q (reach w.days q) 1 d ∷ []) h).1 in
        record { first = parts.0; second = parts.1.0; third = parts.1.1.0; mask = parts.1.1.1.0; group = parts.1.1.1.1.0 }

    all_reached : (d : ℤ) → pos 0 ≤ℤ reach w.days (term_at g k) d → Reached (inputs_at d) d
    all_reached d h = node_reached d (rw (term_at-node g k n ok at) at h)

    inputs_ready : (view : View) (s d : ℤ) → IsSession w s → IsSeenFrom w view s → Reached s d → (a : ℕ) → has_sid w a ≡ true → Each (Ready (suc k)) (over_inputs (facts_now g view a s) n)
    inputs_ready view s d now seen far a sid =
        let some : 1 ≤ n.window = windows k n at in
        three_each (Ready (suc k)) (facts_now g view a s (slice_get n.inputs 0)) (facts_now g view a s (slice_get n.inputs 1)) (facts_now g view a s (slice_get n.inputs 2))
        (now_ready a s sid now 0 view n.window seen some far.first) (now_ready a s sid now 1 view n.window seen some far.second) (now_ready a s sid now 2 view n.window seen some far.third)

    module _ (d : ℤ) (now : IsSession w d) where
      windows_ready : (v : ℤ) → IsSeenFrom w (From v) d → Reached d d → (a : ℕ) → has_sid w a ≡ true → Each (Ready (suc k)) (over_inputs (window_facts g (From v) n.window a d) n)
      windows_ready v seen far a sid =
          let f = window_facts g (From v) n.window a d in
          three_each (Ready (suc k)) (f (slice_get n.inputs 0)) (f (slice_get n.inputs 1)) (f (slice_get n.inputs 2))
          (window_ready a d sid now 0 v n.window seen far.first) (window_ready a d sid now 1 v n.window seen far.second) (window_ready a d sid now 2 v n.window seen far.third)

      mask_ready : (s : ℤ) → Reached s d → (a : ℕ) → has_sid w a ≡ true → Each (Ready (suc k)) (number_facts a d n.mask)
      mask_ready s far a sid = number_ready a d sid now n.mask mask_lower far.mask

      entry_ready : Reached d d → (a : ℕ) → has_sid w a ≡ true → Each (Ready (suc k)) (entry_facts g n d a)
      entry_ready far a sid =
          three_each (Ready (suc k)) (number_facts a d n.mask) (number_facts a d n.group) (over_inputs (facts_now g Own a d) n)
          (mask_ready d far a sid) (number_ready a d sid now n.group group_lower far.group) (inputs_ready Own d d now tt far a sid)

      start_session : (f : Frequency) → IsSession w (period_start f w.days d)
      start_session f =
          let same : d ≡ pos now.0 = now.2 in
          session_before w (period_start f w.days d) d now (rw same (start-from f w.days now.0)) (start-within f w.days d)

      module _ (view : View) (seen : IsSeenFrom w view d) where
        kind_ready : (kind : Kind) → Reached (reads_at w.days kind d) d → (a : ℕ) → has_sid w a ≡ true → Each (Ready (suc k)) (kind_facts w g n kind view a d)
        kind_ready (Window f) far a sid = windows_ready (cond (keeps_window f) d (seen_from view d)) (window-seen w (keeps_window f) view d now seen) far a sid
        kind_ready (Point f) far a sid = inputs_ready (view_of (Point f) view d) d d now (point-seen w (keeps_point f) view d seen) far a sid
        kind_ready (LabelTest f) far a sid = inputs_ready Own d d now tt far a sid
        kind_ready (Cross f) far a sid =
            each_in_flat (Ready (suc k)) (entry_facts g n d) (living_sids w d) (each_more _ _ (living_sids w d) (λ b known. entry_ready far b known) (living_known w d))
        kind_ready (Downsample f) far a sid = inputs_ready Own (period_start f w.days d) d (start_session f) tt far a sid
        kind_ready kind far a sid = tt

        node_ready : Reached (inputs_at d) d → (r : Reading) (a : ℕ) → has_sid w a ≡ true → Each (Ready (suc k)) (node_facts w p r n view a d)
        node_ready far r a sid = there (exists w a d)
          where
            passing : (b : Bool) → Each (Ready (suc k)) (if b then kind_facts w g n n.kind view a d else [])
            passing true = kind_ready n.kind far a sid
            passing false = tt

            there : (b : Bool) → Each (Ready (suc k)) (if b then number_facts a d n.mask ++ (if passes (number_read w p r n.mask) a d then kind_facts w g n n.kind view a d else []) else [])
            there true = each_both (Ready (suc k)) (number_facts a d n.mask) _ (mask_ready (inputs_at d) far a sid) (passing (passes (number_read w p r n.mask) a d))
            there false = tt

  -- those of the value of a term that is used, for an asset that is known
  value_ready : (r : Reading) (t a : ℕ) (d : ℤ) (view : View) (depth : ℕ) → (has_sid w a ≡ true) × (is_used p t ≡ true) → IsSession w d → IsSeenFrom w view d
      → pos 0 ≤ℤ reach w.days (term_at g t) d → suc (suc t) ≤ suc depth → Each (Ready depth) (value_facts w p r t view a d)
  value_ready r t a d view depth fit now seen low l = found (slice_get g t) refl
    where
      found : (o : Option Node) → slice_get g t ≡ o → Each (Ready depth) (value_facts w p r t view a d)
      found None e = rw e tt
      found (Some n) e =
          let all : Each (Ready (suc t)) (node_facts w p r n view a d) = node_ready t n e fit.1 d now view seen (all_reached t n e fit.1 d low) r a fit.0 in
          let here : Each (Ready depth) (node_facts w p r n view a d) = each_more _ _ (node_facts w p r n view a d) (λ f i. (i.0, (let m : depth_of f ≤ suc t = i.1 in omega arith))) all in
          rw e here

  -- the premises of a fact are ready before it
  pub premises_ready : (r : Reading) (f : Fact) (depth : ℕ) → Fits f → depth_of f ≤ suc depth → Each (Ready depth) (premises w p r f)
  premises_ready r (Seen c a s d) depth h l = tt
  premises_ready r (TermValue t a d) depth h l = value_ready r t a d Own depth (and_parts (has_sid w a) (is_used p t) h.0) h.1 tt h.2 l
  premises_ready r (SeenValue t a s d) depth h l =
      let fit = and4 (has_sid w a) (is_used p t) (not (is_steady (term_at g t))) (int_lt s d) h.0 in
      let less : s <ℤ d = int_lt-lt s d fit.3 in
      value_ready r t a s (From d) depth (fit.0, fit.1) h.1 (h.2, omega (arith, ints)) h.3 l
